-- How many values stand in a record: as many as its tag has fields there. Assumes nothing.
use mathlib.Core.Path.{◌≡◌, refl}
use lib.ListN.{length}
use Rattle.extensions.specs.Extensions.{extension_row, payload_at}
use Rattle.item.specs.Contents.{item_of}
use Rattle.item.specs.Own.{own_fields}
use Rattle.item.specs.declared.Item.{Item}
use Rattle.item.specs.declared.Item.TheVariants as records

pub lengths : (i : Item) → length (item_of i).values ≡ length (own_fields (item_of i).tag)
unfolding extension_row payload_at
lengths (records.PlayerDiff cid dx dy) = refl
lengths records.Finish = refl
lengths (records.TickSkip ticks) = refl
lengths (records.PlayerNew cid x y) = refl
lengths (records.PlayerOld cid) = refl
lengths (records.InputDiff cid) = refl
lengths (records.InputNew cid) = refl
lengths (records.Message cid msg) = refl
lengths (records.Join cid) = refl
lengths (records.Drop cid reason) = refl
lengths (records.ConsoleCommand cid mask cmd) = refl
lengths (records.Antibot load) = refl
lengths (records.AuthInit cid level identity) = refl
lengths (records.AuthLogin cid level identity) = refl
lengths (records.AuthLogout cid) = refl
lengths (records.Ddnetver cid id version text) = refl
lengths (records.DdnetverOld cid version) = refl
lengths (records.Joinver6 cid) = refl
lengths (records.Joinver7 cid) = refl
lengths (records.PlayerFinish cid ticks) = refl
lengths (records.PlayerName cid name) = refl
lengths (records.PlayerReady cid) = refl
lengths (records.PlayerRejoin cid) = refl
lengths (records.PlayerSwap cid1 cid2) = refl
lengths (records.PlayerTeam cid team) = refl
lengths (records.TeamFinish team ticks) = refl
lengths (records.TeamLoadFailure team) = refl
lengths (records.TeamLoadSuccess team id save) = refl
lengths (records.TeamPractice team practice) = refl
lengths (records.TeamSaveFailure team) = refl
lengths (records.TeamSaveSuccess team id save) = refl
lengths (records.UnknownEx id load) = refl
