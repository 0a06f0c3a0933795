-- The records that the code hands out: for each, which it is and the values that stand in it. docs/FORMAT.md, "Records" and rule 5.
use Rattle.std.specs.Prelude.{cond, List, [], ◌∷◌, ◌++◌, map, get_or, take, ℤ, pos, Option, Some, None}
use Rattle.packer.specs.declared.Part.{Part}
use Rattle.fields.specs.Fields.{Field, blob, Value, num, bytes, strings, on_num}
use Rattle.fields.specs.Views.{zeros, args_with}
use Rattle.fields.specs.declared.Args.{Args}
use Rattle.shapes.specs.steps.Shapes.{id_part}
use Rattle.kinds.specs.Kinds.{Beside, of_extension, by_beside, kind_row, kind_cid}
use Rattle.extensions.specs.Extensions.{Payload, shaped, all_data, has_client}
use Rattle.extensions.specs.declared.Extension.{Extension}
use Rattle.extensions.specs.declared.Extension.TheVariants as extensions
use Rattle.item.specs.Records.{Content, content}
use Rattle.kinds.specs.declared.Kind.{Kind}
use Rattle.kinds.specs.declared.Kind.TheVariants as kinds
use Rattle.item.specs.declared.Tag.{Tag}
use Rattle.item.specs.declared.Tag.TheVariants.{Plain, Named, Other}
use Rattle.item.specs.declared.Item.{Item}
use Rattle.item.specs.declared.Item.TheVariants as items
use Rattle.item.specs.declared.Record.{Record}

-- ten numbers and arguments stand beside the enum; the client of PlayerDiff, PlayerNew and PlayerOld belongs to the kind
abbrev pub item_of : Item → Content Part
item_of (items.PlayerDiff cid dx dy) = content (Plain (kinds.PlayerDiff cid)) (num dx ∷ num dy ∷ [])
item_of items.Finish = content (Plain kinds.Finish) []
item_of (items.TickSkip ticks) = content (Plain kinds.TickSkip) (num (pos ticks) ∷ [])
item_of (items.PlayerNew cid x y) = content (Plain (kinds.PlayerNew cid)) (num x ∷ num y ∷ [])
item_of (items.PlayerOld cid) = content (Plain (kinds.PlayerOld cid)) []
item_of (items.InputDiff cid) = content (Plain kinds.InputDiff) (num cid ∷ [])
item_of (items.InputNew cid) = content (Plain kinds.InputNew) (num cid ∷ [])
item_of (items.Message cid msg) = content (Plain kinds.Message) (num cid ∷ bytes msg ∷ [])
item_of (items.Join cid) = content (Plain kinds.Join) (num cid ∷ [])
item_of (items.Drop cid reason) = content (Plain kinds.Drop) (num cid ∷ bytes reason ∷ [])
item_of (items.ConsoleCommand cid flag-mask cmd) = content (Plain kinds.ConsoleCommand) (num cid ∷ num (pos flag-mask) ∷ bytes cmd ∷ [])
item_of (items.Antibot load) = content (Named extensions.Antibot) (bytes load ∷ [])
item_of (items.AuthInit cid level identity) = content (Named extensions.AuthInit) (num cid ∷ num level ∷ bytes identity ∷ [])
item_of (items.AuthLogin cid level identity) = content (Named extensions.AuthLogin) (num cid ∷ num level ∷ bytes identity ∷ [])
item_of (items.AuthLogout cid) = content (Named extensions.AuthLogout) (num cid ∷ [])
item_of (items.Ddnetver cid connection-id ddnet-version ddnet-version-str) = content (Named extensions.Ddnetver) (num cid ∷ bytes (id_part connection-id) ∷ num ddnet-version ∷ bytes ddnet-version-str ∷ [])
item_of (items.DdnetverOld cid ddnet-version) = content (Named extensions.DdnetverOld) (num cid ∷ num ddnet-version ∷ [])
item_of (items.Joinver6 cid) = content (Named extensions.Joinver6) (num cid ∷ [])
item_of (items.Joinver7 cid) = content (Named extensions.Joinver7) (num cid ∷ [])
item_of (items.PlayerFinish cid time-ticks) = content (Named extensions.PlayerFinish) (num cid ∷ num time-ticks ∷ [])
item_of (items.PlayerName cid name) = content (Named extensions.PlayerName) (num cid ∷ bytes name ∷ [])
item_of (items.PlayerReady cid) = content (Named extensions.PlayerReady) (num cid ∷ [])
item_of (items.PlayerRejoin cid) = content (Named extensions.PlayerRejoin) (num cid ∷ [])
item_of (items.PlayerSwap cid1 cid2) = content (Named extensions.PlayerSwap) (num cid1 ∷ num cid2 ∷ [])
item_of (items.PlayerTeam cid team) = content (Named extensions.PlayerTeam) (num cid ∷ num team ∷ [])
item_of (items.TeamFinish team time-ticks) = content (Named extensions.TeamFinish) (num team ∷ num time-ticks ∷ [])
item_of (items.TeamLoadFailure team) = content (Named extensions.TeamLoadFailure) (num team ∷ [])
item_of (items.TeamLoadSuccess team save-uuid save) = content (Named extensions.TeamLoadSuccess) (num team ∷ bytes (id_part save-uuid) ∷ bytes save ∷ [])
item_of (items.TeamPractice team practice) = content (Named extensions.TeamPractice) (num team ∷ num practice ∷ [])
item_of (items.TeamSaveFailure team) = content (Named extensions.TeamSaveFailure) (num team ∷ [])
item_of (items.TeamSaveSuccess team save-uuid save) = content (Named extensions.TeamSaveSuccess) (num team ∷ bytes (id_part save-uuid) ∷ bytes save ∷ [])
item_of (items.UnknownEx id load) = content Other (bytes (id_part id) ∷ bytes load ∷ [])

-- an answer for a record of a kind, for one of the 20 extensions, for another extension
abbrev pub by_tag {ℓ} : {A : Type ℓ} → (Kind → A) → (Extension → A) → A → Tag → A
by_tag f g x (Plain k) = f k
by_tag f g x (Named e) = g e
by_tag f g x Other = x

-- ---- the client of a record, or none

abbrev pub tag_cid : Tag → ℤ → Option ℤ
tag_cid t z = by_tag (λ k. kind_cid k z) (λ e. cond (has_client e) (Some z) None) None t

-- by its first number; the largest client rises to it (rule 5)
abbrev pub cid_of : Content Part → Option ℤ
cid_of c = tag_cid c.tag (on_num (pos 0) (λ z. z) (get_or c.values 0 (num (pos 0))))

-- the fields of an extension
abbrev pub own_payload : Payload → List Field
own_payload (shaped fs) = fs
own_payload all_data = blob ∷ []

-- ---- with what stands beside the enum

abbrev pub beside_of : Tag → Beside
beside_of t = by_tag (λ k. (kind_row k).beside) (λ e. of_extension) of_extension t

-- of arguments, the parts that the count says
abbrev pub parts_of : Args → List Part
parts_of xs = take xs.count xs.parts

abbrev pub with_beside : Content Part → List ℤ → Args → Content Part
with_beside c zs xs = content c.tag (c.values ++ by_beside [] (map num zs) (strings (parts_of xs) ∷ []) [] (beside_of c.tag))

-- a whole record
abbrev pub record_of : Record → Content Part
record_of r = with_beside (item_of r.item) r.input r.args

-- what stands beside a record that lacks it: zeros, no arguments
abbrev pub no_args : Args
no_args = args_with []

abbrev pub record_with : Item → List ℤ → Args → Record
record_with i zs xs = record { item = i; input = zs; args = xs }

abbrev pub blank : Record
blank = record_with items.Finish (zeros 10) no_args

-- of what stands beside a record, that which belongs to it
abbrev pub input_in : Tag → List ℤ → List ℤ
input_in t zs = by_beside (zeros 10) zs (zeros 10) (zeros 10) (beside_of t)

abbrev pub args_in : Tag → Args → Args
args_in t xs = by_beside no_args no_args (args_with (parts_of xs)) no_args (beside_of t)

abbrev pub tidy_record : Record → Record
tidy_record r = record_with r.item (input_in (item_of r.item).tag r.input) (args_in (item_of r.item).tag r.args)
