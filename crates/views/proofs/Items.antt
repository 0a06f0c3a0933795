-- A record is known by its content, whatever stands beside it. Assumes nothing.
use Prim.Native.Nat.{ℕ}
use mathlib.Core.Path.{◌≡◌, refl, sym, ◌∙◌, ap}
use mathlib.Core.List.{List, [], ◌∷◌, ◌++◌}
use lib.ListN.{get_or}
use lib.IntN.{ℤ, pos, negsuc}
use Rattle.packer.specs.declared.Part.{Part}
use Rattle.fields.specs.Fields.{Value, num, bytes, strings}
use Rattle.fields.specs.Views.{numbers}
use Rattle.fields.specs.steps.Sorts.{no_part}
use Rattle.fields.specs.declared.Args.{Args}
use Rattle.extensions.specs.declared.Extension.{Extension}
use Rattle.extensions.specs.declared.Extension.TheVariants as extensions
use Rattle.item.specs.Records.{Content}
use Rattle.item.specs.Contents.{item_of, with_beside, no_args}
use Rattle.kinds.specs.declared.Kind.{Kind}
use Rattle.kinds.specs.declared.Kind.TheVariants as kinds
use Rattle.item.specs.declared.Tag.{Tag}
use Rattle.item.specs.declared.Tag.TheVariants.{Plain, Named, Other}
use Rattle.item.specs.declared.Item.{Item}
use Rattle.item.specs.declared.Item.TheVariants as items
use Rattle.views.specs.Shown.{ItemsShown}

-- ---- the record of a content, by its tag, numbers and parts

abbrev part_in : Value Part → List Part
part_in (num z) = []
part_in (bytes p) = p ∷ []
part_in (strings ps) = []

abbrev parts : List (Value Part) → List Part
parts [] = []
parts (v ∷ vs) = part_in v ++ parts vs

abbrev natural : ℤ → ℕ
natural (pos n) = n
natural (negsuc n) = 0

module _ (zs : List ℤ) (ps : List Part) where
  abbrev a : ℤ
  a = get_or zs 0 (pos 0)

  abbrev b : ℤ
  b = get_or zs 1 (pos 0)

  abbrev p : Part
  p = get_or ps 0 no_part

  abbrev q : Part
  q = get_or ps 1 no_part

  abbrev of_kind : Kind → Item
  of_kind (kinds.PlayerDiff c) = items.PlayerDiff c a b
  of_kind kinds.Finish = items.Finish
  of_kind kinds.TickSkip = items.TickSkip (natural a)
  of_kind (kinds.PlayerNew c) = items.PlayerNew c a b
  of_kind (kinds.PlayerOld c) = items.PlayerOld c
  of_kind kinds.InputDiff = items.InputDiff a
  of_kind kinds.InputNew = items.InputNew a
  of_kind kinds.Message = items.Message a p
  of_kind kinds.Join = items.Join a
  of_kind kinds.Drop = items.Drop a p
  of_kind kinds.ConsoleCommand = items.ConsoleCommand a (natural b) p
  of_kind kinds.Ex = items.Finish

  abbrev of_extension : Extension → Item
  of_extension extensions.Antibot = items.Antibot p
  of_extension extensions.AuthInit = items.AuthInit a b p
  of_extension extensions.AuthLogin = items.AuthLogin a b p
  of_extension extensions.AuthLogout = items.AuthLogout a
  of_extension extensions.Ddnetver = items.Ddnetver a p.at b q
  of_extension extensions.DdnetverOld = items.DdnetverOld a b
  of_extension extensions.Joinver6 = items.Joinver6 a
  of_extension extensions.Joinver7 = items.Joinver7 a
  of_extension extensions.PlayerFinish = items.PlayerFinish a b
  of_extension extensions.PlayerName = items.PlayerName a p
  of_extension extensions.PlayerReady = items.PlayerReady a
  of_extension extensions.PlayerRejoin = items.PlayerRejoin a
  of_extension extensions.PlayerSwap = items.PlayerSwap a b
  of_extension extensions.PlayerTeam = items.PlayerTeam a b
  of_extension extensions.TeamFinish = items.TeamFinish a b
  of_extension extensions.TeamLoadFailure = items.TeamLoadFailure a
  of_extension extensions.TeamLoadSuccess = items.TeamLoadSuccess a p.at q
  of_extension extensions.TeamPractice = items.TeamPractice a b
  of_extension extensions.TeamSaveFailure = items.TeamSaveFailure a
  of_extension extensions.TeamSaveSuccess = items.TeamSaveSuccess a p.at q

  abbrev of_tag : Tag → Item
  of_tag (Plain k) = of_kind k
  of_tag (Named e) = of_extension e
  of_tag Other = items.UnknownEx p.at q

abbrev pub item_by : Content Part → Item
item_by c = of_tag (numbers c.values) (parts c.values) c.tag

pub by_content : (i : Item) (ten : List ℤ) (xs : Args) → item_by (with_beside (item_of i) ten xs) ≡ i
unfolding numbers
by_content (items.PlayerDiff cid dx dy) ten xs = refl
by_content items.Finish ten xs = refl
by_content (items.TickSkip ticks) ten xs = refl
by_content (items.PlayerNew cid x y) ten xs = refl
by_content (items.PlayerOld cid) ten xs = refl
by_content (items.InputDiff cid) ten xs = refl
by_content (items.InputNew cid) ten xs = refl
by_content (items.Message cid msg) ten xs = refl
by_content (items.Join cid) ten xs = refl
by_content (items.Drop cid reason) ten xs = refl
by_content (items.ConsoleCommand cid flag-mask cmd) ten xs = refl
by_content (items.Antibot load) ten xs = refl
by_content (items.AuthInit cid level identity) ten xs = refl
by_content (items.AuthLogin cid level identity) ten xs = refl
by_content (items.AuthLogout cid) ten xs = refl
by_content (items.Ddnetver cid connection-id ddnet-version ddnet-version-str) ten xs = refl
by_content (items.DdnetverOld cid ddnet-version) ten xs = refl
by_content (items.Joinver6 cid) ten xs = refl
by_content (items.Joinver7 cid) ten xs = refl
by_content (items.PlayerFinish cid time-ticks) ten xs = refl
by_content (items.PlayerName cid name) ten xs = refl
by_content (items.PlayerReady cid) ten xs = refl
by_content (items.PlayerRejoin cid) ten xs = refl
by_content (items.PlayerSwap cid1 cid2) ten xs = refl
by_content (items.PlayerTeam cid team) ten xs = refl
by_content (items.TeamFinish team time-ticks) ten xs = refl
by_content (items.TeamLoadFailure team) ten xs = refl
by_content (items.TeamLoadSuccess team save-uuid save) ten xs = refl
by_content (items.TeamPractice team practice) ten xs = refl
by_content (items.TeamSaveFailure team) ten xs = refl
by_content (items.TeamSaveSuccess team save-uuid save) ten xs = refl
by_content (items.UnknownEx id load) ten xs = refl

-- with what stands beside them
pub same_item : (i j : Item) (ten ten' : List ℤ) (xs ys : Args) → with_beside (item_of i) ten xs ≡ with_beside (item_of j) ten' ys → i ≡ j
same_item i j ten ten' xs ys e = sym (by_content i ten xs) ∙ ap item_by e ∙ by_content j ten' ys

pub items_shown : ItemsShown
items_shown i j e = same_item i j [] [] no_args no_args (ap (λ (c : Content Part). with_beside c [] no_args) e)
