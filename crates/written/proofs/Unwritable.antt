-- The eight tests of specs/Unwritable.antt, and the structure of records: a record has a written form by both or by neither. Assumes
-- nothing.
use Prim.Native.Nat.{ℕ, zero, suc}
use mathlib.Core.Path.{◌≡◌, refl, ◌∙◌}
use mathlib.Core.Bool.{Bool, true, false, not, ◌&&◌, ◌||◌, and-true, or-false, and_assoc, and_comm, and_self, and_self_left, not-not}
use mathlib.Core.List.{List, [], ◌∷◌, map}
use native.Mathlib.Omega.{arith}
use native.Mathlib.Nat.{min-le_left}
use lib.ListN.{length, take, replicate, length-map, length-take}
use lib.Dec.{leb, eqb}
use lib.IntN.{ℤ}
use lib.Signed.{non_neg}
use borrow.Author.Tests.{le-leb, leb-true}
use Rattle.packer.specs.Parts.{shown}
use Rattle.packer.specs.Texts.{no_zero, is_data}
use Rattle.packer.specs.declared.Part.{Part}
use Rattle.fields.specs.Fields.{Field, int, dt, str, blob, args, Value, num, on_num, on_bytes, on_strings, mean}
use Rattle.fields.specs.Views.{ten_fields}
use Rattle.fields.specs.Writing.{all_hold, small_dt, inside, parts_inside}
use Rattle.fields.specs.steps.Sorts.{all_inside, all_no_zero}
use Rattle.fields.specs.Forms.{all_writable}
use Rattle.fields.specs.declared.Args.{Args}
use Rattle.shapes.specs.steps.Shapes.{id_part}
use Rattle.extensions.specs.Extensions.{extension_row, payload_at, find, is_unknown}
use Rattle.extensions.specs.declared.Extension.{Extension}
use Rattle.extensions.specs.declared.Extension.TheVariants as extensions
use Rattle.item.specs.Contents.{record_with}
use Rattle.kinds.specs.declared.Version.{Version}
use Rattle.item.specs.declared.Item.{Item}
use Rattle.item.specs.declared.Item.TheVariants as items
use Rattle.item.specs.declared.Record.{Record}
use Rattle.written.specs.Written.{payload_bytes, has_ex}
use Rattle.written.specs.Form.{content_writable, has_form}
use Rattle.written.specs.Unwritable.{field_number, some_of, record_values, record_writable}

-- a field is of this sort
abbrev is_field : Field → Field → Bool
is_field g f = eqb (field_number g) (field_number f)

-- ---- tests put together in another order

not_or : (a b : Bool) → not (a || b) ≡ (not a && not b)
not_or true b = refl
not_or false b = refl

and_swap : (a b c : Bool) → (a && (b && c)) ≡ (b && (a && c))
and_swap true b c = refl
and_swap false true c = refl
and_swap false false c = refl

ruleset sorted = (not_or, not-not, or-false, and-true, and_assoc, and_comm, and_swap, and_self, and_self_left)

one : (b : Bool) → not (not b || false || false || false || false || false || false || false) ≡ (b && true)
one b = simp sorted

message : (i d : Bool) → not (not d || false || false || false || false || not (i && true)) ≡ ((i && true) && (d && true))
message i d = simp sorted

drop : (i z : Bool) → not (not z || false || false || false || false || false || false || not (i && true)) ≡ ((i && true) && (z && true))
drop i z = simp sorted

-- few arguments make few strings
command_few : (i j z zs : Bool) → not (not z || false || (not zs || false) || false || false || false || false || not (i && (j && true)))
    ≡ ((i && (j && true)) && (z && (zs && true)))
command_few i j z zs = simp sorted

command_many : (a b c : Bool) → not (a || true || false || false || false || b) ≡ false
command_many true b c = refl
command_many false b c = refl

command : (n m i j z zs : Bool) → (n ≡ true → m ≡ true)
    → not (not z || false || (not zs || false) || not n || false || false || false || not (i && (j && true)))
    ≡ (n && ((i && (j && true)) && (z && ((m && zs) && true))))
command true m i j z zs h = rw (h refl) (command_few i j z zs)
command false m i j z zs h = command_many (not z || false || (not zs || false)) (not (i && (j && true))) false

-- extensions: version h, payload d
ints : (h d : Bool) → not (not d || not h || false || false) ≡ (h && d)
ints h d = simp sorted

text : (i h z d : Bool) → not (not z || false || false || false || not d || not h || false || not (i && true)) ≡ ((i && true) && (h && ((z && true) && d)))
text i h z d = simp sorted

id_text : (u i h z d : Bool) → not (not z || false || false || false || not d || not h || false || not (u && (i && true)))
    ≡ ((u && (i && true)) && (h && ((z && true) && d)))
id_text u i h z d = simp sorted

all_data_law : (i h d : Bool) → not (not d || false || not d || not h || false || not (i && true)) ≡ ((i && true) && (h && d))
all_data_law i h d = simp sorted

other : (u i h e d : Bool) → not (not d || false || false || not h || not e || not (u && (i && true))) ≡ ((u && (i && true)) && (h && (e && d)))
other u i h e d = simp sorted

-- ---- ten numbers

none_of : (g : Field) (test : Value (List ℕ) → Bool) → is_field g int ≡ false → (n : ℕ) (ms : List (Value (List ℕ)))
    → some_of g test (replicate n int) ms ≡ false
none_of g test never zero ms = refl
none_of g test never (suc n) [] = refl
none_of g test never (suc n) (m ∷ ms) = rw never (none_of g test never n ms)

pub all_of : (n : ℕ) (ms : List (Value (List ℕ))) → all_writable (replicate n int) ms ≡ true
all_of zero ms = refl
all_of (suc n) [] = refl
all_of (suc n) (m ∷ ms) = all_of n ms

pub ints_inside : (s : List ℕ) (zs : List ℤ) → parts_inside s (map num zs) ≡ true
ints_inside s [] = refl
ints_inside s (z ∷ zs) = ints_inside s zs

-- ---- arguments

pub few_args : (n : ℕ) {A : Type 0} {B : Type 0} (f : A → B) (xs : List A) → leb n 16 ≡ true → leb (length (map f (take n xs))) 16 ≡ true
few_args n f xs e =
    let l = length-map (take n xs) f ∙ length-take n xs in
    le-leb (length (map f (take n xs))) 16 (omega (arith, l, min-le_left n (length xs), leb-true n 16 e))

-- ---- every record

module _ (v : Version) (s : List ℕ) (ten : List ℤ) (xs : Args) where
  abbrev Same : Item → Type 0
  Same i = record_writable v s (record_with i ten xs) ≡ has_form v s (record_with i ten xs)

  abbrev load_is : Extension → Item → Bool
  load_is k i = is_data (payload_bytes (payload_at k) (record_values s (record_with i ten xs)))

  abbrev within : Part → Bool
  within p = inside s p

  abbrev clean : Part → Bool
  clean p = no_zero (shown s p)

  abbrev some : Field → (Value (List ℕ) → Bool) → Bool
  some g test = some_of g test ten_fields (map (mean s) (map num ten))

  abbrev large : Value (List ℕ) → Bool
  large = on_num false (λ z. not (small_dt z))

  abbrev zero_in : Value (List ℕ) → Bool
  zero_in = on_bytes false (λ b. not (no_zero b))

  abbrev zero_in_some : Value (List ℕ) → Bool
  zero_in_some = on_strings false (λ bs. not (all_hold no_zero bs))

  abbrev long : Value (List ℕ) → Bool
  long = on_bytes false (λ b. not (is_data b))

  input : (cid : ℤ)
      → (not (some dt large || (some str zero_in || some args zero_in_some) || false || (some blob long || false) || false || false || not (parts_inside s (map num ten))))
      ≡ (parts_inside s (map num ten) && all_writable ten_fields (map (mean s) (map num ten)))
  input cid =
      let ms = map (mean s) (map num ten) in
      rw (none_of dt large refl 10 ms, all_of 10 ms, ints_inside s ten)

  message_form : (cid : ℤ) (msg : Part) → Same (items.Message cid msg)
  unfolding record_writable has_form content_writable
  message_form cid msg = message (within msg) (is_data (shown s msg))

  drop_form : (cid : ℤ) (reason : Part) → Same (items.Drop cid reason)
  unfolding record_writable has_form content_writable
  drop_form cid reason = drop (within reason) (clean reason)

  auth_form : (cid level : ℤ) (identity : Part) → Same (items.AuthInit cid level identity)
  unfolding record_writable has_form content_writable extension_row payload_at
  auth_form cid level identity = text (within identity) (has_ex v) (clean identity) (load_is extensions.AuthInit (items.AuthInit cid level identity))

  form : (i : Item) → Same i
  unfolding record_writable has_form content_writable extension_row payload_at
  form (items.PlayerDiff cid dx dy) = one (non_neg cid)
  form items.Finish = refl
  form (items.TickSkip ticks) = one (leb ticks 2147483647)
  form (items.PlayerNew cid x y) = refl
  form (items.PlayerOld cid) = refl
  form (items.InputDiff cid) = input cid
  form (items.InputNew cid) = input cid
  form (items.Message cid msg) = message_form cid msg
  form (items.Join cid) = refl
  form (items.Drop cid reason) = drop_form cid reason
  form (items.ConsoleCommand cid flags cmd) =
      let ps = take xs.count xs.parts in
      command (leb xs.count 16) (leb (length (map (shown s) ps)) 16) (within cmd) (all_inside s ps) (clean cmd) (all_no_zero (map (shown s) ps))
      (few_args xs.count (shown s) xs.parts)
  form (items.Antibot load) = all_data_law (within load) (has_ex v) (is_data (shown s load))
  form (items.AuthInit cid level identity) = auth_form cid level identity
  form (items.AuthLogin cid level identity) = text (within identity) (has_ex v) (clean identity) (load_is extensions.AuthLogin (items.AuthLogin cid level identity))
  form (items.AuthLogout cid) = ints (has_ex v) (load_is extensions.AuthLogout (items.AuthLogout cid))
  form (items.Ddnetver cid id version name) =
      id_text (within (id_part id)) (within name) (has_ex v) (clean name) (load_is extensions.Ddnetver (items.Ddnetver cid id version name))
  form (items.DdnetverOld cid version) = ints (has_ex v) (load_is extensions.DdnetverOld (items.DdnetverOld cid version))
  form (items.Joinver6 cid) = ints (has_ex v) (load_is extensions.Joinver6 (items.Joinver6 cid))
  form (items.Joinver7 cid) = ints (has_ex v) (load_is extensions.Joinver7 (items.Joinver7 cid))
  form (items.PlayerFinish cid time) = ints (has_ex v) (load_is extensions.PlayerFinish (items.PlayerFinish cid time))
  form (items.PlayerName cid name) = text (within name) (has_ex v) (clean name) (load_is extensions.PlayerName (items.PlayerName cid name))
  form (items.PlayerReady cid) = ints (has_ex v) (load_is extensions.PlayerReady (items.PlayerReady cid))
  form (items.PlayerRejoin cid) = ints (has_ex v) (load_is extensions.PlayerRejoin (items.PlayerRejoin cid))
  form (items.PlayerSwap cid1 cid2) = ints (has_ex v) (load_is extensions.PlayerSwap (items.PlayerSwap cid1 cid2))
  form (items.PlayerTeam cid team) = ints (has_ex v) (load_is extensions.PlayerTeam (items.PlayerTeam cid team))
  form (items.TeamFinish team time) = ints (has_ex v) (load_is extensions.TeamFinish (items.TeamFinish team time))
  form (items.TeamLoadFailure team) = ints (has_ex v) (load_is extensions.TeamLoadFailure (items.TeamLoadFailure team))
  form (items.TeamLoadSuccess team id save) =
      id_text (within (id_part id)) (within save) (has_ex v) (clean save) (load_is extensions.TeamLoadSuccess (items.TeamLoadSuccess team id save))
  form (items.TeamPractice team practice) = ints (has_ex v) (load_is extensions.TeamPractice (items.TeamPractice team practice))
  form (items.TeamSaveFailure team) = ints (has_ex v) (load_is extensions.TeamSaveFailure (items.TeamSaveFailure team))
  form (items.TeamSaveSuccess team id save) =
      id_text (within (id_part id)) (within save) (has_ex v) (clean save) (load_is extensions.TeamSaveSuccess (items.TeamSaveSuccess team id save))
  form (items.UnknownEx id load) =
      other (within (id_part id)) (within load) (has_ex v) (is_unknown (find (shown s (id_part id)))) (is_data (shown s load))

pub writable_is_form : (v : Version) (s : List ℕ) (r : Record) → record_writable v s r ≡ has_form v s r
writable_is_form v s r = form v s r.input r.args r.item
