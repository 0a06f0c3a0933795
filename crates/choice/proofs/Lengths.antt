-- How many bytes the chosen records are at most; and that a record is at least one byte. Assumes nothing.
use Rattle.std.specs.Prelude.{Option, Some, None}
use Prim.Native.Nat.{ℕ, zero, suc, ◌+◌, ◌*◌, ◌/◌, ◌≤◌, ◌<◌}
use mathlib.Core.Path.{◌≡◌, refl, sym, ap, ◌∙◌}
use mathlib.Core.Bool.{Bool, true, false, not, cond, ◌&&◌}
use mathlib.Core.List.{List, [], ◌∷◌, ◌++◌, map, append_assoc}
use native.Mathlib.Omega.{arith}
use lib.ListN.{length, length-append}
use lib.Dec.{ltb, eqb, lit≤}
use lib.IntN.{ℤ, pos, negsuc}
use borrow.Author.Tests.{lt-ltb}
use mir.Syntax.{w32}
use mir.Val.{to_z, of_z}
use Rattle.varint.specs.Written.{later_byte, later_bytes, canonical}
use Rattle.varint.proofs.Writing.{canonical_le, later_none}
use Rattle.packer.specs.Texts.{data_bytes}
use Rattle.fields.specs.Fields.{Field, int, dt, mask, str, uuid, blob, args, num}
use Rattle.fields.specs.Writing.{strings_bytes, write_field, write_fields}
use Rattle.kinds.specs.declared.Kind.{Kind}
use Rattle.kinds.specs.declared.Kind.TheVariants as kinds
use Rattle.extensions.specs.Extensions.{id_at, payload_at, extension_row}
use Rattle.extensions.specs.declared.Extension.TheVariants.{PlayerTeam}
use Rattle.item.specs.declared.Tag.{Tag}
use Rattle.item.specs.declared.Tag.TheVariants.{Plain, Named, Other}
use Rattle.item.specs.Records.{content, rest_of}
use Rattle.written.specs.Written.{kind_bytes, all_fields, payload_bytes, ex_bytes, write_content}
use Rattle.state.specs.declared.Entries.{Entries}
use Rattle.state.specs.declared.Scalars.{Scalars}
use Rattle.state.proofs.Ten.{ten_length}
use Rattle.teams.specs.Teams.{team_of}
use Rattle.choice.specs.Chosen.{
  player_of,
  held_of,
  same_player,
  same_held,
  Rec,
  of_numbers,
  joined,
  player_between,
  player_step,
  player_for,
  input_step,
  input_for,
  changes,
  same_team,
  team_record,
  team_step,
  team_for,
  all_changes,
  skip_to,
  started_by,
  start_if,
  is_some,
  chosen,
  bytes_of,
}
use Rattle.choice.specs.declared.Player.{Player}
use Rattle.choice.specs.declared.Held.{Held}

-- ---- lists of records

pub bytes_append : (xs ys : List Rec) → bytes_of (xs ++ ys) ≡ bytes_of xs ++ bytes_of ys
unfolding bytes_of
bytes_append [] ys = refl
bytes_append (x ∷ xs) ys = rw (bytes_append xs ys) (sym (append_assoc (write_content x) (bytes_of xs) (bytes_of ys)))

pub bytes_append_le : (xs ys : List Rec) (m n : ℕ) → length (bytes_of xs) ≤ m → length (bytes_of ys) ≤ n → length (bytes_of (xs ++ ys)) ≤ m + n
bytes_append_le xs ys m n h k = rw (bytes_append xs ys, length-append) (omega arith)

pub joined_le : (n : ℕ) (f : ℕ → List Rec) (k : ℕ) → ((i : ℕ) → i < n → length (bytes_of (f i)) ≤ k) → length (bytes_of (joined n f)) ≤ n * k
unfolding joined bytes_of
joined_le zero f k h = omega arith
joined_le (suc n) f k h =
    let l = bytes_append_le (joined n f) (f n) (n * k) k (joined_le n f k (λ i g. h i (omega arith))) (h n (omega arith)) in
    omega arith

one_le : (c : Rec) (k : ℕ) → length (write_content c) ≤ k → length (bytes_of (c ∷ [])) ≤ k
unfolding bytes_of
one_le c k h = rw length-append (omega arith)

none_le : (k : ℕ) → length (bytes_of []) ≤ k
unfolding bytes_of
none_le k = omega arith

one_of_le : (t : Bool) (xs ys : List Rec) (k : ℕ) → length (bytes_of xs) ≤ k → length (bytes_of ys) ≤ k → length (bytes_of (cond t xs ys)) ≤ k
one_of_le true xs ys k h g = h
one_of_le false xs ys k h g = g

-- ---- a record is at least one byte

starts : (t : Tag) (c : Rec) → c.tag ≡ t → 0 < length (write_content c)
unfolding write_content canonical
starts (Plain k) c e = rw e (omega arith)
starts (Named k) c e = rw e (omega arith)
starts Other c e = rw e (omega arith)

pub record_starts : (c : Rec) → 0 < length (write_content c)
record_starts c = starts c.tag c refl

pub some_bytes : (cs : List Rec) → is_some cs ≡ ltb 0 (length (bytes_of cs))
unfolding bytes_of
some_bytes [] = refl
some_bytes (c ∷ cs) =
    rw (length-append (write_content c) (bytes_of cs))
    (sym (lt-ltb 0 (length (write_content c) + length (bytes_of cs)) (omega (arith, record_starts c))))

-- ---- numbers

cond_le : (t : Bool) (b : ℕ) (l : List ℕ) → l ≡ [] → length (cond t [] (b ∷ l)) ≤ 1
cond_le true b l e = omega arith
cond_le false b l e = rw e (omega arith)

later_one : (rest : ℕ) → rest < 128 → length (later_bytes 4 rest) ≤ 1
unfolding later_bytes
later_one rest h =
    let e : rest / 128 ≡ 0 = omega arith in
    cond_le (eqb rest 0) (later_byte rest) (later_bytes 3 (rest / 128)) (ap (later_bytes 3) e ∙ later_none 3)

client_le : (c : ℕ) → c < 128 → length (canonical (pos c)) ≤ 2
unfolding canonical
client_le c h = omega (arith, later_one (c / 64) (omega arith))

number_le : (f : Field) (z : ℤ) → length (write_field f (num z)) ≤ 5
number_le int z = canonical_le z
number_le dt z = canonical_le z
number_le mask z = canonical_le (to_z w32 (of_z w32 z))
number_le str z = omega arith
number_le uuid z = omega arith
number_le blob z = omega arith
number_le args z = omega arith

numbers_le : (fs : List Field) (zs : List ℤ) → length (write_fields fs (map num zs)) ≤ 5 * length zs
numbers_le [] zs = omega arith
numbers_le (f ∷ fs) [] = omega arith
numbers_le (f ∷ fs) (z ∷ zs) =
    rw (length-append (write_field f (num z)) (write_fields fs (map num zs))) (omega (arith, number_le f z, numbers_le fs zs))

-- ---- a player record, an input, a skip, the command

-- the kind's number is one byte where it isn't the client
numbers_length : (k : Kind) (zs : List ℤ) (n : ℕ) → length (kind_bytes k) ≤ n → length (bytes_of (of_numbers k zs ∷ [])) ≤ n + 5 * length zs
unfolding write_content
numbers_length k zs n h =
    one_le (of_numbers k zs) (n + 5 * length zs)
    (rw (length-append (kind_bytes k) (write_fields (all_fields (rest_of k)) (map num zs))) (omega (arith, numbers_le (all_fields (rest_of k)) zs)))

one_number_le : (k : Kind) (z : ℤ) (n : ℕ) → length (kind_bytes k) ≤ n → length (bytes_of (of_numbers k (z ∷ []) ∷ [])) ≤ n + 5
one_number_le k z n h = omega (arith, numbers_length k (z ∷ []) n h)

two_numbers_le : (k : Kind) (x y : ℤ) (n : ℕ) → length (kind_bytes k) ≤ n → length (bytes_of (of_numbers k (x ∷ y ∷ []) ∷ [])) ≤ n + 10
two_numbers_le k x y n h = omega (arith, numbers_length k (x ∷ y ∷ []) n h)

input_kind_law : length (kind_bytes kinds.InputNew) ≤ 5
unfolding canonical later_bytes
input_kind_law = lit≤ tt

skip_kind : length (kind_bytes kinds.TickSkip) ≤ 5
unfolding canonical later_bytes
skip_kind = lit≤ tt

module _ (c n : ℕ) (h : length (canonical (pos c)) ≤ n) where
  diff_kind : length (kind_bytes (kinds.PlayerDiff (pos c))) ≤ 1 + n
  diff_kind = rw length-append (omega arith)

  new_kind : length (kind_bytes (kinds.PlayerNew (pos c))) ≤ 1 + n
  unfolding canonical later_bytes
  new_kind =
      let one : length (canonical (negsuc 2)) ≡ 1 = refl in
      rw (length-append (canonical (negsuc 2)) (canonical (pos c))) (omega arith)

  old_kind : length (kind_bytes (kinds.PlayerOld (pos c))) ≤ 1 + n
  unfolding canonical later_bytes
  old_kind =
      let one : length (canonical (negsuc 3)) ≡ 1 = refl in
      rw (length-append (canonical (negsuc 3)) (canonical (pos c))) (omega arith)

  eleven : {m : ℕ} → m ≤ 1 + n + 10 → m ≤ 11 + n
  eleven l = omega arith

  between_le : (a b : Bool) (p q : Player) → length (bytes_of (player_between a b c p q)) ≤ 11 + n
  between_le true true p q = eleven (two_numbers_le (kinds.PlayerDiff (pos c)) _ _ (1 + n) diff_kind)
  between_le true false p q = omega (arith, numbers_length (kinds.PlayerOld (pos c)) [] (1 + n) old_kind)
  between_le false true p q = eleven (two_numbers_le (kinds.PlayerNew (pos c)) _ _ (1 + n) new_kind)
  between_le false false p q = none_le (11 + n)

  step_le : (p q : Player) → length (bytes_of (player_step c p q)) ≤ 11 + n
  unfolding player_step
  step_le p q =
      one_of_le (same_player p q) [] (player_between (eqb p.mark 1) (eqb q.mark 1) c p q) (11 + n) (none_le (11 + n))
      (between_le (eqb p.mark 1) (eqb q.mark 1) p q)

-- of the clients that have entries
pub player_le : (c : ℕ) (p q : Player) → c < 128 → length (bytes_of (player_step c p q)) ≤ 15
player_le c p q h = omega (arith, step_le c 2 (client_le c h) p q)

-- of every client
pub any_player_le : (c : ℕ) (p q : Player) → length (bytes_of (player_step c p q)) ≤ 16
any_player_le c p q = step_le c 5 (canonical_le (pos c)) p q

pub input_le : (c : ℕ) (p q : Held) → length (bytes_of (input_step c p q)) ≤ 5 * (length q.ten + 2)
unfolding input_step
input_le c p q =
    let k = 5 * (length q.ten + 2) in
    one_of_le (eqb q.mark 1 && not (same_held p q)) (of_numbers kinds.InputNew (pos c ∷ q.ten) ∷ []) [] k
    (omega (arith, numbers_length kinds.InputNew (pos c ∷ q.ten) 5 input_kind_law))
    (none_le k)

pub input_for_le : (e w : Entries) (c : ℕ) → length (bytes_of (input_for e w c)) ≤ 60
input_for_le e w c = omega (arith, input_le c (held_of e c) (held_of w c), ten_length w.inputs c)

pub skip_le : (t u : ℤ) → length (bytes_of (skip_to t u)) ≤ 10
unfolding skip_to
skip_le (pos t) (pos u) =
    one_of_le (ltb t u) _ _ 10 (one_number_le kinds.TickSkip _ 5 skip_kind) (none_le 10)
skip_le (pos t) (negsuc u) = none_le 10
skip_le (negsuc t) u = none_le 10

pub start_le : (started changed : Bool) → length (bytes_of (start_if started changed)) ≤ 25
unfolding bytes_of write_content canonical later_bytes strings_bytes
start_le true changed = none_le 25
start_le false true = none_le 25
start_le false false = lit≤ tt

-- ---- a team: -11, the identifier's 16 bytes, the number of bytes of data, client and team

small_le : (n : ℕ) → n < 64 → length (canonical (pos n)) ≤ 1
unfolding canonical
small_le n h = let e : n / 64 ≡ 0 = omega arith in rw (e, later_none 4) (omega arith)

data_le : (load : List ℕ) → length load < 64 → length (data_bytes load) ≤ 1 + length load
data_le load h = rw length-append (omega (arith, small_le (length load) h))

team_kind : length (canonical (negsuc 10)) ≤ 1
unfolding canonical later_bytes
team_kind = lit≤ tt

team_id : length (id_at PlayerTeam) ≤ 16
unfolding id_at extension_row
team_id = lit≤ tt

load_le : (c : ℕ) (n : ℤ) → c < 128 → length (payload_bytes (payload_at PlayerTeam) (num (pos c) ∷ num n ∷ [])) ≤ 7
unfolding payload_at extension_row
load_le c n h = rw (length-append, length-append) (omega (arith, client_le c h, canonical_le n))

ex_le : (id load : List ℕ) → length id ≤ 16 → length load ≤ 7 → length (ex_bytes id load) ≤ 25
ex_le id load h k =
    rw (length-append (canonical (negsuc 10)) (id ++ data_bytes load), length-append id (data_bytes load))
    (omega (arith, team_kind, data_le load (omega arith)))

team_record_le : (c : ℕ) (m : Option ℤ) → c < 128 → length (bytes_of (team_record c m)) ≤ 25
unfolding write_content
team_record_le c (Some n) h =
    let vs = num (pos c) ∷ num n ∷ [] in
    one_le (content (Named PlayerTeam) vs) 25
    (ex_le (id_at PlayerTeam) (payload_bytes (payload_at PlayerTeam) vs) team_id (load_le c n h))
team_record_le c None h = none_le 25

-- of the clients that have entries
pub team_le : (c : ℕ) (m n : Option ℤ) → c < 128 → length (bytes_of (team_step c m n)) ≤ 25
unfolding team_step
team_le c m n h = one_of_le (same_team m n) [] (team_record c n) 25 (none_le 25) (team_record_le c n h)

-- ---- all of them

pub players_le : (e w : Entries) (n : ℕ) → n ≤ 128 → length (bytes_of (joined n (player_for e w))) ≤ n * 15
players_le e w n h = joined_le n (player_for e w) 15 (λ c g. player_le c (player_of e c) (player_of w c) (omega arith))

pub inputs_le : (e w : Entries) (n : ℕ) → length (bytes_of (joined n (input_for e w))) ≤ n * 60
inputs_le e w n = joined_le n (input_for e w) 60 (λ c g. input_for_le e w c)

pub changes_le : (e w : Entries) → length (bytes_of (changes e w)) ≤ 9600
unfolding changes
changes_le e w =
    bytes_append_le _ _ 1920 7680
    (joined_le 128 _ 15 (λ c g. player_le _ _ _ (omega arith)))
    (inputs_le e w 128)

pub teams_le : (t wt : List ℤ) (n : ℕ) → n ≤ 128 → length (bytes_of (joined n (team_for t wt))) ≤ n * 25
teams_le t wt n h = joined_le n (team_for t wt) 25 (λ c g. team_le c (team_of t (pos c)) (team_of wt (pos c)) (omega arith))

pub all_changes_le : (e : Entries) (t : List ℤ) (w : Entries) (wt : List ℤ) → length (bytes_of (all_changes e t w wt)) ≤ 12800
unfolding all_changes
all_changes_le e t w wt =
    bytes_append_le (changes e w) (joined 128 (team_for t wt)) 9600 3200 (changes_le e w) (teams_le t wt 128 (omega arith))

pub chosen_le : (s : Scalars) (e : Entries) (t : List ℤ) (u : ℤ) (w : Entries) (wt : List ℤ)
    → length (bytes_of (chosen s e t u w wt)) ≤ 16384
unfolding chosen
chosen_le s e t u w wt =
    let started = started_by s.inside s.tick u in
    let cs = all_changes e t w wt in
    let front = bytes_append_le (skip_to s.tick u) cs 10 12800 (skip_le s.tick u) (all_changes_le e t w wt) in
    let all : length (bytes_of (chosen s e t u w wt)) ≤ 12835 =
    bytes_append_le (skip_to s.tick u ++ cs) (start_if started (is_some cs)) 12810 25 front (start_le started (is_some cs)) in
    omega arith
