-- The line of an event, from its row. Assumes nothing.
use Rattle.std.specs.Prelude.{Option, Some, None}
use Prim.Native.Nat.{ℕ, zero, suc, ◌+◌, ◌*◌, ◌-◌, ◌≤◌, ◌<◌}
use mathlib.Core.Path.{◌≡◌, refl, sym, ◌∙◌, ap}
use mathlib.Core.List.{List, [], ◌∷◌, ◌++◌}
use native.Mathlib.Omega.{arith}
use native.Mathlib.Nat.{add-zero}
use borrow.Author.Tests.{le-leb, ne_eqb}
use lib.ListN.{length, take, drop, get_or, length-append, length-take}
use lib.Seq.{take-take, drop-drop, get_or-take, get_or-drop, take_at}
use lib.IntN.{ℤ, pos, negsuc}
use mir.Syntax.{w32}
use mir.Val.{SFits, of_z}
use Rattle.num.proofs.Signs.{key}
use Rattle.packer.specs.declared.Part.{Part}
use Rattle.item.specs.Records.{Content}
use Rattle.item.specs.Contents.{cid_of}
use Rattle.item.specs.Numbers.{tag_number}
use Rattle.state.specs.Reading.{Event, tick_start, tick_end, player_new, player_change, player_old, input, other}
use Rattle.teams.specs.Teams.{Joining, joins, nobody, mark_for, number_for, on_joining, joining_in}
use Rattle.team_calls.specs.Lists.{TeamSeen}
use Rattle.rows.specs.Rows.{client_flag, client_or0, eight, plain_row, event_row, row_of, event_tens, tens_of}
use Rattle.lines.specs.Lines.{
  start_word,
  end_word,
  new_word,
  change_word,
  old_word,
  input_word,
  plain_line,
  plain_most,
  record_line,
  line_of,
  longest,
}
use Rattle.lines.specs.steps.Puts.{PutsText}
use Rattle.lines.proofs.Texts.{same_text}
use Rattle.rows.specs.steps.Stores.{InRow}
use Rattle.row_lines.specs.steps.RowLines.{Tries, TriesPlain, cid_told, client_and, record_told}
use Rattle.row_lines.proofs.TeamLine.{team_line_law}

-- ---- the client of which two numbers tell

pub told_one : (h c : ℤ) → SFits w32 h → of_z w32 h ≡ 1 → Some c ≡ cid_told h c
told_one h c f e = let p : h ≡ pos 1 = key h f e in rw p

pub told_none : (h c : ℤ) → (of_z w32 h ≡ 1 → ⊥) → None ≡ cid_told h c
told_none (pos n) c f = let t = ne_eqb n 1 f in simp t
told_none (negsuc n) c f = refl

told_back : (c : Option ℤ) → cid_told (client_flag c) (client_or0 c) ≡ c
told_back (Some z) = refl
told_back None = refl

-- ---- by the event's number

-- the line that is put where a row begins with a number
unfoldable pub line_by : ℕ → List ℤ → List ℤ → List ℕ
line_by zero row ten = []
line_by (suc zero) row ten = plain_line start_word (take 1 (drop 2 row))
line_by (suc (suc zero)) row ten = plain_line end_word (take 1 (drop 2 row))
line_by (suc (suc (suc zero))) row ten = plain_line new_word (take 3 (drop 2 row))
line_by (suc (suc (suc (suc zero)))) row ten = plain_line change_word (take 5 (drop 2 row))
line_by (suc (suc (suc (suc (suc zero))))) row ten = plain_line old_word (take 3 (drop 2 row))
line_by (suc (suc (suc (suc (suc (suc n)))))) row ten = plain_line input_word (get_or row 2 (pos 0) ∷ ten)

-- ---- a record's row by what it says of a team

-- of a PlayerTeam and of any other record
abbrev record_row : Option ℤ → ℤ → ℤ → List ℤ → Joining → List ℤ
record_row m n p plain j = on_joining (λ c t. eight 8 n c t (mark_for m) (number_for m) p) plain j

abbrev first_bits : List ℤ → ℕ
first_bits row = of_z w32 (get_or row 0 (pos 0))

no_small : (m : Option ℤ) (n p : ℤ) (plain : List ℤ) (j : Joining) (k : ℕ) → first_bits plain ≡ 7 → first_bits (record_row m n p plain j) ≡ k → k ≤ 6 → ⊥
no_small m n p plain (joins c t) k q e h = omega arith
no_small m n p plain nobody k q e h = omega arith

-- of the numbers 1 to 6
by_number : (e : Event) (m : Option ℤ) (n p : ℤ) (ten : List ℤ) (k : ℕ) → first_bits (event_row e m n p) ≡ k → k ≤ 6
    → line_by k (event_row e m n p) ten ≡ line_of e ten
unfolding line_by
by_number (tick_start t) m n p ten k e h = rw (← e)
by_number (tick_end t) m n p ten k e h = rw (← e)
by_number (player_new c x y) m n p ten k e h = rw (← e)
by_number (player_change c x y old-x old-y) m n p ten k e h = rw (← e)
by_number (player_old c x y) m n p ten k e h = rw (← e)
by_number (input c former) m n p ten k e h = rw (← e)
by_number (other r) m n p ten k e h = absurd (no_small m n p (plain_row r n p) (joining_in r) k refl e h)

-- of 8
team_told : (r : Content Part) (m : Option ℤ) (n p : ℤ) (j : Joining) → joining_in r ≡ j → first_bits (record_row m n p (plain_row r n p) j) ≡ 8
    → record_line (negsuc 10) (Some (get_or (record_row m n p (plain_row r n p) j) 2 (pos 0))) ≡ record_line (tag_number r.tag) (cid_of r)
team_told r m n p (joins c t) q e = team_line_law r c t q
team_told r m n p nobody q e = absurd (omega arith)

team_row_law : (e : Event) (m : Option ℤ) (n p : ℤ) (ten : List ℤ) → first_bits (event_row e m n p) ≡ 8
    → record_line (negsuc 10) (Some (get_or (event_row e m n p) 2 (pos 0))) ≡ line_of e ten
team_row_law (tick_start t) m n p ten e = absurd (omega arith)
team_row_law (tick_end t) m n p ten e = absurd (omega arith)
team_row_law (player_new c x y) m n p ten e = absurd (omega arith)
team_row_law (player_change c x y old-x old-y) m n p ten e = absurd (omega arith)
team_row_law (player_old c x y) m n p ten e = absurd (omega arith)
team_row_law (input c former) m n p ten e = absurd (omega arith)
team_row_law (other r) m n p ten e = team_told r m n p (joining_in r) refl e

-- of any other
abbrev Unlike : ℕ → Type 0
Unlike b =
    (((((((Unit {0} × (b ≡ 1 → ⊥)) × (b ≡ 2 → ⊥)) × (b ≡ 3 → ⊥)) × (b ≡ 4 → ⊥)) × (b ≡ 5 → ⊥)) × (b ≡ 6 → ⊥)) × (b ≡ 8 → ⊥))

plain_told : (r : Content Part) (m : Option ℤ) (n p : ℤ) (j : Joining) → Unlike (first_bits (record_row m n p (plain_row r n p) j))
    → record_told (record_row m n p (plain_row r n p) j) 2 ≡ record_line (tag_number r.tag) (cid_of r)
plain_told r m n p (joins c t) u = absurd (u.1 refl)
plain_told r m n p nobody u = ap (record_line (tag_number r.tag)) (told_back (cid_of r))

record_row_law : (e : Event) (m : Option ℤ) (n p : ℤ) (ten : List ℤ) → Unlike (first_bits (event_row e m n p)) → record_told (event_row e m n p) 2 ≡ line_of e ten
record_row_law (tick_start t) m n p ten u = absurd (u.0.0.0.0.0.0.1 refl)
record_row_law (tick_end t) m n p ten u = absurd (u.0.0.0.0.0.1 refl)
record_row_law (player_new c x y) m n p ten u = absurd (u.0.0.0.0.1 refl)
record_row_law (player_change c x y old-x old-y) m n p ten u = absurd (u.0.0.0.1 refl)
record_row_law (player_old c x y) m n p ten u = absurd (u.0.0.1 refl)
record_row_law (input c former) m n p ten u = absurd (u.0.1 refl)
record_row_law (other r) m n p ten u = plain_told r m n p (joining_in r) u

-- ---- where there is room, a line is put

pub puts_of : (most : ℕ) (xs : List ℕ) (at : ℕ) (line : List ℕ) (next : ℕ) (ys : List ℕ) → at + most ≤ length xs
    → Tries most xs at line next ys → PutsText xs at line next ys
puts_of most xs at line next ys h p = let t = le-leb (at + most) (length xs) h in rw t at p

-- the ten numbers of an input
ten_of_law : (e : Event) (m : Option ℤ) (n p : ℤ) (ten former l : List ℤ) → length ten ≡ 10 → first_bits (event_row e m n p) ≡ 6
    → take (length (event_tens e ten former)) l ≡ event_tens e ten former → take 10 l ≡ ten
ten_of_law (tick_start t) m n p ten former l h k e = absurd (omega arith)
ten_of_law (tick_end t) m n p ten former l h k e = absurd (omega arith)
ten_of_law (player_new c x y) m n p ten former l h k e = absurd (omega arith)
ten_of_law (player_change c x y old-x old-y) m n p ten former l h k e = absurd (omega arith)
ten_of_law (player_old c x y) m n p ten former l h k e = absurd (omega arith)
ten_of_law (input c held) m n p ten former l h k e =
    sym (take-take 10 (length (ten ++ former)) l (omega (arith, length-append ten former)))
    ∙ ap (take 10) e
    ∙ take_at ten former 10 h
ten_of_law (other r) m n p ten former l h k e = absurd (no_small m n p (plain_row r n p) (joining_in r) 6 refl k (omega arith))

-- the numbers of a row behind the first two, and each of its numbers
behind_two : (k : ℕ) (l : List ℤ) → k ≤ 6 → take k (drop 2 (take 8 l)) ≡ take k (drop 2 l)
behind_two k [] h = refl
behind_two k (a ∷ []) h = refl
behind_two k (a ∷ b ∷ l) h = take-take k 6 l h

module _ (x : TeamSeen) (i : ℕ) (rows tens : List ℤ) (t : InRow x i rows tens) where
  part : (k : ℕ) → k ≤ 6 → take k (drop (8 * i + 2) rows) ≡ take k (drop 2 (row_of x))
  part k h =
      ap (take k) (sym (drop-drop 2 (8 * i) rows))
      ∙ sym (behind_two k (drop (8 * i) rows) h)
      ∙ ap (λ (l : List ℤ). take k (drop 2 l)) t.row

  number : (j : ℕ) → j < 8 → get_or rows (8 * i + j) (pos 0) ≡ get_or (row_of x) j (pos 0)
  number j h =
      sym (get_or-drop (8 * i) rows j (pos 0))
      ∙ sym (get_or-take 8 (drop (8 * i) rows) j (pos 0) h)
      ∙ ap (λ (l : List ℤ). get_or l j (pos 0)) t.row

  bits : of_z w32 (get_or rows (8 * i) (pos 0)) ≡ of_z w32 (get_or (row_of x) 0 (pos 0))
  bits = ap (of_z w32) (ap (λ (n : ℕ). get_or rows n (pos 0)) (sym (add-zero (8 * i))) ∙ number 0 (omega arith))

  by_row : (k : ℕ) → of_z w32 (get_or rows (8 * i) (pos 0)) ≡ k → k ≤ 6 → line_by k (row_of x) x.seen.ten ≡ line_of x.seen.event x.seen.ten
  unfolding row_of
  by_row k e h = by_number x.seen.event x.team _ _ x.seen.ten k (sym bits ∙ e) h

  module _ (xs : List ℕ) (at : ℕ) (room : at + longest ≤ length xs) (next : ℕ) (ys : List ℕ) where
    pub plain_put : (word : List ℕ) (n k to : ℕ) → to - (8 * i + 2) ≡ n → n ≤ 6 → length word ≤ 6
        → of_z w32 (get_or rows (8 * i) (pos 0)) ≡ k → k ≤ 6
        → line_by k (row_of x) x.seen.ten ≡ plain_line word (take n (drop 2 (row_of x)))
        → TriesPlain word (take (to - (8 * i + 2)) (drop (8 * i + 2) rows)) xs at next ys
        → PutsText xs at (line_of x.seen.event x.seen.ten) next ys
    plain_put word n k to e h small b j f p =
        let ns = take n (drop (8 * i + 2) rows) in
        let l = length-take n (drop (8 * i + 2) rows) in
        let g : plain_line word ns ≡ line_of x.seen.event x.seen.ten =
        ap (plain_line word) (part n h) ∙ sym f ∙ by_row k b j in
        same_text xs at _ _ g next ys (puts_of (plain_most word ns) xs at (plain_line word ns) next ys (omega arith) (rw e at p))

    pub input_put : of_z w32 (get_or rows (8 * i) (pos 0)) ≡ 6
        → TriesPlain input_word (client_and rows (8 * i + 2) tens (20 * i)) xs at next ys
        → PutsText xs at (line_of x.seen.event x.seen.ten) next ys
    unfolding row_of tens_of line_by
    input_put b p =
        let ns = client_and rows (8 * i + 2) tens (20 * i) in
        let l = length-take 10 (drop (20 * i) tens) in
        let ten = ten_of_law x.seen.event x.team _ _ x.seen.ten x.seen.former (drop (20 * i) tens) t.ten (sym bits ∙ b) t.twenty in
        let g : plain_line input_word ns ≡ line_of x.seen.event x.seen.ten =
        ap (λ (z : ℤ). plain_line input_word (z ∷ take 10 (drop (20 * i) tens))) (number 2 (omega arith))
        ∙ ap (λ (zs : List ℤ). plain_line input_word (get_or (row_of x) 2 (pos 0) ∷ zs)) ten
        ∙ by_row 6 b (omega arith) in
        same_text xs at _ _ g next ys (puts_of (plain_most input_word ns) xs at (plain_line input_word ns) next ys (omega arith) p)

    pub team_put : of_z w32 (get_or rows (8 * i) (pos 0)) ≡ 8
        → Tries longest xs at (record_line (negsuc 10) (Some (get_or rows (8 * i + 2) (pos 0)))) next ys
        → PutsText xs at (line_of x.seen.event x.seen.ten) next ys
    unfolding row_of
    team_put b p =
        let g : record_line (negsuc 10) (Some (get_or rows (8 * i + 2) (pos 0))) ≡ line_of x.seen.event x.seen.ten =
        ap (λ (z : ℤ). record_line (negsuc 10) (Some z)) (number 2 (omega arith))
        ∙ team_row_law x.seen.event x.team _ _ x.seen.ten (sym bits ∙ b) in
        same_text xs at _ _ g next ys (puts_of longest xs at _ next ys room p)

    pub record_put : Unlike (of_z w32 (get_or rows (8 * i) (pos 0)))
        → Tries longest xs at (record_told rows (8 * i + 2)) next ys → PutsText xs at (line_of x.seen.event x.seen.ten) next ys
    unfolding row_of
    record_put u p =
        let three : 8 * i + 2 + 1 ≡ 8 * i + 3 = omega arith in
        let four : 8 * i + 2 + 2 ≡ 8 * i + 4 = omega arith in
        let g : record_told rows (8 * i + 2) ≡ line_of x.seen.event x.seen.ten =
        rw (three, four, number 2 (omega arith), number 3 (omega arith), number 4 (omega arith))
        (record_row_law x.seen.event x.team _ _ x.seen.ten (rw bits at u)) in
        same_text xs at _ _ g next ys (puts_of longest xs at (record_told rows (8 * i + 2)) next ys room p)
