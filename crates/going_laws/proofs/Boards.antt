-- A good board stays good, with the lengths of its arrays, where an event is taken off it. Assumes nothing.
use Rattle.std.specs.Prelude.{Option, Some, None}
use Prim.Native.Nat.{ℕ, ◌+◌, ◌*◌, ◌≤◌, ◌<◌}
use mathlib.Core.Path.{◌≡◌, refl, sym, ap, ◌∙◌}
use mathlib.Core.Bool.{Bool, true, false, not, cond, ◌&&◌}
use mathlib.Core.List.{List}
use native.Mathlib.Omega.{arith}
use lib.ListN.{length, get_or, set, length-replicate, get_or-replicate}
use lib.Seq.{get_or-set_same, get_or-set_other}
use lib.Dec.{ltb, eqb}
use lib.IntN.{ℤ, pos, negsuc}
use lib.Signed.{non_neg}
use borrow.Author.Tests.{ltb-true, eqb-true, eqb-false}
use Rattle.num.proofs.Cases.{by_bool}
use Rattle.fields.specs.Views.{zeros}
use Rattle.fields.proofs.Answers.{and_both}
use Rattle.state.specs.State.{
  same_int,
  present,
  x_of,
  y_of,
  with_player,
  holds,
  ten_of,
  put_ten,
  good_players,
  ten_zeros,
  good_inputs,
  good_entries,
  good_scalars,
  good_reader,
}
use Rattle.state.specs.Reading.{
  Event,
  tick_start,
  tick_end,
  player_new,
  player_change,
  player_old,
  input,
  other,
}
use Rattle.state.specs.steps.Parts.{zero_at, good_input}
use Rattle.state.specs.Laws.{Sizes}
use Rattle.state.specs.declared.Entries.{Entries}
use Rattle.state.specs.declared.Reader.{Reader}
use Rattle.state.proofs.Every.{left_of_law, right_of, every_from, every_map}
use Rattle.state.proofs.Ten.{ten_at, put_other, ten_put}
use Rattle.state.proofs.Board.{good_placed, good_cleared, good_input_law, size_player, size_input}
use Rattle.back.specs.Board.{board, tick_of, board_of, good_tick, good_board}
use Rattle.back.specs.Back.{Back, was, refused, only_if, in_tick, no_tick, of_client, former_input, same_all, take_off}
use Rattle.back.specs.declared.Board.{Board}
use Rattle.back.specs.declared.TeamBoard.{TeamBoard}
use Rattle.back.specs.TeamBoard.{TeamBack, team_board_of, good_team_board, beside, fits_teams, teams_before, take_off_team}
use Rattle.back.specs.TeamBoard as teamed
use Rattle.refusal.specs.declared.Refusal.TheVariants.{NotLast}
use Rattle.teams.specs.Teams.{good_teams, Joining, joins, nobody, joining_of, good_team_reader}
use Rattle.teams.specs.Laws.{SoundTeams}
use Rattle.teams.specs.declared.TeamReader.{TeamReader}
use Rattle.teams.proofs.Theorems.{put_sound}
use Rattle.going_laws.specs.Laws.{BoardSizes}

-- ---- no input in the place of one

module _ (l : List ℤ) (c : ℕ) where
  zeros_put : 10 * c + 10 ≤ length l → ten_zeros (put_ten l c (zeros 10)) c ≡ true
  unfolding ten_zeros
  zeros_put room =
      every_from 10 (zero_at (put_ten l c (zeros 10)) c)
      (λ j h.
      let e : get_or (put_ten l c (zeros 10)) (10 * c + j) (pos 0) ≡ pos 0 =
      sym (ten_at (put_ten l c (zeros 10)) c j h)
      ∙ ap (λ (ns : List ℤ). get_or ns j (pos 0)) (ten_put l c (zeros 10) room (length-replicate {A = ℤ} 10 (pos 0)))
      ∙ get_or-replicate {A = ℤ} 10 j (pos 0) (pos 0) h
      in
      rw e)

  zeros_other : (i : ℕ) (ns : List ℤ) → (i ≡ c → ⊥) → ten_zeros l i ≡ true → ten_zeros (put_ten l c ns) i ≡ true
  unfolding ten_zeros
  zeros_other i ns o e = every_map 10 (zero_at l i) (zero_at (put_ten l c ns) i) (λ j h z. rw (put_other l c ns i j o h) z) e

entry_map : (p q a b : Bool) → (a ≡ true → b ≡ true) → cond p true (q && a) ≡ true → cond p true (q && b) ≡ true
entry_map true q a b f e = refl
entry_map false true a b f e = f e
entry_map false false a b f e = e

inputs_without : (held : List ℕ) (l : List ℤ) (c : ℕ) → c < length held → 10 * c + 10 ≤ length l → good_inputs held l ≡ true
    → good_inputs (set held c 0) (put_ten l c (zeros 10)) ≡ true
unfolding good_inputs
inputs_without held l c within room good =
    every_map 128 (good_input held l) (good_input (set held c 0) (put_ten l c (zeros 10)))
    (λ i h e. by_bool (eqb i c)
    (λ t. rw (eqb-true i c t, get_or-set_same held c 0 0 within, zeros_put l c room))
    (λ t.
    rw (get_or-set_other held c i 0 0 (eqb-false i c t))
    (entry_map (eqb (get_or held i 0) 1) (eqb (get_or held i 0) 0) (ten_zeros l i) (ten_zeros (put_ten l c (zeros 10)) i)
    (zeros_other l c i (zeros 10) (eqb-false i c t)) e)))
    good

module _ (e : Entries) (good : good_entries e ≡ true) (s : Sizes e) (c : ℕ) (h : c < 128) where
  good_former : (had : Bool) (ns : List ℤ) → good_entries (former_input e c had ns) ≡ true
  good_former true ns = good_input_law e good c ns (omega (arith, s.held))
  good_former false ns =
      and_both _ _ (left_of_law (good_players e.marks e.xs e.ys) (good_inputs e.held e.inputs) good)
      (inputs_without e.held e.inputs c (omega (arith, s.held)) (omega (arith, s.inputs))
      (right_of (good_players e.marks e.xs e.ys) (good_inputs e.held e.inputs) good))

  size_former : (had : Bool) (ns : List ℤ) → Sizes (former_input e c had ns)
  size_former true ns = size_input e s c 1 ns
  size_former false ns = size_input e s c 0 (zeros 10)

-- ---- a good board with the lengths that its arrays have

record Fine (b : Board) : Type 0 where
  good : good_board b ≡ true
  sizes : Sizes b.entries

fine : (k : Option ℤ) (e : Entries) → good_tick k ≡ true → good_entries e ≡ true → Sizes e → Fine (board k e)
unfolding good_board
fine k e t g s = record { good = and_both _ _ t g; sizes = s }

-- what is left, if anything is
abbrev Leaves : Back → Type 0
Leaves (was b) = Fine b
Leaves (refused r) = Unit {0}

only : (fits : Bool) (b : Board) → (fits ≡ true → Fine b) → Leaves (only_if fits b)
only true b f = f refl
only false b f = tt

of_client_law : (z : ℤ) (f : ℕ → Back) → ((c : ℕ) → Leaves (f c)) → Leaves (of_client z f)
of_client_law (pos c) f l = l c
of_client_law (negsuc c) f l = tt

in_tick_law : (k : Option ℤ) (f : ℤ → Back) → good_tick k ≡ true → ((t : ℤ) → non_neg t ≡ true → Leaves (f t)) → Leaves (in_tick k f)
in_tick_law (Some t) f g l = l t g
in_tick_law None f g l = tt

no_tick_law : (k : Option ℤ) (x : Back) → Leaves x → Leaves (no_tick k x)
no_tick_law (Some t) x l = tt
no_tick_law None x l = l

-- the tests of a client's entry
abbrev stands_at : Entries → ℤ → ℤ → ℕ → Bool
stands_at e x y c = present e c && (same_int (x_of e c) x && same_int (y_of e c) y)

abbrev absent : Entries → ℕ → Bool
absent e c = ltb c 128 && not (present e c)

abbrev holds_ten : Entries → List ℤ → ℕ → Bool
holds_ten e ten c = holds e c && same_all (ten_of e.inputs c) ten

-- the client then has an entry
has_entry : (c : ℕ) (t r : Bool) → ((ltb c 128 && t) && r) ≡ true → c < 128
has_entry c t r q = ltb-true c 128 (left_of_law (ltb c 128) t (left_of_law (ltb c 128 && t) r q))

module _ (ten former : List ℤ) (k : Option ℤ) (e : Entries) (t : good_tick k ≡ true) (g : good_entries e ≡ true) (s : Sizes e) where
  placed : (i : ℤ) → non_neg i ≡ true → (c : ℕ) (x y : ℤ) → c < 128 → Fine (board (Some i) (with_player e c 1 x y))
  placed i h c x y q = fine (Some i) (with_player e c 1 x y) h (good_placed e g c x y (omega (arith, s.marks))) (size_player e s c 1 x y)

  former_put : (i : ℤ) → non_neg i ≡ true → (c : ℕ) (had : Bool) → c < 128 → Fine (board (Some i) (former_input e c had former))
  former_put i h c had q = fine (Some i) (former_input e c had former) h (good_former e g s c q had former) (size_former e g s c q had former)

  off : (u : Event) → Leaves (take_off u ten former k e)
  off (tick_start u) = in_tick_law k _ t (λ i h. only (same_int i u) _ (λ q. fine None e refl g s))
  off (tick_end u) = no_tick_law k _ (only (non_neg u) _ (λ q. fine (Some u) e q g s))
  off (player_new z x y) =
      in_tick_law k _ t
      (λ i h. of_client_law z _ (λ c. only (stands_at e x y c) _ (λ q. fine (Some i) _ h (good_cleared e g c) (size_player e s c 0 (pos 0) (pos 0)))))
  off (player_change z x y old-x old-y) =
      in_tick_law k _ t
      (λ i h. of_client_law z _ (λ c. only (stands_at e x y c) _ (λ q. placed i h c old-x old-y (has_entry c _ _ q))))
  off (player_old z x y) =
      in_tick_law k _ t
      (λ i h. of_client_law z _ (λ c. only (absent e c) _ (λ q. placed i h c x y (ltb-true c 128 (left_of_law (ltb c 128) (not (present e c)) q)))))
  off (input z had) =
      in_tick_law k _ t (λ i h. of_client_law z _ (λ c. only (holds_ten e ten c) _ (λ q. former_put i h c had (has_entry c _ _ q))))
  off (other r) = in_tick_law k _ t (λ i h. fine (Some i) e h g s)

leaves : (u : Event) (ten former : List ℤ) (b : Board) → Fine b → Leaves (take_off u ten former b.tick b.entries)
unfolding good_board
leaves u ten former b f =
    off ten former b.tick b.entries (left_of_law (good_tick b.tick) (good_entries b.entries) f.good)
    (right_of (good_tick b.tick) (good_entries b.entries) f.good) f.sizes u

-- ---- a good reader's board

tick_good : (i : Bool) (t : ℤ) → non_neg t ≡ true → good_tick (tick_of i t) ≡ true
tick_good true t e = e
tick_good false t e = refl

plain_board : (r : Reader) → good_reader r ≡ true → good_board (board_of r) ≡ true
unfolding good_reader good_scalars board_of good_board
plain_board r g =
    let scalars : good_scalars r.scalars ≡ true = left_of_law (good_scalars r.scalars) (good_entries r.entries) g in
    and_both _ _ (tick_good r.scalars.inside r.scalars.tick (left_of_law (non_neg r.scalars.tick) _ scalars))
    (right_of (good_scalars r.scalars) (good_entries r.entries) g)

-- ---- the same with teams

pub record TeamFine (b : TeamBoard) : Type 0 where
  pub good : good_team_board b ≡ true
  pub sizes : BoardSizes b

abbrev TeamLeaves : TeamBack → Type 0
TeamLeaves (teamed.was b) = TeamFine b
TeamLeaves (teamed.refused r) = Unit {0}

beside_fine : (t : List ℤ) → SoundTeams t → (x : Back) → Leaves x → TeamLeaves (beside t x)
unfolding good_team_board
beside_fine t s (was b) f = record { good = and_both _ _ f.good s.good; sizes = record { entries = f.sizes; teams = s.size } }
beside_fine t s (refused r) f = tt

before_sound : (j : Joining) (m : Option ℤ) (t : List ℤ) → SoundTeams t → SoundTeams (teams_before j m t)
before_sound (joins c n) m t s = put_sound t c m s
before_sound nobody m t s = s

by_fits : (b : Bool) (x : TeamBack) → TeamLeaves x → TeamLeaves (cond b x (teamed.refused NotLast))
by_fits true x l = l
by_fits false x l = tt

pub team_leaves : (u : Event) (ten former : List ℤ) (m : Option ℤ) (b : TeamBoard) → TeamFine b → TeamLeaves (take_off_team u ten former m b)
unfolding take_off_team good_team_board
team_leaves u ten former m b f =
    let board_good = left_of_law (good_board b.board) (good_teams b.teams) f.good in
    let teams : SoundTeams b.teams = record { good = right_of (good_board b.board) (good_teams b.teams) f.good; size = f.sizes.teams } in
    by_fits (fits_teams (joining_of u) b.teams) _
    (beside_fine (teams_before (joining_of u) m b.teams) (before_sound (joining_of u) m b.teams teams)
    (take_off u ten former b.board.tick b.board.entries)
    (leaves u ten former b.board (record { good = board_good; sizes = f.sizes.entries })))

pub reader_board : (r : TeamReader) → good_team_reader r ≡ true → good_team_board (team_board_of r) ≡ true
unfolding good_team_reader good_team_board
reader_board r g =
    and_both _ _ (plain_board r.reader (left_of_law (good_reader r.reader) (good_teams r.teams) g))
    (right_of (good_reader r.reader) (good_teams r.teams) g)
