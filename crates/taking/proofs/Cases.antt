-- What a call leaves where an event fits and where it doesn't; the events of a client by the tests that the code makes (b is the client's
-- bits). Assumes nothing.
use Rattle.std.specs.Prelude.{Option, Some}
use Prim.Native.Nat.{ℕ, ◌≤◌, ◌<◌}
use mathlib.Core.Path.{◌≡◌, refl, ap, ◌∙◌}
use mathlib.Core.Bool.{Bool, true, false, cond, ◌&&◌}
use mathlib.Core.List.{List}
use native.Mathlib.Omega.{arith}
use lib.ListN.{get_or}
use lib.Dec.{eqb}
use lib.IntN.{ℤ, pos, negsuc}
use borrow.Author.Tests.{lt-ltb, le-ltb}
use mir.Syntax.{w32}
use mir.Val.{SFits, to_z, of_z}
use Rattle.refusal.specs.declared.Refusal.TheVariants.{NotLast}
use Rattle.fields.specs.Views.{zeros}
use Rattle.state.specs.State.{same_int, x_of, y_of, ten_of, with_player, with_input}
use Rattle.state.specs.declared.Entries.{Entries}
use Rattle.state.proofs.Numbers.{back, client_is}
use Rattle.back.specs.Board.{board}
use Rattle.back.specs.Back.{Back, was, refused, same_all, un_present, un_old, un_input}
use Rattle.back.specs.declared.Board.{Board}
use Rattle.taking.specs.Taking.{taken_from, taken_is}
use Rattle.taking.specs.declared.Off.{Off}

-- ---- fits or not: k is the tick that is left, e are the entries

abbrev pub Left : Bool → Option ℤ → Off → Type 0
Left fits k r = r ≡ record { fits = fits; tick = k }

pub unfit : {k : Option ℤ} {r : Off} {a : Back} (e : Entries) → Left false k r → refused NotLast ≡ a
    → taken_is r e ≡ taken_from (board k e) a
unfit {k} e p q = ap (λ (r : Off). taken_is r e) p ∙ ap (taken_from (board k e)) q

pub fitting : {k : Option ℤ} {r : Off} {a : Back} (given : Board) (e : Entries) → Left true k r → was (board k e) ≡ a
    → taken_is r e ≡ taken_from given a
fitting given e p q = ap (λ (r : Off). taken_is r e) p ∙ ap (taken_from given) q

-- in tick t
abbrev pub LeftIn : Bool → ℤ → Off → Type 0
LeftIn fits t r = Left fits (Some (to_z w32 (of_z w32 t))) r

pub left_in : {fits : Bool} {t : ℤ} {r : Off} → SFits w32 t → LeftIn fits t r → Left fits (Some t) r
left_in {fits} {t} f p = rw (back t f) at p

pub unfit_in : {t : ℤ} {r : Off} {a : Back} (e : Entries) → SFits w32 t → LeftIn false t r → refused NotLast ≡ a
    → taken_is r e ≡ taken_from (board (Some t) e) a
unfit_in e f p q = unfit e (left_in f p) q

pub fitting_in : {t : ℤ} {r : Off} {a : Back} (given : Board) (e : Entries) → SFits w32 t → LeftIn true t r → was (board (Some t) e) ≡ a
    → taken_is r e ≡ taken_from given a
fitting_in given e f p q = fitting given e (left_in f p) q

-- ---- a client without an entry

module _ (t : ℤ) (e : Entries) where
  pub present_far : (z x y : ℤ) (mark : ℕ) (old-x old-y : ℤ) (b : ℕ) → SFits w32 z → b ≡ of_z w32 z → 128 ≤ b
      → refused NotLast ≡ un_present t e z x y mark old-x old-y
  present_far (pos c) x y mark old-x old-y b f q h = rw (le-ltb c 128 (omega arith))
  present_far (negsuc c) x y mark old-x old-y b f q h = refl

  pub old_far : (z x y : ℤ) (b : ℕ) → SFits w32 z → b ≡ of_z w32 z → 128 ≤ b → refused NotLast ≡ un_old t e z x y
  old_far (pos c) x y b f q h = rw (le-ltb c 128 (omega arith))
  old_far (negsuc c) x y b f q h = refl

  pub input_far : (z : ℤ) (had : Bool) (ten former : List ℤ) (b : ℕ) → SFits w32 z → b ≡ of_z w32 z → 128 ≤ b
      → refused NotLast ≡ un_input t e z had ten former
  input_far (pos c) had ten former b f q h = rw (le-ltb c 128 (omega arith))
  input_far (negsuc c) had ten former b f q h = refl

-- ---- a client below 128

-- the tests: the client is at x, y; it holds these ten numbers
abbrev pub at_position : Entries → ℕ → ℤ → ℤ → Bool
at_position e b x y = eqb (get_or e.marks b 0) 1 && (same_int (x_of e b) x && same_int (y_of e b) y)

abbrev pub has_ten : Entries → ℕ → List ℤ → Bool
has_ten e b ten = eqb (get_or e.held b 0) 1 && same_all (ten_of e.inputs b) ten

module _ (t : ℤ) (e : Entries) (z : ℤ) (b : ℕ) (f : SFits w32 z) (q : b ≡ of_z w32 z) (h : b < 128) where
  pub present_away : (x y : ℤ) (mark : ℕ) (old-x old-y : ℤ) → at_position e b x y ≡ false → refused NotLast ≡ un_present t e z x y mark old-x old-y
  present_away x y mark old-x old-y p = rw (client_is z b f q h, lt-ltb b 128 h, p)

  pub present_here : (x y : ℤ) (mark : ℕ) (old-x old-y : ℤ) → at_position e b x y ≡ true
      → was (board (Some t) (with_player e b mark old-x old-y)) ≡ un_present t e z x y mark old-x old-y
  present_here x y mark old-x old-y p = rw (client_is z b f q h, lt-ltb b 128 h, p)

  pub old_here : (x y : ℤ) → eqb (get_or e.marks b 0) 1 ≡ true → refused NotLast ≡ un_old t e z x y
  old_here x y p = rw (client_is z b f q h, lt-ltb b 128 h, p)

  pub old_away : (x y : ℤ) → eqb (get_or e.marks b 0) 1 ≡ false → was (board (Some t) (with_player e b 1 x y)) ≡ un_old t e z x y
  old_away x y p = rw (client_is z b f q h, lt-ltb b 128 h, p)

  pub input_away : (had : Bool) (ten former : List ℤ) → has_ten e b ten ≡ false → refused NotLast ≡ un_input t e z had ten former
  input_away had ten former p = rw (client_is z b f q h, lt-ltb b 128 h, p)

  pub input_here : (had : Bool) (ten former : List ℤ) → has_ten e b ten ≡ true
      → was (board (Some t) (with_input e b (cond had 1 0) (cond had former (zeros 10)))) ≡ un_input t e z had ten former
  input_here true ten former p = rw (client_is z b f q h, lt-ltb b 128 h, p)
  input_here false ten former p = rw (client_is z b f q h, lt-ltb b 128 h, p)
