-- Keeping an event: its row stands in its place, the others stay. Assumes nothing.
use Prim.Native.Nat.{ℕ, ◌+◌, ◌<◌, min}
use mathlib.Core.Path.{◌≡◌, refl, ◌∙◌}
use mathlib.Core.List.{List, ◌∷◌}
use native.Mathlib.Omega.{arith}
use lib.ListN.{length, take}
use lib.Dec.{ltb, leb}
use lib.IntN.{ℤ}
use borrow.Author.Tests.{ltb-true, lt-ltb, le-leb}
use Rattle.num.proofs.Cases.{by_bool}
use Rattle.fields.proofs.Answers.{and_both}
use Rattle.state.specs.State.{ten_of, put_ten}
use Rattle.state.proofs.Every.{left_of_law}
use Rattle.state.proofs.Ten.{put_length, ten_other, ten_put}
use Rattle.back.specs.declared.Undo.{Undo}
use Rattle.back.specs.declared.Undo.TheVariants.{Start, End, New, Change, Old, Input, Team, Nothing}
use Rattle.reel.specs.Reel.{of_input, row, numbers_of, place_after, row_at, rows_of, keep_row}
use Rattle.reel.specs.Laws.{SoundReel}
use Rattle.reel.specs.declared.Reel.{Reel}
use Rattle.reel.proofs.Telling.{undo_told, ten_numbers}
use Rattle.reel.proofs.Ring.{one_more}

-- ---- numbers that only an input has

ten_kept : (u : Undo) (a b : List ℤ) (i : ℕ) → ten_of a i ≡ ten_of b i → ten_of (of_input u a b) i ≡ ten_of b i
ten_kept (Input c had) a b i e = e
ten_kept (Start t) a b i e = refl
ten_kept (End t) a b i e = refl
ten_kept (New c x y) a b i e = refl
ten_kept (Change c x y old-x old-y) a b i e = refl
ten_kept (Old c x y) a b i e = refl
ten_kept (Team c n m) a b i e = refl
ten_kept Nothing a b i e = refl

size_kept : (u : Undo) (a b : List ℤ) (n : ℕ) → length a ≡ n → length b ≡ n → length (of_input u a b) ≡ n
size_kept (Input c had) a b n e f = e
size_kept (Start t) a b n e f = f
size_kept (End t) a b n e f = f
size_kept (New c x y) a b n e f = f
size_kept (Change c x y old-x old-y) a b n e f = f
size_kept (Old c x y) a b n e f = f
size_kept (Team c t m) a b n e f = f
size_kept Nothing a b n e f = f

-- a row looks at them only where they are an input's
its_row : (u : Undo) (p : ℕ) (a b x y ten former : List ℤ) → ten_of a p ≡ ten → ten_of x p ≡ former
    → row u (ten_of (of_input u a b) p) (ten_of (of_input u x y) p) ≡ row u ten former
its_row (Input c had) p a b x y ten former e f = rw (e, f)
its_row (Start t) p a b x y ten former e f = refl
its_row (End t) p a b x y ten former e f = refl
its_row (New c x y) p a b v w ten former e f = refl
its_row (Change c x y old-x old-y) p a b v w ten former e f = refl
its_row (Old c x y) p a b v w ten former e f = refl
its_row (Team c n m) p a b x y ten former e f = refl
its_row Nothing p a b x y ten former e f = refl

-- ---- the reel

after_small : (p : ℕ) → place_after p < 512
after_small p = by_bool (ltb p 511) (λ t. rw t (omega (arith, ltb-true p 511 t))) (λ f. rw f (omega arith))

pub next_small : (l : Reel) → SoundReel l → l.counts.next < 512
next_small l s = ltb-true _ 512 (left_of_law (ltb l.counts.next 512) (leb l.counts.count 512) s.good)

module _ (l : Reel) (u : Undo) (ten former : List ℤ) where
  row_other : (i : ℕ) → (i ≡ l.counts.next → ⊥) → row_at (keep_row l u ten former) i ≡ row_at l i
  unfolding row_at keep_row
  row_other i o =
      let p = l.counts.next in
      rw (
        ten_other l.rows p (numbers_of u) i o,
        ten_kept u (put_ten l.inputs p ten) l.inputs i (ten_other l.inputs p ten i o),
        ten_kept u (put_ten l.formers p former) l.formers i (ten_other l.formers p former i o),
      )

  module _ (s : SoundReel l) where
    pub keep_sound : SoundReel (keep_row l u ten former)
    unfolding keep_row
    keep_sound =
        let p = l.counts.next in
        record {
          good = and_both _ _ (lt-ltb (place_after p) 512 (after_small p)) (le-leb (min (l.counts.count + 1) 512) 512 (omega arith));
          rows = put_length l.rows p (numbers_of u) ∙ s.rows;
          inputs = size_kept u _ _ 5120 (put_length l.inputs p ten ∙ s.inputs) s.inputs;
          formers = size_kept u _ _ 5120 (put_length l.formers p former ∙ s.formers) s.formers;
        }

    module _ (its : length ten ≡ 10) (before : length former ≡ 10) where
      pub row_here : row_at (keep_row l u ten former) l.counts.next ≡ row u ten former
      unfolding row_at keep_row
      row_here =
          let p = l.counts.next in
          let h = next_small l s in
          rw (ten_put l.rows p (numbers_of u) (omega (arith, s.rows)) (ten_numbers u), undo_told u)
          (its_row u p _ _ _ _ ten former (ten_put l.inputs p ten (omega (arith, s.inputs)) its)
          (ten_put l.formers p former (omega (arith, s.formers)) before))

      pub keep_holds : rows_of (keep_row l u ten former) ≡ take 512 (row u ten former ∷ rows_of l)
      unfolding rows_of keep_row
      keep_holds =
          one_more l (keep_row l u ten former) l.counts.next row_other l.counts.count (row u ten former) (next_small l s) row_here
