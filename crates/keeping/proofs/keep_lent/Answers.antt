-- `keeping::keep_lent` meets its contract. Assumes nothing.
use Rattle.std.specs.Prelude.{Option}
use borrow.Author.Tests.{ltb-true}
use Prim.Native.Nat.{◌<◌}
use mathlib.Core.Path.{◌≡◌, refl, sym, ◌∙◌}
use mathlib.Core.Bool.{Bool, true, false, ◌&&◌}
use mathlib.Core.List.{List}
use lib.IntN.{ℤ}
use Rattle.refusal.specs.declared.Refusal.TheVariants.{BadState}
use Rattle.state.specs.Reading.{Event}
use Rattle.state.proofs.Numbers.{picks_first, picks_second}
use Rattle.back.specs.Undo.{undo_of}
use Rattle.reel.specs.Reel.{reel_of, good_counts, one_more, keep_row, keeping}
use Rattle.reel.specs.declared.Counts.{Counts}
use Rattle.reel.specs.declared.KeepAnswer.TheVariants.{Kept, Refused}
use Rattle.keeping.specs.steps.Lent.{Stored, kept_is}
use Rattle.keeping.proofs.keep_lent.Goals as goal

first : (a b : Bool) → (a && b) ≡ true → a ≡ true
first true b e = refl
first false b e = e

-- by the test that the code makes
module _ (k : Counts) (g : Bool) (q : g ≡ good_counts k) where
  good : g ≡ true → good_counts k ≡ true
  good n = sym q ∙ n

  room : g ≡ true → k.next < 512
  room n = ltb-true k.next 512 (first _ _ (good n))

  module _ (rows inputs formers : List ℤ) (e : Event) (ten former : List ℤ) (team : Option ℤ) where
    refused : g ≡ false
        → kept_is (record { answer = Refused BadState; counts = k }) rows inputs formers ≡ keeping (reel_of k rows inputs formers) e ten former team
    unfolding keeping
    refused n = picks_second (good_counts k) _ _ (sym q ∙ n)

    kept : g ≡ true → (k' : Counts) (rows' inputs' formers' : List ℤ) → k' ≡ one_more k
        → Stored (undo_of e team) k.next ten former rows inputs formers rows' inputs' formers'
        → kept_is (record { answer = Kept; counts = k' }) rows' inputs' formers' ≡ keeping (reel_of k rows inputs formers) e ten former team
    unfolding keeping keep_row
    kept n k' rows' inputs' formers' ek s = rw (ek, s.rows, s.inputs, s.formers) (picks_first (good_counts k) _ _ (good n))

pub returns-then-not-good_counts : goal.returns-then-not-good_counts
returns-then-not-good_counts c = refused _ _ c.good_counts.ensures _ _ _ _ _ _ _ c.if-not-good_counts.true

pub returns : goal.returns
returns c =
    let test = c in
    kept _ _ test.good_counts.ensures _ _ _ _ _ _ _ test.if-not-good_counts.false _ _ _ _ c.one_more.ensures c.store.ensures
