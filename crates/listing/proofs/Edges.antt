-- A list beside a bad reader and beside a closed one: nothing is read. Assumes nothing.
use Prim.Native.Nat.{ℕ, ◌≤◌}
use mathlib.Core.Path.{◌≡◌, ap, ◌∙◌}
use mathlib.Core.Bool.{Bool, true, false, cond}
use mathlib.Core.List.{List}
use native.Mathlib.Omega.{arith}
use borrow.Author.Tests.{le-leb}
use Rattle.refusal.specs.declared.Refusal.{Refusal}
use Rattle.refusal.specs.declared.Refusal.TheVariants.{BadState, Closed}
use Rattle.state.specs.State.{good_reader}
use Rattle.state.specs.Reading.{is_closed}
use Rattle.state.specs.declared.Reader.{Reader}
use Rattle.state.proofs.Numbers.{picks_first, picks_second}
use Rattle.calls.specs.Along.{enough}
use Rattle.many.specs.Many.{refused_by}
use Rattle.many.proofs.Edges.{plain_room}
use Rattle.results.specs.declared.Results.{Results}
use Rattle.listing.specs.Listing.{whole_run, list_run}
use Rattle.listing.specs.steps.Lists.{unchanged}
use Rattle.listing.proofs.Beside.{begun, ended}

module _ (l : Results) (r : Reader) (w : List ℕ) (last : Bool) (count : l.others ≤ 18446744073709551615) where
  -- the run, with the tests that come first
  tested : cond (good_reader r) (cond (is_closed r.scalars.standing) (refused_by Closed r) (whole_run r w last)) (refused_by BadState r) ≡ whole_run r w last
  tested = plain_room (enough w) r w last (omega arith)

  nothing : (why : Refusal) → refused_by why r ≡ whole_run r w last → unchanged why l r ≡ list_run l r (whole_run r w last)
  nothing why e =
      ended _ 0 0 r (omega arith) (le-leb l.others 18446744073709551615 count) (begun (refused_by why r) l r) ∙ ap (list_run l r) e

  pub bad_reader : good_reader r ≡ false → unchanged BadState l r ≡ list_run l r (whole_run r w last)
  bad_reader g = nothing BadState (picks_second (good_reader r) _ _ g ∙ tested)

  pub closed_reader : good_reader r ≡ true → is_closed r.scalars.standing ≡ true → unchanged Closed l r ≡ list_run l r (whole_run r w last)
  closed_reader g c = nothing Closed (picks_first (is_closed r.scalars.standing) _ _ c ∙ picks_first (good_reader r) _ _ g ∙ tested)
