-- So many calls are enough for a body. Assumes nothing.
use Prim.Native.Nat.{ℕ, suc, ◌+◌}
use mathlib.Core.Path.{◌≡◌, sym, ◌∙◌, ap}
use mathlib.Core.Bool.{false}
use mathlib.Core.List.{List, ◌++◌}
use native.Mathlib.Omega.{arith}
use lib.ListN.{length-take}
use Rattle.kinds.specs.declared.Version.{Version}
use Rattle.state.specs.State.{empty_reader}
use Rattle.state.specs.declared.Reader.{Reader}
use Rattle.calls.specs.Along.{Run, enough}
use Rattle.calls.specs.Laws.{Within}
use Rattle.calls.proofs.Theorems as calls
use Rattle.windows.specs.Windows.{full, Printer, lines_by, ending_by, window_call, printed_from, printed_of}
use Rattle.windows.specs.Turns.{turns_by, AllPrinted, TurnsPrint}
use Rattle.windows.proofs.Whole.{turns_print_all}

pub window_within : Within window_call
window_within bytes = omega (arith, length-take full bytes)

module _ {A : Type 0} (p : Printer A) where
  -- more calls than enough print no more
  pub enough_calls : (r : Reader) (body : List ℕ) (k : ℕ) → printed_from p (enough body + k) r body ≡ printed_from p (enough body) r body
  unfolding printed_from
  enough_calls r body k =
      ap (λ (run : Run). lines_by p run.seen ++ ending_by p false run.halt 0) (calls.enough_calls window_call window_within k r body)

  pub all_printed_of : (v : Version) (body : List ℕ) (text : List A) → AllPrinted p (empty_reader v) body text → text ≡ printed_of p v body
  all_printed_of v body text a =
      let r = empty_reader v in
      let e : a.calls + suc (enough body) ≡ enough body + (a.calls + 1) = omega arith in
      sym (a.same (enough body)) ∙ ap (λ (n : ℕ). printed_from p n r body) e ∙ enough_calls r body (a.calls + 1)

  pub turns_print : TurnsPrint p
  turns_print v ts body h = all_printed_of v body (turns_by p ts (empty_reader v) body) (turns_print_all p ts (empty_reader v) body h)
