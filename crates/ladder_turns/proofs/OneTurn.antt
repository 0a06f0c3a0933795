-- One turn, from what its calls ensure. Assumes nothing.
use Prim.Native.Nat.{ℕ, min}
use mathlib.Core.Path.{◌≡◌, ◌∙◌, ap}
use mathlib.Core.Bool.{Bool}
use mathlib.Core.List.{List}
use lib.ListN.{length, take}
use Rattle.state.specs.declared.Reader.{Reader}
use Rattle.windows.specs.Windows.{full, window_of, is_short, is_last_window}
use Rattle.windows.proofs.AtHand.{take_least}
use Rattle.results.specs.declared.Results.{Results}
use Rattle.listing.specs.Listing.{whole_run, ListRun, list_run, halt_of, said_run}
use Rattle.listing.specs.declared.ListRead.{ListRead}
use Rattle.ladder_turns.specs.Ladder.{Next, next_of, Turned, turn_on, next_is, turned_is}
use Rattle.ladder_turns.specs.declared.After.{After}
use Rattle.ladder_turns.specs.declared.ListTurn.{ListTurn}

abbrev of_run : Bool → ListRun → Turned
of_run short t = record { list = t.list; reader = t.reader; used = t.used; next = next_of short t.halt t.gave }

-- n is the end of the window, a what is read of it, x what follows
pub turned : (l : Results) (r : Reader) (bytes : List ℕ) (ended : Bool) (n : ℕ) → n ≡ min (length bytes) full
    → (last : Bool) → last ≡ is_last_window ended bytes → (a : ListRead) → said_run a ≡ list_run l r (whole_run r (take n bytes) last)
    → (x : After) → next_is x ≡ next_of (is_short bytes) (halt_of a.end) a.gave
    → let t : ListTurn = record { list = a.list; reader = a.reader; used = a.used; after = x } in turned_is t ≡ turn_on l r bytes ended
turned l r bytes ended n e last f a s x g =
    let w : take n bytes ≡ window_of bytes = ap (λ (m : ℕ). take m bytes) e ∙ take_least bytes full in
    ap (λ (y : Next). let t : Turned = record { list = a.list; reader = a.reader; used = a.used; next = y } in t) g
    ∙ ap (of_run (is_short bytes)) (rw (w, f) at s)
