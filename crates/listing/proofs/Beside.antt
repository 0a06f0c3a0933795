-- A run and a list beside it: what is done and what is left. Assumes nothing.
use Prim.Native.Nat.{ℕ, ◌+◌}
use mathlib.Core.Path.{◌≡◌, refl, sym, ap, ◌∙◌}
use mathlib.Core.Bool.{Bool, true, false, cond}
use native.Mathlib.Omega.{arith}
use lib.IntN.{ℤ}
use Rattle.refusal.specs.declared.Refusal.TheVariants.{BadState}
use Rattle.state.specs.declared.Reader.{Reader}
use Rattle.state.proofs.Numbers.{picks_first, picks_second}
use Rattle.calls.specs.Calls.{Seen}
use Rattle.calls.specs.Along.{Halt, Run, stopped, before}
use Rattle.results.specs.Results.{finish_of, tick_after, finishes_in, keep, fits}
use Rattle.results.specs.declared.Results.{Results}
use Rattle.results.proofs.Theorems.{keeps_on}
use Rattle.listing.specs.Listing.{ListRun, events_of, finishes_of, some_seen, list_run}
use Rattle.listing.specs.steps.Lists.{unchanged}
use Rattle.listing.proofs.Keeping.{stays_past}

-- events with used bytes are done, which made the list l and opened tick k; rest is left
pub record Behind (run rest : Run) (l₀ : Results) (r₀ : Reader) (l : Results) (k : ℤ) (used : ℕ) (gave : Bool) : Type 0 where
  pub halt : run.halt ≡ rest.halt
  pub bytes : run.used ≡ used + rest.used
  pub reader : run.reader ≡ rest.reader
  pub list : keep l₀ (finishes_of r₀ run) ≡ keep l (finishes_in k (events_of rest.seen))
  pub gives : some_seen run.seen ≡ cond gave true (some_seen rest.seen)

pub begun : (run : Run) (l : Results) (r : Reader) → Behind run run l r l r.scalars.tick 0 false
begun run l r = record { halt = refl; bytes = omega arith; reader = refl; list = refl; gives = refl }

always : (b : Bool) → cond b true true ≡ true
always true = refl
always false = refl

itself : (b : Bool) → cond b true false ≡ b
itself true = refl
itself false = refl

abbrev answered : Halt → Bool → ℕ → Results → Reader → ListRun
answered h gave used l r = record { halt = h; gave = gave; used = used; list = l; reader = r }

module _ {run : Run} {l₀ : Results} {r₀ : Reader} {l : Results} {k : ℤ} {used : ℕ} {gave : Bool} where
  -- the finishes of an event, and those behind it
  taken : (x : Seen) (rest : Run) → Behind run (before x rest) l₀ r₀ l k used gave
      → keep l₀ (finishes_of r₀ run)
      ≡ keep (keep l (finish_of k x.event)) (finishes_in (tick_after k x.event) (events_of rest.seen))
  unfolding finishes_in
  taken x rest b = b.list ∙ keeps_on l (finish_of k x.event) _

  pub one_more : (x : Seen) (rest : Run) → Behind run (before x rest) l₀ r₀ l k used gave
      → Behind run rest l₀ r₀ (keep l (finish_of k x.event)) (tick_after k x.event) (used + x.used) true
  one_more x rest b =
      record {
        halt = b.halt;
        bytes = omega (arith, b.bytes);
        reader = b.reader;
        list = taken x rest b;
        gives = b.gives ∙ always gave;
      }

  pub ended : (h : Halt) (n u : ℕ) (r : Reader) → u ≡ used + n → fits l ≡ true → Behind run (stopped h n r) l₀ r₀ l k used gave
      → record { halt = h; gave = gave; used = u; list = l; reader = r } ≡ list_run l₀ r₀ run
  unfolding finishes_in keep
  ended h n u r e f b =
      (λ i. answered (sym b.halt i) (sym (b.gives ∙ itself gave) i) ((e ∙ sym b.bytes) i) l (sym b.reader i))
      ∙ picks_first (fits l) _ (unchanged BadState l₀ r₀) f
      ∙ ap
      (λ (x : Results). cond (fits x) (answered run.halt (some_seen run.seen) run.used x run.reader) (unchanged BadState l₀ r₀))
      (sym b.list)

  pub past : (x : Seen) (rest : Run) → fits (keep l (finish_of k x.event)) ≡ false
      → Behind run (before x rest) l₀ r₀ l k used gave → unchanged BadState l₀ r₀ ≡ list_run l₀ r₀ run
  past x rest f b =
      picks_second (fits (keep l₀ (finishes_of r₀ run))) _ (unchanged BadState l₀ r₀)
      (ap fits (taken x rest b) ∙ stays_past (keep l (finish_of k x.event)) _ f)
