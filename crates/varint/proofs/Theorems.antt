-- The statements of specs/Laws.antt. Assumes nothing.
use Rattle.std.specs.Prelude.{Ok, Err}
use Prim.Native.Nat.{ℕ, ◌+◌, ◌≤◌}
use mathlib.Core.Path.{◌≡◌, refl, sym, ◌∙◌, ap}
use mathlib.Core.Bool.{Bool, true, false, cond}
use mathlib.Core.List.{List, ◌++◌}
use native.Mathlib.Omega.{arith}
use lib.ListN.{length, drop_of_length-le}
use lib.Dec.{leb}
use borrow.Author.Tests.{leb-true, leb-false}
use Rattle.num.proofs.Cases.{by_bool}
use Rattle.refusal.specs.Said.{gives, refusing}
use Rattle.refusal.specs.declared.Refusal.TheVariants.{ShortTarget}
use Rattle.varint.specs.Integers.{read_from, read_int}
use Rattle.varint.specs.Written.{fits_at, wrote_said, writing}
use Rattle.varint.specs.steps.Writing.{wrote}
use Rattle.varint.specs.Laws.{FirstWeights, IntWrittenReads, IntReadsWritten, WritersSay, Steady, Shorter, int_out, IntSteady}
use Rattle.varint.specs.declared.IntRead.{IntRead}
use Rattle.varint.specs.declared.IntRead.TheVariants.{Got, RunsOut}
use Rattle.varint.proofs.RoundTrip.{canonical_read}
use Rattle.varint.proofs.Back.{read_canonical}
use Rattle.varint.proofs.Prefix.{int_prefix}

pub first_weights : FirstWeights
first_weights = refl

pub written_reads : IntWrittenReads
written_reads = canonical_read

pub reads_written : IntReadsWritten
reads_written = read_canonical

fits_say : (fits : Bool) (next : ℕ) → wrote_said (cond fits (Ok next) (Err ShortTarget)) ≡ cond fits (gives next 0) (refusing ShortTarget)
fits_say true next = refl
fits_say false next = refl

pub writers_say : WritersSay
unfolding wrote writing
writers_say true xs at bs = fits_say (fits_at xs at bs) (at + length bs)
writers_say false xs at bs = refl

-- one half follows from the other
pub shorter : {A : Type 0} (out : A → Bool) (read : List ℕ → ℕ → A) → Steady out read → Shorter out read
shorter out read steady s t at e =
    by_bool (out (read s at)) (λ b. b) (λ b. sym (ap out (steady s t at b)) ∙ e)

-- a place past the end
past_end : (s : List ℕ) (at : ℕ) → length s ≤ at → read_int s at ≡ RunsOut
unfolding read_int read_from
past_end s at h = simp (drop_of_length-le s h)

steady_by : (s t : List ℕ) (at : ℕ) → at ≤ length s → (i : IntRead) → read_int s at ≡ i → int_out i ≡ false → read_int (s ++ t) at ≡ i
steady_by s t at h (Got z next r) e b = int_prefix s at z next r h e t
steady_by s t at h RunsOut e b = let z : ◌≡◌ {A = ℕ} 0 1 = cc in absurd (omega arith)

steady : Steady int_out read_int
steady s t at b =
    by_bool (leb at (length s))
    (λ l. steady_by s t at (leb-true at (length s) l) (read_int s at) refl b)
    (λ l.
    let e = past_end s at (omega (arith, leb-false at (length s) l)) in
    let q = rw e at b in
    let z : ◌≡◌ {A = ℕ} 0 1 = cc in
    absurd (omega arith))

pub int_steady : IntSteady
int_steady = (steady, shorter int_out read_int steady)
