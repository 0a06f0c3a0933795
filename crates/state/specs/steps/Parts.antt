-- Parts of the definitions under names of their own, as the code and the proofs take them.
use Rattle.std.specs.Prelude.{ℕ, ◌+◌, ◌*◌, Bool, true, false, cond, ◌&&◌, List, get_or, ℤ, Option}
use Rattle.refusal.specs.declared.Refusal.TheVariants.{TickOverflow}
use Rattle.packer.specs.declared.Part.{Part}
use Rattle.fields.specs.Fields.{Reading}
use Rattle.fields.specs.Views.{zeros}
use Rattle.item.specs.Said.{gives}
use Rattle.item.specs.Records.{Content}
use Rattle.item.specs.Contents.{cid_of}
use Rattle.kinds.specs.declared.Version.{Version}
use Rattle.kinds.specs.declared.Kind.{Kind}
use Rattle.state.specs.Sorts.{sort_of}
use Rattle.state.specs.State.{zero_in, good_entry, ten_zeros, good_sort}
use Rattle.state.specs.declared.Memory.{Memory}
use Rattle.state.specs.Reading.{
  tick_start,
  tick_end,
  other,
  Step,
  step_of,
  turned,
  raising,
  skipping,
  refusal_step,
  next_tick,
  if_tick,
  apply,
  tick_rule,
  if_read,
  with_rule,
}
use Rattle.state.specs.declared.Entries.{Entries}
use Rattle.state.specs.declared.Scalars.{Scalars}
use Rattle.state.specs.declared.Rule.{Rule}
use Rattle.state.specs.declared.Rule.TheVariants.{Reads, Ends, Over}

-- ---- good states

abbrev pub good_player : List ℕ → List ℤ → List ℤ → ℕ → Bool
good_player marks xs ys c = good_entry (get_or marks c 0) (zero_in xs c && zero_in ys c)

abbrev pub zero_at : List ℤ → ℕ → ℕ → Bool
zero_at inputs c k = zero_in inputs (10 * c + k)

abbrev pub good_input : List ℕ → List ℤ → ℕ → Bool
good_input held inputs c = good_entry (get_or held c 0) (ten_zeros inputs c)

abbrev pub good_kind : Version → Kind → Bool
good_kind v k = good_sort v (sort_of k)

-- ---- ticks

abbrev pub ticking : ℤ → Bool → Option ℤ → Option Kind → Scalars → Scalars
ticking t i p k s = turned s t i p s.largest k s.standing

abbrev pub skipped : Scalars → Memory → ℕ → Option ℤ → Step
skipped s m n x =
    let ends : ℤ → Step = λ t. step_of (gives (tick_end s.tick) n) (skipping t false s) m in
    let starts : ℤ → Step = λ t. step_of (gives (tick_start t) n) (skipping t true s) m in
    if_tick (λ t. cond s.inside (ends t) (starts t)) (refusal_step TickOverflow s m) x

abbrev pub ends_at : Option ℤ → Rule
ends_at x = if_tick Ends Over x

abbrev pub comes_again : ℤ → Bool → Rule
comes_again t b = cond b (ends_at (next_tick t 0)) Reads

-- ---- a call

abbrev pub other_record : Scalars → Memory → Content Part → ℕ → Step
other_record s m c n = step_of (gives (other c) n) (raising (cid_of c) s) m

abbrev pub with_rest : Scalars → Memory → Bool → Reading (Content Part) → Step
with_rest s m last x = if_read s m last (apply s m) x

abbrev pub with_kind : Scalars → Memory → List ℕ → Bool → Reading Kind → Step
with_kind s m w last x = if_read s m last (λ k n. with_rule s m w last k n (tick_rule s k)) x

-- entries, with zeros for the numbers of an input
abbrev pub memory_of : Entries → Memory
memory_of e = record { entries = e; input = zeros 10; former = zeros 10 }
