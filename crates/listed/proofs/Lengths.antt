-- A finish uses 16 bytes at least, those of its identifier, so a run has fewer finishes than bytes. Assumes nothing.
use Prim.Native.Nat.{ℕ, zero, suc, ◌+◌, ◌*◌, ◌≤◌, zero-le}
use mathlib.Core.Path.{subst}
use mathlib.Core.Bool.{Bool, false}
use mathlib.Core.List.{List, [], ◌∷◌, ◌++◌}
use native.Mathlib.Omega.{arith}
use lib.Dec.{leb}
use lib.ListN.{length, drop, length-append}
use lib.IntN.{ℤ}
use Rattle.packer.specs.Parts.{read_raw}
use Rattle.packer.specs.declared.Part.{Part}
use Rattle.fields.specs.Fields.{Value, Reading, got, runs_out, refused, read_fields}
use Rattle.item.specs.Said.{Said, gives, more, finish, refuses}
use Rattle.item.specs.Records.{Content, Rest, fields, extension, rest_of, as_content, read_ex, read_as, read_rest}
use Rattle.item.specs.Contents.{by_tag}
use Rattle.item.specs.declared.Tag.TheVariants.{Plain}
use Rattle.kinds.specs.declared.Kind.{Kind}
use Rattle.state.specs.declared.Memory.{Memory}
use Rattle.state.specs.Reading.{Event, Step, reader_after}
use Rattle.state.specs.Acts.{Act, ReadAct}
use Rattle.state.specs.Acts as act
use Rattle.state.specs.declared.Entries.{Entries}
use Rattle.state.specs.declared.Scalars.{Scalars}
use Rattle.state.specs.declared.Reader.{Reader}
use Rattle.state.proofs.Every.{by_cond}
use Rattle.state.proofs.Acts.{read_acts}
use Rattle.written.proofs.Ahead.{PartPast, Past, after_id_law}
use Rattle.calls.specs.Calls.{Call}
use Rattle.calls.specs.Along.{along}
use Rattle.calls.proofs.Runs.{first_step, follow}
use Rattle.results.specs.Results.{Finish, is_player_finish, finish_in, finish_of, tick_after, finishes_in, is_listed, others_in}
use Rattle.listing.specs.Listing.{events_of}

-- ---- a record

abbrev Long : Reading (Content Part) → Type 0
Long (got c n) = (k : ℤ) → 16 * length (finish_in k c) ≤ n
Long runs_out = Unit {0}
Long (refused r) = Unit {0}

plain_long : (kind : Kind) (x : Reading (List (Value Part))) → Long (as_content (Plain kind) x)
plain_long kind (got vs n) = λ k. zero-le
plain_long kind runs_out = tt
plain_long kind (refused r) = tt

one_at_most : (k : ℤ) (c : Content Part) → length (finish_in k c) ≤ 1
one_at_most k c =
    by_cond (λ (fs : List Finish). length fs ≤ 1) (by_tag (λ kind. false) is_player_finish false c.tag) (λ _. omega arith) (λ _. omega arith)

long_past : (x : Reading (Content Part)) → Past 16 x → Long x
long_past (got c n) h = λ k. omega (arith, one_at_most k c)
long_past runs_out h = tt
long_past (refused r) h = tt

ex_past : (s : List ℕ) (at : ℕ) → Past 16 (read_ex s at)
unfolding read_ex read_raw
ex_past s at =
    after_id_law s 16 (read_raw 16 s at) (by_cond (PartPast 16) (leb (at + 16) (length s)) (λ _. omega arith) (λ _. tt))

as_long : (s : List ℕ) (kind : Kind) (r : Rest) (at : ℕ) → Long (read_as s kind r at)
as_long s kind (fields fs gs) at = plain_long kind (read_fields (fs ++ gs) s at)
as_long s kind extension at = long_past (read_ex s at) (ex_past s at)

rest_long : (kind : Kind) (s : List ℕ) (at : ℕ) → Long (read_rest kind s at)
unfolding read_rest
rest_long kind s at = as_long s kind (rest_of kind) at

-- ---- a call

abbrev LongSaid : Said Event → Type 0
LongSaid (gives e n) = (k : ℤ) → 16 * length (finish_of k e) ≤ n
LongSaid more = Unit {0}
LongSaid (finish n) = Unit {0}
LongSaid (refuses k vs) = Unit {0}

module _ {s : Scalars} {e : Entries} {w : List ℕ} {last : Bool} (m : Memory) where
  act_long : {f : Memory → Step} → Act s e w last f → LongSaid (f m).said
  act_long (act.wants_more l _) = tt
  act_long (act.finishes d o) = tt
  act_long (act.refuses_plain r _) = tt
  act_long (act.refuses_player r c _) = tt
  act_long (act.refuses_input r c _) = tt
  act_long (act.refuses13 _ _ b p) = tt
  act_long (act.tick_starts d q o) = λ k. zero-le
  act_long (act.tick_ends d p i b x) = λ k. zero-le
  act_long (act.last_tick_ends d i) = λ k. zero-le
  act_long (act.skip_starts d o x) = λ k. zero-le
  act_long (act.skip_ends d i x) = λ k. zero-le
  act_long (act.player_comes d g b o) = λ k. zero-le
  act_long (act.player_moves d g p x y) = λ k. zero-le
  act_long (act.player_leaves d g p) = λ k. zero-le
  act_long (act.input_comes d i f b) = λ k. zero-le
  act_long (act.input_moves d i f p) = λ k. zero-le
  act_long (act.passes {k} d o i) = subst Long d.rest (rest_long k w d.at)

read_long : {r : Reader} {w : List ℕ} {last : Bool} {t : Step} → ReadAct r w last t → LongSaid t.said
read_long (act.on_bad g) = tt
read_long (act.on_closed g c) = tt
read_long (act.on_open g o a) = act_long _ a

-- ---- a run

module _ (see : List ℕ → Call) where
  long_said : (c : ℕ) (r : Reader) (bytes : List ℕ) (x : Said Event) → LongSaid x
      → ((q : Reader) (l : List ℕ) (k : ℤ) → 16 * length (finishes_in k (events_of (along see c q l).seen)) ≤ (along see c q l).used)
      → (k : ℤ) → 16 * length (finishes_in k (events_of (follow see c r bytes x).seen)) ≤ (follow see c r bytes x).used
  unfolding finishes_in
  long_said c r bytes (gives e n) h again k =
      omega (arith, h k, again (reader_after (first_step see c r bytes)) (drop n bytes) (tick_after k e), length-append (finish_of k e) (finishes_in (tick_after k e) (events_of (along see c (reader_after (first_step see c r bytes)) (drop n bytes)).seen)))
  long_said c r bytes more h again k = zero-le
  long_said c r bytes (finish n) h again k = zero-le
  long_said c r bytes (refuses j vs) h again k = zero-le

  pub run_long : (c : ℕ) (r : Reader) (bytes : List ℕ) (k : ℤ)
      → 16 * length (finishes_in k (events_of (along see c r bytes).seen)) ≤ (along see c r bytes).used
  unfolding along finishes_in
  run_long zero r bytes k = zero-le
  run_long (suc c) r bytes k =
      long_said c r bytes (first_step see c r bytes).said (read_long (read_acts r (see bytes).window (see bytes).last)) (λ q l j. run_long c q l j) k

-- ---- finishes of clients that are not listed

pub others_fewer : (fs : List Finish) → others_in fs ≤ length fs
unfolding others_in
others_fewer [] = zero-le
others_fewer (f ∷ fs) =
    let rest = others_fewer fs in
    by_cond (λ (n : ℕ). n + others_in fs ≤ suc (length fs)) (is_listed f.client) (λ _. omega arith) (λ _. omega arith)
