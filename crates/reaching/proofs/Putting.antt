-- The chosen records put one behind the other into memory that has room for them. Assumes nothing.
use Rattle.std.specs.Prelude.{Option, Some, None, Result, Ok, Err}
use Prim.Native.Nat.{ℕ, suc, ◌+◌, ◌*◌, ◌≤◌, ◌<◌}
use mathlib.Core.Path.{◌≡◌, refl, sym, ◌∙◌, ap}
use mathlib.Core.Bool.{true}
use mathlib.Core.List.{List, [], ◌∷◌, ◌++◌, append-nil}
use native.Mathlib.Omega.{arith}
use native.Mathlib.Nat.{mul-le-mul_right, suc-mul}
use native.Mathlib.Numerals.{add-one}
use lib.Dec.{ltb, leb}
use lib.ListN.{length, drop, length-append}
use lib.Seq.{take_at}
use borrow.Author.Tests.{le-leb, lt-ltb, le-ltb, ltb-true, ltb-false}
use Rattle.num.proofs.Cases.{by_bool}
use Rattle.refusal.specs.Said.{gives, refusing}
use Rattle.refusal.specs.declared.Refusal.{Refusal}
use Rattle.varint.specs.Written.{written, wrote_said, writing}
use Rattle.packer.specs.Parts.{part, shown}
use Rattle.packer.proofs.Joined.{written_length, nothing_put, two_puts}
use Rattle.kinds.specs.declared.Version.{Version}
use Rattle.item.specs.Records.{meaning}
use Rattle.item.specs.Contents.{record_of}
use Rattle.item.specs.declared.Record.{Record}
use Rattle.written.specs.Written.{write_content, record_bytes}
use Rattle.written.specs.Unwritable.{Writes, record_writable}
use Rattle.record_writer.specs.steps.Puts.{PutsBytes}
use Rattle.choice.specs.Chosen.{Rec, joined, is_some, bytes_of}
use Rattle.choice.proofs.Lengths.{bytes_append, joined_le, some_bytes}
use Rattle.choosing.specs.Choice.{choice_is, can_write, ChoosesIn}
use Rattle.reaching.specs.steps.Puts.{Ready}

-- ---- one choice

none_bytes : bytes_of [] ≡ []
unfolding bytes_of
none_bytes = refl

one_bytes : (c : Rec) → bytes_of (c ∷ []) ≡ write_content c
unfolding bytes_of
one_bytes c = append-nil (write_content c)

same_place : (m n : ℕ) → gives m 0 ≡ gives n 0 → m ≡ n
same_place m n e = cc

no_refusal : {A : Type 0} (r : Refusal) (n : ℕ) → refusing r ≡ gives n 0 → A
no_refusal r n e = let z : ◌≡◌ {A = ℕ} 0 1 = cc in absurd (omega arith)

pub put_none : (v : Version) (c : Option Record) (xs : List ℕ) (at : ℕ) → Ready v c xs at → c ≡ None → PutsBytes xs at (bytes_of (choice_is c)) at xs
put_none v c xs at h e =
    let b : bytes_of (choice_is c) ≡ [] = ap (λ (d : Option Record). bytes_of (choice_is d)) e ∙ none_bytes in
    let r : at + length (bytes_of (choice_is c)) ≤ length xs = h.room in
    rw b (omega arith, nothing_put xs at (omega arith))

module _ (v : Version) (c : Option Record) (value : Record) (e : c ≡ Some value) (xs : List ℕ) (at : ℕ) (h : Ready v c xs at)
    (w : Result ℕ Refusal) (ys : List ℕ) (p : Writes v [] value xs at w ys) where
  bytes_are : bytes_of (choice_is c) ≡ record_bytes [] value
  unfolding record_bytes
  bytes_are = ap (λ (d : Option Record). bytes_of (choice_is d)) e ∙ one_bytes (meaning [] (record_of value))

  can : record_writable v [] value ≡ true
  can = sym (ap (can_write v) e) ∙ h.writable

  fits : at + length (record_bytes [] value) ≤ length xs
  fits = rw bytes_are at h.room

  answered : wrote_said w ≡ gives (at + length (record_bytes [] value)) 0
  unfolding writing
  answered = p.answer ∙ rw (can, le-leb (at + length (record_bytes [] value)) (length xs) fits)

  pub put_past : (next : ℕ) → w ≡ Ok next → PutsBytes xs at (bytes_of (choice_is c)) next ys
  put_past next ew =
      rw bytes_are (
        same_place next (at + length (record_bytes [] value)) (sym (ap wrote_said ew) ∙ answered),
        p.target ∙ rw can,
      )

  pub never_refused : {A : Type 0} (r : Refusal) → w ≡ Err r → A
  never_refused r ew = no_refusal r (at + length (record_bytes [] value)) (sym (ap wrote_said ew) ∙ answered)

-- a choice of at most k bytes
pub ready_at : (v : Version) (cs : List Rec) (k : ℕ) → length (bytes_of cs) ≤ k → (c : Option Record) → ChoosesIn v cs c → (xs : List ℕ) (at : ℕ)
    → at + k ≤ length xs → Ready v c xs at
ready_at v cs k f c h xs at room = record { writable = h.writable; room = rw h.is (omega arith) }

-- ---- records ds behind others, cs, of at most l and k bytes

module _ (cs ds : List Rec) (k l : ℕ) (fc : length (bytes_of cs) ≤ k) (fd : length (bytes_of ds) ≤ l) (xs : List ℕ) (at : ℕ)
    (room : at + (k + l) ≤ length xs) (next : ℕ) (ys : List ℕ) (p : PutsBytes xs at (bytes_of cs) next ys) where
  both_fit : at + length (bytes_of cs ++ bytes_of ds) ≤ length xs
  both_fit = omega (arith, length-append (bytes_of cs) (bytes_of ds))

  kept_length : length ys ≡ length xs
  kept_length = ap length p.1 ∙ written_length xs at (bytes_of cs) (omega arith)

  pub second_room : next + l ≤ length ys
  second_room = omega (arith, p.0, kept_length)

  pub both_put : (m : ℕ) (zs : List ℕ) → PutsBytes ys next (bytes_of ds) m zs → PutsBytes xs at (bytes_of (cs ++ ds)) m zs
  both_put m zs q = rw (bytes_append cs ds) (two_puts xs at (bytes_of cs) (bytes_of ds) both_fit next ys p m zs q)

-- ---- one place of the choice after the other: n places, of at most k bytes each

pub nothing_yet : (f : ℕ → List Rec) (xs : List ℕ) (at : ℕ) → at ≤ length xs → PutsBytes xs at (bytes_of (joined 0 f)) at xs
unfolding joined
nothing_yet f xs at h = rw none_bytes (omega arith, nothing_put xs at h)

module _ (f : ℕ → List Rec) (n k : ℕ) (small : (i : ℕ) → i < n → length (bytes_of (f i)) ≤ k) (xs : List ℕ) (at : ℕ)
    (room : at + n * k ≤ length xs) where
  front_le : (i : ℕ) → i ≤ n → length (bytes_of (joined i f)) ≤ i * k
  front_le i h = joined_le i f k (λ j g. small j (omega arith))

  pub all_fit : (i : ℕ) → i ≤ n → at + length (bytes_of (joined i f)) ≤ length xs
  all_fit i h = omega (arith, front_le i h, mul-le-mul_right {m = i} {n = n} k h)

  module _ (i : ℕ) (under : i < n) (next : ℕ) (ys : List ℕ) (p : PutsBytes xs at (bytes_of (joined i f)) next ys) (v : Version)
      (c : Option Record) (h : ChoosesIn v (f i) c) where
    turn_room_law : at + (i * k + k) ≤ length xs
    turn_room_law = omega (arith, mul-le-mul_right {m = suc i} {n = n} k (omega arith), suc-mul i k)

    pub turn_ready : Ready v c ys next
    turn_ready =
        ready_at v (f i) k (small i under) c h ys next
        (second_room (joined i f) (f i) (i * k) k (front_le i (omega arith)) (small i under) xs at turn_room_law next ys p)

    pub turn_put : (m : ℕ) (zs : List ℕ) → PutsBytes ys next (bytes_of (choice_is c)) m zs → PutsBytes xs at (bytes_of (joined (i + 1) f)) m zs
    unfolding joined
    turn_put m zs q =
        rw add-one
        (both_put (joined i f) (f i) (i * k) k (front_le i (omega arith)) (small i under) xs at turn_room_law next ys p m zs (rw h.is at q))

-- ---- whether anything was put

pub something_put : (cs : List Rec) (start past : ℕ) → past ≡ start + length (bytes_of cs) → ltb start past ≡ is_some cs
something_put cs start past e =
    rw (some_bytes cs)
    (by_bool (ltb 0 (length (bytes_of cs)))
    (λ t. rw t (lt-ltb start past (omega (arith, ltb-true 0 (length (bytes_of cs)) t))))
    (λ t. rw t (le-ltb start past (omega (arith, ltb-false 0 (length (bytes_of cs)) t)))))

-- ---- what was put at the front, shown again

pub front_shown : (xs bs : List ℕ) → length bs ≤ length xs → (n : ℕ) (ys : List ℕ) → PutsBytes xs 0 bs n ys → shown ys (part 0 n) ≡ bs
unfolding shown written
front_shown xs bs h n ys p =
    let z : 0 + length bs ≡ length bs = omega arith in
    let f : leb (length bs) (length xs) ≡ true = le-leb (length bs) (length xs) h in
    let e : ys ≡ bs ++ drop (length bs) xs = p.1 ∙ rw (z, f) in
    let m : n ≡ length bs = p.0 ∙ z in
    let l : leb (length bs) (length (bs ++ drop (length bs) xs)) ≡ true =
    le-leb (length bs) (length (bs ++ drop (length bs) xs)) (omega (arith, length-append bs (drop (length bs) xs))) in
    rw (e, m, z, l) (take_at bs (drop (length bs) xs) (length bs) refl)
