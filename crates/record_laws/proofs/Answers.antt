-- Answers taken apart: of a writer, of the record call, and what a reading means. Assumes nothing.
use Rattle.std.specs.Prelude.{Result, Ok, Err}
use Prim.Native.Nat.{ℕ, ◌+◌, ◌≤◌}
use mathlib.Core.Path.{◌≡◌, refl, ap}
use mathlib.Core.Bool.{Bool, true, false, cond}
use mathlib.Core.List.{List, ◌++◌, append_assoc}
use native.Mathlib.Omega.{arith}
use lib.ListN.{length, take, drop}
use lib.Seq.{take_at, drop_at, length-take-le}
use borrow.Author.Tests.{leb-true, le-leb}
use Rattle.refusal.specs.declared.Refusal.{Refusal}
use Rattle.refusal.specs.Said.{gives, refusing}
use Rattle.refusal.specs.declared.Refusal.TheVariants.{ShortTarget}
use Rattle.varint.specs.Written.{fits_at, written, wrote_said, writing}
use Rattle.packer.specs.declared.Part.{Part}
use Rattle.fields.specs.Fields.{Reading, got, runs_out, refused}
use Rattle.item.specs.Records.{Content, meaning}
use Rattle.item.specs.Contents.{record_of}
use Rattle.item.specs.declared.Record.{Record}
use Rattle.record_call.specs.Calls.{said_by}
use Rattle.record_call.specs.declared.CallAnswer.{CallAnswer}
use Rattle.record_call.specs.declared.CallAnswer.TheVariants as calls
use Rattle.written.specs.Laws.{meant}

-- ---- a writer

pub past_is : (w : Result ℕ Refusal) (n : ℕ) → wrote_said w ≡ gives n 0 → w ≡ Ok n
past_is (Ok m) n e = cc
past_is (Err r) n e = cc

fits_past : (fits : Bool) (n next : ℕ) → cond fits (gives n 0) (refusing ShortTarget) ≡ gives next 0 → (fits ≡ true) × (next ≡ n)
fits_past true n next e = (refl, cc)
fits_past false n next e = (cc, cc)

-- bytes were written: they have a written form, and there was room
pub record Room (ok : Bool) (xs : List ℕ) (at : ℕ) (bs : List ℕ) (next : ℕ) : Type 0 where
  pub writable : ok ≡ true
  pub past : next ≡ at + length bs
  pub fits : at + length bs ≤ length xs

pub has_room : (ok : Bool) (xs : List ℕ) (at : ℕ) (bs : List ℕ) (next : ℕ) → writing ok xs at bs ≡ gives next 0 → Room ok xs at bs next
unfolding writing
has_room true xs at bs next e =
    let f = fits_past (fits_at xs at bs) (at + length bs) next e in
    record { writable = refl; past = f.1; fits = leb-true (at + length bs) (length xs) f.0 }
has_room false xs at bs next e = let z : ◌≡◌ {A = ℕ} 0 1 = cc in absurd (omega arith)

-- they stand in the target
pub stands : (xs : List ℕ) (at : ℕ) (bs : List ℕ) → at + length bs ≤ length xs → take (length bs) (drop at (written xs at bs)) ≡ bs
unfolding written
stands xs at bs h =
    let rest = drop (at + length bs) xs in
    let l : length (take at xs) ≡ at = length-take-le at xs (omega arith) in
    rw (le-leb (at + length bs) (length xs) h, append_assoc (take at xs) bs rest, drop_at (take at xs) (bs ++ rest) at l)
    (take_at bs rest (length bs) refl)

-- into a target with room for n bytes
pub written_there : (xs : List ℕ) (at : ℕ) (bs : List ℕ) (n : ℕ) → length bs ≡ n → at + n ≤ length xs
    → (writing true xs at bs ≡ gives (at + n) 0) × (written xs at bs ≡ take at xs ++ bs ++ drop (at + n) xs)
unfolding writing written
written_there xs at bs n l h =
    let f : fits_at xs at bs ≡ true = le-leb (at + length bs) (length xs) (omega arith) in
    (rw (f, l), rw (f, l))

-- ---- the record call

pub said_got : (a : CallAnswer) (r : Record) (d : Content Part) (n : ℕ) → said_by a r ≡ gives d n → (a ≡ calls.Got n) × (record_of r ≡ d)
said_got (calls.Got m) r d n e = (cc, cc)
said_got calls.More r d n e = (cc, cc)
said_got (calls.Refused q) r d n e = (cc, cc)

-- ---- what a reading means

pub record Meant (s : List ℕ) (x : Reading (Content Part)) (m : Content (List ℕ)) (n : ℕ) : Type 0 where
  pub read : Content Part
  pub is : x ≡ got read n
  pub same : meaning s read ≡ m

pub meant_got : (s : List ℕ) (x : Reading (Content Part)) (m : Content (List ℕ)) (n : ℕ) → meant s x ≡ got m n → Meant s x m n
meant_got s (got d k) m n e =
    let q : k ≡ n = cc in
    record { read = d; is = ap (got d) q; same = cc }
meant_got s runs_out m n e = let z : ◌≡◌ {A = ℕ} 0 1 = cc in absurd (omega arith)
meant_got s (refused r) m n e = let z : ◌≡◌ {A = ℕ} 0 1 = cc in absurd (omega arith)
