-- The kind that a number says: three sorts of answer, for all numbers. What was read as a kind, and a kind that stands at a place.
-- Assumes nothing.
use Rattle.std.specs.Prelude.{Option, None}
use Prim.Native.Nat.{ℕ, zero, suc, ◌+◌, ◌≤◌}
use mathlib.Core.Path.{◌≡◌, refl, sym, ◌∙◌, ap}
use mathlib.Core.Bool.{true, false≢true}
use mathlib.Core.List.{List, [], ◌++◌, append_assoc, append-nil}
use native.Mathlib.Omega.{arith}
use lib.ListN.{length, drop, length-append}
use lib.IntN.{ℤ, pos, negsuc}
use mir.Syntax.{w32}
use mir.Val.{SFits}
use Rattle.refusal.specs.declared.Refusal.{Refusal}
use Rattle.refusal.specs.declared.Refusal.TheVariants.{UnknownType}
use Rattle.varint.specs.Integers.{read_int}
use Rattle.varint.specs.Written.{canonical}
use Rattle.varint.specs.Laws.{Bytes}
use Rattle.varint.specs.declared.Remark.{Remark}
use Rattle.varint.specs.declared.IntRead.{IntRead}
use Rattle.varint.specs.declared.IntRead.TheVariants as ints
use Rattle.varint.proofs.Prefix.{canonical_at}
use Rattle.packer.proofs.Places.{past}
use Rattle.fields.specs.Fields.{int, num, got, refused}
use Rattle.fields.specs.Remarks.{remark_in}
use Rattle.fields.proofs.Answers.{not_out, not_refused, same_got}
use Rattle.fields.proofs.Taken.{field_taken}
use Rattle.kinds.specs.Kinds.{kind_of, read_kind, kind_number, by_client, kind_row}
use Rattle.kinds.specs.steps.Kinds.{with_client, extension_kind, after_number}
use Rattle.item.specs.Records.{Rest, fields, extension, rest_of}
use Rattle.item.specs.Remarks.{client_remark}
use Rattle.kinds.specs.declared.Version.{Version}
use Rattle.kinds.specs.declared.Version.TheVariants.{V1, V2}
use Rattle.kinds.specs.declared.Kind.{Kind}
use Rattle.kinds.specs.declared.Kind.TheVariants as kinds
use Rattle.written.specs.Written.{kind_bytes, has_ex}
use Rattle.written.specs.Form.{kind_writable}
use Rattle.written.specs.Laws.{kind_numbers}

-- a client that follows the number
abbrev client_bytes : Kind → List ℕ
client_bytes k = by_client [] (λ c. []) canonical [] (kind_row k).client

-- ---- what a number says

-- a kind that was read can be written: an extension in version 2, each other kind by itself
abbrev pub Allowed : Version → Kind → Rest → Type 0
Allowed v k (fields fs gs) = kind_writable k ≡ true
Allowed v k extension = has_ex v ≡ true

-- the kind k has the number z and the bytes cs for its client
pub record Numbered (v : Version) (z : ℤ) (k : Kind) (cs : List ℕ) : Type 0 where
  pub number : kind_number k ≡ z
  pub client : client_bytes k ≡ cs
  pub allowed : Allowed v k (rest_of k)

-- a kind; a kind with the client that follows; a refusal
pub data Sort (v : Version) (z : ℤ) : Type 0 where
  alone : (k : Kind) → Numbered v z k [] → ((s : List ℕ) (n : ℕ) → kind_of v s z n ≡ got k n) → Sort v z
  player :
      (make : ℤ → Kind)
      → ((c : ℤ) → Numbered v z (make c) (canonical c))
      → ((c : ℤ) (s : List ℕ) (n : ℕ) (r : Option Remark) → client_remark (make c) s (ints.Got z n r) ≡ remark_in (read_int s n))
      → ((s : List ℕ) (n : ℕ) → kind_of v s z n ≡ with_client make (read_int s n))
      → Sort v z
  none : (r : Refusal) → ((s : List ℕ) (n : ℕ) → kind_of v s z n ≡ refused r) → Sort v z

abbrev itself : (v : Version) (k : Kind) → Allowed v k (rest_of k) → Numbered v (kind_number k) k (client_bytes k)
itself v k a = record { number = refl; client = refl; allowed = a }

pub sort_of_law : (v : Version) (z : ℤ) → Sort v z
sort_of_law v (pos c) = alone (kinds.PlayerDiff (pos c)) (itself v (kinds.PlayerDiff (pos c)) refl) (λ s n. refl)
sort_of_law v (negsuc zero) = alone kinds.Finish (itself v kinds.Finish refl) (λ s n. refl)
sort_of_law v (negsuc (suc zero)) = alone kinds.TickSkip (itself v kinds.TickSkip refl) (λ s n. refl)
sort_of_law v (negsuc (suc (suc zero))) = player kinds.PlayerNew (λ c. itself v (kinds.PlayerNew c) refl) (λ c s n r. refl) (λ s n. refl)
sort_of_law v (negsuc (suc (suc (suc zero)))) = player kinds.PlayerOld (λ c. itself v (kinds.PlayerOld c) refl) (λ c s n r. refl) (λ s n. refl)
sort_of_law v (negsuc (suc (suc (suc (suc zero))))) = alone kinds.InputDiff (itself v kinds.InputDiff refl) (λ s n. refl)
sort_of_law v (negsuc (suc (suc (suc (suc (suc zero)))))) = alone kinds.InputNew (itself v kinds.InputNew refl) (λ s n. refl)
sort_of_law v (negsuc (suc (suc (suc (suc (suc (suc zero))))))) = alone kinds.Message (itself v kinds.Message refl) (λ s n. refl)
sort_of_law v (negsuc (suc (suc (suc (suc (suc (suc (suc zero)))))))) = alone kinds.Join (itself v kinds.Join refl) (λ s n. refl)
sort_of_law v (negsuc (suc (suc (suc (suc (suc (suc (suc (suc zero))))))))) = alone kinds.Drop (itself v kinds.Drop refl) (λ s n. refl)
sort_of_law v (negsuc (suc (suc (suc (suc (suc (suc (suc (suc (suc zero)))))))))) = alone kinds.ConsoleCommand (itself v kinds.ConsoleCommand refl) (λ s n. refl)
sort_of_law V1 (negsuc (suc (suc (suc (suc (suc (suc (suc (suc (suc (suc zero))))))))))) = none (UnknownType (negsuc 10)) (λ s n. refl)
sort_of_law V2 (negsuc (suc (suc (suc (suc (suc (suc (suc (suc (suc (suc zero))))))))))) = alone kinds.Ex (itself V2 kinds.Ex refl) (λ s n. refl)
sort_of_law v (negsuc (suc (suc (suc (suc (suc (suc (suc (suc (suc (suc (suc m)))))))))))) = none (UnknownType (negsuc (11 + m))) (λ s n. refl)

-- an extension's is the only kind whose rest is one
pub ex_only : (k : Kind) → rest_of k ≡ extension → k ≡ kinds.Ex
ex_only (kinds.PlayerDiff c) e = cc
ex_only kinds.Finish e = cc
ex_only kinds.TickSkip e = cc
ex_only (kinds.PlayerNew c) e = cc
ex_only (kinds.PlayerOld c) e = cc
ex_only kinds.InputDiff e = cc
ex_only kinds.InputNew e = cc
ex_only kinds.Message e = cc
ex_only kinds.Join e = cc
ex_only kinds.Drop e = cc
ex_only kinds.ConsoleCommand e = cc
ex_only kinds.Ex e = refl

-- ---- a kind that was read

-- the remarks on the integers of a kind
abbrev pub kind_remarks : Kind → List ℕ → ℕ → ℕ
kind_remarks k s at = remark_in (read_int s at) + client_remark k s (read_int s at)

pub record KindTaken (v : Version) (s : List ℕ) (at : ℕ) (k : Kind) (next : ℕ) : Type 0 where
  pub within : next ≤ length s
  pub allowed : Allowed v k (rest_of k)
  pub whole : Bytes s → kind_remarks k s at ≡ 0 → drop at s ≡ kind_bytes k ++ drop next s

module _ (v : Version) (s : List ℕ) (at : ℕ) (h : at ≤ length s) (z : ℤ) (n : ℕ) (r : Option Remark) (e : read_int s at ≡ ints.Got z n r) where
  alone_taken : (k : Kind) → Numbered v z k [] → KindTaken v s at k n
  alone_taken k x =
      let t = field_taken s at h int (num z) n (rw e) in
      record {
        within = t.within;
        allowed = x.allowed;
        whole = λ b q. t.whole b (omega arith) ∙ rw (x.number, x.client, append-nil);
      }

  player_taken : (k : Kind) (c : ℤ) → Numbered v z k (canonical c) → client_remark k s (ints.Got z n r) ≡ remark_in (read_int s n)
      → (m : ℕ) (p : Option Remark) → read_int s n ≡ ints.Got c m p → KindTaken v s at k m
  player_taken k c x mark m p f =
      let t = field_taken s at h int (num z) n (rw e) in
      let u = field_taken s n t.within int (num c) m (rw f) in
      record {
        within = u.within;
        allowed = x.allowed;
        whole =
            λ b q.
            let l : client_remark k s (read_int s at) ≡ remark_in (read_int s n) = ap (client_remark k s) e ∙ mark in
            t.whole b (omega arith)
            ∙ ap (λ l. canonical z ++ l) (u.whole b (omega arith))
            ∙ rw (x.number, x.client) (sym (append_assoc (canonical z) (canonical c) (drop m s)));
      }

  client_taken : (make : ℤ → Kind) → ((c : ℤ) → Numbered v z (make c) (canonical c))
      → ((c : ℤ) → client_remark (make c) s (ints.Got z n r) ≡ remark_in (read_int s n)) → (j : IntRead) → read_int s n ≡ j
      → (k : Kind) (next : ℕ) → with_client make j ≡ got k next → KindTaken v s at k next
  client_taken make x mark (ints.Got c m p) f k next g = same_got (KindTaken v s at) g (player_taken (make c) c (x c) (mark c) m p f)
  client_taken make x mark ints.RunsOut f k next g = not_out g

  sort_taken : Sort v z → (k : Kind) (next : ℕ) → kind_of v s z n ≡ got k next → KindTaken v s at k next
  sort_taken (alone l x is) k next g = same_got (KindTaken v s at) (sym (is s n) ∙ g) (alone_taken l x)
  sort_taken (player make x mark is) k next g = client_taken make x (λ c. mark c s n r) (read_int s n) refl k next (sym (is s n) ∙ g)
  sort_taken (none q is) k next g = not_refused (sym (is s n) ∙ g)

number_taken : (v : Version) (s : List ℕ) (at : ℕ) → at ≤ length s → (i : IntRead) → read_int s at ≡ i → (k : Kind) (next : ℕ)
    → after_number v s i ≡ got k next → KindTaken v s at k next
number_taken v s at h (ints.Got z n r) e k next g = sort_taken v s at h z n r e (sort_of_law v z) k next g
number_taken v s at h ints.RunsOut e k next g = not_out g

pub kind_taken : (v : Version) (s : List ℕ) (at : ℕ) → at ≤ length s → (k : Kind) (next : ℕ) → read_kind v s at ≡ got k next → KindTaken v s at k next
unfolding read_kind
kind_taken v s at h k next g = number_taken v s at h (read_int s at) refl k next g

-- ---- a kind that stands at a place

pub record KindBack (v : Version) (k : Kind) (s : List ℕ) (at : ℕ) : Type 0 where
  pub reads : read_kind v s at ≡ got k (at + length (kind_bytes k))
  pub clean : kind_remarks k s at ≡ 0

ex_kind : (v : Version) (n : ℕ) → has_ex v ≡ true → extension_kind v n ≡ got kinds.Ex n
ex_kind V1 n a = absurd (false≢true a)
ex_kind V2 n a = refl

module _ (v : Version) (s rest : List ℕ) (at : ℕ) where
  number_back : (k : Kind) → SFits w32 (kind_number k) → drop at s ≡ kind_bytes k ++ rest
      → read_int s at ≡ ints.Got (kind_number k) (at + length (canonical (kind_number k))) None
  number_back k f e =
      canonical_at (kind_number k) f s (client_bytes k ++ rest) at (e ∙ append_assoc (canonical (kind_number k)) (client_bytes k) rest)

  alone_back : (k : Kind) → SFits w32 (kind_number k) → client_bytes k ≡ [] → ((n : ℕ) → kind_of v s (kind_number k) n ≡ got k n)
      → ((i : IntRead) → client_remark k s i ≡ 0) → drop at s ≡ kind_bytes k ++ rest → KindBack v k s at
  unfolding read_kind
  alone_back k f c is mark e =
      let r = number_back k f e in
      record {
        reads = rw (r, is, c, append-nil);
        clean = rw (mark, r);
      }

  player_back : (make : ℤ → Kind) (c : ℤ) → SFits w32 (kind_number (make c)) → SFits w32 c → client_bytes (make c) ≡ canonical c
      → ((n : ℕ) → kind_of v s (kind_number (make c)) n ≡ with_client make (read_int s n))
      → ((n : ℕ) → client_remark (make c) s (ints.Got (kind_number (make c)) n None) ≡ remark_in (read_int s n))
      → drop at s ≡ kind_bytes (make c) ++ rest → KindBack v (make c) s at
  unfolding read_kind
  player_back make c f g x is mark e =
      let a = canonical (kind_number (make c)) in
      let r = number_back (make c) f e in
      let e1 : drop at s ≡ a ++ (canonical c ++ rest) = e ∙ rw x (append_assoc a (canonical c) rest) in
      let q = canonical_at c g s rest (at + length a) (past s a (canonical c ++ rest) at e1) in
      let n : at + length a + length (canonical c) ≡ at + length (a ++ canonical c) = omega (arith, length-append a (canonical c)) in
      record {
        reads = rw (r, is, q, n, x);
        clean = rw (r, mark (at + length a), q);
      }

  pub kind_back : (k : Kind) → kind_numbers k → Allowed v k (rest_of k) → drop at s ≡ kind_bytes k ++ rest → KindBack v k s at
  kind_back (kinds.PlayerDiff (pos c)) f a e = alone_back (kinds.PlayerDiff (pos c)) f refl (λ n. refl) (λ i. refl) e
  kind_back (kinds.PlayerDiff (negsuc c)) f a e = absurd (false≢true a)
  kind_back kinds.Finish f a e = alone_back kinds.Finish (record { sfits = omega arith }) refl (λ n. refl) (λ i. refl) e
  kind_back kinds.TickSkip f a e = alone_back kinds.TickSkip (record { sfits = omega arith }) refl (λ n. refl) (λ i. refl) e
  kind_back (kinds.PlayerNew c) f a e = player_back kinds.PlayerNew c (record { sfits = omega arith }) f refl (λ n. refl) (λ n. refl) e
  kind_back (kinds.PlayerOld c) f a e = player_back kinds.PlayerOld c (record { sfits = omega arith }) f refl (λ n. refl) (λ n. refl) e
  kind_back kinds.InputDiff f a e = alone_back kinds.InputDiff (record { sfits = omega arith }) refl (λ n. refl) (λ i. refl) e
  kind_back kinds.InputNew f a e = alone_back kinds.InputNew (record { sfits = omega arith }) refl (λ n. refl) (λ i. refl) e
  kind_back kinds.Message f a e = alone_back kinds.Message (record { sfits = omega arith }) refl (λ n. refl) (λ i. refl) e
  kind_back kinds.Join f a e = alone_back kinds.Join (record { sfits = omega arith }) refl (λ n. refl) (λ i. refl) e
  kind_back kinds.Drop f a e = alone_back kinds.Drop (record { sfits = omega arith }) refl (λ n. refl) (λ i. refl) e
  kind_back kinds.ConsoleCommand f a e = alone_back kinds.ConsoleCommand (record { sfits = omega arith }) refl (λ n. refl) (λ i. refl) e
  kind_back kinds.Ex f a e = alone_back kinds.Ex (record { sfits = omega arith }) refl (λ n. ex_kind v n a) (λ i. refl) e
