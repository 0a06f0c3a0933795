-- The arguments as the code passes over them, byte by byte: the place past them is that of the definition. Assumes nothing.
use Prim.Native.Nat.{ℕ, zero, suc, ◌+◌, ◌≤◌, ◌<◌}
use mathlib.Core.Path.{◌≡◌, sym, ◌∙◌, ap}
use mathlib.Core.Bool.{cond}
use mathlib.Core.List.{List, [], ◌∷◌, ◌++◌}
use native.Mathlib.Omega.{arith}
use native.Mathlib.Numerals.{add-one}
use lib.Dec.{eqb, ltb}
use lib.ListN.{length, get_or, drop, length-append, drop_of_length-le}
use lib.Seq.{drop-drop, drop-cons}
use borrow.Author.Tests.{ltb-true, ltb-false, lt-ltb, le-ltb, eq-eqb, ne_eqb}
use Rattle.num.proofs.Cases.{by_bool}
use Rattle.refusal.specs.declared.Refusal.TheVariants.{NumArgsTooLarge}
use Rattle.packer.specs.Parts.{part, read_string, string_from}
use Rattle.packer.specs.declared.Part.{Part}
use Rattle.packer.specs.declared.PartRead.TheVariants as parts
use Rattle.fields.specs.Fields.{Reading, args_from}
use Rattle.fields.specs.steps.Sorts.{one_arg}
use Rattle.fields.specs.steps.Reads.{args_read}
use Rattle.fields.specs.declared.ArgsAnswer.{ArgsAnswer}
use Rattle.fields.specs.declared.ArgsAnswer.TheVariants.{Got, RunsOut, Refused}

-- the bytes from i on, where so many of n strings were passed
unfoldable pub passing : List ℕ → ℕ → ℕ → ℕ → ArgsAnswer
passing [] n passed i = cond (ltb passed n) RunsOut (Got i)
passing (b ∷ t) n passed i =
    cond (ltb passed n)
    (cond (eqb b 0) (cond (eqb passed 16) (Refused NumArgsTooLarge) (passing t n (passed + 1) (i + 1))) (passing t n passed (i + 1)))
    (Got i)

pub pass_done : (t : List ℕ) (n passed i : ℕ) → n ≤ passed → passing t n passed i ≡ Got i
unfolding passing
pass_done [] n passed i h = rw (le-ltb passed n h)
pass_done (b ∷ t) n passed i h = rw (le-ltb passed n h)

abbrev answer_of : Reading (List Part) → ArgsAnswer
answer_of x = (args_read x).answer

-- m strings more, after those that were had
abbrev Passes : List ℕ → ℕ → Type 0
Passes s m =
    (had : List Part) (at : ℕ) → length had ≤ 16
    → answer_of (args_from m s had at) ≡ passing (drop at s) (length had + m) (length had) at

module _ (s : List ℕ) (m : ℕ) (more : Passes s m) (had : List Part) (few : length had ≤ 16) where
  abbrev after : List ℕ → ℕ → ArgsAnswer
  after t next = cond (eqb (length had) 16) (Refused NumArgsTooLarge) (passing t (length had + suc m) (length had + 1) next)

  module _ (t : List ℕ) (p : Part) (next : ℕ) (e : drop next s ≡ t) where
    one_more : length had < 16 → answer_of (one_arg (parts.Got p next) had (args_from m s)) ≡ after t next
    one_more h =
        let l : length (had ++ p ∷ []) ≡ length had + 1 = length-append had (p ∷ []) in
        let q : length had + 1 + m ≡ length had + suc m = omega arith in
        let d : length had ≡ 16 → ⊥ = λ z. omega arith in
        rw (lt-ltb (length had) 16 h, ne_eqb (length had) 16 d)
        (rw (l, q, e) at (more (had ++ p ∷ []) next (omega (arith, l))))

    too_many : 16 ≤ length had → answer_of (one_arg (parts.Got p next) had (args_from m s)) ≡ after t next
    too_many h = let d : length had ≡ 16 = omega arith in rw (le-ltb (length had) 16 h, eq-eqb (length had) 16 d)

    ended : answer_of (one_arg (parts.Got p next) had (args_from m s)) ≡ after t next
    ended =
        by_bool (ltb (length had) 16) (λ z. one_more (ltb-true (length had) 16 z)) (λ z. too_many (ltb-false (length had) 16 z))

  -- a string that began at `at` and has j bytes so far
  one_string : (at : ℕ) (t : List ℕ) (j : ℕ) → drop (at + j) s ≡ t
      → answer_of (one_arg (string_from t at j) had (args_from m s)) ≡ passing t (length had + suc m) (length had) (at + j)
  unfolding string_from passing
  one_string at [] j e = rw (lt-ltb (length had) (length had + suc m) (omega arith))
  one_string at (b ∷ t) j e =
      let d : drop (at + j + 1) s ≡ t = sym (drop-drop 1 (at + j) s) ∙ ap (drop 1) e in
      let q : at + (j + 1) ≡ at + j + 1 = omega arith in
      rw (lt-ltb (length had) (length had + suc m) (omega arith))
      (by_bool (eqb b 0)
      (λ z. rw z (ended t (part at j) (at + j + 1) d))
      (λ z. rw (z, ← q) (one_string at t (j + 1) (rw q d))))

passes : (s : List ℕ) (m : ℕ) → Passes s m
unfolding args_from read_string
passes s zero had at h = sym (pass_done (drop at s) (length had + 0) (length had) at (omega arith))
passes s (suc m) had at h =
    let q : at + 0 ≡ at = omega arith in
    rw q at (one_string s m (passes s m) had h at (drop at s) 0 (rw q))

pub pass_start : (s : List ℕ) (n at : ℕ) → (args_read (args_from n s [] at)).answer ≡ passing (drop at s) n 0 at
pass_start s n at = let q : 0 + n ≡ n = omega arith in rw q at (passes s n [] at (omega arith))

-- ---- one byte of the window

front : (s : List ℕ) (i : ℕ) → i < length s → drop i s ≡ get_or s i 0 ∷ drop (i + 1) s
front s i h = rw (add-one, drop-cons s i 0)

module _ (s : List ℕ) (n passed i : ℕ) (some : passed < n) where
  pub pass_out : length s ≤ i → passing (drop i s) n passed i ≡ RunsOut
  unfolding passing
  pass_out h = simp (drop_of_length-le s h, lt-ltb passed n some)

  module _ (inside : i < length s) where
    pub pass_byte : (get_or s i 0 ≡ 0 → ⊥) → passing (drop i s) n passed i ≡ passing (drop (i + 1) s) n passed (i + 1)
    unfolding passing
    pass_byte h = rw (front s i inside, lt-ltb passed n some, ne_eqb (get_or s i 0) 0 h)

    module _ (zero-byte : get_or s i 0 ≡ 0) where
      pub pass_one : (passed ≡ 16 → ⊥) → passing (drop i s) n passed i ≡ passing (drop (i + 1) s) n (passed + 1) (i + 1)
      unfolding passing
      pass_one h = rw (front s i inside, lt-ltb passed n some, eq-eqb (get_or s i 0) 0 zero-byte, ne_eqb passed 16 h)

      pub pass_many : passed ≡ 16 → passing (drop i s) n passed i ≡ Refused NumArgsTooLarge
      unfolding passing
      pass_many h = rw (front s i inside, lt-ltb passed n some, eq-eqb (get_or s i 0) 0 zero-byte, eq-eqb passed 16 h)
