-- The lines: how long they are, and from which parts they are put. Assumes nothing.
use Rattle.std.specs.Prelude.{Option, Some, None, Result, Ok, Err}
use Prim.Native.Nat.{ℕ, ◌+◌, ◌*◌, ◌≤◌, ◌<◌}
use mathlib.Core.Path.{◌≡◌, sym, ◌∙◌, ap}
use mathlib.Core.Bool.{Bool, true, false}
use mathlib.Core.List.{List, [], ◌∷◌, ◌++◌, append_assoc}
use native.Mathlib.Omega.{arith}
use lib.ListN.{length, length-append}
use lib.IntN.{ℤ}
use lib.Dec.{leb}
use borrow.Author.Tests.{le-leb, lt-leb, leb-true, leb-false}
use Rattle.refusal.specs.declared.Refusal.{Refusal}
use Rattle.refusal.specs.declared.Refusal.TheVariants.{ShortTarget}
use Rattle.packer.proofs.Joined.{Put, first_fits, next_fits, two_puts}
use Rattle.item.specs.Contents.{cid_of}
use Rattle.item.specs.Numbers.{tag_number}
use Rattle.state.specs.Reading.{Event, tick_start, tick_end, player_new, player_change, player_old, input, other}
use Rattle.lines.specs.Lines.{
  spaced,
  decimals,
  newline,
  start_word,
  end_word,
  new_word,
  change_word,
  old_word,
  input_word,
  record_word,
  client,
  plain_line,
  record_line,
  line_of,
  longest,
  text_answer,
  text_target,
  line_answer,
  line_target,
}
use Rattle.lines.proofs.Numbers.{spaced_le}

numbers_le : (ns : List ℤ) → length (decimals ns) ≤ 12 * length ns
unfolding decimals
numbers_le [] = omega arith
numbers_le (z ∷ ns) = omega (arith, length-append (spaced z) (decimals ns), spaced_le z, numbers_le ns)

pub end_le : (ns : List ℤ) → length (decimals ns ++ newline) ≤ 12 * length ns + 1
end_le ns = omega (arith, length-append (decimals ns) newline, numbers_le ns)

-- a line of few numbers is no longer than the longest
pub line_fits : (word : List ℕ) (ns : List ℤ) (at size : ℕ) → at + longest ≤ size → length word + 12 * length ns ≤ 137
    → at + length (plain_line word ns) ≤ size
line_fits word ns at size h k = omega (arith, length-append word (decimals ns ++ newline), end_le ns)

-- no line is longer
module _ (ten : List ℤ) (h : length ten ≡ 10) where
  short : (word : List ℕ) (ns : List ℤ) → length word + 12 * length ns ≤ 137 → length (plain_line word ns) ≤ longest
  short word ns k = omega (arith, length-append word (decimals ns ++ newline), end_le ns)

  client_le : (i : Option ℤ) → length (client i) ≤ 12
  client_le (Some z) = omega (arith, numbers_le (z ∷ []))
  client_le None = omega arith

  pub line_le : (e : Event) → length (line_of e ten) ≤ longest
  line_le (tick_start t) = short start_word (t ∷ []) (omega arith)
  line_le (tick_end t) = short end_word (t ∷ []) (omega arith)
  line_le (player_new c x y) = short new_word (c ∷ x ∷ y ∷ []) (omega arith)
  line_le (player_change c x y old-x old-y) = short change_word (c ∷ x ∷ y ∷ old-x ∷ old-y ∷ []) (omega arith)
  line_le (player_old c x y) = short old_word (c ∷ x ∷ y ∷ []) (omega arith)
  line_le (input c former) = short input_word (c ∷ ten) (omega arith)
  line_le (other r) =
      let n = decimals (tag_number r.tag ∷ []) in
      let i = client (cid_of r) in
      omega (arith, length-append n (i ++ newline), length-append i newline, numbers_le (tag_number r.tag ∷ []), client_le (cid_of r))

-- ---- the parts of a line

pub same_text : (xs : List ℕ) (at : ℕ) (a b : List ℕ) → a ≡ b → (next : ℕ) (ys : List ℕ) → Put xs at a next ys → Put xs at b next ys
same_text xs at a b e next ys p = rw e at p

-- a word, a number and the rest
module _ (xs : List ℕ) (at : ℕ) (word : List ℕ) (z : ℤ) (rest : List ℕ) (fits : at + length ((word ++ spaced z) ++ rest) ≤ length xs) where
  head_fits : at + length (word ++ spaced z) ≤ length xs
  head_fits = first_fits xs at (word ++ spaced z) rest fits

  module _ (n : ℕ) (ys : List ℕ) (p : Put xs at word n ys) where
    pub number_fits : n + length (spaced z) ≤ length ys
    number_fits = next_fits xs at word (spaced z) head_fits n ys p

    module _ (m : ℕ) (zs : List ℕ) (q : Put ys n (spaced z) m zs) where
      head : Put xs at (word ++ spaced z) m zs
      head = two_puts xs at word (spaced z) head_fits n ys p m zs q

      pub rest_fits : m + length rest ≤ length zs
      rest_fits = next_fits xs at (word ++ spaced z) rest fits m zs head

      pub rest_put : (text : List ℕ) → (word ++ spaced z) ++ rest ≡ text → (next : ℕ) (us : List ℕ) → Put zs m rest next us → Put xs at text next us
      rest_put text e next us r =
          same_text xs at _ text e next us (two_puts xs at (word ++ spaced z) rest fits m zs head next us r)

-- an input
module _ (z : ℤ) (ten : List ℤ) where
  pub input_parts : (input_word ++ spaced z) ++ (decimals ten ++ newline) ≡ plain_line input_word (z ∷ ten)
  unfolding decimals
  input_parts = simp append_assoc

  pub input_fits : (at size : ℕ) → at + (18 + 12 * length ten) ≤ size
      → at + length ((input_word ++ spaced z) ++ (decimals ten ++ newline)) ≤ size
  input_fits at size h = omega (arith, length-append (spaced z) (decimals ten ++ newline), spaced_le z, end_le ten)

abbrev pub no_client : List ℕ
no_client = 0x20 ∷ 0x2D ∷ 0x0A ∷ []

pub no_client_fits : (k : ℤ) (at size : ℕ) → at + longest ≤ size → at + length ((record_word ++ spaced k) ++ no_client) ≤ size
no_client_fits k at size h = omega (arith, length-append (spaced k) no_client, spaced_le k)

-- a record with a client, and with none
module _ (k : ℤ) where
  pub client_parts : (z : ℤ) → plain_line record_word (k ∷ z ∷ []) ≡ record_line k (Some z)
  unfolding decimals
  client_parts z = simp append_assoc

  pub no_client_parts : (record_word ++ spaced k) ++ no_client ≡ record_line k None
  unfolding decimals
  no_client_parts = simp append_assoc

-- ---- what the public calls answer

module _ (most : ℕ) (xs : List ℕ) (at : ℕ) (text : List ℕ) where
  pub too_short : length xs < at + most → (Err ShortTarget ≡ text_answer most xs at text) × (xs ≡ text_target most xs at text)
  too_short h = let t = lt-leb (at + most) (length xs) h in (simp t, simp t)

  pub line_put : at + most ≤ length xs → (next : ℕ) (ys : List ℕ) → Put xs at text next ys
      → (Ok next ≡ text_answer most xs at text) × (ys ≡ text_target most xs at text)
  line_put h next ys p = let t = le-leb (at + most) (length xs) h in rw t (ap Ok p.0, p.1)

-- the test of the room, of a target of n bytes
module _ (at n : ℕ) (t : Bool) (e : t ≡ leb (at + longest) n) where
  pub has_room : t ≡ true → at + longest ≤ n
  has_room h = leb-true (at + longest) n (sym e ∙ h)

  pub no_room : t ≡ false → n < at + longest
  no_room h = leb-false (at + longest) n (sym e ∙ h)

-- where the longest line fits, a shorter one is written
pub roomy : (most : ℕ) (xs : List ℕ) (at : ℕ) (text : List ℕ) → leb (at + longest) (length xs) ≡ true → most ≤ longest
    → (r : Result ℕ Refusal) (ys : List ℕ) → (r ≡ text_answer most xs at text) × (ys ≡ text_target most xs at text)
    → (r ≡ line_answer xs at text) × (ys ≡ line_target xs at text)
roomy most xs at text t h r ys e =
    let u = le-leb (at + most) (length xs) (omega (arith, leb-true (at + longest) (length xs) t)) in
    (e.0 ∙ rw (u, t), e.1 ∙ rw (u, t))
