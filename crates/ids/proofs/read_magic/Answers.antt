-- `ids::read_magic` meets its contract. Assumes nothing.
use Prim.Native.Nat.{ℕ, ◌≤◌}
use mathlib.Core.Path.{◌≡◌, sym, ◌∙◌}
use mathlib.Core.Bool.{Bool, true, false, cond}
use mathlib.Core.List.{List}
use native.Mathlib.Omega.{arith}
use lib.ListN.{length, take}
use borrow.Author.Tests.{lt-ltb, le-ltb}
use Rattle.refusal.specs.Said.{gives, refusing}
use Rattle.refusal.specs.declared.Refusal.TheVariants.{WrongMagic}
use Rattle.kinds.specs.Magic.{same_bytes}
use Rattle.kinds.specs.Magic.{magic, read_magic}
use Rattle.ids.proofs.Table.{magic_sixteen}
use Rattle.ids.proofs.read_magic.Goals as goal

pub returns-then-s-lt16 : goal.returns-then-s-lt16
unfolding read_magic
returns-then-s-lt16 c = let s = c.args.s.now in rw (lt-ltb (length s) 16 (omega arith))

compared : (s : List ℕ) (t : Bool) → 16 ≤ length s → same_bytes (take 16 s) magic ≡ t → cond t (gives tt 16) (refusing WrongMagic) ≡ read_magic s
unfolding read_magic
compared s t h e = rw (le-ltb (length s) 16 h, e)

pub returns-then-same_bytes : goal.returns-then-same_bytes
returns-then-same_bytes c =
    let s = c.args.s.now in
    compared s true (omega arith) (sym (c.same_bytes.ensures magic magic_sixteen c.magic_halves.ensures) ∙ c.if-same_bytes.true)

pub returns : goal.returns
returns c =
    let s = c.args.s.now in
    compared s false (omega arith) (sym (c.same_bytes.ensures magic magic_sixteen c.magic_halves.ensures) ∙ c.if-same_bytes.false)
