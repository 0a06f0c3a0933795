-- `reeling::keep_good` meets its contract. Assumes nothing.
use Prim.Native.Nat.{ℕ}
use mathlib.Core.Path.{◌≡◌, subst}
use mathlib.Core.Bool.{Bool}
use mathlib.Core.List.{List}
use lib.IntN.{ℤ}
use Rattle.state.specs.State.{reader_with}
use Rattle.state.specs.steps.Parts.{memory_of}
use Rattle.state.specs.declared.Memory.{Memory}
use Rattle.state.specs.declared.Entries.{Entries}
use Rattle.state.specs.declared.Scalars.{Scalars}
use Rattle.calls.specs.Along.{calls}
use Rattle.reel.specs.declared.Reel.{Reel}
use Rattle.reeling.specs.Reeling.{KeptIs}
use Rattle.reeling.specs.declared.ReelRead.{ReelRead}
use Rattle.reeling.proofs.keep_good.Goals as goal

-- m is the memory that the calls begin with
from_memory : (n : ℕ) (s : Scalars) (m : Memory) (e : Entries) (w : List ℕ) (last : Bool) {t : List ℤ} {l l₁ : Reel} {r : ReelRead} → m ≡ memory_of e
    → KeptIs (calls n (reader_with s m.entries) w last) t l r l₁ → KeptIs (calls n (reader_with s e) w last) t l r l₁
from_memory n s m e w last {t} {l} {l₁} {r} q h =
    subst (λ (x : Memory). KeptIs (calls n (reader_with s x.entries) w last) t l r l₁) q h

pub returns : goal.returns
returns c =
    let a = c.args in
    rw c.answer_of.ensures
    (from_memory a.most a.scalars c.of-m.result a.entries a.window.now a.last c.of-m.ensures c.keep_calls-r.ensures)
