-- What a call said, from the same without the arguments that stand beside a command. Assumes nothing.
use Prim.Native.Nat.{ℕ}
use mathlib.Core.Path.{◌≡◌, refl}
use mathlib.Core.List.{List}
use native.Mathlib.Omega.{arith}
use lib.IntN.{ℤ}
use Rattle.item.specs.Said.{Said, gives, more, finish, refuses}
use Rattle.state.specs.Reading.{Event}
use Rattle.state.specs.Slim.{slim, slim_said}
use Rattle.state.specs.Laws.{used_in}

pub slim_used : (x : Said Event) → used_in (slim_said x) ≡ used_in x
slim_used (gives e n) = refl
slim_used more = refl
slim_used (finish n) = refl
slim_used (refuses k vs) = refl

pub record Gave (x : Said Event) (e : Event) (n : ℕ) : Type 0 where
  pub event : Event
  pub said : x ≡ gives event n
  pub own : slim event ≡ e

pub gave : (x : Said Event) (e : Event) (n : ℕ) → slim_said x ≡ gives e n → Gave x e n
gave (gives d k) e n h = record { event = d; said = cc; own = cc }
gave more e n h = let z : ◌≡◌ {A = ℕ} 0 1 = cc in absurd (omega arith)
gave (finish k) e n h = let z : ◌≡◌ {A = ℕ} 0 1 = cc in absurd (omega arith)
gave (refuses k vs) e n h = let z : ◌≡◌ {A = ℕ} 0 1 = cc in absurd (omega arith)

pub said_more : (x : Said Event) → slim_said x ≡ more → x ≡ more
said_more (gives d k) h = cc
said_more more h = refl
said_more (finish k) h = cc
said_more (refuses k vs) h = cc

pub said_finish : (x : Said Event) (n : ℕ) → slim_said x ≡ finish n → x ≡ finish n
said_finish (gives d k) n h = cc
said_finish more n h = cc
said_finish (finish k) n h = h
said_finish (refuses k vs) n h = cc

pub said_refuses : (x : Said Event) (n : ℕ) (vs : List ℤ) → slim_said x ≡ refuses n vs → x ≡ refuses n vs
said_refuses (gives d k) n vs h = cc
said_refuses more n vs h = cc
said_refuses (finish k) n vs h = cc
said_refuses (refuses k us) n vs h = h
