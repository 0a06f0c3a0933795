-- The finish that an event may be, into a list whose arrays are lent: by what becomes of the list. Assumes nothing.
use Rattle.std.specs.Prelude.{Result, Ok, Err}
use Prim.Native.Nat.{ℕ, ◌≤◌, ◌<◌}
use mathlib.Core.Path.{◌≡◌, refl, sym, ap, ◌∙◌}
use mathlib.Core.Bool.{Bool, true, false, cond}
use mathlib.Core.List.{List, [], ◌∷◌}
use native.Mathlib.Omega.{arith}
use lib.IntN.{ℤ, pos, negsuc}
use borrow.Author.Tests.{le-leb, le-ltb}
use mir.Syntax.{w32}
use mir.Val.{of_z}
use Rattle.refusal.specs.declared.Refusal.{Refusal}
use Rattle.refusal.specs.declared.Refusal.TheVariants.{BadState}
use Rattle.results.specs.Results.{Finish, one_more, keep_at, keep, fits, Keeps}
use Rattle.results.specs.declared.Results.{Results}

-- a list that takes the finishes of an event is r: what is said, and what is left
abbrev pub said_of : Results → Result ℕ Refusal
said_of r = cond (fits r) (Ok r.others) (Err BadState)

abbrev left_of : Results → Results → Results
left_of l r = cond (fits r) r l

leaves : (l r : Results) (fs : List Finish) → r ≡ keep l fs
    → Keeps l fs (said_of r) (left_of l r).marks (left_of l r).times (left_of l r).ticks
leaves l r fs e =
    record {
      said = ap said_of e;
      marks = ap (λ (x : Results). (left_of l x).marks) e;
      times = ap (λ (x : Results). (left_of l x).times) e;
      ticks = ap (λ (x : Results). (left_of l x).ticks) e;
    }

fitting : (l r : Results) (fs : List Finish) → r ≡ keep l fs → r.others < 18446744073709551616
    → Keeps l fs (Ok r.others) r.marks r.times r.ticks
fitting l r fs e h = rw (le-leb r.others 18446744073709551615 (omega arith)) at (leaves l r fs e)

-- no finish
none : (l : Results) (fs : List Finish) → fs ≡ [] → l ≡ keep l fs
unfolding keep
none l fs e = rw e

pub keeps_none : (l : Results) (fs : List Finish) → fs ≡ [] → l.others < 18446744073709551616
    → Keeps l fs (Ok l.others) l.marks l.times l.ticks
keeps_none l fs e h = fitting l l fs (none l fs e) h

-- one finish
one : (l : Results) (fs : List Finish) (f : Finish) → fs ≡ f ∷ [] → keep_at l f.client f ≡ keep l fs
unfolding keep
one l fs f e = rw e

-- of a client that is listed: the count stays
pub keeps_row : (l r : Results) (fs : List Finish) (f : Finish) → fs ≡ f ∷ [] → r ≡ keep_at l f.client f → r.others < 18446744073709551616
    → Keeps l fs (Ok r.others) r.marks r.times r.ticks
keeps_row l r fs f e q h = fitting l r fs (q ∙ one l fs f e) h

-- of another: b is its bits
other : (l : Results) (z : ℤ) (f : Finish) (b : ℕ) → b ≡ of_z w32 z → 128 ≤ b → one_more l ≡ keep_at l z f
other l (pos c) f b e h = rw (le-ltb c 128 (omega arith))
other l (negsuc c) f b e h = refl

-- the rows stay, whether the count fits or not
alike : {A : Type 0} (g : Results → A) (l : Results) (b : Bool) → g (one_more l) ≡ g l → g l ≡ g (cond b (one_more l) l)
alike g l true e = sym e
alike g l false e = refl

pub keeps_count : (l : Results) (fs : List Finish) (f : Finish) (b : ℕ) (r : Result ℕ Refusal) → fs ≡ f ∷ [] → b ≡ of_z w32 f.client → 128 ≤ b
    → r ≡ said_of (one_more l) → Keeps l fs r l.marks l.times l.ticks
keeps_count l fs f b r e q h s =
    let k = leaves l (one_more l) fs (other l f.client f b q h ∙ one l fs f e) in
    let t = fits (one_more l) in
    record {
      said = s ∙ k.said;
      marks = alike (λ x. x.marks) l t refl ∙ k.marks;
      times = alike (λ x. x.times) l t refl ∙ k.times;
      ticks = alike (λ x. x.ticks) l t refl ∙ k.ticks;
    }
