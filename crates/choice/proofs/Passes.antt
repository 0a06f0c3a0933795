-- Records one behind the other, and those of one client after the other: where their bytes lead. Assumes nothing.
use Rattle.std.specs.Prelude.{Option}
use Prim.Native.Nat.{ℕ, zero, suc, ◌≤◌, ◌<◌}
use mathlib.Core.Path.{◌≡◌, refl, sym, ap, ◌∙◌}
use mathlib.Core.Bool.{Bool, true, false, ◌||◌, or-true, or_assoc, or-false}
use mathlib.Core.List.{List, [], ◌∷◌, ◌++◌, append-nil}
use native.Mathlib.Omega.{arith}
use lib.ListN.{get_or}
use lib.IntN.{ℤ, pos}
use mir.Syntax.{w32}
use mir.Val.{SFits}
use Rattle.written.specs.Written.{write_content}
use Rattle.state.specs.State.{holds, good_entries}
use Rattle.state.specs.Laws.{Sizes}
use Rattle.state.specs.declared.Entries.{Entries}
use Rattle.state.specs.declared.Reader.{Reader}
use Rattle.teams.specs.Teams.{Joining}
use Rattle.team_calls.proofs.Never.{call_version}
use Rattle.choice.specs.Chosen.{Rec, joined, is_some, bytes_of}
use Rattle.leading.specs.Leads.{Leads, there, takes, after_joining, after_joinings}
use Rattle.leading.specs.Records.{Ready, LeadsWith}
use Rattle.leading.proofs.Theorems.{leads_join}
use Rattle.choice.proofs.Lengths.{bytes_append}

-- ---- the entries now and the wanted ones

-- both good, of their lengths; the wanted numbers are of 32 bits, and inputs that are there stay
pub record Between (e w : Entries) : Type 0 where
  pub now : good_entries e ≡ true
  pub wanted : good_entries w ≡ true
  pub now_sizes : Sizes e
  pub wanted_sizes : Sizes w
  pub xs : (c : ℕ) → SFits w32 (get_or w.xs c (pos 0))
  pub ys : (c : ℕ) → SFits w32 (get_or w.ys c (pos 0))
  pub inputs : (i : ℕ) → SFits w32 (get_or w.inputs i (pos 0))
  pub kept : (c : ℕ) → c < 128 → holds e c ≡ true → holds w c ≡ true

-- ---- records one behind the other

some_append : (a b : List Rec) → is_some (a ++ b) ≡ is_some a || is_some b
some_append [] b = refl
some_append (c ∷ a) b = refl

pub joinings_append : (i j : List Joining) (t : List ℤ) → after_joinings (i ++ j) t ≡ after_joinings j (after_joinings i t)
unfolding after_joinings
joinings_append [] j t = refl
joinings_append (x ∷ i) j t = joinings_append i j (after_joining x t)

-- the version stays
pub leads_version : {r to : Reader} {bytes : List ℕ} {js : List Joining} → Leads r bytes js to → to.scalars.version ≡ r.scalars.version
leads_version there = refl
leads_version (takes {r} piece rest e t l) =
    leads_version l ∙ ap (λ (q : Reader). q.scalars.version) (sym (t.leaves [] false)) ∙ call_version r (piece ++ []) false

-- the records lead to a reader of which P holds, at the same tick, under way if it was so before or if there is a record; the teams t become u
pub record Comes (P : Reader → Type 0) (r : Reader) (t : List ℤ) (cs : List Rec) (u : List ℤ) : Type 0 where
  pub to : Reader
  pub says : List Joining
  pub leads : Leads r (bytes_of cs) says to
  pub joins : after_joinings says t ≡ u
  pub ready : Ready to
  pub at : to.scalars.tick ≡ r.scalars.tick
  pub within : to.scalars.inside ≡ r.scalars.inside || is_some cs
  pub keeps : P to

pub none : {P : Reader → Type 0} {t : List ℤ} (r : Reader) → Ready r → P r → Comes P r t [] t
unfolding bytes_of after_joinings
none r ready p =
    record {
      to = r;
      says = [];
      leads = there;
      joins = refl;
      ready = ready;
      at = refl;
      within = sym (or-false r.scalars.inside);
      keeps = p;
    }

-- it has the version that r has
pub one : {P : Reader → Type 0} {r : Reader} {t : List ℤ} (c : Rec) {p : Option ℤ} {e : Entries} {f : List ℤ → List ℤ}
    → LeadsWith r (write_content c) r.scalars.tick true p e f
    → ((q : Reader) → q.scalars.version ≡ r.scalars.version → q.scalars.remembered ≡ p → q.entries ≡ e → P q)
    → Comes P r t (c ∷ []) (f t)
unfolding bytes_of
one {r = r} {t} c l keeps =
    record {
      to = l.to;
      says = l.says;
      leads = rw append-nil l.leads;
      joins = l.joins t;
      ready = l.ready;
      at = l.at;
      within = l.within ∙ sym (or-true r.scalars.inside);
      keeps = keeps l.to (leads_version l.leads) l.names l.holds;
    }

-- what it holds may be said in another way, and the version stays
pub so : {P Q : Reader → Type 0} {r : Reader} {t u : List ℤ} {cs : List Rec}
    → ((q : Reader) → q.scalars.version ≡ r.scalars.version → P q → Q q) → Comes P r t cs u → Comes Q r t cs u
so f x =
    record {
      to = x.to;
      says = x.says;
      leads = x.leads;
      joins = x.joins;
      ready = x.ready;
      at = x.at;
      within = x.within;
      keeps = f x.to (leads_version x.leads) x.keeps;
    }

pub join : {P Q : Reader → Type 0} {r : Reader} {t u v : List ℤ} {a b : List Rec} → Comes P r t a u
    → ((q : Reader) → Ready q → P q → Comes Q q u b v) → Comes Q r t (a ++ b) v
join {P} {Q} {r} {t} {u} {v} {a} {b} x f =
    let y = f x.to x.ready x.keeps in
    record {
      to = y.to;
      says = x.says ++ y.says;
      leads = rw (bytes_append a b) (leads_join r x.to y.to (bytes_of a) (bytes_of b) x.says y.says x.leads y.leads);
      joins = joinings_append x.says y.says t ∙ ap (after_joinings y.says) x.joins ∙ y.joins;
      ready = y.ready;
      at = y.at ∙ x.at;
      within =
          y.within
          ∙ ap (λ (t : Bool). t || is_some b) x.within
          ∙ or_assoc r.scalars.inside (is_some a) (is_some b)
          ∙ ap (λ (t : Bool). r.scalars.inside || t) (sym (some_append a b));
      keeps = y.keeps;
    }

-- one client after the other: before the records of client n, P n holds and the teams are t n
module _ (P : ℕ → Reader → Type 0) (t : ℕ → List ℤ) (f : ℕ → List Rec) (m : ℕ)
    (step : (q : Reader) (n : ℕ) → n < m → Ready q → P n q → Comes (P (suc n)) q (t n) (f n) (t (suc n))) where
  pub pass : (r : Reader) → Ready r → P 0 r → (n : ℕ) → n ≤ m → Comes (P n) r (t 0) (joined n f) (t n)
  unfolding joined
  pass r ready p zero h = none r ready p
  pass r ready p (suc n) h = join (pass r ready p n (omega arith)) (λ q s i. step q n (omega arith) s i)
