-- To the wanted tick: by a skip, or at once. Assumes nothing.
use Rattle.std.specs.Prelude.{Some}
use Prim.Native.Nat.{ℕ, ◌+◌, ◌-◌, ◌<◌}
use mathlib.Core.Path.{◌≡◌, refl, sym, ap, ◌∙◌}
use mathlib.Core.Bool.{Bool, true, false, not, false≢true}
use mathlib.Core.List.{List, [], ◌∷◌, append-nil}
use native.Mathlib.Omega.{arith}
use lib.Dec.{ltb}
use lib.IntN.{ℤ, pos, negsuc}
use lib.Signed.{lt_z, non_neg}
use mir.Syntax.{w32}
use mir.Val.{SFits}
use borrow.Author.Tests.{lt-ltb, le-ltb, ne_eqb, ltb-true, ltb-false}
use Rattle.num.proofs.Cases.{by_bool}
use Rattle.kinds.specs.declared.Kind.TheVariants as kinds
use Rattle.state.specs.Reading.{next_tick, at_or_below}
use Rattle.state.specs.Laws.{ForgetsBetween}
use Rattle.state.specs.declared.Entries.{Entries}
use Rattle.state.specs.declared.Reader.{Reader}
use Rattle.teams.specs.Teams.{Joining}
use Rattle.demand.proofs.Tests.{same_refl}
use Rattle.choice.specs.Chosen.{player_of, same_player, of_numbers, skip_to, started_by, bytes_of}
use Rattle.leading.specs.Leads.{Leads, there, after_joinings}
use Rattle.leading.specs.Records.{Ready, Rises}
use Rattle.leading.proofs.Theorems.{skip_leads}
use Rattle.choice.proofs.Allowed.{Allowed, rises_here}

-- ---- two ticks, none below 0, the second not before the first

record Later (t u : ℤ) : Type 0 where
  from : ℕ
  until : ℕ
  first : t ≡ pos from
  second : u ≡ pos until
  less : from < until

later : {C : Type 0} (t u : ℤ) → non_neg t ≡ true → non_neg u ≡ true → lt_z u t ≡ false → (t ≡ u → C) → (Later t u → C) → C
later (pos a) (pos b) p q h f g =
    let l = ltb-false b a h in
    by_bool (ltb a b)
    (λ e. g (record { from = a; until = b; first = refl; second = refl; less = ltb-true a b e }))
    (λ e. let s : a ≡ b = omega (arith, ltb-false a b e) in f (ap pos s))
later (pos a) (negsuc b) p q h f g = absurd (false≢true q)
later (negsuc a) u p q h f g = absurd (false≢true p)

no_skip : (t : ℤ) → skip_to t t ≡ []
unfolding skip_to
no_skip (pos a) = rw (le-ltb a a (omega arith))
no_skip (negsuc a) = refl

next_is_law : (a b : ℕ) → a < b → b < 2147483648 → next_tick (pos a) (b - a - 1) ≡ Some (pos b)
unfolding next_tick
next_is_law a b h l =
    let q : a + (b - a - 1) + 1 ≡ b = omega arith in
    rw (q, le-ltb 2147483647 b (omega arith))

skip_is : (t u : ℤ) (l : Later t u) → skip_to t u ≡ of_numbers kinds.TickSkip (pos (l.until - l.from - 1) ∷ []) ∷ []
unfolding skip_to
skip_is t u l = rw (l.first, l.second, lt-ltb l.from l.until l.less)

started_is : (inside : Bool) (t u : ℤ) → Later t u → started_by inside t u ≡ not inside
started_is inside t u l = rw (l.first, l.second, ne_eqb l.from l.until (λ e. omega (arith, l.less)))

-- ---- the reader at the wanted tick: under way or not, the entries as before, and each player entry that differs above the remembered client

pub record Skipped (r : Reader) (u : ℤ) (w : Entries) : Type 0 where
  pub to : Reader
  pub says : List Joining
  pub leads : Leads r (bytes_of (skip_to r.scalars.tick u)) says to
  pub joins : (t : List ℤ) → after_joinings says t ≡ t
  pub ready : Ready to
  pub at : to.scalars.tick ≡ u
  pub within : to.scalars.inside ≡ started_by r.scalars.inside r.scalars.tick u
  pub holds : to.entries ≡ r.entries
  pub rises : (c : ℕ) → c < 128 → same_player (player_of r.entries c) (player_of w c) ≡ false → Rises to c

module _ (r : Reader) (u : ℤ) (w : Entries) (ready : Ready r) (a : Allowed r u w) where
  at_once : ForgetsBetween r.scalars → r.scalars.tick ≡ u → Skipped r u w
  unfolding bytes_of after_joinings
  at_once f here =
      record {
        to = r;
        says = [];
        leads = rw (here, no_skip u) there;
        joins = λ t. refl;
        ready = ready;
        at = here;
        within = rw (here, same_refl u);
        holds = refl;
        rises = rises_here r u w a f here;
      }

  by_skip : SFits w32 u → Later r.scalars.tick u → Skipped r u w
  unfolding bytes_of
  by_skip fits l =
      let t = l.from in
      let v = l.until in
      let h = l.less in
      let top : v < 2147483648 = (rw l.second at fits).sfits in
      let s = skip_leads r (v - t - 1) u ready (omega arith) (rw (l.first, l.second) (next_is_law t v h top)) in
      record {
        to = s.to;
        says = s.says;
        leads = rw (skip_is r.scalars.tick u l, append-nil) s.leads;
        joins = s.joins;
        ready = s.ready;
        at = s.at;
        within = s.within ∙ sym (started_is r.scalars.inside r.scalars.tick u l);
        holds = s.holds;
        rises = λ c _ _. ap (at_or_below (pos c)) s.names;
      }

  pub skipped : SFits w32 u → ForgetsBetween r.scalars → Skipped r u w
  skipped fits f = later r.scalars.tick u a.tick a.to_tick a.later (λ e. at_once f e) (λ l. by_skip fits l)
