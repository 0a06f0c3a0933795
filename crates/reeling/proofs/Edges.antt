-- Kept calls on a bad reel, on a bad reader, on a closed one and on one that can be read. Assumes nothing.
use Prim.Native.Nat.{ℕ}
use mathlib.Core.Path.{◌≡◌, refl, sym, subst, ◌∙◌}
use mathlib.Core.Bool.{Bool, true, false, cond, ◌&&◌}
use mathlib.Core.List.{List}
use Rattle.refusal.specs.declared.Refusal.{Refusal}
use Rattle.refusal.specs.declared.Refusal.TheVariants.{BadState, Closed}
use Rattle.state.specs.Reading.{is_closed}
use Rattle.state.proofs.Numbers.{picks_first, picks_second}
use Rattle.teams.specs.Teams.{good_team_reader}
use Rattle.teams.specs.declared.TeamReader.{TeamReader}
use Rattle.calls.specs.Along.{Run, calls}
use Rattle.reel.specs.Reel.{good_reel}
use Rattle.reel.specs.declared.Reel.{Reel}
use Rattle.many.specs.Many.{refused_by, many_calls}
use Rattle.many.specs.declared.Stop.TheVariants as stops
use Rattle.reeling.specs.Reeling.{kept_calls, KeptIs}
use Rattle.reeling.specs.steps.Kept.{not_read}
use Rattle.reeling.specs.declared.ReelRead.{ReelRead}
use Rattle.reeling.proofs.Beside.{begun, ended}

pub both_true : (a b : Bool) → a && b ≡ true → (a ≡ true) × (b ≡ true)
both_true true b h = (refl, h)
both_true false b h = (h, cc)

module _ (n : ℕ) (r : TeamReader) (l : Reel) (w : List ℕ) (last : Bool) where
  refuses : (why : Refusal) → kept_calls n r l w last ≡ refused_by why r.reader
      → KeptIs (kept_calls n r l w last) r.teams l (not_read why r l.counts) l
  refuses why e =
      subst (λ (run : Run). KeptIs run r.teams l (not_read why r l.counts) l) (sym e)
      (ended (stops.Refused why) _ 0 0 r.reader refl refl (begun (refused_by why r.reader) r.teams l))

  bad_by : (a b c : Bool) (run : Run) → a && b ≡ false
      → cond a (cond b (cond c (refused_by Closed r.reader) run) (refused_by BadState r.reader)) (refused_by BadState r.reader)
      ≡ refused_by BadState r.reader
  bad_by true true c run h = cc
  bad_by true false c run h = refl
  bad_by false b c run h = refl

  pub bad_state_law : good_reel l && good_team_reader r ≡ false → KeptIs (kept_calls n r l w last) r.teams l (not_read BadState r l.counts) l
  unfolding many_calls
  bad_state_law h =
      refuses BadState (bad_by (good_reel l) (good_team_reader r) (is_closed r.reader.scalars.standing) (calls n r.reader w last) h)

  module _ (h : good_reel l && good_team_reader r ≡ true) where
    with_good : kept_calls n r l w last
        ≡ cond (is_closed r.reader.scalars.standing) (refused_by Closed r.reader) (calls n r.reader w last)
    unfolding many_calls
    with_good =
        let g = both_true (good_reel l) (good_team_reader r) h in
        sym (picks_first (good_team_reader r) _ _ g.1 ∙ picks_first (good_reel l) _ _ g.0)

    pub closed_reader : is_closed r.reader.scalars.standing ≡ true
        → KeptIs (kept_calls n r l w last) r.teams l (not_read Closed r l.counts) l
    closed_reader c = refuses Closed (with_good ∙ sym (picks_first (is_closed r.reader.scalars.standing) _ _ c))

    pub open_reader : (answer : ReelRead) (l₁ : Reel) → is_closed r.reader.scalars.standing ≡ false
        → KeptIs (calls n r.reader w last) r.teams l answer l₁ → KeptIs (kept_calls n r l w last) r.teams l answer l₁
    open_reader answer l₁ c t =
        subst (λ (run : Run). KeptIs run r.teams l answer l₁)
        (picks_second (is_closed r.reader.scalars.standing) _ _ c ∙ sym with_good) t
