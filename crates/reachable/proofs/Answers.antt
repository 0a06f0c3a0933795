-- The answer to whether a wanted board may be reached, by the cases of its tests. Assumes nothing.
use Rattle.std.specs.Prelude.{Option, Some}
use mathlib.Core.Path.{◌≡◌, sym, ◌∙◌, ap}
use mathlib.Core.Bool.{Bool, true, false, ◌&&◌, ◌||◌}
use mathlib.Core.List.{List}
use lib.IntN.{ℤ}
use Rattle.refusal.specs.declared.Refusal.TheVariants.{BadState, Closed, MidRecord, Unreachable}
use Rattle.state.specs.Reading.{is_closed}
use Rattle.state.specs.declared.Entries.{Entries}
use Rattle.state.specs.declared.Scalars.{Scalars}
use Rattle.teams.specs.Teams.{good_team_reader}
use Rattle.teams.specs.declared.TeamReader.{TeamReader}
use Rattle.calls.specs.Calls.{is_pending}
use Rattle.back.specs.TeamBoard.{good_team_board}
use Rattle.back.specs.declared.TeamBoard.{TeamBoard}
use Rattle.choice.specs.Reaching.{cant_reach, unreachable, may, may_not, may_reach}

-- ---- five reasons: a, or b, or c, or d, or f where i

module _ (a b c d i f : Bool) where
  abbrev any : Bool
  any = a || (b || (c || (d || (i && f))))

  pub first_reason : a ≡ true → true ≡ any
  first_reason ea = rw ea

  module _ (ea : a ≡ false) where
    pub second_reason : b ≡ true → true ≡ any
    second_reason eb = rw (ea, eb)

    module _ (eb : b ≡ false) where
      pub third_reason : c ≡ true → true ≡ any
      third_reason ec = rw (ea, eb, ec)

      module _ (ec : c ≡ false) where
        pub fourth_reason : d ≡ true → true ≡ any
        fourth_reason ed = rw (ea, eb, ec, ed)

        module _ (ed : d ≡ false) where
          pub no_reason : i ≡ false → false ≡ any
          no_reason ei = rw (ea, eb, ec, ed, ei)

          pub fifth_reason : i ≡ true → f ≡ any
          fifth_reason ei = rw (ea, eb, ec, ed, ei)

-- ---- what comes before the target is looked at

pub both_are : (a b x y r : Bool) → r ≡ (a && b) → a ≡ x → b ≡ y → (x && y) ≡ r
both_are a b x y r e ea eb = sym (e ∙ (λ i. ea i && eb i))

pub unreachable_in : (s : Scalars) (e : Entries) (teams : List ℤ) (t : Option ℤ) (w : Entries) (wteams : List ℤ) (u : ℤ) (r : Bool) → t ≡ Some u
    → r ≡ cant_reach s e teams u w wteams → unreachable s e teams t w wteams ≡ r
unreachable_in s e teams t w wteams u r et er = ap (λ (x : Option ℤ). unreachable s e teams x w wteams) et ∙ sym er

module _ (r : TeamReader) (b : TeamBoard) where
  abbrev s : Scalars
  s = r.reader.scalars

  abbrev pub never : Bool
  never = unreachable s r.reader.entries r.teams b.board.tick b.board.entries b.teams

  pub may_bad : (good_team_reader r && good_team_board b) ≡ false → may_reach r b ≡ may_not BadState
  unfolding may_reach
  may_bad g = rw g

  module _ (g : (good_team_reader r && good_team_board b) ≡ true) where
    pub may_closed : is_closed s.standing ≡ true → may_reach r b ≡ may_not Closed
    unfolding may_reach
    may_closed c = rw (g, c)

    module _ (c : is_closed s.standing ≡ false) where
      pub may_mid : is_pending s.pending ≡ true → may_reach r b ≡ may_not MidRecord
      unfolding may_reach
      may_mid p = rw (g, c, p)

      module _ (p : is_pending s.pending ≡ false) where
        pub may_never : never ≡ true → may_reach r b ≡ may_not Unreachable
        unfolding may_reach
        may_never n = rw (g, c, p, n)

        pub may_now : never ≡ false → may_reach r b ≡ may
        unfolding may_reach
        may_now n = rw (g, c, p, n)
