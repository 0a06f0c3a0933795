-- Sound teams beside a turn. Assumes nothing.
use Rattle.many.proofs.Edges.{good_teams_law, over_sound}
use Rattle.windows.specs.Windows.{window_of, is_last_window}
use Rattle.windows.specs.Turns.{TurnsWithTeams}

pub turns_with_teams : TurnsWithTeams
turns_with_teams n r bytes ended s =
    record { same = good_teams_law n r (window_of bytes) (is_last_window ended bytes) s.good; sound = over_sound r.teams _ s }
