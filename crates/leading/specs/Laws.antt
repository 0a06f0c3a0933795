-- What holds of bytes that lead a reader on, as statements; proofs/Theorems.antt proves each.
use Rattle.std.specs.Prelude.{◌≡◌, List, ℕ, ℤ, None}
use Rattle.state.specs.declared.Reader.{Reader}
use Rattle.teams.specs.Teams.{Joining, team_reader}
use Rattle.teams.specs.Laws.{SoundTeams}
use Rattle.back.specs.Board.{board_of}
use Rattle.back.specs.TeamBoard.{team_board, team_board_of}
use Rattle.leading.specs.Windows.{at, Cut, reads, Leading, Ends}
use Rattle.leading.specs.Leads.{Leads, after_joinings}

-- bytes that lead to a reader with nothing pending do so in whatever windows, as far as its board goes; the teams are those after what they say
abbrev pub LeadsInWindows : Type 0
LeadsInWindows =
    (r to : Reader) (t : List ℤ) (bytes : List ℕ) (js : List Joining) → SoundTeams t → Leads r bytes js to → to.scalars.pending ≡ None
    → (cuts : List Cut)
    → Leading (λ q. team_board_of q ≡ team_board (board_of to) (after_joinings js t)) (reads (at (team_reader r t) bytes) cuts)

-- and they are used up
abbrev pub LeadsEnd : Type 0
LeadsEnd =
    (r to : Reader) (t : List ℤ) (bytes : List ℕ) (js : List Joining) → SoundTeams t → Leads r bytes js to → to.scalars.pending ≡ None
    → Ends (at (team_reader r t) bytes)
