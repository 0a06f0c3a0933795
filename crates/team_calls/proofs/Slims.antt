-- What the code answers lacks the arguments that stand beside a command: teams and the former team are the same. Assumes nothing.
use mathlib.Core.Path.{◌≡◌, refl, ap, ◌∙◌}
use mathlib.Core.List.{List}
use lib.IntN.{ℤ}
use Rattle.item.specs.Said.{Said, gives, more, finish, refuses}
use Rattle.state.specs.Reading.{Event}
use Rattle.state.specs.Slim.{slim_said, said_is}
use Rattle.state.specs.declared.Answer.{Answer}
use Rattle.teams.specs.Teams.{joining_of, teams_after, former_team}
use Rattle.teams.proofs.Joins.{slim_teams, slim_former}
use Rattle.team_calls.specs.Reading.{teams_said, former_said}

-- teams and the former team go by what joins
pub same_teams : (d e : Event) (t : List ℤ) → joining_of d ≡ joining_of e
    → (teams_after d t ≡ teams_after e t) × (former_team d t ≡ former_team e t)
unfolding teams_after former_team
same_teams d e t q = (rw q, rw q)

slim_said_law : (x : Said Event) (t : List ℤ) → (teams_said (slim_said x) t ≡ teams_said x t) × (former_said (slim_said x) t ≡ former_said x t)
slim_said_law (gives e n) t = (slim_teams e t, slim_former e t)
slim_said_law more t = (refl, refl)
slim_said_law (finish n) t = (refl, refl)
slim_said_law (refuses k vs) t = (refl, refl)

-- the code's answer a is x without arguments
pub told_said : (x : Said Event) (a : Answer) (t : List ℤ) → said_is a ≡ slim_said x
    → (teams_said (said_is a) t ≡ teams_said x t) × (former_said (said_is a) t ≡ former_said x t)
told_said x a t q =
    let s = slim_said_law x t in
    (ap (λ (y : Said Event). teams_said y t) q ∙ s.0, ap (λ (y : Said Event). former_said y t) q ∙ s.1)
