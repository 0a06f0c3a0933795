-- Bytes that lead a reader on: piece by piece, each of which one call takes, whatever follows it.
use Rattle.std.specs.Prelude.{ℕ, ◌≡◌, Bool, List, [], ◌∷◌, ◌++◌, length, ℤ, Some}
use Rattle.item.specs.Said.{Said, gives, more, finish, refuses}
use Rattle.state.specs.Reading.{Event, read_call, reader_after}
use Rattle.state.specs.declared.Reader.{Reader}
use Rattle.teams.specs.Teams.{Joining, nobody, on_joining, joining_of, put_team}

abbrev pub GivesUsing : ℕ → Said Event → Type 0
GivesUsing n (gives e used) = used ≡ n
GivesUsing n more = ⊥
GivesUsing n (finish used) = ⊥
GivesUsing n (refuses k vs) = ⊥

-- what the event says of a team
abbrev pub joining_said : Said Event → Joining
joining_said (gives e used) = joining_of e
joining_said more = nobody
joining_said (finish used) = nobody
joining_said (refuses k vs) = nobody

-- a call on a window that begins with the piece gives an event, which uses the piece and says this of a team, with either flag
pub record Takes (r : Reader) (piece : List ℕ) (j : Joining) (to : Reader) : Type 0 where
  pub gives : (behind : List ℕ) (last : Bool) → GivesUsing (length piece) (read_call r (piece ++ behind) last).said
  pub says : (behind : List ℕ) (last : Bool) → joining_said (read_call r (piece ++ behind) last).said ≡ j
  pub leaves : (behind : List ℕ) (last : Bool) → reader_after (read_call r (piece ++ behind) last) ≡ to

-- with what each event says of a team, the first first
pub data Leads : Reader → List ℕ → List Joining → Reader → Type 0 where
  there : {r : Reader} → Leads r [] [] r
  takes : {r middle to : Reader} {bytes : List ℕ} {j : Joining} {js : List Joining} (piece rest : List ℕ) → bytes ≡ piece ++ rest
      → Takes r piece j middle → Leads middle rest js to → Leads r bytes (j ∷ js) to

-- the teams after them
abbrev pub after_joining : Joining → List ℤ → List ℤ
after_joining j t = on_joining (λ c n. put_team t c (Some n)) t j

unfoldable pub after_joinings : List Joining → List ℤ → List ℤ
after_joinings [] t = t
after_joinings (j ∷ js) t = after_joinings js (after_joining j t)
