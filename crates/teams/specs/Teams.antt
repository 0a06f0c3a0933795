-- Teams: of each client 0 to 127 its team number or none, set by PlayerTeam. docs/FORMAT.md, "Teams".
use Rattle.std.specs.Prelude.{ℕ, ◌+◌, ◌*◌, Bool, true, false, cond, ◌&&◌, List, get_or, set, ltb, ℤ, pos, negsuc, Option, Some, None}
use Rattle.packer.specs.declared.Part.{Part}
use Rattle.fields.specs.Fields.{num, on_num}
use Rattle.fields.specs.Views.{zeros}
use Rattle.kinds.specs.Magic.{same_bytes}
use Rattle.kinds.specs.declared.Version.{Version}
use Rattle.extensions.specs.Extensions.{id_at}
use Rattle.extensions.specs.declared.Extension.{Extension}
use Rattle.extensions.specs.declared.Extension.TheVariants.{PlayerTeam}
use Rattle.item.specs.Records.{Content}
use Rattle.item.specs.Contents.{by_tag}
use Rattle.state.specs.State.{same_int, every, good_reader, empty_reader}
use Rattle.state.specs.Reading.{Event, tick_start, tick_end, player_new, player_change, player_old, input, other}
use Rattle.state.specs.declared.Reader.{Reader}
use Rattle.teams.specs.declared.TeamReader.{TeamReader}

-- ---- entries: two numbers for each client 0 to 127, its mark, 0 or 1, and its team; without a team both are 0

abbrev pub mark_of : List ℤ → ℕ → ℤ
mark_of t c = get_or t (2 * c) (pos 0)

abbrev pub number_of : List ℤ → ℕ → ℤ
number_of t c = get_or t (2 * c + 1) (pos 0)

abbrev pub has_team : List ℤ → ℕ → Bool
has_team t c = ltb c 128 && same_int (mark_of t c) (pos 1)

-- the team of a client, or none
abbrev pub team_of : List ℤ → ℤ → Option ℤ
team_of t (pos c) = cond (has_team t c) (Some (number_of t c)) None
team_of t (negsuc c) = None

-- client c is in team n
abbrev pub is_in : List ℤ → ℕ → ℤ → Bool
is_in t c n = has_team t c && same_int (number_of t c) n

abbrev pub mark_for : Option ℤ → ℤ
mark_for (Some n) = pos 1
mark_for None = pos 0

abbrev pub number_for : Option ℤ → ℤ
number_for (Some n) = n
number_for None = pos 0

-- client c's team becomes this one, or none
unfoldable pub with_team : List ℤ → ℕ → Option ℤ → List ℤ
with_team t c m = set (set t (2 * c) (mark_for m)) (2 * c + 1) (number_for m)

-- a client outside 0 to 127 has no entry
abbrev pub put_team : List ℤ → ℤ → Option ℤ → List ℤ
put_team t (pos c) m = cond (ltb c 128) (with_team t c m) t
put_team t (negsuc c) m = t

-- refusal 17: a mark other than 0 and 1, or no team and a number that isn't 0
abbrev pub good_team : ℤ → ℤ → Bool
good_team mark number = cond (same_int mark (pos 1)) true (same_int mark (pos 0) && same_int number (pos 0))

unfoldable pub good_teams : List ℤ → Bool
good_teams t = every 128 (λ c. good_team (mark_of t c) (number_of t c))

abbrev pub no_teams : List ℤ
no_teams = zeros 256

-- ---- PlayerTeam

-- the client and its team, if it is a PlayerTeam record
pub data Joining : Type 0 where
  joins : ℤ → ℤ → Joining
  nobody : Joining

-- the extension with PlayerTeam's identifier
unfoldable pub is_player_team : Extension → Bool
is_player_team e = same_bytes (id_at e) (id_at PlayerTeam)

-- a record's number at a place
abbrev pub number_at : ℕ → Content Part → ℤ
number_at i r = on_num (pos 0) (λ z. z) (get_or r.values i (num (pos 0)))

abbrev pub joining_in : Content Part → Joining
joining_in r = cond (by_tag (λ kind. false) is_player_team false r.tag) (joins (number_at 0 r) (number_at 1 r)) nobody

abbrev pub joining_of : Event → Joining
joining_of (tick_start t) = nobody
joining_of (tick_end t) = nobody
joining_of (player_new c x y) = nobody
joining_of (player_change c x y old-x old-y) = nobody
joining_of (player_old c x y) = nobody
joining_of (input c former) = nobody
joining_of (other r) = joining_in r

-- a case for PlayerTeam, with client and team, and one for every other event
abbrev pub on_joining : {A : Type 0} → (ℤ → ℤ → A) → A → Joining → A
on_joining f x (joins c n) = f c n
on_joining f x nobody = x

-- the teams after an event: only PlayerTeam changes one
unfoldable pub teams_after : Event → List ℤ → List ℤ
teams_after e t = on_joining (λ c n. put_team t c (Some n)) t (joining_of e)

-- the team that the client of a PlayerTeam had before it, or none
unfoldable pub former_team : Event → List ℤ → Option ℤ
former_team e t = on_joining (λ c n. team_of t c) None (joining_of e)

-- ---- the reader with its teams

abbrev pub team_reader : Reader → List ℤ → TeamReader
team_reader r t = record { reader = r; teams = t }

unfoldable pub good_team_reader : TeamReader → Bool
good_team_reader r = good_reader r.reader && good_teams r.teams

-- nobody has a team
unfoldable pub empty_team_reader : Version → TeamReader
empty_team_reader v = team_reader (empty_reader v) no_teams
