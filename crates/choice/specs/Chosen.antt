-- Which records bring a reader to a wanted board: free, and this is the choice. docs/FORMAT.md, "From a wanted board to a recording".
use Rattle.std.specs.Prelude.{ℕ, zero, suc, ◌-◌, Bool, true, false, not, cond, ◌&&◌, List, [], ◌∷◌, ◌++◌, map, get_or, ltb, eqb, ℤ, pos, negsuc, ◌-ℤ◌, Option, Some, None}
use Rattle.num.specs.Wrap.{wrap32}
use Rattle.fields.specs.Fields.{num, bytes, strings}
use Rattle.kinds.specs.declared.Kind.{Kind}
use Rattle.kinds.specs.declared.Kind.TheVariants as kinds
use Rattle.item.specs.Records.{Content, content}
use Rattle.extensions.specs.declared.Extension.TheVariants.{PlayerTeam}
use Rattle.item.specs.declared.Tag.TheVariants.{Plain, Named}
use Rattle.written.specs.Written.{write_content}
use Rattle.state.specs.State.{same_int, x_of, y_of, ten_of}
use Rattle.state.specs.declared.Entries.{Entries}
use Rattle.state.specs.declared.Scalars.{Scalars}
use Rattle.teams.specs.Teams.{team_of}
unfoldable pub use Rattle.compare.specs.Compare.{same_all}
use Rattle.choice.specs.declared.Player.{Player}
use Rattle.choice.specs.declared.Held.{Held}

-- ---- the entries of a client

abbrev pub player_of : Entries → ℕ → Player
player_of e c = record { mark = get_or e.marks c 0; x = x_of e c; y = y_of e c }

abbrev pub held_of : Entries → ℕ → Held
held_of e c = record { mark = get_or e.held c 0; ten = ten_of e.inputs c }

abbrev pub same_player : Player → Player → Bool
same_player p q = eqb p.mark q.mark && (same_int p.x q.x && same_int p.y q.y)

abbrev pub same_held : Held → Held → Bool
same_held p q = eqb p.mark q.mark && same_all p.ten q.ten

-- ---- records

abbrev pub Rec : Type 0
Rec = Content (List ℕ)

-- a record all of whose values are numbers
abbrev pub of_numbers : Kind → List ℤ → Rec
of_numbers k zs = content (Plain k) (map num zs)

-- what f gives for 0, 1, .. n - 1, one behind the other
unfoldable pub joined : {A : Type 0} → ℕ → (ℕ → List A) → List A
joined zero f = []
joined (suc n) f = joined n f ++ f n

-- ---- a player entry, p now and q as wanted: who is there moves by the difference modulo 2 ^ 32, or leaves; who isn't comes

abbrev pub player_between : Bool → Bool → ℕ → Player → Player → List Rec
player_between true true c p q =
    of_numbers (kinds.PlayerDiff (pos c)) (wrap32 (q.x -ℤ p.x) ∷ wrap32 (q.y -ℤ p.y) ∷ []) ∷ []
player_between true false c p q = of_numbers (kinds.PlayerOld (pos c)) [] ∷ []
player_between false true c p q = of_numbers (kinds.PlayerNew (pos c)) (q.x ∷ q.y ∷ []) ∷ []
player_between false false c p q = []

unfoldable pub player_step : ℕ → Player → Player → List Rec
player_step c p q = cond (same_player p q) [] (player_between (eqb p.mark 1) (eqb q.mark 1) c p q)

abbrev pub player_for : Entries → Entries → ℕ → List Rec
player_for e w c = player_step c (player_of e c) (player_of w c)

-- ---- inputs: new ones, and those that overwrite

unfoldable pub input_step : ℕ → Held → Held → List Rec
input_step c p q = cond (eqb q.mark 1 && not (same_held p q)) (of_numbers kinds.InputNew (pos c ∷ q.ten) ∷ []) []

abbrev pub input_for : Entries → Entries → ℕ → List Rec
input_for e w c = input_step c (held_of e c) (held_of w c)

-- from the entries e to the entries w: players, whose clients rise, then inputs
unfoldable pub changes : Entries → Entries → List Rec
changes e w = joined 128 (player_for e w) ++ joined 128 (input_for e w)

-- ---- teams: a client's team, m now and n as wanted; who has one can't lose it

abbrev pub same_team : Option ℤ → Option ℤ → Bool
same_team (Some a) (Some b) = same_int a b
same_team (Some a) None = false
same_team None (Some b) = false
same_team None None = true

abbrev pub team_record : ℕ → Option ℤ → List Rec
team_record c (Some n) = content (Named PlayerTeam) (num (pos c) ∷ num n ∷ []) ∷ []
team_record c None = []

unfoldable pub team_step : ℕ → Option ℤ → Option ℤ → List Rec
team_step c m n = cond (same_team m n) [] (team_record c n)

abbrev pub team_for : List ℤ → List ℤ → ℕ → List Rec
team_for t wt c = team_step c (team_of t (pos c)) (team_of wt (pos c))

-- behind the changes of entries, from the teams t to the teams wt
unfoldable pub all_changes : Entries → List ℤ → Entries → List ℤ → List Rec
all_changes e t w wt = changes e w ++ joined 128 (team_for t wt)

-- ---- ticks

-- from tick t to tick u, if that is a later one
unfoldable pub skip_to : ℤ → ℤ → List Rec
skip_to (pos t) (pos u) = cond (ltb t u) (of_numbers kinds.TickSkip (pos (u - t - 1) ∷ []) ∷ []) []
skip_to (pos t) (negsuc u) = []
skip_to (negsuc t) u = []

-- whether a tick is under way behind that skip: inside a tick a skip ends it, outside it starts the next; without one nothing changes
abbrev pub started_by : Bool → ℤ → ℤ → Bool
started_by inside t u = cond (same_int t u) inside (not inside)

-- a command of the server's own (client -1), empty, without arguments: it changes no entry and raises no largest client
abbrev pub empty_command : Rec
empty_command = content (Plain kinds.ConsoleCommand) (num (negsuc 0) ∷ num (pos 0) ∷ bytes [] ∷ strings [] ∷ [])

-- for a tick that has to start and has nothing else to start it
abbrev pub start_if : Bool → Bool → List Rec
start_if started changed = cond started [] (cond changed [] (empty_command ∷ []))

abbrev pub is_some : {A : Type 0} → List A → Bool
is_some [] = false
is_some (x ∷ xs) = true

-- ---- all of them, from scalars s, entries e and teams t to tick u with the entries w and the teams wt, and their bytes

unfoldable pub chosen : Scalars → Entries → List ℤ → ℤ → Entries → List ℤ → List Rec
chosen s e t u w wt =
    skip_to s.tick u ++ all_changes e t w wt ++ start_if (started_by s.inside s.tick u) (is_some (all_changes e t w wt))

unfoldable pub bytes_of : List Rec → List ℕ
bytes_of [] = []
bytes_of (c ∷ cs) = write_content c ++ bytes_of cs
