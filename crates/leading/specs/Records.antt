-- Written records on a reader that has nothing pending: the calls that they take, inside a tick and outside, as statements;
-- proofs/Theorems.antt proves each. Outside a tick a record starts it by a call of its own.
use Rattle.std.specs.Prelude.{ℕ, ◌<◌, ◌≡◌, Bool, true, false, not, List, [], ◌∷◌, ◌++◌, map, length, get_or, ℤ, pos, negsuc, ◌+ℤ◌, Option, Some, None}
use Rattle.std.specs.Int.{w32}
use Rattle.std.proofs.Common.{SFits}
use Rattle.num.specs.Wrap.{wrap32}
use Rattle.fields.specs.Fields.{num, bytes, strings}
use Rattle.kinds.specs.declared.Kind.{Kind}
use Rattle.kinds.specs.declared.Kind.TheVariants as kinds
use Rattle.kinds.specs.declared.Version.TheVariants.{V2}
use Rattle.extensions.specs.declared.Extension.TheVariants.{PlayerTeam}
use Rattle.item.specs.Records.{content}
use Rattle.item.specs.declared.Tag.TheVariants.{Plain, Named}
use Rattle.written.specs.Written.{write_content}
use Rattle.state.specs.State.{present, x_of, y_of, with_player, moved, with_input}
use Rattle.state.specs.Reading.{next_tick, at_or_below}
use Rattle.state.specs.Laws.{Sound}
use Rattle.state.specs.declared.Entries.{Entries}
use Rattle.state.specs.declared.Standing.TheVariants.{Open}
use Rattle.state.specs.declared.Reader.{Reader}
use Rattle.teams.specs.Teams.{Joining, put_team}
use Rattle.leading.specs.Leads.{Leads, after_joinings}

-- good, open, nothing pending
pub record Ready (r : Reader) : Type 0 where
  pub sound : Sound r
  pub reads : r.scalars.standing ≡ Open
  pub free : r.scalars.pending ≡ None

-- the bytes lead to a reader like that, at this tick, inside it or not, with this remembered client and these entries; `teams` is what becomes of
-- teams
pub record LeadsWith (r : Reader) (bs : List ℕ) (tick : ℤ) (inside : Bool) (p : Option ℤ) (e : Entries) (teams : List ℤ → List ℤ) : Type 0 where
  pub to : Reader
  pub says : List Joining
  pub leads : Leads r bs says to
  pub joins : (t : List ℤ) → after_joinings says t ≡ teams t
  pub ready : Ready to
  pub at : to.scalars.tick ≡ tick
  pub within : to.scalars.inside ≡ inside
  pub names : to.scalars.remembered ≡ p
  pub holds : to.entries ≡ e

-- the teams stay
abbrev pub LeadsTo : Reader → List ℕ → ℤ → Bool → Option ℤ → Entries → Type 0
LeadsTo r bs tick inside p e = LeadsWith r bs tick inside p e (λ t. t)

-- the written form of a record all of whose values are numbers
abbrev pub written : Kind → List ℤ → List ℕ
written k zs = write_content (content (Plain k) (map num zs))

-- bytes that leave the tick where it is, under way
abbrev pub Leaves : Reader → List ℕ → Option ℤ → Entries → Type 0
Leaves r bs p e = LeadsTo r bs r.scalars.tick true p e

-- a player record of client c doesn't end the tick
abbrev pub Rises : Reader → ℕ → Type 0
Rises r c = at_or_below (pos c) r.scalars.remembered ≡ false

abbrev pub NewLeads : Type 0
NewLeads =
    (r : Reader) (c : ℕ) (x y : ℤ) → Ready r → c < 128 → Rises r c → SFits w32 x → SFits w32 y → present r.entries c ≡ false
    → Leaves r (written (kinds.PlayerNew (pos c)) (x ∷ y ∷ [])) (Some (pos c)) (with_player r.entries c 1 x y)

abbrev pub DiffLeads : Type 0
DiffLeads =
    (r : Reader) (c : ℕ) (dx dy : ℤ) → Ready r → c < 128 → Rises r c → SFits w32 dx → SFits w32 dy → present r.entries c ≡ true
    → Leaves r (written (kinds.PlayerDiff (pos c)) (dx ∷ dy ∷ [])) (Some (pos c))
    (moved r.entries c (wrap32 (x_of r.entries c +ℤ dx)) (wrap32 (y_of r.entries c +ℤ dy)))

abbrev pub OldLeads : Type 0
OldLeads =
    (r : Reader) (c : ℕ) → Ready r → c < 128 → Rises r c → present r.entries c ≡ true
    → Leaves r (written (kinds.PlayerOld (pos c)) []) (Some (pos c)) (with_player r.entries c 0 (pos 0) (pos 0))

abbrev pub InputLeads : Type 0
InputLeads =
    (r : Reader) (c : ℕ) (ns : List ℤ) → Ready r → c < 128 → length ns ≡ 10 → ((k : ℕ) → SFits w32 (get_or ns k (pos 0)))
    → Leaves r (written kinds.InputNew (pos c ∷ ns)) r.scalars.remembered (with_input r.entries c 1 ns)

-- an empty command of the server's own
abbrev pub CommandLeads : Type 0
CommandLeads =
    (r : Reader) → Ready r
    → Leaves r (write_content (content (Plain kinds.ConsoleCommand) (num (negsuc 0) ∷ num (pos 0) ∷ bytes [] ∷ strings [] ∷ [])))
    r.scalars.remembered r.entries

-- a PlayerTeam, in version 2
abbrev pub TeamLeads : Type 0
TeamLeads =
    (r : Reader) (c : ℕ) (n : ℤ) → Ready r → r.scalars.version ≡ V2 → c < 128 → SFits w32 n
    → LeadsWith r (write_content (content (Named PlayerTeam) (num (pos c) ∷ num n ∷ []))) r.scalars.tick true r.scalars.remembered
    r.entries (λ t. put_team t (pos c) (Some n))

-- inside a tick a skip ends it, outside it starts the next
abbrev pub SkipLeads : Type 0
SkipLeads =
    (r : Reader) (dt : ℕ) (t : ℤ) → Ready r → dt < 2147483648 → next_tick r.scalars.tick dt ≡ Some t
    → LeadsTo r (written kinds.TickSkip (pos dt ∷ [])) t (not r.scalars.inside) None r.entries

-- one behind the other
abbrev pub LeadsJoin : Type 0
LeadsJoin =
    (r middle to : Reader) (a b : List ℕ) (i j : List Joining) → Leads r a i middle → Leads middle b j to → Leads r (a ++ b) (i ++ j) to
