-- Whether two readers or two boards are the same; readers made of bytes.
use Rattle.std.specs.Prelude.{ℕ, ◌+◌, ◌*◌, ◌-◌, Bool, true, false, cond, not, ◌&&◌, List, get_or, length, set, eqb, ltb, ℤ, pos, Option, Some, None}
use Rattle.kinds.specs.Kinds.{kind_number}
use Rattle.kinds.specs.declared.Kind.{Kind}
use Rattle.kinds.specs.declared.Kind.TheVariants as kinds
use Rattle.kinds.specs.declared.Version.{Version}
use Rattle.kinds.specs.declared.Version.TheVariants as versions
use Rattle.packer.specs.Parts.{part, shown}
use Rattle.cases.specs.Cases.{number_of}
use Rattle.state.specs.State.{same_int, every, entries_with, with_player, no_entries}
use Rattle.state.specs.declared.Reader.{Reader}
use Rattle.state.specs.declared.Standing.{Standing}
use Rattle.state.specs.declared.Standing.TheVariants as standings
use Rattle.state.specs.declared.Scalars.{Scalars}
use Rattle.state.specs.declared.Entries.{Entries}

abbrev pub same_mark : List ℕ → List ℕ → ℕ → Bool
same_mark a b i = eqb (get_or a i 0) (get_or b i 0)

abbrev pub same_number : List ℤ → List ℤ → ℕ → Bool
same_number a b i = same_int (get_or a i (pos 0)) (get_or b i (pos 0))

unfoldable pub same_inputs : Entries → Entries → Bool
same_inputs a b = every 128 (same_mark a.held b.held) && every 1280 (same_number a.inputs b.inputs)

unfoldable pub same_positions : Entries → Entries → Bool
same_positions a b = every 128 (same_number a.xs b.xs) && every 128 (same_number a.ys b.ys)

unfoldable pub same_entries : Entries → Entries → Bool
same_entries a b = every 128 (same_mark a.marks b.marks) && (same_positions a b && same_inputs a b)

abbrev pub same_flag : Bool → Bool → Bool
same_flag true b = b
same_flag false b = not b

abbrev pub is_second : Version → Bool
is_second versions.V1 = false
is_second versions.V2 = true

abbrev pub standing_number : Standing → ℕ
standing_number standings.Open = 0
standing_number standings.Finished = 1
standing_number standings.Refused = 2

abbrev pub same_cid : Option ℤ → Option ℤ → Bool
same_cid (Some c) (Some d) = same_int c d
same_cid (Some c) None = false
same_cid None (Some d) = false
same_cid None None = true

-- the client of PlayerNew and PlayerOld; that of PlayerDiff is its number
abbrev pub client_of : Kind → ℤ
client_of (kinds.PlayerNew c) = c
client_of (kinds.PlayerOld c) = c
client_of (kinds.PlayerDiff c) = pos 0
client_of kinds.Finish = pos 0
client_of kinds.TickSkip = pos 0
client_of kinds.InputDiff = pos 0
client_of kinds.InputNew = pos 0
client_of kinds.Message = pos 0
client_of kinds.Join = pos 0
client_of kinds.Drop = pos 0
client_of kinds.ConsoleCommand = pos 0
client_of kinds.Ex = pos 0

-- the number of a pending kind, as a client that may be missing
abbrev pub pending_number : Option Kind → Option ℤ
pending_number (Some k) = Some (kind_number k)
pending_number None = None

abbrev pub pending_client : Option Kind → ℤ
pending_client (Some k) = client_of k
pending_client None = pos 0

abbrev pub same_pending : Option Kind → Option Kind → Bool
same_pending a b = same_cid (pending_number a) (pending_number b) && same_int (pending_client a) (pending_client b)

abbrev pub same_places : Scalars → Scalars → Bool
same_places a b = same_int a.tick b.tick && same_int a.largest b.largest

abbrev pub same_flags : Scalars → Scalars → Bool
same_flags a b =
    same_flag (is_second a.version) (is_second b.version)
    && (same_flag a.inside b.inside && eqb (standing_number a.standing) (standing_number b.standing))

abbrev pub same_kinds : Scalars → Scalars → Bool
same_kinds a b = same_cid a.remembered b.remembered && same_pending a.pending b.pending

abbrev pub same_scalars : Scalars → Scalars → Bool
same_scalars a b = same_places a b && (same_flags a b && same_kinds a b)

-- the started tick, as a client that may be missing
abbrev pub board_tick : Option ℤ → Option ℤ
board_tick (Some t) = Some t
board_tick None = None

-- ---- a reader made of bytes; a number is 100 less than its byte

abbrev pub version_in : ℕ → Version
version_in b = cond (eqb b 1) versions.V1 versions.V2

abbrev pub standing_in : ℕ → Standing
standing_in b = cond (eqb b 1) standings.Finished (cond (eqb b 2) standings.Refused standings.Open)

abbrev pub pending_of : ℕ → ℤ → Option Kind
pending_of b cid =
    cond (eqb b 1) (Some (kinds.PlayerDiff cid))
    (cond (eqb b 2) (Some (kinds.PlayerNew cid)) (cond (eqb b 3) (Some kinds.Ex) None))

unfoldable pub scalars_in : List ℕ → Scalars
scalars_in s =
    record {
      version = version_in (get_or s 0 0);
      tick = number_of (get_or s 1 0);
      inside = eqb (get_or s 6 0) 1;
      remembered = None;
      largest = number_of (get_or s 2 0);
      pending = pending_of (get_or s 3 0) (number_of (get_or s 4 0));
      standing = standing_in (get_or s 5 0);
    }

-- the player of a client below 128
abbrev pub player_at : Entries → ℕ → ℕ → ℤ → ℤ → Entries
player_at e c mark x y = cond (ltb c 128) (with_player e c mark x y) e

-- the mark of its input, and one of the ten numbers
abbrev pub number_at : Entries → ℕ → ℕ → ℕ → ℤ → Entries
number_at e c mark k n =
    cond (ltb c 128) (cond (ltb k 10) (entries_with e.marks e.xs e.ys (set e.held c mark) (set e.inputs (10 * c + k) n)) e) e

unfoldable pub entries_in : List ℕ → Entries
entries_in s =
    number_at (player_at no_entries (get_or s 0 0) (get_or s 1 0) (number_of (get_or s 2 0)) (number_of (get_or s 3 0)))
    (get_or s 0 0) (get_or s 4 0) (get_or s 5 0) (number_of (get_or s 6 0))

-- seven bytes of scalars, then the entries
abbrev pub reader_in : List ℕ → Reader
reader_in s = record { scalars = scalars_in s; entries = entries_in (shown s (part 7 (length s - 7))) }
