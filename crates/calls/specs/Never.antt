-- What reading calls never undo, of every reader, as statements; proofs/Theorems.antt proves each. docs/FORMAT.md, "Ticks and the board".
use Rattle.std.specs.Prelude.{ℕ, ◌≡◌, true, false, List, get_or, pos}
use Rattle.std.specs.Int.Signed.{lt_z}
use Rattle.state.specs.State.{x_of, y_of, holds}
use Rattle.state.specs.Reading.{at_or_below}
use Rattle.state.specs.declared.Entries.{Entries}
use Rattle.state.specs.declared.Reader.{Reader}
use Rattle.calls.specs.Calls.{Call, after}

-- no tick is below an earlier one
abbrev pub TicksRise : Type 0
TicksRise = (r : Reader) (list : List Call) → lt_z (after r list).scalars.tick r.scalars.tick ≡ false

-- who has inputs goes on having inputs
abbrev pub InputsStay : Type 0
InputsStay = (r : Reader) (list : List Call) (c : ℕ) → holds r.entries c ≡ true → holds (after r list).entries c ≡ true

-- a client's player entry in e is that in d
pub record SamePlayer (d e : Entries) (c : ℕ) : Type 0 where
  pub mark : get_or e.marks c 0 ≡ get_or d.marks c 0
  pub x : x_of e c ≡ x_of d c
  pub y : y_of e c ≡ y_of d c

-- while a tick is under way: a client at or below the remembered one stays so, and its player entry stays as it is
abbrev pub PlayersStay : Type 0
PlayersStay =
    (r : Reader) (list : List Call) → r.scalars.inside ≡ true → (after r list).scalars.inside ≡ true
    → (after r list).scalars.tick ≡ r.scalars.tick → (c : ℕ) → at_or_below (pos c) r.scalars.remembered ≡ true
    → (at_or_below (pos c) (after r list).scalars.remembered ≡ true) × SamePlayer r.entries (after r list).entries c
