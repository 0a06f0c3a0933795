-- What holds of a reading call, as statements; proofs/Theorems.antt proves each. docs/FORMAT.md, "What a call may say" and "Ticks and
-- the board".
use Rattle.std.specs.Prelude.{ℕ, ◌≤◌, ◌<◌, ◌≡◌, Bool, true, false, List, length, ℤ, pos, None}
use Rattle.item.specs.Said.{Said, gives, more, finish, refuses}
use Rattle.kinds.specs.declared.Version.{Version}
use Rattle.state.specs.State.{with_entries, with_player, good_entries, good_scalars, good_reader, empty_reader}
use Rattle.state.specs.declared.Memory.{Memory}
use Rattle.state.specs.Reading.{
  Event,
  tick_start,
  tick_end,
  player_new,
  player_change,
  player_old,
  input,
  other,
  Step,
  new_player,
  old_player,
  changed,
  input_new,
  open_call,
  read_call,
  reader_after,
}
use Rattle.state.specs.declared.Entries.{Entries}
use Rattle.state.specs.declared.Standing.TheVariants.{Open, Finished, Refused}
use Rattle.state.specs.declared.Scalars.{Scalars}
use Rattle.state.specs.declared.Reader.{Reader}

-- the lengths that the arrays have
pub record Sizes (e : Entries) : Type 0 where
  pub marks : length e.marks ≡ 128
  pub xs : length e.xs ≡ 128
  pub ys : length e.ys ≡ 128
  pub held : length e.held ≡ 128
  pub inputs : length e.inputs ≡ 1280

-- ---- an event and the ticks: s are the scalars before it, t those after it

abbrev pub InTick : Scalars → Scalars → Type 0
InTick s t = (s.inside ≡ true) × ((t.inside ≡ true) × (t.tick ≡ s.tick))

-- TickStart(k) comes outside a tick and leaves tick k begun; TickEnd(k) comes in tick k and ends it; every other event comes in a
-- tick and leaves that tick
abbrev pub Ticked : Event → Scalars → Scalars → Type 0
Ticked (tick_start k) s t = (s.inside ≡ false) × ((t.inside ≡ true) × (t.tick ≡ k))
Ticked (tick_end k) s t = (s.inside ≡ true) × ((s.tick ≡ k) × (t.inside ≡ false))
Ticked (player_new c x y) s t = InTick s t
Ticked (player_change c x y old-x old-y) s t = InTick s t
Ticked (player_old c x y) s t = InTick s t
Ticked (input c former) s t = InTick s t
Ticked (other c) s t = InTick s t

-- ---- a call on an open reader

-- by what it says: more only where the flag is off, and it changes nothing; finish leaves the reader finished, every refusal refused;
-- finish, and every refusal but 13, leave the entries and the ten numbers
abbrev pub SaidLeaves : Said Event → Scalars → Memory → Bool → Step → Type 0
SaidLeaves (gives e used) s m last t = Ticked e s t.scalars
SaidLeaves more s m last t = (last ≡ false) × ((t.scalars ≡ s) × (t.memory ≡ m))
SaidLeaves (finish used) s m last t = (t.scalars.standing ≡ Finished) × (t.memory ≡ m)
SaidLeaves (refuses k vs) s m last t = (t.scalars.standing ≡ Refused) × ((k ≡ 13 → ⊥) → t.memory ≡ m)

abbrev pub used_in : Said Event → ℕ
used_in (gives e used) = used
used_in more = 0
used_in (finish used) = used
used_in (refuses k vs) = 0

-- it uses at most the window; good scalars stay good; the arrays keep their lengths, and good entries stay good
pub record Keeps (s : Scalars) (m : Memory) (w : List ℕ) (last : Bool) (t : Step) : Type 0 where
  pub within : used_in t.said ≤ length w
  pub told : SaidLeaves t.said s m last t
  pub scalars : good_scalars s ≡ true → good_scalars t.scalars ≡ true
  pub sizes : Sizes m.entries → Sizes t.memory.entries
  pub entries : Sizes m.entries → good_entries m.entries ≡ true → good_entries t.memory.entries ≡ true

abbrev pub OpenCallKeeps : Type 0
OpenCallKeeps = (s : Scalars) (m : Memory) (w : List ℕ) (last : Bool) → Keeps s m w last (open_call s m w last)

-- ---- what some records leave (rule 7)

-- a PlayerNew of a client below 128 sets its entry, where it is refused 13 too
abbrev pub NewPlaces : Type 0
NewPlaces =
    (s : Scalars) (m : Memory) (c : ℕ) (x y : ℤ) (n : ℕ) → c < 128
    → (new_player s m (pos c) x y n).memory ≡ with_entries (with_player m.entries c 1 x y) m

abbrev pub OldLeavesInputs : Type 0
OldLeavesInputs =
    (s : Scalars) (m : Memory) (c : ℤ) (n : ℕ)
    → ((old_player s m c n).memory.entries.held ≡ m.entries.held) × ((old_player s m c n).memory.entries.inputs ≡ m.entries.inputs)

-- an InputNew of a client below 128 overwrites what was there
abbrev pub InputNewOverwrites : Type 0
InputNewOverwrites =
    (s : Scalars) (m : Memory) (c : ℕ) (ns : List ℤ) (n : ℕ) → c < 128 → (input_new s m (pos c) ns n).memory ≡ changed m c ns

-- ---- good readers

pub record Sound (r : Reader) : Type 0 where
  pub good : good_reader r ≡ true
  pub sizes : Sizes r.entries

abbrev pub EmptySound : Type 0
EmptySound = (v : Version) → Sound (empty_reader v)

abbrev pub ReadersStaySound : Type 0
ReadersStaySound = (r : Reader) (w : List ℕ) (last : Bool) → Sound r → Sound (reader_after (read_call r w last))

-- ---- the remembered client between ticks (rules 3 and 6)

-- an open reader outside a tick, with nothing pending, remembers no client; after finish one may be remembered
abbrev pub ForgetsBetween : Scalars → Type 0
ForgetsBetween s = s.standing ≡ Open → s.inside ≡ false → s.pending ≡ None → s.remembered ≡ None

-- a call keeps it so
abbrev pub ReadersForgetBetween : Type 0
ReadersForgetBetween =
    (r : Reader) (w : List ℕ) (last : Bool) → ForgetsBetween r.scalars → ForgetsBetween (reader_after (read_call r w last)).scalars
