-- The part of demand 3 that speaks of ticks, positions and inputs, over the definitions of reading calls without teams (crates state and calls) and
-- one step back without teams (crate back).
use Rattle.std.specs.Prelude.{ℕ, ◌+◌, ◌≡◌, true, false, List, ◌++◌, ℤ, pos, negsuc}
use Rattle.num.specs.Wrap.{wrap32}
use Rattle.kinds.specs.declared.Version.{Version}
use Rattle.state.specs.State.{present, x_of, y_of, empty_reader}
use Rattle.state.specs.declared.Entries.{Entries}
use Rattle.calls.specs.Calls.{Call, Seen, after, events}
use Rattle.back.specs.Board.{board_of}
use Rattle.back.specs.Back.{was}
use Rattle.demand.specs.Events.{meets13, back_over, is_new, is_old, count, is_present, sum_of, players}

-- what the events so far, the last first, tell of the entries: the number of players present is that of the PlayerNew events less that
-- of the PlayerOld events; present are those whose last such event is PlayerNew, and no negative client; each one's position is its start
-- plus all differences since, modulo 2 ^ 32 per coordinate
pub record Told (e : Entries) (so_far : List Seen) : Type 0 where
  pub number : players e.marks + count is_old so_far ≡ count is_new so_far
  pub presence : (c : ℕ) → present e c ≡ is_present (pos c) so_far
  pub negative : (c : ℕ) → is_present (negsuc c) so_far ≡ false
  pub position : (c : ℕ) → is_present (pos c) so_far ≡ true
      → ◌≡◌ {A = ℤ × ℤ} (x_of e c, y_of e c) (wrap32 (sum_of (pos c) so_far).0, wrap32 (sum_of (pos c) so_far).1)

-- calls cut in two, with no refusal 13 among them: stepping back over the events of the second part never refuses and gives exactly the
-- board before it; and the events so far tell of the board after it
pub record BoardKept (v : Version) (before between : List Call) : Type 0 where
  pub back : back_over (was (board_of (after (empty_reader v) (before ++ between)))) (events (after (empty_reader v) before) between)
      ≡ was (board_of (after (empty_reader v) before))
  pub told : Told (after (empty_reader v) (before ++ between)).entries (events (empty_reader v) (before ++ between))

abbrev pub BoardsKept : Type 0
BoardsKept =
    (v : Version) (before between : List Call) → meets13 (empty_reader v) (before ++ between) ≡ false → BoardKept v before between
