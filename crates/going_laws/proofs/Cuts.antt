-- Calls cut in two, with any number of their events behind the cut. Assumes nothing.
use Rattle.std.specs.Prelude.{Option, ℤ}
use Prim.Native.Nat.{ℕ, ◌≤◌, ◌<◌}
use mathlib.Core.Path.{◌≡◌, refl, ap, ◌∙◌}
use mathlib.Core.List.{List, [], ◌∷◌, ◌++◌, map}
use native.Mathlib.Omega.{arith}
use lib.ListN.{length, length-append}
use lib.Dec.{leb}
use borrow.Author.Tests.{leb-true, leb-false}
use Rattle.num.proofs.Cases.{by_bool}
use Rattle.item.specs.Said.{Said, gives, more, finish, refuses}
use Rattle.state.specs.Reading.{Event}
use Rattle.teams.specs.declared.TeamReader.{TeamReader}
use Rattle.calls.specs.Calls.{Call, Seen, seen_in}
use Rattle.team_calls.specs.Lists.{team_seen, call_team, next_team, team_event_of, team_after, team_events}
use Rattle.back.specs.TeamBoard.{team_board_of}
use Rattle.back.specs.declared.TeamBoard.{TeamBoard}
use Rattle.rewind_laws.proofs.Standing.{events_append}
use Rattle.going_laws.specs.Beside.{BoardBefore}

-- the board of a reader is the one before all events of its calls
before_all : (r : TeamReader) (cs : List Call) (k : ℕ) → length (team_events r cs) ≡ k → BoardBefore k r cs (team_board_of r)
unfolding team_after
before_all r cs k e = record { upto = []; behind = cs; cut = refl; number = e; board = refl }

-- cut behind the first call
behind_one : (r : TeamReader) (c : Call) (cs : List Call) (k : ℕ) (b : TeamBoard) → BoardBefore k (next_team r c) cs b → BoardBefore k r (c ∷ cs) b
unfolding team_after
behind_one r c cs k b p =
    record { upto = c ∷ p.upto; behind = p.behind; cut = ap (λ (l : List Call). c ∷ l) p.cut; number = p.number; board = p.board }

-- a call gives at most one event
by_said : (x : Said Event) (m : Option ℤ) (by : Event → ℕ → Seen) → length (map (team_seen m) (seen_in x by)) ≤ 1
by_said (gives e n) m by = omega arith
by_said more m by = omega arith
by_said (finish n) m by = omega arith
by_said (refuses k vs) m by = omega arith

at_most_one : (r : TeamReader) (c : Call) → length (team_event_of r c) ≤ 1
at_most_one r c = by_said (call_team r c).step.said (call_team r c).former _

all_of : (r : TeamReader) (c : Call) (cs : List Call) (k : ℕ) → k ≤ length (team_events r (c ∷ cs)) → length (team_events (next_team r c) cs) < k
    → length (team_events r (c ∷ cs)) ≡ k
unfolding team_events
all_of r c cs k h below = omega (arith, length-append (team_events (next_team r c) cs) (team_event_of r c), at_most_one r c)

cut_at : (cs : List Call) (r : TeamReader) (k : ℕ) → k ≤ length (team_events r cs) → (b : TeamBoard) × BoardBefore k r cs b
unfolding team_events
cut_at [] r k h = (team_board_of r, before_all r [] k (omega arith))
cut_at (c ∷ cs) r k h =
    by_bool (leb k (length (team_events (next_team r c) cs)))
    (λ t. let p = cut_at cs (next_team r c) k (leb-true k (length (team_events (next_team r c) cs)) t) in (p.0, behind_one r c cs k p.0 p.1))
    (λ f. (team_board_of r, before_all r (c ∷ cs) k (all_of r c cs k h (leb-false k (length (team_events (next_team r c) cs)) f))))

within : (m : ℕ) (r : TeamReader) (cs : List Call) (b : TeamBoard) → BoardBefore m r cs b → m ≤ length (team_events r cs)
within m r cs b p =
    let e : length (team_events r cs) ≡ length (team_events (team_after r p.upto) p.behind ++ team_events r p.upto) =
    ap (λ (l : List Call). length (team_events r l)) p.cut ∙ ap length (events_append r p.upto p.behind)
    in
    omega (arith, e, length-append (team_events (team_after r p.upto) p.behind) (team_events r p.upto), p.number)

-- with a cut there is one for every smaller number
pub newer_cut : (m : ℕ) (r : TeamReader) (cs : List Call) (b : TeamBoard) → BoardBefore m r cs b → (k : ℕ) → k ≤ m → (a : TeamBoard) × BoardBefore k r cs a
newer_cut m r cs b p k h = cut_at cs r k (omega (arith, within m r cs b p))
