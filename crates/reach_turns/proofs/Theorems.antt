-- The statement of specs/Laws.antt. Assumes nothing.
use Prim.Native.Nat.{ℕ, zero, suc, ◌+◌, ◌<◌}
use mathlib.Core.Path.{◌≡◌, refl, sym, ap, subst, ◌∙◌}
use mathlib.Core.Bool.{Bool, true, false, cond, ◌||◌}
use mathlib.Core.List.{List, [], ◌∷◌, ◌++◌, append-nil}
use native.Mathlib.Omega.{arith}
use borrow.Author.Tests.{ltb-true}
use lib.ListN.{length, take, drop, length-take, length-drop}
use lib.Seq.{take_all}
use lib.IntN.{ℤ}
use Rattle.num.proofs.Cases.{by_bool}
use Rattle.state.specs.State.{empty_reader}
use Rattle.state.specs.declared.Reader.{Reader}
use Rattle.teams.specs.Teams.{no_teams, team_reader, empty_team_reader}
use Rattle.teams.specs.Laws.{SoundTeams}
use Rattle.teams.specs.declared.TeamReader.{TeamReader}
use Rattle.teams.proofs.Theorems.{no_teams_sound}
use Rattle.calls.specs.Along.{Halt, is_full, Run, enough}
use Rattle.calls.specs.Laws.{Within}
use Rattle.calls.proofs.Ranks.{rank_le}
use Rattle.calls.proofs.Theorems as calls
use Rattle.team_calls.specs.Lists.{teams_over}
use Rattle.many.proofs.Edges.{over_sound}
use Rattle.windows.specs.Windows.{full, is_short, ends, wants}
use Rattle.windows.specs.Rounds.{Input, input_after, last_round, wants_read, all_pieces}
use Rattle.windows.proofs.Wants.{wants_is, wants_more_law}
use Rattle.windows.proofs.Rounds.{rest_is, body_after, reads, size, smaller}
use Rattle.windows.proofs.Teams.{turns_with_teams}
use Rattle.reach_turns.specs.Laws.{body_call, FileRead, read_by, bytes_in, file_rounds, RoundsRead}
use Rattle.reach_turns.proofs.Whole.{read, plain_turn, file_read, at_more, turn_reads}

-- ---- rounds with the teams aside

unfoldable plain_rounds : ℕ → Reader → List ℤ → Input → FileRead
plain_rounds zero r t i = file_read r t is_full (bytes_in i)
plain_rounds (suc k) r t i =
    let run = plain_turn r i.hand in
    let next = input_after (wants_read i run) run.used i in
    cond (last_round i run || next.ended) (read_by t run (bytes_in i)) (plain_rounds k run.reader (teams_over t run.seen) next)

-- they are the rounds, where the teams are sound
same_rounds : (k : ℕ) (r : TeamReader) (i : Input) → SoundTeams r.teams → file_rounds k r i ≡ plain_rounds k r.reader r.teams i
unfolding file_rounds plain_rounds
same_rounds zero r i s = refl
same_rounds (suc k) r i s =
    let run = plain_turn r.reader i.hand in
    let now = read_by r.teams run (bytes_in i) in
    let next = input_after (wants_read i run) run.used i in
    rw (turns_with_teams 512 r i.hand false s).same
    (ap (cond (last_round i run || next.ended) now) (same_rounds k now.reader next (over_sound r.teams run.seen s)))

-- so many calls read it, and more calls read no more
record AllRead (r : Reader) (t : List ℤ) (body : List ℕ) (x : FileRead) : Type 0 where
  calls : ℕ
  same : (k : ℕ) → read (calls + suc k) r t body ≡ x

-- ---- a round

abbrev input_of : List ℕ → List (List ℕ) → Input
input_of hand pieces = record { hand = hand; ended = false; pieces = pieces }

module _ (r : Reader) (t : List ℤ) (hand : List ℕ) where
  abbrev run : Run
  run = plain_turn r hand

  abbrev teams : List ℤ
  teams = teams_over t run.seen

  abbrev is_last : Bool
  is_last = ends (is_short hand) run.halt (length run.seen)

  abbrev wants_on : Bool
  wants_on = wants (is_short hand) run.halt

  -- all bytes are at hand, and more are wanted
  at_end : (k : ℕ) → wants_on ≡ true → read (suc k) run.reader teams (drop run.used hand) ≡ read_by t run hand
  at_end k e =
      let w = wants_is (is_short hand) run.halt e in
      let l = ltb-true (length hand) full w.0 in
      let left = drop run.used hand in
      let s : take full left ≡ left = take_all full left (omega (arith, length-drop run.used hand)) in
      at_more k run.reader teams left (rw s (wants_more_law 512 r hand false e).1)
      ∙ ap (λ (h : Halt). file_read run.reader teams h left) (sym w.1)

  -- it ends the reading
  last_round_law : (z : List ℕ) → is_last ≡ true → AllRead r t (hand ++ z) (read_by t run (hand ++ z))
  last_round_law z o = record { calls = length run.seen; same = λ k. turn_reads k r t hand z ∙ rw o }

  -- the file has ended
  ended_round : is_last ≡ false → wants_on ≡ true → AllRead r t (hand ++ []) (read_by t run (hand ++ []))
  ended_round o e =
      record {
        calls = length run.seen;
        same = λ k.
            turn_reads k r t hand [] ∙ rw o
            (subst (λ (b : List ℕ). read (suc k) run.reader teams (drop run.used b) ≡ read_by t run b) (sym (append-nil hand)) (at_end k e));
      }

  -- another round follows
  one_of_many : (z next : List ℕ) (x : FileRead) → is_last ≡ false → drop run.used (hand ++ z) ≡ next → AllRead run.reader teams next x
      → AllRead r t (hand ++ z) x
  one_of_many z next x o b a =
      record {
        calls = length run.seen + a.calls;
        same = λ k.
            let e : length run.seen + a.calls + suc k ≡ length run.seen + suc (a.calls + k) = omega arith in
            let f : suc (a.calls + k) ≡ a.calls + suc k = omega arith in
            ap (λ (n : ℕ). read n r t (hand ++ z)) e ∙ turn_reads (a.calls + k) r t hand z
            ∙ rw (o, b, f) (a.same k);
      }

-- ---- rounds one behind the other

abbrev AllRounds : ℕ → Reader → List ℤ → List ℕ → List (List ℕ) → Type 0
AllRounds k r t hand pieces = AllRead r t (hand ++ all_pieces pieces) (plain_rounds k r t (input_of hand pieces))

at_last : (k : ℕ) (r : Reader) (t : List ℤ) (hand : List ℕ) (pieces : List (List ℕ)) → is_last r t hand ≡ true → AllRounds (suc k) r t hand pieces
unfolding plain_rounds
at_last k r t hand pieces o = rw o (last_round_law r t hand (all_pieces pieces) o)

goes_on : (k : ℕ) (r : Reader) (t : List ℤ) (hand : List ℕ) (pieces : List (List ℕ)) → is_last r t hand ≡ false
    → ((q : Reader) (u : List ℤ) (l : List ℕ) (ps : List (List ℕ)) → size q (input_of l ps) < size r (input_of hand pieces) → AllRounds k q u l ps)
    → (w : Bool) → wants_on r t hand ≡ w → AllRounds (suc k) r t hand pieces
unfolding plain_rounds all_pieces
goes_on k r t hand [] o again true e = rw (o, e) (ended_round r t hand o e)
goes_on k r t hand (p ∷ ps) o again true e =
    let i = input_of hand (p ∷ ps) in
    let room : List ℕ → ℕ = λ l. 511 in
    let run = plain_turn r hand in
    rw (o, e)
    (one_of_many r t hand (all_pieces (p ∷ ps)) _ _ o (rest_is room r i o ∙ body_after true run.used hand false (p ∷ ps))
    (again run.reader (teams r t hand) (drop run.used hand ++ p) ps (smaller true room r i o e)))
goes_on k r t hand pieces o again false e =
    let i = input_of hand pieces in
    let room : List ℕ → ℕ = λ l. 511 in
    let run = plain_turn r hand in
    rw (o, e)
    (one_of_many r t hand (all_pieces pieces) _ _ o (rest_is room r i o)
    (again run.reader (teams r t hand) (drop run.used hand) pieces (smaller false room r i o e)))

all_read : (k : ℕ) (r : Reader) (t : List ℤ) (hand : List ℕ) (pieces : List (List ℕ)) → size r (input_of hand pieces) < k → AllRounds k r t hand pieces
all_read zero r t hand pieces h = absurd (omega arith)
all_read (suc k) r t hand pieces h =
    by_bool (is_last r t hand)
    (λ o. at_last k r t hand pieces o)
    (λ o. goes_on k r t hand pieces o (λ q u l ps less. all_read k q u l ps (omega arith)) (wants_on r t hand) refl)

-- ---- the whole body

within : Within body_call
within bytes = omega (arith, length-take full bytes)

pub rounds_read : RoundsRead
unfolding reads empty_team_reader
rounds_read v k hand pieces h =
    let r = empty_reader v in
    let body = hand ++ all_pieces pieces in
    let a = all_read k r no_teams hand pieces (omega (arith, rank_le r.scalars)) in
    let e : a.calls + suc (enough body) ≡ enough body + (a.calls + 1) = omega arith in
    same_rounds k (team_reader r no_teams) (input_of hand pieces) no_teams_sound
    ∙ sym (a.same (enough body)) ∙ ap (λ (n : ℕ). read n r no_teams body) e
    ∙ ap (λ (run : Run). read_by no_teams run body) (calls.enough_calls body_call within (a.calls + 1) r body)
