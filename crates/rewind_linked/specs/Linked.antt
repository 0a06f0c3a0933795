-- Bodies read with a reel beside, and rewound, by calls for C and Rust programs.
use Rattle.std.specs.Prelude.{ℕ, ◌≡◌, true, List, length, set, ℤ}
use Rattle.refusal.specs.Numbers.{number_of}
use Rattle.kinds.specs.declared.Version.{Version}
use Rattle.state.specs.State.{empty_reader}
use Rattle.state.specs.declared.Entries.{Entries}
use Rattle.teams.specs.Teams.{no_teams, team_reader}
use Rattle.teams.specs.declared.TeamReader.{TeamReader}
use Rattle.calls.specs.Along.{Run, calls}
use Rattle.team_calls.specs.Lists.{TeamSeen, teams_over, with_formers}
use Rattle.reel.specs.Reel.{counts_of, reel_of}
use Rattle.reel.specs.declared.Counts.{Counts}
use Rattle.reel.specs.declared.Reel.{Reel}
use Rattle.reeling.specs.Reeling.{keep_all}
use Rattle.rewinding.specs.Rewinding.{rewind_to, rewound_of}
use Rattle.rewinding.specs.declared.RewindAnswer.{RewindAnswer}
use Rattle.rewinding.specs.declared.RewindAnswer.TheVariants as answers
use Rattle.rewinding.specs.declared.Rewound.{Rewound}

-- more calls than any body in a memory has events
abbrev pub most_calls : ℕ
most_calls = 18446744073709551615

-- the body read whole from an empty reader
abbrev pub body_run : Version → List ℕ → Run
body_run v body = calls most_calls (empty_reader v) body true

-- its events, each with the former team beside it, and the reader that is left
abbrev pub body_events : Version → List ℕ → List TeamSeen
body_events v body = with_formers no_teams (body_run v body).seen

abbrev pub body_reader : Version → List ℕ → TeamReader
body_reader v body = let run = body_run v body in team_reader run.reader (teams_over no_teams run.seen)

-- a reel without rows, whatever its arrays hold
abbrev pub no_rows : List ℤ → List ℤ → List ℤ → Reel
no_rows rows inputs formers = reel_of (counts_of 0 0) rows inputs formers

-- the number of events is answered; the reel is left in three arrays, its counts in a fourth
pub record ReadsKept (v : Version) (body : List ℕ) (rows₀ inputs₀ formers₀ : List ℤ) (two₀ : List ℕ) (r : ℕ) (rows₁ inputs₁ formers₁ : List ℤ)
    (two₁ : List ℕ) : Type 0 where
  pub count : r ≡ length (body_run v body).seen
  pub next : ℕ
  pub kept : ℕ
  pub two : two₁ ≡ set (set two₀ 0 next) 1 kept
  pub reel : reel_of (counts_of next kept) rows₁ inputs₁ formers₁ ≡ keep_all (no_rows rows₀ inputs₀ formers₀) (body_events v body)

-- 0, or the number of the refusal
abbrev pub answer_number : RewindAnswer → ℕ
answer_number answers.Ended = 0
answer_number (answers.Refused r) = number_of r

-- the rewind after the body was read whole with a reel beside
abbrev pub rewound_in : Version → List ℕ → ℤ → List ℤ → List ℤ → List ℤ → Rewound
rewound_in v body t rows inputs formers = rewound_of (rewind_to (body_reader v body) (keep_all (no_rows rows inputs formers) (body_events v body)) t)

-- the answer's number, the reel that reading left, and the entries and teams of the copy
pub record RewindsBody (v : Version) (body : List ℕ) (t : ℤ) (rows₀ inputs₀ formers₀ : List ℤ) (r : ℕ) (rows₁ inputs₁ formers₁ : List ℤ) (e : Entries)
    (m : List ℤ) : Type 0 where
  pub counts : Counts
  pub reel : reel_of counts rows₁ inputs₁ formers₁ ≡ keep_all (no_rows rows₀ inputs₀ formers₀) (body_events v body)
  pub answer : r ≡ answer_number (rewound_in v body t rows₀ inputs₀ formers₀).answer
  pub copy : e ≡ (rewound_in v body t rows₀ inputs₀ formers₀).board.board.entries
  pub teams : m ≡ (rewound_in v body t rows₀ inputs₀ formers₀).board.teams
