-- One turn, from what its calls ensure. Assumes nothing.
use Prim.Native.Nat.{ℕ, zero, suc, ◌+◌, ◌*◌, ◌≤◌, ◌<◌, min}
use mathlib.Core.Path.{◌≡◌, refl, sym, ◌∙◌, ap}
use mathlib.Core.Bool.{Bool, true, false}
use mathlib.Core.List.{List, [], ◌∷◌, ◌++◌, flat_map}
use native.Mathlib.Omega.{arith}
use borrow.Author.Tests.{le-leb}
use lib.ListN.{length, take, drop, length-append}
use lib.Seq.{length-take-le}
use lib.IntN.{ℤ, pos}
use Rattle.varint.specs.Written.{written}
use Rattle.packer.proofs.Joined.{written_length, two_puts}
use Rattle.teams.specs.declared.TeamReader.{TeamReader}
use Rattle.team_calls.specs.Lists.{TeamSeen, teams_over, with_formers}
use Rattle.calls.specs.Calls.{Seen}
use Rattle.calls.specs.Along.{along, Halt, is_full, wants_more, finishes, is_refused, Run}
use Rattle.calls.specs.Along.{all_of}
use Rattle.calls.specs.Laws.{TensBeside}
use Rattle.calls.proofs.Theorems.{few_events, run_tens}
use Rattle.rows.specs.Rows.{room, rows_from, tens_from}
use Rattle.rows.specs.steps.Stores.{AllInRows}
use Rattle.rows.proofs.Blocks.{formers_length, all_told, rows_length, tens_length, front_rows, front_tens}
use Rattle.row_lines.specs.Text.{text_of}
use Rattle.row_lines.specs.steps.RowLines.{PutsLines}
use Rattle.row_lines.proofs.Onward.{formers_off, text_le}
use Rattle.many.specs.Many.{many_calls, halt_of, ManyIs}
use Rattle.many.specs.declared.ManyAnswer.{ManyAnswer}
use Rattle.many.proofs.Edges.{with_room, no_calls, by_teams}
use Rattle.lines.specs.Lines.{longest, refused_word}
use Rattle.lines.specs.steps.Puts.{PutsText}
use Rattle.lines.proofs.Texts.{line_fits}
use Rattle.windows.specs.Windows.{full, window_of, is_short, is_last_window, team_turn_run, ends, wants}
use Rattle.windows.proofs.AtHand.{take_least}
use Rattle.replayer.specs.Replay.{ending_of, run_text, turn_room, no_turn, Turns}

ending_le : (short : Bool) (h : Halt) (n : ℕ) → length (ending_of short h n) ≤ longest
ending_le short is_full n = omega arith
ending_le true wants_more n = omega arith
ending_le false wants_more zero = omega arith
ending_le false wants_more (suc n) = omega arith
ending_le short finishes n = omega arith
ending_le short (is_refused k vs) n = omega (arith, line_fits refused_word (pos k ∷ []) 0 longest (omega arith) (omega arith))

written_front : (xs bs : List ℕ) → length bs ≤ length xs → written xs 0 bs ≡ bs ++ drop (length bs) xs
unfolding written
written_front xs bs h =
    let e : 0 + length bs ≡ length bs = omega arith in
    rw (e, le-leb (length bs) (length xs) h)

module _ (reader : TeamReader) (bytes : List ℕ) (input-ended : Bool) (rows tens : List ℤ) (out : List ℕ) (n : ℕ) (is : n ≡ turn_room rows tens out) where
  -- ---- room for no event

  pub nothing : n ≡ 0 → Turns bytes (team_turn_run (turn_room rows tens out) reader bytes input-ended) reader.teams rows tens out
      (no_turn reader) rows tens out
  unfolding along flat_map rows_from tens_from teams_over with_formers
  nothing e =
      let z : turn_room rows tens out ≡ 0 = sym is ∙ e in
      rw (z, no_calls reader (window_of bytes) (is_last_window input-ended bytes))
      (record { left = refl; used = refl; filled = refl; ended = refl; wants = refl; out = refl; rows = refl; tens = refl })

  -- ---- room for some

  module _ (some : n ≡ 0 → ⊥) where
    pub rows_fit : 8 * n ≤ length rows
    rows_fit = omega arith

    pub tens_fit : 20 * n ≤ length tens
    tens_fit = omega arith

    lines_fit : longest * n + longest ≤ length out
    lines_fit = omega arith

    room_is : room (take (8 * n) rows) (take (20 * n) tens) ≡ n
    room_is =
        let a = length-take-le (8 * n) rows rows_fit in
        let b = length-take-le (20 * n) tens tens_fit in
        omega arith

    abbrev run : Run
    run = team_turn_run n reader bytes input-ended

    abbrev seen : List Seen
    seen = run.seen

    abbrev all : List TeamSeen
    all = with_formers reader.teams seen

    abbrev text : List ℕ
    text = run_text (is_short bytes) run

    events_le : length seen ≤ n
    events_le =
        by_teams (λ (r : Run). length r.seen ≤ n) n reader _ _
        (few_events (all_of (is_last_window input-ended bytes)) n reader.reader (window_of bytes)).0 (λ h. omega arith)

    tens_beside : TensBeside seen
    unfolding TensBeside
    tens_beside =
        by_teams (λ (r : Run). TensBeside r.seen) n reader _ _
        (run_tens (all_of (is_last_window input-ended bytes)) n reader.reader (window_of bytes)) (λ h. tt)

    seen_rows : 8 * length seen ≤ length rows
    seen_rows = omega (arith, events_le, rows_fit)

    seen_tens : 20 * length seen ≤ length tens
    seen_tens = omega (arith, events_le, tens_fit)

    module _ (m : ManyAnswer) (rows₁ tens₁ : List ℤ) (end : ℕ) (e : end ≡ min (length bytes) full)
        (last : Bool) (f : last ≡ is_last_window input-ended bytes)
        (t : ManyIs (many_calls (room (take (8 * n) rows) (take (20 * n) tens)) reader (take end bytes) last) reader.teams (take (8 * n) rows) (take (20 * n) tens) m rows₁ tens₁)
      where
        ran : ManyIs run reader.teams (take (8 * n) rows) (take (20 * n) tens) m rows₁ tens₁
        ran =
            let some-room : 0 < n = omega arith in
            rw (e, f, room_is, take_least bytes full, with_room n reader (window_of bytes) (is_last_window input-ended bytes) some-room) at t

        rows_now : rows₁ ++ drop (8 * n) rows ≡ rows_from 0 all rows
        rows_now = rw ran.rows (front_rows reader.teams seen tens_beside (8 * n) rows rows_fit (omega (arith, events_le)))

        tens_now : tens₁ ++ drop (20 * n) tens ≡ tens_from 0 all tens
        tens_now = rw ran.tens (front_tens reader.teams seen tens_beside (20 * n) tens tens_fit (omega (arith, events_le)))

        rows_enough : (8 * m.count ≤ length (rows₁ ++ drop (8 * n) rows)) × (20 * m.count ≤ length (tens₁ ++ drop (20 * n) tens))
        rows_enough =
            rw (rows_now, tens_now, ran.count, rows_length reader.teams seen tens_beside rows seen_rows, tens_length reader.teams seen tens_beside tens seen_tens)
            (seen_rows, seen_tens)

        told : AllInRows 0 all (rows₁ ++ drop (8 * n) rows) (tens₁ ++ drop (20 * n) tens)
        told =
            rw (rows_now, tens_now)
            (all_told reader.teams seen tens_beside rows tens seen_rows seen_tens)

        text_fits : length (text_of seen) + longest ≤ length out
        text_fits =
            let l = rw (formers_off reader.teams seen) at (text_le (rows₁ ++ drop (8 * n) rows) (tens₁ ++ drop (20 * n) tens) 0 all told) in
            omega (arith, l, formers_length reader.teams seen, events_le, lines_fit)

        module _ (at : ℕ) (out₁ : List ℕ) (p : PutsLines (rows₁ ++ drop (8 * n) rows) (tens₁ ++ drop (20 * n) tens) m.count out at out₁) where
          lines : PutsText out 0 (text_of seen) at out₁
          lines =
              rw (formers_off reader.teams seen)
              at (p all (formers_length reader.teams seen ∙ sym ran.count) rows_enough.0 rows_enough.1 told (omega (arith, ran.count, events_le, lines_fit)))

          pub last_fits : at + longest ≤ length out₁
          last_fits =
              let l : length out₁ ≡ length out = ap length lines.1 ∙ written_length out 0 (text_of seen) (omega (arith, text_fits)) in
              omega (arith, lines.0, text_fits)

          module _ (filled : ℕ) (out₂ : List ℕ) (q : PutsText out₁ at (ending_of (is_short bytes) (halt_of m.stop) m.count) filled out₂) where
            all_fits : length (text) ≤ length out
            all_fits =
                let last = ending_of (is_short bytes) run.halt (length seen) in
                omega (arith, length-append (text_of seen) last, ending_le (is_short bytes) run.halt (length seen), text_fits)

            whole : PutsText out 0 (text) filled out₂
            whole =
                two_puts out 0 (text_of seen) (ending_of (is_short bytes) run.halt (length seen)) (omega (arith, all_fits)) at out₁ lines filled out₂
                (rw (ran.halt, ran.count) at q)

            pub turned : (ended : Bool) → ended ≡ ends (is_short bytes) (halt_of m.stop) m.count
                → (w : Bool) → w ≡ wants (is_short bytes) (halt_of m.stop)
                → Turns bytes (team_turn_run (turn_room rows tens out) reader bytes input-ended) reader.teams rows tens out
                (record { reader = m.reader; used = m.used; filled = filled; ended = ended; wants = w })
                (rows₁ ++ drop (8 * n) rows) (tens₁ ++ drop (20 * n) tens) out₂
            turned ended x w y =
                rw (← is)
                (record {
                  left = ran.left;
                  used = ran.used;
                  filled = whole.0 ∙ omega arith;
                  ended = rw (ran.halt, ran.count) at x;
                  wants = rw ran.halt at y;
                  out = whole.1 ∙ written_front out (text) all_fits;
                  rows = rows_now;
                  tens = tens_now;
                })
