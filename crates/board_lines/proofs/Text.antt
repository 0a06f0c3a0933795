-- The whole text of a board: how long it is, and from which parts it is put. Assumes nothing.
use Rattle.std.specs.Prelude.{Option, Some, None}
use Prim.Native.Nat.{ℕ, ◌+◌, ◌*◌, ◌≤◌}
use mathlib.Core.Path.{◌≡◌}
use mathlib.Core.List.{List, [], ◌∷◌, ◌++◌}
use native.Mathlib.Omega.{arith}
use lib.ListN.{length, length-append}
use lib.IntN.{ℤ, pos}
use Rattle.refusal.specs.Numbers.{number_of}
use Rattle.packer.proofs.Joined.{first_fits, next_fits, two_puts}
use Rattle.state.specs.State.{present, holds}
use Rattle.state.specs.declared.Entries.{Entries}
use Rattle.teams.specs.Teams.{has_team}
use Rattle.back.specs.declared.TeamBoard.{TeamBoard}
use Rattle.lines.specs.Lines.{longest}
use Rattle.lines.specs.steps.Puts.{PutsText}
use Rattle.lines.proofs.Texts.{end_le}
use Rattle.row_lines.proofs.Puts.{put_size}
use Rattle.going.specs.declared.GoAnswer.{GoAnswer}
use Rattle.going.specs.declared.GoAnswer.TheVariants as goes
use Rattle.board_lines.specs.BoardLines.{tick_line, player_line, input_line, team_line, lines_below, board_text, gone_line, longest_board}
use Rattle.board_lines.proofs.Below.{player_le, input_le, team_le, lines_le}

abbrev pub players : Entries → List ℕ
players e = lines_below 128 (present e) (player_line e)

abbrev pub inputs : Entries → List ℕ
inputs e = lines_below 128 (holds e) (input_line e)

abbrev pub teams : List ℤ → List ℕ
teams m = lines_below 128 (has_team m) (team_line m)

-- what stands behind the line of the tick
abbrev rest : Entries → List ℤ → List ℕ
rest e m = players e ++ (inputs e ++ teams m)

tick_le : (t : Option ℤ) → length (tick_line t) ≤ 18
tick_le (Some t) = omega (arith, end_le (t ∷ []))
tick_le None = omega arith

players_le : (e : Entries) → length (players e) ≤ 5504
players_le e = lines_le 43 (present e) (player_line e) (player_le e) 128

inputs_le : (e : Entries) → length (inputs e) ≤ 17664
inputs_le e = lines_le 138 (holds e) (input_line e) (input_le e) 128

teams_le : (m : List ℤ) → length (teams m) ≤ 3712
teams_le m = lines_le 29 (has_team m) (team_line m) (team_le m) 128

-- the text of a board, and a last line's room behind it
board_le : (b : TeamBoard) → length (board_text b) + longest ≤ longest_board
unfolding board_text
board_le b =
    rw (length-append, length-append, length-append)
    (omega (arith, tick_le b.board.tick, players_le b.board.entries, inputs_le b.board.entries, teams_le b.teams))

module _ (t : Option ℤ) (e : Entries) (m : List ℤ) (xs : List ℕ) (at : ℕ) (room : at + longest_board ≤ length xs) where
  whole : at + length (tick_line t ++ rest e m) ≤ length xs
  whole =
      omega
      (arith, length-append (tick_line t) (rest e m), length-append (players e) (inputs e ++ teams m), length-append (inputs e) (teams m), tick_le t, players_le e, inputs_le e, teams_le m)

  module _ (a : ℕ) (ys : List ℕ) (p : PutsText xs at (tick_line t) a ys) where
    same_size : length ys ≡ length xs
    same_size = put_size xs at (tick_line t) a ys (first_fits xs at (tick_line t) (rest e m) whole) p

    pub players_fit : a + 128 * 43 ≤ length ys
    players_fit = omega (arith, p.0, tick_le t, same_size)

    behind : a + length (rest e m) ≤ length ys
    behind = next_fits xs at (tick_line t) (rest e m) whole a ys p

    module _ (b : ℕ) (zs : List ℕ) (q : PutsText ys a (players e) b zs) where
      same_then : length zs ≡ length ys
      same_then = put_size ys a (players e) b zs (first_fits ys a (players e) (inputs e ++ teams m) behind) q

      pub inputs_fit : b + 128 * 138 ≤ length zs
      inputs_fit = omega (arith, p.0, q.0, tick_le t, players_le e, same_size, same_then)

      further : b + length (inputs e ++ teams m) ≤ length zs
      further = next_fits ys a (players e) (inputs e ++ teams m) behind b zs q

      module _ (d : ℕ) (vs : List ℕ) (r : PutsText zs b (inputs e) d vs) where
        pub teams_fit : d + 128 * 29 ≤ length vs
        teams_fit =
            omega
            (arith, p.0, q.0, r.0, tick_le t, players_le e, inputs_le e, same_size, same_then, put_size zs b (inputs e) d vs (first_fits zs b (inputs e) (teams m) further) r)

        pub board_put : (c : ℕ) (us : List ℕ) → PutsText vs d (teams m) c us → PutsText xs at (tick_line t ++ rest e m) c us
        board_put c us s =
            two_puts xs at (tick_line t) (rest e m) whole a ys p c us
            (two_puts ys a (players e) (inputs e ++ teams m) behind b zs q c us (two_puts zs b (inputs e) (teams m) further d vs r c us s))

-- a board and a last line
end_short : (w : GoAnswer) → length (gone_line w) ≤ longest
end_short goes.Ended = omega arith
end_short goes.Going = omega arith
end_short (goes.Refused r) = omega (arith, end_le (pos (number_of r) ∷ []))

module _ (w : GoAnswer) (b : TeamBoard) (xs : List ℕ) (at : ℕ) (room : at + longest_board ≤ length xs) where
  gone_whole : at + length (board_text b ++ gone_line w) ≤ length xs
  gone_whole = omega (arith, length-append (board_text b) (gone_line w), board_le b, end_short w)

  module _ (a : ℕ) (ys : List ℕ) (p : PutsText xs at (board_text b) a ys) where
    pub end_fits : a + longest ≤ length ys
    end_fits = omega (arith, p.0, board_le b, put_size xs at (board_text b) a ys (first_fits xs at (board_text b) (gone_line w) gone_whole) p)

    pub gone_put : (c : ℕ) (us : List ℕ) → PutsText ys a (gone_line w) c us → PutsText xs at (board_text b ++ gone_line w) c us
    gone_put = two_puts xs at (board_text b) (gone_line w) gone_whole a ys p
