-- What a start hands out, by what seeking answers; a start after a body was read whole. Assumes nothing.
use Rattle.std.specs.Prelude.{Ok, Err}
use Prim.Native.Nat.{ℕ}
use mathlib.Core.Path.{◌≡◌, refl, ap, ◌∙◌}
use mathlib.Core.Bool.{false}
use mathlib.Core.List.{List}
use lib.IntN.{ℤ}
use Rattle.refusal.specs.declared.Refusal.{Refusal}
use Rattle.kinds.specs.declared.Version.{Version}
use Rattle.state.specs.declared.Entries.{Entries}
use Rattle.teams.specs.Teams.{no_teams}
use Rattle.teams.specs.declared.TeamReader.{TeamReader}
use Rattle.back.specs.TeamBoard.{team_board_of}
use Rattle.back.specs.declared.TeamBoard.{TeamBoard}
use Rattle.reel.specs.Reel.{reel_of}
use Rattle.reel.specs.declared.Reel.{Reel}
use Rattle.reeling.specs.Reeling.{KeptIs}
use Rattle.reeling.specs.declared.ReelRead.{ReelRead}
use Rattle.rewinding.specs.Rewinding.{sought_in}
use Rattle.going.specs.Going.{start_rewind}
use Rattle.rewind_linked.specs.Linked.{body_run, no_rows}
use Rattle.rewind_linked.specs.UnderWay.{three_with, two_with, start_in, StartsRewind}
use Rattle.rewind_linked.specs.steps.Starting.{Begins, no_begin}
use Rattle.rewind_linked.specs.declared.Begun.{Begun}

module _ (r : TeamReader) (l : Reel) (t : ℤ) where
  pub found : (n : ℕ) → sought_in r l t ≡ Ok n → (b : TeamBoard) → b ≡ team_board_of r
      → Begins (start_rewind r l t) (record { number = 0; board = b; newer = n })
  unfolding start_rewind
  found n e b f = rw e (record { number = refl; board = f; newer = refl; fits = refl })

  pub not_found : (why : Refusal) → sought_in r l t ≡ Err why → Begins (start_rewind r l t) (no_begin why)
  unfolding start_rewind
  not_found why e = rw e (record { number = refl; board = refl; newer = refl; fits = refl })

module _ (v : Version) (body : List ℕ) (t : ℤ) (rows inputs formers : List ℤ) where
  -- reading answered read and left a reel; a start on it handed out b
  pub starts : (read : ReelRead) (rows₁ inputs₁ formers₁ : List ℤ)
      → KeptIs (body_run v body) no_teams (no_rows rows inputs formers) read (reel_of read.counts rows₁ inputs₁ formers₁)
      → (u : ℤ) → u ≡ t → (b : Begun) → Begins (start_rewind read.reader (reel_of read.counts rows₁ inputs₁ formers₁) u) b
      → (three₀ three₁ : List ℕ) → three₁ ≡ three_with three₀ read.counts b.newer
      → (two₀ two₁ : List ℤ) → two₁ ≡ two_with two₀ b.board.board.tick false
      → (e : Entries) → e ≡ b.board.board.entries → (m : List ℤ) → m ≡ b.board.teams
      → StartsRewind v body t rows inputs formers three₀ two₀ b.number rows₁ inputs₁ formers₁ e m three₁ two₁
  starts read rows₁ inputs₁ formers₁ kept u same b begun three₀ three₁ three two₀ two₁ two e entries m teams =
      let begins : Begins (start_in v body t rows inputs formers) b = rw (same, kept.left, kept.reel) at begun in
      record {
        counts = read.counts;
        reel = kept.reel;
        answer = begins.number;
        copy = entries ∙ ap (λ (x : TeamBoard). x.board.entries) begins.board;
        teams = teams ∙ ap (λ (x : TeamBoard). x.teams) begins.board;
        three = three ∙ ap (three_with three₀ read.counts) begins.newer;
        two = two ∙ (λ k. two_with two₀ (begins.board k).board.tick (begins.fits k));
      }
