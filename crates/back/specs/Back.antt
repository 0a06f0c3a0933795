-- Stepping back over an event. docs/FORMAT.md, "Stepping back".
use Rattle.std.specs.Prelude.{ℕ, Bool, true, false, not, cond, ◌&&◌, List, ltb, ℤ, pos, negsuc, Option, Some, None}
use Rattle.std.specs.Int.Signed.{non_neg}
use Rattle.refusal.specs.declared.Refusal.{Refusal}
use Rattle.refusal.specs.declared.Refusal.TheVariants.{BadState, NotLast}
use Rattle.fields.specs.Views.{zeros}
use Rattle.state.specs.State.{same_int, present, x_of, y_of, with_player, holds, ten_of, with_input}
use Rattle.state.specs.Reading.{
  Event,
  tick_start,
  tick_end,
  player_new,
  player_change,
  player_old,
  input,
  other,
}
use Rattle.state.specs.declared.Entries.{Entries}
unfoldable pub use Rattle.compare.specs.Compare.{same_all}
use Rattle.back.specs.Board.{board, good_board}
use Rattle.back.specs.declared.Board.{Board}

-- the board before the event, or a refusal, which changes nothing
pub data Back : Type 0 where
  was : Board → Back
  refused : Refusal → Back

-- an event fits, or it is refused 19
abbrev pub only_if : Bool → Board → Back
only_if fits b = cond fits (was b) (refused NotLast)

-- it fits only inside a tick, t; only outside any
abbrev pub in_tick : Option ℤ → (ℤ → Back) → Back
in_tick (Some t) f = f t
in_tick None f = refused NotLast

abbrev pub no_tick : Option ℤ → Back → Back
no_tick (Some t) before = refused NotLast
no_tick None before = before

-- it fits no negative client
abbrev pub of_client : ℤ → (ℕ → Back) → Back
of_client (pos c) f = f c
of_client (negsuc c) f = refused NotLast

-- ---- an event of a client, taken off the entries in tick t; only clients below 128 can be present or hold inputs

-- the client is at x, y, and its entry was another: none (PlayerNew), or at the old position (PlayerChange)
abbrev pub un_present : ℤ → Entries → ℤ → ℤ → ℤ → ℕ → ℤ → ℤ → Back
un_present t e z x y mark old-x old-y =
    of_client z (λ c. only_if (present e c && (same_int (x_of e c) x && same_int (y_of e c) y)) (board (Some t) (with_player e c mark old-x old-y)))

abbrev pub un_old : ℤ → Entries → ℤ → ℤ → ℤ → Back
un_old t e z x y = of_client z (λ c. only_if (ltb c 128 && not (present e c)) (board (Some t) (with_player e c 1 x y)))

-- the former input: its numbers, or none
abbrev pub former_input : Entries → ℕ → Bool → List ℤ → Entries
former_input e c true former = with_input e c 1 former
former_input e c false former = with_input e c 0 (zeros 10)

abbrev pub un_input : ℤ → Entries → ℤ → Bool → List ℤ → List ℤ → Back
un_input t e z had ten former =
    of_client z (λ c. only_if (holds e c && same_all (ten_of e.inputs c) ten) (board (Some t) (former_input e c had former)))

-- ---- any event, with its ten numbers and the former ten, taken off a board: only TickEnd fits outside a tick

abbrev pub take_off : Event → List ℤ → List ℤ → Option ℤ → Entries → Back
take_off (tick_start u) ten former k e = in_tick k (λ t. only_if (same_int t u) (board None e))
take_off (tick_end u) ten former k e = no_tick k (only_if (non_neg u) (board (Some u) e))
take_off (player_new c x y) ten former k e = in_tick k (λ t. un_present t e c x y 0 (pos 0) (pos 0))
take_off (player_change c x y old-x old-y) ten former k e = in_tick k (λ t. un_present t e c x y 1 old-x old-y)
take_off (player_old c x y) ten former k e = in_tick k (λ t. un_old t e c x y)
take_off (input c had) ten former k e = in_tick k (λ t. un_input t e c had ten former)
take_off (other r) ten former k e = in_tick k (λ t. was (board (Some t) e))

-- 17, then 19
unfoldable pub step_back : Board → Event → List ℤ → List ℤ → Back
step_back b e ten former = cond (good_board b) (take_off e ten former b.tick b.entries) (refused BadState)
