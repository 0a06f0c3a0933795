-- One turn, from what its calls ensure. Assumes nothing.
use Prim.Native.Nat.{ℕ, ◌<◌, min}
use mathlib.Core.Path.{◌≡◌, ◌∙◌, ap, subst}
use mathlib.Core.Bool.{Bool, false}
use mathlib.Core.List.{List}
use native.Mathlib.Omega.{arith}
use lib.ListN.{length, take}
use lib.IntN.{ℤ}
use Rattle.teams.specs.declared.TeamReader.{TeamReader}
use Rattle.calls.specs.Along.{Halt, Run}
use Rattle.rows.specs.Rows.{room}
use Rattle.many.specs.Many.{many_calls, halt_of, ManyIs}
use Rattle.many.specs.declared.ManyAnswer.{ManyAnswer}
use Rattle.many.proofs.Edges.{with_room}
use Rattle.windows.specs.Windows.{full, window_of, is_short, ends, wants}
use Rattle.windows.proofs.AtHand.{take_least}
use Rattle.reach_turns.specs.Turns.{turn_on, TurnIs}
use Rattle.reach_turns.specs.declared.Turned.{Turned}

abbrev turn_by : ManyAnswer → Bool → Bool → Turned
turn_by a over wanted = record { reader = a.reader; used = a.used; stop = a.stop; over = over; wants = wanted }

-- n is the end of the window, a what is read of it
module _ (r : TeamReader) (bytes : List ℕ) (n : ℕ) (e : n ≡ min (length bytes) full) (rows tens : List ℤ) (rows_are : 4096 ≡ length rows)
    (tens_are : 10240 ≡ length tens) (a : ManyAnswer) (rows₁ tens₁ : List ℤ)
    (m : ManyIs (many_calls (room rows tens) r (take n bytes) false) r.teams rows tens a rows₁ tens₁)
    (over : Bool) (o : over ≡ ends (is_short bytes) (halt_of a.stop) a.count)
    (wanted : Bool) (w : wanted ≡ wants (is_short bytes) (halt_of a.stop))
  where
    same : many_calls (room rows tens) r (take n bytes) false ≡ turn_on r bytes
    same =
        let k : room rows tens ≡ 512 = rw (← rows_are, ← tens_are) in
        let some : 0 < 512 = omega arith in
        rw (k, e, take_least bytes full) (with_room 512 r (window_of bytes) false some)

    pub turned : TurnIs bytes (turn_on r bytes) r.teams (turn_by a over wanted)
    turned =
        let t = subst (λ (x : Run). ManyIs x r.teams rows tens a rows₁ tens₁) same m in
        record {
          left = t.left;
          used = t.used;
          halt = t.halt;
          over =
              o ∙ ap (λ (h : Halt). ends (is_short bytes) h a.count) t.halt
              ∙ ap (λ (c : ℕ). ends (is_short bytes) (turn_on r bytes).halt c) t.count;
          wants = w ∙ ap (λ (h : Halt). wants (is_short bytes) h) t.halt;
        }
