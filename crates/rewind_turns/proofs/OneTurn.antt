-- One turn, from what its calls ensure. Assumes nothing.
use Prim.Native.Nat.{ℕ, min}
use mathlib.Core.Path.{◌≡◌, ◌∙◌, ap, subst}
use mathlib.Core.Bool.{Bool, ◌||◌}
use mathlib.Core.List.{List}
use lib.ListN.{length, take}
use lib.IntN.{ℤ}
use Rattle.teams.specs.declared.TeamReader.{TeamReader}
use Rattle.calls.specs.Along.{Halt, Run}
use Rattle.many.specs.Many.{halt_of}
use Rattle.windows.specs.Windows.{full, window_of, is_short, is_last_window, ends, wants}
use Rattle.windows.proofs.AtHand.{take_least}
use Rattle.reel.specs.declared.Reel.{Reel}
use Rattle.reeling.specs.Reeling.{kept_calls, KeptIs}
use Rattle.reeling.specs.declared.ReelRead.{ReelRead}
use Rattle.rewind_turns.specs.Turns.{turn_kept, has_all, KeepsTurn}
use Rattle.rewind_turns.specs.declared.ReelTurn.{ReelTurn}

abbrev is_over : Bool → Halt → ℕ → Bool
is_over short h n = has_all h || ends short h n

abbrev turn_by : ReelRead → Bool → Bool → ReelTurn
turn_by a over wanted = record { reader = a.reader; counts = a.counts; used = a.used; count = a.count; over = over; wants = wanted }

-- by any run
of_run_law : (bytes : List ℕ) (run : Run) (t : List ℤ) (l₀ : Reel) (a : ReelRead) (l₁ : Reel) → KeptIs run t l₀ a l₁
    → (over : Bool) → over ≡ is_over (is_short bytes) (halt_of a.stop) a.count
    → (wanted : Bool) → wanted ≡ wants (is_short bytes) (halt_of a.stop) → KeepsTurn bytes run t l₀ (turn_by a over wanted) l₁
of_run_law bytes run t l₀ a l₁ k over o wanted w =
    record {
      left = k.left;
      used = k.used;
      count = k.count;
      over =
          o ∙ ap (λ (h : Halt). is_over (is_short bytes) h a.count) k.halt
          ∙ ap (λ (n : ℕ). is_over (is_short bytes) run.halt n) k.count;
      wants = w ∙ ap (λ (h : Halt). wants (is_short bytes) h) k.halt;
      reel = k.reel;
    }

-- n is the end of the window, a what is read of it
pub turned : (most : ℕ) (r : TeamReader) (l₀ : Reel) (bytes : List ℕ) (ended : Bool) (n : ℕ) → n ≡ min (length bytes) full
    → (last : Bool) → last ≡ is_last_window ended bytes
    → (a : ReelRead) (l₁ : Reel) → KeptIs (kept_calls most r l₀ (take n bytes) last) r.teams l₀ a l₁
    → (over : Bool) → over ≡ is_over (is_short bytes) (halt_of a.stop) a.count
    → (wanted : Bool) → wanted ≡ wants (is_short bytes) (halt_of a.stop)
    → KeepsTurn bytes (turn_kept most r l₀ bytes ended) r.teams l₀ (turn_by a over wanted) l₁
turned most r l₀ bytes ended n e last f a l₁ k =
    let w : take n bytes ≡ window_of bytes = ap (λ (m : ℕ). take m bytes) e ∙ take_least bytes full in
    let same : kept_calls most r l₀ (take n bytes) last ≡ turn_kept most r l₀ bytes ended = λ i. kept_calls most r l₀ (w i) (f i) in
    of_run_law bytes (turn_kept most r l₀ bytes ended) r.teams l₀ a l₁ (subst (λ (x : Run). KeptIs x r.teams l₀ a l₁) same k)
