-- Loops over the ten places. Assumes nothing.
use Prim.Native.Nat.{ℕ, zero, suc, ◌+◌, ◌*◌, ◌<◌}
use mathlib.Core.Path.{◌≡◌, refl, sym, ap, ◌∙◌}
use mathlib.Core.List.{List, [], ◌∷◌, ◌++◌, map, append-nil}
use native.Mathlib.Omega.{arith}
use native.Mathlib.Numerals.{add-one}
use lib.ListN.{length, get_or, set, take, drop_of_length-le}
use lib.Seq.{paste, paste-suc, take_all, take-suc}
use lib.IntN.{ℤ, pos}
use Rattle.state.specs.State.{places, puts}

places_at : (k : ℕ) → k < 10 → get_or places k 0 ≡ k
places_at zero h = refl
places_at (suc zero) h = refl
places_at (suc (suc zero)) h = refl
places_at (suc (suc (suc zero))) h = refl
places_at (suc (suc (suc (suc zero)))) h = refl
places_at (suc (suc (suc (suc (suc zero))))) h = refl
places_at (suc (suc (suc (suc (suc (suc zero)))))) h = refl
places_at (suc (suc (suc (suc (suc (suc (suc zero))))))) h = refl
places_at (suc (suc (suc (suc (suc (suc (suc (suc zero)))))))) h = refl
places_at (suc (suc (suc (suc (suc (suc (suc (suc (suc zero))))))))) h = refl
places_at (suc (suc (suc (suc (suc (suc (suc (suc (suc (suc k)))))))))) h = absurd (omega arith)

map_at : (f : ℕ → ℤ) (l : List ℕ) (k : ℕ) → k < length l → get_or (map f l) k (pos 0) ≡ f (get_or l k 0)
map_at f [] k h = absurd (omega arith)
map_at f (x ∷ l) zero h = refl
map_at f (x ∷ l) (suc k) h = map_at f l k (omega arith)

pub each_at : (f : ℕ → ℤ) (k : ℕ) → k < 10 → get_or (map f places) k (pos 0) ≡ f k
each_at f k h = map_at f places k h ∙ ap f (places_at k h)

-- a turn of a loop that fills ten numbers
pub turn : (d s : List ℤ) (j : ℕ) (l : List ℤ) (x : ℤ) → l ≡ paste d 0 s j → x ≡ get_or s j (pos 0) → j < length d → j < length s
    → set l j x ≡ paste d 0 s (j + 1)
turn d s j l x el ex hd hs =
    let z : 0 + j ≡ j = omega arith in
    (λ k. set (el k) (sym z k) (ex k)) ∙ paste-suc d 0 s j (pos 0) (omega arith) hs ∙ ap (paste d 0 s) (sym (add-one j))

pub filled : (d s : List ℤ) → length d ≡ 10 → length s ≡ 10 → paste d 0 s 10 ≡ s
filled d s e h =
    ap (λ (r : List ℤ). take 10 s ++ r) (drop_of_length-le d {i = 10} (omega arith)) ∙ append-nil (take 10 s) ∙ take_all 10 s (omega arith)

-- a turn of a loop that puts ten numbers among the 1280
puts_more : (l : List ℤ) (c : ℕ) (ns : List ℤ) (ks : List ℕ) (k : ℕ) → puts l c ns (ks ++ (k ∷ [])) ≡ set (puts l c ns ks) (10 * c + k) (get_or ns k (pos 0))
puts_more l c ns [] k = refl
puts_more l c ns (j ∷ ks) k = puts_more (set l (10 * c + j) (get_or ns j (pos 0))) c ns ks k

pub put_turn : (d : List ℤ) (c : ℕ) (ns : List ℤ) (j : ℕ) (l : List ℤ) (x : ℤ) → l ≡ puts d c ns (take j places) → x ≡ get_or ns j (pos 0) → j < 10
    → set l (10 * c + j) x ≡ puts d c ns (take (j + 1) places)
put_turn d c ns j l x el ex h =
    (λ k. set (el k) (10 * c + j) (ex k))
    ∙ sym (puts_more d c ns (take j places) j)
    ∙ ap (puts d c ns)
    (sym (ap (λ (i : ℕ). take i places) (add-one j) ∙ take-suc places j 0 h ∙ ap (λ (i : ℕ). take j places ++ (i ∷ [])) (places_at j h)))
