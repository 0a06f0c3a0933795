-- Lines put one behind the other: what is still to come. Assumes nothing.
use Prim.Native.Nat.{ℕ, suc, ◌+◌, ◌*◌, ◌≤◌, ◌<◌}
use mathlib.Core.Path.{◌≡◌, refl, ap, ◌∙◌}
use mathlib.Core.List.{List, [], ◌∷◌, ◌++◌, flat_map}
use native.Mathlib.Omega.{arith}
use native.Mathlib.Numerals.{add-one}
use lib.ListN.{length, length-append}
use lib.IntN.{ℤ}
use Rattle.varint.specs.Written.{written}
use Rattle.packer.proofs.Joined.{joined, nothing_put}
use Rattle.calls.specs.Calls.{Seen}
use Rattle.teams.specs.Teams.{teams_after}
use Rattle.team_calls.specs.Lists.{TeamSeen, with_formers}
use Rattle.lines.specs.steps.Puts.{PutsText}
use Rattle.lines.specs.Lines.{line_of, longest}
use Rattle.lines.proofs.Texts.{line_le}
use Rattle.row_lines.specs.Text.{text_of, events_in}
use Rattle.rows.specs.steps.Stores.{AllInRows}
use Rattle.row_lines.specs.steps.RowLines.{PutsLine}

abbrev pub line_is : TeamSeen → List ℕ
line_is x = line_of x.seen.event x.seen.ten

abbrev team_text : List TeamSeen → List ℕ
team_text xs = text_of (events_in xs)

-- the events with the former team beside each are those events
pub formers_off : (t : List ℤ) (xs : List Seen) → events_in (with_formers t xs) ≡ xs
unfolding with_formers
formers_off t [] = refl
formers_off t (x ∷ xs) = ap (λ (ys : List Seen). x ∷ ys) (formers_off (teams_after x.event t) xs)

module _ (rows tens : List ℤ) where
  pub text_le : (i : ℕ) (ys : List TeamSeen) → AllInRows i ys rows tens → length (team_text ys) ≤ longest * length ys
  unfolding flat_map AllInRows
  text_le i [] t = omega arith
  text_le i (y ∷ ys) t =
      omega (arith, length-append (line_is y) (team_text ys), line_le y.seen.ten t.0.ten y.seen.event, text_le (suc i) ys t.1)

  -- at row i, with the target as it is and the place in it: of the events xs these are left
  pub record Left (xs : List TeamSeen) (count : ℕ) (out₀ : List ℕ) (i at : ℕ) (out : List ℕ) : Type 0 where
    pub ys : List TeamSeen
    pub told : AllInRows i ys rows tens
    pub size : i + length ys ≡ count
    pub near : at ≤ longest * i
    pub place : at + length (team_text ys) ≡ length (team_text xs)
    pub bytes : written out at (team_text ys) ≡ written out₀ 0 (team_text xs)

  -- whatever the events are of which the rows tell
  abbrev pub Sofar : ℕ → List ℕ → ℕ → ℕ → List ℕ → Type 0
  Sofar count out₀ i at out =
      (xs : List TeamSeen) → length xs ≡ count → AllInRows 0 xs rows tens → longest * count ≤ length out₀ → Left xs count out₀ i at out

  pub begins : (count : ℕ) (out : List ℕ) → Sofar count out 0 0 out
  begins count out xs l t h =
      record { ys = xs; told = t; size = omega arith; near = omega arith; place = omega arith; bytes = refl }

  module _ (xs : List TeamSeen) (count : ℕ) (out₀ : List ℕ) (i at : ℕ) (out : List ℕ) (h : longest * count ≤ length out₀)
      (same : length out ≡ length out₀) (more : i < count) (next : ℕ) (end : List ℕ) (puts : PutsLine rows tens i out at next end) where
    one_more : (ys : List TeamSeen) → AllInRows i ys rows tens → i + length ys ≡ count → at ≤ longest * i
        → at + length (team_text ys) ≡ length (team_text xs) → written out at (team_text ys) ≡ written out₀ 0 (team_text xs)
        → Left xs count out₀ (i + 1) next end
    unfolding AllInRows flat_map
    one_more [] t s n p b = absurd (omega arith)
    one_more (y ∷ ys) t s n p b =
        let q = puts y t.0 (omega arith) in
        let l = length-append (line_is y) (team_text ys) in
        let m = line_le y.seen.ten t.0.ten y.seen.event in
        let fits : at + length (line_is y ++ team_text ys) ≤ length out = omega (arith, text_le (suc i) ys t.1) in
        record {
          ys = ys;
          told = rw add-one t.1;
          size = omega arith;
          near = omega (arith, q.0);
          place = omega (arith, q.0);
          bytes = rw (q.0, q.1) (joined out at (line_is y) (team_text ys) fits) ∙ b;
        }

    pub onward : Left xs count out₀ i at out → Left xs count out₀ (i + 1) next end
    onward l = one_more l.ys l.told l.size l.near l.place l.bytes

  -- nothing is left
  module _ (xs : List TeamSeen) (count : ℕ) (out₀ : List ℕ) (i at : ℕ) (out : List ℕ) (h : longest * count ≤ length out₀)
      (same : length out ≡ length out₀) (over : count ≤ i) where
    none_more : (ys : List TeamSeen) → i + length ys ≡ count → at ≤ longest * i → at + length (team_text ys) ≡ length (team_text xs)
        → written out at (team_text ys) ≡ written out₀ 0 (team_text xs) → PutsText out₀ 0 (team_text xs) at out
    unfolding flat_map
    none_more [] s n p b = (omega arith, nothing_put out at (omega arith) ∙ b)
    none_more (y ∷ ys) s n p b = absurd (omega arith)

    pub done : Left xs count out₀ i at out → PutsText out₀ 0 (team_text xs) at out
    done l = none_more l.ys l.size l.near l.place l.bytes
