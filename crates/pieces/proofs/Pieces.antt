-- Pieces one after the other. Assumes nothing.
use Prim.Native.Nat.{ℕ, zero, suc, ◌+◌, ◌-◌, ◌≤◌, ◌<◌}
use mathlib.Core.Path.{◌≡◌, refl, ◌∙◌, ap}
use mathlib.Core.Bool.{◌&&◌}
use mathlib.Core.List.{List, [], ◌∷◌, ◌++◌, map}
use native.Mathlib.Omega.{arith}
use native.Mathlib.Nat.{min-le_left, min-le_right, le-min, le_of_suc-le-suc, not-suc-le-zero}
use native.Mathlib.Numerals.{add-one}
use lib.ListN.{length, drop, get_or, length-map, length-take, get_or-eq_default}
use lib.Seq.{get_or-take}
use lib.IntN.{ℤ}
use Rattle.fields.specs.steps.Sorts.{no_part}
use Rattle.fields.specs.declared.Args.{Args}
use Rattle.pieces.specs.steps.Pieces.{piece_bytes, piece_ok, pieces_bytes, pieces_ok, arguments_in, arg_pieces, tail_pieces, pieces_of, past_pieces}
use Rattle.pieces.specs.declared.Piece.{Piece}
use Rattle.pieces.specs.declared.Piece.TheVariants.{Empty, Int, Str}
use Rattle.pieces.specs.declared.Tail.{Tail}
use Rattle.pieces.specs.declared.Tail.TheVariants.{Nothing, Numbers, Arguments}
use Rattle.pieces.specs.declared.Outline.{Outline}

-- ---- one of several

module _ (s : List ℕ) where
  bytes_from : (ps : List Piece) (i : ℕ) → pieces_bytes s (drop i ps) ≡ piece_bytes s (get_or ps i Empty) ++ pieces_bytes s (drop (suc i) ps)
  bytes_from [] zero = refl
  bytes_from [] (suc i) = refl
  bytes_from (p ∷ ps) zero = refl
  bytes_from (p ∷ ps) (suc i) = bytes_from ps i

  ok_from : (ps : List Piece) (i : ℕ) → pieces_ok s (drop i ps) ≡ piece_ok s (get_or ps i Empty) && pieces_ok s (drop (suc i) ps)
  ok_from [] zero = refl
  ok_from [] (suc i) = refl
  ok_from (p ∷ ps) zero = refl
  ok_from (p ∷ ps) (suc i) = ok_from ps i

  module _ (ps : List Piece) (i : ℕ) where
    pub bytes_next : pieces_bytes s (drop i ps) ≡ piece_bytes s (get_or ps i Empty) ++ pieces_bytes s (drop (i + 1) ps)
    bytes_next = rw add-one (bytes_from ps i)

    pub ok_next : pieces_ok s (drop i ps) ≡ piece_ok s (get_or ps i Empty) && pieces_ok s (drop (i + 1) ps)
    ok_next = rw add-one (ok_from ps i)

pub get_d_map : {A : Type 0} {B : Type 0} (f : A → B) (xs : List A) (i : ℕ) (d : A) (e : B) → i < length xs → get_or (map f xs) i e ≡ f (get_or xs i d)
get_d_map f [] i d e h = absurd (not-suc-le-zero h)
get_d_map f (x ∷ xs) zero d e h = refl
get_d_map f (x ∷ xs) (suc i) d e h = get_d_map f xs i d e (le_of_suc-le-suc h)

past : {A : Type 0} (f : A → Piece) (xs : List A) (i : ℕ) → length xs ≤ i → get_or (map f xs) i Empty ≡ Empty
past f xs i h = get_or-eq_default (map f xs) Empty (rw length-map h)

pub number_past : (ten : List ℤ) (i : ℕ) → length ten ≤ i → get_or (map Int ten) i Empty ≡ Empty
number_past ten i h = past Int ten i h

module _ (xs : Args) (i : ℕ) where
  args_length : (length (arguments_in xs) ≤ xs.count) × (length (arguments_in xs) ≤ length xs.parts)
  args_length =
      rw (length-take xs.count xs.parts) (min-le_left xs.count (length xs.parts), min-le_right xs.count (length xs.parts))

  pub arg_past : xs.count ≤ i → get_or (arg_pieces xs) i Empty ≡ Empty
  arg_past h = past Str (arguments_in xs) i (omega (arith, args_length.0))

  module _ (n : length xs.parts ≡ 16) where
    pub args_few : length (arg_pieces xs) ≤ 16
    args_few = rw length-map (omega (arith, args_length.1))

    pub arg_beyond : 16 ≤ i → get_or (arg_pieces xs) i Empty ≡ Empty
    arg_beyond h = past Str (arguments_in xs) i (omega (arith, args_length.1))

    pub arg_here : i < xs.count → i < 16 → get_or (arg_pieces xs) i Empty ≡ Str (get_or xs.parts i no_part)
    arg_here h k =
        let m : i < length xs.parts = omega arith in
        let e : i < length (arguments_in xs) = rw (length-take xs.count xs.parts) (le-min h m) in
        get_d_map Str (arguments_in xs) i no_part Empty e ∙ ap Str (get_or-take xs.count xs.parts i no_part h)

-- none stands past the end
tail_end : (t : Tail) (ten : List ℤ) (xs : Args) → length ten ≡ 10 → length xs.parts ≡ 16 → 8 + length (tail_pieces t ten xs) ≤ past_pieces t
tail_end Nothing ten xs a b = omega arith
tail_end Numbers ten xs a b = rw length-map (omega arith)
tail_end Arguments ten xs a b = omega (arith, args_few xs 0 b)

pub pieces_end : (o : Outline) (ten : List ℤ) (xs : Args) → length ten ≡ 10 → length xs.parts ≡ 16 → length (pieces_of o ten xs) ≤ past_pieces o.tail
pieces_end o ten xs a b = omega (arith, tail_end o.tail ten xs a b)

-- past the eight pieces before it is the tail
pub past_head : (o : Outline) (ten : List ℤ) (xs : Args) (i : ℕ) → 8 ≤ i
    → get_or (pieces_of o ten xs) i Empty ≡ get_or (tail_pieces o.tail ten xs) (i - 8) Empty
past_head o ten xs i h = let e : i ≡ suc (suc (suc (suc (suc (suc (suc (suc (i - 8)))))))) = omega arith in ap (λ n. get_or (pieces_of o ten xs) n Empty) e
