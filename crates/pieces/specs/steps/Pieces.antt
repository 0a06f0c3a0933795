-- The pieces of a record's written form, as the code has them.
use Rattle.std.specs.Prelude.{ℕ, Bool, true, false, ◌&&◌, List, [], ◌∷◌, ◌++◌, map, take, ℤ}
use Rattle.varint.specs.Written.{canonical}
use Rattle.packer.specs.Parts.{shown}
use Rattle.packer.specs.Texts.{no_zero, string_bytes, is_data, data_bytes}
use Rattle.packer.specs.declared.Part.{Part}
use Rattle.fields.specs.Writing.{inside}
use Rattle.fields.specs.declared.Args.{Args}
use Rattle.shapes.specs.steps.Shapes.{id_part}
use Rattle.shapes.specs.declared.Shape.{Shape}
use Rattle.shapes.specs.declared.Shape.TheVariants as shapes
use Rattle.shapes.specs.declared.Fields.{Fields}
use Rattle.extensions.specs.Extensions.{id_at}
use Rattle.extensions.specs.declared.Layout.{Layout}
use Rattle.extensions.specs.declared.Layout.TheVariants as layouts
use Rattle.pieces.specs.declared.Piece.{Piece}
use Rattle.pieces.specs.declared.Piece.TheVariants.{Empty, Never, Int, Raw, Str, Data, Id}
use Rattle.pieces.specs.declared.Tail.{Tail}
use Rattle.pieces.specs.declared.Tail.TheVariants.{Nothing, Numbers, Arguments}
use Rattle.pieces.specs.declared.Plan.{Plan}
use Rattle.pieces.specs.declared.Outline.{Outline}

-- ---- what a piece is written as, and whether it can be

abbrev pub piece_bytes : List ℕ → Piece → List ℕ
piece_bytes s Empty = []
piece_bytes s Never = []
piece_bytes s (Int z) = canonical z
piece_bytes s (Raw p) = shown s p
piece_bytes s (Str p) = string_bytes (shown s p)
piece_bytes s (Data p) = data_bytes (shown s p)
piece_bytes s (Id e) = id_at e

abbrev pub piece_ok : List ℕ → Piece → Bool
piece_ok s Empty = true
piece_ok s Never = false
piece_ok s (Int z) = true
piece_ok s (Raw p) = inside s p
piece_ok s (Str p) = inside s p && no_zero (shown s p)
piece_ok s (Data p) = inside s p && is_data (shown s p)
piece_ok s (Id e) = true

abbrev pub pieces_bytes : List ℕ → List Piece → List ℕ
pieces_bytes s [] = []
pieces_bytes s (p ∷ ps) = piece_bytes s p ++ pieces_bytes s ps

abbrev pub pieces_ok : List ℕ → List Piece → Bool
pieces_ok s [] = true
pieces_ok s (p ∷ ps) = piece_ok s p && pieces_ok s ps

-- ---- the pieces of a record

abbrev pub plan_with : Piece → Piece → Piece → Piece → Plan
plan_with a b c d = record { one = a; two = b; three = c; four = d }

abbrev pub no_fields : Plan
no_fields = plan_with Empty Empty Empty Empty

abbrev pub plan_of : Shape → Fields → Plan
plan_of shapes.Nothing f = no_fields
plan_of shapes.Int f = plan_with (Int f.first) Empty Empty Empty
plan_of shapes.IntInt f = plan_with (Int f.first) (Int f.second) Empty Empty
plan_of shapes.IntStr f = plan_with (Int f.first) (Str f.text) Empty Empty
plan_of shapes.IntIntStr f = plan_with (Int f.first) (Int f.second) (Str f.text) Empty
plan_of shapes.IntUuidStr f = plan_with (Int f.first) (Raw (id_part f.uuid)) (Str f.text) Empty
plan_of shapes.IntUuidIntStr f = plan_with (Int f.first) (Raw (id_part f.uuid)) (Int f.second) (Str f.text)
plan_of shapes.IntData f = plan_with (Int f.first) (Data f.text) Empty Empty

abbrev pub payload_plan : Layout → Fields → Plan
payload_plan (layouts.Shaped shape) f = plan_of shape f
payload_plan layouts.Whole f = plan_with (Raw f.text) Empty Empty Empty

abbrev pub number_pieces : List ℤ → List Piece
number_pieces ten = map Int ten

abbrev pub arguments_in : Args → List Part
arguments_in xs = take xs.count xs.parts

abbrev pub arg_pieces : Args → List Piece
arg_pieces xs = map Str (arguments_in xs)

abbrev pub tail_pieces : Tail → List ℤ → Args → List Piece
tail_pieces Nothing ten xs = []
tail_pieces Numbers ten xs = number_pieces ten
tail_pieces Arguments ten xs = arg_pieces xs

abbrev pub plan_pieces : Plan → List Piece → List Piece
plan_pieces p rest = p.one ∷ p.two ∷ p.three ∷ p.four ∷ rest

abbrev pub pieces_of : Outline → List ℤ → Args → List Piece
pieces_of o ten xs = o.number ∷ o.client ∷ o.size ∷ plan_pieces o.plan (o.count ∷ tail_pieces o.tail ten xs)

-- none stands here or past it
abbrev pub past_pieces : Tail → ℕ
past_pieces Nothing = 8
past_pieces Numbers = 18
past_pieces Arguments = 24
