-- The outline of a record, as the code has it: the pieces of its written form.
use Rattle.std.specs.Prelude.{ℕ, ◌≡◌, Bool, true, cond, ◌&&◌, List, ◌++◌, map, leb, ℤ, pos, negsuc}
use Rattle.packer.specs.declared.Part.{Part}
use Rattle.fields.specs.Fields.{Value, mean}
use Rattle.fields.specs.Writing.{parts_inside}
use Rattle.fields.specs.declared.Args.{Args}
use Rattle.shapes.specs.declared.Shape.{Shape}
use Rattle.shapes.specs.declared.Shape.TheVariants as shapes
use Rattle.shapes.specs.declared.Fields.{Fields}
use Rattle.kinds.specs.Kinds.{kind_number}
use Rattle.kinds.specs.declared.Version.{Version}
use Rattle.kinds.specs.declared.Version.TheVariants.{V1, V2}
use Rattle.kinds.specs.declared.Kind.{Kind}
use Rattle.kinds.specs.declared.Kind.TheVariants as kinds
use Rattle.item.specs.Records.{Content}
use Rattle.item.specs.steps.Beside.{beside}
use Rattle.written.specs.Written.{tag_bytes}
use Rattle.written.specs.Form.{tag_count}
use Rattle.written.specs.Form.{tag_writable}
use Rattle.pieces.specs.steps.Pieces.{no_fields, plan_of, pieces_ok, pieces_bytes, pieces_of}
use Rattle.pieces.specs.declared.Piece.{Piece}
use Rattle.pieces.specs.declared.Piece.TheVariants.{Empty, Never, Int}
use Rattle.pieces.specs.declared.Tail.{Tail}
use Rattle.pieces.specs.declared.Tail.TheVariants.{Nothing, Numbers, Arguments}
use Rattle.pieces.specs.declared.Plan.{Plan}
use Rattle.pieces.specs.declared.Outline.{Outline}
use Rattle.outlines.specs.declared.Form.{Form}

-- ---- the pieces of a record

abbrev pub checked_piece : ℤ → Piece
checked_piece (pos n) = Empty
checked_piece (negsuc n) = Never

abbrev pub count_piece : Tail → ℕ → Piece
count_piece Nothing n = Empty
count_piece Numbers n = Empty
count_piece Arguments n = cond (leb n 16) (Int (pos n)) Never

abbrev pub outline_with : Piece → Piece → Piece → Plan → Piece → Tail → Outline
outline_with number client size plan n tail =
    record { number = number; client = client; size = size; plan = plan; count = n; tail = tail }

abbrev pub unwritable : Outline
unwritable = outline_with Never Empty Empty no_fields Empty Nothing

abbrev pub form_with : Piece → Shape → Tail → Form
form_with client shape tail = record { client = client; shape = shape; tail = tail }

abbrev pub form_of : Kind → ℤ → Form
form_of (kinds.PlayerDiff c) z = form_with (checked_piece c) shapes.IntInt Nothing
form_of kinds.Finish z = form_with Empty shapes.Nothing Nothing
form_of kinds.TickSkip z = form_with (checked_piece z) shapes.Int Nothing
form_of (kinds.PlayerNew c) z = form_with (Int c) shapes.IntInt Nothing
form_of (kinds.PlayerOld c) z = form_with (Int c) shapes.Nothing Nothing
form_of kinds.InputDiff z = form_with Empty shapes.Int Numbers
form_of kinds.InputNew z = form_with Empty shapes.Int Numbers
form_of kinds.Message z = form_with Empty shapes.IntData Nothing
form_of kinds.Join z = form_with Empty shapes.Int Nothing
form_of kinds.Drop z = form_with Empty shapes.IntStr Nothing
form_of kinds.ConsoleCommand z = form_with Empty shapes.IntIntStr Arguments
form_of kinds.Ex z = form_with Never shapes.Nothing Nothing

abbrev pub outline_of : ℤ → Form → Fields → ℕ → Outline
outline_of number form f n =
    outline_with (Int number) form.client Empty (plan_of form.shape f) (count_piece form.tail n) form.tail

abbrev pub kind_outline : Kind → Fields → ℕ → Outline
kind_outline k f n = outline_of (kind_number k) (form_of k f.first) f n

abbrev pub ex_number : Version → Piece
ex_number V1 = Never
ex_number V2 = Int (negsuc 10)

-- ---- a record of its content, with what stands beside it

abbrev pub all_values : Content Part → List ℤ → Args → List (Value Part)
all_values c ten xs = c.values ++ beside c.tag ten xs

unfoldable pub content_ok : Version → List ℕ → Content Part → List ℤ → Args → Bool
content_ok v s c ten xs =
    leb (tag_count c.tag xs) 16
    && (parts_inside s (all_values c ten xs) && tag_writable v c.tag (map (mean s) (all_values c ten xs)))

unfoldable pub content_bytes : List ℕ → Content Part → List ℤ → Args → List ℕ
content_bytes s c ten xs = tag_bytes c.tag (map (mean s) (all_values c ten xs))

-- the outline's pieces can be written exactly if the record can, and are then its written form
pub record Outlines (v : Version) (s : List ℕ) (c : Content Part) (ten : List ℤ) (xs : Args) (o : Outline) : Type 0 where
  pub ok : pieces_ok s (pieces_of o ten xs) ≡ content_ok v s c ten xs
  pub written : content_ok v s c ten xs ≡ true → pieces_bytes s (pieces_of o ten xs) ≡ content_bytes s c ten xs
