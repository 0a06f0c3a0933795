-- What the functions hand over of a kind, and what reading a kind does in turn, by name.
use Rattle.std.specs.Prelude.{ℕ, Bool, true, false, cond, List, ℤ, negsuc}
use Rattle.refusal.specs.declared.Refusal.TheVariants.{UnknownType}
use Rattle.varint.specs.declared.IntRead.{IntRead}
use Rattle.fields.specs.Fields.{Reading, got, runs_out, refused, with_int}
use Rattle.kinds.specs.Kinds.{has_ex, kind_of, by_beside, kind_row}
use Rattle.kinds.specs.declared.Version.{Version}
use Rattle.kinds.specs.declared.Kind.{Kind}
use Rattle.kinds.specs.declared.Kind.TheVariants.{PlayerNew, PlayerOld, InputDiff, InputNew, Ex}
use Rattle.kinds.specs.declared.KindRead.{KindRead}
use Rattle.kinds.specs.declared.KindRead.TheVariants as code

abbrev pub kind_is : KindRead → Reading Kind
kind_is (code.Got kind next) = got kind next
kind_is code.RunsOut = runs_out
kind_is (code.Refused r) = refused r

-- the client belongs to the kind
abbrev pub with_client : (ℤ → Kind) → IntRead → Reading Kind
with_client kind i = with_int i (λ c. got (kind c))

-- PlayerOld or PlayerNew of a client
abbrev pub player_kind : Bool → ℤ → Kind
player_kind true c = PlayerOld c
player_kind false c = PlayerNew c

abbrev pub extension_kind : Version → ℕ → Reading Kind
extension_kind v next = cond (has_ex v) (got Ex next) (refused (UnknownType (negsuc 10)))

abbrev pub after_number : Version → List ℕ → IntRead → Reading Kind
after_number v s i = with_int i (kind_of v s)

-- a kind whose records have arguments beside them
abbrev pub is_command : Kind → Bool
is_command k = by_beside false false true false (kind_row k).beside

-- InputNew or InputDiff
abbrev pub input_kind : Bool → Kind
input_kind true = InputNew
input_kind false = InputDiff
