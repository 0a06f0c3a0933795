-- Why the reading of a record's kind or of its rest is refused. docs/FORMAT.md, "What a call may say", 4 to 7 and 21.
use Rattle.std.specs.Prelude.{ℕ, suc, ◌<◌, ◌≡◌, true, List, [], ◌∷◌, ℤ, pos, negsuc, Option}
use Rattle.std.specs.Int.Signed.{lt_z}
use Rattle.refusal.specs.declared.Refusal.{Refusal}
use Rattle.refusal.specs.declared.Refusal.TheVariants as refusal
use Rattle.varint.specs.Integers.{read_int}
use Rattle.varint.specs.declared.Remark.{Remark}
use Rattle.varint.specs.declared.IntRead.TheVariants as ints
use Rattle.packer.specs.Parts.{read_raw, read_string}
use Rattle.packer.specs.Laws.{LengthBelow0}
use Rattle.packer.specs.declared.Part.{Part}
use Rattle.packer.specs.declared.PartRead.TheVariants as parts
use Rattle.fields.specs.Fields.{int, mask, str, Value, got, read_fields}
use Rattle.kinds.specs.Kinds.{read_kind}
use Rattle.kinds.specs.declared.Version.{Version}
use Rattle.kinds.specs.declared.Version.TheVariants.{V1}
use Rattle.kinds.specs.declared.Kind.{Kind}
use Rattle.kinds.specs.declared.Kind.TheVariants as kinds

-- a kind below -11, or -11 in version 1
pub data UnknownKind : Version → ℤ → Type 0 where
  below : {v : Version} {z : ℤ} → lt_z z (negsuc 10) ≡ true → UnknownKind v z
  extension_in_one : UnknownKind V1 (negsuc 10)

-- 4: the kind at a place is unknown
pub data KindRefused (v : Version) (w : List ℕ) (at : ℕ) : Refusal → Type 0 where
  unknown_type : {z : ℤ} {next : ℕ} {remark : Option Remark} → read_int w at ≡ ints.Got z next remark → UnknownKind v z
      → KindRefused v w at (refusal.UnknownType z)

-- so many strings stand one after the other from a place on
pub data Strings (w : List ℕ) : ℕ → ℕ → Type 0 where
  none : {at : ℕ} → Strings w 0 at
  one : {n at next : ℕ} {p : Part} → read_string w at ≡ parts.Got p next → Strings w n next → Strings w (suc n) at

-- the count of a command's arguments stands at a place: client, flag mask and string stand before it
pub record CountAt (w : List ℕ) (from at : ℕ) : Type 0 where
  pub before : List (Value Part)
  pub read : read_fields (int ∷ mask ∷ str ∷ []) w from ≡ got before at

-- the rest of a record, at a place
pub data RestRefused (w : List ℕ) (from : ℕ) : Kind → Refusal → Type 0 where
  -- 5: dt is negative
  negative_dt : {d next : ℕ} {remark : Option Remark} → read_int w from ≡ ints.Got (negsuc d) next remark
      → RestRefused w from kinds.TickSkip refusal.NegativeDt
  -- 6: the count of arguments is negative
  negative_num_args : {at c next : ℕ} {remark : Option Remark} → CountAt w from at → read_int w at ≡ ints.Got (negsuc c) next remark
      → RestRefused w from kinds.ConsoleCommand refusal.NegativeNumArgs
  -- 7: the count is above 16, and a 17th argument string has been read
  num_args_too_large : {at c next : ℕ} {remark : Option Remark} → CountAt w from at → read_int w at ≡ ints.Got (pos c) next remark → 16 < c
      → Strings w 17 next → RestRefused w from kinds.ConsoleCommand refusal.NumArgsTooLarge
  -- 21: the length of the data has been read, behind the client of a message or the identifier of an extension, and is negative
  negative_message : {c : ℤ} {at : ℕ} {remark : Option Remark} → read_int w from ≡ ints.Got c at remark → LengthBelow0 w at
      → RestRefused w from kinds.Message refusal.NegativeLength
  negative_payload : {id : Part} {at : ℕ} → read_raw 16 w from ≡ parts.Got id at → LengthBelow0 w at
      → RestRefused w from kinds.Ex refusal.NegativeLength

-- a record at the start of a window
pub data RecordRefused (v : Version) (w : List ℕ) : Refusal → Type 0 where
  in_kind : {r : Refusal} → KindRefused v w 0 r → RecordRefused v w r
  in_rest : {k : Kind} {n : ℕ} {r : Refusal} → read_kind v w 0 ≡ got k n → RestRefused w n k r → RecordRefused v w r
