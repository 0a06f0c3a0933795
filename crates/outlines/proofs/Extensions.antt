-- The outline of an extension writes its written form. Assumes nothing.
use Rattle.std.specs.Prelude.{Some, None}
use Prim.Native.Nat.{ℕ, ◌≤◌}
use mathlib.Core.Path.{◌≡◌, refl, sym, ◌∙◌, ap}
use mathlib.Core.Bool.{Bool, true, false, ◌&&◌, and-true, and-false, and_assoc}
use mathlib.Core.List.{List, [], ◌++◌, map, append-nil}
use native.Mathlib.Omega.{arith}
use lib.ListN.{length}
use lib.IntN.{ℤ, pos, negsuc}
use borrow.Author.Tests.{le-leb}
use Rattle.packer.specs.Parts.{shown}
use Rattle.packer.specs.Texts.{no_zero, is_data}
use Rattle.packer.specs.declared.Part.{Part}
use Rattle.fields.specs.Fields.{Value, mean}
use Rattle.fields.specs.Writing.{write_fields, inside, parts_inside}
use Rattle.fields.specs.Forms.{all_writable}
use Rattle.fields.specs.declared.Args.{Args}
use Rattle.shapes.specs.steps.Shapes.{fields_in, id_part, values_in}
use Rattle.shapes.specs.declared.Shape.{Shape}
use Rattle.shapes.specs.declared.Shape.TheVariants as shapes
use Rattle.shapes.specs.declared.Fields.{Fields}
use Rattle.extensions.specs.Extensions.{Payload, id_at, payload_at, find, is_unknown}
use Rattle.extensions.specs.declared.Extension.{Extension}
use Rattle.item.specs.Records.{Content}
use Rattle.item.specs.Contents.{own_payload}
use Rattle.item.specs.steps.Taken.{from_fields}
use Rattle.kinds.specs.declared.Version.{Version}
use Rattle.kinds.specs.declared.Version.TheVariants.{V1, V2}
use Rattle.item.specs.declared.Tag.TheVariants.{Named, Other}
use Rattle.written.specs.Written.{payload_bytes, ex_bytes}
use Rattle.written.specs.Form.{payload_writable}
use Rattle.extensions.specs.steps.Layouts.{payload_is}
use Rattle.extensions.specs.declared.Layout.{Layout}
use Rattle.extensions.specs.declared.Layout.TheVariants as layouts
use Rattle.pieces.specs.steps.Pieces.{plan_with, payload_plan, pieces_bytes, pieces_ok, plan_pieces}
use Rattle.outlines.specs.steps.Outlines.{outline_with, unwritable, ex_number, content_ok, content_bytes, Outlines}
use Rattle.pieces.specs.declared.Piece.{Piece}
use Rattle.pieces.specs.declared.Piece.TheVariants.{Empty, Int, Raw, Data, Id}
use Rattle.pieces.specs.declared.Tail.TheVariants.{Nothing}
use Rattle.pieces.specs.declared.Plan.{Plan}
use Rattle.outlines.proofs.Tests.{one_text, two_parts}

module _ (s : List ℕ) (c : Content Part) (ten : List ℤ) (xs : Args) where
  -- what can't be written
  never_written : {A : Type 0} (v : Version) → content_ok v s c ten xs ≡ false → content_ok v s c ten xs ≡ true → A
  never_written v e t = let q = sym e ∙ t in let z : ◌≡◌ {A = ℕ} 0 1 = cc in absurd (omega arith)

  -- an extension can't in version 1
  module _ (e : content_ok V1 s c ten xs ≡ false) where
    never_outlines : content_ok V2 s c ten xs ≡ false → (v : Version) → Outlines v s c ten xs unwritable
    never_outlines a V1 = record { ok = sym e; written = never_written V1 e }
    never_outlines a V2 = record { ok = sym a; written = never_written V2 a }

    module _ (client size : Piece) (plan : Plan) where
      in_version : Outlines V2 s c ten xs (outline_with (Int (negsuc 10)) client size plan Empty Nothing) → (v : Version)
          → Outlines v s c ten xs (outline_with (ex_number v) client size plan Empty Nothing)
      in_version a V1 = record { ok = sym e; written = never_written V1 e }
      in_version a V2 = a

module _ (s : List ℕ) (f : Fields) where
  -- ---- the data of an extension: its fields, whether they can be written, their bytes

  abbrev pub load_ok : Layout → Bool
  load_ok l = pieces_ok s (plan_pieces (payload_plan l f) [])

  abbrev pub load_bytes : Layout → List ℕ
  load_bytes l = pieces_bytes s (plan_pieces (payload_plan l f) [])

  shape_ok : (sh : Shape) → parts_inside s (values_in (fields_in sh) f) && all_writable (fields_in sh) (map (mean s) (values_in (fields_in sh) f))
      ≡ load_ok (layouts.Shaped sh)
  shape_ok shapes.Nothing = refl
  shape_ok shapes.Int = refl
  shape_ok shapes.IntInt = refl
  shape_ok shapes.IntStr = one_text (inside s f.text) (no_zero (shown s f.text))
  shape_ok shapes.IntIntStr = one_text (inside s f.text) (no_zero (shown s f.text))
  shape_ok shapes.IntUuidStr =
      rw (and-true (no_zero (shown s f.text))) (two_parts (inside s (id_part f.uuid)) (inside s f.text) (no_zero (shown s f.text)))
  shape_ok shapes.IntUuidIntStr =
      rw (and-true (no_zero (shown s f.text))) (two_parts (inside s (id_part f.uuid)) (inside s f.text) (no_zero (shown s f.text)))
  shape_ok shapes.IntData = one_text (inside s f.text) (is_data (shown s f.text))

  shape_bytes : (sh : Shape) → write_fields (fields_in sh) (map (mean s) (values_in (fields_in sh) f)) ≡ load_bytes (layouts.Shaped sh)
  shape_bytes shapes.Nothing = refl
  shape_bytes shapes.Int = refl
  shape_bytes shapes.IntInt = refl
  shape_bytes shapes.IntStr = refl
  shape_bytes shapes.IntIntStr = refl
  shape_bytes shapes.IntUuidStr = refl
  shape_bytes shapes.IntUuidIntStr = refl
  shape_bytes shapes.IntData = refl

  -- the values of an extension's data
  abbrev values_of : Payload → List (Value Part)
  values_of p = values_in (own_payload p) f ++ []

  abbrev PayloadOk : Payload → Bool
  PayloadOk p =
      parts_inside s (values_of p) && (payload_writable p (map (mean s) (values_of p)) && is_data (payload_bytes p (map (mean s) (values_of p))))

  layout_ok : (l : Layout) → PayloadOk (payload_is l) ≡ load_ok l && is_data (load_bytes l)
  layout_ok (layouts.Shaped sh) =
      let vs = values_in (fields_in sh) f in
      let ms = map (mean s) vs in
      rw (append-nil vs)
      (sym (and_assoc (parts_inside s vs) (all_writable (fields_in sh) ms) (is_data (write_fields (fields_in sh) ms))) ∙ rw (shape_ok sh, shape_bytes sh))
  layout_ok layouts.Whole = rw (append-nil (shown s f.text))

  layout_bytes : (l : Layout) → payload_bytes (payload_is l) (map (mean s) (values_of (payload_is l))) ≡ load_bytes l
  layout_bytes (layouts.Shaped sh) = rw (append-nil (values_in (fields_in sh) f)) (shape_bytes sh)
  layout_bytes layouts.Whole = sym (append-nil (shown s f.text))

  module _ (ten : List ℤ) (xs : Args) where
    module _ (k : Extension) where
      named_one : content_ok V1 s (from_fields (Named k) f) ten xs ≡ false
      unfolding content_ok
      named_one = and-false (parts_inside s (values_of (payload_at k)))

      module _ (l : Layout) (e : payload_is l ≡ payload_at k) where
        named_ok : content_ok V2 s (from_fields (Named k) f) ten xs ≡ load_ok l && is_data (load_bytes l)
        unfolding content_ok
        named_ok = ap PayloadOk (sym e) ∙ layout_ok l

        named_bytes : ex_bytes (id_at k) (load_bytes l) ≡ content_bytes s (from_fields (Named k) f) ten xs
        unfolding content_bytes
        named_bytes =
            ap (ex_bytes (id_at k)) (sym (layout_bytes l)) ∙ ap (λ p. ex_bytes (id_at k) (payload_bytes p (map (mean s) (values_of p)))) e

        named_two : load_ok l ≡ true → length (load_bytes l) ≤ 2147483647
            → Outlines V2 s (from_fields (Named k) f) ten xs
            (outline_with (Int (negsuc 10)) (Id k) (Int (pos (length (load_bytes l)))) (payload_plan l f) Empty Nothing)
        named_two a h =
            let n : content_ok V2 s (from_fields (Named k) f) ten xs ≡ true =
            named_ok ∙ rw (a, le-leb (length (load_bytes l)) 2147483647 h) in
            record { ok = rw a (sym n); written = λ t. named_bytes }

        pub named_outlines : load_ok l ≡ true → length (load_bytes l) ≤ 2147483647 → (v : Version)
            → Outlines v s (from_fields (Named k) f) ten xs
            (outline_with (ex_number v) (Id k) (Int (pos (length (load_bytes l)))) (payload_plan l f) Empty Nothing)
        named_outlines a h v =
            in_version s (from_fields (Named k) f) ten xs named_one (Id k) (Int (pos (length (load_bytes l)))) (payload_plan l f) (named_two a h) v

        pub bad_load : load_ok l && is_data (load_bytes l) ≡ false → (v : Version) → Outlines v s (from_fields (Named k) f) ten xs unwritable
        bad_load a v = never_outlines s (from_fields (Named k) f) ten xs named_one (named_ok ∙ a) v

    -- ---- another extension

    abbrev in_it : Bool
    in_it = inside s (id_part f.uuid) && (inside s f.text && true)

    other_one : content_ok V1 s (from_fields Other f) ten xs ≡ false
    unfolding content_ok
    other_one = and-false in_it

    other_ok : content_ok V2 s (from_fields Other f) ten xs ≡ in_it && (is_unknown (find (shown s (id_part f.uuid))) && is_data (shown s f.text))
    unfolding content_ok
    other_ok = refl

    other_bytes : ex_bytes (shown s (id_part f.uuid)) (shown s f.text) ≡ content_bytes s (from_fields Other f) ten xs
    unfolding content_bytes
    other_bytes = refl

    other_two : find (shown s (id_part f.uuid)) ≡ None
        → Outlines V2 s (from_fields Other f) ten xs
        (outline_with (Int (negsuc 10)) Empty Empty (plan_with (Raw (id_part f.uuid)) (Data f.text) Empty Empty) Empty Nothing)
    other_two e = record {
      ok =
          sym (two_parts (inside s (id_part f.uuid)) (inside s f.text) (is_data (shown s f.text)))
          ∙ sym (other_ok ∙ rw e);
      written = λ t. (simp append-nil) ∙ other_bytes;
    }

    pub other_outlines : find (shown s (id_part f.uuid)) ≡ None → (v : Version)
        → Outlines v s (from_fields Other f) ten xs
        (outline_with (ex_number v) Empty Empty (plan_with (Raw (id_part f.uuid)) (Data f.text) Empty Empty) Empty Nothing)
    other_outlines e v =
        in_version s (from_fields Other f) ten xs other_one Empty Empty (plan_with (Raw (id_part f.uuid)) (Data f.text) Empty Empty)
        (other_two e) v

    pub known_id : (x : Extension) → find (shown s (id_part f.uuid)) ≡ Some x → (v : Version) → Outlines v s (from_fields Other f) ten xs unwritable
    known_id x e v = never_outlines s (from_fields Other f) ten xs other_one (other_ok ∙ rw e (and-false in_it)) v
