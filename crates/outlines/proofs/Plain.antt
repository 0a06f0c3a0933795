-- The outline of a record of a kind writes its written form. Assumes nothing.
use Prim.Native.Nat.{ℕ}
use mathlib.Core.Path.{◌≡◌, refl, sym, ◌∙◌}
use mathlib.Core.Bool.{true, and-eq-true_iff}
use mathlib.Core.List.{List, [], map, append-nil, append_assoc}
use native.Mathlib.Omega.{arith}
use lib.ListN.{length, length-map}
use lib.Seq.{length-take-le}
use lib.Dec.{leb}
use lib.IntN.{ℤ, pos, negsuc}
use lib.Signed.{non_neg}
use borrow.Author.Tests.{leb-true}
use mir.Syntax.{w32}
use mir.Val.{SFits, of_z}
use mir.Facts.{to_z-of_z}
use Rattle.num.proofs.Cases.{by_bool}
use Rattle.packer.specs.Parts.{shown}
use Rattle.packer.specs.Texts.{no_zero, is_data}
use Rattle.fields.specs.Writing.{inside}
use Rattle.fields.specs.steps.Sorts.{all_no_zero, all_inside}
use Rattle.fields.specs.declared.Args.{Args}
use Rattle.shapes.specs.declared.Fields.{Fields}
use Rattle.item.specs.steps.Taken.{from_fields}
use Rattle.kinds.specs.declared.Version.{Version}
use Rattle.kinds.specs.declared.Kind.{Kind}
use Rattle.kinds.specs.declared.Kind.TheVariants as kinds
use Rattle.item.specs.declared.Tag.TheVariants.{Plain}
use Rattle.written.proofs.Unwritable.{ints_inside, few_args}
use Rattle.pieces.specs.steps.Pieces.{piece_bytes, piece_ok, pieces_bytes, pieces_ok, arguments_in, pieces_of}
use Rattle.outlines.specs.steps.Outlines.{checked_piece, count_piece, kind_outline, content_ok, content_bytes, Outlines}
use Rattle.pieces.specs.declared.Tail.TheVariants.{Arguments}
use Rattle.outlines.proofs.Tests.{one_text, command, small_dt_law, dt_is, ints_ok, ten_writable, ten_written, strings_ok, strings_written}

module _ (s : List ℕ) where
  checked_ok : (z : ℤ) → piece_ok s (checked_piece z) ≡ non_neg z
  checked_ok (pos n) = refl
  checked_ok (negsuc n) = refl

  checked_bytes : (z : ℤ) → piece_bytes s (checked_piece z) ≡ []
  checked_bytes (pos n) = refl
  checked_bytes (negsuc n) = refl

  count_ok : (n : ℕ) → piece_ok s (count_piece Arguments n) ≡ leb n 16
  count_ok n = by_bool (leb n 16) (λ t. rw t) (λ t. rw t)

module _ (v : Version) (s : List ℕ) (f : Fields) (ten : List ℤ) (xs : Args) (a : SFits w32 f.first) (b : SFits w32 f.second) (h : length ten ≡ 10) (p : length xs.parts ≡ 16) where
  plain_ok : (k : Kind) → pieces_ok s (pieces_of (kind_outline k f xs.count) ten xs) ≡ content_ok v s (from_fields (Plain k) f) ten xs
  unfolding content_ok
  plain_ok (kinds.PlayerDiff c) = rw (checked_ok s c)
  plain_ok kinds.Finish = refl
  plain_ok kinds.TickSkip = rw (checked_ok s f.first, small_dt_law f.first a)
  plain_ok (kinds.PlayerNew c) = refl
  plain_ok (kinds.PlayerOld c) = refl
  plain_ok kinds.InputDiff = rw (ints_inside s ten, ten_writable s ten h, ints_ok s ten)
  plain_ok kinds.InputNew = rw (ints_inside s ten, ten_writable s ten h, ints_ok s ten)
  plain_ok kinds.Message = sym (one_text (inside s f.text) (is_data (shown s f.text)))
  plain_ok kinds.Join = refl
  plain_ok kinds.Drop = sym (one_text (inside s f.text) (no_zero (shown s f.text)))
  plain_ok kinds.ConsoleCommand =
      rw (count_ok s xs.count, ← strings_ok s (arguments_in xs))
      (sym
      (command (leb xs.count 16) (leb (length (map (shown s) (arguments_in xs))) 16) (inside s f.text) (all_inside s (arguments_in xs))
      (no_zero (shown s f.text)) (all_no_zero (map (shown s) (arguments_in xs))) (few_args xs.count (shown s) xs.parts)))
  plain_ok kinds.Ex = refl

  plain_bytes : (k : Kind) → content_ok v s (from_fields (Plain k) f) ten xs ≡ true
      → pieces_bytes s (pieces_of (kind_outline k f xs.count) ten xs) ≡ content_bytes s (from_fields (Plain k) f) ten xs
  unfolding content_ok content_bytes
  plain_bytes (kinds.PlayerDiff c) e = rw (checked_bytes s c) (simp append-nil)
  plain_bytes kinds.Finish e = simp append-nil
  plain_bytes kinds.TickSkip e =
      let n = sym (small_dt_law f.first a) ∙ ((and-eq-true_iff (leb (of_z w32 f.first) 2147483647) true).0 e).0 in
      rw (checked_bytes s f.first, dt_is f.first n) (simp append-nil)
  plain_bytes (kinds.PlayerNew c) e = simp (append_assoc, append-nil)
  plain_bytes (kinds.PlayerOld c) e = simp append-nil
  plain_bytes kinds.InputDiff e = rw (ten_written s ten h) (simp append-nil)
  plain_bytes kinds.InputNew e = rw (ten_written s ten h) (simp append-nil)
  plain_bytes kinds.Message e = simp append-nil
  plain_bytes kinds.Join e = simp append-nil
  plain_bytes kinds.Drop e = simp append-nil
  plain_bytes kinds.ConsoleCommand e =
      let n : leb xs.count 16 ≡ true = ((and-eq-true_iff (leb xs.count 16) _).0 e).0 in
      let q = length-take-le xs.count xs.parts (omega (arith, leb-true xs.count 16 n)) in
      rw (n, to_z-of_z {w = w32} {z = f.second} b, length-map (arguments_in xs) (shown s), q, strings_written s (arguments_in xs)) (simp append-nil)
  plain_bytes kinds.Ex e = let q : ◌≡◌ {A = ℕ} 0 1 = cc in absurd (omega arith)

  pub plain_outlines : (k : Kind) → Outlines v s (from_fields (Plain k) f) ten xs (kind_outline k f xs.count)
  plain_outlines k = record { ok = plain_ok k; written = plain_bytes k }
