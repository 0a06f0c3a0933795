-- Which rests of a record are refused: of a TickSkip with a negative dt, of a command with a negative count or a 17th argument, of a
-- message or an extension with a negative length. Assumes nothing.
use Rattle.std.specs.Prelude.{Option}
use Prim.Native.Nat.{ℕ, zero, suc, ◌+◌, ◌<◌}
use mathlib.Core.Path.{◌≡◌, refl, sym, ◌∙◌, subst}
use mathlib.Core.Bool.{true, false}
use mathlib.Core.List.{List, [], ◌∷◌, ◌++◌}
use native.Mathlib.Omega.{arith}
use lib.ListN.{length, length-append}
use lib.Dec.{ltb}
use lib.IntN.{ℤ, pos, negsuc}
use borrow.Author.Tests.{lt-ltb, le-ltb}
use Rattle.refusal.specs.declared.Refusal.{Refusal}
use Rattle.refusal.specs.declared.Refusal.TheVariants.{NegativeNumArgs, NumArgsTooLarge}
use Rattle.varint.specs.Integers.{read_int}
use Rattle.varint.specs.declared.Remark.{Remark}
use Rattle.varint.specs.declared.IntRead.{IntRead}
use Rattle.varint.specs.declared.IntRead.TheVariants as ints
use Rattle.packer.specs.Parts.{shown, read_raw, read_string, read_data}
use Rattle.packer.specs.declared.Part.{Part}
use Rattle.packer.specs.declared.PartRead.{PartRead}
use Rattle.packer.specs.declared.PartRead.TheVariants as parts
use Rattle.packer.specs.declared.DataRead.{DataRead}
use Rattle.packer.specs.declared.DataRead.TheVariants as blobs
use Rattle.packer.proofs.Parts.{data_below, below_data}
use Rattle.fields.specs.Fields.{Field, int, dt, mask, str, blob, args, Value, num, Reading, got, runs_out, refused, args_from, read_fields}
use Rattle.fields.specs.steps.Sorts.{int_field, dt_field, data_field, one_arg, as_strings, args_field, and_then}
use Rattle.fields.specs.Views.{ten_fields}
use Rattle.fields.proofs.Appended.{prepend, joined, fields_joined}
use Rattle.extensions.specs.Extensions.{find}
use Rattle.item.specs.Records.{as_content, read_ex, read_rest}
use Rattle.item.specs.steps.Reading.{after_data, after_id}
use Rattle.kinds.specs.declared.Kind.{Kind}
use Rattle.kinds.specs.declared.Kind.TheVariants as kinds
use Rattle.item.specs.declared.Tag.TheVariants.{Plain}
use Rattle.causes.specs.Causes.{Strings, none, one, RestRefused, negative_dt, negative_num_args, num_args_too_large, negative_message, negative_payload}
use Rattle.causes.proofs.Calm.{not_got, not_out, all_calm, push_calm, as_calm, fields_calm, found_calm}

-- ---- arguments: 16 strings were had, and another has been read

abbrev Room : List Part → ℕ → Type 0
Room had room = length had + room ≡ 16

one_less : (had : List Part) (p : Part) (room : ℕ) → Room had (suc room) → Room (had ++ p ∷ []) room
one_less had p room h = simp length-append (omega arith)

abbrev Many : List ℕ → ℕ → ℕ → ℕ → Refusal → Type 0
Many w c at room r = (r ≡ NumArgsTooLarge) × ((room < c) × Strings w (suc room) at)

module _ (c : ℕ) (w : List ℕ) (had : List Part) (at : ℕ) (r : Refusal) where
  by_string : ((p : Part) (n room : ℕ) → Room (had ++ p ∷ []) room → args_from c w (had ++ p ∷ []) n ≡ refused r → Many w c n room r)
      → (i : PartRead) → read_string w at ≡ i → (room : ℕ) → Room had room → one_arg i had (args_from c w) ≡ refused r
      → Many w (suc c) at room r
  by_string again (parts.Got p n) i zero h e =
      let b : ltb (length had) 16 ≡ false = le-ltb (length had) 16 (omega arith) in
      let x = rw b at e in
      (cc x, (omega arith, one i none))
  by_string again (parts.Got p n) i (suc room) h e =
      let b : ltb (length had) 16 ≡ true = lt-ltb (length had) 16 (omega arith) in
      let x = again p n room (one_less had p room h) (rw b at e) in
      (x.0, (omega (arith, x.1.0), one i x.1.1))
  by_string again parts.RunsOut i room h e = not_out e

args_refused : (c : ℕ) (w : List ℕ) (had : List Part) (at room : ℕ) (r : Refusal) → Room had room → args_from c w had at ≡ refused r
    → Many w c at room r
unfolding args_from
args_refused zero w had at room r h e = not_got e
args_refused (suc c) w had at room r h e =
    by_string c w had at r (λ p n k x y. args_refused c w (had ++ p ∷ []) n k r x y) (read_string w at) refl room h e

by_args : (c : ℕ) (w : List ℕ) (had : List Part) (at room : ℕ) → Room had room → room < c → Strings w (suc room) at
    → args_from c w had at ≡ refused NumArgsTooLarge
unfolding args_from
by_args zero w had at room h l s = absurd (omega arith)
by_args (suc c) w had at zero h l (one i s) =
    let b : ltb (length had) 16 ≡ false = le-ltb (length had) 16 (omega arith) in rw (i, b)
by_args (suc c) w had at (suc room) h l (one {next = next} {p = p} i s) =
    let b : ltb (length had) 16 ≡ true = lt-ltb (length had) 16 (omega arith) in
    rw (i, b) (by_args c w (had ++ p ∷ []) next room (one_less had p room h) (omega arith) s)

-- ---- the rest of a record

module _ (w : List ℕ) (n : ℕ) (r : Refusal) where
  dt_refused : (i : IntRead) → read_int w n ≡ i → and_then (dt_field i) (read_fields [] w) ≡ refused r → RestRefused w n kinds.TickSkip r
  dt_refused (ints.Got (pos d) next m) i e = not_got e
  dt_refused (ints.Got (negsuc d) next m) i e = subst (RestRefused w n kinds.TickSkip) (cc) (negative_dt i)
  dt_refused ints.RunsOut i e = not_out e

  -- a message: the data behind its client
  load_refused : (c : ℤ) (at : ℕ) (m : Option Remark) → read_int w n ≡ ints.Got c at m → (x : DataRead) → read_data w at ≡ x
      → and_then (data_field x) (read_fields [] w) ≡ refused r → RestRefused w n kinds.Message r
  load_refused c at m i (blobs.Got p next) x e = not_got e
  load_refused c at m i blobs.RunsOut x e = not_out e
  load_refused c at m i blobs.NegativeLength x e = subst (RestRefused w n kinds.Message) (cc) (negative_message i (data_below w at x))

  message_refused : (i : IntRead) → read_int w n ≡ i → and_then (int_field i) (read_fields (blob ∷ []) w) ≡ refused r
      → RestRefused w n kinds.Message r
  message_refused (ints.Got c at m) i e = load_refused c at m i (read_data w at) refl (push_calm (num c) (read_fields (blob ∷ []) w at) e)
  message_refused ints.RunsOut i e = not_out e

  -- an extension: the data behind its identifier
  payload_refused : (id : Part) (at : ℕ) → read_raw 16 w n ≡ parts.Got id at → (x : DataRead) → read_data w at ≡ x → after_data w id x ≡ refused r
      → RestRefused w n kinds.Ex r
  payload_refused id at i (blobs.Got p next) x e = found_calm w id p (find (shown w id)) next e
  payload_refused id at i blobs.RunsOut x e = not_out e
  payload_refused id at i blobs.NegativeLength x e = subst (RestRefused w n kinds.Ex) (cc) (negative_payload i (data_below w at x))

  id_refused : (x : PartRead) → read_raw 16 w n ≡ x → after_id w x ≡ refused r → RestRefused w n kinds.Ex r
  id_refused (parts.Got id at) x e = payload_refused id at x (read_data w at) refl e
  id_refused parts.RunsOut x e = not_out e

  module _ {vs : List (Value Part)} {at : ℕ} (h : read_fields (int ∷ mask ∷ str ∷ []) w n ≡ got vs at) where
    strings_refused : (c next : ℕ) (m : Option Remark) → read_int w at ≡ ints.Got (pos c) next m → (x : Reading (List Part))
        → args_from c w [] next ≡ x → and_then (as_strings x) (read_fields [] w) ≡ refused r → RestRefused w n kinds.ConsoleCommand r
    strings_refused c next m i (got ps q) x e = not_got e
    strings_refused c next m i runs_out x e = not_out e
    strings_refused c next m i (refused q) x e =
        let y = args_refused c w [] next 16 q refl x in
        subst (RestRefused w n kinds.ConsoleCommand) (cc y.0) (num_args_too_large (record { before = vs; read = h }) i y.1.0 y.1.1)

    count_refused : (i : IntRead) → read_int w at ≡ i → and_then (args_field w i) (read_fields [] w) ≡ refused r
        → RestRefused w n kinds.ConsoleCommand r
    count_refused (ints.Got (pos c) next m) i e = strings_refused c next m i (args_from c w [] next) refl e
    count_refused (ints.Got (negsuc c) next m) i e = subst (RestRefused w n kinds.ConsoleCommand) (cc) (negative_num_args (record { before = vs; read = h }) i)
    count_refused ints.RunsOut i e = not_out e

    prepended : (us : List (Value Part)) (x : Reading (List (Value Part))) → prepend us x ≡ refused r → x ≡ refused r
    prepended [] x e = e
    prepended (u ∷ us) x e = prepended us x (push_calm u (prepend us x) e)

  head_refused : (x : Reading (List (Value Part))) → read_fields (int ∷ mask ∷ str ∷ []) w n ≡ x
      → joined x (read_fields (args ∷ []) w) ≡ refused r → RestRefused w n kinds.ConsoleCommand r
  head_refused (got vs at) h e = count_refused h (read_int w at) refl (prepended h vs (read_fields (args ∷ []) w at) e)
  head_refused runs_out h e = not_out e
  head_refused (refused q) h e = fields_calm (int ∷ mask ∷ str ∷ []) w n refl h

  plain_calm : {C : Type 0} (k : Kind) (fs : List Field) → all_calm fs ≡ true → as_content (Plain k) (read_fields fs w n) ≡ refused r → C
  plain_calm k fs c e = fields_calm fs w n c (as_calm (Plain k) (read_fields fs w n) e)

  pub rest_refused_law : (k : Kind) → read_rest k w n ≡ refused r → RestRefused w n k r
  unfolding read_rest read_ex
  rest_refused_law (kinds.PlayerDiff c) e = plain_calm (kinds.PlayerDiff c) (int ∷ int ∷ []) refl e
  rest_refused_law kinds.Finish e = plain_calm kinds.Finish [] refl e
  rest_refused_law kinds.TickSkip e = dt_refused (read_int w n) refl (as_calm (Plain kinds.TickSkip) (read_fields (dt ∷ []) w n) e)
  rest_refused_law (kinds.PlayerNew c) e = plain_calm (kinds.PlayerNew c) (int ∷ int ∷ []) refl e
  rest_refused_law (kinds.PlayerOld c) e = plain_calm (kinds.PlayerOld c) [] refl e
  rest_refused_law kinds.InputDiff e = plain_calm kinds.InputDiff (int ∷ ten_fields) refl e
  rest_refused_law kinds.InputNew e = plain_calm kinds.InputNew (int ∷ ten_fields) refl e
  rest_refused_law kinds.Message e = message_refused (read_int w n) refl (as_calm (Plain kinds.Message) (read_fields (int ∷ blob ∷ []) w n) e)
  rest_refused_law kinds.Join e = plain_calm kinds.Join (int ∷ []) refl e
  rest_refused_law kinds.Drop e = plain_calm kinds.Drop (int ∷ str ∷ []) refl e
  rest_refused_law kinds.ConsoleCommand e =
      head_refused (read_fields (int ∷ mask ∷ str ∷ []) w n) refl
      (sym (fields_joined (int ∷ mask ∷ str ∷ []) (args ∷ []) w n)
      ∙ as_calm (Plain kinds.ConsoleCommand) (read_fields (int ∷ mask ∷ str ∷ args ∷ []) w n) e)
  rest_refused_law kinds.Ex e = id_refused (read_raw 16 w n) refl e

-- and back

prepend_refused : (r : Refusal) (vs : List (Value Part)) → prepend vs (refused r) ≡ refused r
prepend_refused r [] = refl
prepend_refused r (v ∷ vs) = rw (prepend_refused r vs)

command_rest : (w : List ℕ) (n : ℕ) {vs : List (Value Part)} {at : ℕ} (r : Refusal) → read_fields (int ∷ mask ∷ str ∷ []) w n ≡ got vs at
    → read_fields (args ∷ []) w at ≡ refused r → read_rest kinds.ConsoleCommand w n ≡ refused r
unfolding read_rest
command_rest w n {vs} r h e = rw (fields_joined (int ∷ mask ∷ str ∷ []) (args ∷ []) w n, h, e, prepend_refused r vs)

pub refused_rest : {k : Kind} {r : Refusal} (w : List ℕ) (n : ℕ) → RestRefused w n k r → read_rest k w n ≡ refused r
unfolding read_rest read_ex
refused_rest w n (negative_dt i) = rw i
refused_rest w n (negative_num_args h i) = command_rest w n NegativeNumArgs h.read (rw i)
refused_rest w n (num_args_too_large {c = c} {next} h i l s) = command_rest w n NumArgsTooLarge h.read (rw (i, by_args c w [] next 16 refl l s))
refused_rest w n (negative_message {at = at} i b) = rw (i, below_data w at b)
refused_rest w n (negative_payload {at = at} i b) = rw (i, below_data w at b)
