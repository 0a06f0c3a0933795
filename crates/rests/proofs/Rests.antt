-- The rest of a record and what it changes, from what the code has read. Assumes nothing.
use Rattle.std.specs.Prelude.{Option, Some}
use Prim.Native.Nat.{ℕ}
use mathlib.Core.Path.{◌≡◌, refl, sym, ap, ◌∙◌}
use mathlib.Core.Bool.{Bool, true, false}
use mathlib.Core.List.{List, []}
use lib.ListN.{drop}
use lib.IntN.{ℤ, pos, negsuc}
use Rattle.refusal.specs.declared.Refusal.TheVariants.{NegativeDt}
use Rattle.varint.specs.Integers.{read_int}
use Rattle.varint.specs.declared.Remark.{Remark}
use Rattle.varint.specs.declared.IntRead.{IntRead}
use Rattle.varint.specs.declared.IntRead.TheVariants as ints
use Rattle.packer.specs.declared.Part.{Part}
use Rattle.fields.specs.Fields.{Value, Reading, got, runs_out, refused, read_fields}
use Rattle.fields.specs.steps.Sorts.{dt_field, and_then, input_fields}
use Rattle.fields.specs.Views.{numbers}
use Rattle.fields.specs.steps.Reads.{input_read}
use Rattle.fields.specs.declared.InputAnswer.{InputAnswer}
use Rattle.fields.specs.declared.InputAnswer.TheVariants as inputs
use Rattle.fields.specs.declared.InputRead.{InputRead}
use Rattle.shapes.specs.steps.Shapes.{fields_in, pair_is}
use Rattle.shapes.specs.declared.Shape.TheVariants.{IntInt}
use Rattle.shapes.specs.declared.PairRead.{PairRead}
use Rattle.shapes.specs.declared.PairRead.TheVariants as pairs
use Rattle.item.specs.Said.{finish}
use Rattle.item.specs.Records.{as_content, read_rest}
use Rattle.kinds.specs.declared.Kind.TheVariants as kinds
use Rattle.item.specs.declared.Tag.TheVariants.{Plain}
use Rattle.kinds.specs.steps.Kinds.{input_kind}
use Rattle.records.proofs.Inputs.{Numbers, all_numbers}
use Rattle.state.specs.declared.Memory.{Memory}
use Rattle.state.specs.Reading.{Step, step_of, refusal_step, out_of, closing, naming, raising, player_diff, new_player, old_player, input_diff, input_new, tick_skip, first, apply}
use Rattle.state.specs.Slim.{slim_step}
use Rattle.state.specs.steps.Parts.{with_rest}
use Rattle.state.specs.declared.Standing.TheVariants.{Finished}
use Rattle.state.specs.declared.Scalars.{Scalars}
use Rattle.rests.specs.steps.Kinds.{pair_kind}
use Rattle.rests.proofs.Slim.{slim_calm, calm_refusal, calm_out, calm_diff, calm_new, calm_old, calm_input_diff, calm_input_new, calm_skip}

module _ (s : Scalars) (m : Memory) (last : Bool) (w : List ℕ) (at : ℕ) where
  -- ---- players

  abbrev pub pair_step : Bool → ℤ → ℤ → ℤ → ℕ → Step
  pair_step true cid x y n = new_player (naming cid s) m cid x y n
  pair_step false cid x y n = player_diff (naming cid s) m cid x y n

  abbrev pair_of : Bool → ℤ → Reading (List (Value Part)) → Step
  pair_of new cid x = slim_step (with_rest s m last (as_content (Plain (pair_kind new cid)) x))

  pair_step_law : (new : Bool) (cid x y : ℤ) (n : ℕ) → pair_step new cid x y n ≡ pair_of new cid (pair_is (pairs.Got x y n))
  unfolding apply numbers
  pair_step_law true cid x y n = sym (slim_calm _ (calm_new (naming cid s) m cid x y n))
  pair_step_law false cid x y n = sym (slim_calm _ (calm_diff (naming cid s) m cid x y n))

  pair_rest : (new : Bool) (cid : ℤ) → pair_of new cid (read_fields (fields_in IntInt) w at) ≡ slim_step (with_rest s m last (read_rest (pair_kind new cid) w at))
  unfolding read_rest
  pair_rest true cid = refl
  pair_rest false cid = refl

  module _ (new : Bool) (cid : ℤ) (r : PairRead) (v : pair_is r ≡ read_fields (fields_in IntInt) w at) where
    pub pair_out : r ≡ pairs.RunsOut → out_of last s m ≡ slim_step (with_rest s m last (read_rest (pair_kind new cid) w at))
    pair_out e = sym (slim_calm _ (calm_out last s m)) ∙ ap (pair_of new cid) (ap pair_is (sym e) ∙ v) ∙ pair_rest new cid

    pub pair_got : (x y : ℤ) (n : ℕ) → r ≡ pairs.Got x y n
        → pair_step new cid x y n ≡ slim_step (with_rest s m last (read_rest (pair_kind new cid) w at))
    pair_got x y n e = pair_step_law new cid x y n ∙ ap (pair_of new cid) (ap pair_is (sym e) ∙ v) ∙ pair_rest new cid

  pub old_rest : (cid : ℤ) → old_player (naming cid s) m cid at ≡ slim_step (with_rest s m last (read_rest (kinds.PlayerOld cid) w at))
  unfolding read_rest apply
  old_rest cid = sym (slim_calm _ (calm_old (naming cid s) m cid at))

  -- ---- Finish

  pub finish_rest : step_of (finish at) (closing Finished s) m ≡ slim_step (with_rest s m last (read_rest kinds.Finish w at))
  unfolding read_rest apply
  finish_rest = refl

  -- ---- TickSkip

  abbrev skip_of : IntRead → Step
  skip_of i = slim_step (with_rest s m last (as_content (Plain kinds.TickSkip) (and_then (dt_field i) (read_fields [] w))))

  skip_rest : skip_of (read_int w at) ≡ slim_step (with_rest s m last (read_rest kinds.TickSkip w at))
  unfolding read_rest
  skip_rest = refl

  pub skip_out : read_int w at ≡ ints.RunsOut → out_of last s m ≡ slim_step (with_rest s m last (read_rest kinds.TickSkip w at))
  skip_out e = sym (slim_calm _ (calm_out last s m)) ∙ ap skip_of (sym e) ∙ skip_rest

  module _ (k next : ℕ) (remark : Option Remark) where
    pub skip_negative : read_int w at ≡ ints.Got (negsuc k) next remark
        → refusal_step NegativeDt s m ≡ slim_step (with_rest s m last (read_rest kinds.TickSkip w at))
    skip_negative e = sym (slim_calm _ (calm_refusal NegativeDt s m)) ∙ ap skip_of (sym e) ∙ skip_rest

    pub skip_got : read_int w at ≡ ints.Got (pos k) next remark
        → tick_skip s m k next ≡ slim_step (with_rest s m last (read_rest kinds.TickSkip w at))
    unfolding apply numbers
    skip_got e = sym (slim_calm _ (calm_skip s m k next)) ∙ ap skip_of (sym e) ∙ skip_rest

  -- ---- inputs

  abbrev pub input_step : Bool → ℤ → List ℤ → ℕ → Step
  input_step true cid ns n = input_new (raising (Some cid) s) m cid ns n
  input_step false cid ns n = input_diff (raising (Some cid) s) m cid ns n

  abbrev input_after : Bool → InputAnswer → List ℤ → Step
  input_after new (inputs.Got cid n) ns = input_step new cid ns n
  input_after new inputs.RunsOut ns = out_of last s m

  abbrev input_of : Bool → Reading (List (Value Part)) → Step
  input_of new x = slim_step (with_rest s m last (as_content (Plain (input_kind new)) x))

  input_step_law : (new : Bool) (x : Reading (List (Value Part))) → Numbers 11 x → input_after new (input_read x).answer (input_read x).input ≡ input_of new x
  unfolding apply
  input_step_law true (got vs n) h = sym (slim_calm _ (calm_input_new (raising (Some (first (numbers vs))) s) m (first (numbers vs)) (drop 1 (numbers vs)) n))
  input_step_law false (got vs n) h = sym (slim_calm _ (calm_input_diff (raising (Some (first (numbers vs))) s) m (first (numbers vs)) (drop 1 (numbers vs)) n))
  input_step_law new runs_out h = sym (slim_calm _ (calm_out last s m))
  input_step_law new (refused r) h = absurd h

  input_is : (new : Bool) → input_of new (read_fields input_fields w at) ≡ slim_step (with_rest s m last (read_rest (input_kind new) w at))
  unfolding read_rest
  input_is true = refl
  input_is false = refl

  pub input_rest : (new : Bool) (i : InputRead) (a : InputAnswer) → i ≡ input_read (read_fields input_fields w at) → i.answer ≡ a
      → input_after new a i.input ≡ slim_step (with_rest s m last (read_rest (input_kind new) w at))
  input_rest new i a e f = rw (← f, e) (input_step_law new (read_fields input_fields w at) (all_numbers 11 w at) ∙ input_is new)
