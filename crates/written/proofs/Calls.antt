-- The record call says what the definition of a record says of the window. Assumes nothing.
use Prim.Native.Nat.{ℕ}
use mathlib.Core.Path.{◌≡◌, refl, ap}
use mathlib.Core.Bool.{Bool, true, false}
use mathlib.Core.List.{List}
use Rattle.packer.specs.declared.Part.{Part}
use Rattle.fields.specs.Fields.{Reading, got, runs_out, refused}
use Rattle.fields.specs.Laws.{is_out}
use Rattle.item.specs.Said.{gives, more}
use Rattle.item.specs.Records.{Content, read_record, record_said, record_call}
use Rattle.kinds.specs.declared.Version.{Version}
use Rattle.written.specs.Laws.{CallIs}
use Rattle.written.proofs.Steady.{record_stays}

said_gives : (last : Bool) (x : Reading (Content Part)) (c : Content Part) (used : ℕ) → record_said last x ≡ gives c used → x ≡ got c used
said_gives last (got d n) c used e = cc
said_gives true runs_out c used e = cc
said_gives false runs_out c used e = cc
said_gives last (refused r) c used e = cc

said_more : (last : Bool) (x : Reading (Content Part)) → record_said last x ≡ more → (last ≡ false) × (x ≡ runs_out)
said_more last (got d n) e = (cc, cc)
said_more true runs_out e = (cc, cc)
said_more false runs_out e = (refl, refl)
said_more last (refused r) e = (cc, cc)

pub call_is : (v : Version) (s : List ℕ) (last : Bool) → CallIs v s last
unfolding record_call
call_is v s last =
    record {
      sound = λ c used e. said_gives last (read_record v s 0) c used e;
      complete = λ c used e. rw e;
      waits = λ e. said_more last (read_record v s 0) e;
      waiting = λ off e. rw (off, e);
      steady =
          λ c used e t l.
          let r = said_gives last (read_record v s 0) c used e in
          rw (record_stays v s t 0 (ap is_out r), r);
    }
