-- Each refusal of a reading call: its cause, and exactly the reader that it leaves. docs/FORMAT.md, "What a call may say".
use Rattle.std.specs.Prelude.{ℕ, ◌+◌, ◌<◌, ◌≡◌, Bool, true, false, List, ℤ, pos, negsuc, Option, Some, None}
use Rattle.refusal.specs.declared.Refusal.{Refusal}
use Rattle.refusal.specs.declared.Refusal.TheVariants as refusal
use Rattle.varint.specs.Integers.{read_int}
use Rattle.varint.specs.declared.Remark.{Remark}
use Rattle.varint.specs.declared.IntRead.TheVariants as ints
use Rattle.packer.specs.declared.Part.{Part}
use Rattle.item.specs.Records.{Content}
use Rattle.kinds.specs.declared.Kind.{Kind}
use Rattle.kinds.specs.declared.Kind.TheVariants as kinds
use Rattle.causes.specs.Causes.{KindRefused, RestRefused}
use Rattle.state.specs.State.{present, holds, with_player, reader_with, good_reader}
use Rattle.state.specs.Reading.{is_closed, closing, raising, naming, at_or_below}
use Rattle.state.specs.Acts.{HadKind, Had, first_of, second_of, PlayerKind, InputKind, MayCome, MayRead, BytesRunOut}
use Rattle.state.specs.declared.Entries.{Entries}
use Rattle.state.specs.declared.Standing.TheVariants.{Refused}
use Rattle.state.specs.declared.Scalars.{Scalars}
use Rattle.state.specs.declared.Reader.{Reader}

-- the kind of a record that can be refused 8, and its client
pub data NewOrOld : Kind → ℤ → Type 0 where
  new : {c : ℤ} → NewOrOld (kinds.PlayerNew c) c
  old : {c : ℤ} → NewOrOld (kinds.PlayerOld c) c

-- closed by the refusal, with nothing pending, and no more
abbrev pub closed : Scalars → Entries → Reader
closed s e = reader_with (closing Refused s) e

-- closed, and the largest client raised to c
abbrev pub closed_raised : ℤ → Scalars → Entries → Reader
closed_raised c s e = closed (raising (Some c) s) e

-- closed, the largest client raised to c, and c remembered
abbrev pub closed_named : ℤ → Scalars → Entries → Reader
closed_named c s e = closed (naming c s) e

-- an open reader, with these scalars and entries, refuses n and is left so
pub data Refuses (s : Scalars) (e : Entries) (w : List ℕ) (last : Bool) : Refusal → Reader → Type 0 where
  -- 3: the bytes needed run out, and no more come
  unexpected_end : last ≡ true → BytesRunOut s w → Refuses s e w last refusal.UnexpectedEnd (closed s e)
  -- 4: a kind is read, none being pending, and it is unknown
  in_kind : {r : Refusal} → s.pending ≡ None → KindRefused s.version w 0 r → Refuses s e w last r (closed s e)
  -- 5 to 7 and 21: the rest of a record that may be read is refused
  in_rest : {k : Kind} {n : ℕ} {r : Refusal} → HadKind s w k n → MayRead s k → RestRefused w n k r → Refuses s e w last r (closed s e)
  -- 8: a negative client in PlayerNew or PlayerOld, in InputDiff or InputNew
  invalid_player : {k : Kind} {c n : ℕ} {r : Content Part} → Had s w k r n → NewOrOld k (negsuc c) → MayCome s (negsuc c)
      → Refuses s e w last refusal.InvalidClientId (closed_named (negsuc c) s e)
  invalid_input : {k : Kind} {c n : ℕ} {r : Content Part} → Had s w k r n → InputKind k → s.inside ≡ true → first_of r ≡ negsuc c
      → Refuses s e w last refusal.InvalidClientId (closed_raised (negsuc c) s e)
  -- 10: PlayerNew or InputNew for a client above 127
  player_too_large : {c n : ℕ} {r : Content Part} → Had s w (kinds.PlayerNew (pos c)) r n → MayCome s (pos c) → 127 < c
      → Refuses s e w last refusal.ClientTooLarge (closed_named (pos c) s e)
  input_too_large : {c n : ℕ} {r : Content Part} → Had s w kinds.InputNew r n → s.inside ≡ true → first_of r ≡ pos c → 127 < c
      → Refuses s e w last refusal.ClientTooLarge (closed_raised (pos c) s e)
  -- 12: the tick would pass 2147483647, at the end of a tick (rule 3) or by a TickSkip
  end_overflow : {k : Kind} {n t : ℕ} {c : ℤ} → HadKind s w k n → PlayerKind k c → s.inside ≡ true → at_or_below c s.remembered ≡ true
      → s.tick ≡ pos t → 2147483647 < t + 1 → Refuses s e w last refusal.TickOverflow (closed s e)
  skip_overflow : {n t dt next : ℕ} {remark : Option Remark} → HadKind s w kinds.TickSkip n → read_int w n ≡ ints.Got (pos dt) next remark
      → s.tick ≡ pos t → 2147483647 < t + 1 + dt → Refuses s e w last refusal.TickOverflow (closed s e)
  -- 13: PlayerNew of a client that is present; its position is overwritten
  duplicate : {c n : ℕ} {r : Content Part} → Had s w (kinds.PlayerNew (pos c)) r n → MayCome s (pos c) → present e c ≡ true
      → Refuses s e w last refusal.PlayerNewDuplicate (closed_named (pos c) s (with_player e c 1 (first_of r) (second_of r)))
  -- 14: PlayerDiff of a client that isn't
  diff_without_new : {c n : ℕ} {r : Content Part} → Had s w (kinds.PlayerDiff (pos c)) r n → MayCome s (pos c) → present e c ≡ false
      → Refuses s e w last refusal.PlayerDiffWithoutNew (closed_named (pos c) s e)
  -- 15: PlayerOld of a client that isn't
  old_without_new : {c n : ℕ} {r : Content Part} → Had s w (kinds.PlayerOld (pos c)) r n → MayCome s (pos c) → present e c ≡ false
      → Refuses s e w last refusal.PlayerOldWithoutNew (closed_named (pos c) s e)
  -- 16: InputDiff of a client that has no input
  input_without_new : {c n : ℕ} {r : Content Part} → Had s w kinds.InputDiff r n → s.inside ≡ true → first_of r ≡ pos c → holds e c ≡ false
      → Refuses s e w last refusal.InputDiffWithoutNew (closed_raised (pos c) s e)

-- a good reader that is open
pub record Open (r : Reader) : Type 0 where
  pub good : good_reader r ≡ true
  pub unclosed : is_closed r.scalars.standing ≡ false

-- any reader: 17, then 18, which change nothing; then the others
pub data Cause (r : Reader) (w : List ℕ) (last : Bool) : Refusal → Reader → Type 0 where
  bad_state : good_reader r ≡ false → Cause r w last refusal.BadState r
  on_closed : good_reader r ≡ true → is_closed r.scalars.standing ≡ true → Cause r w last refusal.Closed r
  on_open : {n : Refusal} {left : Reader} → Open r → Refuses r.scalars r.entries w last n left → Cause r w last n left

-- more: the flag is off, and the bytes needed run out
pub record WantsMore (r : Reader) (w : List ℕ) (last : Bool) : Type 0 where
  pub reader : Open r
  pub flag : last ≡ false
  pub out : BytesRunOut r.scalars w
