-- Strings one after the other: those that were read, and those that stand at a place. Assumes nothing.
use Prim.Native.Nat.{ℕ, zero, suc, ◌+◌, ◌≤◌}
use mathlib.Core.Path.{◌≡◌, refl, sym, ◌∙◌, ap}
use mathlib.Core.Bool.{true}
use mathlib.Core.List.{List, [], ◌∷◌, ◌++◌, append_assoc, append-nil, map}
use native.Mathlib.Omega.{arith}
use native.Mathlib.Nat.{add-zero}
use lib.ListN.{length, drop, length-append}
use lib.Dec.{ltb}
use borrow.Author.Tests.{ltb-true, lt-ltb, le-leb}
use Rattle.num.proofs.Cases.{by_bool}
use Rattle.packer.specs.Parts.{part, shown, read_string}
use Rattle.packer.specs.Texts.{no_zero, string_bytes}
use Rattle.packer.specs.declared.Part.{Part}
use Rattle.packer.specs.declared.PartRead.{PartRead}
use Rattle.packer.specs.declared.PartRead.TheVariants as parts
use Rattle.packer.proofs.Places.{past, past_within, string_at, string_shown}
use Rattle.packer.proofs.Parts.{string_got, string_taken, string_whole}
use Rattle.fields.specs.Fields.{got, args_from}
use Rattle.fields.specs.steps.Sorts.{one_arg, all_no_zero, all_inside}
use Rattle.fields.specs.Writing.{strings_bytes, inside}
use Rattle.fields.proofs.Answers.{not_out, not_refused, same_got, and_both, and_split}

-- ---- read

-- a string that was read lies inside the window
pub string_inside : (s : List ℕ) (at next : ℕ) (p : Part) → read_string s at ≡ parts.Got p next → inside s p ≡ true
string_inside s at next p e =
    let g = string_got s at next p e in
    let t = string_taken s at next p e in
    rw g.same (le-leb (at + length g.text) (length s) (omega (arith, t.within, g.place, length-append g.text (0 ∷ []))))

-- n more strings after those that were had
pub record Had (n : ℕ) (s : List ℕ) (had : List Part) (at : ℕ) (ps : List Part) (next : ℕ) : Type 0 where
  pub more : List Part
  pub same : ps ≡ had ++ more
  pub count : length more ≡ n
  pub few : length ps ≤ 16
  pub within : next ≤ length s
  pub shows : (t : List ℕ) → map (shown (s ++ t)) more ≡ map (shown s) more
  pub clean : all_no_zero (map (shown s) more) ≡ true
  pub inner : all_inside s more ≡ true
  pub whole : drop at s ≡ strings_bytes (map (shown s) more) ++ drop next s

module _ (n : ℕ) (s : List ℕ) (had : List Part) (at m : ℕ) (p : Part) (e : read_string s at ≡ parts.Got p m) where
  one_more : (ps : List Part) (next : ℕ) → Had n s (had ++ p ∷ []) m ps next → Had (suc n) s had at ps next
  unfolding strings_bytes
  one_more ps next h =
      let t = string_taken s at m p e in
      let w = string_whole s at m p e in
      let b = string_bytes (shown s p) in
      let bs = strings_bytes (map (shown s) h.more) in
      record {
        more = p ∷ h.more;
        same = h.same ∙ append_assoc had (p ∷ []) h.more;
        count = ap suc h.count;
        few = h.few;
        within = h.within;
        shows = λ u. rw (t.shows u, h.shows u);
        clean = and_both (no_zero (shown s p)) (all_no_zero (map (shown s) h.more)) w.1 h.clean;
        inner = and_both (inside s p) (all_inside s h.more) (string_inside s at m p e) h.inner;
        whole = w.0.0 ∙ ap (λ l. b ++ l) h.whole ∙ sym (append_assoc b bs (drop next s));
      }

one_had : (n : ℕ) (s : List ℕ) (had : List Part) (at : ℕ) (x : PartRead) → read_string s at ≡ x
    → ((m : ℕ) (qs : List Part) → m ≤ length s → length qs ≤ 16 → (ps : List Part) (next : ℕ) → args_from n s qs m ≡ got ps next → Had n s qs m ps next)
    → (ps : List Part) (next : ℕ) → one_arg x had (args_from n s) ≡ got ps next → Had (suc n) s had at ps next
one_had n s had at (parts.Got p m) x g ps next e =
    by_bool (ltb (length had) 16)
    (λ t.
    one_more n s had at m p x ps next
    (g m (had ++ p ∷ []) (string_taken s at m p x).within (omega (arith, length-append had (p ∷ []), ltb-true (length had) 16 t)) ps next (rw t at e)))
    (λ t. not_refused (rw t at e))
one_had n s had at parts.RunsOut x g ps next e = not_out e

pub args_had : (n : ℕ) (s : List ℕ) (at : ℕ) (had : List Part) → at ≤ length s → length had ≤ 16 → (ps : List Part) (next : ℕ) → args_from n s had at ≡ got ps next → Had n s had at ps next
unfolding args_from strings_bytes
args_had zero s at had h l ps next e =
    same_got (Had zero s had at) e (record {
      more = [];
      same = sym (append-nil had);
      count = refl;
      few = l;
      within = h;
      shows = λ t. refl;
      clean = refl;
      inner = refl;
      whole = refl;
    })
args_had (suc n) s at had h l ps next e = one_had n s had at (read_string s at) refl (args_had n s) ps next e

-- ---- written

-- strings that stand at a place
pub record Stood (bs : List (List ℕ)) (s : List ℕ) (at : ℕ) (had : List Part) : Type 0 where
  pub more : List Part
  pub reads : args_from (length bs) s had at ≡ got (had ++ more) (at + length (strings_bytes bs))
  pub same : map (shown s) more ≡ bs

pub args_stood : (bs : List (List ℕ)) (s rest : List ℕ) (at : ℕ) (had : List Part) → at ≤ length s → length had + length bs ≤ 16 → all_no_zero bs ≡ true
    → drop at s ≡ strings_bytes bs ++ rest → Stood bs s at had
unfolding args_from strings_bytes
args_stood [] s rest at had h l z e = record { more = []; reads = rw (append-nil, add-zero); same = refl }
args_stood (b ∷ bs) s rest at had h l z e =
    let w = string_bytes b in
    let ws = strings_bytes bs in
    let c = and_split (no_zero b) (all_no_zero bs) z in
    let p = part at (length b) in
    let e1 : drop at s ≡ w ++ (ws ++ rest) = e ∙ append_assoc w ws rest in
    let i = args_stood bs s rest (at + length w) (had ++ p ∷ []) (past_within s w (ws ++ rest) at e1 h) (omega (arith, length-append had (p ∷ []))) c.1 (past s w (ws ++ rest) at e1) in
    let q : at + length w + length ws ≡ at + length (w ++ ws) = omega (arith, length-append w ws) in
    record {
      more = p ∷ i.more;
      reads =
          rw (string_at s b (ws ++ rest) at c.0 e1, lt-ltb (length had) 16 (omega arith))
          (i.reads ∙ rw (append_assoc had (p ∷ []) i.more, q));
      same = rw (string_shown s b (ws ++ rest) at c.0 e1 h, i.same);
    }
