-- A turn prints what is printed from there on. Assumes nothing.
use Prim.Native.Nat.{ℕ, zero, suc, ◌+◌}
use mathlib.Core.Path.{◌≡◌, refl, sym, ◌∙◌, ap}
use mathlib.Core.Bool.{Bool, true, false, cond}
use mathlib.Core.List.{List, [], ◌∷◌, ◌++◌, append_assoc, append-nil, flat_map}
use native.Mathlib.Omega.{arith}
use lib.ListN.{length, take, drop, take-append-drop}
use lib.Seq.{drop-append-le, drop-drop}
use lib.IntN.{ℤ}
use Rattle.num.proofs.Cases.{by_bool}
use Rattle.item.specs.Said.{Said, gives, more, finish, refuses}
use Rattle.state.specs.Reading.{Event, Step, read_call, reader_after}
use Rattle.state.specs.declared.Reader.{Reader}
use Rattle.calls.specs.Calls.{is_pending, Seen, seen_by}
use Rattle.calls.specs.Along.{along, Halt, is_full, wants_more, finishes, is_refused, Run, before, on_said, calls}
use Rattle.windows.specs.Windows.{window_of, is_last_window, ends, finished, refused_with, window_too_long, Printer, lines_by, ending_by, window_call, printed_from}
use Rattle.windows.specs.Turns.{at_hand, has_ended, Turn, run_of, short, over, turn_by, TurnPrints, turns_by, turns_end, AllPrinted, TurnsPrintAll}
use Rattle.calls.proofs.Singles.{uses_within, more_leaves}
use Rattle.calls.proofs.Runs.{follow}
use Rattle.windows.proofs.AtHand.{Fits, same_call, fits_on, reach, window_of_law, start_fits, full_window, first_more}

module _ {A : Type 0} (p : Printer A) where
  -- ---- one call on the window

  -- the line of what a call says, and the lines after it
  abbrev printed : Said Event → List ℤ → (ℕ → List A) → List A
  printed (gives e n) ten next = p.line e ten ++ next n
  printed more ten next = p.last window_too_long
  printed (finish n) ten next = p.last finished
  printed (refuses k vs) ten next = p.last (refused_with k)

  said_prints : (k : ℕ) (r : Reader) (b : List ℕ) (a : Said Event) → let run = follow window_call k r b a in
      let t = read_call r (window_of b) (is_last_window true b) in
      lines_by p run.seen ++ ending_by p false run.halt 0 ≡ printed a t.memory.input (λ n. printed_from p k (reader_after t) (drop n b))
  unfolding printed_from flat_map
  said_prints k r b (gives e n) =
      let t = read_call r (window_of b) (is_last_window true b) in
      append_assoc (p.line e t.memory.input) (lines_by p (along window_call k (reader_after t) (drop n b)).seen) _
  said_prints k r b more = refl
  said_prints k r b (finish n) = refl
  said_prints k r b (refuses j vs) = refl

  one_call : (k : ℕ) (r : Reader) (b : List ℕ) (t : Step) (a : Said Event) → read_call r (window_of b) (is_last_window true b) ≡ t → t.said ≡ a
      → printed_from p (suc k) r b ≡ printed a t.memory.input (λ n. printed_from p k (reader_after t) (drop n b))
  unfolding printed_from along
  one_call k r b t a e f =
      said_prints k r b (read_call r (window_of b) (is_last_window true b)).said
      ∙ ap (λ (u : Step). printed u.said u.memory.input (λ n. printed_from p k (reader_after u) (drop n b))) e
      ∙ ap (λ (c : Said Event). printed c t.memory.input (λ n. printed_from p k (reader_after t) (drop n b))) f

  -- ---- calls on what is at hand

  -- what is printed behind the lines of a run's events
  abbrev tail_of : Halt → List A → List A
  tail_of is_full next = next
  tail_of wants_more next = next
  tail_of finishes next = p.last finished
  tail_of (is_refused k vs) next = p.last (refused_with k)

  abbrev Follows : ℕ → Reader → List ℕ → Run → Type 0
  Follows k r b run =
      printed_from p (length run.seen + suc k) r b
      ≡ lines_by p run.seen ++ tail_of run.halt (printed_from p (suc k) run.reader (drop run.used b))

  module _ (k : ℕ) (r : Reader) (w z : List ℕ) (last : Bool) (f : Fits last w z) where
    abbrev t : Step
    t = read_call r w last

    abbrev b : List ℕ
    b = w ++ z

    zero_first : 0 + suc k ≡ suc k
    zero_first = omega arith

    an_event_law : (e : Event) (m : ℕ) → t.said ≡ gives e m → (rest : Run) → Follows k (reader_after t) (drop m w ++ z) rest
        → Follows k r b (before (seen_by (is_pending r.scalars.pending) w t e m) rest)
    unfolding flat_map
    an_event_law e m s rest h =
        let c = one_call (length rest.seen + suc k) r b t (gives e m) (same_call r w z last f (rw s tt)) s in
        let q : suc (length rest.seen) + suc k ≡ suc (length rest.seen + suc k) = omega arith in
        let d : drop m b ≡ drop m w ++ z = drop-append-le m w z (uses_within r w last e m s) in
        let g : drop (m + rest.used) b ≡ drop rest.used (drop m w ++ z) =
        sym (drop-drop rest.used m b) ∙ ap (drop rest.used) d in
        let ten = t.memory.input in
        rw (q, g)
        (c ∙ ap (λ (l : List ℕ). p.line e ten ++ printed_from p (length rest.seen + suc k) (reader_after t) l) d
        ∙ ap (λ (l : List A). p.line e ten ++ l) h
        ∙ sym (append_assoc (p.line e ten) (lines_by p rest.seen) _))

    no_event_law : (a : Said Event) → t.said ≡ a → (next : Event → ℕ → Run) → ((e : Event) (m : ℕ) → t.said ≡ gives e m → Follows k r b (next e m))
        → Follows k r b (on_said a next (reader_after t))
    unfolding flat_map
    no_event_law (gives e m) s next g = g e m s
    no_event_law more s next g = rw (zero_first, (more_leaves r w last s).1)
    no_event_law (finish m) s next g = rw zero_first (one_call k r b t (finish m) (same_call r w z last f (rw s tt)) s)
    no_event_law (refuses j vs) s next g = rw zero_first (one_call k r b t (refuses j vs) (same_call r w z last f (rw s tt)) s)

  follows : (n k : ℕ) (r : Reader) (w z : List ℕ) (last : Bool) → Fits last w z → Follows k r (w ++ z) (calls n r w last)
  unfolding along flat_map
  follows zero k r w z last f = let e : 0 + suc k ≡ suc k = omega arith in rw e
  follows (suc n) k r w z last f =
      let t = read_call r w last in
      no_event_law k r w z last f t.said refl _
      (λ e m s. an_event_law k r w z last f e m s (calls n (reader_after t) (drop m w) last)
      (follows n k (reader_after t) (drop m w) z last (fits_on last w z m f)))

  -- ---- a turn

  -- the last line, or what the next turn prints
  join : (s : Bool) (h : Halt) (c : ℕ) (text next whole : List A) → whole ≡ text ++ tail_of h next
      → (s ≡ false → h ≡ wants_more → c ≡ 0 → whole ≡ text ++ p.last window_too_long) → whole ≡ (text ++ ending_by p s h c) ++ cond (ends s h c) [] next
  join s is_full c text next whole e f = e ∙ ap (λ (l : List A). l ++ next) (sym (append-nil text))
  join true wants_more c text next whole e f = e ∙ ap (λ (l : List A). l ++ next) (sym (append-nil text))
  join false wants_more zero text next whole e f = f refl refl refl ∙ sym (append-nil (text ++ p.last window_too_long))
  join false wants_more (suc c) text next whole e f = e ∙ ap (λ (l : List A). l ++ next) (sym (append-nil text))
  join s finishes c text next whole e f = e ∙ sym (append-nil (text ++ p.last finished))
  join s (is_refused k vs) c text next whole e f = e ∙ sym (append-nil (text ++ p.last (refused_with k)))

  no_text : (xs : List Seen) → length xs ≡ 0 → lines_by p xs ≡ []
  unfolding flat_map
  no_text [] e = refl
  no_text (x ∷ xs) e = absurd (omega arith)

  pub turn_prints : TurnPrints p
  turn_prints t k r body =
      let a = t.arrived in
      let run = run_of t r body in
      let whole = take-append-drop (reach a) body in
      let onward = follows (suc t.room) k r (take (reach a) body) (drop (reach a) body) (is_last_window (has_ended a) (at_hand a body)) (start_fits a body) in
      join (short t body) run.halt (length run.seen) (lines_by p run.seen) (printed_from p (suc k) run.reader (drop run.used body))
      (printed_from p (length run.seen + suc k) r body)
      (rw (whole, ← window_of_law a body) at onward)
      (λ s h c.
      let e : length run.seen + suc k ≡ suc k = omega arith in
      let q = full_window a body s in
      let m = first_more t.room r (window_of (at_hand a body)) (is_last_window (has_ended a) (at_hand a body)) h c in
      let f : is_last_window (has_ended a) (at_hand a body) ≡ is_last_window true body = q.1.0 ∙ sym q.1.1 in
      rw (e, no_text run.seen c)
      (one_call k r body (read_call r (window_of body) (is_last_window true body)) more refl (rw (q.0, f) at m)))

  -- ---- turns one behind the other

  -- the first turn ends the reading
  over_at_once : (t : Turn) (ts : List Turn) (r : Reader) (body : List ℕ) → over t r body ≡ true → AllPrinted p r body (turns_by p (t ∷ ts) r body)
  unfolding turns_by
  over_at_once t ts r body o = record { calls = length (run_of t r body).seen; same = λ k. turn_prints t k r body ∙ rw o }

  -- a later one does
  over_later : (t : Turn) (ts : List Turn) (r : Reader) (body : List ℕ) → over t r body ≡ false
      → let run = run_of t r body in let left = drop run.used body in
      AllPrinted p run.reader left (turns_by p ts run.reader left) → AllPrinted p r body (turns_by p (t ∷ ts) r body)
  unfolding turns_by
  over_later t ts r body o a =
      let run = run_of t r body in
      record {
        calls = length run.seen + a.calls;
        same = λ k.
            let e : length run.seen + a.calls + suc k ≡ length run.seen + suc (a.calls + k) = omega arith in
            let f : suc (a.calls + k) ≡ a.calls + suc k = omega arith in
            rw e (turn_prints t (a.calls + k) r body ∙ rw (o, f) (ap (λ (l : List A). turn_by p t r body ++ l) (a.same k)));
      }

  pub turns_print_all : TurnsPrintAll p
  unfolding turns_end
  turns_print_all [] r body h = let z : ◌≡◌ {A = ℕ} 0 1 = cc in absurd (omega arith)
  turns_print_all (t ∷ ts) r body h =
      let run = run_of t r body in
      by_bool (over t r body)
      (λ o. over_at_once t ts r body o)
      (λ o. over_later t ts r body o (turns_print_all ts run.reader (drop run.used body) (rw o at h)))
