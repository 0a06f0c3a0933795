-- A client's row is the first of its finishes with the lowest time: kept from finish to finish. Assumes nothing.
use Prim.Native.Nat.{ℕ}
use mathlib.Core.Path.{◌≡◌, refl, ap, ◌∙◌}
use mathlib.Core.Bool.{true, cond}
use mathlib.Core.List.{List, [], ◌∷◌, ◌++◌, append_assoc, append-nil}
use lib.IntN.{pos}
use lib.Signed.{lt_z, le_z}
use Rattle.num.proofs.Cases.{by_bool}
use Rattle.state.specs.State.{same_int}
use Rattle.results.specs.Results.{Finish, lower, best_after, best}
use Rattle.results.specs.Laws.{Each, IsFirstLowest, FirstLowest}
use Rattle.results.proofs.Order.{no_higher_law, same_le, lt_le_lt, lt_le, same_true, same_false}
use Rattle.results.proofs.Each.{all_map, all_append}

-- ---- a finish of client c beside g

abbrev pub Other : ℕ → Finish → Type 0
Other c f = f.client ≡ pos c → ⊥

abbrev Higher : ℕ → Finish → Finish → Type 0
Higher c g f = f.client ≡ pos c → lt_z g.time f.time ≡ true

abbrev pub NoLower : ℕ → Finish → Finish → Type 0
NoLower c g f = f.client ≡ pos c → le_z g.time f.time ≡ true

-- none is lower than the first lowest
pub none_lower : (c : ℕ) (fs : List Finish) (g : Finish) → IsFirstLowest c fs g → Each (NoLower c g) fs
none_lower c fs g k =
    let b = all_map (Higher c g) (NoLower c g) (λ f h p. lt_le g.time f.time (h p)) k.at.before k.higher in
    let a = all_append (NoLower c g) k.at.before (g ∷ k.at.after) b ((λ p. same_le g.time), k.no_lower) in
    rw k.at.split a

-- ---- what is kept of the finishes so far

abbrev pub KeptOf : ℕ → List Finish → List Finish → Type 0
KeptOf c fs [] = Each (Other c) fs
KeptOf c fs (g ∷ []) = IsFirstLowest c fs g
KeptOf c fs (g ∷ h ∷ gs) = ⊥

module _ (c : ℕ) (fs : List Finish) (f : Finish) where
  -- one more, of another client or with a time no lower
  stays : (g : Finish) → NoLower c g f → IsFirstLowest c fs g → IsFirstLowest c (fs ++ f ∷ []) g
  stays g h k =
      record {
        at =
            record {
              before = k.at.before;
              after = k.at.after ++ f ∷ [];
              split = ap (λ (x : List Finish). x ++ f ∷ []) k.at.split ∙ append_assoc k.at.before (g ∷ k.at.after) (f ∷ []);
            };
        client = k.client;
        higher = k.higher;
        no_lower = all_append (NoLower c g) k.at.after (f ∷ []) k.no_lower (h, tt);
      }

  -- a finish below all before it
  comes : f.client ≡ pos c → Each (Higher c f) fs → IsFirstLowest c (fs ++ f ∷ []) f
  comes e h = record { at = record { before = fs; after = []; split = refl }; client = e; higher = h; no_lower = tt }

  -- of client c
  same : (kept : List Finish) → f.client ≡ pos c → KeptOf c fs kept → KeptOf c (fs ++ f ∷ []) (lower kept f)
  same [] e k = comes e (all_map (Other c) (Higher c f) (λ g h p. absurd (h p)) fs k)
  same (g ∷ []) e k =
      by_bool (lt_z f.time g.time)
      (λ t. rw t (comes e (all_map (NoLower c g) (Higher c f) (λ x h p. lt_le_lt f.time g.time x.time t (h p)) fs (none_lower c fs g k))))
      (λ t. rw t (stays g (λ p. no_higher_law f.time g.time t) k))
  same (g ∷ h ∷ gs) e k = absurd k

  -- of another
  differs : (kept : List Finish) → Other c f → KeptOf c fs kept → KeptOf c (fs ++ f ∷ []) kept
  differs [] n k = all_append (Other c) fs (f ∷ []) k (n, tt)
  differs (g ∷ []) n k = stays g (λ p. absurd (n p)) k
  differs (g ∷ h ∷ gs) n k = absurd k

  keeps : (kept : List Finish) → KeptOf c fs kept
      → KeptOf c (fs ++ f ∷ []) (cond (same_int f.client (pos c)) (lower kept f) kept)
  keeps kept k =
      by_bool (same_int f.client (pos c))
      (λ t. rw t (same kept (same_true f.client (pos c) t) k))
      (λ t. rw t (differs kept (same_false f.client (pos c) t) k))

pub kept_after : (c : ℕ) (fs kept gs : List Finish) → KeptOf c fs kept → KeptOf c (fs ++ gs) (best_after kept c gs)
unfolding best_after
kept_after c fs kept [] k = rw (append-nil fs) k
kept_after c fs kept (g ∷ gs) k =
    let more = kept_after c (fs ++ g ∷ []) (cond (same_int g.client (pos c)) (lower kept g) kept) gs (keeps c fs g kept k) in
    rw (append_assoc fs (g ∷ []) gs) at more

pub kept_best : (c : ℕ) (fs : List Finish) → KeptOf c fs (best c fs)
kept_best c fs = kept_after c [] [] fs tt

told : (c : ℕ) (fs : List Finish) (g : Finish) (gs : List Finish) → KeptOf c fs (g ∷ gs) → (gs ≡ []) × IsFirstLowest c fs g
told c fs g [] k = (refl, k)
told c fs g (h ∷ gs) k = absurd k

pub first_lowest : FirstLowest
first_lowest c fs g gs e = told c fs g gs (rw e at (kept_best c fs))
