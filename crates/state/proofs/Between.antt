-- Between ticks no client is remembered: a clause for each act. Assumes nothing.
use Prim.Native.Nat.{ℕ}
use mathlib.Core.Path.{◌≡◌, refl, sym, ap, ◌∙◌}
use mathlib.Core.Bool.{Bool, true, false, false≢true}
use mathlib.Core.List.{List}
use Rattle.state.specs.declared.Memory.{Memory}
use Rattle.state.specs.Reading.{Step, is_closed, closing, raising, naming, starting, ending, skipping}
use Rattle.state.specs.Laws.{ForgetsBetween, ReadersForgetBetween}
use Rattle.state.specs.Acts.{Act, ReadAct}
use Rattle.state.specs.Acts as act
use Rattle.state.specs.declared.Entries.{Entries}
use Rattle.state.specs.declared.Standing.{Standing}
use Rattle.state.specs.declared.Standing.TheVariants.{Open}
use Rattle.state.specs.declared.Scalars.{Scalars}
use Rattle.state.specs.declared.Reader.{Reader}
use Rattle.state.proofs.Acts.{read_acts}

-- closed, or inside a tick: nothing is claimed
module _ {A : Type 0} where
  closed : {t : Standing} → is_closed t ≡ true → t ≡ Open → A
  closed c o = absurd (false≢true (sym (ap is_closed o) ∙ c))

  inside : {b : Bool} → b ≡ true → b ≡ false → A
  inside i o = absurd (false≢true (sym o ∙ i))

module _ {s : Scalars} {e : Entries} {w : List ℕ} {last : Bool} (m : Memory) (before : ForgetsBetween s) where
  forgets : {f : Memory → Step} → Act s e w last f → ForgetsBetween (f m).scalars
  unfolding closing naming raising starting ending skipping
  forgets (act.wants_more l _) = before
  forgets (act.finishes h o) = closed refl
  forgets (act.refuses_plain r _) = closed refl
  forgets (act.refuses_player r c _) = closed refl
  forgets (act.refuses_input r c _) = closed refl
  forgets (act.refuses13 _ _ b p) = closed refl
  forgets (act.tick_starts h q o) = λ _. inside refl
  forgets (act.tick_ends h p i b x) = λ _ _ _. refl
  forgets (act.last_tick_ends h i) = λ _ _ p. absurd (false≢true cc)
  forgets (act.skip_starts h o x) = λ _. inside refl
  forgets (act.skip_ends h i x) = λ _ _ _. refl
  forgets (act.player_comes h i b o) = λ _. inside i.inside
  forgets (act.player_moves h i p x y) = λ _. inside i.inside
  forgets (act.player_leaves h i p) = λ _. inside i.inside
  forgets (act.input_comes h i f b) = λ _. inside i
  forgets (act.input_moves h i f p) = λ _. inside i
  forgets (act.passes h k i) = λ _. inside i

read_forgets : {r : Reader} {w : List ℕ} {last : Bool} {t : Step} → ReadAct r w last t → ForgetsBetween r.scalars → ForgetsBetween t.scalars
read_forgets (act.on_bad g) before = before
read_forgets (act.on_closed g c) before = before
read_forgets (act.on_open g o a) before = forgets _ before a

pub readers_forget_between : ReadersForgetBetween
readers_forget_between r w last before = read_forgets (read_acts r w last) before
