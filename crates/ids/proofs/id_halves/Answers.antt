-- `ids::id_halves` meets its contract: each arm as the table has it. Assumes nothing.
use Prim.Native.Nat.{ℕ}
use mathlib.Core.Path.{◌≡◌, refl, sym, ap, ◌∙◌}
use Rattle.extensions.specs.Extensions.{extension_row, id_at}
use Rattle.extensions.specs.declared.Extension.{Extension}
use Rattle.ids.specs.steps.Table.{halves_with, halves}
use Rattle.ids.specs.declared.Halves.{Halves}
use Rattle.ids.proofs.id_halves.Goals as goal

told : {which e : Extension} {r : Halves} {a b : ℕ} → which ≡ e → r ≡ halves_with a b → halves_with a b ≡ halves (id_at e) → r ≡ halves (id_at which)
told p q x = q ∙ x ∙ ap (λ (i : Extension). halves (id_at i)) (sym p)

pub returns-in-Antibot : goal.returns-in-Antibot
unfolding id_at extension_row
returns-in-Antibot c =
    told c.in-Antibot.is c.halves_with.ensures refl

pub returns-in-AuthInit : goal.returns-in-AuthInit
unfolding id_at extension_row
returns-in-AuthInit c =
    told c.in-AuthInit.is c.halves_with-in-AuthInit.ensures refl

pub returns-in-AuthLogin : goal.returns-in-AuthLogin
unfolding id_at extension_row
returns-in-AuthLogin c =
    told c.in-AuthLogin.is c.halves_with-in-AuthLogin.ensures refl

pub returns-in-AuthLogout : goal.returns-in-AuthLogout
unfolding id_at extension_row
returns-in-AuthLogout c =
    told c.in-AuthLogout.is c.halves_with-in-AuthLogout.ensures refl

pub returns-in-Ddnetver : goal.returns-in-Ddnetver
unfolding id_at extension_row
returns-in-Ddnetver c =
    told c.in-Ddnetver.is c.halves_with-in-Ddnetver.ensures refl

pub returns-in-DdnetverOld : goal.returns-in-DdnetverOld
unfolding id_at extension_row
returns-in-DdnetverOld c =
    told c.in-DdnetverOld.is c.halves_with-in-DdnetverOld.ensures refl

pub returns-in-Joinver6 : goal.returns-in-Joinver6
unfolding id_at extension_row
returns-in-Joinver6 c =
    told c.in-Joinver6.is c.halves_with-in-Joinver6.ensures refl

pub returns-in-Joinver7 : goal.returns-in-Joinver7
unfolding id_at extension_row
returns-in-Joinver7 c =
    told c.in-Joinver7.is c.halves_with-in-Joinver7.ensures refl

pub returns-in-PlayerFinish : goal.returns-in-PlayerFinish
unfolding id_at extension_row
returns-in-PlayerFinish c =
    told c.in-PlayerFinish.is c.halves_with-in-PlayerFinish.ensures refl

pub returns-in-PlayerName : goal.returns-in-PlayerName
unfolding id_at extension_row
returns-in-PlayerName c =
    told c.in-PlayerName.is c.halves_with-in-PlayerName.ensures refl

pub returns-in-PlayerReady : goal.returns-in-PlayerReady
unfolding id_at extension_row
returns-in-PlayerReady c =
    told c.in-PlayerReady.is c.halves_with-in-PlayerReady.ensures refl

pub returns-in-PlayerRejoin : goal.returns-in-PlayerRejoin
unfolding id_at extension_row
returns-in-PlayerRejoin c =
    told c.in-PlayerRejoin.is c.halves_with-in-PlayerRejoin.ensures refl

pub returns-in-PlayerSwap : goal.returns-in-PlayerSwap
unfolding id_at extension_row
returns-in-PlayerSwap c =
    told c.in-PlayerSwap.is c.halves_with-in-PlayerSwap.ensures refl

pub returns-in-PlayerTeam : goal.returns-in-PlayerTeam
unfolding id_at extension_row
returns-in-PlayerTeam c =
    told c.in-PlayerTeam.is c.halves_with-in-PlayerTeam.ensures refl

pub returns-in-TeamFinish : goal.returns-in-TeamFinish
unfolding id_at extension_row
returns-in-TeamFinish c =
    told c.in-TeamFinish.is c.halves_with-in-TeamFinish.ensures refl

pub returns-in-TeamLoadFailure : goal.returns-in-TeamLoadFailure
unfolding id_at extension_row
returns-in-TeamLoadFailure c =
    told c.in-TeamLoadFailure.is c.halves_with-in-TeamLoadFailure.ensures refl

pub returns-in-TeamLoadSuccess : goal.returns-in-TeamLoadSuccess
unfolding id_at extension_row
returns-in-TeamLoadSuccess c =
    told c.in-TeamLoadSuccess.is c.halves_with-in-TeamLoadSuccess.ensures refl

pub returns-in-TeamPractice : goal.returns-in-TeamPractice
unfolding id_at extension_row
returns-in-TeamPractice c =
    told c.in-TeamPractice.is c.halves_with-in-TeamPractice.ensures refl

pub returns-in-TeamSaveFailure : goal.returns-in-TeamSaveFailure
unfolding id_at extension_row
returns-in-TeamSaveFailure c =
    told c.in-TeamSaveFailure.is c.halves_with-in-TeamSaveFailure.ensures refl

pub returns-in-TeamSaveSuccess : goal.returns-in-TeamSaveSuccess
unfolding id_at extension_row
returns-in-TeamSaveSuccess c =
    told c.in-TeamSaveSuccess.is c.halves_with-in-TeamSaveSuccess.ensures refl
