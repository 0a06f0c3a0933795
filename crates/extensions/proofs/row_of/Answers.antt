-- `extensions::row_of` meets its contract: each arm as the table has it. Assumes nothing.
use mathlib.Core.Path.{◌≡◌, refl}
use mathlib.Core.Bool.{Bool}
use borrow.Author.Rules.{rules}
use Rattle.extensions.specs.Extensions.{extension_row, payload_at, has_client}
use Rattle.extensions.specs.steps.Layouts.{payload_is, row_with, RowOf}
use Rattle.extensions.specs.declared.Extension.{Extension}
use Rattle.extensions.specs.declared.Layout.{Layout}
use Rattle.extensions.specs.declared.Row.{Row}
use Rattle.extensions.proofs.row_of.Goals as goal

told : {which e : Extension} {r : Row} {l : Layout} {b : Bool} → which ≡ e → r ≡ row_with l b → payload_is l ≡ payload_at e → b ≡ has_client e
    → RowOf which r
told p q x y = rw (p, q) (record { payload = x; client = y })

pub returns-in-Antibot : goal.returns-in-Antibot
unfolding payload_at has_client extension_row
returns-in-Antibot c =
    told c.in-Antibot.is c.row_with.ensures refl refl

pub returns-in-AuthInit : goal.returns-in-AuthInit
unfolding payload_at has_client extension_row
returns-in-AuthInit c =
    told c.in-AuthInit.is c.row_with-in-AuthInit.ensures refl refl

pub returns-in-AuthLogin : goal.returns-in-AuthLogin
unfolding payload_at has_client extension_row
returns-in-AuthLogin c =
    told c.in-AuthLogin.is c.row_with-in-AuthLogin.ensures refl refl

pub returns-in-AuthLogout : goal.returns-in-AuthLogout
unfolding payload_at has_client extension_row
returns-in-AuthLogout c =
    told c.in-AuthLogout.is c.row_with-in-AuthLogout.ensures refl refl

pub returns-in-Ddnetver : goal.returns-in-Ddnetver
unfolding payload_at has_client extension_row
returns-in-Ddnetver c =
    told c.in-Ddnetver.is c.row_with-in-Ddnetver.ensures refl refl

pub returns-in-DdnetverOld : goal.returns-in-DdnetverOld
unfolding payload_at has_client extension_row
returns-in-DdnetverOld c =
    told c.in-DdnetverOld.is c.row_with-in-DdnetverOld.ensures refl refl

pub returns-in-Joinver6 : goal.returns-in-Joinver6
unfolding payload_at has_client extension_row
returns-in-Joinver6 c =
    told c.in-Joinver6.is c.row_with-in-Joinver6.ensures refl refl

pub returns-in-Joinver7 : goal.returns-in-Joinver7
unfolding payload_at has_client extension_row
returns-in-Joinver7 c =
    told c.in-Joinver7.is c.row_with-in-Joinver7.ensures refl refl

pub returns-in-PlayerFinish : goal.returns-in-PlayerFinish
unfolding payload_at has_client extension_row
returns-in-PlayerFinish c =
    told c.in-PlayerFinish.is c.row_with-in-PlayerFinish.ensures refl refl

pub returns-in-PlayerName : goal.returns-in-PlayerName
unfolding payload_at has_client extension_row
returns-in-PlayerName c =
    told c.in-PlayerName.is c.row_with-in-PlayerName.ensures refl refl

pub returns-in-PlayerReady : goal.returns-in-PlayerReady
unfolding payload_at has_client extension_row
returns-in-PlayerReady c =
    told c.in-PlayerReady.is c.row_with-in-PlayerReady.ensures refl refl

pub returns-in-PlayerRejoin : goal.returns-in-PlayerRejoin
unfolding payload_at has_client extension_row
returns-in-PlayerRejoin c =
    told c.in-PlayerRejoin.is c.row_with-in-PlayerRejoin.ensures refl refl

pub returns-in-PlayerSwap : goal.returns-in-PlayerSwap
unfolding payload_at has_client extension_row
returns-in-PlayerSwap c =
    told c.in-PlayerSwap.is c.row_with-in-PlayerSwap.ensures refl refl

pub returns-in-PlayerTeam : goal.returns-in-PlayerTeam
unfolding payload_at has_client extension_row
returns-in-PlayerTeam c =
    told c.in-PlayerTeam.is c.row_with-in-PlayerTeam.ensures refl refl

pub returns-in-TeamFinish : goal.returns-in-TeamFinish
unfolding payload_at has_client extension_row
returns-in-TeamFinish c =
    told c.in-TeamFinish.is c.row_with-in-TeamFinish.ensures refl refl

pub returns-in-TeamLoadFailure : goal.returns-in-TeamLoadFailure
unfolding payload_at has_client extension_row
returns-in-TeamLoadFailure c =
    told c.in-TeamLoadFailure.is c.row_with-in-TeamLoadFailure.ensures refl refl

pub returns-in-TeamLoadSuccess : goal.returns-in-TeamLoadSuccess
unfolding payload_at has_client extension_row
returns-in-TeamLoadSuccess c =
    told c.in-TeamLoadSuccess.is c.row_with-in-TeamLoadSuccess.ensures refl refl

pub returns-in-TeamPractice : goal.returns-in-TeamPractice
unfolding payload_at has_client extension_row
returns-in-TeamPractice c =
    told c.in-TeamPractice.is c.row_with-in-TeamPractice.ensures refl refl

pub returns-in-TeamSaveFailure : goal.returns-in-TeamSaveFailure
unfolding payload_at has_client extension_row
returns-in-TeamSaveFailure c =
    told c.in-TeamSaveFailure.is c.row_with-in-TeamSaveFailure.ensures refl refl

pub returns-in-TeamSaveSuccess : goal.returns-in-TeamSaveSuccess
unfolding payload_at has_client extension_row
returns-in-TeamSaveSuccess c =
    told c.in-TeamSaveSuccess.is c.row_with-in-TeamSaveSuccess.ensures refl refl
