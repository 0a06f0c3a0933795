-- `item::Item::take_apart` meets its contract: each variant as the definition has it. Assumes nothing.
use mathlib.Core.Path.{◌≡◌}
use mir.Syntax.{w32}
use mir.Val.{to_z, of_z}
use borrow.Author.Rules.{rules}
use Rattle.extensions.specs.Extensions.{extension_row, payload_at}
use Rattle.item.proofs.Apart.{bits_back, tick_apart, command_apart}
use Rattle.item.proofs.Item.take_apart.Goals as goal

pub returns-in-Antibot : goal.returns-in-Antibot
unfolding extension_row payload_at
returns-in-Antibot c =
    rw (c.in-Antibot.is, c.taken_with-in-Antibot.ensures) (search rules)

pub returns-in-AuthInit : goal.returns-in-AuthInit
unfolding extension_row payload_at
returns-in-AuthInit c =
    rw (c.in-AuthInit.is, c.taken_with-in-AuthInit.ensures) (search rules)

pub returns-in-AuthLogin : goal.returns-in-AuthLogin
unfolding extension_row payload_at
returns-in-AuthLogin c =
    rw (c.in-AuthLogin.is, c.taken_with-in-AuthLogin.ensures) (search rules)

pub returns-in-AuthLogout : goal.returns-in-AuthLogout
unfolding extension_row payload_at
returns-in-AuthLogout c =
    rw (c.in-AuthLogout.is, c.taken_with-in-AuthLogout.ensures) (search rules)

pub returns-in-Ddnetver : goal.returns-in-Ddnetver
unfolding extension_row payload_at
returns-in-Ddnetver c =
    rw (c.in-Ddnetver.is, c.taken_with-in-Ddnetver.ensures) (search rules)

pub returns-in-DdnetverOld : goal.returns-in-DdnetverOld
unfolding extension_row payload_at
returns-in-DdnetverOld c =
    rw (c.in-DdnetverOld.is, c.taken_with-in-DdnetverOld.ensures) (search rules)

pub returns-in-Joinver6 : goal.returns-in-Joinver6
unfolding extension_row payload_at
returns-in-Joinver6 c =
    rw (c.in-Joinver6.is, c.taken_with-in-Joinver6.ensures) (search rules)

pub returns-in-Joinver7 : goal.returns-in-Joinver7
unfolding extension_row payload_at
returns-in-Joinver7 c =
    rw (c.in-Joinver7.is, c.taken_with-in-Joinver7.ensures) (search rules)

pub returns-in-PlayerFinish : goal.returns-in-PlayerFinish
unfolding extension_row payload_at
returns-in-PlayerFinish c =
    rw (c.in-PlayerFinish.is, c.taken_with-in-PlayerFinish.ensures) (search rules)

pub returns-in-PlayerName : goal.returns-in-PlayerName
unfolding extension_row payload_at
returns-in-PlayerName c =
    rw (c.in-PlayerName.is, c.taken_with-in-PlayerName.ensures) (search rules)

pub returns-in-PlayerReady : goal.returns-in-PlayerReady
unfolding extension_row payload_at
returns-in-PlayerReady c =
    rw (c.in-PlayerReady.is, c.taken_with-in-PlayerReady.ensures) (search rules)

pub returns-in-PlayerRejoin : goal.returns-in-PlayerRejoin
unfolding extension_row payload_at
returns-in-PlayerRejoin c =
    rw (c.in-PlayerRejoin.is, c.taken_with-in-PlayerRejoin.ensures) (search rules)

pub returns-in-PlayerSwap : goal.returns-in-PlayerSwap
unfolding extension_row payload_at
returns-in-PlayerSwap c =
    rw (c.in-PlayerSwap.is, c.taken_with-in-PlayerSwap.ensures) (search rules)

pub returns-in-PlayerTeam : goal.returns-in-PlayerTeam
unfolding extension_row payload_at
returns-in-PlayerTeam c =
    rw (c.in-PlayerTeam.is, c.taken_with-in-PlayerTeam.ensures) (search rules)

pub returns-in-TeamFinish : goal.returns-in-TeamFinish
unfolding extension_row payload_at
returns-in-TeamFinish c =
    rw (c.in-TeamFinish.is, c.taken_with-in-TeamFinish.ensures) (search rules)

pub returns-in-TeamLoadFailure : goal.returns-in-TeamLoadFailure
unfolding extension_row payload_at
returns-in-TeamLoadFailure c =
    rw (c.in-TeamLoadFailure.is, c.taken_with-in-TeamLoadFailure.ensures) (search rules)

pub returns-in-TeamLoadSuccess : goal.returns-in-TeamLoadSuccess
unfolding extension_row payload_at
returns-in-TeamLoadSuccess c =
    rw (c.in-TeamLoadSuccess.is, c.taken_with-in-TeamLoadSuccess.ensures) (search rules)

pub returns-in-TeamPractice : goal.returns-in-TeamPractice
unfolding extension_row payload_at
returns-in-TeamPractice c =
    rw (c.in-TeamPractice.is, c.taken_with-in-TeamPractice.ensures) (search rules)

pub returns-in-TeamSaveFailure : goal.returns-in-TeamSaveFailure
unfolding extension_row payload_at
returns-in-TeamSaveFailure c =
    rw (c.in-TeamSaveFailure.is, c.taken_with-in-TeamSaveFailure.ensures) (search rules)

pub returns-in-TeamSaveSuccess : goal.returns-in-TeamSaveSuccess
unfolding extension_row payload_at
returns-in-TeamSaveSuccess c =
    rw (c.in-TeamSaveSuccess.is, c.taken_with-in-TeamSaveSuccess.ensures) (search rules)
