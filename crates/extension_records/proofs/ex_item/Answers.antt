-- `extension_records::ex_item` meets its contract: each arm as the table has it. Assumes nothing.
use mathlib.Core.Path.{◌≡◌, ◌∙◌, ap}
use borrow.Author.Rules.{rules}
use Rattle.extensions.specs.Extensions.{extension_row, payload_at}
use Rattle.extensions.specs.declared.Extension.{Extension}
use Rattle.extension_records.specs.steps.Views.{ex_content}
use Rattle.extension_records.proofs.Held.{held, held_same}
use Rattle.extension_records.proofs.ex_item.Goals as goal
use Rattle.extension_records.proofs.ex_item.Goals.{In-Antibot, In-AuthInit, In-AuthLogin, In-AuthLogout, In-Ddnetver, In-DdnetverOld, In-Joinver6, In-Joinver7, In-PlayerFinish, In-PlayerName, In-PlayerReady, In-PlayerRejoin, In-PlayerSwap, In-PlayerTeam, In-TeamFinish, In-TeamLoadFailure, In-TeamLoadSuccess, In-TeamPractice, In-TeamSaveFailure, In-TeamSaveSuccess}

at : (a : In-Antibot) {e : Extension} → a.args.which ≡ e
    → ex_content e (payload_at e) (held a.args.f)
    ≡ ex_content a.args.which (payload_at a.args.which) a.args.f
at a {e} q = ap (ex_content e (payload_at e)) (held_same a.args.f (search rules) (search rules)) ∙ rw q

pub returns-in-Antibot : goal.returns-in-Antibot
unfolding extension_row payload_at
returns-in-Antibot c =
    at c c.in-Antibot.is

at_2 : (a : In-AuthInit) {e : Extension} → a.args.which ≡ e
    → ex_content e (payload_at e) (held a.args.f)
    ≡ ex_content a.args.which (payload_at a.args.which) a.args.f
at_2 a {e} q = ap (ex_content e (payload_at e)) (held_same a.args.f (search rules) (search rules)) ∙ rw q

pub returns-in-AuthInit : goal.returns-in-AuthInit
unfolding extension_row payload_at
returns-in-AuthInit c =
    at_2 c c.in-AuthInit.is

at_3 : (a : In-AuthLogin) {e : Extension} → a.args.which ≡ e
    → ex_content e (payload_at e) (held a.args.f)
    ≡ ex_content a.args.which (payload_at a.args.which) a.args.f
at_3 a {e} q = ap (ex_content e (payload_at e)) (held_same a.args.f (search rules) (search rules)) ∙ rw q

pub returns-in-AuthLogin : goal.returns-in-AuthLogin
unfolding extension_row payload_at
returns-in-AuthLogin c =
    at_3 c c.in-AuthLogin.is

at_4 : (a : In-AuthLogout) {e : Extension} → a.args.which ≡ e
    → ex_content e (payload_at e) (held a.args.f)
    ≡ ex_content a.args.which (payload_at a.args.which) a.args.f
at_4 a {e} q = ap (ex_content e (payload_at e)) (held_same a.args.f (search rules) (search rules)) ∙ rw q

pub returns-in-AuthLogout : goal.returns-in-AuthLogout
unfolding extension_row payload_at
returns-in-AuthLogout c =
    at_4 c c.in-AuthLogout.is

at_5 : (a : In-Ddnetver) {e : Extension} → a.args.which ≡ e
    → ex_content e (payload_at e) (held a.args.f)
    ≡ ex_content a.args.which (payload_at a.args.which) a.args.f
at_5 a {e} q = ap (ex_content e (payload_at e)) (held_same a.args.f (search rules) (search rules)) ∙ rw q

pub returns-in-Ddnetver : goal.returns-in-Ddnetver
unfolding extension_row payload_at
returns-in-Ddnetver c =
    at_5 c c.in-Ddnetver.is

at_6 : (a : In-DdnetverOld) {e : Extension} → a.args.which ≡ e
    → ex_content e (payload_at e) (held a.args.f)
    ≡ ex_content a.args.which (payload_at a.args.which) a.args.f
at_6 a {e} q = ap (ex_content e (payload_at e)) (held_same a.args.f (search rules) (search rules)) ∙ rw q

pub returns-in-DdnetverOld : goal.returns-in-DdnetverOld
unfolding extension_row payload_at
returns-in-DdnetverOld c =
    at_6 c c.in-DdnetverOld.is

at_7 : (a : In-Joinver6) {e : Extension} → a.args.which ≡ e
    → ex_content e (payload_at e) (held a.args.f)
    ≡ ex_content a.args.which (payload_at a.args.which) a.args.f
at_7 a {e} q = ap (ex_content e (payload_at e)) (held_same a.args.f (search rules) (search rules)) ∙ rw q

pub returns-in-Joinver6 : goal.returns-in-Joinver6
unfolding extension_row payload_at
returns-in-Joinver6 c =
    at_7 c c.in-Joinver6.is

at_8 : (a : In-Joinver7) {e : Extension} → a.args.which ≡ e
    → ex_content e (payload_at e) (held a.args.f)
    ≡ ex_content a.args.which (payload_at a.args.which) a.args.f
at_8 a {e} q = ap (ex_content e (payload_at e)) (held_same a.args.f (search rules) (search rules)) ∙ rw q

pub returns-in-Joinver7 : goal.returns-in-Joinver7
unfolding extension_row payload_at
returns-in-Joinver7 c =
    at_8 c c.in-Joinver7.is

at_9 : (a : In-PlayerFinish) {e : Extension} → a.args.which ≡ e
    → ex_content e (payload_at e) (held a.args.f)
    ≡ ex_content a.args.which (payload_at a.args.which) a.args.f
at_9 a {e} q = ap (ex_content e (payload_at e)) (held_same a.args.f (search rules) (search rules)) ∙ rw q

pub returns-in-PlayerFinish : goal.returns-in-PlayerFinish
unfolding extension_row payload_at
returns-in-PlayerFinish c =
    at_9 c c.in-PlayerFinish.is

at_10 : (a : In-PlayerName) {e : Extension} → a.args.which ≡ e
    → ex_content e (payload_at e) (held a.args.f)
    ≡ ex_content a.args.which (payload_at a.args.which) a.args.f
at_10 a {e} q = ap (ex_content e (payload_at e)) (held_same a.args.f (search rules) (search rules)) ∙ rw q

pub returns-in-PlayerName : goal.returns-in-PlayerName
unfolding extension_row payload_at
returns-in-PlayerName c =
    at_10 c c.in-PlayerName.is

at_11 : (a : In-PlayerReady) {e : Extension} → a.args.which ≡ e
    → ex_content e (payload_at e) (held a.args.f)
    ≡ ex_content a.args.which (payload_at a.args.which) a.args.f
at_11 a {e} q = ap (ex_content e (payload_at e)) (held_same a.args.f (search rules) (search rules)) ∙ rw q

pub returns-in-PlayerReady : goal.returns-in-PlayerReady
unfolding extension_row payload_at
returns-in-PlayerReady c =
    at_11 c c.in-PlayerReady.is

at_12 : (a : In-PlayerRejoin) {e : Extension} → a.args.which ≡ e
    → ex_content e (payload_at e) (held a.args.f)
    ≡ ex_content a.args.which (payload_at a.args.which) a.args.f
at_12 a {e} q = ap (ex_content e (payload_at e)) (held_same a.args.f (search rules) (search rules)) ∙ rw q

pub returns-in-PlayerRejoin : goal.returns-in-PlayerRejoin
unfolding extension_row payload_at
returns-in-PlayerRejoin c =
    at_12 c c.in-PlayerRejoin.is

at_13 : (a : In-PlayerSwap) {e : Extension} → a.args.which ≡ e
    → ex_content e (payload_at e) (held a.args.f)
    ≡ ex_content a.args.which (payload_at a.args.which) a.args.f
at_13 a {e} q = ap (ex_content e (payload_at e)) (held_same a.args.f (search rules) (search rules)) ∙ rw q

pub returns-in-PlayerSwap : goal.returns-in-PlayerSwap
unfolding extension_row payload_at
returns-in-PlayerSwap c =
    at_13 c c.in-PlayerSwap.is

at_14 : (a : In-PlayerTeam) {e : Extension} → a.args.which ≡ e
    → ex_content e (payload_at e) (held a.args.f)
    ≡ ex_content a.args.which (payload_at a.args.which) a.args.f
at_14 a {e} q = ap (ex_content e (payload_at e)) (held_same a.args.f (search rules) (search rules)) ∙ rw q

pub returns-in-PlayerTeam : goal.returns-in-PlayerTeam
unfolding extension_row payload_at
returns-in-PlayerTeam c =
    at_14 c c.in-PlayerTeam.is

at_15 : (a : In-TeamFinish) {e : Extension} → a.args.which ≡ e
    → ex_content e (payload_at e) (held a.args.f)
    ≡ ex_content a.args.which (payload_at a.args.which) a.args.f
at_15 a {e} q = ap (ex_content e (payload_at e)) (held_same a.args.f (search rules) (search rules)) ∙ rw q

pub returns-in-TeamFinish : goal.returns-in-TeamFinish
unfolding extension_row payload_at
returns-in-TeamFinish c =
    at_15 c c.in-TeamFinish.is

at_16 : (a : In-TeamLoadFailure) {e : Extension} → a.args.which ≡ e
    → ex_content e (payload_at e) (held a.args.f)
    ≡ ex_content a.args.which (payload_at a.args.which) a.args.f
at_16 a {e} q = ap (ex_content e (payload_at e)) (held_same a.args.f (search rules) (search rules)) ∙ rw q

pub returns-in-TeamLoadFailure : goal.returns-in-TeamLoadFailure
unfolding extension_row payload_at
returns-in-TeamLoadFailure c =
    at_16 c c.in-TeamLoadFailure.is

at_17 : (a : In-TeamLoadSuccess) {e : Extension} → a.args.which ≡ e
    → ex_content e (payload_at e) (held a.args.f)
    ≡ ex_content a.args.which (payload_at a.args.which) a.args.f
at_17 a {e} q = ap (ex_content e (payload_at e)) (held_same a.args.f (search rules) (search rules)) ∙ rw q

pub returns-in-TeamLoadSuccess : goal.returns-in-TeamLoadSuccess
unfolding extension_row payload_at
returns-in-TeamLoadSuccess c =
    at_17 c c.in-TeamLoadSuccess.is

at_18 : (a : In-TeamPractice) {e : Extension} → a.args.which ≡ e
    → ex_content e (payload_at e) (held a.args.f)
    ≡ ex_content a.args.which (payload_at a.args.which) a.args.f
at_18 a {e} q = ap (ex_content e (payload_at e)) (held_same a.args.f (search rules) (search rules)) ∙ rw q

pub returns-in-TeamPractice : goal.returns-in-TeamPractice
unfolding extension_row payload_at
returns-in-TeamPractice c =
    at_18 c c.in-TeamPractice.is

at_19 : (a : In-TeamSaveFailure) {e : Extension} → a.args.which ≡ e
    → ex_content e (payload_at e) (held a.args.f)
    ≡ ex_content a.args.which (payload_at a.args.which) a.args.f
at_19 a {e} q = ap (ex_content e (payload_at e)) (held_same a.args.f (search rules) (search rules)) ∙ rw q

pub returns-in-TeamSaveFailure : goal.returns-in-TeamSaveFailure
unfolding extension_row payload_at
returns-in-TeamSaveFailure c =
    at_19 c c.in-TeamSaveFailure.is

at_20 : (a : In-TeamSaveSuccess) {e : Extension} → a.args.which ≡ e
    → ex_content e (payload_at e) (held a.args.f)
    ≡ ex_content a.args.which (payload_at a.args.which) a.args.f
at_20 a {e} q = ap (ex_content e (payload_at e)) (held_same a.args.f (search rules) (search rules)) ∙ rw q

pub returns-in-TeamSaveSuccess : goal.returns-in-TeamSaveSuccess
unfolding extension_row payload_at
returns-in-TeamSaveSuccess c =
    at_20 c c.in-TeamSaveSuccess.is
