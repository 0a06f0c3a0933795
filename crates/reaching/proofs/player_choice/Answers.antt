-- `reaching::player_choice` meets its contract. Assumes nothing.
use borrow.Author.Tests.{lt-ltb}
use Rattle.reaching.proofs.player_choice.Goals as goal

pub returns : goal.returns
returns c held inputs wheld winputs =
    let st = c in
    let b = lt-ltb st.args.c 128 st.requires in
    rw (c.player_at.ensures held inputs, c.player_at-2.ensures wheld winputs, b) at c.player_step.ensures
