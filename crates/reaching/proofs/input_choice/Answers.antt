-- `reaching::input_choice` meets its contract. Assumes nothing.
use Rattle.reaching.proofs.input_choice.Goals as goal

pub returns : goal.returns
returns c marks xs ys wmarks wxs wys =
    rw (c.held_at.ensures marks xs ys, c.held_at-2.ensures wmarks wxs wys) at c.input_step.ensures
