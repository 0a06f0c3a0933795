-- `replay::text_space` meets its contract. Assumes nothing.
use Rattle.std.proofs.Common.{ℕ, sym}
use Rattle.std.proofs.lemmas.List.{length-replicate}
use Rattle.replay.proofs.text_space.Goals as goal

pub returns : goal.returns
returns c = sym (length-replicate {A = ℕ} 565524 0)
