-- A record has its client also without what stands beside it. Assumes nothing.
use mathlib.Core.Path.{◌≡◌}
use Rattle.packer.specs.declared.Part.{Part}
use Rattle.item.specs.Records.{Content}
use Rattle.item.specs.Contents.{cid_of}
use Rattle.item.specs.Own.{own_content}
use Rattle.rests.proofs.Others as others

pub cid_own : (c : Content Part) → cid_of (own_content c) ≡ cid_of c
cid_own = others.cid_own
