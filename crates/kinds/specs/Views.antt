-- What the calls of this crate and of `ids` hand back, as the definitions say it.
use Rattle.std.specs.Prelude.{Result, Ok, Err, ℕ}
use Rattle.refusal.specs.declared.Refusal.{Refusal}
use Rattle.refusal.specs.Said.{Said, gives, refusing}
use Rattle.kinds.specs.declared.Version.{Version}

abbrev pub version_is : Result Version Refusal → Said Version
version_is (Ok v) = gives v 0
version_is (Err r) = refusing r

abbrev pub magic_is : Result ℕ Refusal → Said Unit
magic_is (Ok n) = gives tt n
magic_is (Err r) = refusing r
