-- An empty reader wanted in a version. docs/FORMAT.md, "What a call may say" (2) and "Ticks and the board".
use Rattle.std.specs.Prelude.{◌≡◌, ℤ, Result, Ok, Err}
use Rattle.refusal.specs.declared.Refusal.{Refusal}
use Rattle.refusal.specs.Said.{Said, gives, more, finish, refuses, refusing}
use Rattle.kinds.specs.Magic.{version_of}
use Rattle.kinds.specs.declared.Version.{Version}
use Rattle.state.specs.State.{empty_reader}
use Rattle.state.specs.declared.Reader.{Reader}

-- of versions 1 and 2; another is refusal 2
abbrev pub empty_of : Said Version → Said Reader
empty_of (gives v used) = gives (empty_reader v) used
empty_of more = more
empty_of (finish used) = finish used
empty_of (refuses n vs) = refuses n vs

abbrev pub wanted_said : Result Reader Refusal → Said Reader
wanted_said (Ok r) = gives r 0
wanted_said (Err why) = refusing why

abbrev pub WantedIs : ℤ → Result Reader Refusal → Type 0
WantedIs z r = wanted_said r ≡ empty_of (version_of z)
