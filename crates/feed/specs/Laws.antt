-- What holds of the bytes at hand, as statements; proofs/Fed.antt proves each.
use Rattle.std.specs.Prelude.{ℕ, ◌≡◌, List, ◌++◌, length, drop}
use Rattle.feed.specs.Feed.{unread, passed, grown}
use Rattle.feed.specs.declared.Hand.{Hand}

-- what was used is gone from the front
abbrev pub Passes : Type 0
Passes = (h : Hand) (used : ℕ) (buf : List ℕ) → unread (passed h used) buf ≡ drop used (unread h buf)

-- what a read put behind the bytes that were kept is at hand behind them
abbrev pub Grows : Type 0
Grows =
    (bytes got rest : List ℕ) → let buf = bytes ++ (got ++ rest) in
    unread (grown (length buf) (length bytes) (length got)) buf ≡ bytes ++ got
