-- The bytes at hand in a lent buffer. What a read puts into the buffer stands behind those that are kept.
use Rattle.std.specs.Prelude.{ℕ, ◌+◌, ◌-◌, min, false, List, ◌++◌, eqb, length, drop}
use Rattle.std.proofs.Math.Seq.{slice}
use Rattle.feed.specs.declared.Hand.{Hand}

-- nothing yet
abbrev pub empty_hand : Hand
empty_hand = record { at = 0; end = 0; ended = false }

-- those from a place to an end that are not used
abbrev pub unread : Hand → List ℕ → List ℕ
unread h buf = slice h.at h.end buf

-- they stand in front of the buffer, and the rest of it stays
abbrev pub kept : List ℕ → List ℕ → List ℕ
kept bytes buf = bytes ++ drop (length bytes) buf

-- after so many were used: the place is as far from the end as there are bytes left
abbrev pub passed : Hand → ℕ → Hand
passed h used = record { at = h.end - (h.end - h.at - used); end = h.end; ended = h.ended }

-- after a read that put so many behind the first n of a buffer of a length
abbrev pub grown : ℕ → ℕ → ℕ → Hand
grown len n got = record { at = 0; end = min n len + min got (len - n); ended = eqb got 0 }
