-- The finish that the code tells of, and a finish of a client that is listed.
use Rattle.std.specs.Prelude.{ℕ, ◌≡◌, List, [], ◌∷◌, ℤ, pos, Option, Some, None}
use Rattle.packer.specs.declared.Part.{Part}
use Rattle.item.specs.Records.{Content}
use Rattle.state.specs.Reading.{Event}
use Rattle.results.specs.Results.{Finish, finish, finish_in, finish_of, results_with, keep_at}
use Rattle.results.specs.declared.PlayerFinish.{PlayerFinish}

-- in tick k
abbrev pub finish_is : ℤ → Option PlayerFinish → List Finish
finish_is k (Some f) = finish f.cid f.time k ∷ []
finish_is k None = []

-- whatever tick is open
abbrev pub FinishInRecord : Content Part → Option PlayerFinish → Type 0
FinishInRecord r f = (k : ℤ) → finish_is k f ≡ finish_in k r

abbrev pub FinishOfEvent : Event → Option PlayerFinish → Type 0
FinishOfEvent e f = (k : ℤ) → finish_is k f ≡ finish_of k e

-- whatever the count is
abbrev pub KeepsRow : ℕ → ℤ → ℤ → List ℕ → List ℤ → List ℤ → List ℕ → List ℤ → List ℤ → Type 0
KeepsRow c time tick marks times ticks marks₁ times₁ ticks₁ =
    (n : ℕ) → results_with marks₁ times₁ ticks₁ n ≡ keep_at (results_with marks times ticks n) (pos c) (finish (pos c) time tick)
