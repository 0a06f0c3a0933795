-- The events of a body and how its reading ends, as a list: what the printer that only tells prints; proofs/Telling.antt proves the statements.
use Rattle.std.specs.Prelude.{ℕ, ◌≡◌, Bool, List, [], ◌∷◌, ◌++◌, map, length, ℤ}
use Rattle.kinds.specs.declared.Version.{Version}
use Rattle.state.specs.Reading.{Event}
use Rattle.calls.specs.Calls.{Seen}
use Rattle.calls.specs.Along.{Run}
use Rattle.windows.specs.Windows.{Last, Printer, ending_by, run_by, printed_of}

pub data Heard : Type 0 where
  an_event : Event → Heard
  the_end : Last → Heard

abbrev pub telling : Printer Heard
telling = record { line = λ (e : Event) (ten : List ℤ). an_event e ∷ []; last = λ (l : Last). the_end l ∷ [] }

abbrev pub events_told : List Seen → List Heard
events_told xs = map (λ (x : Seen). an_event x.event) xs

-- of a run: its events, and then how it ends, if it does
abbrev pub RunTold : Type 0
RunTold =
    (short : Bool) (run : Run)
    → run_by telling short run ≡ events_told run.seen ++ ending_by telling short run.halt (length run.seen)

-- of a body: some events, and then one end
pub record ToldWhole (xs : List Heard) : Type 0 where
  pub events : List Event
  pub last : Last
  pub same : xs ≡ map an_event events ++ the_end last ∷ []

abbrev pub BodyTold : Type 0
BodyTold = (v : Version) (body : List ℕ) → ToldWhole (printed_of telling v body)
