-- What a start hands out beside a reel.
use Rattle.std.specs.Prelude.{◌≡◌, false}
use Rattle.refusal.specs.Numbers.{number_of}
use Rattle.refusal.specs.declared.Refusal.{Refusal}
use Rattle.rewinding.specs.Rewinding.{blank_board}
use Rattle.going.specs.declared.Start.{Start}
use Rattle.rewind_linked.specs.UnderWay.{start_number}
use Rattle.rewind_linked.specs.declared.Begun.{Begun}

pub record Begins (s : Start) (r : Begun) : Type 0 where
  pub number : r.number ≡ start_number s.answer
  pub board : r.board ≡ s.rewind.board
  pub newer : r.newer ≡ s.rewind.progress.newer
  pub fits : false ≡ s.rewind.progress.misfit

abbrev pub no_begin : Refusal → Begun
no_begin r = record { number = number_of r; board = blank_board; newer = 0 }
