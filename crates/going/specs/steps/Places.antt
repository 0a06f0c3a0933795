-- The places of a reel, and what is left after rows were stepped over.
use Rattle.std.specs.Prelude.{ℕ, zero, suc, ◌-◌, Bool, true, cond, eqb, Option, ℤ}
use Rattle.refusal.specs.declared.Refusal.TheVariants.{NotLast}
use Rattle.reel.specs.Reel.{place_before, counts_of, reel_of}
use Rattle.reel.specs.declared.Counts.{Counts}
use Rattle.rewinding.specs.Walk.{Walked}
use Rattle.going.specs.Going.{progress_of}
use Rattle.going.specs.Lent.{go_is}
use Rattle.going.specs.declared.Rewind.{Rewind}
use Rattle.going.specs.declared.Go.{Go}
use Rattle.going.specs.declared.Progress.{Progress}
use Rattle.going.specs.declared.GoAnswer.TheVariants as answers
use Rattle.going.specs.declared.LentGo.{LentGo}

-- n places before a place
unfoldable pub places_before : ℕ → ℕ → ℕ
places_before zero p = p
places_before (suc n) p = places_before n (place_before p)

-- what is left after k rows were stepped over: whether the next fitted, the board's tick, and the place before which the others stand
abbrev pub lent_of : Bool → Option ℤ → ℕ → ℕ → Counts → Progress → LentGo
lent_of fits t p k counts w =
    let left = counts_of p (counts.count - k) in
    let newer = w.newer - k in
    cond fits
    (record { answer = cond (eqb newer 0) answers.Ended answers.Going; tick = t; counts = left; progress = progress_of w.tick newer w.misfit })
    (record { answer = answers.Refused NotLast; tick = t; counts = left; progress = progress_of w.tick newer true })

-- the same of a walk over its own reel
abbrev pub gone_from : Rewind → Walked → Go
gone_from w x =
    let b = x.taken.board in
    let r = lent_of x.taken.fits b.board.tick x.place x.over w.reel.counts w.progress in
    go_is r b.board.entries b.teams (reel_of r.counts w.reel.rows w.reel.inputs w.reel.formers)
