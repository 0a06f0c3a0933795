-- What the functions inside hand over.
use Rattle.std.specs.Prelude.{ℕ, ◌≡◌, Bool, true, false, cond, ℤ}
use Rattle.refusal.specs.Numbers.{number_of, values_of}
use Rattle.refusal.specs.declared.Refusal.{Refusal}
use Rattle.refusal.specs.declared.Refusal.TheVariants.{BadState}
use Rattle.state.specs.State.{reader_with}
use Rattle.state.specs.Reading.{Event}
use Rattle.state.specs.declared.Entries.{Entries}
use Rattle.state.specs.declared.Scalars.{Scalars}
use Rattle.state.specs.declared.Reader.{Reader}
use Rattle.calls.specs.Along.{is_refused}
use Rattle.results.specs.Results.{finish_of, keep, fits}
use Rattle.results.specs.declared.Results.{Results}
use Rattle.listing.specs.Listing.{ListRun, halt_of}
use Rattle.listing.specs.declared.CallsRead.{CallsRead}
use Rattle.listing.specs.declared.End.{End}
use Rattle.listing.specs.declared.Kept.{Kept}

-- an event beside a list, in tick k: whether the count could rise, and the list, where it could
pub record KeepsEvent (l : Results) (k : ℤ) (e : Event) (r : Kept) (l₁ : Results) : Type 0 where
  pub fits : r.fits ≡ fits (keep l (finish_of k e))
  pub list : r.fits ≡ true → l₁ ≡ keep l (finish_of k e)

abbrev pub calls_read : Bool → End → Bool → ℕ → ℕ → Scalars → CallsRead
calls_read fits end gave used others s =
    record { fits = fits; end = end; gave = gave; used = used; others = others; scalars = s }

-- a refusal that changes nothing
abbrev pub unchanged : Refusal → Results → Reader → ListRun
unchanged why l r =
    record { halt = is_refused (number_of why) (values_of why); gave = false; used = 0; list = l; reader = r }

-- calls on lent memory beside a lent list, which are l and e after them
abbrev pub calls_leave : CallsRead → Results → Entries → ListRun
calls_leave c l e =
    record { halt = halt_of c.end; gave = c.gave; used = c.used; list = l; reader = reader_with c.scalars e }

-- where the count could not rise nothing of it counts
abbrev pub said_calls : Results → Reader → CallsRead → Results → Entries → ListRun
said_calls l r c l₁ e₁ = cond c.fits (calls_leave c l₁ e₁) (unchanged BadState l r)
