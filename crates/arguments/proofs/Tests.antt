-- A test, by the value that it tests. Assumes nothing.
use mathlib.Core.Path.{◌≡◌, sym, ◌∙◌}
use mathlib.Core.Bool.{Bool, true, false}

pub off : (b x : Bool) → b ≡ x → b ≡ false → x ≡ false
off b x e h = sym e ∙ h

pub on : (b x : Bool) → b ≡ x → b ≡ true → x ≡ true
on b x e h = sym e ∙ h
