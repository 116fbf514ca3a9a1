-- Operations with small numbers.
use Rattle.std.specs.Prelude.{◌<◌, ℕ}
use Rattle.lotos_base.specs.Term.{Term, variable, node}

-- The operation at the head of the term, if the term is no variable, has a number below this one.
abbrev pub IsHeadBelow : ℕ → Term → Type 0
IsHeadBelow count (variable n s) = Unit {0}
IsHeadBelow count (node f ts) = f < count
