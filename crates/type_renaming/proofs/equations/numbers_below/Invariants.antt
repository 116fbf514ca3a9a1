use Rattle.std.proofs.Common.{◌≡◌, ◌<◌, ℕ, length}
use Rattle.type_definitions.specs.ProfiledImage.{number_in}
use Rattle.type_renaming.proofs.equations.numbers_below.Given as goal

abbrev pub invariant-loop-number : goal.invariant-loop-number
invariant-loop-number l = (length l.made.items ≡ l.number) × ((n : ℕ) → n < l.number → number_in l.made.items n ≡ n)
