use Rattle.std.proofs.Common.{◌≡◌, map, take}
use Rattle.type_definitions.specs.ProfiledImage.{number_in}
use Rattle.type_definitions.proofs.operation_images.numbers_at.Given as goal

abbrev pub invariant-loop-number : goal.invariant-loop-number
invariant-loop-number l = l.made.items ≡ map (number_in l.numbers) (take l.number-index l.old)
