use Rattle.std.proofs.Common.{◌≡◌, ◌++◌, map, drop}
use Rattle.sort_terms.specs.EquationView.{variable_of}
use Rattle.type_definitions.specs.Images.{variable_image}
use Rattle.type_definitions.specs.ProfiledImage.{number_in}
use Rattle.type_definitions.proofs.equation_images.images_of_variables.Given as goal

abbrev pub invariant-loop-variable : goal.invariant-loop-variable
invariant-loop-variable l =
    map variable_of l.made.items ++ map (variable_image (number_in l.sorts)) (map variable_of (drop l.variable-index l.variables))
    ≡ map (variable_image (number_in l.sorts)) (map variable_of l.variables)
