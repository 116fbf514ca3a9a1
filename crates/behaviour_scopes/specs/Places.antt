-- The places that stay on a behaviour once its names are resolved: those of its signs and of the names of its calls.
use Rattle.std.specs.Prelude.{List, [], ◌∷◌, ◌++◌}
use Rattle.lotos_base.specs.Equation.{Place}
use Rattle.syntax_trees.specs.WrittenBehaviour.{WrittenBehaviour, stop, exit, call, action, inner_action, guard, hide, let_be, choose_value, choose_gate, par_gate, binary}

-- in the order of the text
abbrev pub places_written : WrittenBehaviour → List Place
places_written (stop place) = []
places_written (exit place values) = []
places_written (call place name gates values) = place ∷ []
places_written (action place gate offers test next) = places_written next
places_written (inner_action place next) = places_written next
places_written (guard place test next) = places_written next
places_written (hide place gates inside) = places_written inside
places_written (let_be place values inside) = places_written inside
places_written (choose_value place variables inside) = places_written inside
places_written (choose_gate place gates inside) = places_written inside
places_written (par_gate place gates sign inside) = places_written inside
places_written (binary place sign left right) = places_written left ++ place ∷ places_written right
