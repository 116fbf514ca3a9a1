-- Where the nodes of a tree stand: a binary behaviour at its sign, every other form at its first token, a term at the
-- name of its operation or variable.
use Rattle.lotos_base.specs.Equation.{Place}
use Rattle.lotos_base.specs.WrittenTerm.{WrittenTerm, written_head}
use Rattle.syntax_trees.specs.WrittenBehaviour.{WrittenBehaviour, stop, exit, call, action, inner_action, guard, hide, let_be, choose_value, choose_gate, par_gate, binary}

abbrev pub place_of_term : WrittenTerm → Place
place_of_term term = (written_head term).place

abbrev pub place_of_behaviour : WrittenBehaviour → Place
place_of_behaviour (stop place) = place
place_of_behaviour (exit place values) = place
place_of_behaviour (call place name gates values) = place
place_of_behaviour (action place gate offers test next) = place
place_of_behaviour (inner_action place next) = place
place_of_behaviour (guard place test next) = place
place_of_behaviour (hide place gates inside) = place
place_of_behaviour (let_be place values inside) = place
place_of_behaviour (choose_value place variables inside) = place
place_of_behaviour (choose_gate place gates inside) = place
place_of_behaviour (par_gate place gates sign inside) = place
place_of_behaviour (binary place sign left right) = place
