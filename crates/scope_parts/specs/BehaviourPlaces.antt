-- The places of behaviours, and that their parts follow one another as they do in a text.
use Rattle.std.specs.Prelude.{List, [], ◌∷◌, ◌++◌, Option, None, Some}
use Rattle.lotos_base.specs.Equation.{Place}
use Rattle.syntax_trees.specs.WrittenEquation.{WrittenPremiss}
use Rattle.syntax_trees.specs.WrittenBehaviour.{WrittenBehaviour, stop, exit, call, action, inner_action, guard, hide, let_be, choose_value, choose_gate, par_gate, binary}
use Rattle.scope_parts.specs.Order.{InTurn, Rising, joined_places}
use Rattle.scope_parts.specs.TermPlaces.{name_places, premiss_places}
use Rattle.scope_parts.specs.PartPlaces.{variable_places, VariablesFollow, exit_places, value_places, let_places, LetFollows, offers_places, OffersFollowOn, choice_places, ChoicesFollow, sign_places, SignFollows}

abbrev pub test_places : Option WrittenPremiss → List Place
test_places None = []
test_places (Some premiss) = premiss_places premiss

-- the places at which something may be wrong
abbrev pub behaviour_places : WrittenBehaviour → List Place
behaviour_places (stop place) = []
behaviour_places (exit place values) = joined_places (exit_places values)
behaviour_places (call place name gates values) = place ∷ (name_places gates ++ joined_places (value_places values))
behaviour_places (action place gate offers test next) =
    place ∷ (offers_places offers ++ (test_places test ++ behaviour_places next))
behaviour_places (inner_action place next) = behaviour_places next
behaviour_places (guard place test next) = premiss_places test ++ behaviour_places next
behaviour_places (hide place gates inside) = behaviour_places inside
behaviour_places (let_be place values inside) = let_places values ++ behaviour_places inside
behaviour_places (choose_value place variables inside) = variable_places variables ++ behaviour_places inside
behaviour_places (choose_gate place gates inside) = choice_places gates ++ behaviour_places inside
behaviour_places (par_gate place gates sign inside) = (choice_places gates ++ sign_places sign) ++ behaviour_places inside
behaviour_places (binary place sign left right) = behaviour_places left ++ (sign_places sign ++ behaviour_places right)

-- The parts follow one another: each stands wholly before the next, but for what several names share.
abbrev pub Follows : WrittenBehaviour → Type 0
Follows (stop place) = Unit {0}
Follows (exit place values) = InTurn (exit_places values)
Follows (call place name gates values) =
    InTurn ((place ∷ []) ∷ name_places gates ∷ joined_places (value_places values) ∷ []) × Rising (name_places gates)
    × InTurn (value_places values)
Follows (action place gate offers test next) =
    InTurn ((place ∷ []) ∷ offers_places offers ∷ test_places test ∷ behaviour_places next ∷ [])
    × OffersFollowOn offers × Follows next
Follows (inner_action place next) = Follows next
Follows (guard place test next) = InTurn (premiss_places test ∷ behaviour_places next ∷ []) × Follows next
Follows (hide place gates inside) = Follows inside
Follows (let_be place values inside) = InTurn (let_places values ∷ behaviour_places inside ∷ []) × LetFollows values × Follows inside
Follows (choose_value place variables inside) =
    InTurn (variable_places variables ∷ behaviour_places inside ∷ []) × VariablesFollow variables × Follows inside
Follows (choose_gate place gates inside) =
    InTurn (choice_places gates ∷ behaviour_places inside ∷ []) × ChoicesFollow gates × Follows inside
Follows (par_gate place gates sign inside) =
    InTurn (choice_places gates ∷ sign_places sign ∷ behaviour_places inside ∷ []) × ChoicesFollow gates × SignFollows sign × Follows inside
Follows (binary place sign left right) =
    InTurn (behaviour_places left ∷ sign_places sign ∷ behaviour_places right ∷ []) × SignFollows sign × Follows left × Follows right
