-- The behaviours that the code's behaviours stand for. Places are left out.
use Rattle.std.specs.Prelude.{List, map, option_map}
use Rattle.behaviour_semantics.specs.Behaviour as plain
use Rattle.behaviour_semantics.specs.Behaviour.{Behaviour}
use Rattle.lotos_base.specs.Equation as equation
use Rattle.lotos_base.specs.Term as term
use Rattle.sort_terms.specs.EquationView.{variable_of}
use Rattle.sort_terms.specs.SortedView.{term_in}
use Rattle.sort_terms.specs.declared.equations.Variable.{Variable}
use Rattle.sort_terms.specs.declared.sorted.Sorted.{Sorted}
use Rattle.behaviour_tree.specs.declared.behaviours.Meet.{Meet}
use Rattle.behaviour_tree.specs.declared.behaviours.Meet.TheVariants.{Nothing, Everything, Gates}
use Rattle.behaviour_tree.specs.declared.behaviours.Test.{Test}
use Rattle.behaviour_tree.specs.declared.behaviours.Offer.{Offer}
use Rattle.behaviour_tree.specs.declared.behaviours.Offer.TheVariants as offer
use Rattle.behaviour_tree.specs.declared.behaviours.ExitValue.{ExitValue}
use Rattle.behaviour_tree.specs.declared.behaviours.ExitValue.TheVariants as exit_value
use Rattle.behaviour_tree.specs.declared.behaviours.Beh.{Beh, Stop, Exit, Action', Inner', Guard', Choice', Parallel', Hide', Enable', Disable', Let', ChooseValue', ChooseGate', ParGate', Call}

-- the gates at which the sides of a parallel synchronise
abbrev pub meet_of : Meet → plain.SynchronisationSet
meet_of Nothing = plain.no_gates
meet_of Everything = plain.all_gates
meet_of (Gates gates) = plain.at_gates gates.items

-- a premiss
abbrev pub test_of : Test → plain.Test
test_of test = record { left = term_in test.left; right = term_in test.right }

-- what an action offers
abbrev pub offer_of : Offer → plain.Offer
offer_of (offer.Give t) = plain.give (term_in t)
offer_of (offer.Ask x) = plain.ask (variable_of x)

-- a value of `exit`
abbrev pub exit_value_of : ExitValue → plain.ExitValue
exit_value_of (exit_value.Give t) = plain.exit_value (term_in t)
exit_value_of (exit_value.Any s) = plain.any_of s

-- variables, and the terms that a list holds
abbrev pub variables_of : List Variable → List equation.Variable
variables_of variables = map variable_of variables

abbrev pub terms_of : List Sorted → List term.Term
terms_of terms = map term_in terms

-- a variable with the term that `let` gives it
abbrev pub let_of : Variable × Sorted → equation.Variable × term.Term
let_of pair = (variable_of pair.0, term_in pair.1)

-- the behaviour
abbrev pub behaviour_of : Beh → Behaviour
behaviour_of Stop = plain.stop
behaviour_of (Exit values) = plain.exit_with (map exit_value_of values.items)
behaviour_of (Action' gate offers test _ next) = plain.action gate (map offer_of offers.items) (option_map test_of test) (behaviour_of next)
behaviour_of (Inner' _ next) = plain.inner_action (behaviour_of next)
behaviour_of (Guard' test _ next) = plain.guard (test_of test) (behaviour_of next)
behaviour_of (Choice' _ _ left _ right) = plain.choice (behaviour_of left) (behaviour_of right)
behaviour_of (Parallel' _ meet _ left _ right) = plain.parallel (meet_of meet) (behaviour_of left) (behaviour_of right)
behaviour_of (Hide' gates _ next) = plain.hide gates.items (behaviour_of next)
behaviour_of (Enable' _ _ left variables _ right) = plain.enable (behaviour_of left) (variables_of variables.items) (behaviour_of right)
behaviour_of (Disable' _ _ left _ right) = plain.disable (behaviour_of left) (behaviour_of right)
behaviour_of (Let' bindings _ next) = plain.let_be (map let_of bindings.items) (behaviour_of next)
behaviour_of (ChooseValue' variable _ next) = plain.choose_value (variable_of variable) (behaviour_of next)
behaviour_of (ChooseGate' gate gates _ next) = plain.choose_gate gate gates.items (behaviour_of next)
behaviour_of (ParGate' gate gates meet _ next) = plain.par_gate gate gates.items (meet_of meet) (behaviour_of next)
behaviour_of (Call _ process gates values) = plain.call process gates.items (terms_of values.items)
