-- What the parts of a behaviour are with terms put for their variables.
use Rattle.std.specs.Prelude.{ℕ}
use Rattle.lotos_base.specs.Equation as equation
use Rattle.lotos_base.specs.Term.{Term}
use Rattle.lotos_base.specs.Substitution.{Substitution, substituted}
use Rattle.behaviour_semantics.specs.Behaviour as plain
use Rattle.behaviour_semantics.specs.Replacement.{exit_value_with, offer_with}
use Rattle.sort_terms.specs.EquationView.{variable_of}
use Rattle.sort_terms.specs.SortedView.{term_in}
use Rattle.sort_terms.specs.declared.equations.Variable.{Variable}
use Rattle.sort_terms.specs.declared.sorted.Sorted.{Sorted}
use Rattle.behaviour_tree.specs.BehaviourView.{exit_value_of, let_of, offer_of}
use Rattle.behaviour_tree.specs.declared.behaviours.ExitValue.{ExitValue}
use Rattle.behaviour_tree.specs.declared.behaviours.Offer.{Offer}

-- a gate, a term, a variable, a variable with the term of a `let`, an offer, a value of `exit`
abbrev pub gate_placed : Substitution → ℕ → ℕ
gate_placed values g = g

abbrev pub term_placed : Substitution → Sorted → Term
term_placed values t = substituted values (term_in t)

abbrev pub variable_placed : Substitution → Variable → equation.Variable
variable_placed values x = variable_of x

abbrev pub bound_with : Substitution → equation.Variable × Term → equation.Variable × Term
bound_with values bound = (bound.0, substituted values bound.1)

abbrev pub binding_placed : Substitution → Variable × Sorted → equation.Variable × Term
binding_placed values binding = bound_with values (let_of binding)

abbrev pub offer_placed : Substitution → Offer → plain.Offer
offer_placed values offer = offer_with values (offer_of offer)

abbrev pub result_placed : Substitution → ExitValue → plain.ExitValue
result_placed values result = exit_value_with values (exit_value_of result)
