-- The terms of an instance of a behaviour, with their profiles.
use Rattle.std.specs.Prelude.{List, [], ◌∷◌, ◌++◌, map, Option}
use Rattle.lotos_base.specs.Term.{Term}
use Rattle.lotos_base.specs.Equation as equation
use Rattle.lotos_base.specs.Substitution.{Substitution, substituted}
use Rattle.behaviour_semantics.specs.Behaviour.{asked_variables, let_variables, numbers_of}
use Rattle.sort_terms.specs.ProfiledTerm.{ProfiledTerm}
use Rattle.sort_terms.specs.declared.equations.Variable.{Variable}
use Rattle.sort_terms.specs.declared.sorted.Sorted.{Sorted}
use Rattle.term_match.specs.ProfiledInstance.{ProfiledSubstitution, profiled_instance}
use Rattle.behaviour_tree.specs.BehaviourTerms.{joined, exit_profiles, let_profile, offer_profiles, option_profiles, profiles_of, test_profiles}
use Rattle.behaviour_tree.specs.BehaviourView.{let_of, offer_of, variables_of}
use Rattle.behaviour_tree.specs.declared.behaviours.Offer.{Offer}
use Rattle.behaviour_tree.specs.declared.behaviours.Test.{Test}
use Rattle.behaviour_tree.specs.declared.behaviours.ExitValue.{ExitValue}
use Rattle.behaviour_tree.specs.declared.behaviours.Beh.{Beh, Stop, Exit, Action', Inner', Guard', Choice', Parallel', Hide', Enable', Disable', Let', ChooseValue', ChooseGate', ParGate', Call}
use Rattle.behaviour_instances.specs.Unlisted.{profiled_without}

-- a variable of `let` with its term, in which terms are put
abbrev pub let_pair_placed : Substitution → equation.Variable × Term → equation.Variable × Term
let_pair_placed values bound = (bound.0, substituted values bound.1)

-- terms with terms put in
abbrev pub terms_placed : ProfiledSubstitution → List ProfiledTerm → List ProfiledTerm
terms_placed values terms = map (profiled_instance values) terms

-- those of an offer, of a value of `exit`, and of a variable of `let`
abbrev pub offer_terms_placed : ProfiledSubstitution → Offer → List ProfiledTerm
offer_terms_placed values offer = terms_placed values (offer_profiles offer)

abbrev pub exit_placed : ProfiledSubstitution → ExitValue → List ProfiledTerm
exit_placed values value = terms_placed values (exit_profiles value)

abbrev pub let_placed : ProfiledSubstitution → Variable × Sorted → ProfiledTerm
let_placed values pair = profiled_instance values (let_profile pair)

-- those of a behaviour; a binder leaves its own variables
abbrev pub instance_profiles : ProfiledSubstitution → Beh → List ProfiledTerm
instance_profiles values Stop = []
instance_profiles values (Exit results) = joined (map (exit_placed values) results.items)
instance_profiles values (Action' _ offers test _ next) =
    joined (map (offer_terms_placed values) offers.items)
    ++ terms_placed (profiled_without (numbers_of (asked_variables (map offer_of offers.items))) values) (option_profiles test)
    ++ instance_profiles (profiled_without (numbers_of (asked_variables (map offer_of offers.items))) values) next
instance_profiles values (Inner' _ next) = instance_profiles values next
instance_profiles values (Guard' test _ next) = terms_placed values (test_profiles test) ++ instance_profiles values next
instance_profiles values (Choice' _ _ left _ right) = instance_profiles values left ++ instance_profiles values right
instance_profiles values (Parallel' _ _ _ left _ right) = instance_profiles values left ++ instance_profiles values right
instance_profiles values (Hide' _ _ next) = instance_profiles values next
instance_profiles values (Enable' _ _ left variables _ right) =
    instance_profiles values left ++ instance_profiles (profiled_without (numbers_of (variables_of variables.items)) values) right
instance_profiles values (Disable' _ _ left _ right) = instance_profiles values left ++ instance_profiles values right
instance_profiles values (Let' bindings _ next) =
    map (let_placed values) bindings.items
    ++ instance_profiles (profiled_without (numbers_of (let_variables (map let_of bindings.items))) values) next
instance_profiles values (ChooseValue' variable _ next) = instance_profiles (profiled_without (variable.number ∷ []) values) next
instance_profiles values (ChooseGate' _ _ _ next) = instance_profiles values next
instance_profiles values (ParGate' _ _ _ _ next) = instance_profiles values next
instance_profiles values (Call _ _ _ arguments) = terms_placed values (profiles_of arguments.items)

-- those of an action
abbrev pub action_profiles : ProfiledSubstitution → List Offer → Option Test → Beh → List ProfiledTerm
action_profiles values offers test next =
    joined (map (offer_terms_placed values) offers)
    ++ terms_placed (profiled_without (numbers_of (asked_variables (map offer_of offers))) values) (option_profiles test)
    ++ instance_profiles (profiled_without (numbers_of (asked_variables (map offer_of offers))) values) next
