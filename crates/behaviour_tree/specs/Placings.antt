-- What is put for the variables of a part of a behaviour: the values of an environment, but for variables that are bound on
-- the way to the part.
use Rattle.std.proofs.Common.{Bor}
use Rattle.std.specs.Prelude.{ℕ, [], ◌∷◌, Bool, false, ◌||◌, nat_eq, map, Option, None, Some}
use Rattle.lotos_base.specs.Term.{Term, variable}
use Rattle.lotos_base.specs.Substitution.{Substitution, binding, is_listed, without}
use Rattle.behaviour_semantics.specs.Behaviour.{asked_variables, let_variables, numbers_of}
use Rattle.sort_terms.specs.SortedView.{term_in}
use Rattle.sort_terms.specs.declared.sorted.Sorted.{Sorted}
use Rattle.behaviour_tree.specs.BehaviourView.{let_of, offer_of, variables_of}
use Rattle.behaviour_tree.specs.StateView.{environment_of}
use Rattle.behaviour_tree.specs.declared.binders.Binders.{Binders, Outermost, Action', Accept', Let', Choice'}
use Rattle.behaviour_tree.specs.declared.placing.Placing.{Placing}

-- the variable with this number is bound by one of the binders
abbrev pub binds : Binders → ℕ → Bool
binds Outermost n = false
binds (Action' offers _ outer) n = is_listed (numbers_of (asked_variables (map offer_of offers.now.items))) n || binds outer n
binds (Accept' variables _ outer) n = is_listed (numbers_of (variables_of variables.now.items)) n || binds outer n
binds (Let' bindings _ outer) n = is_listed (numbers_of (let_variables (map let_of bindings.now.items))) n || binds outer n
binds (Choice' x _ outer) n = nat_eq x.now.number n || binds outer n

-- what is left of a substitution below the binders
abbrev pub substitution_below : Binders → Substitution → Substitution
substitution_below Outermost values = values
substitution_below (Action' offers _ outer) values =
    without (numbers_of (asked_variables (map offer_of offers.now.items))) (substitution_below outer values)
substitution_below (Accept' variables _ outer) values =
    without (numbers_of (variables_of variables.now.items)) (substitution_below outer values)
substitution_below (Let' bindings _ outer) values =
    without (numbers_of (let_variables (map let_of bindings.now.items))) (substitution_below outer values)
substitution_below (Choice' x _ outer) values = without (x.now.number ∷ []) (substitution_below outer values)

-- what is put for variables there
abbrev pub values_of : Placing → Substitution
values_of placing = substitution_below placing.binders (binding (environment_of placing.environment.now))

-- the value that was found for a variable, or the variable itself
abbrev pub found_in : Option (Bor Sorted) → ℕ → ℕ → Term
found_in None n s = variable n s
found_in (Some value) n s = term_in value.now
