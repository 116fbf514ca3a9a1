-- What behaviours and definitions declare, in the order of the text: gates with their names, and so many variables and
-- processes. Each gets the next number.
use Rattle.std.specs.Prelude.{ℕ, suc, ◌+◌, List, [], ◌∷◌, ◌++◌, map, length, if◌then◌else◌}
use Rattle.lotos_base.specs.WrittenTerm.{PlacedName}
use Rattle.syntax_trees.specs.WrittenVariable.{WrittenVariable}
use Rattle.syntax_trees.specs.WrittenBehaviour.{WrittenSign, choice_sign, interleaving, full_synchronisation, synchronising, disabling, enabling, WrittenGateChoice, WrittenOffer, offer_value, offer_variable, WrittenBehaviour, stop, exit, call, action, inner_action, guard, hide, let_be, choose_value, choose_gate, par_gate, binary}
use Rattle.syntax_trees.specs.WrittenDefinition.{WrittenHeading, WrittenInner, WrittenInners, inner_item, process, no_inner, inner_then}
use Rattle.scope_parts.specs.Scope.{Binding, bind, is_bound}

-- The numbers that the next gate, the next variable and the next process of the text get.
pub record Numbers : Type 0 where
  pub gate : ℕ
  pub variable : ℕ
  pub process : ℕ

-- names as they are spelled
abbrev pub spelled_names : List PlacedName → List (List ℕ)
spelled_names names = map (λ (name : PlacedName). name.name) names

-- the names, each once, as it is spelled first
abbrev pub each_once_from : List Binding → List (List ℕ) → List (List ℕ)
each_once_from before [] = []
each_once_from before (name ∷ names) =
    if is_bound before name then each_once_from before names else name ∷ each_once_from (bind name 0 before) names

abbrev pub each_once : List (List ℕ) → List (List ℕ)
each_once names = each_once_from [] names

-- the names of gates that a `choice` or a `par` declares
abbrev pub choice_names : List WrittenGateChoice → List (List ℕ)
choice_names gates = map (λ (gate : WrittenGateChoice). gate.name) gates

-- the variables that an action asks for
abbrev pub asked_for : List WrittenOffer → List WrittenVariable
asked_for [] = []
asked_for (offer_value term ∷ offers) = asked_for offers
asked_for (offer_variable variable ∷ offers) = variable ∷ asked_for offers

-- the variables that a sign declares: those of an `accept`
abbrev pub accepted : WrittenSign → List WrittenVariable
accepted choice_sign = []
accepted interleaving = []
accepted full_synchronisation = []
accepted (synchronising gates) = []
accepted disabling = []
accepted (enabling variables) = variables

-- the gates that a behaviour declares
abbrev pub gates_in : WrittenBehaviour → List (List ℕ)
gates_in (stop place) = []
gates_in (exit place values) = []
gates_in (call place name gates values) = []
gates_in (action place gate offers test next) = gates_in next
gates_in (inner_action place next) = gates_in next
gates_in (guard place test next) = gates_in next
gates_in (hide place gates inside) = each_once (spelled_names gates) ++ gates_in inside
gates_in (let_be place values inside) = gates_in inside
gates_in (choose_value place variables inside) = gates_in inside
gates_in (choose_gate place gates inside) = choice_names gates ++ gates_in inside
gates_in (par_gate place gates sign inside) = choice_names gates ++ gates_in inside
gates_in (binary place sign left right) = gates_in left ++ gates_in right

-- how many variables it declares
abbrev pub variable_count : WrittenBehaviour → ℕ
variable_count (stop place) = 0
variable_count (exit place values) = 0
variable_count (call place name gates values) = 0
variable_count (action place gate offers test next) = length (asked_for offers) + variable_count next
variable_count (inner_action place next) = variable_count next
variable_count (guard place test next) = variable_count next
variable_count (hide place gates inside) = variable_count inside
variable_count (let_be place values inside) = length values + variable_count inside
variable_count (choose_value place variables inside) = length variables + variable_count inside
variable_count (choose_gate place gates inside) = variable_count inside
variable_count (par_gate place gates sign inside) = variable_count inside
variable_count (binary place sign left right) = variable_count left + (length (accepted sign) + variable_count right)

-- the numbers behind so many gates, so many variables, and a behaviour
abbrev pub past_gates : ℕ → Numbers → Numbers
past_gates many numbers = record { gate = numbers.gate + many; variable = numbers.variable; process = numbers.process }

abbrev pub past_variables : ℕ → Numbers → Numbers
past_variables many numbers = record { gate = numbers.gate; variable = numbers.variable + many; process = numbers.process }

abbrev pub past : WrittenBehaviour → Numbers → Numbers
past behaviour numbers = past_variables (variable_count behaviour) (past_gates (length (gates_in behaviour)) numbers)

-- the gates that a definition declares beside those of its own `where`
abbrev pub own_gates : WrittenHeading → WrittenBehaviour → List (List ℕ)
own_gates heading body = spelled_names heading.gates ++ gates_in body

-- the numbers behind a heading, and behind a definition beside its own `where`
abbrev pub past_heading : WrittenHeading → Numbers → Numbers
past_heading heading numbers = past_variables (length heading.parameters) (past_gates (length heading.gates) numbers)

abbrev pub past_own : WrittenHeading → WrittenBehaviour → Numbers → Numbers
past_own heading body numbers = past body (past_heading heading numbers)

abbrev mutual
  -- how many processes a `where` declares, at any depth
  pub process_count : WrittenInner → ℕ
  process_count (inner_item item) = 0
  process_count (process heading body inner) = suc (processes_count inner)

  pub processes_count : WrittenInners → ℕ
  processes_count no_inner = 0
  processes_count (inner_then inner others) = process_count inner + processes_count others

abbrev mutual
  -- the gates that a `where` declares, at any depth
  pub inner_gates : WrittenInner → List (List ℕ)
  inner_gates (inner_item item) = []
  inner_gates (process heading body inner) = own_gates heading body ++ inners_gates inner

  pub inners_gates : WrittenInners → List (List ℕ)
  inners_gates no_inner = []
  inners_gates (inner_then inner others) = inner_gates inner ++ inners_gates others

abbrev mutual
  -- the numbers behind what a `where` declares
  pub past_inner : WrittenInner → Numbers → Numbers
  past_inner (inner_item item) numbers = numbers
  past_inner (process heading body inner) numbers =
      past_inners inner (past_own heading body (record { gate = numbers.gate; variable = numbers.variable; process = suc numbers.process }))

  pub past_inners : WrittenInners → Numbers → Numbers
  past_inners no_inner numbers = numbers
  past_inners (inner_then inner others) numbers = past_inners others (past_inner inner numbers)
