-- What an accepted specification of the code is.
use Rattle.std.specs.Prelude.{◌≡◌, ℕ, List, map, Option}
use Rattle.lotos_base.specs.Equation.{IsWellFormedData}
use Rattle.behaviour_semantics.specs.Replacement.{with_values, binding_of}
use Rattle.behaviour_tree.specs.BehaviourView.{behaviour_of, variables_of}
use Rattle.behaviour_tree.specs.DefinitionView.{specification_of}
use Rattle.behaviour_tree.specs.Closed.{IsClosedNode}
use Rattle.behaviour_tree.specs.Over.{IsSpecOver, IsStateOf}
use Rattle.behaviour_tree.specs.StateView.{state_of}
use Rattle.refusal_lines.specs.HandedOn.{book_canon, IsOpenedBy, ShelfState, AreRanksOf}
use Rattle.refusal_lines.specs.Refusal.{Refused}
use Rattle.path_order.specs.RulesView.{precedence_in, rules_in}
use Rattle.sort_terms.specs.EquationView.{data_of}
use Rattle.sort_terms.specs.SignatureView.{signature_of}
use Rattle.spec_acceptance.specs.Acceptance.{Asked, Acceptance}
use Rattle.spec_acceptance.specs.Part.{goes_on, Part}
use Rattle.spec_acceptance.specs.Doing.{Did}
use Rattle.spec_acceptance.specs.declared.accepted.Accepted.{Accepted}

abbrev pub asked_acceptance : List ℕ → Option (List ℕ) → List (List ℕ) → Asked
asked_acceptance spec order values = record { spec = spec; order = order; values = values }

-- It is what was accepted: the specification, which is over the data's signature, with its ranks; the data, which are well
-- formed, with the precedence of the order's items and the confluent rules of the equations; and the closed state in which
-- it begins, its body with the normal forms of the start values.
pub record HoldsAccepted (acceptance : Acceptance) (accepted : Accepted) : Type 0 where
  pub spec_is : specification_of accepted.spec ≡ acceptance.spec
  pub data_is : data_of accepted.book.flat ≡ acceptance.data_
  pub well_formed : IsWellFormedData (data_of accepted.book.flat)
  pub over : IsSpecOver (signature_of accepted.book.flat.signature) accepted.spec
  pub ranks_are : AreRanksOf accepted.spec accepted.ranks
  pub opened :
      IsOpenedBy acceptance.items acceptance.data_ (precedence_in accepted.book.joined.rules) (rules_in accepted.book.joined.rules)
  pub begins :
      state_of accepted.start
      ≡ with_values (binding_of (variables_of accepted.spec.parameters.items) (map (book_canon accepted.book) acceptance.values))
      (behaviour_of accepted.spec.body.value)
  pub state : IsStateOf (signature_of accepted.book.flat.signature) accepted.spec accepted.start
  pub closed : IsClosedNode accepted.start.node

-- the shelf gave what was asked of it, and the answer is what came of it
abbrev pub AcceptsWith : ShelfState → ShelfState → Part Refused Acceptance → Accepted → Type 0
AcceptsWith before after part accepted =
    (acceptance : Acceptance) × Did before after part (goes_on acceptance) × HoldsAccepted acceptance accepted
