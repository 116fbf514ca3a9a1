-- The walk over a specification of the code finds no disagreement exactly where the plain specification agrees.
use Rattle.std.specs.Prelude.{◌≡◌, ◌↔◌, ℕ, List, [], map}
use Rattle.lotos_base.specs.Equation as plain
use Rattle.lotos_base.specs.Signature.{Signature}
use Rattle.behaviour_semantics.specs.WellFormed.{IsBehaviour}
use Rattle.behaviour_tree.specs.BehaviourTerms.{profiles_in}
use Rattle.behaviour_tree.specs.BehaviourView.{behaviour_of}
use Rattle.behaviour_tree.specs.DefinitionView.{process_of, specification_of}
use Rattle.behaviour_tree.specs.Over.{AreTermsOf, IsSpecOver}
use Rattle.behaviour_tree.specs.declared.behaviours.Beh.{Beh}
use Rattle.behaviour_tree.specs.declared.definitions.Process.{Process}
use Rattle.behaviour_tree.specs.declared.definitions.Spec.{Spec}
use Rattle.process_checks.specs.Functionality.{Functionality, functionality, disagreements, all_disagreements}
use Rattle.session_laws.specs.HasFunctionality.{HasFunctionality, AllAgree}

-- the terms of the behaviour are of the signature, and it is well formed with these variables in scope
pub record IsBehaviourOver (signature : Signature) (names : ℕ) (processes : List Process) (scope : List plain.Variable) (b : Beh)
    : Type 0 where
  pub terms : AreTermsOf signature (profiles_in b)
  pub fine : IsBehaviour signature names (map process_of processes) scope (behaviour_of b)

pub record NoDisagreementIsAgreement : Type 0 where
  -- no sign in a behaviour disagrees exactly where the behaviour has a functionality
  pub signs :
      (signature : Signature) (names : ℕ) (processes : List Process) (scope : List plain.Variable) (b : Beh) →
      IsBehaviourOver signature names processes scope b →
      (disagreements processes b ≡ []) ↔ ((f : Functionality) × HasFunctionality signature (map process_of processes) (behaviour_of b) f)
  -- and it is the one that the walk finds
  pub found :
      (signature : Signature) (names : ℕ) (processes : List Process) (scope : List plain.Variable) (b : Beh) (f : Functionality) →
      IsBehaviourOver signature names processes scope b →
      HasFunctionality signature (map process_of processes) (behaviour_of b) f →
      functionality processes b ≡ f
  -- nothing in a specification disagrees exactly where all signs and all definitions agree
  pub whole :
      (signature : Signature) (spec : Spec) →
      IsSpecOver signature spec →
      (all_disagreements spec ≡ []) ↔ AllAgree signature (specification_of spec)
