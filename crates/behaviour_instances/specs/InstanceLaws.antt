-- Laws of instances of behaviours: their terms are of a signature, and the environment of a state suits its behaviour.
use Rattle.std.specs.Prelude.{ℕ, List, map}
use Rattle.lotos_base.specs.Signature.{Signature}
use Rattle.behaviour_semantics.specs.Behaviour.{Behaviour}
use Rattle.sort_terms.specs.declared.sorted.Sorted.{Sorted}
use Rattle.term_match.specs.ProfiledInstance.{profiled_binding}
use Rattle.term_match.specs.SubstView.{profiled_pairs}
use Rattle.behaviour_tree.specs.BehaviourTerms.{profiles_in}
use Rattle.behaviour_tree.specs.Closed.{IsClosedBy, IsFree}
use Rattle.behaviour_tree.specs.Over.{AreTermsOf}
use Rattle.behaviour_tree.specs.StateView.{pair_profile}
use Rattle.behaviour_tree.specs.declared.behaviours.Beh.{Beh}
use Rattle.behaviour_instances.specs.InstanceTerms.{instance_profiles}
use Rattle.behaviour_instances.specs.Suited.{SuitsWhere}

-- the terms of an instance are of the signature where those of the behaviour and of the environment are
abbrev pub InstancesAreOfSignatures : Type 0
InstancesAreOfSignatures = (signature : Signature) (environment : List (ℕ × Sorted)) (b : Beh) →
    AreTermsOf signature (profiles_in b) → AreTermsOf signature (map pair_profile environment) →
    AreTermsOf signature (instance_profiles (profiled_binding (profiled_pairs environment)) b)

-- an environment that gives each free variable one value of its sort suits the behaviour
abbrev pub StatesSuit : Type 0
StatesSuit = (environment : List (ℕ × Sorted)) (b : Behaviour) → IsClosedBy environment b →
    SuitsWhere (profiled_pairs environment) (λ n s. IsFree n s b)
