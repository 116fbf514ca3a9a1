-- What an instance of a part of a behaviour is.
use Rattle.std.specs.Prelude.{◌≡◌, ℕ, List}
use Rattle.lotos_base.specs.Substitution.{binding}
use Rattle.behaviour_semantics.specs.Replacement.{with_values}
use Rattle.sort_terms.specs.declared.sorted.Sorted.{Sorted}
use Rattle.term_match.specs.ProfiledInstance.{profiled_binding}
use Rattle.term_match.specs.SubstView.{profiled_pairs}
use Rattle.behaviour_tree.specs.BehaviourTerms.{profiles_in}
use Rattle.behaviour_tree.specs.BehaviourView.{behaviour_of}
use Rattle.behaviour_tree.specs.StateView.{environment_of}
use Rattle.behaviour_tree.specs.declared.behaviours.Beh.{Beh}
use Rattle.behaviour_instances.specs.InstanceTerms.{instance_profiles}

-- The behaviour is the part with the values of the environment put in, and has the profiles that they carry.
pub record IsInstance (environment : List (ℕ × Sorted)) (part : Beh) (made : Beh) : Type 0 where
  pub same : behaviour_of made ≡ with_values (binding (environment_of environment)) (behaviour_of part)
  pub terms : profiles_in made ≡ instance_profiles (profiled_binding (profiled_pairs environment)) part
