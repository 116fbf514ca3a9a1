-- The parts of an instance: what the environment has to suit in them, and what they are.
use Rattle.std.proofs.Common.{◌≡◌, ℕ, List, ap, ◌∙◌, subst}
use Rattle.lotos_base.specs.Substitution.{Substitution, binding, without}
use Rattle.behaviour_semantics.specs.Replacement.{with_values}
use Rattle.sort_terms.specs.declared.sorted.Sorted.{Sorted}
use Rattle.term_match.specs.ProfiledInstance.{ProfiledSubstitution, profiled_binding}
use Rattle.term_match.specs.SubstView.{profiled_pairs}
use Rattle.behaviour_tree.specs.BehaviourTerms.{profiles_in}
use Rattle.behaviour_tree.specs.BehaviourView.{behaviour_of}
use Rattle.behaviour_tree.specs.Closed.{IsFree}
use Rattle.behaviour_tree.specs.StateView.{environment_of}
use Rattle.behaviour_tree.specs.declared.behaviours.Beh.{Beh}
use Rattle.behaviour_instances.specs.InstanceTerms.{instance_profiles}
use Rattle.behaviour_instances.specs.Instances.{IsInstance}
use Rattle.behaviour_instances.specs.Suited.{SuitsWhere}
use Rattle.behaviour_instances.specs.Unlisted.{profiled_without}

-- equal things in equal places
pub same_two : {X Y Z : Type 0} (f : X → Y → Z) (x x' : X) (y y' : Y) → x ≡ x' → y ≡ y' → f x y ≡ f x' y'
same_two {X = X} {Y = Y} f x x' y y' e d = ap (λ (z : X). f z y) e ∙ ap (λ (z : Y). f x' z) d

pub same_three : {X Y Z W : Type 0} (f : X → Y → Z → W) (x x' : X) (y y' : Y) (z z' : Z) → x ≡ x' → y ≡ y' → z ≡ z' → f x y z ≡ f x' y' z'
same_three {X = X} {Y = Y} {Z = Z} f x x' y y' z z' e d k =
    ap (λ (v : X). f v y z) e ∙ (ap (λ (v : Y). f x' v z) d ∙ ap (λ (v : Z). f x' y' v) k)

-- a part that is read from its box
pub read_instance : (environment : List (ℕ × Sorted)) (kept made given part : Beh) → kept ≡ made
    → behaviour_of made ≡ with_values (binding (environment_of environment)) (behaviour_of given)
    → profiles_in made ≡ instance_profiles (profiled_binding (profiled_pairs environment)) given → given ≡ part
    → IsInstance environment part kept
read_instance environment kept made given part k same terms e = record {
  same = ap behaviour_of k ∙ (same ∙ ap (λ (b : Beh). with_values (binding (environment_of environment)) (behaviour_of b)) e);
  terms = ap profiles_in k ∙ (terms ∙ ap (instance_profiles (profiled_binding (profiled_pairs environment))) e);
}

pub read_suits : (environment : List (ℕ × Sorted)) (x y : Beh) → x ≡ y
    → SuitsWhere (profiled_pairs environment) (λ n s. IsFree n s (behaviour_of y))
    → SuitsWhere (profiled_pairs environment) (λ n s. IsFree n s (behaviour_of x))
read_suits environment x y e suits n s o = suits n s (subst (λ (b : Beh). IsFree n s (behaviour_of b)) e o)

-- a part below a binder of these variables
module _ (numbers : List ℕ) (inner outer : List (ℕ × Sorted)) where
  pub inside_same : (part made : Beh) → binding (environment_of inner) ≡ without numbers (binding (environment_of outer))
      → IsInstance inner part made → behaviour_of made ≡ with_values (without numbers (binding (environment_of outer))) (behaviour_of part)
  inside_same part made is h = h.same ∙ ap (λ (values : Substitution). with_values values (behaviour_of part)) is

  pub inside_terms : (part made : Beh)
      → profiled_binding (profiled_pairs inner) ≡ profiled_without numbers (profiled_binding (profiled_pairs outer))
      → IsInstance inner part made → profiles_in made ≡ instance_profiles
      (profiled_without numbers (profiled_binding (profiled_pairs outer)))
      part
  inside_terms part made is h = h.terms ∙ ap (λ (values : ProfiledSubstitution). instance_profiles values part) is
