-- What values for the variables of an entry make of its conditions and of its derivation.
use Rattle.std.specs.Prelude.{◌≡◌, ℕ, List, [], ◌∷◌, map, Option, None, Some, if◌then◌else◌}
use Rattle.lotos_base.specs.Signature.{Signature}
use Rattle.lotos_base.specs.Sorting.{Occurs}
use Rattle.lotos_base.specs.Term.{Term}
use Rattle.lotos_base.specs.Tests.{term_eq}
use Rattle.lotos_base.specs.Substitution.{Substitution, substituted}
use Rattle.behaviour_semantics.specs.Behaviour.{Test}
use Rattle.behaviour_semantics.specs.Derives.{leaves_in}
use Rattle.behaviour_semantics.specs.Replacement.{test_with}
use Rattle.behaviour_semantics.specs.Rule.{AreValues}
use Rattle.behaviour_semantics.specs.Shape.{Derivation}
use Rattle.behaviour_semantics.specs.Solving.{Entry, test_in}
use Rattle.sort_terms.specs.ProfiledTerm.{ProfiledTerm, bare, head_sort, IsOf}
use Rattle.sort_terms.specs.declared.sorted.Sorted.{Sorted}
use Rattle.behaviour_tree.specs.BehaviourTerms.{profiles_of}
use Rattle.behaviour_tree.specs.BehaviourView.{terms_of}
use Rattle.behaviour_tree.specs.Over.{AreTermsOf}
use Rattle.event_offers.specs.Values.{profiled_listed}

-- The first condition whose sides differ in canonical form with the terms put in, with its sides in that form.
abbrev pub unmet_among : (Term → Term) → Substitution → List Test → Option Test
unmet_among canon values [] = None
unmet_among canon values (test ∷ tests) =
    let made : Test = test_in canon (test_with values test) in
    if term_eq made.left made.right then unmet_among canon values tests else Some made

-- The entry's derivation with values for its variables, in canonical form.
abbrev pub canonical_derivation : (Term → Term) → Entry → List Term → Derivation
canonical_derivation canon entry values = record {
  shape = entry.shape;
  leaves = map (λ (t : Term). canon (substituted (leaves_in values) t)) entry.leaves;
}

-- The values are ground terms of the signature, one for each variable, of its sort.
pub record AreValuesOver (signature : Signature) (variables : List ℕ) (values : List Sorted) : Type 0 where
  pub sorted : AreValues signature variables (terms_of values)
  pub terms : AreTermsOf signature (profiles_of values)

-- The term and the values are of the signature, and the value for each variable of the term has the sort of that variable.
pub record IsValued (signature : Signature) (given : List Sorted) (t : ProfiledTerm) : Type 0 where
  pub term : IsOf signature t
  pub values : AreTermsOf signature (profiles_of given)
  pub sorts : (n s : ℕ) → Occurs n s (bare t) → head_sort (profiled_listed (profiles_of given) n s) ≡ s

abbrev pub IsValuedPair : Signature → List Sorted → ProfiledTerm × ProfiledTerm → Type 0
IsValuedPair signature values pair = IsValued signature values pair.0 × IsValued signature values pair.1
