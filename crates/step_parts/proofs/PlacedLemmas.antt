-- Terms with the values of an environment put in are of the signature.
use Rattle.std.proofs.Common.{ℕ, List, [], ◌∷◌, map, Bool, true, false, nat_eq, if◌then◌else◌}
use Rattle.lotos_base.specs.Signature.{Signature, IsSort}
use Rattle.sort_terms.specs.ProfiledTerm.{ProfiledTerm, IsOf}
use Rattle.sort_terms.specs.SortedView.{profiled_in}
use Rattle.sort_terms.specs.declared.sorted.Sorted.{Sorted}
use Rattle.term_match.specs.ProfiledInstance.{profiled_binding}
use Rattle.term_match.specs.SubstView.{profiled_pairs}
use Rattle.term_match.proofs.InstanceLemmas.{instance_of}
use Rattle.draft_parts.proofs.HandedOn.{occurring_sort}
use Rattle.behaviour_tree.specs.Over.{AreTermsOf}
use Rattle.behaviour_tree.specs.StateView.{pair_profile}
use Rattle.behaviour_instances.specs.InstanceTerms.{terms_placed}

module _ (signature : Signature) where
  put_of : (environment : List (ℕ × Sorted)) → AreTermsOf signature (map pair_profile environment) → (n s : ℕ) → IsSort signature s
      → IsOf signature (profiled_binding (profiled_pairs environment) n s)
  put_of [] h n s sort = sort
  put_of (pair ∷ environment) h n s sort = by (put_of environment h.1 n s sort) (nat_eq pair.0 n)
    where
      by : IsOf signature (profiled_binding (profiled_pairs environment) n s) → (b : Bool)
          → IsOf signature (if b then profiled_in pair.1 else profiled_binding (profiled_pairs environment) n s)
      by rest true = h.0
      by rest false = rest

  pub placed_of : (environment : List (ℕ × Sorted)) → AreTermsOf signature (map pair_profile environment) → (terms : List ProfiledTerm)
      → AreTermsOf signature terms → AreTermsOf signature (terms_placed (profiled_binding (profiled_pairs environment)) terms)
  placed_of environment g [] h = tt
  placed_of environment g (t ∷ terms) h = (
    instance_of signature (profiled_binding (profiled_pairs environment)) t h.0
        (λ n s o. put_of environment g n s (occurring_sort signature t h.0 n s o)),
    placed_of environment g terms h.1,
  )
