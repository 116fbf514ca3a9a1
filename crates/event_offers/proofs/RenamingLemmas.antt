-- Renamed terms: they fit, stay of their signature, and are the instances by the renaming.
use Rattle.std.proofs.Common.{◌≡◌, ℕ, List, [], ◌∷◌, map, refl, inl, inr, subst}
use Rattle.lotos_base.specs.Signature.{Signature, IsSort}
use Rattle.lotos_base.specs.Sorting.{Occurs, OccursAmong}
use Rattle.lotos_base.specs.Substitution.{substituted}
use Rattle.behaviour_semantics.specs.WellFormed.{Every}
use Rattle.sort_terms.specs.ProfiledTerm.{ProfiledTerm, ProfiledTerms, profiled_variable, profiled_node, no_profiled_terms, profiled_term_then, bare, all_bare, FitsProfiles, IsOf, AreOf}
use Rattle.sort_terms.specs.SortedView.{profiled_in}
use Rattle.sort_terms.specs.declared.sorted.Sorted.{Sorted}
use Rattle.term_match.specs.ProfiledInstance.{profiled_instance, profiled_instances}
use Rattle.term_match.proofs.InstanceLemmas.{instance_bare, instance_fits}
use Rattle.behaviour_tree.specs.Over.{AreTermsOf}
use Rattle.event_offers.specs.Renaming.{pair_instance, profiled_renaming_of, renaming_of}
use Rattle.event_offers.specs.Offers.{AreConditionsOf}
use Rattle.event_offers.specs.declared.renaming.Renaming.{Renaming}

pub renamed_fits : (r : Renaming) (t : Sorted) → FitsProfiles (profiled_instance (profiled_renaming_of r) (profiled_in t))
renamed_fits r t = instance_fits (profiled_renaming_of r) (profiled_in t) t.fits (λ n s o. (tt, refl))

pub renamed_bare : (r : Renaming) (t : ProfiledTerm) → bare (profiled_instance (profiled_renaming_of r) t) ≡ substituted (renaming_of r)
    (bare t)
renamed_bare r t = instance_bare (profiled_renaming_of r) t

mutual
  pub renamed_of : (signature : Signature) (r : Renaming) (t : ProfiledTerm) → IsOf signature t
      → IsOf signature (profiled_instance (profiled_renaming_of r) t)
  renamed_of signature r (profiled_variable n s) h = h
  renamed_of signature r (profiled_node f operation ts) h = (h.0, all_renamed_of signature r ts h.1)

  pub all_renamed_of : (signature : Signature) (r : Renaming) (ts : ProfiledTerms) → AreOf signature ts
      → AreOf signature (profiled_instances (profiled_renaming_of r) ts)
  all_renamed_of signature r no_profiled_terms h = tt
  all_renamed_of signature r (profiled_term_then t ts) h = (renamed_of signature r t h.0, all_renamed_of signature r ts h.1)

pub renamed_terms_of : (signature : Signature) (r : Renaming) (ts : List ProfiledTerm) → AreTermsOf signature ts
    → AreTermsOf signature (map (profiled_instance (profiled_renaming_of r)) ts)
renamed_terms_of signature r [] h = tt
renamed_terms_of signature r (t ∷ ts) h = (renamed_of signature r t h.0, renamed_terms_of signature r ts h.1)

pub renamed_pairs_of : (signature : Signature) (r : Renaming) (pairs : List (ProfiledTerm × ProfiledTerm)) → AreConditionsOf signature pairs
    → AreConditionsOf signature (map (pair_instance (profiled_renaming_of r)) pairs)
renamed_pairs_of signature r [] h = tt
renamed_pairs_of signature r (pair ∷ pairs) h = (
  (renamed_of signature r pair.0 h.0.0, renamed_of signature r pair.1 h.0.1),
  renamed_pairs_of signature r pairs h.1,
)

mutual
  -- a variable in a term of a signature has a sort of it
  pub occurring_sort : (signature : Signature) (t : ProfiledTerm) → IsOf signature t → (n s : ℕ) → Occurs n s (bare t) → IsSort signature s
  occurring_sort signature (profiled_variable m r) h n s o = subst (IsSort signature) o.1 h
  occurring_sort signature (profiled_node f operation ts) h n s o = occurring_sorts signature ts h.1 n s o

  pub occurring_sorts : (signature : Signature) (ts : ProfiledTerms) → AreOf signature ts → (n s : ℕ) → OccursAmong n s (all_bare ts)
      → IsSort signature s
  occurring_sorts signature no_profiled_terms h n s o = absurd o
  occurring_sorts signature (profiled_term_then t ts) h n s (inl o) = occurring_sort signature t h.0 n s o
  occurring_sorts signature (profiled_term_then t ts) h n s (inr o) = occurring_sorts signature ts h.1 n s o
