-- Terms with other terms put for their variables: they fit, and stay of their signature.
use Rattle.std.proofs.Common.{◌≡◌, ◌<◌, ◌≤◌, ◌-◌, length, get_or, ap, arith, ℕ, zero, suc, List, [], ◌∷◌, Bool, true, false, nat_eq, slice_get, if◌then◌else◌, refl, sym, ◌∙◌, subst, eqb-true}
use Rattle.std.proofs.Math.Path.{fun_ext}
use Rattle.lotos_base.specs.Signature.{Signature, IsSort}
use Rattle.lotos_base.specs.Sorting.{Occurs}
use Rattle.lotos_base.specs.Substitution.{substituted, binding, Substitution}
use Rattle.lotos_base.specs.Term.{Term}
use Rattle.behaviour_semantics.specs.Derives.{leaves_in}
use Rattle.sort_terms.specs.ProfiledTerm.{ProfiledTerm, profiled_variable, bare, head_sort, FitsProfiles, IsOf}
use Rattle.sort_terms.specs.SortedView.{profiled_in, term_in}
use Rattle.sort_terms.specs.declared.sorted.Sorted.{Sorted}
use Rattle.term_match.specs.ProfiledInstance.{profiled_instance, profiled_binding, bare_pairs}
use Rattle.term_match.proofs.InstanceLemmas.{instance_bare, instance_fits, instance_of, binding_fits, binding_bare}
use Rattle.term_match.specs.SubstView.{profiled_pairs}
use Rattle.behaviour_tree.specs.BehaviourTerms.{profiles_of}
use Rattle.behaviour_tree.specs.BehaviourView.{terms_of}
use Rattle.behaviour_tree.specs.Over.{AreTermsOf}
use Rattle.behaviour_tree.specs.StateView.{environment_of}
use Rattle.event_offers.specs.Values.{profiled_listed, profiled_values, substitution_of_values, SuitsTerm}
use Rattle.event_offers.specs.declared.valued.Values.{Values}
use Rattle.event_offers.specs.declared.valued.Values.TheVariants.{One, Paired, Listed}
use Rattle.event_offers.proofs.RenamingLemmas.{occurring_sort}

listed_fits : (values : List Sorted) (n s : ℕ) → FitsProfiles (profiled_listed (profiles_of values) n s)
listed_fits [] n s = tt
listed_fits (v ∷ values) zero s = v.fits
listed_fits (v ∷ values) (suc n) s = listed_fits values n s

put_fits : (values : Values) (n s : ℕ) → FitsProfiles (profiled_values values n s)
put_fits (One number value) n s = binding_fits ((number, value.now) ∷ []) n s
put_fits (Paired pairs) n s = binding_fits pairs.now n s
put_fits (Listed values) n s = listed_fits values.now n s

pub valued_fits : (values : Values) (t : Sorted) → SuitsTerm values (profiled_in t)
    → FitsProfiles (profiled_instance (profiled_values values) (profiled_in t))
valued_fits values t suits = instance_fits (profiled_values values) (profiled_in t) t.fits (λ n s o. (put_fits values n s, suits n s o))

pub valued_bare : (values : Values) (t : ProfiledTerm) → bare (profiled_instance (profiled_values values) t)
    ≡ substituted (substitution_of_values
    values) (bare t)
valued_bare values t = instance_bare (profiled_values values) t

-- values by their numbers
pub listed_bare : (values : List Sorted) (n s : ℕ) → bare (profiled_listed (profiles_of values) n s) ≡ leaves_in (terms_of values) n s
listed_bare [] n s = refl
listed_bare (v ∷ values) zero s = refl
listed_bare (v ∷ values) (suc n) s = listed_bare values n s

listed_at : (signature : Signature) (values : List Sorted) → AreTermsOf signature (profiles_of values) → (n s : ℕ) → IsSort signature s
    → IsOf signature (profiled_listed (profiles_of values) n s)
listed_at signature [] h n s sort = sort
listed_at signature (v ∷ values) h zero s sort = h.0
listed_at signature (v ∷ values) h (suc n) s sort = listed_at signature values h.1 n s sort

pub listed_put_of : (signature : Signature) (values : List Sorted) (t : ProfiledTerm) → AreTermsOf signature (profiles_of values) → IsOf
    signature t
    → IsOf signature (profiled_instance (profiled_listed (profiles_of values)) t)
listed_put_of signature values t h k = instance_of signature (profiled_listed (profiles_of values)) t k
    (λ n s o. listed_at signature values h n s (occurring_sort signature t k n s o))

-- what stands at a number, and past the end
pub stands_at : (values : List Sorted) (n s : ℕ) (v : Sorted) → n < length values → v ≡ get_or values n v
    → profiled_in v ≡ profiled_listed (profiles_of values) n s
stands_at [] n s v lt is = absurd (omega arith)
stands_at (u ∷ values) zero s v lt is = ap profiled_in is
stands_at (u ∷ values) (suc n) s v lt is = stands_at values n s v (omega arith) is

pub past_the_end : (values : List Sorted) (n s : ℕ) → length values ≤ n
    → profiled_variable (n - length values) s ≡ profiled_listed (profiles_of values) n s
past_the_end [] n s le = ap (λ (m : ℕ). profiled_variable m s) (let e : n - 0 ≡ n = omega arith in e)
past_the_end (u ∷ values) zero s le = absurd (omega arith)
past_the_end (u ∷ values) (suc n) s le =
    ap (λ (m : ℕ). profiled_variable m s) (let e : suc n - suc (length values) ≡ n - length values = omega arith in e)
    ∙ past_the_end values n s (omega arith)

pub pairs_bare : (pairs : List (ℕ × Sorted)) → bare_pairs (profiled_pairs pairs) ≡ environment_of pairs
pairs_bare [] = refl
pairs_bare (pair ∷ pairs) = ap (λ (rest : List (ℕ × Term)). (pair.0, term_in pair.1) ∷ rest) (pairs_bare pairs)

pub pairs_put : (pairs : List (ℕ × Sorted)) (t : Term)
    → substituted (λ n s. bare (profiled_binding (profiled_pairs pairs) n s)) t ≡ substituted (binding (environment_of pairs)) t
pairs_put pairs t =
    ap (λ (v : Substitution). substituted v t) (fun_ext (λ n. fun_ext (λ s. binding_bare (profiled_pairs pairs) n s
    ∙ ap (λ (ps : List (ℕ × Term)). binding ps n s) (pairs_bare pairs))))
