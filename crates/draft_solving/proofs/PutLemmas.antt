-- A term put for one variable.
use Rattle.std.proofs.Common.{◌≡◌, ℕ, [], ◌∷◌, Bool, true, false, nat_eq, if◌then◌else◌, refl, sym, subst, eqb-true}
use Rattle.lotos_base.specs.Signature.{Signature}
use Rattle.lotos_base.specs.Sorting.{Occurs}
use Rattle.sort_terms.specs.ProfiledTerm.{ProfiledTerm, profiled_variable, bare, head_sort, IsOf}
use Rattle.sort_terms.specs.SortedView.{profiled_in, term_in}
use Rattle.sort_terms.specs.declared.sorted.Sorted.{Sorted}
use Rattle.term_match.specs.ProfiledInstance.{profiled_instance, profiled_binding}
use Rattle.term_match.proofs.InstanceLemmas.{instance_of}
use Rattle.draft_solving.specs.Changing.{put_of, PutsSort}
use Rattle.event_offers.proofs.RenamingLemmas.{occurring_sort}

-- one term put for a variable
one_of : (signature : Signature) (t : ProfiledTerm) (k : ℕ) (u : ProfiledTerm) → IsOf signature t → IsOf signature u → (n s : ℕ) → Occurs
    n s (bare t)
    → IsOf signature (profiled_binding ((k, u) ∷ []) n s)
one_of signature t k u h here n s o = by (nat_eq k n)
  where
    by : (b : Bool) → IsOf signature (if b then u else profiled_variable n s)
    by true = here
    by false = occurring_sort signature t h n s o

pub one_put_of : (signature : Signature) (t : ProfiledTerm) (k : ℕ) (u : ProfiledTerm) → IsOf signature t → IsOf signature u
    → IsOf signature (profiled_instance (profiled_binding ((k, u) ∷ [])) t)
one_put_of signature t k u h here = instance_of signature (profiled_binding ((k, u) ∷ [])) t h (one_of signature t k u h here)

pub one_suits : (found : ℕ × Sorted) (t : ProfiledTerm) → PutsSort found t → (n s : ℕ) → Occurs n s (bare t)
    → head_sort (profiled_binding ((found.0, profiled_in found.1) ∷ []) n s) ≡ s
one_suits found t puts n s o = by (nat_eq found.0 n) refl
  where
    by : (b : Bool) → nat_eq found.0 n ≡ b → head_sort (if b then profiled_in found.1 else profiled_variable n s) ≡ s
    by true e = puts s (subst (λ (m : ℕ). Occurs m s (bare t)) (sym (eqb-true found.0 n e)) o)
    by false e = refl

-- a binding of one pair, without the profiles
pub one_bare : (found : ℕ × Sorted) (n s : ℕ) → bare (profiled_binding ((found.0, profiled_in found.1) ∷ []) n s) ≡ put_of found n s
one_bare found n s = by (nat_eq found.0 n)
  where
    by : (b : Bool) → bare (if b then profiled_in found.1 else profiled_variable n s) ≡ (if b then term_in found.1 else bare
        (profiled_variable n s))
    by true = refl
    by false = refl
