-- Terms of an environment put in: they are of the signature, and what is put in is the environment.
use Rattle.std.proofs.Common.{ℕ, List, [], ◌∷◌, Bool, true, false, nat_eq, if◌then◌else◌}
use Rattle.lotos_base.specs.Signature.{Signature, IsSort}
use Rattle.sort_terms.specs.ProfiledTerm.{ProfiledTerm, IsOf}
use Rattle.term_match.specs.ProfiledInstance.{profiled_instance, profiled_binding}
use Rattle.term_match.proofs.InstanceLemmas.{instance_of}
use Rattle.event_offers.proofs.RenamingLemmas.{occurring_sort}
use Rattle.draft_parts.specs.Environments.{ArePairsOf, IsReadyForPairs}

pairs_give : (signature : Signature) (pairs : List (ℕ × ProfiledTerm)) → ArePairsOf signature pairs → (n s : ℕ) → IsSort signature s
    → IsOf signature (profiled_binding pairs n s)
pairs_give signature [] h n s sort = sort
pairs_give signature (pair ∷ pairs) h n s sort = by (nat_eq pair.0 n) (pairs_give signature pairs h.1 n s sort)
  where
    by : (b : Bool) → IsOf signature (profiled_binding pairs n s) → IsOf signature (if b then pair.1 else profiled_binding pairs n s)
    by true rest = h.0
    by false rest = rest

pub ready_of : (signature : Signature) (pairs : List (ℕ × ProfiledTerm)) (t : ProfiledTerm) → IsReadyForPairs signature pairs t
    → IsOf signature (profiled_instance (profiled_binding pairs) t)
ready_of signature pairs t r =
    instance_of signature (profiled_binding pairs) t r.term
    (λ n s o. pairs_give signature pairs r.values n s (occurring_sort signature t r.term n s o))
