-- The terms of lists, each of which is of a signature.
use Rattle.std.proofs.Common.{◌≡◌, List, [], ◌∷◌, ◌++◌, refl, ap, sym, ◌∙◌, subst}
use Rattle.lotos_base.specs.Signature.{Signature}
use Rattle.sort_terms.specs.ProfiledTerm.{ProfiledTerm}
use Rattle.behaviour_tree.specs.BehaviourTerms.{joined}
use Rattle.behaviour_tree.specs.Over.{AreTermsOf}
use Rattle.behaviour_tree.proofs.ClosedLemmas.{terms_both}

nothing_more : (xs : List ProfiledTerm) → xs ++ [] ≡ xs
nothing_more [] = refl
nothing_more (x ∷ xs) = ap (λ (ys : List ProfiledTerm). x ∷ ys) (nothing_more xs)

assoc : (xs ys zs : List ProfiledTerm) → (xs ++ ys) ++ zs ≡ xs ++ (ys ++ zs)
assoc [] ys zs = refl
assoc (x ∷ xs) ys zs = ap (λ (ts : List ProfiledTerm). x ∷ ts) (assoc xs ys zs)

joined_one : (lists : List (List ProfiledTerm)) (terms : List ProfiledTerm) → joined (lists ++ terms ∷ []) ≡ joined lists ++ terms
joined_one [] terms = nothing_more terms
joined_one (list ∷ lists) terms =
    ap (λ (ts : List ProfiledTerm). list ++ ts) (joined_one lists terms) ∙ sym (assoc list (joined lists) terms)

-- the terms of one member more
pub terms_more : (signature : Signature) (lists after : List (List ProfiledTerm)) (terms : List ProfiledTerm)
    → AreTermsOf signature (joined lists) → AreTermsOf signature terms → after ≡ lists ++ terms ∷ [] → AreTermsOf signature (joined after)
terms_more signature lists after terms one other are =
    subst (λ (ls : List (List ProfiledTerm)). AreTermsOf signature (joined ls)) (sym are)
    (subst (AreTermsOf signature) (sym (joined_one lists terms)) (terms_both signature (joined lists) terms one other))
