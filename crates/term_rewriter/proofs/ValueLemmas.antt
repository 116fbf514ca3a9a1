-- What pairs have for a variable, and what terms of the code stand for.
use Rattle.std.proofs.Common.{◌≡◌, ℕ, List, [], ◌∷◌, Bool, true, false, nat_eq, refl}
use Rattle.std.specs.Prelude.{Some, None, if◌then◌else◌}
use Rattle.std.proofs.lemmas.Option.{same_Some}
use Rattle.sort_terms.specs.ProfiledTerm.{ProfiledTerm, profiled_variable}
use Rattle.term_match.specs.ProfiledInstance.{profiled_binding}
use Rattle.term_match.specs.Search.{looked_up}

pub bound_value : (pairs : List (ℕ × ProfiledTerm)) (n s : ℕ) (u : ProfiledTerm) → Some u ≡ looked_up n pairs
    → u ≡ profiled_binding pairs n s
bound_value [] n s u e = cc
bound_value (pair ∷ pairs) n s u e = go (nat_eq pair.0 n) e (λ h. bound_value pairs n s u h)
  where
    go : (b : Bool) → Some u ≡ (if b then Some pair.1 else looked_up n pairs)
        → (Some u ≡ looked_up n pairs → u ≡ profiled_binding pairs n s) → u ≡ (if b then pair.1 else profiled_binding pairs n s)
    go true h later = same_Some u pair.1 h
    go false h later = later h

pub unbound_value : (pairs : List (ℕ × ProfiledTerm)) (n s : ℕ) → None ≡ looked_up n pairs
    → profiled_variable n s ≡ profiled_binding pairs n s
unbound_value [] n s e = refl
unbound_value (pair ∷ pairs) n s e = go (nat_eq pair.0 n) e (λ h. unbound_value pairs n s h)
  where
    go : (b : Bool) → None ≡ (if b then Some pair.1 else looked_up n pairs)
        → (None ≡ looked_up n pairs → profiled_variable n s ≡ profiled_binding pairs n s)
        → profiled_variable n s ≡ (if b then pair.1 else profiled_binding pairs n s)
    go true h later = let clash : None ≡ Some pair.1 = h in cc
    go false h later = later h
