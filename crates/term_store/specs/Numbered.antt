-- Numbers of terms that are kept once.
use Rattle.std.specs.Prelude.{◌≡◌, ◌<◌, ℕ, List, ◌++◌, length, map}
use Rattle.std.proofs.Common.{get_or}
use Rattle.lotos_base.specs.Signature.{Signature}
use Rattle.sort_terms.specs.ProfiledTerm.{ProfiledTerm, ProfiledTerms, IsOf, AreOf}
use Rattle.term_match.specs.ProfiledInstance.{ProfiledSubstitution, profiled_binding, profiled_instance, profiled_instances}
use Rattle.term_store.specs.Cells.{no_such_term, members, key_terms, AreBelow, HaveTermsOf, Grows}

-- the term with the number
abbrev pub term_at : Signature → List (List ℕ) → ℕ → ProfiledTerm
term_at signature keys n = get_or (key_terms signature keys) n no_such_term

-- The keys after have those before; and if the terms before are of a signature that the new term is of, those after are.
pub record TakesIn (t : ProfiledTerm) (before after : List (List ℕ)) : Type 0 where
  pub grows : Grows before after
  pub have : (signature : Signature) → IsOf signature t → HaveTermsOf signature before → HaveTermsOf signature after

-- The same for the terms of a list.
pub record TakeIn (ts : ProfiledTerms) (before after : List (List ℕ)) : Type 0 where
  pub grows : Grows before after
  pub have : (signature : Signature) → AreOf signature ts → HaveTermsOf signature before → HaveTermsOf signature after

-- The number is that of the term.
pub record IsNumberOfTerm (t : ProfiledTerm) (before after : List (List ℕ)) (n : ℕ) : Type 0 where
  pub within : n < length after
  pub term : (signature : Signature) → IsOf signature t → HaveTermsOf signature before → term_at signature after n ≡ t

-- the pair with the term that has the number
abbrev pub numbered_pair : Signature → List (List ℕ) → ℕ × ℕ → ℕ × ProfiledTerm
numbered_pair signature keys pair = (pair.0, term_at signature keys pair.1)

-- the pairs with the terms that have the numbers
abbrev pub numbered_pairs : Signature → List (List ℕ) → List (ℕ × ℕ) → List (ℕ × ProfiledTerm)
numbered_pairs signature keys pairs = map (numbered_pair signature keys) pairs

-- the numbers of the pairs
abbrev pub numbers_in : List (ℕ × ℕ) → List ℕ
numbers_in pairs = map (λ pair. pair.1) pairs

-- what the pairs put for variables
abbrev pub numbered_substitution : List (ℕ × ℕ) → List (List ℕ) → Signature → ProfiledSubstitution
numbered_substitution pairs keys signature = profiled_binding (numbered_pairs signature keys pairs)

-- The number is that of the term with what the substitution puts for its variables.
pub record IsInstanceOf (values : Signature → ProfiledSubstitution) (t : ProfiledTerm) (before after : List (List ℕ)) (n : ℕ)
    : Type 0 where
  pub within : n < length after
  pub term : (signature : Signature) → IsOf signature t → HaveTermsOf signature before
      → term_at signature after n ≡ profiled_instance (values signature) t

-- The list after has the numbers of such terms behind what the one before has.
pub record AreInstancesOf (values : Signature → ProfiledSubstitution) (ts : ProfiledTerms) (before after : List (List ℕ))
    (key more : List ℕ) : Type 0 where
  pub numbers : List ℕ
  pub behind : more ≡ key ++ numbers
  pub within : AreBelow (length after) numbers
  pub terms : (signature : Signature) → AreOf signature ts → HaveTermsOf signature before
      → members (key_terms signature after) numbers ≡ profiled_instances (values signature) ts
