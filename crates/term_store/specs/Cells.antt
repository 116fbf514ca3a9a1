-- Terms that are kept once: a list of keys, each of which says what stands at the head of a term over the terms of keys
-- before it. The number of a term is the position of its key, from 0.
use Rattle.std.specs.Prelude.{◌≡◌, ◌<◌, ◌⊎◌, ℕ, zero, suc, Option, None, Some, List, [], ◌∷◌, ◌++◌, length}
use Rattle.std.proofs.Common.{get_or, drop}
use Rattle.lotos_base.specs.Signature.{Signature, Operation, prefix_form}
use Rattle.sort_terms.specs.ProfiledTerm.{ProfiledTerm, ProfiledTerms, profiled_variable, profiled_node, no_profiled_terms, profiled_term_then, IsOf}

-- the key of a variable with its number and sort
abbrev pub variable_key : ℕ → ℕ → List ℕ
variable_key n s = 0 ∷ n ∷ s ∷ []

-- the key of an operation on the terms with these numbers
abbrev pub numbered_operation_key : ℕ → List ℕ → List ℕ
numbered_operation_key f ns = 1 ∷ f ∷ ns

-- the operation of a key with the numbers of its arguments, where it is not that of a variable
abbrev pub operation_in : List ℕ → Option (ℕ × List ℕ)
operation_in [] = None
operation_in (zero ∷ ns) = None
operation_in (suc m ∷ []) = None
operation_in (suc m ∷ f ∷ ns) = Some (f, ns)

-- what stands where there is nothing
abbrev pub no_such_term : ProfiledTerm
no_such_term = profiled_variable 0 0

-- the operation with this number
abbrev pub operation_at : Signature → ℕ → Operation
operation_at signature f =
    get_or signature.operations f (record { name = []; form = prefix_form; arguments = []; result = 0; origin = [] })

-- the terms with these numbers
abbrev pub members : List ProfiledTerm → List ℕ → ProfiledTerms
members terms [] = no_profiled_terms
members terms (n ∷ ns) = profiled_term_then (get_or terms n no_such_term) (members terms ns)

-- the term of a key over the terms before it
abbrev pub key_term : Signature → List ProfiledTerm → List ℕ → ProfiledTerm
key_term signature terms [] = no_such_term
key_term signature terms (zero ∷ ns) = profiled_variable (get_or ns 0 0) (get_or ns 1 0)
key_term signature terms (suc m ∷ ns) =
    profiled_node (get_or ns 0 0) (operation_at signature (get_or ns 0 0)) (members terms (drop 1 ns))

-- the terms, and behind them those of the keys
abbrev pub with_key_terms : Signature → List ProfiledTerm → List (List ℕ) → List ProfiledTerm
with_key_terms signature terms [] = terms
with_key_terms signature terms (key ∷ keys) = with_key_terms signature (terms ++ key_term signature terms key ∷ []) keys

-- the terms of the keys, each at the number of its key
abbrev pub key_terms : Signature → List (List ℕ) → List ProfiledTerm
key_terms signature keys = with_key_terms signature [] keys

-- All of the numbers are below the bound.
abbrev pub AreBelow : ℕ → List ℕ → Type 0
AreBelow bound [] = Unit {0}
AreBelow bound (n ∷ ns) = (n < bound) × AreBelow bound ns

-- The key is that of a variable, or of an operation on terms below the bound.
abbrev pub IsCell : ℕ → List ℕ → Type 0
IsCell bound [] = ⊥
IsCell bound (zero ∷ ns) = length ns ≡ 2
IsCell bound (suc m ∷ []) = ⊥
IsCell bound (suc m ∷ f ∷ ns) = (m ≡ 0) × AreBelow bound ns

-- Each of the keys stands on those before it, of which there are so many before the first.
abbrev pub AreCells : ℕ → List (List ℕ) → Type 0
AreCells bound [] = Unit {0}
AreCells bound (key ∷ keys) = IsCell bound key × AreCells (suc bound) keys

-- Each key stands once.
abbrev pub IsOnceEach : List (List ℕ) → Type 0
IsOnceEach keys = (i j : ℕ) → i < length keys → j < length keys → get_or keys i [] ≡ get_or keys j [] → i ≡ j

-- The second list is the first one, or has the key behind it, which the first one has not.
abbrev pub HasOneMore : List (List ℕ) → List ℕ → List (List ℕ) → Type 0
HasOneMore before key after = (after ≡ before) ⊎ (after ≡ before ++ key ∷ [])
    × ((n : ℕ) → n < length before → ¬ (get_or before n [] ≡ key))

-- The key stands at this number.
pub record KeyStandsAt (keys : List (List ℕ)) (key : List ℕ) (n : ℕ) : Type 0 where
  pub within : n < length keys
  pub is : get_or keys n [] ≡ key

-- Each key stands on those before it and once, and the terms are of the signature.
pub record HaveTermsOf (signature : Signature) (keys : List (List ℕ)) : Type 0 where
  pub cells : AreCells 0 keys
  pub once : IsOnceEach keys
  pub of : (n : ℕ) → n < length keys → IsOf signature (get_or (key_terms signature keys) n no_such_term)

-- The second list has the keys of the first one and none, or more, behind them.
abbrev pub Grows : List (List ℕ) → List (List ℕ) → Type 0
Grows before after = (more : List (List ℕ)) × (after ≡ before ++ more)
