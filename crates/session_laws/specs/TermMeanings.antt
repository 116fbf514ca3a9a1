-- What the names in a term mean where it is printed: each means there what it is printed for, since no variable hides it.
use Rattle.std.specs.Prelude.{◌≡◌, ℕ, List, [], ◌∷◌, Some, slice_get}
use Rattle.lotos_base.specs.Signature.{Signature, Operation, IsOperation, prefix_form}
use Rattle.lotos_base.specs.Equation.{Variable}
use Rattle.lotos_base.specs.Term.{Term, Terms, variable, node, no_terms, term_then}
use Rattle.sort_terms.specs.Reading.{IsLastNamed, NoneNamed}
use Rattle.session_histories.specs.HandedOn.{variable_text}

-- The name that the variable with this number is printed by is, where these variables are visible, the innermost last, that of a
-- variable with this number and sort.
pub record VariableMeans (visible names : List Variable) (number sort : ℕ) : Type 0 where
  pub declared : Variable
  pub last : IsLastNamed visible (variable_text names number) declared
  pub numbered : declared.number ≡ number
  pub sorted : declared.sort ≡ sort

-- No visible variable has the name of a constant, since a name without arguments would be the variable's.
abbrev pub IsUnhidden : List Variable → Operation → Terms → Type 0
IsUnhidden visible operation no_terms = operation.form ≡ prefix_form → NoneNamed visible operation.name
IsUnhidden visible operation (term_then t ts) = Unit {0}

abbrev mutual
  -- The term has this sort, and each name in it means what it is printed for.
  pub TermMeans : Signature → List Variable → List Variable → Term → ℕ → Type 0
  TermMeans signature visible names (variable n s) sort = VariableMeans visible names n s × (s ≡ sort)
  TermMeans signature visible names (node f ts) sort =
      (operation : Operation) × IsOperation signature f operation × IsUnhidden visible operation ts
      × (operation.result ≡ sort) × TermsMean signature visible names ts operation.arguments

  -- The same of terms with their sorts, one by one.
  pub TermsMean : Signature → List Variable → List Variable → Terms → List ℕ → Type 0
  TermsMean signature visible names no_terms [] = Unit {0}
  TermsMean signature visible names no_terms (s ∷ ss) = ⊥
  TermsMean signature visible names (term_then t ts) [] = ⊥
  TermsMean signature visible names (term_then t ts) (s ∷ ss) =
      TermMeans signature visible names t s × TermsMean signature visible names ts ss

-- The visible variables are printed by their own names: no other one is looked up by the number of one of them.
abbrev pub AreLookedUp : List Variable → List Variable → Type 0
AreLookedUp visible names = (i : ℕ) (v : Variable) → slice_get visible i ≡ Some v → variable_text names v.number ≡ v.name
