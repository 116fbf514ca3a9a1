-- Terms whose operations carry their profiles, as the code keeps them: their sorts are known without a signature.
use Rattle.std.specs.Prelude.{◌≡◌, ℕ, List, [], ◌∷◌}
use Rattle.lotos_base.specs.Signature.{Signature, Operation, IsSort, IsOperation}
use Rattle.lotos_base.specs.Term.{Term, variable, node, Terms, no_terms, term_then}

mutual
  -- A variable with its number and sort, or an operation with its number, its profile and its arguments.
  pub data ProfiledTerm : Type 0 where
    profiled_variable : ℕ → ℕ → ProfiledTerm
    profiled_node : ℕ → Operation → ProfiledTerms → ProfiledTerm

  -- A list of such terms.
  pub data ProfiledTerms : Type 0 where
    no_profiled_terms : ProfiledTerms
    profiled_term_then : ProfiledTerm → ProfiledTerms → ProfiledTerms

abbrev mutual
  -- The term without the profiles.
  pub bare : ProfiledTerm → Term
  bare (profiled_variable n s) = variable n s
  bare (profiled_node f operation ts) = node f (all_bare ts)

  -- The terms without the profiles.
  pub all_bare : ProfiledTerms → Terms
  all_bare no_profiled_terms = no_terms
  all_bare (profiled_term_then t ts) = term_then (bare t) (all_bare ts)

-- The sort that the head of the term tells: that of the variable, or the result of the operation.
abbrev pub head_sort : ProfiledTerm → ℕ
head_sort (profiled_variable n s) = s
head_sort (profiled_node f operation ts) = operation.result

abbrev mutual
  -- Each operation in the term has the arguments of its profile.
  pub FitsProfiles : ProfiledTerm → Type 0
  FitsProfiles (profiled_variable n s) = Unit {0}
  FitsProfiles (profiled_node f operation ts) = FitArguments ts operation.arguments

  -- The terms have these sorts, one by one, and each operation in them has the arguments of its profile.
  pub FitArguments : ProfiledTerms → List ℕ → Type 0
  FitArguments no_profiled_terms [] = Unit {0}
  FitArguments no_profiled_terms (s ∷ ss) = ⊥
  FitArguments (profiled_term_then t ts) [] = ⊥
  FitArguments (profiled_term_then t ts) (s ∷ ss) = (head_sort t ≡ s) × FitsProfiles t × FitArguments ts ss

abbrev mutual
  -- The term is of the signature: each of its operations has the number and the profile of one operation there, and
  -- each variable has a sort of it.
  pub IsOf : Signature → ProfiledTerm → Type 0
  IsOf signature (profiled_variable n s) = IsSort signature s
  IsOf signature (profiled_node f operation ts) = IsOperation signature f operation × AreOf signature ts

  -- The terms are of the signature.
  pub AreOf : Signature → ProfiledTerms → Type 0
  AreOf signature no_profiled_terms = Unit {0}
  AreOf signature (profiled_term_then t ts) = IsOf signature t × AreOf signature ts

-- Each of the terms has the property.
abbrev pub All : (ProfiledTerm → Type 0) → ProfiledTerms → Type 0
All P no_profiled_terms = Unit {0}
All P (profiled_term_then t ts) = P t × All P ts
