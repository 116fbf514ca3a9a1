-- Well-sorted terms, ground terms, and the variables that occur in a term.
use Rattle.std.specs.Prelude.{◌≡◌, ℕ, List, [], ◌∷◌, Option, Some, ◌⊎◌, slice_get}
use Rattle.std.specs.Option.{option_map}
use Rattle.lotos_base.specs.Signature.{Signature, Operation, IsSort, IsOperation}
use Rattle.lotos_base.specs.Term.{Term, variable, node, Terms, no_terms, term_then}

abbrev mutual
  -- The term is well sorted over the signature and has this sort: a variable has its own sort, an operation
  -- its result sort where its arguments have the sorts of its profile.
  pub HasSort : Signature → Term → ℕ → Type 0
  HasSort signature (variable n s) sort = (s ≡ sort) × IsSort signature s
  HasSort signature (node f ts) sort =
      (operation : Operation) × IsOperation signature f operation
      × (operation.result ≡ sort) × HaveSorts signature ts operation.arguments

  -- The terms are well sorted and have these sorts, one by one.
  pub HaveSorts : Signature → Terms → List ℕ → Type 0
  HaveSorts signature no_terms [] = Unit {0}
  HaveSorts signature no_terms (s ∷ ss) = ⊥
  HaveSorts signature (term_then t ts) [] = ⊥
  HaveSorts signature (term_then t ts) (s ∷ ss) = HasSort signature t s × HaveSorts signature ts ss

-- The term is a term of the signature: it is well sorted and has some sort.
abbrev pub IsTermOf : Signature → Term → Type 0
IsTermOf signature t = (sort : ℕ) × HasSort signature t sort

-- The sort that a term's head gives it, if the signature has the operation.
abbrev pub head_sort_of : Signature → Term → Option ℕ
head_sort_of signature (variable n s) = Some s
head_sort_of signature (node f ts) = option_map (λ (o : Operation). o.result) (slice_get signature.operations f)

abbrev mutual
  -- The term has no variable.
  pub IsGround : Term → Type 0
  IsGround (variable n s) = ⊥
  IsGround (node f ts) = AreGround ts

  -- No term of the list has a variable.
  pub AreGround : Terms → Type 0
  AreGround no_terms = Unit {0}
  AreGround (term_then t ts) = IsGround t × AreGround ts

-- The term is a ground term of this sort.
pub record IsGroundOf (signature : Signature) (sort : ℕ) (term : Term) : Type 0 where
  pub ground : IsGround term
  pub sorted : HasSort signature term sort

abbrev mutual
  -- The variable with this number and sort occurs in the term.
  pub Occurs : ℕ → ℕ → Term → Type 0
  Occurs n s (variable m r) = (m ≡ n) × (r ≡ s)
  Occurs n s (node f ts) = OccursAmong n s ts

  -- The variable occurs in one of the terms.
  pub OccursAmong : ℕ → ℕ → Terms → Type 0
  OccursAmong n s no_terms = ⊥
  OccursAmong n s (term_then t ts) = Occurs n s t ⊎ OccursAmong n s ts
