-- Readings of a written term: the well-sorted terms that follow it node by node (ISO 8807, overloading of operations).
use Rattle.std.specs.Prelude.{◌≡◌, ◌<◌, ℕ, List, [], ◌∷◌, Some, slice_get}
use Rattle.lotos_base.specs.WrittenTerm.{PlacedName, WrittenHead, WrittenTerm, WrittenTerms, written, no_written, written_then}
use Rattle.lotos_base.specs.Names.{AreOneName}
use Rattle.lotos_base.specs.Signature.{Signature, Sort, Operation, IsSort, IsOperation, prefix_form}
use Rattle.lotos_base.specs.Equation.{Variable}
use Rattle.lotos_base.specs.Term.{Term, Terms, variable, node, no_terms, term_then}

-- Each variable in scope has a sort of the signature.
abbrev pub IsScopeOver : Signature → List Variable → Type 0
IsScopeOver signature scope = (i : ℕ) (v : Variable) → slice_get scope i ≡ Some v → IsSort signature v.sort

-- The variable is the last one in scope of this name: it hides the earlier ones.
pub record IsLastNamed (scope : List Variable) (name : List ℕ) (v : Variable) : Type 0 where
  pub position : ℕ
  pub found : slice_get scope position ≡ Some v
  pub named : AreOneName v.name name
  pub last : (i : ℕ) (w : Variable) → position < i → slice_get scope i ≡ Some w → ¬ AreOneName w.name name

-- No variable in scope has this name.
abbrev pub NoneNamed : List Variable → List ℕ → Type 0
NoneNamed scope name = (i : ℕ) (v : Variable) → slice_get scope i ≡ Some v → ¬ AreOneName v.name name

-- A bare name: one that stands before no arguments, and so may be that of a variable.
abbrev pub IsBare : WrittenHead → WrittenTerms → Type 0
IsBare head no_written = head.form ≡ prefix_form
IsBare head (written_then w ws) = ⊥

-- No variable hides what stands at the node.
abbrev pub IsVisible : List Variable → WrittenHead → WrittenTerms → Type 0
IsVisible scope head arguments = IsBare head arguments → NoneNamed scope head.name

-- The sort has this name.
abbrev pub IsSortNamed : Signature → ℕ → List ℕ → Type 0
IsSortNamed signature sort name = (s : Sort) × (slice_get signature.sorts sort ≡ Some s) × AreOneName s.name name

-- Each `of` on the node names the sort.
abbrev pub IsAsked : Signature → List PlacedName → ℕ → Type 0
IsAsked signature [] sort = Unit {0}
IsAsked signature (asked ∷ rest) sort = IsSortNamed signature sort asked.name × IsAsked signature rest sort

-- The node is the variable with this number and sort: the last one in scope of its bare name.
pub record IsVariableAt (signature : Signature) (scope : List Variable) (head : WrittenHead) (arguments : WrittenTerms)
    (number sort : ℕ) : Type 0 where
  pub bare : IsBare head arguments
  pub declared : Variable
  pub last : IsLastNamed scope head.name declared
  pub numbered : declared.number ≡ number
  pub sorted : declared.sort ≡ sort
  pub asked : IsAsked signature head.sorts sort

-- The node is the operation with this number and profile, its arguments aside: one of its name and form that no
-- variable hides.
pub record IsOperationAt (signature : Signature) (scope : List Variable) (head : WrittenHead) (arguments : WrittenTerms)
    (f : ℕ) (operation : Operation) : Type 0 where
  pub is_there : IsOperation signature f operation
  pub named : AreOneName operation.name head.name
  pub formed : operation.form ≡ head.form
  pub visible : IsVisible scope head arguments
  pub asked : IsAsked signature head.sorts operation.result

abbrev mutual
  -- The term is a reading of the written term, with this sort.
  pub Reads : Signature → List Variable → WrittenTerm → Term → ℕ → Type 0
  Reads signature scope (written head arguments) (variable n s) sort =
      IsVariableAt signature scope head arguments n s × (s ≡ sort)
  Reads signature scope (written head arguments) (node f ts) sort =
      (operation : Operation) × IsOperationAt signature scope head arguments f operation
      × (operation.result ≡ sort) × AllRead signature scope arguments ts operation.arguments

  -- The terms are readings of the written terms, with these sorts, one by one.
  pub AllRead : Signature → List Variable → WrittenTerms → Terms → List ℕ → Type 0
  AllRead signature scope no_written no_terms [] = Unit {0}
  AllRead signature scope no_written no_terms (s ∷ ss) = ⊥
  AllRead signature scope no_written (term_then t ts) ss = ⊥
  AllRead signature scope (written_then w ws) no_terms ss = ⊥
  AllRead signature scope (written_then w ws) (term_then t ts) [] = ⊥
  AllRead signature scope (written_then w ws) (term_then t ts) (s ∷ ss) =
      Reads signature scope w t s × AllRead signature scope ws ts ss
