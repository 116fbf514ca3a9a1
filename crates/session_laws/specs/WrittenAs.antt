-- What a term is written as: a variable by its name alone; an operation by its name and form, with the sort of its result behind
-- `of` exactly where it has a twin, on what its arguments are written as. Where the names stand is left open.
use Rattle.std.specs.Prelude.{◌≡◌, ℕ, List, [], ◌∷◌, Some, slice_get}
use Rattle.lotos_base.specs.WrittenTerm.{PlacedName, WrittenHead, WrittenTerm, WrittenTerms, written, no_written, written_then}
use Rattle.lotos_base.specs.Signature.{Signature, Sort, Operation, IsOperation, prefix_form}
use Rattle.lotos_base.specs.Equation.{Variable}
use Rattle.lotos_base.specs.Term.{Term, Terms, variable, node, no_terms, term_then}
use Rattle.lotos_base.specs.Twins.{HasTwin}
use Rattle.session_histories.specs.HandedOn.{variable_text}

-- what `of` puts on an operation: the sort of its result where it has a twin, and nothing where it has none
pub data IsMarkOf (signature : Signature) (operation : Operation) : List PlacedName → Type 0 where
  no_mark : ¬ HasTwin signature operation → IsMarkOf signature operation []
  mark : {asked : PlacedName} {sort : Sort} →
      HasTwin signature operation → slice_get signature.sorts operation.result ≡ Some sort → asked.name ≡ sort.name →
      IsMarkOf signature operation (asked ∷ [])

-- what stands at the node of an operation
pub record IsHeadOf (signature : Signature) (operation : Operation) (head : WrittenHead) : Type 0 where
  pub named : head.name ≡ operation.name
  pub formed : head.form ≡ operation.form
  pub marked : IsMarkOf signature operation head.sorts

-- what stands at a variable: its name, without a sort
pub record IsNameAlone (name : List ℕ) (head : WrittenHead) : Type 0 where
  pub named : head.name ≡ name
  pub formed : head.form ≡ prefix_form
  pub unmarked : head.sorts ≡ []

abbrev mutual
  -- the term is written as this, where the names of variables are looked up in these
  pub IsWrittenAs : Signature → List Variable → Term → WrittenTerm → Type 0
  IsWrittenAs signature names (variable n s) (written head no_written) = IsNameAlone (variable_text names n) head
  IsWrittenAs signature names (variable n s) (written head (written_then w ws)) = ⊥
  IsWrittenAs signature names (node f ts) (written head ws) =
      (operation : Operation) × IsOperation signature f operation × IsHeadOf signature operation head
      × AreWrittenAs signature names ts ws

  -- the terms are written as these, one by one
  pub AreWrittenAs : Signature → List Variable → Terms → WrittenTerms → Type 0
  AreWrittenAs signature names no_terms no_written = Unit {0}
  AreWrittenAs signature names no_terms (written_then w ws) = ⊥
  AreWrittenAs signature names (term_then t ts) no_written = ⊥
  AreWrittenAs signature names (term_then t ts) (written_then w ws) =
      IsWrittenAs signature names t w × AreWrittenAs signature names ts ws
