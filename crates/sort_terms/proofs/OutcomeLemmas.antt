-- What an outcome of a reading tells, and that a term that is read without variables is ground.
use Rattle.sort_terms.specs.ReadingOutcome.{answered, refused, ComesTo, ReadingRefusal, SortedTerm}
use Rattle.sort_terms.specs.Reading.{Reads, AllRead}
use Rattle.lotos_base.specs.Equation.{Place}
use Rattle.lotos_base.specs.Signature.{Signature}
use Rattle.lotos_base.specs.Term.{Term, Terms, variable, node, no_terms, term_then}
use Rattle.lotos_base.specs.Sorting.{IsGround, AreGround}
use Rattle.lotos_base.specs.WrittenTerm.{WrittenTerm, WrittenTerms, written, no_written, written_then}
use Rattle.std.proofs.Common.{List, [], ◌∷◌, ◌≡◌, ℕ}
use Rattle.std.proofs.lemmas.Option.{none-some}

pub is_reading : {A : Type 0} (unknown : List ReadingRefusal) (place : Place) (Is : A → Type 0) (one : A)
    → ComesTo unknown place Is (answered one) → Is one
is_reading (first ∷ rest) place Is one comes = absurd comes
is_reading [] place Is one comes = comes.is_answer

pub not_answered_and_refused : {A : Type 0} (one : A) (other : ReadingRefusal) → answered one ≡ refused other → ⊥
not_answered_and_refused one other same = absurd (cc same)

pub same_answer : (one other : SortedTerm) → answered one ≡ answered other → one ≡ other
same_answer one other e = cc e

-- a term that is read without variables is ground
mutual
  pub read_ground : (signature : Signature) (w : WrittenTerm) (t : Term) (sort : ℕ) → Reads signature [] w t sort → IsGround t
  read_ground signature (written head arguments) (variable n s) sort reads = absurd (none-some _ reads.0.last.found)
  read_ground signature (written head arguments) (node f ts) sort reads = all_ground signature arguments ts _ reads.3

  pub all_ground : (signature : Signature) (ws : WrittenTerms) (ts : Terms) (sorts : List ℕ)
      → AllRead signature [] ws ts sorts → AreGround ts
  all_ground signature no_written no_terms [] reads = tt
  all_ground signature no_written no_terms (s ∷ ss) reads = absurd reads
  all_ground signature no_written (term_then t ts) ss reads = absurd reads
  all_ground signature (written_then w ws) no_terms ss reads = absurd reads
  all_ground signature (written_then w ws) (term_then t ts) [] reads = absurd reads
  all_ground signature (written_then w ws) (term_then t ts) (s ∷ ss) reads =
      (read_ground signature w t s reads.0, all_ground signature ws ts ss reads.1)
