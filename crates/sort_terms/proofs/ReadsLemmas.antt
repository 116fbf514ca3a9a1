-- Readings are well-sorted terms, and a question about a text comes to one thing.
use Rattle.std.proofs.Common.{◌≡◌, ℕ, List, [], ◌∷◌, inl, inr, ap, sym, ◌∙◌, subst}
use Rattle.lotos_base.specs.WrittenTerm.{WrittenTerm, WrittenTerms, written, no_written, written_then}
use Rattle.lotos_base.specs.Signature.{Signature, IsSort}
use Rattle.lotos_base.specs.Equation.{Place, Variable}
use Rattle.lotos_base.specs.Sorting.{HasSort, HaveSorts}
use Rattle.lotos_base.specs.Term.{Term, Terms, variable, node, no_terms, term_then}
use Rattle.sort_terms.specs.Reading.{Reads, AllRead, IsScopeOver}
use Rattle.sort_terms.specs.ReadingOutcome.{ReadingRefusal, ReadingOutcome, answered, refused, ComesTo}

-- the same scope over the same signature
pub scope_over : (signature other : Signature) (scope variables : List Variable) → other ≡ signature → variables ≡ scope
    → IsScopeOver signature scope → IsScopeOver other variables
scope_over signature other scope variables same are over =
    subst (λ (x : Signature). IsScopeOver x variables) (sym same) (subst (λ (vs : List Variable). IsScopeOver signature vs) (sym are) over)

mutual
  pub reads_sorted : (signature : Signature) (scope : List Variable) → IsScopeOver signature scope → (w : WrittenTerm) (t : Term) (sort : ℕ)
      → Reads signature scope w t sort → HasSort signature t sort
  reads_sorted signature scope over (written head ws) (variable n s) sort reads =
      let v = reads.0 in
      (reads.1, subst (λ (q : ℕ). IsSort signature q) v.sorted (over v.last.position v.declared v.last.found))
  reads_sorted signature scope over (written head ws) (node f ts) sort reads =
      (reads.0, reads.1.is_there, reads.2, all_sorted signature scope over ws ts reads.0.arguments reads.3)

  pub all_sorted : (signature : Signature) (scope : List Variable) → IsScopeOver signature scope → (ws : WrittenTerms) (ts : Terms)
      (sorts : List ℕ)
      → AllRead signature scope ws ts sorts → HaveSorts signature ts sorts
  all_sorted signature scope over no_written no_terms [] reads = tt
  all_sorted signature scope over no_written no_terms (s ∷ ss) reads = absurd reads
  all_sorted signature scope over no_written (term_then t ts) ss reads = absurd reads
  all_sorted signature scope over (written_then w ws) no_terms ss reads = absurd reads
  all_sorted signature scope over (written_then w ws) (term_then t ts) [] reads = absurd reads
  all_sorted signature scope over (written_then w ws) (term_then t ts) (s ∷ ss) reads =
      (reads_sorted signature scope over w t s reads.0, all_sorted signature scope over ws ts ss reads.1)

pub comes_once : {A : Type 0} (unknown : List ReadingRefusal) (place : Place) (P : A → Type 0) (one other : ReadingOutcome A)
    → ComesTo unknown place P one → ComesTo unknown place P other → one ≡ other
comes_once (r ∷ rs) place P (answered x) other h k = absurd h
comes_once (r ∷ rs) place P (refused q) (answered y) h k = absurd k
comes_once (r ∷ rs) place P (refused q) (refused p) h k = ap (λ (x : ReadingRefusal). refused x) (h ∙ sym k)
comes_once [] place P (answered x) (answered y) h k = ap (λ z. answered z) (k.only x h.is_answer)
comes_once [] place P (answered x) (refused q) h (inl none) = absurd (none.0 x h.is_answer)
comes_once [] place P (answered x) (refused q) h (inr two) =
    absurd (two.0.differ (h.only two.0.one two.0.one_is ∙ sym (h.only two.0.other two.0.other_is)))
comes_once [] place P (refused q) (answered y) (inl none) k = absurd (none.0 y k.is_answer)
comes_once [] place P (refused q) (answered y) (inr two) k =
    absurd (two.0.differ (k.only two.0.one two.0.one_is ∙ sym (k.only two.0.other two.0.other_is)))
comes_once [] place P (refused q) (refused p) (inl none) (inl nothing) = ap (λ (x : ReadingRefusal). refused x) (none.1 ∙ sym nothing.1)
comes_once [] place P (refused q) (refused p) (inl none) (inr two) = absurd (none.0 two.0.one two.0.one_is)
comes_once [] place P (refused q) (refused p) (inr two) (inl none) = absurd (none.0 two.0.one two.0.one_is)
comes_once [] place P (refused q) (refused p) (inr two) (inr both) = ap (λ (x : ReadingRefusal). refused x) (two.1 ∙ sym both.1)
