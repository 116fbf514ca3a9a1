-- What the terms of a behaviour are read as is well formed.
use Rattle.std.proofs.Common.{◌≡◌, ℕ, List, [], ◌∷◌, inl, inr, ap, sym, ◌∙◌, subst}
use Rattle.std.specs.Prelude.{None, Some, slice_get}
use Rattle.lotos_base.specs.WrittenTerm.{WrittenTerm, WrittenTerms, written, no_written, written_then}
use Rattle.lotos_base.specs.Signature.{Signature}
use Rattle.lotos_base.specs.Term.{Term, Terms, variable, node, no_terms, term_then}
use Rattle.lotos_base.specs.Sorting.{Occurs, OccursAmong}
use Rattle.lotos_base.specs.Equation.{Variable}
use Rattle.sort_terms.specs.Reading.{Reads, AllRead, IsScopeOver}
use Rattle.sort_terms.specs.ReadingOutcome.{IsReading, IsPairReading, unknown_in}
use Rattle.sort_terms.proofs.ReadsLemmas.{reads_sorted}
use Rattle.sort_terms.proofs.OutcomeLemmas.{is_reading}
use Rattle.behaviour_semantics.specs.Behaviour.{Test}
use Rattle.behaviour_semantics.specs.WellFormed.{sort_in, IsTermIn, IsTestIn}
use Rattle.scope_parts.specs.Resolution.{resolved}
use Rattle.scope_parts.specs.Terms.{TermIs, PairIs}

-- each variable of the list has its sort by its number
abbrev pub AreIn : List Variable → List Variable → Type 0
AreIn variables scope = (i : ℕ) (v : Variable) → slice_get variables i ≡ Some v → sort_in scope v.number ≡ Some v.sort

mutual
  -- a variable that occurs in a reading is one that is visible
  occurring : (signature : Signature) (variables : List Variable) (w : WrittenTerm) (t : Term) (sort n s : ℕ)
      → Reads signature variables w t sort → Occurs n s t
      → (i : ℕ) × (v : Variable) × (slice_get variables i ≡ Some v) × (v.number ≡ n) × (v.sort ≡ s)
  occurring signature variables (written head ws) (variable m r) sort n s reads occurs = (
    reads.0.last.position,
    reads.0.declared,
    reads.0.last.found,
    reads.0.numbered ∙ occurs.0,
    reads.0.sorted ∙ occurs.1,
  )
  occurring signature variables (written head ws) (node f ts) sort n s reads occurs =
      all_occurring signature variables ws ts reads.0.arguments n s reads.3 occurs

  all_occurring : (signature : Signature) (variables : List Variable) (ws : WrittenTerms) (ts : Terms) (sorts : List ℕ) (n s : ℕ)
      → AllRead signature variables ws ts sorts → OccursAmong n s ts
      → (i : ℕ) × (v : Variable) × (slice_get variables i ≡ Some v) × (v.number ≡ n) × (v.sort ≡ s)
  all_occurring signature variables ws no_terms sorts n s reads occurs = absurd occurs
  all_occurring signature variables no_written (term_then t ts) sorts n s reads occurs = absurd reads
  all_occurring signature variables (written_then w ws) (term_then t ts) [] n s reads occurs = absurd reads
  all_occurring signature variables (written_then w ws) (term_then t ts) (r ∷ rs) n s reads (inl here) =
      occurring signature variables w t r n s reads.0 here
  all_occurring signature variables (written_then w ws) (term_then t ts) (r ∷ rs) n s reads (inr there) =
      all_occurring signature variables ws ts rs n s reads.1 there

reading_formed : (signature : Signature) (variables scope : List Variable) (w : WrittenTerm) (t : Term) (sort : ℕ)
    → IsScopeOver signature variables → AreIn variables scope → Reads signature variables w t sort → IsTermIn signature scope sort t
reading_formed signature variables scope w t sort over are reads = record {
  sorted = reads_sorted signature variables over w t sort reads;
  bound = λ n s occurs.
      let at = occurring signature variables w t sort n s reads occurs in
      ap (sort_in scope) (sym at.3) ∙ are at.0 at.1 at.2 ∙ ap Some at.4;
}

-- a term without an expected sort, and one with it
pub term_formed : (signature : Signature) (variables scope : List Variable) (w : WrittenTerm) (t : Term) → IsScopeOver signature variables
    → AreIn variables scope → TermIs signature variables w None (resolved t) → (sort : ℕ) × IsTermIn signature scope sort t
term_formed signature variables scope w t over are is =
    let reading = is_reading (unknown_in signature variables w) _ (IsReading signature variables w None) is.0 is.1 in (
      is.0.sort,
      subst (λ (x : Term). IsTermIn signature scope is.0.sort x) (sym is.2)
          (reading_formed signature variables scope w is.0.term is.0.sort over are reading.0),
    )

pub expected_formed : (signature : Signature) (variables scope : List Variable) (w : WrittenTerm) (t : Term) (sort : ℕ)
    → IsScopeOver signature variables → AreIn variables scope → TermIs signature variables w (Some sort) (resolved t)
    → IsTermIn signature scope sort t
expected_formed signature variables scope w t sort over are is =
    let reading = is_reading (unknown_in signature variables w) _ (IsReading signature variables w (Some sort)) is.0 is.1 in
    subst (λ (x : Term). IsTermIn signature scope sort x) (sym is.2)
    (subst (λ (r : ℕ). IsTermIn signature scope r is.0.term) reading.1
    (reading_formed signature variables scope w is.0.term is.0.sort over are reading.0))

pub pair_formed : (signature : Signature) (variables scope : List Variable) (left right : WrittenTerm) (test : Test)
    → IsScopeOver signature variables → AreIn variables scope → PairIs signature variables left right (resolved test)
    → IsTestIn signature scope test
pair_formed signature variables scope left right test over are is =
    let reading = is_reading _ _ (IsPairReading signature variables left right) is.0 is.1 in
    subst (λ (x : Test). IsTestIn signature scope x) (sym is.2) (record {
      sort = is.0.sort;
      left = reading_formed signature variables scope left is.0.left is.0.sort over are reading.0;
      right = reading_formed signature variables scope right is.0.right is.0.sort over are reading.1;
    })
