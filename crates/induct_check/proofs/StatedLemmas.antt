-- Lemmas that are read are stated over the signature.
use Rattle.std.proofs.Common.{◌≡◌, ◌<◌, ℕ, List, [], ◌∷◌, ◌++◌, Some, slice_get, map, inl, inr, ap, sym, ◌∙◌, subst}
use Rattle.std.proofs.lemmas.Option.{slice_get_within}
use Rattle.lotos_base.proofs.Members.{at_map, from_map, member_at}
use Rattle.lotos_base.specs.Equation.{Variable}
use Rattle.lotos_base.specs.Signature.{Signature, IsSort}
use Rattle.lotos_base.specs.Sorting.{Occurs, OccursAmong}
use Rattle.lotos_base.specs.Term.{Term, Terms, variable, node, no_terms, term_then}
use Rattle.lotos_base.specs.WrittenTerm.{WrittenTerm, WrittenTerms, written, no_written, written_then}
use Rattle.sort_terms.specs.Reading.{Reads, AllRead, IsSortNamed}
use Rattle.sort_terms.specs.ReadingOutcome.{SortedPair, IsPairReading, unknown_in}
use Rattle.sort_terms.proofs.ReadsLemmas.{reads_sorted}
use Rattle.syntax_trees.specs.WrittenVariable.{WrittenVariable}
use Rattle.sort_terms.proofs.OutcomeLemmas.{is_reading}
use Rattle.induct_parts.specs.HandedOn.{Statement, IsStated}
use Rattle.induct_check.specs.CertificateReading.{AreNumbered, AreReadSides, stated_lemma}
use Rattle.induct_check.specs.PieceView.{AreKnownVariables}

sort_there : (signature : Signature) (s : ℕ) (name : List ℕ) → IsSortNamed signature s name → IsSort signature s
sort_there signature s name named = slice_get_within signature.sorts s named.0 named.1

written_at : (signature : Signature) (ws : List WrittenVariable) (variables : List Variable) (i : ℕ) (v : Variable)
    → AreNumbered signature ws variables → slice_get variables i ≡ Some v → (w : WrittenVariable) × (slice_get ws i ≡ Some w)
written_at signature ws variables i v are at =
    member_at ws i (subst (λ (n : ℕ). i < n) are.count (slice_get_within variables i v at))

pub known_variables : (signature : Signature) (ws : List WrittenVariable) (variables : List Variable)
    → AreNumbered signature ws variables → AreKnownVariables signature variables
known_variables signature ws variables are = record {
  over = λ i v at.
      let w = written_at signature ws variables i v are at in
      let h = are.each i w.0 v w.1 at in
      sort_there signature v.sort w.0.sort h.2;
  numbered = λ i v at.
      let w = written_at signature ws variables i v are at in
      let h = are.each i w.0 v w.1 at in
      h.1;
}

pub no_variables : (signature : Signature) → AreKnownVariables signature []
no_variables signature = record { over = λ i v at. absurd (cc at); numbered = λ i v at. absurd (cc at) }

-- ---- Variables that occur

abbrev pub Declared : List Variable → ℕ → ℕ → Type 0
Declared scope n s = (i : ℕ) × (v : Variable) × (slice_get scope i ≡ Some v) × (v.number ≡ n) × (v.sort ≡ s)

mutual
  occurs_declared : (signature : Signature) (scope : List Variable) (w : WrittenTerm) (t : Term) (sort n s : ℕ)
      → Reads signature scope w t sort → Occurs n s t → Declared scope n s
  occurs_declared signature scope (written head ws) (variable m r) sort n s reads occurs =
      let v = reads.0 in
      (v.last.position, v.declared, v.last.found, v.numbered ∙ occurs.0, v.sorted ∙ occurs.1)
  occurs_declared signature scope (written head ws) (node f ts) sort n s reads occurs =
      among_declared signature scope ws ts reads.0.arguments n s reads.3 occurs

  among_declared : (signature : Signature) (scope : List Variable) (ws : WrittenTerms) (ts : Terms) (sorts : List ℕ) (n s : ℕ)
      → AllRead signature scope ws ts sorts → OccursAmong n s ts → Declared scope n s
  among_declared signature scope no_written no_terms [] n s reads occurs = absurd occurs
  among_declared signature scope no_written no_terms (r ∷ rs) n s reads occurs = absurd reads
  among_declared signature scope no_written (term_then t ts) rs n s reads occurs = absurd reads
  among_declared signature scope (written_then w ws) no_terms rs n s reads occurs = absurd reads
  among_declared signature scope (written_then w ws) (term_then t ts) [] n s reads occurs = absurd reads
  among_declared signature scope (written_then w ws) (term_then t ts) (r ∷ rs) n s reads (inl here) =
      occurs_declared signature scope w t r n s reads.0 here
  among_declared signature scope (written_then w ws) (term_then t ts) (r ∷ rs) n s reads (inr there) =
      among_declared signature scope ws ts rs n s reads.1 there

listed_there : (signature : Signature) (variables : List Variable) (n s : ℕ) → AreKnownVariables signature variables
    → Declared variables n s → slice_get (map (λ (v : Variable). v.sort) variables) n ≡ Some s
listed_there signature variables n s known (i, v, at, numbered, sorted) =
    let is : i ≡ n = sym (known.numbered i v at) ∙ numbered in
    subst (λ (k : ℕ). slice_get (map (λ (v : Variable). v.sort) variables) k ≡ Some s) is
    (at_map (λ (v : Variable). v.sort) variables i v at ∙ ap (λ (r : ℕ). Some r) sorted)

sort_listed : (signature : Signature) (variables : List Variable) (n s : ℕ) → AreKnownVariables signature variables
    → slice_get (map (λ (v : Variable). v.sort) variables) n ≡ Some s → IsSort signature s
sort_listed signature variables n s known at =
    let there = from_map (λ (v : Variable). v.sort) variables n s at in
    subst (λ (r : ℕ). IsSort signature r) there.2 (known.over n there.0 there.1)

pub sides_stated : (signature : Signature) (variables : List Variable) (left right : WrittenTerm) (statement : Statement)
    → AreKnownVariables signature variables → AreReadSides signature variables left right statement
    → IsStated signature (stated_lemma variables statement)
sides_stated signature variables left right statement known sides =
    let pair : SortedPair = record { left = statement.left; right = statement.right; sort = sides.0 } in
    let reads : IsPairReading signature variables left right pair =
    is_reading (unknown_in signature variables left ++ unknown_in signature variables right) _
    (IsPairReading signature variables left right) pair sides.1 in
    record {
      sort = sides.0;
      left = reads_sorted signature variables known.over left statement.left sides.0 reads.0;
      right = reads_sorted signature variables known.over right statement.right sides.0 reads.1;
      left_listed = λ n s occurs. listed_there signature variables n s known
          (occurs_declared signature variables left statement.left sides.0 n s reads.0 occurs);
      right_listed = λ n s occurs. listed_there signature variables n s known
          (occurs_declared signature variables right statement.right sides.0 n s reads.1 occurs);
      sorts = λ n s at. sort_listed signature variables n s known at;
    }
