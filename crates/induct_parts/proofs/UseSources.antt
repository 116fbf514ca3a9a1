-- The lemma or hypothesis that a use takes: what is known of it, and that there is none past the end.
use Rattle.std.proofs.Common.{◌≡◌, ℕ, List, map, ap, sym, ◌∙◌, subst, inl, inr}
use Rattle.std.specs.Prelude.{None, Some, slice_get}
use Rattle.std.proofs.lemmas.Option.{same_Some}
use Rattle.lotos_base.proofs.Each.{Each, each_member}
use Rattle.lotos_base.proofs.Members.{at_map, from_map, past_map}
use Rattle.lotos_base.proofs.Options.{none_and_some}
use Rattle.lotos_base.proofs.SortLemmas.{one_sort}
use Rattle.lotos_base.specs.Signature.{Signature}
use Rattle.lotos_base.specs.Sorting.{HasSort}
use Rattle.sort_terms.specs.ProfiledTerm.{ProfiledTerm, profiled_variable}
use Rattle.sort_terms.specs.SortedView.{profiled_in, term_in}
use Rattle.sort_terms.specs.declared.sorted.Sorted.{Sorted}
use Rattle.term_match.specs.Matched.{IsPair}
use Rattle.term_match.specs.SubstView.{profiled_pair, profiled_pairs}
use Rattle.term_match.proofs.UnifierLemmas.{pair_of_code}
use Rattle.certificate_theory.specs.InductionCertificate.{Statement as PlainStatement, Lemma as PlainLemma}
use Rattle.certificate_theory.specs.Certified.{statements_of}
use Rattle.certificate_theory.specs.Requirements.{OccursInSide}
use Rattle.certificate_theory.specs.Uses.{IsOfSource, StandsForItself}
use Rattle.certificate_theory.proofs.Each.{each_of}
use Rattle.certificate_theory.proofs.CaseLemmas.{IsFineHypothesis}
use Rattle.induct_parts.specs.StatementView.{statement_of, IsStatementOf}
use Rattle.induct_parts.specs.CertificateView.{lemma_in, lemmas_in, use_source_of}
use Rattle.induct_parts.specs.SettingView.{setting_signature, IsKnownLemma, proving_in, AreKnownBefore}
use Rattle.induct_parts.specs.CaseView.{case_in, IsKnownCase}
use Rattle.induct_parts.specs.UseView.{IsKnownSource, StandsRight}
use Rattle.induct_parts.specs.declared.statements.Statement.{Statement}
use Rattle.induct_parts.specs.declared.certificates.Source.{Source}
use Rattle.induct_parts.specs.declared.certificates.Source.TheVariants.{Lemma, Hypothesis}
use Rattle.induct_parts.specs.declared.certificates.StatedLemma.{StatedLemma}
use Rattle.induct_parts.specs.declared.setting.Setting.{Setting}
use Rattle.induct_parts.specs.declared.setting.Proving.{Proving}
use Rattle.induct_parts.specs.declared.cases.Case.{Case}
use Rattle.induct_parts.proofs.CaseSteps.{hypothesis_known}
use Rattle.induct_parts.proofs.UseLemmas.{taken_sorted}

-- sides of the signature with one sort are kept with one sort
sides_sort : (signature : Signature) (statement : Statement) (sort : ℕ) → IsStatementOf signature statement
    → HasSort signature (term_in statement.left) sort → HasSort signature (term_in statement.right) sort
    → statement.left.sort ≡ statement.right.sort
sides_sort signature statement sort over left right =
    one_sort signature (term_in statement.left) statement.left.sort sort (taken_sorted signature statement.left over.left) left
    ∙ sym (one_sort signature (term_in statement.right) statement.right.sort sort
    (taken_sorted signature statement.right over.right) right)

-- the statement of the lemma with the number
statement_there : (lemmas : List StatedLemma) (k : ℕ) (lemma : StatedLemma) → slice_get lemmas k ≡ Some lemma
    → slice_get (statements_of (lemmas_in lemmas)) k ≡ Some (statement_of lemma.statement)
statement_there lemmas k lemma at =
    at_map (λ (one : PlainLemma). one.statement) (lemmas_in lemmas) k (lemma_in lemma) (at_map lemma_in lemmas k lemma at)

pub lemma_source : (setting : Setting) (proving : Proving) (point : Case) (k : ℕ) (lemma : StatedLemma)
    → AreKnownBefore (setting_signature setting) proving → slice_get proving.earlier.now k ≡ Some lemma
    → IsKnownSource setting proving point (Lemma k) lemma.statement
lemma_source setting proving point k lemma before at = record {
  is_there = statement_there proving.earlier.now k lemma at;
  over = known.over;
  one_sort = sides_sort (setting_signature setting) lemma.statement known.stated.sort known.over known.stated.left known.stated.right;
  numbers = λ n r s o u. same_Some r s (sym (listed n r o) ∙ listed n s u);
}
  where
    known : IsKnownLemma (setting_signature setting) lemma
    known = each_member (IsKnownLemma (setting_signature setting)) proving.earlier.now k lemma before at

    listed : (n s : ℕ) → OccursInSide (statement_of lemma.statement) n s → slice_get lemma.variables.items n ≡ Some s
    listed n s (inl o) = known.stated.left_listed n s o
    listed n s (inr o) = known.stated.right_listed n s o

pub hypothesis_source : (setting : Setting) (proving : Proving) (point : Case) (k : ℕ) (h : Statement)
    → IsKnownCase (setting_signature setting) proving.free point → slice_get point.hypotheses.items k ≡ Some h
    → IsKnownSource setting proving point (Hypothesis k) h
hypothesis_source setting proving point k h known at = record {
  is_there = at_map statement_of point.hypotheses.items k h at;
  over = over;
  one_sort = sides_sort (setting_signature setting) h fine.sort over fine.left fine.right;
  numbers = λ n r s o u. same_Some r s (sym (fine.listed n r o).0 ∙ (fine.listed n s u).0);
}
  where
    over : IsStatementOf (setting_signature setting) h
    over = each_member (IsStatementOf (setting_signature setting)) point.hypotheses.items k h known.hypotheses at

    fine : IsFineHypothesis (setting_signature setting) proving.free point.sorts.items point.gone.items (statement_of h)
    fine = hypothesis_known (setting_signature setting) proving.free point k h known at

pub no_hypothesis : (proving : Proving) (point : Case) (k : ℕ) (statement : PlainStatement) → slice_get point.hypotheses.items k ≡ None
    → ¬ IsOfSource (proving_in proving) (case_in point) (use_source_of (Hypothesis k)) statement
no_hypothesis proving point k statement past there =
    none_and_some (slice_get (map statement_of point.hypotheses.items) k) statement
    (past_map statement_of point.hypotheses.items k past) there

-- ---- pairs of the code

-- Each pair of a variable that stands for itself has it, as the plain definition says.
abbrev pub PairsStand : Proving → Source → List (ℕ × Sorted) → Type 0
PairsStand proving source pairs = (n : ℕ) (u : ProfiledTerm) → IsPair (profiled_pairs pairs) n u
    → StandsForItself (proving_in proving) (use_source_of source) n → (s : ℕ) × (u ≡ profiled_variable n s)

pub pairs_stand : (proving : Proving) (source : Source) (pairs : List (ℕ × Sorted)) → Each (StandsRight proving source) pairs
    → PairsStand proving source pairs
pairs_stand proving source pairs each n u (i, at) itself =
    let from = from_map profiled_pair pairs i (n, u) at in
    let number : from.0.0 ≡ n = ap (λ (p : ℕ × ProfiledTerm). p.0) from.2 in
    let value : profiled_in from.0.1 ≡ u = ap (λ (p : ℕ × ProfiledTerm). p.1) from.2 in
    let has = each_member (StandsRight proving source) pairs i from.0 each from.1
    (subst (StandsForItself (proving_in proving) (use_source_of source)) (sym number) itself) in
    (has.0, sym value ∙ (has.1 ∙ ap (λ (m : ℕ). profiled_variable m has.0) number))

pub each_stands : (proving : Proving) (source : Source) (pairs : List (ℕ × Sorted)) → PairsStand proving source pairs
    → Each (StandsRight proving source) pairs
each_stands proving source pairs stand =
    each_of (StandsRight proving source) pairs
    (λ i pair at itself. stand pair.0 (profiled_in pair.1) (pair_of_code pairs i pair at) itself)
