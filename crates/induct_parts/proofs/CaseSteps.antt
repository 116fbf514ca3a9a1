-- Cases as the code makes them: that they are those of the definition, and what is kept of them.
use Rattle.std.proofs.Common.{◌≡◌, ℕ, List, [], ◌∷◌, ◌++◌, length, map, refl, ap, sym, ◌∙◌, subst}
use Rattle.std.specs.Prelude.{Some, slice_get}
use Rattle.std.proofs.lemmas.Option.{same_Some}
use Rattle.lotos_base.specs.Equation.{Data}
use Rattle.lotos_base.specs.Signature.{Signature, IsOperation}
use Rattle.lotos_base.specs.Substitution.{substituted}
use Rattle.lotos_base.specs.Term.{Term}
use Rattle.lotos_base.proofs.Members.{at_map}
use Rattle.lotos_base.proofs.Each.{Each, each_member}
use Rattle.sort_terms.specs.ProfiledTerm.{ProfiledTerm, bare, IsOf}
use Rattle.sort_terms.specs.SortedView.{term_in}
use Rattle.sort_terms.specs.declared.sorted.Sorted.{Sorted}
use Rattle.certificate_theory.specs.InductionCertificate.{Statement, Use}
use Rattle.certificate_theory.specs.Covers.{Numbered}
use Rattle.certificate_theory.specs.Patterns.{put_for, operation_on}
use Rattle.certificate_theory.specs.Splits.{Theory, Case as PlainCase, Proving as PlainProving, IsInScope, in_both, case_with, with_goal, first_case, hypotheses_behind}
use Rattle.certificate_theory.specs.Certified.{statements_of}
use Rattle.certificate_theory.specs.Requirements.{OccursInSide}
use Rattle.certificate_theory.specs.Uses.{IsUsed}
use Rattle.certificate_theory.proofs.CaseLemmas.{IsFineHypothesis, IsFineCase, case_fine}
use Rattle.certificate_theory.proofs.LemmasHold.{first_fine}
use Rattle.certificate_theory.proofs.UseSound.{IsSortedStatement, used_fine}
use Rattle.induct_parts.specs.StatementView.{statement_of, profiled_sides_of, IsStatementOf}
use Rattle.induct_parts.specs.CertificateView.{lemma_in, lemmas_in}
use Rattle.induct_parts.specs.SettingView.{setting_signature, theory_in, IsSet, IsKnownLemma, proving_in, AreKnownBefore}
use Rattle.induct_parts.specs.CaseView.{case_in, IsKnownCase}
use Rattle.induct_parts.specs.declared.cases.Case.{Case}
use Rattle.induct_parts.specs.declared.statements.Statement.{Statement as CodeStatement}
use Rattle.induct_parts.specs.declared.certificates.StatedLemma.{StatedLemma}
use Rattle.induct_parts.specs.declared.setting.Setting.{Setting}
use Rattle.induct_parts.specs.declared.setting.Proving.{Proving}

pub same_case : (p q : PlainCase) → p.sorts ≡ q.sorts → p.gone ≡ q.gone → p.hypotheses ≡ q.hypotheses → p.goal ≡ q.goal → p ≡ q
same_case p q sorts gone hypotheses goal =
    λ i. record { sorts = sorts i; gone = gone i; hypotheses = hypotheses i; goal = goal i }

-- ---- numbers have one sort in what a case has

-- in scope, the variable has the one sort that is listed for it
scope_sort : (sorts : List ℕ) (n r s : ℕ) → slice_get sorts n ≡ Some r → slice_get sorts n ≡ Some s → r ≡ s
scope_sort sorts n r s one other = same_Some r s (sym one ∙ other)

pub goal_sort : (signature : Signature) (free : ℕ) (point : Case) (n s : ℕ) → IsKnownCase signature free point
    → IsInScope (case_in point) n s → (r : ℕ) → OccursInSide (statement_of point.goal) n r → r ≡ s
goal_sort signature free point n s known scope r o =
    scope_sort point.sorts.items n r s (known.fine.scoped n r o).0 scope.0

pub hypothesis_known : (signature : Signature) (free : ℕ) (point : Case) (k : ℕ) (h : CodeStatement) → IsKnownCase signature free point
    → slice_get point.hypotheses.items k ≡ Some h → IsFineHypothesis signature free point.sorts.items point.gone.items (statement_of h)
hypothesis_known signature free point k h known at =
    each_member (IsFineHypothesis signature free point.sorts.items point.gone.items) (map statement_of point.hypotheses.items) k
    (statement_of h) known.fine.hypotheses (at_map statement_of point.hypotheses.items k h at)

pub hypothesis_sort : (signature : Signature) (free : ℕ) (point : Case) (k : ℕ) (h : CodeStatement) (n s : ℕ)
    → IsKnownCase signature free point → slice_get point.hypotheses.items k ≡ Some h → IsInScope (case_in point) n s
    → (r : ℕ) → OccursInSide (statement_of h) n r → r ≡ s
hypothesis_sort signature free point k h n s known at scope r o =
    scope_sort point.sorts.items n r s ((hypothesis_known signature free point k h known at).listed n r o).0 scope.0

-- ---- the first case

pub first_is_known : (setting : Setting) (data_ : Data) (canon : Term → Term) (lemma : StatedLemma) (point : Case)
    → IsSet setting data_ canon → IsKnownLemma (setting_signature setting) lemma
    → case_in point ≡ first_case (theory_in setting data_ canon) (lemma_in lemma) → point.hypotheses.items ≡ []
    → IsStatementOf (setting_signature setting) point.goal
    → IsKnownCase (setting_signature setting) (length lemma.variables.items) point
first_is_known setting data_ canon lemma point set known is none over = record {
  fine = subst (IsFineCase (setting_signature setting) (length lemma.variables.items)) (sym is)
      (first_fine (theory_in setting data_ canon) (lemma_in lemma) set.fit known.stated);
  goal = over;
  hypotheses = subst (Each (IsStatementOf (setting_signature setting))) (sym none) tt;
}

-- ---- the case of an operation

pub part_is : (theory : Theory) (proving : PlainProving) (point part : Case) (n : ℕ) (one : Numbered) (term : Sorted)
    (with_term : CodeStatement)
    → part.sorts.items ≡ point.sorts.items ++ one.operation.arguments → part.gone.items ≡ n ∷ point.gone.items
    → map statement_of part.hypotheses.items ≡ hypotheses_behind proving (case_in point) n one.operation.result one
    → term.sort ≡ one.operation.result → term_in term ≡ operation_on one (length point.sorts.items)
    → statement_of with_term ≡ in_both (substituted (put_for n term.sort (term_in term))) (statement_of point.goal)
    → statement_of part.goal ≡ in_both theory.canon (statement_of with_term)
    → case_in part ≡ case_with theory proving (case_in point) n one.operation.result one
part_is theory proving point part n one term with_term sorts gone hypotheses sort is put goal =
    same_case (case_in part) (case_with theory proving (case_in point) n one.operation.result one) sorts gone hypotheses
    (goal ∙ ap (in_both theory.canon) (put
    ∙ (λ i. in_both (substituted (put_for n (sort i) (is i))) (statement_of point.goal))))

pub part_is_known : (setting : Setting) (data_ : Data) (canon : Term → Term) (proving : Proving) (point part : Case) (n : ℕ)
    (one : Numbered) → IsSet setting data_ canon → IsKnownCase (setting_signature setting) proving.free point
    → IsInScope (case_in point) n one.operation.result → IsOperation (setting_signature setting) one.number one.operation
    → case_in part ≡ case_with (theory_in setting data_ canon) (proving_in proving) (case_in point) n one.operation.result one
    → IsStatementOf (setting_signature setting) part.goal → Each (IsStatementOf (setting_signature setting)) part.hypotheses.items
    → IsKnownCase (setting_signature setting) proving.free part
part_is_known setting data_ canon proving point part n one set known scope is_operation is goal hypotheses = record {
  fine = subst (IsFineCase (setting_signature setting) proving.free) (sym is)
      (case_fine (theory_in setting data_ canon) (proving_in proving) (case_in point) n one.operation.result one (record {
        fit = set.fit;
        fine = known.fine;
        scope = scope;
        is_operation = is_operation;
        result = refl;
      }));
  goal = goal;
  hypotheses = hypotheses;
}

-- ---- the case behind a use

earlier_sorted : (signature : Signature) (lemmas : List StatedLemma) → Each (IsKnownLemma signature) lemmas
    → Each (IsSortedStatement signature) (statements_of (lemmas_in lemmas))
earlier_sorted signature [] known = tt
earlier_sorted signature (lemma ∷ lemmas) known = (
  record { sort = known.0.stated.sort; left = known.0.stated.left; right = known.0.stated.right },
  earlier_sorted signature lemmas known.1,
)

pub used_is_known : (setting : Setting) (data_ : Data) (canon : Term → Term) (proving : Proving) (point part : Case) (use_ : Use)
    (result : Statement) → IsSet setting data_ canon → AreKnownBefore (setting_signature setting) proving
    → IsKnownCase (setting_signature setting) proving.free point
    → IsUsed (theory_in setting data_ canon) (proving_in proving) (case_in point) use_ result
    → case_in part ≡ with_goal (theory_in setting data_ canon) (case_in point) result
    → IsStatementOf (setting_signature setting) part.goal → Each (IsStatementOf (setting_signature setting)) part.hypotheses.items
    → IsKnownCase (setting_signature setting) proving.free part
used_is_known setting data_ canon proving point part use_ result set before known used is goal hypotheses = record {
  fine = subst (IsFineCase (setting_signature setting) proving.free) (sym is)
      (used_fine (theory_in setting data_ canon) (proving_in proving) (case_in point) use_ result set.fit
      (earlier_sorted (setting_signature setting) proving.earlier.now before) used known.fine);
  goal = goal;
  hypotheses = hypotheses;
}

-- ---- copies of statements are of the signature, as they were

pub copy_over : (signature : Signature) (s t : CodeStatement) → profiled_sides_of s ≡ profiled_sides_of t → IsStatementOf signature t
    → IsStatementOf signature s
copy_over signature s t e over = record {
  left = subst (IsOf signature) (sym (ap (λ (sides : ProfiledTerm × ProfiledTerm). sides.0) e)) over.left;
  right = subst (IsOf signature) (sym (ap (λ (sides : ProfiledTerm × ProfiledTerm). sides.1) e)) over.right;
}

pub copies_over : (signature : Signature) (ss ts : List CodeStatement)
    → map profiled_sides_of ss ≡ map profiled_sides_of ts → Each (IsStatementOf signature) ts → Each (IsStatementOf signature) ss
copies_over signature [] [] e over = tt
copies_over signature [] (t ∷ ts) e over = tt
copies_over signature (s ∷ ss) [] e over = absurd (cc e)
copies_over signature (s ∷ ss) (t ∷ ts) e over =
    let first : profiled_sides_of s ≡ profiled_sides_of t = cc e in
    let rest : map profiled_sides_of ss ≡ map profiled_sides_of ts = cc e in
    (copy_over signature s t first over.0, copies_over signature ss ts rest over.1)

pub copies_same : (ss ts : List CodeStatement) → map profiled_sides_of ss ≡ map profiled_sides_of ts
    → map statement_of ss ≡ map statement_of ts
copies_same [] [] e = refl
copies_same [] (t ∷ ts) e = absurd (cc e)
copies_same (s ∷ ss) [] e = absurd (cc e)
copies_same (s ∷ ss) (t ∷ ts) e =
    let first : profiled_sides_of s ≡ profiled_sides_of t = cc e in
    let rest : map profiled_sides_of ss ≡ map profiled_sides_of ts = cc e in
    λ i. record { left = bare ((first i).0); right = bare ((first i).1) } ∷ copies_same ss ts rest i

pub copy_same : (s t : CodeStatement) → profiled_sides_of s ≡ profiled_sides_of t → statement_of s ≡ statement_of t
copy_same s t e = λ i. record { left = bare ((e i).0); right = bare ((e i).1) }

-- the case with another goal
pub used_is : (theory : Theory) (point part : Case) (result : Statement) → part.sorts.items ≡ point.sorts.items
    → part.gone.items ≡ point.gone.items → map profiled_sides_of part.hypotheses.items ≡ map profiled_sides_of point.hypotheses.items
    → statement_of part.goal ≡ in_both theory.canon result → case_in part ≡ with_goal theory (case_in point) result
used_is theory point part result sorts gone hypotheses goal =
    same_case (case_in part) (with_goal theory (case_in point) result) sorts gone
    (copies_same part.hypotheses.items point.hypotheses.items hypotheses) goal
