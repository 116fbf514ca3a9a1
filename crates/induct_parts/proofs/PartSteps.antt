-- The case that an operation makes of a case, from what the code makes of its parts.
use Rattle.std.proofs.Common.{◌≡◌, ℕ, ◌∷◌, ◌++◌, length, map, ap, sym, ◌∙◌}
use Rattle.lotos_base.specs.Equation.{Data}
use Rattle.lotos_base.specs.Signature.{Operation, IsOperation}
use Rattle.lotos_base.specs.Substitution.{substituted}
use Rattle.lotos_base.specs.Term.{Term}
use Rattle.lotos_base.proofs.Each.{Each}
use Rattle.sort_terms.specs.Operations.{operation_of}
use Rattle.sort_terms.specs.ProfiledTerm.{profiled_node, IsOf}
use Rattle.sort_terms.specs.SortedView.{profiled_in, term_in}
use Rattle.sort_terms.specs.declared.operations.Op.{Op}
use Rattle.sort_terms.specs.declared.sorted.Sorted.{Sorted}
use Rattle.certificate_theory.specs.Patterns.{put_for}
use Rattle.certificate_theory.specs.Requirements.{OccursInSide}
use Rattle.certificate_theory.specs.Splits.{IsInScope, in_both, case_with, hypotheses_behind}
use Rattle.induct_parts.specs.CaseView.{case_in, IsKnownCase}
use Rattle.induct_parts.specs.SettingView.{setting_signature, theory_in, proving_in, IsSet}
use Rattle.induct_parts.specs.StatementView.{statement_of, IsStatementOf}
use Rattle.induct_parts.specs.Variables.{profiled_variables}
use Rattle.induct_parts.specs.declared.cases.Case.{Case}
use Rattle.induct_parts.specs.declared.setting.Setting.{Setting}
use Rattle.induct_parts.specs.declared.setting.Proving.{Proving}
use Rattle.induct_parts.specs.declared.statements.Statement.{Statement}
use Rattle.induct_parts.proofs.CaseSteps.{goal_sort, part_is, part_is_known}
use Rattle.induct_parts.proofs.OperationFacts.{for_operation}
use Rattle.induct_parts.proofs.PatternLemmas.{operation_term, operation_sort, operation_over}

-- The term is the operation on variables that are new in the case.
abbrev pub IsOnNew : Case → ℕ → Op → Sorted → Type 0
IsOnNew point number op term =
    profiled_in term ≡ profiled_node number (operation_of op) (profiled_variables (length point.sorts.items) op.arguments.items)

-- the number of the first new variable is that of the case's variables
pub on_new : (point : Case) (number next : ℕ) (op : Op) (term : Sorted) → next ≡ length point.sorts.items
    → profiled_in term ≡ profiled_node number (operation_of op) (profiled_variables next op.arguments.items) → IsOnNew point number op term
on_new point number next op term same is =
    is ∙ ap (λ (k : ℕ). profiled_node number (operation_of op) (profiled_variables k op.arguments.items)) same

module _ (setting : Setting) (proving : Proving) (point : Case) (n number : ℕ) (op : Op) (term : Sorted)
    (known : IsKnownCase (setting_signature setting) proving.free point) (scope : IsInScope (case_in point) n op.result)
    (is_operation : IsOperation (setting_signature setting) number (operation_of op)) (is : IsOnNew point number op term) where
  -- in the goal the variable has the sort of the term
  pub new_in_goal : (s : ℕ) → OccursInSide (statement_of point.goal) n s → s ≡ term.sort
  new_in_goal s o =
      goal_sort (setting_signature setting) proving.free point n op.result known scope s o
      ∙ sym (operation_sort number (length point.sorts.items) (operation_of op) term is)

  pub new_over : IsOf (setting_signature setting) (profiled_in term)
  new_over =
      operation_over (setting_signature setting) number (length point.sorts.items) (operation_of op) term
      setting.signature.now.well_formed is_operation is

  module _ (data_ : Data) (canon : Term → Term) (part : Case) (with_term : Statement)
      (sorts : part.sorts.items ≡ point.sorts.items ++ op.arguments.items) (gone : part.gone.items ≡ n ∷ point.gone.items)
      (hypotheses : map statement_of part.hypotheses.items
      ≡ hypotheses_behind (proving_in proving) (case_in point) n op.result (record { number = number; operation = operation_of op }))
      (put : statement_of with_term ≡ in_both (substituted (put_for n term.sort (term_in term))) (statement_of point.goal))
      (goal : statement_of part.goal ≡ in_both canon (statement_of with_term)) where
    pub made_part : case_in part ≡ case_with (theory_in setting data_ canon) (proving_in proving) (case_in point) n op.result
        (record { number = number; operation = operation_of op })
    made_part =
        part_is (theory_in setting data_ canon) (proving_in proving) point part n
        (record { number = number; operation = operation_of op }) term with_term sorts gone hypotheses
        (operation_sort number (length point.sorts.items) (operation_of op) term is)
        (operation_term number (length point.sorts.items) (operation_of op) term is) put goal

    pub made_part_for : (o : Operation) → IsOperation (setting_signature setting) number o
        → case_in part ≡ case_with (theory_in setting data_ canon) (proving_in proving) (case_in point) n o.result
        (record { number = number; operation = o })
    made_part_for =
        for_operation (setting_signature setting) number
        (λ (o : Operation). case_in part ≡ case_with (theory_in setting data_ canon) (proving_in proving) (case_in point) n o.result
        (record { number = number; operation = o })) (operation_of op) is_operation made_part

    pub made_part_known : IsSet setting data_ canon → IsStatementOf (setting_signature setting) part.goal
        → Each (IsStatementOf (setting_signature setting)) part.hypotheses.items
        → IsKnownCase (setting_signature setting) proving.free part
    made_part_known set over all =
        part_is_known setting data_ canon proving point part n (record { number = number; operation = operation_of op }) set known
        scope is_operation made_part over all
