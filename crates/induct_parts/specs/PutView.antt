-- An operation on new variables that is put for a variable of a case.
use Rattle.std.specs.Prelude.{◌≡◌, length}
use Rattle.lotos_base.specs.Signature.{IsOperation}
use Rattle.sort_terms.specs.Operations.{operation_of}
use Rattle.sort_terms.specs.ProfiledTerm.{profiled_node}
use Rattle.sort_terms.specs.SortedView.{profiled_in}
use Rattle.certificate_theory.specs.Covers.{Numbered}
use Rattle.certificate_theory.specs.Splits.{IsInScope}
use Rattle.induct_parts.specs.SettingView.{setting_signature}
use Rattle.induct_parts.specs.CaseView.{case_in}
use Rattle.induct_parts.specs.Variables.{profiled_variables}
use Rattle.induct_parts.specs.declared.setting.Setting.{Setting}
use Rattle.induct_parts.specs.declared.cases.Case.{Case}
use Rattle.induct_parts.specs.declared.hypotheses.Put.{Put}

-- the operation with its number
abbrev pub numbered_in : Put → Numbered
numbered_in put = record { number = put.operation; operation = operation_of put.op.now }

-- The variable is in scope, the operation is one of the signature with the variable's sort as result, and the term is the
-- operation on variables that are new in the case.
pub record IsPut (setting : Setting) (point : Case) (put : Put) : Type 0 where
  pub scope : IsInScope (case_in point) put.variable put.op.now.result
  pub is_operation : IsOperation (setting_signature setting) put.operation (operation_of put.op.now)
  pub term : profiled_in put.term.now
      ≡ profiled_node put.operation (operation_of put.op.now)
      (profiled_variables (length point.sorts.items) put.op.now.arguments.items)
