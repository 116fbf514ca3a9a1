-- The line that is printed for the first fault of a certificate of induction.
use Rattle.std.specs.Prelude.{◌≡◌, ℕ, List, [], ◌++◌, Option, None, Some, slice_get, codes, decimal}
use Rattle.lotos_base.specs.Signature.{Signature, Operation}
use Rattle.printed_texts.specs.TermText.{term_text}
use Rattle.induct_parts.specs.HandedOn.{Statement, InductionFault, bad_line, no_variable, no_cover, no_tree, not_reducible, bad_use}
use Rattle.induct_parts.specs.HandedOn.{not_same}
use Rattle.induct_parts.specs.Shown.{shown_statement}
use Rattle.induct_parts.specs.StatementView.{statement_of}
use Rattle.induct_parts.specs.declared.at_line.AtLine.{AtLine}
use Rattle.induct_parts.specs.declared.line_fault.LineFault.{LineFault}
use Rattle.induct_parts.specs.declared.line_fault.LineFault.TheVariants.{BadLine, NoVariable, NoCover, NoTree, NotReducible, BadUse, NotSame, NoMemory}

-- the name of an operation
abbrev pub operation_name : Option Operation → List ℕ
operation_name None = []
operation_name (Some operation) = operation.name

-- a refusal with its line, and what stands behind that
abbrev pub with_line : (refusal : List ℕ) (line : ℕ) (behind : List ℕ) → List ℕ
with_line refusal line behind = codes "refused " ++ refusal ++ codes " line " ++ decimal line ++ behind ++ codes "\n"

-- two sides that differ
abbrev pub differing_sides_text : Signature → Statement → List ℕ
differing_sides_text signature statement =
    codes " " ++ term_text signature [] statement.left ++ codes " and " ++ term_text signature [] statement.right

abbrev pub fault_text : Signature → ℕ → InductionFault → List ℕ
fault_text signature line bad_line = with_line (codes "911 BadLine") line []
fault_text signature line no_variable = with_line (codes "912 NoVariable") line []
fault_text signature line no_cover = with_line (codes "913 NoCover") line []
fault_text signature line (no_tree f) =
    with_line (codes "914 NoTree") line (codes " " ++ operation_name (slice_get signature.operations f))
fault_text signature line not_reducible = with_line (codes "915 NotReducible") line []
fault_text signature line bad_use = with_line (codes "916 BadUse") line []
fault_text signature line (not_same statement) =
    with_line (codes "917 NotSame") line (differing_sides_text signature (shown_statement statement))

-- what the code writes of a fault at a line; nothing is written of want of memory
abbrev pub IsTold : Signature → ℕ → LineFault → List ℕ → Type 0
IsTold signature line BadLine text = text ≡ fault_text signature line bad_line
IsTold signature line NoVariable text = text ≡ fault_text signature line no_variable
IsTold signature line NoCover text = text ≡ fault_text signature line no_cover
IsTold signature line (NoTree f) text = text ≡ fault_text signature line (no_tree f)
IsTold signature line NotReducible text = text ≡ fault_text signature line not_reducible
IsTold signature line BadUse text = text ≡ fault_text signature line bad_use
IsTold signature line (NotSame statement) text = text ≡ fault_text signature line (not_same (statement_of statement))
IsTold signature line NoMemory text = ⊥
