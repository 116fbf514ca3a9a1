use Rattle.std.proofs.Common.{◌≡◌, ◌++◌, drop, map}
use Rattle.std.specs.List.{concat}
use Rattle.sort_terms.specs.Operations.{operation_of}
use Rattle.sort_terms.specs.SignatureView.{signature_of}
use Rattle.flat_text.specs.DataText.{operation_line}
use Rattle.flat_text.proofs.data_lines.push_operations.Given as goal

-- the operations so far are written
abbrev pub invariant-loop-operation : goal.invariant-loop-operation
invariant-loop-operation l =
    l.into.items ++ concat (map (operation_line (signature_of l.signature)) (map operation_of (drop l.operation-index l.operation-items)))
    ≡ l.initial.into.items ++ concat (map (operation_line (signature_of l.signature)) (map operation_of l.operation-items))
