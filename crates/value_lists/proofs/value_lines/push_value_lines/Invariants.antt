use Rattle.std.proofs.Common.{◌≡◌, ◌++◌, drop}
use Rattle.behaviour_tree.specs.BehaviourView.{terms_of}
use Rattle.sort_terms.specs.SignatureView.{signature_of}
use Rattle.value_lists.specs.ListText.{value_lines}
use Rattle.value_lists.proofs.value_lines.push_value_lines.Given as goal

-- the lines so far are written
abbrev pub invariant-loop-value : goal.invariant-loop-value
invariant-loop-value l =
    l.into.items ++ value_lines (signature_of l.signature) (terms_of (drop l.value-index l.values))
    ≡ l.fn.into.items ++ value_lines (signature_of l.signature) (terms_of l.values)
