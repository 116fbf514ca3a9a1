use Rattle.std.proofs.Common.{◌≡◌, ◌++◌, drop, map}
use Rattle.report_text.specs.HandedOn.{commas, listed, sort_text}
use Rattle.sort_terms.specs.SignatureView.{signature_of}
use Rattle.flat_text.proofs.data_lines.push_arguments.Given as goal

-- the sorts so far are written
abbrev pub invariant-loop-index : goal.invariant-loop-index
invariant-loop-index l =
    l.into.items ++ listed l.index (map (sort_text (signature_of l.signature)) (drop l.index l.sorts.items))
    ≡ l.initial.into.items ++ commas (map (sort_text (signature_of l.signature)) l.sorts.items)
