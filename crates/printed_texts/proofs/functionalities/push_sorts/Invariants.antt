use Rattle.std.proofs.Common.{◌≡◌, ◌≤◌, ◌++◌, map, drop, length}
use Rattle.printed_texts.specs.Brackets.{commas, listed}
use Rattle.printed_texts.specs.TermText.{sort_text}
use Rattle.sort_terms.specs.SignatureView.{signature_of}
use Rattle.printed_texts.proofs.functionalities.push_sorts.Given as goal

-- the sorts so far are written behind what was there
abbrev pub invariant-loop-index : goal.invariant-loop-index
invariant-loop-index l =
    (l.into.items ++ listed l.index (map (sort_text (signature_of l.signature)) (drop l.index l.sorts.items))
    ≡ l.initial.into.items ++ commas (map (sort_text (signature_of l.signature)) l.sorts.items))
    × (length l.initial.into.items ≤ length l.into.items)
