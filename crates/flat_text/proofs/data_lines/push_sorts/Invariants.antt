use Rattle.std.proofs.Common.{◌≡◌, ◌++◌, drop, map}
use Rattle.lotos_base.specs.Name.{spelling}
use Rattle.report_text.specs.HandedOn.{commas, listed}
use Rattle.sort_terms.specs.declared.operations.Sort.{Sort}
use Rattle.flat_text.proofs.data_lines.push_sorts.Given as goal

-- the sorts so far are written
abbrev pub invariant-loop-index : goal.invariant-loop-index
invariant-loop-index l =
    l.into.items ++ listed l.index (map (λ (s : Sort). spelling s.name) (drop l.index l.sorts))
    ≡ l.initial.into.items ++ commas (map (λ (s : Sort). spelling s.name) l.sorts)
