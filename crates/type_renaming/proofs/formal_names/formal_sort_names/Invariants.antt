use Rattle.std.proofs.Common.{◌≡◌, length, map, take}
use Rattle.lotos_base.specs.Signature.{Sort}
use Rattle.sort_terms.specs.Operations.{sort_of}
use Rattle.type_presentations.specs.NamesView.{HasNames}
use Rattle.type_definitions.specs.Actualisation.{marked_from}
use Rattle.type_presentations.specs.MarksView.{marks_in}
use Rattle.type_renaming.proofs.formal_names.formal_sort_names.Given as goal

abbrev pub invariant-loop-number : goal.invariant-loop-number
invariant-loop-number l =
    HasNames l.names
    (map (λ (s : Sort). s.name) (marked_from (marks_in l.base.formal_sorts) 0 (map sort_of (take l.number l.sorts))))
    × (length (map (λ (s : Sort). s.name) (marked_from (marks_in l.base.formal_sorts) 0 (map sort_of (take l.number l.sorts))))
    ≡ l.count)
