use Rattle.std.proofs.Common.{◌≡◌, ℕ, List, [], take, drop}
use Rattle.sort_terms.specs.NameIndex.{numbers_under}
use Rattle.sort_terms.specs.Positions.{positions_of}
use Rattle.type_definitions.specs.MentionFaults.{second_declaration}
use Rattle.type_definitions.specs.TypeView.{declared_types_of, type_spellings}
use Rattle.type_definitions.proofs.type_names.index_of_names.Given as goal

abbrev pub invariant-loop-number : goal.invariant-loop-number
invariant-loop-number l =
    ((key : List ℕ) → numbers_under l.index key ≡ positions_of key (type_spellings (take l.number l.types)))
    × (second_declaration (declared_types_of (take l.number l.types)) (declared_types_of (drop l.number l.types))
    ≡ second_declaration [] (declared_types_of l.types))
