-- The rows of a specification.
use Rattle.std.specs.Prelude.{List, [], ◌∷◌}
use Rattle.ll_engine.specs.declared.symbol.Symbol.TheVariants.{Token, Part}
use Rattle.lotos_lexer.specs.declared.kinds.TheConstants as kind
use Rattle.lotos_rows.specs.declared.specification.TheConstants as specification
use Rattle.lotos_rows.specs.declared.types.TheConstants as types
use Rattle.lotos_rows.specs.declared.specification.SpecificationRow.TheVariants as row
use Rattle.lotos_rows.specs.declared.row_names.RowName.TheVariants.{Specification}
use Rattle.lotos_rows.specs.Row.{GrammarRow, row_of}

abbrev pub specification_rows : List GrammarRow
specification_rows =
    row_of (Specification row.NoItems) specification.ITEMS [] ∷
    row_of (Specification row.Items) specification.ITEMS (Part types.ITEM ∷ Part specification.ITEMS ∷ []) ∷
    row_of (Specification row.BehaviourWord) specification.BEHAVIOUR_WORD (Token kind.BEHAVIOUR ∷ []) ∷
    row_of (Specification row.BehaviorWord) specification.BEHAVIOUR_WORD (Token kind.BEHAVIOR ∷ []) ∷
    []
