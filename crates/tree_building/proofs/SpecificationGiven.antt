-- Each row of this subject gives a meaning, where its parts have theirs: specification.
use Rattle.std.proofs.Common.{ℕ, List, [], ◌∷◌, refl}
use Rattle.ll_engine.specs.Values.{nothing, token, part}
use Rattle.lotos_lexer.specs.declared.kinds.TheConstants as kind
use Rattle.lotos_rows.specs.Row.{row_of}
use Rattle.lotos_rows.specs.SpecificationRows.{specification_rows}
use Rattle.lotos_rows.specs.declared.specification.TheConstants as specification
use Rattle.lotos_rows.specs.declared.types.TheConstants as types
use Rattle.lotos_rows.specs.declared.specification.SpecificationRow.TheVariants as row
use Rattle.lotos_rows.specs.declared.row_names.RowName.TheVariants.{Specification}
use Rattle.ll_engine.specs.declared.symbol.Symbol.TheVariants.{Token as Tok, Part}
use Rattle.tree_building.specs.PartSentences.{as_one}
use Rattle.tree_building.specs.Sentences.{GivesMeaning}
use Rattle.lotos_base.proofs.Each.{Each}

module _ (text : List ℕ) where
  no_items_gives : GivesMeaning text (row_of (Specification row.NoItems) specification.ITEMS [])
  no_items_gives _ _ nothing = (_, refl)

  items_gives : GivesMeaning text (row_of (Specification row.Items) specification.ITEMS (Part types.ITEM ∷ Part specification.ITEMS ∷ []))
  items_gives _ _ (part (as_one _) (part (as_one _) nothing)) = (_, refl)

  behaviour_word_gives : GivesMeaning text (row_of (Specification row.BehaviourWord) specification.BEHAVIOUR_WORD (Tok kind.BEHAVIOUR ∷ []))
  behaviour_word_gives _ _ (token _ _ nothing) = (_, refl)

  behavior_word_gives : GivesMeaning text (row_of (Specification row.BehaviorWord) specification.BEHAVIOUR_WORD (Tok kind.BEHAVIOR ∷ []))
  behavior_word_gives _ _ (token _ _ nothing) = (_, refl)

  pub specification_give : Each (GivesMeaning text) specification_rows
  specification_give = (no_items_gives, (items_gives, (behaviour_word_gives, (behavior_word_gives, tt))))
