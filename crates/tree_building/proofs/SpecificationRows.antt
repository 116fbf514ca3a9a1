-- The rows of items and of the word before a behaviour keep what their parts are.
use Rattle.std.proofs.Common.{ℕ, List, [], ◌∷◌, refl}
use Rattle.std.proofs.lemmas.List.{append-nil}
use Rattle.ll_engine.specs.Values.{nothing, token, part}
use Rattle.lotos_lexer.specs.declared.kinds.TheConstants as kind
use Rattle.lotos_rows.specs.Row.{row_of}
use Rattle.lotos_rows.specs.declared.specification.TheConstants as specification
use Rattle.lotos_rows.specs.declared.types.TheConstants as types
use Rattle.lotos_rows.specs.declared.specification.SpecificationRow.TheVariants as row
use Rattle.lotos_rows.specs.declared.row_names.RowName.TheVariants.{Specification}
use Rattle.ll_engine.specs.declared.symbol.Symbol.TheVariants.{Token as Tok, Part}
use Rattle.tree_building.specs.PartSentences.{as_one}
use Rattle.tree_building.specs.Sentences.{KeepsParts}
use Rattle.lotos_rows.specs.Words.{no_more, and_then}
use Rattle.lotos_rows.specs.Starts as family
use Rattle.lotos_rows.specs.SpecificationRows.{specification_rows}
use Rattle.tree_building.specs.StartsSentences.{a_behaviour_word}
use Rattle.lotos_base.proofs.Each.{Each}
use Rattle.tree_building.proofs.Lists.{is_of, shown}

module _ (text : List ℕ) where
  no_items_row : KeepsParts text (row_of (Specification row.NoItems) specification.ITEMS [])
  no_items_row _ _ value nothing given = shown _ _ given no_more refl

  items_row : KeepsParts text (row_of (Specification row.Items) specification.ITEMS (Part types.ITEM ∷ Part specification.ITEMS ∷ []))
  items_row _ _ value (part (as_one p1) (part (as_one p2) nothing)) given = shown _ _ given (and_then p1 p2) (simp (append-nil) refl)

  behaviour_word_row : KeepsParts text (row_of (Specification row.BehaviourWord) specification.BEHAVIOUR_WORD (Tok kind.BEHAVIOUR ∷ []))
  behaviour_word_row _ _ value (token t1 i1 nothing) given = shown _ _ given (a_behaviour_word (family.british (is_of t1 i1))) refl

  behavior_word_row : KeepsParts text (row_of (Specification row.BehaviorWord) specification.BEHAVIOUR_WORD (Tok kind.BEHAVIOR ∷ []))
  behavior_word_row _ _ value (token t1 i1 nothing) given = shown _ _ given (a_behaviour_word (family.american (is_of t1 i1))) refl

  pub specification_keep : Each (KeepsParts text) specification_rows
  specification_keep = (no_items_row, (items_row, (behaviour_word_row, (behavior_word_row, tt))))
