-- The parts of the four texts: a specification, items, the items of an order file, terms.
use Rattle.std.specs.Prelude.{ℕ, ◌==◌, List, [], ◌∷◌}
use Rattle.lotos_lexer.specs.declared.tokens.Token.{Token}
use Rattle.lotos_rows.specs.declared.starts.TheConstants as starts
use Rattle.lotos_rows.specs.declared.specification.TheConstants as specification
use Rattle.lotos_rows.specs.Starts.{IsBehaviourWord, IsWrittenSpecification, AreItems, IsOptionalProfile, IsOptionalStatus, AreOrderItems, AreOptionalTerms}
use Rattle.tree_building.specs.Meaning.{Meaning, a_specification, some_items, a_word, some_order_items, maybe_profile, maybe_name, some_terms}
use Rattle.tree_building.specs.PartSentences.{As, choose}

pub data IsBehaviourWordAlone : List Token → Unit {0} → Type 0 where
  a_behaviour_word : {word : Token} → IsBehaviourWord word → IsBehaviourWordAlone (word ∷ []) tt

abbrev pub specification_part : List ℕ → ℕ → List Token → Meaning → Type 0
specification_part text p tokens meaning =
    choose (p == specification.ITEMS) (As some_items (AreItems text) tokens meaning) (As a_word IsBehaviourWordAlone tokens meaning)

abbrev pub starts_part : List ℕ → ℕ → List Token → Meaning → Type 0
starts_part text p tokens meaning =
    choose (p == starts.SPEC) (As a_specification (IsWrittenSpecification text) tokens meaning)
    (choose (p == starts.TYPETEXT) (As some_items (AreItems text) tokens meaning)
    (choose (p == starts.ORDER) (As some_order_items (AreOrderItems text) tokens meaning)
    (choose (p == starts.OPTIONAL_PROFILE) (As maybe_profile (IsOptionalProfile text) tokens meaning)
    (choose (p == starts.OPTIONAL_STATUS) (As maybe_name (IsOptionalStatus text) tokens meaning)
    (As some_terms (AreOptionalTerms text) tokens meaning)))))
