-- The parts of names and lists of them.
use Rattle.std.specs.Prelude.{ℕ, ◌==◌, List, [], ◌∷◌}
use Rattle.lotos_lexer.specs.declared.kinds.TheConstants.{COMMA}
use Rattle.lotos_lexer.specs.declared.tokens.Token.{Token}
use Rattle.lotos_rows.specs.declared.names.TheConstants as names
use Rattle.lotos_rows.specs.Words.{IsOfKind, Optional, Separated, Loosely, Behind}
use Rattle.lotos_rows.specs.Names.{IsName, AreNames, AreOptionalNames, AreWrittenGates, AreOptionalGates, AreLooseNames, AreVariables, IsOperationName, IsWrittenOperation, IsProfile}
use Rattle.tree_building.specs.Meaning.{Meaning, a_name, some_names, some_variables, an_operation, a_profile}
use Rattle.tree_building.specs.PartSentences.{As, choose}

-- further members behind a separator
abbrev pub Further : {A : Type 0} → ℕ → (List Token → A → Type 0) → List Token → List A → Type 0
Further separator one = Optional [] (Behind separator (Separated separator one))

-- further members behind a separator that may be left out
pub data FurtherLoosely {A : Type 0} (separator : ℕ) (one : List Token → A → Type 0) : List Token → List A → Type 0 where
  none_further : FurtherLoosely separator one [] []
  further_behind : {token : Token} {tokens : List Token} {values : List A} → IsOfKind separator token
      → Loosely separator one tokens values →
      FurtherLoosely separator one (token ∷ tokens) values
  further_at_once : {tokens : List Token} {values : List A} → Loosely separator one tokens values →
      FurtherLoosely separator one tokens values

abbrev pub names_part : List ℕ → ℕ → List Token → Meaning → Type 0
names_part text p tokens meaning =
    choose (p == names.NAME) (As a_name (IsName text) tokens meaning)
    (choose (p == names.NAMES) (As some_names (AreNames text) tokens meaning)
    (choose (p == names.MORE_NAMES) (As some_names (Further COMMA (IsName text)) tokens meaning)
    (choose (p == names.OPTIONAL_NAMES) (As some_names (AreOptionalNames text) tokens meaning)
    (choose (p == names.GATES) (As some_names (AreWrittenGates text) tokens meaning)
    (choose (p == names.OPTIONAL_GATES) (As some_names (AreOptionalGates text) tokens meaning)
    (choose (p == names.LOOSE_NAMES) (As some_names (AreLooseNames text) tokens meaning)
    (choose (p == names.MORE_LOOSE_NAMES) (As some_names (FurtherLoosely COMMA (IsName text)) tokens meaning)
    (choose (p == names.VARIABLES) (As some_variables (AreVariables text) tokens meaning)
    (choose (p == names.MORE_VARIABLES) (As some_variables (Optional [] (Behind COMMA (AreVariables text))) tokens meaning)
    (choose (p == names.OPERATION_NAME) (As a_name (IsOperationName text) tokens meaning)
    (choose (p == names.OPERATION) (As an_operation (IsWrittenOperation text) tokens meaning)
    (As a_profile (IsProfile text) tokens meaning))))))))))))
