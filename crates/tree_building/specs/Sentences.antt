-- What each part of the rows is, and what a row has to keep for the rows to have the sentences of the definition by subject.
use Rattle.std.specs.Prelude.{◌≡◌, ℕ, nat_lt, List, Some}
use Rattle.ll_engine.specs.Fold.{front_token}
use Rattle.ll_engine.specs.Values.{StandForTokens, HasValue}
use Rattle.lotos_lexer.specs.declared.tokens.Token.{Token}
use Rattle.lotos_rows.specs.declared.terms.TheConstants as terms
use Rattle.lotos_rows.specs.declared.types.TheConstants as types
use Rattle.lotos_rows.specs.declared.equations.TheConstants as equations
use Rattle.lotos_rows.specs.declared.renamings.TheConstants as renamings
use Rattle.lotos_rows.specs.declared.behaviours.TheConstants as behaviours
use Rattle.lotos_rows.specs.declared.definitions.TheConstants as definitions
use Rattle.lotos_rows.specs.declared.specification.TheConstants as specification
use Rattle.lotos_rows.specs.declared.starts.TheConstants as starts
use Rattle.lotos_rows.specs.Kept.{is_kept_kind}
use Rattle.lotos_rows.specs.Row.{GrammarRow}
use Rattle.lotos_rows.specs.Rows.{rows}
use Rattle.tree_building.specs.Meaning.{Meaning}
use Rattle.tree_building.specs.RowMeaning.{row_means, numbered_row_means}
use Rattle.tree_building.specs.PartSentences.{choose}
use Rattle.tree_building.specs.NamesSentences.{names_part}
use Rattle.tree_building.specs.TermsSentences.{terms_part}
use Rattle.tree_building.specs.TypesSentences.{types_part}
use Rattle.tree_building.specs.EquationsSentences.{equations_part}
use Rattle.tree_building.specs.RenamingsSentences.{renamings_part}
use Rattle.tree_building.specs.BehavioursSentences.{behaviours_part}
use Rattle.tree_building.specs.DefinitionsSentences.{definitions_part}
use Rattle.tree_building.specs.StartsSentences.{specification_part, starts_part}

abbrev pub kind_of : Token → ℕ
kind_of token = token.kind

-- the tokens mean it as the part
abbrev pub PartMeans : List ℕ → ℕ → List Token → Meaning → Type 0
PartMeans text p tokens meaning =
    choose (nat_lt p terms.FIRST_PART) (names_part text p tokens meaning)
    (choose (nat_lt p types.FIRST_PART) (terms_part text p tokens meaning)
    (choose (nat_lt p equations.FIRST_PART) (types_part text p tokens meaning)
    (choose (nat_lt p renamings.FIRST_PART) (equations_part text p tokens meaning)
    (choose (nat_lt p behaviours.FIRST_PART) (renamings_part text p tokens meaning)
    (choose (nat_lt p definitions.FIRST_PART) (behaviours_part text p tokens meaning)
    (choose (nat_lt p specification.FIRST_PART) (definitions_part text p tokens meaning)
    (choose (nat_lt p starts.FIRST_PART) (specification_part text p tokens meaning)
    (starts_part text p tokens meaning))))))))

-- a row keeps what its parts are
abbrev pub KeepsParts : List ℕ → GrammarRow → Type 0
KeepsParts text row =
    (tokens : List Token) (values : List Meaning) (value : Meaning)
    → StandForTokens kind_of (PartMeans text) row.production.right tokens values →
    row_means text row.name (front_token is_kept_kind row.production.right tokens) values ≡ Some value →
    PartMeans text row.production.left tokens value

-- the tokens have the meaning as the part by a derivation
abbrev pub Derived : List ℕ → ℕ → List Token → Meaning → Type 0
Derived text = HasValue (numbered_row_means text) is_kept_kind kind_of rows

-- a row gives a meaning where its parts have theirs
abbrev pub GivesMeaning : List ℕ → GrammarRow → Type 0
GivesMeaning text row =
    (tokens : List Token) (values : List Meaning) →
    StandForTokens kind_of (PartMeans text) row.production.right tokens values →
    (value : Meaning) × (row_means text row.name (front_token is_kept_kind row.production.right tokens) values ≡ Some value)
