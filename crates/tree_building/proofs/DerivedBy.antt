-- A derivation by one row more.
use Rattle.std.proofs.Common.{◌≡◌, ◌∙◌, ℕ, List, ap}
use Rattle.std.specs.Prelude.{Some, option_and_then, slice_get}
use Rattle.lotos_base.proofs.Members.{at_map}
use Rattle.ll_engine.specs.Fold.{front_token}
use Rattle.ll_engine.specs.Values.{StandForTokens}
use Rattle.ll_engine.proofs.Values.{closed}
use Rattle.lotos_lexer.specs.declared.tokens.Token.{Token}
use Rattle.lotos_rows.specs.Kept.{is_kept_kind}
use Rattle.lotos_rows.specs.Row.{GrammarRow}
use Rattle.lotos_rows.specs.declared.row_names.RowName.{RowName}
use Rattle.lotos_rows.specs.Rows.{grammar_rows, rows, row_names}
use Rattle.tree_building.specs.Meaning.{Meaning}
use Rattle.tree_building.specs.RowMeaning.{row_means, numbered_row_means}
use Rattle.tree_building.specs.Sentences.{kind_of, Derived}

named_at : (number : ℕ) (row : GrammarRow) → slice_get grammar_rows number ≡ Some row → slice_get row_names number ≡ Some row.name
unfolding row_names
named_at number row is = at_map (λ (r : GrammarRow). r.name) grammar_rows number row is

production_at : (number : ℕ) (row : GrammarRow) → slice_get grammar_rows number ≡ Some row → slice_get rows number ≡ Some row.production
unfolding rows
production_at number row is = at_map (λ (r : GrammarRow). r.production) grammar_rows number row is

pub derived_by : (text : List ℕ) (number : ℕ) (row : GrammarRow) {tokens : List Token} {values : List Meaning} {value : Meaning} →
    slice_get grammar_rows number ≡ Some row →
    StandForTokens kind_of (Derived text) row.production.right tokens values →
    row_means text row.name (front_token is_kept_kind row.production.right tokens) values ≡ Some value →
    Derived text row.production.left tokens value
derived_by text number row {tokens} {values} {value} is stands given =
    closed (numbered_row_means text) is_kept_kind kind_of rows number row.production tokens values value (production_at number row is)
    stands
    (ap (option_and_then (λ (name : RowName). row_means text name (front_token is_kept_kind row.production.right tokens) values))
    (named_at number row is) ∙ given)
