-- Rows of which no token is kept mean the same whatever token is given.
use Rattle.std.proofs.Common.{◌≡◌, List, refl}
use Rattle.std.specs.Prelude.{Option, None}
use Rattle.lotos_lexer.specs.declared.tokens.Token.{Token}
use Rattle.lotos_rows.specs.declared.renamings.RenamingsRow.{RenamingsRow}
use Rattle.lotos_rows.specs.declared.renamings.RenamingsRow.TheVariants as renaming_row
use Rattle.lotos_rows.specs.declared.definitions.DefinitionsRow.{DefinitionsRow}
use Rattle.lotos_rows.specs.declared.definitions.DefinitionsRow.TheVariants as definition_row
use Rattle.lotos_rows.specs.declared.specification.SpecificationRow.{SpecificationRow}
use Rattle.lotos_rows.specs.declared.specification.SpecificationRow.TheVariants as specification_row
use Rattle.lotos_rows.specs.declared.starts.StartsRow.{StartsRow}
use Rattle.lotos_rows.specs.declared.starts.StartsRow.TheVariants as start_row
use Rattle.tree_building.specs.Meaning.{Meaning}
use Rattle.tree_building.specs.RowMeaning.{renamings_row_means, definitions_row_means, specification_row_means, starts_row_means}

pub renamings_without_token : (row : RenamingsRow) (token : Option Token) (parts : List Meaning) →
    renamings_row_means row None parts ≡ renamings_row_means row token parts
renamings_without_token renaming_row.Renames token parts = refl
renamings_without_token _ token parts = refl

pub definitions_without_token : (row : DefinitionsRow) (token : Option Token) (parts : List Meaning) →
    definitions_row_means row None parts ≡ definitions_row_means row token parts
definitions_without_token definition_row.Heading token parts = refl
definitions_without_token _ token parts = refl

pub specification_without_token : (row : SpecificationRow) (token : Option Token) (parts : List Meaning) →
    specification_row_means row None parts ≡ specification_row_means row token parts
specification_without_token specification_row.NoItems token parts = refl
specification_without_token _ token parts = refl

pub starts_without_token : (row : StartsRow) (token : Option Token) (parts : List Meaning) →
    starts_row_means row None parts ≡ starts_row_means row token parts
starts_without_token start_row.Spec token parts = refl
starts_without_token _ token parts = refl

-- the same of all four subjects
pub ruleset without_token = (renamings_without_token, definitions_without_token, specification_without_token, starts_without_token)
