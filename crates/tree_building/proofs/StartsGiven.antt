-- Each row of this subject gives a meaning, where its parts have theirs: starts.
use Rattle.std.proofs.Common.{ℕ, List, [], ◌∷◌, refl, ap}
use Rattle.std.specs.Prelude.{option_and_then}
use Rattle.ll_engine.specs.Values.{nothing, token, part}
use Rattle.lotos_lexer.specs.declared.kinds.TheConstants as kind
use Rattle.lotos_rows.specs.Row.{row_of}
use Rattle.lotos_rows.specs.StartsRows.{starts_rows}
use Rattle.lotos_rows.specs.declared.behaviours.TheConstants as behaviours
use Rattle.lotos_rows.specs.declared.definitions.TheConstants as definitions
use Rattle.lotos_rows.specs.declared.names.TheConstants as names
use Rattle.lotos_rows.specs.declared.specification.TheConstants as specification
use Rattle.lotos_rows.specs.declared.starts.TheConstants as starts
use Rattle.lotos_rows.specs.declared.terms.TheConstants as terms
use Rattle.lotos_rows.specs.declared.starts.StartsRow.TheVariants as row
use Rattle.lotos_rows.specs.declared.row_names.RowName.TheVariants.{Starts}
use Rattle.ll_engine.specs.declared.symbol.Symbol.TheVariants.{Token as Tok, Part}
use Rattle.tree_building.specs.PartSentences.{as_one}
use Rattle.tree_building.specs.Sentences.{GivesMeaning}
use Rattle.lotos_base.proofs.Each.{Each}
use Rattle.tree_building.proofs.FlatLists.{inside_of}

module _ (text : List ℕ) where
  spec_gives : GivesMeaning text
      (row_of (Starts row.Spec) starts.SPEC
      (Tok kind.SPECIFICATION ∷ Part definitions.HEADING ∷ Part specification.ITEMS ∷ Part specification.BEHAVIOUR_WORD ∷ Part
      behaviours.BEHAVIOUR ∷ Part definitions.WHERE ∷ Tok kind.ENDSPEC ∷ []))
  spec_gives _ _
      (token _ _ (part (as_one _) (part (as_one _) (part (as_one _) (part (as_one p) (part (as_one _) (token _ _ nothing))))))) =
      (_, ap (option_and_then _) (inside_of text p).1)

  typetext_gives : GivesMeaning text (row_of (Starts row.Typetext) starts.TYPETEXT (Part specification.ITEMS ∷ []))
  typetext_gives _ _ (part (as_one _) nothing) = (_, refl)

  no_order_gives : GivesMeaning text (row_of (Starts row.NoOrder) starts.ORDER [])
  no_order_gives _ _ nothing = (_, refl)

  order_gives : GivesMeaning text
      (row_of (Starts row.Order) starts.ORDER
      (Part names.OPERATION ∷ Part starts.OPTIONAL_PROFILE ∷ Part starts.OPTIONAL_STATUS ∷ Tok kind.SEMICOLON ∷ Part starts.ORDER ∷ []))
  order_gives _ _ (part (as_one _) (part (as_one _) (part (as_one _) (token _ _ (part (as_one _) nothing))))) = (_, refl)

  no_optional_profile_gives : GivesMeaning text (row_of (Starts row.NoOptionalProfile) starts.OPTIONAL_PROFILE [])
  no_optional_profile_gives _ _ nothing = (_, refl)

  optional_profile_gives : GivesMeaning text (row_of (Starts row.OptionalProfile) starts.OPTIONAL_PROFILE (Part names.PROFILE ∷ []))
  optional_profile_gives _ _ (part (as_one _) nothing) = (_, refl)

  no_terms_gives : GivesMeaning text (row_of (Starts row.NoTerms) starts.TERMS [])
  no_terms_gives _ _ nothing = (_, refl)

  terms_gives : GivesMeaning text (row_of (Starts row.Terms) starts.TERMS (Part terms.TERM_LIST ∷ []))
  terms_gives _ _ (part (as_one _) nothing) = (_, refl)

  no_optional_status_gives : GivesMeaning text (row_of (Starts row.NoOptionalStatus) starts.OPTIONAL_STATUS [])
  no_optional_status_gives _ _ nothing = (_, refl)

  optional_status_gives : GivesMeaning text (row_of (Starts row.OptionalStatus) starts.OPTIONAL_STATUS (Part names.NAME ∷ []))
  optional_status_gives _ _ (part (as_one _) nothing) = (_, refl)

  pub starts_give : Each (GivesMeaning text) starts_rows
  starts_give = (
    spec_gives,
    (
      typetext_gives,
      (
        no_order_gives,
        (
          order_gives,
          (
            no_optional_profile_gives,
            (optional_profile_gives, (no_terms_gives, (terms_gives, (no_optional_status_gives, (optional_status_gives, tt))))),
          ),
        ),
      ),
    ),
  )
