-- The rows of the texts that are no specifications keep what their parts are.
use Rattle.std.proofs.Common.{ℕ, List, [], ◌∷◌, refl, append_assoc}
use Rattle.std.proofs.lemmas.List.{append-nil}
use Rattle.ll_engine.specs.Values.{nothing, token, part}
use Rattle.lotos_lexer.specs.declared.kinds.TheConstants as kind
use Rattle.lotos_rows.specs.Row.{row_of}
use Rattle.lotos_rows.specs.declared.starts.TheConstants as starts
use Rattle.lotos_rows.specs.declared.names.TheConstants as names
use Rattle.lotos_rows.specs.declared.terms.TheConstants as terms
use Rattle.lotos_rows.specs.declared.specification.TheConstants as specification
use Rattle.lotos_rows.specs.declared.definitions.TheConstants as definitions
use Rattle.lotos_rows.specs.declared.behaviours.TheConstants as behaviours
use Rattle.lotos_rows.specs.declared.starts.StartsRow.TheVariants as row
use Rattle.lotos_rows.specs.declared.row_names.RowName.TheVariants.{Starts}
use Rattle.ll_engine.specs.declared.symbol.Symbol.TheVariants.{Token as Tok, Part}
use Rattle.tree_building.specs.PartSentences.{as_one}
use Rattle.tree_building.specs.Sentences.{KeepsParts}
use Rattle.lotos_rows.specs.Words.{left_out, there, no_more, and_then}
use Rattle.lotos_rows.specs.Starts as family
use Rattle.lotos_rows.specs.StartsRows.{starts_rows}
use Rattle.tree_building.specs.StartsSentences.{a_behaviour_word}
use Rattle.lotos_base.proofs.Each.{Each}
use Rattle.tree_building.proofs.BehavioursRows.{with_inside}
use Rattle.tree_building.proofs.Lists.{is_of, shown}

module _ (text : List ℕ) where
  spec_row : KeepsParts text
      (row_of (Starts row.Spec) starts.SPEC
      (Tok kind.SPECIFICATION ∷ Part definitions.HEADING ∷ Part specification.ITEMS ∷ Part specification.BEHAVIOUR_WORD ∷ Part
      behaviours.BEHAVIOUR ∷ Part definitions.WHERE ∷ Tok kind.ENDSPEC ∷ []))
  spec_row _ _ value
      (token t1 i1
      (part (as_one p1)
      (part (as_one p2) (part (as_one (a_behaviour_word w)) (part (as_one p4) (part (as_one p5) (token t2 i2 nothing))))))) given =
      with_inside text _ p4 given (λ inside is same. shown _ _ same (family.a_specification (is_of t1 i1) p1 p2 w is p5 (is_of t2 i2)) refl)

  typetext_row : KeepsParts text (row_of (Starts row.Typetext) starts.TYPETEXT (Part specification.ITEMS ∷ []))
  typetext_row _ _ value (part (as_one p1) nothing) given = shown _ _ given p1 (simp (append-nil) refl)

  no_order_row : KeepsParts text (row_of (Starts row.NoOrder) starts.ORDER [])
  no_order_row _ _ value nothing given = shown _ _ given no_more refl

  order_row : KeepsParts text
      (row_of (Starts row.Order) starts.ORDER
      (Part names.OPERATION ∷ Part starts.OPTIONAL_PROFILE ∷ Part starts.OPTIONAL_STATUS ∷ Tok kind.SEMICOLON ∷ Part starts.ORDER ∷ []))
  order_row _ _ value (part (as_one p1) (part (as_one p2) (part (as_one p3) (token t1 i1 (part (as_one p4) nothing))))) given =
      shown _ _ given (and_then (family.listed p1 p2 p3 (is_of t1 i1)) p4) (simp (append-nil, append_assoc) refl)

  no_optional_profile_row : KeepsParts text (row_of (Starts row.NoOptionalProfile) starts.OPTIONAL_PROFILE [])
  no_optional_profile_row _ _ value nothing given = shown _ _ given family.without_profile refl

  optional_profile_row : KeepsParts text (row_of (Starts row.OptionalProfile) starts.OPTIONAL_PROFILE (Part names.PROFILE ∷ []))
  optional_profile_row _ _ value (part (as_one p1) nothing) given = shown _ _ given (family.with_profile p1) (simp (append-nil) refl)

  no_terms_row : KeepsParts text (row_of (Starts row.NoTerms) starts.TERMS [])
  no_terms_row _ _ value nothing given = shown _ _ given left_out refl

  terms_row : KeepsParts text (row_of (Starts row.Terms) starts.TERMS (Part terms.TERM_LIST ∷ []))
  terms_row _ _ value (part (as_one p1) nothing) given = shown _ _ given (there p1) (simp (append-nil) refl)

  no_optional_status_row : KeepsParts text (row_of (Starts row.NoOptionalStatus) starts.OPTIONAL_STATUS [])
  no_optional_status_row _ _ value nothing given = shown _ _ given family.without_status refl

  optional_status_row : KeepsParts text (row_of (Starts row.OptionalStatus) starts.OPTIONAL_STATUS (Part names.NAME ∷ []))
  optional_status_row _ _ value (part (as_one p1) nothing) given = shown _ _ given (family.with_status p1) (simp (append-nil) refl)

  pub starts_keep : Each (KeepsParts text) starts_rows
  starts_keep = (
    spec_row,
    (
      typetext_row,
      (
        no_order_row,
        (
          order_row,
          (
            no_optional_profile_row,
            (optional_profile_row, (no_terms_row, (terms_row, (no_optional_status_row, (optional_status_row, tt))))),
          ),
        ),
      ),
    ),
  )
