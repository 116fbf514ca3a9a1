-- A derivation by each row of this subject: starts.
use Rattle.std.proofs.Common.{◌≡◌, ℕ, List, [], ◌∷◌, ◌++◌, refl, subst}
use Rattle.std.specs.Prelude.{Some, None}
use Rattle.std.proofs.lemmas.List.{append-nil}
use Rattle.ll_engine.specs.Values.{nothing, token, part}
use Rattle.lotos_lexer.specs.declared.tokens.Token.{Token}
use Rattle.lotos_lexer.specs.declared.kinds.TheConstants as kind
use Rattle.lotos_rows.specs.Row.{row_of}
use Rattle.lotos_rows.specs.declared.behaviours.TheConstants as behaviours
use Rattle.lotos_rows.specs.declared.definitions.TheConstants as definitions
use Rattle.lotos_rows.specs.declared.names.TheConstants as names
use Rattle.lotos_rows.specs.declared.specification.TheConstants as specification
use Rattle.lotos_rows.specs.declared.starts.TheConstants as starts
use Rattle.lotos_rows.specs.declared.terms.TheConstants as terms
use Rattle.lotos_rows.specs.declared.starts.StartsRow.TheVariants as row
use Rattle.lotos_rows.specs.declared.row_names.RowName.TheVariants.{Starts}
use Rattle.ll_engine.specs.declared.symbol.Symbol.TheVariants.{Token as Tok, Part}
use Rattle.lotos_rows.specs.Words.{IsOfKind}
use Rattle.tree_building.specs.Meaning.{Meaning}
use Rattle.tree_building.specs.RowMeaning.{starts_row_means}
use Rattle.tree_building.specs.Sentences.{Derived}
use Rattle.tree_building.proofs.DerivedBy.{derived_by}

module _ (text : List ℕ) where
  abbrev D : ℕ → List Token → Meaning → Type 0
  D = Derived text

  pub by_spec : {t1 t2 : Token} {o1 o2 o3 o4 o5 : List Token} {m1 m2 m3 m4 m5 value : Meaning} → IsOfKind kind.SPECIFICATION t1 →
      D definitions.HEADING o1 m1 → D specification.ITEMS o2 m2 → D specification.BEHAVIOUR_WORD o3 m3 → D behaviours.BEHAVIOUR o4 m4 →
      D definitions.WHERE o5 m5 → IsOfKind kind.ENDSPEC t2 → starts_row_means row.Spec None (m1 ∷ m2 ∷ m3 ∷ m4 ∷ m5 ∷ []) ≡ Some value →
      D starts.SPEC (t1 ∷ (o1 ++ (o2 ++ (o3 ++ (o4 ++ (o5 ++ (t2 ∷ []))))))) value
  by_spec {t1 = t1} {t2 = t2} i1 d1 d2 d3 d4 d5 i2 given =
      derived_by text 150
      (row_of (Starts row.Spec) starts.SPEC
      (Tok kind.SPECIFICATION ∷ Part definitions.HEADING ∷ Part specification.ITEMS ∷ Part specification.BEHAVIOUR_WORD ∷ Part
      behaviours.BEHAVIOUR ∷ Part definitions.WHERE ∷ Tok kind.ENDSPEC ∷ [])) refl
      (token t1 i1.kind_is (part d1 (part d2 (part d3 (part d4 (part d5 (token t2 i2.kind_is nothing))))))) given

  pub by_typetext : {o1 : List Token} {m1 value : Meaning} → D specification.ITEMS o1 m1 →
      starts_row_means row.Typetext None (m1 ∷ []) ≡ Some value → D starts.TYPETEXT (o1) value
  by_typetext {o1 = o1} {m1 = m1} {value = value} d1 given =
      subst (λ (l : List Token). D starts.TYPETEXT (l) value) (append-nil o1)
      (derived_by text 151 (row_of (Starts row.Typetext) starts.TYPETEXT (Part specification.ITEMS ∷ [])) refl (part d1 nothing) given)

  pub by_no_order : {value : Meaning} → starts_row_means row.NoOrder None ([]) ≡ Some value → D starts.ORDER ([]) value
  by_no_order given = derived_by text 152 (row_of (Starts row.NoOrder) starts.ORDER ([])) refl nothing given

  pub by_order : {o1 o2 o3 o4 : List Token} {m1 m2 m3 m4 value : Meaning} {t1 : Token} → D names.OPERATION o1 m1 →
      D starts.OPTIONAL_PROFILE o2 m2 → D starts.OPTIONAL_STATUS o3 m3 → IsOfKind kind.SEMICOLON t1 → D starts.ORDER o4 m4 →
      starts_row_means row.Order None (m1 ∷ m2 ∷ m3 ∷ m4 ∷ []) ≡ Some value → D starts.ORDER (o1 ++ (o2 ++ (o3 ++ (t1 ∷ o4)))) value
  by_order {o1 = o1} {o2 = o2} {o3 = o3} {o4 = o4} {m1 = m1} {m2 = m2} {m3 = m3} {m4 = m4} {value = value} {t1 = t1}
      d1 d2 d3 i1 d4 given =
      subst (λ (l : List Token). D starts.ORDER (o1 ++ (o2 ++ (o3 ++ (t1 ∷ l)))) value) (append-nil o4)
      (derived_by text 153
      (row_of (Starts row.Order) starts.ORDER
      (Part names.OPERATION ∷ Part starts.OPTIONAL_PROFILE ∷ Part starts.OPTIONAL_STATUS ∷ Tok kind.SEMICOLON ∷ Part starts.ORDER ∷ []))
      refl (part d1 (part d2 (part d3 (token t1 i1.kind_is (part d4 nothing))))) given)

  pub by_no_optional_profile : {value : Meaning} → starts_row_means row.NoOptionalProfile None ([]) ≡ Some value →
      D starts.OPTIONAL_PROFILE ([]) value
  by_no_optional_profile given =
      derived_by text 154 (row_of (Starts row.NoOptionalProfile) starts.OPTIONAL_PROFILE ([])) refl nothing given

  pub by_optional_profile : {o1 : List Token} {m1 value : Meaning} → D names.PROFILE o1 m1 →
      starts_row_means row.OptionalProfile None (m1 ∷ []) ≡ Some value → D starts.OPTIONAL_PROFILE (o1) value
  by_optional_profile {o1 = o1} {m1 = m1} {value = value} d1 given =
      subst (λ (l : List Token). D starts.OPTIONAL_PROFILE (l) value) (append-nil o1)
      (derived_by text 155 (row_of (Starts row.OptionalProfile) starts.OPTIONAL_PROFILE (Part names.PROFILE ∷ [])) refl
      (part d1 nothing) given)

  pub by_no_terms : {value : Meaning} → starts_row_means row.NoTerms None ([]) ≡ Some value → D starts.TERMS ([]) value
  by_no_terms given = derived_by text 156 (row_of (Starts row.NoTerms) starts.TERMS ([])) refl nothing given

  pub by_terms : {o1 : List Token} {m1 value : Meaning} → D terms.TERM_LIST o1 m1 →
      starts_row_means row.Terms None (m1 ∷ []) ≡ Some value → D starts.TERMS (o1) value
  by_terms {o1 = o1} {m1 = m1} {value = value} d1 given =
      subst (λ (l : List Token). D starts.TERMS (l) value) (append-nil o1)
      (derived_by text 157 (row_of (Starts row.Terms) starts.TERMS (Part terms.TERM_LIST ∷ [])) refl (part d1 nothing) given)

  pub by_no_optional_status : {value : Meaning} → starts_row_means row.NoOptionalStatus None ([]) ≡ Some value →
      D starts.OPTIONAL_STATUS ([]) value
  by_no_optional_status given =
      derived_by text 158 (row_of (Starts row.NoOptionalStatus) starts.OPTIONAL_STATUS ([])) refl nothing given

  pub by_optional_status : {o1 : List Token} {m1 value : Meaning} → D names.NAME o1 m1 →
      starts_row_means row.OptionalStatus None (m1 ∷ []) ≡ Some value → D starts.OPTIONAL_STATUS (o1) value
  by_optional_status {o1 = o1} {m1 = m1} {value = value} d1 given =
      subst (λ (l : List Token). D starts.OPTIONAL_STATUS (l) value) (append-nil o1)
      (derived_by text 159 (row_of (Starts row.OptionalStatus) starts.OPTIONAL_STATUS (Part names.NAME ∷ [])) refl
      (part d1 nothing) given)
