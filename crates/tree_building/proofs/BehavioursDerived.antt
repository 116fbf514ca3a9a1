-- A derivation by each row of this subject: behaviours.
use Rattle.std.proofs.Common.{◌≡◌, ℕ, List, [], ◌∷◌, ◌++◌, refl, subst}
use Rattle.std.specs.Prelude.{Some, None}
use Rattle.std.proofs.lemmas.List.{append-nil}
use Rattle.ll_engine.specs.Values.{nothing, token, part}
use Rattle.lotos_lexer.specs.declared.tokens.Token.{Token}
use Rattle.lotos_lexer.specs.declared.kinds.TheConstants as kind
use Rattle.lotos_rows.specs.Row.{row_of}
use Rattle.lotos_rows.specs.declared.behaviours.TheConstants as behaviours
use Rattle.lotos_rows.specs.declared.equations.TheConstants as equations
use Rattle.lotos_rows.specs.declared.names.TheConstants as names
use Rattle.lotos_rows.specs.declared.terms.TheConstants as terms
use Rattle.lotos_rows.specs.declared.behaviours.BehavioursRow.TheVariants as row
use Rattle.lotos_rows.specs.declared.row_names.RowName.TheVariants.{Behaviours}
use Rattle.ll_engine.specs.declared.symbol.Symbol.TheVariants.{Token as Tok, Part}
use Rattle.lotos_rows.specs.Words.{IsOfKind}
use Rattle.tree_building.specs.Meaning.{Meaning}
use Rattle.tree_building.specs.RowMeaning.{behaviours_row_means}
use Rattle.tree_building.specs.Sentences.{Derived}
use Rattle.tree_building.proofs.DerivedBy.{derived_by}

module _ (text : List ℕ) where
  abbrev D : ℕ → List Token → Meaning → Type 0
  D = Derived text

  pub by_hide : {t1 t2 : Token} {o1 o2 : List Token} {m1 m2 value : Meaning} → IsOfKind kind.HIDE t1 → D names.NAMES o1 m1
      → IsOfKind kind.IN t2 →
      D behaviours.BEHAVIOUR o2 m2 → behaviours_row_means row.Hide (Some t1) (m1 ∷ m2 ∷ []) ≡ Some value →
      D behaviours.BEHAVIOUR (t1 ∷ (o1 ++ (t2 ∷ o2))) value
  by_hide {t1 = t1} {t2 = t2} {o1 = o1} {o2 = o2} {m1 = m1} {m2 = m2} {value = value} i1 d1 i2 d2 given =
      subst (λ (l : List Token). D behaviours.BEHAVIOUR (t1 ∷ (o1 ++ (t2 ∷ l))) value) (append-nil o2)
      (derived_by text 89
      (row_of (Behaviours row.Hide) behaviours.BEHAVIOUR
      (Tok kind.HIDE ∷ Part names.NAMES ∷ Tok kind.IN ∷ Part behaviours.BEHAVIOUR ∷ [])) refl
      (token t1 i1.kind_is (part d1 (token t2 i2.kind_is (part d2 nothing)))) given)

  pub by_let : {t1 t2 : Token} {o1 o2 : List Token} {m1 m2 value : Meaning} → IsOfKind kind.LET t1 → D behaviours.LET_LIST o1 m1 →
      IsOfKind kind.IN t2 → D behaviours.BEHAVIOUR o2 m2 → behaviours_row_means row.Let (Some t1) (m1 ∷ m2 ∷ []) ≡ Some value →
      D behaviours.BEHAVIOUR (t1 ∷ (o1 ++ (t2 ∷ o2))) value
  by_let {t1 = t1} {t2 = t2} {o1 = o1} {o2 = o2} {m1 = m1} {m2 = m2} {value = value} i1 d1 i2 d2 given =
      subst (λ (l : List Token). D behaviours.BEHAVIOUR (t1 ∷ (o1 ++ (t2 ∷ l))) value) (append-nil o2)
      (derived_by text 90
      (row_of (Behaviours row.Let) behaviours.BEHAVIOUR
      (Tok kind.LET ∷ Part behaviours.LET_LIST ∷ Tok kind.IN ∷ Part behaviours.BEHAVIOUR ∷ [])) refl
      (token t1 i1.kind_is (part d1 (token t2 i2.kind_is (part d2 nothing)))) given)

  pub by_choice : {t1 : Token} {o1 o2 : List Token} {m1 m2 value : Meaning} → IsOfKind kind.CHOICE t1 → D names.NAMES o1 m1 →
      D behaviours.AFTER_CHOICE o2 m2 → behaviours_row_means row.Choice (Some t1) (m1 ∷ m2 ∷ []) ≡ Some value →
      D behaviours.BEHAVIOUR (t1 ∷ (o1 ++ o2)) value
  by_choice {t1 = t1} {o1 = o1} {o2 = o2} {m1 = m1} {m2 = m2} {value = value} i1 d1 d2 given =
      subst (λ (l : List Token). D behaviours.BEHAVIOUR (t1 ∷ (o1 ++ l)) value) (append-nil o2)
      (derived_by text 91
      (row_of (Behaviours row.Choice) behaviours.BEHAVIOUR (Tok kind.CHOICE ∷ Part names.NAMES ∷ Part behaviours.AFTER_CHOICE ∷ []))
      refl (token t1 i1.kind_is (part d1 (part d2 nothing))) given)

  pub by_par : {t1 : Token} {o1 o2 o3 : List Token} {m1 m2 m3 value : Meaning} → IsOfKind kind.PAR t1 → D behaviours.GATE_CHOICES o1 m1 →
      D behaviours.PARALLEL o2 m2 → D behaviours.BEHAVIOUR o3 m3 →
      behaviours_row_means row.Par (Some t1) (m1 ∷ m2 ∷ m3 ∷ []) ≡ Some value → D behaviours.BEHAVIOUR (t1 ∷ (o1 ++ (o2 ++ o3))) value
  by_par {t1 = t1} {o1 = o1} {o2 = o2} {o3 = o3} {m1 = m1} {m2 = m2} {m3 = m3} {value = value} i1 d1 d2 d3 given =
      subst (λ (l : List Token). D behaviours.BEHAVIOUR (t1 ∷ (o1 ++ (o2 ++ l))) value) (append-nil o3)
      (derived_by text 92
      (row_of (Behaviours row.Par) behaviours.BEHAVIOUR
      (Tok kind.PAR ∷ Part behaviours.GATE_CHOICES ∷ Part behaviours.PARALLEL ∷ Part behaviours.BEHAVIOUR ∷ [])) refl
      (token t1 i1.kind_is (part d1 (part d2 (part d3 nothing)))) given)

  pub by_internal : {t1 t2 : Token} {o1 : List Token} {m1 value : Meaning} → IsOfKind kind.I t1 → IsOfKind kind.SEMICOLON t2 →
      D behaviours.BEHAVIOUR o1 m1 → behaviours_row_means row.Internal (Some t1) (m1 ∷ []) ≡ Some value →
      D behaviours.BEHAVIOUR (t1 ∷ (t2 ∷ o1)) value
  by_internal {t1 = t1} {t2 = t2} {o1 = o1} {m1 = m1} {value = value} i1 i2 d1 given =
      subst (λ (l : List Token). D behaviours.BEHAVIOUR (t1 ∷ (t2 ∷ l)) value) (append-nil o1)
      (derived_by text 93
      (row_of (Behaviours row.Internal) behaviours.BEHAVIOUR (Tok kind.I ∷ Tok kind.SEMICOLON ∷ Part behaviours.BEHAVIOUR ∷ [])) refl
      (token t1 i1.kind_is (token t2 i2.kind_is (part d1 nothing))) given)

  pub by_guarded : {t1 t2 t3 : Token} {o1 o2 : List Token} {m1 m2 value : Meaning} → IsOfKind kind.LEFT_BRACKET t1 →
      D equations.PREMISS o1 m1 → IsOfKind kind.RIGHT_BRACKET t2 → IsOfKind kind.ARROW t3 → D behaviours.BEHAVIOUR o2 m2 →
      behaviours_row_means row.Guarded (Some t1) (m1 ∷ m2 ∷ []) ≡ Some value → D behaviours.BEHAVIOUR (t1 ∷ (o1 ++ (t2 ∷ (t3 ∷ o2)))) value
  by_guarded {t1 = t1} {t2 = t2} {t3 = t3} {o1 = o1} {o2 = o2} {m1 = m1} {m2 = m2} {value = value} i1 d1 i2 i3 d2 given =
      subst (λ (l : List Token). D behaviours.BEHAVIOUR (t1 ∷ (o1 ++ (t2 ∷ (t3 ∷ l)))) value) (append-nil o2)
      (derived_by text 94
      (row_of (Behaviours row.Guarded) behaviours.BEHAVIOUR
      (Tok kind.LEFT_BRACKET ∷ Part equations.PREMISS ∷ Tok kind.RIGHT_BRACKET ∷ Tok kind.ARROW ∷ Part behaviours.BEHAVIOUR ∷ []))
      refl (token t1 i1.kind_is (part d1 (token t2 i2.kind_is (token t3 i3.kind_is (part d2 nothing))))) given)

  pub by_name_first : {o1 o2 : List Token} {m1 m2 value : Meaning} → D names.NAME o1 m1 → D behaviours.AFTER_NAME o2 m2 →
      behaviours_row_means row.NameFirst None (m1 ∷ m2 ∷ []) ≡ Some value → D behaviours.BEHAVIOUR (o1 ++ o2) value
  by_name_first {o1 = o1} {o2 = o2} {m1 = m1} {m2 = m2} {value = value} d1 d2 given =
      subst (λ (l : List Token). D behaviours.BEHAVIOUR (o1 ++ l) value) (append-nil o2)
      (derived_by text 95 (row_of (Behaviours row.NameFirst) behaviours.BEHAVIOUR (Part names.NAME ∷ Part behaviours.AFTER_NAME ∷ []))
      refl (part d1 (part d2 nothing)) given)

  pub by_stop : {t1 : Token} {o1 : List Token} {m1 value : Meaning} → IsOfKind kind.STOP t1 → D behaviours.BEHAVIOUR_TAIL o1 m1 →
      behaviours_row_means row.Stop (Some t1) (m1 ∷ []) ≡ Some value → D behaviours.BEHAVIOUR (t1 ∷ o1) value
  by_stop {t1 = t1} {o1 = o1} {m1 = m1} {value = value} i1 d1 given =
      subst (λ (l : List Token). D behaviours.BEHAVIOUR (t1 ∷ l) value) (append-nil o1)
      (derived_by text 96 (row_of (Behaviours row.Stop) behaviours.BEHAVIOUR (Tok kind.STOP ∷ Part behaviours.BEHAVIOUR_TAIL ∷ []))
      refl (token t1 i1.kind_is (part d1 nothing)) given)

  pub by_exit : {t1 : Token} {o1 o2 : List Token} {m1 m2 value : Meaning} → IsOfKind kind.EXIT t1 → D behaviours.EXIT_VALUES o1 m1 →
      D behaviours.BEHAVIOUR_TAIL o2 m2 → behaviours_row_means row.Exit (Some t1) (m1 ∷ m2 ∷ []) ≡ Some value →
      D behaviours.BEHAVIOUR (t1 ∷ (o1 ++ o2)) value
  by_exit {t1 = t1} {o1 = o1} {o2 = o2} {m1 = m1} {m2 = m2} {value = value} i1 d1 d2 given =
      subst (λ (l : List Token). D behaviours.BEHAVIOUR (t1 ∷ (o1 ++ l)) value) (append-nil o2)
      (derived_by text 97
      (row_of (Behaviours row.Exit) behaviours.BEHAVIOUR
      (Tok kind.EXIT ∷ Part behaviours.EXIT_VALUES ∷ Part behaviours.BEHAVIOUR_TAIL ∷ [])) refl
      (token t1 i1.kind_is (part d1 (part d2 nothing))) given)

  pub by_bracketed_behaviour : {t1 t2 : Token} {o1 o2 : List Token} {m1 m2 value : Meaning} → IsOfKind kind.LEFT_PARENTHESIS t1 →
      D behaviours.BEHAVIOUR o1 m1 → IsOfKind kind.RIGHT_PARENTHESIS t2 → D behaviours.BEHAVIOUR_TAIL o2 m2 →
      behaviours_row_means row.BracketedBehaviour (Some t1) (m1 ∷ m2 ∷ []) ≡ Some value →
      D behaviours.BEHAVIOUR (t1 ∷ (o1 ++ (t2 ∷ o2))) value
  by_bracketed_behaviour {t1 = t1} {t2 = t2} {o1 = o1} {o2 = o2} {m1 = m1} {m2 = m2} {value = value} i1 d1 i2 d2 given =
      subst (λ (l : List Token). D behaviours.BEHAVIOUR (t1 ∷ (o1 ++ (t2 ∷ l))) value) (append-nil o2)
      (derived_by text 98
      (row_of (Behaviours row.BracketedBehaviour) behaviours.BEHAVIOUR
      (Tok kind.LEFT_PARENTHESIS ∷ Part behaviours.BEHAVIOUR ∷ Tok kind.RIGHT_PARENTHESIS ∷ Part behaviours.BEHAVIOUR_TAIL ∷ [])) refl
      (token t1 i1.kind_is (part d1 (token t2 i2.kind_is (part d2 nothing)))) given)

  pub by_no_behaviour_tail : {value : Meaning} → behaviours_row_means row.NoBehaviourTail None ([]) ≡ Some value →
      D behaviours.BEHAVIOUR_TAIL ([]) value
  by_no_behaviour_tail given =
      derived_by text 99 (row_of (Behaviours row.NoBehaviourTail) behaviours.BEHAVIOUR_TAIL ([])) refl nothing given

  pub by_behaviour_tail : {o1 o2 : List Token} {m1 m2 value : Meaning} → D behaviours.SIGN o1 m1 → D behaviours.BEHAVIOUR o2 m2 →
      behaviours_row_means row.BehaviourTail None (m1 ∷ m2 ∷ []) ≡ Some value → D behaviours.BEHAVIOUR_TAIL (o1 ++ o2) value
  by_behaviour_tail {o1 = o1} {o2 = o2} {m1 = m1} {m2 = m2} {value = value} d1 d2 given =
      subst (λ (l : List Token). D behaviours.BEHAVIOUR_TAIL (o1 ++ l) value) (append-nil o2)
      (derived_by text 100
      (row_of (Behaviours row.BehaviourTail) behaviours.BEHAVIOUR_TAIL (Part behaviours.SIGN ∷ Part behaviours.BEHAVIOUR ∷ [])) refl
      (part d1 (part d2 nothing)) given)

  pub by_action_without_offers : {t1 : Token} {o1 : List Token} {m1 value : Meaning} → IsOfKind kind.SEMICOLON t1 →
      D behaviours.BEHAVIOUR o1 m1 → behaviours_row_means row.ActionWithoutOffers None (m1 ∷ []) ≡ Some value →
      D behaviours.AFTER_NAME (t1 ∷ o1) value
  by_action_without_offers {t1 = t1} {o1 = o1} {m1 = m1} {value = value} i1 d1 given =
      subst (λ (l : List Token). D behaviours.AFTER_NAME (t1 ∷ l) value) (append-nil o1)
      (derived_by text 101
      (row_of (Behaviours row.ActionWithoutOffers) behaviours.AFTER_NAME (Tok kind.SEMICOLON ∷ Part behaviours.BEHAVIOUR ∷ [])) refl
      (token t1 i1.kind_is (part d1 nothing)) given)

  pub by_action_with_offers : {o1 o2 : List Token} {m1 m2 value : Meaning} → D behaviours.OFFER o1 m1 → D behaviours.AFTER_OFFER o2 m2 →
      behaviours_row_means row.ActionWithOffers None (m1 ∷ m2 ∷ []) ≡ Some value → D behaviours.AFTER_NAME (o1 ++ o2) value
  by_action_with_offers {o1 = o1} {o2 = o2} {m1 = m1} {m2 = m2} {value = value} d1 d2 given =
      subst (λ (l : List Token). D behaviours.AFTER_NAME (o1 ++ l) value) (append-nil o2)
      (derived_by text 102
      (row_of (Behaviours row.ActionWithOffers) behaviours.AFTER_NAME (Part behaviours.OFFER ∷ Part behaviours.AFTER_OFFER ∷ [])) refl
      (part d1 (part d2 nothing)) given)

  pub by_call : {o1 o2 o3 : List Token} {m1 m2 m3 value : Meaning} → D names.OPTIONAL_GATES o1 m1 → D terms.ARGUMENTS o2 m2 →
      D behaviours.BEHAVIOUR_TAIL o3 m3 → behaviours_row_means row.Call None (m1 ∷ m2 ∷ m3 ∷ []) ≡ Some value →
      D behaviours.AFTER_NAME (o1 ++ (o2 ++ o3)) value
  by_call {o1 = o1} {o2 = o2} {o3 = o3} {m1 = m1} {m2 = m2} {m3 = m3} {value = value} d1 d2 d3 given =
      subst (λ (l : List Token). D behaviours.AFTER_NAME (o1 ++ (o2 ++ l)) value) (append-nil o3)
      (derived_by text 103
      (row_of (Behaviours row.Call) behaviours.AFTER_NAME
      (Part names.OPTIONAL_GATES ∷ Part terms.ARGUMENTS ∷ Part behaviours.BEHAVIOUR_TAIL ∷ [])) refl
      (part d1 (part d2 (part d3 nothing))) given)

  pub by_give : {t1 : Token} {o1 : List Token} {m1 value : Meaning} → IsOfKind kind.EXCLAMATION t1 → D terms.TERM o1 m1 →
      behaviours_row_means row.Give None (m1 ∷ []) ≡ Some value → D behaviours.OFFER (t1 ∷ o1) value
  by_give {t1 = t1} {o1 = o1} {m1 = m1} {value = value} i1 d1 given =
      subst (λ (l : List Token). D behaviours.OFFER (t1 ∷ l) value) (append-nil o1)
      (derived_by text 104 (row_of (Behaviours row.Give) behaviours.OFFER (Tok kind.EXCLAMATION ∷ Part terms.TERM ∷ [])) refl
      (token t1 i1.kind_is (part d1 nothing)) given)

  pub by_ask : {t1 t2 : Token} {o1 o2 : List Token} {m1 m2 value : Meaning} → IsOfKind kind.QUESTION t1 → D names.NAMES o1 m1 →
      IsOfKind kind.COLON t2 → D names.NAME o2 m2 → behaviours_row_means row.Ask None (m1 ∷ m2 ∷ []) ≡ Some value →
      D behaviours.OFFER (t1 ∷ (o1 ++ (t2 ∷ o2))) value
  by_ask {t1 = t1} {t2 = t2} {o1 = o1} {o2 = o2} {m1 = m1} {m2 = m2} {value = value} i1 d1 i2 d2 given =
      subst (λ (l : List Token). D behaviours.OFFER (t1 ∷ (o1 ++ (t2 ∷ l))) value) (append-nil o2)
      (derived_by text 105
      (row_of (Behaviours row.Ask) behaviours.OFFER (Tok kind.QUESTION ∷ Part names.NAMES ∷ Tok kind.COLON ∷ Part names.NAME ∷ []))
      refl (token t1 i1.kind_is (part d1 (token t2 i2.kind_is (part d2 nothing)))) given)

  pub by_one_more_offer : {o1 o2 : List Token} {m1 m2 value : Meaning} → D behaviours.OFFER o1 m1 → D behaviours.AFTER_OFFER o2 m2 →
      behaviours_row_means row.OneMoreOffer None (m1 ∷ m2 ∷ []) ≡ Some value → D behaviours.AFTER_OFFER (o1 ++ o2) value
  by_one_more_offer {o1 = o1} {o2 = o2} {m1 = m1} {m2 = m2} {value = value} d1 d2 given =
      subst (λ (l : List Token). D behaviours.AFTER_OFFER (o1 ++ l) value) (append-nil o2)
      (derived_by text 106
      (row_of (Behaviours row.OneMoreOffer) behaviours.AFTER_OFFER (Part behaviours.OFFER ∷ Part behaviours.AFTER_OFFER ∷ [])) refl
      (part d1 (part d2 nothing)) given)

  pub by_selection_after_offers : {t1 t2 t3 : Token} {o1 o2 : List Token} {m1 m2 value : Meaning} → IsOfKind kind.LEFT_BRACKET t1 →
      D equations.PREMISS o1 m1 → IsOfKind kind.RIGHT_BRACKET t2 → IsOfKind kind.SEMICOLON t3 → D behaviours.BEHAVIOUR o2 m2 →
      behaviours_row_means row.SelectionAfterOffers (Some t1) (m1 ∷ m2 ∷ []) ≡ Some value →
      D behaviours.AFTER_OFFER (t1 ∷ (o1 ++ (t2 ∷ (t3 ∷ o2)))) value
  by_selection_after_offers {t1 = t1} {t2 = t2} {t3 = t3} {o1 = o1} {o2 = o2} {m1 = m1} {m2 = m2} {value = value} i1 d1 i2 i3 d2 given =
      subst (λ (l : List Token). D behaviours.AFTER_OFFER (t1 ∷ (o1 ++ (t2 ∷ (t3 ∷ l)))) value) (append-nil o2)
      (derived_by text 107
      (row_of (Behaviours row.SelectionAfterOffers) behaviours.AFTER_OFFER
      (Tok kind.LEFT_BRACKET ∷ Part equations.PREMISS ∷ Tok kind.RIGHT_BRACKET ∷ Tok kind.SEMICOLON ∷ Part behaviours.BEHAVIOUR ∷ []))
      refl (token t1 i1.kind_is (part d1 (token t2 i2.kind_is (token t3 i3.kind_is (part d2 nothing))))) given)

  pub by_prefix_after_offers : {t1 : Token} {o1 : List Token} {m1 value : Meaning} → IsOfKind kind.SEMICOLON t1 →
      D behaviours.BEHAVIOUR o1 m1 → behaviours_row_means row.PrefixAfterOffers None (m1 ∷ []) ≡ Some value →
      D behaviours.AFTER_OFFER (t1 ∷ o1) value
  by_prefix_after_offers {t1 = t1} {o1 = o1} {m1 = m1} {value = value} i1 d1 given =
      subst (λ (l : List Token). D behaviours.AFTER_OFFER (t1 ∷ l) value) (append-nil o1)
      (derived_by text 108
      (row_of (Behaviours row.PrefixAfterOffers) behaviours.AFTER_OFFER (Tok kind.SEMICOLON ∷ Part behaviours.BEHAVIOUR ∷ [])) refl
      (token t1 i1.kind_is (part d1 nothing)) given)

  pub by_no_exit_values : {value : Meaning} → behaviours_row_means row.NoExitValues None ([]) ≡ Some value →
      D behaviours.EXIT_VALUES ([]) value
  by_no_exit_values given = derived_by text 109 (row_of (Behaviours row.NoExitValues) behaviours.EXIT_VALUES ([])) refl nothing given

  pub by_exit_values : {t1 t2 : Token} {o1 : List Token} {m1 value : Meaning} → IsOfKind kind.LEFT_PARENTHESIS t1 →
      D behaviours.EXIT_LIST o1 m1 → IsOfKind kind.RIGHT_PARENTHESIS t2 →
      behaviours_row_means row.ExitValues (Some t1) (m1 ∷ []) ≡ Some value → D behaviours.EXIT_VALUES (t1 ∷ (o1 ++ (t2 ∷ []))) value
  by_exit_values {t1 = t1} {t2 = t2} i1 d1 i2 given =
      derived_by text 110
      (row_of (Behaviours row.ExitValues) behaviours.EXIT_VALUES
      (Tok kind.LEFT_PARENTHESIS ∷ Part behaviours.EXIT_LIST ∷ Tok kind.RIGHT_PARENTHESIS ∷ [])) refl
      (token t1 i1.kind_is (part d1 (token t2 i2.kind_is nothing))) given

  pub by_any_exit_value : {t1 : Token} {o1 o2 : List Token} {m1 m2 value : Meaning} → IsOfKind kind.ANY t1 → D names.NAME o1 m1 →
      D behaviours.MORE_EXIT_VALUES o2 m2 → behaviours_row_means row.AnyExitValue None (m1 ∷ m2 ∷ []) ≡ Some value →
      D behaviours.EXIT_LIST (t1 ∷ (o1 ++ o2)) value
  by_any_exit_value {t1 = t1} {o1 = o1} {o2 = o2} {m1 = m1} {m2 = m2} {value = value} i1 d1 d2 given =
      subst (λ (l : List Token). D behaviours.EXIT_LIST (t1 ∷ (o1 ++ l)) value) (append-nil o2)
      (derived_by text 111
      (row_of (Behaviours row.AnyExitValue) behaviours.EXIT_LIST
      (Tok kind.ANY ∷ Part names.NAME ∷ Part behaviours.MORE_EXIT_VALUES ∷ [])) refl (token t1 i1.kind_is (part d1 (part d2 nothing)))
      given)

  pub by_given_exit_value : {o1 o2 : List Token} {m1 m2 value : Meaning} → D terms.TERM o1 m1 → D behaviours.MORE_EXIT_VALUES o2 m2 →
      behaviours_row_means row.GivenExitValue None (m1 ∷ m2 ∷ []) ≡ Some value → D behaviours.EXIT_LIST (o1 ++ o2) value
  by_given_exit_value {o1 = o1} {o2 = o2} {m1 = m1} {m2 = m2} {value = value} d1 d2 given =
      subst (λ (l : List Token). D behaviours.EXIT_LIST (o1 ++ l) value) (append-nil o2)
      (derived_by text 112
      (row_of (Behaviours row.GivenExitValue) behaviours.EXIT_LIST (Part terms.TERM ∷ Part behaviours.MORE_EXIT_VALUES ∷ [])) refl
      (part d1 (part d2 nothing)) given)

  pub by_no_more_exit_values : {value : Meaning} → behaviours_row_means row.NoMoreExitValues None ([]) ≡ Some value →
      D behaviours.MORE_EXIT_VALUES ([]) value
  by_no_more_exit_values given =
      derived_by text 113 (row_of (Behaviours row.NoMoreExitValues) behaviours.MORE_EXIT_VALUES ([])) refl nothing given

  pub by_more_exit_values : {t1 : Token} {o1 : List Token} {m1 value : Meaning} → IsOfKind kind.COMMA t1 → D behaviours.EXIT_LIST o1 m1 →
      behaviours_row_means row.MoreExitValues None (m1 ∷ []) ≡ Some value → D behaviours.MORE_EXIT_VALUES (t1 ∷ o1) value
  by_more_exit_values {t1 = t1} {o1 = o1} {m1 = m1} {value = value} i1 d1 given =
      subst (λ (l : List Token). D behaviours.MORE_EXIT_VALUES (t1 ∷ l) value) (append-nil o1)
      (derived_by text 114
      (row_of (Behaviours row.MoreExitValues) behaviours.MORE_EXIT_VALUES (Tok kind.COMMA ∷ Part behaviours.EXIT_LIST ∷ [])) refl
      (token t1 i1.kind_is (part d1 nothing)) given)

  pub by_let_list : {o1 o2 o3 o4 : List Token} {m1 m2 m3 m4 value : Meaning} {t1 t2 : Token} → D names.NAME o1 m1 → IsOfKind kind.COLON t1 →
      D names.NAME o2 m2 → IsOfKind kind.EQUALS t2 → D terms.TERM o3 m3 → D behaviours.MORE_LETS o4 m4 →
      behaviours_row_means row.LetList None (m1 ∷ m2 ∷ m3 ∷ m4 ∷ []) ≡ Some value →
      D behaviours.LET_LIST (o1 ++ (t1 ∷ (o2 ++ (t2 ∷ (o3 ++ o4))))) value
  by_let_list {o1 = o1} {o2 = o2} {o3 = o3} {o4 = o4} {m1 = m1} {m2 = m2} {m3 = m3} {m4 = m4} {value = value} {t1 = t1} {t2 = t2} d1 i1 d2
      i2 d3 d4 given =
      subst (λ (l : List Token). D behaviours.LET_LIST (o1 ++ (t1 ∷ (o2 ++ (t2 ∷ (o3 ++ l))))) value) (append-nil o4)
      (derived_by text 115
      (row_of (Behaviours row.LetList) behaviours.LET_LIST
      (Part names.NAME ∷ Tok kind.COLON ∷ Part names.NAME ∷ Tok kind.EQUALS ∷ Part terms.TERM ∷ Part behaviours.MORE_LETS ∷ [])) refl
      (part d1 (token t1 i1.kind_is (part d2 (token t2 i2.kind_is (part d3 (part d4 nothing)))))) given)

  pub by_no_more_lets : {value : Meaning} → behaviours_row_means row.NoMoreLets None ([]) ≡ Some value → D behaviours.MORE_LETS ([]) value
  by_no_more_lets given = derived_by text 116 (row_of (Behaviours row.NoMoreLets) behaviours.MORE_LETS ([])) refl nothing given

  pub by_more_lets : {t1 : Token} {o1 : List Token} {m1 value : Meaning} → IsOfKind kind.COMMA t1 → D behaviours.LET_LIST o1 m1 →
      behaviours_row_means row.MoreLets None (m1 ∷ []) ≡ Some value → D behaviours.MORE_LETS (t1 ∷ o1) value
  by_more_lets {t1 = t1} {o1 = o1} {m1 = m1} {value = value} i1 d1 given =
      subst (λ (l : List Token). D behaviours.MORE_LETS (t1 ∷ l) value) (append-nil o1)
      (derived_by text 117 (row_of (Behaviours row.MoreLets) behaviours.MORE_LETS (Tok kind.COMMA ∷ Part behaviours.LET_LIST ∷ []))
      refl (token t1 i1.kind_is (part d1 nothing)) given)

  pub by_choice_of_values : {t1 : Token} {o1 o2 o3 : List Token} {m1 m2 m3 value : Meaning} → IsOfKind kind.COLON t1 → D names.NAME o1 m1 →
      D names.MORE_VARIABLES o2 m2 → D behaviours.CHOSEN o3 m3 →
      behaviours_row_means row.ChoiceOfValues None (m1 ∷ m2 ∷ m3 ∷ []) ≡ Some value →
      D behaviours.AFTER_CHOICE (t1 ∷ (o1 ++ (o2 ++ o3))) value
  by_choice_of_values {t1 = t1} {o1 = o1} {o2 = o2} {o3 = o3} {m1 = m1} {m2 = m2} {m3 = m3} {value = value} i1 d1 d2 d3 given =
      subst (λ (l : List Token). D behaviours.AFTER_CHOICE (t1 ∷ (o1 ++ (o2 ++ l))) value) (append-nil o3)
      (derived_by text 118
      (row_of (Behaviours row.ChoiceOfValues) behaviours.AFTER_CHOICE
      (Tok kind.COLON ∷ Part names.NAME ∷ Part names.MORE_VARIABLES ∷ Part behaviours.CHOSEN ∷ [])) refl
      (token t1 i1.kind_is (part d1 (part d2 (part d3 nothing)))) given)

  pub by_choice_of_gates : {t1 : Token} {o1 o2 o3 : List Token} {m1 m2 m3 value : Meaning} → IsOfKind kind.IN t1 → D names.GATES o1 m1 →
      D behaviours.MORE_GATE_CHOICES o2 m2 → D behaviours.CHOSEN o3 m3 →
      behaviours_row_means row.ChoiceOfGates None (m1 ∷ m2 ∷ m3 ∷ []) ≡ Some value →
      D behaviours.AFTER_CHOICE (t1 ∷ (o1 ++ (o2 ++ o3))) value
  by_choice_of_gates {t1 = t1} {o1 = o1} {o2 = o2} {o3 = o3} {m1 = m1} {m2 = m2} {m3 = m3} {value = value} i1 d1 d2 d3 given =
      subst (λ (l : List Token). D behaviours.AFTER_CHOICE (t1 ∷ (o1 ++ (o2 ++ l))) value) (append-nil o3)
      (derived_by text 119
      (row_of (Behaviours row.ChoiceOfGates) behaviours.AFTER_CHOICE
      (Tok kind.IN ∷ Part names.GATES ∷ Part behaviours.MORE_GATE_CHOICES ∷ Part behaviours.CHOSEN ∷ [])) refl
      (token t1 i1.kind_is (part d1 (part d2 (part d3 nothing)))) given)

  pub by_chosen : {t1 : Token} {o1 : List Token} {m1 value : Meaning} → IsOfKind kind.CHOICE_SIGN t1 → D behaviours.BEHAVIOUR o1 m1 →
      behaviours_row_means row.Chosen (Some t1) (m1 ∷ []) ≡ Some value → D behaviours.CHOSEN (t1 ∷ o1) value
  by_chosen {t1 = t1} {o1 = o1} {m1 = m1} {value = value} i1 d1 given =
      subst (λ (l : List Token). D behaviours.CHOSEN (t1 ∷ l) value) (append-nil o1)
      (derived_by text 120 (row_of (Behaviours row.Chosen) behaviours.CHOSEN (Tok kind.CHOICE_SIGN ∷ Part behaviours.BEHAVIOUR ∷ []))
      refl (token t1 i1.kind_is (part d1 nothing)) given)

  pub by_gate_choices : {o1 o2 o3 : List Token} {m1 m2 m3 value : Meaning} {t1 : Token} → D names.NAMES o1 m1 → IsOfKind kind.IN t1 →
      D names.GATES o2 m2 → D behaviours.MORE_GATE_CHOICES o3 m3 →
      behaviours_row_means row.GateChoices None (m1 ∷ m2 ∷ m3 ∷ []) ≡ Some value → D behaviours.GATE_CHOICES (o1 ++ (t1 ∷ (o2 ++ o3))) value
  by_gate_choices {o1 = o1} {o2 = o2} {o3 = o3} {m1 = m1} {m2 = m2} {m3 = m3} {value = value} {t1 = t1} d1 i1 d2 d3 given =
      subst (λ (l : List Token). D behaviours.GATE_CHOICES (o1 ++ (t1 ∷ (o2 ++ l))) value) (append-nil o3)
      (derived_by text 121
      (row_of (Behaviours row.GateChoices) behaviours.GATE_CHOICES
      (Part names.NAMES ∷ Tok kind.IN ∷ Part names.GATES ∷ Part behaviours.MORE_GATE_CHOICES ∷ [])) refl
      (part d1 (token t1 i1.kind_is (part d2 (part d3 nothing)))) given)

  pub by_no_more_gate_choices : {value : Meaning} → behaviours_row_means row.NoMoreGateChoices None ([]) ≡ Some value →
      D behaviours.MORE_GATE_CHOICES ([]) value
  by_no_more_gate_choices given =
      derived_by text 122 (row_of (Behaviours row.NoMoreGateChoices) behaviours.MORE_GATE_CHOICES ([])) refl nothing given

  pub by_more_gate_choices : {t1 : Token} {o1 : List Token} {m1 value : Meaning} → IsOfKind kind.COMMA t1
      → D behaviours.GATE_CHOICES o1 m1 →
      behaviours_row_means row.MoreGateChoices None (m1 ∷ []) ≡ Some value → D behaviours.MORE_GATE_CHOICES (t1 ∷ o1) value
  by_more_gate_choices {t1 = t1} {o1 = o1} {m1 = m1} {value = value} i1 d1 given =
      subst (λ (l : List Token). D behaviours.MORE_GATE_CHOICES (t1 ∷ l) value) (append-nil o1)
      (derived_by text 123
      (row_of (Behaviours row.MoreGateChoices) behaviours.MORE_GATE_CHOICES (Tok kind.COMMA ∷ Part behaviours.GATE_CHOICES ∷ [])) refl
      (token t1 i1.kind_is (part d1 nothing)) given)

  pub by_choice_sign : {t1 : Token} {value : Meaning} → IsOfKind kind.CHOICE_SIGN t1 →
      behaviours_row_means row.ChoiceSign (Some t1) ([]) ≡ Some value → D behaviours.SIGN (t1 ∷ []) value
  by_choice_sign {t1 = t1} i1 given =
      derived_by text 124 (row_of (Behaviours row.ChoiceSign) behaviours.SIGN (Tok kind.CHOICE_SIGN ∷ [])) refl
      (token t1 i1.kind_is nothing) given

  pub by_parallel_sign : {o1 : List Token} {m1 value : Meaning} → D behaviours.PARALLEL o1 m1 →
      behaviours_row_means row.ParallelSign None (m1 ∷ []) ≡ Some value → D behaviours.SIGN (o1) value
  by_parallel_sign {o1 = o1} {m1 = m1} {value = value} d1 given =
      subst (λ (l : List Token). D behaviours.SIGN (l) value) (append-nil o1)
      (derived_by text 125 (row_of (Behaviours row.ParallelSign) behaviours.SIGN (Part behaviours.PARALLEL ∷ [])) refl
      (part d1 nothing) given)

  pub by_disabling_sign : {t1 : Token} {value : Meaning} → IsOfKind kind.DISABLING t1 →
      behaviours_row_means row.DisablingSign (Some t1) ([]) ≡ Some value → D behaviours.SIGN (t1 ∷ []) value
  by_disabling_sign {t1 = t1} i1 given =
      derived_by text 126 (row_of (Behaviours row.DisablingSign) behaviours.SIGN (Tok kind.DISABLING ∷ [])) refl
      (token t1 i1.kind_is nothing) given

  pub by_enabling_sign : {t1 : Token} {o1 : List Token} {m1 value : Meaning} → IsOfKind kind.ENABLING t1 → D behaviours.ACCEPT o1 m1 →
      behaviours_row_means row.EnablingSign (Some t1) (m1 ∷ []) ≡ Some value → D behaviours.SIGN (t1 ∷ o1) value
  by_enabling_sign {t1 = t1} {o1 = o1} {m1 = m1} {value = value} i1 d1 given =
      subst (λ (l : List Token). D behaviours.SIGN (t1 ∷ l) value) (append-nil o1)
      (derived_by text 127 (row_of (Behaviours row.EnablingSign) behaviours.SIGN (Tok kind.ENABLING ∷ Part behaviours.ACCEPT ∷ []))
      refl (token t1 i1.kind_is (part d1 nothing)) given)

  pub by_interleaving : {t1 : Token} {value : Meaning} → IsOfKind kind.INTERLEAVING t1 →
      behaviours_row_means row.Interleaving (Some t1) ([]) ≡ Some value → D behaviours.PARALLEL (t1 ∷ []) value
  by_interleaving {t1 = t1} i1 given =
      derived_by text 128 (row_of (Behaviours row.Interleaving) behaviours.PARALLEL (Tok kind.INTERLEAVING ∷ [])) refl
      (token t1 i1.kind_is nothing) given

  pub by_full_synchronisation : {t1 : Token} {value : Meaning} → IsOfKind kind.FULL_SYNCHRONISATION t1 →
      behaviours_row_means row.FullSynchronisation (Some t1) ([]) ≡ Some value → D behaviours.PARALLEL (t1 ∷ []) value
  by_full_synchronisation {t1 = t1} i1 given =
      derived_by text 129 (row_of (Behaviours row.FullSynchronisation) behaviours.PARALLEL (Tok kind.FULL_SYNCHRONISATION ∷ [])) refl
      (token t1 i1.kind_is nothing) given

  pub by_gate_synchronisation : {t1 t2 : Token} {o1 : List Token} {m1 value : Meaning} → IsOfKind kind.GATES_OPEN t1 →
      D names.OPTIONAL_NAMES o1 m1 → IsOfKind kind.GATES_CLOSE t2 →
      behaviours_row_means row.GateSynchronisation (Some t1) (m1 ∷ []) ≡ Some value → D behaviours.PARALLEL (t1 ∷ (o1 ++ (t2 ∷ []))) value
  by_gate_synchronisation {t1 = t1} {t2 = t2} i1 d1 i2 given =
      derived_by text 130
      (row_of (Behaviours row.GateSynchronisation) behaviours.PARALLEL
      (Tok kind.GATES_OPEN ∷ Part names.OPTIONAL_NAMES ∷ Tok kind.GATES_CLOSE ∷ [])) refl
      (token t1 i1.kind_is (part d1 (token t2 i2.kind_is nothing))) given

  pub by_no_accept : {value : Meaning} → behaviours_row_means row.NoAccept None ([]) ≡ Some value → D behaviours.ACCEPT ([]) value
  by_no_accept given = derived_by text 131 (row_of (Behaviours row.NoAccept) behaviours.ACCEPT ([])) refl nothing given

  pub by_accept : {t1 t2 : Token} {o1 : List Token} {m1 value : Meaning} → IsOfKind kind.ACCEPT t1 → D names.VARIABLES o1 m1 →
      IsOfKind kind.IN t2 → behaviours_row_means row.Accept None (m1 ∷ []) ≡ Some value → D behaviours.ACCEPT (t1 ∷ (o1 ++ (t2 ∷ []))) value
  by_accept {t1 = t1} {t2 = t2} i1 d1 i2 given =
      derived_by text 132 (row_of (Behaviours row.Accept) behaviours.ACCEPT (Tok kind.ACCEPT ∷ Part names.VARIABLES ∷ Tok kind.IN ∷ []))
      refl (token t1 i1.kind_is (part d1 (token t2 i2.kind_is nothing))) given
