-- A derivation by each row of this subject: specification.
use Rattle.std.proofs.Common.{◌≡◌, ℕ, List, [], ◌∷◌, ◌++◌, refl, subst}
use Rattle.std.specs.Prelude.{Some, None}
use Rattle.std.proofs.lemmas.List.{append-nil}
use Rattle.ll_engine.specs.Values.{nothing, token, part}
use Rattle.lotos_lexer.specs.declared.tokens.Token.{Token}
use Rattle.lotos_lexer.specs.declared.kinds.TheConstants as kind
use Rattle.lotos_rows.specs.Row.{row_of}
use Rattle.lotos_rows.specs.declared.specification.TheConstants as specification
use Rattle.lotos_rows.specs.declared.types.TheConstants as types
use Rattle.lotos_rows.specs.declared.specification.SpecificationRow.TheVariants as row
use Rattle.lotos_rows.specs.declared.row_names.RowName.TheVariants.{Specification}
use Rattle.ll_engine.specs.declared.symbol.Symbol.TheVariants.{Token as Tok, Part}
use Rattle.lotos_rows.specs.Words.{IsOfKind}
use Rattle.tree_building.specs.Meaning.{Meaning}
use Rattle.tree_building.specs.RowMeaning.{specification_row_means}
use Rattle.tree_building.specs.Sentences.{Derived}
use Rattle.tree_building.proofs.DerivedBy.{derived_by}

module _ (text : List ℕ) where
  abbrev D : ℕ → List Token → Meaning → Type 0
  D = Derived text

  pub by_no_items : {value : Meaning} → specification_row_means row.NoItems None ([]) ≡ Some value → D specification.ITEMS ([]) value
  by_no_items given = derived_by text 146 (row_of (Specification row.NoItems) specification.ITEMS ([])) refl nothing given

  pub by_items : {o1 o2 : List Token} {m1 m2 value : Meaning} → D types.ITEM o1 m1 → D specification.ITEMS o2 m2 →
      specification_row_means row.Items None (m1 ∷ m2 ∷ []) ≡ Some value → D specification.ITEMS (o1 ++ o2) value
  by_items {o1 = o1} {o2 = o2} {m1 = m1} {m2 = m2} {value = value} d1 d2 given =
      subst (λ (l : List Token). D specification.ITEMS (o1 ++ l) value) (append-nil o2)
      (derived_by text 147 (row_of (Specification row.Items) specification.ITEMS (Part types.ITEM ∷ Part specification.ITEMS ∷ []))
      refl (part d1 (part d2 nothing)) given)

  pub by_behaviour_word : {t1 : Token} {value : Meaning} → IsOfKind kind.BEHAVIOUR t1 →
      specification_row_means row.BehaviourWord None ([]) ≡ Some value → D specification.BEHAVIOUR_WORD (t1 ∷ []) value
  by_behaviour_word {t1 = t1} i1 given =
      derived_by text 148 (row_of (Specification row.BehaviourWord) specification.BEHAVIOUR_WORD (Tok kind.BEHAVIOUR ∷ [])) refl
      (token t1 i1.kind_is nothing) given

  pub by_behavior_word : {t1 : Token} {value : Meaning} → IsOfKind kind.BEHAVIOR t1 →
      specification_row_means row.BehaviorWord None ([]) ≡ Some value → D specification.BEHAVIOUR_WORD (t1 ∷ []) value
  by_behavior_word {t1 = t1} i1 given =
      derived_by text 149 (row_of (Specification row.BehaviorWord) specification.BEHAVIOUR_WORD (Tok kind.BEHAVIOR ∷ [])) refl
      (token t1 i1.kind_is nothing) given
