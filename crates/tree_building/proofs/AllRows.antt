-- All rows keep what their parts are, so what a derivation means is what its part is.
use Rattle.std.proofs.Common.{◌≡◌, ◌∙◌, ℕ, List, ◌++◌, refl, ap, sym, subst}
use Rattle.std.specs.Prelude.{Some, option_and_then, slice_get}
use Rattle.lotos_base.proofs.Members.{from_map, at_map}
use Rattle.ll_engine.specs.Derivation.{Production}
use Rattle.ll_engine.specs.Fold.{front_token}
use Rattle.ll_engine.specs.Values.{StandForTokens, KeepsValues}
use Rattle.ll_engine.proofs.Values.{least}
use Rattle.lotos_lexer.specs.declared.tokens.Token.{Token}
use Rattle.lotos_rows.specs.Kept.{is_kept_kind}
use Rattle.lotos_rows.specs.Row.{GrammarRow}
use Rattle.lotos_rows.specs.declared.row_names.RowName.{RowName}
use Rattle.lotos_rows.specs.Rows.{grammar_rows, rows, row_names}
use Rattle.lotos_rows.specs.NamesRows.{names_rows}
use Rattle.lotos_rows.specs.TermsRows.{terms_rows}
use Rattle.lotos_rows.specs.TypesRows.{types_rows}
use Rattle.lotos_rows.specs.EquationsRows.{equations_rows}
use Rattle.lotos_rows.specs.RenamingsRows.{renamings_rows}
use Rattle.lotos_rows.specs.BehavioursRows.{behaviours_rows}
use Rattle.lotos_rows.specs.DefinitionsRows.{definitions_rows}
use Rattle.lotos_rows.specs.SpecificationRows.{specification_rows}
use Rattle.lotos_rows.specs.StartsRows.{starts_rows}
use Rattle.lotos_base.specs.WrittenTerm.{WrittenTerm, ListedOperation}
use Rattle.lotos_base.proofs.Each.{Each, each_member, each_join}
use Rattle.lotos_rows.specs.declared.starts.TheConstants as starts
use Rattle.syntax_trees.specs.WrittenItem.{WrittenItem}
use Rattle.syntax_trees.specs.WrittenDefinition.{WrittenSpecification}
use Rattle.lotos_rows.specs.Starts.{IsWrittenSpecification, AreItems, AreOrderItems, AreOptionalTerms}
use Rattle.tree_building.specs.Meaning.{Meaning, a_specification, some_items, some_order_items, some_terms}
use Rattle.tree_building.specs.RowMeaning.{row_means, numbered_row_means}
use Rattle.tree_building.specs.PartSentences.{As, as_one}
use Rattle.tree_building.specs.Laws.{DerivedTextsAreSentences}
use Rattle.tree_building.specs.Sentences.{kind_of, PartMeans, KeepsParts, Derived}
use Rattle.tree_building.proofs.NamesRows.{names_keep}
use Rattle.tree_building.proofs.TermsRows.{terms_keep}
use Rattle.tree_building.proofs.TypesRows.{types_keep}
use Rattle.tree_building.proofs.EquationsRows.{equations_keep}
use Rattle.tree_building.proofs.RenamingsRows.{renamings_keep}
use Rattle.tree_building.proofs.BehavioursRows.{behaviours_keep}
use Rattle.tree_building.proofs.DefinitionsRows.{definitions_keep}
use Rattle.tree_building.proofs.SpecificationRows.{specification_keep}
use Rattle.tree_building.proofs.StartsRows.{starts_keep}

-- a row of the list of productions, with its name
pub record Named (number : ℕ) (production : Production) : Type 0 where
  pub row : GrammarRow
  pub is_row : slice_get grammar_rows number ≡ Some row
  pub production_is : row.production ≡ production
  pub name_is : slice_get row_names number ≡ Some row.name

pub named_row : (number : ℕ) (production : Production) → slice_get rows number ≡ Some production → Named number production
unfolding rows row_names
named_row number production is =
    let found = from_map (λ (row : GrammarRow). row.production) grammar_rows number production is in
    record {
      row = found.0;
      is_row = found.1;
      production_is = found.2;
      name_is = at_map (λ (row : GrammarRow). row.name)
          grammar_rows number found.0 found.1;
    }

module _ (text : List ℕ) where
  all_keep : Each (KeepsParts text) grammar_rows
  all_keep =
      let P = KeepsParts text in
      let rest7 = specification_rows ++ starts_rows in
      let rest6 = definitions_rows ++ rest7 in
      let rest5 = behaviours_rows ++ rest6 in
      let rest4 = renamings_rows ++ rest5 in
      let rest3 = equations_rows ++ rest4 in
      let rest2 = types_rows ++ rest3 in
      let rest1 = terms_rows ++ rest2 in
      each_join P names_rows rest1 (names_keep text)
      (each_join P terms_rows rest2 (terms_keep text)
      (each_join P types_rows rest3 (types_keep text)
      (each_join P equations_rows rest4 (equations_keep text)
      (each_join P renamings_rows rest5 (renamings_keep text)
      (each_join P behaviours_rows rest6 (behaviours_keep text)
      (each_join P definitions_rows rest7 (definitions_keep text)
      (each_join P specification_rows starts_rows (specification_keep text) (starts_keep text))))))))

  pub parts_kept : KeepsValues (numbered_row_means text) is_kept_kind kind_of rows (PartMeans text)
  parts_kept number production tokens values value is stands given =
      let it = named_row number production is in
      let keeps = each_member (KeepsParts text) grammar_rows number it.row all_keep it.is_row in
      let stands_row = subst (λ (p : Production). StandForTokens kind_of (PartMeans text) p.right tokens values) (sym it.production_is)
      stands in
      let given_row : row_means text it.row.name (front_token is_kept_kind it.row.production.right tokens) values ≡ Some value =
      ap (λ (p : Production). row_means text it.row.name (front_token is_kept_kind p.right tokens) values) it.production_is
      ∙ sym (ap (option_and_then (λ (name : RowName). row_means text name (front_token is_kept_kind production.right tokens) values))
      it.name_is) ∙ given in
      subst (λ (p : Production). PartMeans text p.left tokens value) it.production_is (keeps tokens values value stands_row given_row)

  -- what is derived is what the part is
  pub derived_means : (p : ℕ) (tokens : List Token) (meaning : Meaning) → Derived text p tokens meaning → PartMeans text p tokens meaning
  derived_means p tokens meaning it =
      least (numbered_row_means text) is_kept_kind kind_of rows (PartMeans text) parts_kept p tokens meaning it

are_items : (text : List ℕ) (tokens : List Token) (meaning : Meaning) (items : List WrittenItem) →
    As some_items (AreItems text) tokens meaning → meaning ≡ some_items items → AreItems text tokens items
are_items text tokens meaning items (as_one {value = value} it) same = let e : value ≡ items = cc in subst (AreItems text tokens) e it

are_order_items : (text : List ℕ) (tokens : List Token) (meaning : Meaning) (items : List ListedOperation) →
    As some_order_items (AreOrderItems text) tokens meaning → meaning ≡ some_order_items items →
    AreOrderItems text tokens items
are_order_items text tokens meaning items (as_one {value = value} it) same = let e : value ≡ items =
    cc in subst (AreOrderItems text tokens) e it

are_terms : (text : List ℕ) (tokens : List Token) (meaning : Meaning) (terms : List WrittenTerm) →
    As some_terms (AreOptionalTerms text) tokens meaning → meaning ≡ some_terms terms → AreOptionalTerms text tokens terms
are_terms text tokens meaning terms (as_one {value = value} it) same = let e : value ≡ terms =
    cc in subst (AreOptionalTerms text tokens) e it

is_specification : (text : List ℕ) (tokens : List Token) (meaning : Meaning) (found : WrittenSpecification) →
    As a_specification (IsWrittenSpecification text) tokens meaning → meaning ≡ a_specification found
    → IsWrittenSpecification text tokens found
is_specification text tokens meaning found (as_one {value = value} it) same = let e : value ≡ found =
    cc in subst (IsWrittenSpecification text tokens) e it

pub derived_texts : DerivedTextsAreSentences
derived_texts = record {
  specification = λ text tokens found it.
      is_specification text tokens (a_specification found) found (derived_means text starts.SPEC tokens (a_specification found) it) refl;
  items = λ text tokens items it. are_items text tokens (some_items items) items
      (derived_means text starts.TYPETEXT tokens (some_items items) it) refl;
  order = λ text tokens items it. are_order_items text tokens (some_order_items items) items
      (derived_means text starts.ORDER tokens (some_order_items items) it) refl;
  terms = λ text tokens terms it. are_terms text tokens (some_terms terms) terms
      (derived_means text starts.TERMS tokens (some_terms terms) it) refl;
}
