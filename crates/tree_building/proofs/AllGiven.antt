-- Each derivation of a text of items, an order file or a list of terms has a meaning, so the sentences of the rows are those of
-- the definition.
use Rattle.std.proofs.Common.{◌≡◌, ◌∙◌, ℕ, Bool, true, List, [], ◌∷◌, ◌++◌, map, refl, ap, sym, subst}
use Rattle.std.specs.Prelude.{Some, option_and_then, slice_get}
use Rattle.std.specs.List.{list_all}
use Rattle.lotos_base.proofs.Each.{Each, each_member, each_join}
use Rattle.ll_engine.specs.declared.symbol.Symbol.TheVariants.{Part}
use Rattle.ll_engine.specs.Derivation.{Production, Forest, DerivesSymbols, leaves}
use Rattle.ll_engine.specs.Fold.{front_token}
use Rattle.ll_engine.specs.Values.{StandForTokens}
use Rattle.lotos_lexer.specs.declared.tokens.Token.{Token}
use Rattle.lotos_rows.specs.Kept.{is_kept_kind}
use Rattle.lotos_rows.specs.declared.row_names.RowName.{RowName}
use Rattle.lotos_rows.specs.declared.starts.TheConstants as starts
use Rattle.lotos_rows.specs.Rows.{grammar_rows, rows, grammar_from}
use Rattle.lotos_rows.specs.NamesRows.{names_rows}
use Rattle.lotos_rows.specs.TermsRows.{terms_rows}
use Rattle.lotos_rows.specs.TypesRows.{types_rows}
use Rattle.lotos_rows.specs.EquationsRows.{equations_rows}
use Rattle.lotos_rows.specs.RenamingsRows.{renamings_rows}
use Rattle.lotos_rows.specs.BehavioursRows.{behaviours_rows}
use Rattle.lotos_rows.specs.DefinitionsRows.{definitions_rows}
use Rattle.lotos_rows.specs.SpecificationRows.{specification_rows}
use Rattle.lotos_rows.specs.StartsRows.{starts_rows}
use Rattle.tree_building.specs.Meaning.{Meaning}
use Rattle.tree_building.specs.RowMeaning.{row_means, numbered_row_means}
use Rattle.tree_building.specs.PartSentences.{As, as_one}
use Rattle.tree_building.specs.Laws.{RowsHaveTheSentences}
use Rattle.tree_building.specs.Sentences.{kind_of, PartMeans, GivesMeaning, Derived}
use Rattle.tree_building.proofs.AllRows.{named_row, parts_kept, derived_means}
use Rattle.tree_building.proofs.DefinitionsCases.{all_sentences_derived}
use Rattle.tree_building.proofs.Total.{stays_said, has_meaning}
use Rattle.tree_building.proofs.NamesGiven.{names_give}
use Rattle.tree_building.proofs.TermsGiven.{terms_give}
use Rattle.tree_building.proofs.TypesGiven.{types_give}
use Rattle.tree_building.proofs.EquationsGiven.{equations_give}
use Rattle.tree_building.proofs.RenamingsGiven.{renamings_give}
use Rattle.tree_building.proofs.SpecificationGiven.{specification_give}
use Rattle.tree_building.proofs.StartsGiven.{starts_give}
use Rattle.tree_building.proofs.BehavioursGiven.{behaviours_give}
use Rattle.tree_building.proofs.DefinitionsGiven.{definitions_give}

-- of every part something is said
abbrev everything : ℕ → Bool
everything p = true

rows_stay : list_all (stays_said everything) rows ≡ true
unfolding rows
rows_stay = refl

module _ (text : List ℕ) where
  all_give : Each (GivesMeaning text) grammar_rows
  all_give =
      let P = GivesMeaning text in
      let rest7 = specification_rows ++ starts_rows in
      let rest6 = definitions_rows ++ rest7 in
      let rest5 = behaviours_rows ++ rest6 in
      let rest4 = renamings_rows ++ rest5 in
      let rest3 = equations_rows ++ rest4 in
      let rest2 = types_rows ++ rest3 in
      let rest1 = terms_rows ++ rest2 in
      each_join P names_rows rest1 (names_give text)
      (each_join P terms_rows rest2 (terms_give text)
      (each_join P types_rows rest3 (types_give text)
      (each_join P equations_rows rest4 (equations_give text)
      (each_join P renamings_rows rest5 (renamings_give text)
      (each_join P behaviours_rows rest6 (behaviours_give text)
      (each_join P definitions_rows rest7 (definitions_give text)
      (each_join P specification_rows starts_rows (specification_give text) (starts_give text))))))))

  given_at : (number : ℕ) (row : Production) → slice_get rows number ≡ Some row → everything row.left ≡ true →
      (tokens : List Token) (values : List Meaning) →
      StandForTokens kind_of (PartMeans text) row.right tokens values →
      (value : Meaning) × (numbered_row_means text number (front_token is_kept_kind row.right tokens) values ≡ Some value)
  given_at number row is said tokens values stands =
      let it = named_row number row is in
      let gives = each_member (GivesMeaning text) grammar_rows number it.row all_give it.is_row in
      let found = gives tokens values
      (subst (λ (p : Production). StandForTokens kind_of (PartMeans text) p.right tokens values) (sym it.production_is) stands) in (
        found.0,
        ap (option_and_then (λ (name : RowName). row_means text name (front_token is_kept_kind row.right tokens) values)) it.name_is
            ∙ sym (ap (λ (p : Production). row_means text it.row.name (front_token is_kept_kind p.right tokens) values) it.production_is)
            ∙ found.1,
      )

  -- what a derivation of tokens means
  pub derived_meaning : (p : ℕ) (tree : Forest) (tokens : List Token) → DerivesSymbols rows tree (Part p ∷ []) →
      leaves tree ≡ map kind_of tokens →
      (meaning : Meaning) × Derived text p tokens meaning
  derived_meaning p tree tokens d e =
      let it = has_meaning (numbered_row_means text) is_kept_kind kind_of rows (PartMeans text) (parts_kept text) everything rows_stay
      given_at p tree tokens d e refl in
      (it.value, (tree, d, e, it.folds))

made_of : {A : Type 0} {make : A → Meaning} {one : List Token → A → Type 0} {tokens : List Token} {meaning : Meaning} →
    As make one tokens meaning → (value : A) × one tokens value
made_of (as_one {value = value} it) = (value, it)

pub rows_have : RowsHaveTheSentences
unfolding grammar_from
rows_have = record {
  specification = λ text tokens. (
    λ sentence.
        let it = derived_meaning text starts.SPEC sentence.0 tokens sentence.1 sentence.2 in
        made_of (derived_means text starts.SPEC tokens it.0 it.1),
    λ found. let it = all_sentences_derived.specification text tokens found.0 found.1 in (it.0, it.1, it.2),
  );
  items = λ text tokens. (
    λ sentence.
        let it = derived_meaning text starts.TYPETEXT sentence.0 tokens sentence.1 sentence.2 in
        made_of (derived_means text starts.TYPETEXT tokens it.0 it.1),
    λ found. let it = all_sentences_derived.items text tokens found.0 found.1 in (it.0, it.1, it.2),
  );
  order = λ text tokens. (
    λ sentence.
        let it = derived_meaning text starts.ORDER sentence.0 tokens sentence.1 sentence.2 in
        made_of (derived_means text starts.ORDER tokens it.0 it.1),
    λ found. let it = all_sentences_derived.order text tokens found.0 found.1 in (it.0, it.1, it.2),
  );
  terms = λ text tokens. (
    λ sentence.
        let it = derived_meaning text starts.TERMS sentence.0 tokens sentence.1 sentence.2 in
        made_of (derived_means text starts.TERMS tokens it.0 it.1),
    λ found. let it = all_sentences_derived.terms text tokens found.0 found.1 in (it.0, it.1, it.2),
  );
}
