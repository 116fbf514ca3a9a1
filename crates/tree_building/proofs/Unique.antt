-- Tokens are one tree at most: a grammar that one token ahead decides has one derivation of them.
use Rattle.std.proofs.Common.{◌≡◌, ◌∙◌, ℕ, true, List, [], ◌∷◌, refl, ap, sym}
use Rattle.std.specs.Prelude.{Some}
use Rattle.ll_engine.specs.Derivation.{Forest}
use Rattle.ll_engine.specs.Prediction.{IsPredictive}
use Rattle.ll_engine.specs.View.{is_well_formed}
use Rattle.ll_engine.proofs.KeptSets.{predictive_after}
use Rattle.ll_engine.proofs.Uniqueness.{one_tree}
use Rattle.ll_engine.specs.Fold.{folded_trees}
use Rattle.lotos_lexer.specs.declared.tokens.Token.{Token}
use Rattle.lotos_rows.specs.declared.starts.TheConstants as starts
use Rattle.lotos_rows.specs.Kept.{is_kept_kind}
use Rattle.lotos_rows.specs.Rows.{rows, grammar_from}
use Rattle.tree_building.specs.Meaning.{Meaning, a_specification, some_items, some_order_items, some_terms}
use Rattle.tree_building.specs.RowMeaning.{numbered_row_means}
use Rattle.tree_building.specs.Sentences.{Derived}
use Rattle.tree_building.specs.Laws.{TextsAreUnambiguous}
use Rattle.tree_building.proofs.DefinitionsCases.{all_sentences_derived}

-- the grammars of the three texts
record Decided (start : ℕ) : Type 0 where
  well_formed : is_well_formed (grammar_from start) ≡ true
  predictive : IsPredictive (grammar_from start)

specification_decided : Decided starts.SPEC
unfolding rows grammar_from
specification_decided = record { well_formed = refl; predictive = predictive_after 6 (grammar_from starts.SPEC) refl }

types_decided : Decided starts.TYPETEXT
unfolding rows grammar_from
types_decided = record { well_formed = refl; predictive = predictive_after 6 (grammar_from starts.TYPETEXT) refl }

order_decided : Decided starts.ORDER
unfolding rows grammar_from
order_decided = record { well_formed = refl; predictive = predictive_after 6 (grammar_from starts.ORDER) refl }

terms_decided : Decided starts.TERMS
unfolding rows grammar_from
terms_decided = record { well_formed = refl; predictive = predictive_after 6 (grammar_from starts.TERMS) refl }

one_meaning : (text : List ℕ) (start : ℕ) (tokens : List Token) (some other : Meaning) → Decided start → Derived text start tokens some →
    Derived text start tokens other → some ≡ other
unfolding grammar_from
one_meaning text start tokens some other decided first second =
    let same : first.0 ≡ second.0 =
    one_tree (grammar_from start) decided.well_formed decided.predictive first.0 second.0 first.1 second.1 (first.2 ∙ sym second.2) in
    let both : Some (some ∷ []) ≡ Some (other ∷ []) =
    sym first.3 ∙ ap (λ (tree : Forest). folded_trees (numbered_row_means text) is_kept_kind tree tokens) same ∙ second.3 in
    cc

pub unambiguous : TextsAreUnambiguous
unambiguous = record {
  specification = λ text tokens some other first second.
      let same : a_specification some ≡ a_specification other =
      one_meaning text starts.SPEC tokens (a_specification some) (a_specification other) specification_decided
      (all_sentences_derived.specification text tokens some first) (all_sentences_derived.specification text tokens other second) in
      cc;
  items = λ text tokens some other first second.
      let same : some_items some ≡ some_items other =
      one_meaning text starts.TYPETEXT tokens (some_items some) (some_items other) types_decided
      (all_sentences_derived.items text tokens some first)
      (all_sentences_derived.items text tokens other second) in
      cc;
  order = λ text tokens some other first second.
      let same : some_order_items some ≡ some_order_items other =
      one_meaning text starts.ORDER tokens (some_order_items some) (some_order_items other) order_decided
      (all_sentences_derived.order text tokens some first) (all_sentences_derived.order text tokens other second) in
      cc;
  terms = λ text tokens some other first second.
      let same : some_terms some ≡ some_terms other =
      one_meaning text starts.TERMS tokens (some_terms some) (some_terms other) terms_decided
      (all_sentences_derived.terms text tokens some first)
      (all_sentences_derived.terms text tokens other second) in
      cc;
}
