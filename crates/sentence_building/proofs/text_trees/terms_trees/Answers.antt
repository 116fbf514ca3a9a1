use Rattle.std.proofs.Common.{◌≡◌, ◌∙◌, map, ap, sym, subst}
use Rattle.std.proofs.lemmas.Option.{none-some}
use Rattle.std.specs.Prelude.{Some, option_map, option_and_then}
use Rattle.lotos_rows.specs.Starts.{AreOptionalTerms}
use Rattle.lotos_base.specs.WrittenView.{written_term_of}
use Rattle.tree_building.specs.MeaningView.{meaning}
use Rattle.tree_building.specs.Parts.{meant_terms}
use Rattle.tree_building.specs.LotosGrammar.{IsLotosGrammar}
use Rattle.tree_building.proofs.Grammars.{of_terms}
use Rattle.sentence_building.proofs.Meanings.{terms_given}
use Rattle.sentence_building.proofs.text_trees.terms_trees.Goals as goal

pub derived_value-requires-clause-lotos : goal.derived_value-requires-clause-lotos
derived_value-requires-clause-lotos c = subst IsLotosGrammar (sym c.terms_grammar-grammar.ensures) of_terms

-- the tokens are a sentence, so they have a value
pub unreachable-requires : goal.unreachable-requires
unreachable-requires c =
    let it =
    terms_given c.args.text.now c.args.tokens.now c.args.rows.items c.terms_grammar-grammar.result
    c.in_ok-value.field-0 c.terms_grammar-grammar.ensures c.requires c.in_ok-value.ensures in
    none-some _ (sym (ap (option_map meaning) c.in_default.is) ∙ it.means)

-- and it is the terms
pub unreachable-requires-in_default-built_terms : goal.unreachable-requires-in_default-built_terms
unreachable-requires-in_default-built_terms c =
    let it =
    terms_given c.args.text.now c.args.tokens.now c.args.rows.items c.terms_grammar-grammar.result
    c.in_ok-value.field-0 c.terms_grammar-grammar.ensures c.requires c.in_ok-value.ensures in
    none-some _ (c.in_default-built_terms.ensures
    ∙ ap (option_and_then meant_terms) (ap (option_map meaning) (sym c.in-Some.is) ∙ it.means))

pub returns : goal.returns
returns c =
    let it =
    terms_given c.args.text.now c.args.tokens.now c.args.rows.items c.terms_grammar-grammar.result
    c.in_ok-value.field-0 c.terms_grammar-grammar.ensures c.requires c.in_ok-value.ensures in
    let both : Some (map written_term_of c.in-Some-built_terms.terms.items) ≡ Some it.found =
    c.in-Some-built_terms.ensures ∙ ap (option_and_then meant_terms) (ap (option_map meaning) (sym c.in-Some.is) ∙ it.means) in
    let same : it.found ≡ map written_term_of c.in-Some-built_terms.terms.items = cc in
    subst (AreOptionalTerms c.args.text.now c.args.tokens.now) same it.is
