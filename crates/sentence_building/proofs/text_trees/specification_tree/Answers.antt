use Rattle.std.proofs.Common.{◌≡◌, ◌∙◌, ap, sym, subst}
use Rattle.std.proofs.lemmas.Option.{none-some}
use Rattle.std.specs.Prelude.{Some, option_map, option_and_then}
use Rattle.lotos_rows.specs.Starts.{IsWrittenSpecification}
use Rattle.syntax_trees.specs.TreeViews.{written_specification_of}
use Rattle.tree_building.specs.MeaningView.{meaning}
use Rattle.tree_building.specs.Parts.{meant_specification}
use Rattle.tree_building.specs.LotosGrammar.{IsLotosGrammar}
use Rattle.tree_building.proofs.Grammars.{of_specifications}
use Rattle.sentence_building.proofs.Meanings.{specification_given}
use Rattle.sentence_building.proofs.text_trees.specification_tree.Goals as goal

pub derived_value-requires-clause-lotos : goal.derived_value-requires-clause-lotos
derived_value-requires-clause-lotos c = subst IsLotosGrammar (sym c.specification_grammar-grammar.ensures) of_specifications

-- the tokens are a sentence, so they have a value
pub unreachable-requires : goal.unreachable-requires
unreachable-requires c =
    let it =
    specification_given c.args.text.now c.args.tokens.now c.args.rows.items c.specification_grammar-grammar.result
    c.in_ok-value.field-0 c.specification_grammar-grammar.ensures c.requires c.in_ok-value.ensures in
    none-some _ (sym (ap (option_map meaning) c.in_default.is) ∙ it.means)

-- and it is the specification
pub unreachable-requires-in_default-built_specification : goal.unreachable-requires-in_default-built_specification
unreachable-requires-in_default-built_specification c =
    let it =
    specification_given c.args.text.now c.args.tokens.now c.args.rows.items c.specification_grammar-grammar.result
    c.in_ok-value.field-0 c.specification_grammar-grammar.ensures c.requires c.in_ok-value.ensures in
    none-some _ (c.in_default-built_specification.ensures
    ∙ ap (option_and_then meant_specification) (ap (option_map meaning) (sym c.in-Some.is) ∙ it.means))

pub returns : goal.returns
returns c =
    let it =
    specification_given c.args.text.now c.args.tokens.now c.args.rows.items c.specification_grammar-grammar.result
    c.in_ok-value.field-0 c.specification_grammar-grammar.ensures c.requires c.in_ok-value.ensures in
    let both : Some (written_specification_of c.in-Some-built_specification.spec) ≡ Some it.found =
    c.in-Some-built_specification.ensures ∙ ap (option_and_then meant_specification)
    (ap (option_map meaning) (sym c.in-Some.is) ∙ it.means) in
    let same : it.found ≡ written_specification_of c.in-Some-built_specification.spec = cc in
    subst (IsWrittenSpecification c.args.text.now c.args.tokens.now) same it.is
