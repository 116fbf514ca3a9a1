use Rattle.std.proofs.Common.{◌≡◌, ◌∙◌, map, ap, sym, subst}
use Rattle.std.proofs.lemmas.Option.{none-some}
use Rattle.std.specs.Prelude.{Some, option_map, option_and_then}
use Rattle.lotos_rows.specs.Starts.{AreOrderItems}
use Rattle.lotos_base.specs.WrittenView.{listed_operation_of}
use Rattle.tree_building.specs.MeaningView.{meaning}
use Rattle.tree_building.specs.Parts.{meant_order_items}
use Rattle.tree_building.specs.LotosGrammar.{IsLotosGrammar}
use Rattle.tree_building.proofs.Grammars.{of_order_files}
use Rattle.sentence_building.proofs.Meanings.{order_given}
use Rattle.sentence_building.proofs.text_trees.order_items.Goals as goal

pub derived_value-requires-clause-lotos : goal.derived_value-requires-clause-lotos
derived_value-requires-clause-lotos c = subst IsLotosGrammar (sym c.order_grammar-grammar.ensures) of_order_files

-- the tokens are a sentence, so they have a value
pub unreachable-requires : goal.unreachable-requires
unreachable-requires c =
    let it =
    order_given c.args.text.now c.args.tokens.now c.args.rows.items c.order_grammar-grammar.result
    c.in_ok-value.field-0 c.order_grammar-grammar.ensures c.requires c.in_ok-value.ensures in
    none-some _ (sym (ap (option_map meaning) c.in_default.is) ∙ it.means)

-- and it is the items
pub unreachable-requires-in_default-built_order : goal.unreachable-requires-in_default-built_order
unreachable-requires-in_default-built_order c =
    let it =
    order_given c.args.text.now c.args.tokens.now c.args.rows.items c.order_grammar-grammar.result
    c.in_ok-value.field-0 c.order_grammar-grammar.ensures c.requires c.in_ok-value.ensures in
    none-some _ (c.in_default-built_order.ensures
    ∙ ap (option_and_then meant_order_items) (ap (option_map meaning) (sym c.in-Some.is) ∙ it.means))

pub returns : goal.returns
returns c =
    let it =
    order_given c.args.text.now c.args.tokens.now c.args.rows.items c.order_grammar-grammar.result
    c.in_ok-value.field-0 c.order_grammar-grammar.ensures c.requires c.in_ok-value.ensures in
    let both : Some (map listed_operation_of c.in-Some-built_order.items.items) ≡ Some it.found =
    c.in-Some-built_order.ensures ∙ ap (option_and_then meant_order_items) (ap (option_map meaning) (sym c.in-Some.is) ∙ it.means) in
    let same : it.found ≡ map listed_operation_of c.in-Some-built_order.items.items = cc in
    subst (AreOrderItems c.args.text.now c.args.tokens.now) same it.is
