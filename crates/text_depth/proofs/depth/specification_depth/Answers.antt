use Rattle.std.proofs.Common.{map, refl, subst, sym}
use Rattle.std.proofs.lemmas.Result.{IfOk-weaker}
use Rattle.ll_engine.specs.Language.{IsLeftmostDerivation}
use Rattle.lotos_rows.specs.declared.starts.TheConstants as starts
use Rattle.tree_building.specs.Sentences.{kind_of}
use Rattle.tree_building.proofs.DefinitionsCases.{all_sentences_derived}
use Rattle.tree_building.specs.Meaning.{a_specification}
use Rattle.tree_building.specs.Reading.{node_limit}
use Rattle.tree_building.specs.LotosGrammar.{IsLotosGrammar}
use Rattle.tree_building.proofs.Grammars.{of_specifications}
use Rattle.text_depth.proofs.Depths.{deep_is, derived_at}
use Rattle.text_depth.proofs.depth.specification_depth.Goals as goal

pub depth-deep-requires : goal.depth-deep-requires
depth-deep-requires c = record {
  lotos = subst IsLotosGrammar (sym c.specification_grammar.ensures) of_specifications;
  derivation = subst (λ it. IsLeftmostDerivation it c.args.rows.now (map kind_of c.args.tokens.now)) (sym c.specification_grammar.ensures)
      c.requires;
}

pub returns : goal.returns
returns c =
    IfOk-weaker c.depth-deep.result _ _
    (λ deep told text tree is.
    deep_is node_limit deep (a_specification tree) refl
    (told text (a_specification tree)
    (derived_at c.specification_grammar.result starts.SPEC text c.args.tokens.now (a_specification tree) c.specification_grammar.ensures
    (all_sentences_derived.specification text c.args.tokens.now tree is))))
    c.depth-deep.ensures
