use Rattle.std.proofs.Common.{map, refl, subst, sym}
use Rattle.std.proofs.lemmas.Result.{IfOk-weaker}
use Rattle.ll_engine.specs.Language.{IsLeftmostDerivation}
use Rattle.lotos_rows.specs.declared.starts.TheConstants as starts
use Rattle.tree_building.specs.Sentences.{kind_of}
use Rattle.tree_building.proofs.DefinitionsCases.{all_sentences_derived}
use Rattle.tree_building.specs.Meaning.{some_terms}
use Rattle.tree_building.specs.Reading.{node_limit}
use Rattle.tree_building.specs.LotosGrammar.{IsLotosGrammar}
use Rattle.tree_building.proofs.Grammars.{of_terms}
use Rattle.text_depth.proofs.Depths.{deep_is, derived_at}
use Rattle.text_depth.proofs.depth.terms_depth.Goals as goal

pub depth-deep-requires : goal.depth-deep-requires
depth-deep-requires c = record {
  lotos = subst IsLotosGrammar (sym c.terms_grammar.ensures) of_terms;
  derivation = subst (λ it. IsLeftmostDerivation it c.args.rows.now (map kind_of c.args.tokens.now)) (sym c.terms_grammar.ensures)
      c.requires;
}

pub returns : goal.returns
returns c =
    IfOk-weaker c.depth-deep.result _ _
    (λ deep told text tree is.
    deep_is node_limit deep (some_terms tree) refl
    (told text (some_terms tree)
    (derived_at c.terms_grammar.result starts.TERMS text c.args.tokens.now (some_terms tree) c.terms_grammar.ensures
    (all_sentences_derived.terms text c.args.tokens.now tree is))))
    c.depth-deep.ensures
