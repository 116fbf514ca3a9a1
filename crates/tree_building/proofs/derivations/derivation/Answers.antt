use Rattle.std.proofs.Common.{◌∙◌, ap, map}
use Rattle.tree_building.specs.Sentences.{kind_of}
use Rattle.tree_building.specs.Derived.{start_part_of}
use Rattle.tree_building.proofs.Underived.{kinds_fit}
use Rattle.tree_building.proofs.derivations.derivation.Goals as goal

pub parse-requires : goal.parse-requires
parse-requires c =
    kinds_fit (start_part_of c.args.kind) c.grammar.result c.deref-2.result.now c.in_ok-tokens.tokens.items c.grammar.ensures
    (c.deref-2.ensures.value ∙ c.in_ok-kinds.ensures ∙ ap (map kind_of) c.deref.ensures.value)
    (c.tokens_have_kinds.ensures c.args.number c.args.text.now c.in_ok-tokens.tokens.items c.in_ok-tokens.ensures.exact)
