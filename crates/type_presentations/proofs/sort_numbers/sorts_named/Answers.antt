use Rattle.std.proofs.Common.{◌≡◌, List, map, subst, length, arith}
use Rattle.std.specs.Prelude.{None}
use Rattle.std.proofs.lemmas.Result.{err_from_is_err_and}
use Rattle.lotos_base.proofs.Pieces.{take_whole}
use Rattle.lotos_base.specs.WrittenTerm.{PlacedName}
use Rattle.lotos_base.specs.WrittenView.{placed_name_of}
use Rattle.lotos_base.specs.declared.places.Place.{Place}
use Rattle.lotos_base.specs.declared.names.Name.{Name}
use Rattle.syntax_trees.specs.TreeViews.{placed_names_of}
use Rattle.type_definitions.proofs.HoldsLemmas.{holds_weaker}
use Rattle.type_definitions.specs.Declarations.{sort_numbered, unknown_sort_among}
use Rattle.type_presentations.proofs.DeclareLemmas.{unknown_here, known_more, numbers_more}
use Rattle.type_presentations.proofs.sort_numbers.sorts_named.Goals as goal

pub loop-named-preserved : goal.loop-named-preserved
loop-named-preserved c = λ p has.
    let before = c.loop-named.invariant p has in
    let here = c.in_ok-sort_named.ensures p has in (
      known_more p placed_name_of c.args.names.now c.loop-named.named-index c.named-item.result c.loop-named-test.true c.named-item.is
          before.0
          here.0,
      numbers_more p placed_name_of c.args.names.now c.loop-named.named-index c.named-item.result c.loop-named.numbers.items
          c.push.new.self.items c.in_ok-sort_named.field-0 c.loop-named-test.true c.named-item.is before.1 here.1
          c.in_ok-push.ensures.items,
    )

pub returns-in_err-sort_named : goal.returns-in_err-sort_named
returns-in_err-sort_named c =
    let e = err_from_is_err_and c.from_residual-in_err-sort_named.result c.from_residual-in_err-sort_named.ensures.1 in
    rw (e.1, e.2) (λ p has.
    holds_weaker _ _ c.in_err-sort_named.field-0.0
    (λ f found.
    unknown_here p placed_name_of c.args.names.now c.loop-named.named-index c.named-item.result f c.loop-named-test.true c.named-item.is
    (c.loop-named.invariant p has).0 found)
    (c.in_err-sort_named.ensures p has))

pub returns : goal.returns
returns c = λ p has.
    let all : c.loop-named.named-index ≡ length c.args.names.now = omega arith in
    subst
    (λ (ns : List (Place × Name)). (unknown_sort_among p (placed_names_of ns) ≡ None)
    × (c.loop-named.numbers.items ≡ map (λ (s : PlacedName). sort_numbered p s.name) (placed_names_of ns)))
    (take_whole c.args.names.now c.loop-named.named-index all) (c.loop-named.invariant p has)
