use Rattle.std.proofs.Common.{◌≡◌, ◌≤◌, ℕ, List, length, map, take, refl, ap, sym, ◌∙◌, subst, arith}
use Rattle.std.proofs.lemmas.Result.{err_from_is_err_and}
use Rattle.std.proofs.lemmas.List.{drop_all}
use Rattle.lotos_base.proofs.Pieces.{take_whole}
use Rattle.lotos_base.specs.Name.{spelling}
use Rattle.syntax_trees.specs.TreeViews.{pair_of}
use Rattle.syntax_trees.specs.declared.items.PairText.{PairText}
use Rattle.type_presentations.specs.NamesView.{HasNames}
use Rattle.type_presentations.proofs.NameLemmas.{more_names, as_many_names}
use Rattle.type_definitions.proofs.HoldsLemmas.{holds_weaker}
use Rattle.type_definitions.proofs.WalkLemmas.{looked_on, looked_at}
use Rattle.type_definitions.specs.Renaming.{operation_pair_fault, operation_pairs_fault}
use Rattle.type_presentations.specs.PairNames.{old_names}
use Rattle.type_presentations.proofs.PairLemmas.{operation_pairs_one_by_one, old_name}
use Rattle.type_presentations.proofs.operation_pairs.look_at_op_pairs.Goals as goal

pub loop-number-preserved : goal.loop-number-preserved
loop-number-preserved c =
    let many : c.loop-number.number ≤ length c.args.pairs.now = omega (arith, c.loop-number-test.true) in (
      subst (λ (ns : List (List ℕ)). HasNames c.add.new.self ns)
          (more_names pair_of old_name c.args.pairs.now c.loop-number.number c.index-pairs-number.result
          (spelling c.index-pairs-number.result.replaced.1) c.loop-number-test.true c.index-pairs-number.is refl)
          (c.in_ok-add.ensures _ c.loop-number.invariant.0 (as_many_names pair_of old_name c.args.pairs.now c.loop-number.number many)),
      (λ signature has.
          sym (looked_on (operation_pair_fault signature)
          (operation_pairs_fault signature) pair_of (operation_pairs_one_by_one signature) c.args.pairs.now c.loop-number.number
          c.index-pairs-number.result c.loop-number-test.true c.index-pairs-number.is
          (c.in_ok-look_at_op_pair.ensures signature _ has c.loop-number.invariant.0))
          ∙ c.loop-number.invariant.1 signature has),
    )

pub returns-in_err-look_at_op_pair : goal.returns-in_err-look_at_op_pair
returns-in_err-look_at_op_pair c =
    let p = err_from_is_err_and c.from_residual.result c.from_residual.ensures.1 in
    rw (p.1, p.2) (λ signature has.
    holds_weaker _ _ c.in_err-look_at_op_pair.field-0.0
    (λ f found.
    sym (c.loop-number.invariant.1 signature has)
    ∙ looked_at (operation_pair_fault signature)
    (operation_pairs_fault signature) pair_of (operation_pairs_one_by_one signature) c.args.pairs.now c.loop-number.number
    c.index-pairs-number.result f c.loop-number-test.true c.index-pairs-number.is found)
    (c.in_err-look_at_op_pair.ensures signature _ has c.loop-number.invariant.0))

pub of-requires : goal.of-requires
of-requires c =
    let all : c.loop-number.number ≡ length c.args.pairs.now = omega arith in
    subst (λ (ps : List PairText). HasNames c.loop-number.olds (old_names (map pair_of ps)))
    (take_whole c.args.pairs.now c.loop-number.number all) c.loop-number.invariant.0

pub returns : goal.returns
returns c = λ signature has. (
  sym (c.loop-number.invariant.1 signature has)
      ∙ ap (λ (ps : List PairText). operation_pairs_fault signature (map pair_of (take c.loop-number.number c.args.pairs.now))
      (map pair_of ps))
      (drop_all c.loop-number.number c.args.pairs.now (omega (arith, c.loop-number-test.false))),
  c.of.ensures,
)
