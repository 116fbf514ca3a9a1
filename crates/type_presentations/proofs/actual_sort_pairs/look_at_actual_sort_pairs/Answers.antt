use Rattle.std.proofs.Common.{◌≡◌, ◌≤◌, ℕ, List, length, map, take, refl, ap, sym, ◌∙◌, subst, arith}
use Rattle.std.proofs.lemmas.List.{length-map, length-take-le, drop_all}
use Rattle.std.proofs.lemmas.Result.{err_from_is_err_and}
use Rattle.lotos_base.proofs.Pieces.{take_whole}
use Rattle.lotos_base.specs.Name.{spelling}
use Rattle.syntax_trees.specs.TreeViews.{pair_of}
use Rattle.syntax_trees.specs.WrittenItem.{WrittenPair}
use Rattle.syntax_trees.specs.declared.items.PairText.{PairText}
use Rattle.type_presentations.specs.NamesView.{HasNames}
use Rattle.type_presentations.proofs.NameLemmas.{more_names, as_many_names}
use Rattle.type_definitions.proofs.HoldsLemmas.{holds_weaker}
use Rattle.type_definitions.proofs.WalkLemmas.{looked_on, looked_at, so_far}
use Rattle.type_definitions.specs.ActualisationFaults.{actual_pairs_fault, unshared}
use Rattle.type_definitions.specs.Renaming.{sort_pair_fault}
use Rattle.type_presentations.specs.PairNames.{old_names}
use Rattle.type_presentations.proofs.PairLemmas.{old_name}
use Rattle.type_presentations.specs.NewNamesView.{HasNewNames}
use Rattle.type_presentations.proofs.ActualLemmas.{pairs_one_by_one}
use Rattle.type_presentations.proofs.actual_sort_pairs.look_at_actual_sort_pairs.Goals as goal

pub loop-number-init : goal.loop-number-init
loop-number-init c = (
  c.new-olds.ensures,
  omega (arith, c.new-news.ensures.none),
  (λ base formals. c.new-news.ensures.names base),
  (λ base sorts formals. refl),
)

pub loop-number-preserved : goal.loop-number-preserved
loop-number-preserved c =
    let many : c.loop-number.number ≤ length c.args.pairs.now = omega (arith, c.loop-number-test.true) in
    let counted : length (map pair_of (take c.loop-number.number c.args.pairs.now)) ≡ c.loop-number.number =
    length-map (take c.loop-number.number c.args.pairs.now) pair_of ∙ length-take-le c.loop-number.number c.args.pairs.now many in (
      subst (λ (ns : List (List ℕ)). HasNames c.add.new.self ns)
          (more_names pair_of old_name c.args.pairs.now c.loop-number.number c.index-pairs-number.result
          (spelling c.index-pairs-number.result.replaced.1) c.loop-number-test.true c.index-pairs-number.is refl)
          (c.in_ok-add.ensures _ c.loop-number.invariant.0 (as_many_names pair_of old_name c.args.pairs.now c.loop-number.number many)),
      omega (arith, c.in_ok-add-2.ensures.few, c.loop-number.invariant.1),
      (λ base formals.
          subst (λ (ps : List WrittenPair). HasNewNames c.add-in-loop-number.new.self base ps)
          (sym (so_far pair_of c.args.pairs.now c.loop-number.number c.index-pairs-number.result c.loop-number-test.true
          c.index-pairs-number.is))
          (c.in_ok-add-2.ensures.names base _ formals (c.loop-number.invariant.2 base formals) counted)),
      (λ base sorts formals.
          sym (looked_on
          (λ (earlier : List WrittenPair) (pair : WrittenPair). sort_pair_fault base.signature earlier (unshared base earlier pair) pair)
          (actual_pairs_fault base) pair_of (pairs_one_by_one base) c.args.pairs.now c.loop-number.number
          c.index-pairs-number.result c.loop-number-test.true c.index-pairs-number.is
          (c.in_ok-look_at_pair.ensures base _ sorts formals c.loop-number.invariant.0 (c.loop-number.invariant.2 base formals)))
          ∙ c.loop-number.invariant.3 base sorts formals),
    )

pub returns-in_err-look_at_pair : goal.returns-in_err-look_at_pair
returns-in_err-look_at_pair c =
    let p = err_from_is_err_and c.from_residual.result c.from_residual.ensures.1 in
    rw (p.1, p.2) (λ base sorts formals.
    holds_weaker _ _ c.in_err-look_at_pair.field-0.0
    (λ f found.
    sym (c.loop-number.invariant.3 base sorts formals)
    ∙ looked_at
    (λ (earlier : List WrittenPair) (pair : WrittenPair). sort_pair_fault base.signature earlier (unshared base earlier pair) pair)
    (actual_pairs_fault base) pair_of (pairs_one_by_one base) c.args.pairs.now c.loop-number.number
    c.index-pairs-number.result f c.loop-number-test.true c.index-pairs-number.is found)
    (c.in_err-look_at_pair.ensures base _ sorts formals c.loop-number.invariant.0 (c.loop-number.invariant.2 base formals)))

pub of-requires : goal.of-requires
of-requires c =
    let all : c.loop-number.number ≡ length c.args.pairs.now = omega arith in
    subst (λ (ps : List PairText). HasNames c.loop-number.olds (old_names (map pair_of ps)))
    (take_whole c.args.pairs.now c.loop-number.number all) c.loop-number.invariant.0

pub returns : goal.returns
returns c = λ base sorts formals. (
  sym (c.loop-number.invariant.3 base sorts formals)
      ∙ ap (λ (ps : List PairText). actual_pairs_fault base (map pair_of (take c.loop-number.number c.args.pairs.now)) (map pair_of ps))
      (drop_all c.loop-number.number c.args.pairs.now (omega (arith, c.loop-number-test.false))),
  c.of.ensures,
)
