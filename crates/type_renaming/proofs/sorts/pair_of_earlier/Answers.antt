use Rattle.std.proofs.Common.{List, ap, sym, refl, ◌∙◌}
use Rattle.lotos_base.specs.Signature.{Sort}
use Rattle.sort_terms.specs.Operations.{sort_of}
use Rattle.sort_terms.specs.WellFormedTest.{are_one_sort}
use Rattle.syntax_trees.specs.TreeViews.{pair_of}
use Rattle.type_definitions.specs.TypeFault.{double_sort}
use Rattle.type_definitions.specs.Renaming.{pair_for, renamed_sort}
use Rattle.type_definitions.proofs.WalkLemmas.{none_of}
use Rattle.type_renaming.specs.Clashes.{sort_clash}
use Rattle.type_renaming.specs.RenamerView.{sort_pairs_in, type_name_in}
use Rattle.type_renaming.proofs.ClashLemmas.{walks_on, stops, none_further}
use Rattle.type_renaming.proofs.PairLemmas.{sort_given, sort_not_given}
use Rattle.type_renaming.proofs.sorts.pair_of_earlier.Goals as goal

pub loop-other-init : goal.loop-other-init
loop-other-init c = (c.requires.apart, refl)

pub returns-in-Some : goal.returns-in-Some
returns-in-Some c =
    let t = type_name_in c.args.renamer.now in
    let ps = sort_pairs_in c.args.renamer.now in
    let given =
    sort_given t ps (sort_of c.other-item.result) (sort_of c.args.sort.now) (pair_of c.in-Some.pair.now) c.requires.own
    (sym (rw c.in-Some.is at c.in_ok-found.ensures)) in
    sym c.loop-other.invariant.1
    ∙ stops (λ (one : Sort) (other : Sort). are_one_sort (renamed_sort t ps one) (renamed_sort t ps other))
    (λ (s : Sort). pair_for ps.sort_pairs s.name) double_sort sort_of c.args.earlier.now c.loop-other.other-index c.other-item.result
    (sort_of c.args.sort.now) (pair_of c.in-Some.pair.now) c.loop-other-test.true c.other-item.is given.1 c.requires.own given.0

pub loop-other-preserved : goal.loop-other-preserved
loop-other-preserved c =
    let t = type_name_in c.args.renamer.now in
    let ps = sort_pairs_in c.args.renamer.now in
    let rest =
    none_further (are_one_sort (sort_of c.args.sort.now)) sort_of c.args.earlier.now c.loop-other.other-index c.other-item.result
    c.loop-other-test.true c.other-item.is c.loop-other.invariant.0 in
    let other =
    sort_not_given t ps (sort_of c.other-item.result) (sort_of c.args.sort.now) c.requires.own
    (sym (rw c.in_default.is at c.in_ok-found.ensures)) rest.0 in (
      rest.1,
      walks_on (λ (one : Sort) (other : Sort). are_one_sort (renamed_sort t ps one) (renamed_sort t ps other))
          (λ (s : Sort). pair_for ps.sort_pairs s.name) double_sort sort_of c.args.earlier.now c.loop-other.other-index
          c.other-item.result (sort_of c.args.sort.now) c.loop-other-test.true c.other-item.is other
          ∙ c.loop-other.invariant.1,
    )

pub returns : goal.returns
returns c =
    sym c.loop-other.invariant.1
    ∙ ap (λ (ss : List Sort).
    sort_clash (type_name_in c.args.renamer.now) (sort_pairs_in c.args.renamer.now) ss (sort_of c.args.sort.now))
    (none_of sort_of c.args.earlier.now c.loop-other.other-index c.loop-other-test.false)
