use Rattle.std.proofs.Common.{map, sym, ◌∙◌}
use Rattle.std.proofs.lemmas.Result.{IfOk-weaker}
use Rattle.lotos_base.specs.Signature.{Sort}
use Rattle.sort_terms.specs.Operations.{sort_of}
use Rattle.sort_terms.specs.WellFormedTest.{are_one_sort}
use Rattle.syntax_trees.specs.TreeViews.{pair_of}
use Rattle.type_definitions.specs.TypeFault.{double_sort}
use Rattle.type_definitions.specs.Renaming.{pair_for, renamed_sort}
use Rattle.type_definitions.proofs.HoldsLemmas.{holds_weaker}
use Rattle.type_renaming.specs.RenamerView.{sort_pairs_in, type_name_in}
use Rattle.type_renaming.proofs.ClashLemmas.{own_clash, is_told, from_either_side}
use Rattle.type_renaming.proofs.PairLemmas.{sorts_turned, sorts_alike}
use Rattle.type_renaming.proofs.sorts.sort_clash.Goals as goal

pub returns-in-Some : goal.returns-in-Some
returns-in-Some c =
    let t = type_name_in c.args.renamer.now in
    let ps = sort_pairs_in c.args.renamer.now in
    let at =
    own_clash (λ (one : Sort) (other : Sort). are_one_sort (renamed_sort t ps one) (renamed_sort t ps other))
    (λ (s : Sort). pair_for ps.sort_pairs s.name) double_sort (map sort_of c.args.earlier.now) (sort_of c.args.sort.now)
    (pair_of c.in-Some.pair.now) (sym (rw c.in-Some.is at c.in_ok-own.ensures))
    (from_either_side are_one_sort sorts_turned (renamed_sort t ps) (map sort_of c.args.earlier.now) (sort_of c.args.sort.now)
    ∙ c.requires.clash) in
    IfOk-weaker c.double_sort_at.result _ _ (λ fault found. holds_weaker _ _ fault (λ f e. at ∙ e) found) c.double_sort_at.ensures

pub pair_of_earlier-requires-clause-own : goal.pair_of_earlier-requires-clause-own
pair_of_earlier-requires-clause-own c = sym (rw c.in_default.is at c.in_ok-own.ensures)

pub unreachable-requires : goal.unreachable-requires
unreachable-requires c =
    let t = type_name_in c.args.renamer.now in
    let ps = sort_pairs_in c.args.renamer.now in
    is_told (λ (one : Sort) (other : Sort). are_one_sort (renamed_sort t ps one) (renamed_sort t ps other)) are_one_sort
    (λ (s : Sort). pair_for ps.sort_pairs s.name) double_sort (map sort_of c.args.earlier.now) (sort_of c.args.sort.now)
    (sorts_alike t ps (sort_of c.args.sort.now) (sym (rw c.in_default.is at c.in_ok-own.ensures)))
    (from_either_side are_one_sort sorts_turned (renamed_sort t ps) (map sort_of c.args.earlier.now) (sort_of c.args.sort.now)
    ∙ c.requires.clash)
    c.requires.apart (rw c.in_default-found.is at c.in_ok-found.ensures)

pub returns : goal.returns
returns c =
    IfOk-weaker c.double_sort_at-2.result _ _
    (λ fault found. holds_weaker _ _ fault (λ f e. rw c.in-Some-found.is at c.in_ok-found.ensures ∙ e) found) c.double_sort_at-2.ensures
