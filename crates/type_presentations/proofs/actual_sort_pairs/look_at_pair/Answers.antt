use Rattle.std.proofs.Common.{◌≡◌, List, subst}
use Rattle.std.specs.Prelude.{None, MatchResult}
use Rattle.lotos_base.specs.Name.{spelling}
use Rattle.lotos_base.specs.Signature.{Sort}
use Rattle.syntax_trees.specs.TreeViews.{pair_of}
use Rattle.syntax_trees.specs.WrittenItem.{WrittenPair}
use Rattle.type_presentations.proofs.NameLemmas.{named_of}
use Rattle.type_definitions.specs.FaultView.{IsFaultFound}
use Rattle.type_definitions.specs.Actualisation.{formal_sorts_of}
use Rattle.type_definitions.specs.Renaming.{sort_pair_fault}
use Rattle.type_presentations.specs.FormalNames.{names_of_formal_sorts, other_pairs}
use Rattle.type_presentations.proofs.ActualLemmas.{unshared_of_formal, unshared_of_other}
use Rattle.type_presentations.proofs.actual_sort_pairs.look_at_pair.Goals as goal

pub returns-in-Some : goal.returns-in-Some
returns-in-Some c = λ base before sorts formals olds news.
    let pair = pair_of c.args.pair.now in
    let n =
    named_of (λ (s : Sort). s.name) (formal_sorts_of base) (spelling c.args.pair.now.replaced.1) c.in_ok-formal.formal
    (c.in_ok-formal.ensures (names_of_formal_sorts base) formals) in
    subst
    (λ (us : List WrittenPair).
    MatchResult c.look_at_sort_pair.result (λ _. sort_pair_fault base.signature before us pair ≡ None)
    (λ fault. IsFaultFound (sort_pair_fault base.signature before us pair) fault))
    (unshared_of_formal base before pair (n.there c.in-Some.field-0 c.in-Some.is))
    (c.look_at_sort_pair.ensures base.signature before (other_pairs base before) sorts olds news.others)

pub returns-in-None : goal.returns-in-None
returns-in-None c = λ base before sorts formals olds news.
    let pair = pair_of c.args.pair.now in
    let n =
    named_of (λ (s : Sort). s.name) (formal_sorts_of base) (spelling c.args.pair.now.replaced.1) c.in_ok-formal.formal
    (c.in_ok-formal.ensures (names_of_formal_sorts base) formals) in
    subst
    (λ (us : List WrittenPair).
    MatchResult c.look_at_sort_pair-in-None.result (λ _. sort_pair_fault base.signature before us pair ≡ None)
    (λ fault. IsFaultFound (sort_pair_fault base.signature before us pair) fault))
    (unshared_of_other base before pair (n.none c.in-None.is))
    (c.look_at_sort_pair-in-None.ensures base.signature before before sorts olds news.all)
