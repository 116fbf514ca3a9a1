use Rattle.std.specs.Prelude.{None, Some}
use Rattle.std.proofs.lemmas.Result.{MatchResult-weaker}
use Rattle.syntax_trees.specs.TreeViews.{pair_of}
use Rattle.sort_terms.specs.Operations.{sort_of}
use Rattle.type_definitions.proofs.HoldsLemmas.{holds_weaker}
use Rattle.type_renaming.proofs.SortActuals.{has_sort, alike_lacks, paired_lacks, pair_is}
use Rattle.type_renaming.proofs.actual_sorts.actual_of_formal.Goals as goal

pub returns-in_default : goal.returns-in_default
returns-in_default c = λ a parts.
    let none = pair_is a (sort_of c.args.sort.now) _ c.in_ok-found.found None parts.pairs_are c.in_ok-found.ensures c.in_default.is in
    MatchResult-weaker c.named_alike.result (c.named_alike.ensures a.actual parts.names_are)
    (λ n here. has_sort a (sort_of c.args.sort.now) None n none here.0 here.1)
    (λ fault. holds_weaker _ _ fault
    (λ f lacks. alike_lacks a (sort_of c.args.sort.now) _ f none parts.at_is lacks.0 lacks.1))

pub returns : goal.returns
returns c = λ a parts.
    let some =
    pair_is a (sort_of c.args.sort.now) _ c.in_ok-found.found (Some c.in-Some.pair) parts.pairs_are c.in_ok-found.ensures c.in-Some.is in
    MatchResult-weaker c.named_by_pair.result (c.named_by_pair.ensures a.actual parts.names_are)
    (λ n here. has_sort a (sort_of c.args.sort.now) (Some (pair_of c.in-Some.pair.now)) n some here.0 here.1)
    (λ fault. holds_weaker _ _ fault
    (λ f lacks. paired_lacks a (sort_of c.args.sort.now) (pair_of c.in-Some.pair.now) f some lacks.0 lacks.1))
