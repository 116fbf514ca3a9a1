use Rattle.std.proofs.Common.{◌≡◌, List, get_or, sym, ◌∙◌, subst}
use Rattle.std.proofs.lemmas.Result.{IfOk-weaker}
use Rattle.path_order.specs.declared.rule.Rule.{Rule}
use Rattle.critical_pairs.proofs.RuleLemmas.{one_signature, same_root, pair_added}
use Rattle.critical_pairs.proofs.listing.with_pair_at.Goals as goal

pub returns-then-is_same_root : goal.returns-then-is_same_root
returns-then-is_same_root c =
    same_root c.args.rules.now c.args.numbers.0 c.args.numbers.1 c.args.place.now.path.items c.args.found.items
    (sym c.is_same_root.ensures ∙ c.if-is_same_root.true)

pub pair_at-requires : goal.pair_at-requires
pair_at-requires c =
    one_signature c.args.rules.now c.args.numbers.0 c.args.numbers.1 c.index-list-numbers.result c.index-list-numbers-2.result
    c.requires.first c.requires.second
    (subst (λ (xs : List Rule). c.index-list-numbers.result ≡ get_or xs c.args.numbers.0 c.index-list-numbers.result) c.list.ensures
    c.index-list-numbers.is)
    (subst (λ (xs : List Rule). c.index-list-numbers-2.result ≡ get_or xs c.args.numbers.1 c.index-list-numbers-2.result) c.list-2.ensures
    c.index-list-numbers-2.is)

pub returns : goal.returns
returns c =
    IfOk-weaker c.with_found.result _ _
    (λ more is.
    pair_added c.args.rules.now c.args.numbers.0 c.args.numbers.1 c.index-list-numbers.result c.index-list-numbers-2.result
    c.args.place.now.path.items c.args.found.items more.items c.in_ok-pair_at.field-0 c.requires.first c.requires.second
    (subst (λ (xs : List Rule). c.index-list-numbers.result ≡ get_or xs c.args.numbers.0 c.index-list-numbers.result) c.list.ensures
    c.index-list-numbers.is)
    (subst (λ (xs : List Rule). c.index-list-numbers-2.result ≡ get_or xs c.args.numbers.1 c.index-list-numbers-2.result) c.list-2.ensures
    c.index-list-numbers-2.is)
    (sym c.is_same_root.ensures ∙ c.if-is_same_root.false)
    c.in_ok-pair_at.ensures.none c.in_ok-pair_at.ensures.some is)
    c.with_found.ensures
