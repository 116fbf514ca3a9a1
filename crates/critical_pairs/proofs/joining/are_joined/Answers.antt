use Rattle.std.proofs.Common.{◌≡◌, ◌<◌, ℕ, List, take, length, ap, ◌∙◌, subst, arith}
use Rattle.rewriting_theory.specs.PairList.{PairPlace}
use Rattle.rewriting_theory.specs.Places.{places_from, places_with}
use Rattle.path_order.specs.RulesView.{plain_rules_in}
use Rattle.critical_pairs.specs.Joining.{AreJoinedAt}
use Rattle.critical_pairs.proofs.ExtendLemmas.{places_from_more}
use Rattle.critical_pairs.proofs.JoiningLemmas.{joined_all, joined_nothing, joined_then}
use Rattle.critical_pairs.proofs.RuleLemmas.{plain_there, plain_many, take_all}
use Rattle.critical_pairs.proofs.joining.are_joined.Goals as goal

pub loop-first-init : goal.loop-first-init
loop-first-init c = (joined_nothing (plain_rules_in c.args.rules.now), c.requires)

pub loop-first-preserved : goal.loop-first-preserved
loop-first-preserved c =
    let many = ap length c.list-first-end.ensures in
    let less : c.loop-first.first < length c.args.rules.now.rules.items = omega (arith, many) in
    let rule = plain_there c.args.rules.now.rules.items c.loop-first.first less in (
      subst (λ (ps : List PairPlace). AreJoinedAt (plain_rules_in c.args.rules.now) ps)
          (places_from_more (plain_rules_in c.args.rules.now) c.loop-first.first rule.0 rule.1)
          (joined_then (plain_rules_in c.args.rules.now)
          (places_from (plain_rules_in c.args.rules.now) 0 (take c.loop-first.first (plain_rules_in c.args.rules.now)))
          (places_with c.loop-first.first rule.0 0 (plain_rules_in c.args.rules.now)) c.loop-first.invariant.0
          (c.in_ok-joined.ensures.joined c.if-not-joined.false rule.0 rule.1)),
      c.are_joined_with.ensures.finder,
    )

pub returns-clause-joined : goal.returns-clause-joined
returns-clause-joined c = λ _.
    let many = ap length c.list-first-end.ensures in
    let plain = plain_many c.args.rules.now.rules.items in
    let all : c.loop-first.first ≡ length (plain_rules_in c.args.rules.now) = omega (arith, many, plain) in
    joined_all c.args.rules.now
    (subst (λ (ps : List PairPlace). AreJoinedAt (plain_rules_in c.args.rules.now) ps)
    (ap (λ (k : ℕ). places_from (plain_rules_in c.args.rules.now) 0 (take k (plain_rules_in c.args.rules.now))) all
    ∙ ap (places_from (plain_rules_in c.args.rules.now) 0) (take_all (plain_rules_in c.args.rules.now)))
    c.loop-first.invariant.0)
