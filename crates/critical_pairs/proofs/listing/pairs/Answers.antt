use Rattle.std.proofs.Common.{◌≡◌, ◌<◌, ℕ, List, [], take, length, ap, sym, ◌∙◌, subst, arith}
use Rattle.rewriting_theory.specs.Places.{places_from, places_with}
use Rattle.path_order.specs.RulesView.{plain_rules_in, signature_in}
use Rattle.critical_pairs.specs.Extended.{AddsPairsOf}
use Rattle.critical_pairs.specs.declared.pair.Pair.{Pair}
use Rattle.critical_pairs.proofs.ExtendLemmas.{extended_nothing, extended_then, extended_along, extended_all, places_from_more, nothing_over}
use Rattle.critical_pairs.proofs.RuleLemmas.{plain_there, plain_many, take_all}
use Rattle.critical_pairs.proofs.listing.pairs.Goals as goal

pub loop-first-init : goal.loop-first-init
loop-first-init c =
    subst (λ (ps : List Pair). AddsPairsOf c.args.rules.now [] [] ps) (sym c.new-found.ensures.items) (extended_nothing c.args.rules.now [])

pub loop-first-preserved : goal.loop-first-preserved
loop-first-preserved c =
    let many = ap length c.list-first-end.ensures in
    let less : c.loop-first.first < length c.args.rules.now.rules.items = omega (arith, many) in
    let rule = plain_there c.args.rules.now.rules.items c.loop-first.first less in
    extended_along c.args.rules.now _ _ [] c.in_ok-found.found.items
    (places_from_more (plain_rules_in c.args.rules.now) c.loop-first.first rule.0 rule.1)
    (extended_then c.args.rules.now
    (places_from (plain_rules_in c.args.rules.now) 0 (take c.loop-first.first (plain_rules_in c.args.rules.now)))
    (places_with c.loop-first.first rule.0 0 (plain_rules_in c.args.rules.now)) [] c.loop-first.found.items c.in_ok-found.found.items
    c.loop-first.invariant (c.in_ok-found.ensures rule.0 rule.1))

pub returns-clause-listed : goal.returns-clause-listed
returns-clause-listed c =
    let many = ap length c.list-first-end.ensures in
    let plain = plain_many c.args.rules.now.rules.items in
    let all : c.loop-first.first ≡ length (plain_rules_in c.args.rules.now) = omega (arith, many, plain) in
    extended_all c.args.rules.now c.loop-first.found.items
    (extended_along c.args.rules.now _ _ [] c.loop-first.found.items
    (ap (λ (k : ℕ). places_from (plain_rules_in c.args.rules.now) 0 (take k (plain_rules_in c.args.rules.now))) all
    ∙ ap (places_from (plain_rules_in c.args.rules.now) 0) (take_all (plain_rules_in c.args.rules.now)))
    c.loop-first.invariant)

pub returns-clause-is_of : goal.returns-clause-is_of
returns-clause-is_of c = c.loop-first.invariant.over (nothing_over (signature_in c.args.rules.now))
