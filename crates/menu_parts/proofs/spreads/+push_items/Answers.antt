use Rattle.std.proofs.Common.{sym, subst}
use Rattle.std.proofs.lemmas.Result.{IfOk-weaker}
use Rattle.menu_parts.proofs.WayLemmas.{ArePushed, HavePushedTerms, both_pushed, both_pushed_terms}
use Rattle.menu_parts.proofs.spreads.+push_items.Goals as goal

pub returns-in-Side-clause-same : goal.returns-in-Side-clause-same
returns-in-Side-clause-same t c =
    IfOk-weaker c.push_own.result _ _ (λ u e.
    subst (ArePushed c.args.items.now.items c.push_own.new.items.items) (sym c.in-Side.is) e) c.push_own.ensures.same

pub returns-in-Side-clause-terms : goal.returns-in-Side-clause-terms
returns-in-Side-clause-terms t c =
    IfOk-weaker c.push_own.result _ _ (λ u e.
    subst (HavePushedTerms c.args.items.now.items c.push_own.new.items.items) (sym c.in-Side.is) e) c.push_own.ensures.terms

pub returns-in-Under-clause-same : goal.returns-in-Under-clause-same
returns-in-Under-clause-same t c =
    IfOk-weaker c.push_items.result _ _ (λ u e.
    subst (ArePushed c.args.items.now.items c.push_items.new.items.items) (sym c.in-Under.is)
    (subst (ArePushed c.args.items.now.items c.push_items.new.items.items) c.deref.ensures e)) c.push_items.ensures.same

pub returns-in-Under-clause-terms : goal.returns-in-Under-clause-terms
returns-in-Under-clause-terms t c =
    IfOk-weaker c.push_items.result _ _ (λ u e.
    subst (HavePushedTerms c.args.items.now.items c.push_items.new.items.items) (sym c.in-Under.is)
    (subst (HavePushedTerms c.args.items.now.items c.push_items.new.items.items) c.deref.ensures e)) c.push_items.ensures.terms

pub returns-in_ok-push_items-in-Both-clause-same : goal.returns-in_ok-push_items-in-Both-clause-same
returns-in_ok-push_items-in-Both-clause-same t c =
    IfOk-weaker c.push_items-in-Both-2.result _ _ (λ u e.
    both_pushed c.args.items.now.items c.push_items-in-Both.new.items.items c.push_items-in-Both-2.new.items.items c.in-Both.left
    c.in-Both.right c.in-Both.field-2 c.args.spread.now c.deref-in-Both.result.now c.deref-in-Both-2.result.now c.in-Both.is
    c.deref-in-Both.ensures c.deref-in-Both-2.ensures c.in_ok-push_items-in-Both.ensures.same e) c.push_items-in-Both-2.ensures.same

pub returns-in_ok-push_items-in-Both-clause-terms : goal.returns-in_ok-push_items-in-Both-clause-terms
returns-in_ok-push_items-in-Both-clause-terms t c =
    IfOk-weaker c.push_items-in-Both-2.result _ _ (λ u e.
    both_pushed_terms c.args.items.now.items c.push_items-in-Both.new.items.items c.push_items-in-Both-2.new.items.items c.in-Both.left
    c.in-Both.right c.in-Both.field-2 c.args.spread.now c.deref-in-Both.result.now c.deref-in-Both-2.result.now c.in-Both.is
    c.deref-in-Both.ensures c.deref-in-Both-2.ensures c.in_ok-push_items-in-Both.ensures.terms e) c.push_items-in-Both-2.ensures.terms
