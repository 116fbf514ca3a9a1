use Rattle.std.proofs.Common.{Bor, ap, ◌∙◌, ◌≡◌, ◌+◌, ◌-◌, ◌∷◌, List, subst, length, ltb, get_or, arith}
use Rattle.std.specs.Prelude.{IfSome, is_some}
use Rattle.std.proofs.lemmas.Result.{on_ok_weaker}
use Rattle.sort_terms.specs.MadeTerms.{made_of}
use Rattle.sort_terms.specs.TermView.{profiled_of}
use Rattle.sort_terms.specs.declared.terms.Term.{Term}
use Rattle.term_match.specs.ProfiledInstance.{profiled_instance}
use Rattle.event_offers.specs.Rebuilt.{rebuilt_by}
use Rattle.event_offers.proofs.RebuildLemmas.{at_position, first_last, nothing_first, rebuilt_next, sizes_last, turns_next}
use Rattle.event_offers.proofs.rebuilding.begin_last.Goals as goal

pub returns-then-count-eq0-clause-same : goal.returns-then-count-eq0-clause-same
returns-then-count-eq0-clause-same g c =
    let values = g.R.Replacing.put_for c.args.values.now in
    ap (rebuilt_by values c.args.left.now.items)
    (nothing_first values c.args.terms.now.items c.args.count (made_of c.args.made.now.items) c.if-count-eq0.true)

pub returns-clause-same : goal.returns-clause-same
returns-clause-same g c =
    let values = g.R.Replacing.put_for c.args.values.now in
    let ts = c.args.terms.now.items in
    let made = made_of c.args.made.now.items in
    let at = at_position ts (c.args.count - 1) c.get.result c.in-Some.term c.in-Some.is
    (subst (λ (xs : List Term). is_some c.get.result ≡ ltb (c.args.count - 1) (length xs)) c.deref.ensures.value c.get.ensures.lookup.0)
    (subst (λ (xs : List Term). IfSome c.get.result (λ (x : Bor Term). x.now ≡ get_or xs (c.args.count - 1) x.now))
    c.deref.ensures.value c.get.ensures.lookup.1) in
    let one : c.args.count ≡ (c.args.count - 1) + 1 = omega (arith, c.if-count-eq0.false) in
    on_ok_weaker c.begin.result
    (λ h. h
    ∙ rebuilt_next values c.push.new.self.items c.args.left.now.items _
    (profiled_instance values (profiled_of c.in-Some.term.now) ∷ made) c.in_ok-push.ensures.items
    ∙ ap (rebuilt_by values c.args.left.now.items)
    (first_last values ts c.args.count (c.args.count - 1) c.in-Some.term.now made one at.0 at.1))
    c.begin.ensures.same

pub returns-clause-less : goal.returns-clause-less
returns-clause-less g c =
    let ts = c.args.terms.now.items in
    let at = at_position ts (c.args.count - 1) c.get.result c.in-Some.term c.in-Some.is
    (subst (λ (xs : List Term). is_some c.get.result ≡ ltb (c.args.count - 1) (length xs)) c.deref.ensures.value c.get.ensures.lookup.0)
    (subst (λ (xs : List Term). IfSome c.get.result (λ (x : Bor Term). x.now ≡ get_or xs (c.args.count - 1) x.now))
    c.deref.ensures.value c.get.ensures.lookup.1) in
    let one : c.args.count ≡ (c.args.count - 1) + 1 = omega (arith, c.if-count-eq0.false) in
    let sizes = sizes_last ts c.args.count (c.args.count - 1) c.in-Some.term.now one at.0 at.1 in
    let first = turns_next c.push.new.self.items c.args.left.now.items _ c.in_ok-push.ensures.items in
    on_ok_weaker c.begin.result (λ h. omega (arith, h, first, sizes)) c.begin.ensures.less
