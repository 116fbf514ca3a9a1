use Rattle.std.proofs.Common.{Bor, ◌≡◌, ◌+◌, ◌-◌, List, subst, length, ltb, get_or, arith}
use Rattle.std.specs.Prelude.{IfSome, is_some}
use Rattle.std.proofs.lemmas.Result.{on_ok_weaker}
use Rattle.sort_terms.specs.declared.terms.Term.{Term}
use Rattle.term_store.specs.SharedView.{keys_in}
use Rattle.term_store.proofs.OnTheWayLemmas.{at_position, sizes_last, turns_next, way_first}
use Rattle.term_store.proofs.numbering.begin_last.Goals as goal

pub returns-clause-way : goal.returns-clause-way
returns-clause-way c =
    let ts = c.args.terms.now.items in
    let at = at_position ts (c.args.count - 1) c.get.result c.in-Some.term c.in-Some.is
    (subst (λ (xs : List Term). is_some c.get.result ≡ ltb (c.args.count - 1) (length xs)) c.deref.ensures.value c.get.ensures.lookup.0)
    (subst (λ (xs : List Term). IfSome c.get.result (λ (x : Bor Term). x.now ≡ get_or xs (c.args.count - 1) x.now))
    c.deref.ensures.value c.get.ensures.lookup.1) in
    on_ok_weaker c.begin.result
    (λ h t before way. h t before
    (way_first t before (keys_in c.args.shared.now) c.args.left.now.items c.push.new.self.items c.args.made.now.items c.args.terms
    c.args.count (c.args.count - 1) c.in-Some.term.now (omega (arith, c.if-count-eq0.false)) at.0 at.1 c.in_ok-push.ensures.items way))
    c.begin.ensures.way

pub returns-clause-taken : goal.returns-clause-taken
returns-clause-taken c t before way =
    let ts = c.args.terms.now.items in
    let at = at_position ts (c.args.count - 1) c.get.result c.in-Some.term c.in-Some.is
    (subst (λ (xs : List Term). is_some c.get.result ≡ ltb (c.args.count - 1) (length xs)) c.deref.ensures.value c.get.ensures.lookup.0)
    (subst (λ (xs : List Term). IfSome c.get.result (λ (x : Bor Term). x.now ≡ get_or xs (c.args.count - 1) x.now))
    c.deref.ensures.value c.get.ensures.lookup.1) in
    c.begin.ensures.taken t before
    (way_first t before (keys_in c.args.shared.now) c.args.left.now.items c.push.new.self.items c.args.made.now.items c.args.terms
    c.args.count (c.args.count - 1) c.in-Some.term.now (omega (arith, c.if-count-eq0.false)) at.0 at.1 c.in_ok-push.ensures.items way)

pub returns-clause-less : goal.returns-clause-less
returns-clause-less c =
    let ts = c.args.terms.now.items in
    let at = at_position ts (c.args.count - 1) c.get.result c.in-Some.term c.in-Some.is
    (subst (λ (xs : List Term). is_some c.get.result ≡ ltb (c.args.count - 1) (length xs)) c.deref.ensures.value c.get.ensures.lookup.0)
    (subst (λ (xs : List Term). IfSome c.get.result (λ (x : Bor Term). x.now ≡ get_or xs (c.args.count - 1) x.now))
    c.deref.ensures.value c.get.ensures.lookup.1) in
    let one : c.args.count ≡ (c.args.count - 1) + 1 = omega (arith, c.if-count-eq0.false) in
    let sizes = sizes_last ts c.args.count (c.args.count - 1) c.in-Some.term.now one at.0 at.1 in
    let first = turns_next c.push.new.self.items c.args.left.now.items _ c.in_ok-push.ensures.items in
    on_ok_weaker c.begin.result (λ h. omega (arith, h, first, sizes)) c.begin.ensures.less
