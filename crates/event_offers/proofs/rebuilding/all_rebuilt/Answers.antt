use Rattle.std.proofs.Common.{ap, ◌∙◌, ◌≡◌, ◌++◌, [], length, map, take, sym, arith}
use Rattle.std.proofs.lemmas.Result.{IfOk-weaker}
use Rattle.sort_terms.specs.MadeTerms.{made_of}
use Rattle.sort_terms.specs.TermView.{profiled_of}
use Rattle.term_match.specs.ProfiledInstance.{profiled_instance}
use Rattle.event_offers.specs.Rebuilt.{rebuilt_by}
use Rattle.event_offers.proofs.RebuildLemmas.{all_begun, all_taken, rebuilt_done, rebuilt_next, turns_next}
use Rattle.event_offers.proofs.rebuilding.all_rebuilt.Goals as goal

pub loop-next-init : goal.loop-next-init
loop-next-init g c =
    let values = g.R.Replacing.put_for c.args.values.now in
    ap (λ made. rebuilt_by values c.push.new.self.items (made_of made)) c.new-made.ensures.items
    ∙ rebuilt_next values c.push.new.self.items c.new-left.result.items _ [] c.in_ok-push.ensures.items
    ∙ ap (λ left. rebuilt_by values left
    (map (profiled_instance values) (map profiled_of (take c.len.result c.args.terms.now.items)) ++ [])) c.new-left.ensures.items
    ∙ all_begun values c.args.terms.now.items c.len.result (c.len.ensures ∙ c.args.terms.now.ok.0)

pub loop-next-preserved : goal.loop-next-preserved
loop-next-preserved g c =
    c.in_ok-rebuild.ensures.same
    ∙ sym (rebuilt_next (g.R.Replacing.put_for c.args.values.now) c.loop-next.left.items c.pop.new.self.items c.in-Some.next
    (made_of c.loop-next.made.items) c.in-Some.ensures.items)
    ∙ c.loop-next.invariant

pub loop-next-smaller : goal.loop-next-smaller
loop-next-smaller g c =
    let all = turns_next c.loop-next.left.items c.pop.new.self.items c.in-Some.next c.in-Some.ensures.items in
    omega (arith, all, c.in_ok-rebuild.ensures.less)

pub returns : goal.returns
returns g c =
    let values = g.R.Replacing.put_for c.args.values.now in
    let none : length c.loop-next.left.items ≡ 0 =
    (let nothing = c.in_default.ensures.cases.0 in omega (arith, nothing, c.loop-next.left.ok.0)) in
    IfOk-weaker c.taken.result _ _
    (λ ts h. all_taken values c.args.terms.now.items ts.items (made_of c.taken.new.made.items)
    (sym h.1 ∙ rebuilt_done values c.loop-next.left.items (made_of c.loop-next.made.items) none ∙ c.loop-next.invariant)
    (h.0 ∙ c.len-2.ensures ∙ c.args.terms.now.ok.0))
    c.taken.ensures
