use Rattle.std.proofs.Common.{◌≡◌, ◌-◌, ℕ, [], ◌∷◌, drop, map, ap, sym, subst, arith}
use Rattle.std.proofs.lemmas.List.{drop_all}
use Rattle.behaviour_semantics.specs.Label.{under}
use Rattle.behaviour_tree.specs.BehaviourView.{behaviour_of, meet_of}
use Rattle.behaviour_tree.specs.Over.{AreTermsOf}
use Rattle.behaviour_tree.proofs.ClosedLemmas.{terms_both}
use Rattle.step_parts.specs.Beside.{StandsBeside}
use Rattle.step_parts.proofs.NodeLemmas.{one_beside, whole_closed, whole_stands, whole_terms}
use Rattle.step_parts.proofs.targets.side_by_side.Goals as goal

pub loop-at-init : goal.loop-at-init
loop-at-init c = record {
  within = omega (arith, c.len-at.ensures, c.args.gates.now.ok.0);
  same = ap (map (λ (a : ℕ). under (behaviour_of c.args.body.now.value) ((c.args.formal, a) ∷ [])))
      (drop_all c.len-at.result c.args.gates.now.items (omega (arith, c.len-at.ensures, c.args.gates.now.ok.0)));
  terms = λ signature h. tt;
  closed_parts = λ signature specification h. tt;
}

pub loop-at-preserved : goal.loop-at-preserved
loop-at-preserved c = record {
  within = omega (arith, c.loop-at.invariant.within);
  same = one_beside (meet_of c.args.meet.now) (λ (a : ℕ). under (behaviour_of c.args.body.now.value) ((c.args.formal, a) ∷ []))
      c.args.gates.now.items (c.loop-at.at - 1) c.loop-at.at c.index.result.now c.in_ok-copy.copy c.in_ok-beside.field-0 c.loop-at.rest
      (omega (arith, c.loop-at.invariant.within, c.loop-at-test.true)) (omega (arith, c.loop-at-test.true)) c.index.ensures
      c.in_ok-copy.ensures.same c.in_ok-beside.ensures.same c.loop-at.invariant.same;
  terms = λ signature h.
      subst (AreTermsOf signature) (sym c.in_ok-beside.ensures.terms)
      (terms_both signature _ _ (c.in_ok-copy.ensures.terms signature h) (c.loop-at.invariant.terms signature h));
  closed_parts = λ signature specification h.
      c.in_ok-beside.ensures.closed_parts (c.in_ok-copy.ensures.closed_parts signature specification h)
      (c.loop-at.invariant.closed_parts signature specification h);
}

pub returns-clause-same : goal.returns-clause-same
returns-clause-same c =
    let none : c.loop-at.at ≡ 0 = omega (arith, c.loop-at-test.false) in
    whole_stands (meet_of c.args.meet.now) c.loop-at.rest c.or_stop.result
    (map (λ (a : ℕ). under (behaviour_of c.args.body.now.value) ((c.args.formal, a) ∷ [])) c.args.gates.now.items) c.or_stop.ensures.some
    c.or_stop.ensures.none
    (subst (λ (n : ℕ). StandsBeside (meet_of c.args.meet.now) c.loop-at.rest
    (map (λ (a : ℕ). under (behaviour_of c.args.body.now.value) ((c.args.formal, a) ∷ [])) (drop n c.args.gates.now.items))) none
    c.loop-at.invariant.same)

pub returns-clause-terms : goal.returns-clause-terms
returns-clause-terms c = λ signature h.
    whole_terms signature c.loop-at.rest c.or_stop.result c.or_stop.ensures.some c.or_stop.ensures.none
    (c.loop-at.invariant.terms signature h)

pub returns-clause-closed_parts : goal.returns-clause-closed_parts
returns-clause-closed_parts c = λ signature specification h.
    whole_closed c.loop-at.rest c.or_stop.result c.or_stop.ensures.some c.or_stop.ensures.none
    (c.loop-at.invariant.closed_parts signature specification h)
