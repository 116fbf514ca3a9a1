use Rattle.std.proofs.Common.{◌≡◌, ◌+◌, ◌++◌, [], ◌∷◌, List, drop, ap, sym, ◌∙◌, subst, arith}
use Rattle.lotos_base.specs.Equation.{Data}
use Rattle.lotos_base.specs.Term.{Term}
use Rattle.behaviour_semantics.specs.Derives.{leaves_in}
use Rattle.behaviour_tree.specs.BehaviourTerms.{exit_profiles, profiles_of}
use Rattle.behaviour_tree.specs.BehaviourView.{terms_of}
use Rattle.behaviour_tree.specs.Over.{AreTermsOf}
use Rattle.behaviour_tree.specs.declared.behaviours.ExitValue.{ExitValue}
use Rattle.draft_parts.proofs.HandedOn.{keeps_both}
use Rattle.step_parts.proofs.OfferLemmas.{numbered_turn, open_count, open_split, rest_is, results_from, terms_turn}
use Rattle.step_parts.proofs.offers.results.Goals as goal

pub push_result-requires-clause-term : goal.push_result-requires-clause-term
push_result-requires-clause-term g c =
    subst (λ (d : Data). AreTermsOf d.signature (exit_profiles c.value-item.result)) (sym c.loop-value.invariant.same_known.same_data)
    (terms_turn c.deref-value-items.result.now c.loop-value.value-index c.value-item.result c.loop-value-test.true c.value-item.is
    exit_profiles (g.D.Deciding.known_data c.args.data.now).signature c.loop-value.invariant.left).0

pub push_result-requires-clause-leaves : goal.push_result-requires-clause-leaves
push_result-requires-clause-leaves g c =
    subst (λ (d : Data). AreTermsOf d.signature (profiles_of c.args.leaves.now)) (sym c.loop-value.invariant.same_known.same_data)
    c.requires.leaves

pub push_result-requires-clause-enough : goal.push_result-requires-clause-enough
push_result-requires-clause-enough g c =
    let whole : open_count (drop c.loop-value.value-index c.deref-value-items.result.now) ≡ open_count (c.value-item.result ∷ []) +
    open_count (drop (c.loop-value.value-index + 1) c.deref-value-items.result.now) =
    ap open_count (rest_is c.deref-value-items.result.now c.loop-value.value-index c.value-item.result c.loop-value-test.true
    c.value-item.is) ∙ open_split c.value-item.result (drop (c.loop-value.value-index + 1) c.deref-value-items.result.now) in
    omega (arith, whole, c.loop-value.invariant.enough)

pub loop-value-preserved : goal.loop-value-preserved
loop-value-preserved g c = record {
  same = numbered_turn c.deref-value-items.result.now c.loop-value.value-index c.value-item.result c.loop-value-test.true c.value-item.is
      (results_from (g.D.Deciding.canon c.args.data.now) (leaves_in (terms_of c.args.leaves.now))) c.loop-value.next c.in_ok-next.next
      (terms_of c.loop-value.made.items) (terms_of c.push_result.new.made.items) _
      (subst (λ (canon : Term → Term). (rest : List ExitValue) → terms_of c.push_result.new.made.items
      ++ results_from canon (leaves_in (terms_of c.args.leaves.now)) c.in_ok-next.next rest
      ≡ terms_of c.loop-value.made.items ++ results_from canon (leaves_in (terms_of c.args.leaves.now)) c.loop-value.next
      (c.value-item.result ∷ rest))
      c.loop-value.invariant.same_known.same_canon c.in_ok-next.ensures.same) c.loop-value.invariant.same;
  over = subst (λ (d : Data). AreTermsOf d.signature (profiles_of c.loop-value.made.items)
      → AreTermsOf d.signature (profiles_of c.push_result.new.made.items)) c.loop-value.invariant.same_known.same_data
      c.in_ok-next.ensures.over c.loop-value.invariant.over;
  left = (terms_turn c.deref-value-items.result.now c.loop-value.value-index c.value-item.result c.loop-value-test.true c.value-item.is
      exit_profiles (g.D.Deciding.known_data c.args.data.now).signature c.loop-value.invariant.left).1;
  enough = let whole : open_count (drop c.loop-value.value-index c.deref-value-items.result.now) ≡ open_count (c.value-item.result ∷ []) +
      open_count (drop (c.loop-value.value-index + 1) c.deref-value-items.result.now) =
      ap open_count (rest_is c.deref-value-items.result.now c.loop-value.value-index c.value-item.result c.loop-value-test.true
      c.value-item.is) ∙ open_split c.value-item.result (drop (c.loop-value.value-index + 1) c.deref-value-items.result.now) in
      omega (arith, whole, c.in_ok-next.ensures.next, c.loop-value.invariant.enough);
  same_known = keeps_both c.loop-value.invariant.same_known c.push_result.ensures.same_known;
}
