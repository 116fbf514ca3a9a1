use Rattle.std.proofs.Common.{◌≡◌, [], ◌∷◌, sym, ◌∙◌, subst, arith}
use Rattle.lotos_base.specs.Equation.{Data}
use Rattle.lotos_base.specs.Term.{Term}
use Rattle.behaviour_semantics.specs.Fault.{first_unmet}
use Rattle.sort_terms.specs.ProfiledTerm.{IsOf}
use Rattle.sort_terms.specs.SortedView.{profiled_in, term_in}
use Rattle.draft_parts.proofs.HandedOn.{keeps_both}
use Rattle.step_parts.specs.StepFaults.{IsWrongTold, UnlessMemory}
use Rattle.step_parts.proofs.CheckedLemmas.{checked_err, told_more}
use Rattle.step_parts.proofs.OfferLemmas.{term_turn}
use Rattle.step_parts.proofs.PairLemmas.{met_here, none_left, none_right, unmet_here}
use Rattle.step_parts.proofs.node_tests.checked_pairs.Goals as goal

pub checked_pair-requires-clause-left : goal.checked_pair-requires-clause-left
checked_pair-requires-clause-left g c =
    subst (λ (d : Data). IsOf d.signature (profiled_in c.index-left-i.result)) (sym c.loop-i.invariant.same_known.same_data)
    (term_turn c.args.left.now c.loop-i.i c.index-left-i.result (omega (arith, c.loop-i-test.true)) c.index-left-i.is profiled_in
    (g.D.Deciding.known_data c.args.data.now).signature c.loop-i.invariant.left).0

pub checked_pair-requires-clause-right : goal.checked_pair-requires-clause-right
checked_pair-requires-clause-right g c =
    subst (λ (d : Data). IsOf d.signature (profiled_in c.index-right-i.result)) (sym c.loop-i.invariant.same_known.same_data)
    (term_turn c.args.right.now c.loop-i.i c.index-right-i.result (omega (arith, c.if-i-right.false)) c.index-right-i.is profiled_in
    (g.D.Deciding.known_data c.args.data.now).signature c.loop-i.invariant.right).0

pub loop-i-preserved : goal.loop-i-preserved
loop-i-preserved g c = record {
  same = met_here (g.D.Deciding.canon c.args.data.now) c.args.left.now c.args.right.now c.loop-i.i c.index-left-i.result
      c.index-right-i.result (omega (arith, c.loop-i-test.true)) c.index-left-i.is (omega (arith, c.if-i-right.false)) c.index-right-i.is
      (subst (λ (canon : Term → Term). canon (term_in c.index-left-i.result) ≡ canon (term_in c.index-right-i.result))
      c.loop-i.invariant.same_known.same_canon c.in_ok-checked_pair.ensures.equal)
      ∙ c.loop-i.invariant.same;
  left = (term_turn c.args.left.now c.loop-i.i c.index-left-i.result (omega (arith, c.loop-i-test.true)) c.index-left-i.is profiled_in
      (g.D.Deciding.known_data c.args.data.now).signature c.loop-i.invariant.left).1;
  right = (term_turn c.args.right.now c.loop-i.i c.index-right-i.result (omega (arith, c.if-i-right.false)) c.index-right-i.is profiled_in
      (g.D.Deciding.known_data c.args.data.now).signature c.loop-i.invariant.right).1;
  same_known = keeps_both c.loop-i.invariant.same_known c.checked_pair.ensures.same_known;
}

pub returns-in_err-checked_pair-clause-checked : goal.returns-in_err-checked_pair-clause-checked
returns-in_err-checked_pair-clause-checked g c = λ n e.
    checked_err n _ c.from_residual.result c.in_err-checked_pair.field-0.0 c.from_residual.ensures.1
    (told_more n (first_unmet (g.D.Deciding.canon c.args.data.now)
    (record { left = term_in c.index-left-i.result; right = term_in c.index-right-i.result } ∷ [])) _
    (λ w is. sym c.loop-i.invariant.same
    ∙ unmet_here (g.D.Deciding.canon c.args.data.now) c.args.left.now c.args.right.now c.loop-i.i c.index-left-i.result
    c.index-right-i.result (omega (arith, c.loop-i-test.true)) c.index-left-i.is (omega (arith, c.if-i-right.false)) c.index-right-i.is w
    is)
    c.in_err-checked_pair.field-0.0
    (subst (λ (canon : Term → Term). UnlessMemory (IsWrongTold n (first_unmet canon
    (record { left = term_in c.index-left-i.result; right = term_in c.index-right-i.result } ∷ []))) c.in_err-checked_pair.field-0.0)
    c.loop-i.invariant.same_known.same_canon (c.in_err-checked_pair.ensures.checked n e)))

pub returns-then-i-right-clause-checked : goal.returns-then-i-right-clause-checked
returns-then-i-right-clause-checked g c = λ n e.
    sym c.loop-i.invariant.same
    ∙ none_right (g.D.Deciding.canon c.args.data.now) c.args.left.now c.args.right.now c.loop-i.i (omega (arith, c.if-i-right.true))

pub returns-clause-checked : goal.returns-clause-checked
returns-clause-checked g c = λ n e.
    sym c.loop-i.invariant.same
    ∙ none_left (g.D.Deciding.canon c.args.data.now) c.args.left.now c.args.right.now c.loop-i.i (omega (arith, c.loop-i-test.false))
