use Rattle.std.proofs.Common.{[], ap, sym, refl, ◌∙◌}
use Rattle.lotos_base.specs.Term.{Term}
use Rattle.behaviour_semantics.specs.Fault.{unmet}
use Rattle.sort_terms.specs.SortedView.{term_in}
use Rattle.step_parts.specs.declared.faults.StepFault.TheVariants as step_fault
use Rattle.step_parts.proofs.CheckedLemmas.{tells}
use Rattle.step_parts.proofs.TestLemmas.{differs, met}
use Rattle.step_parts.proofs.node_tests.checked_pair.Goals as goal

pub returns-then-same-clause-checked : goal.returns-then-same-clause-checked
returns-then-same-clause-checked g c = λ n e.
    met (g.D.Deciding.canon c.args.data.now) (record { left = term_in c.args.left.now; right = term_in c.args.right.now }) []
    (sym c.in_ok-left.ensures.is_canon ∙ (c.if-same.ensures.0 refl ∙ (c.in_ok-right.ensures.is_canon
    ∙ ap (λ (canon : Term → Term). canon (term_in c.args.right.now)) c.in_ok-left.ensures.same_canon)))

pub returns-then-same-clause-equal : goal.returns-then-same-clause-equal
returns-then-same-clause-equal g c =
    sym c.in_ok-left.ensures.is_canon ∙ (c.if-same.ensures.0 refl ∙ (c.in_ok-right.ensures.is_canon
    ∙ ap (λ (canon : Term → Term). canon (term_in c.args.right.now)) c.in_ok-left.ensures.same_canon))

pub returns-clause-checked : goal.returns-clause-checked
returns-clause-checked g c = λ n e.
    let right = c.in_ok-right.ensures.is_canon
    ∙ ap (λ (canon : Term → Term). canon (term_in c.args.right.now)) c.in_ok-left.ensures.same_canon in
    tells n _ (unmet (g.D.Deciding.canon c.args.data.now (term_in c.args.left.now)) (g.D.Deciding.canon c.args.data.now (term_in
    c.args.right.now)))
    (step_fault.Unmet c.args.at.node c.in_ok-left.left c.in_ok-right.right)
    (differs (g.D.Deciding.canon c.args.data.now) (record { left = term_in c.args.left.now; right = term_in c.args.right.now }) []
    (λ k. cc (c.if-same.ensures.1 (c.in_ok-left.ensures.is_canon ∙ (k ∙ sym right)))))
    (e, c.in_ok-left.ensures.is_canon, right)
