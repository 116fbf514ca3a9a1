use Rattle.std.proofs.Common.{sym, ◌∙◌}
use Rattle.std.specs.Prelude.{IsTrue}
use Rattle.behaviour_semantics.specs.Fault.{bad_value}
use Rattle.step_parts.specs.declared.faults.StepFault.TheVariants as step_fault
use Rattle.step_parts.proofs.CheckedLemmas.{tells}
use Rattle.step_parts.proofs.LeafLemmas.{good_leaf, open_leaf, other_leaf}
use Rattle.step_parts.proofs.leaves.checked_leaf.Goals as goal

pub returns-then-not-ground : goal.returns-then-not-ground
returns-then-not-ground c = λ signature n of.
    tells n _ (bad_value c.args.number) (step_fault.BadValue c.kept.result)
    (open_leaf signature c.args.sort c.args.leaf.now of c.args.number
    (λ g. let t : IsTrue c.ground.result = c.ground.ensures.1 g in absurd (cc (t, c.if-not-ground.true)))) c.kept.ensures

pub returns-then-sort : goal.returns-then-sort
returns-then-sort c = λ signature n of.
    tells n _ (bad_value c.args.number) (step_fault.BadValue c.kept-then-sort.result)
    (other_leaf signature c.args.sort c.args.leaf.now of c.args.number (λ e. c.if-sort.true (c.sort.ensures ∙ e))) c.kept-then-sort.ensures

pub returns : goal.returns
returns c = λ signature n of.
    good_leaf signature c.args.sort c.args.leaf.now of c.args.number (c.ground.ensures.0 (cc c.if-not-ground.false))
    (sym c.sort.ensures ∙ c.if-sort.false)
