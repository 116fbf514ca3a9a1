use Rattle.std.proofs.Common.{◌+◌, ℕ, Option, length, nat_lt, ap, sym, ◌∙◌, subst}
use Rattle.std.proofs.lemmas.Bool.{ltb-false}
use Rattle.std.proofs.lemmas.List.{length-map}
use Rattle.behaviour_semantics.specs.Fault.{Wrong, not_fitting}
use Rattle.sort_terms.specs.SortedView.{term_in}
use Rattle.behaviour_tree.specs.BehaviourView.{terms_of}
use Rattle.step_parts.specs.StepFaults.{IsStepChecked}
use Rattle.step_parts.proofs.CheckedLemmas.{if_ok, tells}
use Rattle.step_parts.proofs.LeafLemmas.{few_leaves, many_leaves}
use Rattle.step_parts.proofs.leaves.checked_leaves.Goals as goal

pub returns-then-are_too_few-clause-checked : goal.returns-then-are_too_few-clause-checked
returns-then-are_too_few-clause-checked c = λ signature n o e.
    tells n _ not_fitting c.misfit.result
    (few_leaves signature (terms_of c.args.leaves.now) c.args.at.leaf c.args.sorts.now
    (ap (λ (m : ℕ). nat_lt m (c.args.at.leaf + length c.args.sorts.now)) (length-map c.args.leaves.now term_in)
    ∙ sym c.are_too_few.ensures ∙ c.if-are_too_few.true))
    (c.misfit.ensures n e)

pub returns-clause-checked : goal.returns-clause-checked
returns-clause-checked c = λ signature n o e.
    subst (λ (w : Option Wrong). IsStepChecked n w c.checked_from.result)
    (sym (many_leaves signature (terms_of c.args.leaves.now) c.args.at.leaf c.args.sorts.now
    (ap (λ (m : ℕ). nat_lt m (c.args.at.leaf + length c.args.sorts.now)) (length-map c.args.leaves.now term_in)
    ∙ sym c.are_too_few.ensures ∙ c.if-are_too_few.false)))
    (c.checked_from.ensures signature n o)

pub returns-clause-enough : goal.returns-clause-enough
returns-clause-enough c =
    if_ok c.checked_from.result
    (ltb-false (length c.args.leaves.now) (c.args.at.leaf + length c.args.sorts.now) (sym c.are_too_few.ensures ∙ c.if-are_too_few.false))

pub checked_from-requires : goal.checked_from-requires
checked_from-requires c =
    ltb-false (length c.args.leaves.now) (c.args.at.leaf + length c.args.sorts.now) (sym c.are_too_few.ensures ∙ c.if-are_too_few.false)
