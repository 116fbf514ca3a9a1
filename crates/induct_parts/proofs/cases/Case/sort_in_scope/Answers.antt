use Rattle.std.proofs.Common.{ap, sym, ◌∙◌, ltb-true, ltb-false}
use Rattle.lotos_base.specs.Substitution.{is_listed}
use Rattle.induct_parts.proofs.ScopeFacts.{in_scope, past_scope, gone_from_scope}
use Rattle.induct_parts.proofs.cases.Case.sort_in_scope.Goals as goal

pub returns-then-is_gone : goal.returns-then-is_gone
returns-then-is_gone c =
    gone_from_scope c.args.self.now c.args.number
    (ap (λ ns. is_listed ns c.args.number) (sym c.as_slice.ensures.value) ∙ (sym c.is_gone.ensures ∙ c.if-is_gone.true))

pub returns-in-Some : goal.returns-in-Some
returns-in-Some c =
    in_scope c.args.self.now c.as_slice-2.result.now c.args.number c.in-Some.sort.now c.as_slice-2.ensures.value
    (ltb-true _ _ (sym c.in-Some.ensures.lookup.0)) c.in-Some.ensures.lookup.1
    (ap (λ ns. is_listed ns c.args.number) (sym c.as_slice.ensures.value) ∙ (sym c.is_gone.ensures ∙ c.if-is_gone.false))

pub returns-in-None : goal.returns-in-None
returns-in-None c =
    past_scope c.args.self.now c.as_slice-2.result.now c.args.number c.as_slice-2.ensures.value
    (ltb-false _ _ (sym c.in-None.ensures.lookup.0))
