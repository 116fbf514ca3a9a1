use Rattle.std.proofs.lemmas.Result.{IfOk-weaker}
use Rattle.lotos_base.specs.Signature.{Signature}
use Rattle.draft_parts.specs.RuleView.{IsDraftRuleOver}
use Rattle.draft_parts.proofs.ListLemmas.{some_weaker}
use Rattle.draft_parts.proofs.rule.Rule.apply.Goals as goal

pub returns-in_ok-below-in-Below-clause-over : goal.returns-in_ok-below-in-Below-clause-over
returns-in_ok-below-in-Below-clause-over c = λ signature r h. c.in_ok-below-in-Below.ensures.over signature h

pub returns-in-Alone-clause-over : goal.returns-in-Alone-clause-over
returns-in-Alone-clause-over c =
    IfOk-weaker c.alone.result _ _ (λ o h. some_weaker c.args.draft (λ (signature : Signature). IsDraftRuleOver signature c.args.self.now) o
    h)
    c.alone.ensures.over

pub returns-in_ok-hidden-in-Hidden-clause-over : goal.returns-in_ok-hidden-in-Hidden-clause-over
returns-in_ok-hidden-in-Hidden-clause-over c = λ signature r h. c.in_ok-hidden-in-Hidden.ensures.over signature h

pub returns-in_ok-relabelled-in-Relabelled-clause-over : goal.returns-in_ok-relabelled-in-Relabelled-clause-over
returns-in_ok-relabelled-in-Relabelled-clause-over c = λ signature r h. c.in_ok-relabelled-in-Relabelled.ensures.over signature h

pub returns-in-Enabled-clause-over : goal.returns-in-Enabled-clause-over
returns-in-Enabled-clause-over c =
    IfOk-weaker c.enabled.result _ _ (λ o h. some_weaker c.args.draft (λ (signature : Signature). IsDraftRuleOver signature c.args.self.now)
    o h)
    c.enabled.ensures.over
