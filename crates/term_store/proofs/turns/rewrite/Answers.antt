use Rattle.std.proofs.Common.{◌++◌, ◌∷◌, [], refl, ap, ◌∙◌}
use Rattle.std.proofs.lemmas.Result.{IfOk-weaker}
use Rattle.term_store.specs.declared.tasks.Task.TheVariants.{Form}
use Rattle.term_store.specs.SharedView.{keys_in}
use Rattle.term_store.proofs.TurnLemmas.{stepped, done_turn, done_sound, next_turn, step_taken}
use Rattle.term_store.proofs.turns.rewrite.Goals as goal

pub returns-in_err-step-clause-stay : goal.returns-in_err-step-clause-stay
returns-in_err-step-clause-stay c =
    stepped c.args.rules.now c.args.forms.now c.step.new.shared c.step.ensures.grows c.step.ensures.have c.requires.sound

pub returns-in_err-push-in-Some-clause-stay : goal.returns-in_err-push-in-Some-clause-stay
returns-in_err-push-in-Some-clause-stay c =
    stepped c.args.rules.now c.args.forms.now c.step.new.shared c.step.ensures.grows c.step.ensures.have c.requires.sound

pub returns-in_err-push-in-Some-2-clause-stay : goal.returns-in_err-push-in-Some-2-clause-stay
returns-in_err-push-in-Some-2-clause-stay c =
    stepped c.args.rules.now c.args.forms.now c.step.new.shared c.step.ensures.grows c.step.ensures.have c.requires.sound

pub returns-in-None-clause-stay : goal.returns-in-None-clause-stay
returns-in-None-clause-stay c =
    done_sound c.args.rules.now c.args.forms.now c.step.new.shared c.keep_both.new.self c.args.term c.args.whole c.in_ok-step.field-0
    c.step.ensures.grows c.step.ensures.have c.requires.sound c.requires.whole c.in-None.is c.in_ok-step.ensures.step
    c.keep_both.ensures.terms c.keep_both.ensures.at_most

pub returns-in-None-clause-advances : goal.returns-in-None-clause-advances
returns-in-None-clause-advances c =
    IfOk-weaker c.keep_both.result _ _
    (λ done is.
    done_turn c.args.rules.now c.args.forms.now c.step.new.shared c.keep_both.new.self c.args.tasks.now.items c.args.term c.args.whole
    c.step.ensures.grows c.requires.ready c.keep_both.ensures.terms is)
    c.keep_both.ensures.kept

pub returns-in_ok-push-in-Some-2-clause-stay : goal.returns-in_ok-push-in-Some-2-clause-stay
returns-in_ok-push-in-Some-2-clause-stay c =
    stepped c.args.rules.now c.args.forms.now c.step.new.shared c.step.ensures.grows c.step.ensures.have c.requires.sound

pub returns-in_ok-push-in-Some-2-clause-advances : goal.returns-in_ok-push-in-Some-2-clause-advances
returns-in_ok-push-in-Some-2-clause-advances c =
    next_turn c.args.rules.now c.args.forms.now _ c.args.tasks.now.items c.push-in-Some.new.self.items c.args.term c.args.whole
    c.in-Some.next c.step.ensures.grows refl c.requires.ready c.requires.whole
    (step_taken c.args.rules.now (keys_in c.step.new.shared) c.args.whole c.in-Some.next c.in_ok-step.field-0 c.in-Some.is
    c.in_ok-step.ensures.step)
    (c.in_ok-push-in-Some-2.ensures.items ∙ ap (λ ts. ts ++ Form c.in-Some.next ∷ []) c.in_ok-push-in-Some.ensures.items)
