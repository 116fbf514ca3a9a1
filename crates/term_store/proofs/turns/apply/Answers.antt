use Rattle.std.proofs.Common.{sym, ◌∙◌}
use Rattle.std.proofs.lemmas.Result.{IfOk-weaker}
use Rattle.term_store.specs.declared.tasks.Task.TheVariants.{Apply}
use Rattle.term_store.proofs.TurnLemmas.{last_ready, whole_stays, whole_number, whole_ready, stay_on, advances_by_whole, form_sound, form_turn_of_whole}
use Rattle.term_store.proofs.turns.apply.Goals as goal

pub whole-requires : goal.whole-requires
whole-requires c =
    (last_ready c.args.rules.now c.args.forms.now c.args.tasks.now.items (Apply c.args.number) c.requires.ready).0

pub returns-in_err-whole-clause-stay : goal.returns-in_err-whole-clause-stay
returns-in_err-whole-clause-stay c =
    whole_stays c.args.rules.now c.args.forms.now c.whole.new.forms c.args.tasks.now.items c.args.number c.requires.sound c.requires.ready
    c.whole.ensures.kept c.whole.ensures.more

pub rewrite-requires-clause-sound : goal.rewrite-requires-clause-sound
rewrite-requires-clause-sound c =
    (whole_stays c.args.rules.now c.args.forms.now c.whole.new.forms c.args.tasks.now.items c.args.number c.requires.sound
    c.requires.ready c.whole.ensures.kept c.whole.ensures.more).sound

pub rewrite-requires-clause-ready : goal.rewrite-requires-clause-ready
rewrite-requires-clause-ready c =
    whole_ready c.args.rules.now c.args.forms.now c.whole.new.forms c.args.tasks.now.items c.args.number c.requires.sound
    c.requires.ready c.whole.ensures.kept c.whole.ensures.more

pub rewrite-requires-clause-whole : goal.rewrite-requires-clause-whole
rewrite-requires-clause-whole c =
    whole_number c.args.rules.now c.args.forms.now c.whole.new.forms c.args.tasks.now.items c.args.number c.in_ok-whole.whole
    c.requires.sound c.requires.ready c.whole.ensures.kept c.whole.ensures.more c.in_ok-whole.ensures.stands

pub returns-in-Some-clause-stay : goal.returns-in-Some-clause-stay
returns-in-Some-clause-stay c =
    form_sound c.args.rules.now c.args.forms.now c.whole.new.forms c.keep.new.self c.args.tasks.now.items c.args.number
    c.in_ok-whole.whole c.in-Some.form c.requires.sound c.requires.ready c.whole.ensures.kept c.whole.ensures.more
    c.in_ok-whole.ensures.stands (sym c.form.ensures ∙ c.in-Some.is) c.keep.ensures.terms c.keep.ensures.at_most

pub returns-in-Some-clause-advances : goal.returns-in-Some-clause-advances
returns-in-Some-clause-advances c =
    IfOk-weaker c.keep.result _ _
    (λ done is.
    form_turn_of_whole c.args.rules.now c.args.forms.now c.whole.new.forms c.keep.new.self c.args.tasks.now.items c.args.number
    c.requires.sound c.requires.ready c.whole.ensures.kept c.whole.ensures.more c.keep.ensures.terms is)
    c.keep.ensures.kept

pub returns-in-None-clause-stay : goal.returns-in-None-clause-stay
returns-in-None-clause-stay c =
    stay_on c.args.rules.now c.args.forms.now c.whole.new.forms c.rewrite.new.forms
    (whole_stays c.args.rules.now c.args.forms.now c.whole.new.forms c.args.tasks.now.items c.args.number c.requires.sound
    c.requires.ready c.whole.ensures.kept c.whole.ensures.more)
    c.rewrite.ensures.stay

pub returns-in-None-clause-advances : goal.returns-in-None-clause-advances
returns-in-None-clause-advances c =
    IfOk-weaker c.rewrite.result _ _
    (λ done is.
    advances_by_whole c.args.rules.now c.args.forms.now c.whole.new.forms c.rewrite.new.forms c.args.tasks.now.items
    c.rewrite.new.tasks.items c.args.number c.requires.sound c.requires.ready c.whole.ensures.kept c.whole.ensures.more is)
    c.rewrite.ensures.advances
