use Rattle.std.proofs.Common.{◌++◌, ◌∷◌, [], subst, sym}
use Rattle.std.proofs.lemmas.Result.{IfOk-weaker}
use Rattle.term_store.specs.declared.tasks.Task.{Task}
use Rattle.term_store.specs.declared.tasks.Task.TheVariants.{Form}
use Rattle.term_store.specs.Turns.{Advances, CanBeDone}
use Rattle.term_store.proofs.TurnLemmas.{last_ready, form_turn, handed_sound, handed_turn}
use Rattle.term_store.proofs.turns.turn.Goals as goal

pub begin-requires : goal.begin-requires
begin-requires c =
    last_ready c.args.rules.now c.args.forms.now c.args.tasks.now.items (Form c.in-Form.number)
    (subst (λ (t : Task). CanBeDone c.args.rules.now c.args.forms.now (c.args.tasks.now.items ++ t ∷ [])) c.in-Form.is c.requires.ready)

pub returns-in-Form-clause-advances : goal.returns-in-Form-clause-advances
returns-in-Form-clause-advances c =
    IfOk-weaker c.begin.result _ _
    (λ done is.
    subst (λ (t : Task). Advances c.args.rules.now c.args.forms.now (c.args.tasks.now.items ++ t ∷ []) c.args.forms.now
    c.begin.new.tasks.items) (sym c.in-Form.is)
    (form_turn c.args.rules.now c.args.forms.now c.args.tasks.now.items c.begin.new.tasks.items c.in-Form.number c.requires.sound
    (subst (λ (t : Task). CanBeDone c.args.rules.now c.args.forms.now (c.args.tasks.now.items ++ t ∷ [])) c.in-Form.is c.requires.ready)
    is))
    c.begin.ensures

pub returns-in-Keep-clause-stay : goal.returns-in-Keep-clause-stay
returns-in-Keep-clause-stay c =
    handed_sound c.args.rules.now c.args.forms.now c.keep_both.new.self c.args.tasks.now.items c.in-Keep.term c.in-Keep.whole
    c.in-Keep.next c.form_or_same.result c.requires.sound
    (subst (λ (t : Task). CanBeDone c.args.rules.now c.args.forms.now (c.args.tasks.now.items ++ t ∷ [])) c.in-Keep.is c.requires.ready)
    c.form_or_same.ensures c.keep_both.ensures.terms c.keep_both.ensures.at_most

pub returns-in-Keep-clause-advances : goal.returns-in-Keep-clause-advances
returns-in-Keep-clause-advances c =
    IfOk-weaker c.keep_both.result _ _
    (λ done is.
    subst (λ (t : Task). Advances c.args.rules.now c.args.forms.now (c.args.tasks.now.items ++ t ∷ []) c.keep_both.new.self
    c.args.tasks.now.items) (sym c.in-Keep.is)
    (handed_turn c.args.rules.now c.args.forms.now c.keep_both.new.self c.args.tasks.now.items c.in-Keep.term c.in-Keep.whole
    c.in-Keep.next c.keep_both.ensures.terms is
    (subst (λ (t : Task). CanBeDone c.args.rules.now c.args.forms.now (c.args.tasks.now.items ++ t ∷ [])) c.in-Keep.is
    c.requires.ready)))
    c.keep_both.ensures.kept
