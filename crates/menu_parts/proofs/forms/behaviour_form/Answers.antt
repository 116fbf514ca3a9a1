use Rattle.std.proofs.Common.{◌∙◌, ◌++◌, List, map, ap, sym, subst}
use Rattle.std.proofs.lemmas.Result.{IfOk-weaker}
use Rattle.behaviour_semantics.specs.Behaviour.{Behaviour, parallel, hide, enable, disable, let_be, par_gate, call}
use Rattle.behaviour_tree.specs.BehaviourTerms.{let_profile, profiles_in, profiles_of}
use Rattle.behaviour_tree.specs.BehaviourView.{behaviour_of, let_of, meet_of, terms_of, variables_of}
use Rattle.behaviour_tree.specs.declared.behaviours.Beh.{Beh}
use Rattle.step_taker.specs.Taken.{ground_of}
use Rattle.step_taker.proofs.SplitLemmas.{passable_as}
use Rattle.menu_parts.specs.Forms.{IsForm}
use Rattle.menu_parts.proofs.forms.behaviour_form.Goals as goal

pub returns-in-Parallel-clause-form : goal.returns-in-Parallel-clause-form
returns-in-Parallel-clause-form g c =
    let basis = ground_of (g.D.Deciding.known_data c.args.decider.now) (g.D.Deciding.canon c.args.decider.now) c.args.walk.now.spec.now in
    IfOk-weaker c.parallel_form.result _ _ (λ form e. subst (λ (b : Behaviour). IsForm basis b form)
    (sym (ap behaviour_of c.in-Parallel.is))
    (e basis c.requires.base (passable_as basis (behaviour_of c.args.behaviour.now)
    (parallel (meet_of c.in-Parallel.meet) (behaviour_of c.in-Parallel.left.value) (behaviour_of c.in-Parallel.right.value))
    (profiles_in c.args.behaviour.now) (profiles_in c.in-Parallel.left.value ++ profiles_in c.in-Parallel.right.value)
    (ap behaviour_of c.in-Parallel.is) (ap profiles_in c.in-Parallel.is) c.requires.part) tt tt)) c.parallel_form.ensures

pub returns-in-Hide-clause-form : goal.returns-in-Hide-clause-form
returns-in-Hide-clause-form g c =
    let basis = ground_of (g.D.Deciding.known_data c.args.decider.now) (g.D.Deciding.canon c.args.decider.now) c.args.walk.now.spec.now in
    IfOk-weaker c.hide_form.result _ _ (λ form e. subst (λ (b : Behaviour). IsForm basis b form) (sym (ap behaviour_of c.in-Hide.is))
    (e basis c.requires.base (passable_as basis (behaviour_of c.args.behaviour.now)
    (hide c.in-Hide.gates.items (behaviour_of c.in-Hide.part.value)) (profiles_in c.args.behaviour.now)
    (profiles_in c.in-Hide.part.value)
    (ap behaviour_of c.in-Hide.is) (ap profiles_in c.in-Hide.is) c.requires.part) tt)) c.hide_form.ensures

pub returns-in-Enable-clause-form : goal.returns-in-Enable-clause-form
returns-in-Enable-clause-form g c =
    let basis = ground_of (g.D.Deciding.known_data c.args.decider.now) (g.D.Deciding.canon c.args.decider.now) c.args.walk.now.spec.now in
    IfOk-weaker c.enable_form.result _ _ (λ form e. subst (λ (b : Behaviour). IsForm basis b form) (sym (ap behaviour_of c.in-Enable.is))
    (e basis (behaviour_of c.in-Enable.field-3.value) (profiles_in c.in-Enable.field-3.value) c.requires.base
    (passable_as basis (behaviour_of c.args.behaviour.now)
    (enable (behaviour_of c.in-Enable.left.value) (variables_of c.in-Enable.variables.items) (behaviour_of c.in-Enable.field-3.value))
    (profiles_in c.args.behaviour.now) (profiles_in c.in-Enable.left.value ++ profiles_in c.in-Enable.field-3.value)
    (ap behaviour_of c.in-Enable.is) (ap profiles_in c.in-Enable.is) c.requires.part) tt)) c.enable_form.ensures

pub returns-in-Disable-clause-form : goal.returns-in-Disable-clause-form
returns-in-Disable-clause-form g c =
    let basis = ground_of (g.D.Deciding.known_data c.args.decider.now) (g.D.Deciding.canon c.args.decider.now) c.args.walk.now.spec.now in
    IfOk-weaker c.disable_form.result _ _ (λ form e. subst (λ (b : Behaviour). IsForm basis b form) (sym (ap behaviour_of c.in-Disable.is))
    (e basis c.requires.base (passable_as basis (behaviour_of c.args.behaviour.now)
    (disable (behaviour_of c.in-Disable.left.value) (behaviour_of c.in-Disable.right.value)) (profiles_in c.args.behaviour.now)
    (profiles_in c.in-Disable.left.value ++ profiles_in c.in-Disable.right.value)
    (ap behaviour_of c.in-Disable.is) (ap profiles_in c.in-Disable.is) c.requires.part) tt tt)) c.disable_form.ensures

pub returns-in-ParGate-clause-form : goal.returns-in-ParGate-clause-form
returns-in-ParGate-clause-form g c =
    let basis = ground_of (g.D.Deciding.known_data c.args.decider.now) (g.D.Deciding.canon c.args.decider.now) c.args.walk.now.spec.now in
    IfOk-weaker c.copies_form.result _ _ (λ form e. subst (λ (b : Behaviour). IsForm basis b form) (sym (ap behaviour_of c.in-ParGate.is))
    (e basis c.requires.base (passable_as basis (behaviour_of c.args.behaviour.now)
    (par_gate c.in-ParGate.gate c.in-ParGate.gates.items (meet_of c.in-ParGate.meet) (behaviour_of c.in-ParGate.part.value))
    (profiles_in c.args.behaviour.now) (profiles_in c.in-ParGate.part.value)
    (ap behaviour_of c.in-ParGate.is) (ap profiles_in c.in-ParGate.is) c.requires.part))) c.copies_form.ensures

pub let_form-requires-clause-part : goal.let_form-requires-clause-part
let_form-requires-clause-part g c =
    passable_as (ground_of (g.D.Deciding.known_data c.args.decider.now) (g.D.Deciding.canon c.args.decider.now) c.args.walk.now.spec.now)
    (behaviour_of c.args.behaviour.now) (let_be (map let_of c.in-Let.bindings.items) (behaviour_of c.deref.result.now))
    (profiles_in c.args.behaviour.now)
    (map let_profile c.in-Let.bindings.items ++ profiles_in c.deref.result.now)
    (ap behaviour_of c.in-Let.is ∙ ap (λ (b : Beh). let_be (map let_of c.in-Let.bindings.items) (behaviour_of b)) (sym c.deref.ensures))
    (ap profiles_in c.in-Let.is ∙ ap (λ (b : Beh). map let_profile c.in-Let.bindings.items ++ profiles_in b) (sym c.deref.ensures))
    c.requires.part

pub returns-in-Let-clause-form : goal.returns-in-Let-clause-form
returns-in-Let-clause-form g c =
    let basis = ground_of (g.D.Deciding.known_data c.args.decider.now) (g.D.Deciding.canon c.args.decider.now) c.args.walk.now.spec.now in
    IfOk-weaker c.let_form.result _ _ (λ form e. subst (λ (b : Behaviour). IsForm basis b form)
    (ap (λ (b : Beh). let_be (map let_of c.in-Let.bindings.items) (behaviour_of b)) c.deref.ensures ∙ sym (ap behaviour_of c.in-Let.is)) e)
    c.let_form.ensures.form

pub call_form-requires-clause-part : goal.call_form-requires-clause-part
call_form-requires-clause-part g c =
    passable_as (ground_of (g.D.Deciding.known_data c.args.decider.now) (g.D.Deciding.canon c.args.decider.now) c.args.walk.now.spec.now)
    (behaviour_of c.args.behaviour.now)
    (call c.in-Call.process c.in-Call.gates.items (terms_of c.in-Call.values.items)) (profiles_in c.args.behaviour.now)
    (profiles_of c.in-Call.values.items) (ap behaviour_of c.in-Call.is) (ap profiles_in c.in-Call.is) c.requires.part

pub returns-in-Call-clause-form : goal.returns-in-Call-clause-form
returns-in-Call-clause-form g c =
    let basis = ground_of (g.D.Deciding.known_data c.args.decider.now) (g.D.Deciding.canon c.args.decider.now) c.args.walk.now.spec.now in
    IfOk-weaker c.call_form.result _ _ (λ form e. subst (λ (b : Behaviour). IsForm basis b form) (sym (ap behaviour_of c.in-Call.is)) e)
    c.call_form.ensures.form
