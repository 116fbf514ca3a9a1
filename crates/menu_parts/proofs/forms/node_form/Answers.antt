use Rattle.std.proofs.Common.{◌∙◌, ◌++◌, List, map, ap, sym, subst, arith, append_assoc}
use Rattle.std.proofs.lemmas.Result.{IfOk-weaker}
use Rattle.std.proofs.lemmas.List.{nil_from_length}
use Rattle.lotos_base.specs.Substitution.{binding, without}
use Rattle.behaviour_semantics.specs.Behaviour.{Behaviour, parallel, hide, enable, disable, call, relabel, numbers_of}
use Rattle.behaviour_semantics.specs.Replacement.{with_values}
use Rattle.sort_terms.specs.ProfiledTerm.{ProfiledTerm}
use Rattle.behaviour_tree.specs.BehaviourTerms.{profiles_in, profiles_of}
use Rattle.behaviour_tree.specs.BehaviourView.{behaviour_of, meet_of, terms_of, variables_of}
use Rattle.behaviour_tree.specs.Closed.{IsClosedNode}
use Rattle.behaviour_tree.specs.StateView.{environment_of, node_profiles, pair_profile, stands_for}
use Rattle.behaviour_tree.specs.declared.behaviours.Beh.{Beh}
use Rattle.behaviour_tree.specs.declared.states.Node.{Node}
use Rattle.step_taker.proofs.HandedOn.{first_terms, no_values}
use Rattle.step_taker.specs.Taken.{ground_of}
use Rattle.step_taker.proofs.SplitLemmas.{passable_as}
use Rattle.menu_parts.specs.Forms.{IsForm}
use Rattle.menu_parts.proofs.FormLemmas.{own_part, whole_of_part}
use Rattle.menu_parts.proofs.forms.node_form.Goals as goal

pub behaviour_form-requires-clause-part : goal.behaviour_form-requires-clause-part
behaviour_form-requires-clause-part g c =
    own_part (ground_of (g.D.Deciding.known_data c.args.decider.now) (g.D.Deciding.canon c.args.decider.now) c.args.walk.now.spec.now)
    c.in-Part.environment.items c.in-Part.behaviour.value c.deref.result.now c.args.node.now
    (nil_from_length c.in-Part.environment.items (omega (arith, c.if-len-eq0.true, c.len.ensures, c.in-Part.environment.ok.0)))
    c.deref.ensures (ap stands_for c.in-Part.is) (ap node_profiles c.in-Part.is) c.requires.node.passable

pub returns-then-len-eq0-clause-form : goal.returns-then-len-eq0-clause-form
returns-then-len-eq0-clause-form g c =
    let basis = ground_of (g.D.Deciding.known_data c.args.decider.now) (g.D.Deciding.canon c.args.decider.now) c.args.walk.now.spec.now in
    IfOk-weaker c.behaviour_form.result _ _ (λ form e. subst (λ (b : Behaviour). IsForm basis b form)
    (whole_of_part c.in-Part.environment.items c.in-Part.behaviour.value c.deref.result.now c.args.node.now
    (nil_from_length c.in-Part.environment.items (omega (arith, c.if-len-eq0.true, c.len.ensures, c.in-Part.environment.ok.0)))
    c.deref.ensures (ap stands_for c.in-Part.is)) e) c.behaviour_form.ensures.form

pub call_form-requires-clause-part : goal.call_form-requires-clause-part
call_form-requires-clause-part g c =
    passable_as (ground_of (g.D.Deciding.known_data c.args.decider.now) (g.D.Deciding.canon c.args.decider.now) c.args.walk.now.spec.now)
    (stands_for c.args.node.now) (call c.in-Call.process c.in-Call.gates.items (terms_of c.in-Call.values.items))
    (node_profiles c.args.node.now) (profiles_of c.in-Call.values.items) (ap stands_for c.in-Call.is) (ap node_profiles c.in-Call.is)
    c.requires.node.passable

pub returns-in-Call-clause-form : goal.returns-in-Call-clause-form
returns-in-Call-clause-form g c =
    let basis = ground_of (g.D.Deciding.known_data c.args.decider.now) (g.D.Deciding.canon c.args.decider.now) c.args.walk.now.spec.now in
    IfOk-weaker c.call_form.result _ _ (λ form e. subst (λ (b : Behaviour). IsForm basis b form) (sym (ap stands_for c.in-Call.is)) e)
    c.call_form.ensures.form

pub returns-in-Parallel-clause-form : goal.returns-in-Parallel-clause-form
returns-in-Parallel-clause-form g c =
    let basis = ground_of (g.D.Deciding.known_data c.args.decider.now) (g.D.Deciding.canon c.args.decider.now) c.args.walk.now.spec.now in
    IfOk-weaker c.parallel_form.result _ _ (λ form e. subst (λ (b : Behaviour). IsForm basis b form) (sym (ap stands_for c.in-Parallel.is))
    (e basis c.requires.base (passable_as basis (stands_for c.args.node.now)
    (parallel (meet_of c.in-Parallel.meet) (stands_for c.in-Parallel.left.value) (stands_for c.in-Parallel.right.value))
    (node_profiles c.args.node.now) (node_profiles c.in-Parallel.left.value ++ node_profiles c.in-Parallel.right.value)
    (ap stands_for c.in-Parallel.is) (ap node_profiles c.in-Parallel.is) c.requires.node.passable)
    (subst (λ (node : Node). IsClosedNode node) c.in-Parallel.is c.requires.node.states).0
    (subst (λ (node : Node). IsClosedNode node) c.in-Parallel.is c.requires.node.states).1)) c.parallel_form.ensures

pub returns-in-Hide-clause-form : goal.returns-in-Hide-clause-form
returns-in-Hide-clause-form g c =
    let basis = ground_of (g.D.Deciding.known_data c.args.decider.now) (g.D.Deciding.canon c.args.decider.now) c.args.walk.now.spec.now in
    IfOk-weaker c.hide_form.result _ _ (λ form e. subst (λ (b : Behaviour). IsForm basis b form) (sym (ap stands_for c.in-Hide.is))
    (e basis c.requires.base (passable_as basis (stands_for c.args.node.now)
    (hide c.in-Hide.gates.items (stands_for c.in-Hide.part.value)) (node_profiles c.args.node.now) (node_profiles c.in-Hide.part.value)
    (ap stands_for c.in-Hide.is) (ap node_profiles c.in-Hide.is) c.requires.node.passable)
    (subst (λ (node : Node). IsClosedNode node) c.in-Hide.is c.requires.node.states))) c.hide_form.ensures

pub returns-in-Enable-clause-form : goal.returns-in-Enable-clause-form
returns-in-Enable-clause-form g c =
    let basis = ground_of (g.D.Deciding.known_data c.args.decider.now) (g.D.Deciding.canon c.args.decider.now) c.args.walk.now.spec.now in
    IfOk-weaker c.enable_form.result _ _ (λ form e. subst (λ (b : Behaviour). IsForm basis b form) (sym (ap stands_for c.in-Enable.is))
    (e basis (with_values (without (numbers_of (variables_of c.in-Enable.variables.items))
    (binding (environment_of c.in-Enable.field-3.items))) (behaviour_of c.in-Enable.field-2.value))
    (profiles_in c.in-Enable.field-2.value ++ map pair_profile c.in-Enable.field-3.items) c.requires.base
    (passable_as basis (stands_for c.args.node.now) (enable (stands_for c.in-Enable.left.value)
    (variables_of c.in-Enable.variables.items) (with_values
    (without (numbers_of (variables_of c.in-Enable.variables.items)) (binding (environment_of c.in-Enable.field-3.items)))
    (behaviour_of c.in-Enable.field-2.value))) (node_profiles c.args.node.now)
    (node_profiles c.in-Enable.left.value ++ (profiles_in c.in-Enable.field-2.value ++ map pair_profile c.in-Enable.field-3.items))
    (ap stands_for c.in-Enable.is) (ap node_profiles c.in-Enable.is
    ∙ append_assoc (node_profiles c.in-Enable.left.value) (profiles_in c.in-Enable.field-2.value)
    (map pair_profile c.in-Enable.field-3.items)) c.requires.node.passable)
    (subst (λ (node : Node). IsClosedNode node) c.in-Enable.is c.requires.node.states).0)) c.enable_form.ensures

pub returns-in-Disable-clause-form : goal.returns-in-Disable-clause-form
returns-in-Disable-clause-form g c =
    let basis = ground_of (g.D.Deciding.known_data c.args.decider.now) (g.D.Deciding.canon c.args.decider.now) c.args.walk.now.spec.now in
    IfOk-weaker c.disable_form.result _ _ (λ form e. subst (λ (b : Behaviour). IsForm basis b form) (sym (ap stands_for c.in-Disable.is))
    (e basis c.requires.base (passable_as basis (stands_for c.args.node.now)
    (disable (stands_for c.in-Disable.left.value) (stands_for c.in-Disable.right.value)) (node_profiles c.args.node.now)
    (node_profiles c.in-Disable.left.value ++ node_profiles c.in-Disable.right.value)
    (ap stands_for c.in-Disable.is) (ap node_profiles c.in-Disable.is) c.requires.node.passable)
    (subst (λ (node : Node). IsClosedNode node) c.in-Disable.is c.requires.node.states).0
    (subst (λ (node : Node). IsClosedNode node) c.in-Disable.is c.requires.node.states).1)) c.disable_form.ensures

pub returns-in-Relabel-clause-form : goal.returns-in-Relabel-clause-form
returns-in-Relabel-clause-form g c =
    let basis = ground_of (g.D.Deciding.known_data c.args.decider.now) (g.D.Deciding.canon c.args.decider.now) c.args.walk.now.spec.now in
    IfOk-weaker c.relabel_form.result _ _ (λ form e. subst (λ (b : Behaviour). IsForm basis b form) (sym (ap stands_for c.in-Relabel.is))
    (e basis c.requires.base (passable_as basis (stands_for c.args.node.now)
    (relabel c.in-Relabel.pairs.items (stands_for c.in-Relabel.part.value)) (node_profiles c.args.node.now)
    (node_profiles c.in-Relabel.part.value)
    (ap stands_for c.in-Relabel.is) (ap node_profiles c.in-Relabel.is) c.requires.node.passable)
    (subst (λ (node : Node). IsClosedNode node) c.in-Relabel.is c.requires.node.states).1)) c.relabel_form.ensures
