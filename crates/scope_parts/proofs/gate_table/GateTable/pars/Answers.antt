use Rattle.std.proofs.Common.{ℕ, length, map, ap, sym, ◌∙◌}
use Rattle.std.proofs.lemmas.List.{length-map}
use Rattle.lotos_base.specs.Name.{spelling}
use Rattle.behaviour_tree.specs.BehaviourView.{meet_of}
use Rattle.syntax_trees.specs.TreeViews.{gate_choices_of, sign_of}
use Rattle.scope_parts.specs.BindingsView.{bindings_in}
use Rattle.scope_parts.specs.GatesDeclared.{Gates, declared}
use Rattle.scope_parts.specs.GatesView.{gates_in, choice_in}
use Rattle.scope_parts.specs.Numbering.{choice_names}
use Rattle.scope_parts.specs.Scope.{bind_all}
use Rattle.scope_parts.proofs.AnswerLemmas.{err_is}
use Rattle.scope_parts.proofs.GateLemmas.{declared_visible, cut_back, same_gates, pars_value, pars_fault}
use Rattle.scope_parts.proofs.gate_table.GateTable.pars.Goals as goal

pub cut_to-requires : goal.cut_to-requires
cut_to-requires c =
    (cut_back (choice_names (gate_choices_of c.args.texts.now.items)) (length (gates_in c.args.self.now).names)
    (bindings_in c.args.self.now.visible) (bindings_in c.choices.new.self.visible) c.size-size.result
    (ap (λ (g : Gates). g.visible) c.in_ok-choices.ensures.declared
    ∙ declared_visible (choice_names (gate_choices_of c.args.texts.now.items)) (gates_in c.args.self.now))
    c.size-size.ensures).0

pub returns-in_err-meets-clause-read : goal.returns-in_err-meets-clause-read
returns-in_err-meets-clause-read c =
    let cut =
    (cut_back (choice_names (gate_choices_of c.args.texts.now.items)) (length (gates_in c.args.self.now).names)
    (bindings_in c.args.self.now.visible) (bindings_in c.choices.new.self.visible) c.size-size.result
    (ap (λ (g : Gates). g.visible) c.in_ok-choices.ensures.declared
    ∙ declared_visible (choice_names (gate_choices_of c.args.texts.now.items)) (gates_in c.args.self.now))
    c.size-size.ensures).1 in
    err_is _ c.from_residual-in_err-meets.result c.in_err-meets.field-0.0 _ c.from_residual-in_err-meets.ensures.1
    (pars_fault (bindings_in c.args.self.now.visible) (bindings_in c.cut_to.new.self) (length (gates_in c.args.self.now).names)
    c.len-first.result (sign_of c.args.sign.now) (gate_choices_of c.args.texts.now.items) (map choice_in c.in_ok-choices.choices.items)
    c.in_err-meets.field-0.0 (c.cut_to.ensures ∙ cut)
    (c.len-first.ensures ∙ c.args.self.now.names.ok.0 ∙ sym (length-map c.args.self.now.names.items spelling))
    c.in_ok-choices.ensures.read c.in_err-meets.ensures.read)

pub returns-clause-read : goal.returns-clause-read
returns-clause-read c =
    let cut =
    (cut_back (choice_names (gate_choices_of c.args.texts.now.items)) (length (gates_in c.args.self.now).names)
    (bindings_in c.args.self.now.visible) (bindings_in c.choices.new.self.visible) c.size-size.result
    (ap (λ (g : Gates). g.visible) c.in_ok-choices.ensures.declared
    ∙ declared_visible (choice_names (gate_choices_of c.args.texts.now.items)) (gates_in c.args.self.now))
    c.size-size.ensures).1 in
    pars_value (bindings_in c.args.self.now.visible) (bindings_in c.cut_to.new.self) (length (gates_in c.args.self.now).names)
    c.len-first.result (sign_of c.args.sign.now) (gate_choices_of c.args.texts.now.items) (map choice_in c.in_ok-choices.choices.items)
    (map meet_of c.in_ok-meets.meets.items) (c.cut_to.ensures ∙ cut)
    (c.len-first.ensures ∙ c.args.self.now.names.ok.0 ∙ sym (length-map c.args.self.now.names.items spelling))
    c.in_ok-choices.ensures.read c.in_ok-meets.ensures.read

pub returns-clause-declared : goal.returns-clause-declared
returns-clause-declared c =
    let cut =
    (cut_back (choice_names (gate_choices_of c.args.texts.now.items)) (length (gates_in c.args.self.now).names)
    (bindings_in c.args.self.now.visible) (bindings_in c.choices.new.self.visible) c.size-size.result
    (ap (λ (g : Gates). g.visible) c.in_ok-choices.ensures.declared
    ∙ declared_visible (choice_names (gate_choices_of c.args.texts.now.items)) (gates_in c.args.self.now))
    c.size-size.ensures).1 in
    same_gates _ (declared (choice_names (gate_choices_of c.args.texts.now.items)) (gates_in c.args.self.now))
    (ap (λ (g : Gates). g.names) c.in_ok-choices.ensures.declared)
    (c.in_ok-meets.ensures.bound
    ∙ ap (λ bs. bind_all (choice_names (gate_choices_of c.args.texts.now.items)) c.len-first.result bs) (c.cut_to.ensures ∙ cut)
    ∙ ap (λ (n : ℕ). bind_all (choice_names (gate_choices_of c.args.texts.now.items)) n (bindings_in c.args.self.now.visible))
    (c.len-first.ensures ∙ c.args.self.now.names.ok.0 ∙ sym (length-map c.args.self.now.names.items spelling))
    ∙ sym (declared_visible (choice_names (gate_choices_of c.args.texts.now.items)) (gates_in c.args.self.now)))
