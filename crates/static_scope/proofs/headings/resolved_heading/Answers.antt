use Rattle.std.proofs.Common.{◌++◌, length, map, ap, ◌∙◌}
use Rattle.behaviour_scopes.specs.ResolverState.{State}
use Rattle.behaviour_scopes.specs.ResolverView.{state_in}
use Rattle.behaviour_tree.specs.DefinitionView.{functionality_of}
use Rattle.static_scope.specs.HeadingView.{heading_in, written_heading}
use Rattle.sort_terms.specs.EquationView.{variable_of}
use Rattle.scope_parts.specs.GatesDeclared.{Gates}
use Rattle.scope_parts.specs.GatesView.{gates_in}
use Rattle.scope_parts.specs.Numbering.{spelled_names}
use Rattle.scope_parts.specs.Scope.{bind_all}
use Rattle.scope_parts.proofs.AnswerLemmas.{err_is, means_map}
use Rattle.scope_parts.proofs.FormedBehaviours.{declared_of}
use Rattle.scope_parts.proofs.GateLemmas.{declared_names, declared_visible}
use Rattle.static_scope.proofs.HeadingLemmas.{heading_value, gates_fault, parameters_fault, functionality_fault}
use Rattle.static_scope.proofs.PointLemmas.{forgotten, inside_is}
use Rattle.static_scope.proofs.headings.resolved_heading.Goals as goal

pub see-requires : goal.see-requires
see-requires c =
    (declared_of (state_in c.forget_variables.new.self).signature (state_in c.forget_variables.new.self).variable
    (written_heading c.args.text).parameters (map variable_of c.in_ok-parameters.parameters.items) c.in_ok-parameters.ensures).sorted

pub returns-in_err-gates-clause-read : goal.returns-in_err-gates-clause-read
returns-in_err-gates-clause-read c =
    let same =
    forgotten (state_in c.args.resolver.now) (state_in c.forget_gates.new.self) (state_in c.forget_variables.new.self)
    c.forget_gates.ensures c.forget_variables.ensures in
    err_is heading_in c.from_residual.result c.in_err-gates.field-0.0 _ c.from_residual.ensures.1
    (means_map c.in_err-gates.field-0.0 _ _
    (λ f is. gates_fault (state_in c.args.resolver.now) (state_in c.forget_variables.new.self) (written_heading c.args.text) f same is)
    c.in_err-gates.ensures.read)

pub returns-in_err-parameters-clause-read : goal.returns-in_err-parameters-clause-read
returns-in_err-parameters-clause-read c =
    let same =
    forgotten (state_in c.args.resolver.now) (state_in c.forget_gates.new.self) (state_in c.forget_variables.new.self)
    c.forget_gates.ensures c.forget_variables.ensures in
    err_is heading_in c.from_residual-in_err-parameters.result c.in_err-parameters.field-0.0 _
    c.from_residual-in_err-parameters.ensures.1
    (means_map c.in_err-parameters.field-0.0 _ _
    (λ f is. parameters_fault (state_in c.args.resolver.now) (state_in c.forget_variables.new.self) (written_heading c.args.text)
    c.in_ok-gates.gates.items f same c.in_ok-gates.ensures.read is)
    c.in_err-parameters.ensures)

pub returns-in_err-exit-clause-read : goal.returns-in_err-exit-clause-read
returns-in_err-exit-clause-read c =
    let same =
    forgotten (state_in c.args.resolver.now) (state_in c.forget_gates.new.self) (state_in c.forget_variables.new.self)
    c.forget_gates.ensures c.forget_variables.ensures in
    err_is heading_in c.from_residual-in_err-exit.result c.in_err-exit.field-0.0 _ c.from_residual-in_err-exit.ensures.1
    (means_map c.in_err-exit.field-0.0 _ _
    (λ f is. functionality_fault (state_in c.args.resolver.now) (state_in c.forget_variables.new.self) (written_heading c.args.text)
    c.in_ok-gates.gates.items (map variable_of c.in_ok-parameters.parameters.items) f same c.in_ok-gates.ensures.read
    c.in_ok-parameters.ensures is)
    c.in_err-exit.ensures)

pub returns-clause-read : goal.returns-clause-read
returns-clause-read c =
    let same =
    forgotten (state_in c.args.resolver.now) (state_in c.forget_gates.new.self) (state_in c.forget_variables.new.self)
    c.forget_gates.ensures c.forget_variables.ensures in
    heading_value (state_in c.args.resolver.now) (state_in c.forget_variables.new.self) (written_heading c.args.text)
    c.in_ok-gates.gates.items (map variable_of c.in_ok-parameters.parameters.items) (functionality_of c.in_ok-exit.exit) same
    c.in_ok-gates.ensures.read c.in_ok-parameters.ensures c.in_ok-exit.ensures

pub returns-clause-seen : goal.returns-clause-seen
returns-clause-seen c =
    let same =
    forgotten (state_in c.args.resolver.now) (state_in c.forget_gates.new.self) (state_in c.forget_variables.new.self)
    c.forget_gates.ensures c.forget_variables.ensures in
    let names = spelled_names (written_heading c.args.text).gates in
    c.in_ok-see.ensures
    ∙ inside_is (state_in c.args.resolver.now) (state_in c.forget_variables.new.self) (written_heading c.args.text)
    (record {
      gates = c.in_ok-gates.gates.items;
      parameters = map variable_of c.in_ok-parameters.parameters.items;
      exit = functionality_of c.in_ok-exit.exit;
    })
    (gates_in c.formal_gates.new.table) same
    (ap (λ (g : Gates). g.visible) c.in_ok-gates.ensures.declared
    ∙ declared_visible names (gates_in c.forget_variables.new.self.gates)
    ∙ ap (λ (s : State). bind_all names (length s.names) s.scope.gates) same)
    (ap (λ (g : Gates). g.names) c.in_ok-gates.ensures.declared
    ∙ declared_names names (gates_in c.forget_variables.new.self.gates)
    ∙ ap (λ (s : State). s.names ++ names) same)
    (declared_of (state_in c.forget_variables.new.self).signature (state_in c.forget_variables.new.self).variable
    (written_heading c.args.text).parameters (map variable_of c.in_ok-parameters.parameters.items) c.in_ok-parameters.ensures).counted
