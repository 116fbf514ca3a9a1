use Rattle.std.proofs.Common.{sym, ◌∙◌}
use Rattle.lotos_base.specs.Name.{spelling}
use Rattle.scope_parts.specs.BindingsView.{bindings_in}
use Rattle.static_scope.specs.ProcessView.{process_heading}
use Rattle.static_scope.proofs.WalkLemmas.{name_doubled, name_new}
use Rattle.static_scope.proofs.walk.with_name.Goals as goal

pub returns-in_ok-name-in-Some-clause-new : goal.returns-in_ok-name-in-Some-clause-new
returns-in_ok-name-in-Some-clause-new c =
    name_doubled (bindings_in c.args.before) (process_heading c.args.text.now) (spelling c.in_ok-name-in-Some.name) c.in-Some.field-0
    (sym c.in_ok-found.ensures ∙ c.in-Some.is) c.in_ok-name-in-Some.ensures

pub returns-in_ok-bind-in-None-clause-new : goal.returns-in_ok-bind-in-None-clause-new
returns-in_ok-bind-in-None-clause-new c =
    name_new (bindings_in c.args.before) (process_heading c.args.text.now) (sym c.in_ok-found.ensures ∙ c.in-None.is)
