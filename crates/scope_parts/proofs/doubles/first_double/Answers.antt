use Rattle.std.proofs.Common.{ap, ◌∙◌}
use Rattle.std.specs.Prelude.{option_map}
use Rattle.std.specs.List.{filter_map}
use Rattle.lotos_base.specs.WrittenView.{placed_name_of}
use Rattle.scope_parts.specs.BindingsView.{bindings_in}
use Rattle.scope_parts.specs.Scope.{first_double}
use Rattle.scope_parts.proofs.DoubleLemmas.{double_next}
use Rattle.scope_parts.proofs.doubles.first_double.Goals as goal

pub loop-member-preserved : goal.loop-member-preserved
loop-member-preserved g c =
    (double_next g.T.Declares.declared c.deref-member-items.result.now c.loop-member.member-index c.member-item.result
    (bindings_in c.loop-member.before) (bindings_in c.enter.new.before) (option_map placed_name_of c.in_ok-found.field-0)
    (first_double (filter_map g.T.Declares.declared c.deref-member-items.result.now))
    c.loop-member-test.true c.member-item.is c.in_ok-found.ensures c.loop-member.invariant).0
    (ap (option_map placed_name_of) c.in_default.is)

pub returns-in-Some : goal.returns-in-Some
returns-in-Some g c =
    (double_next g.T.Declares.declared c.deref-member-items.result.now c.loop-member.member-index c.member-item.result
    (bindings_in c.loop-member.before) (bindings_in c.enter.new.before) (option_map placed_name_of c.in_ok-found.field-0)
    (first_double (filter_map g.T.Declares.declared c.deref-member-items.result.now))
    c.loop-member-test.true c.member-item.is c.in_ok-found.ensures c.loop-member.invariant).1
    (placed_name_of c.in-Some.found) (ap (option_map placed_name_of) c.in-Some.is)
    ∙ ap (λ xs. first_double (filter_map g.T.Declares.declared xs)) c.deref-member-items.ensures.value
