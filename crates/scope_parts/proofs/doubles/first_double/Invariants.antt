use Rattle.std.proofs.Common.{◌≡◌, drop}
use Rattle.std.specs.List.{filter_map}
use Rattle.scope_parts.specs.BindingsView.{bindings_in}
use Rattle.scope_parts.specs.Scope.{double_from, first_double}
use Rattle.scope_parts.proofs.doubles.first_double.Given as goal

abbrev pub invariant-loop-member : goal.invariant-loop-member
invariant-loop-member g l =
    double_from (bindings_in l.before) (filter_map g.T.Declares.declared (drop l.member-index l.member-items))
    ≡ first_double (filter_map g.T.Declares.declared l.member-items)
