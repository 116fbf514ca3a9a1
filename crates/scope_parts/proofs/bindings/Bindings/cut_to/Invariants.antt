use Rattle.std.proofs.Common.{◌≡◌, ◌-◌, ◌≤◌, drop, length}
use Rattle.scope_parts.specs.BindingsView.{bindings_in}
use Rattle.scope_parts.proofs.bindings.Bindings.cut_to.Given as goal

abbrev pub invariant-loop-self : goal.invariant-loop-self
invariant-loop-self l = record {
  enough : l.size ≤ length (bindings_in l.self);
  within : length (bindings_in l.self) ≤ length (bindings_in l.initial.self);
  left : bindings_in l.self ≡ drop (length (bindings_in l.initial.self) - length (bindings_in l.self)) (bindings_in l.initial.self);
}

abbrev pub decreases-loop-self : goal.decreases-loop-self
decreases-loop-self l = length (bindings_in l.self)
