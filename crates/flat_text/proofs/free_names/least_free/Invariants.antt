use Rattle.std.proofs.Common.{◌≡◌, ◌<◌, ◌≤◌, ℕ, true}
use Rattle.scope_parts.specs.BindingsView.{bindings_in}
use Rattle.scope_parts.specs.Scope.{is_bound}
use Rattle.flat_text.specs.FreeNames.{with_number}
use Rattle.flat_text.proofs.free_names.least_free.Given as goal

-- the numbers so far give names that are taken
abbrev pub invariant-loop-number : goal.invariant-loop-number
invariant-loop-number l =
    (k : ℕ) → l.from ≤ k → k < l.number → is_bound (bindings_in l.taken) (with_number l.word k) ≡ true
