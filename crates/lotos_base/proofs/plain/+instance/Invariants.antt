use Rattle.std.proofs.Common.{◌≡◌, take}
use Rattle.lotos_base.specs.PlainView.{arguments_of, pairs_of_values}
use Rattle.lotos_base.specs.Substitution.{all_substituted, binding}
use Rattle.lotos_base.proofs.plain.+instance.Given as goal

abbrev pub invariant-instances-loop-term : goal.invariant-instances-loop-term
invariant-instances-loop-term l = arguments_of l.made.items
    ≡ all_substituted (binding (pairs_of_values l.values)) (arguments_of (take l.term-index l.term-items))
