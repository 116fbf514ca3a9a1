use Rattle.std.proofs.Common.{◌≡◌, drop, map}
use Rattle.lotos_base.specs.Substitution.{substituted}
use Rattle.behaviour_tree.specs.BehaviourView.{terms_of}
use Rattle.behaviour_tree.specs.Placings.{values_of}
use Rattle.behaviour_tree.specs.TermDigests.{list_digest}
use Rattle.behaviour_tree.proofs.term_digests.values_digest.Given as goal

abbrev pub invariant-loop-value : goal.invariant-loop-value
invariant-loop-value l =
    list_digest 0 (map (substituted (values_of l.here)) (terms_of l.value-items))
    ≡ list_digest l.digest (map (substituted (values_of l.here)) (terms_of (drop l.value-index l.value-items)))
