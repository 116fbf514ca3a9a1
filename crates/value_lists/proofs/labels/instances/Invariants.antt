use Rattle.std.proofs.Common.{◌≡◌, ◌++◌, drop, map}
use Rattle.lotos_base.specs.Term.{Term}
use Rattle.lotos_base.specs.Substitution.{substituted}
use Rattle.behaviour_semantics.specs.Derives.{leaves_in}
use Rattle.behaviour_semantics.specs.WellFormed.{Every}
use Rattle.behaviour_tree.specs.BehaviourTerms.{profiles_of}
use Rattle.behaviour_tree.specs.BehaviourView.{terms_of}
use Rattle.event_offers.specs.Instances.{IsValued}
use Rattle.event_offers.specs.Keeping.{KeepsData}
use Rattle.value_lists.proofs.labels.instances.Given as goal

abbrev pub invariant-loop-term : goal.invariant-loop-term
invariant-loop-term g l =
    (terms_of l.made.items
    ++ map (λ (t : Term). g.D.Deciding.canon l.fn.decider (substituted (leaves_in (terms_of l.values)) t)) (terms_of (drop l.term-index
    l.term-items))
    ≡ map (λ (t : Term). g.D.Deciding.canon l.fn.decider (substituted (leaves_in (terms_of l.values)) t)) (terms_of l.term-items))
    × Every (IsValued (g.D.Deciding.known_data l.fn.decider).signature l.values) (profiles_of (drop l.term-index l.term-items))
    × KeepsData g.D.Deciding.known_data g.D.Deciding.canon l.fn.decider l.decider
