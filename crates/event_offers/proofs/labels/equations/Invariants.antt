use Rattle.std.proofs.Common.{◌≡◌, ◌++◌, drop}
use Rattle.std.specs.Prelude.{zip}
use Rattle.behaviour_semantics.specs.Rule.{pairwise}
use Rattle.behaviour_tree.specs.BehaviourTerms.{profiles_of}
use Rattle.behaviour_tree.specs.BehaviourView.{terms_of}
use Rattle.event_offers.specs.OfferView.{condition_profiles, conditions_of}
use Rattle.event_offers.proofs.labels.equations.Given as goal

abbrev pub invariant-loop-i : goal.invariant-loop-i
invariant-loop-i l =
    (conditions_of l.made.items ++ pairwise (terms_of (drop l.i l.lefts)) (terms_of (drop l.i l.rights))
    ≡ pairwise (terms_of l.lefts) (terms_of l.rights))
    × (condition_profiles l.made.items ++ zip (profiles_of (drop l.i l.lefts)) (profiles_of (drop l.i l.rights))
    ≡ zip (profiles_of l.lefts) (profiles_of l.rights))
