use Rattle.std.proofs.Common.{◌≡◌, ◌++◌, drop, map}
use Rattle.lotos_base.specs.Substitution.{substituted}
use Rattle.term_match.specs.ProfiledInstance.{profiled_instance}
use Rattle.behaviour_tree.specs.BehaviourTerms.{profiles_of}
use Rattle.behaviour_tree.specs.BehaviourView.{terms_of}
use Rattle.event_offers.specs.Renaming.{profiled_renaming_of, renaming_of}
use Rattle.event_offers.proofs.renaming.Renaming.terms.Given as goal

abbrev pub invariant-loop-term : goal.invariant-loop-term
invariant-loop-term l =
    (terms_of l.made.items ++ map (substituted (renaming_of l.self)) (terms_of (drop l.term-index l.term-items))
    ≡ map (substituted (renaming_of l.self)) (terms_of l.term-items))
    × (profiles_of l.made.items ++ map (profiled_instance (profiled_renaming_of l.self)) (profiles_of (drop l.term-index l.term-items))
    ≡ map (profiled_instance (profiled_renaming_of l.self)) (profiles_of l.term-items))
