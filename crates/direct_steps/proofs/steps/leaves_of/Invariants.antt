use Rattle.sort_terms.specs.SignatureView.{signature_of}
use Rattle.behaviour_tree.specs.BehaviourTerms.{profiles_of}
use Rattle.behaviour_tree.specs.Over.{AreTermsOf}
use Rattle.direct_steps.proofs.steps.leaves_of.Given as goal

abbrev pub invariant-loop-term : goal.invariant-loop-term
invariant-loop-term l = AreTermsOf (signature_of l.signature) (profiles_of l.made.items)
