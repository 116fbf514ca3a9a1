use Rattle.std.proofs.Common.{◌≡◌, drop}
use Rattle.lotos_base.specs.Signature.{Signature}
use Rattle.behaviour_tree.specs.BehaviourTerms.{profiles_of}
use Rattle.behaviour_tree.specs.BehaviourView.{terms_of}
use Rattle.behaviour_tree.specs.Over.{AreTermsOf}
use Rattle.session_histories.specs.Refusal.{sort_refusal}
use Rattle.session_log.proofs.entries.other_sort.Given as goal

abbrev pub invariant-loop-variable : goal.invariant-loop-variable
invariant-loop-variable l =
    (signature : Signature) → AreTermsOf signature (profiles_of l.values)
    → (sort_refusal signature l.variable (drop l.variable l.sorts.items) (terms_of (drop l.variable l.values))
    ≡ sort_refusal signature 0 l.sorts.items (terms_of l.values))
    × AreTermsOf signature (profiles_of (drop l.variable l.values))
