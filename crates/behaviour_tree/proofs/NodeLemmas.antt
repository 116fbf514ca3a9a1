-- Closed terms have nothing put into them, and no behaviour of a specification is relabelled.
use Rattle.std.proofs.Common.{◌≡◌, List, [], ◌∷◌, map, refl}
use Rattle.lotos_base.specs.Term.{Term}
use Rattle.lotos_base.specs.Substitution.{Substitution, substituted, binding}
use Rattle.lotos_base.proofs.SubstitutionLemmas.{substituted_variables}
use Rattle.behaviour_semantics.specs.Behaviour.{Behaviour, Relabelling, relabel}
use Rattle.behaviour_semantics.specs.Replacement.{with_values}
use Rattle.behaviour_tree.specs.BehaviourView.{behaviour_of}
use Rattle.behaviour_tree.specs.declared.behaviours.Beh.{Beh, Stop, Exit, Action', Inner', Guard', Choice', Parallel', Hide', Enable', Disable', Let', ChooseValue', ChooseGate', ParGate', Call}

pub nothing_put : (terms : List Term) → map (substituted (binding [])) terms ≡ terms
nothing_put [] = refl
nothing_put (t ∷ terms) =
    let first : substituted (binding []) t ≡ t = substituted_variables t in
    let rest = nothing_put terms in (λ i. first i ∷ rest i)

pub never_relabelled : (values : Substitution) (b : Beh) (pairs : Relabelling) (part : Behaviour)
    → with_values values (behaviour_of b) ≡ relabel pairs part → ⊥
never_relabelled values Stop pairs part e = absurd (cc e)
never_relabelled values (Exit results) pairs part e = absurd (cc e)
never_relabelled values (Action' gate offers test _ next) pairs part e = absurd (cc e)
never_relabelled values (Inner' _ next) pairs part e = absurd (cc e)
never_relabelled values (Guard' test _ next) pairs part e = absurd (cc e)
never_relabelled values (Choice' _ _ left _ right) pairs part e = absurd (cc e)
never_relabelled values (Parallel' _ meet _ left _ right) pairs part e = absurd (cc e)
never_relabelled values (Hide' gates _ next) pairs part e = absurd (cc e)
never_relabelled values (Enable' _ _ left variables _ right) pairs part e = absurd (cc e)
never_relabelled values (Disable' _ _ left _ right) pairs part e = absurd (cc e)
never_relabelled values (Let' bindings _ next) pairs part e = absurd (cc e)
never_relabelled values (ChooseValue' x _ next) pairs part e = absurd (cc e)
never_relabelled values (ChooseGate' gate gates _ next) pairs part e = absurd (cc e)
never_relabelled values (ParGate' gate gates meet _ next) pairs part e = absurd (cc e)
never_relabelled values (Call _ process gates arguments) pairs part e = absurd (cc e)
