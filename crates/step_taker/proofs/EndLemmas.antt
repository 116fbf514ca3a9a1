-- Labels of ends, and their values.
use Rattle.std.proofs.Common.{◌≡◌, ℕ, List, true, false, refl}
use Rattle.lotos_base.specs.Signature.{Signature}
use Rattle.behaviour_semantics.specs.Behaviour.{Specification}
use Rattle.behaviour_semantics.specs.Fault.{ends_with}
use Rattle.behaviour_semantics.specs.Label.{exit_event, gate_event, inner_event, Label}
use Rattle.behaviour_semantics.specs.Rule.{have_sorts, is_exit, label_values}
use Rattle.behaviour_semantics.specs.WellFormed.{Every, IsClosedLabel}
use Rattle.behaviour_semantics.proofs.ClosedTargets.{IsValue}

pub never_ends : (signature : Signature) (sorts : List ℕ) (label : Label) → is_exit label ≡ false → ends_with signature sorts label ≡
    false
never_ends signature sorts inner_event e = refl
never_ends signature sorts (gate_event g values) e = refl
never_ends signature sorts (exit_event values) e = absurd (cc e)

pub ends_as : (signature : Signature) (sorts : List ℕ) (label : Label) → is_exit label ≡ true
    → ends_with signature sorts label ≡ have_sorts signature (label_values label) sorts
ends_as signature sorts inner_event e = absurd (cc e)
ends_as signature sorts (gate_event g values) e = absurd (cc e)
ends_as signature sorts (exit_event values) e = refl

pub ends_with_values : (label : Label) → is_exit label ≡ true → label ≡ exit_event (label_values label)
ends_with_values inner_event e = absurd (cc e)
ends_with_values (gate_event g values) e = absurd (cc e)
ends_with_values (exit_event values) e = refl

-- the values of a closed label are ground terms of some sorts
pub closed_values : (signature : Signature) (specification : Specification) (label : Label) → IsClosedLabel signature specification label
    → Every (IsValue signature) (label_values label)
closed_values signature specification inner_event h = tt
closed_values signature specification (gate_event g values) h = h.1
closed_values signature specification (exit_event values) h = h
