-- When labels of two specifications over the same data agree. Each specification numbers its gates itself, so gates are
-- compared by their names.
use Rattle.std.specs.Prelude.{◌≡◌, ℕ, List, Some, slice_get}
use Rattle.lotos_base.specs.Names.{AreOneName}
use Rattle.lotos_base.specs.Equation.{Data}
use Rattle.behaviour_semantics.specs.Behaviour.{Specification}
use Rattle.behaviour_semantics.specs.Label.{Label, inner_event, gate_event, exit_event}
use Rattle.behaviour_semantics.specs.Menu.{EqualTerms}

-- Gate `g` of the one specification and gate `h` of the other one have one name.
pub record AreOneGate (one other : Specification) (g h : ℕ) : Type 0 where
  pub name : List ℕ
  pub other_name : List ℕ
  pub named : slice_get one.gate_names g ≡ Some name
  pub other_named : slice_get other.gate_names h ≡ Some other_name
  pub same : AreOneName name other_name

-- A label of the one specification and a label of the other one agree: both are the inner event; or both are events at
-- gates of one name, with equal values one by one; or both are successful terminations with such values.
abbrev pub AgreeingLabels : Data → Specification → Specification → Label → Label → Type 0
AgreeingLabels data_ one other inner_event inner_event = Unit {0}
AgreeingLabels data_ one other (gate_event g us) (gate_event h vs) = AreOneGate one other g h × EqualTerms data_ us vs
AgreeingLabels data_ one other (exit_event us) (exit_event vs) = EqualTerms data_ us vs
AgreeingLabels data_ one other _ _ = ⊥

-- The same with values that are one by one identical as terms.
abbrev pub IdenticalLabels : Specification → Specification → Label → Label → Type 0
IdenticalLabels one other inner_event inner_event = Unit {0}
IdenticalLabels one other (gate_event g us) (gate_event h vs) = AreOneGate one other g h × (us ≡ vs)
IdenticalLabels one other (exit_event us) (exit_event vs) = us ≡ vs
IdenticalLabels one other _ _ = ⊥
