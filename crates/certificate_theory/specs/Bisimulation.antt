-- Strong bisimulations between behaviours of two specifications over the same data, by the transitions of the standard (ISO
-- 8807, dynamic semantics of behaviour expressions; Milner, "Communication and Concurrency", on strong bisimulation and
-- bisimulation up to).
use Rattle.lotos_base.specs.Equation.{Data}
use Rattle.behaviour_semantics.specs.Behaviour.{Behaviour, Specification}
use Rattle.behaviour_semantics.specs.Label.{Label}
use Rattle.behaviour_semantics.specs.Transition.{Transition}
use Rattle.behaviour_semantics.specs.WellFormed.{IsClosedBehaviour}
use Rattle.certificate_theory.specs.Agreement.{AgreeingLabels}
use Rattle.certificate_theory.specs.SameSorts.{AreAlikeInSorts}

-- The relation with its two sides changed.
abbrev pub turned_round : (Behaviour → Behaviour → Type 0) → Behaviour → Behaviour → Type 0
turned_round Related b c = Related c b

-- The behaviour `c` of the other specification answers a transition of the one: it has a transition whose label agrees, to a
-- target that is related to the target of the one.
pub record AnsweringMove (data_ : Data) (one other : Specification) (Targets : Behaviour → Behaviour → Type 0) (label : Label)
    (target c : Behaviour) : Type 0 where
  pub answer : Label
  pub reached : Behaviour
  pub moves : Transition data_ other.processes c answer reached
  pub agree : AgreeingLabels data_ one other label answer
  pub related : Targets target reached

-- Each transition of the first member of a pair is answered by the second one, with targets that a second relation relates.
abbrev pub IsSimulatedIn : Data → Specification → Specification → (Members Targets : Behaviour → Behaviour → Type 0) → Type 0
IsSimulatedIn data_ one other Members Targets =
    (b c : Behaviour) →
    Members b c →
    (label : Label) (target : Behaviour) →
    Transition data_ one.processes b label target →
    AnsweringMove data_ one other Targets label target c

-- A relation of closed behaviours of the left specification with closed behaviours of the right one, such that each transition of
-- either member of a pair is answered by the other member, with targets that a second relation relates.
pub record IsBisimulationInto (data_ : Data) (left right : Specification) (Members Targets : Behaviour → Behaviour → Type 0)
    : Type 0 where
  pub left_closed : (b c : Behaviour) → Members b c → IsClosedBehaviour data_.signature left b
  pub right_closed : (b c : Behaviour) → Members b c → IsClosedBehaviour data_.signature right c
  pub forth : IsSimulatedIn data_ left right Members Targets
  pub back : IsSimulatedIn data_ right left (turned_round Members) (turned_round Targets)

-- A strong bisimulation: the targets are related again.
abbrev pub IsStrongBisimulation : Data → Specification → Specification → (Behaviour → Behaviour → Type 0) → Type 0
IsStrongBisimulation data_ left right Members = IsBisimulationInto data_ left right Members Members

-- The two behaviours are alike the members of a pair, side by side.
pub record AreAlikeAPair (data_ : Data) (Members : Behaviour → Behaviour → Type 0) (b c : Behaviour) : Type 0 where
  pub member : Behaviour
  pub other_member : Behaviour
  pub members : Members member other_member
  pub alike : AreAlikeInSorts data_ member b
  pub other_alike : AreAlikeInSorts data_ other_member c

-- A strong bisimulation up to 'alike': the targets are alike a pair.
abbrev pub IsBisimulationUpToAlike : Data → Specification → Specification → (Behaviour → Behaviour → Type 0) → Type 0
IsBisimulationUpToAlike data_ left right Members = IsBisimulationInto data_ left right Members (AreAlikeAPair data_ Members)

-- A chain of closed behaviours of a specification, each alike the next one. Where a sort has no values, the first and the last
-- of them need not be alike.
pub data AreAlikeAlong (data_ : Data) (specification : Specification) : Behaviour → Behaviour → Type 0 where
  chain_ends : {b : Behaviour} → AreAlikeAlong data_ specification b b
  chain_goes_on :
      {b c d : Behaviour} →
      IsClosedBehaviour data_.signature specification b →
      IsClosedBehaviour data_.signature specification c →
      AreAlikeInSorts data_ b c →
      AreAlikeAlong data_ specification c d →
      AreAlikeAlong data_ specification b d

-- The two behaviours are joined to the members of a pair by such chains, side by side.
pub record AreJoinedToAPair (data_ : Data) (left right : Specification) (Members : Behaviour → Behaviour → Type 0) (b c : Behaviour)
    : Type 0 where
  pub member : Behaviour
  pub other_member : Behaviour
  pub members : Members member other_member
  pub chain : AreAlikeAlong data_ left member b
  pub other_chain : AreAlikeAlong data_ right other_member c
