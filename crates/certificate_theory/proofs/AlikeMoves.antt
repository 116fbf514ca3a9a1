-- Alike behaviours with terms of one sort at the same places move alike, in any form of values, by derivations of one shape with
-- equal leaves.
use Rattle.std.proofs.Common.{◌≡◌, ◌≤◌, ℕ, List, [], Some, refl, subst, arith}
use Rattle.lotos_base.specs.Term.{Term, variable}
use Rattle.lotos_base.specs.Equation.{Data}
use Rattle.behaviour_semantics.specs.Behaviour.{Behaviour, Process, Specification}
use Rattle.behaviour_semantics.specs.Label.{Label}
use Rattle.behaviour_semantics.specs.Rule.{as_given, AreValues}
use Rattle.behaviour_semantics.specs.Shape.{Shape, Derivation}
use Rattle.behaviour_semantics.specs.Move.{Move, move_of}
use Rattle.behaviour_semantics.specs.Derives.{GivesMove, Derives, leaves_in}
use Rattle.behaviour_semantics.specs.Draft.{above, above_processes, first_apart}
use Rattle.behaviour_semantics.specs.Transition.{Transition}
use Rattle.behaviour_semantics.specs.Menu.{EqualLabels}
use Rattle.behaviour_semantics.specs.WellFormed.{IsClosedBehaviour, AreOver}
use Rattle.behaviour_semantics.specs.EqualLeavesLaws.{EqualDerivations}
use Rattle.behaviour_semantics.proofs.RelatedTerms.{Side, IsRepresenting, given_represents}
use Rattle.behaviour_semantics.proofs.RelatedBehaviours.{Beside}
use Rattle.behaviour_semantics.proofs.SameBehaviours.{low_nothing, same_beside, turned_beside}
use Rattle.behaviour_semantics.proofs.RelatedMoves.{Answer, setting_of, follows}
use Rattle.behaviour_semantics.proofs.InstanceLemmas.{plain, plain_grounded, bodies_of, asked_over}
use Rattle.behaviour_semantics.proofs.AlikeLemmas.{alike_behaviours}
use Rattle.behaviour_semantics.proofs.FollowingMoves.{hold_plain}
use Rattle.behaviour_semantics.proofs.EqualLeaves.{leaves_related, equal_labels, one_list}
use Rattle.certificate_theory.specs.SameSorts.{AreAlikeInSorts}
use Rattle.certificate_theory.specs.BisimulationLaws.{AlikeTransition}
use Rattle.certificate_theory.proofs.EqualValues.{terms_itself}
use Rattle.certificate_theory.proofs.AlikeBeside.{alike_beside, beside_sorted}
use Rattle.certificate_theory.proofs.MoveLaws.{MoveLaws}

-- ---- Alike behaviours, turned round.

module _ (data_ : Data) (base : ℕ) (processes : List Process) (represent other : Term → Term) where
  -- What stands beside one another on plain sides is alike, both ways.
  pub alike_beside_one_another : (leaves more : _) → {b c : Behaviour}
      → Beside data_ base processes (plain represent leaves) (plain other more) [] b c → AreAlikeInSorts data_ b c
  alike_beside_one_another leaves more beside = record {
    alike = alike_behaviours data_ base represent other leaves more beside;
    sorts = beside_sorted data_ base (plain represent leaves) (plain other more) beside;
  }

module _ (data_ : Data) (specification : Specification) where
  abbrev plain_side : Side
  plain_side = plain as_given variable

  plain_beside : (b c : Behaviour) → IsClosedBehaviour data_.signature specification b
      → IsClosedBehaviour data_.signature specification c → AreAlikeInSorts data_ b c
      → Beside data_ (above b) specification.processes plain_side plain_side [] b c
  plain_beside b c f g alike =
      let le : above b ≤ above b = omega arith in
      alike_beside data_ (above b) plain_side plain_side _ specification.processes [] b c (low_nothing data_ (above b)) le f g alike.alike
      alike.sorts

  pub alike_back : (b c : Behaviour) → IsClosedBehaviour data_.signature specification b
      → IsClosedBehaviour data_.signature specification c → AreAlikeInSorts data_ b c → AreAlikeInSorts data_ c b
  alike_back b c f g alike =
      alike_beside_one_another data_ (above b) specification.processes as_given as_given variable variable
      (turned_beside data_ (above b) (plain_beside b c f g alike))

  pub alike_itself : (b : Behaviour) → IsClosedBehaviour data_.signature specification b → AreAlikeInSorts data_ b b
  alike_itself b f =
      let le : above b ≤ above b = omega arith in
      alike_beside_one_another data_ (above b) specification.processes as_given as_given variable variable
      (same_beside data_ (above b) plain_side plain_side _ specification.processes [] b (low_nothing data_ (above b)) le f)

-- ---- Moves.

-- A move that the derivation gives, with an equal label and a target that is alike both ways.
pub record Moved (data_ : Data) (represent : Term → Term) (processes : List Process) (c : Behaviour) (d : Derivation) (label : Label)
    (target : Behaviour) : Type 0 where
  pub answer : Label
  pub reached : Behaviour
  pub gives : GivesMove data_ represent processes c d answer reached
  pub labels : EqualLabels data_ label answer
  pub there : AreAlikeInSorts data_ target reached
  pub back : AreAlikeInSorts data_ reached target

pub moved : (data_ : Data) (canon represent other : Term → Term) (specification : Specification) (b c : Behaviour)
    → AreOver data_ canon specification b → IsClosedBehaviour data_.signature specification c → AreAlikeInSorts data_ b c
    → IsRepresenting data_ represent → IsRepresenting data_ other
    → (d e : Derivation) (label : Label) (target : Behaviour) → EqualDerivations data_ d e
    → GivesMove data_ represent specification.processes b d label target → Moved data_ other specification.processes c e label target
moved data_ canon represent other specification b c over closed alike f g d e label target same moves =
    let base : ℕ = first_apart specification.processes b in
    let le_processes : above_processes specification.processes ≤ base = omega arith in
    let le_b : above b ≤ base = omega arith in
    let x : Side = plain represent (leaves_in d.leaves) in
    let y : Side = plain other (leaves_in e.leaves) in
    let m : Move = record { label = label; target = target; asked = moves.asked; sorts = moves.sorts } in
    let values : AreValues data_.signature moves.sorts e.leaves = subst (λ (sorts : List ℕ). AreValues data_.signature sorts e.leaves)
    (one_list data_.signature same.sorts moves.sorts d.leaves same.first moves.leaves) same.second in
    let beside : Beside data_ base specification.processes x y [] b c =
    alike_beside data_ base x y _ specification.processes [] b c (low_nothing data_ base) le_b over.closed closed alike.alike
    alike.sorts in
    let answer : Answer data_ base specification.processes x y (move_of
    (setting_of data_ base specification.processes y) y.leaves d.shape 0 c) m =
    follows data_ base specification.processes x y f g (bodies_of data_ base x y specification over.well_formed le_processes) d.shape 0
    b c beside m moves.move
    (leaves_related data_ base specification.processes represent other moves.sorts d.leaves e.leaves moves.leaves values same.equal) in
    record {
      answer = answer.0.label;
      reached = answer.0.target;
      gives = record {
        asked = answer.0.asked;
        sorts = answer.0.sorts;
        move = subst (λ (s : Shape). move_of (setting_of data_ base specification.processes y) y.leaves s 0 c ≡ Some answer.0)
            same.shape answer.1;
        leaves = subst (λ (ss : List ℕ). AreValues data_.signature ss e.leaves) answer.2.sorts values;
        holds = asked_over data_ base other (leaves_in e.leaves) x (plain_grounded data_ represent (leaves_in d.leaves)) answer.2.asked
            (hold_plain data_ moves.asked moves.holds);
      };
      labels = equal_labels data_ base specification.processes represent other (leaves_in d.leaves) (leaves_in e.leaves) answer.2.label;
      there = alike_beside_one_another data_ base specification.processes represent other (leaves_in d.leaves) (leaves_in e.leaves)
          answer.2.target;
      back = alike_beside_one_another data_ base specification.processes other represent (leaves_in e.leaves) (leaves_in d.leaves)
          (turned_beside data_ base answer.2.target);
    }

-- The derivation of a move is equal to itself.
pub equal_to_itself : (data_ : Data) (represent : Term → Term) (processes : List Process) (b : Behaviour) (d : Derivation)
    (label : Label) (target : Behaviour) → GivesMove data_ represent processes b d label target → EqualDerivations data_ d d
equal_to_itself data_ represent processes b d label target moves = record {
  shape = refl;
  sorts = moves.sorts;
  first = moves.leaves;
  second = moves.leaves;
  equal = terms_itself data_ d.leaves;
}

-- The transitions of one behaviour are those of the other one, up to equal values and alike targets.
pub alike_transition : MoveLaws → (data_ : Data) (canon : Term → Term) (specification : Specification) (b c : Behaviour)
    → AreOver data_ canon specification b → IsClosedBehaviour data_.signature specification c → AreAlikeInSorts data_ b c
    → (label : Label) (target : Behaviour) → Transition data_ specification.processes b label target
    → AlikeTransition data_ specification.processes c label target
alike_transition laws data_ canon specification b c over closed alike label target transition =
    let derived : (d : Derivation) × Derives data_ specification.processes b d label target =
    (laws.derived data_ specification.processes b label target).0 transition in
    let m : Moved data_ as_given specification.processes c derived.0 label target =
    moved data_ canon as_given as_given specification b c over closed alike (given_represents data_) (given_represents data_) derived.0
    derived.0 label target (equal_to_itself data_ as_given specification.processes b derived.0 label target derived.1) derived.1 in
    record {
      answer = m.answer;
      reached = m.reached;
      moves = (laws.derived data_ specification.processes c m.answer m.reached).1 (derived.0, m.gives);
      labels = m.labels;
      targets = m.there;
    }
