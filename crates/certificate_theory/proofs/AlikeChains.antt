-- Chains of alike behaviours: what is joined to pairs that are a bisimulation up to 'alike' is a bisimulation.
use Rattle.lotos_base.specs.Term.{Term}
use Rattle.lotos_base.specs.Equation.{Data}
use Rattle.behaviour_semantics.specs.Behaviour.{Behaviour, Specification}
use Rattle.behaviour_semantics.specs.Label.{Label}
use Rattle.behaviour_semantics.specs.Shape.{Derivation}
use Rattle.behaviour_semantics.specs.Derives.{Derives}
use Rattle.behaviour_semantics.specs.Transition.{Transition}
use Rattle.behaviour_semantics.specs.Menu.{EqualLabels}
use Rattle.behaviour_semantics.specs.WellFormed.{IsClosedBehaviour, AreOver}
use Rattle.certificate_theory.specs.Bisimulation.{turned_round, AnsweringMove, IsSimulatedIn, IsStrongBisimulation, AreAlikeAPair, IsBisimulationUpToAlike, AreAlikeAlong, chain_ends, chain_goes_on, AreJoinedToAPair}
use Rattle.certificate_theory.specs.BisimulationLaws.{AlikeTransition}
use Rattle.certificate_theory.proofs.EqualValues.{labels_itself, labels_then, agree_with}
use Rattle.certificate_theory.proofs.MoveLaws.{MoveLaws}
use Rattle.certificate_theory.proofs.AlikeMoves.{alike_back, alike_transition}

-- The behaviour in the place of another one.
pub over_at : (data_ : Data) (canon : Term → Term) (specification : Specification) (b c : Behaviour)
    → AreOver data_ canon specification b → IsClosedBehaviour data_.signature specification c → AreOver data_ canon specification c
over_at data_ canon specification b c over closed =
    record { signature = over.signature; is_canon = over.is_canon; well_formed = over.well_formed; closed = closed }

-- The target of a transition of a closed behaviour is closed.
pub target_closed : MoveLaws → (data_ : Data) (canon : Term → Term) (specification : Specification) (b : Behaviour)
    → AreOver data_ canon specification b → (label : Label) (target : Behaviour)
    → Transition data_ specification.processes b label target → IsClosedBehaviour data_.signature specification target
target_closed laws data_ canon specification b over label target transition =
    let derived : (d : Derivation) × Derives data_ specification.processes b d label target =
    (laws.derived data_ specification.processes b label target).0 transition in
    (laws.targets.derived data_ canon specification b over derived.0 label target derived.1).1

module _ (data_ : Data) (specification : Specification) where
  chain_then : {b c d : Behaviour} → AreAlikeAlong data_ specification b c → AreAlikeAlong data_ specification c d
      → AreAlikeAlong data_ specification b d
  chain_then chain_ends more = more
  chain_then (chain_goes_on f g alike rest) more = chain_goes_on f g alike (chain_then rest more)

  pub chain_back : {b c : Behaviour} → AreAlikeAlong data_ specification b c → AreAlikeAlong data_ specification c b
  chain_back chain_ends = chain_ends
  chain_back (chain_goes_on {b = b} {c = c} f g alike rest) =
      chain_then (chain_back rest) (chain_goes_on g f (alike_back data_ specification b c f g alike) chain_ends)

  pub chain_closed : {b c : Behaviour} → IsClosedBehaviour data_.signature specification b → AreAlikeAlong data_ specification b c
      → IsClosedBehaviour data_.signature specification c
  chain_closed closed chain_ends = closed
  chain_closed closed (chain_goes_on f g alike rest) = chain_closed g rest

  -- A transition to what a chain joins to the target.
  record AlongMove (c : Behaviour) (label : Label) (target : Behaviour) : Type 0 where
    answer : Label
    reached : Behaviour
    moves : Transition data_ specification.processes c answer reached
    labels : EqualLabels data_ label answer
    chain : AreAlikeAlong data_ specification target reached

  along : MoveLaws → (canon : Term → Term) → {b c : Behaviour} → AreOver data_ canon specification b
      → AreAlikeAlong data_ specification b c → (label : Label) (target : Behaviour)
      → Transition data_ specification.processes b label target → AlongMove c label target
  along laws canon over chain_ends label target moves =
      record { answer = label; reached = target; moves = moves; labels = labels_itself data_ label; chain = chain_ends }
  along laws canon over (chain_goes_on {b = b} {c = c} f g alike rest) label target moves =
      let a : AlikeTransition data_ specification.processes c label target =
      alike_transition laws data_ canon specification b c over g alike label target moves in
      let over_c : AreOver data_ canon specification c = over_at data_ canon specification b c over g in
      let more = along laws canon over_c rest a.answer a.reached a.moves in
      record {
        answer = more.answer;
        reached = more.reached;
        moves = more.moves;
        labels = labels_then data_ label a.answer more.answer a.labels more.labels;
        chain = chain_goes_on (target_closed laws data_ canon specification b over label target moves)
            (target_closed laws data_ canon specification c over_c a.answer a.reached a.moves) a.targets more.chain;
      }

-- ---- One direction.

-- An answer whose targets are related in a wider relation.
pub answer_in : (data_ : Data) (one other : Specification) (Targets Others : Behaviour → Behaviour → Type 0)
    → ((b c : Behaviour) → Targets b c → Others b c) → (label : Label) (target c : Behaviour)
    → AnsweringMove data_ one other Targets label target c → AnsweringMove data_ one other Others label target c
answer_in data_ one other Targets Others wider label target c answer = record {
  answer = answer.answer;
  reached = answer.reached;
  moves = answer.moves;
  agree = answer.agree;
  related = wider target answer.reached answer.related;
}

module _ (laws : MoveLaws) (data_ : Data) (canon : Term → Term) (one other : Specification)
    (Members : Behaviour → Behaviour → Type 0)
    (over_one : (b c : Behaviour) → Members b c → AreOver data_ canon one b)
    (over_other : (b c : Behaviour) → Members b c → AreOver data_ canon other c)
    (simulated : IsSimulatedIn data_ one other Members (AreAlikeAPair data_ Members)) where
  pub joined_simulated : IsSimulatedIn data_ one other (AreJoinedToAPair data_ one other Members) (AreJoinedToAPair data_ one other Members)
  joined_simulated b c joined label target moves =
      let over_member : AreOver data_ canon one joined.member = over_one joined.member joined.other_member joined.members in
      let over_answer : AreOver data_ canon other joined.other_member = over_other joined.member joined.other_member joined.members in
      let over_b : AreOver data_ canon one b =
      over_at data_ canon one joined.member b over_member (chain_closed data_ one over_member.closed joined.chain) in
      let first = along data_ one laws canon over_b (chain_back data_ one joined.chain) label target moves in
      let pair : AnsweringMove data_ one other (AreAlikeAPair data_ Members) first.answer first.reached joined.other_member =
      simulated joined.member joined.other_member joined.members first.answer first.reached first.moves in
      let last = along data_ other laws canon over_answer joined.other_chain pair.answer pair.reached pair.moves in
      let m : AreAlikeAPair data_ Members first.reached pair.reached = pair.related in
      let first_closed : IsClosedBehaviour data_.signature one first.reached =
      target_closed laws data_ canon one joined.member over_member first.answer first.reached first.moves in
      let pair_closed : IsClosedBehaviour data_.signature other pair.reached =
      target_closed laws data_ canon other joined.other_member over_answer pair.answer pair.reached pair.moves in
      record {
        answer = last.answer;
        reached = last.reached;
        moves = last.moves;
        agree = agree_with data_ one other label first.answer pair.answer last.answer first.labels pair.agree last.labels;
        related = record {
          member = m.member;
          other_member = m.other_member;
          members = m.members;
          chain = chain_goes_on (over_one m.member m.other_member m.members).closed first_closed m.alike (chain_back data_ one first.chain);
          other_chain = chain_goes_on (over_other m.member m.other_member m.members).closed pair_closed m.other_alike last.chain;
        };
      }

-- ---- Both directions.

pub alike_pair_turned : (data_ : Data) (Members : Behaviour → Behaviour → Type 0) (b c : Behaviour)
    → AreAlikeAPair data_ (turned_round Members) b c → turned_round (AreAlikeAPair data_ Members) b c
alike_pair_turned data_ Members b c p = record {
  member = p.other_member;
  other_member = p.member;
  members = p.members;
  alike = p.other_alike;
  other_alike = p.alike;
}

alike_pair_back : (data_ : Data) (Members : Behaviour → Behaviour → Type 0) (b c : Behaviour)
    → turned_round (AreAlikeAPair data_ Members) b c → AreAlikeAPair data_ (turned_round Members) b c
alike_pair_back data_ Members b c p = record {
  member = p.other_member;
  other_member = p.member;
  members = p.members;
  alike = p.other_alike;
  other_alike = p.alike;
}

joined_turned : (data_ : Data) (left right : Specification) (Members : Behaviour → Behaviour → Type 0) (b c : Behaviour)
    → AreJoinedToAPair data_ right left (turned_round Members) b c → turned_round (AreJoinedToAPair data_ left right Members) b c
joined_turned data_ left right Members b c p = record {
  member = p.other_member;
  other_member = p.member;
  members = p.members;
  chain = p.other_chain;
  other_chain = p.chain;
}

joined_back : (data_ : Data) (left right : Specification) (Members : Behaviour → Behaviour → Type 0) (b c : Behaviour)
    → turned_round (AreJoinedToAPair data_ left right Members) b c → AreJoinedToAPair data_ right left (turned_round Members) b c
joined_back data_ left right Members b c p = record {
  member = p.other_member;
  other_member = p.member;
  members = p.members;
  chain = p.other_chain;
  other_chain = p.chain;
}

module _ (laws : MoveLaws) (data_ : Data) (canon : Term → Term) (left right : Specification)
    (left_start right_start : Behaviour) (over_left : AreOver data_ canon left left_start)
    (over_right : AreOver data_ canon right right_start) (Members : Behaviour → Behaviour → Type 0)
    (up_to : IsBisimulationUpToAlike data_ left right Members) where
  member_over : (b c : Behaviour) → Members b c → AreOver data_ canon left b
  member_over b c members = over_at data_ canon left left_start b over_left (up_to.left_closed b c members)

  other_over : (b c : Behaviour) → Members b c → AreOver data_ canon right c
  other_over b c members = over_at data_ canon right right_start c over_right (up_to.right_closed b c members)

  turned_simulated : IsSimulatedIn data_ right left (turned_round Members) (AreAlikeAPair data_ (turned_round Members))
  turned_simulated b c members label target moves =
      answer_in data_ right left (turned_round (AreAlikeAPair data_ Members)) (AreAlikeAPair data_ (turned_round Members))
      (alike_pair_back data_ Members) label target c (up_to.back b c members label target moves)

  pub joined_bisimulation : IsStrongBisimulation data_ left right (AreJoinedToAPair data_ left right Members)
  joined_bisimulation = record {
    left_closed = λ b c p. chain_closed data_ left (up_to.left_closed p.member p.other_member p.members) p.chain;
    right_closed = λ b c p. chain_closed data_ right (up_to.right_closed p.member p.other_member p.members) p.other_chain;
    forth = joined_simulated laws data_ canon left right Members member_over other_over up_to.forth;
    back = λ b c p label target moves.
        answer_in data_ right left (AreJoinedToAPair data_ right left (turned_round Members))
        (turned_round (AreJoinedToAPair data_ left right Members)) (joined_turned data_ left right Members) label target c
        (joined_simulated laws data_ canon right left (turned_round Members) (λ x y m. other_over y x m) (λ x y m. member_over y x m)
        turned_simulated b c (joined_back data_ left right Members b c p) label target moves);
  }
