use Rattle.std.proofs.Common.{◌≡◌, vec_len, List, ap, sym, ◌∙◌, length, map}
use Rattle.behaviour_semantics.specs.Behaviour.{par_gate}
use Rattle.behaviour_tree.specs.BehaviourTerms.{profiles_in}
use Rattle.behaviour_tree.specs.BehaviourView.{behaviour_of, meet_of}
use Rattle.behaviour_tree.specs.declared.behaviours.Beh.{Beh}
use Rattle.scope_parts.specs.Choices.{under_par, with_signs}
use Rattle.scope_parts.specs.GatesView.{choice_in}
use Rattle.scope_parts.specs.declared.gate_choices.GateChoice.{GateChoice}
use Rattle.behaviour_scopes.specs.PlacesView.{places_in}
use Rattle.behaviour_scopes.proofs.NestedLemmas.{par_next, none_left, fewer}
use Rattle.behaviour_scopes.proofs.nested.under_par.Goals as goal

pub loop-choice-preserved : goal.loop-choice-preserved
loop-choice-preserved c =
    let many : length c.pop-in-Some.new.self.items ≡ length c.pop.new.self.items =
    fewer c.loop-choice.choices.items c.pop.new.self.items c.in-Some.choice c.loop-choice.meets.items c.pop-in-Some.new.self.items
    c.in-Some-pop.meet c.in-Some.ensures.items c.in-Some-pop.ensures.items c.loop-choice.invariant.counted in
    record {
      counted = many;
      nested =
          ap
          (λ (b : Beh). under_par (with_signs (map choice_in c.pop.new.self.items) (map meet_of c.pop-in-Some.new.self.items))
          (par_gate c.in-Some.choice.gate c.in-Some.choice.among.items (meet_of c.in-Some-pop.meet) (behaviour_of b)))
          c.in_ok-shared.ensures
          ∙ sym (par_next c.loop-choice.choices.items c.pop.new.self.items c.in-Some.choice c.loop-choice.meets.items
          c.pop-in-Some.new.self.items c.in-Some-pop.meet (behaviour_of c.loop-choice.made) c.in-Some.ensures.items
          c.in-Some-pop.ensures.items many)
          ∙ c.loop-choice.invariant.nested;
      profiles = ap profiles_in c.in_ok-shared.ensures ∙ c.loop-choice.invariant.profiles;
      places = ap places_in c.in_ok-shared.ensures ∙ c.loop-choice.invariant.places;
    }

pub returns-clause-nested : goal.returns-clause-nested
returns-clause-nested c =
    sym
    (ap (λ (xs : List GateChoice). under_par (with_signs (map choice_in xs) (map meet_of c.loop-choice.meets.items))
    (behaviour_of c.loop-choice.made))
    (none_left c.pop.result c.loop-choice.choices.items (vec_len c.loop-choice.choices) c.pop.ensures.variant
    c.loop-choice.choices.ok.0 c.in_default.not-Some))
    ∙ c.loop-choice.invariant.nested
