-- The exact menu of a small behaviour over data with two constants.
use Rattle.std.proofs.Common.{◌≡◌, ℕ, List, [], ◌∷◌, slice_get, Some, refl, ap, arith}
use Rattle.lotos_base.specs.Signature.{Sort, Operation, IsSort, IsWellFormedSignature}
use Rattle.lotos_base.specs.Term.{Term}
use Rattle.lotos_base.proofs.CanonLemmas.{identity_canon}
use Rattle.lotos_base.proofs.ExampleHelpers.{one_named}
use Rattle.lotos_base.proofs.Each.{each_member}
use Rattle.behaviour_semantics.specs.Behaviour.{Behaviour, stop}
use Rattle.behaviour_semantics.specs.Derives.{Derives}
use Rattle.behaviour_semantics.specs.Label.{gate_event}
use Rattle.behaviour_semantics.specs.Move.{Move}
use Rattle.behaviour_semantics.specs.Rule.{as_given, label_values}
use Rattle.behaviour_semantics.specs.Shape.{act, left_side, right_side}
use Rattle.behaviour_semantics.specs.Solving.{settled}
use Rattle.behaviour_semantics.specs.Menu.{Exact}
use Rattle.behaviour_semantics.specs.WellFormed.{AreOver}
use Rattle.behaviour_semantics.specs.Listing.{none_left, entry_then}
use Rattle.behaviour_semantics.proofs.OptionLemmas.{some_value}
use Rattle.behaviour_semantics.proofs.ListedMenus.{exact_list}
use Rattle.worked_cases.specs.MenuCases.{two_constants, first_constant, second_constant, three_actions, with_three_actions, three_entries}
use Rattle.worked_cases.proofs.TermTests.{values_in}
use Rattle.worked_cases.proofs.WellFormedTests.{closed_behaviour, well_formed_specification}

sort_in : IsSort two_constants.signature 0
sort_in = omega arith

no_argument_in : (i s : ℕ) → slice_get [] i ≡ Some s → IsSort two_constants.signature s
no_argument_in i s e = cc

is_well_formed : IsWellFormedSignature two_constants.signature
is_well_formed = record {
  results = λ f o e. each_member (λ (o : Operation). IsSort two_constants.signature o.result) two_constants.signature.operations f o
      (sort_in, (sort_in, tt)) e;
  arguments = λ f i s o e d. each_member (λ (o : Operation). (i s : ℕ) → slice_get o.arguments i ≡ Some s
      → IsSort two_constants.signature s) two_constants.signature.operations f o (no_argument_in, (no_argument_in, tt)) e i s d;
  sort_names = λ i j s t e d a. one_named (λ (s : Sort). s.name) two_constants.signature.sorts i j s t refl e d a;
  profiles = λ f g o p e d name form arguments result. one_named (λ (o : Operation). o.name) two_constants.signature.operations f g o p
      refl e d name;
}

pub are_over : AreOver two_constants as_given with_three_actions three_actions
are_over = record {
  signature = is_well_formed;
  is_canon = identity_canon two_constants refl;
  well_formed = well_formed_specification two_constants.signature with_three_actions refl;
  closed = closed_behaviour two_constants.signature with_three_actions three_actions refl;
}

pub exact_three : Exact two_constants as_given [] three_actions three_entries
exact_three = exact_list two_constants as_given with_three_actions three_actions 4 _ three_entries are_over refl
    (entry_then (settled _ refl refl) (entry_then (settled _ refl refl) (entry_then (settled _ refl refl) none_left)))

pub with_second : Derives two_constants [] three_actions (record { shape = right_side (left_side act); leaves = second_constant ∷ [] })
    (gate_event 0 (second_constant ∷ [])) stop
with_second = record {
  asked = [];
  sorts = 0 ∷ [];
  move = refl;
  leaves = values_in two_constants.signature (0 ∷ []) (second_constant ∷ []) refl;
  holds = tt;
}

-- The first shape has the label `g !c` whatever the leaves are.
pub not_by_first : (leaves : List Term) (target : Behaviour)
    → Derives two_constants [] three_actions (record { shape = left_side act; leaves = leaves }) (gate_event 0 (second_constant ∷ []))
    target → ⊥
not_by_first leaves target d =
    let same : first_constant ∷ [] ≡ second_constant ∷ [] = ap (λ (m : Move). label_values m.label) (some_value d.move) in
    absurd (cc same)
