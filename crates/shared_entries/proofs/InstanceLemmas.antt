-- Instances of the entries of an exact menu.
use Rattle.std.proofs.Common.{◌≡◌, ◌⊎◌, inl, inr, ◌<◌, ℕ, zero, suc, List, [], ◌∷◌, map, slice_get, refl, ap, sym, ◌∙◌, subst, arith}
use Rattle.std.proofs.lemmas.Option.{same_Some}
use Rattle.lotos_base.specs.Term.{Term}
use Rattle.lotos_base.specs.Equation.{Data}
use Rattle.behaviour_semantics.specs.Behaviour.{Behaviour, Process, Test}
use Rattle.behaviour_semantics.specs.Label.{Label}
use Rattle.behaviour_semantics.specs.Replacement.{test_with}
use Rattle.behaviour_semantics.specs.Rule.{AllHold, AreValues}
use Rattle.behaviour_semantics.specs.Shape.{Shape, Before}
use Rattle.behaviour_semantics.specs.Derives.{leaves_in}
use Rattle.behaviour_semantics.specs.Transition.{Transition}
use Rattle.behaviour_semantics.specs.TransitionLaws.{TransitionsAreDerived}
use Rattle.behaviour_semantics.specs.OrderLaws.{BeforeIsAStrictOrder}
use Rattle.behaviour_semantics.specs.Solving.{Entry}
use Rattle.behaviour_semantics.specs.Menu.{EqualTerms, EqualLabels, Meets, label_at, derivation_at, IsEntry, HasEntry, Rise, Exact}
use Rattle.behaviour_semantics.proofs.ReplacementLemmas.{label_stays, terms_stay}
use Rattle.shared_entries.specs.Instances.{HasTransition, HasInstance, IsPlain, InstancesAreTransitions, PlainEntriesAreOneTransition, EmptyMenusMeanNoTransition}

-- ---- Transitions

instance_there : TransitionsAreDerived → (data_ : Data) (canon : Term → Term) (processes : List Process) (b : Behaviour)
    (entries : List Entry) → Exact data_ canon processes b entries → (entry : Entry) (values : List Term) → IsEntry entries entry
    → Meets data_ entry values → HasTransition data_ processes b (label_at entry values)
instance_there derived data_ canon processes b entries exact entry values listed meets =
    let found = exact.sound entry listed values meets in
    record {
      label = found.0;
      target = found.1;
      transition = (derived data_ processes b found.0 found.1).1 (derivation_at entry values, found.2);
      equal = found.3;
    }

transition_there : TransitionsAreDerived → (data_ : Data) (canon : Term → Term) (processes : List Process) (b : Behaviour)
    (entries : List Entry) → Exact data_ canon processes b entries → (label : Label) (target : Behaviour)
    → Transition data_ processes b label target → HasInstance data_ processes b entries label
transition_there derived data_ canon processes b entries exact label target is =
    let d = (derived data_ processes b label target).0 is in
    let found : HasEntry data_ entries d.0 label = exact.complete d.0 label target d.1 in
    record { entry = found.entry; listed = found.listed; values = found.values; meets = found.meets; equal = found.labels }

pub instances_are_transitions : TransitionsAreDerived → InstancesAreTransitions
instances_are_transitions derived = record { sound = instance_there derived; complete = transition_there derived }

none_listed : (entry : Entry) → IsEntry [] entry → ⊥
none_listed entry listed = cc listed.1

pub empty_menus_mean_no_transition : TransitionsAreDerived → EmptyMenusMeanNoTransition
empty_menus_mean_no_transition derived data_ canon processes b exact label target is =
    let found = transition_there derived data_ canon processes b [] exact label target is in none_listed found.entry found.listed

-- ---- Plain entries

no_values : (data_ : Data) (entry : Entry) (values : List Term) → entry.variables ≡ [] → Meets data_ entry values → values ≡ []
no_values data_ entry values none meets = by values (subst (λ (sorts : List ℕ). AreValues data_.signature sorts values) none meets.sorted)
  where
    by : (values : List Term) → AreValues data_.signature [] values → values ≡ []
    by [] are = refl
    by (v ∷ vs) are = absurd are

plain_meets : (data_ : Data) (entry : Entry) → IsPlain entry → Meets data_ entry []
plain_meets data_ entry plain = record {
  sorted = subst (λ (sorts : List ℕ). AreValues data_.signature sorts []) (sym plain.no_variables) tt;
  met = subst (λ (tests : List Test). AllHold data_ (map (test_with (leaves_in [])) tests)) (sym plain.no_conditions) tt;
}

-- entries of one shape are one
same_entry : BeforeIsAStrictOrder → (entries : List Entry) → Rise entries → (one other : Entry) → IsEntry entries one
    → IsEntry entries other → one.shape ≡ other.shape → one ≡ other
same_entry order entries rise one other listed also same = by (which listed.0 also.0)
  where
    which : (i j : ℕ) → (i ≡ j) ⊎ ((i < j) ⊎ (j < i))
    which zero zero = inl refl
    which zero (suc j) = inr (inl (omega arith))
    which (suc i) zero = inr (inr (omega arith))
    which (suc i) (suc j) = more (which i j)
      where
        more : (i ≡ j) ⊎ ((i < j) ⊎ (j < i)) → (suc i ≡ suc j) ⊎ ((suc i < suc j) ⊎ (suc j < suc i))
        more (inl e) = inl (ap suc e)
        more (inr (inl less)) = inr (inl (omega (arith, less)))
        more (inr (inr less)) = inr (inr (omega (arith, less)))

    by : (listed.0 ≡ also.0) ⊎ ((listed.0 < also.0) ⊎ (also.0 < listed.0)) → one ≡ other
    by (inl e) = same_Some one other (sym listed.1 ∙ ap (slice_get entries) e ∙ also.1)
    by (inr (inl less)) =
        absurd (order.irreflexive other.shape
        (subst (λ (s : Shape). Before s other.shape) same (rise listed.0 also.0 one other less listed.1 also.1)))
    by (inr (inr less)) =
        absurd (order.irreflexive other.shape
        (subst (λ (s : Shape). Before other.shape s) same (rise also.0 listed.0 other one less also.1 listed.1)))

pub plain_entries_are_one_transition : TransitionsAreDerived → BeforeIsAStrictOrder → PlainEntriesAreOneTransition
plain_entries_are_one_transition derived order data_ canon processes b entries exact entry listed plain = record {
  meets = plain_meets data_ entry plain;
  alone = λ values meets. no_values data_ entry values plain.no_variables meets;
  there =
      subst (HasTransition data_ processes b) (label_stays entry.label)
      (instance_there derived data_ canon processes b entries exact entry [] listed (plain_meets data_ entry plain));
  only = λ d label target derives shape.
      let found : HasEntry data_ entries d label = exact.complete d label target derives in
      let same : found.entry ≡ entry = same_entry order entries exact.rising found.entry entry found.listed listed (found.shape ∙ shape) in
      let none : found.values ≡ [] = no_values data_ entry found.values plain.no_variables
      (subst (λ (e : Entry). Meets data_ e found.values) same found.meets) in (
        subst (λ (l : Label). EqualLabels data_ l label) (label_stays entry.label)
            (subst (λ (values : List Term). EqualLabels data_ (label_at entry values) label) none
            (subst (λ (e : Entry). EqualLabels data_ (label_at e found.values) label) same found.labels)),
        subst (λ (leaves : List Term). EqualTerms data_ leaves d.leaves) (terms_stay entry.leaves)
            (subst (λ (values : List Term). EqualTerms data_ (derivation_at entry values).leaves d.leaves) none
            (subst (λ (e : Entry). EqualTerms data_ (derivation_at e found.values).leaves d.leaves) same found.leaves)),
      );
}
