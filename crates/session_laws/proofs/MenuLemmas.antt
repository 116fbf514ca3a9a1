-- The labels of a menu are read back.
use Rattle.std.proofs.Common.{◌≡◌, ℕ, ◌<◌, Bool, true, false, if◌then◌else◌, nat_eq, List, [], ◌∷◌, map, length, refl, sym, subst, eqb-true}
use Rattle.std.specs.Prelude.{Some, slice_get}
use Rattle.std.proofs.lemmas.Option.{none-some}
use Rattle.lotos_base.specs.Equality.{Equal}
use Rattle.lotos_base.specs.Equation.{Data}
use Rattle.lotos_base.specs.Sorting.{IsGround}
use Rattle.lotos_base.specs.Signature.{Signature}
use Rattle.lotos_base.specs.Substitution.{is_listed}
use Rattle.lotos_base.specs.Term.{Term}
use Rattle.lotos_base.proofs.EqualityLemmas.{equal_back}
use Rattle.lotos_base.proofs.SortLemmas.{equal_ground, equal_sort, well_formed_sides}
use Rattle.lotos_base.proofs.SubstitutionLemmas.{no_variable_ground}
use Rattle.behaviour_semantics.specs.Behaviour.{Behaviour, Specification, Test}
use Rattle.behaviour_semantics.specs.Label.{Label, inner_event, gate_event, exit_event}
use Rattle.behaviour_semantics.specs.Derives.{leaves_in}
use Rattle.behaviour_semantics.specs.DraftOrder.{IsDraftTerm}
use Rattle.behaviour_semantics.specs.DraftOrderLaws.{SolvingNamesNoBehaviour}
use Rattle.behaviour_semantics.specs.Menu.{EqualTerms, EqualLabels, IsEntry, Meets, label_at}
use Rattle.behaviour_semantics.specs.Replacement.{test_with}
use Rattle.behaviour_semantics.specs.Rule.{AllHold, AreValues, as_given, label_values}
use Rattle.behaviour_semantics.specs.Solving.{Entry}
use Rattle.behaviour_semantics.specs.SolvingLaws.{IsOpen, IsTermOver, IsSolved, EntriesAreSolved}
use Rattle.behaviour_semantics.specs.TargetLaws.{TargetsAreWellFormed}
use Rattle.behaviour_semantics.specs.Transition.{Transition}
use Rattle.behaviour_semantics.specs.TransitionLaws.{TransitionsAreDerived}
use Rattle.behaviour_semantics.specs.WellFormed.{Every, AreGates}
use Rattle.behaviour_semantics.proofs.DraftFineness.{fine_draft}
use Rattle.declaration_laws.specs.EntryGates.{EntriesStayAtGates}
use Rattle.declaration_laws.specs.VisibleGates.{IsOneOf, IsAt, MovesStayAtGates}
use Rattle.session_laws.specs.LabelLaws.{IsPlainLabel, LabelTextsAreReadBack}
use Rattle.session_laws.specs.MenuReadings.{IsShownMenu, HasPlainLabel, IsLabelReadBack, ArePrintedAlike, MenusAreReadBack}
use Rattle.session_laws.proofs.LabelStands.{IsValue}

-- ---- Labels without variables

-- a term over no variables has none
over_none : (variables : List ℕ) (t : Term) → variables ≡ [] → IsTermOver variables t → IsGround t
over_none variables t none over =
    no_variable_ground t (λ n s occurs. none-some s (subst (λ (sorts : List ℕ). slice_get sorts n ≡ Some s) none (over n s occurs)))

all_over_none : (variables : List ℕ) (terms : List Term) → variables ≡ [] → Every (IsTermOver variables) terms → Every IsGround terms
all_over_none variables [] none over = tt
all_over_none variables (t ∷ ts) none over = (over_none variables t none over.0, all_over_none variables ts none over.1)

no_conditions : (canon : Term → Term) (variables : List ℕ) (tests : List Test) → variables ≡ [] → Every (IsOpen canon) tests
    → Every (λ (test : Test). IsTermOver variables test.left) tests → Every (λ (test : Test). IsTermOver variables test.right) tests
    → tests ≡ []
no_conditions canon variables [] none is left right = refl
no_conditions canon variables (test ∷ tests) none is left right =
    absurd (is.0.not_closed (over_none variables test.left none left.0) (over_none variables test.right none right.0))

-- each of the gates is below what all of them are below
listed_below : (names : ℕ) (gates : List ℕ) (g : ℕ) → AreGates names gates → is_listed gates g ≡ true → g < names
listed_below names [] g below listed = absurd (cc listed)
listed_below names (h ∷ gates) g below listed = by (nat_eq h g) refl listed (λ later. listed_below names gates g below.1 later)
  where
    by : (same : Bool) → nat_eq h g ≡ same → (if same then true else is_listed gates g) ≡ true
        → (is_listed gates g ≡ true → g < names) → g < names
    by true same listed later = subst (λ (n : ℕ). n < names) (eqb-true h g same) below.0
    by false other listed later = later listed

-- terms of the signature without variables are values
are_values : (signature : Signature) (leaves terms : List Term) → Every (IsDraftTerm signature leaves) terms → Every IsGround terms
    → Every (IsValue signature) terms
are_values signature leaves [] are ground = tt
are_values signature leaves (t ∷ ts) are ground =
    ((are.0.0, record { ground = ground.0; sorted = are.0.1.sorted }), are_values signature leaves ts are.1 ground.1)

module _ (texts : LabelTextsAreReadBack) (derived : TransitionsAreDerived) (targets : TargetsAreWellFormed) (stay : MovesStayAtGates)
    (solved : EntriesAreSolved) (stay_too : EntriesStayAtGates) (solving : SolvingNamesNoBehaviour) (data_ : Data)
    (canon : Term → Term) (specification : Specification) (b : Behaviour) (entries : List Entry)
    (menu : IsShownMenu data_ canon specification b entries) where
  abbrev IsPlainHere : Label → Type 0
  IsPlainHere label = IsPlainLabel data_.signature specification label

  read_plain : (label : Label) → IsPlainHere label → IsLabelReadBack data_ specification label
  read_plain label plain = texts.read data_.signature specification label menu.names plain

  transition_plain : (label : Label) (target : Behaviour) → Transition data_ specification.processes b label target → IsPlainHere label
  transition_plain label target transition =
      let d = (derived data_ specification.processes b label target).0 transition in
      record {
        closed = (targets.derived data_ canon specification b menu.over d.0 label target d.1).0;
        is_at = (stay data_ as_given specification.processes specification.gates b d.0 label target menu.processes menu.uses d.1).0;
      }

  -- ---- What equals a closed label is one

  value_back : (t u : Term) → Equal data_ t u → IsValue data_.signature u → IsValue data_.signature t
  value_back t u equal is = (
    is.0,
    record {
      ground = equal_ground (equal_back equal) is.1.ground;
      sorted = equal_sort is.0 (well_formed_sides data_ menu.fine) (equal_back equal) is.1.sorted;
    },
  )

  values_back : (ts us : List Term) → EqualTerms data_ ts us → Every (IsValue data_.signature) us → Every (IsValue data_.signature) ts
  values_back [] us equal all = tt
  values_back (t ∷ ts) [] equal all = absurd equal
  values_back (t ∷ ts) (u ∷ us) equal all = (value_back t u equal.0 all.0, values_back ts us equal.1 all.1)

  plain_back : (label other : Label) → EqualLabels data_ label other → IsPlainHere other → IsPlainHere label
  plain_back inner_event other equal plain = record { closed = tt; is_at = tt }
  plain_back (gate_event g ts) inner_event equal plain = absurd equal
  plain_back (gate_event g ts) (exit_event us) equal plain = absurd equal
  plain_back (gate_event g ts) (gate_event h us) equal plain = record {
    closed = (
      subst (λ (i : ℕ). i < length specification.gate_names) (sym equal.0) plain.closed.0,
      values_back ts us equal.1 plain.closed.1,
    );
    is_at = subst (IsOneOf specification.gates) (sym equal.0) plain.is_at;
  }
  plain_back (exit_event ts) inner_event equal plain = absurd equal
  plain_back (exit_event ts) (gate_event h us) equal plain = absurd equal
  plain_back (exit_event ts) (exit_event us) equal plain = record { closed = values_back ts us equal plain.closed; is_at = tt }

  instance_plain : (entry : Entry) (values : List Term) → IsEntry entries entry → Meets data_ entry values
      → IsPlainHere (label_at entry values)
  instance_plain entry values listed meets =
      let found = menu.exact.sound entry listed values meets in
      plain_back (label_at entry values) found.0 found.3
      (transition_plain found.0 found.1 ((derived data_ specification.processes b found.0 found.1).1 (_, found.2)))

  -- ---- What the menu shows

  -- a label of the signature's terms, at a declared gate, without variables
  label_plain : (leaves : List Term) (label : Label) → Every (IsDraftTerm data_.signature leaves) (label_values label)
      → Every IsGround (label_values label) → IsAt (IsOneOf specification.gates) label → IsPlainHere label
  label_plain leaves inner_event are ground at = record { closed = tt; is_at = tt }
  label_plain leaves (gate_event g terms) are ground at = record {
    closed = (
      listed_below (length specification.gate_names) specification.gates g menu.over.well_formed.whole.named_gates at,
      are_values data_.signature leaves terms are ground,
    );
    is_at = at;
  }
  label_plain leaves (exit_event terms) are ground at =
      record { closed = are_values data_.signature leaves terms are ground; is_at = tt }

  -- what solving leaves of a draft is of the signature, whether values meet it or not
  shown_plain : (entry : Entry) → IsEntry entries entry → HasPlainLabel entry → IsPlainHere entry.label
  shown_plain entry listed ground =
      let draft = menu.exact.solved entry listed in
      let fine = fine_draft data_ canon specification b menu.over entry.shape draft.0 draft.1 in
      let left = solving.solved data_ canon draft.0 entry menu.over.is_canon fine.order draft.2 in
      label_plain entry.leaves entry.label left.as_draft.values ground
      (stay_too data_ canon specification.processes specification.gates b entries menu.processes menu.uses menu.exact entry listed)

  without_variables : (entry : Entry) → IsEntry entries entry → entry.variables ≡ [] → HasPlainLabel entry × Meets data_ entry []
  without_variables entry listed none = (
    all_over_none entry.variables (label_values entry.label) none is.over_values,
    record {
      sorted = subst (λ (sorts : List ℕ). AreValues data_.signature sorts []) (sym none) tt;
      met =
          subst (λ (tests : List Test). AllHold data_ (map (test_with (leaves_in [])) tests))
          (sym (no_conditions canon entry.variables entry.conditions none is.conditions is.over_left is.over_right)) tt;
    },
  )
    where
      is : IsSolved canon entry
      is =
          let draft = menu.exact.solved entry listed in
          solved.solved data_ canon specification b menu.over entry.shape draft.0 entry draft.1 draft.2

  apart_here : (one other : Entry) → IsEntry entries one → IsEntry entries other → HasPlainLabel one → HasPlainLabel other
      → ArePrintedAlike data_ specification one.label other.label → one.label ≡ other.label
  apart_here one other listed also has too same =
      texts.apart data_.signature specification one.label other.label menu.names (shown_plain one listed has)
      (shown_plain other also too) same

pub menus_read_back : LabelTextsAreReadBack → TransitionsAreDerived → TargetsAreWellFormed → MovesStayAtGates → EntriesAreSolved
    → EntriesStayAtGates → SolvingNamesNoBehaviour → MenusAreReadBack
menus_read_back texts derived targets stay solved stay_too solving data_ canon specification b entries menu = record {
  transitions = λ label target transition.
      read_plain texts derived targets stay solved stay_too solving data_ canon specification b entries menu label
      (transition_plain texts derived targets stay solved stay_too solving data_ canon specification b entries menu label
      target transition);
  instances = λ entry values listed meets.
      read_plain texts derived targets stay solved stay_too solving data_ canon specification b entries menu (label_at entry values)
      (instance_plain texts derived targets stay solved stay_too solving data_ canon specification b entries menu entry
      values listed meets);
  shown = λ entry listed has.
      read_plain texts derived targets stay solved stay_too solving data_ canon specification b entries menu entry.label
      (shown_plain texts derived targets stay solved stay_too solving data_ canon specification b entries menu entry listed has);
  plain = without_variables texts derived targets stay solved stay_too solving data_ canon specification b entries menu;
  apart = apart_here texts derived targets stay solved stay_too solving data_ canon specification b entries menu;
}
