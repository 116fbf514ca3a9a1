-- Entries without variables of exact menus: each is one event, and where a menu has no other entries each transition has one.
use Rattle.std.proofs.Common.{◌≡◌, ℕ, List, [], ◌∷◌, map, refl, ap, sym, ◌∙◌, subst}
use Rattle.lotos_base.specs.Term.{Term}
use Rattle.lotos_base.specs.Sorting.{IsGround}
use Rattle.lotos_base.specs.Equation.{Data}
use Rattle.lotos_base.proofs.SubstitutionLemmas.{no_variable_ground}
use Rattle.behaviour_semantics.specs.Behaviour.{Behaviour, Test, Specification}
use Rattle.behaviour_semantics.specs.Label.{Label}
use Rattle.behaviour_semantics.specs.Replacement.{test_with}
use Rattle.behaviour_semantics.specs.Rule.{as_given, AllHold, AreValues}
use Rattle.behaviour_semantics.specs.Shape.{Shape, Derivation}
use Rattle.behaviour_semantics.specs.Derives.{Derives, leaves_in}
use Rattle.behaviour_semantics.specs.Draft.{Draft, draft_of, variable_sorts}
use Rattle.behaviour_semantics.specs.Transition.{Transition}
use Rattle.behaviour_semantics.specs.TransitionLaws.{MovesAreDetermined}
use Rattle.behaviour_semantics.specs.Solving.{Entry}
use Rattle.behaviour_semantics.specs.SolvingLaws.{IsOpen, IsSolved, IsTermOver}
use Rattle.behaviour_semantics.specs.Menu.{EqualTerms, EqualLabels, Meets, label_at, derivation_at, IsEntry, HasEntry, Exact}
use Rattle.behaviour_semantics.specs.WellFormed.{Every, AreOver}
use Rattle.behaviour_semantics.specs.EqualLeavesLaws.{EqualDerivations}
use Rattle.behaviour_semantics.specs.InstanceLaws.{DraftOf}
use Rattle.behaviour_semantics.proofs.OptionLemmas.{some_value}
use Rattle.behaviour_semantics.proofs.RelatedTerms.{canon_represents, given_represents}
use Rattle.behaviour_semantics.proofs.ReplacementLemmas.{terms_stay, label_stays}
use Rattle.certificate_theory.specs.Certificate.{compared_side_of}
use Rattle.certificate_theory.specs.SameSorts.{AreAlikeInSorts}
use Rattle.certificate_theory.specs.NamedStates.{IsClosedEntry, EntryLeads}
use Rattle.certificate_theory.proofs.EqualValues.{terms_back, labels_back}
use Rattle.certificate_theory.proofs.MoveLaws.{MoveLaws}
use Rattle.certificate_theory.proofs.AlikeMoves.{Moved, moved, alike_itself, equal_to_itself}

-- ---- Without variables.

-- A term over no variables has none.
pub no_variable_in : (t : Term) → IsTermOver [] t → IsGround t
no_variable_in t over = no_variable_ground t (λ n s o. absurd (cc (over n s o)))

-- Open conditions over no variables: there are none.
no_condition : (canon : Term → Term) (conditions : List Test) → Every (IsOpen canon) conditions
    → Every (λ (test : Test). IsTermOver [] test.left) conditions → Every (λ (test : Test). IsTermOver [] test.right) conditions
    → conditions ≡ []
no_condition canon [] are_open left right = refl
no_condition canon (test ∷ conditions) are_open left right =
    absurd (are_open.0.not_closed (no_variable_in test.left left.0) (no_variable_in test.right right.0))

no_values : (data_ : Data) (entry : Entry) (values : List Term) → IsClosedEntry entry → Meets data_ entry values → values ≡ []
no_values data_ entry values none meets = by values (subst (λ (sorts : List ℕ). AreValues data_.signature sorts values) none meets.sorted)
  where
    by : (values : List Term) → AreValues data_.signature [] values → values ≡ []
    by [] are = refl
    by (v ∷ vs) are = absurd are

pub leaves_stay : (entry : Entry) → (derivation_at entry []).leaves ≡ entry.leaves
leaves_stay entry = terms_stay entry.leaves

module _ (laws : MoveLaws) (data_ : Data) (canon : Term → Term) (specification : Specification) (b : Behaviour)
    (over : AreOver data_ canon specification b) (menu : List Entry)
    (exact : Exact data_ canon specification.processes b menu) where
  pub entry_solved : (entry : Entry) → IsEntry menu entry → IsSolved canon entry
  entry_solved entry listed =
      let s = exact.solved entry listed in laws.solved.solved data_ canon specification b over entry.shape s.0 entry s.1 s.2

  pub no_conditions : (entry : Entry) → IsEntry menu entry → IsClosedEntry entry → entry.conditions ≡ []
  no_conditions entry listed none =
      let solved : IsSolved canon entry = entry_solved entry listed in
      no_condition canon entry.conditions solved.conditions
      (subst (λ (vs : List ℕ). Every (λ (test : Test). IsTermOver vs test.left) entry.conditions) none solved.over_left)
      (subst (λ (vs : List ℕ). Every (λ (test : Test). IsTermOver vs test.right) entry.conditions) none solved.over_right)

  meets_nothing : (entry : Entry) → IsEntry menu entry → IsClosedEntry entry → Meets data_ entry []
  meets_nothing entry listed none = record {
    sorted = subst (λ (sorts : List ℕ). AreValues data_.signature sorts []) (sym none) tt;
    met = subst (λ (tests : List Test). AllHold data_ (map (test_with (leaves_in [])) tests)) (sym (no_conditions entry listed none)) tt;
  }

  -- ---- The move of an entry.

  pub record EntryMove (entry : Entry) : Type 0 where
    pub label : Label
    pub target : Behaviour
    pub derives : Derives data_ specification.processes b (derivation_at entry []) label target
    pub labels : EqualLabels data_ entry.label label

  pub entry_move : (entry : Entry) → IsEntry menu entry → IsClosedEntry entry → EntryMove entry
  entry_move entry listed none =
      let found = exact.sound entry listed [] (meets_nothing entry listed none) in
      record {
        label = found.0;
        target = found.1;
        derives = found.2;
        labels = subst (λ (l : Label). EqualLabels data_ l found.0) (label_stays entry.label) found.3;
      }

  -- The entry leads on.
  pub leads_on : (entry : Entry) → IsEntry menu entry → IsClosedEntry entry
      → (target : Behaviour) × EntryLeads (compared_side_of data_ canon specification) b entry target
  leads_on entry listed none =
      let e : EntryMove entry = entry_move entry listed none in
      let d : Derivation = derivation_at entry [] in
      let m : Moved data_ canon specification.processes b d e.label e.target =
      moved data_ canon as_given canon specification b b over over.closed (alike_itself data_ specification b over.closed)
      (given_represents data_) (canon_represents data_ canon over.is_canon) d d e.label e.target
      (equal_to_itself data_ as_given specification.processes b d e.label e.target e.derives) e.derives in
      (m.reached, record { label = m.answer; keeps = m.gives })

  -- A transition with the entry's label, to what is alike where the entry leads.
  pub record EntryEvent (entry : Entry) (target : Behaviour) : Type 0 where
    pub label : Label
    pub reached : Behaviour
    pub moves : Transition data_ specification.processes b label reached
    pub labels : EqualLabels data_ entry.label label
    pub alike : AreAlikeInSorts data_ target reached

  pub entry_event : (entry : Entry) (target : Behaviour) → IsEntry menu entry → IsClosedEntry entry
      → EntryLeads (compared_side_of data_ canon specification) b entry target → EntryEvent entry target
  entry_event entry target listed none leads =
      let e : EntryMove entry = entry_move entry listed none in
      let d : Derivation = derivation_at entry [] in
      let m : Moved data_ as_given specification.processes b d leads.label target =
      moved data_ canon canon as_given specification b b over over.closed (alike_itself data_ specification b over.closed)
      (canon_represents data_ canon over.is_canon) (given_represents data_) d d leads.label target
      (equal_to_itself data_ canon specification.processes b d leads.label target leads.keeps) leads.keeps in
      let same = laws.determined data_ as_given specification.processes b d m.answer e.label m.reached e.target m.gives e.derives in
      record {
        label = e.label;
        reached = e.target;
        moves = (laws.derived data_ specification.processes b e.label e.target).1 (d, e.derives);
        labels = e.labels;
        alike = subst (λ (z : Behaviour). AreAlikeInSorts data_ target z) same.targets m.there;
      }

  -- ---- The entry of a transition.

  -- An entry with an equal label that leads to what is alike the target.
  pub record EntryFor (label : Label) (target : Behaviour) : Type 0 where
    pub entry : Entry
    pub listed : IsEntry menu entry
    pub labels : EqualLabels data_ label entry.label
    pub reached : Behaviour
    pub leads : EntryLeads (compared_side_of data_ canon specification) b entry reached
    pub alike : AreAlikeInSorts data_ reached target

  -- Two derivations of one shape have leaves of the same sorts, those of the shape's draft.
  same_sorts : (d e : Derivation) (label other : Label) (target another : Behaviour) → d.shape ≡ e.shape
      → Derives data_ specification.processes b d label target → Derives data_ specification.processes b e other another
      → EqualTerms data_ d.leaves e.leaves → EqualDerivations data_ d e
  same_sorts d e label other target another shape first second equal =
      let p : DraftOf data_ canon specification.processes b d label =
      laws.drafts.complete data_ canon specification b over d label target first in
      let q : DraftOf data_ canon specification.processes b e other =
      laws.drafts.complete data_ canon specification b over e other another second in
      let one : p.draft ≡ q.draft = some_value (sym p.is_draft
      ∙ ap (λ (s : Shape). draft_of data_ canon specification.processes s b) shape ∙ q.is_draft) in
      record {
        shape = shape;
        sorts = variable_sorts q.draft.leaves;
        first = subst (λ (draft : Draft). AreValues data_.signature (variable_sorts draft.leaves) d.leaves) one p.meets.sorted;
        second = q.meets.sorted;
        equal = equal;
      }

  pub entry_for : ((entry : Entry) → IsEntry menu entry → IsClosedEntry entry) → (label : Label) (target : Behaviour)
      → Transition data_ specification.processes b label target → EntryFor label target
  entry_for all_closed label target transition =
      let derived : (d : Derivation) × Derives data_ specification.processes b d label target =
      (laws.derived data_ specification.processes b label target).0 transition in
      let found : HasEntry data_ menu derived.0 label = exact.complete derived.0 label target derived.1 in
      let none : IsClosedEntry found.entry = all_closed found.entry found.listed in
      let values : found.values ≡ [] = no_values data_ found.entry found.values none found.meets in
      let e : Derivation = derivation_at found.entry [] in
      let leaves : EqualTerms data_ e.leaves derived.0.leaves =
      subst (λ (vs : List Term). EqualTerms data_ (derivation_at found.entry vs).leaves derived.0.leaves) values found.leaves in
      let of_entry : EntryMove found.entry = entry_move found.entry found.listed none in
      let m : Moved data_ canon specification.processes b e label target =
      moved data_ canon as_given canon specification b b over over.closed (alike_itself data_ specification b over.closed)
      (given_represents data_) (canon_represents data_ canon over.is_canon) derived.0 e label target
      (same_sorts derived.0 e label of_entry.label target of_entry.target (sym found.shape) derived.1 of_entry.derives
      (terms_back data_ e.leaves derived.0.leaves leaves)) derived.1 in
      record {
        entry = found.entry;
        listed = found.listed;
        labels = labels_back data_ found.entry.label label
            (subst (λ (l : Label). EqualLabels data_ l label) (label_stays found.entry.label)
            (subst (λ (vs : List Term). EqualLabels data_ (label_at found.entry vs) label) values found.labels));
        reached = m.reached;
        leads = record { label = m.answer; keeps = m.gives };
        alike = m.back;
      }

-- An entry leads to one behaviour.
pub leads_once : MovesAreDetermined → (data_ : Data) (canon : Term → Term) (specification : Specification) (b : Behaviour) (entry : Entry)
    (target another : Behaviour) → EntryLeads (compared_side_of data_ canon specification) b entry target
    → EntryLeads (compared_side_of data_ canon specification) b entry another → target ≡ another
leads_once determined data_ canon specification b entry target another one other =
    (determined data_ canon specification.processes b (derivation_at entry []) one.label other.label target another one.keeps
    other.keeps).targets
