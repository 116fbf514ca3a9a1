-- A side whose terms hold no leaf variables, beside another one: what related closed terms, labels and equations say.
use Rattle.std.proofs.Common.{◌≡◌, ◌<◌, ◌≤◌, ◌⊎◌, inl, inr, ℕ, zero, suc, max, List, [], ◌∷◌, ◌++◌, map, slice_get, Some, refl, sym, ◌∙◌, arith, subst}
use Rattle.std.proofs.lemmas.List.{append-nil}
use Rattle.lotos_base.specs.Term.{Term, variable}
use Rattle.lotos_base.specs.Sorting.{IsGround, IsGroundOf, Occurs}
use Rattle.lotos_base.specs.Equation.{Data}
use Rattle.lotos_base.specs.Equality.{Equal}
use Rattle.lotos_base.specs.Substitution.{Substitution, substituted}
use Rattle.lotos_base.proofs.SubstitutionLemmas.{substituted_agree, substituted_ground, no_variable_ground, ground_no_variable}
use Rattle.lotos_base.proofs.EqualityLemmas.{equal_then, equal_back, equal_same}
use Rattle.behaviour_semantics.specs.Behaviour.{Test, Process, Specification}
use Rattle.behaviour_semantics.specs.Label.{Label}
use Rattle.behaviour_semantics.specs.Replacement.{test_with}
use Rattle.behaviour_semantics.specs.Rule.{AllHold}
use Rattle.behaviour_semantics.specs.Move.{Move}
use Rattle.behaviour_semantics.specs.Draft.{above, above_variables, above_processes, label_with}
use Rattle.behaviour_semantics.specs.Menu.{EqualTerms, EqualLabels}
use Rattle.behaviour_semantics.specs.WellFormed.{Every, IsDefinition, IsSpecification}
use Rattle.behaviour_semantics.proofs.OptionLemmas.{some_value}
use Rattle.behaviour_semantics.proofs.RelatedTerms.{Side, with_leaves, with_leaves-leaf, Free, Grounded, Related, turned, only_leaf, Binders, RelatedTerms, none_related, one_related}
use Rattle.behaviour_semantics.proofs.RelatedBehaviours.{Beside}
use Rattle.behaviour_semantics.proofs.SameBehaviours.{Low, low_nothing, low_more, binders_of, same_beside, turned_terms, turned_beside}
use Rattle.behaviour_semantics.proofs.RelatedMoves.{RelatedLeaves, RelatedLabels, both_inner_events, both_gate_events, both_exit_events, RelatedAsked, none_asked, one_asked, RelatedMoves}

-- A side without leaf variables.
abbrev pub plain : (Term → Term) → Substitution → Side
plain represent leaves = record { represent = represent; leaves = leaves; values = variable; leaf = λ n r. ⊥ }

pub plain_grounded : (data_ : Data) (represent : Term → Term) (leaves : Substitution) → Grounded data_ (plain represent leaves)
plain_grounded data_ represent leaves n r h = absurd h

pub every_at : {X : Type 0} (P : X → Type 0) (xs : List X) (k : ℕ) (z : X) → Every P xs → slice_get xs k ≡ Some z → P z
every_at P [] k z h e = absurd (cc e)
every_at P (x ∷ xs) zero z h e = subst P (some_value e) h.0
every_at P (x ∷ xs) (suc k) z h e = every_at P xs k z h.1 e

pub above_at : (processes : List Process) (k : ℕ) (process : Process) → slice_get processes k ≡ Some process
    → max (above_variables process.parameters) (above process.body) ≤ above_processes processes
above_at [] k process e = absurd (cc e)
above_at (p ∷ processes) zero process e =
    subst (λ (q : Process). max (above_variables q.parameters) (above q.body) ≤ above_processes (p ∷ processes)) (some_value e)
    (let le : max (above_variables p.parameters) (above p.body)
    ≤ max (max (above_variables p.parameters) (above p.body)) (above_processes processes) = omega arith in le)
above_at (p ∷ processes) (suc k) process e =
    let below : max (above_variables process.parameters) (above process.body) ≤ above_processes processes =
    above_at processes k process e in
    let le : max (above_variables process.parameters) (above process.body)
    ≤ max (max (above_variables p.parameters) (above p.body)) (above_processes processes) = omega arith in le

module _ (data_ : Data) (base : ℕ) where
  pub bodies_of : (x y : Side) (specification : Specification) → IsSpecification data_.signature specification
      → above_processes specification.processes ≤ base → (number : ℕ) (process : Process)
      → slice_get specification.processes number ≡ Some process → Binders data_ base process.parameters
      × Beside data_ base specification.processes x y (process.parameters ++ []) process.body process.body
  bodies_of x y specification fine le number process at =
      let definition : _ = every_at (λ (p : Process). IsDefinition data_.signature _ specification.processes p.gates p.parameters p.exit
      p.body) specification.processes number process fine.each at in
      let below : max (above_variables process.parameters) (above process.body) ≤ above_processes specification.processes =
      above_at specification.processes number process at in
      let binders : Binders data_ base process.parameters = binders_of data_ base process.parameters (omega arith) definition.binders.1 in
      let le_body : above process.body ≤ base = omega arith in
      let inside : Low data_ base process.parameters = subst (Low data_ base) (append-nil process.parameters)
      (low_more data_ base process.parameters [] binders (low_nothing data_ base)) in (
        binders,
        subst (λ scope. Beside data_ base specification.processes x y scope process.body process.body) (sym (append-nil process.parameters))
            (same_beside data_ base x y _ specification.processes process.parameters process.body inside le_body definition.behaviour),
      )

  -- Turning moves.
  pub turned_labels : {processes : List Process} {x y : Side} {label other : Label} → RelatedLabels data_ base processes x y label other
      → RelatedLabels data_ base processes y x other label
  turned_labels both_inner_events = both_inner_events
  turned_labels (both_gate_events sorts r) = both_gate_events sorts (turned_terms data_ base r)
  turned_labels (both_exit_events sorts r) = both_exit_events sorts (turned_terms data_ base r)

  pub turned_asked : {processes : List Process} {x y : Side} {tests others : List Test} → RelatedAsked data_ base processes x y tests others
      → RelatedAsked data_ base processes y x others tests
  turned_asked none_asked = none_asked
  turned_asked (one_asked r rest) = one_asked (record { sort = r.sort; left = turned r.left; right = turned r.right }) (turned_asked rest)

  pub turned_moves : (processes : List Process) (x y : Side) (m n : Move) → RelatedMoves data_ base processes x y m n
      → RelatedMoves data_ base processes y x n m
  turned_moves processes x y m n r = record {
    label = turned_labels r.label;
    target = turned_beside data_ base r.target;
    asked = turned_asked r.asked;
    sorts = sym r.sorts;
  }

  pub turned_leaves : (processes : List Process) (x y : Side) (next : ℕ) (sorts : List ℕ)
      → RelatedLeaves data_ base processes x y next sorts → RelatedLeaves data_ base processes y x next sorts
  turned_leaves processes x y next [] h = tt
  turned_leaves processes x y next (s ∷ sorts) h = (turned h.0, turned_leaves processes x y (suc next) sorts h.1)

  module _ (represent : Term → Term) (leaves : Substitution) where
    -- A closed term of a plain side is ground.
    pub plain_ground : (u : Term) → Free data_ base (plain represent leaves) [] u → IsGround u
    plain_ground u free = no_variable_ground u (λ n r o. (only_leaf data_ base (plain represent leaves) n r (free n r o)).1)

    -- A closed term with its leaf variables' values equals what it is related to on a plain side.
    pub closed_equal : (x : Side) → Grounded data_ x → (s : ℕ) (t u : Term) → Related data_ base x (plain represent leaves) [] s t u
        → Equal data_ (substituted x.values t) u
    closed_equal x grounded s t u r =
        let ground : IsGround u = plain_ground u r.right_free in
        equal_then (equal_same data_ _ _ (substituted_agree x.values (with_leaves base x variable) t
        (λ n q o. sym (with_leaves-leaf base x variable n q (only_leaf data_ base x n q (r.left_free n q o)).0))))
        (equal_then (r.equal grounded (plain_grounded data_ represent leaves) variable (λ n q lt o. absurd (unbound n q lt o)))
        (equal_same data_ _ _ (substituted_ground (with_leaves base (plain represent leaves) variable) u ground)))
      where
        unbound : (n q : ℕ) → n < base → Occurs n q t ⊎ Occurs n q u → ⊥
        unbound n q lt (inl o) = let leaf : (base ≤ n) × _ = only_leaf data_ base x n q (r.left_free n q o) in omega (arith, leaf.0)
        unbound n q lt (inr o) = let leaf : (base ≤ n) × _ = only_leaf data_ base (plain represent leaves) n q (r.right_free n q o) in
            omega (arith, leaf.0)

    pub closed_terms : (x : Side) → Grounded data_ x → {sorts : List ℕ} {ts us : List Term}
        → RelatedTerms data_ base x (plain represent leaves) [] sorts ts us → EqualTerms data_ (map (substituted x.values) ts) us
    closed_terms x grounded none_related = tt
    closed_terms x grounded (one_related {s = s} {t = t} {u = u} r rest) = (closed_equal x grounded s t u r, closed_terms x grounded rest)

    pub closed_labels : {processes : List Process} (x : Side) → Grounded data_ x → {label other : Label}
        → RelatedLabels data_ base processes x (plain represent leaves) label other
        → EqualLabels data_ (label_with x.values label) other
    closed_labels x grounded both_inner_events = tt
    closed_labels x grounded (both_gate_events sorts r) = (refl, closed_terms x grounded r)
    closed_labels x grounded (both_exit_events sorts r) = closed_terms x grounded r

    -- What is asked holds on the one side where it holds on the other.
    pub asked_over : {processes : List Process} (x : Side) → Grounded data_ x → {tests others : List Test}
        → RelatedAsked data_ base processes x (plain represent leaves) tests others → AllHold data_ (map (test_with x.values) tests)
        → AllHold data_ others
    asked_over x grounded none_asked h = tt
    asked_over x grounded (one_asked r rest) h = (
      equal_then (equal_back (closed_equal x grounded r.sort _ _ r.left)) (equal_then h.0 (closed_equal x grounded r.sort _ _ r.right)),
      asked_over x grounded rest h.1,
    )

    pub asked_back : {processes : List Process} (x : Side) → Grounded data_ x → {tests others : List Test}
        → RelatedAsked data_ base processes x (plain represent leaves) tests others → AllHold data_ others
        → AllHold data_ (map (test_with x.values) tests)
    asked_back x grounded none_asked h = tt
    asked_back x grounded (one_asked r rest) h = (
      equal_then (closed_equal x grounded r.sort _ _ r.left) (equal_then h.0 (equal_back (closed_equal x grounded r.sort _ _ r.right))),
      asked_back x grounded rest h.1,
    )

  -- Ground values are related to themselves.
  pub ground_related : (x y : Side) (s : ℕ) (v : Term) → IsGroundOf data_.signature s v → Related data_ base x y [] s v v
  ground_related x y s v h = record {
    left_sorted = h.sorted;
    right_sorted = h.sorted;
    left_free = λ n r o. absurd (ground_no_variable v h.ground n r o);
    right_free = λ n r o. absurd (ground_no_variable v h.ground n r o);
    equal = λ left right others grounds. equal_same data_ _ _
        (substituted_ground (with_leaves base x others) v h.ground ∙ sym (substituted_ground (with_leaves base y others) v h.ground));
  }
