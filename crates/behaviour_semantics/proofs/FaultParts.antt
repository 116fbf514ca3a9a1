-- Faults and moves side by side: either there is no fault, and a move whose leaves are values and whose tests hold, or
-- there is a fault, and no such move.
use Rattle.std.proofs.Common.{◌≡◌, ◌≤◌, ◌⊎◌, inl, inr, ℕ, suc, ◌+◌, List, [], ◌∷◌, length, Bool, true, false, nat_lt, if◌then◌else◌, Option, None, Some, option_map, option_and_then, refl, ap, sym, ◌∙◌, subst, le-ltb, ltb-false, eqb-true}
use Rattle.std.specs.Cmp.{first_so, second_so}
use Rattle.lotos_base.proofs.Options.{mapped, chained}
use Rattle.lotos_base.specs.Signature.{Signature}
use Rattle.lotos_base.specs.Term.{Term}
use Rattle.lotos_base.specs.Tests.{term_eq}
use Rattle.lotos_base.specs.Sorting.{head_sort_of, IsGroundOf}
use Rattle.lotos_base.specs.Equation.{Data}
use Rattle.lotos_base.specs.Equality.{Equal}
use Rattle.lotos_base.specs.Canon.{IsCanon}
use Rattle.lotos_base.specs.Substitution.{Substitution}
use Rattle.lotos_base.proofs.TestLemmas.{Decides-term_eq}
use Rattle.lotos_base.proofs.SortLemmas.{sort_of_sorted}
use Rattle.lotos_base.proofs.CanonLemmas.{canon_tells}
use Rattle.behaviour_semantics.specs.Behaviour.{Test}
use Rattle.behaviour_semantics.specs.Label.{Label}
use Rattle.behaviour_semantics.specs.Rule.{is_same_known_sort, have_same_sorts, pairwise, AllHold}
use Rattle.behaviour_semantics.specs.Move.{Move}
use Rattle.behaviour_semantics.specs.Derives.{leaves_in}
use Rattle.behaviour_semantics.specs.WellFormed.{Every}
use Rattle.behaviour_semantics.specs.SortTest.{is_value}
use Rattle.behaviour_semantics.specs.Fault.{Wrong, not_fitting, bad_value, unmet, Fault, first_of_two, at_node, first_bad, wrong_leaves, first_unmet}
use Rattle.behaviour_semantics.proofs.OptionLemmas.{some_value}
use Rattle.behaviour_semantics.proofs.SupplyLemmas.{Supplied}
use Rattle.behaviour_semantics.proofs.ClosedTargets.{IsValue}
use Rattle.behaviour_semantics.proofs.SortTestLemmas.{Decides-is_value}

pub first_none : {X : Type 0} (o p : Option X) → first_of_two o p ≡ None → (o ≡ None) × (p ≡ None)
first_none None p e = (refl, e)
first_none (Some x) p e = absurd (cc e)

pub none_first : {X : Type 0} (o p : Option X) → o ≡ None → p ≡ None → first_of_two o p ≡ None
none_first None p e f = f
none_first (Some x) p e f = absurd (cc e)

-- Leaves.
module _ (signature : Signature) (values : Substitution) where
  supplied_by : (next : ℕ) (sorts : List ℕ) → first_bad signature values next sorts ≡ None → Supplied signature values next sorts
  supplied_by next [] e = tt
  supplied_by next (s ∷ sorts) e = by (supplied_by (suc next) sorts) (is_value signature s (values next s)) refl e
    where
      by : (first_bad signature values (suc next) sorts ≡ None → Supplied signature values (suc next) sorts) → (b : Bool)
          → is_value signature s (values next s) ≡ b → (if b then first_bad signature values (suc next) sorts else
          Some (bad_value next)) ≡ None → IsGroundOf signature s (values next s) × Supplied signature values (suc next) sorts
      by rest true h e' = ((Decides-is_value signature s (values next s)).0 h, rest e')
      by rest false h e' = absurd (cc e')

  none_bad : (next : ℕ) (sorts : List ℕ) → Supplied signature values next sorts → first_bad signature values next sorts ≡ None
  none_bad next [] h = refl
  none_bad next (s ∷ sorts) h =
      ap (λ (b : Bool). if b then first_bad signature values (suc next) sorts else Some (bad_value next))
      ((Decides-is_value signature s (values next s)).1 h.0)
      ∙ none_bad (suc next) sorts h.1

module _ (signature : Signature) (leaves : List Term) where
  pub leaves_right : (next : ℕ) (sorts : List ℕ) → wrong_leaves signature leaves next sorts ≡ None
      → Supplied signature (leaves_in leaves) next sorts × (next + length sorts ≤ length leaves)
  leaves_right next sorts e = by (nat_lt (length leaves) (next + length sorts)) refl e
    where
      by : (b : Bool) → nat_lt (length leaves) (next + length sorts) ≡ b
          → (if b then Some not_fitting else first_bad signature (leaves_in leaves) next sorts) ≡ None
          → Supplied signature (leaves_in leaves) next sorts × (next + length sorts ≤ length leaves)
      by true h e' = absurd (cc e')
      by false h e' = (supplied_by signature (leaves_in leaves) next sorts e', ltb-false (length leaves) (next + length sorts) h)

  pub right_leaves : (next : ℕ) (sorts : List ℕ) → Supplied signature (leaves_in leaves) next sorts
      → next + length sorts ≤ length leaves → wrong_leaves signature leaves next sorts ≡ None
  right_leaves next sorts h le =
      ap (λ (b : Bool). if b then Some not_fitting else first_bad signature (leaves_in leaves) next sorts)
      (le-ltb (length leaves) (next + length sorts) le)
      ∙ none_bad signature (leaves_in leaves) next sorts h

-- Tests.
abbrev pub IsGroundTest : Signature → Test → Type 0
IsGroundTest signature test = (sort : ℕ) × IsGroundOf signature sort test.left × IsGroundOf signature sort test.right

module _ (data_ : Data) (canon : Term → Term) (is_canon : IsCanon data_ canon) where
  pub tests_held : (tests : List Test) → Every (IsGroundTest data_.signature) tests → first_unmet canon tests ≡ None → AllHold data_ tests
  tests_held [] g e = tt
  tests_held (test ∷ tests) g e = by (tests_held tests g.1) (term_eq (canon test.left) (canon test.right)) refl e
    where
      by : (first_unmet canon tests ≡ None → AllHold data_ tests) → (b : Bool) → term_eq (canon test.left) (canon test.right) ≡ b
          → (if b then first_unmet canon tests else Some (unmet (canon test.left) (canon test.right))) ≡ None
          → Equal data_ test.left test.right × AllHold data_ tests
      by rest true h e' = (
        canon_tells data_ canon test.left test.right g.0.0 is_canon g.0.1 g.0.2
            ((Decides-term_eq (canon test.left) (canon test.right)).0 h),
        rest e',
      )
      by rest false h e' = absurd (cc e')

  pub held_tests : (tests : List Test) → Every (IsGroundTest data_.signature) tests → AllHold data_ tests → first_unmet canon tests ≡ None
  held_tests [] g h = refl
  held_tests (test ∷ tests) g h =
      ap (λ (b : Bool). if b then first_unmet canon tests else Some (unmet (canon test.left) (canon test.right)))
      ((Decides-term_eq (canon test.left) (canon test.right)).1 (is_canon.decides test.left test.right g.0.0 g.0.1 g.0.2 h.0))
      ∙ held_tests tests g.1 h.1

-- The pairs of two lists of values of the same sorts.
known_sorts : (signature : Signature) (t u : Term) (s r : ℕ) → IsGroundOf signature s t → IsGroundOf signature r u
    → is_same_known_sort (head_sort_of signature t) (head_sort_of signature u) ≡ true → s ≡ r
known_sorts signature t u s r g h e =
    let same : is_same_known_sort (Some s) (Some r) ≡ true = rw (
      sort_of_sorted signature t s g.sorted,
      sort_of_sorted signature u r h.sorted,
    ) at e in
    eqb-true s r same

pub pairs_ground : (signature : Signature) (ts us : List Term) → Every (IsValue signature) ts → Every (IsValue signature) us
    → have_same_sorts signature ts us ≡ true → Every (IsGroundTest signature) (pairwise ts us)
pairs_ground signature [] us h k e = tt
pairs_ground signature (t ∷ ts) [] h k e = tt
pairs_ground signature (t ∷ ts) (u ∷ us) h k e =
    let same : h.0.0 ≡ k.0.0 = known_sorts signature t u h.0.0 k.0.0 h.0.1 k.0.1
    (first_so (is_same_known_sort (head_sort_of signature t) (head_sort_of signature u)) (have_same_sorts signature ts us) e) in (
      (k.0.0, subst (λ (s : ℕ). IsGroundOf signature s t) same h.0.1, k.0.1),
      pairs_ground signature ts us h.1 k.1 (second_so (is_same_known_sort (head_sort_of signature t) (head_sort_of signature u))
          (have_same_sorts signature ts us) e),
    )

module _ (data_ : Data) (leaves : List Term) where
  -- From a number on there are the leaves of the move and they are values of its sorts, and what it asks holds.
  pub record Sound (next : ℕ) (m : Move) : Type 0 where
    pub supplied : Supplied data_.signature (leaves_in leaves) next m.sorts
    pub enough : next + length m.sorts ≤ length leaves
    pub holds : AllHold data_ m.asked

  pub data Same (next : ℕ) : Option Fault → Option Move → Type 0 where
    sound : (m : Move) → Sound next m → Same next None (Some m)
    faulty : (f : Fault) {o : Option Move} → ((m : Move) → o ≡ Some m → Sound next m → ⊥) → Same next (Some f) o

  -- The second move has the leaves of the first one and asks the same.
  abbrev pub Kept : Move → Move → Type 0
  Kept m k = (k.sorts ≡ m.sorts) × (k.asked ≡ m.asked)

  pub sound_on : {next : ℕ} {m k : Move} → Kept m k → Sound next m → Sound next k
  sound_on {next = next} h s = record {
    supplied = subst (Supplied data_.signature (leaves_in leaves) next) (sym h.0) s.supplied;
    enough = subst (λ (sorts : List ℕ). next + length sorts ≤ length leaves) (sym h.0) s.enough;
    holds = subst (AllHold data_) (sym h.1) s.holds;
  }

  pub sound_back : {next : ℕ} {m k : Move} → Kept m k → Sound next k → Sound next m
  sound_back h s = sound_on (sym h.0, sym h.1) s

  -- A node that does not fit has no move.
  pub unfit : (next node : ℕ) → Same next (at_node node (Some not_fitting)) None
  unfit next node = faulty (record { node = node; wrong = not_fitting }) (λ m e s. absurd (cc e))

  -- What a node asks by itself.
  pub node_same : (next node : ℕ) (m : Move) (o : Option Wrong) → (o ≡ None → Sound next m) → (Sound next m → o ≡ None)
      → Same next (at_node node o) (Some m)
  node_same next node m None there back = sound m (there refl)
  node_same next node m (Some w) there back =
      faulty (record { node = node; wrong = w }) (λ k e s. let none : Some w ≡ None =
      back (subst (Sound next) (sym (some_value e)) s) in absurd (cc none))

  -- A node with one part whose label it asks nothing of.
  abbrev pub Quiet : (Label → Option Wrong) → Type 0
  Quiet asked = (label : Label) → asked label ≡ None

  pub part_same : {next : ℕ} {o : Option Fault} {p : Option Move} (node : ℕ) (asked : Label → Option Wrong) → Quiet asked
      → Same next o p → Same next (first_of_two o (at_node node (option_and_then (λ (m : Move). asked m.label) p))) p
  part_same {next = next} node asked quiet (sound m s) = subst (λ (w : Option Wrong). Same next (at_node node w) (Some m))
      (sym (quiet m.label)) (sound m s)
  part_same node asked quiet (faulty g none) = faulty g none

  pub map_same : {next : ℕ} {o : Option Fault} {p : Option Move} (node : ℕ) (asked : Label → Option Wrong) → Quiet asked
      → (f : Move → Move) → ((m : Move) → Kept m (f m)) → Same next o p
      → Same next (first_of_two o (at_node node (option_and_then (λ (m : Move). asked m.label) p))) (option_map f p)
  map_same {next = next} node asked quiet f kept (sound m s) =
      subst (λ (w : Option Wrong). Same next (at_node node w) (Some (f m))) (sym (quiet m.label)) (sound (f m) (sound_on (kept m) s))
  map_same {next = next} node asked quiet f kept (faulty g {o = p} none) =
      faulty g (λ k e s. let from : _ = mapped f p e in none from.0 from.1 (sound_back (kept from.0) (subst (Sound next) (sym from.2) s)))

  -- A rule that asks something of the label.
  abbrev pub Fits : (Label → Option Wrong) → (Move → Option Move) → Move → Type 0
  Fits asked f m = ((asked m.label ≡ None) × ((k : Move) × (f m ≡ Some k) × Kept m k))
      ⊎ ((w : Wrong) × (asked m.label ≡ Some w) × (f m ≡ None))

  pub demand_same : {next : ℕ} {o : Option Fault} {p : Option Move} (node : ℕ) (asked : Label → Option Wrong) (f : Move → Option Move)
      → ((m : Move) → Fits asked f m) → Same next o p → Same next (first_of_two o
      (at_node node (option_and_then (λ (m : Move). asked m.label) p))) (option_and_then f p)
  demand_same {next = next} node asked f fits (sound m s) = by (fits m)
    where
      by : Fits asked f m → Same next (at_node node (asked m.label)) (f m)
      by (inl (so, k)) =
          subst (λ (w : Option Wrong). Same next (at_node node w) (f m)) (sym so)
          (subst (λ (q : Option Move). Same next None q) (sym k.1) (sound k.0 (sound_on k.2 s)))
      by (inr not_so) =
          subst (λ (w : Option Wrong). Same next (at_node node w) (f m)) (sym not_so.1)
          (subst (λ (q : Option Move). Same next (at_node node (Some not_so.0)) q) (sym not_so.2)
          (faulty (record { node = node; wrong = not_so.0 }) (λ k e t. absurd (cc e))))
  demand_same {next = next} node asked f fits (faulty g {o = p} none) =
      faulty g (λ k e s. let from : _ = chained f p e in by from.0 k from.1 from.2 s (fits from.0))
    where
      by : (m k : Move) → p ≡ Some m → f m ≡ Some k → Sound next k → Fits asked f m → ⊥
      by m k at e s (inl (so, l)) =
          let same : l.0 ≡ k = some_value (sym l.1 ∙ e) in
          none m at (sound_back l.2 (subst (Sound next) (sym same) s))
      by m k at e s (inr not_so) = let there : None ≡ Some k = sym not_so.2 ∙ e in absurd (cc there)
