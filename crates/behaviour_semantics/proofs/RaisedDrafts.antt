-- Drafts do not go by the number of the first leaf variable, and the draft of both sides is the join of the two drafts.
use Rattle.std.proofs.Common.{◌≡◌, ◌<◌, ◌≤◌, ℕ, ◌+◌, ◌-◌, List, [], ◌∷◌, map, Bool, true, false, nat_lt, if◌then◌else◌, Option, None, Some, option_map, refl, ap, sym, ◌∙◌, subst, arith, ltb-true}
use Rattle.std.proofs.Math.Nat.{le_refl}
use Rattle.lotos_base.specs.Term.{Term, variable}
use Rattle.lotos_base.specs.Equation.{Data}
use Rattle.lotos_base.specs.Substitution.{Substitution, substituted, followed_by}
use Rattle.lotos_base.proofs.SubstitutionLemmas.{substituted_twice, substituted_agree}
use Rattle.behaviour_semantics.specs.Behaviour.{Behaviour, Test, Specification}
use Rattle.behaviour_semantics.specs.Label.{Label, inner_event, gate_event, exit_event}
use Rattle.behaviour_semantics.specs.Replacement.{test_with}
use Rattle.behaviour_semantics.specs.Rule.{label_values}
use Rattle.behaviour_semantics.specs.Shape.{Shape}
use Rattle.behaviour_semantics.specs.Move.{Move, move_of, taken}
use Rattle.behaviour_semantics.specs.Draft.{draft_of, draft_by, label_with, leaves_from, numbered_from_zero, above, above_processes, first_apart}
use Rattle.behaviour_semantics.specs.Join.{move_with, raised_from}
use Rattle.behaviour_semantics.specs.NumberingLaws.{open_move}
use Rattle.behaviour_semantics.specs.WellFormed.{Every, AreOver}
use Rattle.behaviour_semantics.proofs.DraftLemmas.{numbered-taken}
use Rattle.behaviour_semantics.proofs.EnvironmentLemmas.{closed_stays}
use Rattle.behaviour_semantics.proofs.SameBehaviours.{low_nothing, same_beside}
use Rattle.behaviour_semantics.proofs.RaisedTerms.{raise_high}
use Rattle.behaviour_semantics.proofs.RaisedMoves.{open_side, natural_moves}
use Rattle.behaviour_semantics.proofs.EveryLemmas.{every_all}

-- Labels and tests with one substitution after another.
module _ (first second whole : Substitution) where
  terms_same_with : (ts : List Term) → Every (λ (t : Term). substituted second (substituted first t) ≡ substituted whole t) ts
      → map (substituted second) (map (substituted first) ts) ≡ map (substituted whole) ts
  terms_same_with [] h = refl
  terms_same_with (t ∷ ts) h = let head : _ ≡ _ = h.0 in let tail : _ ≡ _ = terms_same_with ts h.1 in cc (head, tail)

  label_same_with : (label : Label) → Every (λ (t : Term). substituted second (substituted first t) ≡ substituted whole t)
      (label_values label) → label_with second (label_with first label) ≡ label_with whole label
  label_same_with inner_event h = refl
  label_same_with (gate_event g ts) h = ap (gate_event g) (terms_same_with ts h)
  label_same_with (exit_event ts) h = ap exit_event (terms_same_with ts h)

  tests_same_with : (tests : List Test) → Every (λ (test : Test). (substituted second (substituted first test.left)
      ≡ substituted whole test.left) × (substituted second (substituted first test.right) ≡ substituted whole test.right)) tests
      → map (test_with second) (map (test_with first) tests) ≡ map (test_with whole) tests
  tests_same_with [] h = refl
  tests_same_with (test ∷ tests) h =
      let tail : map (test_with second) (map (test_with first) tests) ≡ map (test_with whole) tests = tests_same_with tests h.1 in
      λ i. record { left = h.0.0 i; right = h.0.1 i } ∷ tail i

-- Raised and then numbered from zero is numbered from zero.
module _ (base shift : ℕ) where
  lowered : (n : ℕ) → (if nat_lt n base then n else n + shift) - (base + shift) ≡ n - base
  lowered n = by (nat_lt n base) refl
    where
      by : (b : Bool) → nat_lt n base ≡ b → (if b then n else n + shift) - (base + shift) ≡ n - base
      by true h = let lt : n < base = ltb-true n base h in omega (arith, lt)
      by false h = omega arith

  lowered_term : (t : Term) → substituted (numbered_from_zero (base + shift)) (substituted (raised_from base shift) t) ≡ substituted
      (numbered_from_zero base) t
  lowered_term t =
      substituted_twice (raised_from base shift) (numbered_from_zero (base + shift)) t
      ∙ substituted_agree (followed_by (raised_from base shift) (numbered_from_zero (base + shift))) (numbered_from_zero base) t
      (λ n s o. ap (λ (k : ℕ). variable k s) (lowered n))

  draft_raised : (shape : Shape) (m : Move) → draft_by shape (base + shift) (move_with (raised_from base shift) m) ≡ draft_by shape base m
  draft_raised shape m =
      let label : label_with (numbered_from_zero (base + shift)) (label_with (raised_from base shift) m.label) ≡ label_with
      (numbered_from_zero base) m.label =
      label_same_with (raised_from base shift) (numbered_from_zero (base + shift)) (numbered_from_zero base) m.label
      (every_all _ lowered_term (label_values m.label)) in
      let leaves : map (substituted (numbered_from_zero (base + shift))) (taken (leaves_from (base + shift)) 0 m.sorts) ≡ map
      (substituted (numbered_from_zero base)) (taken (leaves_from base) 0 m.sorts) =
      numbered-taken (base + shift) 0 m.sorts ∙ sym (numbered-taken base 0 m.sorts) in
      let conditions : map (test_with (numbered_from_zero (base + shift))) (map (test_with (raised_from base shift)) m.asked) ≡ map
      (test_with (numbered_from_zero base)) m.asked =
      tests_same_with (raised_from base shift) (numbered_from_zero (base + shift)) (numbered_from_zero base) m.asked
      (every_all _ (λ test. (lowered_term test.left, lowered_term test.right)) m.asked) in
      λ i. record { shape = shape; label = label i; leaves = leaves i; conditions = conditions i }

map_twice : {X Y Z : Type 0} (f : X → Y) (g : Y → Z) (h : X → Z) → ((x : X) → g (f x) ≡ h x) → (o : Option X)
    → option_map g (option_map f o) ≡ option_map h o
map_twice f g h same None = refl
map_twice f g h same (Some x) = ap (λ y. Some y) (same x)

module _ (data_ : Data) (canon : Term → Term) (specification : Specification) where
  -- Higher numbers, from any leaf on.
  raised_move : (b : Behaviour) → AreOver data_ canon specification b
      → (base shift : ℕ) (others : Substitution) (shape : Shape) (next next' : ℕ) → first_apart specification.processes b ≤ base
      → ((k s : ℕ) → others (next' + k) s ≡ substituted (raised_from base shift) (variable (base + (next + k)) s))
      → move_of (record { signature = data_.signature; represent = canon; processes = specification.processes }) others shape next' b
      ≡ option_map (move_with (raised_from base shift)) (open_move data_ canon specification.processes base shape next b)
  raised_move b over base shift others shape next next' le shifted =
      let le_processes : above_processes specification.processes ≤ base = omega (arith, le) in
      let le_b : above b ≤ base = omega (arith, le) in
      ap (move_of (record { signature = data_.signature; represent = canon; processes = specification.processes }) others shape next')
      (sym (closed_stays data_.signature _ specification.processes (raised_from base shift) b over.closed))
      ∙ natural_moves data_ base base shift (le_refl base) specification over.well_formed le_processes canon over.is_canon others shape
      next next' shifted b b
      (same_beside data_ base (open_side data_ base base shift (le_refl base) specification over.well_formed le_processes canon
      over.is_canon others) (open_side data_ base base shift (le_refl base) specification over.well_formed le_processes canon
      over.is_canon others) _ specification.processes [] b (low_nothing data_ base) le_b over.closed)

  pub later_variable : (b : Behaviour) → AreOver data_ canon specification b → (base shift : ℕ) (shape : Shape) (next : ℕ)
      → first_apart specification.processes b ≤ base → open_move data_ canon specification.processes (base + shift) shape next b
      ≡ option_map (move_with (raised_from base shift)) (open_move data_ canon specification.processes base shape next b)
  later_variable b over base shift shape next le =
      raised_move b over base shift (leaves_from (base + shift)) shape next next le (λ k s.
      ap (λ (n : ℕ). variable n s) (let e : base + shift + (next + k) ≡ base + (next + k) + shift = omega arith in e)
      ∙ sym (raise_high base base shift (le_refl base) (base + (next + k)) s (omega arith)))

  pub later_leaf : (b : Behaviour) → AreOver data_ canon specification b → (base shift : ℕ) (shape : Shape) (next : ℕ)
      → first_apart specification.processes b ≤ base → open_move data_ canon specification.processes base shape (next + shift) b
      ≡ option_map (move_with (raised_from base shift)) (open_move data_ canon specification.processes base shape next b)
  later_leaf b over base shift shape next le =
      raised_move b over base shift (leaves_from base) shape next (next + shift) le (λ k s.
      ap (λ (n : ℕ). variable n s) (let e : base + (next + shift + k) ≡ base + (next + k) + shift = omega arith in e)
      ∙ sym (raise_high base base shift (le_refl base) (base + (next + k)) s (omega arith)))

  pub same_drafts : (b : Behaviour) → AreOver data_ canon specification b → (base : ℕ) (shape : Shape)
      → first_apart specification.processes b ≤ base → draft_of data_ canon specification.processes shape b ≡ option_map
      (draft_by shape base) (open_move data_ canon specification.processes base shape 0 b)
  same_drafts b over base shape le =
      let first : ℕ = first_apart specification.processes b in
      let e : first_apart specification.processes b + (base - first_apart specification.processes b) ≡ base = omega (arith, le) in
      let le_first : first_apart specification.processes b ≤ first_apart specification.processes b = omega arith in
      subst (λ (n : ℕ). draft_of data_ canon specification.processes shape b ≡ option_map (draft_by shape n)
      (open_move data_ canon specification.processes n shape 0 b)) e
      (sym (ap (option_map (draft_by shape (first_apart specification.processes b + (base - first_apart specification.processes b))))
      (later_variable b over (first_apart specification.processes b)
      (base - first_apart specification.processes b) shape 0 le_first)
      ∙ map_twice (move_with (raised_from (first_apart specification.processes b) (base - first_apart specification.processes b)))
      (draft_by shape (first_apart specification.processes b + (base - first_apart specification.processes b)))
      (draft_by shape (first_apart specification.processes b))
      (draft_raised (first_apart specification.processes b) (base - first_apart specification.processes b) shape)
      (open_move data_ canon specification.processes (first_apart specification.processes b) shape 0 b)))
