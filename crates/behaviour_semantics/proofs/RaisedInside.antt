-- Higher numbers for the leaves of a behaviour whose variables in scope have got terms over earlier leaves.
use Rattle.std.proofs.Common.{◌≡◌, ◌<◌, ◌≤◌, inr, ℕ, ◌+◌, List, [], ◌∷◌, ◌++◌, length, map, option_map, refl, ap, sym, ◌∙◌, subst, arith}
use Rattle.std.proofs.lemmas.List.{append-nil}
use Rattle.lotos_base.specs.Term.{Term, variable}
use Rattle.lotos_base.specs.Equation.{Data, Variable}
use Rattle.lotos_base.specs.Equality.{same_term}
use Rattle.lotos_base.specs.Canon.{IsCanon}
use Rattle.lotos_base.specs.Substitution.{Substitution, substituted}
use Rattle.lotos_base.proofs.SubstitutionLemmas.{substituted_agree, substituted_variables}
use Rattle.behaviour_semantics.specs.Behaviour.{Behaviour, Specification, sorts_of}
use Rattle.behaviour_semantics.specs.Replacement.{with_values, binding_of}
use Rattle.behaviour_semantics.specs.Shape.{Shape}
use Rattle.behaviour_semantics.specs.Draft.{above, above_variables, above_processes, leaves_from, first_apart}
use Rattle.behaviour_semantics.specs.Join.{move_with, raised_from}
use Rattle.behaviour_semantics.specs.WellFormed.{AreBinders, IsBehaviour, IsSpecification}
use Rattle.behaviour_semantics.specs.NumberingLaws.{open_move, AreOverLeaves}
use Rattle.behaviour_semantics.proofs.EnvironmentLemmas.{behaviour_agrees}
use Rattle.behaviour_semantics.proofs.ReplacementLemmas.{unchanged}
use Rattle.behaviour_semantics.proofs.RelatedTerms.{Side, Related, Binders, RelatedTerms, none_related, one_related, bindings_put}
use Rattle.behaviour_semantics.proofs.RelatedBehaviours.{Beside, put_beside}
use Rattle.behaviour_semantics.proofs.SameBehaviours.{Low, low_nothing, low_more, binders_of, same_beside}
use Rattle.behaviour_semantics.proofs.RaisedTerms.{AreLow, AreFar, raise_low, raise_high, behaviour_commutes}
use Rattle.behaviour_semantics.proofs.RaisedMoves.{open_side, low_of, low_scope, natural_moves}

module _ (data_ : Data) (canon : Term → Term) (specification : Specification) (is_canon : IsCanon data_ canon)
    (well_formed : IsSpecification data_.signature specification) (base next shift : ℕ)
    (le_processes : above_processes specification.processes ≤ base) where
  abbrev raise : Substitution
  raise = raised_from (base + next) shift

  le_limit : base ≤ base + next
  le_limit = omega arith

  abbrev side : Side
  side = open_side data_ base (base + next) shift le_limit specification well_formed le_processes canon is_canon (leaves_from base)

  -- Terms over earlier leaves are related to themselves, have far variables, and stay.
  over_related : (variables : List Variable) (terms : List Term) → AreOverLeaves data_.signature base (base + next) variables terms
      → RelatedTerms data_ base side side [] (sorts_of variables) terms terms
  over_related [] [] h = none_related
  over_related (z ∷ variables) (t ∷ terms) h = one_related one (over_related variables terms h.1)
    where
      one : Related data_ base side side [] z.sort t t
      one = record {
        left_sorted = h.0.sorted;
        right_sorted = h.0.sorted;
        left_free = λ n r o. inr ((h.0.leaves n r o).0, tt);
        right_free = λ n r o. inr ((h.0.leaves n r o).0, tt);
        equal = λ left right values grounds. same_term _;
      }
  over_related [] (t ∷ terms) h = absurd h
  over_related (z ∷ variables) [] h = absurd h

  over_far : (variables : List Variable) (terms : List Term) → AreOverLeaves data_.signature base (base + next) variables terms
      → AreFar base terms
  over_far [] [] h = tt
  over_far (z ∷ variables) (t ∷ terms) h = (λ n r o. (h.0.leaves n r o).0, over_far variables terms h.1)
  over_far [] (t ∷ terms) h = absurd h
  over_far (z ∷ variables) [] h = absurd h

  over_stays : (variables : List Variable) (terms : List Term) → AreOverLeaves data_.signature base (base + next) variables terms
      → map (substituted raise) terms ≡ terms
  over_stays [] [] h = refl
  over_stays (z ∷ variables) (t ∷ terms) h =
      let head : substituted raise t ≡ t =
      substituted_agree raise variable t (λ n s o. raise_low base (base + next) shift le_limit n s (h.0.leaves n s o).1)
      ∙ substituted_variables t in
      let tail : map (substituted raise) terms ≡ terms = over_stays variables terms h.1 in
      cc (head, tail)
  over_stays [] (t ∷ terms) h = absurd h
  over_stays (z ∷ variables) [] h = absurd h

  module _ (variables : List Variable) (terms : List Term) (b : Behaviour) (are_binders : AreBinders data_.signature variables)
      (inside : IsBehaviour data_.signature (length specification.gate_names) specification.processes variables b)
      (le_b : above b ≤ base) (le_variables : above_variables variables ≤ base)
      (over : AreOverLeaves data_.signature base (base + next) variables terms) where
    abbrev put : Behaviour
    put = with_values (binding_of variables terms) b

    binders : Binders data_ base variables
    binders = binders_of data_ base variables le_variables are_binders.1

    low : AreLow base variables
    low = low_of data_ base (base + next) shift le_limit specification well_formed le_processes canon is_canon
        (leaves_from base) variables binders

    in_scope : Beside data_ base specification.processes side side (variables ++ []) b b
    in_scope =
        let all_low : Low data_ base variables = subst (Low data_ base) (append-nil variables)
        (low_more data_ base variables [] binders (low_nothing data_ base)) in
        subst (λ (scope : List Variable). Beside data_ base specification.processes side side scope b b) (sym (append-nil variables))
        (same_beside data_ base side side _ specification.processes variables b all_low le_b inside)

    put_in : Beside data_ base specification.processes side side [] put put
    put_in = put_beside data_ base specification.processes (bindings_put data_ base variables terms terms binders
        (over_related variables terms over)) in_scope

    b_stays : with_values raise b ≡ b
    b_stays =
        behaviour_agrees data_.signature (length specification.gate_names) specification.processes variables raise variable
        (λ n s e.
        let lt : n < base = low_scope data_ base (base + next) shift le_limit specification well_formed le_processes canon is_canon
        (leaves_from base) variables low n s e in
        raise_low base (base + next) shift le_limit n s (omega (arith, lt))) b inside
        ∙ unchanged b

    put_stays : with_values raise put ≡ put
    put_stays =
        sym (behaviour_commutes base (base + next) shift le_limit variables terms low (over_far variables terms over) b le_b)
        ∙ (ap (λ (ts : List Term). with_values (binding_of variables ts) (with_values raise b)) (over_stays variables terms over)
        ∙ ap (with_values (binding_of variables terms)) b_stays)

    pub raised_inside : (shape : Shape) → open_move data_ canon specification.processes base shape (next + shift) put ≡ option_map
        (move_with raise) (open_move data_ canon specification.processes base shape next put)
    raised_inside shape =
        ap (open_move data_ canon specification.processes base shape (next + shift)) (sym put_stays)
        ∙ natural_moves data_ base (base + next) shift le_limit specification well_formed le_processes canon is_canon
        (leaves_from base) shape next (next + shift)
        (λ k s.
        ap (λ (n : ℕ). variable n s) (let e : base + (next + shift + k) ≡ base + (next + k) + shift = omega arith in e)
        ∙ sym (raise_high base (base + next) shift le_limit (base + (next + k)) s (omega arith))) put put put_in

pub later_leaf_inside : (data_ : Data) (canon : Term → Term) (specification : Specification) (variables : List Variable)
    (terms : List Term) (b : Behaviour) → IsCanon data_ canon → IsSpecification data_.signature specification
    → AreBinders data_.signature variables → IsBehaviour data_.signature
    (length specification.gate_names) specification.processes variables b → (base shift : ℕ) (shape : Shape) (next : ℕ)
    → first_apart specification.processes b ≤ base → above_variables variables ≤ base
    → AreOverLeaves data_.signature base (base + next) variables terms
    → open_move data_ canon specification.processes base shape (next + shift) (with_values (binding_of variables terms) b) ≡ option_map
    (move_with (raised_from (base + next) shift)) (open_move data_ canon specification.processes base shape next
    (with_values (binding_of variables terms) b))
later_leaf_inside data_ canon specification variables terms b is_canon well_formed are_binders inside base shift shape next le
    le_variables over =
    raised_inside data_ canon specification is_canon well_formed base next shift
    (omega (arith, le)) variables terms b are_binders inside (omega (arith, le)) le_variables over shape
