-- Faults of the equations of a type and their causes.
use Rattle.std.proofs.Common.{◌≡◌, ◌⊎◌, inl, inr, ◌+◌, ℕ, suc, Bool, true, false, ◌&&◌, ◌||◌, nat_eq, nat_lt, List, [], ◌∷◌, ◌++◌, length, Option, None, Some, refl, ap, sym, ◌∙◌, subst, arith, codes, eqb-true, length-append}
use Rattle.std.specs.List.{list_any}
use Rattle.std.proofs.lemmas.Bool.{eq-eqb, both_ways, and_from, and_parts}
use Rattle.std.proofs.lemmas.Map.Keys.{any_passes_from_place}
use Rattle.lotos_base.specs.Equation.{Variable, Equation}
use Rattle.lotos_base.specs.Signature.{Sort, Operation, prefix_form}
use Rattle.lotos_base.specs.Term.{Term}
use Rattle.lotos_base.specs.Twins.{form_eq}
use Rattle.lotos_base.specs.WrittenTerm.{WrittenTerm, written_head}
use Rattle.lotos_base.proofs.SignatureLemmas.{Decides-form_eq}
use Rattle.lotos_base.proofs.Tests.{list_any-at}
use Rattle.syntax_trees.specs.WrittenEquation.{WrittenPremiss}
use Rattle.syntax_trees.specs.WrittenVariable.{WrittenVariable}
use Rattle.sort_terms.specs.ReadingOutcome.{ReadingRefusal, answered, refused, SortedTerm, ReadingIs, PairReadingIs, one_name, is_sort_name}
use Rattle.type_definitions.specs.TypeFault.{TypeFault, premised, no_reading}
use Rattle.type_definitions.specs.Presentation.{Presentation, presentation_limit, is_too_large}
use Rattle.type_definitions.specs.Declarations.{sort_numbered}
use Rattle.type_definitions.specs.DeclaredEquations.{AskedEquation, scope_from, scope_of, type_fault_of, bool_sort, has_truth, IsSide, IsSideFault, IsReadPremiss, IsPremissFault, AreReadPremisses, IsFirstPremissFault, equation_of_sides, with_sides, IsFaultOfSides}
use Rattle.type_definitions.proofs.NumberLists.{not_true}
use Rattle.type_flatten.specs.FirstCause.{IsNowhere, FirstAlong, at_once, further_on, stays}
use Rattle.type_flatten.specs.FaultCauses.{Cause}
use Rattle.type_flatten.specs.ReadingCauses.{RefusalCause, TermBrings}
use Rattle.type_flatten.specs.EquationCauses.{ToldAsFault, SideBrings, HasTruth, LacksTruth, PremissBrings, PremissOf, IsTooMuchWith, SidesBring}
use Rattle.type_flatten.proofs.CauseLemmas.{Decides, names_decided, less_decided, either_decided}
use Rattle.type_flatten.proofs.ReadingLemmas.{readings_refused}

-- ---- Tests

none_long : {A : Type 0} (xs : List A) → nat_eq (length xs) 0 ≡ true → xs ≡ []
none_long [] e = refl
none_long (x ∷ xs) e = let same : suc (length xs) ≡ 0 = eqb-true (suc (length xs)) 0 e in absurd (omega (arith, same))

-- ---- Truth

truth_decided : (p : Presentation) → Decides (has_truth p) (HasTruth p)
truth_decided p = (from, to)
  where
    from : has_truth p ≡ true → HasTruth p
    from e =
        let parts = and_parts (is_sort_name p.signature (codes "Bool")) (list_any
        (λ (o : Operation). (one_name o.name (codes "true") && form_eq o.form prefix_form) &&
        (nat_eq (length o.arguments) 0 && nat_eq o.result (bool_sort p))) p.signature.operations) e in
        let sort = list_any-at (λ (s : Sort). one_name s.name (codes "Bool")) p.signature.sorts parts.0 in
        let found = list_any-at
        (λ (o : Operation). (one_name o.name (codes "true") && form_eq o.form prefix_form) &&
        (nat_eq (length o.arguments) 0 && nat_eq o.result (bool_sort p))) p.signature.operations parts.1 in
        let halves = and_parts (one_name found.1.name (codes "true") && form_eq found.1.form prefix_form)
        (nat_eq (length found.1.arguments) 0 && nat_eq found.1.result (bool_sort p)) found.3 in
        let front = and_parts (one_name found.1.name (codes "true")) (form_eq found.1.form prefix_form) halves.0 in
        let back = and_parts (nat_eq (length found.1.arguments) 0) (nat_eq found.1.result (bool_sort p)) halves.1 in
        record {
          i = sort.0;
          sort = sort.1;
          is_sort = sort.2;
          called = (names_decided sort.1.name (codes "Bool")).0 sort.3;
          k = found.0;
          operation = found.1;
          is_operation = found.2;
          named = (names_decided found.1.name (codes "true")).0 front.0;
          formed = (Decides-form_eq found.1.form prefix_form).0 front.1;
          constant = none_long found.1.arguments back.0;
          result = eqb-true found.1.result (bool_sort p) back.1;
        }

    to : HasTruth p → has_truth p ≡ true
    to is =
        and_from (is_sort_name p.signature (codes "Bool")) _
        (any_passes_from_place (λ (s : Sort). one_name s.name (codes "Bool")) p.signature.sorts is.i is.sort is.is_sort
        ((names_decided is.sort.name (codes "Bool")).1 is.called))
        (any_passes_from_place
        (λ (o : Operation). (one_name o.name (codes "true") && form_eq o.form prefix_form) &&
        (nat_eq (length o.arguments) 0 && nat_eq o.result (bool_sort p))) p.signature.operations is.k is.operation is.is_operation
        (and_from (one_name is.operation.name (codes "true") && form_eq is.operation.form prefix_form) _
        (and_from (one_name is.operation.name (codes "true")) (form_eq is.operation.form prefix_form)
        ((names_decided is.operation.name (codes "true")).1 is.named) ((Decides-form_eq is.operation.form prefix_form).1 is.formed))
        (and_from (nat_eq (length is.operation.arguments) 0) (nat_eq is.operation.result (bool_sort p))
        (ap (λ (xs : List ℕ). nat_eq (length xs) 0) is.constant) (eq-eqb is.operation.result (bool_sort p) is.result))))

-- ---- The presentation with these equations. Its sorts and operations stay.

abbrev pub holding : Presentation → List Equation → Presentation
holding p equations = record {
  signature = p.signature;
  equations = equations;
  formal_sorts = p.formal_sorts;
  formal_operations = p.formal_operations;
}

module _ (p : Presentation) where
  same_scope : (es : List Equation) (number : ℕ) (vs : List WrittenVariable) → scope_from (holding p es) number vs ≡ scope_from p number vs
  same_scope es number [] = refl
  same_scope es number (v ∷ vs) =
      ap (λ (rest : List Variable). record { name = v.name; number = number; sort = sort_numbered p v.sort } ∷ rest)
      (same_scope es (suc number) vs)

  -- ---- A side

  module _ (es : List Equation) (asked : AskedEquation) where
    scope : scope_of (holding p es) asked ≡ scope_of p asked
    scope = same_scope es 0 asked.variables

    read_here : (w : WrittenTerm) (s : ℕ) (r : SortedTerm)
        → ReadingIs p.signature (scope_of p asked) w (Some s) (answered r)
        → ReadingIs p.signature (scope_of (holding p es) asked) w (Some s) (answered r)
    read_here w s r is = subst (λ (vs : List Variable). ReadingIs p.signature vs w (Some s) (answered r)) (sym scope) is

    read_there : (w : WrittenTerm) (s : ℕ) (r : SortedTerm)
        → ReadingIs p.signature (scope_of (holding p es) asked) w (Some s) (answered r)
        → ReadingIs p.signature (scope_of p asked) w (Some s) (answered r)
    read_there w s r is = subst (λ (vs : List Variable). ReadingIs p.signature vs w (Some s) (answered r)) scope is

    refused_here : (w : WrittenTerm) (s : ℕ) (r : ReadingRefusal)
        → ReadingIs p.signature (scope_of p asked) w (Some s) (refused r)
        → ReadingIs p.signature (scope_of (holding p es) asked) w (Some s) (refused r)
    refused_here w s r is = subst (λ (vs : List Variable). ReadingIs p.signature vs w (Some s) (refused r)) (sym scope) is

    refused_there : (w : WrittenTerm) (s : ℕ) (r : ReadingRefusal)
        → ReadingIs p.signature (scope_of (holding p es) asked) w (Some s) (refused r)
        → ReadingIs p.signature (scope_of p asked) w (Some s) (refused r)
    refused_there w s r is = subst (λ (vs : List Variable). ReadingIs p.signature vs w (Some s) (refused r)) scope is

    abbrev TermAt : WrittenTerm → ℕ → RefusalCause
    TermAt w s = TermBrings p.signature (scope_of p asked) w (Some s)

    -- the term has a reading at the sort, or a refusal
    no_refusal : (w : WrittenTerm) (s : ℕ) → IsNowhere (ToldAsFault (TermAt w s)) → IsNowhere (TermAt w s)
    no_refusal w s none refusal is = none (type_fault_of refusal) (refusal, is, refl)

    read_of : (w : WrittenTerm) (s : ℕ) → IsNowhere (ToldAsFault (TermAt w s))
        → (r : SortedTerm) × ReadingIs p.signature (scope_of (holding p es) asked) w (Some s) (answered r)
    read_of w s none =
        let found = (readings_refused.read p.signature (scope_of p asked) w (Some s)).0 (no_refusal w s none) in
        (found.0, read_here w s found.0 found.1)

    of_read : (w : WrittenTerm) (s : ℕ) (r : SortedTerm)
        → ReadingIs p.signature (scope_of (holding p es) asked) w (Some s) (answered r) → IsNowhere (ToldAsFault (TermAt w s))
    of_read w s r is fault told =
        (readings_refused.read p.signature (scope_of p asked) w (Some s)).1 (r, read_there w s r is) told.0 told.1

    told_of : (w : WrittenTerm) (s : ℕ) (fault : TypeFault) (r : ReadingRefusal)
        → ReadingIs p.signature (scope_of (holding p es) asked) w (Some s) (refused r) → type_fault_of r ≡ fault
        → ToldAsFault (TermAt w s) fault
    told_of w s fault r is same =
        (r, (readings_refused.terms p.signature (scope_of p asked) w (Some s) r).0 (refused_there w s r is), sym same)

    of_told : (w : WrittenTerm) (s : ℕ) (fault : TypeFault) → ToldAsFault (TermAt w s) fault
        → (r : ReadingRefusal) × ReadingIs p.signature (scope_of (holding p es) asked) w (Some s) (refused r) × (type_fault_of r ≡ fault)
    of_told w s fault told =
        (told.0, refused_here w s told.0 ((readings_refused.terms p.signature (scope_of p asked) w (Some s) told.0).1 told.1), sym told.2)

    abbrev Here : Presentation
    Here = holding p es

    side_read : (w : WrittenTerm) → IsNowhere (SideBrings p asked w) → (t : Term) × IsSide Here asked w t
    side_read w none = let found = read_of w (sort_numbered p asked.sort) none in (found.0.term, (found.0, found.1, refl))

    no_side_fault : (w : WrittenTerm) (t : Term) → IsSide Here asked w t → IsNowhere (SideBrings p asked w)
    no_side_fault w t is = of_read w (sort_numbered p asked.sort) is.0 is.1

    side_told : (w : WrittenTerm) (fault : TypeFault) → IsSideFault Here asked w fault → SideBrings p asked w fault
    side_told w fault is = told_of w (sort_numbered p asked.sort) fault is.0 is.1 is.2

    told_side : (w : WrittenTerm) (fault : TypeFault) → SideBrings p asked w fault → IsSideFault Here asked w fault
    told_side w fault told = of_told w (sort_numbered p asked.sort) fault told

    -- ---- Premisses

    lacks : IsNowhere (λ (fault : TypeFault). Unit {0} × (¬ HasTruth p)) → has_truth p ≡ true
    lacks none = by (has_truth p) refl
      where
        by : (test : Bool) → has_truth p ≡ test → test ≡ true
        by true e = refl
        by false e =
            absurd (none (premised (record { text = 0; line = 0; column = 0 }))
            (tt, λ is. both_ways (has_truth p) e ((truth_decided p).1 is)))

    premiss_told : (left : WrittenTerm) (right : Option WrittenTerm) (fault : TypeFault) → IsPremissFault Here asked left right fault
        → PremissBrings p asked left right fault
    premiss_told left (Some right) fault is = (
      is.0,
      (readings_refused.pairs p.signature (scope_of p asked) left right is.0).0
          (subst (λ (vs : List Variable). PairReadingIs p.signature vs left right (refused is.0)) scope is.1),
      sym is.2,
    )
    premiss_told left None fault (inl is) = inl (is.1, λ has. both_ways (has_truth p) is.0 ((truth_decided p).1 has))
    premiss_told left None fault (inr is) =
        inr ((λ other lacking. lacking.1 ((truth_decided p).0 is.0)), told_of left (bool_sort p) fault is.1.0 is.1.1 is.1.2)

    told_premiss : (left : WrittenTerm) (right : Option WrittenTerm) (fault : TypeFault) → PremissBrings p asked left right fault
        → IsPremissFault Here asked left right fault
    told_premiss left (Some right) fault told = (
      told.0,
      subst (λ (vs : List Variable). PairReadingIs p.signature vs left right (refused told.0)) (sym scope)
          ((readings_refused.pairs p.signature (scope_of p asked) left right told.0).1 told.1),
      sym told.2,
    )
    told_premiss left None fault (inl is) = inl (not_true (has_truth p) (λ e. is.1 ((truth_decided p).0 e)), is.0)
    told_premiss left None fault (inr told) =
        let truth : has_truth p ≡ true =
        lacks (λ other is. told.0 (no_reading (written_head left).place) (refl, is.1)) in
        inr (truth, of_told left (bool_sort p) fault told.1)

    premiss_read : (left : WrittenTerm) (right : Option WrittenTerm) → IsNowhere (PremissBrings p asked left right)
        → IsReadPremiss Here asked left right
    premiss_read left (Some right) none =
        let found = (readings_refused.both_read p.signature (scope_of p asked) left right).0
        (λ refusal is. none (type_fault_of refusal) (refusal, is, refl)) in
        (found.0, subst (λ (vs : List Variable). PairReadingIs p.signature vs left right (answered found.0)) (sym scope) found.1)
    premiss_read left None none =
        let lacking : IsNowhere (LacksTruth p left) = (λ other is. none other (inl is)) in (
          lacks (λ other is. lacking (no_reading (written_head left).place) (refl, is.1)),
          read_of left (bool_sort p) (λ fault told. none fault (inr (lacking, told))),
        )

    no_premiss_fault : (left : WrittenTerm) (right : Option WrittenTerm) → IsReadPremiss Here asked left right
        → IsNowhere (PremissBrings p asked left right)
    no_premiss_fault left (Some right) is fault told =
        (readings_refused.both_read p.signature (scope_of p asked) left right).1
        (is.0, subst (λ (vs : List Variable). PairReadingIs p.signature vs left right (answered is.0)) scope is.1) told.0 told.1
    no_premiss_fault left None is fault (inl lacking) = lacking.1 ((truth_decided p).0 is.0)
    no_premiss_fault left None is fault (inr told) = of_read left (bool_sort p) is.1.0 is.1.1 fault told.1

    pub premisses_told : (ws : List WrittenPremiss) (fault : TypeFault) → IsFirstPremissFault Here asked ws fault
        → FirstAlong (PremissOf p) stays asked ws fault
    premisses_told [] fault is = absurd is
    premisses_told (w ∷ ws) fault (inl is) = at_once (premiss_told w.left w.right fault is)
    premisses_told (w ∷ ws) fault (inr is) = further_on (no_premiss_fault w.left w.right is.0) (premisses_told ws fault is.1)

    pub told_premisses : (ws : List WrittenPremiss) (fault : TypeFault) → FirstAlong (PremissOf p) stays asked ws fault
        → IsFirstPremissFault Here asked ws fault
    told_premisses [] fault along = elim along [ ]
    told_premisses (w ∷ ws) fault (at_once is) = inl (told_premiss w.left w.right fault is)
    told_premisses (w ∷ ws) fault (further_on none more) = inr (premiss_read w.left w.right none, told_premisses ws fault more)

    pub premisses_read : (ws : List WrittenPremiss) → IsNowhere (FirstAlong (PremissOf p) stays asked ws) → AreReadPremisses Here asked ws
    premisses_read [] none = tt
    premisses_read (w ∷ ws) none =
        let first : IsNowhere (PremissOf p asked w) = (λ fault is. none fault (at_once is)) in
        (premiss_read w.left w.right first, premisses_read ws (λ fault more. none fault (further_on first more)))

    pub no_premisses_fault : (ws : List WrittenPremiss) → AreReadPremisses Here asked ws
        → IsNowhere (FirstAlong (PremissOf p) stays asked ws)
    no_premisses_fault [] are fault along = elim along [ ]
    no_premisses_fault (w ∷ ws) are fault (at_once is) = no_premiss_fault w.left w.right are.0 fault is
    no_premisses_fault (w ∷ ws) are fault (further_on none more) = no_premisses_fault ws are.1 fault more

    -- ---- One too many

    pub long : (e : Equation) → length (es ++ e ∷ []) ≡ suc (length es)
    long e = length-append es (e ∷ []) ∙ (let more : length es + 1 ≡ suc (length es) = omega arith in more)

    exceeds : (limit many : ℕ)
        → Decides (nat_lt limit (length p.signature.sorts) || (nat_lt limit (length p.signature.operations) || nat_lt limit (suc many)))
        (IsTooMuchWith limit p many)
    exceeds limit many =
        either_decided _ _ _ _ (less_decided limit (length p.signature.sorts))
        (either_decided _ _ _ _ (less_decided limit (length p.signature.operations)) (less_decided limit (suc many)))

    pub too_much : (left right : Term)
        → Decides (is_too_large (with_sides Here asked left right)) (IsTooMuchWith presentation_limit p (length es))
    too_much left right =
        subst
        (λ (n : ℕ).
        Decides (nat_lt presentation_limit (length p.signature.sorts) ||
        (nat_lt presentation_limit (length p.signature.operations) || nat_lt presentation_limit n))
        (IsTooMuchWith presentation_limit p (length es)))
        (sym (long (equation_of_sides asked.equation.place (scope_of Here asked) left right)))
        (exceeds presentation_limit (length es))

    -- ---- Both sides

    pub sides_told : (Later : Cause) (fault : TypeFault) → IsFaultOfSides Here asked fault → SidesBring p asked Later fault
    sides_told Later fault (inl is) = inl (side_told asked.equation.left fault is)
    sides_told Later fault (inr is) =
        inr (no_side_fault asked.equation.left is.0 is.1, inl (side_told asked.equation.right fault is.2))

    pub later_told : (Later : Cause) (fault : TypeFault) (left right : Term) → IsSide Here asked asked.equation.left left
        → IsSide Here asked asked.equation.right right → Later fault → SidesBring p asked Later fault
    later_told Later fault left right is also later =
        inr (no_side_fault asked.equation.left left is, inr (no_side_fault asked.equation.right right also, later))

    -- the sides have the fault, or both are read and it comes later
    abbrev pub SidesOrLater : Cause → Cause
    SidesOrLater Later fault =
        IsFaultOfSides Here asked fault
        ⊎ ((left : Term) × (right : Term) × IsSide Here asked asked.equation.left left × IsSide Here asked asked.equation.right right
        × Later fault)

    pub told_sides : (Later : Cause) (fault : TypeFault) → SidesBring p asked Later fault → SidesOrLater Later fault
    told_sides Later fault (inl is) = inl (inl (told_side asked.equation.left fault is))
    told_sides Later fault (inr (none, inl is)) =
        let left = side_read asked.equation.left none in inl (inr (left.0, left.1, told_side asked.equation.right fault is))
    told_sides Later fault (inr (none, inr (none_too, later))) =
        let left = side_read asked.equation.left none in
        let right = side_read asked.equation.right none_too in
        inr (left.0, right.0, left.1, right.1, later)

    pub sides_none : (Later : Cause) (left right : Term) → IsSide Here asked asked.equation.left left
        → IsSide Here asked asked.equation.right right → IsNowhere Later → IsNowhere (SidesBring p asked Later)
    sides_none Later left right is also none fault (inl told) = no_side_fault asked.equation.left left is fault told
    sides_none Later left right is also none fault (inr (no_left, inl told)) = no_side_fault asked.equation.right right also fault told
    sides_none Later left right is also none fault (inr (no_left, inr (no_right, later))) = none fault later

    pub none_sides : (Later : Cause) → IsNowhere (SidesBring p asked Later)
        → (left : Term) × (right : Term) × IsSide Here asked asked.equation.left left × IsSide Here asked asked.equation.right right
        × IsNowhere Later
    none_sides Later none =
        let no_left : IsNowhere (SideBrings p asked asked.equation.left) = (λ fault told. none fault (inl told)) in
        let no_right : IsNowhere (SideBrings p asked asked.equation.right) = (λ fault told. none fault (inr (no_left, inl told))) in
        let left = side_read asked.equation.left no_left in
        let right = side_read asked.equation.right no_right in
        (left.0, right.0, left.1, right.1, λ fault later. none fault (inr (no_left, inr (no_right, later))))
