-- The order of places and of faults.
use Rattle.std.proofs.Common.{◌≡◌, ◌<◌, ℕ, List, [], ◌∷◌, ◌++◌, nat_eq, nat_lt, Bool, true, false, ◌&&◌, ◌||◌, if◌then◌else◌, inl, inr, refl, ap, sym, ◌∙◌, subst, arith}
use Rattle.std.specs.Prelude.{◌⊎◌}
use Rattle.std.proofs.lemmas.Bool.{ltb-true, lt-ltb, eqb-true, eq-eqb, or_cases, or_left, and_from, or_right}
use Rattle.std.specs.Cmp.{first_so, second_so}
use Rattle.lotos_base.specs.Equation.{Place}
use Rattle.lotos_base.proofs.Numbers.{compared}
use Rattle.scope_parts.specs.ScopeFault.{ScopeFault, fault_place, stands_before, first_fault_of_two}
use Rattle.scope_parts.specs.Order.{IsOneOfPlaces, StandWhollyBefore, rank, NotAfter}

-- ---- Lists of places

pub in_left : (p : Place) (ps qs : List Place) → IsOneOfPlaces p ps → IsOneOfPlaces p (ps ++ qs)
in_left p [] qs is = absurd is
in_left p (q ∷ ps) qs (inl is) = inl is
in_left p (q ∷ ps) qs (inr is) = inr (in_left p ps qs is)

pub in_right : (p : Place) (ps qs : List Place) → IsOneOfPlaces p qs → IsOneOfPlaces p (ps ++ qs)
in_right p [] qs is = is
in_right p (q ∷ ps) qs is = inr (in_right p ps qs is)

pub in_either : (p : Place) (ps qs : List Place) → IsOneOfPlaces p (ps ++ qs) → IsOneOfPlaces p ps ⊎ IsOneOfPlaces p qs
in_either p [] qs is = inr is
in_either p (q ∷ ps) qs (inl is) = inl (inl is)
in_either p (q ∷ ps) qs (inr is) = by_rest (in_either p ps qs is)
  where
    by_rest : IsOneOfPlaces p ps ⊎ IsOneOfPlaces p qs → IsOneOfPlaces p (q ∷ ps) ⊎ IsOneOfPlaces p qs
    by_rest (inl there) = inl (inr there)
    by_rest (inr there) = inr there

-- a list before two lists is before both together, and two lists are before one
pub before_both : (ps qs rs : List Place) → StandWhollyBefore ps qs → StandWhollyBefore ps rs → StandWhollyBefore ps (qs ++ rs)
before_both ps qs rs first later p q here there = by_side (in_either q qs rs there)
  where
    by_side : IsOneOfPlaces q qs ⊎ IsOneOfPlaces q rs → stands_before p q ≡ true
    by_side (inl is) = first p q here is
    by_side (inr is) = later p q here is

pub both_before : (ps qs rs : List Place) → StandWhollyBefore ps rs → StandWhollyBefore qs rs → StandWhollyBefore (ps ++ qs) rs
both_before ps qs rs first later p q here there = by_side (in_either p ps qs here)
  where
    by_side : IsOneOfPlaces p ps ⊎ IsOneOfPlaces p qs → stands_before p q ≡ true
    by_side (inl is) = first p q is there
    by_side (inr is) = later p q is there

-- ---- Places

abbrev LaterColumn : Place → Place → Type 0
LaterColumn p q = (p.line < q.line) ⊎ ((p.line ≡ q.line) × (p.column < q.column))

abbrev Earlier : Place → Place → Type 0
Earlier p q = (p.text < q.text) ⊎ ((p.text ≡ q.text) × LaterColumn p q)

to_column : (p q : Place) → (nat_lt p.line q.line || (nat_eq p.line q.line && nat_lt p.column q.column)) ≡ true → LaterColumn p q
to_column p q e = by_side (or_cases (nat_lt p.line q.line) (nat_eq p.line q.line && nat_lt p.column q.column) e)
  where
    by_side : (nat_lt p.line q.line ≡ true) ⊎ ((nat_eq p.line q.line && nat_lt p.column q.column) ≡ true) → LaterColumn p q
    by_side (inl is) = inl (ltb-true p.line q.line is)
    by_side (inr is) = inr (
      eqb-true p.line q.line (first_so (nat_eq p.line q.line) (nat_lt p.column q.column) is),
      ltb-true p.column q.column (second_so (nat_eq p.line q.line) (nat_lt p.column q.column) is),
    )

to_earlier : (p q : Place) → stands_before p q ≡ true → Earlier p q
to_earlier p q e =
    by_side
    (or_cases (nat_lt p.text q.text)
    (nat_eq p.text q.text && (nat_lt p.line q.line || (nat_eq p.line q.line && nat_lt p.column q.column))) e)
  where
    by_side : (nat_lt p.text q.text ≡ true)
        ⊎ ((nat_eq p.text q.text && (nat_lt p.line q.line || (nat_eq p.line q.line && nat_lt p.column q.column))) ≡ true) → Earlier p q
    by_side (inl is) = inl (ltb-true p.text q.text is)
    by_side (inr is) = inr (
      eqb-true p.text q.text (first_so (nat_eq p.text q.text) _ is),
      to_column p q (second_so (nat_eq p.text q.text) _ is),
    )

from_column : (p q : Place) → LaterColumn p q → (nat_lt p.line q.line || (nat_eq p.line q.line && nat_lt p.column q.column)) ≡ true
from_column p q (inl is) = or_left (nat_lt p.line q.line) _ (lt-ltb p.line q.line is)
from_column p q (inr is) =
    or_right (nat_lt p.line q.line) (nat_eq p.line q.line && nat_lt p.column q.column)
    (and_from (nat_eq p.line q.line) (nat_lt p.column q.column) (eq-eqb p.line q.line is.0) (lt-ltb p.column q.column is.1))

from_earlier : (p q : Place) → Earlier p q → stands_before p q ≡ true
from_earlier p q (inl is) = or_left (nat_lt p.text q.text) _ (lt-ltb p.text q.text is)
from_earlier p q (inr is) =
    or_right (nat_lt p.text q.text) (nat_eq p.text q.text && (nat_lt p.line q.line || (nat_eq p.line q.line && nat_lt p.column q.column)))
    (and_from (nat_eq p.text q.text) (nat_lt p.line q.line || (nat_eq p.line q.line && nat_lt p.column q.column))
    (eq-eqb p.text q.text is.0) (from_column p q is.1))

column_next : (p q r : Place) → LaterColumn p q → LaterColumn q r → LaterColumn p r
column_next p q r (inl h) (inl k) = inl (omega (arith, h, k))
column_next p q r (inl h) (inr k) = inl (omega (arith, h, k.0))
column_next p q r (inr h) (inl k) = inl (omega (arith, h.0, k))
column_next p q r (inr h) (inr k) = inr (h.0 ∙ k.0, omega (arith, h.1, k.1))

earlier_next : (p q r : Place) → Earlier p q → Earlier q r → Earlier p r
earlier_next p q r (inl h) (inl k) = inl (omega (arith, h, k))
earlier_next p q r (inl h) (inr k) = inl (omega (arith, h, k.0))
earlier_next p q r (inr h) (inl k) = inl (omega (arith, h.0, k))
earlier_next p q r (inr h) (inr k) = inr (h.0 ∙ k.0, column_next p q r h.1 k.1)

pub before_next : (p q r : Place) → stands_before p q ≡ true → stands_before q r ≡ true → stands_before p r ≡ true
before_next p q r h k = from_earlier p r (earlier_next p q r (to_earlier p q h) (to_earlier q r k))

-- of two places one is before the other, or they are one
pub one_before : (p q : Place) → (Earlier p q) ⊎ ((p ≡ q) ⊎ (Earlier q p))
one_before p q = by_text (compared p.text q.text)
  where
    one_place : p.text ≡ q.text → p.line ≡ q.line → p.column ≡ q.column → p ≡ q
    one_place a b c =
        ap (λ (n : ℕ). record { text = n; line = p.line; column = p.column }) a
        ∙ ap (λ (n : ℕ). record { text = q.text; line = n; column = p.column }) b
        ∙ ap (λ (n : ℕ). record { text = q.text; line = q.line; column = n }) c

    by_column : p.text ≡ q.text → p.line ≡ q.line → (p.column < q.column) ⊎ ((p.column ≡ q.column) ⊎ (q.column < p.column))
        → (Earlier p q) ⊎ ((p ≡ q) ⊎ (Earlier q p))
    by_column a b (inl is) = inl (inr (a, inr (b, is)))
    by_column a b (inr (inl is)) = inr (inl (one_place a b is))
    by_column a b (inr (inr is)) = inr (inr (inr (sym a, inr (sym b, is))))

    by_line : p.text ≡ q.text → (p.line < q.line) ⊎ ((p.line ≡ q.line) ⊎ (q.line < p.line)) → (Earlier p q) ⊎ ((p ≡ q) ⊎ (Earlier q p))
    by_line a (inl is) = inl (inr (a, inl is))
    by_line a (inr (inl is)) = by_column a is (compared p.column q.column)
    by_line a (inr (inr is)) = inr (inr (inr (sym a, inl is)))

    by_text : (p.text < q.text) ⊎ ((p.text ≡ q.text) ⊎ (q.text < p.text)) → (Earlier p q) ⊎ ((p ≡ q) ⊎ (Earlier q p))
    by_text (inl is) = inl (inl is)
    by_text (inr (inl is)) = by_line is (compared p.line q.line)
    by_text (inr (inr is)) = inr (inr (inl is))

pub not_before : (p q : Place) → stands_before p q ≡ false → (stands_before q p ≡ true) ⊎ (q ≡ p)
not_before p q e = by_side (one_before p q)
  where
    by_side : (Earlier p q) ⊎ ((p ≡ q) ⊎ (Earlier q p)) → (stands_before q p ≡ true) ⊎ (q ≡ p)
    by_side (inl is) = absurd (let before = from_earlier p q is in let no : ⊥ = cc in no)
    by_side (inr (inl is)) = inr (sym is)
    by_side (inr (inr is)) = inl (from_earlier q p is)

-- ---- Faults

pub same_not_after : (f g : ScopeFault) → f ≡ g → NotAfter f g
same_not_after f g same = inr (ap fault_place same, let ranks : rank f ≡ rank g = ap rank same in omega (arith, ranks))

pub not_after_next : (f g h : ScopeFault) → NotAfter f g → NotAfter g h → NotAfter f h
not_after_next f g h (inl a) (inl b) = inl (before_next (fault_place f) (fault_place g) (fault_place h) a b)
not_after_next f g h (inl a) (inr b) = inl (subst (λ (p : Place). stands_before (fault_place f) p ≡ true) b.0 a)
not_after_next f g h (inr a) (inl b) = inl (subst (λ (p : Place). stands_before p (fault_place h) ≡ true) (sym a.0) b)
not_after_next f g h (inr a) (inr b) = inr (a.0 ∙ b.0, omega (arith, a.1, b.1))

-- the first of two faults comes after neither
pub first_not_after : (d o : ScopeFault) → rank d ≡ 0 → NotAfter (first_fault_of_two d o) d × NotAfter (first_fault_of_two d o) o
first_not_after d o least = by_test (stands_before (fault_place o) (fault_place d)) refl
  where
    by_place : (stands_before (fault_place d) (fault_place o) ≡ true) ⊎ (fault_place d ≡ fault_place o) → NotAfter d o
    by_place (inl is) = inl is
    by_place (inr is) = inr (is, omega (arith, least))

    by_test : (b : Bool) → stands_before (fault_place o) (fault_place d) ≡ b
        → NotAfter (if b then o else d) d × NotAfter (if b then o else d) o
    by_test true e = (inl e, same_not_after o o refl)
    by_test false e = (same_not_after d d refl, by_place (not_before (fault_place o) (fault_place d) e))

-- what both faults have the first of them has
pub first_has : (P : ScopeFault → Type 0) (d o : ScopeFault) → P d → P o → P (first_fault_of_two d o)
first_has P d o h k = by_test (stands_before (fault_place o) (fault_place d))
  where
    by_test : (b : Bool) → P (if b then o else d)
    by_test true = k
    by_test false = h
