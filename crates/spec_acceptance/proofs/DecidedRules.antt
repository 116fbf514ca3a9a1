-- Precedences that order the operations of a signature alike, with the same statuses, orient equations over it alike.
use Rattle.std.proofs.Common.{refl, sym, ◌≡◌, ◌<◌, subst, ℕ, zero, suc, List, [], ◌∷◌, length, None, Some, slice_get}
use Rattle.std.proofs.lemmas.Option.{same_Some, slice_get_within}
use Rattle.lotos_base.specs.Signature.{Signature}
use Rattle.lotos_base.specs.Term.{Term, variable, node, Terms, no_terms, term_then}
use Rattle.lotos_base.specs.Sorting.{HasSort, HaveSorts}
use Rattle.lotos_base.specs.Equation.{Equation, Data, IsEquationOver, IsWellFormedData}
use Rattle.lotos_base.specs.Equality.{Direction, forward, backward, old_side, new_side}
use Rattle.rewriting_theory.specs.Rule.{Rule}
use Rattle.rewriting_theory.specs.Precedence.{Status, Precedence, IsOver}
use Rattle.rewriting_theory.specs.PathOrder.{IsGreater}
use Rattle.rewriting_theory.specs.OrderFamily.{Exceeds, by_occurrence, by_argument, by_operation, by_comparison, SomeReaches, is_first, first_exceeds, among_rest, ExceedsAll, than_none, than_first, ListExceeds, left_here, left_later, right_here, right_later}
use Rattle.rewriting_theory.specs.Orientation.{NumberedRule, TurnsToSmaller, GiveRules, no_more, dropped, turned_next, IsOrientation, IsUnorientable, IsFirstUnorientable}
use Rattle.rewriting_theory.proofs.OrderPlaceLemmas.{exceeds_greater, greater_exceeds}
use Rattle.rewriting_theory.proofs.OrientationLemmas.{given_once, given_orientable, first_once}

-- ---- Terms whose operations have small numbers

abbrev mutual
  pub Within : ℕ → Term → Type 0
  Within n (variable m s) = Unit {0}
  Within n (node f ts) = (f < n) × AllWithin n ts

  pub AllWithin : ℕ → Terms → Type 0
  AllWithin n no_terms = Unit {0}
  AllWithin n (term_then t ts) = Within n t × AllWithin n ts

mutual
  sorted_within : (signature : Signature) (t : Term) (s : ℕ) → HasSort signature t s → Within (length signature.operations) t
  sorted_within signature (variable m r) s is = tt
  sorted_within signature (node f ts) s is =
      (slice_get_within signature.operations f is.0 is.1, all_sorted_within signature ts is.0.arguments is.3)

  all_sorted_within : (signature : Signature) (ts : Terms) (ss : List ℕ) → HaveSorts signature ts ss
      → AllWithin (length signature.operations) ts
  all_sorted_within signature no_terms ss are = tt
  all_sorted_within signature (term_then t ts) [] are = absurd are
  all_sorted_within signature (term_then t ts) (s ∷ ss) are =
      (sorted_within signature t s are.0, all_sorted_within signature ts ss are.1)

-- the sides of each equation
abbrev pub SidesWithin : ℕ → List Equation → Type 0
SidesWithin n [] = Unit {0}
SidesWithin n (e ∷ es) = (Within n e.left × Within n e.right) × SidesWithin n es

sides_within : (signature : Signature) (es : List Equation)
    → ((k : ℕ) (e : Equation) → slice_get es k ≡ Some e → IsEquationOver signature e) → SidesWithin (length signature.operations) es
sides_within signature [] over = tt
sides_within signature (e ∷ es) over =
    let is = over zero e refl in (
      (sorted_within signature e.left is.sort is.left_sort, sorted_within signature e.right is.sort is.right_sort),
      sides_within signature es (λ k other there. over (suc k) other there),
    )

pub data_within : (data_ : Data) → IsWellFormedData data_ → SidesWithin (length data_.signature.operations) data_.equations
data_within data_ well = sides_within data_.signature data_.equations (λ k e there. well.equations e (k, there))

sides_at : (n : ℕ) (es : List Equation) (k : ℕ) (e : Equation) → SidesWithin n es → slice_get es k ≡ Some e
    → Within n e.left × Within n e.right
sides_at n [] k e within there = let none : None ≡ Some e = there in cc
sides_at n (o ∷ es) zero e within there =
    subst (λ (x : Equation). Within n x.left × Within n x.right) (same_Some o e there) within.0
sides_at n (o ∷ es) (suc k) e within there = sides_at n es k e within.1 there

old_within : (n : ℕ) (direction : Direction) (e : Equation) → Within n e.left × Within n e.right → Within n (old_side direction e)
old_within n forward e within = within.0
old_within n backward e within = within.1

new_within : (n : ℕ) (direction : Direction) (e : Equation) → Within n e.left × Within n e.right → Within n (new_side direction e)
new_within n forward e within = within.1
new_within n backward e within = within.0

-- ---- The order

module _ (n : ℕ) (p q : Precedence) (over : (f g : ℕ) → f < n → g < n → IsOver p f g → IsOver q f g)
    (statuses : (f : ℕ) → p.status f ≡ q.status f) where
  mutual
    exceeds_also : {t u : Term} → Within n t → Within n u → Exceeds p t u → Exceeds q t u
    exceeds_also in_t in_u (by_occurrence occurs) = by_occurrence occurs
    exceeds_also in_t in_u (by_argument some) = by_argument (some_also in_t.1 in_u some)
    exceeds_also in_t in_u (by_operation {f = f} {g = g} above all) =
        by_operation (over f g in_t.0 in_u.0 above) (all_also in_t in_u.1 all)
    exceeds_also in_t in_u (by_comparison {f = f} {ts = ts} {us = us} all lists) =
        by_comparison (all_also in_t in_u.1 all)
        (subst (λ (s : Status). ListExceeds q s ts us) (statuses f) (lists_also in_t.1 in_u.1 lists))

    some_also : {ts : Terms} {u : Term} → AllWithin n ts → Within n u → SomeReaches p ts u → SomeReaches q ts u
    some_also in_ts in_u is_first = is_first
    some_also in_ts in_u (first_exceeds is) = first_exceeds (exceeds_also in_ts.0 in_u is)
    some_also in_ts in_u (among_rest is) = among_rest (some_also in_ts.1 in_u is)

    all_also : {t : Term} {us : Terms} → Within n t → AllWithin n us → ExceedsAll p t us → ExceedsAll q t us
    all_also in_t in_us than_none = than_none
    all_also in_t in_us (than_first is more) = than_first (exceeds_also in_t in_us.0 is) (all_also in_t in_us.1 more)

    lists_also : {status : Status} {ts us : Terms} → AllWithin n ts → AllWithin n us → ListExceeds p status ts us
        → ListExceeds q status ts us
    lists_also in_ts in_us (left_here is length) = left_here (exceeds_also in_ts.0 in_us.0 is) length
    lists_also in_ts in_us (left_later is) = left_later (lists_also in_ts.1 in_us.1 is)
    lists_also in_ts in_us (right_here is) = right_here (exceeds_also in_ts.0 in_us.0 is)
    lists_also in_ts in_us (right_later is) = right_later (lists_also in_ts.1 in_us.1 is)

  pub greater_also : (t u : Term) → Within n t → Within n u → IsGreater p t u → IsGreater q t u
  greater_also t u in_t in_u is = exceeds_greater (exceeds_also in_t in_u (greater_exceeds is))

-- the two precedences order terms within alike
pub record AreAlike (n : ℕ) (p q : Precedence) : Type 0 where
  pub there : (t u : Term) → Within n t → Within n u → IsGreater p t u → IsGreater q t u
  pub back : (t u : Term) → Within n t → Within n u → IsGreater q t u → IsGreater p t u

-- ---- Orientation

turns_also : (n : ℕ) (p q : Precedence) → AreAlike n p q → (direction : Direction) (e : Equation) (rule : Rule)
    → Within n e.left × Within n e.right → TurnsToSmaller p direction e rule → TurnsToSmaller q direction e rule
turns_also n p q alike direction e rule within turns = record {
  turned = turns.turned;
  greater =
      alike.there rule.left rule.right
      (subst (λ (t : Term). Within n t) (sym turns.turned.left) (old_within n direction e within))
      (subst (λ (t : Term). Within n t) (sym turns.turned.right) (new_within n direction e within)) turns.greater;
}

rules_also : (n : ℕ) (p q : Precedence) → AreAlike n p q → {k : ℕ} {es : List Equation} {rules : List NumberedRule}
    → SidesWithin n es → GiveRules p k es rules → GiveRules q k es rules
rules_also n p q alike within no_more = no_more
rules_also n p q alike within (dropped same rest) = dropped same (rules_also n p q alike within.1 rest)
rules_also n p q alike within (turned_next {equation = e} {first = first} direction number differ turns rest) =
    turned_next direction number differ (turns_also n p q alike direction e first.rule within.0 turns)
    (rules_also n p q alike within.1 rest)

unorientable_also : (n : ℕ) (p q : Precedence) → AreAlike n p q → (e : Equation) → Within n e.left × Within n e.right
    → IsUnorientable p e → IsUnorientable q e
unorientable_also n p q alike e within not = record {
  differ = not.differ;
  not_left = λ greater. not.not_left (alike.back e.left e.right within.0 within.1 greater);
  not_right = λ greater. not.not_right (alike.back e.right e.left within.1 within.0 greater);
}

abbrev turned_alike : (n : ℕ) (p q : Precedence) → AreAlike n p q → AreAlike n q p
turned_alike n p q alike = record { there = alike.back; back = alike.there }

first_also : (n : ℕ) (p q : Precedence) → AreAlike n p q → (es : List Equation) (number : ℕ) → SidesWithin n es
    → IsFirstUnorientable p es number → IsFirstUnorientable q es number
first_also n p q alike es number within is = record {
  equation = is.equation;
  is_at = is.is_at;
  unorientable =
      unorientable_also n p q alike is.equation (sides_at n es number is.equation within is.is_at) is.unorientable;
  none_before = λ k earlier less there not.
      is.none_before k earlier less there
      (unorientable_also n q p (turned_alike n p q alike) earlier (sides_at n es k earlier within there) not);
}

-- ---- Data have one list of rules, or one first equation that cannot be oriented, by both

pub rules_once : (n : ℕ) (p q : Precedence) → AreAlike n p q → (data_ : Data) (rules others : List NumberedRule)
    → SidesWithin n data_.equations → IsOrientation p data_ rules → IsOrientation q data_ others → rules ≡ others
rules_once n p q alike data_ rules others within is also = given_once (rules_also n p q alike within is) also

pub equation_once : (n : ℕ) (p q : Precedence) → AreAlike n p q → (es : List Equation) (number other : ℕ) → SidesWithin n es
    → IsFirstUnorientable p es number → IsFirstUnorientable q es other → number ≡ other
equation_once n p q alike es number other within is also =
    first_once q es number other (first_also n p q alike es number within is) also

pub not_rules_and_equation : (n : ℕ) (p q : Precedence) → AreAlike n p q → (data_ : Data) (rules : List NumberedRule) (number : ℕ)
    → SidesWithin n data_.equations → IsOrientation p data_ rules → IsFirstUnorientable q data_.equations number → ⊥
not_rules_and_equation n p q alike data_ rules number within is first =
    given_orientable (rules_also n p q alike within is) number first.equation first.is_at first.unorientable
