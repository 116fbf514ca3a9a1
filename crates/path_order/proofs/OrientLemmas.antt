-- Orientation equation by equation.
use Rattle.std.proofs.Common.{◌≡◌, ◌≢◌, ℕ, zero, suc, ◌+◌, ◌<◌, List, [], ◌∷◌, ◌++◌, length, get_or, take, map, refl, ap, sym, ◌∙◌, subst, inl, inr, arith, append-nil}
use Rattle.std.specs.Prelude.{Some, slice_get, true}
use Rattle.std.proofs.lemmas.List.{take_more, length-map, length-take-le, map-append}
use Rattle.std.proofs.lemmas.Option.{same_Some}
use Rattle.lotos_base.proofs.Members.{at_map}
use Rattle.lotos_base.specs.Signature.{Signature}
use Rattle.lotos_base.specs.Equation.{Equation as PlainEquation, Data}
use Rattle.lotos_base.specs.Equality.{Direction, forward, backward, old_side, new_side}
use Rattle.rewriting_theory.specs.Precedence.{Precedence}
use Rattle.rewriting_theory.specs.PathOrder.{IsGreater}
use Rattle.rewriting_theory.specs.Orientation.{NumberedRule, rules_of, GiveRules, no_more, dropped, turned_next, IsUnorientable, IsFirstUnorientable}
use Rattle.rewriting_theory.proofs.OrientationLemmas.{turns, given_joined, given_orientable, rules_of_data}
use Rattle.rewriting_theory.proofs.TerminationLemmas.{rewriting_ends, descent_ends}
use Rattle.sort_terms.specs.EquationView.{equation_of, IsSortedFlat}
use Rattle.sort_terms.specs.SignatureView.{signature_of}
use Rattle.sort_terms.specs.SortedView.{profiled_in, term_in}
use Rattle.sort_terms.specs.declared.equations.Equation.{Equation}
use Rattle.sort_terms.specs.declared.equations.Flat.{Flat}
use Rattle.sort_terms.proofs.ProfiledTermLemmas.{sorted_fits}
use Rattle.path_order.specs.declared.rule.Rule.{Rule}
use Rattle.path_order.specs.declared.orient_fault.OrientFault.{OrientFault}
use Rattle.path_order.specs.declared.orient_fault.OrientFault.TheVariants.{Unorientable, NoMemory}
use Rattle.path_order.specs.Extension.{AddsRulesOf, IsEquationOf, StaysOver, Extends}
use Rattle.path_order.specs.MadeRule.{numbered_rule, sides}
use Rattle.path_order.specs.OrientFaultView.{IsOrientFault, IsFaultAt}
use Rattle.path_order.specs.RewritingEnd.{RewritingEndsBy}
use Rattle.path_order.specs.RuleHead.{are_oriented}
use Rattle.path_order.specs.RuleSides.{Sides, all_sides, AreSidesOver, AreAllOver}
use Rattle.path_order.specs.RuleView.{numbered_rules, plain_rules}
use Rattle.path_order.proofs.RulesLemmas.{test_of_oriented}

-- ---- one equation

no_rules : (p : Precedence) (n : ℕ) (equation : PlainEquation) (rules : List NumberedRule) → equation.left ≡ equation.right
    → AddsRulesOf p n equation rules rules
no_rules p n equation rules same = record { rules = []; given = dropped same no_more; joined = sym (append-nil rules) }

one_rule : (p : Precedence) (n : ℕ) (direction : Direction) (equation : PlainEquation) (old new : List NumberedRule)
    → equation.left ≢ equation.right → IsGreater p (old_side direction equation) (new_side direction equation)
    → new ≡ old ++ numbered_rule n (old_side direction equation) (new_side direction equation) ∷ [] → AddsRulesOf p n equation old new
one_rule p n direction equation old new differ greater is = record {
  rules = numbered_rule n (old_side direction equation) (new_side direction equation) ∷ [];
  given = turned_next direction refl differ (turns p direction equation greater) no_more;
  joined = is;
}

all_over_more : (signature : Signature) (xs : List Sides) (x : Sides) → AreAllOver signature xs → AreSidesOver signature x
    → AreAllOver signature (xs ++ x ∷ [])
all_over_more signature [] x over h zero one is = subst (λ (s : Sides). AreSidesOver signature s) (same_Some x one is) h
all_over_more signature [] x over h (suc k) one is = cc
all_over_more signature (y ∷ ys) x over h zero one is = over zero one is
all_over_more signature (y ∷ ys) x over h (suc k) one is = all_over_more signature ys x (λ i s e. over (suc i) s e) h k one is

stays_with : (equation : Equation) (old new : List Rule) (one : Sides) → all_sides new ≡ all_sides old ++ one ∷ []
    → ((signature : Signature) → IsEquationOf signature equation → AreSidesOver signature one) → StaysOver equation old new
stays_with equation old new one is fits signature h over =
    subst (λ (all : List Sides). AreAllOver signature all) (sym is) (all_over_more signature (all_sides old) one over (fits signature h))

forward_sides : (equation : Equation) (signature : Signature) → IsEquationOf signature equation
    → AreSidesOver signature (sides (profiled_in equation.left) (profiled_in equation.right))
forward_sides equation signature h = record {
  left_is_of = h.left_is_of;
  right_is_of = h.right_is_of;
  left_fits = equation.left.fits;
  right_fits = equation.right.fits;
  one_sort = equation.left.headed ∙ h.one_sort ∙ sym equation.right.headed;
  numbers = h.left_numbers;
}

backward_sides : (equation : Equation) (signature : Signature) → IsEquationOf signature equation
    → AreSidesOver signature (sides (profiled_in equation.right) (profiled_in equation.left))
backward_sides equation signature h = record {
  left_is_of = h.right_is_of;
  right_is_of = h.left_is_of;
  left_fits = equation.right.fits;
  right_fits = equation.left.fits;
  one_sort = equation.right.headed ∙ sym h.one_sort ∙ sym equation.left.headed;
  numbers = h.right_numbers;
}

abbrev pub ExtendsBy : Precedence → ℕ → Equation → List Rule → List Rule → Type 0
ExtendsBy p n equation old new = Extends p n (equation_of equation) equation (numbered_rules old) (numbered_rules new) old new

pub extends_by_none : (p : Precedence) (n : ℕ) (equation : Equation) (rules : List Rule)
    → term_in equation.left ≡ term_in equation.right → ExtendsBy p n equation rules rules
extends_by_none p n equation rules same =
    record { adds = no_rules p n (equation_of equation) (numbered_rules rules) same; over = λ signature h over. over }

pub extends_forward : (p : Precedence) (n : ℕ) (equation : Equation) (old new : List Rule)
    → term_in equation.left ≢ term_in equation.right → IsGreater p (term_in equation.left) (term_in equation.right)
    → numbered_rules new ≡ numbered_rules old ++ numbered_rule n (term_in equation.left) (term_in equation.right) ∷ []
    → all_sides new ≡ all_sides old ++ sides (profiled_in equation.left) (profiled_in equation.right) ∷ []
    → ExtendsBy p n equation old new
extends_forward p n equation old new differ greater rules_are sides_are = record {
  adds = one_rule p n forward (equation_of equation) (numbered_rules old) (numbered_rules new) differ greater rules_are;
  over = stays_with equation old new (sides (profiled_in equation.left) (profiled_in equation.right)) sides_are (forward_sides equation);
}

pub extends_backward : (p : Precedence) (n : ℕ) (equation : Equation) (old new : List Rule)
    → term_in equation.left ≢ term_in equation.right → IsGreater p (term_in equation.right) (term_in equation.left)
    → numbered_rules new ≡ numbered_rules old ++ numbered_rule n (term_in equation.right) (term_in equation.left) ∷ []
    → all_sides new ≡ all_sides old ++ sides (profiled_in equation.right) (profiled_in equation.left) ∷ []
    → ExtendsBy p n equation old new
extends_backward p n equation old new differ greater rules_are sides_are = record {
  adds = one_rule p n backward (equation_of equation) (numbered_rules old) (numbered_rules new) differ greater rules_are;
  over = stays_with equation old new (sides (profiled_in equation.right) (profiled_in equation.left)) sides_are (backward_sides equation);
}

-- ---- the equations of data

member_at : (xs : List Equation) (i : ℕ) (x : Equation) → i < length xs → x ≡ get_or xs i x → slice_get xs i ≡ Some x
member_at [] i x within is = absurd (omega arith)
member_at (y ∷ ys) zero x within is = ap (λ (e : Equation). Some e) (sym is)
member_at (y ∷ ys) (suc i) x within is = member_at ys i x (omega arith) is

pub equation_is_of : (flat : Flat) (i : ℕ) (equation : Equation) → IsSortedFlat flat → i < length flat.equations.items
    → equation ≡ get_or flat.equations.items i equation → IsEquationOf (signature_of flat.signature) equation
equation_is_of flat i equation sorted within is =
    let at : slice_get flat.equations.items i ≡ Some equation = member_at flat.equations.items i equation within is in
    let plain : slice_get (map equation_of flat.equations.items) i ≡ Some (equation_of equation) =
    at_map equation_of flat.equations.items i equation at in
    let is_of = sorted.sides i equation at in
    let one = sorted.data_.sides (equation_of equation) (i, plain) in
    let numbers = sorted.data_.numbers (equation_of equation) (i, plain) in
    let left = sorted_fits (signature_of flat.signature) (profiled_in equation.left) one.sort is_of.0 one.left in
    let right = sorted_fits (signature_of flat.signature) (profiled_in equation.right) one.sort is_of.1 one.right in
    record {
      left_is_of = is_of.0;
      right_is_of = is_of.1;
      one_sort = sym equation.left.headed ∙ left.1 ∙ sym right.1 ∙ equation.right.headed;
      left_numbers = λ n r s o q. numbers n r s (inl o) (inl q);
      right_numbers = λ n r s o q. numbers n r s (inr o) (inr q);
    }

-- the rules so far, and those of one more equation
pub given_more : (p : Precedence) (xs : List Equation) (x : Equation) (i : ℕ) (old new : List NumberedRule) → i < length xs
    → x ≡ get_or xs i x → GiveRules p 0 (map equation_of (take i xs)) old → AddsRulesOf p i (equation_of x) old new
    → GiveRules p 0 (map equation_of (take (i + 1) xs)) new
given_more p xs x i old new within is so_far adds =
    let done = map equation_of (take i xs) in
    let lengths : length done ≡ i = length-map (take i xs) equation_of ∙ length-take-le i xs (omega arith) in
    let count : 0 + length done ≡ i = omega (arith, lengths) in
    let list : map equation_of (take (i + 1) xs) ≡ done ++ equation_of x ∷ [] =
    ap (map equation_of) (take_more xs i x within ∙ ap (λ (z : Equation). take i xs ++ z ∷ []) (sym is))
    ∙ map-append equation_of (take i xs) (x ∷ []) in
    subst (λ (es : List PlainEquation). GiveRules p 0 es new) (sym list)
    (subst (λ (rs : List NumberedRule). GiveRules p 0 (done ++ equation_of x ∷ []) rs) (sym adds.joined)
    (given_joined (equation_of x ∷ []) adds.rules so_far
    (subst (λ (n : ℕ). GiveRules p n (equation_of x ∷ []) adds.rules) (sym count) adds.given)))

taken_at : (xs : List Equation) (i k : ℕ) (y : PlainEquation) → k < i → slice_get (map equation_of xs) k ≡ Some y
    → slice_get (map equation_of (take i xs)) k ≡ Some y
taken_at [] i k y before is = cc
taken_at (x ∷ xs) zero k y before is = absurd (omega arith)
taken_at (x ∷ xs) (suc i) zero y before is = is
taken_at (x ∷ xs) (suc i) (suc k) y before is = taken_at xs i k y (omega arith) is

first_fault : (p : Precedence) (xs : List Equation) (x : Equation) (i : ℕ) (rules : List NumberedRule) → i < length xs
    → x ≡ get_or xs i x → GiveRules p 0 (map equation_of (take i xs)) rules → IsUnorientable p (equation_of x)
    → IsFirstUnorientable p (map equation_of xs) i
first_fault p xs x i rules within is so_far stuck = record {
  equation = equation_of x;
  is_at = at_map equation_of xs i x (member_at xs i x within is);
  unorientable = stuck;
  none_before = λ k earlier before at. given_orientable so_far k earlier (taken_at xs i k earlier before at);
}

pub fault_first : (p : Precedence) (xs : List Equation) (x : Equation) (i : ℕ) (rules : List NumberedRule) (fault : OrientFault)
    → i < length xs → x ≡ get_or xs i x → GiveRules p 0 (map equation_of (take i xs)) rules
    → IsFaultAt p i (equation_of x) fault → IsOrientFault p (map equation_of xs) fault
fault_first p xs x i rules (Unorientable n) within is so_far h =
    subst (λ (k : ℕ). IsFirstUnorientable p (map equation_of xs) k) (sym h.0) (first_fault p xs x i rules within is so_far h.1)
fault_first p xs x i rules NoMemory within is so_far h = tt

-- ---- all of them

pub given_oriented : (p : Precedence) (data_ : Data) (rules : List Rule) → GiveRules p 0 data_.equations (numbered_rules rules)
    → are_oriented p (plain_rules rules) ≡ true
given_oriented p data_ rules given =
    test_of_oriented p (plain_rules rules) (rules_of_data p data_ (numbered_rules rules) given).1

pub given_ends : (p : Precedence) (data_ : Data) (rules : List NumberedRule) → GiveRules p 0 data_.equations rules
    → RewritingEndsBy (rules_of rules)
given_ends p data_ rules given =
    let oriented = (rules_of_data p data_ rules given).1 in
    (rewriting_ends p (rules_of rules) oriented, λ t. descent_ends p (rules_of rules) t oriented)
