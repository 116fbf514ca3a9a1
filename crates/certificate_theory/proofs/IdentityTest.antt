-- What the test of identity means.
use Rattle.std.proofs.Common.{◌≡◌, ℕ, List, [], ◌∷◌, map, Option, None, Some, Bool, ◌&&◌, nat_eq, refl, ap, sym, ◌∙◌}
use Rattle.std.specs.Bool.{Decides}
use Rattle.std.specs.Prelude.{option_map}
use Rattle.std.proofs.lemmas.Bool.Decides.{Decides-eqb, Decides-and, Decides-like}
use Rattle.lotos_base.specs.Term.{Term, variable}
use Rattle.lotos_base.specs.Equation.{Variable}
use Rattle.lotos_base.specs.Substitution.{Substitution, substituted, without}
use Rattle.lotos_base.proofs.TestLemmas.{Decides-term_eq}
use Rattle.behaviour_semantics.specs.Behaviour.{Behaviour, stop, exit_with, action, inner_action, guard, choice, parallel, hide, enable, disable, let_be, choose_value, choose_gate, par_gate, call, relabel, Test, Offer, give, ask, ExitValue, exit_value, any_of, SynchronisationSet, no_gates, all_gates, at_gates, asked_variables, numbers_of, let_variables}
use Rattle.behaviour_semantics.specs.Replacement.{test_with, offer_with, exit_value_with, with_values}
use Rattle.behaviour_semantics.proofs.ReplacementLemmas.{unchanged}
use Rattle.certificate_theory.specs.Identity.{same_lists, same_numbers, same_variable, same_pair, same_meet, same_term, same_test, same_option, same_offer, same_result, same_binding, same_with, same_behaviour}
use Rattle.certificate_theory.specs.IdentityLaws.{IdentityOfBehavioursIsDecided}

-- ---- Lists.

-- by a test of members that decides whether what two functions make of them is one
lists_decide : {X Y : Type 0} (same : X → X → Bool) (f g : X → Y) → ((x y : X) → Decides (same x y) (f x ≡ g y)) → (xs ys : List X)
    → Decides (same_lists same xs ys) (map f xs ≡ map g ys)
lists_decide same f g each [] [] = ((λ h. refl), (λ h. refl))
lists_decide same f g each (x ∷ xs) (y ∷ ys) =
    Decides-like (same x y && same_lists same xs ys) (λ (h : (f x ≡ g y) × (map f xs ≡ map g ys)) i. h.0 i ∷ h.1 i) (λ e. (cc, cc))
    (Decides-and (same x y) (same_lists same xs ys) (each x y) (lists_decide same f g each xs ys))
lists_decide same f g each [] (y ∷ ys) = ((λ h. cc), (λ h. cc))
lists_decide same f g each (x ∷ xs) [] = ((λ h. cc), (λ h. cc))

members_decide : {X : Type 0} (same : X → X → Bool) → ((x y : X) → Decides (same x y) (x ≡ y)) → (xs ys : List X)
    → Decides (same_lists same xs ys) (xs ≡ ys)
members_decide same each [] [] = ((λ h. refl), (λ h. refl))
members_decide same each (x ∷ xs) (y ∷ ys) =
    Decides-like (same x y && same_lists same xs ys) (λ (h : (x ≡ y) × (xs ≡ ys)) i. h.0 i ∷ h.1 i) (λ e. (cc, cc))
    (Decides-and (same x y) (same_lists same xs ys) (each x y) (members_decide same each xs ys))
members_decide same each [] (y ∷ ys) = ((λ h. cc), (λ h. cc))
members_decide same each (x ∷ xs) [] = ((λ h. cc), (λ h. cc))

numbers_decide : (numbers others : List ℕ) → Decides (same_numbers numbers others) (numbers ≡ others)
numbers_decide numbers others = members_decide nat_eq Decides-eqb numbers others

-- ---- Parts without terms.

variable_decides : (x y : Variable) → Decides (same_variable x y) (x ≡ y)
variable_decides x y =
    Decides-like (same_variable x y)
    (λ (h : (x.name ≡ y.name) × ((x.number ≡ y.number) × (x.sort ≡ y.sort))) i. record {
      name = h.0 i;
      number = h.1.0 i;
      sort = h.1.1 i;
    })
    (λ e. (ap (λ (z : Variable). z.name) e, (ap (λ (z : Variable). z.number) e, ap (λ (z : Variable). z.sort) e)))
    (Decides-and (same_numbers x.name y.name) (nat_eq x.number y.number && nat_eq x.sort y.sort) (numbers_decide x.name y.name)
    (Decides-and (nat_eq x.number y.number) (nat_eq x.sort y.sort) (Decides-eqb x.number y.number) (Decides-eqb x.sort y.sort)))

variables_decide : (xs ys : List Variable) → Decides (same_lists same_variable xs ys) (xs ≡ ys)
variables_decide xs ys = members_decide same_variable variable_decides xs ys

pair_decides : (one other : ℕ × ℕ) → Decides (same_pair one other) (one ≡ other)
pair_decides one other =
    Decides-like (same_pair one other) (λ (h : (one.0 ≡ other.0) × (one.1 ≡ other.1)) i. (h.0 i, h.1 i))
    (λ e. (ap (λ (z : ℕ × ℕ). z.0) e, ap (λ (z : ℕ × ℕ). z.1) e))
    (Decides-and (nat_eq one.0 other.0) (nat_eq one.1 other.1) (Decides-eqb one.0 other.0) (Decides-eqb one.1 other.1))

meet_decides : (meet other : SynchronisationSet) → Decides (same_meet meet other) (meet ≡ other)
meet_decides no_gates no_gates = ((λ h. refl), (λ h. refl))
meet_decides all_gates all_gates = ((λ h. refl), (λ h. refl))
meet_decides (at_gates gates) (at_gates others) =
    Decides-like (same_numbers gates others) (λ (h : gates ≡ others) i. at_gates (h i)) (λ e. cc) (numbers_decide gates others)
meet_decides no_gates all_gates = ((λ h. cc), (λ h. cc))
meet_decides no_gates (at_gates others) = ((λ h. cc), (λ h. cc))
meet_decides all_gates no_gates = ((λ h. cc), (λ h. cc))
meet_decides all_gates (at_gates others) = ((λ h. cc), (λ h. cc))
meet_decides (at_gates gates) no_gates = ((λ h. cc), (λ h. cc))
meet_decides (at_gates gates) all_gates = ((λ h. cc), (λ h. cc))

-- ---- Parts with terms.

module _ (first second : Substitution) where
  term_decides : (t u : Term) → Decides (same_term first second t u) (substituted first t ≡ substituted second u)
  term_decides t u = Decides-term_eq (substituted first t) (substituted second u)

  test_decides : (test other : Test) → Decides (same_test first second test other) (test_with first test ≡ test_with second other)
  test_decides test other =
      Decides-like (same_test first second test other)
      (λ (h : (substituted first test.left ≡ substituted second other.left)
      × (substituted first test.right ≡ substituted second other.right)) i. record { left = h.0 i; right = h.1 i })
      (λ e. (ap (λ (z : Test). z.left) e, ap (λ (z : Test). z.right) e))
      (Decides-and (same_term first second test.left other.left) (same_term first second test.right other.right)
      (term_decides test.left other.left) (term_decides test.right other.right))

  option_decides : (test other : Option Test)
      → Decides (same_option first second test other) (option_map (test_with first) test ≡ option_map (test_with second) other)
  option_decides None None = ((λ h. refl), (λ h. refl))
  option_decides (Some test) (Some other) =
      Decides-like (same_test first second test other) (λ (h : test_with first test ≡ test_with second other) i. Some (h i)) (λ e. cc)
      (test_decides test other)
  option_decides None (Some other) = ((λ h. cc), (λ h. cc))
  option_decides (Some test) None = ((λ h. cc), (λ h. cc))

  offer_decides : (offer other : Offer) → Decides (same_offer first second offer other) (offer_with first offer ≡ offer_with second other)
  offer_decides (give t) (give u) =
      Decides-like (same_term first second t u) (λ (h : substituted first t ≡ substituted second u) i. give (h i)) (λ e. cc)
      (term_decides t u)
  offer_decides (ask x) (ask y) = Decides-like (same_variable x y) (λ (h : x ≡ y) i. ask (h i)) (λ e. cc) (variable_decides x y)
  offer_decides (give t) (ask y) = ((λ h. cc), (λ h. cc))
  offer_decides (ask x) (give u) = ((λ h. cc), (λ h. cc))

  result_decides : (result other : ExitValue)
      → Decides (same_result first second result other) (exit_value_with first result ≡ exit_value_with second other)
  result_decides (exit_value t) (exit_value u) =
      Decides-like (same_term first second t u) (λ (h : substituted first t ≡ substituted second u) i. exit_value (h i)) (λ e. cc)
      (term_decides t u)
  result_decides (any_of s) (any_of r) = Decides-like (nat_eq s r) (λ (h : s ≡ r) i. any_of (h i)) (λ e. cc) (Decides-eqb s r)
  result_decides (exit_value t) (any_of r) = ((λ h. cc), (λ h. cc))
  result_decides (any_of s) (exit_value u) = ((λ h. cc), (λ h. cc))

  abbrev bound_with : Substitution → Variable × Term → Variable × Term
  bound_with values bound = (bound.0, substituted values bound.1)

  binding_decides : (one other : Variable × Term)
      → Decides (same_binding first second one other) (bound_with first one ≡ bound_with second other)
  binding_decides one other =
      Decides-like (same_binding first second one other)
      (λ (h : (one.0 ≡ other.0) × (substituted first one.1 ≡ substituted second other.1)) i. (h.0 i, h.1 i))
      (λ e. (ap (λ (z : Variable × Term). z.0) e, ap (λ (z : Variable × Term). z.1) e))
      (Decides-and (same_variable one.0 other.0) (same_term first second one.1 other.1) (variable_decides one.0 other.0)
      (term_decides one.1 other.1))

-- ---- Behaviours.

pub same_decides : (first second : Substitution) (b c : Behaviour)
    → Decides (same_with first second b c) (with_values first b ≡ with_values second c)
same_decides first second stop stop = ((λ h. refl), (λ h. refl))
same_decides first second (exit_with results) (exit_with others) =
    Decides-like (same_lists (same_result first second) results others) (λ h i. exit_with (h i)) (λ e. cc)
    (lists_decide (same_result first second) (exit_value_with first) (exit_value_with second) (result_decides first second) results others)
same_decides first second (action g offers test b) (action h others other c) =
    let inside : Substitution = without (numbers_of (asked_variables offers)) first in
    let other_inside : Substitution = without (numbers_of (asked_variables others)) second in
    Decides-like (same_with first second (action g offers test b) (action h others other c))
    (λ (k : (g ≡ h) × ((map (offer_with first) offers ≡ map (offer_with second) others)
    × ((option_map (test_with inside) test ≡ option_map (test_with other_inside) other)
    × (with_values inside b ≡ with_values other_inside c)))) i. action (k.0 i) (k.1.0 i) (k.1.1.0 i) (k.1.1.1 i))
    (λ e. (cc, (cc, (cc, cc))))
    (Decides-and (nat_eq g h) _ (Decides-eqb g h)
    (Decides-and (same_lists (same_offer first second) offers others) _
    (lists_decide (same_offer first second) (offer_with first) (offer_with second) (offer_decides first second) offers others)
    (Decides-and (same_option inside other_inside test other) (same_with inside other_inside b c)
    (option_decides inside other_inside test other) (same_decides inside other_inside b c))))
same_decides first second (inner_action b) (inner_action c) =
    Decides-like (same_with first second b c) (λ (h : with_values first b ≡ with_values second c) i. inner_action (h i)) (λ e. cc)
    (same_decides first second b c)
same_decides first second (guard test b) (guard other c) =
    Decides-like (same_test first second test other && same_with first second b c)
    (λ (h : (test_with first test ≡ test_with second other) × (with_values first b ≡ with_values second c)) i. guard (h.0 i) (h.1 i))
    (λ e. (cc, cc))
    (Decides-and (same_test first second test other) (same_with first second b c) (test_decides first second test other)
    (same_decides first second b c))
same_decides first second (choice b d) (choice c e) =
    Decides-like (same_with first second b c && same_with first second d e)
    (λ (h : (with_values first b ≡ with_values second c) × (with_values first d ≡ with_values second e)) i. choice (h.0 i) (h.1 i))
    (λ p. (cc, cc))
    (Decides-and (same_with first second b c) (same_with first second d e) (same_decides first second b c)
    (same_decides first second d e))
same_decides first second (parallel meet b d) (parallel other c e) =
    Decides-like (same_meet meet other && (same_with first second b c && same_with first second d e))
    (λ (h : (meet ≡ other) × ((with_values first b ≡ with_values second c) × (with_values first d ≡ with_values second e))) i.
    parallel (h.0 i) (h.1.0 i) (h.1.1 i))
    (λ p. (cc, (cc, cc)))
    (Decides-and (same_meet meet other) _ (meet_decides meet other)
    (Decides-and (same_with first second b c) (same_with first second d e) (same_decides first second b c)
    (same_decides first second d e)))
same_decides first second (hide gates b) (hide others c) =
    Decides-like (same_numbers gates others && same_with first second b c)
    (λ (h : (gates ≡ others) × (with_values first b ≡ with_values second c)) i. hide (h.0 i) (h.1 i)) (λ e. (cc, cc))
    (Decides-and (same_numbers gates others) (same_with first second b c) (numbers_decide gates others) (same_decides first second b c))
same_decides first second (enable b xs d) (enable c ys e) =
    let inside : Substitution = without (numbers_of xs) first in
    let other_inside : Substitution = without (numbers_of ys) second in
    Decides-like (same_with first second (enable b xs d) (enable c ys e))
    (λ (h : (with_values first b ≡ with_values second c) × ((xs ≡ ys) × (with_values inside d ≡ with_values other_inside e))) i.
    enable (h.0 i) (h.1.0 i) (h.1.1 i))
    (λ p. (cc, (cc, cc)))
    (Decides-and (same_with first second b c) _ (same_decides first second b c)
    (Decides-and (same_lists same_variable xs ys) (same_with inside other_inside d e) (variables_decide xs ys)
    (same_decides inside other_inside d e)))
same_decides first second (disable b d) (disable c e) =
    Decides-like (same_with first second b c && same_with first second d e)
    (λ (h : (with_values first b ≡ with_values second c) × (with_values first d ≡ with_values second e)) i. disable (h.0 i) (h.1 i))
    (λ p. (cc, cc))
    (Decides-and (same_with first second b c) (same_with first second d e) (same_decides first second b c)
    (same_decides first second d e))
same_decides first second (let_be bindings b) (let_be others c) =
    let inside : Substitution = without (numbers_of (let_variables bindings)) first in
    let other_inside : Substitution = without (numbers_of (let_variables others)) second in
    Decides-like (same_with first second (let_be bindings b) (let_be others c))
    (λ (h : (map (λ (bound : Variable × Term). (bound.0, substituted first bound.1)) bindings
    ≡ map (λ (bound : Variable × Term). (bound.0, substituted second bound.1)) others)
    × (with_values inside b ≡ with_values other_inside c)) i. let_be (h.0 i) (h.1 i))
    (λ e. (cc, cc))
    (Decides-and (same_lists (same_binding first second) bindings others) (same_with inside other_inside b c)
    (lists_decide (same_binding first second) (λ (bound : Variable × Term). (bound.0, substituted first bound.1))
    (λ (bound : Variable × Term). (bound.0, substituted second bound.1)) (binding_decides first second) bindings others)
    (same_decides inside other_inside b c))
same_decides first second (choose_value x b) (choose_value y c) =
    let inside : Substitution = without (x.number ∷ []) first in
    let other_inside : Substitution = without (y.number ∷ []) second in
    Decides-like (same_with first second (choose_value x b) (choose_value y c))
    (λ (h : (x ≡ y) × (with_values inside b ≡ with_values other_inside c)) i. choose_value (h.0 i) (h.1 i)) (λ e. (cc, cc))
    (Decides-and (same_variable x y) (same_with inside other_inside b c) (variable_decides x y) (same_decides inside other_inside b c))
same_decides first second (choose_gate g gates b) (choose_gate h others c) =
    Decides-like (nat_eq g h && (same_numbers gates others && same_with first second b c))
    (λ (k : (g ≡ h) × ((gates ≡ others) × (with_values first b ≡ with_values second c))) i. choose_gate (k.0 i) (k.1.0 i) (k.1.1 i))
    (λ e. (cc, (cc, cc)))
    (Decides-and (nat_eq g h) _ (Decides-eqb g h)
    (Decides-and (same_numbers gates others) (same_with first second b c) (numbers_decide gates others) (same_decides first second b c)))
same_decides first second (par_gate g gates meet b) (par_gate h others other c) =
    Decides-like (nat_eq g h && (same_numbers gates others && (same_meet meet other && same_with first second b c)))
    (λ (k : (g ≡ h) × ((gates ≡ others) × ((meet ≡ other) × (with_values first b ≡ with_values second c)))) i.
    par_gate (k.0 i) (k.1.0 i) (k.1.1.0 i) (k.1.1.1 i))
    (λ e. (cc, (cc, (cc, cc))))
    (Decides-and (nat_eq g h) _ (Decides-eqb g h)
    (Decides-and (same_numbers gates others) _ (numbers_decide gates others)
    (Decides-and (same_meet meet other) (same_with first second b c) (meet_decides meet other) (same_decides first second b c))))
same_decides first second (call number gates arguments) (call other others terms) =
    Decides-like (nat_eq number other && (same_numbers gates others && same_lists (same_term first second) arguments terms))
    (λ (k : (number ≡ other) × ((gates ≡ others) × (map (substituted first) arguments ≡ map (substituted second) terms))) i.
    call (k.0 i) (k.1.0 i) (k.1.1 i))
    (λ e. (cc, (cc, cc)))
    (Decides-and (nat_eq number other) _ (Decides-eqb number other)
    (Decides-and (same_numbers gates others) _ (numbers_decide gates others)
    (lists_decide (same_term first second) (substituted first) (substituted second) (term_decides first second) arguments terms)))
same_decides first second (relabel pairs b) (relabel others c) =
    Decides-like (same_lists same_pair pairs others && same_with first second b c)
    (λ (h : (pairs ≡ others) × (with_values first b ≡ with_values second c)) i. relabel (h.0 i) (h.1 i)) (λ e. (cc, cc))
    (Decides-and (same_lists same_pair pairs others) (same_with first second b c) (members_decide same_pair pair_decides pairs others)
    (same_decides first second b c))
same_decides first second _ _ = ((λ h. cc), (λ h. cc))

as_they_are : (b c : Behaviour) → Decides (same_behaviour b c) (b ≡ c)
as_they_are b c =
    Decides-like (same_behaviour b c) (λ (h : with_values variable b ≡ with_values variable c). sym (unchanged b) ∙ h ∙ unchanged c)
    (λ e. ap (with_values variable) e) (same_decides variable variable b c)

pub identity_is_decided : IdentityOfBehavioursIsDecided
identity_is_decided = record { put_in = same_decides; as_they_are = as_they_are }
