-- Whether two behaviours are identical with terms put in for their free variables, as a test that computes. It goes through the
-- two behaviours side by side and puts nothing in but at their terms. Names and numbers of bound variables count, and so does
-- the order of gates in a list.
use Rattle.std.specs.Prelude.{ℕ, List, [], ◌∷◌, Option, None, Some, Bool, true, false, ◌&&◌, nat_eq}
use Rattle.lotos_base.specs.Term.{Term, variable}
use Rattle.lotos_base.specs.Equation.{Variable}
use Rattle.lotos_base.specs.Tests.{term_eq}
use Rattle.lotos_base.specs.Substitution.{Substitution, substituted, without}
use Rattle.behaviour_semantics.specs.Behaviour.{Behaviour, stop, exit_with, action, inner_action, guard, choice, parallel, hide, enable, disable, let_be, choose_value, choose_gate, par_gate, call, relabel, Test, Offer, give, ask, ExitValue, exit_value, any_of, SynchronisationSet, no_gates, all_gates, at_gates, asked_variables, numbers_of, let_variables}

-- Whether two lists have the same members in the same order, by a test of members.
abbrev pub same_lists : {X : Type 0} → (X → X → Bool) → List X → List X → Bool
same_lists same [] [] = true
same_lists same (x ∷ xs) (y ∷ ys) = same x y && same_lists same xs ys
same_lists same _ _ = false

abbrev pub same_numbers : List ℕ → List ℕ → Bool
same_numbers numbers others = same_lists nat_eq numbers others

abbrev pub same_variable : Variable → Variable → Bool
same_variable x y = same_numbers x.name y.name && (nat_eq x.number y.number && nat_eq x.sort y.sort)

abbrev pub same_pair : ℕ × ℕ → ℕ × ℕ → Bool
same_pair one other = nat_eq one.0 other.0 && nat_eq one.1 other.1

abbrev pub same_meet : SynchronisationSet → SynchronisationSet → Bool
same_meet no_gates no_gates = true
same_meet all_gates all_gates = true
same_meet (at_gates gates) (at_gates others) = same_numbers gates others
same_meet _ _ = false

-- The first substitution is put into the one, the second one into the other.

abbrev pub same_term : Substitution → Substitution → Term → Term → Bool
same_term first second t u = term_eq (substituted first t) (substituted second u)

abbrev pub same_test : Substitution → Substitution → Test → Test → Bool
same_test first second test other = same_term first second test.left other.left && same_term first second test.right other.right

abbrev pub same_option : Substitution → Substitution → Option Test → Option Test → Bool
same_option first second None None = true
same_option first second (Some test) (Some other) = same_test first second test other
same_option first second _ _ = false

abbrev pub same_offer : Substitution → Substitution → Offer → Offer → Bool
same_offer first second (give t) (give u) = same_term first second t u
same_offer first second (ask x) (ask y) = same_variable x y
same_offer first second _ _ = false

abbrev pub same_result : Substitution → Substitution → ExitValue → ExitValue → Bool
same_result first second (exit_value t) (exit_value u) = same_term first second t u
same_result first second (any_of s) (any_of r) = nat_eq s r
same_result first second _ _ = false

abbrev pub same_binding : Substitution → Substitution → Variable × Term → Variable × Term → Bool
same_binding first second one other = same_variable one.0 other.0 && same_term first second one.1 other.1

-- Whether the first behaviour with the first substitution put in is the second behaviour with the second one put in.
abbrev pub same_with : Substitution → Substitution → Behaviour → Behaviour → Bool
same_with first second stop stop = true
same_with first second (exit_with results) (exit_with others) = same_lists (same_result first second) results others
same_with first second (action g offers test b) (action h others other c) =
    let inside : Substitution = without (numbers_of (asked_variables offers)) first in
    let other_inside : Substitution = without (numbers_of (asked_variables others)) second in
    nat_eq g h && (same_lists (same_offer first second) offers others
    && (same_option inside other_inside test other && same_with inside other_inside b c))
same_with first second (inner_action b) (inner_action c) = same_with first second b c
same_with first second (guard test b) (guard other c) = same_test first second test other && same_with first second b c
same_with first second (choice b d) (choice c e) = same_with first second b c && same_with first second d e
same_with first second (parallel meet b d) (parallel other c e) =
    same_meet meet other && (same_with first second b c && same_with first second d e)
same_with first second (hide gates b) (hide others c) = same_numbers gates others && same_with first second b c
same_with first second (enable b xs d) (enable c ys e) =
    same_with first second b c && (same_lists same_variable xs ys
    && same_with (without (numbers_of xs) first) (without (numbers_of ys) second) d e)
same_with first second (disable b d) (disable c e) = same_with first second b c && same_with first second d e
same_with first second (let_be bindings b) (let_be others c) =
    same_lists (same_binding first second) bindings others
    && same_with (without (numbers_of (let_variables bindings)) first) (without (numbers_of (let_variables others)) second) b c
same_with first second (choose_value x b) (choose_value y c) =
    same_variable x y && same_with (without (x.number ∷ []) first) (without (y.number ∷ []) second) b c
same_with first second (choose_gate g gates b) (choose_gate h others c) =
    nat_eq g h && (same_numbers gates others && same_with first second b c)
same_with first second (par_gate g gates meet b) (par_gate h others other c) =
    nat_eq g h && (same_numbers gates others && (same_meet meet other && same_with first second b c))
same_with first second (call number gates arguments) (call other others terms) =
    nat_eq number other && (same_numbers gates others && same_lists (same_term first second) arguments terms)
same_with first second (relabel pairs b) (relabel others c) = same_lists same_pair pairs others && same_with first second b c
same_with first second _ _ = false

-- Whether two behaviours are identical as they are.
abbrev pub same_behaviour : Behaviour → Behaviour → Bool
same_behaviour b c = same_with variable variable b c
