-- Computed cases, which show that the definitions say what a textbook says.
use Rattle.std.specs.Prelude.{◌≡◌, ℕ, zero, suc, true, false, List, [], ◌∷◌, None, Some, codes, slice_get}
use Rattle.std.proofs.Common.{refl, sym, ◌∙◌, ap, subst, zero-add, suc-add}
use Rattle.std.proofs.lemmas.Option.{same_Some, none-some}
use Rattle.lotos_base.specs.Signature.{Signature, Operation, Form, prefix_form, infix_form, IsWellFormedSignature}
use Rattle.lotos_base.specs.Twins.{are_twins, has_twin}
use Rattle.lotos_base.specs.Term.{Term, variable, node, no_terms, term_then, argument_list_of}
use Rattle.lotos_base.specs.Sorting.{HasSort, IsTermOf, head_sort_of, IsGround, IsGroundOf, Occurs}
use Rattle.lotos_base.specs.Path.{subterm, put_at, AreParallel}
use Rattle.lotos_base.specs.Substitution.{Substitution, substituted, followed_by, binding, without}
use Rattle.lotos_base.specs.Equation.{Equation, Data, HasSortedSides, AreSortedData, IsEquationOver, IsWellFormedData, IsGroundInstance}
use Rattle.lotos_base.specs.Equality.{Equal}
use Rattle.lotos_base.specs.EqualityLaws.{IsCongruence}
use Rattle.lotos_base.specs.Meaning.{MeetsEquations}
use Rattle.lotos_base.specs.MeaningFacts.{meaning_is_congruence}
use Rattle.lotos_base.specs.Canon.{KeepsApart, IsCanon}
use Rattle.lotos_base.specs.SmallData.{
  example_sort,
  example_operation,
  example_variable,
  example_equation,
  natural_signature,
  nought,
  successor,
  plus,
  x_natural,
  y_natural,
  nought_law,
  successor_law,
  natural_data,
  natural_operate,
  natural_meaning,
  bare_data,
  idle_signature,
  a_term,
  b_term,
  f_term,
  idle_law,
  idle_data,
  meet,
  meet_data,
  meet_canon,
}

-- one sort A, and these operations
abbrev pub with_operations : List Operation → Signature
with_operations operations = record { sorts = example_sort (codes "A") ∷ []; operations = operations }

abbrev pub overloaded_signature : Signature
overloaded_signature = record {
  sorts = example_sort (codes "A") ∷ example_sort (codes "B") ∷ [];
  operations = example_operation (codes "c") prefix_form [] 0
      ∷ example_operation (codes "c") prefix_form [] 1
      ∷ example_operation (codes "c") prefix_form (0 ∷ 0 ∷ []) 0
      ∷ example_operation (codes "c") infix_form (0 ∷ 0 ∷ []) 0
      ∷ [];
}

abbrev pub one_name_twice : Signature
one_name_twice = record { sorts = example_sort (codes "A") ∷ example_sort (codes "A") ∷ []; operations = [] }

abbrev pub one_name_in_two_cases : Signature
one_name_in_two_cases = record { sorts = example_sort (codes "A") ∷ example_sort (codes "a") ∷ []; operations = [] }

-- the operation And from two arguments of sort 0 to this sort, in this form
abbrev pub and_to : Form → ℕ → Operation
and_to form result = example_operation (codes "And") form (0 ∷ 0 ∷ []) result

abbrev pub AND_to : Form → ℕ → Operation
AND_to form result = example_operation (codes "AND") form (0 ∷ 0 ∷ []) result

-- the constant c of sort A, and the operation c with an argument of a sort that is not there
abbrev pub constant_c : Operation
constant_c = example_operation (codes "c") prefix_form [] 0

abbrev pub operation_c : Operation
operation_c = example_operation (codes "c") prefix_form (1 ∷ []) 0

pub record SignatureExamples : Type 0 where
  -- operations of one name may differ in their result, in their arguments or in their form
  pub overloaded : IsWellFormedSignature overloaded_signature
  -- two sorts of one name, two operations alike in all, a result and an argument of no sort
  pub sort_twice : ¬ IsWellFormedSignature one_name_twice
  pub operation_twice : ¬ IsWellFormedSignature (with_operations (constant_c ∷ constant_c ∷ []))
  -- spellings that differ in letter case alone are one name
  pub sort_in_two_cases : ¬ IsWellFormedSignature one_name_in_two_cases
  pub operation_in_two_cases : ¬ IsWellFormedSignature (with_operations (and_to infix_form 0 ∷ AND_to infix_form 0 ∷ []))
  pub no_result : ¬ IsWellFormedSignature (with_operations (example_operation (codes "c") prefix_form [] 1 ∷ []))
  pub no_argument : ¬ IsWellFormedSignature (with_operations (operation_c ∷ []))
  -- a = b has sides of two sorts; f(x) = f(x) needs x declared, with a sort of the signature, and once
  pub two_sorts : ¬ IsEquationOver idle_signature (example_equation [] a_term b_term)
  pub undeclared : ¬ IsEquationOver idle_signature (example_equation [] (f_term (variable 0 0)) a_term)
  pub undeclared_right : ¬ IsEquationOver idle_signature (example_equation [] a_term (f_term (variable 0 0)))
  pub no_sort : ¬ IsEquationOver idle_signature (example_equation (example_variable (codes "x") 0 3 ∷ []) a_term a_term)
  pub declared_twice : ¬ IsEquationOver idle_signature
      (example_equation (example_variable (codes "x") 0 0 ∷ example_variable (codes "y") 0 1 ∷ []) a_term a_term)

-- sorts A and B, and p with an argument of each; p(x, x) = x, with x of sort A and of sort B under one number
abbrev pub two_sorts_of_x : Data
two_sorts_of_x = record {
  signature = record {
    sorts = example_sort (codes "A") ∷ example_sort (codes "B") ∷ [];
    operations = example_operation (codes "p") prefix_form (0 ∷ 1 ∷ []) 0 ∷ [];
  };
  equations = example_equation [] (node 0 (term_then (variable 0 0) (term_then (variable 0 1) no_terms))) (variable 0 0) ∷ [];
}

-- f(x) = x, with x not declared
abbrev pub undeclared_x : Data
undeclared_x = record { signature = idle_signature; equations = example_equation [] (f_term (variable 0 0)) (variable 0 0) ∷ [] }

pub record SortedDataExamples : Type 0 where
  -- a variable need not be declared for data to be sorted, and its number must have one sort
  pub undeclared : AreSortedData undeclared_x
  pub undeclared_not_well_formed : ¬ IsWellFormedData undeclared_x
  pub two_sorts : HasSortedSides two_sorts_of_x
  pub two_sorts_not_sorted : ¬ AreSortedData two_sorts_of_x

pub record TwinExamples : Type 0 where
  -- and of two results; in two forms, and with itself, no twins; nor with other arguments or another name
  pub twins : are_twins (and_to infix_form 0) (AND_to infix_form 1) ≡ true
  pub two_forms : are_twins (and_to infix_form 0) (AND_to prefix_form 1) ≡ false
  pub one_result : are_twins (and_to infix_form 0) (AND_to infix_form 0) ≡ false
  pub other_arguments : are_twins constant_c (example_operation (codes "c") prefix_form (0 ∷ []) 1) ≡ false
  pub other_name : are_twins constant_c (example_operation (codes "d") prefix_form [] 1) ≡ false
  -- of the four operations c the constants alone have a twin
  pub first_constant : has_twin overloaded_signature constant_c ≡ true
  pub prefix_operation : has_twin overloaded_signature (example_operation (codes "c") prefix_form (0 ∷ 0 ∷ []) 0) ≡ false

pub record SortingExamples : Type 0 where
  -- 0 + Succ(x) is a term of sort Nat
  pub sorted : HasSort natural_signature (plus nought (successor x_natural)) 0
  -- Succ(0, 0) and Succ() are no terms: an operation has as many arguments as its profile
  pub too_many : ¬ IsTermOf natural_signature (node 1 (term_then nought (term_then nought no_terms)))
  pub too_few : ¬ IsTermOf natural_signature (node 1 no_terms)
  -- f(b) is no term: its argument has another sort
  pub wrong_sort : ¬ IsTermOf idle_signature (f_term b_term)
  -- there is no operation 3, and no sort 1
  pub no_operation : ¬ IsTermOf natural_signature (node 3 no_terms)
  pub no_sort : ¬ IsTermOf natural_signature (variable 0 1)
  -- f(b) has the sort A by its head alone
  pub head : head_sort_of idle_signature (f_term b_term) ≡ Some 0
  -- 0 + Succ(0) is ground, and 0 + Succ(x) is not
  pub ground : IsGround (plus nought (successor nought))
  pub not_ground : ¬ IsGround (plus nought (successor x_natural))
  -- x occurs in 0 + Succ(x), and y does not, nor does a variable x of another sort
  pub occurring : Occurs 0 0 (plus nought (successor x_natural))
  pub other_number : ¬ Occurs 1 0 (plus nought (successor x_natural))
  pub other_sort : ¬ Occurs 0 1 (plus nought (successor x_natural))
  -- a list of terms as arguments
  pub arguments : argument_list_of (a_term ∷ b_term ∷ []) ≡ term_then a_term (term_then b_term no_terms)
  -- the signatures and the data are well formed
  pub naturals : IsWellFormedData natural_data
  pub idle : IsWellFormedData idle_data

pub record PathExamples : Type 0 where
  -- f(f(a)) at the root, at [0], at [0, 0] and past its end
  pub at_root : subterm [] (f_term (f_term a_term)) ≡ Some (f_term (f_term a_term))
  pub at_argument : subterm (0 ∷ []) (f_term (f_term a_term)) ≡ Some (f_term a_term)
  pub at_leaf : subterm (0 ∷ 0 ∷ []) (f_term (f_term a_term)) ≡ Some a_term
  pub past_leaf : subterm (0 ∷ 0 ∷ 0 ∷ []) (f_term (f_term a_term)) ≡ None
  pub past_arguments : subterm (1 ∷ []) (f_term (f_term a_term)) ≡ None
  -- there is no argument below a variable
  pub below_variable : subterm (0 ∷ 0 ∷ []) (successor x_natural) ≡ None
  -- positions count from 0, from the left
  pub left : subterm (0 ∷ []) (plus nought x_natural) ≡ Some nought
  pub right : subterm (1 ∷ []) (plus nought x_natural) ≡ Some x_natural
  -- a put into f(f(a)), and f(a) put into it
  pub put_at_root : put_at [] a_term (f_term (f_term a_term)) ≡ Some a_term
  pub put_at_argument : put_at (0 ∷ []) a_term (f_term (f_term a_term)) ≡ Some (f_term a_term)
  pub put_at_leaf : put_at (0 ∷ 0 ∷ []) (f_term a_term) (f_term (f_term a_term))
      ≡ Some (f_term (f_term (f_term a_term)))
  pub put_past : put_at (1 ∷ []) a_term (f_term (f_term a_term)) ≡ None
  -- the other argument stays
  pub sibling : put_at (1 ∷ 0 ∷ []) nought (plus x_natural (successor y_natural))
      ≡ Some (plus x_natural (successor nought))
  -- the two arguments of + are at parallel paths, and a subterm is at none with its term
  pub parallel : AreParallel (0 ∷ []) (1 ∷ 0 ∷ [])
  pub not_parallel : ¬ AreParallel (0 ∷ []) (0 ∷ 1 ∷ [])

pub record SubstitutionExamples : Type 0 where
  -- 0 for x in Succ(x) + y
  pub one : substituted (binding ((0, nought) ∷ [])) (plus (successor x_natural) y_natural)
      ≡ plus (successor nought) y_natural
  -- 0 for x and Succ(0) for y, at once
  pub both : substituted (binding ((0, nought) ∷ (1, successor nought) ∷ [])) (plus (successor x_natural) y_natural)
      ≡ plus (successor nought) (successor nought)
  -- y for x and x for y change places
  pub at_once : substituted (binding ((0, y_natural) ∷ (1, x_natural) ∷ [])) (plus x_natural y_natural)
      ≡ plus y_natural x_natural
  -- the first value of a number counts
  pub first : substituted (binding ((0, nought) ∷ (0, successor nought) ∷ [])) x_natural ≡ nought
  -- y for x and then 0 for y
  pub one_after_another : substituted (followed_by (binding ((0, y_natural) ∷ [])) (binding ((1, nought) ∷ []))) (plus x_natural y_natural)
      ≡ plus nought nought
  -- below a binder of x the value of x is not put, and that of y is
  pub under_binder : substituted (without (0 ∷ []) (binding ((0, nought) ∷ (1, nought) ∷ []))) (plus x_natural y_natural)
      ≡ plus x_natural nought

pub record EqualityExamples : Type 0 where
  -- 0 + Succ(0) = Succ(0), by one link at the root
  pub one_link : Equal natural_data (plus nought (successor nought)) (successor nought)
  -- Succ(0) + Succ(0) = Succ(Succ(0)), by a link at the root and one at [0]
  pub two_links : Equal natural_data (plus (successor nought) (successor nought)) (successor (successor nought))
  -- Succ(0) = 0 + Succ(0), by a link from right to left
  pub backward_link : Equal natural_data (successor nought) (plus nought (successor nought))
  -- 0 and Succ(0) are not equal
  pub not_equal : ¬ Equal natural_data nought (successor nought)
  -- f(f(f(a))) = f(a), and a and f(a) are not equal
  pub idle_twice : Equal idle_data (f_term (f_term (f_term a_term))) (f_term a_term)
  pub not_idle : ¬ Equal idle_data a_term (f_term a_term)
  -- f(f(b)) and f(b) are not equal: b has no sort of the equation's x
  pub wrong_sort : ¬ Equal idle_data (f_term (f_term b_term)) (f_term b_term)
  -- a for x makes a ground instance of f(f(x)) = f(x), though nothing ground can be put for the declared z
  pub idle_variable : IsGroundInstance idle_signature idle_law (binding ((0, a_term) ∷ []))
  pub nothing_for_it : (t : Term) → ¬ IsGroundOf idle_signature 2 t
  -- b for x makes none, and neither does x for x
  pub wrong_value : ¬ IsGroundInstance idle_signature idle_law (binding ((0, b_term) ∷ []))
  pub not_ground : ¬ IsGroundInstance idle_signature idle_law (binding [])

pub record CanonExamples : Type 0 where
  -- leaving out each meet of a term with itself is a canon of meet(x, x) = x
  pub meets : IsCanon meet_data meet_canon
  -- the identity function is none
  pub identity : ¬ IsCanon meet_data (λ t. t)
  -- meet(meet(a, x), meet(a, x)) has the canon meet(a, x)
  pub same : meet_canon (meet (meet a_term (variable 0 0)) (meet a_term (variable 0 0)))
      ≡ meet a_term (variable 0 0)
  -- meet(x, y) is its own canon, though with x for y it is not
  pub different : meet_canon (meet (variable 0 0) (variable 1 0)) ≡ meet (variable 0 0) (variable 1 0)
  -- raising all numbers by one keeps x and y apart, and giving all the number 0 does not
  pub apart : KeepsApart (λ n s. suc n) (meet (variable 0 0) (variable 1 0))
  pub joined : ¬ KeepsApart (λ n s. 0) (meet (variable 0 0) (variable 1 0))

-- identity is a congruence where there are no equations, as no instance is asked of it
pub identity_is_congruence : IsCongruence bare_data (λ t. Unit {0}) (λ t u. t ≡ u)
identity_is_congruence = record {
  closed = λ t u h l. tt;
  reflexive = λ t h. refl;
  symmetric = λ t u h k e. sym e;
  transitive = λ t u v h k g e d. e ∙ d;
  inside = λ path t u whole before after h k e g d.
      same_Some before after (sym g ∙ ap (λ (v : Term). put_at path v whole) e ∙ d);
  equations = λ equation values is instance. absurd (none-some equation is.1);
}

-- 0 + x = x and Succ(x) + y = Succ(x + y) are true of numbers
natural_equations_are_true : (values : Substitution) (i : ℕ) (equation : Equation)
    → slice_get natural_data.equations i ≡ Some equation
    → natural_meaning (substituted values equation.left) ≡ natural_meaning (substituted values equation.right)
natural_equations_are_true values zero equation e =
    subst (λ (q : Equation). natural_meaning (substituted values q.left) ≡ natural_meaning (substituted values q.right))
    (same_Some nought_law equation e) (zero-add (natural_meaning (values 0 0)))
natural_equations_are_true values (suc zero) equation e =
    subst (λ (q : Equation). natural_meaning (substituted values q.left) ≡ natural_meaning (substituted values q.right))
    (same_Some successor_law equation e) (suc-add (natural_meaning (values 0 0)) (natural_meaning (values 1 0)))
natural_equations_are_true values (suc (suc i)) equation e = absurd (none-some equation e)

-- so natural numbers meet their equations, and having the same meaning is a congruence
pub natural_equations_are_met : MeetsEquations natural_data natural_operate
natural_equations_are_met equation values is instance = natural_equations_are_true values is.0 equation is.1

pub natural_meaning_is_congruence : IsCongruence natural_data (λ t. Unit {0}) (λ t u. natural_meaning t ≡ natural_meaning u)
natural_meaning_is_congruence = meaning_is_congruence natural_data natural_operate natural_equations_are_met

-- without equations equal terms are identical
abbrev pub EqualBareTermsAreIdentical : Type 0
EqualBareTermsAreIdentical = (t u : Term) → Equal bare_data t u → t ≡ u

-- equal terms of natural numbers mean the same number
abbrev pub EqualNaturalTermsMeanTheSame : Type 0
EqualNaturalTermsMeanTheSame = (t u : Term) → Equal natural_data t u → natural_meaning t ≡ natural_meaning u
