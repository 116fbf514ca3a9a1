-- Small data for the computed cases.
use Rattle.std.specs.Prelude.{ℕ, zero, suc, ◌+◌, List, [], ◌∷◌, codes, if◌then◌else◌}
use Rattle.lotos_base.specs.Signature.{Signature, Sort, Operation, Form, prefix_form, infix_form}
use Rattle.lotos_base.specs.Term.{Term, variable, node, Terms, no_terms, term_then}
use Rattle.lotos_base.specs.Tests.{term_eq}
use Rattle.lotos_base.specs.Equation.{Variable, Equation, Data}
use Rattle.lotos_base.specs.Meaning.{interpretation}

abbrev pub example_sort : List ℕ → Sort
example_sort name = record { name = name; origin = codes "Example" }

abbrev pub example_operation : List ℕ → Form → List ℕ → ℕ → Operation
example_operation name form arguments result =
    record { name = name; form = form; arguments = arguments; result = result; origin = codes "Example" }

abbrev pub example_variable : List ℕ → ℕ → ℕ → Variable
example_variable name number sort = record { name = name; number = number; sort = sort }

abbrev pub example_equation : List Variable → Term → Term → Equation
example_equation variables left right =
    record { place = record { text = 0; line = 1; column = 1 }; variables = variables; left = left; right = right }

-- ---- Natural numbers: 0, Succ and +, with 0 + x = x and Succ(x) + y = Succ(x + y).

abbrev pub natural_signature : Signature
natural_signature = record {
  sorts = example_sort (codes "Nat") ∷ [];
  operations = example_operation (codes "0") prefix_form [] 0
      ∷ example_operation (codes "Succ") prefix_form (0 ∷ []) 0
      ∷ example_operation (codes "+") infix_form (0 ∷ 0 ∷ []) 0
      ∷ [];
}

-- the term 0
abbrev pub nought : Term
nought = node 0 no_terms

-- the term Succ(t)
abbrev pub successor : Term → Term
successor t = node 1 (term_then t no_terms)

-- the term t + u
abbrev pub plus : Term → Term → Term
plus t u = node 2 (term_then t (term_then u no_terms))

-- the variable x, which has the number 0, and the variable y, which has the number 1, both of sort Nat
abbrev pub x_natural : Term
x_natural = variable 0 0

abbrev pub y_natural : Term
y_natural = variable 1 0

abbrev pub natural_variables : List Variable
natural_variables = example_variable (codes "x") 0 0 ∷ example_variable (codes "y") 1 0 ∷ []

-- 0 + x = x, declared with x and y, of which y does not occur
abbrev pub nought_law : Equation
nought_law = example_equation natural_variables (plus nought x_natural) x_natural

-- Succ(x) + y = Succ(x + y)
abbrev pub successor_law : Equation
successor_law = example_equation natural_variables (plus (successor x_natural) y_natural) (successor (plus x_natural y_natural))

abbrev pub natural_data : Data
natural_data = record { signature = natural_signature; equations = nought_law ∷ successor_law ∷ [] }

-- what 0, Succ and + do with numbers
abbrev pub natural_operate : ℕ → List ℕ → ℕ
natural_operate zero ms = 0
natural_operate (suc zero) (m ∷ ms) = suc m
natural_operate (suc (suc zero)) (m ∷ k ∷ ms) = m + k
natural_operate _ _ = 0

-- the number that a term means, with 0 for each variable
abbrev pub natural_meaning : Term → ℕ
natural_meaning t = interpretation natural_operate t

-- natural numbers without equations
abbrev pub bare_data : Data
bare_data = record { signature = natural_signature; equations = [] }

-- ---- Three sorts: a of sort A, b of sort B, f from A to A, with f(f(x)) = f(x) for x of sort A. The equation
-- ---- is declared with a variable z of a sort Empty that has no ground term.

abbrev pub idle_signature : Signature
idle_signature = record {
  sorts = example_sort (codes "A") ∷ example_sort (codes "B") ∷ example_sort (codes "Empty") ∷ [];
  operations = example_operation (codes "a") prefix_form [] 0
      ∷ example_operation (codes "b") prefix_form [] 1
      ∷ example_operation (codes "f") prefix_form (0 ∷ []) 0
      ∷ [];
}

abbrev pub a_term : Term
a_term = node 0 no_terms

abbrev pub b_term : Term
b_term = node 1 no_terms

abbrev pub f_term : Term → Term
f_term t = node 2 (term_then t no_terms)

abbrev pub idle_law : Equation
idle_law = example_equation
    (example_variable (codes "x") 0 0 ∷ example_variable (codes "z") 1 2 ∷ [])
    (f_term (f_term (variable 0 0)))
    (f_term (variable 0 0))

abbrev pub idle_data : Data
idle_data = record { signature = idle_signature; equations = idle_law ∷ [] }

-- ---- One sort: a, b and meet, with meet(x, x) = x. A term is put in canon by leaving out each meet of a term
-- ---- with itself, from the leaves up.

abbrev pub meet_signature : Signature
meet_signature = record {
  sorts = example_sort (codes "A") ∷ [];
  operations = example_operation (codes "a") prefix_form [] 0
      ∷ example_operation (codes "b") prefix_form [] 0
      ∷ example_operation (codes "meet") prefix_form (0 ∷ 0 ∷ []) 0
      ∷ [];
}

abbrev pub meet : Term → Term → Term
meet t u = node 2 (term_then t (term_then u no_terms))

abbrev pub meet_law : Equation
meet_law = example_equation (example_variable (codes "x") 0 0 ∷ []) (meet (variable 0 0) (variable 0 0)) (variable 0 0)

abbrev pub meet_data : Data
meet_data = record { signature = meet_signature; equations = meet_law ∷ [] }

-- the operation on the arguments, or the term that meets itself
abbrev pub met : ℕ → Terms → Term
met (suc (suc zero)) (term_then t (term_then u no_terms)) = if term_eq t u then t else meet t u
met f ts = node f ts

abbrev mutual
  pub meet_canon : Term → Term
  meet_canon (variable n s) = variable n s
  meet_canon (node f ts) = met f (meet_canons ts)

  pub meet_canons : Terms → Terms
  meet_canons no_terms = no_terms
  meet_canons (term_then t ts) = term_then (meet_canon t) (meet_canons ts)
