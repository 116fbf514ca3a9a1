-- The image of what a signature and equations list under a map of the numbers of sorts and one of the numbers of operations.
use Rattle.std.specs.Prelude.{ℕ, map}
use Rattle.lotos_base.specs.Signature.{Operation}
use Rattle.lotos_base.specs.Equation.{Variable, Equation}
use Rattle.lotos_base.specs.Term.{Term, Terms, variable, node, no_terms, term_then}

-- an operation, whose profile is mapped
abbrev pub operation_image : (ℕ → ℕ) → Operation → Operation
operation_image to_sort operation = record {
  name = operation.name;
  form = operation.form;
  arguments = map to_sort operation.arguments;
  result = to_sort operation.result;
  origin = operation.origin;
}

abbrev mutual
  -- a term, node by node
  pub term_image : (ℕ → ℕ) → (ℕ → ℕ) → Term → Term
  term_image to_sort to_operation (variable number sort) = variable number (to_sort sort)
  term_image to_sort to_operation (node operation arguments) =
      node (to_operation operation) (terms_image to_sort to_operation arguments)

  -- terms, one by one
  pub terms_image : (ℕ → ℕ) → (ℕ → ℕ) → Terms → Terms
  terms_image to_sort to_operation no_terms = no_terms
  terms_image to_sort to_operation (term_then t ts) =
      term_then (term_image to_sort to_operation t) (terms_image to_sort to_operation ts)

-- a variable, whose sort is mapped
abbrev pub variable_image : (ℕ → ℕ) → Variable → Variable
variable_image to_sort v = record { name = v.name; number = v.number; sort = to_sort v.sort }

-- an equation, at its place
abbrev pub equation_image : (ℕ → ℕ) → (ℕ → ℕ) → Equation → Equation
equation_image to_sort to_operation equation = record {
  place = equation.place;
  variables = map (variable_image to_sort) equation.variables;
  left = term_image to_sort to_operation equation.left;
  right = term_image to_sort to_operation equation.right;
}
