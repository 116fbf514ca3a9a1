-- Small data and small words for the worked cases: numbers with `lt` and `+` and their usual equations, the canonical
-- forms of these data, a sort without terms, and gates.
use Rattle.std.specs.Prelude.{ℕ, zero, suc, List, [], ◌∷◌, codes, None}
use Rattle.lotos_base.specs.Signature.{Signature, Form, prefix_form, infix_form, Operation}
use Rattle.lotos_base.specs.Term.{Term, variable, node, Terms, no_terms, term_then}
use Rattle.lotos_base.specs.Equation.{Data, Equation, Variable}
use Rattle.behaviour_semantics.specs.Behaviour.{Behaviour, action, Offer, Test}
use Rattle.lotos_base.specs.SmallData.{nought}

-- The sorts: Bool, Nat, and one without terms.
abbrev pub sample_bool_sort : ℕ
sample_bool_sort = 0

abbrev pub nat_sort : ℕ
nat_sort = 1

abbrev pub empty_sort : ℕ
empty_sort = 2

abbrev pub sample_operation_of : List ℕ → Form → List ℕ → ℕ → Operation
sample_operation_of name form arguments result = record {
  name = name;
  form = form;
  arguments = arguments;
  result = result;
  origin = codes "Sample";
}

-- The operations: `0`, `Succ`, `true`, `lt`, `+` and `false`.
abbrev pub sample_signature : Signature
sample_signature = record {
  sorts = record { name = codes "Bool"; origin = codes "Sample" } ∷ record { name = codes "Nat"; origin = codes "Sample" }
      ∷ record { name = codes "Empty"; origin = codes "Sample" } ∷ [];
  operations =
      sample_operation_of (codes "0") prefix_form [] 1
      ∷ sample_operation_of (codes "Succ") prefix_form (1 ∷ []) 1
      ∷ sample_operation_of (codes "true") prefix_form [] 0
      ∷ sample_operation_of (codes "lt") infix_form (1 ∷ 1 ∷ []) 0
      ∷ sample_operation_of (codes "+") infix_form (1 ∷ 1 ∷ []) 1
      ∷ sample_operation_of (codes "false") prefix_form [] 0
      ∷ [];
}

abbrev pub succ : Term → Term
succ t = node 1 (term_then t no_terms)

abbrev pub one : Term
one = succ nought

abbrev pub two : Term
two = succ one

abbrev pub truth : Term
truth = node 2 no_terms

abbrev pub falsehood : Term
falsehood = node 5 no_terms

abbrev pub less : Term → Term → Term
less t u = node 3 (term_then t (term_then u no_terms))

abbrev pub sample_plus : Term → Term → Term
sample_plus t u = node 4 (term_then t (term_then u no_terms))

-- A variable of sort Nat with its number.
abbrev pub nat : ℕ → Term
nat n = variable n 1

abbrev pub nat_variable : ℕ → Variable
nat_variable n = record { name = codes "x"; number = n; sort = 1 }

-- The variables of the equations, both of sort Nat.
abbrev pub declared_x : Variable
declared_x = nat_variable 0

abbrev pub declared_y : Variable
declared_y = record { name = codes "y"; number = 1; sort = 1 }

abbrev pub equation_on_line : ℕ → List Variable → Term → Term → Equation
equation_on_line line variables left right = record {
  place = record { text = 0; line = line; column = 1 };
  variables = variables;
  left = left;
  right = right;
}

-- `x + 0 = x`
abbrev pub sum_with_nought : Equation
sum_with_nought = equation_on_line 1 (declared_x ∷ []) (sample_plus (nat 0) nought) (nat 0)

-- `x + Succ(y) = Succ(x + y)`
abbrev pub sum_with_succ : Equation
sum_with_succ = equation_on_line 2 (declared_x ∷ declared_y ∷ []) (sample_plus (nat 0) (succ (nat 1))) (succ (sample_plus (nat 0) (nat 1)))

-- `x lt 0 = false`
abbrev pub below_nought : Equation
below_nought = equation_on_line 3 (declared_x ∷ []) (less (nat 0) nought) falsehood

-- `0 lt Succ(y) = true`
abbrev pub nought_below_succ : Equation
nought_below_succ = equation_on_line 4 (declared_y ∷ []) (less nought (succ (nat 1))) truth

-- `Succ(x) lt Succ(y) = x lt y`
abbrev pub succ_below_succ : Equation
succ_below_succ = equation_on_line 5 (declared_x ∷ declared_y ∷ []) (less (succ (nat 0)) (succ (nat 1))) (less (nat 0) (nat 1))

-- The sample data have these five equations.
abbrev pub sample_data : Data
sample_data = record {
  signature = sample_signature;
  equations = sum_with_nought ∷ sum_with_succ ∷ below_nought ∷ nought_below_succ ∷ succ_below_succ ∷ [];
}

-- `t + u`, by the right argument: `t + 0` is `t`, `t + Succ(u)` is `Succ(t + u)`, and any other sum stays.
abbrev pub sum_of : Term → Term → Term
sum_of t (node zero no_terms) = t
sum_of t (node (suc zero) (term_then u no_terms)) = succ (sum_of t u)
sum_of t u = sample_plus t u

-- `t lt u`, by both arguments: `t lt 0` is `false`, `0 lt Succ(u)` is `true`, `Succ(t) lt Succ(u)` is `t lt u`, and
-- any other comparison stays.
abbrev pub is_less : Term → Term → Term
is_less t (node zero no_terms) = falsehood
is_less (node zero no_terms) (node (suc zero) (term_then u no_terms)) = truth
is_less (node (suc zero) (term_then t no_terms)) (node (suc zero) (term_then u no_terms)) = is_less t u
is_less t u = less t u

-- The canonical form of the operation on arguments in canonical form.
abbrev pub canonically_applied : ℕ → Terms → Term
canonically_applied (suc (suc (suc zero))) (term_then t (term_then u no_terms)) = is_less t u
canonically_applied (suc (suc (suc (suc zero)))) (term_then t (term_then u no_terms)) = sum_of t u
canonically_applied f ts = node f ts

-- The canonical forms of the sample data, from the inside out.
abbrev mutual
  pub sample_canon : Term → Term
  sample_canon (variable n s) = variable n s
  sample_canon (node f ts) = canonically_applied f (sample_canons ts)

  pub sample_canons : Terms → Terms
  sample_canons no_terms = no_terms
  sample_canons (term_then t ts) = term_then (sample_canon t) (sample_canons ts)

-- The gates of the specification: a, b, g and h.
abbrev pub gate_a : ℕ
gate_a = 0

abbrev pub gate_b : ℕ
gate_b = 1

abbrev pub gate_g : ℕ
gate_g = 2

abbrev pub gate_h : ℕ
gate_h = 3

-- Gates that processes, relabellings, gate choices and gate `par`s bind: x, y and z.
abbrev pub gate_x : ℕ
gate_x = 4

abbrev pub gate_y : ℕ
gate_y = 5

abbrev pub gate_z : ℕ
gate_z = 6

-- An action without a test, and one without offers.
abbrev pub offering : ℕ → List Offer → Behaviour → Behaviour
offering g offers b = action g offers None b

abbrev pub event : ℕ → Behaviour → Behaviour
event g b = action g [] None b

abbrev pub sample_test : Term → Term → Test
sample_test left right = record { left = left; right = right }
