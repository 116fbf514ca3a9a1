-- Small data for the worked cases: sorts A and B, names that need care, and operations with twins.
use Rattle.std.specs.Prelude.{ℕ, List, [], ◌∷◌, codes, None}
use Rattle.lotos_base.specs.Signature.{Signature, Sort, Operation, Form, prefix_form, infix_form}
use Rattle.lotos_base.specs.Term.{Term, variable, node, no_terms, term_then}
use Rattle.lotos_base.specs.Equation.{Variable}
use Rattle.behaviour_semantics.specs.Behaviour.{Behaviour, Process, Specification, stop}

abbrev pub printed_sort : List ℕ → Sort
printed_sort name = record { name = name; origin = codes "T" }

abbrev pub printed_operation : List ℕ → Form → List ℕ → ℕ → Operation
printed_operation name form arguments result =
    record { name = name; form = form; arguments = arguments; result = result; origin = codes "T" }

-- `d` and `D` are twins, since letter case makes no other name, and so are the two `-`; `h` and its infix namesake are none
abbrev pub printed_sample_signature : Signature
printed_sample_signature = record {
  sorts = printed_sort (codes "A") ∷ printed_sort (codes "B") ∷ [];
  operations =
      printed_operation (codes "a") prefix_form [] 0
      ∷ printed_operation (codes "f") prefix_form (0 ∷ []) 0
      ∷ printed_operation (codes "+") infix_form (0 ∷ 0 ∷ []) 0
      ∷ printed_operation (codes "*") prefix_form (0 ∷ []) 0
      ∷ printed_operation (codes ">") prefix_form (0 ∷ []) 0
      ∷ printed_operation (codes "d") prefix_form [] 0
      ∷ printed_operation (codes "D") prefix_form [] 1
      ∷ printed_operation (codes "-") infix_form (0 ∷ 0 ∷ []) 0
      ∷ printed_operation (codes "-") infix_form (0 ∷ 0 ∷ []) 1
      ∷ printed_operation (codes "h") prefix_form (0 ∷ 0 ∷ []) 0
      ∷ printed_operation (codes "h") infix_form (0 ∷ 0 ∷ []) 1
      ∷ [];
}

abbrev pub printed_a : Term
printed_a = node 0 no_terms

abbrev pub printed_f : Term → Term
printed_f t = node 1 (term_then t no_terms)

abbrev pub printed_plus : Term → Term → Term
printed_plus t u = node 2 (term_then t (term_then u no_terms))

abbrev pub star : Term → Term
star t = node 3 (term_then t no_terms)

abbrev pub printed_above : Term → Term
printed_above t = node 4 (term_then t no_terms)

abbrev pub small_d : Term
small_d = node 5 no_terms

abbrev pub capital_d : Term
capital_d = node 6 no_terms

abbrev pub minus : Term → Term → Term
minus t u = node 7 (term_then t (term_then u no_terms))

abbrev pub h : Term → Term → Term
h t u = node 9 (term_then t (term_then u no_terms))

-- the variable with this number, of sort A, and the declared variable x with the number 0
abbrev pub v : ℕ → Term
v number = variable number 0

abbrev pub printed_x : Variable
printed_x = record { name = codes "x"; number = 0; sort = 0 }

abbrev pub printed_y : Variable
printed_y = record { name = codes "y"; number = 1; sort = 1 }

-- the gates a, g, x and y, and a process P
abbrev pub sample_gates : List (List ℕ)
sample_gates = codes "a" ∷ codes "g" ∷ codes "x" ∷ codes "y" ∷ []

abbrev pub sample_process : Process
sample_process = record { name = codes "P"; gates = []; parameters = []; exit = None; body = stop }

abbrev pub printed_sample_specification : Specification
printed_sample_specification = record {
  name = codes "S";
  gate_names = sample_gates;
  gates = [];
  parameters = [];
  exit = None;
  body = stop;
  processes = sample_process ∷ [];
}
