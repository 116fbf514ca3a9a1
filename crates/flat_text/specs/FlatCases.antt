-- Worked cases of flat texts.
use Rattle.std.specs.Prelude.{◌≡◌, ℕ, List, [], ◌∷◌, ◌++◌, Option, None, Some, codes}
use Rattle.lotos_base.specs.Signature.{Sort, Operation, Form, prefix_form, infix_form}
use Rattle.lotos_base.specs.Term.{Term, variable, node, no_terms, term_then}
use Rattle.lotos_base.specs.Equation.{Variable, Equation, Data}
use Rattle.behaviour_semantics.specs.Behaviour.{Behaviour, stop, action, guard, choice, hide, call, Test, ask, give, Process, Specification}
use Rattle.flat_text.specs.GivenNames.{given_names}
use Rattle.flat_text.specs.EquationNames.{equation_names}
use Rattle.flat_text.specs.DataText.{data_text}
use Rattle.flat_text.specs.FlatText.{flat_text}

abbrev pub sort_called : List ℕ → Sort
sort_called name = record { name = name; origin = codes "T" }

abbrev pub operation_called : List ℕ → Form → List ℕ → ℕ → Operation
operation_called name form arguments result =
    record { name = name; form = form; arguments = arguments; result = result; origin = codes "T" }

abbrev pub applied_to_none : ℕ → Term
applied_to_none operation = node operation no_terms

abbrev pub applied_to_one : ℕ → Term → Term
applied_to_one operation t = node operation (term_then t no_terms)

abbrev pub applied_to_two : ℕ → Term → Term → Term
applied_to_two operation t u = node operation (term_then t (term_then u no_terms))

abbrev pub x_of : ℕ → Variable
x_of sort = record { name = codes "x"; number = 0; sort = sort }

abbrev pub y_of : ℕ → Variable
y_of sort = record { name = codes "y"; number = 1; sort = sort }

abbrev pub equation_by_sides : List Variable → Term → Term → Equation
equation_by_sides variables left right =
    record { place = record { text = 0; line = 1; column = 1 }; variables = variables; left = left; right = right }

-- a specification `S` without gates and parameters
abbrev pub only_body : Behaviour → Specification
only_body body =
    record { name = codes "S"; gate_names = []; gates = []; parameters = []; exit = None; body = body; processes = [] }

abbrev pub no_data : Data
no_data = record { signature = record { sorts = []; operations = [] }; equations = [] }

-- a sort, and a copy of it in which `f` was renamed to `k`
abbrev pub renamed_data : Data
renamed_data = record {
  signature = record {
    sorts = sort_called (codes "A") ∷ sort_called (codes "B") ∷ [];
    operations =
        operation_called (codes "a") prefix_form [] 0
        ∷ operation_called (codes "f") prefix_form (0 ∷ []) 0
        ∷ operation_called (codes "a") prefix_form [] 1
        ∷ operation_called (codes "k") prefix_form (1 ∷ []) 1
        ∷ [];
  };
  equations =
      equation_by_sides (x_of 0 ∷ []) (applied_to_one 1 (applied_to_one 1 (variable 0 0))) (applied_to_one 1 (variable 0 0))
      ∷ equation_by_sides (x_of 1 ∷ []) (applied_to_one 3 (applied_to_one 3 (variable 0 1))) (applied_to_one 3 (variable 0 1))
      ∷ [];
}

-- Data and a specification alone.
pub record DataStandAlone : Type 0 where
  pub nothing : flat_text no_data (only_body stop) ≡ codes "specification S : noexit\nbehaviour stop\nendspec\n"
  pub renamed :
      flat_text renamed_data (only_body stop)
      ≡ codes "specification S : noexit\ntype Data is\nsorts A, B\nopns\na : -> A\nf : A -> A\na : -> B\nk : B -> B\n"
      ++ codes "eqns\nofsort A forall v1 : A f(f(v1)) = f(v1);\nofsort B forall v1 : B k(k(v1)) = k(v1);\nendtype\n"
      ++ codes "behaviour stop\nendspec\n"

-- Operations whose names and forms need care: constants `V1` of two sorts, the infix `*` and the prefix `*`.
abbrev pub careful_data : Data
careful_data = record {
  signature = record {
    sorts = sort_called (codes "A") ∷ sort_called (codes "B") ∷ [];
    operations =
        operation_called (codes "V1") prefix_form [] 0
        ∷ operation_called (codes "*") infix_form (0 ∷ 0 ∷ []) 0
        ∷ operation_called (codes "v1") prefix_form [] 1
        ∷ operation_called (codes "*") prefix_form (0 ∷ []) 1
        ∷ [];
  };
  equations =
      equation_by_sides (x_of 0 ∷ y_of 0 ∷ []) (applied_to_two 1 (variable 0 0) (applied_to_two 1 (variable 1 0) (applied_to_none 0)))
      (variable 1 0)
      ∷ equation_by_sides [] (applied_to_one 3 (applied_to_none 0)) (applied_to_none 2)
      ∷ [];
}

-- Variables have no name that an operation has, and constants of two sorts have their sort behind them.
pub record DataAreReadOneWay : Type 0 where
  pub lines :
      data_text careful_data
      ≡ codes "type Data is\nsorts A, B\nopns\nV1 : -> A\n_*_ : A, A -> A\nv1 : -> B\n* : A -> B\neqns\n"
      ++ codes "ofsort A forall v2 : A, v3 : A v2 * (v3 * V1 of A) = v3;\nofsort B *(V1 of A) = v1 of B;\nendtype\n"

-- a constant `true` of `Bool`, and one of another sort
abbrev pub two_truths : Data
two_truths = record {
  signature = record {
    sorts = sort_called (codes "Bool") ∷ sort_called (codes "A") ∷ [];
    operations = operation_called (codes "true") prefix_form [] 0 ∷ operation_called (codes "true") prefix_form [] 1 ∷ [];
  };
  equations = [];
}

abbrev pub premiss : Term → Term → Test
premiss left right = record { left = left; right = right }

-- Gates `g` and `h`, a parameter, and three processes of one name: `P`, an inner `p`, and an inner `P` behind a `P_2`.
abbrev pub process_called : List ℕ → List ℕ → List Variable → Option (List ℕ) → Behaviour → Process
process_called name gates parameters exit body =
    record { name = name; gates = gates; parameters = parameters; exit = exit; body = body }

abbrev pub calling_specification : Specification
calling_specification = record {
  name = codes "Calls";
  gate_names = codes "g" ∷ codes "h" ∷ codes "c" ∷ [];
  gates = 0 ∷ 1 ∷ [];
  parameters = x_of 1 ∷ [];
  exit = Some [];
  body = choice (call 0 (0 ∷ []) (variable 0 1 ∷ [])) (choice (call 1 [] []) (call 3 [] []));
  processes =
      process_called (codes "P") (2 ∷ []) (y_of 1 ∷ []) (Some (1 ∷ 0 ∷ []))
      (action 2 (ask (x_of 0) ∷ give (variable 1 1) ∷ []) (Some (premiss (variable 0 0) (applied_to_none 0)))
      (guard (premiss (variable 1 1) (applied_to_none 1)) stop))
      ∷ process_called (codes "p") [] [] None stop
      ∷ process_called (codes "P_2") [] [] None (hide (1 ∷ []) stop)
      ∷ process_called (codes "P") [] [] (Some []) (call 1 [] [])
      ∷ [];
}

-- Headings, processes and calls; premisses whose right side is `true` of `Bool`, and of another sort.
pub record ProcessesHaveApartNames : Type 0 where
  pub whole :
      flat_text two_truths calling_specification
      ≡ codes "specification Calls [g, h] (x : A) : exit\ntype Data is\nsorts Bool, A\nopns\ntrue : -> Bool\n"
      ++ codes "true : -> A\nendtype\nbehaviour P[g](x) [] (p_3 [] P_4)\nwhere\n"
      ++ codes "process P [c] (y : A) : exit(A, Bool) := c ?x:Bool !y [x]; [y = true of A] -> stop\nendproc\n"
      ++ codes "process p_3 : noexit := stop\nendproc\nprocess P_2 : noexit := hide h in stop\nendproc\n"
      ++ codes "process P_4 : exit := p_3\nendproc\nendspec\n"

-- Names that are given.
pub record NamesAreGivenApart : Type 0 where
  pub none : given_names [] ≡ []
  pub apart : given_names (codes "P" ∷ codes "Q" ∷ []) ≡ codes "P" ∷ codes "Q" ∷ []
  pub again : given_names (codes "P" ∷ codes "P" ∷ codes "P" ∷ []) ≡ codes "P" ∷ codes "P_2" ∷ codes "P_3" ∷ []
  pub small : given_names (codes "P" ∷ codes "p" ∷ []) ≡ codes "P" ∷ codes "p_2" ∷ []
  -- a later process has the name with 2, and one before it that with 3
  pub taken :
      given_names (codes "P_3" ∷ codes "P" ∷ codes "P" ∷ codes "p_2" ∷ [])
      ≡ codes "P_3" ∷ codes "P" ∷ codes "P_4" ∷ codes "p_2" ∷ []
  -- a name that was given is taken for a later process of another name
  pub chained :
      given_names (codes "P" ∷ codes "P" ∷ codes "P_2" ∷ codes "P_2" ∷ [])
      ≡ codes "P" ∷ codes "P_3" ∷ codes "P_2" ∷ codes "P_2_2" ∷ []
  -- variables: no operation has their name, in whichever case and form
  pub variables : equation_names careful_data.signature 2 ≡ codes "v2" ∷ codes "v3" ∷ []
  pub more : equation_names renamed_data.signature 2 ≡ codes "v1" ∷ codes "v2" ∷ []
