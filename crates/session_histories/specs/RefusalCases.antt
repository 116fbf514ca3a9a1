-- Worked cases: why steps are refused, and the text of a trace. The numbers have `0`, `Succ` and `lt`, whose
-- equations are those of the usual order.
use Rattle.std.specs.Prelude.{◌≡◌, ℕ, zero, suc, List, [], ◌∷◌, nat_lt, Bool, true, false, codes, Option, None, Some}
use Rattle.lotos_base.specs.Signature.{Signature, Operation, Form, prefix_form, infix_form}
use Rattle.lotos_base.specs.Term.{Term, variable, node, Terms, no_terms, term_then}
use Rattle.lotos_base.specs.Equation.{Data}
use Rattle.behaviour_semantics.specs.Behaviour.{Specification, stop}
use Rattle.behaviour_semantics.specs.Label.{Label, inner_event, gate_event, exit_event}
use Rattle.behaviour_semantics.specs.Shape.{act, inner_step, left_side, right_side, with_value}
use Rattle.behaviour_semantics.specs.Solving.{Entry}
use Rattle.session_histories.specs.Session.{SessionBasis, Item}
use Rattle.session_histories.specs.Refusal.{StepRefusal, no_entry, value_count, value_sort, unmet, step_refusal}
use Rattle.session_histories.specs.TraceText.{plain_trace}
use Rattle.lotos_base.specs.SmallData.{nought}

-- the sorts Bool and Nat, and the operations `0`, `Succ`, `true`, `false` and `lt`
abbrev pub small_operation : List ℕ → Form → List ℕ → ℕ → Operation
small_operation name form arguments result =
    record { name = name; form = form; arguments = arguments; result = result; origin = codes "T" }

abbrev pub small_signature : Signature
small_signature = record {
  sorts = record { name = codes "Bool"; origin = codes "T" } ∷ record { name = codes "Nat"; origin = codes "T" } ∷ [];
  operations =
      small_operation (codes "0") prefix_form [] 1
      ∷ small_operation (codes "Succ") prefix_form (1 ∷ []) 1
      ∷ small_operation (codes "true") prefix_form [] 0
      ∷ small_operation (codes "false") prefix_form [] 0
      ∷ small_operation (codes "lt") infix_form (1 ∷ 1 ∷ []) 0
      ∷ [];
}

abbrev pub small_succ : Term → Term
small_succ t = node 1 (term_then t no_terms)

abbrev pub small_truth : Term
small_truth = node 2 no_terms

abbrev pub small_falsehood : Term
small_falsehood = node 3 no_terms

abbrev pub small_less : Term → Term → Term
small_less t u = node 4 (term_then t (term_then u no_terms))

-- how many `Succ` stand round `0`
abbrev mutual
  pub count : Term → ℕ
  count (variable n s) = 0
  count (node f ts) = count_first ts

  pub count_first : Terms → ℕ
  count_first no_terms = 0
  count_first (term_then t ts) = suc (count t)

abbrev pub told : Bool → Term
told true = small_truth
told false = small_falsehood

-- the canonical form of `t lt u` of numbers; other terms stay
abbrev pub small_canon : Term → Term
small_canon (node (suc (suc (suc (suc zero)))) (term_then t (term_then u no_terms))) = told (nat_lt (count t) (count u))
small_canon t = t

abbrev pub small_data : Data
small_data = record { signature = small_signature; equations = [] }

abbrev pub small_specification : Specification
small_specification = record {
  name = codes "S";
  gate_names = codes "g" ∷ codes "h" ∷ [];
  gates = 0 ∷ 1 ∷ [];
  parameters = [];
  exit = None;
  body = stop;
  processes = [];
}

abbrev pub small_basis : SessionBasis
small_basis = record { data_ = small_data; canon = small_canon; specification = small_specification }

-- the menu `1: g !$1 for $1:Nat if $1 lt Succ(Succ(0)) = true`, `2: i for $1:Bool`
abbrev pub number_entry : Entry
number_entry = record {
  shape = left_side act;
  label = gate_event 0 (variable 0 1 ∷ []);
  variables = 1 ∷ [];
  leaves = variable 0 1 ∷ [];
  conditions = record { left = small_less (variable 0 1) (small_succ (small_succ nought)); right = small_truth } ∷ [];
}

abbrev pub choice_entry : Entry
choice_entry = record {
  shape = right_side (with_value inner_step);
  label = inner_event;
  variables = 0 ∷ [];
  leaves = variable 0 0 ∷ [];
  conditions = [];
}

abbrev pub small_menu : List Entry
small_menu = number_entry ∷ choice_entry ∷ []

abbrev pub RefusesStep : ℕ → List Term → Option StepRefusal → Type 0
RefusesStep number values refusal = step_refusal small_basis small_menu number values ≡ refusal

-- The causes of a refusal, in their order.
pub record StepsAreRefused : Type 0 where
  pub entry_zero : RefusesStep 0 [] (Some (no_entry 0 2))
  pub past_the_end : RefusesStep 3 (small_truth ∷ []) (Some (no_entry 3 2))
  pub too_few : RefusesStep 1 [] (Some (value_count 1 0))
  pub too_many : RefusesStep 1 (small_truth ∷ small_truth ∷ []) (Some (value_count 1 2))
  pub other_sort : RefusesStep 1 (small_truth ∷ []) (Some (value_sort 0))
  pub unmet : RefusesStep 1 (small_succ (small_succ nought) ∷ []) (Some (unmet small_falsehood small_truth))
  pub met : RefusesStep 1 (small_succ nought ∷ []) None
  pub no_condition : RefusesStep 2 (small_falsehood ∷ []) None

abbrev pub item : ℕ → List Term → Label → Item
item number values label = record {
  number = number;
  values = values;
  derivation = record { shape = act; leaves = values };
  label = label;
}

-- The trace of each kind of label, in format 1.
pub record TracesHaveTexts : Type 0 where
  pub no_step : plain_trace small_signature small_specification.gate_names [] ≡ codes "lotos-trace 1\n"
  pub steps :
      plain_trace small_signature small_specification.gate_names
      (item 1 (small_succ nought ∷ []) (gate_event 0 (small_succ nought ∷ []))
      ∷ item 12 [] inner_event
      ∷ item 3 (nought ∷ small_less nought (small_succ nought) ∷ []) (exit_event (nought ∷ small_truth ∷ []))
      ∷ [])
      ≡ codes "lotos-trace 1\n1 Succ(0) => g !Succ(0)\n12 => i\n3 0, 0 lt Succ(0) => exit(0, true)\n"
