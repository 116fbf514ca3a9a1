-- Lists of terms with profiles as lists of what builds them.
use Rattle.std.specs.Prelude.{◌≡◌, refl, ℕ, zero, suc, List, [], ◌∷◌}
use Rattle.std.specs.Coded.{Coded, code_by, coded×, coded_ℕ, coded_list}
use Rattle.lotos_base.specs.Signature.{Operation, Form, prefix_form, infix_form}
use Rattle.sort_terms.specs.ProfiledTerm.{ProfiledTerm, ProfiledTerms, profiled_variable, profiled_node, no_profiled_terms, profiled_term_then}

-- ---- An operation as numbers and lists

abbrev pub form_number : Form → ℕ
form_number prefix_form = 0
form_number infix_form = 1

abbrev pub form_numbered : ℕ → Form
form_numbered zero = prefix_form
form_numbered (suc n) = infix_form

form_back : (f : Form) → form_numbered (form_number f) ≡ f
form_back prefix_form = refl
form_back infix_form = refl

-- name, arguments, origin, form and result
abbrev pub Fields : Type 0
Fields = (List ℕ × List ℕ) × (List ℕ × (ℕ × ℕ))

abbrev pub fields_of : Operation → Fields
fields_of o = ((o.name, o.arguments), (o.origin, (form_number o.form, o.result)))

abbrev pub operation_with : Fields → Operation
operation_with p = record {
  name = p.0.0;
  form = form_numbered p.1.1.0;
  arguments = p.0.1;
  result = p.1.1.1;
  origin = p.1.0;
}

pub fields_back : (o : Operation) → operation_with (fields_of o) ≡ o
fields_back o = λ i. record { name = o.name; form = form_back o.form i; arguments = o.arguments; result = o.result; origin = o.origin }

abbrev pub operation_code : Coded Operation
operation_code =
    code_by Fields
    (coded× (coded× (coded_list coded_ℕ) (coded_list coded_ℕ)) (coded× (coded_list coded_ℕ) (coded× coded_ℕ coded_ℕ)))
    fields_of operation_with fields_back

-- ---- Steps

-- one step of a building
pub data BuildingStep : Type 0 where
  begin : BuildingStep
  put_variable : ℕ → ℕ → BuildingStep
  put_node : ℕ → Operation → BuildingStep

abbrev mutual
  -- the steps that put a term in front of the last list
  pub steps_onto : ProfiledTerm → List BuildingStep → List BuildingStep
  steps_onto (profiled_variable n s) rest = put_variable n s ∷ rest
  steps_onto (profiled_node f operation ts) rest = steps_for ts (put_node f operation ∷ rest)

  -- the steps that build a list
  pub steps_for : ProfiledTerms → List BuildingStep → List BuildingStep
  steps_for no_profiled_terms rest = begin ∷ rest
  steps_for (profiled_term_then t ts) rest = steps_for ts (steps_onto t rest)

-- what a step makes of the lists that are built
abbrev pub with_term : ProfiledTerm → List ProfiledTerms → List ProfiledTerms
with_term t [] = []
with_term t (ts ∷ stack) = profiled_term_then t ts ∷ stack

abbrev pub with_node : ℕ → Operation → List ProfiledTerms → List ProfiledTerms
with_node f operation [] = []
with_node f operation (ts ∷ stack) = with_term (profiled_node f operation ts) stack

abbrev pub stack_stepped : BuildingStep → List ProfiledTerms → List ProfiledTerms
stack_stepped begin stack = no_profiled_terms ∷ stack
stack_stepped (put_variable n s) stack = with_term (profiled_variable n s) stack
stack_stepped (put_node f operation) stack = with_node f operation stack

abbrev pub built : List BuildingStep → List ProfiledTerms → List ProfiledTerms
built [] stack = stack
built (step ∷ steps) stack = built steps (stack_stepped step stack)

abbrev pub first_list : List ProfiledTerms → ProfiledTerms
first_list [] = no_profiled_terms
first_list (ts ∷ stack) = ts

mutual
  onto_built : (t : ProfiledTerm) (rest : List BuildingStep) (us : ProfiledTerms) (stack : List ProfiledTerms)
      → built (steps_onto t rest) (us ∷ stack) ≡ built rest (profiled_term_then t us ∷ stack)
  onto_built (profiled_variable n s) rest us stack = refl
  onto_built (profiled_node f operation ts) rest us stack = for_built ts (put_node f operation ∷ rest) (us ∷ stack)

  for_built : (ts : ProfiledTerms) (rest : List BuildingStep) (stack : List ProfiledTerms)
      → built (steps_for ts rest) stack ≡ built rest (ts ∷ stack)
  for_built no_profiled_terms rest stack = refl
  for_built (profiled_term_then t ts) rest stack = rw (for_built ts (steps_onto t rest) stack) (onto_built t rest ts stack)

pub built_back : (ts : ProfiledTerms) → first_list (built (steps_for ts []) []) ≡ ts
built_back ts = rw (for_built ts [] []) refl

-- ---- Codes

abbrev pub step_numbers : BuildingStep → (ℕ × (ℕ × ℕ)) × Fields
step_numbers begin = ((0, (0, 0)), ((([], [])), ([], (0, 0))))
step_numbers (put_variable n s) = ((1, (n, s)), (([], []), ([], (0, 0))))
step_numbers (put_node f operation) = ((2, (f, 0)), fields_of operation)

abbrev pub step_of_kind : ℕ → (ℕ × ℕ) → Fields → BuildingStep
step_of_kind zero p fields = begin
step_of_kind (suc zero) p fields = put_variable p.0 p.1
step_of_kind (suc (suc k)) p fields = put_node p.0 (operation_with fields)

abbrev pub step_of_code : (ℕ × (ℕ × ℕ)) × Fields → BuildingStep
step_of_code p = step_of_kind p.0.0 p.0.1 p.1

pub step_back : (s : BuildingStep) → step_of_code (step_numbers s) ≡ s
step_back begin = refl
step_back (put_variable n s) = refl
step_back (put_node f operation) = λ i. put_node f (fields_back operation i)

abbrev pub coded_step : Coded BuildingStep
coded_step =
    code_by ((ℕ × (ℕ × ℕ)) × Fields)
    (coded× (coded× coded_ℕ (coded× coded_ℕ coded_ℕ))
    (coded× (coded× (coded_list coded_ℕ) (coded_list coded_ℕ)) (coded× (coded_list coded_ℕ) (coded× coded_ℕ coded_ℕ))))
    step_numbers step_of_code step_back

abbrev pub terms_code : Coded ProfiledTerms
terms_code =
    code_by (List BuildingStep) (coded_list coded_step) (λ ts. steps_for ts []) (λ steps. first_list (built steps [])) built_back
