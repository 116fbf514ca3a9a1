-- What is known of the readings of a written term and of its arguments, at each sort; how it is put together, and the term
-- that it tells where there is one reading.
use Rattle.std.specs.Prelude.{ℕ, Bool, false, ◌||◌, ◌&&◌, nat_eq, List, [], ◌∷◌, Option, None, Some, slice_get, if◌then◌else◌}
use Rattle.std.specs.Option.{option_map}
use Rattle.lotos_base.specs.Signature.{Signature, Operation, Form}
use Rattle.lotos_base.specs.Equation.{Variable as DeclaredVariable}
use Rattle.lotos_base.specs.Twins.{form_eq}
use Rattle.sort_terms.specs.Asked.{allows}
use Rattle.sort_terms.specs.Choices.{joined_readings}
use Rattle.sort_terms.specs.ProfiledTerm.{ProfiledTerm, ProfiledTerms, profiled_variable, profiled_node, no_profiled_terms, profiled_term_then}
use Rattle.sort_terms.specs.declared.asked.Asked.{Asked}
use Rattle.sort_terms.specs.declared.choices.Choice.{Choice}
use Rattle.sort_terms.specs.declared.choices.Source.{Source}
use Rattle.sort_terms.specs.declared.choices.Source.TheVariants.{Variable, Operation as FromOperation}

mutual
  -- what is known at each sort, and the same of each argument
  pub data Table : Type 0 where
    table : (ℕ → Option Choice) → Tables → Table

  pub data Tables : Type 0 where
    no_tables : Tables
    table_then : Table → Tables → Tables

-- what is known at a sort
abbrev pub choice_at_sort : Table → ℕ → Option Choice
choice_at_sort (table choices arguments) = choices

-- one argument more: whether there are several readings, if there is one at all
abbrev pub with_argument_read : Option Choice → Option Bool → Option Bool
with_argument_read None rest = None
with_argument_read (Some choice) None = None
with_argument_read (Some choice) (Some several) = Some (choice.several || several)

-- whether arguments have several readings at these sorts, if they have one at all
abbrev pub combined : List ℕ → Tables → Option Bool
combined [] no_tables = Some false
combined [] (table_then t ts) = None
combined (s ∷ ss) no_tables = None
combined (s ∷ ss) (table_then t ts) = with_argument_read (choice_at_sort t s) (combined ss ts)

-- an operation's result sort where it may stand at a node, and whether its arguments have several readings
abbrev pub offered_by : Form → Asked → Tables → Operation → Option (ℕ × Bool)
offered_by form asked arguments operation =
    if form_eq operation.form form && allows asked operation.result
    then option_map (λ (several : Bool). (operation.result, several)) (combined operation.arguments arguments)
    else None

-- the same of the operation with a number
abbrev pub offered_if : Form → Asked → Tables → Option Operation → Option (ℕ × Bool)
offered_if form asked arguments None = None
offered_if form asked arguments (Some operation) = offered_by form asked arguments operation

abbrev pub operation_offered : Signature → Form → Asked → Tables → ℕ → Option (ℕ × Bool)
operation_offered signature form asked arguments number = offered_if form asked arguments (slice_get signature.operations number)

-- what is known at a sort once one more operation was looked at
abbrev pub with_offer : ℕ → Option Choice → ℕ → Option (ℕ × Bool) → Option Choice
with_offer sort known number None = known
with_offer sort known number (Some offer) =
    if nat_eq sort offer.0 then joined_readings known (FromOperation number) offer.1 else known

-- what is known at a sort once each of the operations was looked at
abbrev pub gathered : (ℕ → Option (ℕ × Bool)) → ℕ → Option Choice → List ℕ → Option Choice
gathered offer sort known [] = known
gathered offer sort known (number ∷ numbers) = gathered offer sort (with_offer sort known number (offer number)) numbers

-- what is known at a sort of a node that is a variable
abbrev pub only_variable : Asked → DeclaredVariable → ℕ → Option Choice
only_variable asked v sort =
    if allows asked v.sort && nat_eq sort v.sort then Some (record { source = Variable v.number; several = false }) else None

-- one argument more
abbrev pub profiled_cons : Option ProfiledTerm → Option ProfiledTerms → Option ProfiledTerms
profiled_cons None rest = None
profiled_cons (Some t) None = None
profiled_cons (Some t) (Some ts) = Some (profiled_term_then t ts)

-- the operation with this number on arguments that depend on its sorts
abbrev pub node_with : ℕ → (List ℕ → Option ProfiledTerms) → Option Operation → Option ProfiledTerm
node_with number arguments None = None
node_with number arguments (Some operation) = option_map (profiled_node number operation) (arguments operation.arguments)

-- the term with this head and sort, on arguments that depend on the sorts of the head
abbrev pub term_with : Signature → ℕ → (List ℕ → Option ProfiledTerms) → Source → Option ProfiledTerm
term_with signature sort arguments (Variable number) = Some (profiled_variable number sort)
term_with signature sort arguments (FromOperation number) = node_with number arguments (slice_get signature.operations number)

-- the same where a head is known
abbrev pub term_if : Signature → ℕ → (List ℕ → Option ProfiledTerms) → Option Choice → Option ProfiledTerm
term_if signature sort arguments None = None
term_if signature sort arguments (Some choice) = term_with signature sort arguments choice.source

abbrev mutual
  -- the term of a sort that a table tells
  pub built_from : Signature → Table → ℕ → Option ProfiledTerm
  built_from signature (table choices arguments) sort =
      term_if signature sort (λ sorts. all_built_from signature arguments sorts) (choices sort)

  pub all_built_from : Signature → Tables → List ℕ → Option ProfiledTerms
  all_built_from signature no_tables [] = Some no_profiled_terms
  all_built_from signature no_tables (s ∷ ss) = None
  all_built_from signature (table_then t ts) [] = None
  all_built_from signature (table_then t ts) (s ∷ ss) = profiled_cons (built_from signature t s) (all_built_from signature ts ss)
