-- The walk through the specification that is made from a number of cells.
use Rattle.std.specs.Prelude.{◌≡◌, ℕ, zero, suc, ◌+◌, List, [], ◌∷◌, ◌++◌, Option, None, Some, option_map, codes}
use Rattle.lotos_base.specs.WrittenTerm.{WrittenTerm, WrittenTerms, written, no_written, written_then}
use Rattle.sort_terms.specs.ReadingOutcome.{ReadingRefusal, ReadingIs, answered, refused}
use Rattle.lotos_base.specs.Equation.{Place}
use Rattle.lotos_base.specs.Signature.{Signature, prefix_form}
use Rattle.lotos_base.specs.Term.{Term}
use Rattle.behaviour_semantics.specs.Label.{Label}
use Rattle.history_lines.specs.HandedOn.{SessionBasis, Situation, Progress, opened_progress, StepRefusal, step_refusal, HasStepped}

-- where terms stand that are in no text
abbrev pub no_place : Place
no_place = record { text = 0; line = 1; column = 1 }

-- a name before its arguments, as a term is written
abbrev pub before_arguments : List ℕ → WrittenTerms → WrittenTerm
before_arguments name arguments = written (record { place = no_place; name = name; form = prefix_form; sorts = [] }) arguments

-- the numbers 0 and 1 as terms of the shipped natural numbers
abbrev pub written_nought : WrittenTerm
written_nought = before_arguments (codes "0") no_written

abbrev pub written_one : WrittenTerm
written_one = before_arguments (codes "Succ") (written_then written_nought no_written)

-- The value that a written term stands for over the signature: the term of its one reading, and none where it has not one.
abbrev pub IsValueOf : Signature → WrittenTerm → Option Term → Type 0
IsValueOf signature term (Some value) = (sort : ℕ) × ReadingIs signature [] term None (answered (record { term = value; sort = sort }))
IsValueOf signature term None = (refusal : ReadingRefusal) × ReadingIs signature [] term None (refused refusal)

-- the values that are put: by the first cell, and by each other one
pub record WalkValues : Type 0 where
  pub of_first : Option Term
  pub of_others : Option Term

-- the first cell puts 0, each other one 1
pub record AreWalkValues (signature : Signature) (values : WalkValues) : Type 0 where
  pub of_first : IsValueOf signature written_nought values.of_first
  pub of_others : IsValueOf signature written_one values.of_others

abbrev pub value_of_cell : WalkValues → ℕ → Option Term
value_of_cell values zero = values.of_first
value_of_cell values (suc cell) = values.of_others

-- a step of the walk: the number of an entry, and the values for its variables, if they are terms of the signature
pub record WalkStep : Type 0 where
  pub number : ℕ
  pub values : Option (List Term)

-- one value alone
abbrev pub single_value : Term → List Term
single_value value = value ∷ []

-- a cell puts its value: the entry of the first cell is the second one of the menu, since the first one is that of the store
abbrev pub cell_step : WalkValues → ℕ → WalkStep
cell_step values cell = record { number = cell + 2; values = option_map single_value (value_of_cell values cell) }

-- a round: each cell puts its value
abbrev pub round_steps : WalkValues → (cells : ℕ) → List WalkStep
round_steps values zero = []
round_steps values (suc cells) = round_steps values cells ++ (cell_step values cells ∷ [])

-- so many rounds
abbrev pub rounds_steps : WalkValues → (cells rounds : ℕ) → List WalkStep
rounds_steps values cells zero = []
rounds_steps values cells (suc rounds) = rounds_steps values cells rounds ++ round_steps values cells

-- the store tells the length of its list
abbrev pub store_step : WalkStep
store_step = record { number = 1; values = Some [] }

-- four rounds, and then the length is told
abbrev pub walk_steps : WalkValues → (cells : ℕ) → List WalkStep
walk_steps values cells = rounds_steps values cells 4 ++ (store_step ∷ [])

-- Where a step of the walk leads a session: it is taken; or it is left out, since it is refused, or since its values are none.
pub data Goes (basis : SessionBasis) (step : WalkStep) (before after : Progress) : Type 0 where
  is_taken :
      (values : List Term) (label : Label)
      → step.values ≡ Some values
      → HasStepped basis before step.number values label after
      → Goes basis step before after
  is_refused :
      (values : List Term) (refusal : StepRefusal)
      → step.values ≡ Some values
      → step_refusal basis before.situation.menu step.number values ≡ Some refusal
      → after ≡ before
      → Goes basis step before after
  has_no_values :
      step.values ≡ None
      → after ≡ before
      → Goes basis step before after

-- where steps lead, one after another
abbrev pub GoesThrough : SessionBasis → List WalkStep → (before after : Progress) → Type 0
GoesThrough basis [] before after = after ≡ before
GoesThrough basis (step ∷ steps) before after = (next : Progress) × Goes basis step before next × GoesThrough basis steps next after

-- where the walk leads that begins so, without steps before it, and visits so many cells
pub record IsDemoWalk (basis : SessionBasis) (first : Situation) (cells : ℕ) (last : Progress) : Type 0 where
  pub values : WalkValues
  pub values_are : AreWalkValues basis.data_.signature values
  pub leads : GoesThrough basis (walk_steps values cells) (opened_progress first) last
