-- What reading a written term, or a pair of them, comes to: the one reading, or the first reason to refuse it.
use Rattle.std.specs.Prelude.{◌≡◌, ◌⊎◌, ℕ, Bool, ◌&&◌, ◌||◌, List, [], ◌∷◌, ◌++◌, take, drop, Option, None, Some, if◌then◌else◌}
use Rattle.std.specs.List.{list_any}
use Rattle.std.specs.Str.{bytes_eq}
use Rattle.lotos_base.specs.WrittenTerm.{PlacedName, WrittenHead, WrittenTerm, WrittenTerms, written, no_written, written_then, written_head}
use Rattle.lotos_base.specs.Names.{folded}
use Rattle.lotos_base.specs.Twins.{form_eq}
use Rattle.lotos_base.specs.Signature.{Signature, Sort, Operation, Form, prefix_form, infix_form}
use Rattle.lotos_base.specs.Equation.{Place, Variable}
use Rattle.lotos_base.specs.Term.{Term}
use Rattle.sort_terms.specs.Counting.{HasNone, IsOnly, HasTwo}
use Rattle.sort_terms.specs.Reading.{Reads}

-- Why a written term is refused, with the place: a name that stands for nothing, an `of` with the name of no sort, no
-- reading, or two or more.
pub data ReadingRefusal : Type 0 where
  unknown_name unknown_sort no_reading two_readings : Place → ReadingRefusal

-- whether two spellings are one name
abbrev pub one_name : List ℕ → List ℕ → Bool
one_name one other = bytes_eq (folded one) (folded other)

-- whether an operation has the name and form
abbrev pub is_operation_name : Signature → List ℕ → Form → Bool
is_operation_name signature name form = list_any (λ (o : Operation). one_name o.name name && form_eq o.form form) signature.operations

-- whether a variable has the name
abbrev pub is_variable_name : List Variable → List ℕ → Bool
is_variable_name scope name = list_any (λ (v : Variable). one_name v.name name) scope

-- whether a variable in scope or an operation has the name and form. Arguments are not looked at
abbrev pub is_known : Signature → List Variable → WrittenHead → Bool
is_known signature scope head =
    (form_eq head.form prefix_form && is_variable_name scope head.name) || is_operation_name signature head.name head.form

-- whether a sort has the name
abbrev pub is_sort_name : Signature → List ℕ → Bool
is_sort_name signature name = list_any (λ (s : Sort). one_name s.name name) signature.sorts

-- the node's name, if it stands for nothing
abbrev pub unknown_at : Signature → List Variable → WrittenHead → List ReadingRefusal
unknown_at signature scope head = if is_known signature scope head then [] else unknown_name head.place ∷ []

-- the names behind `of` that are those of no sort, in text order
abbrev pub unknown_sorts : Signature → List PlacedName → List ReadingRefusal
unknown_sorts signature [] = []
unknown_sorts signature (asked ∷ rest) =
    (if is_sort_name signature asked.name then [] else unknown_sort asked.place ∷ []) ++ unknown_sorts signature rest

-- the lists one after the other
abbrev pub refusals_together : List (List ReadingRefusal) → List ReadingRefusal
refusals_together [] = []
refusals_together (list ∷ lists) = list ++ refusals_together lists

-- how many arguments stand before the name
abbrev pub arguments_before : Form → ℕ
arguments_before prefix_form = 0
arguments_before infix_form = 1

-- what is found at a name and in each argument, in text order: an infix operation stands behind its first argument
abbrev pub in_text_order : Form → List ReadingRefusal → List (List ReadingRefusal) → List ReadingRefusal
in_text_order form here arguments =
    refusals_together (take (arguments_before form) arguments) ++ here ++ refusals_together (drop (arguments_before form) arguments)

abbrev mutual
  -- All names in the term that stand for nothing, in text order: each `of` stands behind what it is put on.
  pub unknown_in : Signature → List Variable → WrittenTerm → List ReadingRefusal
  unknown_in signature scope (written head arguments) =
      in_text_order head.form (unknown_at signature scope head) (unknown_in_each signature scope arguments)
      ++ unknown_sorts signature head.sorts

  -- The same of each argument.
  pub unknown_in_each : Signature → List Variable → WrittenTerms → List (List ReadingRefusal)
  unknown_in_each signature scope no_written = []
  unknown_in_each signature scope (written_then w ws) = unknown_in signature scope w ∷ unknown_in_each signature scope ws

-- What a question about a text comes to: an answer, or a refusal.
pub data ReadingOutcome (A : Type 0) : Type 0 where
  answered : A → ReadingOutcome A
  refused : ReadingRefusal → ReadingOutcome A

-- The outcome of a question on texts with these unknown names, which stands at a place: the first unknown name is the
-- refusal; without one, the one answer, or the refusal that there is none or that there are more.
abbrev pub ComesTo : {A : Type 0} → List ReadingRefusal → Place → (A → Type 0) → ReadingOutcome A → Type 0
ComesTo (first ∷ rest) place IsAnswer (answered x) = ⊥
ComesTo (first ∷ rest) place IsAnswer (refused r) = r ≡ first
ComesTo [] place IsAnswer (answered x) = IsOnly IsAnswer x
ComesTo [] place IsAnswer (refused r) =
    (HasNone IsAnswer × (r ≡ no_reading place)) ⊎ (HasTwo IsAnswer × (r ≡ two_readings place))

-- A term with its sort.
pub record SortedTerm : Type 0 where
  pub term : Term
  pub sort : ℕ

-- Two terms with their common sort.
pub record SortedPair : Type 0 where
  pub left : Term
  pub right : Term
  pub sort : ℕ

-- The sort is the expected one, if one is expected.
abbrev pub IsExpected : Option ℕ → ℕ → Type 0
IsExpected None sort = Unit {0}
IsExpected (Some expected) sort = sort ≡ expected

-- A reading of the written term, with the expected sort if one is expected.
abbrev pub IsReading : Signature → List Variable → WrittenTerm → Option ℕ → SortedTerm → Type 0
IsReading signature scope w expected reading =
    Reads signature scope w reading.term reading.sort × IsExpected expected reading.sort

-- A reading of two written terms with one sort.
abbrev pub IsPairReading : Signature → List Variable → WrittenTerm → WrittenTerm → SortedPair → Type 0
IsPairReading signature scope left right reading =
    Reads signature scope left reading.left reading.sort × Reads signature scope right reading.right reading.sort

-- What reading a written term comes to; refusals of the whole stand at the term's place.
abbrev pub ReadingIs : Signature → List Variable → WrittenTerm → Option ℕ → ReadingOutcome SortedTerm → Type 0
ReadingIs signature scope w expected outcome =
    ComesTo (unknown_in signature scope w) (written_head w).place (IsReading signature scope w expected) outcome

-- What reading two written terms at one sort comes to; refusals of the whole stand at the left term's place.
abbrev pub PairReadingIs : Signature → List Variable → WrittenTerm → WrittenTerm → ReadingOutcome SortedPair → Type 0
PairReadingIs signature scope left right outcome =
    ComesTo (unknown_in signature scope left ++ unknown_in signature scope right) (written_head left).place
    (IsPairReading signature scope left right) outcome
