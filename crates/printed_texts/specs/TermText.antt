-- The text of a term: a constant is its name, a prefix operation `f(a, b)`, an infix operation `l + r`. An operand that is
-- infix stands in brackets. An operation with a twin has ` of S` behind it, with brackets round an infix one.
use Rattle.std.specs.Prelude.{ℕ, ◌+◌, List, [], ◌∷◌, ◌++◌, map, Bool, true, false, not, nat_eq, if◌then◌else◌, Option, Some, None, slice_get, codes, decimal}
use Rattle.lotos_base.specs.Signature.{Signature, Sort, Operation, Form, prefix_form, infix_form}
use Rattle.lotos_base.specs.Twins.{has_twin}
use Rattle.lotos_base.specs.Term.{Term, variable, node, Terms, no_terms, term_then}
use Rattle.lotos_base.specs.Equation.{Variable}
use Rattle.printed_texts.specs.Brackets.{bracketed, round, commas}

-- the name of a sort
abbrev pub sort_name : Option Sort → List ℕ
sort_name None = []
sort_name (Some sort) = sort.name

abbrev pub sort_text : Signature → ℕ → List ℕ
sort_text signature number = sort_name (slice_get signature.sorts number)

-- a variable without a name: `$1` is the first
abbrev pub numbered_text : ℕ → List ℕ
numbered_text number = codes "$" ++ decimal (number + 1)

-- a variable: the name that the first of these variables with its number has
abbrev pub variable_text : List Variable → ℕ → List ℕ
variable_text [] number = numbered_text number
variable_text (named ∷ names) number = if nat_eq named.number number then named.name else variable_text names number

-- The text of a term, and whether it stands in brackets as an operand: it is infix, without a sort behind it.
pub record Phrase : Type 0 where
  pub text : List ℕ
  pub is_infix : Bool

abbrev pub plain_phrase : List ℕ → Phrase
plain_phrase text = record { text = text; is_infix = false }

abbrev pub phrase_text : Phrase → List ℕ
phrase_text phrase = phrase.text

abbrev pub operand_text : Phrase → List ℕ
operand_text phrase = bracketed phrase.is_infix phrase.text

-- the sort of an operation that has a twin, and nothing for another
abbrev pub of_text : Signature → Operation → List ℕ
of_text signature operation = if has_twin signature operation then codes " of " ++ sort_text signature operation.result else []

-- the arguments of a prefix operation, which are none for a constant
abbrev pub arguments_text : List Phrase → List ℕ
arguments_text [] = []
arguments_text (phrase ∷ phrases) = round (commas (map phrase_text (phrase ∷ phrases)))

-- a constant or a prefix operation
abbrev pub prefix_phrase : Signature → Operation → List Phrase → Phrase
prefix_phrase signature operation phrases =
    plain_phrase (operation.name ++ arguments_text phrases ++ of_text signature operation)

-- an infix operation between its operands, with blanks round its name
abbrev pub operator_text : List ℕ → List ℕ
operator_text name = codes " " ++ name ++ codes " "

abbrev pub between_text : Operation → Phrase → Phrase → List ℕ
between_text operation left right = operand_text left ++ operator_text operation.name ++ operand_text right

abbrev pub infix_phrase : Signature → Operation → Phrase → Phrase → Phrase
infix_phrase signature operation left right = record {
  text = bracketed (has_twin signature operation) (between_text operation left right) ++ of_text signature operation;
  is_infix = not (has_twin signature operation);
}

-- An operation by its form. Infix operations have two arguments; one that has not is written as if it were prefix.
abbrev pub application_phrase : Signature → Operation → Form → List Phrase → Phrase
application_phrase signature operation prefix_form phrases = prefix_phrase signature operation phrases
application_phrase signature operation infix_form [] = prefix_phrase signature operation []
application_phrase signature operation infix_form (left ∷ []) = prefix_phrase signature operation (left ∷ [])
application_phrase signature operation infix_form (left ∷ right ∷ []) = infix_phrase signature operation left right
application_phrase signature operation infix_form (left ∷ right ∷ third ∷ phrases) =
    prefix_phrase signature operation (left ∷ right ∷ third ∷ phrases)

-- an operation of the signature; a number without one has no text
abbrev pub node_phrase : Signature → Option Operation → List Phrase → Phrase
node_phrase signature None phrases = plain_phrase []
node_phrase signature (Some operation) phrases = application_phrase signature operation operation.form phrases

abbrev mutual
  -- the phrase of a term
  pub phrase_of : Signature → List Variable → Term → Phrase
  phrase_of signature names (variable number sort) = plain_phrase (variable_text names number)
  phrase_of signature names (node number terms) =
      node_phrase signature (slice_get signature.operations number) (phrases_of signature names terms)

  -- the phrases of the terms of a list
  pub phrases_of : Signature → List Variable → Terms → List Phrase
  phrases_of signature names no_terms = []
  phrases_of signature names (term_then term terms) = phrase_of signature names term ∷ phrases_of signature names terms

-- the text
abbrev pub term_text : Signature → List Variable → Term → List ℕ
term_text signature names term = (phrase_of signature names term).text

-- a phrase where it is an operand, and where it is none
abbrev pub shown : Bool → Phrase → List ℕ
shown true phrase = operand_text phrase
shown false phrase = phrase.text
