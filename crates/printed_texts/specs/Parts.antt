-- What is still to be written of a term: a list of parts, of which the last one comes next.
use Rattle.std.specs.Prelude.{ℕ, suc, ◌+◌, Bool, List, [], ◌∷◌, ◌++◌, codes, drop, if◌then◌else◌, map}
use Rattle.lotos_base.specs.Signature.{Operation, Signature as PlainSignature}
use Rattle.sort_terms.specs.ProfiledTerm.{ProfiledTerm, ProfiledTerms, profiled_variable, profiled_node, no_profiled_terms, profiled_term_then}
use Rattle.sort_terms.specs.TermView.{all_profiled, profiled_of}
use Rattle.sort_terms.specs.Operations.{operation_of}
use Rattle.sort_terms.specs.SignatureView.{signature_of}
use Rattle.sort_terms.specs.declared.equations.Variable.{Variable}
use Rattle.sort_terms.specs.declared.signatures.Signature.{Signature}
use Rattle.sort_terms.specs.declared.terms.Term.{Term}
use Rattle.printed_texts.specs.Brackets.{with_closing_bracket, listed}
use Rattle.printed_texts.specs.TermText.{operator_text, shown, sort_text}
use Rattle.printed_texts.specs.TextView.{argument_text, phrase_in}
use Rattle.printed_texts.specs.declared.terms.Part.{Part}
use Rattle.printed_texts.specs.declared.terms.Part.TheVariants.{Phrase, Arguments, Operator, Close, Of}

-- the sort of an operation, where it is written
abbrev pub of_text_if : Bool → PlainSignature → Operation → List ℕ
of_text_if with_sort signature operation = if with_sort then codes " of " ++ sort_text signature operation.result else []

-- a text with a part written behind it; a closing bracket may put a blank behind the opening one too
abbrev pub with_part : Signature → List Variable → Part → List ℕ → List ℕ
with_part signature names (Phrase term is_operand) text = text ++ shown is_operand (phrase_in signature names term.now)
with_part signature names (Arguments terms number) text =
    text ++ listed number (map (argument_text signature names) (drop number terms.now.items))
with_part signature names (Operator operation) text = text ++ operator_text (operation_of operation.now).name
with_part signature names (Close is_needed position) text = with_closing_bracket is_needed position text
with_part signature names (Of operation with_sort) text =
    text ++ of_text_if with_sort (signature_of signature) (operation_of operation.now)

-- a text with all parts written, from the last one on
abbrev pub written : Signature → List Variable → List Part → List ℕ → List ℕ
written signature names [] text = text
written signature names (part ∷ parts) text = with_part signature names part (written signature names parts text)

abbrev mutual
  -- Writing an operation puts fewer parts on the list than this.
  pub profiled_weight : ProfiledTerm → ℕ
  profiled_weight (profiled_variable n s) = 1
  profiled_weight (profiled_node f operation ts) = 5 + profiled_weights ts

  pub profiled_weights : ProfiledTerms → ℕ
  profiled_weights no_profiled_terms = 0
  profiled_weights (profiled_term_then t ts) = suc (profiled_weight t + profiled_weights ts)

-- of a term and of a list of the code
abbrev pub weight_of : Term → ℕ
weight_of t = profiled_weight (profiled_of t)

abbrev pub weights_of : List Term → ℕ
weights_of ts = profiled_weights (all_profiled ts)

-- how many turns a part may take, at most
abbrev pub part_weight : Part → ℕ
part_weight (Phrase term is_operand) = weight_of term.now
part_weight (Arguments terms number) = 1 + weights_of (drop number terms.now.items)
part_weight (Operator operation) = 1
part_weight (Close is_needed position) = 1
part_weight (Of operation with_sort) = 1

abbrev pub part_weights : List Part → ℕ
part_weights [] = 0
part_weights (part ∷ parts) = part_weight part + part_weights parts
