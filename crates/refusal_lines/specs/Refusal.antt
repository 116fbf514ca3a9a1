-- Why a specification is refused, as a plain value: the fault, and what is known of the specification by then.
use Rattle.std.specs.Prelude.{ℕ, List, Option}
use Rattle.lotos_base.specs.Equation.{Place, Data}
use Rattle.lotos_base.specs.Term.{Term}
use Rattle.sort_terms.specs.ReadingOutcome as reading
use Rattle.type_definitions.specs.MentionFaults.{MentionFault}
use Rattle.type_definitions.specs.TypeFault.{TypeFault}
use Rattle.scope_parts.specs.ScopeFault.{ScopeFault}
use Rattle.behaviour_semantics.specs.Behaviour.{Specification}

-- The fault. A text is too long, or not read at a place; one text of a library too many is mentioned; the names of types or
-- the types are wrong; definitions and behaviours break a rule on names, counts, `Bool` or terms; functionalities disagree,
-- each None for `noexit` or the sorts of `exit`; calls make an unguarded cycle through these processes; an item of the order
-- names no operation, or one that an earlier item names, or has a status that is none; the equation of the number cannot be
-- oriented; the critical pair of the rules of these equations with this peak is not joined, and its sides have these two
-- chosen forms; the start values are too few or too many, or a term among them is refused.
pub data Refusal : Type 0 where
  too_long : (text : ℕ) → Refusal
  bad_byte open_comment wrong_syntax too_deep : Place → Refusal
  too_many_libraries : Place → (name : List ℕ) → Refusal
  wrong_names : MentionFault → Refusal
  wrong_types : TypeFault → Refusal
  wrong_scopes : ScopeFault → Refusal
  mismatch : Place → (left right : Option (List ℕ)) → Refusal
  unguarded : Place → (process : ℕ) → (cycle : List ℕ) → Refusal
  unknown_operation twice_listed bad_status : Place → (name : List ℕ) → Refusal
  unorientable : (equation : ℕ) → Refusal
  unjoined : (first second : ℕ) → (peak left right : Term) → Refusal
  start_values : (wanted given : ℕ) → Refusal
  start_term : reading.ReadingRefusal → Refusal

-- A refusal with the names of the libraries whose texts were read, in the order of the numbers of these texts from 2 on; with
-- the data, once the types are flattened; and with the specification, once its scopes are resolved.
pub record Refused : Type 0 where
  pub refusal : Refusal
  pub libraries : List (List ℕ)
  pub data_ : Option Data
  pub spec : Option Specification
