-- Refusals without a detail.
use Rattle.std.proofs.Common.{◌≡◌, ℕ, List, ◌++◌, Option, sym}
use Rattle.std.proofs.lemmas.List.{append-nil}
use Rattle.lotos_base.specs.Equation.{Data}
use Rattle.behaviour_semantics.specs.Behaviour.{Specification}
use Rattle.lotos_grammar.specs.HandedOn.{ReadFault}
use Rattle.scope_parts.specs.FaultView.{term_told}
use Rattle.lotos_grammar.specs.HandedOn.read_faults as read
use Rattle.sort_terms.specs.declared.sort_faults.SortFault.{SortFault}
use Rattle.sort_terms.specs.declared.sort_faults.SortFault.TheVariants as sort
use Rattle.refusal_lines.specs.RefusalView.{told_of_text, told_of_type_term, told_of_scopes, told_of_start}
use Rattle.refusal_lines.specs.TextNames.{TextNames}
use Rattle.refusal_lines.specs.LineView.{detail_told}

-- a text that is not read
pub no_text_detail :
    (into : List ℕ) (names : TextNames) (data_ : Option Data) (spec : Option Specification) (text : ℕ) (fault : ReadFault) →
    into ≡ into ++ detail_told names data_ spec (told_of_text text fault)
no_text_detail into names data_ spec text read.TooLong = sym (append-nil into)
no_text_detail into names data_ spec text (read.BadByte place) = sym (append-nil into)
no_text_detail into names data_ spec text (read.OpenComment place) = sym (append-nil into)
no_text_detail into names data_ spec text (read.Syntax place) = sym (append-nil into)
no_text_detail into names data_ spec text (read.TooDeep place) = sym (append-nil into)
no_text_detail into names data_ spec text read.NoMemory = sym (append-nil into)

-- a term in types, in behaviours and among the start values
pub no_type_term_detail :
    (into : List ℕ) (names : TextNames) (data_ : Option Data) (spec : Option Specification) (fault : SortFault) →
    into ≡ into ++ detail_told names data_ spec (told_of_type_term fault)
no_type_term_detail into names data_ spec (sort.UnknownName place) = sym (append-nil into)
no_type_term_detail into names data_ spec (sort.UnknownSort place) = sym (append-nil into)
no_type_term_detail into names data_ spec (sort.NoReading place) = sym (append-nil into)
no_type_term_detail into names data_ spec (sort.TwoReadings place) = sym (append-nil into)
no_type_term_detail into names data_ spec sort.NoMemory = sym (append-nil into)

pub no_scope_term_detail :
    (into : List ℕ) (names : TextNames) (data_ : Option Data) (spec : Option Specification) (fault : SortFault) →
    into ≡ into ++ detail_told names data_ spec (told_of_scopes (term_told fault))
no_scope_term_detail into names data_ spec (sort.UnknownName place) = sym (append-nil into)
no_scope_term_detail into names data_ spec (sort.UnknownSort place) = sym (append-nil into)
no_scope_term_detail into names data_ spec (sort.NoReading place) = sym (append-nil into)
no_scope_term_detail into names data_ spec (sort.TwoReadings place) = sym (append-nil into)
no_scope_term_detail into names data_ spec sort.NoMemory = sym (append-nil into)

pub no_start_detail :
    (into : List ℕ) (names : TextNames) (data_ : Option Data) (spec : Option Specification) (fault : SortFault) →
    into ≡ into ++ detail_told names data_ spec (told_of_start fault)
no_start_detail into names data_ spec (sort.UnknownName place) = sym (append-nil into)
no_start_detail into names data_ spec (sort.UnknownSort place) = sym (append-nil into)
no_start_detail into names data_ spec (sort.NoReading place) = sym (append-nil into)
no_start_detail into names data_ spec (sort.TwoReadings place) = sym (append-nil into)
no_start_detail into names data_ spec sort.NoMemory = sym (append-nil into)
