-- The texts of what the code keeps.
use Rattle.std.specs.Prelude.{ℕ, List, map, Bool, false, nat_eq}
use Rattle.lotos_base.specs.Name.{spelling}
use Rattle.lotos_base.specs.declared.names.Name.{Name}
use Rattle.lotos_base.specs.Signature.{Form, prefix_form, infix_form}
use Rattle.sort_terms.specs.EquationView.{variable_of}
use Rattle.sort_terms.specs.Operations.{operation_of}
use Rattle.sort_terms.specs.SignatureView.{signature_of}
use Rattle.sort_terms.specs.SortedView.{term_in}
use Rattle.sort_terms.specs.TermView.{term_of, bare_terms_of}
use Rattle.sort_terms.specs.declared.equations.Variable.{Variable}
use Rattle.sort_terms.specs.declared.operations.Op.{Op}
use Rattle.sort_terms.specs.declared.signatures.Signature.{Signature}
use Rattle.sort_terms.specs.declared.sorted.Sorted.{Sorted}
use Rattle.sort_terms.specs.declared.terms.Term.{Term}
use Rattle.event_offers.specs.HandedOn.{label_of}
use Rattle.event_offers.specs.HandedOn.{Label}
use Rattle.event_offers.specs.OfferView.{plain_entry, condition_of}
use Rattle.event_offers.specs.declared.drafts.Entry.{Entry}
use Rattle.event_offers.specs.declared.menus.Menu.{Menu}
use Rattle.printed_texts.specs.TermText.{Phrase, phrase_of, phrases_of, prefix_phrase, application_phrase, term_text}
use Rattle.printed_texts.specs.MenuText.{label_text, entry_text, menu_line_text, lines_text, menu_text, condition_text, entry_term_text}
use Rattle.event_offers.specs.Parts.{menu_entries}

-- a term with these names of variables
abbrev pub phrase_in : Signature → List Variable → Term → Phrase
phrase_in signature names term = phrase_of (signature_of signature) (map variable_of names) (term_of term)

abbrev pub argument_text : Signature → List Variable → Term → List ℕ
argument_text signature names term = (phrase_in signature names term).text

-- the arguments of an operation
abbrev pub phrases_in : Signature → List Variable → List Term → List Phrase
phrases_in signature names terms = phrases_of (signature_of signature) (map variable_of names) (bare_terms_of terms)

-- an operation on these arguments, before them and between them
abbrev pub prefix_in : Signature → List Variable → Op → List Term → Phrase
prefix_in signature names operation terms = prefix_phrase (signature_of signature) (operation_of operation)
    (phrases_in signature names terms)

abbrev pub infix_in : Signature → List Variable → Op → List Term → Phrase
infix_in signature names operation terms =
    application_phrase (signature_of signature) (operation_of operation) infix_form (phrases_in signature names terms)

abbrev pub written_term : Signature → List Variable → Sorted → List ℕ
written_term signature names term = term_text (signature_of signature) (map variable_of names) (term_in term)

-- a term of a label or an entry
abbrev pub written_value : Signature → Sorted → List ℕ
written_value signature value = entry_term_text (signature_of signature) (term_in value)

-- an operation of this form with this many arguments stands between them
abbrev pub is_between : Form → ℕ → Bool
is_between prefix_form number = false
is_between infix_form number = nat_eq number 2

-- a label, an entry and a menu of the specification
abbrev pub written_label : Signature → List Name → Label → List ℕ
written_label signature gates label = label_text (signature_of signature) (map spelling gates) (label_of label)

abbrev pub written_condition : Signature → Sorted × Sorted → List ℕ
written_condition signature condition = condition_text (signature_of signature) (condition_of condition)

abbrev pub written_entry : Signature → List Name → Entry → List ℕ
written_entry signature gates entry = entry_text (signature_of signature) (map spelling gates) (plain_entry entry)

abbrev pub written_line : Signature → List Name → ℕ → Entry → List ℕ
written_line signature gates number entry = menu_line_text (signature_of signature) (map spelling gates) number (plain_entry entry)

abbrev pub written_lines : Signature → List Name → ℕ → List Entry → List ℕ
written_lines signature gates number entries = lines_text (signature_of signature) (map spelling gates) number (map plain_entry entries)

abbrev pub written_menu : Signature → List Name → Menu → List ℕ
written_menu signature gates menu = menu_text (signature_of signature) (map spelling gates) (map plain_entry (menu_entries menu))
