-- What the answers of the code say of the words behind `with`.
use Rattle.std.specs.Prelude.{◌≡◌, ℕ, List, map, Option, None, Some, IsSomeAnd}
use Rattle.lotos_base.specs.WrittenView.{written_term_of}
use Rattle.lotos_grammar.specs.HandedOn.{ReadFault}
use Rattle.sort_terms.specs.EquationView.{variable_of}
use Rattle.sort_terms.specs.ReadingOutcome as reading
use Rattle.sort_terms.specs.RefusalView.{reading_refusal_of as reason_of}
use Rattle.sort_terms.specs.SignatureView.{signature_of}
use Rattle.sort_terms.specs.declared.equations.Variable.{Variable}
use Rattle.sort_terms.specs.declared.signatures.Signature.{Signature}
use Rattle.sort_terms.specs.declared.sort_faults.SortFault.{SortFault}
use Rattle.behaviour_semantics.specs.Behaviour.{sorts_of}
use Rattle.refusal_lines.specs.Refusal.{Refusal}
use Rattle.refusal_lines.specs.RefusalView.{refusal_of}
use Rattle.refusal_lines.specs.StartValues as plain
use Rattle.refusal_lines.specs.StartValues.{Start, told_of_term, told_of_word}
use Rattle.refusal_lines.specs.declared.start_words.WordTerm.{WordTerm}
use Rattle.refusal_lines.specs.declared.faults.StartFault.{StartFault}
use Rattle.refusal_lines.specs.declared.faults.StartFault.TheVariants.{Refused, NoMemory}

-- a term among the words
abbrev pub word_term_of : WordTerm → plain.WordTerm
word_term_of given = record { word = given.word; term = written_term_of given.term }

-- the sorts of parameters
abbrev pub parameter_sorts : List Variable → List ℕ
parameter_sorts parameters = sorts_of (map variable_of parameters)

-- what is given
abbrev pub given_start_of : Signature → List Variable → List (List ℕ) → Start
given_start_of signature parameters words =
    record { signature = signature_of signature; sorts = parameter_sorts parameters; words = words }

-- the answer tells a refusal of this kind; or memory was wanted
abbrev pub FailsAs : (Refusal → Type 0) → StartFault → Type 0
FailsAs IsFault (Refused found) = (refusal : Refusal) × IsFault refusal × (refusal_of found ≡ Some refusal)
FailsAs IsFault NoMemory = Unit {0}

-- the answer tells this fault of the word with the number; or memory was wanted
abbrev pub TellsWord : ℕ → ReadFault → StartFault → Type 0
TellsWord number fault (Refused found) =
    IsSomeAnd (told_of_word number fault) (λ (refusal : Refusal). refusal_of found ≡ Some refusal)
TellsWord number fault NoMemory = Unit {0}

-- the answer tells this fault of a term of the word with the number; or memory was wanted
abbrev pub TellsTerm : ℕ → SortFault → StartFault → Type 0
TellsTerm word fault (Refused found) =
    IsSomeAnd (reason_of fault) (λ (reason : reading.ReadingRefusal). refusal_of found ≡ Some (told_of_term word reason))
TellsTerm word fault NoMemory = Unit {0}

-- the answer tells this refusal
abbrev pub TellsRefusal : Refusal → StartFault → Type 0
TellsRefusal refusal (Refused found) = refusal_of found ≡ Some refusal
TellsRefusal refusal NoMemory = Unit {0}
