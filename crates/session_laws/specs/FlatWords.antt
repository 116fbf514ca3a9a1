-- The words of the flat text of a specification, where those of its types are given.
use Rattle.std.specs.Prelude.{ℕ, suc, List, [], ◌∷◌, ◌++◌, map, Option, None, Some, codes}
use Rattle.lotos_lexer.specs.declared.kinds.TheConstants.{COLON, NOEXIT, EXIT, WHERE, PROCESS, DEFINITION, ENDPROC, SPECIFICATION, BEHAVIOUR, ENDSPEC}
use Rattle.behaviour_semantics.specs.Behaviour.{Process, Specification}
use Rattle.behaviour_semantics.specs.WellFormed.{Every}
use Rattle.printed_texts.specs.TermText.{sort_text}
use Rattle.printed_texts.specs.BehaviourText.{Naming, called_text}
use Rattle.session_laws.specs.WrittenSpecifications.{whole_of}
use Rattle.session_laws.specs.PrintedWords.{Word, a_word, name_word, gate_word, declared_words, round_list_words, square_list_words, behaviour_words}
use Rattle.session_laws.specs.WordLaws.{HasTextForm}

abbrev pub functionality_words : Naming → Option (List ℕ) → List Word
functionality_words naming None = a_word NOEXIT (codes "noexit") ∷ []
functionality_words naming (Some sorts) =
    a_word EXIT (codes "exit") ∷ round_list_words (map (λ (sort : ℕ). name_word (sort_text naming.signature sort) ∷ []) sorts)

-- a heading under a name
abbrev pub heading_words : Naming → List ℕ → Process → List Word
heading_words naming name p =
    name_word name
    ∷ (square_list_words (map (λ (gate : ℕ). gate_word naming gate ∷ []) p.gates)
    ++ (round_list_words (map (declared_words naming) p.parameters) ++ a_word COLON (codes ":") ∷ functionality_words naming p.exit))

-- a process under a name
abbrev pub process_words : Naming → List ℕ → Process → List Word
process_words naming name p =
    a_word PROCESS (codes "process")
    ∷ (heading_words naming name p
    ++ a_word DEFINITION (codes ":=") ∷ (behaviour_words naming p.parameters p.body ++ a_word ENDPROC (codes "endproc") ∷ []))

-- processes under the names that they are printed by, the first of which has this number
abbrev pub processes_words : Naming → ℕ → List Process → List Word
processes_words naming next [] = []
processes_words naming next (p ∷ processes) =
    process_words naming (called_text naming next) p ++ processes_words naming (suc next) processes

abbrev pub where_words : Naming → List Process → List Word
where_words naming [] = []
where_words naming (p ∷ processes) = a_word WHERE (codes "where") ∷ processes_words naming 0 (p ∷ processes)

-- a specification with the words of its types
abbrev pub specification_words : Naming → List Word → Specification → List Word
specification_words naming types specification =
    a_word SPECIFICATION (codes "specification")
    ∷ (heading_words naming specification.name (whole_of specification)
    ++ (types
    ++ a_word BEHAVIOUR (codes "behaviour")
    ∷ (behaviour_words naming specification.parameters specification.body
    ++ (where_words naming specification.processes ++ a_word ENDSPEC (codes "endspec") ∷ []))))

-- all its behaviours have the form that texts give them
pub record HaveTextForms (specification : Specification) : Type 0 where
  pub body : HasTextForm specification.body
  pub processes : Every (λ (p : Process). HasTextForm p.body) specification.processes
