-- Worked cases of texts of behaviours and specifications: what their bytes are, and that these bytes are cut into their words.
use Rattle.std.specs.Prelude.{◌≡◌, ℕ, List, [], ◌∷◌, ◌++◌, map, Option, None, Some, codes}
use Rattle.lotos_base.specs.Signature.{Signature, prefix_form, infix_form}
use Rattle.lotos_base.specs.Equation.{Variable}
use Rattle.lotos_base.specs.Term.{variable, node, no_terms, term_then}
use Rattle.lotos_lexer.specs.declared.tokens.Token.{Token}
use Rattle.lotos_lexer.specs.declared.kinds.TheConstants.{DISABLING, EQUALS, RIGHT_BRACKET}
use Rattle.lotos_lexer.specs.Tokens as lexed
use Rattle.lotos_lexer.specs.Tokens.{Lexed, tokens_of}
use Rattle.lotos_rows.specs.Names.{spelled}
use Rattle.behaviour_semantics.specs.Behaviour.{Behaviour, stop, exit_with, action, guard, choice, parallel, hide, enable, call, give, ask, exit_value, any_of, at_gates, Specification}
use Rattle.printed_texts.specs.BehaviourText.{Naming, behaviour_text, process_names}
use Rattle.flat_text.specs.FlatCases.{sort_called, operation_called, applied_to_none, no_data}
use Rattle.flat_text.specs.GivenNames.{given_names}
use Rattle.flat_text.specs.FlatText.{flat_naming, flat_text}
use Rattle.session_laws.specs.PrintedWords.{Word, a_word, name_word, behaviour_words}
use Rattle.session_laws.specs.FlatWords.{specification_words}

-- the words that a text is cut into, by their kinds and spellings
abbrev pub words_of_cut : List ℕ → Lexed → Option (List Word)
words_of_cut text (lexed.Tokens tokens) = Some (map (λ (token : Token). a_word token.kind (spelled text token)) tokens)
words_of_cut text (lexed.BadByte place) = None
words_of_cut text (lexed.OpenComment place) = None

abbrev pub words_of_text : List ℕ → Option (List Word)
words_of_text text = words_of_cut text (tokens_of 0 text)

-- a sort with constants `a`, `>` and `*` and an infix operation; gates `g` and `h`; a process `P`
abbrev pub signs_signature : Signature
signs_signature = record {
  sorts = sort_called (codes "S") ∷ [];
  operations =
      operation_called (codes "a") prefix_form [] 0
      ∷ operation_called (codes ">") prefix_form [] 0
      ∷ operation_called (codes "*") prefix_form [] 0
      ∷ operation_called (codes "<>") infix_form (0 ∷ 0 ∷ []) 0
      ∷ [];
}

abbrev pub signs_naming : Naming
signs_naming = record {
  signature = signs_signature;
  gates = codes "g" ∷ codes "h" ∷ [];
  processes = codes "P" ∷ [];
  truth = None;
}

abbrev pub x_asked : Variable
x_asked = record { name = codes "x"; number = 0; sort = 0 }

-- An offer of a value and one of a variable; a predicate that begins with `>`, behind which a blank has to stand.
abbrev pub offering_action : Behaviour
offering_action =
    action 0 (give (applied_to_none 0) ∷ ask x_asked ∷ []) (Some (record { left = applied_to_none 1; right = variable 0 0 }))
    (hide (0 ∷ 1 ∷ []) (exit_with (exit_value (applied_to_none 2) ∷ any_of 0 ∷ [])))

-- gates between `|[` and `]|`, and a choice beside them
abbrev pub meeting_at_two : Behaviour
meeting_at_two = parallel (at_gates (0 ∷ 1 ∷ [])) (choice stop stop) (call 0 (1 ∷ 0 ∷ []) (applied_to_none 0 ∷ []))

-- no gates between them
abbrev pub meeting_at_none : Behaviour
meeting_at_none = parallel (at_gates []) stop stop

abbrev pub accepting_value : Behaviour
accepting_value =
    enable stop (x_asked ∷ [])
    (guard (record { left = node 3 (term_then (variable 0 0) (term_then (applied_to_none 1) no_terms)); right = applied_to_none 0 }) stop)

-- two processes of one name
abbrev pub twice_named : Specification
twice_named = record {
  name = codes "T";
  gate_names = codes "g" ∷ codes "h" ∷ [];
  gates = 0 ∷ [];
  parameters = [];
  exit = None;
  body = call 1 (0 ∷ []) [];
  processes =
      record { name = codes "P"; gates = []; parameters = []; exit = Some []; body = stop }
      ∷ record { name = codes "p"; gates = 1 ∷ []; parameters = []; exit = None; body = stop } ∷ [];
}

pub record TextExamples : Type 0 where
  pub offering_text :
      behaviour_text signs_naming [] offering_action ≡ codes "g !a ?x:S [ > = x]; (hide g, h in exit( *, any S))"
  pub offering_words :
      words_of_text (behaviour_text signs_naming [] offering_action) ≡ Some (behaviour_words signs_naming [] offering_action)
  pub meeting_text : behaviour_text signs_naming [] meeting_at_two ≡ codes "(stop [] stop) |[g, h]| P[h, g](a)"
  pub meeting_words : words_of_text (behaviour_text signs_naming [] meeting_at_two) ≡ Some (behaviour_words signs_naming [] meeting_at_two)
  pub nowhere_text : behaviour_text signs_naming [] meeting_at_none ≡ codes "stop |[]| stop"
  pub nowhere_words :
      words_of_text (behaviour_text signs_naming [] meeting_at_none) ≡ Some (behaviour_words signs_naming [] meeting_at_none)
  pub accepting_text : behaviour_text signs_naming [] accepting_value ≡ codes "stop >> accept x:S in [x <> > = a] -> stop"
  pub accepting_words :
      words_of_text (behaviour_text signs_naming [] accepting_value)
      ≡ Some (behaviour_words signs_naming [] accepting_value)
  -- without its blank, `[>` is the sign of a disabling
  pub joined_words :
      words_of_text (codes "[> = x]")
      ≡ Some (a_word DISABLING (codes "[>") ∷ a_word EQUALS (codes "=") ∷ name_word (codes "x") ∷ a_word RIGHT_BRACKET (codes "]") ∷ [])
  pub specification_text :
      flat_text no_data twice_named
      ≡ codes "specification T [g] : noexit\nbehaviour p_2[g]\nwhere\nprocess P : exit := stop\nendproc\n"
      ++ codes "process p_2 [h] : noexit := stop\nendproc\nendspec\n"
  pub specification_words_are :
      words_of_text (flat_text no_data twice_named)
      ≡ Some (specification_words (flat_naming signs_signature twice_named (given_names (process_names twice_named))) [] twice_named)
