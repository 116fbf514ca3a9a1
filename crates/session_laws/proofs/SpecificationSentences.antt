-- Tokens that are the words of a flat text are a specification by the grammar.
use Rattle.std.proofs.Common.{◌≡◌, ℕ, suc, List, [], ◌∷◌, ◌++◌, map, refl, ap, sym, ◌∙◌, subst, codes}
use Rattle.std.specs.Prelude.{Option, None, Some}
use Rattle.lotos_base.specs.Signature.{IsWellFormedSignature}
use Rattle.lotos_base.specs.Equation.{Variable}
use Rattle.lotos_lexer.specs.declared.tokens.Token.{Token}
use Rattle.lotos_lexer.specs.declared.kinds.TheConstants.{COMMA, COLON, NOEXIT, EXIT, WHERE, PROCESS, DEFINITION, ENDPROC, SPECIFICATION, BEHAVIOUR, ENDSPEC}
use Rattle.lotos_rows.specs.Words.{Optional, left_out, there, Separated}
use Rattle.lotos_rows.specs.Names.{place_of, named, spelled, IsName, a_name, AreParameters, AreVariables}
use Rattle.lotos_rows.specs.Behaviours.{IsBehaviourText}
use Rattle.lotos_rows.specs.Definitions.{IsWrittenFunctionality, no_exit, exit_of, IsHeading, heading, IsProcess, a_process, IsWhere, no_where, a_where, AreInner, no_more_inner, process_then}
use Rattle.lotos_rows.specs.Starts.{AreItems, british, IsWrittenSpecification, a_specification}
use Rattle.syntax_trees.specs.WrittenItem.{WrittenItem}
use Rattle.syntax_trees.specs.WrittenBehaviour.{WrittenBehaviour}
use Rattle.syntax_trees.specs.WrittenDefinition.{WrittenHeading, WrittenInner, process, no_inner, inners_of, WrittenSpecification}
use Rattle.behaviour_semantics.specs.Behaviour.{Process, Specification}
use Rattle.behaviour_semantics.specs.WellFormed.{Every}
use Rattle.printed_texts.specs.TermText.{sort_text}
use Rattle.printed_texts.specs.BehaviourText.{Naming, called_text}
use Rattle.scope_parts.specs.Numbering.{Numbers}
use Rattle.scope_parts.specs.Definitions.{past_name, first_numbers}
use Rattle.session_laws.specs.WrittenBehaviours.{Correspond, IsVariableWritten, AreGatesWritten, IsBehaviourWritten}
use Rattle.session_laws.specs.WrittenSpecifications.{IsSortWritten, IsFunctionalityWritten, IsDefinitionWritten, AreProcessesWritten, whole_of, IsFlatlyWritten}
use Rattle.session_laws.proofs.DefinitionsMeant.{inside_of, DefinitionMeans, behind_definition, ProcessesMean, SpecificationMeans}
use Rattle.session_laws.proofs.FlatResolved.{flat_means, flat_texts_stand_for_the_same}
use Rattle.session_laws.specs.PrintedWords.{Word, AreWords, a_word, name_word, gate_word, commas_words, round_words, declared_words, declarations_words, round_list_words, square_list_words, behaviour_words}
use Rattle.session_laws.specs.WordLaws.{HasBinaryInfixes, HasTextForm, IsFittingSentence}
use Rattle.session_laws.specs.FlatWords.{functionality_words, heading_words, process_words, processes_words, where_words, specification_words, HaveTextForms}
use Rattle.session_laws.specs.FlatWordLaws.{FlatWordsAreReadAsTheSame}
use Rattle.session_laws.proofs.WordParts.{first_of, parts_of, one_of, no_words, of_kind, Says, round_says}
use Rattle.session_laws.proofs.PartSentences.{bracketed_gates_say, variables_say, separated_say}
use Rattle.session_laws.proofs.BehaviourSentences.{whole_of_words}

module _ (text : List ℕ) (naming : Naming) (well : IsWellFormedSignature naming.signature)
    (binary : HasBinaryInfixes naming.signature) where
  -- ---- Headings

  sort_says : (sort : ℕ) → Says text (name_word (sort_text naming.signature sort) ∷ []) (IsName text)
      (IsSortWritten naming.signature sort)
  sort_says sort tokens are =
      let word : Word = name_word (sort_text naming.signature sort) in
      let one = one_of text tokens word are in
      subst (IsFittingSentence (IsName text) (IsSortWritten naming.signature sort)) (sym one.alone) (record {
        thing = named text one.token;
        is_one = a_name (of_kind text word one.token one.is_word);
        fitting = one.is_word.spelling_is;
      })

  each_sort : (sorts : List ℕ) → Every (λ (sort : ℕ). Says text (name_word (sort_text naming.signature sort) ∷ []) (IsName text)
      (IsSortWritten naming.signature sort)) sorts
  each_sort [] = tt
  each_sort (sort ∷ sorts) = (sort_says sort, each_sort sorts)

  functionality_says : (exit : Option (List ℕ))
      → Says text (functionality_words naming exit) (IsWrittenFunctionality text) (IsFunctionalityWritten naming.signature exit)
  functionality_says None tokens are =
      let word : Word = a_word NOEXIT (codes "noexit") in
      let one = one_of text tokens word are in
      subst (IsFittingSentence (IsWrittenFunctionality text) (IsFunctionalityWritten naming.signature None)) (sym one.alone)
      (record { thing = None; is_one = no_exit (of_kind text word one.token one.is_word); fitting = tt })
  functionality_says (Some []) tokens are =
      let word : Word = a_word EXIT (codes "exit") in
      let one = one_of text tokens word are in
      subst (IsFittingSentence (IsWrittenFunctionality text) (IsFunctionalityWritten naming.signature (Some []))) (sym one.alone)
      (record { thing = Some []; is_one = exit_of (of_kind text word one.token one.is_word) left_out; fitting = tt })
  functionality_says (Some (sort ∷ sorts)) tokens are =
      let word : Word = a_word EXIT (codes "exit") in
      let listed : List Word = commas_words (map (λ (s : ℕ). name_word (sort_text naming.signature s) ∷ []) (sort ∷ sorts)) in
      let begin = first_of text tokens word (round_words listed) are in
      let inside =
      round_says text listed (Separated COMMA (IsName text)) (Correspond (IsSortWritten naming.signature) (sort ∷ sorts))
      (separated_say text naming well binary (λ (s : ℕ). name_word (sort_text naming.signature s) ∷ []) (IsName text)
      (IsSortWritten naming.signature) sort sorts (each_sort (sort ∷ sorts))) begin.rest begin.are_words in
      subst (IsFittingSentence (IsWrittenFunctionality text) (IsFunctionalityWritten naming.signature (Some (sort ∷ sorts))))
      (sym begin.joined) (record {
        thing = Some inside.thing;
        is_one = exit_of (of_kind text word begin.first begin.is_word) (there inside.is_one);
        fitting = inside.fitting;
      })

  parameters_say : (xs : List Variable)
      → Says text (round_list_words (map (declared_words naming) xs)) (Optional [] (AreParameters text))
      (Correspond (IsVariableWritten naming.signature) xs)
  parameters_say [] tokens are =
      subst (IsFittingSentence (Optional [] (AreParameters text)) (Correspond (IsVariableWritten naming.signature) []))
      (sym (no_words text tokens are)) (record { thing = []; is_one = left_out; fitting = tt })
  parameters_say (x ∷ xs) tokens are =
      let inside =
      round_says text (declarations_words naming (x ∷ xs)) (AreVariables text) (Correspond (IsVariableWritten naming.signature) (x ∷ xs))
      (variables_say text naming well binary x xs) tokens are in
      record { thing = inside.thing; is_one = there inside.is_one; fitting = inside.fitting }

  -- a heading of this name
  record IsHeadingWritten (name : List ℕ) (p : Process) (h : WrittenHeading) : Type 0 where
    name_is : h.name ≡ name
    gates : AreGatesWritten naming p.gates h.gates
    parameters : Correspond (IsVariableWritten naming.signature) p.parameters h.parameters
    functionality : IsFunctionalityWritten naming.signature p.exit h.functionality

  heading_says : (name : List ℕ) (p : Process) → Says text (heading_words naming name p) (IsHeading text) (IsHeadingWritten name p)
  heading_says name p tokens are =
      let gates_ : List Word = square_list_words (map (λ (gate : ℕ). gate_word naming gate ∷ []) p.gates) in
      let parameters_ : List Word = round_list_words (map (declared_words naming) p.parameters) in
      let colon : Word = a_word COLON (codes ":") in
      let exit_ : List Word = functionality_words naming p.exit in
      let begin = first_of text tokens (name_word name) (gates_ ++ (parameters_ ++ colon ∷ exit_)) are in
      let parts = parts_of text begin.rest gates_ (parameters_ ++ colon ∷ exit_) begin.are_words in
      let behind = parts_of text parts.right parameters_ (colon ∷ exit_) parts.right_are in
      let sign = first_of text behind.right colon exit_ behind.right_are in
      let gates = bracketed_gates_say text naming well binary p.gates parts.left parts.left_are in
      let parameters = parameters_say p.parameters behind.left behind.left_are in
      let exit = functionality_says p.exit sign.rest sign.are_words in
      subst (IsFittingSentence (IsHeading text) (IsHeadingWritten name p))
      (sym (begin.joined ∙ ap (λ (ts : List Token). begin.first ∷ ts)
      (parts.joined ∙ ap (λ (ts : List Token). parts.left ++ ts)
      (behind.joined ∙ ap (λ (ts : List Token). behind.left ++ ts) sign.joined)))) (record {
        thing = record {
          place = place_of begin.first;
          name = spelled text begin.first;
          gates = gates.thing;
          parameters = parameters.thing;
          functionality = exit.thing;
        };
        is_one =
            heading (of_kind text (name_word name) begin.first begin.is_word) gates.is_one parameters.is_one
            (of_kind text colon sign.first sign.is_word) exit.is_one;
        fitting = record {
          name_is = begin.is_word.spelling_is;
          gates = gates.fitting;
          parameters = parameters.fitting;
          functionality = exit.fitting;
        };
      })

  definition_written : (name : List ℕ) (p : Process) (h : WrittenHeading) (body : WrittenBehaviour) → IsHeadingWritten name p h
      → IsBehaviourWritten naming p.parameters p.body body → IsDefinitionWritten naming p h body
  definition_written name p h body is writes = record {
    gates = is.gates;
    parameters = is.parameters;
    functionality = is.functionality;
    body_written = writes;
  }

  module _ (all : List Process) where
    body_says : (numbers : Numbers) (p : Process) → DefinitionMeans naming all numbers p → HasTextForm p.body
        → Says text (behaviour_words naming p.parameters p.body) (IsBehaviourText text) (IsBehaviourWritten naming p.parameters p.body)
    body_says numbers p means form = whole_of_words text naming well binary all p.body (inside_of naming numbers p) form means.body

    -- ---- Processes

    -- a process under its name, without a `where`
    record IsProcessWritten (name : List ℕ) (p : Process) (w : WrittenInner) : Type 0 where
      head : WrittenHeading
      body : WrittenBehaviour
      parts : w ≡ process head body no_inner
      name_is : head.name ≡ name
      definition : IsDefinitionWritten naming p head body

    process_says : (name : List ℕ) (numbers : Numbers) (p : Process) → DefinitionMeans naming all numbers p → HasTextForm p.body
        → Says text (process_words naming name p) (IsProcess text) (IsProcessWritten name p)
    process_says name numbers p means form tokens are =
        let word : Word = a_word PROCESS (codes "process") in
        let sign_ : Word = a_word DEFINITION (codes ":=") in
        let end_ : Word = a_word ENDPROC (codes "endproc") in
        let heading_ : List Word = heading_words naming name p in
        let body_ : List Word = behaviour_words naming p.parameters p.body in
        let begin = first_of text tokens word (heading_ ++ sign_ ∷ (body_ ++ end_ ∷ [])) are in
        let parts = parts_of text begin.rest heading_ (sign_ ∷ (body_ ++ end_ ∷ [])) begin.are_words in
        let sign = first_of text parts.right sign_ (body_ ++ end_ ∷ []) parts.right_are in
        let behind = parts_of text sign.rest body_ (end_ ∷ []) sign.are_words in
        let end = one_of text behind.right end_ behind.right_are in
        let h = heading_says name p parts.left parts.left_are in
        let b = body_says numbers p means form behind.left behind.left_are in
        subst (IsFittingSentence (IsProcess text) (IsProcessWritten name p))
        (sym (begin.joined ∙ ap (λ (ts : List Token). begin.first ∷ ts)
        (parts.joined ∙ ap (λ (ts : List Token). parts.left ++ ts)
        (sign.joined ∙ ap (λ (ts : List Token). sign.first ∷ ts)
        (behind.joined ∙ ap (λ (ts : List Token). behind.left ++ ts) end.alone))))) (record {
          thing = process h.thing b.thing no_inner;
          is_one =
              a_process (of_kind text word begin.first begin.is_word) h.is_one (of_kind text sign_ sign.first sign.is_word) b.is_one
              no_where
              (of_kind text end_ end.token end.is_word);
          fitting = record {
            head = h.thing;
            body = b.thing;
            parts = refl;
            name_is = h.fitting.name_is;
            definition = definition_written name p h.thing b.thing h.fitting b.fitting;
          };
        })

    one_more : (next : ℕ) (p : Process) (ps : List Process) (w : WrittenInner) (ws : List WrittenInner)
        → IsProcessWritten (called_text naming next) p w → AreProcessesWritten naming (suc next) ps (inners_of ws)
        → AreProcessesWritten naming next (p ∷ ps) (inners_of (w ∷ ws))
    one_more next p ps w ws is rest =
        subst (λ (v : WrittenInner). AreProcessesWritten naming next (p ∷ ps) (inners_of (v ∷ ws))) (sym is.parts)
        (is.name_is, is.definition, rest)

    processes_say : (next : ℕ) (numbers : Numbers) (ps : List Process) → ProcessesMean naming all numbers ps
        → Every (λ (p : Process). HasTextForm p.body) ps
        → Says text (processes_words naming next ps) (AreInner text)
        (λ (ws : List WrittenInner). AreProcessesWritten naming next ps (inners_of ws))
    processes_say next numbers [] means forms tokens are =
        subst (IsFittingSentence (AreInner text) (λ (ws : List WrittenInner). AreProcessesWritten naming next [] (inners_of ws)))
        (sym (no_words text tokens are)) (record { thing = []; is_one = no_more_inner; fitting = tt })
    processes_say next numbers (p ∷ ps) means forms tokens are =
        let first_ : List Word = process_words naming (called_text naming next) p in
        let parts = parts_of text tokens first_ (processes_words naming (suc next) ps) are in
        let first = process_says (called_text naming next) (past_name numbers) p means.0 forms.0 parts.left parts.left_are in
        let rest =
        processes_say (suc next) (behind_definition p (past_name numbers)) ps means.1 forms.1 parts.right parts.right_are in
        subst (IsFittingSentence (AreInner text) (λ (ws : List WrittenInner). AreProcessesWritten naming next (p ∷ ps) (inners_of ws)))
        (sym parts.joined) (record {
          thing = first.thing ∷ rest.thing;
          is_one = process_then first.is_one rest.is_one;
          fitting = one_more next p ps first.thing rest.thing first.fitting rest.fitting;
        })

    where_says : (numbers : Numbers) (ps : List Process) → ProcessesMean naming all numbers ps
        → Every (λ (p : Process). HasTextForm p.body) ps
        → Says text (where_words naming ps) (IsWhere text) (λ (ws : List WrittenInner). AreProcessesWritten naming 0 ps (inners_of ws))
    where_says numbers [] means forms tokens are =
        subst (IsFittingSentence (IsWhere text) (λ (ws : List WrittenInner). AreProcessesWritten naming 0 [] (inners_of ws)))
        (sym (no_words text tokens are)) (record { thing = []; is_one = no_where; fitting = tt })
    where_says numbers (p ∷ ps) means forms tokens are =
        let word : Word = a_word WHERE (codes "where") in
        let begin = first_of text tokens word (processes_words naming 0 (p ∷ ps)) are in
        let inner = processes_say 0 numbers (p ∷ ps) means forms begin.rest begin.are_words in
        subst (IsFittingSentence (IsWhere text) (λ (ws : List WrittenInner). AreProcessesWritten naming 0 (p ∷ ps) (inners_of ws)))
        (sym begin.joined) (record {
          thing = inner.thing;
          is_one = a_where (of_kind text word begin.first begin.is_word) inner.is_one;
          fitting = inner.fitting;
        })

  -- ---- Specifications

  -- written flatly, with types that are read of their words
  pub record IsWritten (specification : Specification) (types : List Word) (fits : List WrittenItem → Type 0)
      (tree : WrittenSpecification) : Type 0 where
    pub flatly : IsFlatlyWritten naming specification tree
    pub type_tokens : List Token
    pub type_words : AreWords text type_tokens types
    pub types_are : AreItems text type_tokens tree.items
    pub types_fit : fits tree.items

  pub specification_says : (specification : Specification) (types : List Word) (fits : List WrittenItem → Type 0)
      → SpecificationMeans naming specification
      → HaveTextForms specification
      → ((some : List Token) → AreWords text some types → IsFittingSentence (AreItems text) fits some)
      → Says text (specification_words naming types specification) (IsWrittenSpecification text) (IsWritten specification types fits)
  specification_says specification types fits means forms says tokens are =
      let word : Word = a_word SPECIFICATION (codes "specification") in
      let behaviour : Word = a_word BEHAVIOUR (codes "behaviour") in
      let end_ : Word = a_word ENDSPEC (codes "endspec") in
      let heading_ : List Word = heading_words naming specification.name (whole_of specification) in
      let body_ : List Word = behaviour_words naming specification.parameters specification.body in
      let where_ : List Word = where_words naming specification.processes in
      let begin = first_of text tokens word (heading_ ++ (types ++ behaviour ∷ (body_ ++ (where_ ++ end_ ∷ [])))) are in
      let parts = parts_of text begin.rest heading_ (types ++ behaviour ∷ (body_ ++ (where_ ++ end_ ∷ []))) begin.are_words in
      let behind = parts_of text parts.right types (behaviour ∷ (body_ ++ (where_ ++ end_ ∷ []))) parts.right_are in
      let sign = first_of text behind.right behaviour (body_ ++ (where_ ++ end_ ∷ [])) behind.right_are in
      let bodies = parts_of text sign.rest body_ (where_ ++ end_ ∷ []) sign.are_words in
      let last = parts_of text bodies.right where_ (end_ ∷ []) bodies.right_are in
      let end = one_of text last.right end_ last.right_are in
      let h = heading_says specification.name (whole_of specification) parts.left parts.left_are in
      let items = says behind.left behind.left_are in
      let b =
      body_says specification.processes first_numbers (whole_of specification) means.whole forms.body bodies.left bodies.left_are in
      let inner =
      where_says specification.processes (behind_definition (whole_of specification) first_numbers) specification.processes
      means.processes_mean forms.processes last.left last.left_are in
      subst (IsFittingSentence (IsWrittenSpecification text) (IsWritten specification types fits))
      (sym (begin.joined ∙ ap (λ (ts : List Token). begin.first ∷ ts)
      (parts.joined ∙ ap (λ (ts : List Token). parts.left ++ ts)
      (behind.joined ∙ ap (λ (ts : List Token). behind.left ++ ts)
      (sign.joined ∙ ap (λ (ts : List Token). sign.first ∷ ts)
      (bodies.joined ∙ ap (λ (ts : List Token). bodies.left ++ ts)
      (last.joined ∙ ap (λ (ts : List Token). last.left ++ ts) end.alone))))))) (record {
        thing = record { heading = h.thing; items = items.thing; body = b.thing; inner = inner.thing };
        is_one =
            a_specification (of_kind text word begin.first begin.is_word) h.is_one items.is_one
            (british (of_kind text behaviour sign.first sign.is_word)) b.is_one inner.is_one (of_kind text end_ end.token end.is_word);
        fitting = record {
          flatly = record {
            named = h.fitting.name_is;
            whole = definition_written specification.name (whole_of specification) h.thing b.thing h.fitting b.fitting;
            processes = inner.fitting;
          };
          type_tokens = behind.left;
          type_words = behind.left_are;
          types_are = items.is_one;
          types_fit = items.fitting;
        };
      })

pub flat_words_are_read_as_the_same : FlatWordsAreReadAsTheSame
flat_words_are_read_as_the_same text naming source specification types tokens well binary flat forms is says are =
    let found =
    specification_says text naming well binary specification types (λ items. Unit {0}) (flat_means naming source specification flat is)
    forms
    (λ some words. let items = says some words in record { thing = items.0; is_one = items.1; fitting = tt })
    tokens are in
    record {
      thing = found.thing;
      is_one = found.is_one;
      fitting = record {
        flatly = found.fitting.flatly;
        stands = flat_texts_stand_for_the_same naming source found.thing specification well flat is found.fitting.flatly;
        type_tokens = found.fitting.type_tokens;
        type_words = found.fitting.type_words;
        types_are = found.fitting.types_are;
      };
    }
