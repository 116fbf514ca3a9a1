-- The lines of headings and processes are cut into the words of these.
use Rattle.std.proofs.Common.{ℕ, suc, false, List, [], ◌∷◌, ◌++◌, map, refl, sym, ◌∙◌, subst, arith, append_assoc, append-nil, codes}
use Rattle.std.specs.Prelude.{Option, None, Some}
use Rattle.lotos_base.specs.Signature.{IsWellFormedSignature}
use Rattle.lotos_base.specs.Equation.{Variable}
use Rattle.lotos_lexer.specs.declared.kinds.TheConstants.{COLON, EXIT, WHERE, PROCESS, DEFINITION, ENDPROC}
use Rattle.behaviour_semantics.specs.Behaviour.{Process}
use Rattle.behaviour_semantics.specs.WellFormed.{Every}
use Rattle.printed_texts.specs.Brackets.{round, square, commas}
use Rattle.printed_texts.specs.TermText.{sort_text, variable_text}
use Rattle.printed_texts.specs.FunctionalityText.{sorts_text, functionality_text}
use Rattle.printed_texts.specs.BehaviourText.{Naming, gates_text, called_text, behaviour_text}
use Rattle.scope_parts.specs.Numbering.{Numbers}
use Rattle.scope_parts.specs.Definitions.{past_name}
use Rattle.session_laws.specs.TextNames.{IsWordSpelling, HasTextNames}
use Rattle.session_laws.proofs.NameTokens.{IsApart}
use Rattle.flat_text.specs.DataText.{line, sorted_variable}
use Rattle.flat_text.specs.FlatText.{heading_gates, heading_parameters, heading, process_lines, processes_lines, where_lines}
use Rattle.session_laws.specs.Meanings.{SortMeans}
use Rattle.session_laws.specs.WrittenSpecifications.{called_names}
use Rattle.session_laws.proofs.PartsMeant.{every_map}
use Rattle.session_laws.proofs.DefinitionsMeant.{inside_of, FunctionalityMeans, DefinitionMeans, ProcessesMean, behind_definition}
use Rattle.session_laws.specs.PrintedWords.{Word, a_word, name_word, gate_word, declared_words, commas_words, round_list_words, square_list_words, behaviour_words}
use Rattle.session_laws.specs.WordLaws.{HasTextForm}
use Rattle.session_laws.specs.FlatWords.{functionality_words, process_words, processes_words, where_words}
use Rattle.session_laws.specs.CutTexts.{AreWhole}
use Rattle.session_laws.specs.BehaviourTextLaws.{HasWordAsName, IsVariableNamed, HasScopeNames, AreCalledByWords, HasDeclaredNames}
use Rattle.session_laws.proofs.Extending.{Extends, StaysApart, extends_joined, nothing_extends, nothing_stays, round_extends, round_stays}
use Rattle.session_laws.proofs.ExtendingParts.{nothing_ends, ends_joined, ends_before, ends_behind, space_ends, line_ends, word_ends, commas_in}
use Rattle.session_laws.proofs.TermTexts.{blank_extends, blank_stays}
use Rattle.session_laws.proofs.Joining.{stays_joined, four_assoc, name_in, exit_extends, noexit_extends, blank_apart}
use Rattle.session_laws.proofs.NamedScopes.{sort_named_well, bound_gates, looked_up_new}
use Rattle.session_laws.proofs.PartTexts.{square_gates_extend}
use Rattle.session_laws.proofs.BehaviourTexts.{behaviour_extends}

-- ---- Lines

-- a reserved word on a line of its own
where_whole : AreWhole (line (codes "where")) (a_word WHERE (codes "where") ∷ [])
where_whole = word_ends WHERE (codes "where") 10 (omega arith) refl (λ (rest : List ℕ). refl) refl

endproc_whole : AreWhole (line (codes "endproc")) (a_word ENDPROC (codes "endproc") ∷ [])
endproc_whole = word_ends ENDPROC (codes "endproc") 10 (omega arith) refl (λ (rest : List ℕ). refl) refl

process_whole : AreWhole (codes "process ") (a_word PROCESS (codes "process") ∷ [])
process_whole = word_ends PROCESS (codes "process") 32 (omega arith) refl (λ (rest : List ℕ). refl) refl

colon_whole : AreWhole (codes " : ") (a_word COLON (codes ":") ∷ [])
colon_whole =
    space_ends (codes ": ") (a_word COLON (codes ":") ∷ [])
    (word_ends COLON (codes ":") 32 (omega arith) refl (λ (rest : List ℕ). refl) refl)

definition_whole : AreWhole (codes " := ") (a_word DEFINITION (codes ":=") ∷ [])
definition_whole =
    space_ends (codes ":= ") (a_word DEFINITION (codes ":=") ∷ [])
    (word_ends DEFINITION (codes ":=") 32 (omega arith) refl (λ (rest : List ℕ). refl) refl)

-- the names of a definition
pub record HasDefinitionNames (naming : Naming) (p : Process) : Type 0 where
  pub gates : Every (HasWordAsName naming) p.gates
  pub parameters : Every IsVariableNamed p.parameters
  pub body : HasDeclaredNames naming p.body

-- the words behind the name in a heading
abbrev pub behind_name : Naming → Process → List Word
behind_name naming p =
    square_list_words (map (λ (gate : ℕ). gate_word naming gate ∷ []) p.gates)
    ++ (round_list_words (map (declared_words naming) p.parameters) ++ a_word COLON (codes ":") ∷ functionality_words naming p.exit)

abbrev pub heading_of : Naming → Process → List ℕ
heading_of naming p = heading naming p.gates p.parameters p.exit

module _ (naming : Naming) (well : IsWellFormedSignature naming.signature) (spelled : HasTextNames naming.signature) where
  -- ---- Headings

  gates_part : (gates : List ℕ) → Every (HasWordAsName naming) gates
      → Extends (heading_gates naming gates) (square_list_words (map (λ (gate : ℕ). gate_word naming gate ∷ []) gates))
  gates_part [] each = nothing_extends
  gates_part (gate ∷ gates) each =
      blank_extends (square (gates_text naming (gate ∷ gates)))
      (square_list_words (map (λ (g : ℕ). gate_word naming g ∷ []) (gate ∷ gates)))
      (square_gates_extend naming well spelled gate gates each)

  gates_part_stays : (gates : List ℕ) → StaysApart (heading_gates naming gates)
  gates_part_stays [] = nothing_stays
  gates_part_stays (gate ∷ gates) = blank_stays (square (gates_text naming (gate ∷ gates)))

  parameter_extends : (x : Variable) → IsVariableNamed x → SortMeans naming.signature x.sort
      → Extends (sorted_variable naming.signature x) (declared_words naming x)
  parameter_extends x named sorted =
      ends_before (x.name ++ codes " : ") (sort_text naming.signature x.sort) (name_word x.name ∷ a_word COLON (codes ":") ∷ [])
      (name_word (sort_text naming.signature x.sort) ∷ [])
      (ends_behind x.name (codes " : ") (name_word x.name ∷ []) (a_word COLON (codes ":") ∷ []) (name_in false x.name named)
      (blank_apart (codes ": ")) colon_whole)
      (name_in false (sort_text naming.signature x.sort) (sort_named_well naming.signature spelled x.sort sorted))

  each_parameter : (xs : List Variable) → Every IsVariableNamed xs → Every (λ (x : Variable). SortMeans naming.signature x.sort) xs
      → Every (λ (x : Variable). Extends (sorted_variable naming.signature x) (declared_words naming x)) xs
  each_parameter [] named sorted = tt
  each_parameter (x ∷ xs) named sorted = (parameter_extends x named.0 sorted.0, each_parameter xs named.1 sorted.1)

  parameters_part : (xs : List Variable) → Every IsVariableNamed xs → Every (λ (x : Variable). SortMeans naming.signature x.sort) xs
      → Extends (heading_parameters naming xs) (round_list_words (map (declared_words naming) xs))
  parameters_part [] named sorted = nothing_extends
  parameters_part (x ∷ xs) named sorted =
      blank_extends (round (commas (map (sorted_variable naming.signature) (x ∷ xs))))
      (round_list_words (map (declared_words naming) (x ∷ xs)))
      (round_extends (commas (map (sorted_variable naming.signature) (x ∷ xs))) (commas_words (map (declared_words naming) (x ∷ xs)))
      (commas_in false (sorted_variable naming.signature) (declared_words naming) (x ∷ xs) (each_parameter (x ∷ xs) named sorted)))

  parameters_part_stays : (xs : List Variable) → StaysApart (heading_parameters naming xs)
  parameters_part_stays [] = nothing_stays
  parameters_part_stays (x ∷ xs) = blank_stays (round (commas (map (sorted_variable naming.signature) (x ∷ xs))))

  sorts_extend : (sorts : List ℕ) → Every (SortMeans naming.signature) sorts
      → Extends (sorts_text naming.signature sorts)
      (round_list_words (map (λ (sort : ℕ). name_word (sort_text naming.signature sort) ∷ []) sorts))
  sorts_extend [] mean = nothing_extends
  sorts_extend (sort ∷ sorts) mean =
      round_extends (commas (map (sort_text naming.signature) (sort ∷ sorts)))
      (commas_words (map (λ (s : ℕ). name_word (sort_text naming.signature s) ∷ []) (sort ∷ sorts)))
      (commas_in false (sort_text naming.signature) (λ (s : ℕ). name_word (sort_text naming.signature s) ∷ []) (sort ∷ sorts)
      (every_map (SortMeans naming.signature)
      (λ (s : ℕ). Extends (sort_text naming.signature s) (name_word (sort_text naming.signature s) ∷ [])) (sort ∷ sorts)
      (λ s means. name_in false (sort_text naming.signature s) (sort_named_well naming.signature spelled s means)) mean))

  sorts_stay : (sorts : List ℕ) → StaysApart (sorts_text naming.signature sorts)
  sorts_stay [] = nothing_stays
  sorts_stay (sort ∷ sorts) = round_stays (commas (map (sort_text naming.signature) (sort ∷ sorts)))

  functionality_extends : (exit : Option (List ℕ)) → FunctionalityMeans naming.signature exit
      → Extends (functionality_text naming.signature exit) (functionality_words naming exit)
  functionality_extends None mean = noexit_extends
  functionality_extends (Some sorts) mean =
      extends_joined (codes "exit") (sorts_text naming.signature sorts) (a_word EXIT (codes "exit") ∷ [])
      (round_list_words (map (λ (sort : ℕ). name_word (sort_text naming.signature sort) ∷ []) sorts)) exit_extends (sorts_stay sorts)
      (sorts_extend sorts mean)

  pub heading_extends : (all : List Process) (numbers : Numbers) (p : Process) → HasDefinitionNames naming p
      → DefinitionMeans naming all numbers p → Extends (heading_of naming p) (behind_name naming p)
  heading_extends all numbers p named means =
      let gate_bytes : List ℕ = heading_gates naming p.gates in
      let parameter_bytes : List ℕ = heading_parameters naming p.parameters in
      let exit_bytes : List ℕ = functionality_text naming.signature p.exit in
      let us : List Word = square_list_words (map (λ (gate : ℕ). gate_word naming gate ∷ []) p.gates) in
      let vs : List Word = round_list_words (map (declared_words naming) p.parameters) in
      let ws : List Word = functionality_words naming p.exit in
      subst (λ (words : List Word). Extends (((gate_bytes ++ parameter_bytes) ++ codes " : ") ++ exit_bytes) words)
      (four_assoc us vs (a_word COLON (codes ":") ∷ []) ws)
      (ends_before ((gate_bytes ++ parameter_bytes) ++ codes " : ") exit_bytes ((us ++ vs) ++ a_word COLON (codes ":") ∷ []) ws
      (ends_behind (gate_bytes ++ parameter_bytes) (codes " : ") (us ++ vs) (a_word COLON (codes ":") ∷ [])
      (extends_joined gate_bytes parameter_bytes us vs (gates_part p.gates named.gates) (parameters_part_stays p.parameters)
      (parameters_part p.parameters named.parameters means.parameters.sorted))
      (blank_apart (codes ": ")) colon_whole)
      (functionality_extends p.exit means.functionality))

  -- whatever the functionality is, it stands behind ` : `
  pub heading_stays : (p : Process) → StaysApart (heading_of naming p)
  heading_stays p rest is =
      let gates : List ℕ = heading_gates naming p.gates in
      let parameters : List ℕ = heading_parameters naming p.parameters in
      let exit : List ℕ = functionality_text naming.signature p.exit in
      subst IsApart
      (sym (append_assoc ((gates ++ parameters) ++ codes " : ") exit rest
      ∙ append_assoc (gates ++ parameters) (codes " : ") (exit ++ rest)))
      (stays_joined gates parameters (gates_part_stays p.gates) (parameters_part_stays p.parameters) (codes " : " ++ (exit ++ rest))
      (blank_apart (codes ": ") (exit ++ rest)))

  -- ---- Definitions

  -- what is visible in a definition
  inside_named : (numbers : Numbers) (p : Process) (all : List Process) → HasDefinitionNames naming p
      → DefinitionMeans naming all numbers p → HasScopeNames naming (inside_of naming numbers p)
  inside_named numbers p all named means = record {
    gates = bound_gates naming p.gates numbers.gate [] means.gates.numbered named.gates tt;
    variables =
        subst (λ (names : List Variable). Every (λ (v : Variable). IsWordSpelling (variable_text names v.number)) p.parameters)
        (append-nil p.parameters) (looked_up_new p.parameters [] named.parameters);
  }

  module _ (all : List Process) (called : AreCalledByWords naming all) where
    pub body_extends : (numbers : Numbers) (p : Process) → HasDefinitionNames naming p → HasTextForm p.body
        → DefinitionMeans naming all numbers p
        → Extends (behaviour_text naming p.parameters p.body) (behaviour_words naming p.parameters p.body)
    body_extends numbers p named form means =
        behaviour_extends naming all well spelled called p.body (inside_of naming numbers p) (inside_named numbers p all named means) form
        named.body means.body

    process_lines_whole : (name : List ℕ) (numbers : Numbers) (p : Process) → IsWordSpelling name → HasDefinitionNames naming p
        → HasTextForm p.body → DefinitionMeans naming all numbers p
        → AreWhole (process_lines naming name p) (process_words naming name p)
    process_lines_whole name numbers p spelled_name named form means =
        let head : List ℕ = heading_of naming p in
        let body : List ℕ = behaviour_text naming p.parameters p.body in
        let us : List Word = behind_name naming p in
        let vs : List Word = behaviour_words naming p.parameters p.body in
        let begin : List Word = a_word PROCESS (codes "process") ∷ name_word name ∷ [] in
        let sign : List Word = a_word DEFINITION (codes ":=") ∷ [] in
        let end : List Word = a_word ENDPROC (codes "endproc") ∷ [] in
        subst (λ (words : List Word). AreWhole (process_lines naming name p) (a_word PROCESS (codes "process") ∷ name_word name ∷ words))
        (four_assoc us sign vs end)
        (ends_joined (line ((((codes "process " ++ name) ++ head) ++ codes " := ") ++ body)) (line (codes "endproc"))
        (((begin ++ us) ++ sign) ++ vs) end
        (line_ends ((((codes "process " ++ name) ++ head) ++ codes " := ") ++ body) (((begin ++ us) ++ sign) ++ vs)
        (ends_before (((codes "process " ++ name) ++ head) ++ codes " := ") body ((begin ++ us) ++ sign) vs
        (ends_behind ((codes "process " ++ name) ++ head) (codes " := ") (begin ++ us) sign
        (extends_joined (codes "process " ++ name) head begin us
        (ends_before (codes "process ") name (a_word PROCESS (codes "process") ∷ []) (name_word name ∷ []) process_whole
        (name_in false name spelled_name))
        (heading_stays p) (heading_extends all numbers p named means))
        (blank_apart (codes ":= ")) definition_whole)
        (body_extends numbers p named form means)))
        endproc_whole)

    pub processes_lines_whole : (next : ℕ) (numbers : Numbers) (ps : List Process)
        → Every IsWordSpelling (called_names naming next ps) → Every (HasDefinitionNames naming) ps
        → Every (λ (p : Process). HasTextForm p.body) ps → ProcessesMean naming all numbers ps
        → AreWhole (processes_lines naming (called_names naming next ps) ps) (processes_words naming next ps)
    processes_lines_whole next numbers [] words named forms mean = nothing_ends
    processes_lines_whole next numbers (p ∷ ps) words named forms mean =
        ends_joined (process_lines naming (called_text naming next) p)
        (processes_lines naming (called_names naming (suc next) ps) ps) (process_words naming (called_text naming next) p)
        (processes_words naming (suc next) ps)
        (process_lines_whole (called_text naming next) (past_name numbers) p words.0 named.0 forms.0 mean.0)
        (processes_lines_whole (suc next) (behind_definition p (past_name numbers)) ps words.1 named.1 forms.1 mean.1)

    pub where_lines_whole : (numbers : Numbers) (ps : List Process)
        → Every IsWordSpelling (called_names naming 0 ps) → Every (HasDefinitionNames naming) ps
        → Every (λ (p : Process). HasTextForm p.body) ps → ProcessesMean naming all numbers ps
        → AreWhole (where_lines naming (called_names naming 0 ps) ps) (where_words naming ps)
    where_lines_whole numbers [] words named forms mean = nothing_ends
    where_lines_whole numbers (p ∷ ps) words named forms mean =
        ends_joined (line (codes "where")) (processes_lines naming (called_names naming 0 (p ∷ ps)) (p ∷ ps))
        (a_word WHERE (codes "where") ∷ []) (processes_words naming 0 (p ∷ ps)) where_whole
        (processes_lines_whole 0 numbers (p ∷ ps) words named forms mean)
