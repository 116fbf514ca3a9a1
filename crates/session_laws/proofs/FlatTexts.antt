-- The bytes of flat texts are cut into the words of these texts.
use Rattle.std.proofs.Common.{◌≡◌, ℕ, suc, ◌+◌, ◌<◌, ◌^◌, false, List, [], ◌∷◌, ◌++◌, map, length, refl, ap, sym, ◌∙◌, subst, arith, codes}
use Rattle.std.specs.Prelude.{Some, slice_get}
use Rattle.std.proofs.lemmas.Option.{slice_get_within}
use Rattle.lotos_base.proofs.Members.{member_at}
use Rattle.lotos_base.specs.Signature.{IsWellFormedSignature}
use Rattle.lotos_base.specs.Equation.{Data}
use Rattle.lotos_lexer.specs.declared.tokens.Token.{Token}
use Rattle.lotos_lexer.specs.declared.kinds.TheConstants.{SPECIFICATION, BEHAVIOUR, ENDSPEC}
use Rattle.lotos_rows.specs.Starts.{IsWrittenSpecification}
use Rattle.syntax_trees.specs.TakenItems.{without_items}
use Rattle.syntax_trees.specs.WrittenDefinition.{WrittenSpecification}
use Rattle.behaviour_semantics.specs.Behaviour.{Process, Specification}
use Rattle.behaviour_semantics.specs.WellFormed.{Every}
use Rattle.behaviour_semantics.proofs.EveryLemmas.{every_front, every_back}
use Rattle.behaviour_semantics.proofs.InstanceLemmas.{every_at}
use Rattle.printed_texts.specs.MenuText.{name_text}
use Rattle.printed_texts.specs.BehaviourText.{Naming, process_names, behaviour_text}
use Rattle.scope_parts.specs.Resolution.{resolved}
use Rattle.scope_parts.specs.Definitions.{SpecificationIs, first_numbers, declared_gates}
use Rattle.declaration_laws.proofs.NumberLemmas.{declarations_have_the_next_number}
use Rattle.session_laws.specs.TextNames.{IsWordSpelling, HasTextNames}
use Rattle.declaration_laws.specs.DeclarationOrder.{gates_bound, variables_bound, process_gates, process_variables, all_gates_of, Follow, HasGateNumber, IsInOrderOfText}
use Rattle.flat_text.specs.DataText.{line, data_text}
use Rattle.flat_text.specs.GivenNames.{given_names}
use Rattle.flat_text.specs.FlatText.{where_lines, flat_text}
use Rattle.flat_text.proofs.GivenApart.{given_names_are_apart}
use Rattle.session_laws.specs.WrittenSpecifications.{whole_of, called_names}
use Rattle.session_laws.proofs.PartsMeant.{every_map}
use Rattle.session_laws.proofs.DefinitionsMeant.{SpecificationMeans, behind_definition}
use Rattle.session_laws.proofs.FlatResolved.{flat_means}
use Rattle.session_laws.specs.PrintedWords.{Word, a_word, name_word, behaviour_words}
use Rattle.session_laws.specs.FlatWords.{where_words, specification_words, HaveTextForms}
use Rattle.session_laws.specs.CutTexts.{AreWhole}
use Rattle.session_laws.specs.FlatReadings.{naming_of_flat}
use Rattle.session_laws.specs.BehaviourTextLaws.{HasWordAsName, IsVariableNamed, AreCalledByWords}
use Rattle.session_laws.specs.FlatTextLaws.{HasSpecificationNames, FlatTextsAreCut}
use Rattle.session_laws.proofs.Extending.{extends_joined}
use Rattle.session_laws.proofs.ExtendingParts.{ends_extend, ends_joined, ends_before, line_ends, word_ends}
use Rattle.session_laws.proofs.TermTexts.{whole_cut}
use Rattle.session_laws.proofs.Joining.{five_assoc, name_in}
use Rattle.session_laws.proofs.HeadingTexts.{HasDefinitionNames, behind_name, heading_of, heading_extends, heading_stays, body_extends, where_lines_whole}
use Rattle.session_laws.proofs.NamingLemmas.{all_called, names_long, flat_texts_have_flat_namings}
use Rattle.session_laws.proofs.ReadLists.{read_texts_have_text_lists}
use Rattle.session_laws.proofs.FormLemmas.{text_lists_give_text_forms}
use Rattle.session_laws.proofs.TakenLemmas.{text_lists_stay}
use Rattle.session_laws.proofs.GivenWords.{given_names_are_words}

specification_whole : AreWhole (codes "specification ") (a_word SPECIFICATION (codes "specification") ∷ [])
specification_whole = word_ends SPECIFICATION (codes "specification") 32 (omega arith) refl (λ (rest : List ℕ). refl) refl

behaviour_whole : AreWhole (codes "behaviour ") (a_word BEHAVIOUR (codes "behaviour") ∷ [])
behaviour_whole = word_ends BEHAVIOUR (codes "behaviour") 32 (omega arith) refl (λ (rest : List ℕ). refl) refl

endspec_whole : AreWhole (line (codes "endspec")) (a_word ENDSPEC (codes "endspec") ∷ [])
endspec_whole = word_ends ENDSPEC (codes "endspec") 10 (omega arith) refl (λ (rest : List ℕ). refl) refl

-- ---- Names

-- the names of a definition, and those of processes one after the other
definition_named : (naming : Naming) (p : Process) → Every (HasWordAsName naming) (p.gates ++ gates_bound p.body)
    → Every IsVariableNamed (p.parameters ++ variables_bound p.body) → HasDefinitionNames naming p
definition_named naming p gates variables = record {
  gates = every_front (HasWordAsName naming) p.gates (gates_bound p.body) gates;
  parameters = every_front IsVariableNamed p.parameters (variables_bound p.body) variables;
  body = record {
    gates = every_back (HasWordAsName naming) p.gates (gates_bound p.body) gates;
    variables = every_back IsVariableNamed p.parameters (variables_bound p.body) variables;
  };
}

each_process : (naming : Naming) (ps : List Process) → Every (HasWordAsName naming) (process_gates ps)
    → Every IsVariableNamed (process_variables ps) → Every (HasDefinitionNames naming) ps
each_process naming [] gates variables = tt
each_process naming (p ∷ ps) gates variables = (
  definition_named naming p (every_front (HasWordAsName naming) (p.gates ++ gates_bound p.body) (process_gates ps) gates)
      (every_front IsVariableNamed (p.parameters ++ variables_bound p.body) (process_variables ps) variables),
  each_process naming ps (every_back (HasWordAsName naming) (p.gates ++ gates_bound p.body) (process_gates ps) gates)
      (every_back IsVariableNamed (p.parameters ++ variables_bound p.body) (process_variables ps) variables),
)

-- the gates of the specification have numbers of names
gates_below : (next : ℕ) (names : List (List ℕ)) (gates : List ℕ) → Follow (List ℕ) ℕ HasGateNumber next names gates
    → Every (λ (gate : ℕ). gate < next + length names) gates
gates_below next [] [] follow = tt
gates_below next [] (gate ∷ gates) follow = absurd follow
gates_below next (name ∷ names) [] follow = absurd follow
gates_below next (name ∷ names) (gate ∷ gates) follow = (
  let same : gate ≡ next = follow.0 in omega (arith, same),
  every_map (λ (g : ℕ). g < suc next + length names) (λ (g : ℕ). g < next + length (name ∷ names)) gates
      (λ g is. let below : g < suc next + length names = is in omega (arith, below)) (gates_below (suc next) names gates follow.1),
)

name_given : (names : List (List ℕ)) (number : ℕ) → Every IsWordSpelling names → number < length names
    → IsWordSpelling (name_text (slice_get names number))
name_given names number each below =
    let there : (name : List ℕ) × (slice_get names number ≡ Some name) = member_at names number below in
    subst IsWordSpelling (sym (ap name_text there.1)) (every_at IsWordSpelling names number there.0 each there.1)

-- names of processes
names_each : (ps : List Process) → Every (λ (p : Process). IsWordSpelling p.name) ps
    → Every IsWordSpelling (map (λ (p : Process). p.name) ps)
names_each [] each = tt
names_each (p ∷ ps) each = (each.0, names_each ps each.1)

module _ (source : List ℕ) (source_tokens : List Token) (source_tree : WrittenSpecification) (data_ : Data)
    (specification : Specification) (types : List Word) (well : IsWellFormedSignature data_.signature)
    (spelled : HasTextNames data_.signature) (names : HasSpecificationNames specification)
    (few : 3 + (length (process_names specification) + length (process_names specification)) < 2 ^ 64)
    (is_source : IsWrittenSpecification source source_tokens source_tree)
    (is : SpecificationIs data_.signature (without_items source_tree) (resolved specification))
    (lines : AreWhole (data_text data_) types) where
  abbrev given : List (List ℕ)
  given = given_names (process_names specification)

  abbrev naming : Naming
  naming = naming_of_flat data_ specification

  order : IsInOrderOfText (without_items source_tree) specification
  order = declarations_have_the_next_number data_.signature (without_items source_tree) specification is

  gates_named : Every (HasWordAsName naming) (all_gates_of specification)
  gates_named =
      every_map (λ (gate : ℕ). gate < 0 + length (declared_gates (without_items source_tree))) (HasWordAsName naming)
      (all_gates_of specification)
      (λ gate below. name_given specification.gate_names gate names.gates (
      let long : length specification.gate_names ≡ length (declared_gates (without_items source_tree)) =
      ap (λ (ns : List (List ℕ)). length ns) order.gate_names in
      let b : gate < 0 + length (declared_gates (without_items source_tree)) = below in
      omega (arith, long, b)
      ))
      (gates_below 0 (declared_gates (without_items source_tree)) (all_gates_of specification) order.gates)

  whole_named : HasDefinitionNames naming (whole_of specification)
  whole_named =
      definition_named naming (whole_of specification)
      (every_front (HasWordAsName naming) (specification.gates ++ gates_bound specification.body) (process_gates specification.processes)
      gates_named)
      (every_front IsVariableNamed (specification.parameters ++ variables_bound specification.body)
      (process_variables specification.processes) names.variables)

  processes_named : Every (HasDefinitionNames naming) specification.processes
  processes_named =
      each_process naming specification.processes
      (every_back (HasWordAsName naming) (specification.gates ++ gates_bound specification.body) (process_gates specification.processes)
      gates_named)
      (every_back IsVariableNamed (specification.parameters ++ variables_bound specification.body)
      (process_variables specification.processes) names.variables)

  given_long : length given ≡ length specification.processes
  given_long = given_names_are_apart.each (process_names specification) ∙ names_long specification.processes

  words_given : Every IsWordSpelling given
  words_given = given_names_are_words (process_names specification) (names_each specification.processes names.processes)

  called : AreCalledByWords naming specification.processes
  called number p there =
      name_given given number words_given (
      let below : number < length specification.processes = slice_get_within specification.processes number p there in
      let long = given_long in
      omega (arith, below, long)
      )

  all : called_names naming 0 specification.processes ≡ given
  all = all_called naming given specification.processes given_long

  means : SpecificationMeans naming specification
  means =
      flat_means naming (without_items source_tree) specification (flat_texts_have_flat_namings data_.signature specification few) is

  forms : HaveTextForms specification
  forms =
      text_lists_give_text_forms data_.signature (without_items source_tree) specification
      (text_lists_stay source_tree (read_texts_have_text_lists source source_tokens source_tree is_source)) is

  where_whole : AreWhole (where_lines naming given specification.processes) (where_words naming specification.processes)
  where_whole =
      subst
      (λ (ns : List (List ℕ)). AreWhole (where_lines naming ns specification.processes) (where_words naming specification.processes)) all
      (where_lines_whole naming well spelled specification.processes called (behind_definition (whole_of specification) first_numbers)
      specification.processes (subst (Every IsWordSpelling) (sym all) words_given) processes_named forms.processes means.processes_mean)

  pub text_whole : AreWhole (flat_text data_ specification) (specification_words naming types specification)
  text_whole =
      let name : List ℕ = specification.name in
      let head : List ℕ = heading_of naming (whole_of specification) in
      let body : List ℕ = behaviour_text naming specification.parameters specification.body in
      let where_ : List ℕ = where_lines naming given specification.processes in
      let begin : List Word = a_word SPECIFICATION (codes "specification") ∷ name_word name ∷ behind_name naming (whole_of specification) in
      let middle : List Word =
      a_word BEHAVIOUR (codes "behaviour") ∷ behaviour_words naming specification.parameters specification.body in
      let inner : List Word = where_words naming specification.processes in
      let end : List Word = a_word ENDSPEC (codes "endspec") ∷ [] in
      let first : AreWhole (line ((codes "specification " ++ name) ++ head)) begin =
      line_ends ((codes "specification " ++ name) ++ head) begin
      (extends_joined (codes "specification " ++ name) head (a_word SPECIFICATION (codes "specification") ∷ name_word name ∷ [])
      (behind_name naming (whole_of specification))
      (ends_before (codes "specification ") name (a_word SPECIFICATION (codes "specification") ∷ []) (name_word name ∷ [])
      specification_whole (name_in false name names.name))
      (heading_stays naming well spelled (whole_of specification))
      (heading_extends naming well spelled specification.processes first_numbers (whole_of specification) whole_named means.whole)) in
      let third : AreWhole (line (codes "behaviour " ++ body)) middle =
      line_ends (codes "behaviour " ++ body) middle
      (ends_before (codes "behaviour ") body (a_word BEHAVIOUR (codes "behaviour") ∷ [])
      (behaviour_words naming specification.parameters specification.body) behaviour_whole
      (body_extends naming well spelled specification.processes called first_numbers (whole_of specification) whole_named forms.body
      means.whole)) in
      subst (λ (words : List Word). AreWhole (flat_text data_ specification) words) (five_assoc begin types middle inner end)
      (ends_joined
      (((line ((codes "specification " ++ name) ++ head) ++ data_text data_) ++ line (codes "behaviour " ++ body)) ++ where_)
      (line (codes "endspec")) (((begin ++ types) ++ middle) ++ inner) end
      (ends_joined ((line ((codes "specification " ++ name) ++ head) ++ data_text data_) ++ line (codes "behaviour " ++ body)) where_
      ((begin ++ types) ++ middle) inner
      (ends_joined (line ((codes "specification " ++ name) ++ head) ++ data_text data_) (line (codes "behaviour " ++ body))
      (begin ++ types) middle
      (ends_joined (line ((codes "specification " ++ name) ++ head)) (data_text data_) begin types first lines) third)
      where_whole)
      endspec_whole)

pub flat_texts_are_cut : FlatTextsAreCut
flat_texts_are_cut number source source_tokens source_tree data_ specification types well spelled names few is_source is lines =
    whole_cut number (flat_text data_ specification) (specification_words (naming_of_flat data_ specification) types specification)
    (ends_extend (flat_text data_ specification) (specification_words (naming_of_flat data_ specification) types specification)
    (text_whole source source_tokens source_tree data_ specification types well spelled names few is_source is lines))
