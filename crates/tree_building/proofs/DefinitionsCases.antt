-- What the definition of headings, processes, `where` and specifications says is derived by their rows.
use Rattle.std.proofs.Common.{ℕ, List, [], ◌∷◌, refl, ap}
use Rattle.std.specs.Prelude.{Option, option_and_then}
use Rattle.lotos_base.specs.WrittenTerm.{PlacedName}
use Rattle.lotos_lexer.specs.declared.tokens.Token.{Token}
use Rattle.lotos_lexer.specs.declared.kinds.TheConstants as kind
use Rattle.lotos_rows.specs.declared.definitions.TheConstants as definitions
use Rattle.lotos_rows.specs.declared.specification.TheConstants as specification
use Rattle.lotos_rows.specs.declared.starts.TheConstants as starts
use Rattle.syntax_trees.specs.WrittenVariable.{WrittenVariable}
use Rattle.syntax_trees.specs.WrittenDefinition.{WrittenHeading, WrittenInner, WrittenSpecification}
use Rattle.lotos_rows.specs.Words.{Optional, left_out, there, Between, between}
use Rattle.lotos_rows.specs.Names.{AreNames, AreParameters}
use Rattle.lotos_rows.specs.Definitions.{IsWrittenFunctionality, IsHeading, IsProcess, IsWhere, AreInner}
use Rattle.lotos_rows.specs.Definitions as family
use Rattle.lotos_rows.specs.Starts.{IsBehaviourWord, IsWrittenSpecification}
use Rattle.lotos_rows.specs.Starts as starts_family
use Rattle.tree_building.specs.Meaning.{Meaning, some_names, some_variables, a_heading, a_functionality, some_inner, a_process, a_word, a_specification}
use Rattle.tree_building.specs.Laws.{SentencesAreDerived}
use Rattle.tree_building.specs.Sentences.{Derived}
use Rattle.tree_building.proofs.NamesDerived.{by_name}
use Rattle.tree_building.proofs.NamesCases.{names_derived, variables_derived}
use Rattle.tree_building.proofs.TypesCases.{item_derived}
use Rattle.tree_building.proofs.BehavioursCases.{optional_gates_derived, behaviour_derived}
use Rattle.tree_building.proofs.SpecificationDerived.{by_behaviour_word, by_behavior_word}
use Rattle.tree_building.proofs.StartsCases.{items_derived, order_derived, terms_text_derived}
use Rattle.tree_building.proofs.StartsDerived.{by_spec, by_typetext}
use Rattle.tree_building.proofs.DefinitionsDerived.{by_heading, by_no_parameters, by_parameters, by_no_exit, by_exit_functionality, by_no_exit_sorts, by_exit_sorts, by_no_where, by_where, by_nothing_inner, by_inner_item, by_inner_process, by_process}

module _ (text : List ℕ) where
  abbrev D : ℕ → List Token → Meaning → Type 0
  D = Derived text

  parameters_derived : {tokens : List Token} {xs : List WrittenVariable} → Optional [] (AreParameters text) tokens xs →
      D definitions.PARAMETERS tokens (some_variables xs)
  parameters_derived left_out = by_no_parameters text refl
  parameters_derived (there (between left xs right)) = by_parameters text left (variables_derived text xs) right refl

  exit_sorts_derived : {tokens : List Token} {xs : List PlacedName} →
      Optional [] (Between kind.LEFT_PARENTHESIS kind.RIGHT_PARENTHESIS (AreNames text)) tokens xs →
      D definitions.EXIT_SORTS tokens (some_names xs)
  exit_sorts_derived left_out = by_no_exit_sorts text refl
  exit_sorts_derived (there (between left xs right)) = by_exit_sorts text left (names_derived text xs) right refl

  functionality_derived : {tokens : List Token} {found : Option (List PlacedName)} → IsWrittenFunctionality text tokens found →
      D definitions.FUNCTIONALITY tokens (a_functionality found)
  functionality_derived (family.no_exit word) = by_no_exit text word refl
  functionality_derived (family.exit_of word sorts) = by_exit_functionality text word (exit_sorts_derived sorts) refl

  heading_derived : {tokens : List Token} {found : WrittenHeading} → IsHeading text tokens found →
      D definitions.HEADING tokens (a_heading found)
  heading_derived (family.heading name gates parameters colon functionality) =
      by_heading text (by_name text name refl) (optional_gates_derived text gates) (parameters_derived parameters) colon
      (functionality_derived functionality) refl

  mutual
    process_derived : {tokens : List Token} {definition : WrittenInner} → IsProcess text tokens definition →
        D definitions.PROCESS tokens (a_process definition)
    process_derived (family.a_process word found sign body inner end) =
        by_process text word (heading_derived found) sign (behaviour_derived text body).derived (where_derived inner) end
        (ap (option_and_then _) (behaviour_derived text body).tree_is)

    where_derived : {tokens : List Token} {inner : List WrittenInner} → IsWhere text tokens inner →
        D definitions.WHERE tokens (some_inner inner)
    where_derived family.no_where = by_no_where text refl
    where_derived (family.a_where word them) = by_where text word (inner_derived them) refl

    inner_derived : {tokens : List Token} {inner : List WrittenInner} → AreInner text tokens inner →
        D definitions.INNER tokens (some_inner inner)
    inner_derived family.no_more_inner = by_nothing_inner text refl
    inner_derived (family.item_then item more) = by_inner_item text (item_derived text item) (inner_derived more) refl
    inner_derived (family.process_then definition more) = by_inner_process text (process_derived definition) (inner_derived more) refl

  word_derived : {word : Token} → IsBehaviourWord word → D specification.BEHAVIOUR_WORD (word ∷ []) (a_word tt)
  word_derived (starts_family.british is) = by_behaviour_word text is refl
  word_derived (starts_family.american is) = by_behavior_word text is refl

  pub specification_derived : {tokens : List Token} {found : WrittenSpecification} → IsWrittenSpecification text tokens found →
      D starts.SPEC tokens (a_specification found)
  specification_derived (starts_family.a_specification start front items word body inner end) =
      by_spec text start (heading_derived front) (items_derived text items) (word_derived word) (behaviour_derived text body).derived
      (where_derived inner) end
      (ap (option_and_then _) (behaviour_derived text body).tree_is)

pub all_sentences_derived : SentencesAreDerived
all_sentences_derived = record {
  specification = λ text tokens found it. specification_derived text it;
  items = λ text tokens items it. by_typetext text (items_derived text it) refl;
  order = λ text tokens items it. order_derived text it;
  terms = λ text tokens terms it. terms_text_derived text it;
}
