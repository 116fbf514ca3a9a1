-- Tokens that are the words of the type of data are this type by the grammar.
use Rattle.std.proofs.Common.{◌≡◌, ℕ, List, [], ◌∷◌, ◌++◌, refl, ap, sym, ◌∙◌, subst, append-nil, codes}
use Rattle.std.specs.Prelude.{flat_map}
use Rattle.lotos_base.specs.Signature.{Signature, Sort, Operation, Form, prefix_form, infix_form, IsWellFormedSignature}
use Rattle.lotos_base.specs.Equation.{Data}
use Rattle.lotos_base.specs.WrittenTerm.{PlacedName}
use Rattle.lotos_lexer.specs.declared.tokens.Token.{Token}
use Rattle.lotos_lexer.specs.declared.kinds.TheConstants.{TYPE, IS, SORTS, OPNS, ENDTYPE, UNDERSCORE, COLON, ARROW}
use Rattle.syntax_trees.specs.WrittenItem.{WrittenOperation, WrittenItem, type_declared, extends}
use Rattle.lotos_rows.specs.Words.{left_out, there, Optional, Many, no_more, and_then, Separated, last, before_more, Loosely, last_loose, with_separator, Behind, behind}
use Rattle.lotos_rows.specs.Names.{place_of, spelled, named, IsName, a_name, AreOptionalNames, AreLooseNames, NamedOperation, IsWrittenOperation, of_prefix_form, of_infix_form, PlacedProfile, IsProfile, profile}
use Rattle.lotos_rows.specs.Types.{no_equations, IsOperationLine, operations_line, AreOperations, operations, AreSections, sections, extending_nothing, IsItem, a_type}
use Rattle.lotos_rows.specs.Starts.{AreItems}
use Rattle.behaviour_semantics.specs.WellFormed.{Every}
use Rattle.printed_texts.specs.TermText.{sort_text}
use Rattle.session_laws.specs.WrittenBehaviours.{Correspond}
use Rattle.session_laws.specs.WrittenSpecifications.{IsSortWritten}
use Rattle.session_laws.specs.PrintedWords.{Word, AreWords, a_word, name_word, operation_word}
use Rattle.session_laws.specs.WordLaws.{HasBinaryInfixes, IsFittingSentence}
use Rattle.session_laws.specs.TypeWords.{sort_list_words, operator_words, argument_words, profile_words, operation_line_words, operations_words, data_naming, equations_words, sections_words, type_words_over}
use Rattle.session_laws.specs.TypeWordLaws.{TypeWordsAreItems}
use Rattle.session_laws.specs.WrittenData.{IsSortDeclared, IsOperationWritten, AreSectionsWritten, AreItemsWritten}
use Rattle.session_laws.specs.DataLaws.{AreDataOfText}
use Rattle.session_laws.proofs.WordParts.{first_of, parts_of, one_of, no_words, of_kind, Says}
use Rattle.session_laws.proofs.TermSentences.{operation_named}
use Rattle.session_laws.proofs.PartSentences.{IsSingle, separated_say}
use Rattle.session_laws.proofs.EquationSentences.{IsFlatEquation, equations_say}
use Rattle.behaviour_semantics.proofs.EveryLemmas.{every_from, every_all}

-- things between commas are things with or without commas
loosely : {A : Type 0} {separator : ℕ} {one : List Token → A → Type 0} {tokens : List Token} {values : List A}
    → Separated separator one tokens values → Loosely separator one tokens values
loosely (last is) = last_loose is
loosely (before_more is sign more) = with_separator is sign (loosely more)

module _ (text : List ℕ) where
  name_says : (name : List ℕ) → Says text (name_word name ∷ []) (IsName text) (λ (w : PlacedName). w.name ≡ name)
  name_says name tokens are =
      let one = one_of text tokens (name_word name) are in
      subst (IsFittingSentence (IsName text) (λ (w : PlacedName). w.name ≡ name)) (sym one.alone) (record {
        thing = named text one.token;
        is_one = a_name (of_kind text (name_word name) one.token one.is_word);
        fitting = one.is_word.spelling_is;
      })

  -- the name and the form of an operation
  record IsNamedOperation (form : Form) (name : List ℕ) (w : NamedOperation) : Type 0 where
    name_is : w.name.name ≡ name
    form_is : w.form ≡ form

  operator_says : (form : Form) (name : List ℕ)
      → Says text (operator_words form name) (IsWrittenOperation text) (IsNamedOperation form name)
  operator_says prefix_form name tokens are =
      let one = one_of text tokens (operation_word name) are in
      subst (IsFittingSentence (IsWrittenOperation text) (IsNamedOperation prefix_form name)) (sym one.alone) (record {
        thing = record { name = named text one.token; form = prefix_form };
        is_one = of_prefix_form (operation_named text name one.token one.is_word);
        fitting = record { name_is = one.is_word.spelling_is; form_is = refl };
      })
  operator_says infix_form name tokens are =
      let sign : Word = a_word UNDERSCORE (codes "_") in
      let left = first_of text tokens sign (operation_word name ∷ sign ∷ []) are in
      let one = first_of text left.rest (operation_word name) (sign ∷ []) left.are_words in
      let right = one_of text one.rest sign one.are_words in
      subst (IsFittingSentence (IsWrittenOperation text) (IsNamedOperation infix_form name))
      (sym (left.joined ∙ ap (λ (ts : List Token). left.first ∷ ts)
      (one.joined ∙ ap (λ (ts : List Token). one.first ∷ ts) right.alone))) (record {
        thing = record { name = named text one.first; form = infix_form };
        is_one =
            of_infix_form (of_kind text sign left.first left.is_word) (operation_named text name one.first one.is_word)
            (of_kind text sign right.token right.is_word);
        fitting = record { name_is = one.is_word.spelling_is; form_is = refl };
      })

  module _ (signature : Signature) (well : IsWellFormedSignature signature) (binary : HasBinaryInfixes signature) where
    -- ---- Sorts and operations

    sorts_say : (s : Sort) (ss : List Sort)
        → Says text (sort_list_words (s ∷ ss)) (AreLooseNames text) (Correspond IsSortDeclared (s ∷ ss))
    sorts_say s ss tokens are =
        let names =
        separated_say text (data_naming signature) well binary (λ (r : Sort). name_word r.name ∷ []) (IsName text) IsSortDeclared s ss
        (every_all (λ (r : Sort). Says text (name_word r.name ∷ []) (IsName text) (IsSortDeclared r)) (λ r. name_says r.name) (s ∷ ss))
        tokens are in
        record { thing = names.thing; is_one = loosely names.is_one; fitting = names.fitting }

    arguments_say : (sorts : List ℕ)
        → Says text (argument_words signature sorts) (AreOptionalNames text) (Correspond (IsSortWritten signature) sorts)
    arguments_say [] tokens are =
        subst (IsFittingSentence (AreOptionalNames text) (Correspond (IsSortWritten signature) [])) (sym (no_words text tokens are))
        (record { thing = []; is_one = left_out; fitting = tt })
    arguments_say (s ∷ ss) tokens are =
        let names =
        separated_say text (data_naming signature) well binary (λ (r : ℕ). name_word (sort_text signature r) ∷ []) (IsName text)
        (IsSortWritten signature) s ss
        (every_all (λ (r : ℕ). Says text (name_word (sort_text signature r) ∷ []) (IsName text) (IsSortWritten signature r))
        (λ r. name_says (sort_text signature r)) (s ∷ ss))
        tokens are in
        record { thing = names.thing; is_one = there names.is_one; fitting = names.fitting }

    record IsProfileWritten (arguments : List ℕ) (result : ℕ) (w : PlacedProfile) : Type 0 where
      arguments_are : Correspond (IsSortWritten signature) arguments w.arguments
      result_is : IsSortWritten signature result w.result

    profile_says : (arguments : List ℕ) (result : ℕ)
        → Says text (profile_words signature arguments result) (IsProfile text) (IsProfileWritten arguments result)
    profile_says arguments result tokens are =
        let colon : Word = a_word COLON (codes ":") in
        let arrow : Word = a_word ARROW (codes "->") in
        let sort_ : Word = name_word (sort_text signature result) in
        let begin = first_of text tokens colon (argument_words signature arguments ++ arrow ∷ sort_ ∷ []) are in
        let parts = parts_of text begin.rest (argument_words signature arguments) (arrow ∷ sort_ ∷ []) begin.are_words in
        let sign = first_of text parts.right arrow (sort_ ∷ []) parts.right_are in
        let sort = one_of text sign.rest sort_ sign.are_words in
        let names = arguments_say arguments parts.left parts.left_are in
        subst (IsFittingSentence (IsProfile text) (IsProfileWritten arguments result))
        (sym (begin.joined ∙ ap (λ (ts : List Token). begin.first ∷ ts)
        (parts.joined ∙ ap (λ (ts : List Token). parts.left ++ ts)
        (sign.joined ∙ ap (λ (ts : List Token). sign.first ∷ ts) sort.alone)))) (record {
          thing = record { arguments = names.thing; result = named text sort.token };
          is_one =
              profile (of_kind text colon begin.first begin.is_word) names.is_one (of_kind text arrow sign.first sign.is_word)
              (of_kind text sort_ sort.token sort.is_word);
          fitting = record { arguments_are = names.fitting; result_is = sort.is_word.spelling_is };
        })

    operation_says : (o : Operation) (tokens : List Token) → AreWords text tokens (operation_line_words signature o)
        → IsSingle (IsOperationLine text) (IsOperationWritten signature o) tokens
    operation_says o tokens are =
        let parts =
        parts_of text tokens (operator_words o.form o.name) (profile_words signature o.arguments o.result) are in
        let operator = operator_says o.form o.name parts.left parts.left_are in
        let sorts = profile_says o.arguments o.result parts.right parts.right_are in
        subst (IsSingle (IsOperationLine text) (IsOperationWritten signature o)) (sym parts.joined) (record {
          thing = record {
            place = operator.thing.name.place;
            name = operator.thing.name.name;
            form = operator.thing.form;
            arguments = sorts.thing.arguments;
            result = sorts.thing.result;
          };
          is_one = operations_line (last operator.is_one) sorts.is_one;
          fitting = record {
            named = operator.fitting.name_is;
            formed = operator.fitting.form_is;
            arguments = sorts.fitting.arguments_are;
            result = sorts.fitting.result_is;
          };
        })

    lines_say : (os : List Operation)
        → Says text (flat_map (operation_line_words signature) os) (Many (IsOperationLine text))
        (λ (lines : List (List WrittenOperation)). Correspond (IsOperationWritten signature) os (flat_map (λ line. line) lines))
    lines_say [] tokens are =
        subst
        (IsFittingSentence (Many (IsOperationLine text))
        (λ (lines : List (List WrittenOperation)). Correspond (IsOperationWritten signature) [] (flat_map (λ line. line) lines)))
        (sym (no_words text tokens are)) (record { thing = []; is_one = no_more; fitting = tt })
    lines_say (o ∷ os) tokens are =
        let parts =
        parts_of text tokens (operation_line_words signature o) (flat_map (operation_line_words signature) os) are in
        let first = operation_says o parts.left parts.left_are in
        let rest = lines_say os parts.right parts.right_are in
        subst
        (IsFittingSentence (Many (IsOperationLine text))
        (λ (lines : List (List WrittenOperation)). Correspond (IsOperationWritten signature) (o ∷ os) (flat_map (λ line. line) lines)))
        (sym parts.joined) (record {
          thing = (first.thing ∷ []) ∷ rest.thing;
          is_one = and_then first.is_one rest.is_one;
          fitting = (first.fitting, rest.fitting);
        })

    operations_say : (os : List Operation)
        → Says text (operations_words signature os) (Optional [] (Behind OPNS (AreOperations text)))
        (Correspond (IsOperationWritten signature) os)
    operations_say [] tokens are =
        subst (IsFittingSentence (Optional [] (Behind OPNS (AreOperations text))) (Correspond (IsOperationWritten signature) []))
        (sym (no_words text tokens are)) (record { thing = []; is_one = left_out; fitting = tt })
    operations_say (o ∷ os) tokens are =
        let word : Word = a_word OPNS (codes "opns") in
        let begin = first_of text tokens word (flat_map (operation_line_words signature) (o ∷ os)) are in
        let lines = lines_say (o ∷ os) begin.rest begin.are_words in
        subst (IsFittingSentence (Optional [] (Behind OPNS (AreOperations text))) (Correspond (IsOperationWritten signature) (o ∷ os)))
        (sym begin.joined) (record {
          thing = flat_map (λ line. line) lines.thing;
          is_one = there (behind (of_kind text word begin.first begin.is_word) (operations lines.is_one));
          fitting = lines.fitting;
        })

  -- ---- The type

  module _ (data_ : Data) (form : AreDataOfText data_) where
    abbrev signature : Signature
    signature = data_.signature

    well : IsWellFormedSignature signature
    well = form.well_formed.signature

    equations_fit : Every (IsFlatEquation text signature well form.infix_operations) data_.equations
    equations_fit =
        every_from (IsFlatEquation text signature well form.infix_operations) data_.equations (λ i e at. record {
          over = form.well_formed.equations e (i, at);
          numbered = form.equations e (i, at);
          few = form.limits.variables e (i, at);
        })

    sections_say : (s : Sort) (ss : List Sort) → signature.sorts ≡ s ∷ ss
        → Says text (sections_words data_ (s ∷ ss)) (AreSections text) (AreSectionsWritten data_)
    sections_say s ss is tokens are =
        let word : Word = a_word SORTS (codes "sorts") in
        let sorts_ : List Word = sort_list_words (s ∷ ss) in
        let operations_ : List Word = operations_words signature signature.operations in
        let equations_ : List Word = equations_words signature data_.equations in
        let begin = first_of text tokens word (sorts_ ++ (operations_ ++ equations_)) are in
        let parts = parts_of text begin.rest sorts_ (operations_ ++ equations_) begin.are_words in
        let rest = parts_of text parts.right operations_ equations_ parts.right_are in
        let sorts = sorts_say signature well form.infix_operations s ss parts.left parts.left_are in
        let operations = operations_say signature well form.infix_operations signature.operations rest.left rest.left_are in
        let equations =
        equations_say text signature well form.infix_operations data_.equations equations_fit rest.right rest.right_are in
        subst (IsFittingSentence (AreSections text) (AreSectionsWritten data_))
        (sym (begin.joined ∙ ap (λ (ts : List Token). begin.first ∷ ts)
        (parts.joined ∙ ap (λ (ts : List Token). parts.left ++ ts) rest.joined))) (record {
          thing = record {
            formal_sorts = [];
            formal_operations = [];
            formal_equations = no_equations;
            sorts = sorts.thing;
            operations = operations.thing;
            equations = equations.thing;
          };
          is_one =
              sections left_out left_out left_out (there (behind (of_kind text word begin.first begin.is_word) sorts.is_one))
              operations.is_one equations.is_one;
          fitting = record {
            formal_sorts = refl;
            formal_operations = refl;
            formal_variables = refl;
            formal_groups = refl;
            sorts = subst (λ (rs : List Sort). Correspond IsSortDeclared rs sorts.thing) (sym is) sorts.fitting;
            operations = operations.fitting;
            common_variables = equations.fitting.variables;
            groups = equations.fitting.groups;
          };
        })

    -- one item
    record IsDataItem (s : Sort) (ss : List Sort) (item : WrittenItem) : Type 0 where
      alone : AreItemsWritten data_ (s ∷ ss) (item ∷ [])

    item_says : (s : Sort) (ss : List Sort) → signature.sorts ≡ s ∷ ss
        → Says text (type_words_over data_ (s ∷ ss)) (IsItem text) (IsDataItem s ss)
    item_says s ss is tokens are =
        let word : Word = a_word TYPE (codes "type") in
        let name_ : Word = name_word (codes "Data") in
        let sign_ : Word = a_word IS (codes "is") in
        let end_ : Word = a_word ENDTYPE (codes "endtype") in
        let sections_ : List Word = sections_words data_ (s ∷ ss) in
        let begin = first_of text tokens word (name_ ∷ sign_ ∷ (sections_ ++ end_ ∷ [])) are in
        let name = first_of text begin.rest name_ (sign_ ∷ (sections_ ++ end_ ∷ [])) begin.are_words in
        let sign = first_of text name.rest sign_ (sections_ ++ end_ ∷ []) name.are_words in
        let parts = parts_of text sign.rest sections_ (end_ ∷ []) sign.are_words in
        let end = one_of text parts.right end_ parts.right_are in
        let inside = sections_say s ss is parts.left parts.left_are in
        subst (IsFittingSentence (IsItem text) (IsDataItem s ss))
        (sym (begin.joined ∙ ap (λ (ts : List Token). begin.first ∷ ts)
        (name.joined ∙ ap (λ (ts : List Token). name.first ∷ ts)
        (sign.joined ∙ ap (λ (ts : List Token). sign.first ∷ ts)
        (parts.joined ∙ ap (λ (ts : List Token). parts.left ++ ts) end.alone))))) (record {
          thing = type_declared (place_of name.first) (spelled text name.first) (extends [] inside.thing);
          is_one =
              a_type (of_kind text word begin.first begin.is_word) (of_kind text name_ name.first name.is_word)
              (of_kind text sign_ sign.first sign.is_word) (extending_nothing inside.is_one) (of_kind text end_ end.token end.is_word);
          fitting = record { alone = (name.is_word.spelling_is, (refl, inside.fitting)) };
        })

    items_say : (sorts : List Sort) → signature.sorts ≡ sorts
        → Says text (type_words_over data_ sorts) (AreItems text) (AreItemsWritten data_ sorts)
    items_say [] is tokens are =
        subst (IsFittingSentence (AreItems text) (AreItemsWritten data_ [])) (sym (no_words text tokens are))
        (record { thing = []; is_one = no_more; fitting = tt })
    items_say (s ∷ ss) is tokens are =
        let item = item_says s ss is tokens are in
        subst (IsFittingSentence (AreItems text) (AreItemsWritten data_ (s ∷ ss))) (append-nil tokens) (record {
          thing = item.thing ∷ [];
          is_one = and_then item.is_one no_more;
          fitting = item.fitting.alone;
        })

pub type_words_are_items : TypeWordsAreItems
type_words_are_items text data_ tokens form are = items_say text data_ form data_.signature.sorts refl tokens are
