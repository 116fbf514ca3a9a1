-- Tokens that are the words of the equations of data are equations by the grammar.
use Rattle.std.proofs.Common.{◌≡◌, ℕ, suc, ◌+◌, ◌*◌, ◌^◌, ◌<◌, List, [], ◌∷◌, ◌++◌, length, refl, ap, sym, ◌∙◌, subst, codes}
use Rattle.std.specs.Prelude.{None, flat_map}
use Rattle.lotos_base.specs.Signature.{Signature, IsWellFormedSignature}
use Rattle.lotos_base.specs.Sorting.{HasSort, Occurs, head_sort_of}
use Rattle.lotos_base.specs.Term.{Term}
use Rattle.lotos_base.specs.Equation.{Variable, Equation, IsEquationOver}
use Rattle.lotos_lexer.specs.declared.tokens.Token.{Token}
use Rattle.lotos_lexer.specs.declared.kinds.TheConstants.{EQNS, OFSORT, FORALL, EQUALS, SEMICOLON}
use Rattle.syntax_trees.specs.WrittenEquation.{WrittenEquations}
use Rattle.lotos_rows.specs.Words.{left_out, there, Optional, Many, no_more, and_then, Behind, behind}
use Rattle.lotos_rows.specs.Names.{place_of, spelled}
use Rattle.lotos_rows.specs.Terms.{IsTerm}
use Rattle.lotos_rows.specs.Equations.{IsWrittenEquation, without_premisses, ended_equation, AreForAll, IsEquationGroup, group_of_sort, AreEquations, equations}
use Rattle.lotos_rows.specs.Types.{no_equations}
use Rattle.behaviour_semantics.specs.WellFormed.{Every}
use Rattle.session_laws.specs.WrittenAs.{IsWrittenAs}
use Rattle.session_laws.specs.TermMeanings.{VariableMeans}
use Rattle.session_laws.specs.WrittenBehaviours.{Correspond, IsVariableWritten}
use Rattle.flat_text.specs.DataText.{sort_if_any}
use Rattle.flat_text.specs.EquationNames.{renamed_variables}
use Rattle.session_laws.specs.PrintedWords.{Word, a_word, name_word, declarations_words, term_words}
use Rattle.session_laws.specs.WordLaws.{HasBinaryInfixes, IsFittingSentence}
use Rattle.session_laws.specs.TypeWords.{data_naming, for_all_words, sides_of_words, equation_line_words, equations_words}
use Rattle.session_laws.specs.WrittenData.{IsEquationWritten, IsGroupWritten}
use Rattle.session_laws.specs.DataLaws.{IsNumberedEquation}
use Rattle.session_laws.proofs.WordParts.{first_of, parts_of, one_of, no_words, of_kind, Says}
use Rattle.session_laws.proofs.TermSentences.{whole_term_says}
use Rattle.session_laws.proofs.PartSentences.{term_begins, variables_say}
use Rattle.session_laws.proofs.Signatures.{term_means}
use Rattle.session_laws.proofs.Variables.{names_are_free, declared_means}

module _ (text : List ℕ) (signature : Signature) (well : IsWellFormedSignature signature) (binary : HasBinaryInfixes signature) where
  -- ---- The variables of an equation

  for_all_says : (xs : List Variable)
      → Says text (for_all_words signature xs) (AreForAll text) (Correspond (IsVariableWritten signature) xs)
  for_all_says [] tokens are =
      subst (IsFittingSentence (AreForAll text) (Correspond (IsVariableWritten signature) [])) (sym (no_words text tokens are))
      (record { thing = []; is_one = left_out; fitting = tt })
  for_all_says (x ∷ xs) tokens are =
      let word : Word = a_word FORALL (codes "forall") in
      let begin = first_of text tokens word (declarations_words (data_naming signature) (x ∷ xs)) are in
      let inside = variables_say text (data_naming signature) well binary x xs begin.rest begin.are_words in
      subst (IsFittingSentence (AreForAll text) (Correspond (IsVariableWritten signature) (x ∷ xs))) (sym begin.joined) (record {
        thing = inside.thing;
        is_one = there (behind (of_kind text word begin.first begin.is_word) inside.is_one);
        fitting = inside.fitting;
      })

  -- ---- Equations

  module _ (e : Equation) (over : IsEquationOver signature e) (numbered : IsNumberedEquation e)
      (few : 1 + length e.variables * suc (length signature.operations) < 2 ^ 64) where
    abbrev xs : List Variable
    xs = renamed_variables signature e

    side_says : (t : Term) → HasSort signature t over.sort → ((n s : ℕ) → Occurs n s t → VariableMeans xs xs n s)
        → Says text (term_words signature xs t) (IsTerm text) (IsWrittenAs signature xs t)
    side_says t sorted each =
        whole_term_says text signature xs well binary xs t over.sort
        (term_means signature xs (names_are_free signature e few) t over.sort sorted each)

    sides_say : Says text (sides_of_words signature xs e) (IsWrittenEquation text) (IsEquationWritten signature xs e)
    sides_say tokens are =
        let equals : Word = a_word EQUALS (codes "=") in
        let parts = parts_of text tokens (term_words signature xs e.left) (equals ∷ term_words signature xs e.right) are in
        let sign = first_of text parts.right equals (term_words signature xs e.right) parts.right_are in
        let left =
        side_says e.left over.left_sort
        (λ n s occurs. declared_means signature e few numbered.declared n s (over.left_declared n s occurs)) parts.left parts.left_are in
        let right =
        side_says e.right over.right_sort
        (λ n s occurs. declared_means signature e few numbered.declared n s (over.right_declared n s occurs)) sign.rest sign.are_words in
        let begin = term_begins text parts.left left.thing left.is_one in
        subst (IsFittingSentence (IsWrittenEquation text) (IsEquationWritten signature xs e))
        (sym (parts.joined ∙ ap (λ (ts : List Token). parts.left ++ ts) sign.joined
        ∙ ap (λ (ts : List Token). ts ++ sign.first ∷ sign.rest) begin.joined)) (record {
          thing = record {
            place = place_of begin.first;
            premisses = [];
            arrow = None;
            left = left.thing;
            right = right.thing;
          };
          is_one =
              without_premisses (subst (λ (ts : List Token). IsTerm text ts left.thing) begin.joined left.is_one)
              (of_kind text equals sign.first sign.is_word) right.is_one;
          fitting = record { premisses = refl; arrow = refl; left = left.fitting; right = right.fitting };
        })

    group_says : Says text (equation_line_words signature e) (IsEquationGroup text) (IsGroupWritten signature e)
    group_says tokens are =
        let word : Word = a_word OFSORT (codes "ofsort") in
        let sort_ : Word = name_word (sort_if_any signature (head_sort_of signature e.left)) in
        let end_ : Word = a_word SEMICOLON (codes ";") in
        let variables_ : List Word = for_all_words signature xs in
        let sides_ : List Word = sides_of_words signature xs e in
        let begin = first_of text tokens word (sort_ ∷ (variables_ ++ (sides_ ++ end_ ∷ []))) are in
        let sort = first_of text begin.rest sort_ (variables_ ++ (sides_ ++ end_ ∷ [])) begin.are_words in
        let parts = parts_of text sort.rest variables_ (sides_ ++ end_ ∷ []) sort.are_words in
        let rest = parts_of text parts.right sides_ (end_ ∷ []) parts.right_are in
        let end = one_of text rest.right end_ rest.right_are in
        let variables = for_all_says xs parts.left parts.left_are in
        let one = sides_say rest.left rest.left_are in
        subst (IsFittingSentence (IsEquationGroup text) (IsGroupWritten signature e))
        (sym (begin.joined ∙ ap (λ (ts : List Token). begin.first ∷ ts)
        (sort.joined ∙ ap (λ (ts : List Token). sort.first ∷ ts)
        (parts.joined ∙ ap (λ (ts : List Token). parts.left ++ ts)
        (rest.joined ∙ ap (λ (ts : List Token). rest.left ++ ts) end.alone))))) (record {
          thing = record {
            place = place_of sort.first;
            sort = spelled text sort.first;
            variables = variables.thing;
            equations = one.thing ∷ [];
          };
          is_one =
              group_of_sort (of_kind text word begin.first begin.is_word) (of_kind text sort_ sort.first sort.is_word) variables.is_one
              (there (ended_equation one.is_one (of_kind text end_ end.token end.is_word)));
          fitting = record {
            sorted = sort.is_word.spelling_is;
            variables = variables.fitting;
            one = one.thing;
            alone = refl;
            is_written = one.fitting;
          };
        })

  -- ---- Sections of equations

  -- each equation is over the signature, numbered in a row, and has few variables
  pub record IsFlatEquation (e : Equation) : Type 0 where
    pub over : IsEquationOver signature e
    pub numbered : IsNumberedEquation e
    pub few : 1 + length e.variables * suc (length signature.operations) < 2 ^ 64

  groups_say : (es : List Equation) → Every IsFlatEquation es
      → Says text (flat_map (equation_line_words signature) es) (Many (IsEquationGroup text))
      (Correspond (IsGroupWritten signature) es)
  groups_say [] all tokens are =
      subst (IsFittingSentence (Many (IsEquationGroup text)) (Correspond (IsGroupWritten signature) [])) (sym (no_words text tokens are))
      (record { thing = []; is_one = no_more; fitting = tt })
  groups_say (e ∷ es) all tokens are =
      let parts =
      parts_of text tokens (equation_line_words signature e) (flat_map (equation_line_words signature) es) are in
      let first = group_says e all.0.over all.0.numbered all.0.few parts.left parts.left_are in
      let rest = groups_say es all.1 parts.right parts.right_are in
      subst (IsFittingSentence (Many (IsEquationGroup text)) (Correspond (IsGroupWritten signature) (e ∷ es))) (sym parts.joined) (record {
        thing = first.thing ∷ rest.thing;
        is_one = and_then first.is_one rest.is_one;
        fitting = (first.fitting, rest.fitting);
      })

  -- what a section of equations is read as
  pub record AreEquationsWritten (es : List Equation) (written : WrittenEquations) : Type 0 where
    pub variables : written.variables ≡ []
    pub groups : Correspond (IsGroupWritten signature) es written.groups

  pub equations_say : (es : List Equation) → Every IsFlatEquation es
      → Says text (equations_words signature es) (Optional no_equations (Behind EQNS (AreEquations text))) (AreEquationsWritten es)
  equations_say [] all tokens are =
      subst (IsFittingSentence (Optional no_equations (Behind EQNS (AreEquations text))) (AreEquationsWritten []))
      (sym (no_words text tokens are))
      (record { thing = no_equations; is_one = left_out; fitting = record { variables = refl; groups = tt } })
  equations_say (e ∷ es) all tokens are =
      let word : Word = a_word EQNS (codes "eqns") in
      let begin = first_of text tokens word (flat_map (equation_line_words signature) (e ∷ es)) are in
      let groups = groups_say (e ∷ es) all begin.rest begin.are_words in
      subst (IsFittingSentence (Optional no_equations (Behind EQNS (AreEquations text))) (AreEquationsWritten (e ∷ es))) (sym begin.joined)
      (record {
        thing = record { variables = []; groups = groups.thing };
        is_one = there (behind (of_kind text word begin.first begin.is_word) (equations left_out groups.is_one));
        fitting = record { variables = refl; groups = groups.fitting };
      })
