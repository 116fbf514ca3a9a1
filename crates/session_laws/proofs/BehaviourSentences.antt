-- Tokens that are the words of a behaviour are a behaviour by the grammar.
use Rattle.std.proofs.Common.{◌≡◌, ◌⊎◌, ℕ, Bool, true, false, inl, inr, List, [], ◌∷◌, ◌++◌, map, refl, ap, sym, ◌∙◌, subst, append_assoc, append-nil, codes}
use Rattle.std.specs.Prelude.{◌≢◌, Option, None, Some, flat_map}
use Rattle.std.proofs.lemmas.List.Elements.{All-nil}
use Rattle.lotos_base.specs.Signature.{IsWellFormedSignature}
use Rattle.lotos_base.specs.Equation.{Variable}
use Rattle.lotos_base.specs.Term.{Term}
use Rattle.lotos_lexer.specs.declared.tokens.Token.{Token}
use Rattle.lotos_lexer.specs.declared.kinds.TheConstants.{HIDE, IN, LET, CHOICE, PAR, I, STOP, EXIT, COMMA, SEMICOLON, ARROW, LEFT_BRACKET, RIGHT_BRACKET, LEFT_PARENTHESIS, RIGHT_PARENTHESIS, CHOICE_SIGN, DISABLING}
use Rattle.syntax_trees.specs.WrittenEquation.{WrittenPremiss}
use Rattle.syntax_trees.specs.WrittenBehaviour as written
use Rattle.syntax_trees.specs.WrittenBehaviour.{WrittenBehaviour, WrittenExitValue, choice_sign, disabling, enabling}
use Rattle.syntax_trees.specs.Grouping.{alone, split}
use Rattle.syntax_trees.specs.Strength.{PlacedSign, joined_by_sign}
use Rattle.lotos_rows.specs.Words.{IsOfKind, left_out, there, Separated, last, Between, between}
use Rattle.lotos_rows.specs.Names.{place_of, spelled, variables}
use Rattle.lotos_rows.specs.Equations.{IsPremiss}
use Rattle.lotos_rows.specs.Behaviours.{IsWrittenExitValue, IsSign, sign_choice, sign_parallel, sign_disabling, AreOperands, hiding, letting, choosing_values, choosing_gates, parallel_over_gates, inner_prefix, guarding, acting, offering, last_operand, before_sign, IsAtom, stopping, exiting, calling, in_brackets, IsBehaviourText, grouped_operands}
use Rattle.behaviour_semantics.specs.Behaviour.{Behaviour, stop, exit_with, action, inner_action, guard, choice, parallel, hide, enable, disable, let_be, choose_value, choose_gate, par_gate, call, relabel, Test, Offer, ExitValue, SynchronisationSet, Process, asked_variables, let_variables, sorts_of}
use Rattle.behaviour_semantics.specs.WellFormed.{Every}
use Rattle.printed_texts.specs.BehaviourText.{Naming, called_text, stands_in_brackets}
use Rattle.session_laws.specs.Meanings.{PrintedScope, behind_variables, behind_gates, behind_left, ExitValueMeans, OfferMeans, TestMeans, PredicateMeans, CallMeans, BehaviourMeans}
use Rattle.session_laws.specs.WrittenBehaviours.{Correspond, IsExitValueWritten, IsTestWritten, IsBehaviourWritten, stop_written, exit_written, action_written, inner_written, guard_written, choice_written, parallel_written, hide_written, enable_written, disable_written, let_written, value_choice_written, gate_choice_written, par_written, call_written}
use Rattle.session_laws.specs.PrintedWords.{Word, AreWords, a_word, name_word, commas_words, round_words, bracketed_words, term_words, gate_word, gates_words, declared_words, test_words, predicate_words, offers_words, exit_value_words, round_list_words, square_list_words, meet_words, enable_words, binding_words, gate_choice_words, unit_words, behaviour_words}
use Rattle.session_laws.specs.WordLaws.{HasBinaryInfixes, HasTextForm, IsFittingSentence, BehaviourWordsAreSentences}
use Rattle.session_laws.proofs.WordParts.{first_of, parts_of, one_of, of_kind, Says, round_says}
use Rattle.session_laws.proofs.PartSentences.{bracketed_gates_say, arguments_say, predicate_says, gates_say, declared_says, meet_says, enable_says, gate_choice_says, test_says, offers_of, exit_values_say, bindings_say}

module _ (text : List ℕ) where
  -- ---- Operands

  -- what may stand behind an operand: nothing, or a sign before further operands
  data Continues : List Token → List WrittenBehaviour → List PlacedSign → Type 0 where
    at_end : Continues [] [] []
    by_sign : {sign_tokens rest : List Token} {sign : PlacedSign} {operands : List WrittenBehaviour} {signs : List PlacedSign} →
        IsSign text sign_tokens sign → AreOperands text rest operands signs → Continues (sign_tokens ++ rest) operands (sign ∷ signs)

  -- The tokens are an operand, whatever stands behind them: a prefix belongs to the first operand of a whole list.
  record IsOperand (fits : WrittenBehaviour → Type 0) (tokens : List Token) : Type 0 where
    thing : WrittenBehaviour
    operand : (us : List Token) (operands : List WrittenBehaviour) (signs : List PlacedSign) → Continues us operands signs
        → AreOperands text (tokens ++ us) (thing ∷ operands) signs
    fitting : fits thing

  atom_operand : (tokens : List Token) (w : WrittenBehaviour) → IsAtom text tokens w → (us : List Token)
      (operands : List WrittenBehaviour) (signs : List PlacedSign) → Continues us operands signs
      → AreOperands text (tokens ++ us) (w ∷ operands) signs
  atom_operand tokens w atom us operands signs at_end =
      subst (λ (ts : List Token). AreOperands text ts (w ∷ []) []) (sym (append-nil tokens)) (last_operand atom)
  atom_operand tokens w atom us operands signs (by_sign sign others) = before_sign atom sign others

  operand_atom : (fits : WrittenBehaviour → Type 0) (tokens : List Token) (w : WrittenBehaviour) → IsAtom text tokens w → fits w
      → IsOperand fits tokens
  operand_atom fits tokens w atom fit = record { thing = w; operand = atom_operand tokens w atom; fitting = fit }

  -- an operand by itself
  alone_operand : (fits : WrittenBehaviour → Type 0) (tokens : List Token) (o : IsOperand fits tokens)
      → AreOperands text tokens (o.thing ∷ []) []
  alone_operand fits tokens o =
      subst (λ (ts : List Token). AreOperands text ts (o.thing ∷ []) []) (append-nil tokens) (o.operand [] [] [] at_end)

  -- what a behaviour that stands in brackets as a part is said to be, and one that does not
  abbrev SaidAs : Bool → (WrittenBehaviour → Type 0) → List Token → Type 0
  SaidAs true fits tokens = IsFittingSentence (IsBehaviourText text) fits tokens
  SaidAs false fits tokens = IsOperand fits tokens

  whole_said : (flag : Bool) (fits : WrittenBehaviour → Type 0) (tokens : List Token) → SaidAs flag fits tokens
      → IsFittingSentence (IsBehaviourText text) fits tokens
  whole_said true fits tokens said = said
  whole_said false fits tokens said = record {
    thing = said.thing;
    is_one = grouped_operands (alone_operand fits tokens said) alone;
    fitting = said.fitting;
  }

  unit_said : (flag : Bool) (fits : WrittenBehaviour → Type 0) (words : List Word)
      → ((tokens : List Token) → AreWords text tokens words → SaidAs flag fits tokens)
      → (tokens : List Token) → AreWords text tokens (bracketed_words flag words) → IsOperand fits tokens
  unit_said true fits words says tokens are =
      let inside = round_says text words (IsBehaviourText text) fits says tokens are in
      go tokens inside.thing inside.is_one inside.fitting
    where
      go : (ts : List Token) (w : WrittenBehaviour) → Between LEFT_PARENTHESIS RIGHT_PARENTHESIS (IsBehaviourText text) ts w → fits w
          → IsOperand fits ts
      go ts w (between left whole right) fit = operand_atom fits ts w (in_brackets left whole right) fit
  unit_said false fits words says tokens are = says tokens are

  -- ---- Signs between operands

  binary_said : (b_fits c_fits : WrittenBehaviour → Type 0) (sign : PlacedSign) (left signs right : List Token)
      → (l : IsOperand b_fits left) → IsSign text signs sign → (r : IsOperand c_fits right)
      → IsBehaviourText text (left ++ (signs ++ right)) (joined_by_sign sign l.thing r.thing)
  binary_said b_fits c_fits sign left signs right l is_sign r =
      grouped_operands
      (l.operand (signs ++ right) (r.thing ∷ []) (sign ∷ []) (by_sign is_sign (alone_operand c_fits right r)))
      (split {operands = l.thing ∷ []} {others = r.thing ∷ []} {before = []} {behind = []} {sign = sign} {left = l.thing}
      {right = r.thing} (All-nil _) (All-nil _) alone alone)

  -- ---- Prefixes

  guard_joined : (test right arrow rest us : List Token)
      → ((test ++ right) ++ (arrow ++ rest)) ++ us ≡ test ++ (right ++ (arrow ++ (rest ++ us)))
  guard_joined test right arrow rest us =
      append_assoc (test ++ right) (arrow ++ rest) us ∙ append_assoc test right ((arrow ++ rest) ++ us)
      ∙ ap (λ (ts : List Token). test ++ (right ++ ts)) (append_assoc arrow rest us)

  action_joined : (first others test sign rest us : List Token)
      → ((first ++ others) ++ (test ++ (sign ++ rest))) ++ us ≡ first ++ (others ++ (test ++ (sign ++ (rest ++ us))))
  action_joined first others test sign rest us =
      append_assoc (first ++ others) (test ++ (sign ++ rest)) us ∙ append_assoc first others ((test ++ (sign ++ rest)) ++ us)
      ∙ ap (λ (ts : List Token). first ++ (others ++ ts))
      (append_assoc test (sign ++ rest) us ∙ ap (λ (ts : List Token). test ++ ts) (append_assoc sign rest us))

  module _ (naming : Naming) (well : IsWellFormedSignature naming.signature) (binary : HasBinaryInfixes naming.signature)
      (processes : List Process) where
    abbrev Fits : List Variable → Behaviour → WrittenBehaviour → Type 0
    Fits names b = IsBehaviourWritten naming names b

    -- ---- Calls and `exit`

    call_said : (scope : PrintedScope) (number : ℕ) (gates : List ℕ) (values : List Term) (tokens : List Token)
        → CallMeans naming processes scope number gates values
        → AreWords text tokens (behaviour_words naming scope.names (call number gates values))
        → IsOperand (Fits scope.names (call number gates values)) tokens
    call_said scope number gates values tokens means are =
        let name_ : Word = name_word (called_text naming number) in
        let gates_ : List Word = square_list_words (map (λ (gate : ℕ). gate_word naming gate ∷ []) gates) in
        let values_ : List Word = round_list_words (map (term_words naming.signature scope.names) values) in
        let begin = first_of text tokens name_ (gates_ ++ values_) are in
        let parts = parts_of text begin.rest gates_ values_ begin.are_words in
        let given = bracketed_gates_say text naming well binary gates parts.left parts.left_are in
        let terms = arguments_say text naming well binary scope values (sorts_of means.process.parameters) means.values_mean parts.right
        parts.right_are in
        subst (IsOperand (Fits scope.names (call number gates values)))
        (sym (begin.joined ∙ ap (λ (ts : List Token). begin.first ∷ ts) parts.joined))
        (operand_atom (Fits scope.names (call number gates values)) (begin.first ∷ (parts.left ++ parts.right))
        (written.call (place_of begin.first) (spelled text begin.first) given.thing terms.thing)
        (calling (of_kind text name_ begin.first begin.is_word) given.is_one terms.is_one)
        (call_written begin.is_word.spelling_is given.fitting terms.fitting))

    exit_said : (scope : PrintedScope) (results : List ExitValue) (tokens : List Token) → Every (ExitValueMeans naming scope) results
        → AreWords text tokens (behaviour_words naming scope.names (exit_with results))
        → IsOperand (Fits scope.names (exit_with results)) tokens
    exit_said scope [] tokens means are =
        let word : Word = a_word EXIT (codes "exit") in
        let one = one_of text tokens word are in
        subst (IsOperand (Fits scope.names (exit_with []))) (sym one.alone)
        (operand_atom (Fits scope.names (exit_with [])) (one.token ∷ []) (written.exit (place_of one.token) [])
        (exiting (of_kind text word one.token one.is_word) left_out) (exit_written tt))
    exit_said scope (x ∷ results) tokens means are =
        let word : Word = a_word EXIT (codes "exit") in
        let listed : List Word = commas_words (map (exit_value_words naming scope.names) (x ∷ results)) in
        let begin = first_of text tokens word (round_words listed) are in
        let values =
        round_says text listed (Separated COMMA (IsWrittenExitValue text))
        (Correspond (IsExitValueWritten naming scope.names) (x ∷ results)) (exit_values_say text naming well binary scope x results means)
        begin.rest begin.are_words in
        subst (IsOperand (Fits scope.names (exit_with (x ∷ results)))) (sym begin.joined)
        (operand_atom (Fits scope.names (exit_with (x ∷ results))) (begin.first ∷ begin.rest)
        (written.exit (place_of begin.first) values.thing)
        (exiting (of_kind text word begin.first begin.is_word) (there values.is_one)) (exit_written values.fitting))

    -- ---- Actions

    action_said : (scope : PrintedScope) (gate : ℕ) (offers : List Offer) (test : Option Test) (b : Behaviour) (tokens : List Token)
        → (test ≡ None) ⊎ (offers ≢ []) → Every (OfferMeans naming scope) offers
        → PredicateMeans naming (behind_variables (asked_variables offers) scope) test
        → ((ts : List Token) → AreWords text ts (unit_words b (behaviour_words naming (asked_variables offers ++ scope.names) b))
        → IsOperand (Fits (asked_variables offers ++ scope.names) b) ts)
        → AreWords text tokens (behaviour_words naming scope.names (action gate offers test b))
        → IsOperand (Fits scope.names (action gate offers test b)) tokens
    action_said scope gate [] None b tokens form means tests says are =
        let semicolon : Word = a_word SEMICOLON (codes ";") in
        let unit : List Word = unit_words b (behaviour_words naming scope.names b) in
        let begin = first_of text tokens (gate_word naming gate) (semicolon ∷ unit) are in
        let sign = first_of text begin.rest semicolon unit begin.are_words in
        let next = says sign.rest sign.are_words in
        subst (IsOperand (Fits scope.names (action gate [] None b)))
        (sym (begin.joined ∙ ap (λ (ts : List Token). begin.first ∷ ts) sign.joined)) (record {
          thing = written.action (place_of begin.first) (spelled text begin.first) [] None next.thing;
          operand =
              λ us operands signs behind. acting (of_kind text (gate_word naming gate) begin.first begin.is_word)
              (of_kind text semicolon sign.first sign.is_word) (next.operand us operands signs behind);
          fitting = action_written begin.is_word.spelling_is tt tt next.fitting;
        })
    action_said scope gate [] (Some test) b tokens (inl none) means tests says are = cc
    action_said scope gate [] (Some test) b tokens (inr some) means tests says are = absurd (some refl)
    action_said scope gate (offer ∷ offers) test b tokens form means tests says are =
        let semicolon : Word = a_word SEMICOLON (codes ";") in
        let asked : List Variable = asked_variables (offer ∷ offers) in
        let unit : List Word = unit_words b (behaviour_words naming (asked ++ scope.names) b) in
        let predicate : List Word = predicate_words naming (asked ++ scope.names) test in
        let begin =
        first_of text tokens (gate_word naming gate) (offers_words naming scope.names (offer ∷ offers) ++ (predicate ++ semicolon ∷ unit))
        are in
        let parts =
        parts_of text begin.rest (offers_words naming scope.names (offer ∷ offers)) (predicate ++ semicolon ∷ unit) begin.are_words in
        let behind = parts_of text parts.right predicate (semicolon ∷ unit) parts.right_are in
        let sign = first_of text behind.right semicolon unit behind.right_are in
        let given = offers_of text naming well binary scope offer offers parts.left means parts.left_are in
        let premiss = predicate_says text naming well binary (behind_variables asked scope) test tests behind.left behind.left_are in
        let next = says sign.rest sign.are_words in
        let whole : tokens
        ≡ begin.first ∷ ((given.first_tokens ++ given.other_tokens) ++ (behind.left ++ (sign.first ∷ [] ++ sign.rest))) =
        begin.joined
        ∙ ap (λ (ts : List Token). begin.first ∷ ts)
        (parts.joined ∙ ap (λ (ts : List Token). ts ++ parts.right) given.joined
        ∙ ap (λ (ts : List Token). (given.first_tokens ++ given.other_tokens) ++ ts)
        (behind.joined ∙ ap (λ (ts : List Token). behind.left ++ ts) sign.joined)) in
        subst (IsOperand (Fits scope.names (action gate (offer ∷ offers) test b))) (sym whole) (record {
          thing =
              written.action (place_of begin.first) (spelled text begin.first)
              (given.first ∷ flat_map (λ group. group) given.others) premiss.thing next.thing;
          operand =
              λ us operands signs more.
              subst
              (λ (ts : List Token). AreOperands text (begin.first ∷ ts)
              (written.action (place_of begin.first) (spelled text begin.first)
              (given.first ∷ flat_map (λ group. group) given.others) premiss.thing next.thing ∷ operands) signs)
              (sym (action_joined given.first_tokens given.other_tokens behind.left (sign.first ∷ []) sign.rest us))
              (offering (of_kind text (gate_word naming gate) begin.first begin.is_word) given.is_first given.are_others premiss.is_one
              (of_kind text semicolon sign.first sign.is_word) (next.operand us operands signs more));
          fitting = action_written begin.is_word.spelling_is given.fitting premiss.fitting next.fitting;
        })

    inner_said : (names : List Variable) (b : Behaviour) (tokens : List Token)
        → ((ts : List Token) → AreWords text ts (unit_words b (behaviour_words naming names b)) → IsOperand (Fits names b) ts)
        → AreWords text tokens (behaviour_words naming names (inner_action b)) → IsOperand (Fits names (inner_action b)) tokens
    inner_said names b tokens says are =
        let word : Word = a_word I (codes "i") in
        let semicolon : Word = a_word SEMICOLON (codes ";") in
        let unit : List Word = unit_words b (behaviour_words naming names b) in
        let begin = first_of text tokens word (semicolon ∷ unit) are in
        let sign = first_of text begin.rest semicolon unit begin.are_words in
        let next = says sign.rest sign.are_words in
        subst (IsOperand (Fits names (inner_action b)))
        (sym (begin.joined ∙ ap (λ (ts : List Token). begin.first ∷ ts) sign.joined)) (record {
          thing = written.inner_action (place_of begin.first) next.thing;
          operand =
              λ us operands signs behind. inner_prefix (of_kind text word begin.first begin.is_word)
              (of_kind text semicolon sign.first sign.is_word) (next.operand us operands signs behind);
          fitting = inner_written next.fitting;
        })

    guard_said : (scope : PrintedScope) (test : Test) (b : Behaviour) (tokens : List Token) → TestMeans naming scope test
        → ((ts : List Token) → AreWords text ts (unit_words b (behaviour_words naming scope.names b))
        → IsOperand (Fits scope.names b) ts)
        → AreWords text tokens (behaviour_words naming scope.names (guard test b)) → IsOperand (Fits scope.names (guard test b)) tokens
    guard_said scope test b tokens means says are =
        let arrow : Word = a_word ARROW (codes "->") in
        let unit : List Word = unit_words b (behaviour_words naming scope.names b) in
        let parts = parts_of text tokens (test_words naming scope.names test) (arrow ∷ unit) are in
        let sign = first_of text parts.right arrow unit parts.right_are in
        let inside = test_says text naming well binary scope test means parts.left parts.left_are in
        subst (IsOperand (Fits scope.names (guard test b)))
        (sym (parts.joined ∙ ap (λ (ts : List Token). parts.left ++ ts) sign.joined))
        (go parts.left sign.first sign.rest inside.thing inside.is_one inside.fitting (of_kind text arrow sign.first sign.is_word)
        (says sign.rest sign.are_words))
      where
        go : (ts : List Token) (sign : Token) (rest : List Token) (premiss : WrittenPremiss)
            → Between LEFT_BRACKET RIGHT_BRACKET (IsPremiss text) ts premiss → IsTestWritten naming scope.names test premiss
            → IsOfKind ARROW sign → IsOperand (Fits scope.names b) rest → IsOperand (Fits scope.names (guard test b)) (ts ++ sign ∷ rest)
        go ts sign rest premiss (between {open_token = left} {close_token = right} {tokens = inner} begin is close) fit arrow next =
            record {
              thing = written.guard (place_of left) premiss next.thing;
              operand =
                  λ us operands signs behind.
                  subst (λ (vs : List Token). AreOperands text (left ∷ vs) (written.guard (place_of left) premiss next.thing ∷ operands)
                  signs)
                  (sym (guard_joined inner (right ∷ []) (sign ∷ []) rest us))
                  (guarding begin is close arrow (next.operand us operands signs behind));
              fitting = guard_written fit next.fitting;
            }

    -- ---- Word forms

    hide_said : (names : List Variable) (gate : ℕ) (gates : List ℕ) (b : Behaviour) (tokens : List Token)
        → Says text (behaviour_words naming names b) (IsBehaviourText text) (Fits names b)
        → AreWords text tokens (behaviour_words naming names (hide (gate ∷ gates) b))
        → IsFittingSentence (IsBehaviourText text) (Fits names (hide (gate ∷ gates) b)) tokens
    hide_said names gate gates b tokens says are =
        let word : Word = a_word HIDE (codes "hide") in
        let in_ : Word = a_word IN (codes "in") in
        let words : List Word = behaviour_words naming names b in
        let begin = first_of text tokens word (gates_words naming (gate ∷ gates) ++ in_ ∷ words) are in
        let parts = parts_of text begin.rest (gates_words naming (gate ∷ gates)) (in_ ∷ words) begin.are_words in
        let sign = first_of text parts.right in_ words parts.right_are in
        let given = gates_say text naming well binary gate gates parts.left parts.left_are in
        let inside = says sign.rest sign.are_words in
        subst (IsFittingSentence (IsBehaviourText text) (Fits names (hide (gate ∷ gates) b)))
        (sym (begin.joined ∙ ap (λ (ts : List Token). begin.first ∷ ts)
        (parts.joined ∙ ap (λ (ts : List Token). parts.left ++ ts) sign.joined))) (record {
          thing = written.hide (place_of begin.first) given.thing inside.thing;
          is_one =
              grouped_operands
              (hiding (of_kind text word begin.first begin.is_word) given.is_one (of_kind text in_ sign.first sign.is_word) inside.is_one)
              alone;
          fitting = hide_written given.fitting inside.fitting;
        })

    let_said : (scope : PrintedScope) (bound : Variable × Term) (bindings : List (Variable × Term)) (b : Behaviour) (tokens : List Token)
        → BehaviourMeans naming processes scope (let_be (bound ∷ bindings) b)
        → Says text (behaviour_words naming (let_variables (bound ∷ bindings) ++ scope.names) b) (IsBehaviourText text)
        (Fits (let_variables (bound ∷ bindings) ++ scope.names) b)
        → AreWords text tokens (behaviour_words naming scope.names (let_be (bound ∷ bindings) b))
        → IsFittingSentence (IsBehaviourText text) (Fits scope.names (let_be (bound ∷ bindings) b)) tokens
    let_said scope bound bindings b tokens means says are =
        let word : Word = a_word LET (codes "let") in
        let in_ : Word = a_word IN (codes "in") in
        let words : List Word = behaviour_words naming (let_variables (bound ∷ bindings) ++ scope.names) b in
        let listed : List Word = commas_words (map (binding_words naming scope.names) (bound ∷ bindings)) in
        let begin = first_of text tokens word (listed ++ in_ ∷ words) are in
        let parts = parts_of text begin.rest listed (in_ ∷ words) begin.are_words in
        let sign = first_of text parts.right in_ words parts.right_are in
        let given = bindings_say text naming well binary scope bound bindings means.0 parts.left parts.left_are in
        let inside = says sign.rest sign.are_words in
        subst (IsFittingSentence (IsBehaviourText text) (Fits scope.names (let_be (bound ∷ bindings) b)))
        (sym (begin.joined ∙ ap (λ (ts : List Token). begin.first ∷ ts)
        (parts.joined ∙ ap (λ (ts : List Token). parts.left ++ ts) sign.joined))) (record {
          thing = written.let_be (place_of begin.first) given.thing inside.thing;
          is_one =
              grouped_operands
              (letting (of_kind text word begin.first begin.is_word) given.is_one (of_kind text in_ sign.first sign.is_word) inside.is_one)
              alone;
          fitting = let_written given.fitting inside.fitting;
        })

    value_choice_said : (names : List Variable) (x : Variable) (b : Behaviour) (tokens : List Token)
        → Says text (behaviour_words naming (x ∷ names) b) (IsBehaviourText text) (Fits (x ∷ names) b)
        → AreWords text tokens (behaviour_words naming names (choose_value x b))
        → IsFittingSentence (IsBehaviourText text) (Fits names (choose_value x b)) tokens
    value_choice_said names x b tokens says are =
        let word : Word = a_word CHOICE (codes "choice") in
        let sign_ : Word = a_word CHOICE_SIGN (codes "[]") in
        let words : List Word = behaviour_words naming (x ∷ names) b in
        let begin = first_of text tokens word (declared_words naming x ++ sign_ ∷ words) are in
        let parts = parts_of text begin.rest (declared_words naming x) (sign_ ∷ words) begin.are_words in
        let sign = first_of text parts.right sign_ words parts.right_are in
        let given = declared_says text naming well binary x parts.left parts.left_are in
        let inside = says sign.rest sign.are_words in
        subst (IsFittingSentence (IsBehaviourText text) (Fits names (choose_value x b)))
        (sym (begin.joined ∙ ap (λ (ts : List Token). begin.first ∷ ts)
        (parts.joined ∙ ap (λ (ts : List Token). parts.left ++ ts) sign.joined))) (record {
          thing = written.choose_value (place_of begin.first) (given.thing ∷ []) inside.thing;
          is_one =
              grouped_operands
              (choosing_values (of_kind text word begin.first begin.is_word) (variables (last given.is_one))
              (of_kind text sign_ sign.first sign.is_word) inside.is_one)
              alone;
          fitting = value_choice_written given.fitting inside.fitting;
        })

    gate_choice_said : (names : List Variable) (gate g : ℕ) (gates : List ℕ) (b : Behaviour) (tokens : List Token)
        → Says text (behaviour_words naming names b) (IsBehaviourText text) (Fits names b)
        → AreWords text tokens (behaviour_words naming names (choose_gate gate (g ∷ gates) b))
        → IsFittingSentence (IsBehaviourText text) (Fits names (choose_gate gate (g ∷ gates) b)) tokens
    gate_choice_said names gate g gates b tokens says are =
        let word : Word = a_word CHOICE (codes "choice") in
        let sign_ : Word = a_word CHOICE_SIGN (codes "[]") in
        let words : List Word = behaviour_words naming names b in
        let declared : List Word = gate_choice_words naming gate (g ∷ gates) in
        let begin = first_of text tokens word (declared ++ sign_ ∷ words) are in
        let parts = parts_of text begin.rest declared (sign_ ∷ words) begin.are_words in
        let sign = first_of text parts.right sign_ words parts.right_are in
        let given = gate_choice_says text naming well binary gate g gates parts.left parts.left_are in
        let inside = says sign.rest sign.are_words in
        subst (IsFittingSentence (IsBehaviourText text) (Fits names (choose_gate gate (g ∷ gates) b)))
        (sym (begin.joined ∙ ap (λ (ts : List Token). begin.first ∷ ts)
        (parts.joined ∙ ap (λ (ts : List Token). parts.left ++ ts) sign.joined))) (record {
          thing = written.choose_gate (place_of begin.first) (given.thing ∷ []) inside.thing;
          is_one =
              grouped_operands
              (choosing_gates (of_kind text word begin.first begin.is_word) given.is_one
              (of_kind text sign_ sign.first sign.is_word) inside.is_one)
              alone;
          fitting = gate_choice_written given.fitting inside.fitting;
        })

    par_said : (names : List Variable) (gate g : ℕ) (gates : List ℕ) (meet : SynchronisationSet) (b : Behaviour) (tokens : List Token)
        → Says text (behaviour_words naming names b) (IsBehaviourText text) (Fits names b)
        → AreWords text tokens (behaviour_words naming names (par_gate gate (g ∷ gates) meet b))
        → IsFittingSentence (IsBehaviourText text) (Fits names (par_gate gate (g ∷ gates) meet b)) tokens
    par_said names gate g gates meet b tokens says are =
        let word : Word = a_word PAR (codes "par") in
        let words : List Word = behaviour_words naming names b in
        let declared : List Word = gate_choice_words naming gate (g ∷ gates) in
        let begin = first_of text tokens word (declared ++ (meet_words naming meet ++ words)) are in
        let parts = parts_of text begin.rest declared (meet_words naming meet ++ words) begin.are_words in
        let behind = parts_of text parts.right (meet_words naming meet) words parts.right_are in
        let given = gate_choice_says text naming well binary gate g gates parts.left parts.left_are in
        let sign = meet_says text naming well binary meet behind.left behind.left_are in
        let inside = says behind.right behind.right_are in
        subst (IsFittingSentence (IsBehaviourText text) (Fits names (par_gate gate (g ∷ gates) meet b)))
        (sym (begin.joined ∙ ap (λ (ts : List Token). begin.first ∷ ts)
        (parts.joined ∙ ap (λ (ts : List Token). parts.left ++ ts) behind.joined))) (record {
          thing = written.par_gate (place_of begin.first) (given.thing ∷ []) sign.thing.sign inside.thing;
          is_one =
              grouped_operands
              (parallel_over_gates (of_kind text word begin.first begin.is_word) given.is_one sign.is_one inside.is_one)
              alone;
          fitting = par_written given.fitting sign.fitting inside.fitting;
        })

    -- ---- Binary forms

    -- two units with the words of a sign between them
    record AreThree (b_fits c_fits : WrittenBehaviour → Type 0) (signs : List Word) (tokens : List Token) : Type 0 where
      left : List Token
      middle : List Token
      right : List Token
      whole : tokens ≡ left ++ (middle ++ right)
      one : IsOperand b_fits left
      middle_are : AreWords text middle signs
      other : IsOperand c_fits right

    three_of : (b_fits c_fits : WrittenBehaviour → Type 0) (lefts signs rights : List Word) (tokens : List Token)
        → ((ts : List Token) → AreWords text ts lefts → IsOperand b_fits ts)
        → ((ts : List Token) → AreWords text ts rights → IsOperand c_fits ts)
        → AreWords text tokens (lefts ++ (signs ++ rights)) → AreThree b_fits c_fits signs tokens
    three_of b_fits c_fits lefts signs rights tokens first second are =
        let parts = parts_of text tokens lefts (signs ++ rights) are in
        let behind = parts_of text parts.right signs rights parts.right_are in
        record {
          left = parts.left;
          middle = behind.left;
          right = behind.right;
          whole = parts.joined ∙ ap (λ (ts : List Token). parts.left ++ ts) behind.joined;
          one = first parts.left parts.left_are;
          middle_are = behind.left_are;
          other = second behind.right behind.right_are;
        }

    simple_sign : (fits b_fits c_fits : WrittenBehaviour → Type 0) (word : Word) (sign : Token → PlacedSign) (tokens : List Token)
        → ((token : Token) → IsOfKind word.kind token → IsSign text (token ∷ []) (sign token))
        → ((token : Token) (v w : WrittenBehaviour) → b_fits v → c_fits w → fits (joined_by_sign (sign token) v w))
        → AreThree b_fits c_fits (word ∷ []) tokens → IsFittingSentence (IsBehaviourText text) fits tokens
    simple_sign fits b_fits c_fits word sign tokens is_sign fit three =
        let one = one_of text three.middle word three.middle_are in
        subst (IsFittingSentence (IsBehaviourText text) fits)
        (sym (three.whole ∙ ap (λ (ts : List Token). three.left ++ (ts ++ three.right)) one.alone)) (record {
          thing = joined_by_sign (sign one.token) three.one.thing three.other.thing;
          is_one =
              binary_said b_fits c_fits (sign one.token) three.left (one.token ∷ []) three.right three.one
              (is_sign one.token (of_kind text word one.token one.is_word)) three.other;
          fitting = fit one.token three.one.thing three.other.thing three.one.fitting three.other.fitting;
        })

    parallel_said : (names : List Variable) (meet : SynchronisationSet) (b c : Behaviour) (tokens : List Token)
        → AreThree (Fits names b) (Fits names c) (meet_words naming meet) tokens
        → IsFittingSentence (IsBehaviourText text) (Fits names (parallel meet b c)) tokens
    parallel_said names meet b c tokens three =
        let sign = meet_says text naming well binary meet three.middle three.middle_are in
        subst (IsFittingSentence (IsBehaviourText text) (Fits names (parallel meet b c))) (sym three.whole) (record {
          thing = joined_by_sign sign.thing three.one.thing three.other.thing;
          is_one =
              binary_said (Fits names b) (Fits names c) sign.thing three.left three.middle three.right three.one (sign_parallel sign.is_one)
              three.other;
          fitting = parallel_written sign.fitting three.one.fitting three.other.fitting;
        })

    enable_said : (names xs : List Variable) (b c : Behaviour) (tokens : List Token)
        → AreThree (Fits names b) (Fits (xs ++ names) c) (enable_words naming xs) tokens
        → IsFittingSentence (IsBehaviourText text) (Fits names (enable b xs c)) tokens
    enable_said names xs b c tokens three =
        let sign = enable_says text naming well binary xs three.middle three.middle_are in
        subst (IsFittingSentence (IsBehaviourText text) (Fits names (enable b xs c))) (sym three.whole) (record {
          thing = joined_by_sign sign.thing three.one.thing three.other.thing;
          is_one =
              binary_said (Fits names b) (Fits (xs ++ names) c) sign.thing three.left three.middle three.right three.one sign.is_one
              three.other;
          fitting =
              subst
              (λ (s : written.WrittenSign). Fits names (enable b xs c)
              (written.binary sign.thing.place s three.one.thing three.other.thing))
              (sym sign.fitting.1) (enable_written three.one.fitting sign.fitting.2 three.other.fitting);
        })

    stop_said : (names : List Variable) (tokens : List Token) → AreWords text tokens (behaviour_words naming names stop)
        → IsOperand (Fits names stop) tokens
    stop_said names tokens are =
        let word : Word = a_word STOP (codes "stop") in
        let one = one_of text tokens word are in
        subst (IsOperand (Fits names stop)) (sym one.alone)
        (operand_atom (Fits names stop) (one.token ∷ []) (written.stop (place_of one.token))
        (stopping (of_kind text word one.token one.is_word)) stop_written)

    -- ---- All behaviours

    abbrev SaysSo : Behaviour → Type 0
    SaysSo b = (scope : PrintedScope) → HasTextForm b → BehaviourMeans naming processes scope b → (tokens : List Token)
        → AreWords text tokens (behaviour_words naming scope.names b) → SaidAs (stands_in_brackets b) (Fits scope.names b) tokens

    unit_of : (b : Behaviour) (scope : PrintedScope) → SaysSo b → HasTextForm b → BehaviourMeans naming processes scope b
        → (tokens : List Token) → AreWords text tokens (unit_words b (behaviour_words naming scope.names b))
        → IsOperand (Fits scope.names b) tokens
    unit_of b scope says form means =
        unit_said (stands_in_brackets b) (Fits scope.names b) (behaviour_words naming scope.names b) (says scope form means)

    whole_of : (b : Behaviour) (scope : PrintedScope) → SaysSo b → HasTextForm b → BehaviourMeans naming processes scope b
        → Says text (behaviour_words naming scope.names b) (IsBehaviourText text) (Fits scope.names b)
    whole_of b scope says form means tokens are =
        whole_said (stands_in_brackets b) (Fits scope.names b) tokens (says scope form means tokens are)

    said : (b : Behaviour) → SaysSo b
    said stop scope form means tokens are = stop_said scope.names tokens are
    said (exit_with results) scope form means tokens are = exit_said scope results tokens means are
    said (action gate offers test b) scope form means tokens are =
        action_said scope gate offers test b tokens form.0 means.1 means.3
        (unit_of b (behind_variables (asked_variables offers) scope) (said b) form.1 means.4) are
    said (inner_action b) scope form means tokens are =
        inner_said scope.names b tokens (unit_of b scope (said b) form means) are
    said (guard test b) scope form means tokens are =
        guard_said scope test b tokens means.0 (unit_of b scope (said b) form means.1) are
    said (choice b c) scope form means tokens are =
        simple_sign (Fits scope.names (choice b c)) (Fits scope.names b) (Fits scope.names c) (a_word CHOICE_SIGN (codes "[]"))
        (λ token. record { place = place_of token; sign = choice_sign }) tokens (λ token is. sign_choice is)
        (λ token v w first second. choice_written first second)
        (three_of (Fits scope.names b) (Fits scope.names c) (unit_words b (behaviour_words naming scope.names b))
        (a_word CHOICE_SIGN (codes "[]") ∷ []) (unit_words c (behaviour_words naming scope.names c)) tokens
        (unit_of b scope (said b) form.0 means.0) (unit_of c (behind_left b scope) (said c) form.1 means.1) are)
    said (parallel meet b c) scope form means tokens are =
        parallel_said scope.names meet b c tokens
        (three_of (Fits scope.names b) (Fits scope.names c) (unit_words b (behaviour_words naming scope.names b)) (meet_words naming meet)
        (unit_words c (behaviour_words naming scope.names c)) tokens (unit_of b scope (said b) form.0 means.1)
        (unit_of c (behind_left b scope) (said c) form.1 means.2) are)
    said (hide [] b) scope form means tokens are = absurd (form.0 refl)
    said (hide (gate ∷ gates) b) scope form means tokens are =
        hide_said scope.names gate gates b tokens
        (whole_of b (behind_gates naming (gate ∷ gates) scope) (said b) form.1 means.1) are
    said (enable b xs c) scope form means tokens are =
        enable_said scope.names xs b c tokens
        (three_of (Fits scope.names b) (Fits (xs ++ scope.names) c) (unit_words b (behaviour_words naming scope.names b))
        (enable_words naming xs) (unit_words c (behaviour_words naming (xs ++ scope.names) c)) tokens
        (unit_of b scope (said b) form.0 means.0) (unit_of c (behind_variables xs (behind_left b scope)) (said c) form.1 means.2) are)
    said (disable b c) scope form means tokens are =
        simple_sign (Fits scope.names (disable b c)) (Fits scope.names b) (Fits scope.names c) (a_word DISABLING (codes "[>"))
        (λ token. record { place = place_of token; sign = disabling }) tokens (λ token is. sign_disabling is)
        (λ token v w first second. disable_written first second)
        (three_of (Fits scope.names b) (Fits scope.names c) (unit_words b (behaviour_words naming scope.names b))
        (a_word DISABLING (codes "[>") ∷ []) (unit_words c (behaviour_words naming scope.names c)) tokens
        (unit_of b scope (said b) form.0 means.0) (unit_of c (behind_left b scope) (said c) form.1 means.1) are)
    said (let_be [] b) scope form means tokens are = absurd (form.0 refl)
    said (let_be (bound ∷ bindings) b) scope form means tokens are =
        let_said scope bound bindings b tokens means
        (whole_of b (behind_variables (let_variables (bound ∷ bindings)) scope) (said b) form.1 means.2) are
    said (choose_value x b) scope form means tokens are =
        value_choice_said scope.names x b tokens (whole_of b (behind_variables (x ∷ []) scope) (said b) form means.1) are
    said (choose_gate gate [] b) scope form means tokens are = absurd (form.0 refl)
    said (choose_gate gate (g ∷ gates) b) scope form means tokens are =
        gate_choice_said scope.names gate g gates b tokens
        (whole_of b (behind_gates naming (gate ∷ []) scope) (said b) form.1 means.2) are
    said (par_gate gate [] meet b) scope form means tokens are = absurd (form.0 refl)
    said (par_gate gate (g ∷ gates) meet b) scope form means tokens are =
        par_said scope.names gate g gates meet b tokens
        (whole_of b (behind_gates naming (gate ∷ []) scope) (said b) form.1 means.3) are
    said (call number gates values) scope form means tokens are = call_said scope number gates values tokens means are
    said (relabel pairs b) scope form means tokens are = absurd means

pub whole_of_words : (text : List ℕ) (naming : Naming) → IsWellFormedSignature naming.signature → HasBinaryInfixes naming.signature
    → (processes : List Process) (b : Behaviour) (scope : PrintedScope) → HasTextForm b → BehaviourMeans naming processes scope b
    → Says text (behaviour_words naming scope.names b) (IsBehaviourText text) (IsBehaviourWritten naming scope.names b)
whole_of_words text naming well binary processes b scope form means =
    whole_of text naming well binary processes b scope (said text naming well binary processes b) form means

pub behaviour_words_are_sentences : BehaviourWordsAreSentences
behaviour_words_are_sentences text naming processes scope b tokens well binary form means are =
    whole_of_words text naming well binary processes b scope form means tokens are
