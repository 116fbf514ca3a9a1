-- The phrase of each ground term stands in the text as what the term is written as.
use Rattle.std.proofs.Common.{◌≡◌, ℕ, Bool, true, false, not, List, [], ◌∷◌, ◌++◌, map, length, refl, sym, subst, arith, codes, Option, Some}
use Rattle.std.specs.Prelude.{slice_get, if◌then◌else◌}
use Rattle.lotos_base.specs.Signature.{Signature, Sort, Operation, Form, prefix_form, infix_form, IsOperation, IsWellFormedSignature}
use Rattle.lotos_base.specs.Equation.{Variable}
use Rattle.lotos_base.specs.Twins.{HasTwin, has_twin}
use Rattle.lotos_base.specs.Sorting.{IsGround, AreGround, HasSort, HaveSorts}
use Rattle.lotos_base.specs.Term.{Term, Terms, variable, node, no_terms, term_then}
use Rattle.lotos_base.proofs.SignatureLemmas.{Decides-has_twin}
use Rattle.std.proofs.lemmas.Bool.Decides.{not_from_Decides}
use Rattle.lotos_base.specs.WrittenTerm.{PlacedName, WrittenTerm, no_written, written_then, written_terms}
use Rattle.lotos_base.proofs.Members.{member_at}
use Rattle.lotos_lexer.specs.declared.tokens.Token.{Token}
use Rattle.lotos_lexer.specs.declared.kinds.TheConstants.{LEFT_PARENTHESIS, RIGHT_PARENTHESIS}
use Rattle.syntax_trees.specs.LeftGrouping.{only, at_last}
use Rattle.lotos_rows.specs.Words.{Between, between}
use Rattle.lotos_rows.specs.Names.{IsOperationName}
use Rattle.lotos_rows.specs.Terms.{applied, infix_term, IsTerm, grouped_factors, one_factor, more_factors, IsFactor, without_sort, IsBase, without_arguments, with_arguments, AreTerms, one_term, more_terms}
use Rattle.session_histories.specs.HandedOn.{spaced, round, bracketed, commas, sort_name, sort_text, phrase_text, operand_text, arguments_text, prefix_phrase, operator_text, between_text, infix_phrase, application_phrase, node_phrase, phrase_of, phrases_of}
use Rattle.session_laws.specs.WrittenAs.{IsWrittenAs, AreWrittenAs}
use Rattle.session_laws.specs.TextNames.{IsOperationSpelling, HasTextNames}
use Rattle.session_laws.proofs.CutPieces.{IsCut, cut_joined}
use Rattle.session_laws.proofs.PartsOfText.{Stands, StandsAnywhere, first_part, second_part, apart, name_stands, behind_blank, before_blank, round_stands, comma_token, comma_cut, comma_is}
use Rattle.session_laws.proofs.PrintedTerms.{IsUnmarked, unmarked_is, OneOf, PhraseStands, phrase_term, round_base, operand_stands, marked_stands, alone_stands, stands_as}

-- two arguments
has_two : (signature : Signature) (ts : Terms) (sorts : List ℕ) → HaveSorts signature ts sorts → length sorts ≡ 2
    → (t : Term) × (u : Term) × (ts ≡ term_then t (term_then u no_terms))
has_two signature no_terms [] sorted two = absurd (omega arith)
has_two signature no_terms (s ∷ ss) sorted two = absurd sorted
has_two signature (term_then t ts) [] sorted two = absurd sorted
has_two signature (term_then t no_terms) (s ∷ []) sorted two = absurd (omega arith)
has_two signature (term_then t no_terms) (s ∷ (r ∷ ss)) sorted two = absurd sorted.1
has_two signature (term_then t (term_then u us)) (s ∷ []) sorted two = absurd sorted.1
has_two signature (term_then t (term_then u no_terms)) (s ∷ (r ∷ ss)) sorted two = (t, u, refl)
has_two signature (term_then t (term_then u (term_then v vs))) (s ∷ (r ∷ [])) sorted two = absurd sorted.1.1
has_two signature (term_then t (term_then u (term_then v vs))) (s ∷ (r ∷ (q ∷ ss))) sorted two = absurd (omega arith)

-- the sort behind an operation, given whether it has a twin
abbrev of_shown : Signature → Operation → Bool → List ℕ
of_shown signature operation twin = if twin then codes " of " ++ sort_text signature operation.result else []

module _ (number : ℕ) (text : List ℕ) (signature : Signature) (well : IsWellFormedSignature signature) (spelled : HasTextNames signature)
    (names : List Variable) where
  -- the phrases of the terms stand anywhere
  abbrev pub AllStand : Terms → Type 0
  AllStand no_terms = Unit {0}
  AllStand (term_then t ts) = PhraseStands number text signature t (phrase_of signature names t) × AllStand ts

  -- ---- Lists between commas

  abbrev pub texts_of : Terms → List (List ℕ)
  texts_of ts = map phrase_text (phrases_of signature names ts)

  abbrev pub ListStands : Term → Terms → Type 0
  ListStands t ts =
      StandsAnywhere number text (commas (texts_of (term_then t ts))) (AreTerms text)
      (λ (ws : List WrittenTerm). AreWrittenAs signature [] (term_then t ts) (written_terms ws))

  one_listed : (t : Term) → PhraseStands number text signature t (phrase_of signature names t)
      → StandsAnywhere number text (phrase_of signature names t).text (AreTerms text)
      (λ (ws : List WrittenTerm). AreWrittenAs signature [] (term_then t no_terms) (written_terms ws))
  one_listed t stands before rest there apart_rest = record {
    tokens = part.tokens;
    thing = part.thing ∷ [];
    is_cut = part.is_cut;
    is_one = one_term part.is_one;
    fitting = (part.fitting, tt);
  }
    where
      part : Stands number before (phrase_of signature names t).text rest (IsTerm text) (IsWrittenAs signature [] t)
      part = phrase_term number text signature t (phrase_of signature names t) stands before rest there apart_rest

  more_listed : (t u : Term) (us : Terms) → PhraseStands number text signature t (phrase_of signature names t) → ListStands u us
      → ListStands t (term_then u us)
  more_listed t u us stands others before rest there apart_rest = record {
    tokens = part.tokens ++ (comma_token number (before ++ first) ∷ behind.tokens);
    thing = part.thing ∷ behind.thing;
    is_cut =
        cut_joined number before first (codes ", " ++ listed) rest part.tokens (comma_token number (before ++ first) ∷ behind.tokens)
        part.is_cut
        (cut_joined number (before ++ first) (codes ", ") listed rest (comma_token number (before ++ first) ∷ []) behind.tokens
        (comma_cut number (before ++ first) (listed ++ rest)) behind.is_cut);
    is_one = more_terms part.is_one (comma_is number (before ++ first)) behind.is_one;
    fitting = (part.fitting, behind.fitting);
  }
    where
      first : List ℕ
      first = (phrase_of signature names t).text

      listed : List ℕ
      listed = commas (texts_of (term_then u us))

      part : Stands number before first ((codes ", " ++ listed) ++ rest) (IsTerm text) (IsWrittenAs signature [] t)
      part =
          phrase_term number text signature t (phrase_of signature names t) stands before ((codes ", " ++ listed) ++ rest)
          (first_part text before first (codes ", " ++ listed) rest there) (apart 44 ((codes " " ++ listed) ++ rest) refl refl)

      behind : Stands number ((before ++ first) ++ codes ", ") listed rest (AreTerms text)
          (λ (ws : List WrittenTerm). AreWrittenAs signature [] (term_then u us) (written_terms ws))
      behind =
          others ((before ++ first) ++ codes ", ") rest
          (second_part text (before ++ first) (codes ", ") listed rest (second_part text before first (codes ", " ++ listed) rest there))
          apart_rest

  pub list_stands : (t : Term) (ts : Terms) → AllStand (term_then t ts) → ListStands t ts
  list_stands t no_terms all =
      alone_stands number text signature (phrase_of signature names t).text [] (AreTerms text)
      (λ (ws : List WrittenTerm). AreWrittenAs signature [] (term_then t no_terms) (written_terms ws)) refl (one_listed t all.0)
  list_stands t (term_then u us) all = more_listed t u us all.0 (list_stands u us all.1)

  -- ---- Operations before their arguments

  applied_alone : (operation : Operation) → operation.form ≡ prefix_form → IsOperationSpelling operation.name
      → StandsAnywhere number text operation.name (IsBase text) (IsUnmarked signature [] operation no_terms)
  applied_alone operation form spelling before rest there apart_rest = record {
    tokens = part.tokens;
    thing = applied part.thing [];
    is_cut = part.is_cut;
    is_one = without_arguments part.is_one;
    fitting = record {
      head = record { place = part.thing.place; name = part.thing.name; form = prefix_form; sorts = [] };
      arguments = no_written;
      parts = refl;
      named = part.fitting;
      formed = sym form;
      bare = refl;
      each = tt;
    };
  }
    where
      part : Stands number before operation.name rest (IsOperationName text) (λ (placed : PlacedName). placed.name ≡ operation.name)
      part = name_stands number text operation.name spelling before rest there apart_rest

  applied_joined : (operation : Operation) (t : Term) (ts : Terms) (before rest bytes : List ℕ) → operation.form ≡ prefix_form
      → Stands number before operation.name (bytes ++ rest) (IsOperationName text) (λ (placed : PlacedName). placed.name ≡ operation.name)
      → (us : List Token) (ws : List WrittenTerm) → IsCut number (before ++ operation.name) bytes rest us
      → Between LEFT_PARENTHESIS RIGHT_PARENTHESIS (AreTerms text) us ws
      → AreWrittenAs signature [] (term_then t ts) (written_terms ws)
      → Stands number before (operation.name ++ bytes) rest (IsBase text) (IsUnmarked signature [] operation (term_then t ts))
  applied_joined operation t ts before rest bytes form part us ws cut (between left terms right) each = record {
    tokens = part.tokens ++ us;
    thing = applied part.thing ws;
    is_cut = cut_joined number before operation.name bytes rest part.tokens us part.is_cut cut;
    is_one = with_arguments part.is_one left terms right;
    fitting = record {
      head = record { place = part.thing.place; name = part.thing.name; form = prefix_form; sorts = [] };
      arguments = written_terms ws;
      parts = refl;
      named = part.fitting;
      formed = sym form;
      bare = refl;
      each = each;
    };
  }

  applied_stands : (operation : Operation) (ts : Terms) → operation.form ≡ prefix_form → IsOperationSpelling operation.name
      → AllStand ts
      → StandsAnywhere number text (operation.name ++ arguments_text (phrases_of signature names ts)) (IsBase text)
      (IsUnmarked signature [] operation ts)
  applied_stands operation no_terms form spelling all before rest there apart_rest =
      alone_stands number text signature operation.name [] (IsBase text) (IsUnmarked signature [] operation no_terms) refl
      (applied_alone operation form spelling) before rest there apart_rest
  applied_stands operation (term_then t ts) form spelling all before rest there apart_rest =
      applied_joined operation t ts before rest bytes form part arguments.tokens arguments.thing arguments.is_cut arguments.is_one
      arguments.fitting
    where
      listed : List ℕ
      listed = commas (texts_of (term_then t ts))

      bytes : List ℕ
      bytes = round listed

      part : Stands number before operation.name (bytes ++ rest) (IsOperationName text)
          (λ (placed : PlacedName). placed.name ≡ operation.name)
      part =
          name_stands number text operation.name spelling before (bytes ++ rest) (first_part text before operation.name bytes rest there)
          (apart 40 ((spaced 42 listed ++ codes ")") ++ rest) refl refl)

      arguments : Stands number (before ++ operation.name) bytes rest (Between LEFT_PARENTHESIS RIGHT_PARENTHESIS (AreTerms text))
          (λ (ws : List WrittenTerm). AreWrittenAs signature [] (term_then t ts) (written_terms ws))
      arguments =
          round_stands number text listed (AreTerms text)
          (λ (ws : List WrittenTerm). AreWrittenAs signature [] (term_then t ts) (written_terms ws)) (list_stands t ts all)
          (before ++ operation.name) rest (second_part text before operation.name bytes rest there)

  -- ---- Operations between their arguments

  operator_stands : (name : List ℕ) → IsOperationSpelling name → (before rest : List ℕ) → text ≡ before ++ (operator_text name ++ rest)
      → Stands number before (operator_text name) rest (IsOperationName text) (λ (placed : PlacedName). placed.name ≡ name)
  operator_stands name spelling before rest there =
      behind_blank number before (name ++ codes " ") rest (IsOperationName text) (λ (placed : PlacedName). placed.name ≡ name)
      (before_blank number (before ++ codes " ") name rest (IsOperationName text) (λ (placed : PlacedName). placed.name ≡ name)
      (name_stands number text name spelling (before ++ codes " ") (32 ∷ rest)
      (first_part text (before ++ codes " ") name (codes " ") rest (second_part text before (codes " ") (name ++ codes " ") rest there))
      (apart 32 rest refl refl)))

  between_stands : (operation : Operation) (t u : Term) (left right : List ℕ) → operation.form ≡ infix_form
      → IsOperationSpelling operation.name → StandsAnywhere number text left (IsFactor text) (IsWrittenAs signature [] t)
      → StandsAnywhere number text right (IsFactor text) (IsWrittenAs signature [] u)
      → StandsAnywhere number text ((left ++ operator_text operation.name) ++ right) (IsTerm text)
      (IsUnmarked signature [] operation (term_then t (term_then u no_terms)))
  between_stands operation t u left right form spelling first second before rest there apart_rest = record {
    tokens = (l.tokens ++ o.tokens) ++ r.tokens;
    thing = infix_term o.thing l.thing r.thing;
    is_cut =
        cut_joined number before (left ++ operator) right rest (l.tokens ++ o.tokens) r.tokens
        (cut_joined number before left operator (right ++ rest) l.tokens o.tokens l.is_cut o.is_cut) r.is_cut;
    is_one =
        grouped_factors (more_factors l.is_one o.is_one (one_factor r.is_one))
        (at_last {operands = l.thing ∷ []} {signs = []} {left = l.thing} {last = r.thing} {sign = o.thing} only);
    fitting = record {
      head = record { place = o.thing.place; name = o.thing.name; form = infix_form; sorts = [] };
      arguments = written_then l.thing (written_then r.thing no_written);
      parts = refl;
      named = o.fitting;
      formed = sym form;
      bare = refl;
      each = (l.fitting, (r.fitting, tt));
    };
  }
    where
      operator : List ℕ
      operator = operator_text operation.name

      at_first : text ≡ before ++ ((left ++ operator) ++ (right ++ rest))
      at_first = first_part text before (left ++ operator) right rest there

      l : Stands number before left (operator ++ (right ++ rest)) (IsFactor text) (IsWrittenAs signature [] t)
      l =
          first before (operator ++ (right ++ rest)) (first_part text before left operator (right ++ rest) at_first)
          (apart 32 ((operation.name ++ codes " ") ++ (right ++ rest)) refl refl)

      o : Stands number (before ++ left) operator (right ++ rest) (IsOperationName text)
          (λ (placed : PlacedName). placed.name ≡ operation.name)
      o = operator_stands operation.name spelling (before ++ left) (right ++ rest)
          (second_part text before left operator (right ++ rest) at_first)

      r : Stands number (before ++ (left ++ operator)) right rest (IsFactor text) (IsWrittenAs signature [] u)
      r = second (before ++ (left ++ operator)) rest (second_part text before (left ++ operator) right rest there) apart_rest

  -- ---- The sort behind an operation

  module _ (f : ℕ) (operation : Operation) (is_there : IsOperation signature f operation) where
    twin_of : has_twin signature operation ≡ true → HasTwin signature operation
    twin_of h = (Decides-has_twin signature operation).0 h

    no_twin : has_twin signature operation ≡ false → ¬ HasTwin signature operation
    no_twin h = not_from_Decides (has_twin signature operation) (Decides-has_twin signature operation) h

    -- a base with the sort behind it
    sorted_stands : (ts : Terms) (bytes : List ℕ) → has_twin signature operation ≡ true
        → StandsAnywhere number text bytes (IsBase text) (IsUnmarked signature [] operation ts)
        → StandsAnywhere number text (bytes ++ of_shown signature operation true) (IsFactor text) (IsWrittenAs signature [] (node f ts))
    sorted_stands ts bytes twin stands =
        subst (λ (o : Option Sort). StandsAnywhere number text (bytes ++ (codes " of " ++ sort_name o)) (IsFactor text)
        (IsWrittenAs signature [] (node f ts)))
        (sym sort.1)
        (marked_stands number text signature f operation sort.0 ts bytes is_there (twin_of twin) sort.1
        (spelled.sorts operation.result sort.0 sort.1) stands)
      where
        sort : (s : Sort) × (slice_get signature.sorts operation.result ≡ Some s)
        sort = member_at signature.sorts operation.result (well.results f operation is_there)

    -- an operation before its arguments
    prefix_stands : (ts : Terms) → operation.form ≡ prefix_form → AllStand ts
        → PhraseStands number text signature (node f ts) (prefix_phrase signature operation (phrases_of signature names ts))
    prefix_stands ts form all = by (has_twin signature operation) refl
      where
        bytes : List ℕ
        bytes = operation.name ++ arguments_text (phrases_of signature names ts)

        base : StandsAnywhere number text bytes (IsBase text) (IsUnmarked signature [] operation ts)
        base = applied_stands operation ts form (spelled.operations f operation is_there) all

        by : (twin : Bool) → has_twin signature operation ≡ twin
            → StandsAnywhere number text (bytes ++ of_shown signature operation twin) (IsFactor text) (IsWrittenAs signature [] (node f ts))
        by true is = sorted_stands ts bytes is base
        by false is =
            alone_stands number text signature bytes [] (IsFactor text) (IsWrittenAs signature [] (node f ts)) refl
            (stands_as number text signature bytes (IsBase text) (IsFactor text) (IsUnmarked signature [] operation ts)
            (IsWrittenAs signature [] (node f ts)) (λ tokens w base_is. without_sort base_is)
            (λ w un. unmarked_is signature [] f operation ts w is_there (no_twin is) un) base)

    -- an operation between its arguments
    infix_stands : (t u : Term) → operation.form ≡ infix_form → AllStand (term_then t (term_then u no_terms))
        → PhraseStands number text signature (node f (term_then t (term_then u no_terms)))
        (infix_phrase signature operation (phrase_of signature names t) (phrase_of signature names u))
    infix_stands t u form all = by (has_twin signature operation) refl
      where
        ts : Terms
        ts = term_then t (term_then u no_terms)

        bytes : List ℕ
        bytes = between_text operation (phrase_of signature names t) (phrase_of signature names u)

        term : StandsAnywhere number text bytes (IsTerm text) (IsUnmarked signature [] operation ts)
        term =
            between_stands operation t u (operand_text (phrase_of signature names t)) (operand_text (phrase_of signature names u)) form
            (spelled.operations f operation is_there)
            (operand_stands number text signature t (phrase_of signature names t).text (phrase_of signature names t).is_infix all.0)
            (operand_stands number text signature u (phrase_of signature names u).text (phrase_of signature names u).is_infix all.1.0)

        by : (twin : Bool) → has_twin signature operation ≡ twin
            → StandsAnywhere number text (bracketed twin bytes ++ of_shown signature operation twin) (OneOf text (not twin))
            (IsWrittenAs signature [] (node f ts))
        by true is = sorted_stands ts (round bytes) is (round_base number text signature bytes (IsUnmarked signature [] operation ts) term)
        by false is =
            alone_stands number text signature bytes [] (IsTerm text) (IsWrittenAs signature [] (node f ts)) refl
            (stands_as number text signature bytes (IsTerm text) (IsTerm text) (IsUnmarked signature [] operation ts)
            (IsWrittenAs signature [] (node f ts)) (λ tokens w is_term. is_term)
            (λ w un. unmarked_is signature [] f operation ts w is_there (no_twin is) un) term)

    application_stands : (ts : Terms) → HaveSorts signature ts operation.arguments → AllStand ts
        → PhraseStands number text signature (node f ts)
        (application_phrase signature operation operation.form (phrases_of signature names ts))
    application_stands ts sorted all = by operation.form refl
      where
        by : (form : Form) → operation.form ≡ form
            → PhraseStands number text signature (node f ts) (application_phrase signature operation form (phrases_of signature names ts))
        by prefix_form form = prefix_stands ts form all
        by infix_form form =
            let two = has_two signature ts operation.arguments sorted (spelled.infix_operations f operation is_there form) in
            subst (λ (xs : Terms). AllStand xs
            → PhraseStands number text signature (node f xs) (application_phrase signature operation infix_form
            (phrases_of signature names xs)))
            (sym two.2) (infix_stands two.0 two.1 form) all

  -- ---- All terms

  mutual
    pub term_stands : (t : Term) (sort : ℕ) → HasSort signature t sort → IsGround t
        → PhraseStands number text signature t (phrase_of signature names t)
    term_stands (variable n s) sort sorted ground = absurd ground
    term_stands (node f ts) sort sorted ground =
        subst (λ (o : Option Operation). PhraseStands number text signature (node f ts)
        (node_phrase signature o (phrases_of signature names ts)))
        (sym sorted.1)
        (application_stands f sorted.0 sorted.1 ts sorted.3 (terms_stand ts sorted.0.arguments sorted.3 ground))

    pub terms_stand : (ts : Terms) (sorts : List ℕ) → HaveSorts signature ts sorts → AreGround ts → AllStand ts
    terms_stand no_terms sorts sorted ground = tt
    terms_stand (term_then t ts) [] sorted ground = absurd sorted
    terms_stand (term_then t ts) (s ∷ ss) sorted ground = (term_stands t s sorted.0 ground.0, terms_stand ts ss sorted.1 ground.1)
