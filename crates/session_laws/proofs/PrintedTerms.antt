-- The text of a ground term is cut into tokens, which are what the term is written as.
use Rattle.std.proofs.Common.{◌≡◌, ℕ, Bool, true, false, List, [], ◌∷◌, ◌++◌, refl, ap, sym, ◌∙◌, subst, codes, append-nil, Some}
use Rattle.std.specs.Prelude.{slice_get}
use Rattle.lotos_base.specs.Signature.{Signature, Sort, Operation, IsOperation}
use Rattle.lotos_base.specs.Twins.{HasTwin}
use Rattle.lotos_base.specs.Equation.{Variable}
use Rattle.lotos_base.specs.Term.{Term, Terms, node}
use Rattle.lotos_base.specs.WrittenTerm.{PlacedName, WrittenHead, WrittenTerm, WrittenTerms, written}
use Rattle.lotos_lexer.specs.declared.tokens.Token.{Token}
use Rattle.lotos_lexer.specs.declared.kinds.TheConstants.{LEFT_PARENTHESIS, RIGHT_PARENTHESIS}
use Rattle.syntax_trees.specs.LeftGrouping.{only}
use Rattle.lotos_rows.specs.Words.{Between, between}
use Rattle.lotos_rows.specs.Terms.{of_sort, IsTerm, grouped_factors, one_factor, IsFactor, without_sort, with_sort, IsBase, bracketed}
use Rattle.session_histories.specs.HandedOn.{round, Phrase, operand_text}
use Rattle.session_laws.specs.WrittenAs.{IsMarkOf, no_mark, mark, IsHeadOf, IsWrittenAs, AreWrittenAs}
use Rattle.session_laws.specs.TextNames.{IsWordSpelling}
use Rattle.session_laws.proofs.CutPieces.{IsCut, cut_joined}
use Rattle.session_laws.proofs.PartsOfText.{Stands, StandsAnywhere, first_part, second_part, apart, IsSortBehind, sort_behind, sort_stands, round_stands}

-- what an operation with its arguments is written as, but for the sort that stands behind it
pub record IsUnmarked (signature : Signature) (names : List Variable) (operation : Operation) (ts : Terms) (w : WrittenTerm) : Type 0 where
  pub head : WrittenHead
  pub arguments : WrittenTerms
  pub parts : w ≡ written head arguments
  pub named : head.name ≡ operation.name
  pub formed : head.form ≡ operation.form
  pub bare : head.sorts ≡ []
  pub each : AreWrittenAs signature names ts arguments

-- no sort stands behind an operation that has no twin
pub unmarked_is : (signature : Signature) (names : List Variable) (f : ℕ) (operation : Operation) (ts : Terms) (w : WrittenTerm)
    → IsOperation signature f operation
    → ¬ HasTwin signature operation → IsUnmarked signature names operation ts w → IsWrittenAs signature names (node f ts) w
unmarked_is signature names f operation ts w is_there alone un =
    subst (IsWrittenAs signature names (node f ts)) (sym un.parts) (operation, is_there, is_head, un.each)
  where
    is_head : IsHeadOf signature operation un.head
    is_head = record {
      named = un.named;
      formed = un.formed;
      marked = subst (IsMarkOf signature operation) (sym un.bare) (no_mark alone);
    }

-- the sort of the result stands behind one that has
pub marked_is : (signature : Signature) (names : List Variable) (f : ℕ) (operation : Operation) (sort : Sort) (ts : Terms) (w : WrittenTerm)
    (placed : PlacedName)
    → IsOperation signature f operation → HasTwin signature operation → slice_get signature.sorts operation.result ≡ Some sort
    → placed.name ≡ sort.name → IsUnmarked signature names operation ts w → IsWrittenAs signature names (node f ts) (of_sort placed w)
marked_is signature names f operation sort ts w placed is_there twin found is_named un =
    subst (λ (v : WrittenTerm). IsWrittenAs signature names (node f ts) (of_sort placed v)) (sym un.parts)
    (operation, is_there, is_head, un.each)
  where
    head : WrittenHead
    head = record { place = un.head.place; name = un.head.name; form = un.head.form; sorts = un.head.sorts ++ placed ∷ [] }

    is_head : IsHeadOf signature operation head
    is_head = record {
      named = un.named;
      formed = un.formed;
      marked = subst (λ (sorts : List PlacedName). IsMarkOf signature operation (sorts ++ placed ∷ [])) (sym un.bare)
          (mark twin found is_named);
    }

-- ---- Phrases

-- what the tokens of a phrase are: a factor, or two factors with an operation between them
abbrev pub OneOf : List ℕ → Bool → List Token → WrittenTerm → Type 0
OneOf text true = IsTerm text
OneOf text false = IsFactor text

module _ (number : ℕ) (text : List ℕ) (signature : Signature) where
  -- the phrase of a term stands anywhere
  abbrev pub PhraseStands : Term → Phrase → Type 0
  PhraseStands t phrase = StandsAnywhere number text phrase.text (OneOf text phrase.is_infix) (IsWrittenAs signature [] t)

  factor_term : (tokens : List Token) (w : WrittenTerm) → IsFactor text tokens w → IsTerm text tokens w
  factor_term tokens w factor = grouped_factors (one_factor factor) only

  one_is_term : (is_infix : Bool) (tokens : List Token) (w : WrittenTerm) → OneOf text is_infix tokens w → IsTerm text tokens w
  one_is_term true tokens w one = one
  one_is_term false tokens w one = factor_term tokens w one

  -- a phrase by itself is a term
  pub phrase_term : (t : Term) (phrase : Phrase) → PhraseStands t phrase
      → StandsAnywhere number text phrase.text (IsTerm text) (IsWrittenAs signature [] t)
  phrase_term t phrase stands before rest there apart_rest = record {
    tokens = part.tokens;
    thing = part.thing;
    is_cut = part.is_cut;
    is_one = one_is_term phrase.is_infix part.tokens part.thing part.is_one;
    fitting = part.fitting;
  }
    where
      part : Stands number before phrase.text rest (OneOf text phrase.is_infix) (IsWrittenAs signature [] t)
      part = stands before rest there apart_rest

  between_base : (tokens : List Token) (w : WrittenTerm) → Between LEFT_PARENTHESIS RIGHT_PARENTHESIS (IsTerm text) tokens w
      → IsBase text tokens w
  between_base tokens w (between left term right) = bracketed left term right

  -- a phrase in brackets is a base
  pub round_base : (bytes : List ℕ) (fits : WrittenTerm → Type 0) → StandsAnywhere number text bytes (IsTerm text) fits
      → StandsAnywhere number text (round bytes) (IsBase text) fits
  round_base bytes fits stands before rest there apart_rest = record {
    tokens = part.tokens;
    thing = part.thing;
    is_cut = part.is_cut;
    is_one = between_base part.tokens part.thing part.is_one;
    fitting = part.fitting;
  }
    where
      part : Stands number before (round bytes) rest (Between LEFT_PARENTHESIS RIGHT_PARENTHESIS (IsTerm text)) fits
      part = round_stands number text bytes (IsTerm text) fits stands before rest there

  base_factor : (bytes : List ℕ) (fits : WrittenTerm → Type 0) → StandsAnywhere number text bytes (IsBase text) fits
      → StandsAnywhere number text bytes (IsFactor text) fits
  base_factor bytes fits stands before rest there apart_rest = record {
    tokens = part.tokens;
    thing = part.thing;
    is_cut = part.is_cut;
    is_one = without_sort part.is_one;
    fitting = part.fitting;
  }
    where
      part : Stands number before bytes rest (IsBase text) fits
      part = stands before rest there apart_rest

  -- an operand is a factor
  pub operand_stands : (t : Term) (bytes : List ℕ) (is_infix : Bool)
      → StandsAnywhere number text bytes (OneOf text is_infix) (IsWrittenAs signature [] t)
      → StandsAnywhere number text (operand_text (record { text = bytes; is_infix = is_infix })) (IsFactor text)
      (IsWrittenAs signature [] t)
  operand_stands t bytes true stands =
      base_factor (round bytes) (IsWrittenAs signature [] t) (round_base bytes (IsWrittenAs signature [] t) stands)
  operand_stands t bytes false stands = stands

  -- ---- The sort behind an operation

  -- an operation with its arguments stands, and behind it its sort if it has a twin
  pub marked_stands : (f : ℕ) (operation : Operation) (sort : Sort) (ts : Terms) (bytes : List ℕ) → IsOperation signature f operation
      → HasTwin signature operation → slice_get signature.sorts operation.result ≡ Some sort → IsWordSpelling sort.name
      → StandsAnywhere number text bytes (IsBase text) (IsUnmarked signature [] operation ts)
      → StandsAnywhere number text (bytes ++ (codes " of " ++ sort.name)) (IsFactor text) (IsWrittenAs signature [] (node f ts))
  marked_stands f operation sort ts bytes is_there twin found spelling stands before rest there apart_rest =
      joined part.tokens part.thing part.is_cut part.is_one part.fitting behind.tokens behind.thing behind.is_cut behind.is_one
      behind.fitting
    where
      part : Stands number before bytes ((codes " of " ++ sort.name) ++ rest) (IsBase text) (IsUnmarked signature [] operation ts)
      part =
          stands before ((codes " of " ++ sort.name) ++ rest) (first_part text before bytes (codes " of " ++ sort.name) rest there)
          (apart 32 ((codes "of " ++ sort.name) ++ rest) refl refl)

      behind : Stands number (before ++ bytes) (codes " of " ++ sort.name) rest (IsSortBehind text)
          (λ (placed : PlacedName). placed.name ≡ sort.name)
      behind =
          sort_stands number text sort.name spelling (before ++ bytes) rest
          (second_part text before bytes (codes " of " ++ sort.name) rest there) apart_rest

      joined : (ts_tokens : List Token) (w : WrittenTerm) → IsCut number before bytes ((codes " of " ++ sort.name) ++ rest) ts_tokens
          → IsBase text ts_tokens w → IsUnmarked signature [] operation ts w → (us : List Token) (placed : PlacedName)
          → IsCut number (before ++ bytes) (codes " of " ++ sort.name) rest us → IsSortBehind text us placed → placed.name ≡ sort.name
          → Stands number before (bytes ++ (codes " of " ++ sort.name)) rest (IsFactor text) (IsWrittenAs signature [] (node f ts))
      joined ts_tokens w cut base un us placed cut_behind (sort_behind word sort_token) is_named = record {
        tokens = ts_tokens ++ us;
        thing = of_sort placed w;
        is_cut = cut_joined number before bytes (codes " of " ++ sort.name) rest ts_tokens us cut cut_behind;
        is_one = with_sort base word sort_token;
        fitting = marked_is signature [] f operation sort ts w placed is_there twin found is_named un;
      }

  -- nothing more is written behind an operation without a twin
  pub alone_stands : {A : Type 0} (bytes behind : List ℕ) (one : List Token → A → Type 0) (fits : A → Type 0) → behind ≡ []
      → StandsAnywhere number text bytes one fits → StandsAnywhere number text (bytes ++ behind) one fits
  alone_stands bytes behind one fits none stands =
      subst (λ (all : List ℕ). StandsAnywhere number text all one fits)
      (sym (ap (λ (more : List ℕ). bytes ++ more) none ∙ append-nil bytes)) stands

  -- another property of what stands
  pub stands_as : {A : Type 0} (bytes : List ℕ) (one other : List Token → A → Type 0) (fits meets : A → Type 0)
      → ((tokens : List Token) (thing : A) → one tokens thing → other tokens thing) → ((thing : A) → fits thing → meets thing)
      → StandsAnywhere number text bytes one fits → StandsAnywhere number text bytes other meets
  stands_as bytes one other fits meets is also stands before rest there apart_rest = record {
    tokens = part.tokens;
    thing = part.thing;
    is_cut = part.is_cut;
    is_one = is part.tokens part.thing part.is_one;
    fitting = also part.thing part.fitting;
  }
    where
      part : Stands number before bytes rest one fits
      part = stands before rest there apart_rest
