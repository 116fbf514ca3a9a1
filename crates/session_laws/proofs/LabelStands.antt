-- The values of a label stand in its text.
use Rattle.std.proofs.Common.{◌≡◌, ℕ, false, List, [], ◌∷◌, ◌++◌, map, refl, ap, sym, subst, arith, codes, append-nil}
use Rattle.lotos_base.specs.Signature.{Signature, IsWellFormedSignature}
use Rattle.lotos_base.specs.Sorting.{IsGroundOf}
use Rattle.lotos_base.specs.Term.{Term, argument_list_of}
use Rattle.lotos_base.specs.WrittenTerm.{WrittenTerm, written_terms}
use Rattle.lotos_lexer.specs.declared.tokens.Token.{Token}
use Rattle.lotos_lexer.specs.declared.kinds.TheConstants.{EXCLAMATION, LEFT_PARENTHESIS, RIGHT_PARENTHESIS}
use Rattle.lotos_lexer.specs.Lexemes.{lexeme_of}
use Rattle.lotos_lexer.specs.Tokens.{token_at, cut}
use Rattle.lotos_rows.specs.Words.{Many, no_more, and_then, behind, Behind, Between}
use Rattle.lotos_rows.specs.Terms.{IsTerm, AreTerms}
use Rattle.behaviour_semantics.specs.WellFormed.{Every}
use Rattle.session_histories.specs.HandedOn.{round, commas, phrase_text, phrase_of, phrases_of, entry_term_text, term_texts, values_text}
use Rattle.session_laws.specs.TextNames.{HasTextNames}
use Rattle.session_laws.specs.WrittenAs.{IsWrittenAs, AreWrittenAs}
use Rattle.session_laws.proofs.NameTokens.{IsApart}
use Rattle.session_laws.proofs.CutPieces.{behind_bytes, IsCut, cut_joined, cut_one, cut_blank}
use Rattle.session_laws.proofs.PartsOfText.{Stands, StandsAnywhere, first_part, second_part, apart, round_stands}
use Rattle.session_laws.proofs.PrintedTerms.{phrase_term}
use Rattle.session_laws.proofs.TermPhrases.{AllStand, list_stands, term_stands}

-- the value is a ground term of some sort
abbrev pub IsValue : Signature → Term → Type 0
IsValue signature t = (sort : ℕ) × IsGroundOf signature sort t

abbrev pub mark_token : ℕ → List ℕ → Token
mark_token number before = token_at number (behind_bytes (before ++ codes " ")) (lexeme_of EXCLAMATION 1)

mark_cut : (number : ℕ) (before rest : List ℕ) → IsCut number before (codes " !") rest (mark_token number before ∷ [])
mark_cut number before rest =
    cut_joined number before (codes " ") (codes "!") rest [] (mark_token number before ∷ []) (cut_blank number before (codes "!" ++ rest))
    (cut_one number (before ++ codes " ") (codes "!") rest EXCLAMATION (omega arith) refl refl)

nothing_cut : (number : ℕ) (before rest : List ℕ) → IsCut number before [] rest []
nothing_cut number before rest = ap (λ (bytes : List ℕ). cut number 0 false (behind_bytes bytes) rest) (sym (append-nil before))

-- no word and no run goes on with the text of values
pub values_apart : (signature : Signature) (ts : List Term) (rest : List ℕ) → IsApart rest → IsApart (values_text signature ts ++ rest)
values_apart signature [] rest is = is
values_apart signature (t ∷ ts) rest is =
    apart 32 (33 ∷ ((entry_term_text signature t ++ values_text signature ts) ++ rest)) refl refl

texts_same : (signature : Signature) (ts : List Term) → map phrase_text (phrases_of signature [] (argument_list_of ts))
    ≡ term_texts signature ts
texts_same signature [] = refl
texts_same signature (t ∷ ts) = ap (λ (texts : List (List ℕ)). entry_term_text signature t ∷ texts) (texts_same signature ts)

module _ (number : ℕ) (text : List ℕ) (signature : Signature) (well : IsWellFormedSignature signature)
    (spelled : HasTextNames signature) where
  -- the written terms are these values
  abbrev pub Writes : List Term → List WrittenTerm → Type 0
  Writes ts ws = AreWrittenAs signature [] (argument_list_of ts) (written_terms ws)

  value_stands : (t : Term) → IsValue signature t
      → StandsAnywhere number text (entry_term_text signature t) (IsTerm text) (IsWrittenAs signature [] t)
  value_stands t is =
      phrase_term number text signature t (phrase_of signature [] t)
      (term_stands number text signature well spelled [] t is.0 is.1.sorted is.1.ground)

  -- a value behind a `!`, before others
  value_then : (t : Term) (ts : List Term) → IsValue signature t
      → StandsAnywhere number text (values_text signature ts) (Many (Behind EXCLAMATION (IsTerm text))) (Writes ts)
      → StandsAnywhere number text (values_text signature (t ∷ ts)) (Many (Behind EXCLAMATION (IsTerm text))) (Writes (t ∷ ts))
  value_then t ts is others before rest there apart_rest = record {
    tokens = (mark_token number before ∷ first.tokens) ++ more.tokens;
    thing = first.thing ∷ more.thing;
    is_cut =
        cut_joined number before (codes " !" ++ term) values rest (mark_token number before ∷ first.tokens) more.tokens
        (cut_joined number before (codes " !") term (values ++ rest) (mark_token number before ∷ []) first.tokens
        (mark_cut number before (term ++ (values ++ rest))) first.is_cut) more.is_cut;
    is_one = and_then (behind (record { kind_is = refl }) first.is_one) more.is_one;
    fitting = (first.fitting, more.fitting);
  }
    where
      term : List ℕ
      term = entry_term_text signature t

      values : List ℕ
      values = values_text signature ts

      first : Stands number (before ++ codes " !") term (values ++ rest) (IsTerm text) (IsWrittenAs signature [] t)
      first =
          value_stands t is (before ++ codes " !") (values ++ rest)
          (second_part text before (codes " !") term (values ++ rest) (first_part text before (codes " !" ++ term) values rest there))
          (values_apart signature ts rest apart_rest)

      more : Stands number (before ++ (codes " !" ++ term)) values rest (Many (Behind EXCLAMATION (IsTerm text))) (Writes ts)
      more = others (before ++ (codes " !" ++ term)) rest (second_part text before (codes " !" ++ term) values rest there) apart_rest

  -- values, each behind a `!`
  pub values_stand : (ts : List Term) → Every (IsValue signature) ts
      → StandsAnywhere number text (values_text signature ts) (Many (Behind EXCLAMATION (IsTerm text))) (Writes ts)
  values_stand [] all before rest there apart_rest = record {
    tokens = [];
    thing = [];
    is_cut = nothing_cut number before rest;
    is_one = no_more;
    fitting = tt;
  }
  values_stand (t ∷ ts) all before rest there apart_rest = value_then t ts all.0 (values_stand ts all.1) before rest there apart_rest

  all_stand : (ts : List Term) → Every (IsValue signature) ts → AllStand number text signature well spelled [] (argument_list_of ts)
  all_stand [] all = tt
  all_stand (t ∷ ts) all = (term_stands number text signature well spelled [] t all.0.0 all.0.1.sorted all.0.1.ground, all_stand ts all.1)

  -- values between brackets
  pub listed_stand : (t : Term) (ts : List Term) → Every (IsValue signature) (t ∷ ts) → (before rest : List ℕ)
      → text ≡ before ++ (round (commas (term_texts signature (t ∷ ts))) ++ rest)
      → Stands number before (round (commas (term_texts signature (t ∷ ts)))) rest
      (Between LEFT_PARENTHESIS RIGHT_PARENTHESIS (AreTerms text)) (Writes (t ∷ ts))
  listed_stand t ts all before rest =
      subst (λ (texts : List (List ℕ)). text ≡ before ++ (round (commas texts) ++ rest)
      → Stands number before (round (commas texts)) rest (Between LEFT_PARENTHESIS RIGHT_PARENTHESIS (AreTerms text)) (Writes (t ∷ ts)))
      (texts_same signature (t ∷ ts))
      (λ there. round_stands number text (commas (map phrase_text (phrases_of signature [] (argument_list_of (t ∷ ts))))) (AreTerms text)
      (Writes (t ∷ ts))
      (list_stands number text signature well spelled [] t (argument_list_of ts) (all_stand (t ∷ ts) all)) before rest there)
