-- The text of a label without variables is read as this label.
use Rattle.std.proofs.Common.{◌≡◌, ℕ, ◌<◌, false, true, List, [], ◌∷◌, ◌++◌, length, refl, ap, sym, ◌∙◌, subst, arith, codes, append-nil}
use Rattle.std.specs.Prelude.{None, Some, slice_get, Option}
use Rattle.lotos_base.proofs.Members.{member_at}
use Rattle.lotos_base.specs.Names.{folded}
use Rattle.lotos_base.specs.Signature.{Signature, IsWellFormedSignature}
use Rattle.lotos_base.specs.Term.{Term, argument_list_of}
use Rattle.lotos_base.specs.WrittenTerm.{WrittenTerm, written_terms}
use Rattle.lotos_lexer.specs.declared.tokens.Token.{Token}
use Rattle.lotos_lexer.specs.declared.kinds.TheConstants.{NAME, EXIT, LEFT_PARENTHESIS, RIGHT_PARENTHESIS, EXCLAMATION}
use Rattle.lotos_lexer.specs.Lexemes.{lexeme_of}
use Rattle.lotos_lexer.specs.Tokens as lexed
use Rattle.lotos_lexer.specs.Tokens.{start, token_at, tokens_of, cut}
use Rattle.lotos_lexer.proofs.CuttingLemmas.{with_tokens-Tokens}
use Rattle.lotos_rows.specs.Words.{Many, Behind, Between, between}
use Rattle.lotos_rows.specs.Names.{named}
use Rattle.lotos_rows.specs.Terms.{IsTerm, AreTerms, AreArguments, no_arguments, some_arguments}
use Rattle.behaviour_semantics.specs.Behaviour.{Specification}
use Rattle.behaviour_semantics.specs.Label.{Label, inner_event, gate_event, exit_event}
use Rattle.behaviour_semantics.specs.WellFormed.{Every}
use Rattle.behaviour_semantics.proofs.InstanceLemmas.{every_at}
use Rattle.session_histories.specs.HandedOn.{round, commas, term_texts, name_text, values_text, label_text}
use Rattle.session_laws.specs.TextNames.{IsWordSpelling}
use Rattle.session_laws.specs.WrittenAs.{AreWrittenAs}
use Rattle.session_laws.proofs.NameTokens.{word_piece}
use Rattle.session_laws.proofs.CutPieces.{behind_bytes, IsCut, cut_joined, cut_one, spelled_there}
use Rattle.session_laws.proofs.PartsOfText.{Stands, nothing_apart}
use Rattle.session_laws.proofs.WrittenLemmas.{ground_terms_have_one_reading}
use Rattle.session_laws.specs.LabelReading.{written_inner, written_event, written_exit, an_inner, an_event, an_exit, AreReadAs, IsLabelReading}
use Rattle.session_laws.specs.LabelLaws.{HasReadableNames, IsPlainLabel, LabelTextsAreReadOnce, LabelTextsAreReadBack}
use Rattle.session_laws.proofs.LabelStands.{IsValue, values_apart, values_stand, listed_stand}

whole_cut : (text : List ℕ) (tokens : List Token) → IsCut 0 [] text [] tokens → tokens_of 0 text ≡ lexed.Tokens tokens
whole_cut text tokens is =
    ap (λ (bytes : List ℕ). cut 0 0 false start bytes) (sym (append-nil text)) ∙ is ∙ with_tokens-Tokens tokens

word_has_bytes : (name : List ℕ) → IsWordSpelling name → 0 < length name
word_has_bytes [] is = let never : false ≡ true = is.begins in cc
word_has_bytes (b ∷ bs) is = omega arith

-- what ground terms are written as is read as these terms
values_read : (signature : Signature) → IsWellFormedSignature signature → (ts : List Term) (ws : List WrittenTerm) → Every
    (IsValue signature) ts
    → AreWrittenAs signature [] (argument_list_of ts) (written_terms ws) → AreReadAs signature ws ts
values_read signature well [] [] all writes = tt
values_read signature well [] (w ∷ ws) all writes = absurd writes
values_read signature well (t ∷ ts) [] all writes = absurd writes
values_read signature well (t ∷ ts) (w ∷ ws) all writes = (
  (all.0.0, ground_terms_have_one_reading signature all.0.0 t w None well all.0.1 writes.0 tt),
  values_read signature well ts ws all.1 writes.1,
)

abbrev exit_token : Token
exit_token = token_at 0 (behind_bytes []) (lexeme_of EXIT 4)

module _ (signature : Signature) (specification : Specification) (names : HasReadableNames signature specification) where
  event_read : (g : ℕ) (name : List ℕ) (ts : List Term) → slice_get specification.gate_names g ≡ Some name → IsWordSpelling name
      → IsPlainLabel signature specification (gate_event g ts)
      → IsLabelReading signature specification (name ++ values_text signature ts) (gate_event g ts)
  event_read g name ts found word plain = record {
    tokens = gate ∷ values.tokens;
    written = written_event (named text gate) values.thing;
    cut_into =
        whole_cut text (gate ∷ values.tokens)
        (cut_joined 0 [] name (values_text signature ts) [] (gate ∷ []) values.tokens
        (cut_one 0 [] name (values_text signature ts ++ []) NAME (word_has_bytes name word)
        (word_piece name (values_text signature ts ++ []) word (values_apart signature ts [] nothing_apart)) refl)
        values.is_cut);
    sentence = an_event (record { kind_is = refl }) values.is_one;
    is_label = (
      record {
        declared = plain.is_at;
        spelling = name;
        found = found;
        is_named = ap folded (sym (spelled_there 0 text [] name (values_text signature ts ++ []) NAME there));
      },
      values_read signature names.well_formed ts values.thing plain.closed.1 values.fitting,
    );
  }
    where
      text : List ℕ
      text = name ++ values_text signature ts

      gate : Token
      gate = token_at 0 (behind_bytes []) (lexeme_of NAME (length name))

      there : text ≡ name ++ (values_text signature ts ++ [])
      there = ap (λ (bytes : List ℕ). name ++ bytes) (sym (append-nil (values_text signature ts)))

      values : Stands 0 name (values_text signature ts) [] (Many (Behind EXCLAMATION (IsTerm text)))
          (λ (ws : List WrittenTerm). AreWrittenAs signature [] (argument_list_of ts) (written_terms ws))
      values = values_stand 0 text signature names.well_formed names.spelled ts plain.closed.1 name [] there nothing_apart

  between_arguments : {text : List ℕ} {tokens : List Token} {ws : List WrittenTerm}
      → Between LEFT_PARENTHESIS RIGHT_PARENTHESIS (AreTerms text) tokens ws → AreArguments text tokens ws
  between_arguments (between left terms right) = some_arguments left terms right

  bare_exit_read : IsLabelReading signature specification (codes "exit") (exit_event [])
  bare_exit_read = record {
    tokens = exit_token ∷ [];
    written = written_exit [];
    cut_into = whole_cut (codes "exit") (exit_token ∷ []) (cut_one 0 [] (codes "exit") [] EXIT (omega arith) refl refl);
    sentence = an_exit (record { kind_is = refl }) no_arguments;
    is_label = tt;
  }

  exit_read : (t : Term) (ts : List Term) → Every (IsValue signature) (t ∷ ts)
      → IsLabelReading signature specification (codes "exit" ++ round (commas (term_texts signature (t ∷ ts)))) (exit_event (t ∷ ts))
  exit_read t ts all = record {
    tokens = exit_token ∷ values.tokens;
    written = written_exit values.thing;
    cut_into =
        whole_cut text (exit_token ∷ values.tokens)
        (cut_joined 0 [] (codes "exit") listed [] (exit_token ∷ []) values.tokens
        (cut_one 0 [] (codes "exit") (listed ++ []) EXIT (omega arith) refl refl) values.is_cut);
    sentence = an_exit (record { kind_is = refl }) (between_arguments values.is_one);
    is_label = values_read signature names.well_formed (t ∷ ts) values.thing all values.fitting;
  }
    where
      listed : List ℕ
      listed = round (commas (term_texts signature (t ∷ ts)))

      text : List ℕ
      text = codes "exit" ++ listed

      values : Stands 0 (codes "exit") listed [] (Between LEFT_PARENTHESIS RIGHT_PARENTHESIS (AreTerms text))
          (λ (ws : List WrittenTerm). AreWrittenAs signature [] (argument_list_of (t ∷ ts)) (written_terms ws))
      values =
          listed_stand 0 text signature names.well_formed names.spelled t ts all (codes "exit") []
          (ap (λ (bytes : List ℕ). codes "exit" ++ bytes) (sym (append-nil listed)))

  label_read : (label : Label) → IsPlainLabel signature specification label
      → IsLabelReading signature specification (label_text signature specification.gate_names label) label
  label_read inner_event plain = record {
    tokens = _;
    written = written_inner;
    cut_into = refl;
    sentence = an_inner (record { kind_is = refl });
    is_label = tt;
  }
  label_read (exit_event []) plain = bare_exit_read
  label_read (exit_event (t ∷ ts)) plain = exit_read t ts plain.closed
  label_read (gate_event g ts) plain =
      let name : (n : List ℕ) × (slice_get specification.gate_names g ≡ Some n) = member_at specification.gate_names g plain.closed.0 in
      subst (λ (o : Option (List ℕ)). IsLabelReading signature specification (name_text o ++ values_text signature ts) (gate_event g ts))
      (sym name.1)
      (event_read g name.0 ts name.1 (every_at IsWordSpelling specification.gate_names g name.0 names.gates name.1) plain)

pub read_back : LabelTextsAreReadOnce → LabelTextsAreReadBack
read_back once = record {
  read = λ signature specification label names plain. label_read signature specification names label plain;
  apart = λ signature specification one other names plain also same.
      once signature specification (label_text signature specification.gate_names other) one other names.distinct
      (subst (λ (text : List ℕ). IsLabelReading signature specification text one) same (label_read signature specification names one plain))
      (label_read signature specification names other also);
}
