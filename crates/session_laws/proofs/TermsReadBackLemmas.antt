-- The texts of ground terms are read back.
use Rattle.std.proofs.Common.{◌≡◌, ℕ, zero, suc, ◌≤◌, false, List, [], ◌∷◌, ◌++◌, map, refl, ap, sym, ◌∙◌, subst, append-nil}
use Rattle.std.specs.Prelude.{Some, slice_get}
use Rattle.std.proofs.lemmas.Option.{none-some, same_Some}
use Rattle.lotos_base.specs.Signature.{Signature, IsWellFormedSignature}
use Rattle.lotos_base.specs.Sorting.{HaveSorts, AreGround}
use Rattle.lotos_base.specs.Term.{Term, argument_list_of}
use Rattle.behaviour_semantics.specs.Rule.{AreValues}
use Rattle.lotos_base.specs.WrittenTerm.{WrittenTerm, written_terms}
use Rattle.lotos_lexer.specs.declared.tokens.Token.{Token}
use Rattle.lotos_lexer.specs.Tokens as lexed
use Rattle.lotos_lexer.specs.Tokens.{Lexed, start, tokens_of, cut}
use Rattle.lotos_lexer.proofs.CuttingLemmas.{with_tokens-Tokens}
use Rattle.lotos_rows.specs.Words.{left_out, there}
use Rattle.lotos_rows.specs.Terms.{AreTerms}
use Rattle.lotos_rows.specs.Starts.{AreOptionalTerms}
use Rattle.session_histories.specs.HandedOn.{node_limit, IsTermsReading, commas, phrase_text, phrases_of, entry_term_text, term_texts}
use Rattle.session_histories.proofs.HandedOn.{all_have_one_outcome}
use Rattle.session_laws.specs.WrittenAs.{AreWrittenAs}
use Rattle.session_laws.proofs.WrittenLemmas.{ground_terms_have_one_reading}
use Rattle.session_laws.specs.TextNames.{HasTextNames}
use Rattle.session_laws.specs.TermDepth.{term_depth}
use Rattle.session_laws.specs.TermsReadBack.{AreReadBackAt, IsTermReadBack, AreReadBack}
use Rattle.session_laws.specs.ReadBackLaws.{TermTextsAreReadBack, TermListsAreReadBack}
use Rattle.session_laws.proofs.CutPieces.{IsCut}
use Rattle.session_laws.proofs.PartsOfText.{Stands, nothing_apart}
use Rattle.session_laws.proofs.TermPhrases.{list_stands, terms_stand}
use Rattle.session_laws.proofs.DepthLemmas.{list_shallow}

-- the values as the arguments of an operation
values_sorted : (signature : Signature) (sorts : List ℕ) (ts : List Term) → AreValues signature sorts ts
    → HaveSorts signature (argument_list_of ts) sorts
values_sorted signature [] [] values = tt
values_sorted signature [] (t ∷ ts) values = absurd values
values_sorted signature (s ∷ ss) [] values = absurd values
values_sorted signature (s ∷ ss) (t ∷ ts) values = (values.0.sorted, values_sorted signature ss ts values.1)

values_ground : (signature : Signature) (sorts : List ℕ) (ts : List Term) → AreValues signature sorts ts → AreGround (argument_list_of ts)
values_ground signature [] [] values = tt
values_ground signature [] (t ∷ ts) values = absurd values
values_ground signature (s ∷ ss) [] values = absurd values
values_ground signature (s ∷ ss) (t ∷ ts) values = (values.0.ground, values_ground signature ss ts values.1)

texts_same : (signature : Signature) (ts : List Term) → map phrase_text (phrases_of signature [] (argument_list_of ts))
    ≡ term_texts signature ts
texts_same signature [] = refl
texts_same signature (t ∷ ts) = ap (λ (texts : List (List ℕ)). entry_term_text signature t ∷ texts) (texts_same signature ts)

values_read : (signature : Signature) → IsWellFormedSignature signature → (sorts : List ℕ) (ts : List Term) (ws : List WrittenTerm)
    → AreValues signature sorts ts → AreWrittenAs signature [] (argument_list_of ts) (written_terms ws)
    → AreReadBackAt signature sorts ws ts
values_read signature well [] [] [] values writes = tt
values_read signature well [] [] (w ∷ ws) values writes = absurd writes
values_read signature well [] (t ∷ ts) ws values writes = absurd values
values_read signature well (s ∷ ss) [] ws values writes = absurd values
values_read signature well (s ∷ ss) (t ∷ ts) [] values writes = absurd writes
values_read signature well (s ∷ ss) (t ∷ ts) (w ∷ ws) values writes = (
  ground_terms_have_one_reading signature s t w (Some s) well values.0 writes.0 refl,
  values_read signature well ss ts ws values.1 writes.1,
)

-- the list of terms that a text is
record IsListed (signature : Signature) (number : ℕ) (text : List ℕ) (ts : List Term) : Type 0 where
  tokens : List Token
  terms : List WrittenTerm
  cut_into : tokens_of number text ≡ lexed.Tokens tokens
  sentence : AreOptionalTerms text tokens terms
  writes : AreWrittenAs signature [] (argument_list_of ts) (written_terms terms)

whole_cut : (number : ℕ) (text : List ℕ) (tokens : List Token) → IsCut number [] text [] tokens
    → tokens_of number text ≡ lexed.Tokens tokens
whole_cut number text tokens is =
    ap (λ (bytes : List ℕ). cut number 0 false start bytes) (sym (append-nil text)) ∙ is ∙ with_tokens-Tokens tokens

listed : (signature : Signature) → IsWellFormedSignature signature → HasTextNames signature → (number : ℕ) (sorts : List ℕ) (ts : List Term)
    → AreValues signature sorts ts → IsListed signature number (commas (term_texts signature ts)) ts
listed signature well spelled number sorts [] values = record {
  tokens = [];
  terms = [];
  cut_into = refl;
  sentence = left_out;
  writes = tt;
}
listed signature well spelled number sorts (t ∷ ts) values = subst (λ (all : List ℕ). IsListed signature number all (t ∷ ts)) same found
  where
    text : List ℕ
    text = commas (map phrase_text (phrases_of signature [] (argument_list_of (t ∷ ts))))

    same : text ≡ commas (term_texts signature (t ∷ ts))
    same = ap commas (texts_same signature (t ∷ ts))

    part : Stands number [] text [] (AreTerms text) (λ (ws : List WrittenTerm).
        AreWrittenAs signature [] (argument_list_of (t ∷ ts)) (written_terms ws))
    part =
        list_stands number text signature well spelled [] t (argument_list_of ts)
        (terms_stand number text signature well spelled [] (argument_list_of (t ∷ ts)) sorts (values_sorted signature sorts (t ∷ ts) values)
        (values_ground signature sorts (t ∷ ts) values))
        [] [] (sym (append-nil text)) nothing_apart

    found : IsListed signature number text (t ∷ ts)
    found = record {
      tokens = part.tokens;
      terms = part.thing;
      cut_into = whole_cut number text part.tokens part.is_cut;
      sentence = there part.is_one;
      writes = part.fitting;
    }

pub term_lists_read_back : TermListsAreReadBack
term_lists_read_back signature well spelled number sorts ts values within = record {
  written = found.terms;
  is_text = read;
  only_text = λ other is. all_have_one_outcome.terms.one_tree number (commas (term_texts signature ts)) other found.terms is read;
  are_read = values_read signature well sorts ts found.terms values found.writes;
}
  where
    found : IsListed signature number (commas (term_texts signature ts)) ts
    found = listed signature well spelled number sorts ts values

    read : IsTermsReading number (commas (term_texts signature ts)) found.terms
    read = record {
      tokens = found.tokens;
      cut_into = found.cut_into;
      sentence = found.sentence;
      shallow = list_shallow signature node_limit ts found.terms found.writes within;
    }

-- ---- One term

one_read_back : (signature : Signature) (number sort : ℕ) (text : List ℕ) (t : Term) (terms : List WrittenTerm)
    → IsTermsReading number text terms → ((other : List WrittenTerm) → IsTermsReading number text other → other ≡ terms)
    → AreReadBackAt signature (sort ∷ []) terms (t ∷ []) → IsTermReadBack signature number text sort t
one_read_back signature number sort text t [] is_text only are_read = absurd are_read
one_read_back signature number sort text t (w ∷ []) is_text only are_read =
    record { written = w; is_text = is_text; only_text = only; is_read = are_read.0 }
one_read_back signature number sort text t (w ∷ (v ∷ ws)) is_text only are_read = absurd are_read.1

pub term_texts_read_back : TermTextsAreReadBack
term_texts_read_back signature well spelled number sort t ground within =
    subst (λ (text : List ℕ). IsTermReadBack signature number text sort t) (append-nil (entry_term_text signature t))
    (one_read_back signature number sort (entry_term_text signature t ++ []) t back.written back.is_text back.only_text back.are_read)
  where
    small : (i : ℕ) (u : Term) → slice_get (t ∷ []) i ≡ Some u → term_depth u ≤ node_limit
    small zero u found = subst (λ (v : Term). term_depth v ≤ node_limit) (same_Some t u found) within
    small (suc i) u found = absurd (none-some u found)

    back : AreReadBack signature number (commas (term_texts signature (t ∷ []))) (sort ∷ []) (t ∷ [])
    back = term_lists_read_back signature well spelled number (sort ∷ []) (t ∷ []) (ground, tt) small
