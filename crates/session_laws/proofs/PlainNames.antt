-- A name that is one whole token has no blank in it and is not `=>`.
use Rattle.std.proofs.Common.{◌≡◌, ℕ, zero, suc, ◌+◌, Bool, true, false, cond, List, [], ◌∷◌, length, refl, ap, sym, ◌∙◌, arith, inl, inr}
use Rattle.std.specs.Prelude.{◌==◌, if◌then◌else◌}
use Rattle.std.specs.List.{list_any, prefix_len}
use Rattle.std.specs.Char.{is_ascii_alphabetic, is_ascii_digit, is_ascii_alphanumeric}
use Rattle.lotos_lexer.specs.Bytes.{first_is, is_blank, is_sign}
use Rattle.lotos_lexer.specs.Lexemes.{underscore_before, word_length, kind_in}
use Rattle.lotos_lexer.specs.Spellings.{reserved_runs}
use Rattle.session_laws.specs.ReadBackLaws.{TextNamesArePlain}
use Rattle.session_laws.proofs.NameTokens.{alphanumeric_token, sign_token}
use Rattle.std.proofs.lemmas.Bool.Decides.{Decides-eqb}
use Rattle.std.proofs.lemmas.Option.{none-some}
use Rattle.std.proofs.lemmas.Bool.{or_from}

pub under_shorter : (more count : ℕ) → underscore_before more ≡ suc count → more ≡ count
under_shorter zero count is = absurd (omega arith)
under_shorter (suc more) count is = omega arith

no_blank_word : (name : List ℕ) → word_length name ≡ length name → list_any is_blank name ≡ false
no_blank_word [] whole = refl
no_blank_word (b ∷ bs) whole = by (is_ascii_alphanumeric b) refl (b == 95) refl whole (λ is. no_blank_word bs is)
  where
    by : (letter : Bool) → is_ascii_alphanumeric b ≡ letter → (under : Bool) → (b == 95) ≡ under
        → (if letter then suc (word_length bs) else (if under then underscore_before (word_length bs) else 0)) ≡ suc (length bs)
        → (word_length bs ≡ length bs → list_any is_blank bs ≡ false) → list_any is_blank (b ∷ bs) ≡ false
    by true letter under line whole below =
        or_from (is_blank b) (list_any is_blank bs) (alphanumeric_token b letter).no_blank (below (omega arith))
    by false letter true line whole below =
        or_from (is_blank b) (list_any is_blank bs) (ap is_blank ((Decides-eqb b 95).0 line))
        (below (under_shorter (word_length bs) (length bs) whole))
    by false letter false line whole below = absurd (omega arith)

no_blank_run : (name : List ℕ) → prefix_len is_sign name ≡ length name → list_any is_blank name ≡ false
no_blank_run [] whole = refl
no_blank_run (b ∷ bs) whole = by (is_sign b) refl whole (λ is. no_blank_run bs is)
  where
    by : (sign : Bool) → is_sign b ≡ sign → cond sign (1 + prefix_len is_sign bs) 0 ≡ suc (length bs)
        → (prefix_len is_sign bs ≡ length bs → list_any is_blank bs ≡ false) → list_any is_blank (b ∷ bs) ≡ false
    by true sign whole below =
        or_from (is_blank b) (list_any is_blank bs) (sign_token b sign).no_blank (below (omega arith))
    by false sign whole below = absurd (omega arith)

pub names_are_plain : TextNamesArePlain
names_are_plain name (inl is) = record {
  no_blank = no_blank_word name is.whole;
  no_arrow = λ same. let never : false ≡ true = sym (ap (first_is is_ascii_alphabetic) same) ∙ is.begins in cc;
}
names_are_plain name (inr (inl is)) = record {
  no_blank = no_blank_word name is.whole;
  no_arrow = λ same. let never : false ≡ true = sym (ap (first_is is_ascii_digit) same) ∙ is.begins in cc;
}
names_are_plain name (inr (inr is)) = record {
  no_blank = no_blank_run name is.whole;
  no_arrow = λ same. absurd (none-some _ (sym is.not_reserved ∙ ap (kind_in reserved_runs) same));
}
