-- Tokens that are the words of a whole, parted into those of its parts.
use Rattle.std.proofs.Common.{◌≡◌, ℕ, List, [], ◌∷◌, ◌++◌, refl, ap, sym, ◌∙◌, subst, codes}
use Rattle.lotos_lexer.specs.declared.tokens.Token.{Token}
use Rattle.lotos_lexer.specs.declared.kinds.TheConstants.{LEFT_PARENTHESIS, RIGHT_PARENTHESIS, LEFT_BRACKET, RIGHT_BRACKET}
use Rattle.lotos_rows.specs.Words.{IsOfKind, Between, between}
use Rattle.session_laws.specs.PrintedWords.{Word, IsWord, AreWords, a_word, round_words, square_words}
use Rattle.session_laws.specs.WordLaws.{IsFittingSentence}

module _ (text : List ℕ) where
  -- the first token, and the others
  pub record IsFirst (word : Word) (words : List Word) (tokens : List Token) : Type 0 where
    pub first : Token
    pub rest : List Token
    pub joined : tokens ≡ first ∷ rest
    pub is_word : IsWord text first word
    pub are_words : AreWords text rest words

  pub first_of : (tokens : List Token) (word : Word) (words : List Word) → AreWords text tokens (word ∷ words) → IsFirst word words tokens
  first_of [] word words are = absurd are
  first_of (token ∷ tokens) word words are =
      record { first = token; rest = tokens; joined = refl; is_word = are.0; are_words = are.1 }

  -- the tokens of two parts
  pub record AreTwoParts (xs ys : List Word) (tokens : List Token) : Type 0 where
    pub left : List Token
    pub right : List Token
    pub joined : tokens ≡ left ++ right
    pub left_are : AreWords text left xs
    pub right_are : AreWords text right ys

  pub parts_of : (tokens : List Token) (xs ys : List Word) → AreWords text tokens (xs ++ ys) → AreTwoParts xs ys tokens
  parts_of tokens [] ys are = record { left = []; right = tokens; joined = refl; left_are = tt; right_are = are }
  parts_of [] (x ∷ xs) ys are = absurd are
  parts_of (token ∷ tokens) (x ∷ xs) ys are =
      let rest = parts_of tokens xs ys are.1 in record {
        left = token ∷ rest.left;
        right = rest.right;
        joined = ap (λ (ts : List Token). token ∷ ts) rest.joined;
        left_are = (are.0, rest.left_are);
        right_are = rest.right_are;
      }

  -- no words are no tokens
  pub no_words : (tokens : List Token) → AreWords text tokens [] → tokens ≡ []
  no_words [] are = refl
  no_words (token ∷ tokens) are = absurd are

  -- one word is one token
  pub record IsOneToken (word : Word) (tokens : List Token) : Type 0 where
    pub token : Token
    pub alone : tokens ≡ token ∷ []
    pub is_word : IsWord text token word

  pub one_of : (tokens : List Token) (word : Word) → AreWords text tokens (word ∷ []) → IsOneToken word tokens
  one_of [] word are = absurd are
  one_of (token ∷ []) word are = record { token = token; alone = refl; is_word = are.0 }
  one_of (token ∷ (more ∷ tokens)) word are = absurd are.1

  pub of_kind : (word : Word) (token : Token) → IsWord text token word → IsOfKind word.kind token
  of_kind word token is = record { kind_is = is.kind_is }

  -- Whatever tokens are these words are a thing that fits.
  abbrev pub Says : {A : Type 0} → List Word → (List Token → A → Type 0) → (A → Type 0) → Type 0
  Says words one fits = (tokens : List Token) → AreWords text tokens words → IsFittingSentence one fits tokens

  -- a thing between two words
  pub between_says : {A : Type 0} (left right : Word) (words : List Word) (one : List Token → A → Type 0) (fits : A → Type 0)
      → Says words one fits → Says (left ∷ (words ++ right ∷ [])) (Between left.kind right.kind one) fits
  between_says left right words one fits inside tokens are =
      let begin = first_of tokens left (words ++ right ∷ []) are in
      let parts = parts_of begin.rest words (right ∷ []) begin.are_words in
      let end = one_of parts.right right parts.right_are in
      let inner = inside parts.left parts.left_are in
      let whole : tokens ≡ begin.first ∷ (parts.left ++ end.token ∷ []) =
      begin.joined ∙ ap (λ (ts : List Token). begin.first ∷ ts)
      (parts.joined ∙ ap (λ (ts : List Token). parts.left ++ ts) end.alone) in
      subst (IsFittingSentence (Between left.kind right.kind one) fits) (sym whole) (record {
        thing = inner.thing;
        is_one =
            between (of_kind left begin.first begin.is_word) inner.is_one (of_kind right end.token end.is_word);
        fitting = inner.fitting;
      })

  pub round_says : {A : Type 0} (words : List Word) (one : List Token → A → Type 0) (fits : A → Type 0) → Says words one fits
      → Says (round_words words) (Between LEFT_PARENTHESIS RIGHT_PARENTHESIS one) fits
  round_says words one fits inside =
      between_says (a_word LEFT_PARENTHESIS (codes "(")) (a_word RIGHT_PARENTHESIS (codes ")")) words one fits inside

  pub square_says : {A : Type 0} (words : List Word) (one : List Token → A → Type 0) (fits : A → Type 0) → Says words one fits
      → Says (square_words words) (Between LEFT_BRACKET RIGHT_BRACKET one) fits
  square_says words one fits inside =
      between_says (a_word LEFT_BRACKET (codes "[")) (a_word RIGHT_BRACKET (codes "]")) words one fits inside
