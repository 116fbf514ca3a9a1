-- A text is one label at most.
use Rattle.std.proofs.Common.{◌≡◌, ℕ, true, false, List, [], ◌∷◌, ◌++◌, refl, ap, sym, ◌∙◌, subst}
use Rattle.std.specs.Prelude.{nat_eq, None}
use Rattle.std.proofs.lemmas.Bool.Decides.{Decides-eqb}
use Rattle.lotos_base.specs.Signature.{Signature}
use Rattle.lotos_base.specs.Term.{Term}
use Rattle.lotos_base.specs.WrittenTerm.{PlacedName, WrittenTerm}
use Rattle.lotos_lexer.specs.declared.kinds.TheConstants.{NAME, DIGIT_NAME, SIGN_NAME, I, EXIT, OF, COMMA, LEFT_PARENTHESIS, RIGHT_PARENTHESIS, EXCLAMATION}
use Rattle.lotos_lexer.specs.declared.tokens.Token.{Token}
use Rattle.lotos_lexer.specs.Tokens as lexed
use Rattle.lotos_lexer.specs.Tokens.{tokens_of}
use Rattle.lotos_rows.specs.Words.{IsOfKind, there, Many, no_more, and_then, Behind, behind}
use Rattle.lotos_rows.specs.Names.{named, IsOperationName, word_name, digit_name, sign_name}
use Rattle.lotos_rows.specs.Terms.{IsTerm, grouped_factors, AreFactors, one_factor, more_factors, IsFactor, without_sort, with_sort, IsBase, without_arguments, with_arguments, bracketed, AreTerms, one_term, more_terms, AreArguments, no_arguments, some_arguments}
use Rattle.session_histories.specs.HandedOn.{TextsAreUnambiguous}
use Rattle.sort_terms.specs.ReadingLaws.{ReadingComesToOneThing}
use Rattle.sort_terms.specs.ReadingOutcome.{ReadingOutcome, SortedTerm, answered}
use Rattle.behaviour_semantics.specs.Behaviour.{Specification}
use Rattle.behaviour_semantics.specs.Label.{Label, inner_event, gate_event, exit_event}
use Rattle.behaviour_semantics.specs.WellFormed.{Every}
use Rattle.session_histories.proofs.HandedOn.{same_tokens}
use Rattle.declaration_laws.specs.DeclaredGates.{HasDistinctGates}
use Rattle.session_laws.specs.LabelReading.{WrittenLabel, written_inner, written_event, written_exit, IsWrittenLabel, an_inner, an_event, an_exit, AreReadAs, IsLabelOf}
use Rattle.session_laws.specs.LabelLaws.{LabelTextsAreReadOnce}

-- ---- Kinds of tokens

other_kind : (kind other : ℕ) (t : Token) → nat_eq kind other ≡ false → IsOfKind kind t → IsOfKind other t → ⊥
other_kind kind other t differ is also =
    let same : kind ≡ other = sym is.kind_is ∙ also.kind_is in
    let one : nat_eq kind other ≡ nat_eq kind kind = ap (λ (n : ℕ). nat_eq kind n) (sym same) in
    self kind (sym one ∙ differ)
  where
    self : (n : ℕ) → nat_eq n n ≡ false → ⊥
    self n h = let e : nat_eq n n ≡ true = (Decides-eqb n n).1 refl in let never : true ≡ false = sym e ∙ h in cc

-- no token of the list is a `!`
abbrev IsNoMark : Token → Type 0
IsNoMark t = ¬ IsOfKind EXCLAMATION t

abbrev NoMark : List Token → Type 0
NoMark tokens = Every IsNoMark tokens

both : (xs ys : List Token) → NoMark xs → NoMark ys → NoMark (xs ++ ys)
both [] ys first second = second
both (x ∷ xs) ys first second = (first.0, both xs ys first.1 second)

around : (x : Token) (xs : List Token) (y : Token) → IsNoMark x → NoMark xs → IsNoMark y → NoMark (x ∷ (xs ++ y ∷ []))
around x xs y left inner right = (left, both xs (y ∷ []) inner (right, tt))

-- ---- Terms have no `!`

module _ (text : List ℕ) where
  name_unmarked : {tokens : List Token} {name : PlacedName} → IsOperationName text tokens name → NoMark tokens
  name_unmarked (word_name {name = t} is) = (λ mark. other_kind NAME EXCLAMATION t refl is mark, tt)
  name_unmarked (digit_name {name = t} is) = (λ mark. other_kind DIGIT_NAME EXCLAMATION t refl is mark, tt)
  name_unmarked (sign_name {name = t} is) = (λ mark. other_kind SIGN_NAME EXCLAMATION t refl is mark, tt)

  mutual
    term_unmarked : {tokens : List Token} {w : WrittenTerm} → IsTerm text tokens w → NoMark tokens
    term_unmarked (grouped_factors factors grouped) = factors_unmarked factors

    factors_unmarked : {tokens : List Token} {ws : List WrittenTerm} {names : List PlacedName} → AreFactors text tokens ws names
        → NoMark tokens
    factors_unmarked (one_factor factor) = factor_unmarked factor
    factors_unmarked (more_factors {tokens = xs} {name_tokens = ys} {rest = zs} factor name rest) =
        both (xs ++ ys) zs (both xs ys (factor_unmarked factor) (name_unmarked name)) (factors_unmarked rest)

    factor_unmarked : {tokens : List Token} {w : WrittenTerm} → IsFactor text tokens w → NoMark tokens
    factor_unmarked (without_sort base) = base_unmarked base
    factor_unmarked (with_sort {tokens = xs} {of = o} {sort = s} base of sort) =
        both xs (o ∷ s ∷ []) (base_unmarked base)
        (λ mark. other_kind OF EXCLAMATION o refl of mark, (λ mark. other_kind NAME EXCLAMATION s refl sort mark, tt))

    base_unmarked : {tokens : List Token} {w : WrittenTerm} → IsBase text tokens w → NoMark tokens
    base_unmarked (without_arguments name) = name_unmarked name
    base_unmarked (with_arguments {tokens = xs} {argument_tokens = ys} {left = l} {right = r} name left terms right) =
        both xs (l ∷ (ys ++ r ∷ [])) (name_unmarked name)
        (around l ys r (λ mark. other_kind LEFT_PARENTHESIS EXCLAMATION l refl left mark) (terms_unmarked terms)
        (λ mark. other_kind RIGHT_PARENTHESIS EXCLAMATION r refl right mark))
    base_unmarked (bracketed {tokens = ys} {left = l} {right = r} left term right) =
        around l ys r (λ mark. other_kind LEFT_PARENTHESIS EXCLAMATION l refl left mark) (term_unmarked term)
        (λ mark. other_kind RIGHT_PARENTHESIS EXCLAMATION r refl right mark)

    terms_unmarked : {tokens : List Token} {ws : List WrittenTerm} → AreTerms text tokens ws → NoMark tokens
    terms_unmarked (one_term term) = term_unmarked term
    terms_unmarked (more_terms {tokens = xs} {rest = ys} {comma = c} term comma rest) =
        both xs (c ∷ ys) (term_unmarked term)
        (λ mark. other_kind COMMA EXCLAMATION c refl comma mark, terms_unmarked rest)

-- ---- Where the next `!` stands

-- the list begins with a `!`, or is empty
abbrev BeginsMark : List Token → Type 0
BeginsMark [] = Unit {0}
BeginsMark (t ∷ ts) = IsOfKind EXCLAMATION t

first_same : (x y : Token) (xs ys : List Token) → x ∷ xs ≡ y ∷ ys → x ≡ y
first_same x y xs ys e = cc

rest_same : (x y : Token) (xs ys : List Token) → x ∷ xs ≡ y ∷ ys → xs ≡ ys
rest_same x y xs ys e = cc

split : (xs ys us vs : List Token) → NoMark xs → NoMark ys → BeginsMark us → BeginsMark vs → xs ++ us ≡ ys ++ vs → (xs ≡ ys) × (us ≡ vs)
split [] [] us vs free also begins begin e = (refl, e)
split [] (y ∷ ys) [] vs free also begins begin e = cc
split [] (y ∷ ys) (u ∷ us) vs free also begins begin e =
    absurd (also.0 (subst (IsOfKind EXCLAMATION) (first_same u y us (ys ++ vs) e) begins))
split (x ∷ xs) [] us [] free also begins begin e = cc
split (x ∷ xs) [] us (v ∷ vs) free also begins begin e =
    absurd (free.0 (subst (IsOfKind EXCLAMATION) (sym (first_same x v (xs ++ us) vs e)) begin))
split (x ∷ xs) (y ∷ ys) us vs free also begins begin e =
    let h : x ≡ y = first_same x y (xs ++ us) (ys ++ vs) e in
    let t : (xs ≡ ys) × (us ≡ vs) =
    split xs ys us vs free.1 also.1 begins begin (rest_same x y (xs ++ us) (ys ++ vs) e) in
    (ap (λ (z : Token). z ∷ xs) h ∙ ap (λ (zs : List Token). y ∷ zs) t.0, t.1)

-- ---- One label

module _ (unambiguous : TextsAreUnambiguous) (text : List ℕ) where
  one_terms : (ts us : List Token) (ws vs : List WrittenTerm) → ts ≡ us → AreTerms text ts ws → AreTerms text us vs → ws ≡ vs
  one_terms ts us ws vs e first second =
      unambiguous.terms text us ws vs (there (subst (λ (zs : List Token). AreTerms text zs ws) e first)) (there second)

  one_value : (ts us : List Token) (w v : WrittenTerm) → ts ≡ us → IsTerm text ts w → IsTerm text us v → w ≡ v
  one_value ts us w v e first second =
      let same : w ∷ [] ≡ v ∷ [] = one_terms ts us (w ∷ []) (v ∷ []) e (one_term first) (one_term second) in cc

  values_begin : {tokens : List Token} {ws : List WrittenTerm} → Many (Behind EXCLAMATION (IsTerm text)) tokens ws → BeginsMark tokens
  values_begin no_more = tt
  values_begin (and_then (behind mark term) rest) = mark

  one_values : (ts us : List Token) (ws vs : List WrittenTerm) → ts ≡ us → Many (Behind EXCLAMATION (IsTerm text)) ts ws
      → Many (Behind EXCLAMATION (IsTerm text)) us vs → ws ≡ vs
  one_values _ _ _ _ e no_more no_more = refl
  one_values _ _ _ _ e no_more (and_then (behind mark term) rest) = cc
  one_values _ _ _ _ e (and_then (behind mark term) rest) no_more = cc
  one_values _ _ _ _ e (and_then {rest = us} {values = ws} (behind {token = m} {tokens = xs} {value = w} mark term) more)
      (and_then {rest = vs} {values = others} (behind {token = n} {tokens = ys} {value = v} sign other) rest) =
      let parts : (xs ≡ ys) × (us ≡ vs) =
      split xs ys us vs (term_unmarked text term) (term_unmarked text other) (values_begin more) (values_begin rest)
      (rest_same m n (xs ++ us) (ys ++ vs) e) in
      ap (λ (z : WrittenTerm). z ∷ ws) (one_value xs ys w v parts.0 term other)
      ∙ ap (λ (zs : List WrittenTerm). v ∷ zs) (one_values us vs ws others parts.1 more rest)

  front_same : (xs ys : List Token) (x y : Token) → xs ++ x ∷ [] ≡ ys ++ y ∷ [] → xs ≡ ys
  front_same [] [] x y e = refl
  front_same [] (b ∷ []) x y e = cc
  front_same [] (b ∷ (c ∷ ys)) x y e = cc
  front_same (a ∷ []) [] x y e = cc
  front_same (a ∷ (c ∷ xs)) [] x y e = cc
  front_same (a ∷ xs) (b ∷ ys) x y e =
      let h : a ≡ b = first_same a b (xs ++ x ∷ []) (ys ++ y ∷ []) e in
      let t : xs ≡ ys = front_same xs ys x y (rest_same a b (xs ++ x ∷ []) (ys ++ y ∷ []) e) in
      cc

  one_arguments : (ts us : List Token) (ws vs : List WrittenTerm) → ts ≡ us → AreArguments text ts ws → AreArguments text us vs → ws ≡ vs
  one_arguments _ _ _ _ e no_arguments no_arguments = refl
  one_arguments _ _ _ _ e no_arguments (some_arguments left terms right) = cc
  one_arguments _ _ _ _ e (some_arguments left terms right) no_arguments = cc
  one_arguments _ _ _ _ e (some_arguments {tokens = xs} {left = l} {right = r} {terms = ws} left terms right)
      (some_arguments {tokens = ys} {left = k} {right = q} {terms = vs} also others end) =
      one_terms xs ys ws vs (front_same xs ys r q (rest_same l k (xs ++ r ∷ []) (ys ++ q ∷ []) e)) terms others

  one_written : (ts us : List Token) (w v : WrittenLabel) → ts ≡ us → IsWrittenLabel text ts w → IsWrittenLabel text us v → w ≡ v
  one_written _ _ _ _ e (an_inner is) (an_inner also) = refl
  one_written _ _ _ _ e (an_inner {word = x} is) (an_event {gate = y} {tokens = ys} also values) =
      absurd (other_kind NAME I x refl (subst (IsOfKind NAME) (sym (first_same x y [] ys e)) also) is)
  one_written _ _ _ _ e (an_inner {word = x} is) (an_exit {word = y} {tokens = ys} also values) =
      absurd (other_kind EXIT I x refl (subst (IsOfKind EXIT) (sym (first_same x y [] ys e)) also) is)
  one_written _ _ _ _ e (an_event {gate = x} {tokens = xs} is values) (an_inner {word = y} also) =
      absurd (other_kind I NAME x refl (subst (IsOfKind I) (sym (first_same x y xs [] e)) also) is)
  one_written _ _ _ _ e (an_event {gate = x} {tokens = xs} {values = ws} is values)
      (an_event {gate = y} {tokens = ys} {values = vs} also others) =
      ap (λ (g : Token). written_event (named text g) ws) (first_same x y xs ys e)
      ∙ ap (λ (zs : List WrittenTerm). written_event (named text y) zs) (one_values xs ys ws vs (rest_same x y xs ys e) values others)
  one_written _ _ _ _ e (an_event {gate = x} {tokens = xs} is values) (an_exit {word = y} {tokens = ys} also others) =
      absurd (other_kind EXIT NAME x refl (subst (IsOfKind EXIT) (sym (first_same x y xs ys e)) also) is)
  one_written _ _ _ _ e (an_exit {word = x} {tokens = xs} is values) (an_inner {word = y} also) =
      absurd (other_kind I EXIT x refl (subst (IsOfKind I) (sym (first_same x y xs [] e)) also) is)
  one_written _ _ _ _ e (an_exit {word = x} {tokens = xs} is values) (an_event {gate = y} {tokens = ys} also others) =
      absurd (other_kind NAME EXIT x refl (subst (IsOfKind NAME) (sym (first_same x y xs ys e)) also) is)
  one_written _ _ _ _ e (an_exit {word = x} {tokens = xs} {values = ws} is values)
      (an_exit {word = y} {tokens = ys} {values = vs} also others) =
      ap written_exit (one_arguments xs ys ws vs (rest_same x y xs ys e) values others)

-- ---- One meaning

module _ (once : ReadingComesToOneThing) (signature : Signature) (specification : Specification)
    (distinct : HasDistinctGates specification) where
  one_terms_read : (ws : List WrittenTerm) (ts us : List Term) → AreReadAs signature ws ts → AreReadAs signature ws us → ts ≡ us
  one_terms_read [] [] [] first second = refl
  one_terms_read [] [] (u ∷ us) first second = absurd second
  one_terms_read [] (t ∷ ts) us first second = absurd first
  one_terms_read (w ∷ ws) [] us first second = absurd first
  one_terms_read (w ∷ ws) (t ∷ ts) [] first second = absurd second
  one_terms_read (w ∷ ws) (t ∷ ts) (u ∷ us) first second =
      let same : answered (record { term = t; sort = first.0.0 }) ≡ answered (record { term = u; sort = second.0.0 }) =
      once signature [] w None (answered (record { term = t; sort = first.0.0 })) (answered (record { term = u; sort = second.0.0 }))
      first.0.1 second.0.1 in
      let term : t ≡ u = ap term_of same in
      ap (λ (z : Term). z ∷ ts) term ∙ ap (λ (zs : List Term). u ∷ zs) (one_terms_read ws ts us first.1 second.1)
    where
      term_of : ReadingOutcome SortedTerm → Term
      term_of (answered it) = it.term
      term_of other = t

  one_label : (w : WrittenLabel) (one other : Label) → IsLabelOf signature specification w one → IsLabelOf signature specification w other
      → one ≡ other
  one_label written_inner inner_event inner_event first second = refl
  one_label written_inner inner_event (gate_event h us) first second = absurd second
  one_label written_inner inner_event (exit_event us) first second = absurd second
  one_label written_inner (gate_event g ts) other first second = absurd first
  one_label written_inner (exit_event ts) other first second = absurd first
  one_label (written_event name ws) inner_event other first second = absurd first
  one_label (written_event name ws) (exit_event ts) other first second = absurd first
  one_label (written_event name ws) (gate_event g ts) inner_event first second = absurd second
  one_label (written_event name ws) (gate_event g ts) (exit_event us) first second = absurd second
  one_label (written_event name ws) (gate_event g ts) (gate_event h us) first second =
      ap (λ (i : ℕ). gate_event i ts)
      (distinct g h first.0.spelling second.0.spelling first.0.declared second.0.declared first.0.found second.0.found
      (first.0.is_named ∙ sym second.0.is_named))
      ∙ ap (gate_event h) (one_terms_read ws ts us first.1 second.1)
  one_label (written_exit ws) inner_event other first second = absurd first
  one_label (written_exit ws) (gate_event g ts) other first second = absurd first
  one_label (written_exit ws) (exit_event ts) inner_event first second = absurd second
  one_label (written_exit ws) (exit_event ts) (gate_event h us) first second = absurd second
  one_label (written_exit ws) (exit_event ts) (exit_event us) first second = ap exit_event (one_terms_read ws ts us first second)

pub read_once : TextsAreUnambiguous → ReadingComesToOneThing → LabelTextsAreReadOnce
read_once unambiguous once signature specification text one other distinct first second =
    let same : first.written ≡ second.written =
    one_written unambiguous text first.tokens second.tokens first.written second.written
    (same_tokens (tokens_of 0 text) first.tokens second.tokens first.cut_into second.cut_into) first.sentence second.sentence in
    one_label once signature specification distinct second.written one other
    (subst (λ (w : WrittenLabel). IsLabelOf signature specification w one) same first.is_label) second.is_label
