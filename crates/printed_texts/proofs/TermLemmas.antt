use Rattle.std.proofs.Common.{◌≡◌, ℕ, suc, List, [], ◌∷◌, ◌++◌, ◌||◌, Bool, true, false, not, nat_eq, codes, map, length, get_or, slice_get, Some, refl, sym, ◌∙◌, ap, append_assoc, arith}
use Rattle.std.proofs.lemmas.List.{append-nil}
use Rattle.std.specs.declared.rc.Rc.{Rc}
use Rattle.std.specs.declared.alloc.Global.{Global}
use Rattle.lotos_base.specs.Signature.{Signature, Operation, Form, prefix_form, infix_form}
use Rattle.lotos_base.specs.Twins.{has_twin}
use Rattle.sort_terms.specs.Operations.{operation_of}
use Rattle.sort_terms.specs.SignatureView.{signature_of}
use Rattle.sort_terms.specs.EquationView.{variable_of}
use Rattle.sort_terms.specs.TermView.{all_profiled, term_of, bare_terms_of}
use Rattle.sort_terms.specs.ProfiledTerm.{ProfiledTerms, bare}
use Rattle.sort_terms.specs.declared.equations.Variable.{Variable}
use Rattle.sort_terms.specs.declared.operations.Op.{Op}
use Rattle.sort_terms.specs.declared.signatures.Signature.{Signature as KeptSignature}
use Rattle.sort_terms.specs.declared.terms.Term.{Term}
use Rattle.sort_terms.specs.declared.terms.Term.TheVariants.{Node as TermNode}
use Rattle.sort_terms.proofs.BuiltLists.{node_with_items}
use Rattle.printed_texts.proofs.BracketLemmas.{closed_text}
use Rattle.printed_texts.specs.Brackets.{bracketed, round, opening, with_closing_bracket, commas}
use Rattle.printed_texts.specs.TermText.{Phrase, phrase_text, phrase_of, phrases_of, operand_text, operator_text, arguments_text, prefix_phrase, infix_phrase, application_phrase, node_phrase, between_text, of_text, shown}
use Rattle.printed_texts.specs.TextView.{is_between, phrase_in, phrases_in, argument_text, infix_in, prefix_in}

-- an operation that stands between its arguments is infix
pub between_is :
    (s : Signature) (o : Operation) (form : Form) (phrases : List Phrase) →
    is_between form (length phrases) ≡ true →
    application_phrase s o form phrases ≡ application_phrase s o infix_form phrases
between_is s o prefix_form phrases h = grind arith
between_is s o infix_form phrases h = refl

-- another operation stands before them
pub before_is :
    (s : Signature) (o : Operation) (form : Form) (phrases : List Phrase) →
    is_between form (length phrases) ≡ false →
    application_phrase s o form phrases ≡ prefix_phrase s o phrases
before_is s o prefix_form phrases h = refl
before_is s o infix_form [] h = refl
before_is s o infix_form (l ∷ []) h = refl
before_is s o infix_form (l ∷ r ∷ []) h = grind arith
before_is s o infix_form (l ∷ r ∷ t ∷ phrases) h = refl

-- there are as many phrases as arguments
pub as_many_phrases : (s : KeptSignature) (names : List Variable) (ts : List Term) → length (phrases_in s names ts) ≡ length ts
as_many_phrases s names [] = refl
as_many_phrases s names (t ∷ ts) = ap (λ n. suc n) (as_many_phrases s names ts)

-- their texts one by one
pub argument_texts :
    (s : KeptSignature) (names : List Variable) (ts : List Term) → map phrase_text (phrases_in s names ts) ≡ map (argument_text s names) ts
argument_texts s names [] = refl
argument_texts s names (t ∷ ts) = ap (λ texts. argument_text s names t ∷ texts) (argument_texts s names ts)

-- an infix phrase, with the brackets that it has by itself or as an operand
infix_shown :
    (operand twin : Bool) (between sort : List ℕ) →
    (twin ≡ false → sort ≡ []) →
    shown operand (record { text = bracketed twin between ++ sort; is_infix = not twin }) ≡ bracketed (operand || twin) between ++ sort
infix_shown true true between sort h = refl
infix_shown true false between sort h =
    let none : sort ≡ [] = h refl in
    ap (λ xs. round (between ++ xs)) none ∙ ap round (append-nil between) ∙ sym (append-nil (round between))
    ∙ ap (λ xs. round between ++ xs) (sym none)
infix_shown false true between sort h = refl
infix_shown false false between sort h = refl

no_sort : (s : Signature) (o : Operation) → has_twin s o ≡ false → of_text s o ≡ []
no_sort s o h = rw h refl

pub infix_is :
    (s : Signature) (o : Operation) (operand : Bool) (l r : Phrase) →
    shown operand (infix_phrase s o l r) ≡ bracketed (operand || has_twin s o) (between_text o l r) ++ of_text s o
infix_is s o operand l r = infix_shown operand (has_twin s o) (between_text o l r) (of_text s o) (no_sort s o)

-- an infix operation has the two members of its list as operands
pub two_operands :
    (s : KeptSignature) (names : List Variable) (op : Op) (ts : List Term) (t u : Term) →
    length ts ≡ 2 →
    t ≡ get_or ts 0 t →
    u ≡ get_or ts 1 u →
    infix_in s names op ts ≡ infix_phrase (signature_of s) (operation_of op) (phrase_in s names t) (phrase_in s names u)
two_operands s names op [] t u h e d = grind arith
two_operands s names op (x ∷ []) t u h e d = grind arith
two_operands s names op (x ∷ y ∷ []) t u h e d =
    let one : phrase_in s names x ≡ phrase_in s names t = ap (phrase_in s names) (sym e) in
    let two : phrase_in s names y ≡ phrase_in s names u = ap (phrase_in s names) (sym d) in
    ap (λ l. infix_phrase (signature_of s) (operation_of op) l (phrase_in s names y)) one
    ∙ ap (λ r. infix_phrase (signature_of s) (operation_of op) (phrase_in s names t) r) two
two_operands s names op (x ∷ y ∷ z ∷ ts) t u h e d = grind arith

-- what is written for an infix operation
pub infix_written :
    (needed : Bool) (start opened left sign right end whole : List ℕ) (first operator second sort : List ℕ) (position : ℕ) →
    opened ≡ start ++ opening needed →
    position ≡ length opened →
    left ≡ opened ++ first →
    sign ≡ left ++ operator →
    right ≡ sign ++ second →
    end ≡ with_closing_bracket needed position right →
    whole ≡ end ++ sort →
    whole ≡ start ++ (bracketed needed (first ++ operator ++ second) ++ sort)
infix_written needed start opened left sign right end whole first operator second sort position o p l s r e w =
    let written : right ≡ opened ++ (first ++ operator ++ second)
    = r ∙ ap (λ xs. xs ++ second) (s ∙ ap (λ xs. xs ++ operator) l ∙ append_assoc opened first operator)
    ∙ append_assoc opened (first ++ operator) second in
    w ∙ ap (λ xs. xs ++ sort) (closed_text needed start opened right end (first ++ operator ++ second) position o p written e)
    ∙ append_assoc start _ sort

-- what is written for a prefix operation
pub prefix_written :
    (needed : Bool) (start named opened written end whole : List ℕ) (name text sort : List ℕ) (position : ℕ) →
    named ≡ start ++ name →
    opened ≡ named ++ opening needed →
    position ≡ length opened →
    written ≡ opened ++ text →
    end ≡ with_closing_bracket needed position written →
    whole ≡ end ++ sort →
    whole ≡ start ++ (name ++ bracketed needed text ++ sort)
prefix_written needed start named opened written end whole name text sort position n o p t e w =
    w ∙ ap (λ xs. xs ++ sort) (closed_text needed named opened written end text position o p t e ∙ ap (λ xs. xs ++ bracketed needed text) n)
    ∙ ap (λ xs. xs ++ sort) (append_assoc start name (bracketed needed text))
    ∙ append_assoc start (name ++ bracketed needed text) sort

-- the arguments in their brackets, which stand where there are some
pub arguments_are :
    (s : KeptSignature) (names : List Variable) (ts : List Term) (needed : Bool) →
    (needed ≡ false → ts ≡ []) →
    (needed ≡ true → length ts ≡ 0 → ⊥) →
    arguments_text (phrases_in s names ts) ≡ bracketed needed (commas (map (argument_text s names) ts))
arguments_are s names [] false h k = refl
arguments_are s names [] true h k = absurd (k refl refl)
arguments_are s names (t ∷ ts) true h k = ap (λ texts. round (commas texts)) (argument_texts s names (t ∷ ts))
arguments_are s names (t ∷ ts) false h k = let none : (t ∷ ts) ≡ [] = h refl in grind arith

-- the text of an operation that stands before its arguments, where it is an operand too
shown_before : (operand : Bool) (s : Signature) (o : Operation) (phrases : List Phrase)
    → shown operand (prefix_phrase s o phrases) ≡ phrase_text (prefix_phrase s o phrases)
shown_before true s o phrases = refl
shown_before false s o phrases = refl

pub node_before :
    (s : KeptSignature) (names : List Variable) (number : ℕ) (op : Op) (ts : List Term) (operand : Bool) →
    Some (operation_of op) ≡ slice_get (signature_of s).operations number →
    is_between (operation_of op).form (length ts) ≡ false →
    shown operand (node_phrase (signature_of s) (slice_get (signature_of s).operations number) (phrases_in s names ts))
    ≡ phrase_text (prefix_in s names op ts)
node_before s names number op ts operand found before =
    let same : is_between (operation_of op).form (length (phrases_in s names ts)) ≡ false
    = ap (is_between (operation_of op).form) (as_many_phrases s names ts) ∙ before in
    ap (λ o. shown operand (node_phrase (signature_of s) o (phrases_in s names ts))) (sym found)
    ∙ ap (shown operand) (before_is (signature_of s) (operation_of op) (operation_of op).form (phrases_in s names ts) same)
    ∙ shown_before operand (signature_of s) (operation_of op) (phrases_in s names ts)

pub node_between :
    (s : KeptSignature) (names : List Variable) (number : ℕ) (op : Op) (ts : List Term) (operand : Bool) →
    Some (operation_of op) ≡ slice_get (signature_of s).operations number →
    is_between (operation_of op).form (length ts) ≡ true →
    shown operand (node_phrase (signature_of s) (slice_get (signature_of s).operations number) (phrases_in s names ts))
    ≡ shown operand (infix_in s names op ts)
node_between s names number op ts operand found between =
    let same : is_between (operation_of op).form (length (phrases_in s names ts)) ≡ true
    = ap (is_between (operation_of op).form) (as_many_phrases s names ts) ∙ between in
    ap (λ o. shown operand (node_phrase (signature_of s) o (phrases_in s names ts))) (sym found)
    ∙ ap (shown operand) (between_is (signature_of s) (operation_of op) (operation_of op).form (phrases_in s names ts) same)

pub node_is :
    (s : KeptSignature) (names : List Variable) (f : ℕ) (profile : Rc Op Global) (arguments : ProfiledTerms) (ts : List Term) →
    all_profiled ts ≡ arguments →
    phrase_in s names (TermNode f profile arguments)
    ≡ node_phrase (signature_of s) (slice_get (signature_of s).operations f) (phrases_in s names ts)
node_is s names f profile arguments ts same =
    ap (λ t. phrase_of (signature_of s) (map variable_of names) (bare t))
    (node_with_items (TermNode f profile arguments) f profile arguments ts refl same)

-- whether a list has members, by its length
pub empty_list : {X : Type 0} (xs : List X) (number : ℕ) → number ≡ length xs → not (nat_eq number 0) ≡ false → xs ≡ []
empty_list [] number h k = refl
empty_list (x ∷ xs) number h k = let computed : not (nat_eq (length (x ∷ xs)) 0) ≡ false = ap (λ n. not (nat_eq n 0)) (sym h)
    ∙ k in grind arith

pub full_list : {X : Type 0} (xs : List X) (number : ℕ) → number ≡ length xs → not (nat_eq number 0) ≡ true → length xs ≡ 0 → ⊥
full_list xs number h k none = let computed : not (nat_eq 0 0) ≡ true = ap (λ n. not (nat_eq n 0)) (sym (h ∙ none)) ∙ k in grind arith

pub filled_list : {X : Type 0} (xs : List X) (number : ℕ) → number ≡ length xs → nat_eq number 0 ≡ false → length xs ≡ 0 → ⊥
filled_list xs number h k none = let computed : nat_eq 0 0 ≡ false = ap (λ n. nat_eq n 0) (sym (h ∙ none)) ∙ k in grind arith
