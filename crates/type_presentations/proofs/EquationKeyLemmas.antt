-- What equal keys of equations say.
use Rattle.std.proofs.Common.{◌≡◌, ℕ, zero, suc, Bool, true, false, List, [], ◌∷◌, ◌++◌, ◌+◌, ◌<◌, length, drop, get_or, append_assoc, refl, ap, sym, ◌∙◌, arith}
use Rattle.std.specs.Prelude.{◌&&◌, ◌↔◌, nat_eq}
use Rattle.std.proofs.lemmas.Bool.{eq-eqb, eqb-true, and_from}
use Rattle.std.proofs.lemmas.List.{append-nil}
use Rattle.lotos_base.proofs.Pieces.{next_member, same_heads}
use Rattle.lotos_base.specs.Term.{Term, Terms, variable, node, no_terms, term_then}
use Rattle.lotos_base.specs.Equation.{Place, Equation}
use Rattle.lotos_base.specs.Tests.{term_eq}
use Rattle.lotos_base.proofs.TestLemmas.{Decides-term_eq}
use Rattle.sort_terms.specs.TermView.{term_of, bare_terms_of}
use Rattle.sort_terms.specs.declared.terms.Term.{Term as CodeTerm}
use Rattle.type_definitions.specs.Presentation.{is_same_place, is_same_equation}
use Rattle.type_presentations.specs.EquationKeys.{term_key, terms_key, equation_key, EquationKeysTell}

-- ---- Lists and tests.

rest_is : (x y : ℕ) (xs ys : List ℕ) → x ∷ xs ≡ y ∷ ys → xs ≡ ys
rest_is x y xs ys e = cc

not_both : (n : ℕ) → n ≡ 0 → n ≡ 1 → ⊥
not_both n zero_is one_is = omega (arith, zero_is, one_is)

left_of : (a b : Bool) → (a && b) ≡ true → a ≡ true
left_of true b e = refl
left_of false b e = cc

right_of : (a b : Bool) → (a && b) ≡ true → b ≡ true
right_of true b e = e
right_of false b e = cc

-- ---- A key has one term in front.

mutual
  read_term : (t u : Term) (xs ys : List ℕ) → term_key t ++ xs ≡ term_key u ++ ys → (t ≡ u) × (xs ≡ ys)
  read_term (variable n s) (variable m r) xs ys e =
      let behind : n ∷ s ∷ xs ≡ m ∷ r ∷ ys = rest_is 0 0 (n ∷ s ∷ xs) (m ∷ r ∷ ys) e in
      let number : n ≡ m = same_heads n m (s ∷ xs) (r ∷ ys) behind in
      let further : s ∷ xs ≡ r ∷ ys = rest_is n m (s ∷ xs) (r ∷ ys) behind in
      let sort : s ≡ r = same_heads s r xs ys further in
      (ap (λ (k : ℕ). variable k s) number ∙ ap (λ (k : ℕ). variable m k) sort, rest_is s r xs ys further)
  read_term (variable n s) (node g us) xs ys e =
      absurd (not_both 0 refl (same_heads 0 1 (n ∷ s ∷ xs) (g ∷ (terms_key us ++ ys)) e))
  read_term (node f ts) (variable m r) xs ys e =
      absurd (not_both 1 (same_heads 1 0 (f ∷ (terms_key ts ++ xs)) (m ∷ r ∷ ys) e) refl)
  read_term (node f ts) (node g us) xs ys e =
      let behind : f ∷ (terms_key ts ++ xs) ≡ g ∷ (terms_key us ++ ys) =
      rest_is 1 1 (f ∷ (terms_key ts ++ xs)) (g ∷ (terms_key us ++ ys)) e in
      let operation : f ≡ g = same_heads f g (terms_key ts ++ xs) (terms_key us ++ ys) behind in
      let rest = read_terms ts us xs ys (rest_is f g (terms_key ts ++ xs) (terms_key us ++ ys) behind) in
      (ap (λ (k : ℕ). node k ts) operation ∙ ap (λ (vs : Terms). node g vs) rest.0, rest.1)

  read_terms : (ts us : Terms) (xs ys : List ℕ) → terms_key ts ++ xs ≡ terms_key us ++ ys → (ts ≡ us) × (xs ≡ ys)
  read_terms no_terms no_terms xs ys e = (refl, rest_is 0 0 xs ys e)
  read_terms no_terms (term_then u us) xs ys e =
      absurd (not_both 0 refl (same_heads 0 1 xs ((term_key u ++ terms_key us) ++ ys) e))
  read_terms (term_then t ts) no_terms xs ys e =
      absurd (not_both 1 (same_heads 1 0 ((term_key t ++ terms_key ts) ++ xs) ys e) refl)
  read_terms (term_then t ts) (term_then u us) xs ys e =
      let behind : (term_key t ++ terms_key ts) ++ xs ≡ (term_key u ++ terms_key us) ++ ys =
      rest_is 1 1 ((term_key t ++ terms_key ts) ++ xs) ((term_key u ++ terms_key us) ++ ys) e in
      let apart : term_key t ++ (terms_key ts ++ xs) ≡ term_key u ++ (terms_key us ++ ys) =
      sym (append_assoc (term_key t) (terms_key ts) xs) ∙ behind ∙ append_assoc (term_key u) (terms_key us) ys in
      let first = read_term t u (terms_key ts ++ xs) (terms_key us ++ ys) apart in
      let rest = read_terms ts us xs ys first.1 in
      (ap (λ (v : Term). term_then v ts) first.0 ∙ ap (λ (vs : Terms). term_then u vs) rest.0, rest.1)

-- ---- Equations.

same_place : (p q : Place) → is_same_place p q ≡ true → (p.text ≡ q.text) × (p.line ≡ q.line) × (p.column ≡ q.column)
same_place p q h =
    let later = right_of (nat_eq p.text q.text) (nat_eq p.line q.line && nat_eq p.column q.column) h in (
      eqb-true p.text q.text (left_of (nat_eq p.text q.text) (nat_eq p.line q.line && nat_eq p.column q.column) h),
      eqb-true p.line q.line (left_of (nat_eq p.line q.line) (nat_eq p.column q.column) later),
      eqb-true p.column q.column (right_of (nat_eq p.line q.line) (nat_eq p.column q.column) later),
    )

one_place : (p q : Place) → p.text ≡ q.text → p.line ≡ q.line → p.column ≡ q.column → is_same_place p q ≡ true
one_place p q text line column =
    and_from _ _ (eq-eqb p.text q.text text) (and_from _ _ (eq-eqb p.line q.line line) (eq-eqb p.column q.column column))

key_to_same : (a b : Equation) → equation_key a ≡ equation_key b → is_same_equation a b ≡ true
key_to_same a b e =
    let sides_a : List ℕ = term_key a.left ++ term_key a.right in
    let sides_b : List ℕ = term_key b.left ++ term_key b.right in
    let text : a.place.text ≡ b.place.text =
    same_heads _ _ (a.place.line ∷ a.place.column ∷ sides_a) (b.place.line ∷ b.place.column ∷ sides_b) e in
    let after_text =
    rest_is a.place.text b.place.text (a.place.line ∷ a.place.column ∷ sides_a) (b.place.line ∷ b.place.column ∷ sides_b) e in
    let line : a.place.line ≡ b.place.line = same_heads _ _ (a.place.column ∷ sides_a) (b.place.column ∷ sides_b) after_text in
    let after_line = rest_is a.place.line b.place.line (a.place.column ∷ sides_a) (b.place.column ∷ sides_b) after_text in
    let column : a.place.column ≡ b.place.column = same_heads _ _ sides_a sides_b after_line in
    let sides : sides_a ≡ sides_b = rest_is a.place.column b.place.column sides_a sides_b after_line in
    let left = read_term a.left b.left (term_key a.right) (term_key b.right) sides in
    let whole : term_key a.right ++ [] ≡ term_key b.right ++ [] = ap (λ (xs : List ℕ). xs ++ []) left.1 in
    let right = read_term a.right b.right [] [] whole in
    and_from (is_same_place a.place b.place) (term_eq a.left b.left && term_eq a.right b.right)
    (one_place a.place b.place text line column)
    (and_from (term_eq a.left b.left) (term_eq a.right b.right) ((Decides-term_eq a.left b.left).1 left.0)
    ((Decides-term_eq a.right b.right).1 right.0))

same_to_key : (a b : Equation) → is_same_equation a b ≡ true → equation_key a ≡ equation_key b
same_to_key a b h =
    let place = same_place a.place b.place (left_of (is_same_place a.place b.place) (term_eq a.left b.left && term_eq a.right b.right) h) in
    let sides = right_of (is_same_place a.place b.place) (term_eq a.left b.left && term_eq a.right b.right) h in
    let left : a.left ≡ b.left = (Decides-term_eq a.left b.left).0 (left_of (term_eq a.left b.left) (term_eq a.right b.right) sides) in
    let right : a.right ≡ b.right =
    (Decides-term_eq a.right b.right).0 (right_of (term_eq a.left b.left) (term_eq a.right b.right) sides) in
    let sides_a : List ℕ = term_key a.left ++ term_key a.right in
    ap (λ (n : ℕ). n ∷ a.place.line ∷ a.place.column ∷ sides_a) place.0
    ∙ ap (λ (n : ℕ). b.place.text ∷ n ∷ a.place.column ∷ sides_a) place.1
    ∙ ap (λ (n : ℕ). b.place.text ∷ b.place.line ∷ n ∷ sides_a) place.2
    ∙ ap (λ (t : Term). b.place.text ∷ b.place.line ∷ b.place.column ∷ (term_key t ++ term_key a.right)) left
    ∙ ap (λ (t : Term). b.place.text ∷ b.place.line ∷ b.place.column ∷ (term_key b.left ++ term_key t)) right

pub equation_keys_tell : EquationKeysTell
equation_keys_tell = record { equations = λ a b. (key_to_same a b, same_to_key a b) }

-- ---- A key that grows term by term.

pub terms_more : (terms : List CodeTerm) (before pushed new whole : List ℕ) (i : ℕ) (t : CodeTerm) → i < length terms
    → t ≡ get_or terms i t → pushed ≡ before ++ 1 ∷ [] → new ≡ pushed ++ term_key (term_of t)
    → before ++ terms_key (bare_terms_of (drop i terms)) ≡ whole → new ++ terms_key (bare_terms_of (drop (i + 1) terms)) ≡ whole
terms_more terms before pushed new whole i t within is head body so_far =
    let rest : List ℕ = terms_key (bare_terms_of (drop (i + 1) terms)) in
    let this : List ℕ = term_key (term_of t) in
    ap (λ (xs : List ℕ). xs ++ rest) (body ∙ ap (λ (xs : List ℕ). xs ++ this) head)
    ∙ append_assoc (before ++ 1 ∷ []) this rest ∙ append_assoc before (1 ∷ []) (this ++ rest)
    ∙ sym (ap (λ (ts : List CodeTerm). before ++ terms_key (bare_terms_of ts)) (next_member terms i t within is)) ∙ so_far
