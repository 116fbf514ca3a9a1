-- Lists of terms with values put in, compared member by member.
use Rattle.std.proofs.Common.{◌≡◌, ℕ, zero, suc, ◌+◌, ◌<◌, List, [], ◌∷◌, ◌++◌, length, get_or, take, refl, ap, sym, ◌∙◌, arith}
use Rattle.lotos_base.specs.Term.{Term as PlainTerm, Terms, variable, no_terms, term_then}
use Rattle.lotos_base.specs.Substitution.{Substitution, substituted, all_substituted}
use Rattle.lotos_base.proofs.SubstitutionLemmas.{substituted_variables, all_substituted_variables}
use Rattle.lotos_base.proofs.Pieces.{take_member}
use Rattle.sort_terms.specs.TermView.{term_of, bare_terms_of}
use Rattle.sort_terms.specs.declared.terms.Term.{Term}
use Rattle.sort_terms.proofs.TermListLemmas.{with_last, terms_of-append}

put_last : (v : Substitution) (ts : Terms) (u : PlainTerm)
    → all_substituted v (with_last ts u) ≡ with_last (all_substituted v ts) (substituted v u)
put_last v no_terms u = refl
put_last v (term_then t ts) u = ap (λ (rest : Terms). term_then (substituted v t) rest) (put_last v ts u)

put_append : (v : Substitution) (xs : List Term) (x : Term)
    → all_substituted v (bare_terms_of (xs ++ x ∷ [])) ≡ with_last (all_substituted v (bare_terms_of xs)) (substituted v (term_of x))
put_append v xs x = ap (all_substituted v) (terms_of-append xs x) ∙ put_last v (bare_terms_of xs) (term_of x)

module _ (v w : Substitution) where
  pub both_length : (xs ys : List Term) → all_substituted v (bare_terms_of xs) ≡ all_substituted w (bare_terms_of ys)
      → length xs ≡ length ys
  both_length [] [] e = refl
  both_length [] (y ∷ ys) e = cc
  both_length (x ∷ xs) [] e = cc
  both_length (x ∷ xs) (y ∷ ys) e =
      let rest : all_substituted v (bare_terms_of xs) ≡ all_substituted w (bare_terms_of ys) = cc in
      ap (λ (n : ℕ). suc n) (both_length xs ys rest)

  pub both_at : (xs ys : List Term) (i : ℕ) (x y : Term) → i < length xs → x ≡ get_or xs i x → y ≡ get_or ys i y
      → all_substituted v (bare_terms_of xs) ≡ all_substituted w (bare_terms_of ys) → substituted v (term_of x) ≡ substituted w (term_of y)
  both_at [] ys i x y h ex ey e = absurd (omega arith)
  both_at (x' ∷ xs) [] i x y h ex ey e = cc
  both_at (x' ∷ xs) (y' ∷ ys) zero x y h ex ey e =
      let first : substituted v (term_of x') ≡ substituted w (term_of y') = cc in
      ap (λ (t : Term). substituted v (term_of t)) ex ∙ first ∙ sym (ap (λ (t : Term). substituted w (term_of t)) ey)
  both_at (x' ∷ xs) (y' ∷ ys) (suc i) x y h ex ey e =
      let rest : all_substituted v (bare_terms_of xs) ≡ all_substituted w (bare_terms_of ys) = cc in
      both_at xs ys i x y (omega arith) ex ey rest

  pub both_more : (xs ys : List Term) (i : ℕ) (x y : Term) → i < length xs → i < length ys → x ≡ get_or xs i x → y ≡ get_or ys i y
      → all_substituted v (bare_terms_of (take i xs)) ≡ all_substituted w (bare_terms_of (take i ys))
      → substituted v (term_of x) ≡ substituted w (term_of y)
      → all_substituted v (bare_terms_of (take (i + 1) xs)) ≡ all_substituted w (bare_terms_of (take (i + 1) ys))
  both_more xs ys i x y hx hy ex ey e is =
      ap (λ (zs : List Term). all_substituted v (bare_terms_of zs)) (take_member xs i x hx ex) ∙ put_append v (take i xs) x
      ∙ ap (λ (ts : Terms). with_last ts (substituted v (term_of x))) e
      ∙ ap (λ (t : PlainTerm). with_last (all_substituted w (bare_terms_of (take i ys))) t) is
      ∙ sym (ap (λ (zs : List Term). all_substituted w (bare_terms_of zs)) (take_member ys i y hy ey) ∙ put_append w (take i ys) y)

-- The same where nothing is put into the first list.
module _ (w : Substitution) where
  pub one_length : (xs ys : List Term) → bare_terms_of xs ≡ all_substituted w (bare_terms_of ys) → length xs ≡ length ys
  one_length xs ys e = both_length variable w xs ys (all_substituted_variables (bare_terms_of xs) ∙ e)

  pub one_at : (xs ys : List Term) (i : ℕ) (x y : Term) → i < length xs → x ≡ get_or xs i x → y ≡ get_or ys i y
      → bare_terms_of xs ≡ all_substituted w (bare_terms_of ys) → term_of x ≡ substituted w (term_of y)
  one_at xs ys i x y h ex ey e =
      sym (substituted_variables (term_of x)) ∙ both_at variable w xs ys i x y h ex ey (all_substituted_variables (bare_terms_of xs) ∙ e)

  pub one_more : (xs ys : List Term) (i : ℕ) (x y : Term) → i < length xs → i < length ys → x ≡ get_or xs i x → y ≡ get_or ys i y
      → bare_terms_of (take i xs) ≡ all_substituted w (bare_terms_of (take i ys)) → term_of x ≡ substituted w (term_of y)
      → bare_terms_of (take (i + 1) xs) ≡ all_substituted w (bare_terms_of (take (i + 1) ys))
  one_more xs ys i x y hx hy ex ey e is =
      sym (all_substituted_variables (bare_terms_of (take (i + 1) xs)))
      ∙ both_more variable w xs ys i x y hx hy ex ey (all_substituted_variables (bare_terms_of (take i xs)) ∙ e)
      (substituted_variables (term_of x) ∙ is)
