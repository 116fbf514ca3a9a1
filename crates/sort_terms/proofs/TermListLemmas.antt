-- Lists of terms and what they stand for, member by member.
use Rattle.std.proofs.Common.{◌≡◌, ◌↔◌, ℕ, zero, suc, ◌+◌, ◌<◌, List, [], ◌∷◌, ◌++◌, length, get_or, take, refl, ap, sym, ◌∙◌, subst, arith}
use Rattle.std.proofs.lemmas.List.{take_all}
use Rattle.lotos_base.specs.Term.{Term as PlainTerm, Terms, no_terms, term_then}
use Rattle.lotos_base.specs.Sorting.{IsGround, AreGround}
use Rattle.lotos_base.proofs.Pieces.{take_member}
use Rattle.sort_terms.specs.ProfiledTerm.{ProfiledTerm, ProfiledTerms, no_profiled_terms, profiled_term_then}
use Rattle.sort_terms.specs.TermView.{profiled_of, all_profiled, term_of, bare_terms_of}
use Rattle.sort_terms.specs.declared.terms.Term.{Term}

AreGround-append : (xs : List Term) (x : Term) → AreGround (bare_terms_of xs) → IsGround (term_of x)
    → AreGround (bare_terms_of (xs ++ x ∷ []))
AreGround-append [] x h g = (g, tt)
AreGround-append (y ∷ ys) x h g = (h.0, AreGround-append ys x h.1 g)

pub ground_more : (xs : List Term) (i : ℕ) (x : Term) → i < length xs → x ≡ get_or xs i x
    → AreGround (bare_terms_of (take i xs)) → IsGround (term_of x) → AreGround (bare_terms_of (take (i + 1) xs))
ground_more xs i x h e all g =
    subst (λ ys. AreGround (bare_terms_of ys)) (sym (take_member xs i x h e)) (AreGround-append (take i xs) x all g)

pub ground_at : (xs : List Term) (i : ℕ) (x : Term) → i < length xs → x ≡ get_or xs i x
    → AreGround (bare_terms_of xs) → IsGround (term_of x)
ground_at [] i x h e all = absurd (omega arith)
ground_at (y ∷ ys) zero x h e all = subst (λ (z : Term). IsGround (term_of z)) (sym e) all.0
ground_at (y ∷ ys) (suc i) x h e all = ground_at ys i x (omega arith) e all.1

pub same_length : (xs ys : List Term) → bare_terms_of xs ≡ bare_terms_of ys → length xs ≡ length ys
same_length [] [] e = refl
same_length [] (y ∷ ys) e = cc
same_length (x ∷ xs) [] e = cc
same_length (x ∷ xs) (y ∷ ys) e =
    let rest : bare_terms_of xs ≡ bare_terms_of ys = cc in
    ap (λ (n : ℕ). suc n) (same_length xs ys rest)

pub same_at : (xs ys : List Term) (i : ℕ) (x y : Term) → i < length xs → x ≡ get_or xs i x
    → y ≡ get_or ys i y → bare_terms_of xs ≡ bare_terms_of ys → term_of x ≡ term_of y
same_at [] ys i x y h ex ey e = absurd (omega arith)
same_at (x' ∷ xs) [] i x y h ex ey e = cc
same_at (x' ∷ xs) (y' ∷ ys) zero x y h ex ey e =
    let first : term_of x' ≡ term_of y' = cc in
    ap term_of ex ∙ first ∙ sym (ap term_of ey)
same_at (x' ∷ xs) (y' ∷ ys) (suc i) x y h ex ey e =
    let rest : bare_terms_of xs ≡ bare_terms_of ys = cc in
    same_at xs ys i x y (omega arith) ex ey rest

-- one term more at the end
abbrev pub with_last : Terms → PlainTerm → Terms
with_last no_terms u = term_then u no_terms
with_last (term_then t ts) u = term_then t (with_last ts u)

pub terms_of-append : (xs : List Term) (x : Term) → bare_terms_of (xs ++ x ∷ []) ≡ with_last (bare_terms_of xs) (term_of x)
terms_of-append [] x = refl
terms_of-append (y ∷ ys) x = ap (λ ts. term_then (term_of y) ts) (terms_of-append ys x)

pub same_more : (xs ys : List Term) (i : ℕ) (x y : Term) → i < length xs → i < length ys
    → x ≡ get_or xs i x → y ≡ get_or ys i y → bare_terms_of (take i xs) ≡ bare_terms_of (take i ys)
    → term_of x ≡ term_of y → bare_terms_of (take (i + 1) xs) ≡ bare_terms_of (take (i + 1) ys)
same_more xs ys i x y hx hy ex ey e is =
    ap bare_terms_of (take_member xs i x hx ex) ∙ terms_of-append (take i xs) x
    ∙ ap (λ (ts : Terms). with_last ts (term_of x)) e ∙ ap (λ (t : PlainTerm). with_last (bare_terms_of (take i ys)) t) is
    ∙ sym (ap bare_terms_of (take_member ys i y hy ey) ∙ terms_of-append (take i ys) y)

-- one term with profiles more at the end
abbrev pub with_last_profiled : ProfiledTerms → ProfiledTerm → ProfiledTerms
with_last_profiled no_profiled_terms u = profiled_term_then u no_profiled_terms
with_last_profiled (profiled_term_then t ts) u = profiled_term_then t (with_last_profiled ts u)

pub all_profiled-append : (xs : List Term) (x : Term)
    → all_profiled (xs ++ x ∷ []) ≡ with_last_profiled (all_profiled xs) (profiled_of x)
all_profiled-append [] x = refl
all_profiled-append (y ∷ ys) x = ap (λ ts. profiled_term_then (profiled_of y) ts) (all_profiled-append ys x)

-- all but the last ones are identical
pub same_by_last : (xs ys : List Term) (last : ℕ) (x y : Term) → last + 1 ≡ length xs → last + 1 ≡ length ys
    → x ≡ get_or xs last x → y ≡ get_or ys last y → bare_terms_of (take last xs) ≡ bare_terms_of (take last ys)
    → (term_of x ≡ term_of y) ↔ (bare_terms_of xs ≡ bare_terms_of ys)
same_by_last xs ys last x y one two ex ey before = (
  (λ is. sym (ap bare_terms_of (whole xs one)) ∙ same_more xs ys last x y (omega (arith, one)) (omega (arith, two)) ex ey before is
      ∙ ap bare_terms_of (whole ys two)),
  (λ same. same_at xs ys last x y (omega (arith, one)) ex ey same),
)
  where
    whole : (zs : List Term) → last + 1 ≡ length zs → take (last + 1) zs ≡ zs
    whole zs e = take_all (last + 1) zs (omega (arith, e))
