-- Lists of sorts, operations, equations and terms that agree one by one.
use Rattle.std.proofs.Common.{◌≡◌, ◌↔◌, IsTrue, Bool, false, ◌+◌, ◌<◌, ℕ, zero, suc, List, [], ◌∷◌, ◌++◌, map, length, get_or, take, refl, ap, sym, ◌∙◌, subst, arith}
use Rattle.std.proofs.lemmas.List.{take_more}
use Rattle.sort_terms.specs.EquationView.{equation_of}
use Rattle.sort_terms.specs.Operations.{operation_of, sort_of}
use Rattle.sort_terms.specs.SortedView.{term_in}
use Rattle.sort_terms.specs.declared.equations.Equation.{Equation}
use Rattle.sort_terms.specs.declared.operations.Op.{Op}
use Rattle.sort_terms.specs.declared.operations.Sort.{Sort}
use Rattle.sort_terms.specs.declared.sorted.Sorted.{Sorted}
use Rattle.certificate_theory.specs.SameData.{AreSameSorts, AreSameOperations, AreSameEquations}
use Rattle.bisim_check.specs.OneByOne.{OneByOne}
use Rattle.bisim_check.specs.Agreeing.{AgreeOnSort, AreOneOp, AreOneRule, AreOneTerm}

-- ---- Member by member

module _ {X : Type 0} (R : X → X → Type 0) where
  pub as_many : (xs ys : List X) → OneByOne R xs ys → length xs ≡ length ys
  as_many [] [] h = refl
  as_many (x ∷ xs) (y ∷ ys) h = ap (λ (n : ℕ). suc n) (as_many xs ys h.1)
  as_many [] (y ∷ ys) h = absurd h
  as_many (x ∷ xs) [] h = absurd h

  pub related_at : (xs ys : List X) (i : ℕ) (x y : X) → i < length xs → x ≡ get_or xs i x → y ≡ get_or ys i y → OneByOne R xs ys → R x y
  related_at [] [] i x y within ex ey h = absurd (omega (arith, within))
  related_at (x' ∷ xs) (y' ∷ ys) zero x y within ex ey h = subst (λ (it : X). R it y) (sym ex) (subst (R x') (sym ey) h.0)
  related_at (x' ∷ xs) (y' ∷ ys) (suc i) x y within ex ey h = related_at xs ys i x y (omega (arith, within)) ex ey h.1
  related_at [] (y' ∷ ys) i x y within ex ey h = absurd h
  related_at (x' ∷ xs) [] i x y within ex ey h = absurd h

  related_last : (xs ys : List X) (x y : X) → OneByOne R xs ys → R x y → OneByOne R (xs ++ (x ∷ [])) (ys ++ (y ∷ []))
  related_last [] [] x y h last = (last, tt)
  related_last (x' ∷ xs) (y' ∷ ys) x y h last = (h.0, related_last xs ys x y h.1 last)
  related_last [] (y' ∷ ys) x y h last = absurd h
  related_last (x' ∷ xs) [] x y h last = absurd h

  pub related_more : (xs ys : List X) (i : ℕ) (x y : X) → i < length xs → i < length ys → x ≡ get_or xs i x → y ≡ get_or ys i y
      → OneByOne R (take i xs) (take i ys) → R x y → OneByOne R (take (i + 1) xs) (take (i + 1) ys)
  related_more xs ys i x y hx hy ex ey h last =
      let left : take (i + 1) xs ≡ take i xs ++ (x ∷ []) =
      take_more xs i x hx ∙ ap (λ (it : X). take i xs ++ (it ∷ [])) (sym ex) in
      let right : take (i + 1) ys ≡ take i ys ++ (y ∷ []) =
      take_more ys i y hy ∙ ap (λ (it : X). take i ys ++ (it ∷ [])) (sym ey) in
      subst (λ (it : List X). OneByOne R it (take (i + 1) ys)) (sym left)
      (subst (OneByOne R (take i xs ++ (x ∷ []))) (sym right) (related_last (take i xs) (take i ys) x y h last))

-- ---- What they say of the plain lists

pub same_sorts : (sorts others : List Sort) → OneByOne AgreeOnSort sorts others ↔ AreSameSorts (map sort_of sorts) (map sort_of others)
same_sorts [] [] = ((λ h. h), (λ h. h))
same_sorts (s ∷ sorts) (r ∷ others) =
    let rest : OneByOne AgreeOnSort sorts others ↔ AreSameSorts (map sort_of sorts) (map sort_of others) = same_sorts sorts others in
    ((λ h. (h.0, rest.0 h.1)), (λ h. (h.0, rest.1 h.1)))
same_sorts [] (r ∷ others) = ((λ h. h), (λ h. h))
same_sorts (s ∷ sorts) [] = ((λ h. h), (λ h. h))

pub same_operations : (ops others : List Op) → OneByOne AreOneOp ops others
    ↔ AreSameOperations (map operation_of ops) (map operation_of others)
same_operations [] [] = ((λ h. h), (λ h. h))
same_operations (o ∷ ops) (p ∷ others) =
    let rest : OneByOne AreOneOp ops others ↔ AreSameOperations (map operation_of ops) (map operation_of others) =
    same_operations ops others in
    ((λ h. (h.0, rest.0 h.1)), (λ h. (h.0, rest.1 h.1)))
same_operations [] (p ∷ others) = ((λ h. h), (λ h. h))
same_operations (o ∷ ops) [] = ((λ h. h), (λ h. h))

pub same_equations : (equations others : List Equation) → OneByOne AreOneRule equations others
    ↔ AreSameEquations (map equation_of equations) (map equation_of others)
same_equations [] [] = ((λ h. h), (λ h. h))
same_equations (e ∷ equations) (f ∷ others) =
    let rest : OneByOne AreOneRule equations others ↔ AreSameEquations (map equation_of equations) (map equation_of others) =
    same_equations equations others in
    ((λ h. (h.0, rest.0 h.1)), (λ h. (h.0, rest.1 h.1)))
same_equations [] (f ∷ others) = ((λ h. h), (λ h. h))
same_equations (e ∷ equations) [] = ((λ h. h), (λ h. h))

pub same_terms : (terms others : List Sorted) → OneByOne AreOneTerm terms others ↔ (map term_in terms ≡ map term_in others)
same_terms [] [] = ((λ h. refl), (λ h. tt))
same_terms (t ∷ terms) (u ∷ others) =
    let rest : OneByOne AreOneTerm terms others ↔ (map term_in terms ≡ map term_in others) = same_terms terms others in (
      (λ h. let first : term_in t ≡ term_in u = h.0 in let more : map term_in terms ≡ map term_in others = rest.0 h.1 in cc),
      (λ e. (cc e, rest.1 (cc e))),
    )
same_terms [] (u ∷ others) = ((λ h. absurd h), (λ e. absurd (cc e)))
same_terms (t ∷ terms) [] = ((λ h. absurd h), (λ e. absurd (cc e)))

-- ---- What a comparison of the code tells

pub never : IsTrue false → ⊥
never e = cc e

-- of lists that were read
told_of : {X : Type 0} (R : X → X → Type 0) (r : Bool) (xs ys one other : List X) → xs ≡ one → ys ≡ other
    → IsTrue r ↔ OneByOne R xs ys → IsTrue r ↔ OneByOne R one other
told_of {X = X} R r xs ys one other e f h =
    subst (λ (it : List X). IsTrue r ↔ OneByOne R it other) e (subst (λ (it : List X). IsTrue r ↔ OneByOne R xs it) f h)

pub sorts_told : (r : Bool) (xs ys one other : List Sort) → xs ≡ one → ys ≡ other → IsTrue r ↔ OneByOne AgreeOnSort xs ys
    → IsTrue r ↔ AreSameSorts (map sort_of one) (map sort_of other)
sorts_told r xs ys one other e f h =
    let told : IsTrue r ↔ OneByOne AgreeOnSort one other = told_of AgreeOnSort r xs ys one other e f h in
    let same : OneByOne AgreeOnSort one other ↔ AreSameSorts (map sort_of one) (map sort_of other) = same_sorts one other in
    ((λ t. same.0 (told.0 t)), (λ s. told.1 (same.1 s)))

pub operations_told : (r : Bool) (xs ys one other : List Op) → xs ≡ one → ys ≡ other → IsTrue r ↔ OneByOne AreOneOp xs ys
    → IsTrue r ↔ AreSameOperations (map operation_of one) (map operation_of other)
operations_told r xs ys one other e f h =
    let told : IsTrue r ↔ OneByOne AreOneOp one other = told_of AreOneOp r xs ys one other e f h in
    let same : OneByOne AreOneOp one other ↔ AreSameOperations (map operation_of one) (map operation_of other) =
    same_operations one other in
    ((λ t. same.0 (told.0 t)), (λ s. told.1 (same.1 s)))

pub equations_told : (r : Bool) (xs ys one other : List Equation) → xs ≡ one → ys ≡ other → IsTrue r ↔ OneByOne AreOneRule xs ys
    → IsTrue r ↔ AreSameEquations (map equation_of one) (map equation_of other)
equations_told r xs ys one other e f h =
    let told : IsTrue r ↔ OneByOne AreOneRule one other = told_of AreOneRule r xs ys one other e f h in
    let same : OneByOne AreOneRule one other ↔ AreSameEquations (map equation_of one) (map equation_of other) =
    same_equations one other in
    ((λ t. same.0 (told.0 t)), (λ s. told.1 (same.1 s)))

pub terms_told : (r : Bool) (xs ys one other : List Sorted) → xs ≡ one → ys ≡ other → IsTrue r ↔ OneByOne AreOneTerm xs ys
    → IsTrue r ↔ (map term_in one ≡ map term_in other)
terms_told r xs ys one other e f h =
    let told : IsTrue r ↔ OneByOne AreOneTerm one other = told_of AreOneTerm r xs ys one other e f h in
    let same : OneByOne AreOneTerm one other ↔ (map term_in one ≡ map term_in other) = same_terms one other in
    ((λ t. same.0 (told.0 t)), (λ s. told.1 (same.1 s)))
