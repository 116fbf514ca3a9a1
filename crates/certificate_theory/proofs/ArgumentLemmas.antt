-- Arguments of terms: they are smaller, irreducible where the whole is, and stand for the new variables of a split.
use Rattle.std.proofs.Common.{◌≡◌, ◌<◌, ◌≤◌, ℕ, zero, suc, ◌+◌, List, [], ◌∷◌, Bool, true, false, nat_eq, refl, ap, sym, ◌∙◌, subst, inl, inr, arith}
use Rattle.std.specs.Prelude.{◌⊎◌, ◌&&◌, Some, slice_get, if◌then◌else◌}
use Rattle.std.proofs.lemmas.Bool.Decides.{Decides-eqb, Decides-and, not_from_Decides}
use Rattle.std.proofs.lemmas.Option.{same_Some}
use Rattle.lotos_base.specs.Signature.{Signature, IsSort}
use Rattle.lotos_base.specs.Term.{Term, variable, node, Terms, no_terms, term_then}
use Rattle.lotos_base.specs.Sorting.{HasSort, HaveSorts, AreGround, IsGroundOf, Occurs, OccursAmong}
use Rattle.lotos_base.specs.Path.{argument_at, with_argument}
use Rattle.lotos_base.specs.Substitution.{Substitution, substituted, all_substituted, followed_by, KeepsSorts}
use Rattle.lotos_base.proofs.PathLemmas.{subterm_under, put_under}
use Rattle.lotos_base.proofs.SubstitutionLemmas.{substituted_twice, substituted_agree, all_substituted_agree, substituted_occurs, occurs_substituted}
use Rattle.rewriting_theory.specs.Rule.{Rule}
use Rattle.rewriting_theory.specs.Rewriting.{IsNormal}
use Rattle.certificate_theory.specs.Covers.{Numbered}
use Rattle.certificate_theory.specs.Patterns.{put_for, variables_from, operation_on}

-- ---- sizes

abbrev mutual
  pub size : Term → ℕ
  size (variable n s) = 1
  size (node f ts) = suc (sizes ts)

  pub sizes : Terms → ℕ
  sizes no_terms = 0
  sizes (term_then t ts) = suc (size t + sizes ts)

-- A ground irreducible term of a sort that is smaller than a number.
pub record IsSmall (signature : Signature) (rules : List Rule) (k s : ℕ) (t : Term) : Type 0 where
  pub ground_of : IsGroundOf signature s t
  pub normal : IsNormal rules t
  pub small : size t < k

-- ---- arguments

-- an argument of an irreducible term is irreducible
pub argument_normal : (rules : List Rule) (f k : ℕ) (ts : Terms) (a : Term) → argument_at k ts ≡ Some a → IsNormal rules (node f ts)
    → IsNormal rules a
argument_normal rules f k ts a at normal u link =
    normal (node f (with_argument k u ts)) (record {
      path = k ∷ link.path;
      rule = link.rule;
      is_rule = link.is_rule;
      values = link.values;
      old = subterm_under k link.path f ts a (substituted link.values link.rule.left) at link.old;
      new = put_under k link.path f (substituted link.values link.rule.right) ts a u at link.new;
    })

-- P holds of each argument and its sort.
abbrev pub AllArguments : (ℕ → Term → Type 0) → Terms → List ℕ → Type 0
AllArguments P no_terms [] = Unit {0}
AllArguments P no_terms (s ∷ ss) = ⊥
AllArguments P (term_then t ts) [] = ⊥
AllArguments P (term_then t ts) (s ∷ ss) = P s t × AllArguments P ts ss

-- the arguments of ground irreducible terms are such terms, and smaller
pub small_arguments : (signature : Signature) (rules : List Rule) (k : ℕ) (ts : Terms) (ss : List ℕ) → AreGround ts
    → HaveSorts signature ts ss → ((i : ℕ) (a : Term) → argument_at i ts ≡ Some a → IsNormal rules a) → sizes ts ≤ k
    → AllArguments (IsSmall signature rules k) ts ss
small_arguments signature rules k no_terms [] g h normal le = tt
small_arguments signature rules k no_terms (s ∷ ss) g h normal le = h
small_arguments signature rules k (term_then t ts) [] g h normal le = h
small_arguments signature rules k (term_then t ts) (s ∷ ss) g h normal le = (
  record {
    ground_of = record { ground = g.0; sorted = h.0 };
    normal = normal 0 t refl;
    small = omega (arith, le);
  },
  small_arguments signature rules k ts ss g.1 h.1 (λ i. normal (suc i)) (omega (arith, le)),
)

pub small_arguments_of : (signature : Signature) (rules : List Rule) (k f : ℕ) (ts : Terms) (ss : List ℕ) → AreGround ts
    → HaveSorts signature ts ss → IsNormal rules (node f ts) → sizes ts ≤ k → AllArguments (IsSmall signature rules k) ts ss
small_arguments_of signature rules k f ts ss g h normal le =
    small_arguments signature rules k ts ss g h (λ i a at. argument_normal rules f i ts a at normal) le

pub argument_occurs : (k : ℕ) (ts : Terms) (a : Term) (n s : ℕ) → argument_at k ts ≡ Some a → Occurs n s a → OccursAmong n s ts
argument_occurs k no_terms a n s e o = absurd (cc e)
argument_occurs zero (term_then t ts) a n s e o = inl (subst (Occurs n s) (sym (same_Some t a e)) o)
argument_occurs (suc k) (term_then t ts) a n s e o = inr (argument_occurs k ts a n s e o)

-- ---- new variables

-- the variables of a list of new ones
pub from_occurs : (ss : List ℕ) (next n r : ℕ) → OccursAmong n r (variables_from next ss)
    → (i : ℕ) × (n ≡ next + i) × (slice_get ss i ≡ Some r)
from_occurs [] next n r o = absurd o
from_occurs (s ∷ ss) next n r (inl o) = let same = o.0 in (0, omega (arith, same), ap (λ (q : ℕ). Some q) o.1)
from_occurs (s ∷ ss) next n r (inr o) =
    let later = from_occurs ss (suc next) n r o in
    let e = later.1 in
    (suc later.0, omega (arith, e), later.2)

-- the terms of a list for the numbers from the next one on, and other values elsewhere
abbrev pub extended : ℕ → Terms → Substitution → Substitution
extended next no_terms values n s = values n s
extended next (term_then t ts) values n s = if nat_eq next n then t else extended (suc next) ts values n s

pub extended_below : (ts : Terms) (next : ℕ) (values : Substitution) (n s : ℕ) → n < next → extended next ts values n s ≡ values n s
extended_below no_terms next values n s less = refl
extended_below (term_then t ts) next values n s less =
    go (nat_eq next n) refl (extended_below ts (suc next) values n s (omega (arith, less)))
  where
    go : (b : Bool) → nat_eq next n ≡ b → extended (suc next) ts values n s ≡ values n s
        → (if b then t else extended (suc next) ts values n s) ≡ values n s
    go true e rest = let same : next ≡ n = (Decides-eqb next n).0 e in absurd (omega (arith, same, less))
    go false e rest = rest

extended_past : (t : Term) (ts : Terms) (next : ℕ) (values : Substitution) (n s : ℕ) → next < n
    → extended next (term_then t ts) values n s ≡ extended (suc next) ts values n s
extended_past t ts next values n s less = go (nat_eq next n) refl
  where
    go : (b : Bool) → nat_eq next n ≡ b
        → (if b then t else extended (suc next) ts values n s) ≡ extended (suc next) ts values n s
    go true e = let same : next ≡ n = (Decides-eqb next n).0 e in absurd (omega (arith, same, less))
    go false e = refl

extended_first : (t : Term) (ts : Terms) (next : ℕ) (values : Substitution) (n s : ℕ) → next ≡ n
    → extended next (term_then t ts) values n s ≡ t
extended_first t ts next values n s same = rw ((Decides-eqb next n).1 same) refl

pub extended_at : (P : ℕ → Term → Type 0) (ts : Terms) (ss : List ℕ) (next : ℕ) (values : Substitution) (i n r : ℕ)
    → AllArguments P ts ss → slice_get ss i ≡ Some r → n ≡ next + i → P r (extended next ts values n r)
extended_at P no_terms [] next values i n r h at e = absurd (cc at)
extended_at P no_terms (s ∷ ss) next values i n r h at e = absurd h
extended_at P (term_then t ts) [] next values i n r h at e = absurd h
extended_at P (term_then t ts) (s ∷ ss) next values zero n r h at e =
    subst (P r) (sym (extended_first t ts next values n r (omega (arith, e))))
    (subst (λ (q : ℕ). P q t) (same_Some s r at) h.0)
extended_at P (term_then t ts) (s ∷ ss) next values (suc i) n r h at e =
    subst (P r) (sym (extended_past t ts next values n r (omega (arith, e))))
    (extended_at P ts ss (suc next) values i n r h.1 at (omega (arith, e)))

pub extended_terms : (signature : Signature) (ts : Terms) (ss : List ℕ) (next : ℕ) (values : Substitution) → HaveSorts signature ts ss
    → all_substituted (extended next ts values) (variables_from next ss) ≡ ts
extended_terms signature no_terms [] next values h = refl
extended_terms signature no_terms (s ∷ ss) next values h = absurd h
extended_terms signature (term_then t ts) [] next values h = absurd h
extended_terms signature (term_then t ts) (s ∷ ss) next values h =
    let first : extended next (term_then t ts) values next s ≡ t = extended_first t ts next values next s refl in
    let rest : all_substituted (extended next (term_then t ts) values) (variables_from (suc next) ss) ≡ ts =
    all_substituted_agree (extended next (term_then t ts) values) (extended (suc next) ts values) (variables_from (suc next) ss)
    (λ n r o. extended_past t ts next values n r (above ss next n r o))
    ∙ extended_terms signature ts ss (suc next) values h.1 in
    λ i. term_then (first i) (rest i)
  where
    above : (ss : List ℕ) (next n r : ℕ) → OccursAmong n r (variables_from (suc next) ss) → next < n
    above ss next n r o = let from = from_occurs ss (suc next) n r o in let e = from.1 in omega (arith, e)

-- new variables are terms of their sorts
pub variables_sorts : (signature : Signature) (ss : List ℕ) (next : ℕ) → ((i s : ℕ) → slice_get ss i ≡ Some s → IsSort signature s)
    → HaveSorts signature (variables_from next ss) ss
variables_sorts signature [] next known = tt
variables_sorts signature (s ∷ ss) next known =
    ((refl, known 0 s refl), variables_sorts signature ss (suc next) (λ i. known (suc i)))

-- ---- a term put for one variable

-- The values with another term at one variable.
abbrev pub replaced : Substitution → ℕ → ℕ → Term → Substitution
replaced values n s t m r = if nat_eq n m && nat_eq s r then t else values m r

-- The two variables are one.
abbrev pub AreOne : ℕ → ℕ → ℕ → ℕ → Type 0
AreOne n s m r = (n ≡ m) × (s ≡ r)

pub Decides-one : (n s m r : ℕ) → ((nat_eq n m && nat_eq s r) ≡ true → AreOne n s m r)
    × (AreOne n s m r → (nat_eq n m && nat_eq s r) ≡ true)
Decides-one n s m r = Decides-and (nat_eq n m) (nat_eq s r) (Decides-eqb n m) (Decides-eqb s r)

pub replaced_cases : (P : ℕ → ℕ → Term → Type 0) (values : Substitution) (n s : ℕ) (t : Term) → P n s t
    → (m r : ℕ) → (¬ AreOne n s m r → P m r (values m r)) → P m r (replaced values n s t m r)
replaced_cases P values n s t one m r other = go (nat_eq n m && nat_eq s r) refl
  where
    go : (b : Bool) → (nat_eq n m && nat_eq s r) ≡ b → P m r (if b then t else values m r)
    go true e =
        let is = (Decides-one n s m r).0 e in
        subst (λ (k : ℕ). P k r t) is.0 (subst (λ (q : ℕ). P n q t) is.1 one)
    go false e = other (not_from_Decides (nat_eq n m && nat_eq s r) (Decides-one n s m r) e)

pub replaced_here : (values : Substitution) (n s : ℕ) (t : Term) → replaced values n s t n s ≡ t
replaced_here values n s t = rw ((Decides-one n s n s).1 (refl, refl)) refl

pub replaced_other : (values : Substitution) (n s : ℕ) (t : Term) (m r : ℕ) → ¬ AreOne n s m r → replaced values n s t m r ≡ values m r
replaced_other values n s t m r differ = go (nat_eq n m && nat_eq s r) refl
  where
    go : (b : Bool) → (nat_eq n m && nat_eq s r) ≡ b → (if b then t else values m r) ≡ values m r
    go true e = absurd (differ ((Decides-one n s m r).0 e))
    go false e = refl

-- an instance, at the values of the new variables, of a term with an operation on new variables put for one variable
pub split_instance : (signature : Signature) (one : Numbered) (next : ℕ) (ts : Terms) (values : Substitution) (n s : ℕ) (t : Term)
    → HaveSorts signature ts one.operation.arguments
    → ((m r : ℕ) → Occurs m r t → ¬ AreOne n s m r → m < next)
    → substituted (extended next ts values) (substituted (put_for n s (operation_on one next)) t)
    ≡ substituted (replaced values n s (node one.number ts)) t
split_instance signature one next ts values n s t h below =
    substituted_twice (put_for n s (operation_on one next)) (extended next ts values) t
    ∙ substituted_agree (followed_by (put_for n s (operation_on one next)) (extended next ts values))
    (replaced values n s (node one.number ts)) t (λ m r o. agree m r o (nat_eq n m && nat_eq s r) refl)
  where
    agree : (m r : ℕ) → Occurs m r t → (b : Bool) → (nat_eq n m && nat_eq s r) ≡ b
        → substituted (extended next ts values) (if b then operation_on one next else variable m r)
        ≡ (if b then node one.number ts else values m r)
    agree m r o true e =
        ap (λ (us : Terms). node one.number us) (extended_terms signature ts one.operation.arguments next values h)
    agree m r o false e =
        extended_below ts next values m r
        (below m r o (not_from_Decides (nat_eq n m && nat_eq s r) (Decides-one n s m r) e))

-- a variable that occurs with a term put in is another one of the whole, or one of the term
pub put_occurs : (n s : ℕ) (part t : Term) (m r : ℕ) → Occurs m r (substituted (put_for n s part) t)
    → (Occurs m r t × (¬ AreOne n s m r)) ⊎ (Occurs n s t × Occurs m r part)
put_occurs n s part t m r o =
    let from = substituted_occurs m r (put_for n s part) t o in
    go from.number from.sort from.occurs (nat_eq n from.number && nat_eq s from.sort) refl from.inside
  where
    go : (k q : ℕ) → Occurs k q t → (b : Bool) → (nat_eq n k && nat_eq s q) ≡ b
        → Occurs m r (if b then part else variable k q)
        → (Occurs m r t × (¬ AreOne n s m r)) ⊎ (Occurs n s t × Occurs m r part)
    go k q occurs true e inside =
        let is = (Decides-one n s k q).0 e in
        inr (
          subst (λ (j : ℕ). Occurs j s t) (sym is.0) (subst (λ (p : ℕ). Occurs k p t) (sym is.1) occurs),
          inside,
        )
    go k q occurs false e inside =
        let differ = not_from_Decides (nat_eq n k && nat_eq s q) (Decides-one n s k q) e in
        inl (
          subst (λ (j : ℕ). Occurs j r t) inside.0 (subst (λ (p : ℕ). Occurs k p t) inside.1 occurs),
          (λ is. differ (is.0 ∙ sym inside.0, is.1 ∙ sym inside.1)),
        )

-- and each of them does
pub occurs_put_other : (n s : ℕ) (part t : Term) (m r : ℕ) → Occurs m r t → ¬ AreOne n s m r
    → Occurs m r (substituted (put_for n s part) t)
occurs_put_other n s part t m r o differ =
    occurs_substituted m r m r (put_for n s part) t o
    (subst (Occurs m r) (sym (replaced_other variable n s part m r differ)) (refl, refl))

pub occurs_put_here : (n s : ℕ) (part t : Term) (m r : ℕ) → Occurs n s t → Occurs m r part
    → Occurs m r (substituted (put_for n s part) t)
occurs_put_here n s part t m r o inside =
    occurs_substituted m r n s (put_for n s part) t o (subst (Occurs m r) (sym (replaced_here variable n s part)) inside)

-- a term of the variable's sort, put for it, keeps sorts
pub put_keeps : (signature : Signature) (n s : ℕ) (part t : Term) → HasSort signature part s
    → ((m r : ℕ) → Occurs m r t → IsSort signature r) → KeepsSorts signature t (put_for n s part)
put_keeps signature n s part t sorted known m r o =
    replaced_cases (λ k q x. HasSort signature x q) variable n s part sorted m r (λ differ. (refl, known m r o))
