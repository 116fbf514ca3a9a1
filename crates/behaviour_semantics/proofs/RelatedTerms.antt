-- Two runs of the table, side by side. Each side has a form for values, its leaves, and ground values for the leaf
-- variables that its terms may hold; their numbers begin at `base`, above all numbers that are bound. Two terms are
-- related in a scope if they have one sort and are equal by the data whatever ground values the scope's variables
-- have, where each side's leaf variables have that side's values.
use Rattle.std.proofs.Common.{◌≡◌, ◌<◌, ◌≤◌, ◌⊎◌, inl, inr, ℕ, List, [], ◌∷◌, ◌++◌, Some, Bool, true, false, nat_eq, nat_lt, if◌then◌else◌, refl, ap, sym, ◌∙◌, arith, subst, eqb-true, lt-ltb, le-ltb}
use Rattle.lotos_base.specs.Signature.{Signature, IsSort}
use Rattle.lotos_base.specs.Term.{Term, variable, node, Terms, no_terms, term_then}
use Rattle.lotos_base.specs.Sorting.{HasSort, HaveSorts, IsGroundOf, IsTermOf, Occurs, OccursAmong}
use Rattle.lotos_base.specs.Equation.{Data, Variable}
use Rattle.lotos_base.specs.Equality.{Equal, same_term}
use Rattle.lotos_base.specs.Substitution.{Substitution, substituted, followed_by, without, is_listed, IsGrounding}
use Rattle.lotos_base.specs.Canon.{IsCanon}
use Rattle.lotos_base.proofs.SubstitutionLemmas.{substituted_twice, substituted_agree, substituted_sort, instance_ground, substituted_occurs, ComesFrom, occurs_substituted}
use Rattle.lotos_base.proofs.EqualityLemmas.{equal_then, equal_back, equal_same, equal_values}
use Rattle.behaviour_semantics.specs.Behaviour.{numbers_of, sorts_of}
use Rattle.behaviour_semantics.specs.Replacement.{binding_of}
use Rattle.behaviour_semantics.specs.WellFormed.{sort_in, Every}
use Rattle.behaviour_semantics.proofs.OptionLemmas.{some_value}

pub record Side : Type 1 where
  pub represent : Term → Term
  pub leaves : Substitution
  pub values : Substitution
  pub leaf : ℕ → ℕ → Type 0

-- The values of a side for leaf variables, and others for the rest.
abbrev pub with_leaves : ℕ → Side → Substitution → Substitution
with_leaves base x others n s = if nat_lt n base then others n s else x.values n s

pub with_leaves-bound : (base : ℕ) (x : Side) (others : Substitution) (n s : ℕ) → n < base → with_leaves base x others n s ≡ others n s
with_leaves-bound base x others n s lt = rw (lt-ltb n base lt) refl

pub with_leaves-leaf : (base : ℕ) (x : Side) (others : Substitution) (n s : ℕ) → base ≤ n → with_leaves base x others n s ≡ x.values n s
with_leaves-leaf base x others n s le = rw (le-ltb n base le) refl

mutual
  -- the variables of a sorted term have sorts of the signature
  pub occurs_sort : (signature : Signature) (t : Term) (s n r : ℕ) → HasSort signature t s → Occurs n r t → IsSort signature r
  occurs_sort signature (variable m q) s n r h o = subst (IsSort signature) o.1 h.1
  occurs_sort signature (node f ts) s n r h o = occurs_sorts signature ts h.0.arguments n r h.3 o

  pub occurs_sorts : (signature : Signature) (ts : Terms) (ss : List ℕ) (n r : ℕ) → HaveSorts signature ts ss → OccursAmong n r ts
      → IsSort signature r
  occurs_sorts signature no_terms [] n r h o = absurd o
  occurs_sorts signature no_terms (s ∷ ss) n r h o = absurd o
  occurs_sorts signature (term_then t ts) [] n r h o = absurd h
  occurs_sorts signature (term_then t ts) (s ∷ ss) n r h (inl o) = occurs_sort signature t s n r h.0 o
  occurs_sorts signature (term_then t ts) (s ∷ ss) n r h (inr o) = occurs_sorts signature ts ss n r h.1 o

-- A variable that is bound in the scope, or a leaf variable of its sort.
abbrev pub Placed : Data → ℕ → Side → List Variable → ℕ → ℕ → Type 0
Placed data_ base x scope n r = ((n < base) × (sort_in scope n ≡ Some r)) ⊎ ((base ≤ n) × x.leaf n r)

-- The leaf variables of a side have ground values of their sorts.
abbrev pub Grounded : Data → Side → Type 0
Grounded data_ x = (n r : ℕ) → x.leaf n r → IsGroundOf data_.signature r (x.values n r)

abbrev pub Free : Data → ℕ → Side → List Variable → Term → Type 0
Free data_ base x scope t = (n r : ℕ) → Occurs n r t → Placed data_ base x scope n r

-- The substitution grounds what is bound and occurs in one of the terms.
abbrev pub Grounds : Data → ℕ → Term → Term → Substitution → Type 0
Grounds data_ base t u others = (n r : ℕ) → n < base → Occurs n r t ⊎ Occurs n r u → IsGroundOf data_.signature r (others n r)

pub record Related (data_ : Data) (base : ℕ) (x y : Side) (scope : List Variable) (s : ℕ) (t u : Term) : Type 0 where
  pub left_sorted : HasSort data_.signature t s
  pub right_sorted : HasSort data_.signature u s
  pub left_free : Free data_ base x scope t
  pub right_free : Free data_ base y scope u
  pub equal : Grounded data_ x → Grounded data_ y → (others : Substitution) → Grounds data_ base t u others
      → Equal data_ (substituted (with_leaves base x others) t) (substituted (with_leaves base y others) u)

either : {A B : Type 0} → A ⊎ B → B ⊎ A
either (inl a) = inr a
either (inr b) = inl b

pub turned : {data_ : Data} {base : ℕ} {x y : Side} {scope : List Variable} {s : ℕ} {t u : Term} → Related data_ base x y scope s t u
    → Related data_ base y x scope s u t
turned r = record {
  left_sorted = r.right_sorted;
  right_sorted = r.left_sorted;
  left_free = r.right_free;
  right_free = r.left_free;
  equal = λ left right others grounds. equal_back (r.equal right left others (λ n q lt o. grounds n q lt (either o)));
}

-- A form of values that keeps sorts, adds no variable, and keeps what ground instances are equal to.
pub record IsRepresenting (data_ : Data) (represent : Term → Term) : Type 0 where
  pub sorts : (t : Term) (s : ℕ) → HasSort data_.signature t s → HasSort data_.signature (represent t) s
  pub occurring : (t : Term) (n r : ℕ) → IsTermOf data_.signature t → Occurs n r (represent t) → Occurs n r t
  pub instances : (t : Term) (values : Substitution) → IsTermOf data_.signature t → IsGrounding data_.signature t values
      → Equal data_ (substituted values (represent t)) (substituted values t)

pub canon_represents : (data_ : Data) (canon : Term → Term) → IsCanon data_ canon → IsRepresenting data_ canon
canon_represents data_ canon c = record { sorts = c.sorts; occurring = c.occurring; instances = c.instances }

pub given_represents : (data_ : Data) → IsRepresenting data_ (λ t. t)
given_represents data_ = record {
  sorts = λ t s h. h;
  occurring = λ t n r h o. o;
  instances =
      λ t values h g. same_term (substituted values t);
}

module _ (data_ : Data) (base : ℕ) where
  -- Nothing is bound in the empty scope.
  pub only_leaf : (x : Side) (n r : ℕ) → Placed data_ base x [] n r → (base ≤ n) × x.leaf n r
  only_leaf x n r (inl h) = absurd (cc h.1)
  only_leaf x n r (inr h) = h

  -- A closed term is grounded by its side's values, whatever the others are.
  pub closed_grounding : (x : Side) → Grounded data_ x → (t : Term) (others : Substitution) → Free data_ base x [] t
      → IsGrounding data_.signature t (with_leaves base x others)
  closed_grounding x grounded t others free n r o =
      let leaf : (base ≤ n) × x.leaf n r = only_leaf x n r (free n r o) in
      subst (IsGroundOf data_.signature r) (sym (with_leaves-leaf base x others n r leaf.0)) (grounded n r leaf.1)

  -- Related closed terms are related in each scope.
  pub weaker : {x y : Side} {s : ℕ} {t u : Term} (scope : List Variable) → Related data_ base x y [] s t u
      → Related data_ base x y scope s t u
  weaker {x = x} {y = y} scope r = record {
    left_sorted = r.left_sorted;
    right_sorted = r.right_sorted;
    left_free = λ n q o. inr (only_leaf x n q (r.left_free n q o));
    right_free = λ n q o. inr (only_leaf y n q (r.right_free n q o));
    equal = r.equal;
  }

  -- The forms of related closed terms are related.
  pub represented : {x y : Side} {s : ℕ} {t u : Term} → IsRepresenting data_ x.represent → IsRepresenting data_ y.represent
      → Related data_ base x y [] s t u → Related data_ base x y [] s (x.represent t) (y.represent u)
  represented {x = x} {y = y} {s = s} {t = t} {u = u} f g r = record {
    left_sorted = f.sorts t s r.left_sorted;
    right_sorted = g.sorts u s r.right_sorted;
    left_free = λ n q o. r.left_free n q (f.occurring t n q (s, r.left_sorted) o);
    right_free = λ n q o. r.right_free n q (g.occurring u n q (s, r.right_sorted) o);
    equal = λ left right others grounds.
        equal_then (f.instances t (with_leaves base x others) (s, r.left_sorted) (closed_grounding x left t others r.left_free))
        (equal_then (r.equal left right others (λ n q lt o. absurd (unbound n q lt o)))
        (equal_back (g.instances u (with_leaves base y others) (s, r.right_sorted) (closed_grounding y right u others r.right_free))));
  }
    where
      unbound : (n q : ℕ) → n < base → Occurs n q t ⊎ Occurs n q u → ⊥
      unbound n q lt (inl o) = let leaf : (base ≤ n) × _ = only_leaf x n q (r.left_free n q o) in omega (arith, leaf.0)
      unbound n q lt (inr o) = let leaf : (base ≤ n) × _ = only_leaf y n q (r.right_free n q o) in omega (arith, leaf.0)

  -- Two substitutions that take the variables of one scope to those of another one or to related closed terms, and
  -- leave leaf variables.
  pub record Puts (x y : Side) (scope other : List Variable) (v w : Substitution) : Type 0 where
    pub left_leaves : (n r : ℕ) → base ≤ n → v n r ≡ variable n r
    pub right_leaves : (n r : ℕ) → base ≤ n → w n r ≡ variable n r
    pub places : (n r : ℕ) → sort_in scope n ≡ Some r → ((v n r ≡ variable n r) × (w n r ≡ variable n r) × (sort_in other n ≡ Some r)) ⊎
        Related data_ base x y [] r (v n r) (w n r)

  pub turned_puts : {x y : Side} {scope other : List Variable} {v w : Substitution} → Puts x y scope other v w → Puts y x scope other w v
  turned_puts {x = x} {y = y} {scope = scope} {other = other} {v = v} {w = w} p = record {
    left_leaves = p.right_leaves;
    right_leaves = p.left_leaves;
    places = λ n r h. at n r (p.places n r h);
  }
    where
      at : (n r : ℕ) → ((v n r ≡ variable n r) × (w n r ≡ variable n r) × (sort_in other n ≡ Some r)) ⊎ Related data_ base x y [] r (v n r)
          (w n r) → ((w n r ≡ variable n r) × (v n r ≡ variable n r) × (sort_in other n ≡ Some r)) ⊎ Related data_ base y x [] r (w n r)
          (v n r)
      at n r (inl k) = inl (k.1, k.0, k.2)
      at n r (inr h) = inr (turned h)

  -- Where a variable stands after a substitution, on the left side.
  put_free : (x y : Side) (scope other : List Variable) (v w : Substitution) (t : Term) → Puts x y scope other v w
      → Free data_ base x scope t → Free data_ base x other (substituted v t)
  put_free x y scope other v w t p free n r o =
      let from : ComesFrom n r v t = substituted_occurs n r v t o in
      at from.number from.sort from.inside (free from.number from.sort from.occurs)
    where
      -- a variable that stands for itself
      same : (m q : ℕ) → v m q ≡ variable m q → Occurs n r (v m q) → Placed data_ base x other m q → Placed data_ base x other n r
      same m q e inside placed =
          let here : (m ≡ n) × (q ≡ r) = subst (Occurs n r) e inside in
          subst (λ k. Placed data_ base x other n k) here.1 (subst (λ k. Placed data_ base x other k q) here.0 placed)

      place : (m q : ℕ) → Occurs n r (v m q) → m < base → ((v m q ≡ variable m q) × (w m q ≡ variable m q) × (sort_in other m ≡ Some q)) ⊎
          Related data_ base x y [] q (v m q) (w m q) → Placed data_ base x other n r
      place m q inside lt (inl k) = same m q k.0 inside (inl (lt, k.2))
      place m q inside lt (inr h) = inr (only_leaf x n r (h.left_free n r inside))

      at : (m q : ℕ) → Occurs n r (v m q) → Placed data_ base x scope m q → Placed data_ base x other n r
      at m q inside (inl h) = place m q inside h.0 (p.places m q h.1)
      at m q inside (inr h) = same m q (p.left_leaves m q h.0) inside (inr h)

  put_sort : (x y : Side) (scope other : List Variable) (v w : Substitution) (s : ℕ) (t : Term) → Puts x y scope other v w
      → Free data_ base x scope t → HasSort data_.signature t s → HasSort data_.signature (substituted v t) s
  put_sort x y scope other v w s t p free h = substituted_sort data_.signature v t s h
      (λ n r o. at n r (occurs_sort data_.signature t s n r h o) (free n r o))
    where
      same : (n r : ℕ) → IsSort data_.signature r → v n r ≡ variable n r → HasSort data_.signature (v n r) r
      same n r is_sort e = let var : HasSort data_.signature (variable n r) r =
          (refl, is_sort) in subst (λ z. HasSort data_.signature z r) (sym e) var

      place : (n r : ℕ) → IsSort data_.signature r → ((v n r ≡ variable n r) × (w n r ≡ variable n r) × (sort_in other n ≡ Some r)) ⊎
          Related data_ base x y [] r (v n r) (w n r) → HasSort data_.signature (v n r) r
      place n r is_sort (inl k) = same n r is_sort k.0
      place n r is_sort (inr q) = q.left_sorted

      at : (n r : ℕ) → IsSort data_.signature r → Placed data_ base x scope n r → HasSort data_.signature (v n r) r
      at n r is_sort (inl q) = place n r is_sort (p.places n r q.1)
      at n r is_sort (inr q) = same n r is_sort (p.left_leaves n r q.0)

  -- Related terms stay related where such substitutions are put in.
  pub put_related : {x y : Side} {scope other : List Variable} {v w : Substitution} {s : ℕ} {t u : Term} → Puts x y scope other v w
      → Related data_ base x y scope s t u → Related data_ base x y other s (substituted v t) (substituted w u)
  put_related {x = x} {y = y} {scope = scope} {other = other} {v = v} {w = w} {s = s} {t = t} {u = u} p r = record {
    left_sorted = put_sort x y scope other v w s t p r.left_free r.left_sorted;
    right_sorted = put_sort y x scope other w v s u (turned_puts p) r.right_free r.right_sorted;
    left_free = put_free x y scope other v w t p r.left_free;
    right_free = put_free y x scope other w v u (turned_puts p) r.right_free;
    equal = λ left right others grounds.
        equal_then (equal_same data_ (substituted (with_leaves base x others) (substituted v t))
        (substituted (with_leaves base x (inner others)) t)
        (substituted_twice v (with_leaves base x others) t ∙ substituted_agree (followed_by v (with_leaves base x others))
        (with_leaves base x (inner others)) t (λ n q o. left_same others n q (r.left_free n q o))))
        (equal_then (r.equal left right (inner others) (λ n q lt o. inner_ground left others grounds n q lt o))
        (equal_then (equal_values data_ (with_leaves base y (inner others)) (followed_by w (with_leaves base y others)) u
        (λ n q o. right_equal left right others grounds n q o (r.right_free n q o)))
        (equal_same data_ (substituted (followed_by w (with_leaves base y others)) u)
        (substituted (with_leaves base y others) (substituted w u)) (sym (substituted_twice w (with_leaves base y others) u)))));
  }
    where
      -- what the scope's variables get on the left side
      inner : Substitution → Substitution
      inner others n q = substituted (with_leaves base x others) (v n q)

      left_same : (others : Substitution) (n q : ℕ) → Placed data_ base x scope n q
          → followed_by v (with_leaves base x others) n q ≡ with_leaves base x (inner others) n q
      left_same others n q (inl h) = sym (with_leaves-bound base x (inner others) n q h.0)
      left_same others n q (inr h) =
          ap (substituted (with_leaves base x others)) (p.left_leaves n q h.0)
          ∙ (with_leaves-leaf base x others n q h.0 ∙ sym (with_leaves-leaf base x (inner others) n q h.0))

      -- a variable of the scope that occurs on one side
      Kept : ℕ → ℕ → Type 0
      Kept n q = (v n q ≡ variable n q) × (w n q ≡ variable n q) × (sort_in other n ≡ Some q)

      occurring : (n q : ℕ) → (v n q ≡ variable n q) × (w n q ≡ variable n q) × (sort_in other n ≡ Some q) → Occurs n q t ⊎ Occurs n q u
          → Occurs n q (substituted v t) ⊎ Occurs n q (substituted w u)
      occurring n q k (inl o) = inl (occurs_substituted n q n q v t o (subst (Occurs n q) (sym k.0) (refl, refl)))
      occurring n q k (inr o) = inr (occurs_substituted n q n q w u o (subst (Occurs n q) (sym k.1) (refl, refl)))

      ground_at : Grounded data_ x → (others : Substitution) → Grounds data_ base (substituted v t) (substituted w u) others → (n q : ℕ)
          → n < base → Occurs n q t ⊎ Occurs n q u → ((v n q ≡ variable n q) × (w n q ≡ variable n q) × (sort_in other n ≡ Some q)) ⊎
          Related data_ base x y [] q (v n q) (w n q) → IsGroundOf data_.signature q (substituted (with_leaves base x others) (v n q))
      ground_at left others grounds n q lt o (inl k) =
          subst (λ z. IsGroundOf data_.signature q (substituted (with_leaves base x others) z)) (sym k.0)
          (subst (IsGroundOf data_.signature q) (sym (with_leaves-bound base x others n q lt)) (grounds n q lt (occurring n q k o)))
      ground_at left others grounds n q lt o (inr h) = record {
        ground = instance_ground (with_leaves base x others) (v n q)
            (λ m r i. (closed_grounding x left (v n q) others h.left_free m r i).ground);
        sorted = substituted_sort data_.signature (with_leaves base x others) (v n q) q h.left_sorted
            (λ m r i. (closed_grounding x left (v n q) others h.left_free m r i).sorted);
      }

      scoped : (n q : ℕ) → n < base → Occurs n q t ⊎ Occurs n q u → sort_in scope n ≡ Some q
      scoped n q lt (inl o) = bound_place x n q lt (r.left_free n q o)
        where
          bound_place : (z : Side) (n q : ℕ) → n < base → Placed data_ base z scope n q → sort_in scope n ≡ Some q
          bound_place z n q lt (inl h) = h.1
          bound_place z n q lt (inr h) = absurd (omega (arith, h.0))
      scoped n q lt (inr o) = bound_place y n q lt (r.right_free n q o)
        where
          bound_place : (z : Side) (n q : ℕ) → n < base → Placed data_ base z scope n q → sort_in scope n ≡ Some q
          bound_place z n q lt (inl h) = h.1
          bound_place z n q lt (inr h) = absurd (omega (arith, h.0))

      inner_ground : Grounded data_ x → (others : Substitution) → Grounds data_ base (substituted v t) (substituted w u) others → (n q : ℕ)
          → n < base → Occurs n q t ⊎ Occurs n q u → IsGroundOf data_.signature q (inner others n q)
      inner_ground left others grounds n q lt o = ground_at left others grounds n q lt o (p.places n q (scoped n q lt o))

      -- what it gets on the right side is equal
      equal_at : Grounded data_ x → Grounded data_ y → (others : Substitution) (n q : ℕ) → n < base
          → ((v n q ≡ variable n q) × (w n q ≡ variable n q) × (sort_in other n ≡ Some q)) ⊎ Related data_ base x y [] q (v n q) (w n q)
          → Equal data_ (substituted (with_leaves base x others) (v n q)) (substituted (with_leaves base y others) (w n q))
      equal_at left right others n q lt (inl k) = equal_same data_ _ _
          (ap (substituted (with_leaves base x others)) k.0 ∙ (with_leaves-bound base x others n q lt
          ∙ (sym (with_leaves-bound base y others n q lt) ∙ sym (ap (substituted (with_leaves base y others)) k.1))))
      equal_at left right others n q lt (inr h) = h.equal left right others (λ m z less o. absurd (unbound m z less o))
        where
          unbound : (m z : ℕ) → m < base → Occurs m z (v n q) ⊎ Occurs m z (w n q) → ⊥
          unbound m z less (inl o) = let leaf : (base ≤ m) × _ = only_leaf x m z (h.left_free m z o) in omega (arith, leaf.0)
          unbound m z less (inr o) = let leaf : (base ≤ m) × _ = only_leaf y m z (h.right_free m z o) in omega (arith, leaf.0)

      right_equal : Grounded data_ x → Grounded data_ y → (others : Substitution)
          → Grounds data_ base (substituted v t) (substituted w u) others → (n q : ℕ) → Occurs n q u → Placed data_ base y scope n q
          → Equal data_ (with_leaves base y (inner others) n q) (followed_by w (with_leaves base y others) n q)
      right_equal left right others grounds n q o (inl h) =
          equal_then (equal_same data_ _ _ (with_leaves-bound base y (inner others) n q h.0))
          (equal_at left right others n q h.0 (p.places n q h.1))
      right_equal left right others grounds n q o (inr h) = equal_same data_ _ _
          (with_leaves-leaf base y (inner others) n q h.0 ∙ (sym (with_leaves-leaf base y others n q h.0)
          ∙ sym (ap (substituted (with_leaves base y others)) (p.right_leaves n q h.0))))

  -- Binders have numbers below `base` and sorts of the signature.
  abbrev pub Binders : List Variable → Type 0
  Binders variables = Every (λ (z : Variable). (z.number < base) × IsSort data_.signature z.sort) variables

  -- A scope that is listed, or lies behind.
  pub sort_in-listed : (variables scope : List Variable) (n : ℕ) → is_listed (numbers_of variables) n ≡ true
      → sort_in (variables ++ scope) n ≡ sort_in variables n
  sort_in-listed [] scope n e = absurd cc
  sort_in-listed (z ∷ variables) scope n e = by (sort_in-listed variables scope n) (nat_eq z.number n) refl
    where
      by : (is_listed (numbers_of variables) n ≡ true → sort_in (variables ++ scope) n ≡ sort_in variables n) → (same : Bool)
          → nat_eq z.number n ≡ same → sort_in (z ∷ variables ++ scope) n ≡ sort_in (z ∷ variables) n
      by rest true h = rw h refl
      by rest false h = let below : is_listed (numbers_of variables) n ≡ true = rw h at e in rw h (rest below)

  pub sort_in-unlisted : (variables scope : List Variable) (n : ℕ) → is_listed (numbers_of variables) n ≡ false
      → sort_in (variables ++ scope) n ≡ sort_in scope n
  sort_in-unlisted [] scope n e = refl
  sort_in-unlisted (z ∷ variables) scope n e = by (sort_in-unlisted variables scope n) (nat_eq z.number n) refl
    where
      by : (is_listed (numbers_of variables) n ≡ false → sort_in (variables ++ scope) n ≡ sort_in scope n) → (same : Bool)
          → nat_eq z.number n ≡ same → sort_in (z ∷ variables ++ scope) n ≡ sort_in scope n
      by rest true h = let f : true ≡ false = rw h at e in absurd (cc f)
      by rest false h = let below : is_listed (numbers_of variables) n ≡ false = rw h at e in rw h (rest below)

  -- Under a binder the substitutions leave what it binds.
  pub under_binder : {x y : Side} {scope other : List Variable} {v w : Substitution} (variables : List Variable) → Puts x y scope other v w
      → Puts x y (variables ++ scope) (variables ++ other) (without (numbers_of variables) v) (without (numbers_of variables) w)
  under_binder {x = x} {y = y} {scope = scope} {other = other} {v = v} {w = w} variables p = record {
    left_leaves = λ n r le. leaf v n r (p.left_leaves n r le) (is_listed (numbers_of variables) n) refl;
    right_leaves = λ n r le. leaf w n r (p.right_leaves n r le) (is_listed (numbers_of variables) n) refl;
    places = λ n r h. at n r h (is_listed (numbers_of variables) n) refl;
  }
    where
      leaf : (z : Substitution) (n r : ℕ) → z n r ≡ variable n r → (listed : Bool) → is_listed (numbers_of variables) n ≡ listed
          → without (numbers_of variables) z n r ≡ variable n r
      leaf z n r e true h = rw h refl
      leaf z n r e false h = rw h e

      out : (z : Substitution) (n r : ℕ) → is_listed (numbers_of variables) n ≡ false → without (numbers_of variables) z n r ≡ z n r
      out z n r h = rw h refl

      inside : (z : Substitution) (n r : ℕ) → is_listed (numbers_of variables) n ≡ true
          → without (numbers_of variables) z n r ≡ variable n r
      inside z n r h = rw h refl

      behind : (n r : ℕ) → is_listed (numbers_of variables) n ≡ false
          → ((v n r ≡ variable n r) × (w n r ≡ variable n r) × (sort_in other n ≡ Some r)) ⊎ Related data_ base x y [] r (v n r) (w n r)
          → ((without (numbers_of variables) v n r ≡ variable n r) × (without (numbers_of variables) w n r ≡ variable n r)
          × (sort_in (variables ++ other) n ≡ Some r)) ⊎ Related data_ base x y [] r (without (numbers_of variables) v n r)
          (without (numbers_of variables) w n r)
      behind n r h (inl k) = inl (out v n r h ∙ k.0, out w n r h ∙ k.1, sort_in-unlisted variables other n h ∙ k.2)
      behind n r h (inr q) = inr (subst (λ a. Related data_ base x y [] r a (without (numbers_of variables) w n r)) (sym (out v n r h))
          (subst (λ a. Related data_ base x y [] r (v n r) a) (sym (out w n r h)) q))

      at : (n r : ℕ) → sort_in (variables ++ scope) n ≡ Some r → (listed : Bool) → is_listed (numbers_of variables) n ≡ listed
          → ((without (numbers_of variables) v n r ≡ variable n r) × (without (numbers_of variables) w n r ≡ variable n r)
          × (sort_in (variables ++ other) n ≡ Some r)) ⊎ Related data_ base x y [] r (without (numbers_of variables) v n r)
          (without (numbers_of variables) w n r)
      at n r s true h = inl (
        inside v n r h,
        inside w n r h,
        sort_in-listed variables other n h ∙ (sym (sort_in-listed variables scope n h) ∙ s),
      )
      at n r s false h = behind n r h (p.places n r (sym (sort_in-unlisted variables scope n h) ∙ s))

  -- Related terms, one by one, of these sorts.
  pub data RelatedTerms (x y : Side) (scope : List Variable) : List ℕ → List Term → List Term → Type 0 where
    none_related : RelatedTerms x y scope [] [] []
    one_related : {s : ℕ} {t u : Term} {ss : List ℕ} {ts us : List Term} → Related data_ base x y scope s t u
        → RelatedTerms x y scope ss ts us → RelatedTerms x y scope (s ∷ ss) (t ∷ ts) (u ∷ us)

  -- The substitutions that give related closed terms to the variables of one binder.
  pub bindings_put : {x y : Side} (variables : List Variable) (ts us : List Term) → Binders variables
      → RelatedTerms x y [] (sorts_of variables) ts us → Puts x y (variables ++ []) [] (binding_of variables ts) (binding_of variables us)
  bindings_put [] [] [] b none_related = record {
    left_leaves = λ n r le. refl;
    right_leaves = λ n r le. refl;
    places = λ n r h. absurd (cc h);
  }
  bindings_put {x = x} {y = y} (z ∷ variables) (t ∷ ts) (u ∷ us) b (one_related head tail) =
      let rest : Puts x y (variables ++ []) [] (binding_of variables ts) (binding_of variables us) =
      bindings_put variables ts us b.1 tail in
      record {
        left_leaves = λ n r le. leaf (binding_of variables ts) t n r le (rest.left_leaves n r le);
        right_leaves = λ n r le. leaf (binding_of variables us) u n r le (rest.right_leaves n r le);
        places = λ n r h. at rest n r (nat_eq z.number n) refl h;
      }
    where
      leaf : (tail : Substitution) (head : Term) (n r : ℕ) → base ≤ n → tail n r ≡ variable n r
          → (if nat_eq z.number n then head else tail n r) ≡ variable n r
      leaf tail head n r le e = by (nat_eq z.number n) refl
        where
          by : (same : Bool) → nat_eq z.number n ≡ same → (if nat_eq z.number n then head else tail n r) ≡ variable n r
          by true h = let k : z.number ≡ n = eqb-true z.number n h in absurd (omega (arith, b.0.0))
          by false h = rw h e

      at : Puts x y (variables ++ []) [] (binding_of variables ts) (binding_of variables us) → (n r : ℕ) → (same : Bool)
          → nat_eq z.number n ≡ same → sort_in (z ∷ variables ++ []) n ≡ Some r
          → ((binding_of (z ∷ variables) (t ∷ ts) n r ≡ variable n r) × (binding_of (z ∷ variables) (u ∷ us) n r ≡ variable n r)
          × (sort_in [] n ≡ Some r)) ⊎ Related data_ base x y [] r (binding_of (z ∷ variables) (t ∷ ts) n r)
          (binding_of (z ∷ variables) (u ∷ us) n r)
      at rest n r true h e =
          let sort : z.sort ≡ r = some_value (rw h at e) in
          rw h (inr (subst (λ q. Related data_ base x y [] q t u) sort head))
      at rest n r false h e = let below : sort_in (variables ++ []) n ≡ Some r = rw h at e in rw h (rest.places n r below)
  bindings_put [] [] (u ∷ us) b h = elim h [ ]
  bindings_put [] (t ∷ ts) us b h = elim h [ ]
  bindings_put (z ∷ variables) [] us b h = elim h [ ]
  bindings_put (z ∷ variables) (t ∷ ts) [] b h = elim h [ ]
