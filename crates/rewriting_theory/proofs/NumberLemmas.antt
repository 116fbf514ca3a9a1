-- The variables of each term can be numbered by first appearance.
use Rattle.std.proofs.Common.{◌≡◌, ◌<◌, ℕ, zero, suc, List, [], ◌∷◌, map, Bool, true, false, nat_eq, refl, ap, sym, ◌∙◌, subst, inl, inr, arith}
use Rattle.std.specs.Prelude.{◌⊎◌, ◌&&◌, if◌then◌else◌, Some, None, slice_get}
use Rattle.std.proofs.lemmas.Option.{same_Some}
use Rattle.std.proofs.lemmas.Bool.Decides.{Decides-eqb, Decides-and}
use Rattle.lotos_base.proofs.Numbers.{smaller}
use Rattle.lotos_base.specs.Term.{Term}
use Rattle.lotos_base.specs.Substitution.{substituted, renaming}
use Rattle.lotos_base.specs.Canon.{KeepsApart}
use Rattle.lotos_base.proofs.SubstitutionLemmas.{substituted_occurs}
use Rattle.rewriting_theory.specs.Numbering.{IsByAppearance, IsNumbered}
use Rattle.rewriting_theory.proofs.PlaceListLemmas.{IsIn}
use Rattle.rewriting_theory.proofs.UniqueLemmas.{variable_list, occurs_member, numbers_of_list, list_renumbered, first_of_pair, renumbered}

-- ---- Numbers that go on from a number

-- Each number is smaller than the next new one, or is it.
abbrev pub GoOn : ℕ → List ℕ → Type 0
GoOn next [] = Unit {0}
GoOn next (n ∷ ns) = ((n < next) × GoOn next ns) ⊎ ((n ≡ next) × GoOn (suc next) ns)

-- A smaller number than the one at a position is smaller than the next new one, or stands before it.
abbrev pub StandsBefore : ℕ → List ℕ → ℕ → ℕ → Type 0
StandsBefore next ns i m = (m < next) ⊎ ((j : ℕ) × (j < i) × (slice_get ns j ≡ Some m))

pub later : (next n i m : ℕ) (ns : List ℕ) → StandsBefore next ns i m → StandsBefore next (n ∷ ns) (suc i) m
later next n i m ns (inl less) = inl less
later next n i m ns (inr (j, less, e)) = inr (suc j, omega (arith, less), e)

pub later_new : (next n i m : ℕ) (ns : List ℕ) → n ≡ next → StandsBefore (suc next) ns i m → StandsBefore next (n ∷ ns) (suc i) m
later_new next n i m ns same (inr (j, less, e)) = inr (suc j, omega (arith, less), e)
later_new next n i m ns same (inl less) = go (nat_eq n m) refl
  where
    go : (b : Bool) → nat_eq n m ≡ b → StandsBefore next (n ∷ ns) (suc i) m
    go true e = inr (0, omega arith, ap (λ (k : ℕ). Some k) ((Decides-eqb n m).0 e))
    go false e =
        let differ : n ≡ m → ⊥ = λ is. (let other : nat_eq n m ≡ true = (Decides-eqb n m).1 is in cc) in
        inl (smaller n m next same less differ)

pub go_on_before : (ns : List ℕ) (next : ℕ) → GoOn next ns → (i n m : ℕ) → slice_get ns i ≡ Some n → m < n → StandsBefore next ns i m
go_on_before [] next on i n m is less = let none : None ≡ Some n = is in cc
go_on_before (k ∷ ns) next (inl (small, on)) zero n m is less =
    let same : k ≡ n = same_Some k n is in inl (omega (arith, same, small, less))
go_on_before (k ∷ ns) next (inl (small, on)) (suc i) n m is less = later next k i m ns (go_on_before ns next on i n m is less)
go_on_before (k ∷ ns) next (inr (new, on)) zero n m is less =
    let same : k ≡ n = same_Some k n is in inl (omega (arith, same, new, less))
go_on_before (k ∷ ns) next (inr (new, on)) (suc i) n m is less = later_new next k i m ns new (go_on_before ns (suc next) on i n m is less)

pub go_on_by_appearance : (ns : List ℕ) → GoOn 0 ns → IsByAppearance ns
go_on_by_appearance ns on = λ i n m is less. go i m (go_on_before ns 0 on i n m is less)
  where
    go : (i m : ℕ) → StandsBefore 0 ns i m → (j : ℕ) × (j < i) × (slice_get ns j ≡ Some m)
    go i m (inl less) = absurd (omega (arith, less))
    go i m (inr before) = before

-- ---- Numberings

abbrev Numbers : Type 0
Numbers = ℕ → ℕ → ℕ

-- a numbering with another number for one variable
abbrev numbered_too : Numbers → ℕ → ℕ → ℕ → Numbers
numbered_too number n s k m r = if nat_eq n m && nat_eq s r then k else number m r

numbered_here : (number : Numbers) (n s k : ℕ) → numbered_too number n s k n s ≡ k
numbered_here number n s k =
    go (nat_eq n n && nat_eq s s) ((Decides-and (nat_eq n n) (nat_eq s s) (Decides-eqb n n) (Decides-eqb s s)).1 (refl, refl))
  where
    go : (b : Bool) → b ≡ true → (if b then k else number n s) ≡ k
    go true e = refl
    go false e = cc

numbered_elsewhere : (number : Numbers) (n s k m r : ℕ) → ((n ≡ m) × (s ≡ r) → ⊥) → numbered_too number n s k m r ≡ number m r
numbered_elsewhere number n s k m r differ = go (nat_eq n m && nat_eq s r) refl
  where
    go : (b : Bool) → (nat_eq n m && nat_eq s r) ≡ b → (if b then k else number m r) ≡ number m r
    go true e = absurd (differ ((Decides-and (nat_eq n m) (nat_eq s r) (Decides-eqb n m) (Decides-eqb s r)).0 e))
    go false e = refl

-- whether a variable is in a list
decide_in : (n s : ℕ) (vs : List (ℕ × ℕ)) → IsIn (n, s) vs ⊎ (IsIn (n, s) vs → ⊥)
decide_in n s [] = inr (λ is. is)
decide_in n s (v ∷ vs) = go (nat_eq v.0 n && nat_eq v.1 s) refl (decide_in n s vs)
  where
    go : (b : Bool) → (nat_eq v.0 n && nat_eq v.1 s) ≡ b → IsIn (n, s) vs ⊎ (IsIn (n, s) vs → ⊥)
        → IsIn (n, s) (v ∷ vs) ⊎ (IsIn (n, s) (v ∷ vs) → ⊥)
    go true e rest =
        let same = (Decides-and (nat_eq v.0 n) (nat_eq v.1 s) (Decides-eqb v.0 n) (Decides-eqb v.1 s)).0 e in
        inl (inl (λ i. (same.0 i, same.1 i)))
    go false e (inl is) = inl (inr is)
    go false e (inr none) = inr (λ is. none_of is)
      where
        none_of : IsIn (n, s) (v ∷ vs) → ⊥
        none_of (inl at) =
            let test : (nat_eq v.0 n && nat_eq v.1 s) ≡ true =
            (Decides-and (nat_eq v.0 n) (nat_eq v.1 s) (Decides-eqb v.0 n) (Decides-eqb v.1 s)).1
            (ap (λ (w : ℕ × ℕ). w.0) at, ap (λ (w : ℕ × ℕ). w.1) at) in
            cc
        none_of (inr at) = none at

-- The numbering tells the variables of the list apart, and gives them numbers below the next new one.
record IsNumbering (known : List (ℕ × ℕ)) (number : Numbers) (next : ℕ) : Type 0 where
  apart : (n s m r : ℕ) → IsIn (n, s) known → IsIn (m, r) known → number n s ≡ number m r → (n ≡ m) × (s ≡ r)
  below : (n s : ℕ) → IsIn (n, s) known → number n s < next

-- a new variable gets the next new number
numbering_with : (known : List (ℕ × ℕ)) (number : Numbers) (next n s : ℕ) → IsNumbering known number next → (IsIn (n, s) known → ⊥)
    → IsNumbering ((n, s) ∷ known) (numbered_too number n s next) (suc next)
numbering_with known number next n s is new = record {
  apart = λ m r k q one two e. tell m r k q one two e;
  below = λ m r at. small m r at;
}
  where
    differ : (m r : ℕ) → IsIn (m, r) known → (n ≡ m) × (s ≡ r) → ⊥
    differ m r at same = new (subst (λ (v : ℕ × ℕ). IsIn v known) (λ i. (sym (same.0) i, sym (same.1) i)) at)

    kept : (m r : ℕ) → IsIn (m, r) known → numbered_too number n s next m r ≡ number m r
    kept m r at = numbered_elsewhere number n s next m r (differ m r at)

    here : (m r : ℕ) → ◌≡◌ {A = ℕ × ℕ} (n, s) (m, r) → numbered_too number n s next m r ≡ next
    here m r e =
        (λ i. numbered_too number n s next (sym (ap (λ (v : ℕ × ℕ). v.0) e) i) (sym (ap (λ (v : ℕ × ℕ). v.1) e) i))
        ∙ numbered_here number n s next

    small : (m r : ℕ) → IsIn (m, r) ((n, s) ∷ known) → numbered_too number n s next m r < suc next
    small m r (inl e) = let same = here m r e in omega (arith, same)
    small m r (inr at) =
        let same = kept m r at in
        let less = is.below m r at in
        omega (arith, same, less)

    tell : (m r k q : ℕ) → IsIn (m, r) ((n, s) ∷ known) → IsIn (k, q) ((n, s) ∷ known)
        → numbered_too number n s next m r ≡ numbered_too number n s next k q → (m ≡ k) × (r ≡ q)
    tell m r k q (inl d) (inl e) same =
        (sym (ap (λ (v : ℕ × ℕ). v.0) d) ∙ ap (λ (v : ℕ × ℕ). v.0) e, sym (ap (λ (v : ℕ × ℕ). v.1) d) ∙ ap (λ (v : ℕ × ℕ). v.1) e)
    tell m r k q (inl d) (inr at) same =
        let one = here m r d in
        let two = kept k q at in
        let less = is.below k q at in
        absurd (omega (arith, one, two, less, same))
    tell m r k q (inr at) (inl e) same =
        let one = kept m r at in
        let two = here k q e in
        let less = is.below m r at in
        absurd (omega (arith, one, two, less, same))
    tell m r k q (inr one) (inr two) same = is.apart m r k q one two (sym (kept m r one) ∙ same ∙ kept k q two)

-- the numbers of a list of variables
abbrev numbers_by : Numbers → List (ℕ × ℕ) → List ℕ
numbers_by number [] = []
numbers_by number (v ∷ vs) = number v.0 v.1 ∷ numbers_by number vs

-- A numbering of further variables: it agrees with the one before, tells all variables apart, and its numbers go on.
record Further (known vs : List (ℕ × ℕ)) (number : Numbers) (next : ℕ) : Type 0 where
  after : Numbers
  agrees : (n s : ℕ) → IsIn (n, s) known → after n s ≡ number n s
  apart : (n s m r : ℕ) → IsIn (n, s) known ⊎ IsIn (n, s) vs → IsIn (m, r) known ⊎ IsIn (m, r) vs → after n s ≡ after m r
      → (n ≡ m) × (s ≡ r)
  on : GoOn next (numbers_by after vs)

-- a variable that is known
further_known : (known vs : List (ℕ × ℕ)) (n s : ℕ) (number : Numbers) (next : ℕ) → IsNumbering known number next → IsIn (n, s) known
    → Further known vs number next → Further known ((n, s) ∷ vs) number next
further_known known vs n s number next is at rest = record {
  after = rest.after;
  agrees = rest.agrees;
  apart = λ m r k q one two e. rest.apart m r k q (back m r one) (back k q two) e;
  on = inl ((let same = rest.agrees n s at in let less = is.below n s at in omega (arith, same, less)), rest.on);
}
  where
    back : (m r : ℕ) → IsIn (m, r) known ⊎ IsIn (m, r) ((n, s) ∷ vs) → IsIn (m, r) known ⊎ IsIn (m, r) vs
    back m r (inl one) = inl one
    back m r (inr (inl e)) = inl (subst (λ (v : ℕ × ℕ). IsIn v known) e at)
    back m r (inr (inr two)) = inr two

-- a variable that is new
further_new : (known vs : List (ℕ × ℕ)) (n s : ℕ) (number : Numbers) (next : ℕ) → (IsIn (n, s) known → ⊥)
    → Further ((n, s) ∷ known) vs (numbered_too number n s next) (suc next) → Further known ((n, s) ∷ vs) number next
further_new known vs n s number next new rest = record {
  after = rest.after;
  agrees = λ m r at.
      rest.agrees m r (inr at)
      ∙ numbered_elsewhere number n s next m r
      (λ same. new (subst (λ (v : ℕ × ℕ). IsIn v known) (λ i. (sym (same.0) i, sym (same.1) i)) at));
  apart = λ m r k q one two e. rest.apart m r k q (back m r one) (back k q two) e;
  on = inr (rest.agrees n s (inl refl) ∙ numbered_here number n s next, rest.on);
}
  where
    back : (m r : ℕ) → IsIn (m, r) known ⊎ IsIn (m, r) ((n, s) ∷ vs) → IsIn (m, r) ((n, s) ∷ known) ⊎ IsIn (m, r) vs
    back m r (inl one) = inl (inr one)
    back m r (inr (inl e)) = inl (inl e)
    back m r (inr (inr two)) = inr two

further : (vs known : List (ℕ × ℕ)) (number : Numbers) (next : ℕ) → IsNumbering known number next → Further known vs number next
further [] known number next is = record {
  after = number;
  agrees = λ n s at. refl;
  apart = λ n s m r one two e. is.apart n s m r (only n s one) (only m r two) e;
  on = tt;
}
  where
    only : (n s : ℕ) → IsIn {X = ℕ × ℕ} (n, s) known ⊎ IsIn {X = ℕ × ℕ} (n, s) [] → IsIn {X = ℕ × ℕ} (n, s) known
    only n s (inl one) = one
    only n s (inr two) = absurd two
further (v ∷ vs) known number next is = go (decide_in v.0 v.1 known) (further vs known number next is)
    (λ new. further vs ((v.0, v.1) ∷ known) (numbered_too number v.0 v.1 next) (suc next) (numbering_with known number next v.0 v.1 is new))
  where
    go : IsIn (v.0, v.1) known ⊎ (IsIn (v.0, v.1) known → ⊥) → Further known vs number next
        → ((IsIn (v.0, v.1) known → ⊥) → Further ((v.0, v.1) ∷ known) vs (numbered_too number v.0 v.1 next) (suc next))
        → Further known (v ∷ vs) number next
    go (inl at) rest more = further_known known vs v.0 v.1 number next is at rest
    go (inr new) rest more = further_new known vs v.0 v.1 number next new (more new)

-- ---- Numbered terms

numbers_renumbered : (number : Numbers) (vs : List (ℕ × ℕ))
    → map first_of_pair (map (renumbered (renaming number)) vs) ≡ numbers_by number vs
numbers_renumbered number [] = refl
numbers_renumbered number (v ∷ vs) = ap (λ ns. number v.0 v.1 ∷ ns) (numbers_renumbered number vs)

-- A renaming that keeps the variables of the term apart and numbers them by first appearance.
pub record Numbering (t : Term) : Type 0 where
  pub number : ℕ → ℕ → ℕ
  pub keeps : KeepsApart number t
  pub numbered : IsNumbered (substituted (renaming number) t)

pub numbering_exists : (t : Term) → Numbering t
numbering_exists t =
    go (further (variable_list t) [] (λ n s. 0) 0 (record { apart = λ n s m r one two e. absurd one; below = λ n s at. absurd at }))
  where
    go : Further [] (variable_list t) (λ n s. 0) 0 → Numbering t
    go all = record {
      number = all.after;
      keeps = λ n m s o p e. (all.apart n s m s (inr (occurs_member t n s o)) (inr (occurs_member t m s p)) e).0;
      numbered = record {
        by_appearance = subst (λ ns. IsByAppearance ns)
            (sym (numbers_of_list (substituted (renaming all.after) t)
            ∙ ap (map first_of_pair) (list_renumbered (renaming all.after) t (λ n s o. refl))
            ∙ numbers_renumbered all.after (variable_list t)))
            (go_on_by_appearance (numbers_by all.after (variable_list t)) all.on);
        one_sort = λ n r s o p.
            let one = substituted_occurs n r (renaming all.after) t o in
            let two = substituted_occurs n s (renaming all.after) t p in
            let same = all.apart one.number one.sort two.number two.sort (inr (occurs_member t one.number one.sort one.occurs))
            (inr (occurs_member t two.number two.sort two.occurs)) (one.inside.0 ∙ sym two.inside.0) in
            sym one.inside.1 ∙ same.1 ∙ two.inside.1;
      };
    }
