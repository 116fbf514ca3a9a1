-- Cases are fine: goals and hypotheses are sorted and in scope, and a split leaves them so.
use Rattle.std.proofs.Common.{◌≡◌, ◌<◌, ◌≤◌, ℕ, suc, ◌+◌, List, [], ◌∷◌, ◌++◌, Bool, true, false, nat_eq, nat_lt, map, length, refl, ap, sym, ◌∙◌, inl, inr, arith, length-append}
use Rattle.std.specs.Prelude.{◌⊎◌, Some, slice_get, IsFalse, if◌then◌else◌}
use Rattle.std.proofs.lemmas.Bool.Decides.{Decides-eqb, Decides-ltb}
use Rattle.std.proofs.lemmas.Option.{same_Some, slice_get_within}
use Rattle.lotos_base.specs.Signature.{Signature, IsSort, IsOperation}
use Rattle.lotos_base.specs.Term.{Term, variable}
use Rattle.lotos_base.specs.Sorting.{HasSort, Occurs}
use Rattle.lotos_base.specs.Substitution.{substituted, is_listed}
use Rattle.lotos_base.proofs.Members.{at_front}
use Rattle.lotos_base.proofs.SubstitutionLemmas.{substituted_sort}
use Rattle.lotos_base.proofs.Each.{Each, each_join}
use Rattle.certificate_theory.specs.InductionCertificate.{Statement}
use Rattle.certificate_theory.specs.Covers.{IsListedIn, Numbered}
use Rattle.certificate_theory.specs.Patterns.{put_for, operation_on}
use Rattle.certificate_theory.specs.Splits.{Theory, Case, Proving, IsInScope, in_both, hypotheses_for, hypotheses_behind, case_with}
use Rattle.certificate_theory.specs.Certified.{IsFit}
use Rattle.certificate_theory.specs.Requirements.{OccursInSide}
use Rattle.certificate_theory.proofs.Each.{each_more, each_map, at_back, from_join}
use Rattle.certificate_theory.proofs.ArgumentLemmas.{from_occurs, variables_sorts, AreOne, put_occurs, put_keeps}

-- A hypothesis is sorted, its variables are listed with their sorts, and the fixed ones of them are not gone.
pub record IsFineHypothesis (signature : Signature) (free : ℕ) (sorts gone : List ℕ) (h : Statement) : Type 0 where
  pub sort : ℕ
  pub left : HasSort signature h.left sort
  pub right : HasSort signature h.right sort
  pub listed : (n s : ℕ) → OccursInSide h n s → (slice_get sorts n ≡ Some s) × (free ≤ n → IsFalse (is_listed gone n))

-- The goal of a case is sorted and in scope, and its hypotheses are fine.
pub record IsFineCase (signature : Signature) (free : ℕ) (point : Case) : Type 0 where
  pub sort : ℕ
  pub left : HasSort signature point.goal.left sort
  pub right : HasSort signature point.goal.right sort
  pub scoped : (n s : ℕ) → OccursInSide point.goal n s → IsInScope point n s
  pub hypotheses : Each (IsFineHypothesis signature free point.sorts point.gone) point.hypotheses
  pub gone_below : (n : ℕ) → IsListedIn point.gone n → n < length point.sorts
  pub known : (n s : ℕ) → slice_get point.sorts n ≡ Some s → IsSort signature s
  pub free_within : free ≤ length point.sorts

-- ---- lists of numbers

pub not_listed : (gone : List ℕ) (n m : ℕ) → ¬ (n ≡ m) → IsFalse (is_listed gone m) → IsFalse (is_listed (n ∷ gone) m)
not_listed gone n m differ none = go (nat_eq n m) refl
  where
    go : (b : Bool) → nat_eq n m ≡ b → (if b then true else is_listed gone m) ≡ false
    go true e = absurd (differ ((Decides-eqb n m).0 e))
    go false e = none

pub still_not_listed : (gone : List ℕ) (n m : ℕ) → IsFalse (is_listed (n ∷ gone) m) → IsFalse (is_listed gone m)
still_not_listed gone n m none = go (nat_eq n m) none
  where
    go : (b : Bool) → (if b then true else is_listed gone m) ≡ false → is_listed gone m ≡ false
    go true e = absurd (cc e)
    go false e = e

pub listed_or : (gone : List ℕ) (n m : ℕ) → IsListedIn (n ∷ gone) m → (n ≡ m) ⊎ IsListedIn gone m
listed_or gone n m among = go (nat_eq n m) refl among
  where
    go : (b : Bool) → nat_eq n m ≡ b → (if b then true else is_listed gone m) ≡ true → (n ≡ m) ⊎ IsListedIn gone m
    go true e among = inl ((Decides-eqb n m).0 e)
    go false e among = inr among

pub unless_listed : (gone : List ℕ) (m : ℕ) → (IsListedIn gone m → ⊥) → IsFalse (is_listed gone m)
unless_listed gone m never = go (is_listed gone m) refl
  where
    go : (b : Bool) → is_listed gone m ≡ b → b ≡ false
    go true e = absurd (never e)
    go false e = refl

-- ---- what a split makes of the scope

-- what is needed of a variable that is split and of an operation that is put in
pub record IsSplit (theory : Theory) (free : ℕ) (point : Case) (n s : ℕ) (one : Numbered) : Type 0 where
  pub fit : IsFit theory
  pub fine : IsFineCase theory.data_.signature free point
  pub scope : IsInScope point n s
  pub is_operation : IsOperation theory.data_.signature one.number one.operation
  pub result : one.operation.result ≡ s

-- The operation on variables that are new in the case.
abbrev pub put_in : Case → Numbered → Term
put_in point one = operation_on one (length point.sorts)

module _ {theory : Theory} {free : ℕ} {point : Case} {n s : ℕ} {one : Numbered} where
  pub put_in_sort : IsSplit theory free point n s one → HasSort theory.data_.signature (put_in point one) s
  put_in_sort is = (
    one.operation,
    is.is_operation,
    is.result,
    variables_sorts theory.data_.signature one.operation.arguments (length point.sorts)
        (λ i q at. is.fit.signature.arguments one.number i q one.operation is.is_operation at),
  )

  -- another variable in scope stays in scope
  pub scope_stays : IsSplit theory free point n s one → (m r : ℕ) → slice_get point.sorts m ≡ Some r → ¬ AreOne n s m r
      → (slice_get (point.sorts ++ one.operation.arguments) m ≡ Some r)
      × (IsFalse (is_listed point.gone m) → IsFalse (is_listed (n ∷ point.gone) m))
  scope_stays is m r at differ =
      (at_front point.sorts one.operation.arguments m r at, λ none. not_listed point.gone n m apart none)
    where
      apart : ¬ (n ≡ m)
      apart e = differ (e, same_Some s r (sym is.scope.0 ∙ (ap (λ (k : ℕ). slice_get point.sorts k) e ∙ at)))

  -- a new variable is in scope
  pub scope_new : IsSplit theory free point n s one → (m r i : ℕ) → m ≡ length point.sorts + i
      → slice_get one.operation.arguments i ≡ Some r
      → (slice_get (point.sorts ++ one.operation.arguments) m ≡ Some r) × IsFalse (is_listed (n ∷ point.gone) m)
  scope_new is m r i e at = (
    at_back point.sorts one.operation.arguments i m r e at,
    not_listed point.gone n m apart (unless_listed point.gone m beyond),
  )
    where
      apart : ¬ (n ≡ m)
      apart same = let within = slice_get_within point.sorts n s is.scope.0 in omega (arith, within, same, e)

      beyond : IsListedIn point.gone m → ⊥
      beyond among = let below = is.fine.gone_below m among in omega (arith, below, e)

  -- a variable of a term with the operation put in is in scope where the variables of the term are
  pub scope_behind : IsSplit theory free point n s one → (t : Term) → ((m r : ℕ) → Occurs m r t → IsInScope point m r)
      → (m r : ℕ) → Occurs m r (substituted (put_for n s (put_in point one)) t)
      → (slice_get (point.sorts ++ one.operation.arguments) m ≡ Some r) × IsFalse (is_listed (n ∷ point.gone) m)
  scope_behind is t scoped m r o = go (put_occurs n s (put_in point one) t m r o)
    where
      go : (Occurs m r t × (¬ AreOne n s m r)) ⊎ (Occurs n s t × Occurs m r (put_in point one))
          → (slice_get (point.sorts ++ one.operation.arguments) m ≡ Some r) × IsFalse (is_listed (n ∷ point.gone) m)
      go (inl (o, differ)) =
          let stays = scope_stays is m r (scoped m r o).0 differ in
          (stays.0, stays.1 (scoped m r o).1)
      go (inr (o, inside)) =
          let new = from_occurs one.operation.arguments (length point.sorts) m r inside in
          scope_new is m r new.0 new.1 new.2

  -- a side of the goal with the operation put in keeps its sort
  pub side_behind : IsSplit theory free point n s one → (t : Term) (sort : ℕ) → HasSort theory.data_.signature t sort
      → ((m r : ℕ) → Occurs m r t → slice_get point.sorts m ≡ Some r)
      → HasSort theory.data_.signature (substituted (put_for n s (put_in point one)) t) sort
  side_behind is t sort h listed =
      substituted_sort theory.data_.signature (put_for n s (put_in point one)) t sort h
      (put_keeps theory.data_.signature n s (put_in point one) t (put_in_sort is)
      (λ m r o. is.fine.known m r (listed m r o)))

  -- ---- hypotheses

  kept_fine : IsSplit theory free point n s one → n < free → (h : Statement)
      → IsFineHypothesis theory.data_.signature free point.sorts point.gone h
      → IsFineHypothesis theory.data_.signature free (point.sorts ++ one.operation.arguments) (n ∷ point.gone) h
  kept_fine is less h fine = record {
    sort = fine.sort;
    left = fine.left;
    right = fine.right;
    listed = λ m r o. (
      at_front point.sorts one.operation.arguments m r (fine.listed m r o).0,
      λ le. not_listed point.gone n m (λ e. omega (arith, e, le, less)) ((fine.listed m r o).1 le),
    );
  }

  -- the hypothesis for an argument
  made_fine : IsSplit theory free point n s one → (i k : ℕ) → k ≡ length point.sorts + i
      → slice_get one.operation.arguments i ≡ Some s
      → IsFineHypothesis theory.data_.signature free (point.sorts ++ one.operation.arguments) (n ∷ point.gone)
      (in_both (substituted (put_for n s (variable k s))) point.goal)
  made_fine is i k e at = record {
    sort = is.fine.sort;
    left = keeps point.goal.left is.fine.left (λ m r o. is.fine.scoped m r (inl o));
    right = keeps point.goal.right is.fine.right (λ m r o. is.fine.scoped m r (inr o));
    listed = λ m r o. both_sides m r o;
  }
    where
      keeps : (t : Term) → HasSort theory.data_.signature t is.fine.sort → ((m r : ℕ) → Occurs m r t → IsInScope point m r)
          → HasSort theory.data_.signature (substituted (put_for n s (variable k s)) t) is.fine.sort
      keeps t h scoped =
          substituted_sort theory.data_.signature (put_for n s (variable k s)) t is.fine.sort h
          (put_keeps theory.data_.signature n s (variable k s) t (refl, is.fine.known n s is.scope.0)
          (λ m r o. is.fine.known m r (scoped m r o).0))

      by_side : (t : Term) → ((m r : ℕ) → Occurs m r t → IsInScope point m r) → (m r : ℕ)
          → (Occurs m r t × (¬ AreOne n s m r)) ⊎ (Occurs n s t × Occurs m r (variable k s))
          → (slice_get (point.sorts ++ one.operation.arguments) m ≡ Some r) × IsFalse (is_listed (n ∷ point.gone) m)
      by_side t scoped m r (inl (o, differ)) =
          let stays = scope_stays is m r (scoped m r o).0 differ in
          (stays.0, stays.1 (scoped m r o).1)
      by_side t scoped m r (inr (o, inside)) =
          let number = inside.0 in
          scope_new is m r i (omega (arith, number, e)) (at ∙ ap (λ (q : ℕ). Some q) inside.1)

      both_sides : (m r : ℕ) → OccursInSide (in_both (substituted (put_for n s (variable k s))) point.goal) m r
          → (slice_get (point.sorts ++ one.operation.arguments) m ≡ Some r) × (free ≤ m → IsFalse (is_listed (n ∷ point.gone) m))
      both_sides m r (inl o) =
          let found = by_side point.goal.left (λ j q p. is.fine.scoped j q (inl p)) m r
          (put_occurs n s (variable k s) point.goal.left m r o) in
          (found.0, λ le. found.1)
      both_sides m r (inr o) =
          let found = by_side point.goal.right (λ j q p. is.fine.scoped j q (inr p)) m r
          (put_occurs n s (variable k s) point.goal.right m r o) in
          (found.0, λ le. found.1)

  -- a hypothesis with the operation put in
  changed_fine : IsSplit theory free point n s one → (h : Statement)
      → IsFineHypothesis theory.data_.signature free point.sorts point.gone h
      → IsFineHypothesis theory.data_.signature free (point.sorts ++ one.operation.arguments) (n ∷ point.gone)
      (in_both (substituted (put_for n s (put_in point one))) h)
  changed_fine is h fine = record {
    sort = fine.sort;
    left = side_behind is h.left fine.sort fine.left (λ m r o. (fine.listed m r (inl o)).0);
    right = side_behind is h.right fine.sort fine.right (λ m r o. (fine.listed m r (inr o)).0);
    listed = λ m r o. both_sides m r o;
  }
    where
      by_side : (t : Term) → ((m r : ℕ) → Occurs m r t → (slice_get point.sorts m ≡ Some r) × (free ≤ m → IsFalse (is_listed point.gone m)))
          → (m r : ℕ) → (Occurs m r t × (¬ AreOne n s m r)) ⊎ (Occurs n s t × Occurs m r (put_in point one))
          → (slice_get (point.sorts ++ one.operation.arguments) m ≡ Some r) × (free ≤ m → IsFalse (is_listed (n ∷ point.gone) m))
      by_side t listed m r (inl (o, differ)) =
          let stays = scope_stays is m r (listed m r o).0 differ in
          (stays.0, λ le. stays.1 ((listed m r o).1 le))
      by_side t listed m r (inr (o, inside)) =
          let new = from_occurs one.operation.arguments (length point.sorts) m r inside in
          let found = scope_new is m r new.0 new.1 new.2 in
          (found.0, λ le. found.1)

      both_sides : (m r : ℕ) → OccursInSide (in_both (substituted (put_for n s (put_in point one))) h) m r
          → (slice_get (point.sorts ++ one.operation.arguments) m ≡ Some r) × (free ≤ m → IsFalse (is_listed (n ∷ point.gone) m))
      both_sides m r (inl o) =
          by_side h.left (λ j q p. fine.listed j q (inl p)) m r (put_occurs n s (put_in point one) h.left m r o)
      both_sides m r (inr o) =
          by_side h.right (λ j q p. fine.listed j q (inr p)) m r (put_occurs n s (put_in point one) h.right m r o)

-- what holds of the hypothesis for each argument holds of all of them
pub each_made : (P : Statement → Type 0) (goal : Statement) (n s next : ℕ) (rs : List ℕ)
    → ((i k : ℕ) → k ≡ next + i → slice_get rs i ≡ Some s → P (in_both (substituted (put_for n s (variable k s))) goal))
    → Each P (hypotheses_for goal n s next rs)
each_made P goal n s next [] all = tt
each_made P goal n s next (r ∷ rs) all =
    go (nat_eq s r) refl (each_made P goal n s (suc next) rs (λ i k e at. all (suc i) k (omega (arith, e)) at))
  where
    go : (b : Bool) → nat_eq s r ≡ b → Each P (hypotheses_for goal n s (suc next) rs)
        → Each P (if b
        then in_both (substituted (put_for n s (variable next s))) goal ∷ hypotheses_for goal n s (suc next) rs
        else hypotheses_for goal n s (suc next) rs)
    go true e rest = (all 0 next (omega arith) (ap (λ (q : ℕ). Some q) (sym ((Decides-eqb s r).0 e))), rest)
    go false e rest = rest

-- the hypotheses behind a split, of a free variable and of a fixed one
pub behind_free : (P : Statement → Type 0) (proving : Proving) (point : Case) (n s : ℕ) (one : Numbered) → n < proving.free
    → Each P point.hypotheses
    → Each P (hypotheses_for point.goal n s (length point.sorts) one.operation.arguments)
    → Each P (hypotheses_behind proving point n s one)
behind_free P proving point n s one less old made =
    rw ((Decides-ltb n proving.free).1 less)
    (each_join P point.hypotheses (hypotheses_for point.goal n s (length point.sorts) one.operation.arguments) old made)

pub behind_fixed : (P : Statement → Type 0) (proving : Proving) (point : Case) (n s : ℕ) (one : Numbered)
    → nat_lt n proving.free ≡ false
    → Each P (map (in_both (substituted (put_for n s (operation_on one (length point.sorts))))) point.hypotheses)
    → Each P (hypotheses_behind proving point n s one)
behind_fixed P proving point n s one not_less changed = rw not_less changed

-- ---- the cases that a split leaves are fine

pub case_fine : (theory : Theory) (proving : Proving) (point : Case) (n s : ℕ) (one : Numbered)
    → IsSplit theory proving.free point n s one
    → IsFineCase theory.data_.signature proving.free (case_with theory proving point n s one)
case_fine theory proving point n s one is = record {
  sort = is.fine.sort;
  left = is.fit.canon.sorts (substituted (put_for n s (put_in point one)) point.goal.left) is.fine.sort left_sorted;
  right = is.fit.canon.sorts (substituted (put_for n s (put_in point one)) point.goal.right) is.fine.sort right_sorted;
  scoped = scoped;
  hypotheses = by_status (nat_lt n proving.free) refl;
  gone_below = λ m among. gone_below m (listed_or point.gone n m among);
  known = λ m r at. known m r (from_join point.sorts one.operation.arguments m r at);
  free_within =
      let le = is.fine.free_within in
      let whole = length-append point.sorts one.operation.arguments in
      omega (arith, le, whole);
}
  where
    left_sorted : HasSort theory.data_.signature (substituted (put_for n s (put_in point one)) point.goal.left) is.fine.sort
    left_sorted = side_behind is point.goal.left is.fine.sort is.fine.left (λ m r o. (is.fine.scoped m r (inl o)).0)

    right_sorted : HasSort theory.data_.signature (substituted (put_for n s (put_in point one)) point.goal.right) is.fine.sort
    right_sorted = side_behind is point.goal.right is.fine.sort is.fine.right (λ m r o. (is.fine.scoped m r (inr o)).0)

    scoped : (m r : ℕ) → OccursInSide (case_with theory proving point n s one).goal m r
        → IsInScope (case_with theory proving point n s one) m r
    scoped m r (inl o) =
        scope_behind is point.goal.left (λ j q p. is.fine.scoped j q (inl p)) m r
        (is.fit.canon.occurring (substituted (put_for n s (put_in point one)) point.goal.left) m r (is.fine.sort, left_sorted) o)
    scoped m r (inr o) =
        scope_behind is point.goal.right (λ j q p. is.fine.scoped j q (inr p)) m r
        (is.fit.canon.occurring (substituted (put_for n s (put_in point one)) point.goal.right) m r (is.fine.sort, right_sorted) o)

    by_status : (b : Bool) → nat_lt n proving.free ≡ b
        → Each (IsFineHypothesis theory.data_.signature proving.free (point.sorts ++ one.operation.arguments) (n ∷ point.gone))
        (hypotheses_behind proving point n s one)
    by_status true e =
        let less : n < proving.free = (Decides-ltb n proving.free).0 e in
        behind_free
        (IsFineHypothesis theory.data_.signature proving.free (point.sorts ++ one.operation.arguments) (n ∷ point.gone))
        proving point n s one less
        (each_more (IsFineHypothesis theory.data_.signature proving.free point.sorts point.gone)
        (IsFineHypothesis theory.data_.signature proving.free (point.sorts ++ one.operation.arguments) (n ∷ point.gone))
        point.hypotheses (λ h fine. kept_fine is less h fine) is.fine.hypotheses)
        (each_made
        (IsFineHypothesis theory.data_.signature proving.free (point.sorts ++ one.operation.arguments) (n ∷ point.gone))
        point.goal n s (length point.sorts) one.operation.arguments (λ i k e at. made_fine is i k e at))
    by_status false e =
        behind_fixed
        (IsFineHypothesis theory.data_.signature proving.free (point.sorts ++ one.operation.arguments) (n ∷ point.gone))
        proving point n s one e
        (each_map (in_both (substituted (put_for n s (operation_on one (length point.sorts)))))
        (IsFineHypothesis theory.data_.signature proving.free (point.sorts ++ one.operation.arguments) (n ∷ point.gone))
        point.hypotheses
        (each_more (IsFineHypothesis theory.data_.signature proving.free point.sorts point.gone)
        (λ h. IsFineHypothesis theory.data_.signature proving.free (point.sorts ++ one.operation.arguments) (n ∷ point.gone)
        (in_both (substituted (put_for n s (put_in point one))) h))
        point.hypotheses (λ h fine. changed_fine is h fine) is.fine.hypotheses))

    gone_below : (m : ℕ) → (n ≡ m) ⊎ IsListedIn point.gone m → m < length (point.sorts ++ one.operation.arguments)
    gone_below m (inl same) =
        let within = slice_get_within point.sorts n s is.scope.0 in
        let whole = length-append point.sorts one.operation.arguments in
        omega (arith, within, whole, same)
    gone_below m (inr among) =
        let below = is.fine.gone_below m among in
        let whole = length-append point.sorts one.operation.arguments in
        omega (arith, below, whole)

    known : (m r : ℕ) → (slice_get point.sorts m ≡ Some r)
        ⊎ ((i : ℕ) × (m ≡ length point.sorts + i) × (slice_get one.operation.arguments i ≡ Some r))
        → IsSort theory.data_.signature r
    known m r (inl at) = is.fine.known m r at
    known m r (inr (i, e, at)) = is.fit.signature.arguments one.number i r one.operation is.is_operation at
