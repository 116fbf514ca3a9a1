-- Faults of renamings and their causes.
use Rattle.std.proofs.Common.{◌≡◌, ◌<◌, ℕ, zero, suc, Bool, true, false, if◌then◌else◌, List, [], ◌∷◌, ◌++◌, slice_get, Option, None, Some, refl, ap, sym, ◌∙◌, subst, arith}
use Rattle.std.proofs.lemmas.Option.{same_Some}
use Rattle.lotos_base.specs.Equation.{Place}
use Rattle.lotos_base.specs.Signature.{Sort, Operation}
use Rattle.sort_terms.specs.WellFormedTest.{are_one_sort, are_one_operation}
use Rattle.syntax_trees.specs.WrittenItem.{WrittenPair}
use Rattle.type_definitions.specs.TypeFault.{TypeFault, double_sort, double_operation, first_fault, fault_along}
use Rattle.type_definitions.specs.Renaming.{pair_for, renamed_sort, renamed_operation, clash_at, clash_with, clash_among}
use Rattle.type_flatten.specs.FaultCauses.{FirstAlong, AreOneSort, AreAlikeOperations}
use Rattle.type_flatten.specs.FirstCause.{and_also}
use Rattle.type_flatten.specs.RenamingCauses.{FaultStandsAt, Coincides}
use Rattle.type_flatten.specs.RenamingCauseLaws.{RenamingsAreFaultyWhereCaused}
use Rattle.type_flatten.proofs.CauseLemmas.{Tells, Decides, or_else, along_told, told_as, names_decided, operations_decided, pairs_faulty}

stands_told : (kind : Place → List ℕ → TypeFault) (later earlier : Option WrittenPair) → Tells (clash_at kind later earlier)
    (FaultStandsAt kind later earlier)
stands_told kind (Some later) earlier fault = (
  λ e. sym (same_Some (kind later.place later.given) fault e),
  λ is. ap (λ (f : TypeFault). Some f) (sym is),
)
stands_told kind None (Some earlier) fault = (
  λ e. sym (same_Some (kind earlier.place earlier.given) fault e),
  λ is. ap (λ (f : TypeFault). Some f) (sym is),
)
stands_told kind None None fault = (λ e. absurd (cc e), λ is. absurd is)

module _ {A : Type 0} (same : A → A → Bool) (Same : A → A → Type 0) (decides : (x y : A) → Decides (same x y) (Same x y))
    (pair_of : A → Option WrittenPair) (kind : Place → List ℕ → TypeFault) where
  here_from : (x y : A) (ys : List A) (fault : TypeFault) → same y x ≡ true → clash_at kind (pair_of x) (pair_of y) ≡ Some fault
      → Coincides Same pair_of kind (y ∷ ys) x fault
  here_from x y ys fault is e = record {
    i = 0;
    other = y;
    found = refl;
    same = (decides y x).0 is;
    first = λ k z less. absurd (omega (arith, less));
    stands = (stands_told kind (pair_of x) (pair_of y) fault).0 e;
  }

  later_from : (x y : A) (ys : List A) (fault : TypeFault) → same y x ≡ false → Coincides Same pair_of kind ys x fault
      → Coincides Same pair_of kind (y ∷ ys) x fault
  later_from x y ys fault is meets =
      record { i = suc meets.i; other = meets.other; found = meets.found; same = meets.same; first = by; stands = meets.stands }
    where
      by : (k : ℕ) (z : A) → k < suc meets.i → slice_get (y ∷ ys) k ≡ Some z → ¬ Same z x
      by zero z less found alike =
          let there : same y x ≡ true = (decides y x).1 (subst (λ (w : A). Same w x) (sym (same_Some y z found)) alike) in
          let never : true ≡ false = sym there ∙ is in cc never
      by (suc k) z less found alike = meets.first k z (omega (arith, less)) found alike

  meets_from : (x : A) (ys : List A) (fault : TypeFault) → clash_with same pair_of kind ys x ≡ Some fault
      → Coincides Same pair_of kind ys x fault
  meets_from x [] fault e = absurd (cc e)
  meets_from x (y ∷ ys) fault e = by (same y x) refl e (λ h. meets_from x ys fault h)
    where
      by : (test : Bool) → same y x ≡ test
          → (if test then clash_at kind (pair_of x) (pair_of y) else clash_with same pair_of kind ys x) ≡ Some fault
          → (clash_with same pair_of kind ys x ≡ Some fault → Coincides Same pair_of kind ys x fault) → Coincides Same pair_of kind
          (y ∷ ys) x fault
      by true is e later = here_from x y ys fault is e
      by false is e later = later_from x y ys fault is (later e)

  meets_at : (x : A) (ys : List A) (fault : TypeFault) (i : ℕ) (other : A) → slice_get ys i ≡ Some other → Same other x
      → ((k : ℕ) (z : A) → k < i → slice_get ys k ≡ Some z → ¬ Same z x) → FaultStandsAt kind (pair_of x) (pair_of other) fault
      → clash_with same pair_of kind ys x ≡ Some fault
  meets_at x [] fault i other found alike first stands = absurd (cc found)
  meets_at x (y ∷ ys) fault zero other found alike first stands =
      by (same y x) ((decides y x).1 (subst (λ (w : A). Same w x) (sym is) alike))
      ((stands_told kind (pair_of x) (pair_of y) fault).1
      (subst (λ (w : A). FaultStandsAt kind (pair_of x) (pair_of w) fault) (sym is) stands))
    where
      is : y ≡ other
      is = same_Some y other found

      by : (test : Bool) → test ≡ true → clash_at kind (pair_of x) (pair_of y) ≡ Some fault
          → (if test then clash_at kind (pair_of x) (pair_of y) else clash_with same pair_of kind ys x) ≡ Some fault
      by true h e = e
      by false h e = absurd (cc h)
  meets_at x (y ∷ ys) fault (suc i) other found alike first stands =
      by (same y x) (λ h. first 0 y (omega arith) refl ((decides y x).0 h))
      (meets_at x ys fault i other found alike (λ k z less there. first (suc k) z (omega (arith, less)) there) stands)
    where
      by : (test : Bool) → (test ≡ true → ⊥) → clash_with same pair_of kind ys x ≡ Some fault
          → (if test then clash_at kind (pair_of x) (pair_of y) else clash_with same pair_of kind ys x) ≡ Some fault
      by true h e = absurd (h refl)
      by false h e = e

  abbrev meet_here : List A → A → Option TypeFault
  meet_here earlier x = clash_with same pair_of kind earlier x

  meets_told : (earlier : List A) (x : A) → Tells (meet_here earlier x) (Coincides Same pair_of kind earlier x)
  meets_told earlier x fault =
      (meets_from x earlier fault, λ is. meets_at x earlier fault is.i is.other is.found is.same is.first is.stands)

  meets_along : (earlier xs : List A) → clash_among same pair_of kind earlier xs ≡ fault_along meet_here and_also earlier xs
  meets_along earlier [] = refl
  meets_along earlier (x ∷ xs) = ap (first_fault (clash_with same pair_of kind earlier x)) (meets_along (earlier ++ x ∷ []) xs)

  pub among_meet : (earlier xs : List A)
      → Tells (clash_among same pair_of kind earlier xs) (FirstAlong (Coincides Same pair_of kind) and_also earlier xs)
  among_meet earlier xs =
      told_as (clash_among same pair_of kind earlier xs) _ _ (meets_along earlier xs)
      (along_told meet_here (Coincides Same pair_of kind) and_also meets_told earlier xs)

pub renamings_faulty : RenamingsAreFaultyWhereCaused
renamings_faulty base type_name pairs =
    or_else _ _ _ _ (pairs_faulty.sorts base.signature pairs.sort_pairs)
    (or_else _ _ _ _ (pairs_faulty.operations base.signature pairs.operation_pairs)
    (or_else _ _ _ _
    (among_meet (λ (one : Sort) (other : Sort). are_one_sort (renamed_sort type_name pairs one) (renamed_sort type_name pairs other))
    (λ (one : Sort) (other : Sort). AreOneSort (renamed_sort type_name pairs one) (renamed_sort type_name pairs other))
    (λ one other. names_decided (renamed_sort type_name pairs one).name (renamed_sort type_name pairs other).name)
    (λ (sort : Sort). pair_for pairs.sort_pairs sort.name) double_sort [] base.signature.sorts)
    (among_meet
    (λ (one : Operation) (other : Operation).
    are_one_operation (renamed_operation type_name pairs one) (renamed_operation type_name pairs other))
    (λ (one : Operation) (other : Operation).
    AreAlikeOperations (renamed_operation type_name pairs one) (renamed_operation type_name pairs other))
    (λ one other. operations_decided (renamed_operation type_name pairs one) (renamed_operation type_name pairs other))
    (λ (operation : Operation). pair_for pairs.operation_pairs operation.name) double_operation [] base.signature.operations)))
