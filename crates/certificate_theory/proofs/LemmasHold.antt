-- The lemmas of a right certificate hold, one after another.
use Rattle.std.proofs.Common.{◌≡◌, ◌<◌, ◌≤◌, ℕ, zero, suc, ◌+◌, List, [], ◌∷◌, Bool, true, false, length, refl, ap, sym, subst, inl, inr, arith}
use Rattle.std.specs.Prelude.{◌⊎◌, ◌||◌, Some, slice_get, IsFalse, if◌then◌else◌}
use Rattle.std.proofs.lemmas.Bool.Decides.{Decides-or, Decides-eqb}
use Rattle.std.proofs.lemmas.Option.{same_Some}
use Rattle.lotos_base.specs.Sorting.{IsGroundOf}
use Rattle.lotos_base.specs.Tests.{occurs}
use Rattle.lotos_base.specs.Substitution.{substituted, is_listed}
use Rattle.lotos_base.proofs.TestLemmas.{Decides-occurs}
use Rattle.lotos_base.proofs.EqualityLemmas.{equal_same}
use Rattle.lotos_base.proofs.Each.{Each, each_member, each_join}
use Rattle.certificate_theory.specs.InductionCertificate.{Cover, Statement, ProofLine, split_variable, use_it, same_sides, Lemma, Certificate}
use Rattle.certificate_theory.specs.Lines.{AreRightBehind, no_more, right_then}
use Rattle.certificate_theory.specs.Covers.{IsListedIn, IsCoveredBy, cover_of}
use Rattle.certificate_theory.specs.Splits.{Theory, Case, Proving, IsInScope, absent_from, first_case}
use Rattle.certificate_theory.specs.Proofs.{CaseComesTo}
use Rattle.certificate_theory.specs.Certified.{IsFit, IsStated, IsCertificateOver, IsCertified, statements_of, proving_of, IsRightLemma}
use Rattle.certificate_theory.specs.Requirements.{HoldsByInduction, OccursInSide}
use Rattle.certificate_theory.proofs.Each.{each_of, each_map}
use Rattle.certificate_theory.proofs.LineLemmas.{deals_each}
use Rattle.certificate_theory.proofs.CoverLemmas.{cover_is_found, sort_covered}
use Rattle.certificate_theory.proofs.CaseLemmas.{IsFineCase, not_listed, still_not_listed, listed_or, unless_listed}
use Rattle.certificate_theory.proofs.HoldLemmas.{IsSoundCase, from_canon}
use Rattle.certificate_theory.proofs.SplitSound.{split_sound}
use Rattle.certificate_theory.proofs.UseSound.{IsEarlier, use_sound}

-- ---- variables that occur in neither side

Decides-in_side : (statement : Statement) (n s : ℕ)
    → ((occurs n s statement.left || occurs n s statement.right) ≡ true → OccursInSide statement n s)
    × (OccursInSide statement n s → (occurs n s statement.left || occurs n s statement.right) ≡ true)
Decides-in_side statement n s =
    Decides-or (occurs n s statement.left) (occurs n s statement.right) (Decides-occurs n s statement.left)
    (Decides-occurs n s statement.right)

-- where they stand
absent_range : (statement : Statement) (k : ℕ) (ss : List ℕ) (n : ℕ) → IsListedIn (absent_from statement k ss) n
    → (k ≤ n) × (n < k + length ss)
absent_range statement k [] n among = absurd (cc among)
absent_range statement k (s ∷ ss) n among =
    go (occurs k s statement.left || occurs k s statement.right) among (absent_range statement (suc k) ss n)
  where
    later : (suc k ≤ n) × (n < suc k + length ss) → (k ≤ n) × (n < k + suc (length ss))
    later (low, high) = (omega (arith, low), omega (arith, high))

    either : (k ≡ n) ⊎ IsListedIn (absent_from statement (suc k) ss) n
        → (IsListedIn (absent_from statement (suc k) ss) n → (suc k ≤ n) × (n < suc k + length ss))
        → (k ≤ n) × (n < k + suc (length ss))
    either (inl same) rest = (omega (arith, same), omega (arith, same))
    either (inr among) rest = later (rest among)

    go : (b : Bool) → IsListedIn (if b then absent_from statement (suc k) ss else k ∷ absent_from statement (suc k) ss) n
        → (IsListedIn (absent_from statement (suc k) ss) n → (suc k ≤ n) × (n < suc k + length ss))
        → (k ≤ n) × (n < k + suc (length ss))
    go true among rest = later (rest among)
    go false among rest = either (listed_or (absent_from statement (suc k) ss) k n among) rest

-- a variable that occurs is not one of them
occurring_not_absent : (statement : Statement) (k : ℕ) (ss : List ℕ) (n s i : ℕ) → n ≡ k + i → slice_get ss i ≡ Some s
    → OccursInSide statement n s → IsFalse (is_listed (absent_from statement k ss) n)
occurring_not_absent statement k [] n s i e at o = absurd (cc at)
occurring_not_absent statement k (q ∷ ss) n s zero e at o =
    go (occurs k q statement.left || occurs k q statement.right) refl
  where
    same : n ≡ k
    same = omega (arith, e)

    there : OccursInSide statement k q
    there =
        subst (λ (m : ℕ). OccursInSide statement m q) same
        (subst (λ (r : ℕ). OccursInSide statement n r) (sym (same_Some q s at)) o)

    go : (b : Bool) → (occurs k q statement.left || occurs k q statement.right) ≡ b
        → IsFalse (is_listed (if b then absent_from statement (suc k) ss else k ∷ absent_from statement (suc k) ss) n)
    go true is =
        unless_listed (absent_from statement (suc k) ss) n
        (λ among. let low = (absent_range statement (suc k) ss n among).0 in omega (arith, low, same))
    go false is = let found = (Decides-in_side statement k q).1 there in absurd (cc (is, found))
occurring_not_absent statement k (q ∷ ss) n s (suc i) e at o =
    go (occurs k q statement.left || occurs k q statement.right)
    (occurring_not_absent statement (suc k) ss n s i (omega (arith, e)) at o)
  where
    go : (b : Bool) → IsFalse (is_listed (absent_from statement (suc k) ss) n)
        → IsFalse (is_listed (if b then absent_from statement (suc k) ss else k ∷ absent_from statement (suc k) ss) n)
    go true rest = rest
    go false rest = not_listed (absent_from statement (suc k) ss) k n (λ same. omega (arith, e, same)) rest

-- and a variable that is not one of them occurs
not_absent_occurs : (statement : Statement) (k : ℕ) (ss : List ℕ) (n s i : ℕ) → n ≡ k + i → slice_get ss i ≡ Some s
    → IsFalse (is_listed (absent_from statement k ss) n) → OccursInSide statement n s
not_absent_occurs statement k [] n s i e at none = absurd (cc at)
not_absent_occurs statement k (q ∷ ss) n s zero e at none =
    go (occurs k q statement.left || occurs k q statement.right) refl none
  where
    same : k ≡ n
    same = omega (arith, e)

    go : (b : Bool) → (occurs k q statement.left || occurs k q statement.right) ≡ b
        → IsFalse (is_listed (if b then absent_from statement (suc k) ss else k ∷ absent_from statement (suc k) ss) n)
        → OccursInSide statement n s
    go true is none =
        subst (λ (m : ℕ). OccursInSide statement m s) same
        (subst (λ (r : ℕ). OccursInSide statement k r) (same_Some q s at) ((Decides-in_side statement k q).0 is))
    go false is none = absurd (first_listed (absent_from statement (suc k) ss) none)
      where
        first_listed : (rest : List ℕ) → IsFalse (is_listed (k ∷ rest) n) → ⊥
        first_listed rest none =
            let listed : is_listed (k ∷ rest) n ≡ true = rw ((Decides-eqb k n).1 same) refl in
            cc (none, listed)
not_absent_occurs statement k (q ∷ ss) n s (suc i) e at none =
    go (occurs k q statement.left || occurs k q statement.right) none
    (λ rest. not_absent_occurs statement (suc k) ss n s i (omega (arith, e)) at rest)
  where
    go : (b : Bool)
        → IsFalse (is_listed (if b then absent_from statement (suc k) ss else k ∷ absent_from statement (suc k) ss) n)
        → (IsFalse (is_listed (absent_from statement (suc k) ss) n) → OccursInSide statement n s) → OccursInSide statement n s
    go true none later = later none
    go false none later = later (still_not_listed (absent_from statement (suc k) ss) k n none)

-- ---- the first case

pub first_fine : (theory : Theory) (lemma : Lemma) → IsFit theory → IsStated theory.data_.signature lemma
    → IsFineCase theory.data_.signature (length lemma.variables) (first_case theory lemma)
first_fine theory lemma fit stated = record {
  sort = stated.sort;
  left = fit.canon.sorts lemma.statement.left stated.sort stated.left;
  right = fit.canon.sorts lemma.statement.right stated.sort stated.right;
  scoped = scoped;
  hypotheses = tt;
  gone_below = λ n among.
      let high = (absent_range lemma.statement 0 lemma.variables n among).1 in omega (arith, high);
  known = stated.sorts;
  free_within = omega arith;
}
  where
    in_scope : (n s : ℕ) → slice_get lemma.variables n ≡ Some s → OccursInSide lemma.statement n s
        → IsInScope (first_case theory lemma) n s
    in_scope n s at o = (at, occurring_not_absent lemma.statement 0 lemma.variables n s n (omega arith) at o)

    scoped : (n s : ℕ) → OccursInSide (first_case theory lemma).goal n s → IsInScope (first_case theory lemma) n s
    scoped n s (inl o) =
        let there = fit.canon.occurring lemma.statement.left n s (stated.sort, stated.left) o in
        in_scope n s (stated.left_listed n s there) (inl there)
    scoped n s (inr o) =
        let there = fit.canon.occurring lemma.statement.right n s (stated.sort, stated.right) o in
        in_scope n s (stated.right_listed n s there) (inr there)

-- ---- lemmas

-- a case holds where all that a line leaves does
line_sound : (theory : Theory) (covers : List Cover) (proving : Proving) → IsFit theory
    → ((s : ℕ) (operations : List ℕ) → cover_of covers s ≡ Some operations
    → IsCoveredBy theory.data_.signature theory.rules s operations)
    → Each (IsEarlier theory) proving.earlier → (point : Case) (line : ProofLine) (parts : List Case)
    → CaseComesTo theory covers proving point line parts → Each (IsSoundCase theory proving.free) parts
    → IsSoundCase theory proving.free point
line_sound theory covers proving fit covered earlier point same_sides parts comes each = λ fine values grounds hypotheses.
    equal_same theory.data_ (substituted values point.goal.left) (substituted values point.goal.right)
    (ap (substituted values) comes.0)
line_sound theory covers proving fit covered earlier point (use_it use_) parts comes each =
    use_sound theory proving point use_ comes.0 fit earlier comes.1
    (subst (Each (IsSoundCase theory proving.free)) comes.2 each).0
line_sound theory covers proving fit covered earlier point (split_variable n) parts comes each =
    split_sound theory proving point n comes.0 comes.1 fit (covered comes.0 comes.1 comes.3) comes.2
    (subst (Each (IsSoundCase theory proving.free)) comes.4 each)

lemma_holds : (theory : Theory) (covers : List Cover) (earlier : List Lemma) (lemma : Lemma) → IsFit theory
    → ((s : ℕ) (operations : List ℕ) → cover_of covers s ≡ Some operations
    → IsCoveredBy theory.data_.signature theory.rules s operations)
    → Each (IsEarlier theory) (statements_of earlier) → IsStated theory.data_.signature lemma
    → IsRightLemma theory covers earlier lemma → HoldsByInduction theory.data_ lemma.statement
lemma_holds theory covers earlier lemma fit covered hold stated right values left right_ground =
    from_canon theory values lemma.statement stated.sort fit stated.left stated.right left right_ground
    ((deals_each (IsSoundCase theory (length lemma.variables))
    (line_sound theory covers (proving_of earlier lemma) fit covered hold) right).0
    (first_fine theory lemma fit stated) values (λ n s scope. grounds n s scope) tt)
  where
    by_side : (n s : ℕ) → OccursInSide lemma.statement n s → IsGroundOf theory.data_.signature s (values n s)
    by_side n s (inl o) = left n s o
    by_side n s (inr o) = right_ground n s o

    grounds : (n s : ℕ) → IsInScope (first_case theory lemma) n s → IsGroundOf theory.data_.signature s (values n s)
    grounds n s scope =
        by_side n s (not_absent_occurs lemma.statement 0 lemma.variables n s n (omega arith) scope.0 scope.1)

-- each lemma that is right behind others that hold
holding : (theory : Theory) (covers : List Cover) {earlier lemmas : List Lemma} → IsFit theory
    → ((s : ℕ) (operations : List ℕ) → cover_of covers s ≡ Some operations
    → IsCoveredBy theory.data_.signature theory.rules s operations)
    → Each (λ (lemma : Lemma). IsEarlier theory lemma.statement) earlier
    → AreRightBehind (IsRightLemma theory covers) earlier lemmas → Each (IsStated theory.data_.signature) lemmas
    → Each (λ (lemma : Lemma). IsEarlier theory lemma.statement) lemmas
holding theory covers fit covered hold no_more stated = tt
holding theory covers fit covered hold (right_then {earlier = earlier} {xs = xs} {x = x} right rest) stated = (
  one,
  holding theory covers fit covered
      (each_join (λ (lemma : Lemma). IsEarlier theory lemma.statement) earlier (x ∷ []) hold (one, tt)) rest stated.1,
)
  where
    one : IsEarlier theory x.statement
    one = record {
      sort = stated.0.sort;
      left = stated.0.left;
      right = stated.0.right;
      holds = lemma_holds theory covers earlier x fit covered
          (each_map (λ (lemma : Lemma). lemma.statement) (IsEarlier theory) earlier hold) stated.0 right;
    }

-- ---- right certificates

pub covers_hold : (theory : Theory) (certificate : Certificate) (i : ℕ) (cover : Cover) → IsFit theory
    → IsCertificateOver theory.data_.signature certificate → IsCertified theory certificate
    → slice_get certificate.covers i ≡ Some cover
    → IsCoveredBy theory.data_.signature theory.rules cover.sort cover.operations
covers_hold theory certificate i cover fit over certified at =
    sort_covered theory certificate.covers certificate.trees cover.sort cover.operations certified.complete certified.trees
    (cover_is_found i cover certified.covers at)

pub lemmas_hold : (theory : Theory) (certificate : Certificate) (i : ℕ) (lemma : Lemma) → IsFit theory
    → IsCertificateOver theory.data_.signature certificate → IsCertified theory certificate
    → slice_get certificate.lemmas i ≡ Some lemma → HoldsByInduction theory.data_ lemma.statement
lemmas_hold theory certificate i lemma fit over certified at =
    (each_member (λ (one : Lemma). IsEarlier theory one.statement) certificate.lemmas i lemma
    (holding theory certificate.covers fit
    (λ s operations found. sort_covered theory certificate.covers certificate.trees s operations certified.complete certified.trees
    found)
    tt certified.lemmas (each_of (IsStated theory.data_.signature) certificate.lemmas over.lemmas)) at).holds
