-- The worked certificates: what is found by the tests that compute, and what follows from the laws.
use Rattle.std.proofs.Common.{◌≡◌, ◌<◌, ℕ, zero, suc, List, [], ◌∷◌, Bool, true, false, nat_eq, refl, ap, sym, ◌∙◌, subst, inl, inr, arith}
use Rattle.std.specs.Prelude.{◌⊎◌, Option, None, Some, slice_get, if◌then◌else◌}
use Rattle.std.specs.Bool.{Decides}
use Rattle.std.proofs.lemmas.Bool.Decides.{Decides-eqb}
use Rattle.std.proofs.lemmas.Option.{same_Some}
use Rattle.lotos_base.specs.Signature.{Signature, Operation, IsSort, IsOperation}
use Rattle.lotos_base.specs.Term.{Term, variable}
use Rattle.lotos_base.specs.Sorting.{IsGroundOf, Occurs}
use Rattle.lotos_base.specs.Substitution.{Substitution, IsGrounding}
use Rattle.lotos_base.specs.Equality.{Equal}
use Rattle.lotos_base.specs.SmallData.{natural_signature, natural_data, nought, successor, plus, x_natural, y_natural}
use Rattle.lotos_base.proofs.Each.{Each, each_member}
use Rattle.certificate_theory.specs.InductionCertificate.{PatternTree, ProofLine, Lemma, Certificate}
use Rattle.certificate_theory.specs.Faults.{InductionFault}
use Rattle.certificate_theory.specs.Certified.{IsStated, IsCertificateOver, IsCertified, IsInductionFault}
use Rattle.certificate_theory.specs.Requirements.{OccursInSide, IsRenamedStatement, stated, IsMetBy, IsLeftOpen}
use Rattle.certificate_theory.specs.Addition.{addition}
use Rattle.certificate_theory.specs.CommutativityCases.{number_cover, sum_tree, states, nought_right, successor_right, commutes, with_lemmas, commutativity, restated, used_as_read, split_twice, is_commutative, is_idempotent, CommutativityCases}
use Rattle.certificate_theory.specs.RefusedCases.{nought_right_by, all_nought_by, without_tree, without_cover, cover_twice, early_leaf, tree_twice, RefusedCases}
use Rattle.certificate_theory.proofs.CertificateTests.{has_sort, each_variable, certificate_found_wrong}
use Rattle.certificate_theory.proofs.TestedLines.{Decides-has_sort, Decides-each}
use Rattle.certificate_theory.proofs.TestedCertificates.{certificate_is}
use Rattle.certificate_theory.proofs.LemmasHold.{covers_hold, lemmas_hold}
use Rattle.certificate_theory.proofs.AdditionForms.{addition_fit}

-- ---- certificates over a signature, by tests

abbrev is_at : Option ℕ → ℕ → Bool
is_at None s = false
is_at (Some r) s = nat_eq r s

decides_at : (ss : List ℕ) (n s : ℕ) → Decides (is_at (slice_get ss n) s) (slice_get ss n ≡ Some s)
decides_at ss n s = go (slice_get ss n)
  where
    go : (o : Option ℕ) → Decides (is_at o s) (o ≡ Some s)
    go None = ((λ e. absurd (cc e)), (λ e. absurd (cc e)))
    go (Some r) = (
      (λ e. ap (λ (q : ℕ). Some q) ((Decides-eqb r s).0 e)),
      (λ e. (Decides-eqb r s).1 (same_Some r s e)),
    )

-- the lemma is stated where the tests say so
pub stated_by : (signature : Signature) (lemma : Lemma) (sort : ℕ) → has_sort signature lemma.statement.left sort ≡ true
    → has_sort signature lemma.statement.right sort ≡ true
    → each_variable (λ n s. is_at (slice_get lemma.variables n) s) lemma.statement.left ≡ true
    → each_variable (λ n s. is_at (slice_get lemma.variables n) s) lemma.statement.right ≡ true
    → Each (IsSort signature) lemma.variables → IsStated signature lemma
stated_by signature lemma sort left right left_at right_at known = record {
  sort = sort;
  left = (Decides-has_sort signature lemma.statement.left sort).0 left;
  right = (Decides-has_sort signature lemma.statement.right sort).0 right;
  left_listed = (Decides-each (λ n s. slice_get lemma.variables n ≡ Some s) (λ n s. is_at (slice_get lemma.variables n) s)
      (decides_at lemma.variables) lemma.statement.left).0 left_at;
  right_listed = (Decides-each (λ n s. slice_get lemma.variables n ≡ Some s) (λ n s. is_at (slice_get lemma.variables n) s)
      (decides_at lemma.variables) lemma.statement.right).0 right_at;
  sorts = λ n s at. each_member (IsSort signature) lemma.variables n s known at;
}

-- The operation of a tree is one of the signature.
abbrev HasOperation : Signature → PatternTree → Type 0
HasOperation signature tree = (operation : Operation) × IsOperation signature tree.operation operation

pub over_by : (signature : Signature) (certificate : Certificate) → Each (HasOperation signature) certificate.trees
    → Each (IsStated signature) certificate.lemmas → IsCertificateOver signature certificate
over_by signature certificate trees lemmas = record {
  trees = λ i tree at. each_member (HasOperation signature) certificate.trees i tree trees at;
  lemmas = λ i lemma at. each_member (IsStated signature) certificate.lemmas i lemma lemmas at;
}

-- ---- sums commute

nought_right_stated : IsStated natural_signature nought_right
nought_right_stated = stated_by natural_signature nought_right 0 refl refl refl refl (omega arith, tt)

successor_right_stated : IsStated natural_signature successor_right
successor_right_stated = stated_by natural_signature successor_right 0 refl refl refl refl (omega arith, (omega arith, tt))

commutes_stated : IsStated natural_signature commutes
commutes_stated = stated_by natural_signature commutes 0 refl refl refl refl (omega arith, (omega arith, tt))

sum_over : HasOperation natural_signature sum_tree
sum_over = (_, refl)

commutativity_over : IsCertificateOver natural_signature commutativity
commutativity_over =
    over_by natural_signature commutativity (sum_over, tt)
    (nought_right_stated, (successor_right_stated, (commutes_stated, tt)))

commutativity_right : IsCertified addition commutativity
commutativity_right = certificate_is addition commutativity None commutativity_over refl

restated_over : IsCertificateOver natural_signature (with_lemmas (restated ∷ used_as_read ∷ []))
restated_over =
    over_by natural_signature (with_lemmas (restated ∷ used_as_read ∷ [])) (sum_over, tt) (
      stated_by natural_signature restated 0 refl refl refl refl (omega arith, tt),
      (stated_by natural_signature used_as_read 0 refl refl refl refl (omega arith, tt), tt),
    )

split_twice_over : IsCertificateOver natural_signature (with_lemmas (split_twice ∷ []))
split_twice_over =
    over_by natural_signature (with_lemmas (split_twice ∷ [])) (sum_over, tt)
    (stated_by natural_signature split_twice 0 refl refl refl refl (omega arith, tt), tt)

-- values of x and y
abbrev two_values : Term → Term → Substitution
two_values t u n s = if nat_eq n 0 then t else u

at_x : (t u : Term) (n s : ℕ) → IsGroundOf natural_signature 0 t → Occurs n s x_natural
    → IsGroundOf natural_signature s (two_values t u n s)
at_x t u n s ground_term o =
    subst (λ (k : ℕ). IsGroundOf natural_signature s (two_values t u k s)) o.0
    (subst (λ (q : ℕ). IsGroundOf natural_signature q t) o.1 ground_term)

at_y : (t u : Term) (n s : ℕ) → IsGroundOf natural_signature 0 u → Occurs n s y_natural
    → IsGroundOf natural_signature s (two_values t u n s)
at_y t u n s ground_term o =
    subst (λ (k : ℕ). IsGroundOf natural_signature s (two_values t u k s)) o.0
    (subst (λ (q : ℕ). IsGroundOf natural_signature q u) o.1 ground_term)

left_values : (t u : Term) → IsGroundOf natural_signature 0 t → IsGroundOf natural_signature 0 u
    → IsGrounding natural_signature (plus x_natural y_natural) (two_values t u)
left_values t u first second n s (inl o) = at_x t u n s first o
left_values t u first second n s (inr (inl o)) = at_y t u n s second o
left_values t u first second n s (inr (inr o)) = absurd o

right_values : (t u : Term) → IsGroundOf natural_signature 0 t → IsGroundOf natural_signature 0 u
    → IsGrounding natural_signature (plus y_natural x_natural) (two_values t u)
right_values t u first second n s (inl o) = at_y t u n s second o
right_values t u first second n s (inr (inl o)) = at_x t u n s first o
right_values t u first second n s (inr (inr o)) = absurd o

sums_commute : (t u : Term) → IsGroundOf natural_signature 0 t → IsGroundOf natural_signature 0 u
    → Equal natural_data (plus t u) (plus u t)
sums_commute t u first second =
    lemmas_hold addition commutativity 2 commutes addition_fit commutativity_over commutativity_right refl (two_values t u)
    (left_values t u first second) (right_values t u first second)

-- ---- requirements

second_same : (t u v w : Term) → plus t u ≡ plus v w → u ≡ w
second_same t u v w e = cc e

-- the variables of x + y and y + x are x and y
sum_variable : (n s : ℕ) → Occurs n s (plus x_natural y_natural) → (0 ≡ n) ⊎ (1 ≡ n)
sum_variable n s (inl o) = inl o.0
sum_variable n s (inr (inl o)) = inr o.0
sum_variable n s (inr (inr o)) = absurd o

sum_variable_back : (n s : ℕ) → Occurs n s (plus y_natural x_natural) → (0 ≡ n) ⊎ (1 ≡ n)
sum_variable_back n s (inl o) = inr o.0
sum_variable_back n s (inr (inl o)) = inl o.0
sum_variable_back n s (inr (inr o)) = absurd o

commutes_variable : (n s : ℕ) → OccursInSide commutes.statement n s → (0 ≡ n) ⊎ (1 ≡ n)
commutes_variable n s (inl o) = sum_variable n s o
commutes_variable n s (inr o) = sum_variable_back n s o

-- 7 for x and 3 for y
abbrev new_number : ℕ → ℕ → ℕ
new_number n s = if nat_eq n 0 then 7 else 3

new_apart : (n m s : ℕ) → (0 ≡ n) ⊎ (1 ≡ n) → (0 ≡ m) ⊎ (1 ≡ m) → new_number n s ≡ new_number m s → n ≡ m
new_apart n m s (inl e) (inl h) same = sym e ∙ h
new_apart n m s (inr e) (inr h) same = sym e ∙ h
new_apart n m s (inl e) (inr h) same =
    let differ : 7 ≡ 3 = ap (λ (k : ℕ). new_number k s) e ∙ (same ∙ ap (λ (k : ℕ). new_number k s) (sym h)) in
    absurd (omega (arith, differ))
new_apart n m s (inr e) (inl h) same =
    let differ : 3 ≡ 7 = ap (λ (k : ℕ). new_number k s) e ∙ (same ∙ ap (λ (k : ℕ). new_number k s) (sym h)) in
    absurd (omega (arith, differ))

nought_right_differs : (t u : Term) → (n s : ℕ) → u ≡ variable n s
    → ¬ IsRenamedStatement nought_right.statement (states (plus t u) (plus u t))
nought_right_differs t u n s e renamed =
    let same : nought ≡ variable n s = second_same (variable (renamed.number 0 0) 0) nought t u renamed.left ∙ e in absurd (cc same)

successor_right_differs : (t u : Term) → (n s : ℕ) → u ≡ variable n s
    → ¬ IsRenamedStatement successor_right.statement (states (plus t u) (plus u t))
successor_right_differs t u n s e renamed =
    let same : successor (variable (renamed.number 1 0) 0) ≡ variable n s =
    second_same (variable (renamed.number 0 0) 0) (successor (variable (renamed.number 1 0) 0)) t u renamed.left ∙ e in
    absurd (cc same)

earlier_differ : (j : ℕ) (earlier : Lemma) → j < 2 → slice_get commutativity.lemmas j ≡ Some earlier
    → ¬ IsRenamedStatement earlier.statement (stated is_commutative)
earlier_differ zero earlier less at =
    subst (λ (l : Lemma). ¬ IsRenamedStatement l.statement (stated is_commutative)) (same_Some nought_right earlier at)
    (nought_right_differs (variable 7 0) (variable 3 0) 3 0 refl)
earlier_differ (suc zero) earlier less at =
    subst (λ (l : Lemma). ¬ IsRenamedStatement l.statement (stated is_commutative)) (same_Some successor_right earlier at)
    (successor_right_differs (variable 7 0) (variable 3 0) 3 0 refl)
earlier_differ (suc (suc j)) earlier less at = absurd (omega (arith, less))

commutativity_met : IsMetBy commutativity.lemmas is_commutative 2
commutativity_met = record {
  lemma = commutes;
  is_lemma = refl;
  renamed = record {
    number = new_number;
    apart = λ n m s o p same. new_apart n m s (commutes_variable n s o) (commutes_variable m s p) same;
    left = refl;
    right = refl;
  };
  first = earlier_differ;
}

-- no lemma says x + x = x
nought_right_no : ¬ IsRenamedStatement nought_right.statement (stated is_idempotent)
nought_right_no renamed =
    let same : nought ≡ x_natural = second_same (variable (renamed.number 0 0) 0) nought x_natural x_natural renamed.left in
    absurd (cc same)

successor_right_no : ¬ IsRenamedStatement successor_right.statement (stated is_idempotent)
successor_right_no renamed = let same = renamed.right in absurd (cc same)

commutes_no : ¬ IsRenamedStatement commutes.statement (stated is_idempotent)
commutes_no renamed = let same = renamed.right in absurd (cc same)

idempotence_open : IsLeftOpen commutativity.lemmas is_idempotent
idempotence_open j lemma at =
    each_member (λ (l : Lemma). ¬ IsRenamedStatement l.statement (stated is_idempotent)) commutativity.lemmas j lemma
    (nought_right_no, (successor_right_no, (commutes_no, tt))) at

pub commutativity_cases : CommutativityCases
commutativity_cases = record {
  fit = addition_fit;
  over = commutativity_over;
  right = commutativity_right;
  covered = covers_hold addition commutativity 0 number_cover addition_fit commutativity_over commutativity_right refl;
  sums = sums_commute;
  normal_again = certificate_is addition (with_lemmas (restated ∷ used_as_read ∷ [])) None restated_over refl;
  put_into_hypotheses = certificate_is addition (with_lemmas (split_twice ∷ [])) None split_twice_over refl;
  met = commutativity_met;
  left_open = idempotence_open;
}

-- ---- refused

-- a fault that is found is the first fault
faulty : (certificate : Certificate) (line : ℕ) (fault : InductionFault) → IsCertificateOver natural_signature certificate
    → certificate_found_wrong addition certificate ≡ Some (line, fault) → IsInductionFault addition certificate line fault
faulty certificate line fault over e = certificate_is addition certificate (Some (line, fault)) over e

-- certificates with other proofs of x + 0 = x, and with proofs of x = 0
one_lemma : (lemma : Lemma) → IsStated natural_signature lemma → IsCertificateOver natural_signature (with_lemmas (lemma ∷ []))
one_lemma lemma is = over_by natural_signature (with_lemmas (lemma ∷ [])) (sum_over, tt) (is, tt)

with_proof : (lines : List ProofLine) → IsCertificateOver natural_signature (with_lemmas (nought_right_by lines ∷ []))
with_proof lines =
    one_lemma (nought_right_by lines) (stated_by natural_signature (nought_right_by lines) 0 refl refl refl refl (omega arith, tt))

all_nought_with : (lines : List ProofLine) → IsCertificateOver natural_signature (with_lemmas (all_nought_by lines ∷ []))
all_nought_with lines =
    one_lemma (all_nought_by lines) (stated_by natural_signature (all_nought_by lines) 0 refl refl refl refl (omega arith, tt))

pub refused_cases : RefusedCases
refused_cases = record {
  fixed_is_not_matched = faulty (with_lemmas (all_nought_by _ ∷ [])) _ _ (all_nought_with _) refl;
  goal_is_no_hypothesis = faulty (with_lemmas (all_nought_by _ ∷ [])) _ _ (all_nought_with _) refl;
  not_by_itself = faulty (with_lemmas (all_nought_by _ ∷ [])) _ _ (all_nought_with _) refl;
  not_by_later = faulty (with_lemmas (nought_right ∷ commutes ∷ successor_right ∷ [])) _ _
      (over_by natural_signature (with_lemmas (nought_right ∷ commutes ∷ successor_right ∷ [])) (sum_over, tt)
      (nought_right_stated, (commutes_stated, (successor_right_stated, tt)))) refl;
  not_the_same = faulty (with_lemmas (nought_right_by _ ∷ [])) _ _ (with_proof _) refl;
  none_for_fixed = faulty (with_lemmas (nought_right_by _ ∷ [])) _ _ (with_proof _) refl;
  hypothesis_as_it_is = faulty (with_lemmas (nought_right_by _ ∷ [])) _ _ (with_proof _) refl;
  gone_once_split = faulty (with_lemmas (nought_right_by _ ∷ [])) _ _ (with_proof _) refl;
  unknown_variable = faulty (with_lemmas (nought_right_by _ ∷ [])) _ _ (with_proof _) refl;
  path_leads_nowhere = faulty (with_lemmas (nought_right_by _ ∷ [])) _ _ (with_proof _) refl;
  line_too_few = faulty (with_lemmas (nought_right_by _ ∷ [])) _ _ (with_proof _) refl;
  line_too_many = faulty (with_lemmas (nought_right_by _ ∷ [])) _ _ (with_proof _) refl;
  lacks_tree = faulty without_tree _ _ (over_by natural_signature without_tree tt (nought_right_stated, tt)) refl;
  lacks_cover = faulty without_cover _ _ (over_by natural_signature without_cover tt (nought_right_stated, tt)) refl;
  second_cover = faulty cover_twice _ _ (over_by natural_signature cover_twice (sum_over, tt) tt) refl;
  no_rule_at_leaf = faulty early_leaf _ _ (over_by natural_signature early_leaf ((_, refl), tt) tt) refl;
  second_tree = faulty tree_twice _ _ (over_by natural_signature tree_twice (sum_over, (sum_over, tt)) tt) refl;
}
