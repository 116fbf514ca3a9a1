use Rattle.std.proofs.Common.{◌≡◌, ℕ, [], true, refl, subst}
use Rattle.lotos_base.specs.Term.{Term}
use Rattle.lotos_base.specs.Substitution.{Substitution, IsGrounding}
use Rattle.lotos_base.specs.Sorting.{IsGroundOf}
use Rattle.lotos_base.proofs.SubstitutionLemmas.{ground_no_variable}
use Rattle.lotos_base.proofs.CanonLemmas.{canon_tells}
use Rattle.behaviour_semantics.specs.Alike.{AlikeTerms}
use Rattle.lotos_base.specs.SmallData.{nought}
use Rattle.worked_cases.specs.BehaviourSamples.{nat_sort, sample_signature, sample_data, sample_canon, one, sample_plus, nat}
use Rattle.worked_cases.proofs.SampleCanon.{sample_is_canon}
use Rattle.worked_cases.proofs.TermTests.{term_passes, ground_in}
use Rattle.worked_cases.proofs.CaseLemmas.{sum_ground, sum_is_one, nought_not_one}
use Rattle.worked_cases.proofs.value_cases.alike_behaviours_have_equal_terms.Goals as goal

sum_with_nought_is_the_same : AlikeTerms sample_data (sample_plus (nat 0) nought) (nat 0)
sum_with_nought_is_the_same values h k =
    let value : Term = values 0 nat_sort in
    canon_tells sample_data sample_canon (sample_plus value nought) value nat_sort sample_is_canon
    (sum_ground value nought (k 0 nat_sort (refl, refl)) (ground_in sample_signature nat_sort nought refl)) (k 0 nat_sort (refl, refl)) refl

-- nothing is put for the variables of a closed term
closed : (t : Term) (sort : ℕ) → term_passes sample_signature [] sort t ≡ true → (values : Substitution)
    → IsGrounding sample_signature t values
closed t sort passes values n s o = absurd (ground_no_variable t (ground_in sample_signature sort t passes).ground n s o)

-- 0 for every variable
abbrev always_nought : Substitution
always_nought n s = nought

x_as_nought : IsGrounding sample_signature (nat 0) always_nought
x_as_nought n s o = subst (λ (sort : ℕ). IsGroundOf sample_signature sort nought) o.1 (ground_in sample_signature nat_sort nought refl)

nought_is_not_one : AlikeTerms sample_data nought one → ⊥
nought_is_not_one h = nought_not_one (h always_nought (closed nought nat_sort refl always_nought) (closed one nat_sort refl always_nought))

x_is_not_one : AlikeTerms sample_data (nat 0) one → ⊥
x_is_not_one h = nought_not_one (h always_nought x_as_nought (closed one nat_sort refl always_nought))

pub returns : goal.returns
returns c = record {
  closed = (refl, ((λ values h k. sum_is_one), tt), tt, tt);
  with_variables = (refl, (refl, tt), tt, (refl, (sum_with_nought_is_the_same, tt), tt, tt));
  not_another_value = λ h. nought_is_not_one h.1.0;
  not_another_variable = λ h. x_is_not_one h.3.1.0;
  not_swapped = λ h. absurd (cc h.0.0);
  not_another_offer = λ h. h.1;
  not_another_argument = λ h. nought_is_not_one h.2.0;
  not_another_form = λ h. h;
  not_fewer_offers = λ h. h.1;
}
