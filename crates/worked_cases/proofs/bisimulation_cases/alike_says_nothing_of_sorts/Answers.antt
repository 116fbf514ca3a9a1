use Rattle.std.proofs.Common.{◌≡◌, ℕ, [], ◌∷◌, true, refl, ap, ◌∙◌, sym, arith}
use Rattle.lotos_base.specs.Signature.{Operation}
use Rattle.lotos_base.specs.Term.{Term, variable}
use Rattle.lotos_base.specs.Substitution.{Substitution, IsGrounding}
use Rattle.lotos_base.proofs.SubstitutionLemmas.{ground_no_variable}
use Rattle.behaviour_semantics.specs.Alike.{AlikeTerms}
use Rattle.behaviour_semantics.proofs.OptionLemmas.{some_value}
use Rattle.certificate_theory.specs.SameSorts.{AreOfOneSort}
use Rattle.lotos_base.specs.SmallData.{nought}
use Rattle.worked_cases.specs.BehaviourSamples.{sample_signature, sample_data, empty_sort, nat_sort, one}
use Rattle.worked_cases.proofs.TermTests.{term_passes, ground_in}
use Rattle.worked_cases.proofs.CaseLemmas.{no_value, nought_not_one}
use Rattle.worked_cases.proofs.bisimulation_cases.alike_says_nothing_of_sorts.Goals as goal

-- no ground term can be put for the variable
nothing_put : (u : Term) → AlikeTerms sample_data (variable 0 empty_sort) u
nothing_put u values left right = absurd (no_value (values 0 empty_sort ∷ []) (left 0 empty_sort (refl, refl), tt))

always_nought : Substitution
always_nought n s = nought

closed : (t : Term) (sort : ℕ) → term_passes sample_signature [] sort t ≡ true → IsGrounding sample_signature t always_nought
closed t sort passes n s o = absurd (ground_no_variable t (ground_in sample_signature sort t passes).ground n s o)

nought_is_not_one : AlikeTerms sample_data nought one → ⊥
nought_is_not_one h = nought_not_one (h always_nought (closed nought nat_sort refl) (closed one nat_sort refl))

two_sorts : AreOfOneSort sample_signature (variable 0 empty_sort) nought → ⊥
two_sorts same =
    let result : nat_sort ≡ same.sort = ap (λ (o : Operation). o.result) (some_value same.right.1) ∙ same.right.2 in
    let sorts : empty_sort ≡ nat_sort = same.left.0 ∙ sym result in
    omega (arith, sorts)

pub returns : goal.returns
returns c = record {
  a_variable_and_nought = (refl, (refl, (nothing_put nought, tt), tt, tt));
  a_variable_and_one = (refl, (refl, (nothing_put one, tt), tt, tt));
  not_nought_and_one = λ h. nought_is_not_one h.1.1.0;
  not_of_one_sort = λ h. two_sorts h.0.0;
}
