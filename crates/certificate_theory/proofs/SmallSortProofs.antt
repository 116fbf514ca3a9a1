-- Sorts without terms or with one: the certificate for 0 = Succ(0) is refused, and the lemma is false; a variable stays open.
use Rattle.std.proofs.Common.{◌≡◌, ◌≤◌, ℕ, List, [], ◌∷◌, refl, arith}
use Rattle.std.specs.Prelude.{None, Some, slice_get}
use Rattle.std.proofs.lemmas.Option.{none-some}
use Rattle.lotos_base.specs.Signature.{Sort, Operation, IsSort, IsWellFormedSignature}
use Rattle.lotos_base.specs.Term.{Term}
use Rattle.lotos_base.specs.Equation.{Equation}
use Rattle.lotos_base.specs.SmallData.{nought, successor}
use Rattle.lotos_base.proofs.ExampleHelpers.{one_position, one_named}
use Rattle.lotos_base.proofs.CanonLemmas.{identity_canon, equal_identical}
use Rattle.lotos_base.proofs.Each.{each_member}
use Rattle.rewriting_theory.specs.Rule.{Rule}
use Rattle.rewriting_theory.specs.Reduction.{Chain, no_link, link_first}
use Rattle.rewriting_theory.specs.Rewriting.{Rewrites}
use Rattle.certificate_theory.specs.Faults.{no_variable, bad_use}
use Rattle.certificate_theory.specs.Certified.{IsFit, IsStated, IsCertificateOver}
use Rattle.certificate_theory.specs.RefusedCases.{with_empty, empty_data, without_rules, from_nothing, EmptySortCases, single_signature, single_theory, any_two, all_alike, with_single, SingleSortCases}
use Rattle.certificate_theory.proofs.CaseProofs.{stated_by, over_by}
use Rattle.certificate_theory.proofs.TestedCertificates.{certificate_is}

-- the two operations have other arguments
abbrev Alike : Operation → Operation → Type 0
Alike o p = (o.form ≡ p.form) × (o.arguments ≡ p.arguments) × (o.result ≡ p.result)

with_empty_fine : IsWellFormedSignature with_empty
with_empty_fine = record {
  results = λ f o e. each_member (λ (o : Operation). IsSort with_empty o.result) with_empty.operations f o
      (omega arith, (omega arith, tt)) e;
  arguments = λ f i s o e d. each_member (λ (o : Operation). (i s : ℕ) → slice_get o.arguments i ≡ Some s → IsSort with_empty s)
      with_empty.operations f o
      ((λ i s d. absurd (cc d)), ((λ i s d. each_member (IsSort with_empty) (0 ∷ []) i s (omega arith, tt) d), tt)) e i s d;
  sort_names = λ i j s t e d a. one_named (λ (s : Sort). s.name) with_empty.sorts i j s t refl e d a;
  profiles = λ f g o p e d name form arguments result. one_position Alike with_empty.operations f g o p (
    (
      (
        (λ h. let r : ◌≡◌ {A = List ℕ} [] (0 ∷ []) = h.1 in absurd (cc r)),
        (λ h. let r : ◌≡◌ {A = List ℕ} (0 ∷ []) [] = h.1 in absurd (cc r)),
      ),
      tt,
    ),
    (tt, tt),
  ) e d (form, arguments, result);
}

no_equation : (k : ℕ) (equation : Equation) → slice_get empty_data.equations k ≡ Some equation → ⊥
no_equation k equation at = none-some equation at

no_rule : (rule : Rule) (k : ℕ) → slice_get without_rules.rules k ≡ Some rule → ⊥
no_rule rule k at = none-some rule at

no_chain : {t u : Term} (n : ℕ) → Chain (Rewrites without_rules.rules) n t u → n ≤ 0
no_chain n no_link = omega arith
no_chain n (link_first link rest) = absurd (no_rule link.rule link.is_rule.0 link.is_rule.1)

without_rules_fit : IsFit without_rules
without_rules_fit = record {
  signature = with_empty_fine;
  rules = record {
    sorted_sides = λ equation is. absurd (no_equation is.0 equation is.1);
    rules_of_data = record {
      rules_turned = λ rule is. absurd (no_rule rule is.0 is.1);
      equations_kept = λ equation is. absurd (no_equation is.0 equation is.1);
    };
    well_formed = λ rule is. absurd (no_rule rule is.0 is.1);
  };
  ends = λ t. (0, λ n u chain. no_chain n chain);
  canon = identity_canon empty_data refl;
}

from_nothing_over : IsCertificateOver with_empty from_nothing
from_nothing_over =
    over_by with_empty from_nothing tt (stated_by with_empty _ 0 refl refl refl refl (omega arith, tt), tt)

differ : nought ≡ successor nought → ⊥
differ e = absurd (cc e)

pub empty_sort_cases : EmptySortCases
empty_sort_cases = record {
  fit = without_rules_fit;
  over = from_nothing_over;
  absent_variable = certificate_is without_rules from_nothing (Some (5, no_variable)) from_nothing_over refl;
  never = λ equal. differ (equal_identical refl equal);
}

-- ---- a sort with one term

any_two_stated : IsStated single_signature any_two
any_two_stated = stated_by single_signature any_two 0 refl refl refl refl (omega arith, (omega arith, tt))

pub single_sort_cases : SingleSortCases
single_sort_cases = record {
  right = certificate_is single_theory (with_single (any_two ∷ [])) None
      (over_by single_signature (with_single (any_two ∷ [])) tt (any_two_stated, tt)) refl;
  open_variable = certificate_is single_theory (with_single (any_two ∷ all_alike ∷ [])) (Some (11, bad_use))
      (over_by single_signature (with_single (any_two ∷ all_alike ∷ [])) tt
      (any_two_stated, (stated_by single_signature all_alike 0 refl refl refl refl (omega arith, tt), tt))) refl;
}
