-- A critical pair whose variables are renamed apart is a critical pair.
use Rattle.std.proofs.Common.{◌≡◌, ℕ, List, ap, sym, ◌∙◌, subst, inl, inr}
use Rattle.std.specs.Prelude.{Some}
use Rattle.lotos_base.specs.Term.{Term, variable}
use Rattle.lotos_base.specs.Sorting.{Occurs}
use Rattle.lotos_base.specs.Path.{subterm, put_at}
use Rattle.lotos_base.specs.Substitution.{substituted, followed_by, renaming}
use Rattle.lotos_base.specs.Canon.{KeepsApart}
use Rattle.lotos_base.proofs.SubstitutionLemmas.{substituted_twice, substituted_occurs, occurs_substituted, put_at-substituted}
use Rattle.rewriting_theory.specs.Rule.{Rule}
use Rattle.rewriting_theory.specs.Unification.{OccursInEither}
use Rattle.rewriting_theory.specs.CriticalPair.{CriticalPair, IsCriticalPair}
use Rattle.rewriting_theory.specs.PairListLaws.{renamed_pair}
use Rattle.rewriting_theory.proofs.OverlapLemmas.{combined, combined_renamed, subterm_occurs, second_left}

-- a variable of the value of a variable that matters occurs in the peak
value_occurs : {rules : List Rule} {pair : CriticalPair} (is : IsCriticalPair rules pair) (n r m q : ℕ)
    → OccursInEither is.place.first_rule.left (second_left is) n r → Occurs m q (is.values n r) → Occurs m q pair.peak
value_occurs is n r m q (inl o) inside =
    subst (λ (w : Term). Occurs m q w) is.is_peak (occurs_substituted m q n r is.values is.place.first_rule.left o inside)
value_occurs {pair = pair} is n r m q (inr o) inside =
    subst (λ (w : Term). Occurs m q w) is.is_peak
    (within is.place.part is.place.is_part
    (subst (λ (w : Term). Occurs m q w) (sym is.general.unifies) (occurs_substituted m q n r is.values (second_left is) o inside)))
  where
    within : (part : Term) → subterm pair.path is.place.first_rule.left ≡ Some part → Occurs m q (substituted is.values part)
        → Occurs m q (substituted is.values is.place.first_rule.left)
    within part found inner =
        let from = substituted_occurs m q is.values part inner in
        occurs_substituted m q from.number from.sort is.values is.place.first_rule.left
        (subterm_occurs pair.path is.place.first_rule.left part from.number from.sort found from.occurs) from.inside

pub renamed_critical : {rules : List Rule} (pair : CriticalPair) (number : ℕ → ℕ → ℕ) → IsCriticalPair rules pair
    → KeepsApart number pair.peak → IsCriticalPair rules (renamed_pair number pair)
renamed_critical pair number is keeps = record {
  place = is.place;
  number = is.number;
  keeps = is.keeps;
  apart = is.apart;
  values = followed_by is.values (renaming number);
  general = record {
    unifies = twice is.place.part ∙ ap (substituted (renaming number)) is.general.unifies ∙ sym (twice (second_left is));
    general = λ others unifies.
        let more = is.general.general others unifies in (
          combined number pair.peak variable more.0,
          λ n r matters.
              combined_renamed number pair.peak (is.values n r) variable more.0 keeps (λ m q o. value_occurs is n r m q matters o)
              ∙ more.1 n r matters,
        );
  };
  is_peak = twice is.place.first_rule.left ∙ ap (substituted (renaming number)) is.is_peak;
  is_left = twice is.place.first_rule.right ∙ ap (substituted (renaming number)) is.is_left;
  is_right =
      ap (λ (w : Term). put_at pair.path w (substituted (renaming number) pair.peak))
      (twice (substituted (renaming is.number) is.place.second_rule.right))
      ∙ put_at-substituted pair.path (renaming number)
      (substituted is.values (substituted (renaming is.number) is.place.second_rule.right)) pair.peak pair.right is.is_right;
}
  where
    twice : (t : Term) → substituted (followed_by is.values (renaming number)) t ≡ substituted (renaming number) (substituted is.values t)
    twice t = sym (substituted_twice is.values (renaming number) t)
