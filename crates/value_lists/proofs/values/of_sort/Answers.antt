use Rattle.std.proofs.Common.{List, sym, subst}
use Rattle.behaviour_semantics.specs.WellFormed.{Every}
use Rattle.sort_terms.specs.ProfiledTerm.{FitsProfiles}
use Rattle.value_lists.specs.TrialView.{values_in}
use Rattle.value_lists.specs.declared.value.Value.{Value}
use Rattle.value_lists.proofs.FoundLemmas.{fits_at}
use Rattle.value_lists.proofs.values.of_sort.Goals as goal

pub of-requires : goal.of-requires
of-requires c =
    fits_at c.deref-value-items.result.now c.loop-value.value-index c.value-item.result c.in_ok-copy.field-0
    (subst (λ (vs : List Value). Every FitsProfiles (values_in vs)) (sym c.deref-value-items.ensures.value) c.requires)
    c.loop-value-test.true c.value-item.is c.in_ok-copy.ensures
