use Rattle.std.proofs.Common.{◌∙◌, sym, subst}
use Rattle.std.specs.List.Sorted.{IsNonDecreasing}
use Rattle.path_order.specs.RulesView.{plain_rules_in}
use Rattle.term_store.specs.HandedOn.{is_open, has_first}
use Rattle.critical_pairs.proofs.CandidateLemmas.{heads_rise, numbers_rise}
use Rattle.critical_pairs.proofs.candidates.least_at.Goals as goal

pub least-requires : goal.least-requires
least-requires c =
    subst IsNonDecreasing (sym c.headed.ensures) (heads_rise c.args.place.now.head (plain_rules_in c.args.rules.now))

pub least-open-requires : goal.least-open-requires
least-open-requires c =
    subst IsNonDecreasing (sym (c.under.ensures ∙ c.requires.opens c.args.place.now.head))
    (numbers_rise (is_open c.args.place.now.head) (plain_rules_in c.args.rules.now))

pub least-requires-in-Some : goal.least-requires-in-Some
least-requires-in-Some c =
    subst IsNonDecreasing (sym (c.under-in-Some.ensures ∙ c.requires.begins c.in-Some.first))
    (numbers_rise (has_first c.in-Some.first) (plain_rules_in c.args.rules.now))
