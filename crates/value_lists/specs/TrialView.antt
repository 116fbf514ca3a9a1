-- What a trial of the code stands for, and what it finds.
use Rattle.std.specs.Prelude.{◌≡◌, ◌≤◌, ◌<◌, ◌+◌, ℕ, Bool, false, not, nat_eq, ◌&&◌, List, [], ◌∷◌, length, map, drop}
use Rattle.path_order.specs.RulesView.{plain_rules_in}
use Rattle.sort_terms.specs.Operations.{operation_of}
use Rattle.sort_terms.specs.ProfiledTerm.{ProfiledTerm, bare}
use Rattle.sort_terms.specs.TermView.{profiled_of, bare_terms_of}
use Rattle.sort_terms.specs.declared.terms.Term.{Term}
use Rattle.value_lists.specs.RootTest.{no_rule_matches}
use Rattle.value_lists.specs.Search as plain
use Rattle.value_lists.specs.Search.{found_behind, found_by, trial_applied, kept, suits}
use Rattle.value_lists.specs.TermOrder.{term_sizes}
use Rattle.value_lists.specs.declared.trials.Trial.{Trial}
use Rattle.value_lists.specs.declared.value.Value.{Value}

-- the terms of values
abbrev pub profiled_value : Value → ProfiledTerm
profiled_value value = profiled_of value.term

abbrev pub values_in : List Value → List ProfiledTerm
values_in values = map profiled_value values

-- the trial
abbrev pub trial_of : Trial → plain.Trial
trial_of trial = record {
  keeps = λ (t : ProfiledTerm). no_rule_matches (plain_rules_in trial.rules.now) (bare t);
  smaller = values_in trial.smaller.now;
  number = trial.op;
  operation = operation_of trial.profile.now.value;
}

-- the sorts of its arguments, and of those behind the chosen ones
abbrev pub trial_sorts_of : Trial → List ℕ
trial_sorts_of trial = (operation_of trial.profile.now.value).arguments

abbrev pub sorts_behind : Trial → List Term → List ℕ
sorts_behind trial chosen = drop (length chosen) (trial_sorts_of trial)

-- whether the value can be the argument whose sort is the first of these
abbrev pub suits_at : List ℕ → ℕ → Value → Bool
suits_at [] left value = false
suits_at (sort ∷ sorts) left value = suits sort (length sorts) left (profiled_value value)

-- whether the value would be the last argument, whose sort is the first of these, and something be left behind it
abbrev pub leaves_over_at : List ℕ → ℕ → Value → Bool
leaves_over_at [] left value = false
leaves_over_at (sort ∷ sorts) left value = nat_eq (length sorts) 0 && not (nat_eq value.size left)

-- what is found with other arguments behind the chosen ones, what with this value as the next one, and what with none
abbrev pub found_next : Trial → List Term → ℕ → List ProfiledTerm
found_next trial chosen left = found_behind (trial_of trial) (map profiled_of chosen) (sorts_behind trial chosen) left

abbrev pub found_through : Trial → List Term → ℕ → Value → List ProfiledTerm
found_through trial chosen left value =
    found_by (trial_of trial) (map profiled_of chosen) (sorts_behind trial chosen) left (profiled_value value)

abbrev pub found_here : Trial → List Term → ℕ → List ProfiledTerm
found_here trial chosen left = kept (trial_of trial) (map profiled_of chosen) left

-- the operation on the chosen arguments
abbrev pub applied_in : Trial → List Term → ProfiledTerm
applied_in trial chosen = trial_applied (trial_of trial) (map profiled_of chosen)

-- Another argument may be chosen.
abbrev pub HasPlace : Trial → List Term → Type 0
HasPlace trial chosen = length chosen < length (trial_sorts_of trial)

-- No more arguments are chosen than there are, and with those that are left the operation has the size.
pub record IsPart (trial : Trial) (chosen : List Term) (left : ℕ) : Type 0 where
  pub places : length chosen ≤ length (trial_sorts_of trial)
  pub sizes : term_sizes (bare_terms_of chosen) + left + 1 ≡ trial.size
