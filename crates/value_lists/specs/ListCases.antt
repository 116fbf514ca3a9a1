-- Worked cases: what is printed for lines that ask for lists.
use Rattle.std.specs.Prelude.{◌≡◌, ℕ, List, [], ◌∷◌, codes}
use Rattle.lotos_base.specs.Term.{Term}
use Rattle.lotos_base.specs.SmallData.{nought}
use Rattle.session_histories.specs.RefusalCases.{small_basis, number_entry, small_succ}
use Rattle.value_lists.specs.ListOutcome.{no_sort, no_entry, too_many_values, too_many_instances, listed, refused}
use Rattle.value_lists.specs.ListText.{listed_values_text, instances_text}

-- the instances of an entry with one variable, which is below 2, by the two numbers that are
abbrev pub two_small_numbers : List (List Term)
two_small_numbers = (nought ∷ []) ∷ (small_succ nought ∷ []) ∷ []

-- What is printed.
pub record ListsArePrinted : Type 0 where
  pub no_values : listed_values_text small_basis (listed []) ≡ codes "values 0\n"
  pub values : listed_values_text small_basis (listed (nought ∷ small_succ nought ∷ [])) ≡ codes "values 2\n0\nSucc(0)\n"
  pub no_sort_ : listed_values_text small_basis (refused (no_sort (codes "Q"))) ≡ codes "refused 817 NoSort Q\n"
  pub too_many : listed_values_text small_basis (refused too_many_values) ≡ codes "refused 815 TooManyValues\n"
  pub no_instances : instances_text small_basis 1 (listed (record { entry = number_entry; tuples = [] })) ≡ codes "instances 0\n"
  pub instances :
      instances_text small_basis 1 (listed (record { entry = number_entry; tuples = two_small_numbers }))
      ≡ codes "instances 2\n1 0 => g !0\n1 Succ(0) => g !Succ(0)\n"
  pub entry : instances_text small_basis 5 (refused (no_entry 5 1)) ≡ codes "refused 802 NoEntry 5 of 1\n"
  pub too_many_ways :
      instances_text small_basis 1 (refused too_many_instances) ≡ codes "refused 816 TooManyInstances\n"
