-- What the search of the code finds for all operations.
use Rattle.std.specs.Prelude.{ℕ, List, Bool, map}
use Rattle.std.specs.declared.alloc.Global.{Global}
use Rattle.std.specs.declared.rc.Rc.{Rc}
use Rattle.lotos_base.specs.Signature.{Operation}
use Rattle.path_order.specs.RulesView.{plain_rules_in}
use Rattle.path_order.specs.declared.rules.Rules.{Rules}
use Rattle.sort_terms.specs.Operations.{operation_of}
use Rattle.sort_terms.specs.ProfiledTerm.{ProfiledTerm, bare}
use Rattle.sort_terms.specs.declared.operations.Op.{Op}
use Rattle.value_lists.specs.RootTest.{no_rule_matches}
use Rattle.value_lists.specs.Search.{found_from, with_next_operation}

-- the operations that are shared
abbrev pub shared_operations_in : List (Rc Op Global) → List Operation
shared_operations_in profiles = map (λ (profile : Rc Op Global). operation_of profile.value) profiles

-- whether no rule matches the term
abbrev pub kept_by : Rules → ProfiledTerm → Bool
kept_by rules t = no_rule_matches (plain_rules_in rules) (bare t)

-- what is found for the operations, of which the first one has this number
abbrev pub found_for_each : Rules → List ProfiledTerm → ℕ → ℕ → List Operation → List ProfiledTerm
found_for_each rules smaller size first operations = found_from (kept_by rules) smaller size first operations

-- the smaller values, and those with one operation more
abbrev pub with_more : Rules → List Operation → ℕ → List ProfiledTerm → List ProfiledTerm
with_more rules operations size smaller = with_next_operation (kept_by rules) operations size smaller
