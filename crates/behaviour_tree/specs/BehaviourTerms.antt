-- The terms of a behaviour of the code in the order of the text, with the profiles that their operations carry.
use Rattle.std.specs.Prelude.{List, [], ◌∷◌, ◌++◌, map, Option, None, Some}
use Rattle.sort_terms.specs.ProfiledTerm.{ProfiledTerm}
use Rattle.sort_terms.specs.SortedView.{profiled_in}
use Rattle.sort_terms.specs.declared.equations.Variable.{Variable}
use Rattle.sort_terms.specs.declared.sorted.Sorted.{Sorted}
use Rattle.behaviour_tree.specs.declared.behaviours.Test.{Test}
use Rattle.behaviour_tree.specs.declared.behaviours.Offer.{Offer}
use Rattle.behaviour_tree.specs.declared.behaviours.Offer.TheVariants as offer
use Rattle.behaviour_tree.specs.declared.behaviours.ExitValue.{ExitValue}
use Rattle.behaviour_tree.specs.declared.behaviours.ExitValue.TheVariants as exit_value
use Rattle.behaviour_tree.specs.declared.behaviours.Beh.{Beh, Stop, Exit, Action', Inner', Guard', Choice', Parallel', Hide', Enable', Disable', Let', ChooseValue', ChooseGate', ParGate', Call}

-- the lists one behind another
abbrev pub joined : List (List ProfiledTerm) → List ProfiledTerm
joined [] = []
joined (terms ∷ lists) = terms ++ joined lists

-- terms of a list
abbrev pub profiles_of : List Sorted → List ProfiledTerm
profiles_of terms = map profiled_in terms

-- the two sides of a test, if there is one
abbrev pub test_profiles : Test → List ProfiledTerm
test_profiles test = profiled_in test.left ∷ profiled_in test.right ∷ []

abbrev pub option_profiles : Option Test → List ProfiledTerm
option_profiles None = []
option_profiles (Some test) = test_profiles test

-- the term of an offer, of a value of `exit`, and of a variable of `let`
abbrev pub offer_profiles : Offer → List ProfiledTerm
offer_profiles (offer.Give t) = profiled_in t ∷ []
offer_profiles (offer.Ask x) = []

abbrev pub exit_profiles : ExitValue → List ProfiledTerm
exit_profiles (exit_value.Give t) = profiled_in t ∷ []
exit_profiles (exit_value.Any s) = []

abbrev pub let_profile : Variable × Sorted → ProfiledTerm
let_profile pair = profiled_in pair.1

-- the terms of the behaviour
abbrev pub profiles_in : Beh → List ProfiledTerm
profiles_in Stop = []
profiles_in (Exit values) = joined (map exit_profiles values.items)
profiles_in (Action' _ offers test _ next) = joined (map offer_profiles offers.items) ++ option_profiles test ++ profiles_in next
profiles_in (Inner' _ next) = profiles_in next
profiles_in (Guard' test _ next) = test_profiles test ++ profiles_in next
profiles_in (Choice' _ _ left _ right) = profiles_in left ++ profiles_in right
profiles_in (Parallel' _ _ _ left _ right) = profiles_in left ++ profiles_in right
profiles_in (Hide' _ _ next) = profiles_in next
profiles_in (Enable' _ _ left _ _ right) = profiles_in left ++ profiles_in right
profiles_in (Disable' _ _ left _ right) = profiles_in left ++ profiles_in right
profiles_in (Let' bindings _ next) = map let_profile bindings.items ++ profiles_in next
profiles_in (ChooseValue' _ _ next) = profiles_in next
profiles_in (ChooseGate' _ _ _ next) = profiles_in next
profiles_in (ParGate' _ _ _ _ next) = profiles_in next
profiles_in (Call _ _ _ values) = profiles_of values.items
