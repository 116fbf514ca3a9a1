-- The instances of an entry by given values for its variables.
use Rattle.std.specs.Prelude.{◌⊎◌, ℕ, List, [], ◌∷◌, map, Vec}
use Rattle.std.specs.List.{AllPairs, Contains}
use Rattle.std.specs.declared.alloc.Global.{Global}
use Rattle.lotos_base.specs.Equation.{Data, HasSortedSides}
use Rattle.lotos_base.specs.Signature.{Signature}
use Rattle.lotos_base.specs.Sorting.{IsGroundOf}
use Rattle.lotos_base.specs.Term.{Term}
use Rattle.behaviour_semantics.specs.Derives.{leaves_in}
use Rattle.behaviour_semantics.specs.Replacement.{test_with}
use Rattle.behaviour_semantics.specs.Rule.{AllHold}
use Rattle.behaviour_semantics.specs.WellFormed.{Every}
use Rattle.sort_terms.specs.ProfiledTerm.{ProfiledTerm, bare, IsOf}
use Rattle.sort_terms.specs.declared.sorted.Sorted.{Sorted}
use Rattle.behaviour_tree.specs.BehaviourTerms.{profiles_of}
use Rattle.behaviour_tree.specs.BehaviourView.{terms_of}
use Rattle.event_offers.specs.Instances.{AreValuesOver}
use Rattle.event_offers.specs.OfferView.{condition_profiles, conditions_of}
use Rattle.event_offers.specs.Offers.{HaveOneSort}
use Rattle.event_offers.specs.declared.drafts.Entry.{Entry}
use Rattle.value_lists.specs.Tuples.{IsTuple, TupleBefore}

-- the terms of the lists
abbrev pub term_lists_of : List (Vec Sorted Global) → List (List Term)
term_lists_of lists = map (λ (list : Vec Sorted Global). terms_of list.items) lists

-- the same with profiles
abbrev pub profiled_lists_in : List (Vec Sorted Global) → List (List ProfiledTerm)
profiled_lists_in lists = map (λ (list : Vec Sorted Global). profiles_of list.items) lists

-- The term is a ground term of the sort, with the profiles of the signature.
pub record IsGroundChoice (signature : Signature) (sort : ℕ) (t : ProfiledTerm) : Type 0 where
  pub is_of : IsOf signature t
  pub is_ground : IsGroundOf signature sort (bare t)

-- There is a list for each variable, of ground terms of its sort.
abbrev pub AreChoices : Signature → List ℕ → List (List ProfiledTerm) → Type 0
AreChoices signature [] [] = Unit {0}
AreChoices signature [] (choice ∷ choices) = ⊥
AreChoices signature (sort ∷ sorts) [] = ⊥
AreChoices signature (sort ∷ sorts) (choice ∷ choices) =
    Every (IsGroundChoice signature sort) choice × AreChoices signature sorts choices

-- The terms meet the conditions of the entry: the equations derive each of them with the terms put for the variables.
abbrev pub MeetConditions : Data → Entry → List Term → Type 0
MeetConditions data_ entry ts = AllHold data_ (map (test_with (leaves_in ts)) (conditions_of entry.conditions.items))

-- The equations of the data have sides of one sort, or the conditions of the entry have.
abbrev pub HasSortedTests : Data → Entry → Type 0
HasSortedTests data_ entry = HasSortedSides data_ ⊎ HaveOneSort (condition_profiles entry.conditions.items)

-- The list has exactly the tuples of these lists that meet the conditions of the entry, in order.
pub record ListsInstances (data_ : Data) (entry : Entry) (choices : List (List Term)) (tuples : List (List Term)) : Type 0 where
  pub sound : (ts : List Term) → Contains tuples ts → IsTuple choices ts × MeetConditions data_ entry ts
  pub complete : (ts : List Term) → IsTuple choices ts → MeetConditions data_ entry ts → Contains tuples ts
  pub rising : AllPairs (TupleBefore choices) tuples

-- Each of the tuples is a list of values for these variables.
abbrev pub AreTuplesOver : Signature → List ℕ → List (Vec Sorted Global) → Type 0
AreTuplesOver signature sorts tuples = Every (λ (tuple : Vec Sorted Global). AreValuesOver signature sorts tuple.items) tuples
