-- Terms that are ready to have those of an environment put in.
use Rattle.std.specs.Prelude.{◌≡◌, ℕ, List, Option, None, Some}
use Rattle.lotos_base.specs.Signature.{Signature, IsSort}
use Rattle.lotos_base.specs.Sorting.{Occurs}
use Rattle.behaviour_semantics.specs.WellFormed.{Every}
use Rattle.sort_terms.specs.ProfiledTerm.{ProfiledTerm, bare, head_sort, IsOf}
use Rattle.sort_terms.specs.SortedView.{profiled_in}
use Rattle.term_match.specs.ProfiledInstance.{profiled_binding}
use Rattle.behaviour_tree.specs.declared.behaviours.Test.{Test}
use Rattle.behaviour_tree.specs.declared.behaviours.Offer.{Offer}
use Rattle.behaviour_tree.specs.declared.behaviours.Offer.TheVariants.{Give, Ask}
use Rattle.behaviour_tree.specs.declared.behaviours.ExitValue.{ExitValue}
use Rattle.behaviour_tree.specs.declared.behaviours.ExitValue.TheVariants as exit_value

-- What the pairs put for each variable of the term has the sort of that variable.
abbrev pub SuitsPairs : List (ℕ × ProfiledTerm) → ProfiledTerm → Type 0
SuitsPairs pairs t = (n s : ℕ) → Occurs n s (bare t) → head_sort (profiled_binding pairs n s) ≡ s

-- The terms of the pairs are of the signature.
abbrev pub ArePairsOf : Signature → List (ℕ × ProfiledTerm) → Type 0
ArePairsOf signature pairs = Every (λ (pair : ℕ × ProfiledTerm). IsOf signature pair.1) pairs

-- The term and those of the pairs are of the signature, and what is put for a variable has its sort.
pub record IsReadyForPairs (signature : Signature) (pairs : List (ℕ × ProfiledTerm)) (t : ProfiledTerm) : Type 0 where
  pub term : IsOf signature t
  pub values : ArePairsOf signature pairs
  pub sorts : SuitsPairs pairs t

-- Both sides of a test are suited, if there is one.
abbrev pub SuitsTest : List (ℕ × ProfiledTerm) → Option Test → Type 0
SuitsTest pairs None = Unit {0}
SuitsTest pairs (Some test) = SuitsPairs pairs (profiled_in test.left) × SuitsPairs pairs (profiled_in test.right)

-- Offers and values of `exit` are ready.
abbrev pub IsOfferReady : Signature → List (ℕ × ProfiledTerm) → Offer → Type 0
IsOfferReady signature pairs (Give t) = IsReadyForPairs signature pairs (profiled_in t)
IsOfferReady signature pairs (Ask x) = IsSort signature x.sort

abbrev pub AreOffersReady : Signature → List (ℕ × ProfiledTerm) → List Offer → Type 0
AreOffersReady signature pairs offers = Every (IsOfferReady signature pairs) offers

abbrev pub IsResultReady : Signature → List (ℕ × ProfiledTerm) → ExitValue → Type 0
IsResultReady signature pairs (exit_value.Give t) = IsReadyForPairs signature pairs (profiled_in t)
IsResultReady signature pairs (exit_value.Any s) = IsSort signature s

abbrev pub AreResultsReady : Signature → List (ℕ × ProfiledTerm) → List ExitValue → Type 0
AreResultsReady signature pairs results = Every (IsResultReady signature pairs) results
