-- The leaves that offers ask for, and the values of offers, by the numbers of the leaves.
use Rattle.std.specs.Prelude.{ℕ, suc, List, [], ◌∷◌}
use Rattle.lotos_base.specs.Term.{Term, variable}
use Rattle.lotos_base.specs.Substitution.{Substitution, substituted}
use Rattle.sort_terms.specs.ProfiledTerm.{ProfiledTerm, profiled_variable}
use Rattle.sort_terms.specs.SortedView.{term_in}
use Rattle.behaviour_tree.specs.declared.behaviours.Offer.{Offer}
use Rattle.behaviour_tree.specs.declared.behaviours.Offer.TheVariants.{Give, Ask}
use Rattle.behaviour_tree.specs.declared.behaviours.ExitValue.{ExitValue}
use Rattle.behaviour_tree.specs.declared.behaviours.ExitValue.TheVariants as exit_value

-- the variables that the offers ask for, each with its leaf, which is numbered from a first one on
abbrev pub asked_pairs : ℕ → List Offer → List (ℕ × ProfiledTerm)
asked_pairs first [] = []
asked_pairs first (Give t ∷ offers) = asked_pairs first offers
asked_pairs first (Ask x ∷ offers) = (x.number, profiled_variable first x.sort) ∷ asked_pairs (suc first) offers

-- the values of the offers, with terms put in, and the leaves that they ask for
abbrev pub offered_at : (Term → Term) → Substitution → ℕ → List Offer → List Term
offered_at canon values first [] = []
offered_at canon values first (Give t ∷ offers) = canon (substituted values (term_in t)) ∷ offered_at canon values first offers
offered_at canon values first (Ask x ∷ offers) = variable first x.sort ∷ offered_at canon values (suc first) offers

-- the leaves that an `exit` leaves open, and its values
abbrev pub open_leaves : ℕ → List ExitValue → List ProfiledTerm
open_leaves first [] = []
open_leaves first (exit_value.Give t ∷ results) = open_leaves first results
open_leaves first (exit_value.Any s ∷ results) = profiled_variable first s ∷ open_leaves (suc first) results

abbrev pub results_at : (Term → Term) → Substitution → ℕ → List ExitValue → List Term
results_at canon values first [] = []
results_at canon values first (exit_value.Give t ∷ results) = canon (substituted values (term_in t)) ∷ results_at canon values first results
results_at canon values first (exit_value.Any s ∷ results) = variable first s ∷ results_at canon values (suc first) results
