-- What is still to be done until a term is made: a list of which the last member comes next.
use Rattle.std.specs.Prelude.{◌<◌, ℕ, ◌+◌, ◌*◌, Option, None, Some, List, [], ◌∷◌, drop, length, take}
use Rattle.std.proofs.Common.{get_or}
use Rattle.lotos_base.specs.Signature.{Signature}
use Rattle.sort_terms.specs.ProfiledTerm.{ProfiledTerm, profiled_node}
use Rattle.sort_terms.specs.TermSize.{profiled_size}
use Rattle.sort_terms.specs.TermView.{profiled_terms}
use Rattle.term_store.specs.Cells.{operation_at, operation_in}
use Rattle.term_store.specs.Numbered.{term_at}
use Rattle.term_store.specs.declared.reading.Making.{Making}
use Rattle.term_store.specs.declared.reading.Making.TheVariants.{Term, Operation}

-- an operation on the terms made last
abbrev pub with_made_operation : Signature → Option (ℕ × List ℕ) → List ProfiledTerm → List ProfiledTerm
with_made_operation signature None made = made
with_made_operation signature (Some found) made =
    profiled_node found.0 (operation_at signature found.0) (profiled_terms (take (length found.1) made)) ∷ drop (length found.1) made

-- what is made when one more thing is done, and when all is done
abbrev pub with_made : Signature → List (List ℕ) → Making → List ProfiledTerm → List ProfiledTerm
with_made signature keys (Term n) made = term_at signature keys n ∷ made
with_made signature keys (Operation n) made = with_made_operation signature (operation_in (get_or keys n [])) made

abbrev pub all_made : Signature → List (List ℕ) → List Making → List ProfiledTerm → List ProfiledTerm
all_made signature keys [] made = made
all_made signature keys (next ∷ left) made = with_made signature keys next (all_made signature keys left made)

-- the number of the term, and whether all are those of terms
abbrev pub number_of_making : Making → ℕ
number_of_making (Term n) = n
number_of_making (Operation n) = n

abbrev pub AreMadeOf : List (List ℕ) → List Making → Type 0
AreMadeOf keys [] = Unit {0}
AreMadeOf keys (next ∷ left) = (number_of_making next < length keys) × AreMadeOf keys left

-- how many turns it takes, at most
abbrev pub making_turns : Signature → List (List ℕ) → Making → ℕ
making_turns signature keys (Term n) = 2 * profiled_size (term_at signature keys n)
making_turns signature keys (Operation n) = 1

abbrev pub making_turns_of : Signature → List (List ℕ) → List Making → ℕ
making_turns_of signature keys [] = 0
making_turns_of signature keys (next ∷ left) = making_turns signature keys next + making_turns_of signature keys left
