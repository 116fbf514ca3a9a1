-- Parts of a term taken out of it, as the search for the pattern finds them.
use Rattle.std.proofs.Common.{◌≡◌, ℕ, List, [], length, drop, ap, ◌∙◌}
use Rattle.std.specs.Prelude.{Some}
use Rattle.std.proofs.Math.Seq.{drop-length}
use Rattle.sort_terms.specs.ProfiledTerm.{ProfiledTerm}
use Rattle.sort_terms.specs.TermView.{all_profiled}
use Rattle.sort_terms.specs.declared.terms.Term.{Term}
use Rattle.term_match.specs.Search.{all_searched}

-- ---- the patterns one by one

-- What the search finds for all of them, it finds for those that are left with what was found for those before.
abbrev pub AreLeft : List Term → List Term → List (ℕ × ProfiledTerm) → List Term → List Term → List (ℕ × ProfiledTerm) → Type 0
AreLeft patterns terms before later rest now = (found : List (ℕ × ProfiledTerm))
    → all_searched (all_profiled patterns) (all_profiled terms) before ≡ Some found
    → all_searched (all_profiled later) (all_profiled rest) now ≡ Some found

-- ---- the ends of lists

pub nothing_left : {X : Type 0} (xs : List X) (i : ℕ) → i ≡ length xs → drop i xs ≡ []
nothing_left xs i e = ap (λ (k : ℕ). drop k xs) e ∙ drop-length xs
