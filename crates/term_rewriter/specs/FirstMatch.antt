-- The first rule that matches a term at its root, and what its variables have.
use Rattle.std.specs.Prelude.{◌≡◌, ◌<◌, ℕ, List, [], Some, slice_get}
use Rattle.rewriting_theory.specs.Matching.{Matches}
use Rattle.sort_terms.specs.ProfiledTerm.{ProfiledTerm, bare}
use Rattle.sort_terms.specs.SortedView.{profiled_in, term_in}
use Rattle.term_match.specs.Search.{searched}
use Rattle.path_order.specs.declared.rule.Rule.{Rule}

-- The left side of none of the rules matches the term.
abbrev pub NoneMatches : List Rule → ProfiledTerm → Type 0
NoneMatches rules t = (k : ℕ) (rule : Rule) → slice_get rules k ≡ Some rule → ¬ Matches (term_in rule.left) (bare t)

-- The left side of the rule with this number matches the term, with these pairs for its variables, and that of no rule
-- before it does.
pub record IsFirstMatch (rules : List Rule) (number : ℕ) (t : ProfiledTerm) (pairs : List (ℕ × ProfiledTerm)) : Type 0 where
  pub rule : Rule
  pub is_at : slice_get rules number ≡ Some rule
  pub found : searched (profiled_in rule.left) t [] ≡ Some pairs
  pub none_before : (k : ℕ) (earlier : Rule) → k < number → slice_get rules k ≡ Some earlier
      → ¬ Matches (term_in earlier.left) (bare t)

-- The same, with some pairs.
pub record IsFirstRule (rules : List Rule) (number : ℕ) (t : ProfiledTerm) : Type 0 where
  pub pairs : List (ℕ × ProfiledTerm)
  pub is_first : IsFirstMatch rules number t pairs
