-- The first rule that matches a term that is kept.
use Rattle.std.specs.Prelude.{◌≡◌, ◌<◌, ℕ, true, Option, None, Some, List, [], length, slice_get, nat_lt, if◌then◌else◌}
use Rattle.lotos_base.specs.Term.{Term}
use Rattle.rewriting_theory.specs.Matching.{Matches}
use Rattle.sort_terms.specs.ProfiledTerm.{bare}
use Rattle.sort_terms.specs.SortedView.{profiled_in, term_in}
use Rattle.term_match.specs.Search.{searched}
use Rattle.path_order.specs.RulesView.{signature_in}
use Rattle.path_order.specs.declared.rule.Rule.{Rule}
use Rattle.path_order.specs.declared.rules.Rules.{Rules}
use Rattle.term_rewriter.specs.FirstHead.{is_open, begins_with_heads}
use Rattle.term_rewriter.specs.FirstMatch.{NoneMatches, IsFirstMatch}
use Rattle.term_store.specs.Cells.{AreBelow}
use Rattle.term_store.specs.Numbered.{term_at, numbered_pairs, numbers_in}

-- No rule matches the term with the number.
abbrev pub NoRule : Rules → List (List ℕ) → ℕ → Type 0
NoRule rules keys n = NoneMatches rules.rules.items (term_at (signature_in rules) keys n)

-- The rule with this number is the first that matches the term, with what the pairs have for its variables.
pub record IsFirstRuleAt (rules : Rules) (keys : List (List ℕ)) (n number : ℕ) (pairs : List (ℕ × ℕ)) : Type 0 where
  pub is_first : IsFirstMatch rules.rules.items number (term_at (signature_in rules) keys n)
      (numbered_pairs (signature_in rules) keys pairs)
  pub below : AreBelow (length keys) (numbers_in pairs)

-- ---- Among some rules

-- The rule with this number does not match the term.
abbrev pub MatchesNot : Rules → List (List ℕ) → ℕ → ℕ → Type 0
MatchesNot rules keys n m = (rule : Rule) → slice_get rules.rules.items m ≡ Some rule
    → ¬ Matches (term_in rule.left) (bare (term_at (signature_in rules) keys n))

-- None of the rules with these numbers matches the term.
abbrev pub NoneAmong : Rules → List (List ℕ) → ℕ → List ℕ → Type 0
NoneAmong rules keys n candidates = (i m : ℕ) → slice_get candidates i ≡ Some m → MatchesNot rules keys n m

-- The rule with this number is the first of them that does, with what the pairs have for its variables.
pub record IsFirstAmong (rules : Rules) (keys : List (List ℕ)) (n : ℕ) (candidates : List ℕ) (number : ℕ) (pairs : List (ℕ × ℕ))
    : Type 0 where
  pub place : ℕ
  pub rule : Rule
  pub here : slice_get candidates place ≡ Some number
  pub is_at : slice_get rules.rules.items number ≡ Some rule
  pub tried : (i m : ℕ) → i < place → slice_get candidates i ≡ Some m → MatchesNot rules keys n m
  pub found : searched (profiled_in rule.left) (term_at (signature_in rules) keys n) []
      ≡ Some (numbered_pairs (signature_in rules) keys pairs)
  pub below : AreBelow (length keys) (numbers_in pairs)

-- Each of the numbers is that of a rule.
abbrev pub AreRuleNumbers : Rules → List ℕ → Type 0
AreRuleNumbers rules candidates = (i m : ℕ) → slice_get candidates i ≡ Some m → m < length rules.rules.items

-- The numbers are those of rules and rise, and that of each rule whose left side is so is one of them.
pub record HasAllRules (rules : Rules) (P : Term → Type 0) (candidates : List ℕ) : Type 0 where
  pub within : AreRuleNumbers rules candidates
  pub has : (k : ℕ) (rule : Rule) → slice_get rules.rules.items k ≡ Some rule → P (term_in rule.left)
      → (j : ℕ) × (slice_get candidates j ≡ Some k)
  pub rises : (i j k m : ℕ) → slice_get candidates i ≡ Some k → slice_get candidates j ≡ Some m → k < m → i < j

-- The operation is at the head of the term, and none at the head of the first argument.
abbrev pub IsHeadAlone : ℕ → Term → Type 0
IsHeadAlone f t = is_open f t ≡ true

-- The operation is at the head of the term, and this one, if it is one, at the head of the first argument.
abbrev pub BeginsAs : ℕ → Option ℕ → Term → Type 0
BeginsAs f first t = (g : ℕ) × (first ≡ Some g) × (begins_with_heads f g t ≡ true)

-- a rule that matches, with what its variables have
abbrev pub Found : Type 0
Found = ℕ × List (ℕ × ℕ)

abbrev pub found_with : Option ℕ → List (ℕ × ℕ) → Option Found
found_with None pairs = None
found_with (Some rule) pairs = Some (rule, pairs)

-- the one with the lesser number, if there are two
abbrev pub earlier_of : Option Found → Option Found → Option Found
earlier_of None other = other
earlier_of (Some found) None = Some found
earlier_of (Some found) (Some other) = if nat_lt other.0 found.0 then Some other else Some found
