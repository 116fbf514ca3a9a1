-- What an index of rules by the operations in their left sides has.
use Rattle.std.specs.Prelude.{◌≡◌, ◌<◌, ℕ, Option, None, Some, length}
use Rattle.lotos_base.specs.Term.{Term, variable, node}
use Rattle.path_order.specs.HeadIndexView.{numbers_at}
use Rattle.path_order.specs.RulesView.{plain_rules_in}
use Rattle.path_order.specs.declared.rules.Rules.{Rules}
use Rattle.term_rewriter.specs.FirstHead.{first_head, is_open, has_first, numbered_where}
use Rattle.term_rewriter.specs.declared.first_index.FirstIndex.{FirstIndex}

-- the numbers of the rules by both
pub record IsIndexOf (rules : Rules) (index : FirstIndex) : Type 0 where
  pub opens : (f : ℕ) → numbers_at index.open f ≡ numbered_where (is_open f) 0 (plain_rules_in rules)
  pub begins : (f : ℕ) → numbers_at index.firsts f ≡ numbered_where (has_first f) 0 (plain_rules_in rules)

-- the index has room for so many operations
abbrev pub HasRoom : FirstIndex → ℕ → Type 0
HasRoom index count = (length index.open.numbers.items ≡ count) × (length index.firsts.numbers.items ≡ count)

-- the operation has a number below this one, if there is one
abbrev pub IsBelowNumber : ℕ → Option ℕ → Type 0
IsBelowNumber count None = Unit {0}
IsBelowNumber count (Some g) = g < count

-- the operations at the heads of the term and of its first argument have numbers below this one
abbrev pub IsKeyBelow : ℕ → Term → Type 0
IsKeyBelow count (variable n s) = Unit {0}
IsKeyBelow count (node f ts) = (f < count) × IsBelowNumber count (first_head ts)
