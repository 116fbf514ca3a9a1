-- What statements of the code stand for.
use Rattle.lotos_base.specs.Signature.{Signature}
use Rattle.sort_terms.specs.ProfiledTerm.{ProfiledTerm, IsOf}
use Rattle.sort_terms.specs.SortedView.{profiled_in, term_in}
use Rattle.sort_terms.specs.declared.sorted.Sorted.{Sorted}
use Rattle.certificate_theory.specs.InductionCertificate as plain
use Rattle.induct_parts.specs.declared.statements.Statement.{Statement}
use Rattle.induct_parts.specs.declared.certificates.Side.{Side}
use Rattle.induct_parts.specs.declared.certificates.Side.TheVariants.{Left, Right}
use Rattle.induct_parts.specs.declared.certificates.Direction.{Direction}
use Rattle.induct_parts.specs.declared.certificates.Direction.TheVariants.{Forward, Backward}

-- the statement
abbrev pub statement_of : Statement → plain.Statement
statement_of statement = record { left = term_in statement.left; right = term_in statement.right }

-- its sides with their profiles
abbrev pub profiled_sides_of : Statement → ProfiledTerm × ProfiledTerm
profiled_sides_of statement = (profiled_in statement.left, profiled_in statement.right)

-- one of the sides
abbrev pub side_in : Side → Statement → Sorted
side_in Left statement = statement.left
side_in Right statement = statement.right

-- the side whose instance a use takes away, and the one whose instance it puts there
abbrev pub taken_in : Direction → Statement → Sorted
taken_in Forward statement = statement.left
taken_in Backward statement = statement.right

abbrev pub placed_in : Direction → Statement → Sorted
placed_in Forward statement = statement.right
placed_in Backward statement = statement.left

-- Both sides are of the signature.
pub record IsStatementOf (signature : Signature) (statement : Statement) : Type 0 where
  pub left : IsOf signature (profiled_in statement.left)
  pub right : IsOf signature (profiled_in statement.right)

-- the sides with another one on this side
abbrev pub with_profiled_side : Side → ProfiledTerm → ProfiledTerm × ProfiledTerm → ProfiledTerm × ProfiledTerm
with_profiled_side Left t sides = (t, sides.1)
with_profiled_side Right t sides = (sides.0, t)
