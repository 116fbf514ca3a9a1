-- A statement as it is shown: its variables are numbered from 0 by first appearance, left side first.
use Rattle.std.specs.Prelude.{ℕ, List, []}
use Rattle.lotos_base.specs.Substitution.{substituted, renaming}
use Rattle.rewriting_theory.specs.Numbering.{variable_numbers}
use Rattle.term_match.specs.Appearance.{noted, counted}
use Rattle.term_match.specs.Renumbering.{new_number}
use Rattle.certificate_theory.specs.InductionCertificate.{Statement}
use Rattle.certificate_theory.specs.Splits.{in_both}

-- the numbers of its variables, each at its first place
abbrev pub appearances_in : Statement → List ℕ
appearances_in statement = noted (noted [] (variable_numbers statement.left)) (variable_numbers statement.right)

abbrev pub shown_statement : Statement → Statement
shown_statement statement =
    in_both (substituted (renaming (new_number (counted 0 (appearances_in statement))))) statement
