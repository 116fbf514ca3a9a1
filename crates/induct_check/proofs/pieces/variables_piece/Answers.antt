use Rattle.std.proofs.Common.{map}
use Rattle.std.specs.Option.{option_map}
use Rattle.sort_terms.specs.EquationView.{variable_of}
use Rattle.induct_parts.proofs.Outcomes.{match_some_at}
use Rattle.induct_check.specs.KnownView.{known_signature}
use Rattle.induct_check.proofs.PieceLemmas.{gives_variables}
use Rattle.induct_check.proofs.pieces.variables_piece.Goals as goal

pub returns-in-Some : goal.returns-in-Some
returns-in-Some c =
    gives_variables (known_signature c.args.known.now) (option_map (λ t. t.now) c.args.text) (map variable_of c.in-Some.variables.items)
    (match_some_at _ _ c.in_ok-lemma_variables.field-0 c.in-Some.variables c.in-Some.is c.in_ok-lemma_variables.ensures)
