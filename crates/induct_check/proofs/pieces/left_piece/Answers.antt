use Rattle.std.proofs.Common.{map}
use Rattle.sort_terms.specs.EquationView.{variable_of}
use Rattle.induct_parts.proofs.Outcomes.{match_none_at}
use Rattle.induct_check.specs.KnownView.{known_signature}
use Rattle.induct_check.proofs.PieceLemmas.{no_left_side}
use Rattle.induct_check.proofs.pieces.left_piece.Goals as goal

pub returns-in_default : goal.returns-in_default
returns-in_default c =
    no_left_side (known_signature c.args.known.now) (map variable_of c.args.variables.now) c.args.term.now
    (match_none_at _ _ c.in_ok-left.field-0 c.in_default.is c.in_ok-left.ensures)
