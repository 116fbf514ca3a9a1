use Rattle.std.proofs.Common.{map, sym, subst}
use Rattle.lotos_base.specs.WrittenView.{written_term_of}
use Rattle.sort_terms.specs.EquationView.{variable_of}
use Rattle.induct_parts.specs.HandedOn.{IsStated}
use Rattle.induct_parts.specs.StatementView.{statement_of}
use Rattle.induct_parts.proofs.Outcomes.{match_none_at, match_some_at}
use Rattle.induct_check.specs.CertificateReading.{stated_lemma}
use Rattle.induct_check.specs.KnownView.{known_signature}
use Rattle.induct_check.proofs.PieceLemmas.{no_right_side, gives_lemma}
use Rattle.induct_check.proofs.StatedLemmas.{sides_stated}
use Rattle.induct_check.proofs.pieces.right_piece.Goals as goal

pub returns-in_default : goal.returns-in_default
returns-in_default c =
    no_right_side (known_signature c.args.known.now) (map variable_of c.args.variables.now)
    (written_term_of c.args.left.now) c.args.term.now
    (match_none_at _ _ c.in_ok-right.field-0 c.in_default.is c.in_ok-right.ensures)

pub returns : goal.returns
returns c =
    let signature = known_signature c.args.known.now in
    let variables = map variable_of c.args.variables.now in
    let copies = map variable_of c.in_ok-copies.copies.items in
    let statement = statement_of c.in-Some-2.statement in
    let side = match_some_at _ _ c.in_ok-right.field-0 c.in-Some.right c.in-Some.is c.in_ok-right.ensures in
    let sides = match_some_at _ _ c.in_ok-statement.field-0 c.in-Some-2.statement c.in-Some-2.is c.in_ok-statement.ensures in (
      gives_lemma signature variables copies (written_term_of c.args.left.now) (written_term_of c.in-Some.right) c.args.term.now statement
          c.in_ok-copies.ensures side sides.0,
      (
        subst (λ vs. IsStated signature (stated_lemma vs statement)) (sym c.in_ok-copies.ensures)
            (sides_stated signature variables (written_term_of c.args.left.now) (written_term_of c.in-Some.right) statement
            c.requires.variables sides.0),
        sides.1,
      ),
    )
