use Rattle.std.proofs.Common.{sym, subst}
use Rattle.induct_check.specs.FormView.{IsShort}
use Rattle.induct_check.proofs.FormLemmas.{form_short}
use Rattle.induct_check.proofs.pieces.understood.Goals as goal

pub among_covers-requires-clause-short : goal.among_covers-requires-clause-short
among_covers-requires-clause-short c =
    subst (λ form. IsShort form) (sym c.in_ok-form.ensures) (form_short c.args.line.now c.requires.short)

pub in_tree-requires-clause-short : goal.in_tree-requires-clause-short
in_tree-requires-clause-short c =
    subst (λ form. IsShort form) (sym c.in_ok-form.ensures) (form_short c.args.line.now c.requires.short)

pub behind_variables-requires-clause-short : goal.behind_variables-requires-clause-short
behind_variables-requires-clause-short c =
    subst (λ form. IsShort form) (sym c.in_ok-form.ensures) (form_short c.args.line.now c.requires.short)

pub behind_left-requires-clause-short : goal.behind_left-requires-clause-short
behind_left-requires-clause-short c =
    subst (λ form. IsShort form) (sym c.in_ok-form.ensures) (form_short c.args.line.now c.requires.short)

pub in_proof-requires-clause-short : goal.in_proof-requires-clause-short
in_proof-requires-clause-short c =
    subst (λ form. IsShort form) (sym c.in_ok-form.ensures) (form_short c.args.line.now c.requires.short)
