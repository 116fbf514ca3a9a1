use Rattle.std.proofs.Common.{sym, ◌∙◌}
use Rattle.induct_parts.specs.CertificateView.{use_source_of}
use Rattle.induct_parts.specs.SettingView.{proving_in}
use Rattle.induct_parts.proofs.StandFacts.{stands_not, variable_stands_right, node_stands_wrong}
use Rattle.induct_parts.proofs.uses.stands_right.Goals as goal

pub returns-then-not-stands : goal.returns-then-not-stands
returns-then-not-stands c =
    stands_not (proving_in c.args.proving.now) (use_source_of c.args.source) c.args.number c.args.term.now
    (sym c.stands.ensures ∙ cc c.if-not-stands.true)

pub returns-in-Var : goal.returns-in-Var
returns-in-Var c =
    variable_stands_right (proving_in c.args.proving.now) (use_source_of c.args.source) c.args.number c.args.term.now c.in-Var.other _
    (sym c.stands.ensures ∙ cc c.if-not-stands.false) c.in-Var.is

pub returns-in-Node : goal.returns-in-Node
returns-in-Node c =
    node_stands_wrong (proving_in c.args.proving.now) (use_source_of c.args.source) c.args.number c.args.term.now _ _ _
    (sym c.stands.ensures ∙ cc c.if-not-stands.false) c.in-Node.is
