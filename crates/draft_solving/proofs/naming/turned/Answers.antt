use Rattle.std.proofs.Common.{◌∙◌, sym}
use Rattle.draft_solving.proofs.NameLemmas.{operation_stays}
use Rattle.draft_solving.proofs.naming.turned.Goals as goal
use Rattle.draft_solving.proofs.naming.turned.Goals.{in-Var, in-Node}

pub returns-in-None-clause-turned : goal.returns-in-None-clause-turned
returns-in-None-clause-turned c = elim c.match-term.branch [
  | in-Var w ↦ absurd (cc (w.other-is, c.in-None.is))
  | in-Node w ↦ operation_stays c.args.names.now.items c.args.found w.in-Node.op w.in-Node.profile w.in-Node.arguments
      (sym c.term.ensures ∙ w.in-Node.is)
]
