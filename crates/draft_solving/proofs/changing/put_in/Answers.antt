use Rattle.std.proofs.Common.{ap, sym, ◌∙◌}
use Rattle.sort_terms.specs.SortedView.{profiled_in}
use Rattle.sort_terms.specs.TermView.{profiled_of}
use Rattle.sort_terms.specs.declared.terms.Term.{Term}
use Rattle.term_match.specs.Disagreement.{has_number}
use Rattle.draft_solving.proofs.ChangingLemmas.{lacking_put}
use Rattle.draft_solving.proofs.changing.put_in.Goals as goal

pub returns-then-not-occurs-clause-same : goal.returns-then-not-occurs-clause-same
returns-then-not-occurs-clause-same g c =
    lacking_put (g.D.Deciding.known_data c.args.decider.now).signature (g.D.Deciding.canon c.args.decider.now) c.args.found.now
    (profiled_in c.args.term.now) c.requires
    (ap (λ (t : Term). has_number c.args.found.now.0 (profiled_of t)) (sym c.term.ensures) ∙ (sym c.occurs.ensures ∙ c.if-not-occurs.true))
