use Rattle.std.proofs.lemmas.Result.{IfOk-weaker}
use Rattle.menu_builder.proofs.ListedLemmas.{one_made}
use Rattle.menu_builder.proofs.events.exit_moves.Goals as goal

pub returns-clause-these : goal.returns-clause-these
returns-clause-these g c =
    IfOk-weaker c.one.result _ _
    (λ made e. one_made (g.D.Deciding.known_data c.args.decider.now).signature _ c.in_ok-draft.draft made.items e
    c.in_ok-draft.ensures.same c.in_ok-draft.ensures.over)
    c.one.ensures
