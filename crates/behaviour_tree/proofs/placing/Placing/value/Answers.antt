use Rattle.std.proofs.Common.{sym, ◌∙◌}
use Rattle.lotos_base.specs.Substitution.{binding}
use Rattle.behaviour_tree.specs.StateView.{environment_of}
use Rattle.behaviour_tree.proofs.BinderLemmas.{below_bound, below_free}
use Rattle.behaviour_tree.proofs.placing.Placing.value.Goals as goal

pub returns-then-bind : goal.returns-then-bind
returns-then-bind c = λ sort.
    below_bound c.args.self.now.binders (binding (environment_of c.args.self.now.environment.now)) c.args.number sort
    (sym c.bind.ensures ∙ c.if-bind.true)

pub returns : goal.returns
returns c = λ sort.
    below_free c.args.self.now.binders (binding (environment_of c.args.self.now.environment.now)) c.args.number sort
    (sym c.bind.ensures ∙ c.if-bind.false)
    ∙ c.first.ensures sort
