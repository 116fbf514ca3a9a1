use Rattle.std.proofs.Common.{◌++◌, ap, sym, ◌∙◌}
use Rattle.behaviour_semantics.specs.Behaviour.{Relabelling}
use Rattle.step_parts.proofs.NodeLemmas.{not_lacking, one_lacking}
use Rattle.step_parts.proofs.targets.push_lacking.Goals as goal

pub returns-then-has_formal : goal.returns-then-has_formal
returns-then-has_formal c = λ rest.
    ap (λ (xs : Relabelling). c.args.made.now.items ++ xs)
    (not_lacking c.args.first.now.items c.args.pair rest (sym c.has_formal.ensures ∙ c.if-has_formal.true))

pub returns : goal.returns
returns c = λ rest.
    one_lacking c.args.first.now.items c.args.pair c.args.made.now.items c.push.new.self.items rest
    (sym c.has_formal.ensures ∙ c.if-has_formal.false) c.in_ok-push.ensures.items
