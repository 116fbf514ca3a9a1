use Rattle.std.proofs.Common.{◌<◌, map, sym, subst}
use Rattle.lotos_base.specs.Name.{spelling}
use Rattle.induct_parts.proofs.StepLemmas.{pushed}
use Rattle.induct_check.proofs.NameLemmas.{one_argument}
use Rattle.induct_check.proofs.names.names_behind.Goals as goal

pub loop-number-preserved : goal.loop-number-preserved
loop-number-preserved c = λ ss long.
    one_argument (spelling c.args.name.now) c.loop-number.number ss (map spelling c.loop-number.made.items)
    (map spelling c.push.new.self.items) _ (spelling c.in_ok-argument_name.field-0)
    (subst (λ n. c.loop-number.number < n) (sym long) c.loop-number-test.true)
    (pushed spelling c.loop-number.made.items c.push.new.self.items c.in_ok-argument_name.field-0 c.in_ok-push.ensures.items)
    c.in_ok-argument_name.ensures (c.loop-number.invariant ss long)
