use Rattle.std.proofs.Common.{◌++◌, ◌∷◌, [], List, length, ap, ◌∙◌, arith}
use Rattle.lotos_base.specs.Name.{spelling}
use Rattle.sort_terms.specs.declared.equations.Variable.{Variable}
use Rattle.sort_terms.proofs.ScopeLemmas.{pushed_positions, if_ok}
use Rattle.sort_terms.proofs.scope.Scope.push.Goals as goal

pub invariant_of-self-2 : goal.invariant_of-self-2
invariant_of-self-2 c = record {
  indexed = λ key.
      pushed_positions
      (λ (v : Variable). spelling v.name) key c.args.self.now.variables.items c.push.new.self.items c.args.variable _ _ c.len.result
      (c.push.ensures.items ∙ if_ok c.push.result _ _ (c.push.ensures.succeeds
      (omega (arith, c.in_ok-reserve.ensures.ok, c.in_ok-reserve.ensures.len)))
      ∙ ap (λ (vs : List Variable). vs ++ c.args.variable ∷ []) c.in_ok-reserve.ensures.items)
      (c.args.self.now.indexed key)
      (c.len.ensures ∙ c.reserve.new.self.ok.0 ∙ ap (λ (vs : List Variable). length vs) c.in_ok-reserve.ensures.items)
      (c.in_ok-add.ensures.added key);
}
