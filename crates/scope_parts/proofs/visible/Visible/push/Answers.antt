use Rattle.std.proofs.Common.{◌++◌, ◌∷◌, [], List, length, ap, ◌∙◌, arith}
use Rattle.sort_terms.specs.declared.equations.Variable.{Variable}
use Rattle.sort_terms.proofs.ScopeLemmas.{if_ok}
use Rattle.scope_parts.specs.BindingsView.{bindings_in}
use Rattle.scope_parts.proofs.VisibleLemmas.{positions_pushed}
use Rattle.scope_parts.proofs.visible.Visible.push.Goals as goal

pub invariant_of-self-2 : goal.invariant_of-self-2
invariant_of-self-2 c = record {
  positioned =
      positions_pushed c.args.self.now.variables.items c.push.new.self.items c.args.variable (bindings_in c.args.self.now.positions)
      (bindings_in c.bind.new.self) c.len.result
      (c.push.ensures.items ∙ if_ok c.push.result _ _ (c.push.ensures.succeeds
      (omega (arith, c.in_ok-reserve.ensures.ok, c.in_ok-reserve.ensures.len)))
      ∙ ap (λ (vs : List Variable). vs ++ c.args.variable ∷ []) c.in_ok-reserve.ensures.items)
      c.args.self.now.positioned
      (c.len.ensures ∙ c.reserve.new.self.ok.0 ∙ ap (λ (vs : List Variable). length vs) c.in_ok-reserve.ensures.items)
      c.in_ok-bind.ensures.bound;
}
