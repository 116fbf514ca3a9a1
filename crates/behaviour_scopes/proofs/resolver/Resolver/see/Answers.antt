use Rattle.std.proofs.Common.{ℕ, ◌+◌, map, ap, ◌∙◌, sym}
use Rattle.std.proofs.lemmas.List.{length-map}
use Rattle.sort_terms.specs.EquationView.{variable_of}
use Rattle.scope_parts.specs.VisibleView.{visible_in}
use Rattle.behaviour_scopes.specs.ResolverView.{state_in}
use Rattle.behaviour_scopes.proofs.ResolverLemmas.{over_grown, sees}
use Rattle.behaviour_scopes.proofs.resolver.Resolver.see.Goals as goal

pub invariant_of-self : goal.invariant_of-self
invariant_of-self c = record {
  over =
      over_grown (state_in c.args.self.now).signature (map variable_of c.args.added.now.items) (visible_in c.args.self.now.variables)
      (visible_in c.push_all.new.visible) c.args.self.now.over c.requires c.push_all.ensures.grown;
}

pub returns : goal.returns
returns c =
    sees (state_in c.args.self.now) (map variable_of c.args.added.now.items) (visible_in c.push_all.new.visible)
    c.in_ok-self.field-0 c.in_ok-push_all.ensures.added
    (c.in_ok-self.ensures ∙ ap (λ (n : ℕ). c.args.self.now.next_variable + n)
    (c.len.ensures ∙ c.args.added.now.ok.0 ∙ sym (length-map c.args.added.now.items variable_of)))
