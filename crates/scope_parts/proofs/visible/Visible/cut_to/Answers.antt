use Rattle.std.proofs.Common.{map, ap, ◌∙◌}
use Rattle.sort_terms.specs.EquationView.{variable_of}
use Rattle.scope_parts.specs.BindingsView.{bindings_in}
use Rattle.scope_parts.proofs.VisibleLemmas.{many_positions, positions_cut, map_take}
use Rattle.scope_parts.proofs.visible.Visible.cut_to.Goals as goal

pub cut_to-requires : goal.cut_to-requires
cut_to-requires c =
    many_positions c.args.self.now.variables.items (bindings_in c.args.self.now.positions) c.args.size c.args.self.now.positioned c.requires

pub invariant_of-self : goal.invariant_of-self
invariant_of-self c = record {
  positioned =
      positions_cut c.args.self.now.variables.items c.truncate.new.self.items (bindings_in c.args.self.now.positions)
      (bindings_in c.cut_to.new.self) c.args.size c.requires c.truncate.ensures.items c.args.self.now.positioned c.cut_to.ensures;
}

pub returns : goal.returns
returns c = ap (map variable_of) c.truncate.ensures.items ∙ map_take c.args.size c.args.self.now.variables.items
