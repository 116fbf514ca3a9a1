use Rattle.scope_parts.specs.BindingsView.{bindings_in}
use Rattle.scope_parts.proofs.CallableLemmas.{many_positions, positions_cut, callables_cut}
use Rattle.scope_parts.proofs.callables.Callables.cut_to.Goals as goal

pub cut_to-requires : goal.cut_to-requires
cut_to-requires c =
    many_positions c.args.self.now.entries.items (bindings_in c.args.self.now.positions) c.args.size c.args.self.now.positioned c.requires

pub invariant_of-self : goal.invariant_of-self
invariant_of-self c = record {
  positioned =
      positions_cut c.args.self.now.entries.items c.truncate.new.self.items (bindings_in c.args.self.now.positions)
      (bindings_in c.cut_to.new.self) c.args.size c.requires c.truncate.ensures.items c.args.self.now.positioned c.cut_to.ensures;
}

pub returns : goal.returns
returns c = callables_cut c.args.self.now.entries.items c.truncate.new.self.items c.args.size c.requires c.truncate.ensures.items
