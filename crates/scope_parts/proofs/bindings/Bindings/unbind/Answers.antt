use Rattle.std.proofs.Common.{sym, ◌∙◌, refl}
use Rattle.scope_parts.proofs.BindingLemmas.{indexed_popped, hiding_popped, last_is_there, surely}
use Rattle.scope_parts.proofs.bindings.Bindings.unbind.Goals as goal

pub invariant_of-self : goal.invariant_of-self
invariant_of-self c = record {
  indexed = λ key.
      indexed_popped c.args.self.now.numbers.entries c.remove-number.new.self.entries c.args.self.now.bound.items c.pop.new.self.items
      c.in-Some.last c.as_slice.result.now c.as_slice.ensures.value c.in-Some.ensures.items
      (c.remove-number.ensures.updates.1 ∙ sym c.in-None.is) c.remove-number.ensures.updates.3 c.args.self.now.indexed
      c.args.self.now.hiding key;
  hiding = hiding_popped c.args.self.now.bound.items c.pop.new.self.items c.in-Some.last c.in-Some.ensures.items c.args.self.now.hiding;
}

pub invariant_of-self-in-Some-hidden : goal.invariant_of-self-in-Some-hidden
invariant_of-self-in-Some-hidden c =
    let updates =
    surely c.insert.result c.insert.ensures.absent
    (last_is_there c.args.self.now.numbers.entries c.args.self.now.bound.items c.pop.new.self.items c.in-Some.last
    c.in-Some.ensures.items c.args.self.now.indexed)
    c.insert.ensures.updates in
    record {
      indexed = λ key.
          indexed_popped c.args.self.now.numbers.entries c.insert.new.self.entries c.args.self.now.bound.items c.pop.new.self.items
          c.in-Some.last c.in-Some.last.key.items refl c.in-Some.ensures.items
          (updates.1 ∙ sym c.in-Some-hidden.is) updates.3 c.args.self.now.indexed
          c.args.self.now.hiding key;
      hiding =
          hiding_popped c.args.self.now.bound.items c.pop.new.self.items c.in-Some.last c.in-Some.ensures.items c.args.self.now.hiding;
    }
