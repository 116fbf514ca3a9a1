use Rattle.std.proofs.Common.{◌≡◌, ◌++◌, ◌∷◌, [], List, ap, ◌∙◌, sym, arith}
use Rattle.scope_parts.specs.Bindings.{bindings_of}
use Rattle.scope_parts.specs.Scope.{bound_to}
use Rattle.scope_parts.specs.declared.bound.Bound.{Bound}
use Rattle.scope_parts.proofs.BindingLemmas.{indexed_pushed, hiding_pushed}
use Rattle.sort_terms.proofs.ScopeLemmas.{if_ok}
use Rattle.scope_parts.proofs.bindings.Bindings.bind.Goals as goal

pub invariant_of-self-2 : goal.invariant_of-self-2
invariant_of-self-2 c =
    let last : Bound = record { key = c.in_ok-kept.kept; number = c.args.number; hidden = c.copied-hidden.result } in
    let kept : c.in_ok-key.key.items ≡ c.in_ok-kept.kept.items = sym (c.in_ok-kept.ensures.items ∙ c.as_slice.ensures.value) in
    let pushed : c.push.new.self.items ≡ c.args.self.now.bound.items ++ last ∷ [] =
    c.push.ensures.items ∙ if_ok c.push.result _ _ (c.push.ensures.succeeds
    (omega (arith, c.in_ok-reserve.ensures.ok, c.in_ok-reserve.ensures.len)))
    ∙ ap (λ (es : List Bound). es ++ last ∷ []) c.in_ok-reserve.ensures.items in
    record {
      indexed = λ key.
          indexed_pushed c.args.self.now.numbers.entries c.insert.new.self.entries c.args.self.now.bound.items c.push.new.self.items last
          c.in_ok-key.key.items kept pushed c.in_ok-insert.ensures.updates.1 c.in_ok-insert.ensures.updates.3 c.args.self.now.indexed key;
      hiding =
          hiding_pushed c.args.self.now.bound.items c.push.new.self.items last pushed
          (c.copied-hidden.ensures ∙ c.get.ensures.value ∙ c.args.self.now.indexed c.as_slice-2.result.now
          ∙ ap (bound_to (bindings_of c.args.self.now.bound.items)) (c.as_slice-2.ensures.value ∙ kept))
          c.args.self.now.hiding;
    }
