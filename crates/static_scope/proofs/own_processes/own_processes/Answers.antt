use Rattle.std.proofs.Common.{◌+◌, ◌++◌, List, drop, ap, sym, ◌∙◌, subst}
use Rattle.std.proofs.lemmas.List.{append-nil}
use Rattle.std.proofs.Math.ListN.{drop_of_length-le}
use Rattle.lotos_base.proofs.Pieces.{next_member}
use Rattle.sort_terms.specs.ReaderView.{signature_read}
use Rattle.scope_parts.specs.Scope as plain
use Rattle.scope_parts.specs.Definitions.{callables}
use Rattle.syntax_trees.specs.TreeViews.{inner_of}
use Rattle.syntax_trees.specs.declared.definitions.InnerText.{InnerText}
use Rattle.static_scope.specs.CallableList.{callables_in}
use Rattle.static_scope.specs.Sizes.{BeginsAt, sizes_of_all}
use Rattle.static_scope.specs.SizesView.{written_inners}
use Rattle.static_scope.proofs.OwnLemmas.{own_next, sizes_first, sizes_next}
use Rattle.static_scope.proofs.own_processes.own_processes.Goals as goal

pub loop-declared-init : goal.loop-declared-init
loop-declared-init c = record {
  made =
      ap
      (λ (cs : List plain.Callable). cs
      ++ callables (signature_read c.args.reader.now) c.args.first (written_inners c.deref-declared-items.result.now))
      (ap callables_in c.new-made.ensures.items);
  sizes =
      subst (λ (xs : List InnerText). BeginsAt (sizes_of_all (written_inners xs)) c.args.first c.args.sizes.now.items)
      (sym c.deref-declared-items.ensures.value) c.requires;
}

pub add_own-requires : goal.add_own-requires
add_own-requires c =
    sizes_first c.loop-declared.number (inner_of c.declared-item.result)
    (written_inners (drop (c.loop-declared.declared-index + 1) c.deref-declared-items.result.now)) c.args.sizes.now.items
    (subst (λ (xs : List InnerText). BeginsAt (sizes_of_all (written_inners xs)) c.loop-declared.number c.args.sizes.now.items)
    (next_member c.deref-declared-items.result.now c.loop-declared.declared-index c.declared-item.result c.loop-declared-test.true
    c.declared-item.is)
    c.loop-declared.invariant.sizes)

pub loop-declared-preserved : goal.loop-declared-preserved
loop-declared-preserved c =
    let here =
    next_member c.deref-declared-items.result.now c.loop-declared.declared-index c.declared-item.result c.loop-declared-test.true
    c.declared-item.is in
    record {
      made =
          own_next (signature_read c.args.reader.now) c.loop-declared.number c.in_ok-next.next (inner_of c.declared-item.result)
          (written_inners (drop (c.loop-declared.declared-index + 1) c.deref-declared-items.result.now))
          (callables_in c.loop-declared.made.items)
          (callables_in c.add_own.new.made.items) _
          (ap
          (λ (xs : List InnerText). callables_in c.loop-declared.made.items
          ++ callables (signature_read c.args.reader.now) c.loop-declared.number (written_inners xs))
          (sym here)
          ∙ c.loop-declared.invariant.made)
          c.in_ok-next.ensures.added c.in_ok-next.ensures.next;
      sizes =
          sizes_next c.loop-declared.number c.in_ok-next.next (inner_of c.declared-item.result)
          (written_inners (drop (c.loop-declared.declared-index + 1) c.deref-declared-items.result.now)) c.args.sizes.now.items
          c.in_ok-next.ensures.next
          (subst (λ (xs : List InnerText). BeginsAt (sizes_of_all (written_inners xs)) c.loop-declared.number c.args.sizes.now.items)
          here c.loop-declared.invariant.sizes);
    }

pub returns : goal.returns
returns c =
    sym (append-nil (callables_in c.loop-declared.made.items))
    ∙ ap
    (λ (xs : List InnerText). callables_in c.loop-declared.made.items
    ++ callables (signature_read c.args.reader.now) c.loop-declared.number (written_inners xs))
    (sym (drop_of_length-le c.deref-declared-items.result.now c.loop-declared-test.false))
    ∙ c.loop-declared.invariant.made
    ∙ ap (λ (xs : List InnerText). callables (signature_read c.args.reader.now) c.args.first (written_inners xs))
    c.deref-declared-items.ensures.value
