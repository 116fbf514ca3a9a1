use Rattle.std.proofs.Common.{◌≡◌, ◌++◌, drop}
use Rattle.sort_terms.specs.ReaderView.{signature_read}
use Rattle.scope_parts.specs.Definitions.{callables}
use Rattle.static_scope.specs.CallableList.{callables_in}
use Rattle.static_scope.specs.Sizes.{BeginsAt, sizes_of_all}
use Rattle.static_scope.specs.SizesView.{written_inners}
use Rattle.static_scope.proofs.own_processes.own_processes.Given as goal

abbrev pub invariant-loop-declared : goal.invariant-loop-declared
invariant-loop-declared l = record {
  made :
      callables_in l.made.items
      ++ callables (signature_read l.reader) l.number (written_inners (drop l.declared-index l.declared-items))
      ≡ callables (signature_read l.reader) l.first (written_inners l.declared-items);
  sizes : BeginsAt (sizes_of_all (written_inners (drop l.declared-index l.declared-items))) l.number l.sizes.items;
}
