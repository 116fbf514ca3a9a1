use Rattle.std.proofs.Common.{map, subst, arith}
use Rattle.std.specs.Prelude.{Some}
use Rattle.lotos_base.specs.WrittenView.{placed_name_of}
use Rattle.sort_terms.specs.ReaderView.{signature_read}
use Rattle.sort_terms.specs.ReadingOutcome.{unknown_sorts}
use Rattle.sort_terms.specs.RefusalView.{IsFirstRefusal}
use Rattle.sort_terms.specs.declared.sort_faults.SortFault.TheVariants.{UnknownSort}
use Rattle.sort_terms.proofs.UnknownLemmas.{Asks, sort_passed, sort_missed}
use Rattle.sort_terms.proofs.reader.Reader.first_unknown_sort.Goals as goal

pub loop-place-preserved : goal.loop-place-preserved
loop-place-preserved c =
    sort_passed (signature_read c.args.self.now) c.deref-place-items.result.now c.loop-place.place-index c.loop-place-item.result
    c.in_ok-sort_named.field-0 c.in_default.field-0 (unknown_sorts (signature_read c.args.self.now)
    (map placed_name_of c.deref-place-items.result.now))
    (omega arith) c.loop-place-item.is c.in_default.is c.in_ok-sort_named.ensures c.loop-place.invariant

pub returns-in-loop-place : goal.returns-in-loop-place
returns-in-loop-place c =
    subst (λ (xs : Asks). IsFirstRefusal (unknown_sorts (signature_read c.args.self.now) (map placed_name_of xs))
    (Some (UnknownSort c.loop-place-item.result.0)))
    c.deref-place-items.ensures.value
    (sort_missed (signature_read c.args.self.now) c.deref-place-items.result.now c.loop-place.place-index c.loop-place-item.result
    c.in_ok-sort_named.field-0 (unknown_sorts (signature_read c.args.self.now) (map placed_name_of c.deref-place-items.result.now))
    (omega arith) c.loop-place-item.is c.in-None.is c.in_ok-sort_named.ensures c.loop-place.invariant)
