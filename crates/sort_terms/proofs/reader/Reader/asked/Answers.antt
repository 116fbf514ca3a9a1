use Rattle.std.proofs.Common.{◌++◌, ◌∷◌, [], map, take, sym, ap, ◌∙◌, arith}
use Rattle.std.proofs.lemmas.List.{take_more, map-append}
use Rattle.lotos_base.specs.WrittenView.{placed_name_of}
use Rattle.lotos_base.specs.declared.places.Place.{Place}
use Rattle.lotos_base.specs.declared.names.Name.{Name}
use Rattle.sort_terms.specs.ReaderView.{signature_read}
use Rattle.sort_terms.proofs.AskedLemmas.{asked_more}
use Rattle.sort_terms.proofs.reader.Reader.asked.Goals as goal

pub loop-name-preserved : goal.loop-name-preserved
loop-name-preserved c =
    asked_more (signature_read c.args.self.now) (map placed_name_of (take c.loop-name.name-index c.deref-name-items.result.now))
    (placed_name_of c.loop-name-item.result) _ c.loop-name.asked
    c.and-asked.result c.in_ok-sort_named.field-0
    (ap (map placed_name_of) (take_more c.deref-name-items.result.now c.loop-name.name-index c.loop-name-item.result (omega arith)
    ∙ ap (λ (x : Place × Name). take c.loop-name.name-index c.deref-name-items.result.now ++ x ∷ []) (sym c.loop-name-item.is))
    ∙ map-append placed_name_of (take c.loop-name.name-index c.deref-name-items.result.now) (c.loop-name-item.result ∷ []))
    c.loop-name.invariant c.and-asked.ensures c.in_ok-sort_named.ensures
