use Rattle.std.proofs.Common.{◌<◌, ◌≤◌, ◌-◌, length, get_or, ◌∙◌, arith}
use Rattle.std.proofs.lemmas.Option.{slice_get-get_or}
use Rattle.lotos_base.specs.WrittenView.{listed_operation_of}
use Rattle.sort_terms.specs.SignatureView.{signature_of}
use Rattle.sort_terms.proofs.CountedLemmas.{number_below}
use Rattle.path_order.proofs.ItemLemmas.{positions_named, found_none, found_more, found_all}
use Rattle.path_order.proofs.items.listed_by.Goals as goal

pub loop-k-init : goal.loop-k-init
loop-k-init c =
    found_none (signature_of c.args.signature.now) (listed_operation_of c.args.item.now) c.in_ok-numbers.numbers.now
    c.new-found.result.items
    (positions_named c.args.signature.now (listed_operation_of c.args.item.now) c.in_ok-numbers.numbers.now
    (c.in_ok-numbers.ensures ∙ c.requires _)) c.new-found.ensures.items

pub with_suiting-requires : goal.with_suiting-requires
with_suiting-requires c =
    number_below c.args.signature.now.ops.items _ c.in_ok-numbers.numbers.now (length c.in_ok-numbers.numbers.now - 1 - c.loop-k.k)
    (c.in_ok-numbers.ensures ∙ c.requires _) (omega arith)

pub loop-k-preserved : goal.loop-k-preserved
loop-k-preserved c =
    let numbers = c.in_ok-numbers.numbers.now in
    let within : c.loop-k.k < length c.in_ok-numbers.numbers.now = omega arith in
    found_more (signature_of c.args.signature.now) (listed_operation_of c.args.item.now) numbers c.loop-k.found.items
    c.in_ok-found.found.items
    c.loop-k.k (get_or numbers (length numbers - 1 - c.loop-k.k) 0)
    (positions_named c.args.signature.now (listed_operation_of c.args.item.now) numbers (c.in_ok-numbers.ensures ∙ c.requires _)) within
    (slice_get-get_or numbers (length numbers - 1 - c.loop-k.k) 0 (omega arith)) c.loop-k.invariant c.in_ok-found.ensures

pub returns : goal.returns
returns c =
    let end : length c.in_ok-numbers.numbers.now ≤ c.loop-k.k = omega arith in
    found_all (signature_of c.args.signature.now) (listed_operation_of c.args.item.now) c.in_ok-numbers.numbers.now c.loop-k.found.items
    c.loop-k.k end c.loop-k.invariant
