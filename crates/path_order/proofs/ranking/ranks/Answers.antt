use Rattle.std.proofs.Common.{◌≤◌, List, length, map, sym, ◌∙◌, subst, arith}
use Rattle.lotos_base.specs.WrittenView.{listed_operation_of}
use Rattle.sort_terms.specs.SignatureView.{signature_of}
use Rattle.path_order.specs.PrecedenceView.{status_by_number}
use Rattle.path_order.specs.Statuses.{AreStatusesBy}
use Rattle.path_order.specs.declared.status.Status.{Status}
use Rattle.path_order.proofs.RankLemmas.{ranks_by}
use Rattle.path_order.proofs.ranking.ranks.Goals as goal

pub returns-clause-ranks : goal.returns-clause-ranks
returns-clause-ranks c =
    let few : length c.ops-count.result.now ≤ 2147483647 = omega arith in
    let short : length c.order.result.now ≤ 2147483647 = omega arith in
    ranks_by c.args.signature.now c.args.order.now c.ops-count.result.now c.in_ok-made.made.order.items c.order.result.now
    c.order-2.result.now c.in_ok-ranked.field-0.items c.ops-count.ensures c.order.ensures c.order-2.ensures few short
    c.in_ok-made.made.once c.in_ok-made.ensures.listed c.in_ok-made.ensures.fine c.in_ok-ranked.ensures.listed
    c.in_ok-ranked.ensures.others

pub returns-clause-statuses : goal.returns-clause-statuses
returns-clause-statuses c =
    let same = c.in_ok-statuses.ensures.items ∙ c.statuses.ensures in
    subst
    (λ (all : List Status). AreStatusesBy (signature_of c.args.signature.now) (map listed_operation_of c.args.order.now)
    (status_by_number all))
    (sym same) c.in_ok-made.ensures.statuses
