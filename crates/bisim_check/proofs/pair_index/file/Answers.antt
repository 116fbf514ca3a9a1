use Rattle.std.proofs.Common.{◌≡◌, sym, ◌∙◌}
use Rattle.bisim_check.specs.PairIndex.{bucket_of}
use Rattle.bisim_check.specs.Readings.{behaviour_at, pair_among}
use Rattle.bisim_check.specs.Surveys.{behaviour_in}
use Rattle.bisim_check.proofs.IndexLemmas.{adds_told, within_room}
use Rattle.bisim_check.proofs.ReadingLemmas.{at_state}
use Rattle.bisim_check.proofs.pair_index.file.Goals as goal

pub add-requires : goal.add-requires
add-requires c =
    within_room c.bucket.result _ (behaviour_in c.state_at-left.result.now) (behaviour_in c.state_at-right.result.now)
    c.bucket.ensures c.requires.room

pub returns-clause-filed : goal.returns-clause-filed
returns-clause-filed c =
    let reading = c.args.reading.now in
    let listed = c.args.listed.now in
    let here = at_state reading.lefts.items listed.left c.state_at-left.result.now c.state_at-left.ensures in
    let there = at_state reading.rights.items listed.right c.state_at-right.result.now c.state_at-right.ensures in
    let same : c.bucket.result ≡ bucket_of (behaviour_at reading.lefts.items listed.left) (behaviour_at reading.rights.items listed.right) =
    c.bucket.ensures ∙ (λ i. bucket_of (sym here i) (sym there i)) in
    adds_told c.add.result (pair_among reading.lefts.items reading.rights.items listed) c.args.number c.bucket.result c.args.index.now c.add.new.self same
    c.add.ensures.added
