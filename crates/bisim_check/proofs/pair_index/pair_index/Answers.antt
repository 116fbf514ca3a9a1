use Rattle.std.proofs.Common.{arith}
use Rattle.std.proofs.lemmas.List.{length-map}
use Rattle.lotos_base.proofs.Members.{at_map, read_member}
use Rattle.behaviour_semantics.proofs.InstanceLemmas.{every_at}
use Rattle.bisim_check.specs.Readings.{pair_among, listed_pairs_in, IsPlacedPair}
use Rattle.bisim_check.proofs.AnswerLemmas.{place_within}
use Rattle.bisim_check.proofs.IndexLemmas.{index_more}
use Rattle.bisim_check.proofs.pair_index.pair_index.Goals as goal

pub loop-number-init : goal.loop-number-init
loop-number-init c =
    record { filed = λ k pair below there. absurd (omega (arith, below)); room = c.in_ok-made.ensures.room }

pub file-requires-clause-placed : goal.file-requires-clause-placed
file-requires-clause-placed c =
    let pairs = c.args.reading.now.pairs.items in
    every_at (IsPlacedPair c.args.reading.now) pairs c.loop-number.number c.index.result.now c.requires
    (read_member pairs c.loop-number.number c.index.result.now (omega arith) c.index.ensures)

pub loop-number-preserved : goal.loop-number-preserved
loop-number-preserved c =
    let reading = c.args.reading.now in
    let found = c.index.result.now in
    let among = pair_among reading.lefts.items reading.rights.items in
    record {
      filed = index_more (listed_pairs_in reading) c.loop-number.number (among found) c.loop-number.made c.file.new.index
          (at_map among reading.pairs.items c.loop-number.number found
          (read_member reading.pairs.items c.loop-number.number found (omega arith) c.index.ensures))
          c.in_ok-file.ensures.filed c.loop-number.invariant.filed;
      room = c.in_ok-file.ensures.room_after;
    }

pub returns : goal.returns
returns c = λ number pair there.
    let reading = c.args.reading.now in
    c.loop-number.invariant.filed number pair
    (omega (
      arith,
      place_within (listed_pairs_in reading) number pair there,
      length-map reading.pairs.items (pair_among reading.lefts.items reading.rights.items),
      reading.pairs.ok.0,
    )) there
