use Rattle.std.proofs.Common.{arith}
use Rattle.std.proofs.lemmas.List.{length-map}
use Rattle.lotos_base.proofs.Members.{at_map, read_member}
use Rattle.lotos_base.specs.Equation.{Data, HasSortedSides}
use Rattle.lotos_base.specs.Term.{Term}
use Rattle.behaviour_semantics.proofs.InstanceLemmas.{every_at}
use Rattle.certificate_theory.specs.MatchedPairs.{PairFails, PairIsMatched, PairsFail}
use Rattle.menu_builder.proofs.HandedOn.{held_before, holds_after, keeps_both, keeps_itself}
use Rattle.bisim_check.specs.Faults.{TellsPairs}
use Rattle.bisim_check.specs.Readings.{comparison_of, pair_among, listed_pairs_in, IsKeptReading, IsListedPair}
use Rattle.bisim_check.specs.Surveys.{IsSideOf}
use Rattle.bisim_check.proofs.AnswerLemmas.{place_within, each_below_next}
use Rattle.bisim_check.proofs.PairLemmas.{all_placed}
use Rattle.lotos_base.proofs.Options.{gave_up}
use Rattle.bisim_check.proofs.SurveyLemmas.{told}
use Rattle.bisim_check.proofs.checking.check_listed.Goals as goal

pub loop-number-init : goal.loop-number-init
loop-number-init g c = record { matched = λ b d k pair below there. absurd (omega (arith, below)); same_known = keeps_itself }

pub check_pair-requires-clause-left : goal.check_pair-requires-clause-left
check_pair-requires-clause-left g c =
    holds_after (λ (d : Data) (k : Term → Term). IsSideOf d.signature c.args.left.now) c.loop-number.invariant.same_known c.requires.left

pub check_pair-requires-clause-right : goal.check_pair-requires-clause-right
check_pair-requires-clause-right g c =
    holds_after (λ (d : Data) (k : Term → Term). IsSideOf d.signature c.args.right.now) c.loop-number.invariant.same_known
    c.requires.right

pub check_pair-requires-clause-kept : goal.check_pair-requires-clause-kept
check_pair-requires-clause-kept g c =
    holds_after (λ (d : Data) (k : Term → Term). IsKeptReading d k c.args.left.now c.args.right.now c.args.reading.now)
    c.loop-number.invariant.same_known c.requires.kept

pub check_pair-requires-clause-listed : goal.check_pair-requires-clause-listed
check_pair-requires-clause-listed g c =
    let reading = c.args.reading.now in
    every_at (IsListedPair reading.lefts.items reading.rights.items) reading.pairs.items c.loop-number.number c.index.result.now
    c.requires.kept.pairs (read_member reading.pairs.items c.loop-number.number c.index.result.now (omega arith) c.index.ensures)

pub pair_index-requires : goal.pair_index-requires
pair_index-requires g c =
    all_placed (g.D.Deciding.known_data c.args.data.now) (g.D.Deciding.canon c.args.data.now) c.args.left.now c.args.right.now
    c.args.reading.now c.requires.kept

pub check_pair-requires-clause-indexed : goal.check_pair-requires-clause-indexed
check_pair-requires-clause-indexed g c = c.in_ok-made.ensures

pub check_pair-requires-clause-sides : goal.check_pair-requires-clause-sides
check_pair-requires-clause-sides g c =
    holds_after (λ (d : Data) (k : Term → Term). HasSortedSides d) c.loop-number.invariant.same_known c.requires.sides

pub returns-in_err-check_pair-clause-matched : goal.returns-in_err-check_pair-clause-matched
returns-in_err-check_pair-clause-matched g c = λ b d.
    let compared = comparison_of (g.D.Deciding.known_data c.args.data.now) (g.D.Deciding.canon c.args.data.now) c.args.left.now
    c.args.right.now b d in
    let reading = c.args.reading.now in
    let found = c.index.result.now in
    let pair = pair_among reading.lefts.items reading.rights.items found in
    gave_up _ (TellsPairs (PairsFail compared (listed_pairs_in reading))) c.from_residual-in_err-check_pair.result
    c.in_err-check_pair.field-0.0
    c.from_residual-in_err-check_pair.ensures.1
    (told (PairFails compared (listed_pairs_in reading) pair) (PairsFail compared (listed_pairs_in reading)) c.in_err-check_pair.field-0.0
    (λ f h. record {
      place = c.loop-number.number;
      pair = pair;
      there = at_map (pair_among reading.lefts.items reading.rights.items) reading.pairs.items c.loop-number.number found
          (read_member reading.pairs.items c.loop-number.number found (omega arith) c.index.ensures);
      fails = h;
      earlier = c.loop-number.invariant.matched b d;
    })
    (held_before (λ (e : Data) (k : Term → Term). TellsPairs (PairFails (comparison_of e k c.args.left.now c.args.right.now b d)
    (listed_pairs_in reading) pair) c.in_err-check_pair.field-0.0) c.loop-number.invariant.same_known
    (c.in_err-check_pair.ensures.matched b d)))

pub loop-number-preserved : goal.loop-number-preserved
loop-number-preserved g c =
    let known = g.D.Deciding.known_data c.args.data.now in
    let canon = g.D.Deciding.canon c.args.data.now in
    let reading = c.args.reading.now in
    let found = c.index.result.now in
    let pair = pair_among reading.lefts.items reading.rights.items found in
    record {
      matched = λ b d. each_below_next
          (PairIsMatched (comparison_of known canon c.args.left.now c.args.right.now b d) (listed_pairs_in reading))
          (listed_pairs_in reading)
          c.loop-number.number pair
          (at_map (pair_among reading.lefts.items reading.rights.items) reading.pairs.items c.loop-number.number found
          (read_member reading.pairs.items c.loop-number.number found (omega arith) c.index.ensures))
          (c.loop-number.invariant.matched b d)
          (held_before (λ (e : Data) (k : Term → Term). PairIsMatched (comparison_of e k c.args.left.now c.args.right.now b d)
          (listed_pairs_in reading) pair) c.loop-number.invariant.same_known (c.in_ok-check_pair.ensures.matched b d));
      same_known = keeps_both c.loop-number.invariant.same_known c.in_ok-check_pair.ensures.same_known;
    }

pub returns-clause-matched : goal.returns-clause-matched
returns-clause-matched g c = λ b d place pair there.
    let reading = c.args.reading.now in
    c.loop-number.invariant.matched b d place pair
    (omega (
      arith,
      place_within (listed_pairs_in reading) place pair there,
      length-map reading.pairs.items (pair_among reading.lefts.items reading.rights.items),
      reading.pairs.ok.0,
    )) there
