use Rattle.std.proofs.Common.{◌≡◌, length, Some, slice_get, ap, sym, ◌∙◌, subst, arith, ltb-true, ltb-false}
use Rattle.std.proofs.lemmas.List.{length-map}
use Rattle.lotos_base.proofs.Members.{at_map, read_member_of}
use Rattle.behaviour_semantics.proofs.InstanceLemmas.{every_at}
use Rattle.behaviour_semantics.proofs.OptionLemmas.{some_value}
use Rattle.behaviour_tree.specs.StateView.{state_of}
use Rattle.certificate_theory.specs.Certificate.{ListedPair}
use Rattle.bisim_check.specs.Readings.{pair_among, listed_pairs_in, IsPlacedPair}
use Rattle.bisim_check.proofs.AnswerLemmas.{place_within}
use Rattle.bisim_check.proofs.DataLemmas.{never}
use Rattle.bisim_check.proofs.matching.is_numbered.Goals as goal

pub returns-in-None : goal.returns-in-None
returns-in-None c =
    let reading = c.args.reading.now in (
      (λ h. absurd (never h)),
      (λ at. absurd (omega (
        arith,
        place_within (listed_pairs_in reading) c.args.number at.pair at.there,
        length-map reading.pairs.items (pair_among reading.lefts.items reading.rights.items),
        ap length c.deref.ensures.value,
        ltb-false _ _ (sym c.in-None.ensures.lookup.0),
      ))),
    )

pub is_pair-requires : goal.is_pair-requires
is_pair-requires c =
    let pairs = c.args.reading.now.pairs.items in
    every_at (IsPlacedPair c.args.reading.now) pairs c.args.number c.in-Some.pair.now c.requires
    (read_member_of c.deref.result.now pairs c.args.number c.in-Some.pair.now c.deref.ensures.value
    (ltb-true _ _ (sym c.in-Some.ensures.lookup.0)) c.in-Some.ensures.lookup.1)

pub returns-in-Some : goal.returns-in-Some
returns-in-Some c =
    let reading = c.args.reading.now in
    let among = pair_among reading.lefts.items reading.rights.items in
    let found = c.in-Some.pair.now in
    let there : slice_get (listed_pairs_in reading) c.args.number ≡ Some (among found) =
    at_map among reading.pairs.items c.args.number found
    (read_member_of c.deref.result.now reading.pairs.items c.args.number found c.deref.ensures.value
    (ltb-true _ _ (sym c.in-Some.ensures.lookup.0)) c.in-Some.ensures.lookup.1) in (
      (λ h. record { pair = among found; there = there; left = (c.is_pair.ensures.0 h).0; right = (c.is_pair.ensures.0 h).1 }),
      (λ at. c.is_pair.ensures.1 (
        (subst (λ (it : ListedPair). it.left ≡ state_of c.args.left.now) (some_value (sym at.there ∙ there)) at.left),
        (subst (λ (it : ListedPair). it.right ≡ state_of c.args.right.now) (some_value (sym at.there ∙ there)) at.right),
      )),
    )
