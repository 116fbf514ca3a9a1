use Rattle.std.proofs.Common.{refl, sym, ◌∙◌, ap, arith, get_or}
use Rattle.behaviour_tree.specs.StateView.{state_of}
use Rattle.path_order.specs.HeadIndexView.{numbers_at}
use Rattle.bisim_check.specs.PairIndex.{PairStandsAt}
use Rattle.bisim_check.specs.Readings.{listed_pairs_in}
use Rattle.bisim_check.proofs.AnswerLemmas.{place_given, none_below_next}
use Rattle.bisim_check.proofs.DataLemmas.{never}
use Rattle.bisim_check.proofs.IndexLemmas.{none_filed}
use Rattle.bisim_check.proofs.matching.is_listed.Goals as goal

pub returns-then-is_numbered : goal.returns-then-is_numbered
returns-then-is_numbered c =
    let number = get_or c.under-number-items.result.now c.loop-number.number-index 0 in
    let h = c.is_numbered.ensures.0 c.if-is_numbered.true in (
      (λ _. record { place = number; pair = h.pair; there = h.there; left = h.left; right = h.right }),
      (λ _. refl),
    )

pub loop-number-preserved : goal.loop-number-preserved
loop-number-preserved c =
    let numbers = c.under-number-items.result.now in
    let i = c.loop-number.number-index in
    none_below_next (PairStandsAt (listed_pairs_in c.args.reading.now) (state_of c.args.left.now) (state_of c.args.right.now)) numbers i
    (get_or numbers i 0) (place_given numbers i 0 c.loop-number-test.true)
    c.loop-number.invariant (λ h. never (sym c.if-is_numbered.false ∙ c.is_numbered.ensures.1 h))

pub returns : goal.returns
returns c = (
  (λ h. absurd (never h)),
  (λ listed. absurd (none_filed (listed_pairs_in c.args.reading.now) c.args.index.now (state_of c.args.left.now) (state_of c.args.right.now)
      c.under-number-items.result.now (c.under-number-items.ensures ∙ ap (numbers_at c.args.index.now) c.bucket.ensures) c.requires.filed
      (λ k number below there at. c.loop-number.invariant k number (omega (arith, below)) there at) listed)),
)
