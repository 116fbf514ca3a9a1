use Rattle.std.proofs.Common.{List, [], ◌∷◌, refl}
use Rattle.lotos_base.specs.Equality.{same_term}
use Rattle.behaviour_semantics.specs.Behaviour.{stop}
use Rattle.behaviour_semantics.specs.Label.{gate_event}
use Rattle.behaviour_semantics.specs.Shape.{act}
use Rattle.certificate_theory.specs.Bisimulation.{turned_round}
use Rattle.certificate_theory.specs.Certificate.{Reading, ListedPair, AreListed}
use Rattle.certificate_theory.specs.Checking.{is_accepted}
use Rattle.certificate_theory.specs.NamedStates.{all_read, one_read}
use Rattle.worked_cases.specs.BehaviourSamples.{one}
use Rattle.worked_cases.specs.BisimulationCases.{sums}
use Rattle.worked_cases.proofs.CertificateTests.{names, closed_menu, matches, all_match, all_pairs, listed_at}
use Rattle.worked_cases.proofs.BufferPairs.{pair_of}
use Rattle.worked_cases.proofs.OfferPairs.{same_gate, closed_stop, stops_match, offers_one, exact_sum, exact_one}
use Rattle.worked_cases.proofs.bisimulation_cases.values_agree_by_the_equations.Goals as goal

abbrev sum_pairs : List ListedPair
sum_pairs = pair_of 3 sums.left_start sums.right_start ∷ pair_of 4 stop stop ∷ []

abbrev sum_reading : Reading
sum_reading = record { lefts = sums.left_start ∷ stop ∷ []; rights = sums.right_start ∷ stop ∷ []; pairs = sum_pairs }

stops_listed : AreListed sum_pairs stop stop
stops_listed = listed_at sum_pairs 1 (pair_of 4 stop stop) refl

pub returns : goal.returns
returns c = record {
  accepted_with_two = is_accepted sum_reading 2
      (one_read (stop, names sums.left _ 0 1 _ offers_one act (gate_event 0 (one ∷ [])) stop exact_sum refl refl refl, refl)
      (one_read (stop, names sums.right _ 0 1 _ offers_one act (gate_event 0 (one ∷ [])) stop exact_one refl refl refl, refl)
      (one_read (
        sums.left_start,
        sums.right_start,
        record {
          left_named = refl;
          right_named = refl;
          left_closed = closed_menu sums.left _ offers_one exact_sum (refl, tt);
          right_closed = closed_menu sums.right _ offers_one exact_one (refl, tt);
        },
        refl,
      )
      (one_read (
        stop,
        stop,
        record {
          left_named = refl;
          right_named = refl;
          left_closed = closed_stop _;
          right_closed = closed_stop _;
        },
        refl,
      ) all_read))))
      (2, refl)
      (all_pairs sums sum_pairs (
        record {
          left = all_match sums.left sums.right (AreListed sum_pairs) _ _ offers_one offers_one exact_sum exact_one (
            matches sums.left sums.right (AreListed sum_pairs) _ _ offers_one 0 act act (gate_event 0 (one ∷ [])) (gate_event 0 (one ∷ []))
                stop stop refl (same_gate _ _, (same_term one, tt)) refl refl stops_listed,
            tt,
          );
          right = all_match sums.right sums.left (turned_round (AreListed sum_pairs)) _ _ offers_one offers_one exact_one exact_sum (
            matches sums.right sums.left (turned_round (AreListed sum_pairs)) _ _ offers_one 0 act act (gate_event 0 (one ∷ []))
                (gate_event 0 (one ∷ [])) stop stop refl (same_gate _ _, (same_term one, tt)) refl refl stops_listed,
            tt,
          );
        },
        (
          record {
            left = stops_match _ _ (AreListed sum_pairs);
            right = stops_match _ _ (turned_round (AreListed sum_pairs));
          },
          tt,
        ),
      ))
      refl;
}
