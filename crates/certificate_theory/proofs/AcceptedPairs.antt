-- An accepted certificate shows that the two starts are strongly bisimilar.
use Rattle.std.proofs.Common.{◌≡◌, ℕ, ◌+◌, List, length, sym, ◌∙◌, subst, arith}
use Rattle.behaviour_semantics.specs.Behaviour.{Behaviour}
use Rattle.behaviour_semantics.specs.Transition.{Transition}
use Rattle.behaviour_semantics.specs.WellFormed.{IsClosedBehaviour}
use Rattle.certificate_theory.specs.Bisimulation.{turned_round, AnsweringMove, IsBisimulationUpToAlike, AreAlikeAPair, chain_ends}
use Rattle.certificate_theory.specs.BisimulationLaws.{IsComparable, PairsUpToAlikeGiveABisimulation}
use Rattle.certificate_theory.specs.Certificate.{CertificateLine, accepted, Comparison, ListedPair, AreListed, number_of_pairs}
use Rattle.certificate_theory.specs.MatchedPairs.{PairIsMatched, AllPairsAreMatched}
use Rattle.certificate_theory.specs.Checking.{CertificateComesTo, is_accepted}
use Rattle.certificate_theory.specs.CertificateLaws.{AreShownBisimilar}
use Rattle.certificate_theory.proofs.MoveLaws.{MoveLaws}
use Rattle.certificate_theory.proofs.AlikeChains.{answer_in, alike_pair_turned, joined_bisimulation}
use Rattle.certificate_theory.proofs.MatchedMoves.{answered}
use Rattle.certificate_theory.proofs.ReadStates.{IsSurveyedPair, IsSurveyed, first_surveyed, all_surveyed, starts_listed, lines_counted}

module _ (laws : MoveLaws) (c : Comparison) (pairs : List ListedPair)
    (surveyed : (b d : Behaviour) (listed : AreListed pairs b d) → IsSurveyedPair c listed.pair)
    (matched : AllPairsAreMatched c pairs) where
  pub up_to_alike : IsBisimulationUpToAlike c.data_ c.left c.right (AreListed pairs)
  up_to_alike = record {
    left_closed = λ b d listed.
        subst (λ (z : Behaviour). IsClosedBehaviour c.data_.signature c.left z) listed.left (surveyed b d listed).left.closed;
    right_closed = λ b d listed.
        subst (λ (z : Behaviour). IsClosedBehaviour c.data_.signature c.right z) listed.right (surveyed b d listed).right.closed;
    forth = λ b d listed label target moves.
        let s : IsSurveyedPair c listed.pair = surveyed b d listed in
        let m : PairIsMatched c pairs listed.pair = matched listed.place listed.pair listed.there in
        subst (λ (z : Behaviour). AnsweringMove c.data_ c.left c.right (AreAlikeAPair c.data_ (AreListed pairs)) label target z)
        listed.right
        (answered laws c.data_ c.canon c.left c.right (AreListed pairs) listed.pair.left listed.pair.right s.left s.right s.left_menu
        s.right_menu m.left label target
        (subst (λ (z : Behaviour). Transition c.data_ c.left.processes z label target) (sym listed.left) moves));
    back = λ d b listed label target moves.
        let s : IsSurveyedPair c listed.pair = surveyed b d listed in
        let m : PairIsMatched c pairs listed.pair = matched listed.place listed.pair listed.there in
        subst (λ (z : Behaviour).
        AnsweringMove c.data_ c.right c.left (turned_round (AreAlikeAPair c.data_ (AreListed pairs))) label target z)
        listed.left
        (answer_in c.data_ c.right c.left (AreAlikeAPair c.data_ (turned_round (AreListed pairs)))
        (turned_round (AreAlikeAPair c.data_ (AreListed pairs))) (alike_pair_turned c.data_ (AreListed pairs)) label target
        listed.pair.left
        (answered laws c.data_ c.canon c.right c.left (turned_round (AreListed pairs)) listed.pair.right listed.pair.left s.right s.left
        s.right_menu s.left_menu m.right label target
        (subst (λ (z : Behaviour). Transition c.data_ c.right.processes z label target) (sym listed.right) moves)));
  }

pub pairs_give_a_bisimulation : MoveLaws → PairsUpToAlikeGiveABisimulation
pairs_give_a_bisimulation laws c pairs fine up_to =
    joined_bisimulation laws c.data_ c.canon c.left c.right c.left_start c.right_start fine.left fine.right (AreListed pairs) up_to

pub shown : MoveLaws → (c : Comparison) (lines : List CertificateLine) (number : ℕ) → IsComparable c
    → CertificateComesTo c lines (accepted number) → AreShownBisimilar c lines number
shown laws c lines number fine (is_accepted last _ read starts matched counted) =
    let s : IsSurveyed c last = all_surveyed laws c lines last fine read in
    let up_to : IsBisimulationUpToAlike c.data_ c.left c.right (AreListed last.pairs) =
    up_to_alike laws c last.pairs (λ b d listed. s.pairs listed.place listed.pair listed.there) matched in
    let listed : AreListed last.pairs c.left_start c.right_start =
    starts_listed laws c lines (first_surveyed c fine) read starts.0 starts.1 in
    record {
      last = last;
      read = read;
      counted = counted ∙ (let count : length last.pairs ≡ 0 + number_of_pairs lines = lines_counted c lines read in
          let same : 0 + number_of_pairs lines ≡ number_of_pairs lines = omega arith in
          count ∙ same);
      starts_are_listed = listed;
      up_to_alike = up_to;
      bisimulation = pairs_give_a_bisimulation laws c last.pairs fine up_to;
      starts_are_joined = record {
        member = c.left_start;
        other_member = c.right_start;
        members = listed;
        chain = chain_ends;
        other_chain = chain_ends;
      };
    }
