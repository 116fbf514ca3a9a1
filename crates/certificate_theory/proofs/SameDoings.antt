-- Behaviours that a bisimulation relates do the same.
use Rattle.std.proofs.Common.{List, [], ◌∷◌}
use Rattle.lotos_base.specs.Equation.{Data}
use Rattle.behaviour_semantics.specs.Behaviour.{Behaviour, Specification}
use Rattle.behaviour_semantics.specs.Label.{Label}
use Rattle.certificate_theory.specs.Bisimulation.{turned_round, AnsweringMove, IsSimulatedIn, AreJoinedToAPair}
use Rattle.certificate_theory.specs.LabelSequence.{Does, does_nothing, does_then, DoesLike}
use Rattle.certificate_theory.specs.Certificate.{AreListed}
use Rattle.certificate_theory.specs.CertificateLaws.{AreShownBisimilar, AcceptedCertificatesShowBisimilarity, AcceptedStartsDoTheSame}

module _ (data_ : Data) (one other : Specification) (Members : Behaviour → Behaviour → Type 0)
    (simulated : IsSimulatedIn data_ one other Members Members) where
  does_like : {b c target : Behaviour} {labels : List Label} → Members b c → Does data_ one.processes b labels target
      → DoesLike data_ one other labels c
  does_like {c = c} members does_nothing = record { answers = []; reached = c; does = does_nothing; agree = tt }
  does_like {c = c} members (does_then {b = b} {next = next} {label = label} moves rest) =
      let first : AnsweringMove data_ one other Members label next c = simulated b c members label next moves in
      let more = does_like first.related rest in
      record {
        answers = first.answer ∷ more.answers;
        reached = more.reached;
        does = does_then first.moves more.does;
        agree = (first.agree, more.agree);
      }

pub do_the_same : AcceptedCertificatesShowBisimilarity → AcceptedStartsDoTheSame
do_the_same law c lines number fine comes =
    let s : AreShownBisimilar c lines number = law c lines number fine comes in
    record {
      left = λ labels target does.
          does_like c.data_ c.left c.right (AreJoinedToAPair c.data_ c.left c.right (AreListed s.last.pairs)) s.bisimulation.forth
          s.starts_are_joined does;
      right = λ labels target does.
          does_like c.data_ c.right c.left (turned_round (AreJoinedToAPair c.data_ c.left c.right (AreListed s.last.pairs)))
          s.bisimulation.back s.starts_are_joined does;
    }
