-- What certificates obey: an accepted one shows that the two start behaviours are strongly bisimilar, and each certificate comes
-- to one thing at most.
use Rattle.std.specs.Prelude.{◌≡◌, ℕ, List}
use Rattle.behaviour_semantics.specs.Behaviour.{Behaviour}
use Rattle.behaviour_semantics.specs.Label.{Label}
use Rattle.certificate_theory.specs.Bisimulation.{IsStrongBisimulation, IsBisimulationUpToAlike, AreJoinedToAPair}
use Rattle.certificate_theory.specs.BisimulationLaws.{IsComparable}
use Rattle.certificate_theory.specs.Certificate.{CertificateLine, CertificateOutcome, accepted, Comparison, Reading, AreListed, number_of_pairs}
use Rattle.certificate_theory.specs.LabelSequence.{Does, DoesLike}
use Rattle.certificate_theory.specs.Checking.{IsReadAs, CertificateComesTo}

-- The two starts are strongly bisimilar: what the lines list is as many pairs as there are lines for them; they are a strong
-- bisimulation up to 'alike' with the pair of the two starts; and what is joined to them is a strong bisimulation, with no
-- 'alike' in it, that relates the two starts.
pub record AreShownBisimilar (c : Comparison) (lines : List CertificateLine) (number : ℕ) : Type 0 where
  pub last : Reading
  pub read : IsReadAs c lines last
  pub counted : number ≡ number_of_pairs lines
  pub starts_are_listed : AreListed last.pairs c.left_start c.right_start
  pub up_to_alike : IsBisimulationUpToAlike c.data_ c.left c.right (AreListed last.pairs)
  pub bisimulation : IsStrongBisimulation c.data_ c.left c.right (AreJoinedToAPair c.data_ c.left c.right (AreListed last.pairs))
  pub starts_are_joined : AreJoinedToAPair c.data_ c.left c.right (AreListed last.pairs) c.left_start c.right_start

-- an accepted certificate shows that the two starts are strongly bisimilar
abbrev pub AcceptedCertificatesShowBisimilarity : Type 0
AcceptedCertificatesShowBisimilarity =
    (c : Comparison) (lines : List CertificateLine) (number : ℕ) →
    IsComparable c →
    CertificateComesTo c lines (accepted number) →
    AreShownBisimilar c lines number

-- What either start does, the other one does too, with agreeing labels.
pub record DoTheSame (c : Comparison) : Type 0 where
  pub left :
      (labels : List Label) (target : Behaviour) →
      Does c.data_ c.left.processes c.left_start labels target →
      DoesLike c.data_ c.left c.right labels c.right_start
  pub right :
      (labels : List Label) (target : Behaviour) →
      Does c.data_ c.right.processes c.right_start labels target →
      DoesLike c.data_ c.right c.left labels c.left_start

-- so the two starts of an accepted certificate do the same
abbrev pub AcceptedStartsDoTheSame : Type 0
AcceptedStartsDoTheSame =
    (c : Comparison) (lines : List CertificateLine) (number : ℕ) →
    IsComparable c →
    CertificateComesTo c lines (accepted number) →
    DoTheSame c

-- a certificate comes to one thing at most
abbrev pub CertificatesComeToOneThing : Type 0
CertificatesComeToOneThing =
    (c : Comparison) (lines : List CertificateLine) (one other : CertificateOutcome) →
    CertificateComesTo c lines one →
    CertificateComesTo c lines other →
    one ≡ other
