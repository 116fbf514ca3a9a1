-- What a certificate of bisimulation comes to. The faults stand in one order: line by line what a line names or lists, then the
-- pair of the two starts, then pair by pair the entries that are not matched.
use Rattle.std.specs.Prelude.{◌≡◌, ℕ, List, length}
use Rattle.certificate_theory.specs.Certificate.{CertificateLine, CertificateFault, no_start_pair, CertificateOutcome, accepted, refused, Comparison, Reading, first_reading, ListsTheStarts}
use Rattle.certificate_theory.specs.NamedStates.{LinesAreRead, LinesFail}
use Rattle.certificate_theory.specs.MatchedPairs.{AllPairsAreMatched, PairsFail}

-- All lines of the certificate are read, and this is what they give.
abbrev pub IsReadAs : Comparison → List CertificateLine → Reading → Type 0
IsReadAs c lines last = LinesAreRead c (first_reading c) 1 lines last

pub data CertificateComesTo (c : Comparison) (lines : List CertificateLine) : CertificateOutcome → Type 0 where
  -- all lines are read, a line is `p 0 0`, and all listed pairs are matched
  is_accepted :
      (last : Reading) (number : ℕ) →
      IsReadAs c lines last →
      ListsTheStarts lines →
      AllPairsAreMatched c last.pairs →
      number ≡ length last.pairs →
      CertificateComesTo c lines (accepted number)
  -- a line is not read
  has_faulty_line :
      (fault : CertificateFault) →
      LinesFail c (first_reading c) 1 lines fault →
      CertificateComesTo c lines (refused fault)
  -- all lines are read, and none is `p 0 0`
  lacks_starts :
      (last : Reading) →
      IsReadAs c lines last →
      (ListsTheStarts lines → ⊥) →
      CertificateComesTo c lines (refused no_start_pair)
  -- all lines are read, a line is `p 0 0`, and a listed pair is not matched
  has_faulty_pair :
      (last : Reading) (fault : CertificateFault) →
      IsReadAs c lines last →
      ListsTheStarts lines →
      PairsFail c last.pairs fault →
      CertificateComesTo c lines (refused fault)
