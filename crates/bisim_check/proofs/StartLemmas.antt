-- The beginning and the end of a check.
use Rattle.std.proofs.Common.{◌≡◌, ℕ, List, length, sym, subst}
use Rattle.lotos_base.specs.Signature.{Signature}
use Rattle.behaviour_semantics.specs.WellFormed.{IsClosedBehaviour}
use Rattle.behaviour_tree.specs.Closed.{IsClosedNode}
use Rattle.behaviour_tree.specs.DefinitionView.{specification_of}
use Rattle.behaviour_tree.specs.Over.{AreTermsOf}
use Rattle.behaviour_tree.specs.StateView.{node_profiles, state_of}
use Rattle.behaviour_tree.specs.declared.definitions.Spec.{Spec}
use Rattle.behaviour_tree.specs.declared.states.State.{State}
use Rattle.certificate_theory.specs.Certificate.{CertificateLine, CertificateFault, Comparison, Reading as PlainReading, first_reading, ListsTheStarts, accepted, refused, no_start_pair}
use Rattle.certificate_theory.specs.Checking.{CertificateComesTo, is_accepted, has_faulty_line, lacks_starts, has_faulty_pair}
use Rattle.certificate_theory.specs.MatchedPairs.{AllPairsAreMatched, PairsFail}
use Rattle.certificate_theory.specs.NamedStates.{LinesAreRead, LinesFail}
use Rattle.bisim_check.specs.Surveys.{IsStateIn}

-- a copy of a state of the specification is one
pub copied_state : (signature : Signature) (spec : Spec) (state copy : State) → state_of copy ≡ state_of state
    → node_profiles copy.node ≡ node_profiles state.node → (IsClosedNode state.node → IsClosedNode copy.node)
    → IsStateIn signature spec state → IsStateIn signature spec copy
copied_state signature spec state copy same terms closed h = record {
  over = record {
    closed = subst (IsClosedBehaviour signature (specification_of spec)) (sym same) h.over.closed;
    terms = subst (AreTermsOf signature) (sym terms) h.over.terms;
  };
  closed = closed h.closed;
}

module _ (c : Comparison) (lines : List CertificateLine) (r : PlainReading) (is : r ≡ first_reading c) where
  pub line_fails : (f : CertificateFault) → LinesFail c r 1 lines f → CertificateComesTo c lines (refused f)
  line_fails f h = has_faulty_line f (subst (λ (it : PlainReading). LinesFail c it 1 lines f) is h)

  pub no_starts : (last : PlainReading) → LinesAreRead c r 1 lines last → (ListsTheStarts lines → ⊥)
      → CertificateComesTo c lines (refused no_start_pair)
  no_starts last read none = lacks_starts last (subst (λ (it : PlainReading). LinesAreRead c it 1 lines last) is read) none

  pub pair_fails : (last : PlainReading) → LinesAreRead c r 1 lines last → ListsTheStarts lines → (f : CertificateFault)
      → PairsFail c last.pairs f → CertificateComesTo c lines (refused f)
  pair_fails last read starts f h =
      has_faulty_pair last f (subst (λ (it : PlainReading). LinesAreRead c it 1 lines last) is read) starts h

  pub all_fits : (last : PlainReading) (number : ℕ) → LinesAreRead c r 1 lines last → ListsTheStarts lines
      → AllPairsAreMatched c last.pairs → number ≡ length last.pairs → CertificateComesTo c lines (accepted number)
  all_fits last number read starts matched counted =
      is_accepted last number (subst (λ (it : PlainReading). LinesAreRead c it 1 lines last) is read) starts matched counted
