use Rattle.std.proofs.Common.{◌≡◌, ◌<◌, ℕ, Some}
use Rattle.std.specs.Prelude.{slice_get}
use Rattle.sort_terms.specs.EquationView.{equation_of}
use Rattle.certificate_theory.specs.InductionCertificate.{Lemma}
use Rattle.certificate_theory.specs.Requirements.{IsRenamedStatement, stated}
use Rattle.induct_parts.specs.CertificateView.{lemmas_in}
use Rattle.induct_parts.proofs.meeting.met_by.Given as goal

-- none of the lemmas so far is the same equation
abbrev pub invariant-loop-i : goal.invariant-loop-i
invariant-loop-i l = (j : ℕ) (lemma : Lemma) → j < l.i → slice_get (lemmas_in l.lemmas) j ≡ Some lemma
    → ¬ IsRenamedStatement lemma.statement (stated (equation_of l.equation))
