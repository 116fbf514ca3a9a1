-- What a use of the code takes, and what its match has.
use Rattle.std.specs.Prelude.{◌≡◌, ◌||◌, ℕ, Bool, Some}
use Rattle.lotos_base.proofs.Each.{Each}
use Rattle.lotos_base.specs.Equation.{Data}
use Rattle.lotos_base.specs.Signature.{Signature}
use Rattle.lotos_base.specs.Term.{Term}
use Rattle.lotos_base.specs.Tests.{occurs}
use Rattle.sort_terms.specs.ProfiledTerm.{ProfiledTerm, profiled_variable, head_sort}
use Rattle.sort_terms.specs.SortedView.{profiled_in, term_in}
use Rattle.sort_terms.specs.declared.sorted.Sorted.{Sorted}
use Rattle.term_match.specs.Matched.{IsMatchedBy}
use Rattle.term_match.specs.ProfiledPath.{profiled_subterm}
use Rattle.term_match.specs.SubstView.{profiled_pairs}
use Rattle.term_match.specs.declared.substitutions.Subst.{Subst}
use Rattle.certificate_theory.specs.InductionCertificate as plain
use Rattle.certificate_theory.specs.Splits.{Proving as PlainProving}
use Rattle.certificate_theory.specs.Uses.{IsOfSource, IsUsed, StandsForItself}
use Rattle.certificate_theory.specs.Requirements.{OccursInSide}
use Rattle.certificate_theory.proofs.CertificateTests.{each_variable, stands}
use Rattle.induct_parts.specs.StatementView.{statement_of, IsStatementOf, side_in, taken_in, placed_in}
use Rattle.induct_parts.specs.CertificateView.{use_source_of, use_of}
use Rattle.induct_parts.specs.SettingView.{setting_signature, proving_in, theory_in}
use Rattle.induct_parts.specs.CaseView.{case_in, IsKnownCase}
use Rattle.induct_parts.specs.declared.statements.Statement.{Statement}
use Rattle.induct_parts.specs.declared.certificates.Source.{Source}
use Rattle.induct_parts.specs.declared.certificates.Use.{Use}
use Rattle.induct_parts.specs.declared.setting.Setting.{Setting}
use Rattle.induct_parts.specs.declared.setting.Proving.{Proving}
use Rattle.induct_parts.specs.declared.cases.Case.{Case}
use Rattle.induct_parts.specs.declared.uses.Site.{Site}

-- The statement is the lemma or hypothesis with the number. Its sides are of the signature and have one sort, and so has each
-- variable number in it.
pub record IsKnownSource (setting : Setting) (proving : Proving) (point : Case) (source : Source) (statement : Statement) : Type 0 where
  pub is_there : IsOfSource (proving_in proving) (case_in point) (use_source_of source) (statement_of statement)
  pub over : IsStatementOf (setting_signature setting) statement
  pub one_sort : statement.left.sort ≡ statement.right.sort
  pub numbers : (n r s : ℕ) → OccursInSide (statement_of statement) n r → OccursInSide (statement_of statement) n s → r ≡ s

-- a variable of the pairs that stands for itself has itself
abbrev pub StandsRight : Proving → Source → ℕ × Sorted → Type 0
StandsRight proving source pair =
    StandsForItself (proving_in proving) (use_source_of source) pair.0 → (s : ℕ) × (profiled_in pair.1 ≡ profiled_variable pair.0 s)

-- whether the variable stands for itself or occurs in the term
abbrev pub closes : PlainProving → plain.Source → Term → ℕ → ℕ → Bool
closes proving source t n s = stands proving source n || occurs n s t

-- The substitution makes the side that is taken the part at the path, its fixed variables stand for themselves, and it leaves no
-- variable of the other side open.
pub record IsMatchOf (setting : Setting) (proving : Proving) (point : Case) (use_ : Use) (statement : Statement) (subst : Subst)
    : Type 0 where
  pub part : ProfiledTerm
  pub is_there : profiled_subterm use_.path.items (profiled_in (side_in use_.side point.goal)) ≡ Some part
  pub one_sort : (taken_in use_.direction statement).sort ≡ head_sort part
  pub matched : IsMatchedBy (profiled_in (taken_in use_.direction statement)) part (profiled_pairs subst.pairs.items)
  pub stand : Each (StandsRight proving use_.source) subst.pairs.items
  pub closed : each_variable (closes (proving_in proving) (use_source_of use_.source) (term_in (taken_in use_.direction statement)))
      (term_in (placed_in use_.direction statement)) ≡ Bool.true

-- the signature at the place of a use
abbrev pub signature_at : Site → Signature
signature_at site = setting_signature site.setting.now

-- the case there is known
abbrev pub IsKnownAt : Site → Type 0
IsKnownAt site = IsKnownCase (signature_at site) site.proving.now.free site.point.now

-- the statement there is the one that the use names
abbrev pub IsSourceAt : Site → Type 0
IsSourceAt site = IsKnownSource site.setting.now site.proving.now site.point.now site.use_.now.source site.statement.now

-- the use there makes this goal
abbrev pub IsUsedAt : Site → Data → (Term → Term) → plain.Statement → Type 0
IsUsedAt site data_ canon made =
    IsUsed (theory_in site.setting.now data_ canon) (proving_in site.proving.now) (case_in site.point.now) (use_of site.use_.now) made
