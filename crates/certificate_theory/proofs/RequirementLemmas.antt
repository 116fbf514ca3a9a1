-- A requirement that is met holds at its ground instances, and is met by one lemma.
use Rattle.std.proofs.Common.{◌≡◌, ℕ, ap, sym, ◌∙◌, subst, refl}
use Rattle.lotos_base.specs.Term.{Term}
use Rattle.lotos_base.specs.Sorting.{Occurs}
use Rattle.lotos_base.specs.Substitution.{Substitution, substituted, renaming, followed_by, IsGrounding}
use Rattle.lotos_base.specs.Equation.{Data, Equation, IsGroundInstance}
use Rattle.lotos_base.specs.Equality.{Equal}
use Rattle.lotos_base.proofs.SubstitutionLemmas.{substituted_twice, occurs_substituted}
use Rattle.lotos_base.proofs.EqualityLemmas.{equal_then, equal_same}
use Rattle.certificate_theory.specs.InductionCertificate.{Certificate, Statement}
use Rattle.certificate_theory.specs.Splits.{Theory}
use Rattle.certificate_theory.specs.Certified.{IsFit, IsCertificateOver, IsCertified}
use Rattle.certificate_theory.specs.Requirements.{HoldsByInduction, IsRenamedStatement, stated, IsMetBy, IsLeftOpen}
use Rattle.certificate_theory.proofs.LemmasHold.{lemmas_hold}
use Rattle.rewriting_theory.proofs.PairListLemmas.{neither_less}

-- what holds by induction holds up to the names of variables
module _ (data_ : Data) (one other : Statement) (is : IsRenamedStatement one other) where
  abbrev renamed : Substitution → Substitution
  renamed values = followed_by (renaming is.number) values

  same : (values : Substitution) (t u : Term) → substituted (renaming is.number) t ≡ u
      → substituted (renamed values) t ≡ substituted values u
  same values t u e = sym (substituted_twice (renaming is.number) values t) ∙ ap (substituted values) e

  grounds : (values : Substitution) (t u : Term) → substituted (renaming is.number) t ≡ u → IsGrounding data_.signature u values
      → IsGrounding data_.signature t (renamed values)
  grounds values t u e ground_values n s o =
      ground_values (is.number n s) s
      (subst (Occurs (is.number n s) s) e
      (occurs_substituted (is.number n s) s n s (renaming is.number) t o (refl, refl)))

  pub renamed_holds : HoldsByInduction data_ one → HoldsByInduction data_ other
  renamed_holds holds = λ values left right.
      equal_then (equal_same data_ (substituted values other.left) (substituted (renamed values) one.left)
      (sym (same values one.left other.left is.left)))
      (equal_then (holds (renamed values) (grounds values one.left other.left is.left left)
      (grounds values one.right other.right is.right right))
      (equal_same data_ (substituted (renamed values) one.right) (substituted values other.right)
      (same values one.right other.right is.right)))

pub met_holds : (theory : Theory) (certificate : Certificate) (equation : Equation) (k : ℕ) (values : Substitution)
    → IsFit theory → IsCertificateOver theory.data_.signature certificate → IsCertified theory certificate
    → IsMetBy certificate.lemmas equation k → IsGroundInstance theory.data_.signature equation values
    → Equal theory.data_ (substituted values equation.left) (substituted values equation.right)
met_holds theory certificate equation k values fit over certified met instance =
    renamed_holds theory.data_ met.lemma.statement (stated equation) met.renamed
    (lemmas_hold theory certificate k met.lemma fit over certified met.is_lemma) values instance.left instance.right

pub met_once : (certificate : Certificate) (equation : Equation) (j k : ℕ) → IsMetBy certificate.lemmas equation j
    → IsMetBy certificate.lemmas equation k → j ≡ k
met_once certificate equation j k one other =
    neither_less j k (λ less. other.first j one.lemma less one.is_lemma one.renamed)
    (λ less. one.first k other.lemma less other.is_lemma other.renamed)

pub met_not_open : (certificate : Certificate) (equation : Equation) (k : ℕ) → IsMetBy certificate.lemmas equation k
    → ¬ IsLeftOpen certificate.lemmas equation
met_not_open certificate equation k met open_ = open_ k met.lemma met.is_lemma met.renamed
