-- Words are the same start values over same data, or are refused for the same.
use Rattle.std.proofs.Common.{inl, inr, ℕ, List, [], ◌∷◌, Some}
use Rattle.lotos_base.specs.Signature.{Signature}
use Rattle.lotos_base.specs.Equation.{Data}
use Rattle.lotos_base.specs.Term.{Term}
use Rattle.sort_terms.specs.ReadingOutcome.{answered, refused}
use Rattle.lotos_top.specs.HandedOn.{Refusal, WordTerm, HaveValues, HaveTermFault, AreStartValues, IsStartFault, misread, miscounted, misfitting}
use Rattle.certificate_theory.specs.SameData.{AreSameData}
use Rattle.certificate_theory.proofs.SameSignatures.{AgreeSignatures}
use Rattle.certificate_theory.proofs.InterchangeableData.{signatures_agree}
use Rattle.declaration_laws.proofs.SameReadings.{reading_too}
use Rattle.session_laws.specs.SameChecksLaws.{start_over}

values_over : (signature other : Signature) → AgreeSignatures signature other → (sorts : List ℕ) (terms : List WordTerm)
    (values : List Term) → HaveValues signature sorts terms values → HaveValues other sorts terms values
values_over signature other same [] [] [] have = tt
values_over signature other same (sort ∷ sorts) (given ∷ terms) (value ∷ values) have = (
  reading_too signature other same [] given.term (Some sort) (answered (record { term = value; sort = sort })) have.0,
  values_over signature other same sorts terms values have.1,
)
values_over signature other same [] [] (value ∷ values) have = absurd have
values_over signature other same [] (given ∷ terms) values have = absurd have
values_over signature other same (sort ∷ sorts) [] values have = absurd have
values_over signature other same (sort ∷ sorts) (given ∷ terms) [] have = absurd have

pub starts_over : (data_ other : Data) (sorts : List ℕ) (words : List (List ℕ)) (values : List Term) → AreSameData data_ other
    → AreStartValues (start_over data_ sorts words) values → AreStartValues (start_over other sorts words) values
starts_over data_ other sorts words values same are = record {
  terms = are.terms;
  read = are.read;
  valued = values_over data_.signature other.signature (signatures_agree data_ other same) sorts are.terms values are.valued;
}

term_fault_over : (signature other : Signature) → AgreeSignatures signature other → (sorts : List ℕ) (terms : List WordTerm)
    (refusal : Refusal) → HaveTermFault signature sorts terms refusal → HaveTermFault other sorts terms refusal
term_fault_over signature other same (sort ∷ sorts) (given ∷ terms) refusal (inl fault) =
    inl (fault.0, reading_too signature other same [] given.term (Some sort) (refused fault.0) fault.1, fault.2)
term_fault_over signature other same (sort ∷ sorts) (given ∷ terms) refusal (inr later) = inr (
  later.0,
  reading_too signature other same [] given.term (Some sort) (answered (record { term = later.0; sort = sort })) later.1,
  term_fault_over signature other same sorts terms refusal later.2,
)
term_fault_over signature other same [] terms refusal fault = absurd fault
term_fault_over signature other same (sort ∷ sorts) [] refusal fault = absurd fault

pub start_fault_over : (data_ other : Data) (sorts : List ℕ) (words : List (List ℕ)) (refusal : Refusal) → AreSameData data_ other
    → IsStartFault (start_over data_ sorts words) refusal → IsStartFault (start_over other sorts words) refusal
start_fault_over data_ other sorts words refusal same (misread is) = misread is
start_fault_over data_ other sorts words refusal same (miscounted terms read differ told) = miscounted terms read differ told
start_fault_over data_ other sorts words refusal same (misfitting terms read many fault) =
    misfitting terms read many
    (term_fault_over data_.signature other.signature (signatures_agree data_ other same) sorts terms refusal fault)
