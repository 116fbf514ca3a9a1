-- Variables that stand for themselves, as the tests of the code tell them, and loops over pairs.
use Rattle.std.proofs.Common.{◌≡◌, ◌<◌, ◌≤◌, ◌+◌, ℕ, zero, suc, List, [], ◌∷◌, ◌++◌, true, false, nat_eq, length, take, take_all, get_or, refl, ap, sym, ◌∙◌, subst, Global}
use Rattle.std.specs.Prelude.{◌↔◌, IsTrue}
use Rattle.std.specs.declared.rc.Rc.{Rc}
use Rattle.std.proofs.lemmas.Bool.Decides.{Decides-eqb}
use Rattle.std.proofs.lemmas.List.{take_more}
use Rattle.std.proofs.lemmas.Option.{slice_get_read}
use Rattle.lotos_base.proofs.Each.{Each, each_member, each_join}
use Rattle.sort_terms.specs.Operations.{operation_of}
use Rattle.sort_terms.specs.ProfiledTerm.{ProfiledTerms, profiled_variable, profiled_node}
use Rattle.sort_terms.specs.TermView.{profiled_of}
use Rattle.sort_terms.specs.declared.operations.Op.{Op}
use Rattle.sort_terms.specs.declared.terms.Term.{Term}
use Rattle.sort_terms.specs.declared.terms.Term.TheVariants.{Var, Node}
use Rattle.sort_terms.proofs.BuiltLists.{profiled_Node, profiled_Var}
use Rattle.certificate_theory.proofs.CertificateTests.{stands}
use Rattle.certificate_theory.proofs.TestedLines.{stands_decided}
use Rattle.certificate_theory.specs.InductionCertificate.{Source}
use Rattle.certificate_theory.specs.Splits.{Proving}
use Rattle.certificate_theory.specs.Uses.{StandsForItself}
use Rattle.induct_parts.proofs.CoverFacts.{says_no, says_yes}

-- ---- what holds of each member up to an index

pub each_take_more : {A : Type 0} (P : A → Type 0) (xs : List A) (n : ℕ) (x : A) → n < length xs → x ≡ get_or xs n x → P x
    → Each P (take n xs) → Each P (take (n + 1) xs)
each_take_more {A = A} P xs n x within is h each =
    subst (Each P) (sym (take_more xs n x within ∙ ap (λ (y : A). take n xs ++ y ∷ []) (sym is)))
    (each_join P (take n xs) (x ∷ []) each (h, tt))

pub each_take : {A : Type 0} (P : A → Type 0) (xs : List A) (n : ℕ) → Each P xs → Each P (take n xs)
each_take P [] zero each = tt
each_take P [] (suc n) each = tt
each_take P (x ∷ xs) zero each = tt
each_take P (x ∷ xs) (suc n) each = (each.0, each_take P xs n each.1)

pub each_take_all : {A : Type 0} (P : A → Type 0) (xs : List A) (n : ℕ) → length xs ≤ n → Each P (take n xs) → Each P xs
each_take_all P xs n past each = subst (Each P) (take_all n xs past) each

pub each_fails : {A : Type 0} (P : A → Type 0) (xs : List A) (n : ℕ) (x : A) → n < length xs → x ≡ get_or xs n x → ¬ P x → ¬ Each P xs
each_fails P xs n x within is never each = never (each_member P xs n x each (slice_get_read xs (length xs) n x refl within is))

-- ---- a variable that stands for itself

-- Where the variable stands for itself, the term is it.
abbrev pub IsItself : Proving → Source → ℕ → Term → Type 0
IsItself proving source number term =
    StandsForItself proving source number → (s : ℕ) × (profiled_of term ≡ profiled_variable number s)

pub stands_not : (proving : Proving) (source : Source) (number : ℕ) (term : Term) → stands proving source number ≡ false
    → IsTrue true ↔ IsItself proving source number term
stands_not proving source number term none =
    says_yes (λ itself.
    let clash : true ≡ false = sym ((stands_decided proving source number).1 itself) ∙ none in
    absurd (cc clash))

pub variable_stands_right : (proving : Proving) (source : Source) (number : ℕ) (term : Term) (other s : ℕ)
    → stands proving source number ≡ true → term ≡ Var other s → IsTrue (nat_eq other number) ↔ IsItself proving source number term
variable_stands_right proving source number term other s stands_ is = (
  (λ e itself. (
    s,
    ap (λ (t : Term). profiled_of t) is
        ∙ (profiled_Var other s ∙ ap (λ (k : ℕ). profiled_variable k s) ((Decides-eqb other number).0 e)),
  )),
  (λ h.
      let has = h ((stands_decided proving source number).0 stands_) in
      let same : profiled_variable other s ≡ profiled_variable number has.0 =
      sym (ap (λ (t : Term). profiled_of t) is ∙ profiled_Var other s) ∙ has.1 in
      let number_same : other ≡ number = cc same in
      (Decides-eqb other number).1 number_same),
)

pub node_stands_wrong : (proving : Proving) (source : Source) (number : ℕ) (term : Term) (f : ℕ) (profile : Rc Op Global)
    (arguments : ProfiledTerms) → stands proving source number ≡ true → term ≡ Node f profile arguments
    → IsTrue false ↔ IsItself proving source number term
node_stands_wrong proving source number term f profile arguments stands_ is =
    says_no (λ h.
    let has = h ((stands_decided proving source number).0 stands_) in
    let clash : profiled_node f (operation_of profile.value) arguments ≡ profiled_variable number has.0 =
    sym (ap (λ (t : Term). profiled_of t) is ∙ profiled_Node f profile arguments) ∙ has.1 in
    cc clash)
