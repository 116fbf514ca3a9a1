-- What was accepted has one session to begin.
use Rattle.std.proofs.Common.{◌≡◌, ℕ, List, ap, sym, ◌∙◌, subst, map, length}
use Rattle.lotos_base.specs.Equation.{IsWellFormedData}
use Rattle.lotos_base.specs.Term.{Term}
use Rattle.rewriting_theory.specs.Rule.{Rule, AreWellFormedRules}
use Rattle.rewriting_theory.specs.ChosenForm.{Chooses}
use Rattle.rewriting_theory.proofs.ChosenLemmas.{chosen_one}
use Rattle.rewriting_theory.specs.Precedence.{Precedence}
use Rattle.rewriting_theory.specs.Orientation.{NumberedRule, rules_of}
use Rattle.rewriting_theory.proofs.OrientationLemmas.{orientation_well_formed}
use Rattle.type_definitions.specs.DeclaredTypes.{types_of}
use Rattle.behaviour_semantics.specs.Replacement.{with_values, binding_of}
use Rattle.session_histories.specs.Session.{SessionBasis, Progress}
use Rattle.session_histories.specs.Lawful.{IsSituation}
use Rattle.session_histories.proofs.StepLemmas.{one_situation}
use Rattle.lotos_top.proofs.HandedOn.{over_once, statuses_once, data_within, greater_also, AreAlike, rules_once}
use Rattle.lotos_top.specs.HandedOn.{Beginning, Acceptance, DataAreWellFormed, AreNormalForms}
use Rattle.lotos_top.specs.Opening.{SessionBegins}
use Rattle.session_laws.specs.OneBeginning.{SessionsBeginOnce}
use Rattle.session_laws.proofs.AcceptedParts.{StandsOn, accepted_on}

-- ---- Normal forms

-- one function gives the chosen forms
chosen_once : (rules : List Rule) (canon other : Term → Term) → AreWellFormedRules rules → Chooses rules canon → Chooses rules other
    → canon ≡ other
chosen_once rules canon other well is also = λ i t. chosen_one well (is t) (also t) i

canon_once : (acceptance : Acceptance) (canon other : Term → Term) → IsWellFormedData acceptance.data_ → AreNormalForms acceptance canon
    → AreNormalForms acceptance other → canon ≡ other
canon_once acceptance canon other well is also =
    let count : ℕ = length acceptance.data_.signature.operations in
    let p : Precedence = is.0 in
    let q : Precedence = also.0 in
    let one = is.2.ordered in
    let two = also.2.ordered in
    let alike : AreAlike count p q = record {
      there =
          greater_also count p q (over_once acceptance.data_.signature acceptance.items p q one two)
          (statuses_once acceptance.data_.signature acceptance.items p q one two);
      back =
          greater_also count q p (over_once acceptance.data_.signature acceptance.items q p two one)
          (statuses_once acceptance.data_.signature acceptance.items q p two one);
    } in
    let same : is.1 ≡ also.1 =
    rules_once count p q alike acceptance.data_ is.1 also.1 (data_within acceptance.data_ well) is.2.joined.0 also.2.joined.0 in
    chosen_once (rules_of also.1) canon other (orientation_well_formed q acceptance.data_ also.1 also.2.joined.0)
    (subst (λ (rules : List NumberedRule). Chooses (rules_of rules) canon) same is.3) also.3

-- ---- The beginning

basis_once : (one other : SessionBasis) → one.data_ ≡ other.data_ → one.canon ≡ other.canon → one.specification ≡ other.specification
    → one ≡ other
basis_once one other data_ canon spec = λ i. record { data_ = data_ i; canon = canon i; specification = spec i }

progress_once : (one other : Progress) → one.situation ≡ other.situation → one.steps ≡ other.steps → one ≡ other
progress_once one other situation steps = λ i. record { situation = situation i; steps = steps i }

module _ (acceptance : Acceptance) (well : IsWellFormedData acceptance.data_) (one other : Beginning)
    (is : SessionBegins acceptance one) (also : SessionBegins acceptance other) where
  same_canon : one.basis.canon ≡ other.basis.canon
  same_canon = canon_once acceptance one.basis.canon other.basis.canon well is.canonical also.canonical

  same_basis : one.basis ≡ other.basis
  same_basis =
      basis_once one.basis other.basis (is.data_is ∙ sym also.data_is) same_canon (is.specification_is ∙ sym also.specification_is)

  same_state : one.progress.situation.state ≡ other.progress.situation.state
  same_state =
      is.state_is
      ∙ ap (λ (canon : Term → Term). with_values (binding_of acceptance.spec.parameters (map canon acceptance.values)) acceptance.spec.body)
      same_canon
      ∙ sym also.state_is

  same_situation : one.progress.situation ≡ other.progress.situation
  same_situation =
      one_situation other.basis one.progress.situation other.progress.situation same_state
      (subst (λ (basis : SessionBasis). IsSituation basis one.progress.situation) same_basis is.can_begin.menu_is)
      also.can_begin.menu_is

  begun_once : one ≡ other
  begun_once =
      let steps : one.progress.steps ≡ other.progress.steps = is.can_begin.at_start ∙ sym also.can_begin.at_start in
      let progress : one.progress ≡ other.progress = progress_once one.progress other.progress same_situation steps in
      let basis = same_basis in
      (λ i. record { basis = basis i; progress = progress i })

pub sessions_begin_once : DataAreWellFormed → SessionsBeginOnce
sessions_begin_once wells asked files acceptance one other accepted is also =
    let on : StandsOn acceptance.data_ acceptance.spec = accepted_on asked files acceptance accepted in
    begun_once acceptance (wells (types_of on.gathered.types) acceptance.data_ on.has_data) one other is also
