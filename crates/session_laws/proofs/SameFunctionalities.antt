-- The functionalities of same specifications over same data agree in both or in neither.
use Rattle.std.proofs.Common.{◌≡◌, ℕ, List, [], ◌∷◌, Option, sym, ◌∙◌, subst}
use Rattle.std.specs.Prelude.{slice_get}
use Rattle.lotos_base.specs.Signature.{Signature}
use Rattle.lotos_base.specs.Equation.{Data}
use Rattle.behaviour_semantics.specs.Behaviour.{Behaviour, ExitValue, exit_value, any_of, Process, Specification}
use Rattle.behaviour_semantics.specs.WellFormed.{Every}
use Rattle.behaviour_tree.specs.DefinitionView.{specification_of}
use Rattle.behaviour_tree.specs.Over.{IsSpecOver}
use Rattle.behaviour_tree.specs.declared.definitions.Spec.{Spec}
use Rattle.certificate_theory.specs.SameData.{AreSameData}
use Rattle.certificate_theory.proofs.SameSignatures.{AgreeSignatures, has_sort}
use Rattle.certificate_theory.proofs.InterchangeableData.{signatures_agree}
use Rattle.session_laws.specs.HasFunctionality.{HaveExitSorts, HasFunctionality, of_stop, of_exit, of_action, of_inner, of_guard, of_choice, of_parallel, of_hide, of_enable, of_disable, of_let, of_value, of_gate, of_par, of_call, of_relabel, EndsWithin, AllAgree}
use Rattle.declaration_laws.specs.SameSpecification.{AreOneProcess, AreSameProcesses, AreSameSpecifications}
use Rattle.session_laws.specs.AgreementLaws.{NoDisagreementIsAgreement}
use Rattle.process_checks.specs.Functionality.{all_disagreements}
use Rattle.session_laws.proofs.SamePlaces.{like, processes_found}

module _ (signature other : Signature) (same : AgreeSignatures signature other) (processes others : List Process)
    (alike : AreSameProcesses processes others) where
  exits_over : (results : List ExitValue) (sorts : List ℕ) → HaveExitSorts signature results sorts → HaveExitSorts other results sorts
  exits_over [] [] have = tt
  exits_over (exit_value t ∷ results) (s ∷ sorts) have = (has_sort signature other same t s have.0, exits_over results sorts have.1)
  exits_over (any_of r ∷ results) (s ∷ sorts) have = (have.0, exits_over results sorts have.1)
  exits_over [] (s ∷ sorts) have = absurd have
  exits_over (exit_value t ∷ results) [] have = absurd have
  exits_over (any_of r ∷ results) [] have = absurd have

  functionality_over : {b : Behaviour} {f : Option (List ℕ)} → HasFunctionality signature processes b f
      → HasFunctionality other others b f
  functionality_over of_stop = of_stop
  functionality_over (of_exit {results = results} {sorts = sorts} have) = of_exit (exits_over results sorts have)
  functionality_over (of_action h) = of_action (functionality_over h)
  functionality_over (of_inner h) = of_inner (functionality_over h)
  functionality_over (of_guard h) = of_guard (functionality_over h)
  functionality_over (of_choice h k ends) = of_choice (functionality_over h) (functionality_over k) ends
  functionality_over (of_parallel h k ends) = of_parallel (functionality_over h) (functionality_over k) ends
  functionality_over (of_hide h) = of_hide (functionality_over h)
  functionality_over (of_enable h hands k) = of_enable (functionality_over h) hands (functionality_over k)
  functionality_over (of_disable h k ends) = of_disable (functionality_over h) (functionality_over k) ends
  functionality_over (of_let h) = of_let (functionality_over h)
  functionality_over (of_value h) = of_value (functionality_over h)
  functionality_over (of_gate h) = of_gate (functionality_over h)
  functionality_over (of_par h) = of_par (functionality_over h)
  functionality_over (of_call {number = number} process at declares) =
      let one = like AreOneProcess (slice_get processes number) (slice_get others number)
      (processes_found processes others alike number) process at in
      of_call one.0 one.1 (sym one.2.exit ∙ declares)
  functionality_over (of_relabel h) = of_relabel (functionality_over h)

  ends_over : (b c : Behaviour) (declared wanted : Option (List ℕ)) → b ≡ c → declared ≡ wanted
      → EndsWithin signature processes b declared → EndsWithin other others c wanted
  ends_over b c declared wanted body exit ends =
      subst (λ (f : Option (List ℕ)). EndsWithin other others c f) exit
      (subst (λ (d : Behaviour). EndsWithin other others d declared) body
      (record { found = ends.found; has = functionality_over ends.has; within = ends.within }))

  each_over : (ps qs : List Process) → AreSameProcesses ps qs
      → Every (λ (p : Process). EndsWithin signature processes p.body p.exit) ps
      → Every (λ (q : Process). EndsWithin other others q.body q.exit) qs
  each_over [] [] are every = tt
  each_over (p ∷ ps) (q ∷ qs) are every =
      (ends_over p.body q.body p.exit q.exit are.0.body are.0.exit every.0, each_over ps qs are.1 every.1)
  each_over [] (q ∷ qs) are every = absurd are
  each_over (p ∷ ps) [] are every = absurd are

pub agree_over : (data_ other : Data) (one second : Specification) → AreSameData data_ other → AreSameSpecifications one second
    → AllAgree data_.signature one → AllAgree other.signature second
agree_over data_ other one second same alike agree =
    let signatures : AgreeSignatures data_.signature other.signature = signatures_agree data_ other same in
    record {
      whole = ends_over data_.signature other.signature signatures one.processes second.processes alike.processes one.body second.body
          one.exit second.exit alike.body alike.exit agree.whole;
      each = each_over data_.signature other.signature signatures one.processes second.processes alike.processes one.processes
          second.processes alike.processes agree.each;
    }

pub disagreements_over : NoDisagreementIsAgreement → (data_ other : Data) (one second : Spec) → AreSameData data_ other
    → AreSameSpecifications (specification_of one) (specification_of second) → IsSpecOver data_.signature one
    → IsSpecOver other.signature second → all_disagreements one ≡ [] → all_disagreements second ≡ []
disagreements_over laws data_ other one second same alike over also none =
    (laws.whole other.signature second also).1
    (agree_over data_ other (specification_of one) (specification_of second) same alike ((laws.whole data_.signature one over).0 none))
