-- The walk over the code's behaviours finds no disagreement exactly where the plain behaviours have functionalities that agree.
use Rattle.std.proofs.Common.{◌≡◌, inl, inr, ℕ, zero, suc, List, [], ◌∷◌, ◌++◌, map, length, slice_get, None, Some, refl, ap, sym, ◌∙◌, subst}
use Rattle.lotos_base.specs.Equation as plain
use Rattle.lotos_base.specs.Signature.{Signature}
use Rattle.lotos_base.specs.Sorting.{HasSort}
use Rattle.lotos_base.specs.declared.places.Place.{Place}
use Rattle.sort_terms.specs.EquationView.{variable_of}
use Rattle.sort_terms.specs.ProfiledTerm.{IsOf}
use Rattle.sort_terms.specs.ProfiledTermLaws.{FittingTermsAreWellSorted}
use Rattle.sort_terms.specs.SortedView.{profiled_in, term_in}
use Rattle.sort_terms.specs.declared.equations.Variable.{Variable}
use Rattle.sort_terms.specs.declared.sorted.Sorted.{Sorted}
use Rattle.behaviour_semantics.specs.Behaviour as behaviour
use Rattle.behaviour_semantics.specs.Behaviour.{sorts_of, let_variables, asked_variables}
use Rattle.behaviour_semantics.specs.WellFormed.{Every, IsBehaviour, IsDefinition}
use Rattle.behaviour_semantics.proofs.EveryLemmas.{every_front, every_back}
use Rattle.behaviour_tree.specs.BehaviourTerms.{profiles_in, exit_profiles, joined, offer_profiles, option_profiles, test_profiles, let_profile}
use Rattle.behaviour_tree.specs.BehaviourView.{behaviour_of, exit_value_of, variables_of, offer_of, let_of}
use Rattle.behaviour_tree.specs.DefinitionView.{functionality_of, process_of, specification_of}
use Rattle.behaviour_tree.specs.Over.{AreTermsOf, IsSpecOver}
use Rattle.behaviour_tree.specs.declared.behaviours.Beh.{Beh, Stop, Exit, Action', Inner', Guard', Choice', Parallel', Hide', Enable', Disable', Let', ChooseValue', ChooseGate', ParGate', Call}
use Rattle.behaviour_tree.specs.declared.behaviours.ExitValue as written
use Rattle.behaviour_tree.specs.declared.behaviours.ExitValue.TheVariants as value
use Rattle.behaviour_tree.specs.declared.definitions.Process.{Process}
use Rattle.behaviour_tree.specs.declared.definitions.Spec.{Spec}
use Rattle.process_checks.specs.Functionality.{Functionality, Disagreement, value_sort, variable_sort, declared_by, of_either, of_both, functionality, at_sign, disagreements, at_definition, of_definition, of_processes, all_disagreements}
use Rattle.process_checks.specs.FunctionalityLaws.{SignsAgree, DefinitionsAgree}
use Rattle.session_laws.specs.HasFunctionality.{HaveExitSorts, EitherEnds, left_never, right_never, ends_alike, BothEnd, left_keeps, right_keeps, both_alike, HandsOver, never_over, over_with, HasFunctionality, of_stop, of_exit, of_action, of_inner, of_guard, of_choice, of_parallel, of_hide, of_enable, of_disable, of_let, of_value, of_gate, of_par, of_call, IsDeclaredOrNone, EndsWithin, AllAgree}
use Rattle.session_laws.specs.AgreementLaws.{NoDisagreementIsAgreement}

-- ---- Lists without members

front_none : {X : Type 0} (xs ys : List X) → xs ++ ys ≡ [] → xs ≡ []
front_none [] ys e = refl
front_none (x ∷ xs) ys e = cc

back_none : {X : Type 0} (xs ys : List X) → xs ++ ys ≡ [] → ys ≡ []
back_none [] ys e = e
back_none (x ∷ xs) ys e = cc

both_none : {X : Type 0} (xs ys : List X) → xs ≡ [] → ys ≡ [] → xs ++ ys ≡ []
both_none xs ys e d = ap (λ (zs : List _). zs ++ ys) e ∙ d

-- ---- Sorts

variable_sorts : (variables : List Variable) → sorts_of (variables_of variables) ≡ map variable_sort variables
variable_sorts [] = refl
variable_sorts (x ∷ variables) = ap (λ (ss : List ℕ). x.sort ∷ ss) (variable_sorts variables)

declared_plainly : (processes : List Process) (n : ℕ) (process : behaviour.Process) → slice_get (map process_of processes) n ≡ Some process
    → process.exit ≡ declared_by (slice_get processes n)
declared_plainly [] n process e = absurd (cc e)
declared_plainly (p ∷ processes) zero process e = let same : process_of p ≡ process = cc in ap (λ (q : behaviour.Process). q.exit)
    (sym same)
declared_plainly (p ∷ processes) (suc n) process e = declared_plainly processes n process e

-- ---- Signs

module _ (signs : SignsAgree) (place : Place) where
  lists_same : (ss ts : List ℕ) → at_sign place (Some ss) (Some ts) ≡ [] → ss ≡ ts
  lists_same ss ts e = (signs.agreed place (Some ss) (Some ts)).0 e ss ts refl refl

  either_there : (f g : Functionality) → at_sign place f g ≡ [] → EitherEnds f g (of_either f g)
  either_there None g e = left_never
  either_there (Some ss) None e = right_never
  either_there (Some ss) (Some ts) e =
      subst (λ (us : List ℕ). EitherEnds (Some ss) (Some us) (Some ss)) (lists_same ss ts e) ends_alike

  both_there : (f g : Functionality) → at_sign place f g ≡ [] → BothEnd f g (of_both f g)
  both_there None None e = left_keeps
  both_there None (Some ts) e = left_keeps
  both_there (Some ss) None e = right_keeps
  both_there (Some ss) (Some ts) e = subst (λ (us : List ℕ). BothEnd (Some ss) (Some us) (Some ss)) (lists_same ss ts e) both_alike

  over_there : (f : Functionality) (sorts : List ℕ) → at_sign place f (Some sorts) ≡ [] → HandsOver f sorts
  over_there None sorts e = never_over
  over_there (Some ss) sorts e = subst (λ (us : List ℕ). HandsOver (Some ss) us) (lists_same ss sorts e) over_with

  same_sign : (ss : List ℕ) → at_sign place (Some ss) (Some ss) ≡ []
  same_sign ss = (signs.agreed place (Some ss) (Some ss)).1
      (λ us vs e d. let one : ss ≡ us = cc in let other : ss ≡ vs = cc in sym one ∙ other)

  either_right : {f g h : Functionality} → EitherEnds f g h → (at_sign place f g ≡ []) × (of_either f g ≡ h)
  either_right left_never = (refl, refl)
  either_right right_never = (refl, refl)
  either_right (ends_alike {sorts = ss}) = (same_sign ss, refl)

  both_right : {f g h : Functionality} → BothEnd f g h → (at_sign place f g ≡ []) × (of_both f g ≡ h)
  both_right (left_keeps {right = None}) = (refl, refl)
  both_right (left_keeps {right = Some ts}) = (refl, refl)
  both_right right_keeps = (refl, refl)
  both_right (both_alike {sorts = ss}) = (same_sign ss, refl)

  over_right : {f : Functionality} {sorts : List ℕ} → HandsOver f sorts → at_sign place f (Some sorts) ≡ []
  over_right never_over = refl
  over_right (over_with {sorts = ss}) = same_sign ss

module _ (sorted : FittingTermsAreWellSorted) (signs : SignsAgree) (signature : Signature) (names : ℕ) (processes : List Process) where
  abbrev plain_processes : List behaviour.Process
  plain_processes = map process_of processes

  abbrev Has : Beh → Functionality → Type 0
  Has b f = HasFunctionality signature plain_processes (behaviour_of b) f

  abbrev Fine : List plain.Variable → Beh → Type 0
  Fine scope b = IsBehaviour signature names plain_processes scope (behaviour_of b)

  abbrev Terms : Beh → Type 0
  Terms b = AreTermsOf signature (profiles_in b)

  value_sorted : (t : Sorted) → IsOf signature (profiled_in t) → HasSort signature (term_in t) t.sort
  value_sorted t of = (sorted signature (profiled_in t) t.sort of).1 (t.fits, t.headed)

  exit_sorts : (values : List written.ExitValue) → AreTermsOf signature (joined (map exit_profiles values))
      → HaveExitSorts signature (map exit_value_of values) (map value_sort values)
  exit_sorts [] of = tt
  exit_sorts (value.Give t ∷ values) of = (value_sorted t of.0, exit_sorts values of.1)
  exit_sorts (value.Any s ∷ values) of = (refl, exit_sorts values of)

  one_exit : (values : List written.ExitValue) (sorts : List ℕ) → AreTermsOf signature (joined (map exit_profiles values))
      → HaveExitSorts signature (map exit_value_of values) sorts → map value_sort values ≡ sorts
  one_exit [] [] of has = refl
  one_exit [] (s ∷ sorts) of has = absurd has
  one_exit (value.Give t ∷ values) [] of has = absurd has
  one_exit (value.Any r ∷ values) [] of has = absurd has
  one_exit (value.Give t ∷ values) (s ∷ sorts) of has =
      ap (λ (n : ℕ). n ∷ map value_sort values) (sym t.headed ∙ ((sorted signature (profiled_in t) s of.0).0 has.0).1)
      ∙ ap (λ (ns : List ℕ). s ∷ ns) (one_exit values sorts of.1 has.1)
  one_exit (value.Any r ∷ values) (s ∷ sorts) of has =
      ap (λ (n : ℕ). n ∷ map value_sort values) has.0 ∙ ap (λ (ns : List ℕ). s ∷ ns) (one_exit values sorts of has.1)

  abbrev front : (b c : Beh) → AreTermsOf signature (profiles_in b ++ profiles_in c) → Terms b
  front b c of = every_front (IsOf signature) (profiles_in b) (profiles_in c) of

  abbrev back : (b c : Beh) → AreTermsOf signature (profiles_in b ++ profiles_in c) → Terms c
  back b c of = every_back (IsOf signature) (profiles_in b) (profiles_in c) of

  abbrev left_none : (b c : Beh) (zs : List Disagreement) → disagreements processes b ++ disagreements processes c ++ zs ≡ []
      → disagreements processes b ≡ []
  left_none b c zs e =
      front_none (disagreements processes b) (disagreements processes c)
      (front_none (disagreements processes b ++ disagreements processes c) zs e)

  abbrev right_none : (b c : Beh) (zs : List Disagreement) → disagreements processes b ++ disagreements processes c ++ zs ≡ []
      → disagreements processes c ≡ []
  right_none b c zs e =
      back_none (disagreements processes b) (disagreements processes c)
      (front_none (disagreements processes b ++ disagreements processes c) zs e)

  abbrev sign_none : (b c : Beh) (zs : List Disagreement) → disagreements processes b ++ disagreements processes c ++ zs ≡ [] → zs ≡ []
  sign_none b c zs e = back_none (disagreements processes b ++ disagreements processes c) zs e

  -- ---- What has no disagreement has a functionality

  pub agreed : (b : Beh) (scope : List plain.Variable) → Terms b → Fine scope b → disagreements processes b ≡ [] → Has b
      (functionality processes b)
  agreed Stop scope of fine e = of_stop
  agreed (Exit values) scope of fine e = of_exit (exit_sorts values.items of)
  agreed (Action' _ offers test _ next) scope of fine e =
      of_action (agreed next (asked_variables (map offer_of offers.items) ++ scope)
      (every_back (IsOf signature) (joined (map offer_profiles offers.items) ++ option_profiles test) (profiles_in next) of) fine.4 e)
  agreed (Inner' _ next) scope of fine e = of_inner (agreed next scope of fine e)
  agreed (Guard' test _ next) scope of fine e =
      of_guard (agreed next scope (every_back (IsOf signature) (test_profiles test) (profiles_in next) of) fine.1 e)
  agreed (Choice' place _ left _ right) scope of fine e =
      let sign : List Disagreement = at_sign place (functionality processes left) (functionality processes right) in
      of_choice (agreed left scope (front left right of) fine.0 (left_none left right sign e))
      (agreed right scope (back left right of) fine.1 (right_none left right sign e))
      (either_there signs place (functionality processes left) (functionality processes right) (sign_none left right sign e))
  agreed (Parallel' place _ _ left _ right) scope of fine e =
      let sign : List Disagreement = at_sign place (functionality processes left) (functionality processes right) in
      of_parallel (agreed left scope (front left right of) fine.1 (left_none left right sign e))
      (agreed right scope (back left right of) fine.2 (right_none left right sign e))
      (both_there signs place (functionality processes left) (functionality processes right) (sign_none left right sign e))
  agreed (Hide' _ _ next) scope of fine e = of_hide (agreed next scope of fine.1 e)
  agreed (Enable' place _ left variables _ right) scope of fine e =
      let sign : List Disagreement = at_sign place (functionality processes left) (Some (map variable_sort variables.items)) in
      of_enable (agreed left scope (front left right of) fine.0 (left_none left right sign e))
      (subst (HandsOver (functionality processes left)) (sym (variable_sorts variables.items))
      (over_there signs place (functionality processes left) (map variable_sort variables.items) (sign_none left right sign e)))
      (agreed right (variables_of variables.items ++ scope) (back left right of) fine.2 (right_none left right sign e))
  agreed (Disable' place _ left _ right) scope of fine e =
      let sign : List Disagreement = at_sign place (functionality processes left) (functionality processes right) in
      of_disable (agreed left scope (front left right of) fine.0 (left_none left right sign e))
      (agreed right scope (back left right of) fine.1 (right_none left right sign e))
      (either_there signs place (functionality processes left) (functionality processes right) (sign_none left right sign e))
  agreed (Let' bindings _ next) scope of fine e =
      of_let (agreed next (let_variables (map let_of bindings.items) ++ scope)
      (every_back (IsOf signature) (map let_profile bindings.items) (profiles_in next) of) fine.2 e)
  agreed (ChooseValue' variable _ next) scope of fine e = of_value (agreed next (variable_of variable ∷ scope) of fine.1 e)
  agreed (ChooseGate' _ _ _ next) scope of fine e = of_gate (agreed next scope of fine.2 e)
  agreed (ParGate' _ _ _ _ next) scope of fine e = of_par (agreed next scope of fine.4 e)
  agreed (Call _ process _ _) scope of fine e = of_call fine.1.process fine.1.exists
      (declared_plainly processes process fine.1.process fine.1.exists)

  -- ---- And the other way round

  abbrev Agreed : Beh → Functionality → Type 0
  Agreed b f = (disagreements processes b ≡ []) × (functionality processes b ≡ f)

  two_sides : (b c : Beh) (zs : List Disagreement) → disagreements processes b ≡ [] → disagreements processes c ≡ [] → zs ≡ []
      → disagreements processes b ++ disagreements processes c ++ zs ≡ []
  two_sides b c zs one other sign =
      both_none (disagreements processes b ++ disagreements processes c) zs
      (both_none (disagreements processes b) (disagreements processes c) one other) sign

  at_either : (place : Place) (f g l r h : Functionality) → f ≡ l → g ≡ r → EitherEnds l r h → (at_sign place f g ≡ []) ×
      (of_either f g ≡ h)
  at_either place f g l r h one other ends =
      let is = either_right signs place ends in (
        ap (λ (x : Functionality). at_sign place x g) one ∙ ap (at_sign place l) other ∙ is.0,
        ap (λ (x : Functionality). of_either x g) one ∙ ap (of_either l) other ∙ is.1,
      )

  at_both : (place : Place) (f g l r h : Functionality) → f ≡ l → g ≡ r → BothEnd l r h → (at_sign place f g ≡ []) × (of_both f g ≡ h)
  at_both place f g l r h one other ends =
      let is = both_right signs place ends in (
        ap (λ (x : Functionality). at_sign place x g) one ∙ ap (at_sign place l) other ∙ is.0,
        ap (λ (x : Functionality). of_both x g) one ∙ ap (of_both l) other ∙ is.1,
      )

  pub without_any : (b : Beh) (f : Functionality) → Terms b → Has b f → Agreed b f
  without_any Stop _ of of_stop = (refl, refl)
  without_any (Exit values) _ of (of_exit {sorts = sorts} has) =
      (refl, ap (λ (ss : List ℕ). Some ss) (one_exit values.items sorts of has))
  without_any (Action' _ offers test _ next) f of (of_action has) =
      without_any next f (every_back (IsOf signature) (joined (map offer_profiles offers.items) ++ option_profiles test)
      (profiles_in next) of) has
  without_any (Inner' _ next) f of (of_inner has) = without_any next f of has
  without_any (Guard' test _ next) f of (of_guard has) =
      without_any next f (every_back (IsOf signature) (test_profiles test) (profiles_in next) of) has
  without_any (Choice' place _ left _ right) f of (of_choice {left = l} {right = r} has too ends) =
      let one = without_any left l (front left right of) has in
      let other = without_any right r (back left right of) too in
      let sign = at_either place (functionality processes left) (functionality processes right) l r f one.1 other.1 ends in
      (two_sides left right (at_sign place (functionality processes left) (functionality processes right)) one.0 other.0 sign.0, sign.1)
  without_any (Parallel' place _ _ left _ right) f of (of_parallel {left = l} {right = r} has too ends) =
      let one = without_any left l (front left right of) has in
      let other = without_any right r (back left right of) too in
      let sign = at_both place (functionality processes left) (functionality processes right) l r f one.1 other.1 ends in
      (two_sides left right (at_sign place (functionality processes left) (functionality processes right)) one.0 other.0 sign.0, sign.1)
  without_any (Hide' _ _ next) f of (of_hide has) = without_any next f of has
  without_any (Enable' place _ left variables _ right) f of (of_enable {left = l} has over too) =
      let one = without_any left l (front left right of) has in
      let other = without_any right f (back left right of) too in
      let sign : at_sign place (functionality processes left) (Some (map variable_sort variables.items)) ≡ [] =
      ap (λ (x : Functionality). at_sign place x (Some (map variable_sort variables.items))) one.1
      ∙ over_right signs place (subst (HandsOver l) (variable_sorts variables.items) over) in (
        two_sides left right (at_sign place (functionality processes left)
            (Some (map variable_sort variables.items))) one.0 other.0 sign,
        other.1,
      )
  without_any (Disable' place _ left _ right) f of (of_disable {left = l} {right = r} has too ends) =
      let one = without_any left l (front left right of) has in
      let other = without_any right r (back left right of) too in
      let sign = at_either place (functionality processes left) (functionality processes right) l r f one.1 other.1 ends in
      (two_sides left right (at_sign place (functionality processes left) (functionality processes right)) one.0 other.0 sign.0, sign.1)
  without_any (Let' bindings _ next) f of (of_let has) =
      without_any next f (every_back (IsOf signature) (map let_profile bindings.items) (profiles_in next) of) has
  without_any (ChooseValue' _ _ next) f of (of_value has) = without_any next f of has
  without_any (ChooseGate' _ _ _ next) f of (of_gate has) = without_any next f of has
  without_any (ParGate' _ _ _ _ next) f of (of_par has) = without_any next f of has
  without_any (Call _ number _ _) f of (of_call process there is) = (refl, sym (declared_plainly processes number process there) ∙ is)

  -- ---- Definitions

  module _ (definitions : DefinitionsAgree) where
    abbrev Bounded : Beh → Functionality → Type 0
    Bounded b declared = EndsWithin signature plain_processes (behaviour_of b) declared

    within_from : (place : Place) (f declared : Functionality) → at_definition place f declared ≡ [] → IsDeclaredOrNone f declared
    within_from place None declared e = inl refl
    within_from place (Some ss) declared e = inr (sym ((definitions place (Some ss) declared).0 e ss refl))

    within_to : (place : Place) (f declared : Functionality) → IsDeclaredOrNone f declared → at_definition place f declared ≡ []
    within_to place f declared (inl none) =
        (definitions place f declared).1 (λ ss some. let never : None ≡ Some ss = sym none ∙ some in absurd (cc never))
    within_to place f declared (inr same) = (definitions place f declared).1 (λ ss some. sym same ∙ some)

    definition_from : (place : Place) (body : Beh) (declared : Functionality) (scope : List plain.Variable) → Terms body → Fine scope body
        → of_definition processes place body declared ≡ [] → Bounded body declared
    definition_from place body declared scope of fine e = record {
      found = functionality processes body;
      has =
          agreed body scope of fine
          (front_none (disagreements processes body) (at_definition place (functionality processes body) declared) e);
      within =
          within_from place (functionality processes body) declared
          (back_none (disagreements processes body) (at_definition place (functionality processes body) declared) e);
    }

    definition_to : (place : Place) (body : Beh) (declared : Functionality) → Terms body → Bounded body declared
        → of_definition processes place body declared ≡ []
    definition_to place body declared of is =
        let there = without_any body is.found of is.has in
        both_none (disagreements processes body) (at_definition place (functionality processes body) declared) there.0
        (within_to place (functionality processes body) declared
        (subst (λ (f : Functionality). IsDeclaredOrNone f declared) (sym there.1) is.within))

    abbrev Bodies : List Process → Type 0
    Bodies some = Every (λ (p : Process). AreTermsOf signature (profiles_in p.body)) some

    abbrev Ended : behaviour.Process → Type 0
    Ended p = EndsWithin signature plain_processes p.body p.exit

    abbrev Defined : behaviour.Process → Type 0
    Defined p = IsDefinition signature names plain_processes p.gates p.parameters p.exit p.body

    processes_from : (some : List Process) → Bodies some → Every Defined (map process_of some) → of_processes processes some ≡ []
        → Every Ended (map process_of some)
    processes_from [] of fine e = tt
    processes_from (p ∷ some) of fine e = (
      definition_from p.place p.body (functionality_of p.exit) (variables_of p.parameters.items) of.0 fine.0.behaviour
          (front_none (of_definition processes p.place p.body (functionality_of p.exit)) (of_processes processes some) e),
      processes_from some of.1 fine.1
          (back_none (of_definition processes p.place p.body (functionality_of p.exit)) (of_processes processes some) e),
    )

    processes_to : (some : List Process) → Bodies some → Every Ended (map process_of some) → of_processes processes some ≡ []
    processes_to [] of is = refl
    processes_to (p ∷ some) of is =
        both_none (of_definition processes p.place p.body (functionality_of p.exit)) (of_processes processes some)
        (definition_to p.place p.body (functionality_of p.exit) of.0 is.0) (processes_to some of.1 is.1)

module _ (sorted : FittingTermsAreWellSorted) (signs : SignsAgree) (definitions : DefinitionsAgree) (signature : Signature) (spec : Spec)
    (over : IsSpecOver signature spec) where
  abbrev count : ℕ
  count = length (specification_of spec).gate_names

  abbrev whole_list : List Disagreement
  whole_list = of_definition spec.processes.items spec.place spec.body.value (functionality_of spec.exit)

  whole_from : all_disagreements spec ≡ [] → AllAgree signature (specification_of spec)
  whole_from e = record {
    whole =
        definition_from sorted signs signature count spec.processes.items definitions spec.place spec.body.value
        (functionality_of spec.exit)
        (variables_of spec.parameters.items) over.body over.well_formed.whole.behaviour
        (front_none whole_list (of_processes spec.processes.items spec.processes.items) e);
    each =
        processes_from sorted signs signature count spec.processes.items definitions spec.processes.items over.bodies over.well_formed.each
        (back_none whole_list (of_processes spec.processes.items spec.processes.items) e);
  }

  whole_to : AllAgree signature (specification_of spec) → all_disagreements spec ≡ []
  whole_to is =
      both_none whole_list (of_processes spec.processes.items spec.processes.items)
      (definition_to sorted signs signature count spec.processes.items definitions spec.place spec.body.value (functionality_of spec.exit)
      over.body is.whole)
      (processes_to sorted signs signature count spec.processes.items definitions spec.processes.items over.bodies is.each)

pub no_disagreement : FittingTermsAreWellSorted → SignsAgree → DefinitionsAgree → NoDisagreementIsAgreement
no_disagreement sorted signs definitions = record {
  signs = λ signature names processes scope b over. (
    λ e. (functionality processes b, agreed sorted signs signature names processes b scope over.terms over.fine e),
    λ has. (without_any sorted signs signature names processes b has.0 over.terms has.1).0,
  );
  found = λ signature names processes scope b f over has. (without_any sorted signs signature names processes b f over.terms has).1;
  whole = λ signature spec over. (
    whole_from sorted signs definitions signature spec over,
    whole_to sorted signs definitions signature spec over,
  );
}
