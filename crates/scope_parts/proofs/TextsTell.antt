-- Definitions and texts tell the first of their faults.
use Rattle.std.proofs.Common.{◌≡◌, ℕ, suc, List, [], ◌∷◌, ◌++◌, Bool, true, false, inl, inr, refl, ap, sym, ◌∙◌}
use Rattle.std.specs.Prelude.{◌⊎◌, Option, None, Some, if◌then◌else◌}
use Rattle.scope_parts.proofs.FormedLists.{never_faulty, same_resolved}
use Rattle.lotos_base.specs.Equation.{Variable}
use Rattle.lotos_base.specs.Signature.{Signature}
use Rattle.lotos_base.specs.WrittenTerm.{PlacedName}
use Rattle.syntax_trees.specs.WrittenBehaviour.{WrittenBehaviour}
use Rattle.syntax_trees.specs.WrittenDefinition.{WrittenHeading, WrittenInner, WrittenInners, inner_item, process, no_inner, inner_then, inners_of, WrittenSpecification}
use Rattle.behaviour_semantics.specs.Behaviour.{Behaviour, Process}
use Rattle.scope_parts.specs.ScopeFault.{ScopeFault, fault_place, double_name}
use Rattle.scope_parts.specs.Resolution.{Resolution, resolved, faulty, and_then, Is}
use Rattle.scope_parts.specs.Scope.{Callable, Binding, is_bound}
use Rattle.scope_parts.specs.Numbering.{Numbers, past_heading, past_own, past_inner}
use Rattle.scope_parts.specs.Sorts.{sorts_at, variables_at, functionality_at}
use Rattle.scope_parts.specs.Behaviours.{numbers_from}
use Rattle.scope_parts.specs.Definitions.{Heading, process_with, specification_with, formal_gates, heading_at, DefinitionIs, callables, new_process, with_name, past_name, InnerIs, InnersAre, first_numbers, SpecificationIs}
use Rattle.scope_parts.proofs.OnceLemmas.{is_once}
use Rattle.scope_parts.specs.Order.{Rising}
use Rattle.scope_parts.specs.TermPlaces.{name_places}
use Rattle.scope_parts.specs.PartFaults.{Doubled}
use Rattle.scope_parts.specs.PartPlaces.{variable_places}
use Rattle.scope_parts.specs.BehaviourPlaces.{behaviour_places}
use Rattle.scope_parts.specs.TextFaults.{FunctionalityHas, HeadingHas, body_scope, DefinitionHas, NameHas, InnerHas, InnersHave, TextHasFault}
use Rattle.scope_parts.specs.TextOrder.{functionality_places, heading_places, HeadingFollows, definition_places, DefinitionFollows, inner_places, inners_places, InnerFollows, InnersFollow, PlacesRise}
use Rattle.scope_parts.specs.FirstFault.{TellsFirstFault}
use Rattle.scope_parts.proofs.OrderLemmas.{same_not_after, before_both}
use Rattle.scope_parts.proofs.TellsLemmas.{apart, answers_within, done_tells, tells_these, then_tells, seeing_tells, made_tells, and_then_tells, value_tells, same_fault}
use Rattle.scope_parts.proofs.DoubledLemmas.{doubled_within, beside_is_tells}
use Rattle.scope_parts.proofs.PartsWithin.{variables_within}
use Rattle.scope_parts.proofs.BehavioursWithin.{both_within, seeing_within, BehindHeading, behaviour_within, functionality_within, heading_within, definition_within, inner_within, inners_within}
use Rattle.scope_parts.proofs.PartsTell.{sorts_tell, variables_tell}
use Rattle.scope_parts.proofs.BehavioursTell.{behaviours_tell}

-- ---- Headings

gates_tell : (next : ℕ) (gates : List PlacedName) → Rising (name_places gates)
    → TellsFirstFault (Is (formal_gates next gates)) (Doubled gates)
gates_tell next gates rise =
    tells_these one_side (λ f h. inl h) (beside_is_tells gates (resolved (numbers_from next gates)) rise
    (done_tells (numbers_from next gates)))
  where
    one_side : (f : ScopeFault) → Doubled gates f ⊎ ⊥ → Doubled gates f
    one_side f (inl h) = h
    one_side f (inr h) = absurd h

functionality_tells : (signature : Signature) (sorts : Option (List PlacedName)) → Rising (functionality_places sorts)
    → TellsFirstFault (Is (functionality_at signature sorts)) (FunctionalityHas signature sorts)
functionality_tells signature None rise = done_tells None
functionality_tells signature (Some sorts) rise = value_tells (sorts_at signature sorts) Some (sorts_tell signature sorts rise)

-- what comes of the parts of a heading
abbrev made_heading : List ℕ → List Variable → Option (List ℕ) → Heading
made_heading gates parameters exit = record { gates = gates; parameters = parameters; exit = exit }

abbrev exit_next : Signature → WrittenHeading → List ℕ → List Variable → Resolution Heading
exit_next signature heading gates parameters =
    and_then (functionality_at signature heading.functionality) (λ exit. resolved (made_heading gates parameters exit))

abbrev parameters_next : Signature → Numbers → WrittenHeading → List ℕ → Resolution Heading
parameters_next signature numbers heading gates =
    and_then (variables_at signature numbers.variable heading.parameters) (exit_next signature heading gates)

heading_tells : (signature : Signature) (numbers : Numbers) (heading : WrittenHeading) → HeadingFollows heading
    → TellsFirstFault (Is (heading_at signature numbers heading)) (HeadingHas signature numbers heading)
heading_tells signature numbers heading follow =
    and_then_tells (formal_gates numbers.gate heading.gates) (parameters_next signature numbers heading)
    (gates_tell numbers.gate heading.gates follow.1)
    (λ gates is. and_then_tells (variables_at signature numbers.variable heading.parameters) (exit_next signature heading gates)
    (variables_tell signature numbers.variable heading.parameters follow.2)
    (λ parameters so. value_tells (functionality_at signature heading.functionality)
    (made_heading gates parameters) (functionality_tells signature heading.functionality follow.3))
    (apart (variable_places heading.parameters) (functionality_places heading.functionality)
    (answers_within (variable_places heading.parameters) (variables_tell signature numbers.variable heading.parameters follow.2)
    (variables_within signature numbers.variable heading.parameters))
    (functionality_within signature heading.functionality) follow.0.1.0.0))
    (apart (name_places heading.gates) (variable_places heading.parameters ++ functionality_places heading.functionality)
    (answers_within (name_places heading.gates) (gates_tell numbers.gate heading.gates follow.1) (doubled_within [] heading.gates))
    (both_within (variable_places heading.parameters) (functionality_places heading.functionality)
    (variables_within signature numbers.variable heading.parameters) (functionality_within signature heading.functionality))
    (before_both (name_places heading.gates) (variable_places heading.parameters) (functionality_places heading.functionality)
    follow.0.0.0 follow.0.0.1.0))

-- the parameters of a heading are those that its variables come to
parameters_so : (x : Heading) (a : Resolution (List ℕ)) (b : Resolution (List Variable)) (c : Resolution (Option (List ℕ)))
    → resolved x ≡ and_then a (λ gates. and_then b (λ parameters. and_then c (λ exit. resolved (made_heading gates parameters exit))))
    → resolved x.parameters ≡ b
parameters_so x (resolved gates) (resolved parameters) (resolved exit) e =
    ap (λ (h : Heading). resolved h.parameters) (same_resolved x (made_heading gates parameters exit) e)
parameters_so x (resolved gates) (resolved parameters) (faulty f) e = never_faulty x f e
parameters_so x (resolved gates) (faulty f) c e = never_faulty x f e
parameters_so x (faulty f) b c e = never_faulty x f e

-- ---- Definitions

definition_tells : (signature : Signature) (processes : List Callable) (numbers : Numbers) (heading : WrittenHeading)
    (body : WrittenBehaviour) → DefinitionFollows heading body
    → TellsFirstFault (DefinitionIs signature processes numbers heading body) (DefinitionHas signature processes numbers heading body)
definition_tells signature processes numbers heading body follow =
    then_tells (heading_tells signature numbers heading follow.1)
    (λ (first : Heading) is. made_tells (λ behaviour. (first, behaviour))
    (seeing_tells (BehindHeading signature processes numbers heading body) first.parameters
    (parameters_so first (formal_gates numbers.gate heading.gates) (variables_at signature numbers.variable heading.parameters)
    (functionality_at signature heading.functionality) is)
    (is_once (variables_at signature numbers.variable heading.parameters))
    (behaviours_tell signature (body_scope processes numbers heading first.parameters) (past_heading heading numbers) body follow.2)))
    (apart (heading_places heading) (behaviour_places body)
    (answers_within (heading_places heading) (heading_tells signature numbers heading follow.1) (heading_within signature numbers heading))
    (seeing_within (Is (variables_at signature numbers.variable heading.parameters))
    (BehindHeading signature processes numbers heading body) (behaviour_places body)
    (λ (parameters : List Variable). behaviour_within signature (body_scope processes numbers heading parameters)
    (past_heading heading numbers) body)) follow.0.0.0)

name_tells : (before : List Binding) (heading : WrittenHeading) → TellsFirstFault (Is (new_process before heading)) (NameHas before heading)
name_tells before heading = by_test (is_bound before heading.name) refl
  where
    by_test : (b : Bool) → is_bound before heading.name ≡ b
        → TellsFirstFault (Is (if b then faulty (double_name heading.place heading.name) else resolved heading.name))
        (NameHas before heading)
    by_test true e = record {
      found = λ f h. (e, same_fault f (double_name heading.place heading.name) h);
      first = λ f g h k. same_not_after f g (same_fault f (double_name heading.place heading.name) h ∙ sym k.1);
      none = λ x g h k. never_faulty x (double_name heading.place heading.name) h;
    }
    by_test false e = record {
      found = λ f h. never_faulty heading.name f (sym h);
      first = λ f g h k. never_faulty heading.name f (sym h);
      none = λ x g h k. let bound = k.0 in let no : ⊥ = cc in no;
    }

name_within : (before : List Binding) (heading : WrittenHeading) (f : ScopeFault) → NameHas before heading f
    → fault_place f ≡ heading.place
name_within before heading f h = ap fault_place h.1

mutual
  pub inner_tells : (signature : Signature) (visible : List Callable) (before : List Binding) (numbers : Numbers) (inner : WrittenInner)
      → InnerFollows inner → TellsFirstFault (InnerIs signature visible before numbers inner)
      (InnerHas signature visible before numbers inner)
  inner_tells signature visible before numbers (inner_item item) follow = done_tells []
  inner_tells signature visible before numbers (process heading body inner) follow =
      then_tells (name_tells before heading)
      (λ name is. then_tells
      (definition_tells signature (callables signature (suc numbers.process) inner ++ visible) (past_name numbers) heading body follow.1)
      (λ (definition : Heading × Behaviour) so. made_tells (λ within. process_with heading definition ∷ within)
      (inners_tell signature (callables signature (suc numbers.process) inner ++ visible) [] (past_own heading body (past_name numbers))
      inner follow.2))
      (apart (definition_places heading body) (inners_places inner)
      (answers_within (definition_places heading body)
      (definition_tells signature (callables signature (suc numbers.process) inner ++ visible) (past_name numbers) heading body follow.1)
      (definition_within signature (callables signature (suc numbers.process) inner ++ visible) (past_name numbers) heading body))
      (inners_within signature (callables signature (suc numbers.process) inner ++ visible) [] (past_own heading body (past_name numbers))
      inner) follow.0.1.0.0))
      (apart (heading.place ∷ []) (definition_places heading body ++ inners_places inner)
      (answers_within (heading.place ∷ []) (name_tells before heading) (λ f h. inl (name_within before heading f h)))
      (both_within (definition_places heading body) (inners_places inner)
      (definition_within signature (callables signature (suc numbers.process) inner ++ visible) (past_name numbers) heading body)
      (inners_within signature (callables signature (suc numbers.process) inner ++ visible) [] (past_own heading body (past_name numbers))
      inner))
      (before_both (heading.place ∷ []) (definition_places heading body) (inners_places inner) follow.0.0.0 follow.0.0.1.0))

  pub inners_tell : (signature : Signature) (visible : List Callable) (before : List Binding) (numbers : Numbers) (inners : WrittenInners)
      → InnersFollow inners → TellsFirstFault (InnersAre signature visible before numbers inners)
      (InnersHave signature visible before numbers inners)
  inners_tell signature visible before numbers no_inner follow = done_tells []
  inners_tell signature visible before numbers (inner_then inner others) follow =
      then_tells (inner_tells signature visible before numbers inner follow.1)
      (λ (first : List Process) is. made_tells (λ rest. first ++ rest)
      (inners_tell signature visible (with_name inner before) (past_inner inner numbers) others follow.2))
      (apart (inner_places inner) (inners_places others)
      (answers_within (inner_places inner) (inner_tells signature visible before numbers inner follow.1)
      (inner_within signature visible before numbers inner))
      (inners_within signature visible (with_name inner before) (past_inner inner numbers) others) follow.0.0.0)

pub texts_tell : (signature : Signature) (text : WrittenSpecification) → PlacesRise text
    → TellsFirstFault (SpecificationIs signature text) (TextHasFault signature text)
texts_tell signature text follow =
    then_tells
    (definition_tells signature (callables signature 0 (inners_of text.inner)) first_numbers text.heading text.body follow.1)
    (λ (definition : Heading × Behaviour) is. made_tells (λ processes. specification_with text definition processes)
    (inners_tell signature (callables signature 0 (inners_of text.inner)) [] (past_own text.heading text.body first_numbers)
    (inners_of text.inner) follow.2))
    (apart (definition_places text.heading text.body) (inners_places (inners_of text.inner))
    (answers_within (definition_places text.heading text.body)
    (definition_tells signature (callables signature 0 (inners_of text.inner)) first_numbers text.heading text.body follow.1)
    (definition_within signature (callables signature 0 (inners_of text.inner)) first_numbers text.heading text.body))
    (inners_within signature (callables signature 0 (inners_of text.inner)) [] (past_own text.heading text.body first_numbers)
    (inners_of text.inner)) follow.0.0.0)
