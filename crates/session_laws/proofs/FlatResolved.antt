-- What a specification that means itself is written as flatly stands for it, with the names that its processes are printed by.
use Rattle.std.proofs.Common.{◌≡◌, ℕ, zero, suc, ◌+◌, Bool, true, false, List, [], ◌∷◌, ◌++◌, map, length, refl, ap, sym, ◌∙◌, subst, arith, append-nil}
use Rattle.std.proofs.lemmas.List.{map-append}
use Rattle.std.proofs.lemmas.Option.{none-some, same_Some}
use Rattle.std.specs.Prelude.{Option, None, Some, slice_get, is_some, if◌then◌else◌}
use Rattle.std.specs.Str.{bytes_eq}
use Rattle.lotos_base.proofs.Bytes.{bytes_same}
use Rattle.lotos_base.specs.Names.{folded}
use Rattle.lotos_base.specs.Signature.{Signature, IsWellFormedSignature}
use Rattle.lotos_base.specs.Equation.{Variable}
use Rattle.lotos_base.specs.WrittenTerm.{PlacedName}
use Rattle.syntax_trees.specs.WrittenVariable.{WrittenVariable}
use Rattle.syntax_trees.specs.WrittenBehaviour.{WrittenBehaviour}
use Rattle.syntax_trees.specs.WrittenDefinition.{WrittenHeading, WrittenInners, inner_item, process, no_inner, inner_then, inners_of, WrittenSpecification}
use Rattle.behaviour_semantics.specs.Behaviour.{Behaviour, Process, Specification}
use Rattle.behaviour_semantics.specs.WellFormed.{Every}
use Rattle.printed_texts.specs.BehaviourText.{Naming, gate_text, called_text}
use Rattle.declaration_laws.specs.DeclarationOrder.{gates_bound, process_gates, all_gates_of, Follow, HasGateNumber}
use Rattle.scope_parts.specs.ScopeFault.{double_name}
use Rattle.scope_parts.specs.Resolution.{resolved, faulty, put_in_front}
use Rattle.scope_parts.specs.Scope.{Binding, Callable, bound_to, bind, bind_all, is_bound, callable_named, first_double}
use Rattle.scope_parts.specs.Numbering.{Numbers, spelled_names, each_once, gates_in, own_gates, inners_gates, past_gates, past_variables, past_heading, past_own, process_count}
use Rattle.scope_parts.specs.Sorts.{sort_named, sort_at, sorts_at, functionality_at, variables_at, sorts_if}
use Rattle.scope_parts.specs.Behaviours.{numbers_from, BehaviourIs}
use Rattle.scope_parts.specs.Definitions.{Heading, formal_gates, heading_at, own_scope, DefinitionIs, callable_of, callables, new_process, process_with, past_name, InnersAre, first_numbers, declared_gates, specification_with, SpecificationIs}
use Rattle.scope_parts.proofs.AnswerLemmas.{value_then}
use Rattle.declaration_laws.proofs.NumberLemmas.{behaviour_made, declarations_have_the_next_number}
use Rattle.session_laws.specs.Meanings.{SortMeans, gate_texts, NoneStandsTwice, AreDeclaredGates, PrintedScope, past_behaviour, BehaviourMeans}
use Rattle.session_laws.specs.MeaningLaws.{IsCallableOf, AreVisible, AreNamesFrom}
use Rattle.session_laws.specs.WrittenBehaviours.{Correspond, IsVariableWritten, AreGatesWritten, IsBehaviourWritten, stop_written, exit_written, action_written, inner_written, guard_written, choice_written, parallel_written, hide_written, enable_written, disable_written, let_written, value_choice_written, gate_choice_written, par_written, call_written}
use Rattle.session_laws.specs.WrittenSpecifications.{IsFlatNaming, IsSortWritten, IsFunctionalityWritten, IsDefinitionWritten, AreProcessesWritten, whole_of, called_names, renamed_processes, renamed}
use Rattle.session_laws.specs.FlatLaws.{FlatTextsStandForTheSame}
use Rattle.session_laws.proofs.PartsResolved.{in_front_is, beside_is, no_double, all_once, sort_is, variables_are, as_long, numbers_same}
use Rattle.session_laws.proofs.BehavioursResolved.{past_is, gates_long, resolves}
use Rattle.session_laws.proofs.DefinitionsMeant.{inside_of, FunctionalityMeans, DefinitionMeans, behind_definition, ProcessesMean, row_spelled, SpecificationMeans, specification_meant}

-- ---- Headings

sorts_are : (signature : Signature) (sorts : List ℕ) (names : List PlacedName) → Every (SortMeans signature) sorts
    → Correspond (IsSortWritten signature) sorts names → resolved sorts ≡ sorts_at signature names
sorts_are signature [] [] means writes = refl
sorts_are signature [] (name ∷ names) means writes = absurd writes
sorts_are signature (s ∷ sorts) [] means writes = absurd writes
sorts_are signature (s ∷ sorts) (name ∷ names) means writes =
    value_then (sort_at signature name.place name.name) s (λ (n : ℕ). put_in_front n (sorts_at signature names))
    (resolved (s ∷ sorts)) (sort_is signature name.place name.name s means.0 writes.0)
    (in_front_is (sorts_at signature names) s sorts (sorts_are signature sorts names means.1 writes.1))

functionality_is : (signature : Signature) (exit : Option (List ℕ)) (names : Option (List PlacedName))
    → FunctionalityMeans signature exit → IsFunctionalityWritten signature exit names → resolved exit ≡ functionality_at signature names
functionality_is signature None None means writes = refl
functionality_is signature None (Some names) means writes = absurd writes
functionality_is signature (Some sorts) None means writes = absurd writes
functionality_is signature (Some sorts) (Some names) means writes =
    value_then (sorts_at signature names) sorts (λ (ns : List ℕ). resolved (Some ns)) (resolved (Some sorts))
    (sorts_are signature sorts names means writes) refl

formal_are : (naming : Naming) (next : ℕ) (gates : List ℕ) (names : List PlacedName) → AreDeclaredGates naming next gates
    → AreGatesWritten naming gates names → resolved gates ≡ formal_gates next names
formal_are naming next gates names declared writes =
    beside_is (first_double names) (resolved (numbers_from next names)) gates
    (no_double [] names (subst (λ (ns : List (List ℕ)). NoneStandsTwice [] ns) (sym writes) declared.distinct))
    (ap resolved (sym (sym (row_spelled next names) ∙ ap (λ (ns : List (List ℕ)). numbers_from next ns) writes
    ∙ numbers_same naming (gate_text naming) next gates ∙ declared.numbered)))

abbrev heading_of : Process → Heading
heading_of p = record { gates = p.gates; parameters = p.parameters; exit = p.exit }

heading_is : (naming : Naming) (all : List Process) (numbers : Numbers) (p : Process) (heading : WrittenHeading) (body : WrittenBehaviour)
    → DefinitionMeans naming all numbers p → IsDefinitionWritten naming p heading body
    → resolved (heading_of p) ≡ heading_at naming.signature numbers heading
heading_is naming all numbers p heading body means writes =
    value_then (formal_gates numbers.gate heading.gates) p.gates _ (resolved (heading_of p))
    (formal_are naming numbers.gate p.gates heading.gates means.gates writes.gates)
    (value_then (variables_at naming.signature numbers.variable heading.parameters) p.parameters _ (resolved (heading_of p))
    (variables_are naming.signature numbers.variable p.parameters heading.parameters means.parameters writes.parameters)
    (value_then (functionality_at naming.signature heading.functionality) p.exit _ (resolved (heading_of p))
    (functionality_is naming.signature p.exit heading.functionality means.functionality writes.functionality) refl))

-- ---- Definitions

module _ (naming : Naming) (all : List Process) (visible : List Callable) (well : IsWellFormedSignature naming.signature)
    (seen : AreVisible naming all visible) where
  record IsDefinitionResolved (numbers : Numbers) (p : Process) (heading : WrittenHeading) (body : WrittenBehaviour) : Type 0 where
    is : DefinitionIs naming.signature visible numbers heading body (resolved (heading_of p, p.body))
    behind : past_own heading body numbers ≡ behind_definition p numbers

  definition_is : (numbers : Numbers) (p : Process) (heading : WrittenHeading) (body : WrittenBehaviour)
      → DefinitionMeans naming all numbers p → IsDefinitionWritten naming p heading body → IsDefinitionResolved numbers p heading body
  definition_is numbers p heading body means writes = record {
    is = (heading_of p, heading_is naming all numbers p heading body means writes, (p.body, inner, refl));
    behind =
        past_is (past_heading heading numbers) body p.body
        (behaviour_made naming.signature body (own_scope visible numbers heading (heading_of p)) (past_heading heading numbers) p.body
        inner)
        ∙ ap (λ (n : Numbers). past_behaviour p.body n) (sym same_numbers);
  }
    where
      same_numbers : past_variables (length p.parameters) (past_gates (length p.gates) numbers) ≡ past_heading heading numbers
      same_numbers =
          ap (λ (n : ℕ). past_variables n (past_gates (length p.gates) numbers))
          (sym (as_long (IsVariableWritten naming.signature) p.parameters heading.parameters writes.parameters))
          ∙ ap (λ (n : ℕ). past_variables (length heading.parameters) (past_gates n numbers))
          (sym (gates_long naming p.gates heading.gates writes.gates))

      inner : BehaviourIs naming.signature (own_scope visible numbers heading (heading_of p)) (past_heading heading numbers) body
          (resolved p.body)
      inner =
          subst
          (λ (names : List (List ℕ)). BehaviourIs naming.signature
          (record { gates = bind_all names numbers.gate []; variables = p.parameters; processes = visible })
          (past_heading heading numbers) body (resolved p.body))
          (sym writes.gates)
          (subst
          (λ (n : Numbers). BehaviourIs naming.signature
          (record { gates = bind_all (gate_texts naming p.gates) numbers.gate []; variables = p.parameters; processes = visible })
          n body (resolved p.body))
          same_numbers
          (resolves naming all visible well seen (bind_all (gate_texts naming p.gates) numbers.gate []) p.parameters p.parameters
          (past_variables (length p.parameters) (past_gates (length p.gates) numbers)) p.body body writes.body_written means.body))

  pub processes_are : (ps : List Process) (ws : WrittenInners) (next : ℕ) (numbers : Numbers) (before : List Binding)
      → ProcessesMean naming all numbers ps → AreProcessesWritten naming next ps ws
      → NoneStandsTwice before (called_names naming next ps)
      → InnersAre naming.signature visible before numbers ws (resolved (renamed_processes naming next ps))
  processes_are [] no_inner next numbers before means writes none = refl
  processes_are [] (inner_then w ws) next numbers before means writes none = absurd writes
  processes_are (p ∷ ps) no_inner next numbers before means writes none = absurd writes
  processes_are (p ∷ ps) (inner_then (inner_item item) ws) next numbers before means writes none = absurd writes
  processes_are (p ∷ ps) (inner_then (process heading body (inner_then w rest)) ws) next numbers before means writes none =
      absurd writes
  processes_are (p ∷ ps) (inner_then (process heading body no_inner) ws) next numbers before means writes none = (
    with_text_name (called_text naming next) ∷ [],
    (heading.name, new, ((heading_of p, p.body), own.is, ([], refl, same))),
    (
      renamed_processes naming (suc next) ps,
      processes_are ps ws (suc next) (past_own heading body (past_name numbers)) (bind heading.name 0 before)
          (subst (λ (n : Numbers). ProcessesMean naming all n ps) (sym own.behind) means.1) writes.2
          (subst (λ (name : List ℕ). NoneStandsTwice (bind name 0 before) (called_names naming (suc next) ps)) (sym writes.0) none.1),
      refl,
    ),
  )
    where
      with_text_name : List ℕ → Process
      with_text_name name =
          record { name = name; gates = p.gates; parameters = p.parameters; exit = p.exit; body = p.body }

      own : IsDefinitionResolved (past_name numbers) p heading body
      own = definition_is (past_name numbers) p heading body means.0 writes.1

      new : resolved heading.name ≡ new_process before heading
      new =
          sym (ap (λ (b : Bool). if b then faulty (double_name heading.place heading.name) else resolved heading.name)
          (ap (λ (name : List ℕ). is_bound before name) writes.0 ∙ none.0))

      same : with_text_name (called_text naming next) ∷ [] ≡ process_with heading (heading_of p, p.body) ∷ []
      same = ap (λ (name : List ℕ). with_text_name name ∷ []) (sym writes.0)

-- ---- What is visible

sorts_called : (signature : Signature) (xs : List Variable) (ws : List WrittenVariable)
    → Every (λ (x : Variable). SortMeans signature x.sort) xs → Correspond (IsVariableWritten signature) xs ws
    → sorts_if signature ws ≡ map (λ (x : Variable). Some x.sort) xs
sorts_called signature [] [] means writes = refl
sorts_called signature [] (w ∷ ws) means writes = absurd writes
sorts_called signature (x ∷ xs) [] means writes = absurd writes
sorts_called signature (x ∷ xs) (w ∷ ws) means writes =
    ap (λ (o : Option ℕ). o ∷ sorts_if signature ws) (ap (λ (name : List ℕ). sort_named signature name) writes.0.1 ∙ means.0)
    ∙ ap (λ (os : List (Option ℕ)). Some x.sort ∷ os) (sorts_called signature xs ws means.1 writes.1)

callable_is : (naming : Naming) (all : List Process) (number : ℕ) (numbers : Numbers) (p : Process) (heading : WrittenHeading)
    (body : WrittenBehaviour) → DefinitionMeans naming all numbers p → IsDefinitionWritten naming p heading body
    → IsCallableOf number p (callable_of naming.signature number heading)
callable_is naming all number numbers p heading body means writes = record {
  numbered = refl;
  gates = gates_long naming p.gates heading.gates writes.gates;
  sorts = sorts_called naming.signature p.parameters heading.parameters means.parameters.sorted writes.parameters;
}

-- a name that is not bound behind another one is another one, and was not bound before
record IsUnboundBehind (before : List Binding) (one name : List ℕ) : Type 0 where
  differs : bytes_eq (folded name) (folded one) ≡ false
  unbound : is_bound before name ≡ false

unbound_behind : (before : List Binding) (one name : List ℕ) → is_bound (bind one 0 before) name ≡ false
    → IsUnboundBehind before one name
unbound_behind before one name is = go (bytes_eq (folded name) (folded one)) refl is
  where
    go : (b : Bool) → bytes_eq (folded name) (folded one) ≡ b → is_some (if b then Some 0 else bound_to before (folded name)) ≡ false
        → IsUnboundBehind before one name
    go true test is = cc
    go false test is = record { differs = test; unbound = is }

later_unbound : (naming : Naming) (ps : List Process) (before : List Binding) (next number i : ℕ) (p : Process) → number ≡ next + i
    → NoneStandsTwice before (called_names naming next ps) → slice_get ps i ≡ Some p
    → is_bound before (called_text naming number) ≡ false
later_unbound naming [] before next number i p same none at = absurd (none-some p at)
later_unbound naming (q ∷ ps) before next number zero p same none at =
    let here : number ≡ next = omega (arith, same) in
    ap (λ (n : ℕ). is_bound before (called_text naming n)) here ∙ none.0
later_unbound naming (q ∷ ps) before next number (suc i) p same none at =
    let rest =
    later_unbound naming ps (bind (called_text naming next) 0 before) (suc next) number i p (let s = same in omega (arith, s)) none.1 at in
    let behind = unbound_behind before (called_text naming next) (called_text naming number) rest in
    behind.unbound

-- the callable of a process that stands under its name
record IsFound (naming : Naming) (found : List Callable) (number : ℕ) (p : Process) : Type 0 where
  callable : Callable
  named : callable_named found (called_text naming number) ≡ Some callable
  is : IsCallableOf number p callable

found_later : (naming : Naming) (one : Callable) (others : List Callable) (number : ℕ) (p : Process)
    → bytes_eq (folded (called_text naming number)) (folded one.name) ≡ false → IsFound naming others number p
    → IsFound naming (one ∷ others) number p
found_later naming one others number p test found = record {
  callable = found.callable;
  named =
      ap (λ (b : Bool). if b then Some one else callable_named others (called_text naming number)) test ∙ found.named;
  is = found.is;
}

process_found : (naming : Naming) (all ps : List Process) (ws : WrittenInners) (next number i : ℕ) (numbers : Numbers)
    (before : List Binding) (p : Process) → number ≡ next + i → ProcessesMean naming all numbers ps → AreProcessesWritten naming next ps ws
    → NoneStandsTwice before (called_names naming next ps) → slice_get ps i ≡ Some p
    → IsFound naming (callables naming.signature next ws) number p
process_found naming all [] ws next number i numbers before p same means writes none at = absurd (none-some p at)
process_found naming all (q ∷ ps) no_inner next number i numbers before p same means writes none at = absurd writes
process_found naming all (q ∷ ps) (inner_then (inner_item item) ws) next number i numbers before p same means writes none at =
    absurd writes
process_found naming all (q ∷ ps) (inner_then (process heading body (inner_then w rest)) ws) next number i numbers before p same means
    writes none at =
    absurd writes
process_found naming all (q ∷ ps) (inner_then (process heading body no_inner) ws) next number zero numbers before p same means writes none
    at =
    let here : next ≡ number = omega (arith, same) in
    let one : Callable = callable_of naming.signature next heading in
    let test : bytes_eq (folded (called_text naming number)) (folded heading.name) ≡ true =
    bytes_same (folded (called_text naming number)) (folded heading.name)
    (ap folded (ap (λ (n : ℕ). called_text naming n) (sym here) ∙ sym writes.0)) in
    record {
      callable = one;
      named =
          ap (λ (b : Bool). if b then Some one
          else callable_named (callables naming.signature (next + process_count (process heading body no_inner)) ws)
          (called_text naming number)) test;
      is =
          subst (λ (n : ℕ). IsCallableOf n p one) here
          (subst (λ (r : Process). IsCallableOf next r one) (same_Some q p at)
          (callable_is naming all next (past_name numbers) q heading body means.0 writes.1));
    }
process_found naming all (q ∷ ps) (inner_then (process heading body no_inner) ws) next number (suc i) numbers before p same means writes
    none at =
    let later : number ≡ suc next + i = let s = same in omega (arith, s) in
    let unbound =
    later_unbound naming ps (bind (called_text naming next) 0 before) (suc next) number i p later none.1 at in
    let differs =
    (unbound_behind before (called_text naming next) (called_text naming number) unbound).differs in
    let place : suc next ≡ next + process_count (process heading body no_inner) = omega arith in
    found_later naming (callable_of naming.signature next heading) _ number p
    (ap (λ (name : List ℕ). bytes_eq (folded (called_text naming number)) (folded name)) writes.0 ∙ differs)
    (subst (λ (n : ℕ). IsFound naming (callables naming.signature n ws) number p) place
    (process_found naming all ps ws (suc next) number i (behind_definition q (past_name numbers))
    (bind (called_text naming next) 0 before) p later means.1 writes.2 none.1 at))

flat_visible : (naming : Naming) (all : List Process) (ws : WrittenInners) (numbers : Numbers) → ProcessesMean naming all numbers all
    → AreProcessesWritten naming 0 all ws → NoneStandsTwice [] (called_names naming 0 all)
    → AreVisible naming all (callables naming.signature 0 ws)
flat_visible naming all ws numbers means writes none number p at =
    let found = process_found naming all all ws 0 number number numbers [] p (omega arith) means writes none at in
    (found.callable, found.named, found.is)

-- ---- The names of the gates

module _ (naming : Naming) where
  texts_joined : (xs ys : List ℕ) (first second : List (List ℕ)) → first ≡ gate_texts naming xs → second ≡ gate_texts naming ys
      → first ++ second ≡ gate_texts naming (xs ++ ys)
  texts_joined xs ys first second one other =
      ap (λ (ns : List (List ℕ)). ns ++ second) one ∙ ap (λ (ns : List (List ℕ)). gate_texts naming xs ++ ns) other
      ∙ sym (map-append (gate_text naming) xs ys)

  behaviour_gates : (all : List Process) (names : List Variable) (b : Behaviour) (w : WrittenBehaviour)
      → IsBehaviourWritten naming names b w → (scope : PrintedScope) → BehaviourMeans naming all scope b
      → gates_in w ≡ gate_texts naming (gates_bound b)
  behaviour_gates all names b w stop_written scope means = refl
  behaviour_gates all names b w (exit_written writes) scope means = refl
  behaviour_gates all names b w (action_written {b = next} {next = inside} named asks tests writes) scope means =
      behaviour_gates all _ next inside writes _ means.4
  behaviour_gates all names b w (inner_written {b = next} {next = inside} writes) scope means =
      behaviour_gates all names next inside writes scope means
  behaviour_gates all names b w (guard_written {b = next} {next = inside} tests writes) scope means =
      behaviour_gates all names next inside writes scope means.1
  behaviour_gates all names b w (choice_written {b = one} {c = other} {left = left} {right = right} first second) scope means =
      texts_joined (gates_bound one) (gates_bound other) (gates_in left) (gates_in right)
      (behaviour_gates all names one left first scope means.0) (behaviour_gates all names other right second _ means.1)
  behaviour_gates all names b w (parallel_written {b = one} {c = other} {left = left} {right = right} meets first second) scope means =
      texts_joined (gates_bound one) (gates_bound other) (gates_in left) (gates_in right)
      (behaviour_gates all names one left first scope means.1) (behaviour_gates all names other right second _ means.2)
  behaviour_gates all names b w
      (hide_written {gates = hidden} {b = next} {given = given} {inside = inside} listed writes) scope means =
      texts_joined hidden (gates_bound next) _ (gates_in inside)
      (ap (λ (ns : List (List ℕ)). each_once ns) listed ∙ all_once [] (gate_texts naming hidden) means.0.distinct)
      (behaviour_gates all names next inside writes _ means.1)
  behaviour_gates all names b w (enable_written {b = one} {c = other} {left = left} {right = right} first accepts second) scope means =
      texts_joined (gates_bound one) (gates_bound other) (gates_in left) (gates_in right)
      (behaviour_gates all names one left first scope means.0) (behaviour_gates all _ other right second _ means.2)
  behaviour_gates all names b w (disable_written {b = one} {c = other} {left = left} {right = right} first second) scope means =
      texts_joined (gates_bound one) (gates_bound other) (gates_in left) (gates_in right)
      (behaviour_gates all names one left first scope means.0) (behaviour_gates all names other right second _ means.1)
  behaviour_gates all names b w (let_written {b = next} {inside = inside} binds writes) scope means =
      behaviour_gates all _ next inside writes _ means.2
  behaviour_gates all names b w (value_choice_written {b = next} {inside = inside} declares writes) scope means =
      behaviour_gates all _ next inside writes _ means.1
  behaviour_gates all names b w
      (gate_choice_written {gate = gate} {given = given} {b = next} {inside = inside} declares writes) scope means =
      texts_joined (gate ∷ []) (gates_bound next) (given.name ∷ []) (gates_in inside) (ap (λ (n : List ℕ). n ∷ []) declares.named)
      (behaviour_gates all names next inside writes _ means.2)
  behaviour_gates all names b w
      (par_written {gate = gate} {given = given} {b = next} {inside = inside} declares signs writes) scope means =
      texts_joined (gate ∷ []) (gates_bound next) (given.name ∷ []) (gates_in inside) (ap (λ (n : List ℕ). n ∷ []) declares.named)
      (behaviour_gates all names next inside writes _ means.3)
  behaviour_gates all names b w (call_written named listed writes) scope means = refl

  definition_gates : (all : List Process) (numbers : Numbers) (p : Process) (heading : WrittenHeading) (body : WrittenBehaviour)
      → DefinitionMeans naming all numbers p → IsDefinitionWritten naming p heading body
      → own_gates heading body ≡ gate_texts naming (p.gates ++ gates_bound p.body)
  definition_gates all numbers p heading body means writes =
      texts_joined p.gates (gates_bound p.body) (spelled_names heading.gates) (gates_in body) writes.gates
      (behaviour_gates all p.parameters p.body body writes.body_written (inside_of naming numbers p) means.body)

  processes_gates : (all : List Process) (numbers : Numbers) (next : ℕ) (ps : List Process) (ws : WrittenInners)
      → ProcessesMean naming all numbers ps → AreProcessesWritten naming next ps ws
      → inners_gates ws ≡ gate_texts naming (process_gates ps)
  processes_gates all numbers next [] no_inner means writes = refl
  processes_gates all numbers next [] (inner_then w ws) means writes = absurd writes
  processes_gates all numbers next (p ∷ ps) no_inner means writes = absurd writes
  processes_gates all numbers next (p ∷ ps) (inner_then (inner_item item) ws) means writes = absurd writes
  processes_gates all numbers next (p ∷ ps) (inner_then (process heading body (inner_then w rest)) ws) means writes = absurd writes
  processes_gates all numbers next (p ∷ ps) (inner_then (process heading body no_inner) ws) means writes =
      texts_joined (p.gates ++ gates_bound p.body) (process_gates ps) (own_gates heading body ++ []) (inners_gates ws)
      (append-nil (own_gates heading body) ∙ definition_gates all (past_name numbers) p heading body means.0 writes.1)
      (processes_gates all (behind_definition p (past_name numbers)) (suc next) ps ws means.1 writes.2)

  -- the texts of gates with numbers in a row
  follow_texts : (next : ℕ) (names : List (List ℕ)) (gates : List ℕ) → Follow (List ℕ) ℕ HasGateNumber next names gates
      → AreNamesFrom naming next names → gate_texts naming gates ≡ names
  follow_texts next [] [] follow named = refl
  follow_texts next [] (g ∷ gates) follow named = absurd follow
  follow_texts next (name ∷ names) [] follow named = absurd follow
  follow_texts next (name ∷ names) (g ∷ gates) follow named =
      ap (λ (n : List ℕ). n ∷ gate_texts naming gates) (ap (λ (m : ℕ). gate_text naming m) follow.0 ∙ named.0)
      ∙ ap (λ (ns : List (List ℕ)). name ∷ ns) (follow_texts (suc next) names gates follow.1 named.1)

-- a naming knows its gates by their numbers
abbrev with_gates_named : Naming → List (List ℕ) → Naming
with_gates_named naming gates =
    record { signature = naming.signature; gates = gates; processes = naming.processes; truth = naming.truth }

names_later : (naming : Naming) (gates : List (List ℕ)) (gate : List ℕ) (next : ℕ) (names : List (List ℕ))
    → AreNamesFrom (with_gates_named naming gates) next names
    → AreNamesFrom (with_gates_named naming (gate ∷ gates)) (suc next) names
names_later naming gates gate next [] named = tt
names_later naming gates gate next (name ∷ names) named = (named.0, names_later naming gates gate (suc next) names named.1)

names_from_first : (naming : Naming) (gates : List (List ℕ)) → AreNamesFrom (with_gates_named naming gates) 0 gates
names_from_first naming [] = tt
names_from_first naming (gate ∷ gates) = (refl, names_later naming gates gate 0 gates (names_from_first naming gates))

-- ---- The law

-- what some text stands for means itself
pub flat_means : (naming : Naming) (text : WrittenSpecification) (specification : Specification) → IsFlatNaming naming specification
    → SpecificationIs naming.signature text (resolved specification) → SpecificationMeans naming specification
flat_means naming text specification flat_naming is =
    specification_meant naming text specification flat_naming.truth
    (subst (λ (names : List (List ℕ)). AreNamesFrom naming 0 names)
    (flat_naming.gates ∙ ap (λ (s : Specification). s.gate_names) is.2.2) (names_from_first naming naming.gates)) is

pub flat_texts_stand_for_the_same : FlatTextsStandForTheSame
flat_texts_stand_for_the_same naming text flat specification well flat_naming is writes = (
  (heading_of whole, whole.body),
  own.is,
  (
    renamed_processes naming 0 all,
    processes_are naming all visible well seen all inner 0 (past_own flat.heading flat.body first_numbers) []
        (subst (λ (n : Numbers). ProcessesMean naming all n all) (sym own.behind) means.processes_mean) writes.processes
        flat_naming.distinct,
    same,
  ),
)
  where
    all : List Process
    all = specification.processes

    whole : Process
    whole = whole_of specification

    inner : WrittenInners
    inner = inners_of flat.inner

    visible : List Callable
    visible = callables naming.signature 0 (inners_of flat.inner)

    gate_names : specification.gate_names ≡ declared_gates text
    gate_names = ap (λ (s : Specification). s.gate_names) is.2.2

    named : AreNamesFrom naming 0 (declared_gates text)
    named =
        subst (λ (names : List (List ℕ)). AreNamesFrom naming 0 names) (flat_naming.gates ∙ gate_names)
        (names_from_first naming naming.gates)

    means : SpecificationMeans naming specification
    means = flat_means naming text specification flat_naming is

    seen : AreVisible naming specification.processes (callables naming.signature 0 (inners_of flat.inner))
    seen =
        flat_visible naming specification.processes (inners_of flat.inner) (behind_definition (whole_of specification) first_numbers)
        means.processes_mean writes.processes flat_naming.distinct

    own : IsDefinitionResolved naming specification.processes (callables naming.signature 0 (inners_of flat.inner)) well seen first_numbers
        (whole_of specification) flat.heading flat.body
    own =
        definition_is naming specification.processes (callables naming.signature 0 (inners_of flat.inner)) well seen first_numbers
        (whole_of specification) flat.heading flat.body means.whole writes.whole

    gates : declared_gates flat ≡ specification.gate_names
    gates =
        texts_joined naming (specification.gates ++ gates_bound specification.body) (process_gates specification.processes)
        (own_gates flat.heading flat.body) (inners_gates (inners_of flat.inner))
        (definition_gates naming specification.processes first_numbers (whole_of specification) flat.heading flat.body means.whole
        writes.whole)
        (processes_gates naming specification.processes (behind_definition (whole_of specification) first_numbers) 0
        specification.processes (inners_of flat.inner) means.processes_mean writes.processes)
        ∙ follow_texts naming 0 (declared_gates text) (all_gates_of specification)
        (declarations_have_the_next_number naming.signature text specification is).gates named
        ∙ sym gate_names

    same : renamed naming specification
        ≡ specification_with flat (heading_of (whole_of specification), specification.body)
        (renamed_processes naming 0 specification.processes)
    same =
        let make : List ℕ → List (List ℕ) → Specification = λ name names. record {
          name = name;
          gate_names = names;
          gates = specification.gates;
          parameters = specification.parameters;
          exit = specification.exit;
          body = specification.body;
          processes = renamed_processes naming 0 specification.processes;
        } in
        ap (λ (name : List ℕ). make name specification.gate_names) (sym writes.named)
        ∙ ap (λ (names : List (List ℕ)). make flat.heading.name names) (sym gates)
