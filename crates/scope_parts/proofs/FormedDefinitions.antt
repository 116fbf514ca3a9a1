-- What a text stands for is well formed.
use Rattle.std.proofs.Common.{◌≡◌, ℕ, zero, suc, ◌+◌, ◌≤◌, Bool, true, false, List, [], ◌∷◌, ◌++◌, refl, ap, sym, ◌∙◌, subst, arith, length, map}
use Rattle.std.specs.Prelude.{Option, None, Some, slice_get, if◌then◌else◌}
use Rattle.std.specs.Option.{option_or}
use Rattle.std.specs.Str.{bytes_eq}
use Rattle.std.proofs.lemmas.List.{length-append}
use Rattle.std.proofs.lemmas.Option.{none-some, same_Some}
use Rattle.lotos_base.specs.Names.{folded}
use Rattle.lotos_base.specs.Signature.{Signature}
use Rattle.lotos_base.specs.Equation.{Variable}
use Rattle.lotos_base.specs.WrittenTerm.{PlacedName}
use Rattle.syntax_trees.specs.WrittenVariable.{WrittenVariable}
use Rattle.syntax_trees.specs.WrittenBehaviour.{WrittenBehaviour}
use Rattle.syntax_trees.specs.WrittenDefinition.{WrittenHeading, WrittenInner, WrittenInners, inner_item, process, no_inner, inner_then, inners_of, WrittenSpecification}
use Rattle.behaviour_semantics.specs.Behaviour.{Behaviour, Process, Specification}
use Rattle.behaviour_semantics.specs.WellFormed.{Every, AreDistinct, AreGates, IsFunctionality, IsDefinition, IsSpecification}
use Rattle.scope_parts.specs.Resolution.{resolved}
use Rattle.scope_parts.specs.Scope.{Callable, Binding, callable_named, first_double}
use Rattle.scope_parts.specs.Numbering.{Numbers, spelled_names, gates_in, own_gates, inner_gates, inners_gates, past_heading, past_own, past_inner, past_inners, process_count, processes_count}
use Rattle.scope_parts.specs.Sorts.{sort_named, sort_at, found_sort, sorts_if, variable_at, sorted_variables, variables_at, functionality_at, placed_variables}
use Rattle.scope_parts.specs.Behaviours.{numbers_from}
use Rattle.scope_parts.specs.Definitions.{Heading, formal_gates, heading_at, own_scope, DefinitionIs, callable_of, callables, process_with, past_name, with_name, InnerIs, InnersAre, first_numbers, declared_gates, SpecificationIs}
use Rattle.scope_parts.specs.GateLists.{HasGateLists, InnerHasGateLists, InnersHaveGateLists, TextHasGateLists}
use Rattle.scope_parts.proofs.FormedLists.{same_resolved, never_faulty, made_of, front_of, beside_of, AreDeclared, functionality_formed, binders_formed, in_more, below_more, over_more, GatesBelow, bind_below, numbers_formed, numbers_distinct}
use Rattle.scope_parts.proofs.FormedTerms.{AreIn}
use Rattle.scope_parts.proofs.FormedBehaviours.{IsCalled, IsReady, behaviour_formed, declared_of}

-- ---- Headings

-- a heading with names resolved: its gates in a row, its parameters declared with their sorts
record IsHeading (signature : Signature) (gate next : ℕ) (heading : WrittenHeading) (h : Heading) : Type 0 where
  gates : h.gates ≡ numbers_from gate heading.gates
  declared : AreDeclared signature next (length heading.parameters) h.parameters
  sorts : sorts_if signature heading.parameters ≡ map (λ (x : Variable). Some x.sort) h.parameters
  exit : IsFunctionality signature h.exit

found_is : (signature : Signature) (v : WrittenVariable) (s : ℕ) → resolved s ≡ sort_at signature v.sort_place v.sort
    → sort_named signature v.sort ≡ Some s
found_is signature v s is = go (sort_named signature v.sort) is
  where
    go : (o : Option ℕ) → resolved s ≡ found_sort v.sort_place v.sort o → o ≡ Some s
    go None is = never_faulty s _ is
    go (Some n) is = ap Some (sym (same_resolved s n is))

pub same_sorts : (signature : Signature) (next : ℕ) (vs : List WrittenVariable) (xs : List Variable)
    → resolved xs ≡ sorted_variables signature next vs → sorts_if signature vs ≡ map (λ (x : Variable). Some x.sort) xs
same_sorts signature next [] xs is =
    ap (λ (ys : List Variable). map (λ (x : Variable). Some x.sort) ys) (sym (same_resolved xs [] is))
same_sorts signature next (v ∷ vs) xs is =
    let first = made_of (variable_at signature next v) _ xs is in
    let rest = front_of first.0 (sorted_variables signature (suc next) vs) xs first.2 in
    let sort = made_of (sort_at signature v.sort_place v.sort) _ first.0 first.1 in
    let same = same_resolved first.0 (record { name = v.name; number = next; sort = sort.0 }) sort.2 in
    let here : sort_named signature v.sort ≡ Some first.0.sort =
    found_is signature v sort.0 sort.1 ∙ ap (λ (x : Variable). Some x.sort) (sym same) in
    ap (λ (o : Option ℕ). o ∷ sorts_if signature vs) here
    ∙ ap (λ (os : List (Option ℕ)). Some first.0.sort ∷ os) (same_sorts signature (suc next) vs rest.0 rest.1)
    ∙ ap (λ (ys : List Variable). map (λ (x : Variable). Some x.sort) ys) (sym rest.2)

heading_formed : (signature : Signature) (numbers : Numbers) (heading : WrittenHeading) (h : Heading)
    → resolved h ≡ heading_at signature numbers heading → IsHeading signature numbers.gate numbers.variable heading h
heading_formed signature numbers heading h is =
    let gates = made_of (formal_gates numbers.gate heading.gates) _ h is in
    let parameters = made_of (variables_at signature numbers.variable heading.parameters) _ h gates.2 in
    let exit = made_of (functionality_at signature heading.functionality) _ h parameters.2 in
    let same = same_resolved h (record { gates = gates.0; parameters = parameters.0; exit = exit.0 }) exit.2 in
    subst (λ (x : Heading). IsHeading signature numbers.gate numbers.variable heading x) (sym same) (record {
      gates =
          same_resolved gates.0 (numbers_from numbers.gate heading.gates)
          (beside_of (first_double heading.gates) (resolved (numbers_from numbers.gate heading.gates)) gates.0 gates.1);
      declared = declared_of signature numbers.variable heading.parameters parameters.0 parameters.1;
      sorts =
          same_sorts signature numbers.variable heading.parameters parameters.0
          (beside_of (first_double (placed_variables heading.parameters)) (sorted_variables signature numbers.variable heading.parameters)
          parameters.0 parameters.1);
      exit = functionality_formed signature heading.functionality exit.0 exit.1;
    })

heading_of : (signature : Signature) (visible : List Callable) (numbers : Numbers) (heading : WrittenHeading) (body : WrittenBehaviour)
    (d : Heading × Behaviour) → DefinitionIs signature visible numbers heading body (resolved d)
    → IsHeading signature numbers.gate numbers.variable heading d.0
heading_of signature visible numbers heading body d is =
    subst (λ (x : Heading × Behaviour). IsHeading signature numbers.gate numbers.variable heading x.0) (sym is.2.2)
    (heading_formed signature numbers heading is.0 is.1)

-- ---- A definition

-- all that is visible is called rightly
abbrev CalledBy : List Process → List Callable → Type 0
CalledBy all visible = (name : List ℕ) (p : Callable) → callable_named visible name ≡ Some p → IsCalled all p

append_nothing : {A : Type 0} (xs : List A) → xs ++ [] ≡ xs
append_nothing [] = refl
append_nothing (x ∷ xs) = ap (λ ys. x ∷ ys) (append_nothing xs)

pub length_spelled : (names : List PlacedName) → length (spelled_names names) ≡ length names
length_spelled [] = refl
length_spelled (name ∷ names) = ap suc (length_spelled names)

pub length_numbers : {A : Type 0} (next : ℕ) (xs : List A) → length (numbers_from next xs) ≡ length xs
length_numbers next [] = refl
length_numbers next (x ∷ xs) = ap suc (length_numbers (next + 1) xs)

no_gates_bound : (names : ℕ) → GatesBelow names []
no_gates_bound names key n is = absurd (none-some n is)

own_ready : (signature : Signature) (names : ℕ) (all : List Process) (visible : List Callable) (numbers : Numbers)
    (heading : WrittenHeading)
    (h : Heading) → IsHeading signature numbers.gate numbers.variable heading h → CalledBy all visible
    → numbers.gate + length heading.gates ≤ names
    → IsReady signature names all (own_scope visible numbers heading h) (numbers.variable + length heading.parameters) h.parameters
own_ready signature names all visible numbers heading h is called room =
    let many = length_spelled heading.gates in
    let own : numbers.gate + length (spelled_names heading.gates) ≤ names = omega (arith, room, many) in
    record {
      seen = record {
        over = over_more signature [] h.parameters (λ i v at. absurd (none-some v at)) is.declared.sorted;
        are =
            subst (λ (scope : List Variable). AreIn h.parameters scope) (append_nothing h.parameters)
            (in_more numbers.variable [] h.parameters [] (λ i v at. absurd (none-some v at)) (λ i v at. absurd (none-some v at))
            is.declared.numbered);
      };
      below =
          below_more numbers.variable (length heading.parameters) [] h.parameters (λ i v at. absurd (none-some v at)) is.declared.numbered
          is.declared.counted;
      gates = bind_below names (spelled_names heading.gates) numbers.gate [] (no_gates_bound names) own;
      callable = called;
    }

abbrev Formed : Signature → ℕ → List Process → Process → Type 0
Formed signature names all p = IsDefinition signature names all p.gates p.parameters p.exit p.body

definition_formed : (signature : Signature) (names : ℕ) (all : List Process) (visible : List Callable) (numbers : Numbers)
    (heading : WrittenHeading) (body : WrittenBehaviour) (d : Heading × Behaviour) → CalledBy all visible → HasGateLists body
    → numbers.gate + length (own_gates heading body) ≤ names → DefinitionIs signature visible numbers heading body (resolved d)
    → IsHeading signature numbers.gate numbers.variable heading d.0
    × IsDefinition signature names all d.0.gates d.0.parameters d.0.exit d.1
definition_formed signature names all visible numbers heading body d called have room is =
    let h = heading_formed signature numbers heading is.0 is.1 in
    let both : length (spelled_names heading.gates ++ gates_in body) ≡ length (spelled_names heading.gates) + length (gates_in body) =
    length-append (spelled_names heading.gates) (gates_in body) in
    let many = length_spelled heading.gates in
    let first : numbers.gate + length heading.gates ≤ names = omega (arith, room, both, many) in
    let later : (numbers.gate + length heading.gates) + length (gates_in body) ≤ names = omega (arith, room, both, many) in
    subst
    (λ (x : Heading × Behaviour). IsHeading signature numbers.gate numbers.variable heading x.0
    × IsDefinition signature names all x.0.gates x.0.parameters x.0.exit x.1)
    (sym is.2.2) (
      h,
      record {
        distinct_gates = subst (λ (ns : List ℕ). AreDistinct ns) (sym h.gates) (numbers_distinct numbers.gate heading.gates);
        named_gates = subst (λ (ns : List ℕ). AreGates names ns) (sym h.gates) (numbers_formed names numbers.gate heading.gates first);
        binders = binders_formed signature numbers.variable (length heading.parameters) is.0.parameters h.declared;
        functionality = h.exit;
        behaviour =
            behaviour_formed signature names all body have (own_scope visible numbers heading is.0) (past_heading heading numbers)
            is.0.parameters is.2.0 (own_ready signature names all visible numbers heading is.0 h called first) later is.2.1;
      },
    )

-- ---- Where processes stand

named_append : (xs ys : List Callable) (name : List ℕ)
    → callable_named (xs ++ ys) name ≡ option_or (callable_named xs name) (callable_named ys name)
named_append [] ys name = refl
named_append (x ∷ xs) ys name = go (bytes_eq (folded name) (folded x.name)) (named_append xs ys name)
  where
    go : (b : Bool) → callable_named (xs ++ ys) name ≡ option_or (callable_named xs name) (callable_named ys name)
        → (if b then Some x else callable_named (xs ++ ys) name)
        ≡ option_or (if b then Some x else callable_named xs name) (callable_named ys name)
    go true rest = refl
    go false rest = rest

called_both : (all : List Process) (xs ys : List Callable) → CalledBy all xs → CalledBy all ys → CalledBy all (xs ++ ys)
called_both all xs ys one other name p is = go (callable_named xs name) refl (sym (named_append xs ys name) ∙ is)
  where
    go : (o : Option Callable) → callable_named xs name ≡ o → option_or o (callable_named ys name) ≡ Some p → IsCalled all p
    go None at is = other name p is
    go (Some q) at is = one name p (at ∙ is)

at_front : (front back : List Process) (p : Process) (n : ℕ) → length front ≡ n → slice_get (front ++ p ∷ back) n ≡ Some p
at_front [] back p n is = ap (slice_get (p ∷ back)) (sym is)
at_front (x ∷ front) back p zero is = absurd (let no : ⊥ = omega (arith, is) in no)
at_front (x ∷ front) back p (suc n) is = at_front front back p n (omega (arith, is))

assoc : (xs ys zs : List Process) → (xs ++ ys) ++ zs ≡ xs ++ (ys ++ zs)
assoc [] ys zs = refl
assoc (x ∷ xs) ys zs = ap (λ (ps : List Process). x ∷ ps) (assoc xs ys zs)

mutual
  inner_counted : (signature : Signature) (visible : List Callable) (before : List Binding) (numbers : Numbers) (inner : WrittenInner)
      (ps : List Process) → InnerIs signature visible before numbers inner (resolved ps) → length ps ≡ process_count inner
  inner_counted signature visible before numbers (inner_item item) ps is = ap length (same_resolved ps [] is)
  inner_counted signature visible before numbers (process heading body inner) ps is =
      ap length is.2.2.2 ∙ ap suc (inners_counted signature _ _ _ inner is.2.2.0 is.2.2.1)

  inners_counted : (signature : Signature) (visible : List Callable) (before : List Binding) (numbers : Numbers) (inners : WrittenInners)
      (ps : List Process) → InnersAre signature visible before numbers inners (resolved ps) → length ps ≡ processes_count inners
  inners_counted signature visible before numbers no_inner ps is = ap length (same_resolved ps [] is)
  inners_counted signature visible before numbers (inner_then inner others) ps is =
      let first = inner_counted signature visible before numbers inner is.0 is.1 in
      let rest = inners_counted signature _ _ _ others is.2.0 is.2.1 in
      ap length is.2.2 ∙ length-append is.0 is.2.0 ∙ omega (arith, first, rest)

mutual
  past_process : (inner : WrittenInner) (numbers : Numbers) → (past_inner inner numbers).process ≡ numbers.process + process_count inner
  past_process (inner_item item) numbers = omega arith
  past_process (process heading body inner) numbers =
      let rest = past_processes inner (past_own heading body (past_name numbers)) in omega (arith, rest)

  past_processes : (inners : WrittenInners) (numbers : Numbers)
      → (past_inners inners numbers).process ≡ numbers.process + processes_count inners
  past_processes no_inner numbers = omega arith
  past_processes (inner_then inner others) numbers =
      let first = past_process inner numbers in
      let rest = past_processes others (past_inner inner numbers) in
      omega (arith, first, rest)

mutual
  past_gate : (inner : WrittenInner) (numbers : Numbers) → (past_inner inner numbers).gate ≡ numbers.gate + length (inner_gates inner)
  past_gate (inner_item item) numbers = omega arith
  past_gate (process heading body inner) numbers =
      let rest = past_all_gates inner (past_own heading body (past_name numbers)) in
      let own : length (spelled_names heading.gates ++ gates_in body) ≡ length (spelled_names heading.gates) + length (gates_in body) =
      length-append (spelled_names heading.gates) (gates_in body) in
      let all : length ((spelled_names heading.gates ++ gates_in body) ++ inners_gates inner)
      ≡ length (spelled_names heading.gates ++ gates_in body) + length (inners_gates inner) =
      length-append (spelled_names heading.gates ++ gates_in body) (inners_gates inner) in
      let many = length_spelled heading.gates in
      omega (arith, rest, own, all, many)

  past_all_gates : (inners : WrittenInners) (numbers : Numbers)
      → (past_inners inners numbers).gate ≡ numbers.gate + length (inners_gates inners)
  past_all_gates no_inner numbers = omega arith
  past_all_gates (inner_then inner others) numbers =
      let first = past_gate inner numbers in
      let rest = past_all_gates others (past_inner inner numbers) in
      let all : length (inner_gates inner ++ inners_gates others) ≡ length (inner_gates inner) + length (inners_gates others) =
      length-append (inner_gates inner) (inners_gates others) in
      omega (arith, first, rest, all)

-- a process is called rightly where it stands among all
callable_there : (signature : Signature) (names : ℕ) (all front back : List Process) (number gate next : ℕ) (heading : WrittenHeading)
    (d : Heading × Behaviour) → all ≡ front ++ process_with heading d ∷ back → length front ≡ number
    → IsHeading signature gate next heading d.0 → IsCalled all (callable_of signature number heading)
callable_there signature names all front back number gate next heading d are counted h = record {
  process = process_with heading d;
  there = ap (λ (ps : List Process). slice_get ps number) are ∙ at_front front back (process_with heading d) number counted;
  gates = sym (ap length h.gates ∙ length_numbers gate heading.gates);
  sorts = h.sorts;
}

one_called : (all : List Process) (p : Callable) (others : List Callable) → IsCalled all p → CalledBy all others → CalledBy all (p ∷ others)
one_called all p others here rest name q is = go (bytes_eq (folded name) (folded p.name)) is
  where
    go : (b : Bool) → (if b then Some p else callable_named others name) ≡ Some q → IsCalled all q
    go true is = subst (IsCalled all) (same_Some _ _ is) here
    go false is = rest name q is

-- the processes of a `where` are called rightly, given where they stand
callables_called : (signature : Signature) (all front back : List Process) (visible : List Callable) (before : List Binding)
    (numbers : Numbers) (inners : WrittenInners) (ps : List Process) → all ≡ front ++ (ps ++ back) → length front ≡ numbers.process
    → InnersAre signature visible before numbers inners (resolved ps) → CalledBy all (callables signature numbers.process inners)
callables_called signature all front back visible before numbers no_inner ps are counted is = λ name p found. absurd (none-some p found)
callables_called signature all front back visible before numbers (inner_then (inner_item item) others) ps are counted is =
    let same : ps ≡ is.2.0 = is.2.2 ∙ ap (λ (qs : List Process). qs ++ is.2.0) (same_resolved is.0 [] is.1) in
    callables_called signature all front back visible before numbers others is.2.0
    (are ∙ ap (λ (qs : List Process). front ++ (qs ++ back)) same) counted is.2.1
callables_called signature all front back visible before numbers (inner_then (process heading body inner) others) ps are counted is =
    let here : ps ≡ process_with heading is.1.2.0 ∷ (is.1.2.2.0 ++ is.2.0) =
    is.2.2 ∙ ap (λ (qs : List Process). qs ++ is.2.0) is.1.2.2.2 in
    let many : length is.0 ≡ process_count (process heading body inner) =
    inner_counted signature visible before numbers (process heading body inner) is.0 is.1 in
    let next = past_process (process heading body inner) numbers in
    let both : length (front ++ is.0) ≡ length front + length is.0 = length-append front is.0 in
    let stands : length (front ++ is.0) ≡ (past_inner (process heading body inner) numbers).process =
    omega (arith, both, many, next, counted) in
    let whole : all ≡ (front ++ is.0) ++ (is.2.0 ++ back) =
    are ∙ ap (λ (qs : List Process). front ++ (qs ++ back)) is.2.2 ∙ ap (λ (qs : List Process). front ++ qs) (assoc is.0 is.2.0 back)
    ∙ sym (assoc front is.0 (is.2.0 ++ back)) in
    one_called all (callable_of signature numbers.process heading)
    (callables signature (numbers.process + process_count (process heading body inner)) others)
    (callable_there signature 0 all front ((is.1.2.2.0 ++ is.2.0) ++ back) numbers.process (past_name numbers).gate
    (past_name numbers).variable heading is.1.2.0 (are ∙ ap (λ (qs : List Process). front ++ (qs ++ back)) here) counted
    (heading_of signature _ (past_name numbers) heading body is.1.2.0 is.1.2.1))
    (subst (λ (n : ℕ). CalledBy all (callables signature n others)) next
    (callables_called signature all (front ++ is.0) back visible _ (past_inner (process heading body inner) numbers) others is.2.0 whole
    stands is.2.1))

-- ---- All processes

pub every_both : {A : Type 0} (P : A → Type 0) (xs ys : List A) → Every P xs → Every P ys → Every P (xs ++ ys)
every_both P [] ys h k = k
every_both P (x ∷ xs) ys h k = (h.0, every_both P xs ys h.1 k)

mutual
  inner_formed : (signature : Signature) (names : ℕ) (all front back : List Process) (visible : List Callable) (before : List Binding)
      (numbers : Numbers) (inner : WrittenInner) (ps : List Process) → all ≡ front ++ (ps ++ back) → length front ≡ numbers.process
      → CalledBy all visible → InnerHasGateLists inner → numbers.gate + length (inner_gates inner) ≤ names
      → InnerIs signature visible before numbers inner (resolved ps) → Every (Formed signature names all) ps
  inner_formed signature names all front back visible before numbers (inner_item item) ps are counted called have room is =
      subst (λ (qs : List Process). Every (Formed signature names all) qs) (sym (same_resolved ps [] is)) tt
  inner_formed signature names all front back visible before numbers (process heading body inner) ps are counted called have room is =
      let p = process_with heading is.2.0 in
      let own : length (spelled_names heading.gates ++ gates_in body) ≡ length (spelled_names heading.gates) + length (gates_in body) =
      length-append (spelled_names heading.gates) (gates_in body) in
      let total : length ((spelled_names heading.gates ++ gates_in body) ++ inners_gates inner)
      ≡ length (spelled_names heading.gates ++ gates_in body) + length (inners_gates inner) =
      length-append (spelled_names heading.gates ++ gates_in body) (inners_gates inner) in
      let many = length_spelled heading.gates in
      let first : (past_name numbers).gate + length (own_gates heading body) ≤ names = omega (arith, room, total) in
      let later : (past_own heading body (past_name numbers)).gate + length (inners_gates inner) ≤ names =
      omega (arith, room, own, total, many) in
      let both : length (front ++ p ∷ []) ≡ length front + 1 = length-append front (p ∷ []) in
      let stands : length (front ++ p ∷ []) ≡ (past_own heading body (past_name numbers)).process = omega (arith, both, counted) in
      let whole : all ≡ (front ++ p ∷ []) ++ (is.2.2.0 ++ back) =
      are ∙ ap (λ (qs : List Process). front ++ (qs ++ back)) is.2.2.2 ∙ sym (assoc front (p ∷ []) (is.2.2.0 ++ back)) in
      let inside : CalledBy all (callables signature (suc numbers.process) inner ++ visible) =
      called_both all (callables signature (suc numbers.process) inner) visible
      (callables_called signature all (front ++ p ∷ []) back _ [] (past_own heading body (past_name numbers)) inner is.2.2.0 whole stands
      is.2.2.1) called in
      subst (λ (qs : List Process). Every (Formed signature names all) qs) (sym is.2.2.2) (
        (definition_formed signature names all (callables signature (suc numbers.process) inner ++ visible) (past_name numbers) heading body
            is.2.0 inside have.0 first is.2.1).1,
        inners_formed signature names all (front ++ p ∷ []) back (callables signature (suc numbers.process) inner ++ visible) []
            (past_own heading body (past_name numbers)) inner is.2.2.0 whole stands inside have.1 later is.2.2.1,
      )

  inners_formed : (signature : Signature) (names : ℕ) (all front back : List Process) (visible : List Callable) (before : List Binding)
      (numbers : Numbers) (inners : WrittenInners) (ps : List Process) → all ≡ front ++ (ps ++ back) → length front ≡ numbers.process
      → CalledBy all visible → InnersHaveGateLists inners → numbers.gate + length (inners_gates inners) ≤ names
      → InnersAre signature visible before numbers inners (resolved ps) → Every (Formed signature names all) ps
  inners_formed signature names all front back visible before numbers no_inner ps are counted called have room is =
      subst (λ (qs : List Process). Every (Formed signature names all) qs) (sym (same_resolved ps [] is)) tt
  inners_formed signature names all front back visible before numbers (inner_then inner others) ps are counted called have room is =
      let total : length (inner_gates inner ++ inners_gates others) ≡ length (inner_gates inner) + length (inners_gates others) =
      length-append (inner_gates inner) (inners_gates others) in
      let first : numbers.gate + length (inner_gates inner) ≤ names = omega (arith, room, total) in
      let gate = past_gate inner numbers in
      let later : (past_inner inner numbers).gate + length (inners_gates others) ≤ names = omega (arith, room, total, gate) in
      let many : length is.0 ≡ process_count inner = inner_counted signature visible before numbers inner is.0 is.1 in
      let next = past_process inner numbers in
      let both : length (front ++ is.0) ≡ length front + length is.0 = length-append front is.0 in
      let stands : length (front ++ is.0) ≡ (past_inner inner numbers).process = omega (arith, both, many, next, counted) in
      let placed : all ≡ front ++ (is.0 ++ (is.2.0 ++ back)) =
      are ∙ ap (λ (qs : List Process). front ++ (qs ++ back)) is.2.2 ∙ ap (λ (qs : List Process). front ++ qs) (assoc is.0 is.2.0 back) in
      subst (λ (qs : List Process). Every (Formed signature names all) qs) (sym is.2.2)
      (every_both (Formed signature names all) is.0 is.2.0
      (inner_formed signature names all front (is.2.0 ++ back) visible before numbers inner is.0 placed counted called have.0 first is.1)
      (inners_formed signature names all (front ++ is.0) back visible (with_name inner before) (past_inner inner numbers) others is.2.0
      (placed ∙ sym (assoc front is.0 (is.2.0 ++ back))) stands called have.1 later is.2.1))

pub text_formed : (signature : Signature) (text : WrittenSpecification) (specification : Specification)
    → TextHasGateLists text → SpecificationIs signature text (resolved specification) → IsSpecification signature specification
text_formed signature text specification have is =
    let all = is.2.0 in
    let names = length (declared_gates text) in
    let whole : all ≡ [] ++ (all ++ []) = sym (append_nothing all) in
    let total : length (own_gates text.heading text.body ++ inners_gates (inners_of text.inner))
    ≡ length (own_gates text.heading text.body) + length (inners_gates (inners_of text.inner)) =
    length-append (own_gates text.heading text.body) (inners_gates (inners_of text.inner)) in
    let own : length (spelled_names text.heading.gates ++ gates_in text.body)
    ≡ length (spelled_names text.heading.gates) + length (gates_in text.body) =
    length-append (spelled_names text.heading.gates) (gates_in text.body) in
    let many = length_spelled text.heading.gates in
    let first : 0 + length (own_gates text.heading text.body) ≤ names = omega (arith, total) in
    let later : (past_own text.heading text.body first_numbers).gate + length (inners_gates (inners_of text.inner)) ≤ names =
    omega (arith, total, own, many) in
    let called =
    callables_called signature all [] [] _ [] (past_own text.heading text.body first_numbers)
    (inners_of text.inner) all whole refl is.2.1 in
    subst (λ (s : Specification). IsSpecification signature s) (sym is.2.2) (record {
      whole =
          (definition_formed signature names all (callables signature 0 (inners_of text.inner)) first_numbers text.heading text.body is.0
          called have.0 first is.1).1;
      each =
          inners_formed signature names all [] [] (callables signature 0 (inners_of text.inner)) []
          (past_own text.heading text.body first_numbers) (inners_of text.inner) all whole refl called have.1 later is.2.1;
    })
