-- What the definitions of a text stand for means itself, each with the numbers that come behind those of the definitions before it.
use Rattle.std.proofs.Common.{◌≡◌, ℕ, suc, ◌+◌, Bool, true, false, List, [], ◌∷◌, ◌++◌, map, length, refl, ap, sym, ◌∙◌, subst, arith, append-nil, length-append}
use Rattle.std.proofs.lemmas.Option.{none-some, same_Some}
use Rattle.std.specs.Prelude.{Option, None, Some, slice_get, if◌then◌else◌}
use Rattle.std.specs.Str.{bytes_eq}
use Rattle.lotos_base.specs.Names.{folded}
use Rattle.lotos_base.specs.Signature.{Signature}
use Rattle.lotos_base.specs.Equation.{Variable}
use Rattle.lotos_base.specs.WrittenTerm.{PlacedName}
use Rattle.syntax_trees.specs.WrittenBehaviour.{WrittenBehaviour}
use Rattle.syntax_trees.specs.WrittenDefinition.{WrittenHeading, WrittenInner, WrittenInners, inner_item, process, no_inner, inner_then, inners_of, WrittenSpecification}
use Rattle.behaviour_semantics.specs.Behaviour.{Behaviour, Process, Specification}
use Rattle.behaviour_semantics.specs.WellFormed.{Every}
use Rattle.printed_texts.specs.BehaviourText.{Naming}
use Rattle.scope_parts.specs.Resolution.{resolved}
use Rattle.scope_parts.specs.Scope.{Binding, Callable, bind_all, callable_named, first_double}
use Rattle.scope_parts.specs.Numbering.{Numbers, spelled_names, gates_in, own_gates, inner_gates, inners_gates, past_gates, past_variables, past_heading, past_own, past_inner, past_inners, process_count, processes_count}
use Rattle.scope_parts.specs.Sorts.{sort_at, sorts_at, functionality_at, sorted_variables, variables_at, placed_variables, sorts_if}
use Rattle.scope_parts.specs.Behaviours.{numbers_from, BehaviourIs}
use Rattle.scope_parts.specs.Definitions.{Heading, formal_gates, heading_at, own_scope, DefinitionIs, callable_of, callables, process_with, past_name, with_name, InnerIs, InnersAre, first_numbers, declared_gates, SpecificationIs}
use Rattle.scope_parts.proofs.FormedLists.{same_resolved, made_of, front_of, beside_of}
use Rattle.scope_parts.proofs.FormedDefinitions.{length_spelled, every_both, same_sorts, length_numbers}
use Rattle.declaration_laws.proofs.NumberLemmas.{behaviour_made, own_gate, inner_gate}
use Rattle.session_laws.specs.Meanings.{SortMeans, gate_texts, NoneStandsTwice, AreDeclaredVariables, AreDeclaredGates, PrintedScope, past_behaviour, BehaviourMeans}
use Rattle.session_laws.specs.MeaningLaws.{IsCallableOf, LeavesOutTruth, AreCallable, FitsNaming, AreNamesFrom}
use Rattle.session_laws.specs.WrittenSpecifications.{whole_of}
use Rattle.session_laws.proofs.BehavioursResolved.{past_is}
use Rattle.session_laws.proofs.PartsMeant.{no_double_beside, none_twice, sort_meant, variables_meant, declared_counted, known_more, texts_of_row, names_first, names_last, row_again, fits_more}
use Rattle.session_laws.proofs.ChoicesMeant.{at}
use Rattle.session_laws.proofs.BehavioursMeant.{behaviour_meant}

-- ---- Definitions that mean themselves

-- where the body of a process is printed
abbrev pub inside_of : Naming → Numbers → Process → PrintedScope
inside_of naming numbers p = record {
  gates = bind_all (gate_texts naming p.gates) numbers.gate [];
  variables = p.parameters;
  names = p.parameters;
  numbers = past_variables (length p.parameters) (past_gates (length p.gates) numbers);
}

abbrev pub FunctionalityMeans : Signature → Option (List ℕ) → Type 0
FunctionalityMeans signature None = Unit {0}
FunctionalityMeans signature (Some sorts) = Every (SortMeans signature) sorts

pub record DefinitionMeans (naming : Naming) (all : List Process) (numbers : Numbers) (p : Process) : Type 0 where
  pub gates : AreDeclaredGates naming numbers.gate p.gates
  pub parameters : AreDeclaredVariables naming.signature numbers.variable p.parameters
  pub functionality : FunctionalityMeans naming.signature p.exit
  pub body : BehaviourMeans naming all (inside_of naming numbers p) p.body

-- the numbers behind a definition, and behind processes
abbrev pub behind_definition : Process → Numbers → Numbers
behind_definition p numbers =
    past_behaviour p.body (past_variables (length p.parameters) (past_gates (length p.gates) numbers))

abbrev pub behind_processes : List Process → Numbers → Numbers
behind_processes [] numbers = numbers
behind_processes (p ∷ processes) numbers = behind_processes processes (behind_definition p (past_name numbers))

-- processes one after the other
abbrev pub ProcessesMean : Naming → List Process → Numbers → List Process → Type 0
ProcessesMean naming all numbers [] = Unit {0}
ProcessesMean naming all numbers (p ∷ processes) =
    DefinitionMeans naming all (past_name numbers) p × ProcessesMean naming all (behind_definition p (past_name numbers)) processes

means_joined : (naming : Naming) (all : List Process) (numbers : Numbers) (xs ys : List Process) → ProcessesMean naming all numbers xs
    → ProcessesMean naming all (behind_processes xs numbers) ys → ProcessesMean naming all numbers (xs ++ ys)
means_joined naming all numbers [] ys first second = second
means_joined naming all numbers (p ∷ xs) ys first second =
    (first.0, means_joined naming all (behind_definition p (past_name numbers)) xs ys first.1 second)

behind_joined : (numbers : Numbers) (xs ys : List Process)
    → behind_processes (xs ++ ys) numbers ≡ behind_processes ys (behind_processes xs numbers)
behind_joined numbers [] ys = refl
behind_joined numbers (p ∷ xs) ys = behind_joined (behind_definition p (past_name numbers)) xs ys

-- ---- Headings

sorts_meant : (signature : Signature) (names : List PlacedName) (sorts : List ℕ) → resolved sorts ≡ sorts_at signature names
    → Every (SortMeans signature) sorts
sorts_meant signature [] sorts is = subst (λ (ss : List ℕ). Every (SortMeans signature) ss) (sym (same_resolved sorts [] is)) tt
sorts_meant signature (name ∷ names) sorts is =
    let first = made_of (sort_at signature name.place name.name) _ sorts is in
    let rest = front_of first.0 (sorts_at signature names) sorts first.2 in
    subst (λ (ss : List ℕ). Every (SortMeans signature) ss) (sym rest.2)
    (sort_meant signature name.place name.name first.0 first.1, sorts_meant signature names rest.0 rest.1)

functionality_meant : (signature : Signature) (names : Option (List PlacedName)) (exit : Option (List ℕ))
    → resolved exit ≡ functionality_at signature names → FunctionalityMeans signature exit
functionality_meant signature None exit is = subst (FunctionalityMeans signature) (sym (same_resolved exit None is)) tt
functionality_meant signature (Some names) exit is =
    let sorts = made_of (sorts_at signature names) _ exit is in
    subst (FunctionalityMeans signature) (sym (same_resolved exit (Some sorts.0) sorts.2)) (sorts_meant signature names sorts.0 sorts.1)

record IsHeadingMeant (signature : Signature) (numbers : Numbers) (heading : WrittenHeading) (h : Heading) : Type 0 where
  gates : h.gates ≡ numbers_from numbers.gate heading.gates
  distinct : NoneStandsTwice [] (spelled_names heading.gates)
  parameters : AreDeclaredVariables signature numbers.variable h.parameters
  counted : length h.parameters ≡ length heading.parameters
  sorts : sorts_if signature heading.parameters ≡ map (λ (x : Variable). Some x.sort) h.parameters
  functionality : FunctionalityMeans signature h.exit

heading_meant : (signature : Signature) (numbers : Numbers) (heading : WrittenHeading) (h : Heading)
    → resolved h ≡ heading_at signature numbers heading → IsHeadingMeant signature numbers heading h
heading_meant signature numbers heading h is =
    let gates = made_of (formal_gates numbers.gate heading.gates) _ h is in
    let parameters = made_of (variables_at signature numbers.variable heading.parameters) _ h gates.2 in
    let exit = made_of (functionality_at signature heading.functionality) _ h parameters.2 in
    let row : List ℕ = numbers_from numbers.gate heading.gates in
    let placed : List PlacedName = placed_variables heading.parameters in
    subst (IsHeadingMeant signature numbers heading)
    (sym (same_resolved h (record { gates = gates.0; parameters = parameters.0; exit = exit.0 }) exit.2)) (record {
      gates = same_resolved gates.0 row (beside_of (first_double heading.gates) (resolved row) gates.0 gates.1);
      distinct = none_twice [] heading.gates (no_double_beside (first_double heading.gates) (resolved row) gates.0 gates.1);
      parameters = variables_meant signature numbers.variable heading.parameters parameters.0 parameters.1;
      counted = declared_counted signature numbers.variable heading.parameters parameters.0 parameters.1;
      sorts =
          same_sorts signature numbers.variable heading.parameters parameters.0
          (beside_of (first_double placed) (sorted_variables signature numbers.variable heading.parameters) parameters.0 parameters.1);
      functionality = functionality_meant signature heading.functionality exit.0 exit.1;
    })

pub row_spelled : (next : ℕ) (names : List PlacedName) → numbers_from next (spelled_names names) ≡ numbers_from next names
row_spelled next [] = refl
row_spelled next (name ∷ names) = ap (λ (ns : List ℕ). next ∷ ns) (row_spelled (next + 1) names)

-- ---- A definition

module _ (naming : Naming) (all : List Process) (leaves : LeavesOutTruth naming) where
  -- a definition of a text, with the numbers behind it and what its callers see
  pub record IsDefinitionMeant (numbers : Numbers) (heading : WrittenHeading) (body : WrittenBehaviour) (p : Process) : Type 0 where
    pub means : DefinitionMeans naming all numbers p
    pub behind : past_own heading body numbers ≡ behind_definition p numbers

  definition_made : (visible : List Callable) (numbers : Numbers) (heading : WrittenHeading) (body : WrittenBehaviour) (name : List ℕ)
      (h : Heading) (b : Behaviour) → AreCallable all visible → AreNamesFrom naming numbers.gate (own_gates heading body)
      → IsHeadingMeant naming.signature numbers heading h
      → BehaviourIs naming.signature (own_scope visible numbers heading h) (past_heading heading numbers) body (resolved b)
      → IsDefinitionMeant numbers heading body
      (record { name = name; gates = h.gates; parameters = h.parameters; exit = h.exit; body = b })
  definition_made visible numbers heading body name h b called named meant is = record {
    means = record {
      gates = record {
        numbered = subst (λ (gs : List ℕ). numbers_from next gs ≡ gs) (sym meant.gates) (row_again next heading.gates);
        distinct = subst (λ (ns : List (List ℕ)). NoneStandsTwice [] ns) (sym texts) meant.distinct;
      };
      parameters = meant.parameters;
      functionality = meant.functionality;
      body = subst (λ (scope : PrintedScope). BehaviourMeans naming all scope b) same inner;
    };
    behind =
        past_is (past_heading heading numbers) body b
        (behaviour_made naming.signature body (own_scope visible numbers heading h) (past_heading heading numbers) b is)
        ∙ ap (λ (n : Numbers). past_behaviour b n) numbers_same;
  }
    where
      next : ℕ
      next = numbers.gate

      names : List (List ℕ)
      names = spelled_names heading.gates

      first : AreNamesFrom naming next names
      first = names_first naming names (gates_in body) next named

      texts : gate_texts naming h.gates ≡ names
      texts =
          ap (λ (gs : List ℕ). gate_texts naming gs) (meant.gates ∙ sym (row_spelled next heading.gates))
          ∙ texts_of_row naming names next first

      many : length heading.gates ≡ length h.gates
      many = sym (ap (λ (gs : List ℕ). length gs) meant.gates ∙ length_numbers next heading.gates)

      numbers_same : past_heading heading numbers ≡ past_variables (length h.parameters) (past_gates (length h.gates) numbers)
      numbers_same =
          ap (λ (n : ℕ). past_variables n (past_gates (length heading.gates) numbers)) (sym meant.counted)
          ∙ ap (λ (n : ℕ). past_variables (length h.parameters) (past_gates n numbers)) many

      same : at (bind_all names next []) h.parameters h.parameters (past_heading heading numbers)
          ≡ inside_of naming numbers (record { name = name; gates = h.gates; parameters = h.parameters; exit = h.exit; body = b })
      same =
          ap (λ (ns : List (List ℕ)). at (bind_all ns next []) h.parameters h.parameters (past_heading heading numbers)) (sym texts)
          ∙ ap (λ (n : Numbers). at (bind_all (gate_texts naming h.gates) next []) h.parameters h.parameters n) numbers_same

      fits : FitsNaming naming (at (bind_all names next []) h.parameters h.parameters (past_heading heading numbers))
      fits =
          subst
          (λ (n : ℕ). FitsNaming naming
          (at (bind_all names next []) h.parameters h.parameters (past_variables n (past_gates (length heading.gates) numbers))))
          meant.counted
          (subst
          (λ (xs : List Variable). FitsNaming naming
          (at (bind_all names next []) h.parameters xs
          (past_variables (length h.parameters) (past_gates (length heading.gates) numbers))))
          (append-nil h.parameters)
          (fits_more naming (at (bind_all names next []) [] [] (past_gates (length heading.gates) numbers)) h.parameters
          (record { gates = known_more naming names next [] first tt; variables = tt }) meant.parameters.numbered))

      body_names : AreNamesFrom naming (next + length heading.gates) (gates_in body)
      body_names =
          subst (λ (n : ℕ). AreNamesFrom naming (next + n) (gates_in body)) (length_spelled heading.gates)
          (names_last naming names (gates_in body) next named)

      inner : BehaviourMeans naming all
          (at (bind_all names next []) h.parameters h.parameters (past_heading heading numbers)) b
      inner =
          behaviour_meant naming all visible leaves called body
          (at (bind_all names next []) h.parameters h.parameters (past_heading heading numbers)) b fits body_names is

  pub definition_meant : (visible : List Callable) (numbers : Numbers) (heading : WrittenHeading) (body : WrittenBehaviour)
      (d : Heading × Behaviour) → AreCallable all visible → AreNamesFrom naming numbers.gate (own_gates heading body)
      → DefinitionIs naming.signature visible numbers heading body (resolved d)
      → IsDefinitionMeant numbers heading body (process_with heading d)
  definition_meant visible numbers heading body d called named is =
      subst (λ (e : Heading × Behaviour). IsDefinitionMeant numbers heading body (process_with heading e)) (sym is.2.2)
      (definition_made visible numbers heading body heading.name is.0 is.2.0 called named
      (heading_meant naming.signature numbers heading is.0 is.1) is.2.1)

-- what the callers of a process see
callable_meant : (signature : Signature) (visible : List Callable) (numbers : Numbers) (number : ℕ) (heading : WrittenHeading)
    (body : WrittenBehaviour) (d : Heading × Behaviour) → DefinitionIs signature visible numbers heading body (resolved d)
    → IsCallableOf number (process_with heading d) (callable_of signature number heading)
callable_meant signature visible numbers number heading body d is =
    let meant = heading_meant signature numbers heading is.0 is.1 in
    subst (λ (e : Heading × Behaviour). IsCallableOf number (process_with heading e) (callable_of signature number heading)) (sym is.2.2)
    (record {
      numbered = refl;
      gates = sym (ap (λ (gs : List ℕ). length gs) meant.gates ∙ length_numbers numbers.gate heading.gates);
      sorts = meant.sorts;
    })

-- ---- Where processes stand

-- the processes stand among all of them from this number on
abbrev pub StandAt : List Process → ℕ → List Process → Type 0
StandAt all next [] = Unit {0}
StandAt all next (p ∷ processes) = (slice_get all next ≡ Some p) × StandAt all (suc next) processes

stand_first : (all : List Process) (next : ℕ) (xs ys : List Process) → StandAt all next (xs ++ ys) → StandAt all next xs
stand_first all next [] ys stand = tt
stand_first all next (x ∷ xs) ys stand = (stand.0, stand_first all (suc next) xs ys stand.1)

stand_last : (all : List Process) (next : ℕ) (xs ys : List Process) → StandAt all next (xs ++ ys) → StandAt all (next + length xs) ys
stand_last all next [] ys stand = let none : next ≡ next + 0 = omega arith in subst (λ (n : ℕ). StandAt all n ys) none stand
stand_last all next (x ∷ xs) ys stand =
    let one : suc next + length xs ≡ next + suc (length xs) = omega arith in
    subst (λ (n : ℕ). StandAt all n ys) one (stand_last all (suc next) xs ys stand.1)

stand_later : (p : Process) (all : List Process) (next : ℕ) (xs : List Process) → StandAt all next xs → StandAt (p ∷ all) (suc next) xs
stand_later p all next [] stand = tt
stand_later p all next (x ∷ xs) stand = (stand.0, stand_later p all (suc next) xs stand.1)

pub all_stand : (all : List Process) → StandAt all 0 all
all_stand [] = tt
all_stand (p ∷ all) = (refl, stand_later p all 0 all (all_stand all))

-- ---- Callables

-- the callable is one of a process
record HasProcess (all : List Process) (callable : Callable) : Type 0 where
  process_of : Process
  there : slice_get all callable.number ≡ Some process_of
  is : IsCallableOf callable.number process_of callable

every_called : (all : List Process) (callables : List Callable) → Every (HasProcess all) callables → AreCallable all callables
every_called all [] each name callable found = absurd (none-some callable found)
every_called all (c ∷ callables) each name callable found =
    go (bytes_eq (folded name) (folded c.name)) found (λ later. every_called all callables each.1 name callable later)
  where
    go : (b : Bool) → (if b then Some c else callable_named callables name) ≡ Some callable
        → (callable_named callables name ≡ Some callable
        → (p : Process) × (slice_get all callable.number ≡ Some p) × IsCallableOf callable.number p callable)
        → (p : Process) × (slice_get all callable.number ≡ Some p) × IsCallableOf callable.number p callable
    go true is later =
        let here : HasProcess all callable = subst (HasProcess all) (same_Some c callable is) each.0 in
        (here.process_of, here.there, here.is)
    go false is later = later is

-- how many processes there are
record IsCounted (numbers behind : Numbers) (count : ℕ) (ps : List Process) : Type 0 where
  long : length ps ≡ count
  past : behind.process ≡ numbers.process + count

mutual
  inner_counted : (signature : Signature) (w : WrittenInner) (visible : List Callable) (before : List Binding) (numbers : Numbers)
      (ps : List Process) → InnerIs signature visible before numbers w (resolved ps)
      → IsCounted numbers (past_inner w numbers) (process_count w) ps
  inner_counted signature (inner_item item) visible before numbers ps is =
      record { long = ap (λ (qs : List Process). length qs) (same_resolved ps [] is); past = omega arith }
  inner_counted signature (process heading body inner) visible before numbers ps is =
      let rest : IsCounted (past_own heading body (past_name numbers)) (past_inners inner (past_own heading body (past_name numbers)))
      (processes_count inner) is.2.2.0 =
      inners_counted signature inner _ [] (past_own heading body (past_name numbers)) is.2.2.0 is.2.2.1 in
      let past = rest.past in
      record { long = ap (λ (qs : List Process). length qs) is.2.2.2 ∙ ap suc rest.long; past = omega (arith, past) }

  inners_counted : (signature : Signature) (ws : WrittenInners) (visible : List Callable) (before : List Binding) (numbers : Numbers)
      (ps : List Process) → InnersAre signature visible before numbers ws (resolved ps)
      → IsCounted numbers (past_inners ws numbers) (processes_count ws) ps
  inners_counted signature no_inner visible before numbers ps is =
      record { long = ap (λ (qs : List Process). length qs) (same_resolved ps [] is); past = omega arith }
  inners_counted signature (inner_then inner others) visible before numbers ps is =
      let first = inner_counted signature inner visible before numbers is.0 is.1 in
      let rest =
      inners_counted signature others visible (with_name inner before) (past_inner inner numbers) is.2.0 is.2.1 in
      let first_long = first.long in
      let rest_long = rest.long in
      let first_past = first.past in
      let rest_past = rest.past in
      let both = length-append is.0 is.2.0 in
      record {
        long = ap (λ (qs : List Process). length qs) is.2.2 ∙ both ∙ omega (arith, first_long, rest_long);
        past = omega (arith, first_past, rest_past);
      }

-- the callables of a `where` are those of its processes
where_called : (signature : Signature) (all : List Process) (ws : WrittenInners) (visible : List Callable) (before : List Binding)
    (numbers : Numbers) (ps : List Process) → StandAt all numbers.process ps
    → InnersAre signature visible before numbers ws (resolved ps)
    → Every (HasProcess all) (callables signature numbers.process ws)
where_called signature all no_inner visible before numbers ps stand is = tt
where_called signature all (inner_then (inner_item item) others) visible before numbers ps stand is =
    let same : ps ≡ is.2.0 = is.2.2 ∙ ap (λ (qs : List Process). qs ++ is.2.0) (same_resolved is.0 [] is.1) in
    where_called signature all others visible before numbers is.2.0
    (subst (λ (qs : List Process). StandAt all numbers.process qs) same stand) is.2.1
where_called signature all (inner_then (process heading body inner) others) visible before numbers ps stand is =
    let counted =
    inner_counted signature (process heading body inner) visible before numbers is.0 is.1 in
    let joined : StandAt all numbers.process (is.0 ++ is.2.0) =
    subst (λ (qs : List Process). StandAt all numbers.process qs) is.2.2 stand in
    let first : StandAt all numbers.process (process_with heading is.1.2.0 ∷ is.1.2.2.0) =
    subst (λ (qs : List Process). StandAt all numbers.process qs) is.1.2.2.2
    (stand_first all numbers.process is.0 is.2.0 joined) in
    let rest : StandAt all (numbers.process + process_count (process heading body inner)) is.2.0 =
    subst (λ (n : ℕ). StandAt all (numbers.process + n) is.2.0) counted.long (stand_last all numbers.process is.0 is.2.0 joined) in
    let place : numbers.process + process_count (process heading body inner) ≡ (past_inner (process heading body inner) numbers).process =
    sym counted.past in (
      record {
        process_of = process_with heading is.1.2.0;
        there = first.0;
        is = callable_meant signature _ (past_name numbers) numbers.process heading body is.1.2.0 is.1.2.1;
      },
      subst (λ (n : ℕ). Every (HasProcess all) (callables signature n others)) (sym place)
          (where_called signature all others visible (with_name (process heading body inner) before)
          (past_inner (process heading body inner) numbers) is.2.0 (subst (λ (n : ℕ). StandAt all n is.2.0) place rest) is.2.1),
    )

-- ---- All processes

module _ (naming : Naming) (all : List Process) (leaves : LeavesOutTruth naming) where
  pub record AreProcessesMeant (numbers behind : Numbers) (ps : List Process) : Type 0 where
    pub means : ProcessesMean naming all numbers ps
    pub behind_them : behind ≡ behind_processes ps numbers

  two_meant : (numbers middle behind : Numbers) (ps xs ys : List Process) → ps ≡ xs ++ ys → AreProcessesMeant numbers middle xs
      → AreProcessesMeant middle behind ys → AreProcessesMeant numbers behind ps
  two_meant numbers middle behind ps xs ys joined first second =
      subst (AreProcessesMeant numbers behind) (sym joined) (record {
        means =
            means_joined naming all numbers xs ys first.means
            (subst (λ (n : Numbers). ProcessesMean naming all n ys) first.behind_them second.means);
        behind_them =
            second.behind_them ∙ ap (λ (n : Numbers). behind_processes ys n) first.behind_them ∙ sym (behind_joined numbers xs ys);
      })

  mutual
    inner_meant : (w : WrittenInner) (visible : List Callable) (before : List Binding) (numbers : Numbers) (ps : List Process)
        → Every (HasProcess all) visible → StandAt all numbers.process ps → AreNamesFrom naming numbers.gate (inner_gates w)
        → InnerIs naming.signature visible before numbers w (resolved ps)
        → AreProcessesMeant numbers (past_inner w numbers) ps
    inner_meant (inner_item item) visible before numbers ps called stand named is =
        subst (AreProcessesMeant numbers numbers) (sym (same_resolved ps [] is)) (record { means = tt; behind_them = refl })
    inner_meant (process heading body inner) visible before numbers ps called stand named is =
        let p : Process = process_with heading is.2.0 in
        let within : Numbers = past_own heading body (past_name numbers) in
        let there : StandAt all numbers.process (p ∷ is.2.2.0) =
        subst (λ (qs : List Process). StandAt all numbers.process qs) is.2.2.2 stand in
        let inside : Every (HasProcess all) (callables naming.signature (suc numbers.process) inner ++ visible) =
        every_both (HasProcess all) (callables naming.signature (suc numbers.process) inner) visible
        (where_called naming.signature all inner _ [] within is.2.2.0 there.1 is.2.2.1) called in
        let own : IsDefinitionMeant naming all leaves (past_name numbers) heading body p =
        definition_meant naming all leaves (callables naming.signature (suc numbers.process) inner ++ visible) (past_name numbers) heading
        body is.2.0 (every_called all _ inside) (names_first naming (own_gates heading body) (inners_gates inner) numbers.gate named)
        is.2.1 in
        let names : AreNamesFrom naming within.gate (inners_gates inner) =
        subst (λ (n : ℕ). AreNamesFrom naming n (inners_gates inner)) (sym (own_gate naming.signature (past_name numbers) heading body))
        (names_last naming (own_gates heading body) (inners_gates inner) numbers.gate named) in
        let rest =
        inners_meant inner (callables naming.signature (suc numbers.process) inner ++ visible) [] within is.2.2.0 inside there.1 names
        is.2.2.1 in
        subst (AreProcessesMeant numbers (past_inners inner within)) (sym is.2.2.2) (record {
          means = (own.means, subst (λ (n : Numbers). ProcessesMean naming all n is.2.2.0) own.behind rest.means);
          behind_them = rest.behind_them ∙ ap (λ (n : Numbers). behind_processes is.2.2.0 n) own.behind;
        })

    inners_meant : (ws : WrittenInners) (visible : List Callable) (before : List Binding) (numbers : Numbers) (ps : List Process)
        → Every (HasProcess all) visible → StandAt all numbers.process ps → AreNamesFrom naming numbers.gate (inners_gates ws)
        → InnersAre naming.signature visible before numbers ws (resolved ps)
        → AreProcessesMeant numbers (past_inners ws numbers) ps
    inners_meant no_inner visible before numbers ps called stand named is =
        subst (AreProcessesMeant numbers numbers) (sym (same_resolved ps [] is)) (record { means = tt; behind_them = refl })
    inners_meant (inner_then inner others) visible before numbers ps called stand named is =
        let counted = inner_counted naming.signature inner visible before numbers is.0 is.1 in
        let joined : StandAt all numbers.process (is.0 ++ is.2.0) =
        subst (λ (qs : List Process). StandAt all numbers.process qs) is.2.2 stand in
        let place : numbers.process + length is.0 ≡ (past_inner inner numbers).process =
        ap (λ (n : ℕ). numbers.process + n) counted.long ∙ sym counted.past in
        two_meant numbers (past_inner inner numbers) (past_inners others (past_inner inner numbers)) ps is.0 is.2.0 is.2.2
        (inner_meant inner visible before numbers is.0 called (stand_first all numbers.process is.0 is.2.0 joined)
        (names_first naming (inner_gates inner) (inners_gates others) numbers.gate named) is.1)
        (inners_meant others visible (with_name inner before) (past_inner inner numbers) is.2.0 called
        (subst (λ (n : ℕ). StandAt all n is.2.0) place (stand_last all numbers.process is.0 is.2.0 joined))
        (subst (λ (n : ℕ). AreNamesFrom naming n (inners_gates others)) (sym (inner_gate naming.signature inner numbers))
        (names_last naming (inner_gates inner) (inners_gates others) numbers.gate named)) is.2.1)

-- ---- A specification

pub record SpecificationMeans (naming : Naming) (specification : Specification) : Type 0 where
  pub whole : DefinitionMeans naming specification.processes first_numbers (whole_of specification)
  pub processes_mean :
      ProcessesMean naming specification.processes (behind_definition (whole_of specification) first_numbers)
      specification.processes

pub specification_meant : (naming : Naming) (text : WrittenSpecification) (specification : Specification) → LeavesOutTruth naming
    → AreNamesFrom naming 0 (declared_gates text) → SpecificationIs naming.signature text (resolved specification)
    → SpecificationMeans naming specification
specification_meant naming text specification leaves named is =
    let all : List Process = is.2.0 in
    let inner : WrittenInners = inners_of text.inner in
    let behind : Numbers = past_own text.heading text.body first_numbers in
    let called : Every (HasProcess all) (callables naming.signature 0 inner) =
    where_called naming.signature all inner _ [] behind all (all_stand all) is.2.1 in
    let own =
    definition_meant naming all leaves (callables naming.signature 0 inner) first_numbers text.heading text.body is.0
    (every_called all _ called) (names_first naming (own_gates text.heading text.body) (inners_gates inner) 0 named) is.1 in
    let names : AreNamesFrom naming behind.gate (inners_gates inner) =
    subst (λ (n : ℕ). AreNamesFrom naming n (inners_gates inner))
    (sym (own_gate naming.signature first_numbers text.heading text.body))
    (names_last naming (own_gates text.heading text.body) (inners_gates inner) 0 named) in
    let rest =
    inners_meant naming all leaves inner (callables naming.signature 0 inner) [] behind all called (all_stand all) names is.2.1 in
    subst (SpecificationMeans naming) (sym is.2.2) (record {
      whole = record {
        gates = own.means.gates;
        parameters = own.means.parameters;
        functionality = own.means.functionality;
        body = own.means.body;
      };
      processes_mean = subst (λ (n : Numbers). ProcessesMean naming all n all) own.behind rest.means;
    })
