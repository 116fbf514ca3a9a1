-- A specification uses the gates that it declares, whose names are distinct.
use Rattle.std.proofs.Common.{◌≡◌, ◌⊎◌, inl, inr, ℕ, zero, suc, ◌+◌, ◌<◌, ◌≤◌, Bool, true, false, nat_eq, if◌then◌else◌, List, [], ◌∷◌, ◌++◌, length, slice_get, Option, None, Some, refl, ap, sym, ◌∙◌, subst, arith, eqb-true, append_assoc}
use Rattle.std.specs.Prelude.{is_some}
use Rattle.std.specs.Str.{bytes_eq}
use Rattle.std.proofs.lemmas.Option.{same_Some}
use Rattle.std.proofs.lemmas.Slice.Eq.{bytes_eq-Decides}
use Rattle.lotos_base.specs.Names.{folded, AreOneName}
use Rattle.lotos_base.specs.Signature.{Signature}
use Rattle.lotos_base.specs.Equation.{Variable}
use Rattle.lotos_base.specs.Substitution.{is_listed}
use Rattle.lotos_base.specs.WrittenTerm.{PlacedName}
use Rattle.lotos_base.proofs.Members.{from_front}
use Rattle.syntax_trees.specs.WrittenBehaviour.{WrittenBehaviour}
use Rattle.syntax_trees.specs.WrittenDefinition.{WrittenHeading, WrittenInner, WrittenInners, inner_item, process, no_inner, inner_then, inners_of, WrittenSpecification}
use Rattle.behaviour_semantics.specs.Behaviour.{Behaviour, Process}
use Rattle.behaviour_semantics.specs.WellFormed.{Every, IsBehaviour, IsDefinition, IsSpecification}
use Rattle.behaviour_semantics.proofs.EveryLemmas.{every_front, every_back}
use Rattle.scope_parts.specs.Resolution.{Resolution, resolved, faulty, and_then}
use Rattle.scope_parts.specs.Scope.{Binding, Callable, bound_to, bind, bind_all, is_bound, double_from, first_double}
use Rattle.scope_parts.specs.Numbering.{Numbers, spelled_names, gates_in, inners_gates}
use Rattle.scope_parts.specs.Sorts.{variables_at, functionality_at}
use Rattle.scope_parts.specs.Behaviours.{numbers_from}
use Rattle.scope_parts.specs.Definitions.{Heading, formal_gates, heading_at, DefinitionIs, InnerIs, InnersAre, specification_with}
use Rattle.scope_parts.proofs.FormedLists.{same_resolved}
use Rattle.declaration_laws.specs.VisibleGates.{IsOneOf, UsesOnly, UsesFormals}
use Rattle.declaration_laws.specs.DeclaredGates.{HasDeclaredGates, TextsHaveDeclaredGates}
use Rattle.declaration_laws.proofs.GateLemmas.{wider}
use Rattle.declaration_laws.proofs.ScopeLemmas.{HasNumber, declared_or_there, behaviour_uses, beside_there}

-- ---- Headings

record IsHeadingFine (numbers : Numbers) (heading : WrittenHeading) (found : Heading) : Type 0 where
  pub gates : found.gates ≡ numbers_from numbers.gate heading.gates
  pub distinct : first_double heading.gates ≡ None

heading_fine : (signature : Signature) (numbers : Numbers) (heading : WrittenHeading) (found : Heading)
    → resolved found ≡ heading_at signature numbers heading → IsHeadingFine numbers heading found
heading_fine signature numbers heading found is =
    by (formal_gates numbers.gate heading.gates) refl (variables_at signature numbers.variable heading.parameters)
    (functionality_at signature heading.functionality) is
  where
    by : (first : Resolution (List ℕ)) → formal_gates numbers.gate heading.gates ≡ first → (second : Resolution (List Variable))
        → (third : Resolution (Option (List ℕ)))
        → resolved found ≡ and_then first (λ gates. and_then second (λ parameters. and_then third (λ exit.
        resolved (record { gates = gates; parameters = parameters; exit = exit }))))
        → IsHeadingFine numbers heading found
    by (resolved gates) first (resolved parameters) (resolved exit) is =
        let parts = beside_there (first_double heading.gates) (resolved (numbers_from numbers.gate heading.gates)) gates (sym first) in
        record {
          gates =
              ap (λ (h : Heading). h.gates) (same_resolved found (record { gates = gates; parameters = parameters; exit = exit }) is)
              ∙ same_resolved gates (numbers_from numbers.gate heading.gates) parts.1;
          distinct = parts.0;
        }
    by (resolved gates) first (resolved parameters) (faulty fault) is = absurd (cc is)
    by (resolved gates) first (faulty fault) third is = absurd (cc is)
    by (faulty fault) first second third is = absurd (cc is)

spelled_long : (names : List PlacedName) → length names ≡ length (spelled_names names)
spelled_long [] = refl
spelled_long (name ∷ names) = ap suc (spelled_long names)

-- ---- Definitions

module _ (signature : Signature) (names : ℕ) (processes : List Process) where
  definition_uses : (visible : List Callable) (numbers : Numbers) (heading : WrittenHeading) (body : WrittenBehaviour)
      (definition : Heading × Behaviour) → DefinitionIs signature visible numbers heading body (resolved definition)
      → (variables : List Variable) → IsBehaviour signature names processes variables definition.1
      → UsesOnly (IsOneOf definition.0.gates) processes definition.1
  definition_uses visible numbers heading body definition is variables well =
      let fine = heading_fine signature numbers heading is.0 is.1 in
      let uses = behaviour_uses processes signature names body _ _ is.2.0 is.2.1 variables
      (subst (λ (d : Heading × Behaviour). IsBehaviour signature names processes variables d.1) is.2.2 well) in
      subst (λ (d : Heading × Behaviour). UsesOnly (IsOneOf d.0.gates) processes d.1) (sym is.2.2)
      (wider processes is.2.0 (HasNumber (bind_all (spelled_names heading.gates) numbers.gate [])) (IsOneOf is.0.gates)
      (λ g there. subst (λ (gates : List ℕ). IsOneOf gates g) (sym fine.gates)
      (declared g (declared_or_there (spelled_names heading.gates) heading.gates numbers.gate [] g (spelled_long heading.gates) there)))
      uses)
    where
      declared : (g : ℕ) → ⊥ ⊎ IsOneOf (numbers_from numbers.gate heading.gates) g → IsOneOf (numbers_from numbers.gate heading.gates) g
      declared g (inl never) = absurd never
      declared g (inr listed) = listed

  -- a process whose body is well formed
  abbrev IsWellProcess : Process → Type 0
  IsWellProcess p = (variables : List Variable) × IsBehaviour signature names processes variables p.body

  both : (ps qs : List Process) → Every (UsesFormals processes) ps → Every (UsesFormals processes) qs
      → Every (UsesFormals processes) (ps ++ qs)
  both [] qs first second = second
  both (p ∷ ps) qs first second = (first.0, both ps qs first.1 second)

  mutual
    inner_uses : (inner : WrittenInner) (visible : List Callable) (before : List Binding) (numbers : Numbers) (found : List Process)
        → InnerIs signature visible before numbers inner (resolved found) → Every IsWellProcess found
        → Every (UsesFormals processes) found
    inner_uses (inner_item item) visible before numbers found is wells =
        subst (Every (UsesFormals processes)) (sym (same_resolved found [] is)) tt
    inner_uses (process heading body inner) visible before numbers found is wells =
        let well = subst (Every IsWellProcess) is.2.2.2 wells in
        subst (Every (UsesFormals processes)) (sym is.2.2.2) (
          definition_uses _ _ heading body is.2.0 is.2.1 well.0.0 well.0.1,
          inners_use inner _ _ _ is.2.2.0 is.2.2.1 well.1,
        )

    inners_use : (inners : WrittenInners) (visible : List Callable) (before : List Binding) (numbers : Numbers) (found : List Process)
        → InnersAre signature visible before numbers inners (resolved found) → Every IsWellProcess found
        → Every (UsesFormals processes) found
    inners_use no_inner visible before numbers found is wells =
        subst (Every (UsesFormals processes)) (sym (same_resolved found [] is)) tt
    inners_use (inner_then inner others) visible before numbers found is wells =
        let well = subst (Every IsWellProcess) is.2.2 wells in
        subst (Every (UsesFormals processes)) (sym is.2.2)
        (both is.0 is.2.0 (inner_uses inner visible before numbers is.0 is.1 (every_front IsWellProcess is.0 is.2.0 well))
        (inners_use others visible _ _ is.2.0 is.2.1 (every_back IsWellProcess is.0 is.2.0 well)))

-- ---- Names

-- numbers from a number on are below that of what comes next
listed_below : {A : Type 0} (xs : List A) (next g : ℕ) → is_listed (numbers_from next xs) g ≡ true → (next ≤ g) × (g < next + length xs)
listed_below [] next g listed = absurd (cc listed)
listed_below (x ∷ xs) next g listed = by (nat_eq next g) refl listed (λ later. listed_below xs (next + 1) g later)
  where
    by : (same : Bool) → nat_eq next g ≡ same → (if same then true else is_listed (numbers_from (next + 1) xs) g) ≡ true
        → (is_listed (numbers_from (next + 1) xs) g ≡ true → (next + 1 ≤ g) × (g < (next + 1) + length xs))
        → (next ≤ g) × (g < next + length (x ∷ xs))
    by true same listed later = let e = eqb-true next g same in (omega (arith, e), omega (arith, e))
    by false same listed later = let h = later listed in (omega (arith, h.0), omega (arith, h.1))

not_some : (found : Option ℕ) → is_some found ≡ false → found ≡ None
not_some None none = refl
not_some (Some n) none = absurd (cc none)

-- a name that no earlier one is
not_bound : (names : List PlacedName) (before : List Binding) (k : ℕ) (name : List ℕ) → double_from before names ≡ None
    → slice_get (spelled_names names) k ≡ Some name → bound_to before (folded name) ≡ None
not_bound [] before k name none found = absurd (cc found)
not_bound (first ∷ names) before k name none found =
    by (is_bound before first.name) refl none k found (λ l rest there. not_bound names (bind first.name 0 before) l name rest there)
  where
    past : (same : Bool) → (if same then Some 0 else bound_to before (folded name)) ≡ None → bound_to before (folded name) ≡ None
    past true is = absurd (cc is)
    past false is = is

    by : (bound : Bool) → is_bound before first.name ≡ bound
        → (if bound then Some first else double_from (bind first.name 0 before) names) ≡ None → (k : ℕ)
        → slice_get (spelled_names (first ∷ names)) k ≡ Some name
        → ((l : ℕ) → double_from (bind first.name 0 before) names ≡ None → slice_get (spelled_names names) l ≡ Some name
        → bound_to (bind first.name 0 before) (folded name) ≡ None)
        → bound_to before (folded name) ≡ None
    by true bound none k found later = absurd (cc none)
    by false bound none zero found later =
        subst (λ (n : List ℕ). bound_to before (folded n) ≡ None) (same_Some first.name name found)
        (not_some (bound_to before (folded first.name)) bound)
    by false bound none (suc k) found later = past (bytes_eq (folded name) (folded first.name)) (later k none found)

one_there : (first : PlacedName) (names : List PlacedName) (before : List Binding) (k : ℕ) (name : List ℕ)
    → double_from (bind first.name 0 before) names ≡ None → slice_get (spelled_names names) k ≡ Some name
    → folded name ≡ folded first.name → ⊥
one_there first names before k name none found same =
    let bound = not_bound names (bind first.name 0 before) k name none found in
    let yes : bytes_eq (folded name) (folded first.name) ≡ true = (bytes_eq-Decides (folded name) (folded first.name)).1 same in
    let there : Some 0 ≡ None =
    sym (ap (λ (b : Bool). if b then Some 0 else bound_to before (folded name)) yes) ∙ bound in
    cc there

distinct_from : (names : List PlacedName) (before : List Binding) (i j : ℕ) (one other : List ℕ) → double_from before names ≡ None
    → slice_get (spelled_names names) i ≡ Some one → slice_get (spelled_names names) j ≡ Some other → folded one ≡ folded other → i ≡ j
distinct_from [] before i j one other none at also same = absurd (cc at)
distinct_from (first ∷ names) before i j one other none at also same =
    by (is_bound before first.name) none i j at also
    (λ k l rest here there. distinct_from names (bind first.name 0 before) k l one other rest here there same)
  where
    by : (bound : Bool) → (if bound then Some first else double_from (bind first.name 0 before) names) ≡ None → (i j : ℕ)
        → slice_get (spelled_names (first ∷ names)) i ≡ Some one → slice_get (spelled_names (first ∷ names)) j ≡ Some other
        → ((k l : ℕ) → double_from (bind first.name 0 before) names ≡ None → slice_get (spelled_names names) k ≡ Some one
        → slice_get (spelled_names names) l ≡ Some other → k ≡ l)
        → i ≡ j
    by true none i j at also later = absurd (cc none)
    by false none zero zero at also later = refl
    by false none zero (suc j) at also later =
        absurd (one_there first names before j other none also
        (sym same ∙ ap folded (sym (same_Some first.name one at))))
    by false none (suc i) zero at also later =
        absurd (one_there first names before i one none at (same ∙ ap folded (sym (same_Some first.name other also))))
    by false none (suc i) (suc j) at also later = ap suc (later i j none at also)

-- ---- The specification

names_distinct : (heading : WrittenHeading) (more : List (List ℕ)) (gates : List ℕ) → gates ≡ numbers_from 0 heading.gates
    → first_double heading.gates ≡ None → (i j : ℕ) (one other : List ℕ) → IsOneOf gates i → IsOneOf gates j
    → slice_get (spelled_names heading.gates ++ more) i ≡ Some one → slice_get (spelled_names heading.gates ++ more) j ≡ Some other
    → AreOneName one other → i ≡ j
names_distinct heading more gates are none i j one other first second at also same =
    distinct_from heading.gates [] i j one other none (from_front (spelled_names heading.gates) more i one (below i first) at)
    (from_front (spelled_names heading.gates) more j other (below j second) also) same
  where
    below : (k : ℕ) → IsOneOf gates k → k < length (spelled_names heading.gates)
    below k listed =
        let h = listed_below heading.gates 0 k (subst (λ (it : List ℕ). IsOneOf it k) are listed) in
        let long = spelled_long heading.gates in omega (arith, h.1, long)

well_processes : (signature : Signature) (names : ℕ) (all ps : List Process)
    → Every (λ (p : Process). IsDefinition signature names all p.gates p.parameters p.exit p.body) ps
    → Every (IsWellProcess signature names all) ps
well_processes signature names all [] wells = tt
well_processes signature names all (p ∷ ps) wells = ((p.parameters, wells.0.behaviour), well_processes signature names all ps wells.1)

made : (signature : Signature) (text : WrittenSpecification) (definition : Heading × Behaviour) (processes : List Process)
    (visible : List Callable) (before : List Binding) (numbers behind : Numbers) → numbers.gate ≡ 0
    → DefinitionIs signature visible numbers text.heading text.body (resolved definition)
    → InnersAre signature visible before behind (inners_of text.inner) (resolved processes)
    → IsSpecification signature (specification_with text definition processes)
    → HasDeclaredGates (specification_with text definition processes)
made signature text definition processes visible before numbers behind first is are well =
    let names : ℕ = length (specification_with text definition processes).gate_names in
    let fine = heading_fine signature numbers text.heading is.0 is.1 in
    let gates : definition.0.gates ≡ numbers_from 0 text.heading.gates =
    ap (λ (d : Heading × Behaviour). d.0.gates) is.2.2
    ∙ (fine.gates ∙ ap (λ (n : ℕ). numbers_from n text.heading.gates) first) in
    record {
      body = definition_uses signature names processes visible numbers text.heading text.body definition is definition.0.parameters
          well.whole.behaviour;
      processes = inners_use signature names processes (inners_of text.inner) visible before behind processes are
          (well_processes signature names processes processes well.each);
      names = λ i j one other listed also at there same.
          names_distinct text.heading (gates_in text.body ++ inners_gates (inners_of text.inner)) definition.0.gates gates fine.distinct
          i j one other listed also
          (subst (λ (all : List (List ℕ)). slice_get all i ≡ Some one)
          (append_assoc (spelled_names text.heading.gates) (gates_in text.body) (inners_gates (inners_of text.inner))) at)
          (subst (λ (all : List (List ℕ)). slice_get all j ≡ Some other)
          (append_assoc (spelled_names text.heading.gates) (gates_in text.body) (inners_gates (inners_of text.inner))) there) same;
    }

pub texts_have_declared_gates : TextsHaveDeclaredGates
texts_have_declared_gates signature text specification is well =
    subst HasDeclaredGates (sym is.2.2)
    (made signature text is.0 is.2.0 _ _ _ _ refl is.1 is.2.1 (subst (IsSpecification signature) is.2.2 well))
