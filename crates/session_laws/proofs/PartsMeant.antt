-- What parts of behaviours stand for means itself where they are written.
use Rattle.std.proofs.Common.{◌≡◌, ℕ, suc, ◌+◌, ◌<◌, ◌≤◌, Bool, true, false, nat_eq, List, [], ◌∷◌, ◌++◌, length, refl, ap, sym, ◌∙◌, subst, arith}
use Rattle.std.proofs.lemmas.Bool.{eqb-true, eq-eqb}
use Rattle.std.proofs.lemmas.Option.{none-some, same_Some}
use Rattle.std.specs.Prelude.{Option, None, Some, slice_get, if◌then◌else◌}
use Rattle.std.specs.Str.{bytes_eq}
use Rattle.lotos_base.proofs.Bytes.{same_bytes}
use Rattle.lotos_base.specs.Names.{folded, AreOneName}
use Rattle.lotos_base.specs.Signature.{Signature, Sort}
use Rattle.lotos_base.specs.Equation.{Place, Variable}
use Rattle.lotos_base.specs.WrittenTerm.{PlacedName}
use Rattle.syntax_trees.specs.WrittenVariable.{WrittenVariable}
use Rattle.sort_terms.specs.ReadingOutcome.{one_name}
use Rattle.behaviour_semantics.specs.WellFormed.{Every}
use Rattle.behaviour_semantics.proofs.InstanceLemmas.{every_at}
use Rattle.printed_texts.specs.TermText.{sort_text, sort_name}
use Rattle.session_histories.specs.HandedOn.{variable_text}
use Rattle.printed_texts.specs.BehaviourText.{Naming, gate_text}
use Rattle.session_histories.specs.BoundNames.{names_of_variables}
use Rattle.scope_parts.specs.Resolution.{Resolution, resolved, faulty, beside}
use Rattle.scope_parts.specs.Scope.{Binding, bound_to, bind, bind_all, is_bound, found_gate, gate_at, gates_at, double_from, first_double}
use Rattle.scope_parts.specs.Numbering.{spelled_names, each_once_from}
use Rattle.scope_parts.specs.Sorts.{sort_from, sort_named, found_sort, sort_at, variable_at, sorted_variables, variables_at, placed_variables}
use Rattle.scope_parts.specs.Behaviours.{numbers_from}
use Rattle.scope_parts.proofs.FormedLists.{same_resolved, never_faulty, made_of, front_of, beside_of}
use Rattle.scope_parts.proofs.FormedDefinitions.{every_both}
use Rattle.session_laws.specs.TermMeanings.{AreLookedUp}
use Rattle.session_laws.specs.Meanings.{SortMeans, GateMeans, gate_texts, NoneStandsTwice, AreInRow, AreDeclaredVariables, PrintedScope, behind_variables}
use Rattle.session_laws.specs.MeaningLaws.{FitsNaming, AreNamesFrom}

-- ---- Names that stand once

pub no_double_beside : {A : Type 0} (double : Option PlacedName) (r : Resolution A) (x : A) → resolved x ≡ beside double r → double ≡ None
no_double_beside None r x is = refl
no_double_beside (Some double) (resolved y) x is = never_faulty x _ is
no_double_beside (Some double) (faulty f) x is = never_faulty x _ is

pub none_twice : (before : List Binding) (names : List PlacedName) → double_from before names ≡ None
    → NoneStandsTwice before (spelled_names names)
none_twice before [] none = tt
none_twice before (name ∷ names) none =
    go (is_bound before name.name) refl none (λ later. none_twice (bind name.name 0 before) names later)
  where
    go : (b : Bool) → is_bound before name.name ≡ b → (if b then Some name else double_from (bind name.name 0 before) names) ≡ None
        → (double_from (bind name.name 0 before) names ≡ None → NoneStandsTwice (bind name.name 0 before) (spelled_names names))
        → NoneStandsTwice before (spelled_names (name ∷ names))
    go true is none later = absurd (none-some _ (sym none))
    go false is none later = (is, later none)

pub once_none_twice : (before : List Binding) (names : List (List ℕ)) → NoneStandsTwice before (each_once_from before names)
once_none_twice before [] = tt
once_none_twice before (name ∷ names) =
    go (is_bound before name) refl (once_none_twice before names) (once_none_twice (bind name 0 before) names)
  where
    go : (b : Bool) → is_bound before name ≡ b → NoneStandsTwice before (each_once_from before names)
        → NoneStandsTwice (bind name 0 before) (each_once_from (bind name 0 before) names)
        → NoneStandsTwice before
        (if b then each_once_from before names else name ∷ each_once_from (bind name 0 before) names)
    go true is same later = same
    go false is same later = (is, later)

-- ---- Sorts

same_sort : (first : ℕ) (sorts : List Sort) (one other : List ℕ) → AreOneName one other
    → sort_from first sorts one ≡ sort_from first sorts other
same_sort first [] one other same = refl
same_sort first (sort ∷ sorts) one other same =
    ap (λ (key : List ℕ). if bytes_eq (folded sort.name) key then Some first else sort_from (suc first) sorts one) same
    ∙ ap (λ (o : Option ℕ). if one_name sort.name other then Some first else o) (same_sort (suc first) sorts one other same)

record IsSortFrom (first : ℕ) (sorts : List Sort) (name : List ℕ) (number : ℕ) : Type 0 where
  position : ℕ
  sort : Sort
  counted : number ≡ first + position
  there : slice_get sorts position ≡ Some sort
  named : AreOneName sort.name name

sort_there : (first : ℕ) (sorts : List Sort) (name : List ℕ) (n : ℕ) → sort_from first sorts name ≡ Some n
    → IsSortFrom first sorts name n
sort_there first [] name n is = absurd (none-some n is)
sort_there first (sort ∷ sorts) name n is =
    go (one_name sort.name name) refl is (λ later. sort_there (suc first) sorts name n later)
  where
    go : (b : Bool) → one_name sort.name name ≡ b → (if b then Some first else sort_from (suc first) sorts name) ≡ Some n
        → (sort_from (suc first) sorts name ≡ Some n → IsSortFrom (suc first) sorts name n) → IsSortFrom first (sort ∷ sorts) name n
    go true test is later =
        let same : first ≡ n = same_Some _ _ is in
        record {
          position = 0;
          sort = sort;
          counted = omega (arith, same);
          there = refl;
          named = same_bytes (folded sort.name) (folded name) test;
        }
    go false test is later =
        let rest : IsSortFrom (suc first) sorts name n = later is in
        let counted : n ≡ suc first + rest.position = rest.counted in
        record {
          position = suc rest.position;
          sort = rest.sort;
          counted = omega (arith, counted);
          there = rest.there;
          named = rest.named;
        }

module _ (signature : Signature) where
  pub sort_meant : (place : Place) (name : List ℕ) (sort : ℕ) → resolved sort ≡ sort_at signature place name → SortMeans signature sort
  sort_meant place name sort is = go (sort_named signature name) refl is
    where
      go : (o : Option ℕ) → sort_named signature name ≡ o → resolved sort ≡ found_sort place name o → SortMeans signature sort
      go None found is = never_faulty sort _ is
      go (Some n) found is =
          let same : n ≡ sort = sym (same_resolved sort n is) in
          let there : IsSortFrom 0 signature.sorts name n = sort_there 0 signature.sorts name n found in
          let counted : n ≡ 0 + there.position = there.counted in
          let at : there.position ≡ sort = omega (arith, same, counted) in
          let text : sort_text signature sort ≡ there.sort.name =
          ap sort_name (ap (λ (k : ℕ). slice_get signature.sorts k) (sym at) ∙ there.there) in
          ap (λ (text : List ℕ). sort_named signature text) text
          ∙ same_sort 0 signature.sorts there.sort.name name there.named ∙ found ∙ ap Some same

  -- ---- Variables

  pub record IsVariableMeant (next : ℕ) (name : List ℕ) (x : Variable) : Type 0 where
    pub numbered : x.number ≡ next
    pub sorted : SortMeans signature x.sort
    pub named : x.name ≡ name

  pub variable_meant : (next : ℕ) (w : WrittenVariable) (x : Variable) → resolved x ≡ variable_at signature next w
      → IsVariableMeant next w.name x
  variable_meant next w x is =
      let sort = made_of (sort_at signature w.sort_place w.sort) _ x is in
      let same = same_resolved x (record { name = w.name; number = next; sort = sort.0 }) sort.2 in
      subst (IsVariableMeant next w.name) (sym same)
      (record { numbered = refl; sorted = sort_meant w.sort_place w.sort sort.0 sort.1; named = refl })

  -- variables one by one, with their names
  pub record AreMeant (next : ℕ) (names : List (List ℕ)) (xs : List Variable) : Type 0 where
    pub row : AreInRow next xs
    pub sorts : Every (λ (x : Variable). SortMeans signature x.sort) xs
    pub spelling : names_of_variables xs ≡ names

  pub one_more : (next : ℕ) (name : List ℕ) (names : List (List ℕ)) (x : Variable) (xs : List Variable) → IsVariableMeant next name x
      → AreMeant (suc next) names xs → AreMeant next (name ∷ names) (x ∷ xs)
  one_more next name names x xs here rest = record {
    row = (here.numbered, rest.row);
    sorts = (here.sorted, rest.sorts);
    spelling = ap (λ (n : List ℕ). n ∷ names_of_variables xs) here.named ∙ ap (λ (ns : List (List ℕ)). name ∷ ns) rest.spelling;
  }

  sorted_meant : (next : ℕ) (ws : List WrittenVariable) (xs : List Variable) → resolved xs ≡ sorted_variables signature next ws
      → AreMeant next (spelled_names (placed_variables ws)) xs
  sorted_meant next [] xs is =
      subst (AreMeant next []) (sym (same_resolved xs [] is)) (record { row = tt; sorts = tt; spelling = refl })
  sorted_meant next (w ∷ ws) xs is =
      let first = made_of (variable_at signature next w) _ xs is in
      let rest = front_of first.0 (sorted_variables signature (suc next) ws) xs first.2 in
      subst (AreMeant next (spelled_names (placed_variables (w ∷ ws)))) (sym rest.2)
      (one_more next w.name (spelled_names (placed_variables ws)) first.0 rest.0 (variable_meant next w first.0 first.1)
      (sorted_meant (suc next) ws rest.0 rest.1))

  pub declared_meant : (next : ℕ) (placed : List PlacedName) (xs : List Variable) → first_double placed ≡ None
      → AreMeant next (spelled_names placed) xs → AreDeclaredVariables signature next xs
  declared_meant next placed xs none meant = record {
    numbered = meant.row;
    sorted = meant.sorts;
    distinct = subst (λ (names : List (List ℕ)). NoneStandsTwice [] names) (sym meant.spelling) (none_twice [] placed none);
  }

  pub variables_meant : (next : ℕ) (ws : List WrittenVariable) (xs : List Variable) → resolved xs ≡ variables_at signature next ws
      → AreDeclaredVariables signature next xs
  variables_meant next ws xs is =
      declared_meant next (placed_variables ws) xs
      (no_double_beside (first_double (placed_variables ws)) (sorted_variables signature next ws) xs is)
      (sorted_meant next ws xs (beside_of (first_double (placed_variables ws)) (sorted_variables signature next ws) xs is))

-- as many as were written
pub variables_counted : (signature : Signature) (next : ℕ) (ws : List WrittenVariable) (xs : List Variable)
    → resolved xs ≡ sorted_variables signature next ws → length xs ≡ length ws
variables_counted signature next [] xs is = ap (λ (ys : List Variable). length ys) (same_resolved xs [] is)
variables_counted signature next (w ∷ ws) xs is =
    let first = made_of (variable_at signature next w) _ xs is in
    let rest = front_of first.0 (sorted_variables signature (suc next) ws) xs first.2 in
    ap (λ (ys : List Variable). length ys) rest.2 ∙ ap suc (variables_counted signature (suc next) ws rest.0 rest.1)

pub declared_counted : (signature : Signature) (next : ℕ) (ws : List WrittenVariable) (xs : List Variable)
    → resolved xs ≡ variables_at signature next ws → length xs ≡ length ws
declared_counted signature next ws xs is =
    variables_counted signature next ws xs
    (beside_of (first_double (placed_variables ws)) (sorted_variables signature next ws) xs is)

-- ---- Gates

module _ (naming : Naming) where
  abbrev pub IsKnownGate : Binding → Type 0
  IsKnownGate b = b.key ≡ folded (gate_text naming b.number)

  bound_key : (bindings : List Binding) (key : List ℕ) (n : ℕ) → Every IsKnownGate bindings → bound_to bindings key ≡ Some n
      → key ≡ folded (gate_text naming n)
  bound_key [] key n known is = absurd (none-some n is)
  bound_key (b ∷ bindings) key n known is =
      go (bytes_eq key b.key) refl is (λ later. bound_key bindings key n known.1 later)
    where
      go : (same : Bool) → bytes_eq key b.key ≡ same → (if same then Some b.number else bound_to bindings key) ≡ Some n
          → (bound_to bindings key ≡ Some n → key ≡ folded (gate_text naming n)) → key ≡ folded (gate_text naming n)
      go true test is later =
          same_bytes key b.key test ∙ known.0 ∙ ap (λ (m : ℕ). folded (gate_text naming m)) (same_Some b.number n is)
      go false test is later = later is

  pub gate_meant : (bindings : List Binding) (w : PlacedName) (n : ℕ) → Every IsKnownGate bindings → resolved n ≡ gate_at bindings w
      → GateMeans naming bindings n
  gate_meant bindings w n known is = go (bound_to bindings (folded w.name)) refl is
    where
      go : (found : Option ℕ) → bound_to bindings (folded w.name) ≡ found → resolved n ≡ found_gate w found
          → GateMeans naming bindings n
      go None found is = never_faulty n _ is
      go (Some m) found is =
          let there : bound_to bindings (folded w.name) ≡ Some n = found ∙ ap Some (sym (same_resolved n m is)) in
          ap (λ (key : List ℕ). bound_to bindings key) (sym (bound_key bindings (folded w.name) n known there)) ∙ there

  pub gates_meant : (bindings : List Binding) (ws : List PlacedName) (ns : List ℕ) → Every IsKnownGate bindings
      → resolved ns ≡ gates_at bindings ws → Every (GateMeans naming bindings) ns × (length ns ≡ length ws)
  gates_meant bindings [] ns known is =
      subst (λ (ms : List ℕ). Every (GateMeans naming bindings) ms × (length ms ≡ 0)) (sym (same_resolved ns [] is)) (tt, refl)
  gates_meant bindings (w ∷ ws) ns known is =
      let first = made_of (gate_at bindings w) _ ns is in
      let rest = front_of first.0 (gates_at bindings ws) ns first.2 in
      let others = gates_meant bindings ws rest.0 known rest.1 in
      subst (λ (ms : List ℕ). Every (GateMeans naming bindings) ms × (length ms ≡ suc (length ws))) (sym rest.2)
      ((gate_meant bindings w first.0 known first.1, others.0), ap suc others.1)

  -- what is bound in a row to its names is known
  pub known_more : (names : List (List ℕ)) (next : ℕ) (bindings : List Binding) → AreNamesFrom naming next names
      → Every IsKnownGate bindings → Every IsKnownGate (bind_all names next bindings)
  known_more [] next bindings named known = known
  known_more (name ∷ names) next bindings named known =
      known_more names (suc next) (bind name next bindings) named.1 (ap folded (sym named.0), known)

  pub texts_of_row : (names : List (List ℕ)) (next : ℕ) → AreNamesFrom naming next names
      → gate_texts naming (numbers_from next names) ≡ names
  texts_of_row [] next named = refl
  texts_of_row (name ∷ names) next named =
      let one : suc next ≡ next + 1 = omega arith in
      ap (λ (n : List ℕ). n ∷ gate_texts naming (numbers_from (next + 1) names)) named.0
      ∙ ap (λ (ns : List (List ℕ)). name ∷ ns)
      (texts_of_row names (next + 1) (subst (λ (n : ℕ). AreNamesFrom naming n names) one named.1))

  pub names_first : (xs ys : List (List ℕ)) (next : ℕ) → AreNamesFrom naming next (xs ++ ys) → AreNamesFrom naming next xs
  names_first [] ys next named = tt
  names_first (x ∷ xs) ys next named = (named.0, names_first xs ys (suc next) named.1)

  pub names_last : (xs ys : List (List ℕ)) (next : ℕ) → AreNamesFrom naming next (xs ++ ys) → AreNamesFrom naming (next + length xs) ys
  names_last [] ys next named =
      let none : next ≡ next + 0 = omega arith in subst (λ (n : ℕ). AreNamesFrom naming n ys) none named
  names_last (x ∷ xs) ys next named =
      let one : suc next + length xs ≡ next + suc (length xs) = omega arith in
      subst (λ (n : ℕ). AreNamesFrom naming n ys) one (names_last xs ys (suc next) named.1)

pub row_again : {A : Type 0} (next : ℕ) (xs : List A) → numbers_from next (numbers_from next xs) ≡ numbers_from next xs
row_again next [] = refl
row_again next (x ∷ xs) = ap (λ (ns : List ℕ). next ∷ ns) (row_again (next + 1) xs)

-- ---- Names of variables that are looked up

pub every_map : {A : Type 0} (P Q : A → Type 0) (xs : List A) → ((x : A) → P x → Q x) → Every P xs → Every Q xs
every_map P Q [] f each = tt
every_map P Q (x ∷ xs) f each = (f x each.0, every_map P Q xs f each.1)

abbrev pub IsKnownVariable : ℕ → List Variable → Variable → Type 0
IsKnownVariable next names v = (v.number < next) × (variable_text names v.number ≡ v.name)

eqb_false : (n m : ℕ) → n < m → nat_eq m n ≡ false
eqb_false n m below = go (nat_eq m n) refl
  where
    go : (b : Bool) → nat_eq m n ≡ b → b ≡ false
    go true is = let same : m ≡ n = eqb-true m n is in absurd (let no : ⊥ = omega (arith, same, below) in no)
    go false is = refl

-- a variable with a lower number is looked up behind those in a row
behind_row : (next : ℕ) (xs names : List Variable) (n : ℕ) → AreInRow next xs → n < next
    → variable_text (xs ++ names) n ≡ variable_text names n
behind_row next [] names n row below = refl
behind_row next (x ∷ xs) names n row below =
    let higher : n < x.number = let at = row.0 in omega (arith, at, below) in
    ap (λ (b : Bool). if b then x.name else variable_text (xs ++ names) n) (eqb_false n x.number higher)
    ∙ behind_row (suc next) xs names n row.1 (omega (arith, below))

-- those in a row are looked up
row_known : (next : ℕ) (xs names : List Variable) → AreInRow next xs
    → Every (λ (v : Variable). (next ≤ v.number) × IsKnownVariable (next + length xs) (xs ++ names) v) xs
row_known next [] names row = tt
row_known next (x ∷ xs) names row = (
  (omega (arith, row.0), (omega (arith, row.0), here)),
  every_map
      (λ (v : Variable). (suc next ≤ v.number) × IsKnownVariable (suc next + length xs) (xs ++ names) v)
      (λ (v : Variable). (next ≤ v.number) × IsKnownVariable (next + suc (length xs)) (x ∷ (xs ++ names)) v)
      xs later (row_known (suc next) xs names row.1),
)
  where
    here : variable_text (x ∷ (xs ++ names)) x.number ≡ x.name
    here = ap (λ (b : Bool). if b then x.name else variable_text (xs ++ names) x.number) (eq-eqb x.number x.number refl)

    later : (v : Variable) → (suc next ≤ v.number) × IsKnownVariable (suc next + length xs) (xs ++ names) v
        → (next ≤ v.number) × IsKnownVariable (next + suc (length xs)) (x ∷ (xs ++ names)) v
    later v known =
        let above : suc next ≤ v.number = known.0 in
        let below : v.number < suc next + length xs = known.1.0 in
        let at : x.number ≡ next = row.0 in
        let lower : x.number < v.number = omega (arith, above, at) in (
          omega (arith, above),
          (
            omega (arith, below),
            ap (λ (b : Bool). if b then x.name else variable_text (xs ++ names) v.number) (other lower) ∙ known.1.1,
          ),
        )
      where
        other : x.number < v.number → nat_eq x.number v.number ≡ false
        other lower = go (nat_eq x.number v.number) refl
          where
            go : (b : Bool) → nat_eq x.number v.number ≡ b → b ≡ false
            go true is =
                let same : x.number ≡ v.number = eqb-true x.number v.number is in
                absurd (let no : ⊥ = omega (arith, same, lower) in no)
            go false is = refl

pub fits_more : (naming : Naming) (scope : PrintedScope) (xs : List Variable) → FitsNaming naming scope
    → AreInRow scope.numbers.variable xs → FitsNaming naming (behind_variables xs scope)
fits_more naming scope xs fits row = record {
  gates = fits.gates;
  variables =
      every_both (IsKnownVariable (next + length xs) (xs ++ scope.names)) scope.variables xs
      (every_map (IsKnownVariable next scope.names) (IsKnownVariable (next + length xs) (xs ++ scope.names)) scope.variables
      (λ v known. (
        let below : v.number < next = known.0 in omega (arith, below),
        behind_row next xs scope.names v.number row known.0
            ∙ known.1,
      )) fits.variables)
      (every_map (λ (v : Variable). (next ≤ v.number) × IsKnownVariable (next + length xs) (xs ++ scope.names) v)
      (IsKnownVariable (next + length xs) (xs ++ scope.names)) xs (λ v known. known.1) (row_known next xs scope.names row));
}
  where
    next : ℕ
    next = scope.numbers.variable

pub looked_up : (naming : Naming) (scope : PrintedScope) → FitsNaming naming scope → AreLookedUp scope.variables scope.names
looked_up naming scope fits i v at =
    (every_at (IsKnownVariable scope.numbers.variable scope.names) scope.variables i v fits.variables at).1
