-- Items that data are written as come to the same data, without a fault.
use Rattle.std.proofs.Common.{◌≡◌, ℕ, zero, suc, ◌≤◌, Bool, true, false, ◌||◌, List, [], ◌∷◌, map, length, refl, ap, sym, ◌∙◌, subst, arith}
use Rattle.std.specs.Prelude.{None, Some, slice_get, nat_lt, fold, if◌then◌else◌}
use Rattle.std.specs.List.{flat_map}
use Rattle.std.proofs.lemmas.List.{append-nil}
use Rattle.std.proofs.lemmas.Option.{none-some}
use Rattle.lotos_base.proofs.Members.{at_map, from_map}
use Rattle.lotos_base.specs.WrittenTerm.{PlacedName}
use Rattle.lotos_base.specs.Signature.{Signature, Sort, Operation, IsOperation, IsSort}
use Rattle.lotos_base.specs.Equation.{Place, Equation, Data, IsWellFormedData}
use Rattle.syntax_trees.specs.WrittenVariable.{WrittenVariable}
use Rattle.syntax_trees.specs.WrittenEquation.{WrittenEquation, WrittenGroup}
use Rattle.syntax_trees.specs.WrittenItem.{WrittenOperation, WrittenSections, WrittenTypeBody, extends, renames, actualises, WrittenItem, libraries, type_declared}
use Rattle.sort_terms.specs.WellFormedTest.{all_differ, are_one_sort, are_one_operation}
use Rattle.type_definitions.specs.DeclaredTypes.{DeclaredType, types_of, mention_graph}
use Rattle.type_definitions.specs.TypeGraph.{IsAcyclic, mentioned_by, is_among}
use Rattle.type_definitions.specs.TypeFault.{fault_along}
use Rattle.type_definitions.specs.FlatteningOrder.{IsFlatteningOrder, flattened_now, none_left, next_come_to}
use Rattle.type_definitions.specs.MentionFaults.{MentionFault, double_type, unknown_type, type_cycle, IsMentionFault}
use Rattle.type_definitions.specs.Presentation.{Presentation, nothing, presentation_limit}
use Rattle.type_definitions.specs.Union.{Mentioned, union_of, union_fault, joined_presentation, presentation_fault}
use Rattle.type_definitions.specs.Actualisation.{marked_from, is_formal}
use Rattle.type_definitions.specs.Declarations.{with_sort, sort_fault, with_operation, operation_fault, with_declarations, declaration_fault}
use Rattle.type_definitions.specs.DeclaredEquations.{GiveAll, asked_of_group}
use Rattle.type_definitions.specs.Extension.{IsExtension}
use Rattle.type_definitions.specs.Flattened.{all_presented, next_presented, declared_with, without_formals, flattened_data_of, IsFlattening}
use Rattle.type_flatten.proofs.ContributionLemmas.{contributions}
use Rattle.type_flatten.proofs.TypesFine.{flattened_data}
use Rattle.type_flatten.proofs.OneOutcome.{flattening_is_decided}
use Rattle.type_flatten.proofs.HandedOn.{none_fails}
use Rattle.declaration_laws.specs.HandedOn.{AreSameEquations}
use Rattle.session_laws.specs.SameSpelling.{AreSortsSpelledAlike, AreOperationsSpelledAlike, AreDataSpelledAlike}
use Rattle.session_laws.specs.WrittenData.{AreSectionsWritten, IsBodyWritten, AreItemsWritten, own_equations, equations_of_items, StandApart}
use Rattle.session_laws.specs.DataLaws.{AreDataOfText, AreTypesOf, FlatDataAreReadBack}
use Rattle.session_laws.proofs.Signatures.{own_sort, own_operation}
use Rattle.session_laws.proofs.Declared.{presented, IsFaultless, no_fault, sorts_declared, sorts_faultless, operations_declared, operations_faultless, fewer_operations, IsProfiled}
use Rattle.session_laws.proofs.Given.{known, faultless, AreGiven, all_given, equations_of, sort_within}
use Rattle.session_laws.proofs.Alone.{PlacesDiffer, equations_alone}

-- ---- The same data

same_sorts : (origin : List ℕ) (sorts : List Sort) → AreSortsSpelledAlike sorts (map (own_sort origin) sorts)
same_sorts origin [] = tt
same_sorts origin (s ∷ ss) = (refl, same_sorts origin ss)

same_operations : (origin : List ℕ) (operations : List Operation)
    → AreOperationsSpelledAlike operations (map (own_operation origin) operations)
same_operations origin [] = tt
same_operations origin (o ∷ os) =
    (record { name = refl; form = refl; arguments = refl; result = refl }, same_operations origin os)

-- ---- Types without mentions

-- no type mentions another one
abbrev MentionNothing : List DeclaredType → Type 0
MentionNothing types = (i : ℕ) → mentioned_by (mention_graph types) i ≡ []

none_mentioned : (types : List DeclaredType) → MentionNothing types → IsAcyclic (mention_graph types)
none_mentioned types nothing_there i j mentions cycle =
    let there : is_among [] j ≡ true = ap (λ (ms : List ℕ). is_among ms j) (sym (nothing_there i)) ∙ mentions in
    cc

no_cycle : (types : List DeclaredType) → MentionNothing types → (place : Place) (name : List ℕ)
    → IsMentionFault types (type_cycle place name) → ⊥
no_cycle types nothing_there place name fault =
    let first = fault.2.1.is_first in
    none-some first.mentioned
    (ap (λ (ms : List ℕ). slice_get ms fault.2.1.position) (sym (nothing_there fault.2.1.by)) ∙ first.is_there)

-- ---- The one type

-- sections in which nothing is formal
abbrev plain : List PlacedName → List WrittenOperation → List WrittenGroup → WrittenSections
plain sorts operations groups = record {
  formal_sorts = [];
  formal_operations = [];
  formal_equations = record { variables = []; groups = [] };
  sorts = sorts;
  operations = operations;
  equations = record { variables = []; groups = groups };
}

plain_sections : (data_ : Data) (sections : WrittenSections) → AreSectionsWritten data_ sections
    → sections ≡ plain sections.sorts sections.operations sections.equations.groups
plain_sections data_ sections is =
    by sections.formal_sorts sections.formal_operations sections.formal_equations.variables sections.formal_equations.groups
    sections.equations.variables is.formal_sorts is.formal_operations is.formal_variables is.formal_groups is.common_variables
  where
    by : (formal_sorts : List PlacedName) (formal_operations : List WrittenOperation) (formal_variables : List WrittenVariable)
        (formal_groups : List WrittenGroup) (variables : List WrittenVariable) → formal_sorts ≡ [] → formal_operations ≡ []
        → formal_variables ≡ [] → formal_groups ≡ [] → variables ≡ []
        → record {
          formal_sorts = formal_sorts;
          formal_operations = formal_operations;
          formal_equations = record { variables = formal_variables; groups = formal_groups };
          sorts = sections.sorts;
          operations = sections.operations;
          equations = record { variables = variables; groups = sections.equations.groups };
        }
        ≡ plain sections.sorts sections.operations sections.equations.groups
    by formal_sorts formal_operations formal_variables formal_groups variables e f g h k = cc (e, f, g, h, k)

none_marked : {A : Type 0} (number : ℕ) (xs : List A) → marked_from [] number xs ≡ []
none_marked number [] = refl
none_marked number (x ∷ xs) = none_marked (suc number) xs

-- nothing is formal in such a presentation
not_formal : (sorts : List Sort) (operations : List Operation) (equations : List Equation)
    → is_formal (presented sorts operations equations) ≡ false
not_formal sorts operations equations =
    ap (λ (ss : List Sort). nat_lt 0 (length ss) || nat_lt 0 (length (marked_from [] 0 operations))) (none_marked 0 sorts)
    ∙ ap (λ (os : List Operation). nat_lt 0 (length os)) (none_marked 0 operations)

-- a union that has the same members has no more faults
same_faultless : (p q : Presentation) → p.signature ≡ q.signature → p.equations ≡ q.equations → IsFaultless q → IsFaultless p
same_faultless p q signature equations fine = record {
  sorts = ap (λ (s : Signature). all_differ are_one_sort s.sorts) signature ∙ fine.sorts;
  operations = ap (λ (s : Signature). all_differ are_one_operation s.operations) signature ∙ fine.operations;
  few_sorts = ap (λ (s : Signature). nat_lt presentation_limit (length s.sorts)) signature ∙ fine.few_sorts;
  few_operations = ap (λ (s : Signature). nat_lt presentation_limit (length s.operations)) signature ∙ fine.few_operations;
  few_equations = ap (λ (es : List Equation). nat_lt presentation_limit (length es)) equations ∙ fine.few_equations;
}

module _ (data_ : Data) (place : Place) (name : List ℕ) (form : AreDataOfText data_) where
  abbrev sorts : List Sort
  sorts = map (own_sort name) data_.signature.sorts

  abbrev operations : List Operation
  operations = map (own_operation name) data_.signature.operations

  nothing_faulty : IsFaultless (presented sorts operations [])
  nothing_faulty = faultless data_ name form [] (omega arith)

  no_operations : IsFaultless (presented sorts [] [])
  no_operations = fewer_operations sorts [] operations nothing_faulty

  profiled : (f : ℕ) (o : Operation) → IsOperation data_.signature f o → IsProfiled name data_.signature sorts (known data_ name form) o
  profiled f o at = record {
    arguments = λ i s there. form.well_formed.signature.arguments f i s o at there;
    result = form.well_formed.signature.results f o at;
    binary = form.infix_operations f o at;
  }

  module _ (sections : WrittenSections) (is : AreSectionsWritten data_ sections)
      (apart : StandApart (own_equations (extends [] sections))) where
    abbrev own_sections : WrittenSections
    own_sections = plain sections.sorts sections.operations sections.equations.groups

    sorts_made : fold (with_sort name false) nothing sections.sorts ≡ presented sorts [] []
    sorts_made = sorts_declared name data_.signature.sorts sections.sorts [] is.sorts

    declared : with_declarations name nothing own_sections ≡ presented sorts operations []
    declared =
        ap (λ (p : Presentation). fold (with_operation name false) p sections.operations) sorts_made
        ∙ operations_declared name data_.signature sorts (known data_ name form) data_.signature.operations sections.operations []
        profiled is.operations

    none_faulty : declaration_fault name nothing own_sections ≡ None
    none_faulty =
        none_fails (fault_along (sort_fault name false) (with_sort name false) nothing sections.sorts)
        (fault_along (operation_fault name false) (with_operation name false) (fold (with_sort name false) nothing sections.sorts)
        sections.operations)
        (sorts_faultless name data_.signature.sorts sections.sorts [] is.sorts no_operations)
        (ap (λ (p : Presentation). fault_along (operation_fault name false) (with_operation name false) p sections.operations) sorts_made
        ∙ operations_faultless name data_.signature sorts (known data_ name form) data_.signature.operations sections.operations []
        profiled is.operations nothing_faulty)

    given : AreGiven data_ name form [] data_.equations sections.equations.groups
    given =
        all_given data_ name form [] data_.equations sections.equations.groups (λ i e at. (i, at)) is.groups
        (let few = form.limits.equations in omega (arith, few))

    abbrev made : Presentation
    made = presented sorts operations given.new

    extension : IsExtension [] name own_sections made
    extension = (
      none_faulty,
      subst (λ (p : Presentation). GiveAll p (flat_map (asked_of_group false []) sections.equations.groups) made) (sym declared)
          given.gives,
    )

    abbrev t : DeclaredType
    t = record { place = place; name = name; body = extends [] own_sections }

    abbrev mentioned : Mentioned
    mentioned = declared_with t made

    fine : IsWellFormedData (flattened_data_of made)
    fine = flattened_data.presentations [] name (extends [] own_sections) made (λ m at. absurd (none-some m at.1)) extension

    places_differ : PlacesDiffer given.new
    places_differ i j one other at there same =
        let places = given.places in
        let first = written_at i one at in
        let second = written_at j other there in
        apart i j first.0 second.0 first.1 second.1 (first.2 ∙ same ∙ sym second.2)
      where
        written_at : (k : ℕ) (e : Equation) → slice_get given.new k ≡ Some e
            → (w : WrittenEquation) × (slice_get (equations_of sections.equations.groups) k ≡ Some w) × (w.place ≡ e.place)
        written_at k e found =
            from_map (λ (w : WrittenEquation). w.place) (equations_of sections.equations.groups) k e.place
            (ap (λ (ps : List Place). slice_get ps k) (sym given.places) ∙ at_map (λ (f : Equation). f.place) given.new k e found)

    same_signature : (joined_presentation nothing made).signature ≡ made.signature
    same_signature = contributions.alone mentioned fine.signature

    same_equations : (joined_presentation nothing made).equations ≡ made.equations
    same_equations = equations_alone made fine places_differ

    few : length given.new ≤ presentation_limit
    few = let many = given.as_many in let limit = form.limits.equations in omega (arith, many, limit)

    alone : without_formals (mentioned ∷ []) ≡ mentioned ∷ []
    alone = ap (λ (b : Bool). if b then [] else mentioned ∷ []) (not_formal sorts operations given.new)

    united : union_fault (without_formals (mentioned ∷ [])) ≡ None
    united =
        ap union_fault alone
        ∙ none_fails (presentation_fault place name (joined_presentation nothing made)) None
        (no_fault place name (joined_presentation nothing made)
        (same_faultless (joined_presentation nothing made) made same_signature same_equations (faultless data_ name form given.new few)))
        refl

    answered : flattened_data_of (union_of (without_formals (mentioned ∷ []))) ≡ flattened_data_of made
    answered =
        ap (λ (ms : List Mentioned). flattened_data_of (union_of ms)) alone
        ∙ by (joined_presentation nothing made).signature (joined_presentation nothing made).equations same_signature same_equations
      where
        by : (signature : Signature) (equations : List Equation) → signature ≡ made.signature → equations ≡ made.equations
            → record { signature = signature; equations = equations } ≡ flattened_data_of made
        by signature equations e f = cc (e, f)

    ordered : IsFlatteningOrder (mention_graph (t ∷ [])) (0 ∷ [])
    ordered = next_come_to [] (0 ∷ []) (0 ∷ []) 0 [] (flattened_now [] [] 0 refl (none_left [])) (none_left (0 ∷ []))

    flattening : IsFlattening (t ∷ []) (flattened_data_of made)
    flattening = record {
      order = 0 ∷ [];
      ordered = ordered;
      all = mentioned ∷ [];
      presented = next_presented [] (mentioned ∷ []) t [] made extension (all_presented (mentioned ∷ []));
      united = united;
      answered = answered;
    }

    same : AreDataSpelledAlike data_ (flattened_data_of made)
    same = record {
      signatures = record {
        sorts = same_sorts name data_.signature.sorts;
        operations = same_operations name data_.signature.operations;
      };
      equations = given.same;
    }

    nothing_mentioned : MentionNothing (t ∷ [])
    nothing_mentioned zero = refl
    nothing_mentioned (suc i) = refl

    no_name_fault : (fault : MentionFault) → IsMentionFault (t ∷ []) fault → ⊥
    no_name_fault (double_type at name') fault = none-some fault.0 fault.1
    no_name_fault (unknown_type at name') fault = none-some fault.1.0 fault.1.1
    no_name_fault (type_cycle at name') fault = no_cycle (t ∷ []) nothing_mentioned at name' fault

    one_type : AreTypesOf data_ (t ∷ [])
    one_type = record {
      declared_once = refl;
      all_known = refl;
      acyclic = none_mentioned (t ∷ []) nothing_mentioned;
      there = (flattened_data_of made, flattening, same);
      only = λ other is.
          subst (λ (d : Data). AreDataSpelledAlike data_ d)
          ((flattening_is_decided (t ∷ [])).one_data (flattened_data_of made) other flattening is) same;
      no_name_fault = no_name_fault;
      no_fault = λ fault is. (flattening_is_decided (t ∷ [])).not_both (flattened_data_of made) fault flattening is;
    }

  -- whatever the type is written as
  written_type : (body : WrittenTypeBody) → IsBodyWritten data_ body → StandApart (own_equations body)
      → AreTypesOf data_ (record { place = place; name = name; body = body } ∷ [])
  written_type (extends imports sections) is apart =
      subst (λ (b : WrittenTypeBody). AreTypesOf data_ (record { place = place; name = name; body = b } ∷ []))
      (sym (ap (λ (names : List PlacedName). extends names sections) is.0
      ∙ ap (λ (s : WrittenSections). extends [] s) (plain_sections data_ sections is.1)))
      (one_type sections is.1 apart)
  written_type (renames base pairs) is apart = absurd is
  written_type (actualises base actuals pairs) is apart = absurd is

-- ---- No type

module _ (data_ : Data) (form : AreDataOfText data_) (none : data_.signature.sorts ≡ []) where
  no_sort : (s : ℕ) → IsSort data_.signature s → ⊥
  no_sort s within =
      let many : length data_.signature.sorts ≡ 0 = ap (λ (ss : List Sort). length ss) none in
      omega (arith, within, many)

  no_operation : data_.signature.operations ≡ []
  no_operation = by data_.signature.operations refl
    where
      by : (os : List Operation) → data_.signature.operations ≡ os → os ≡ []
      by [] is = refl
      by (o ∷ os) is =
          absurd (no_sort o.result (form.well_formed.signature.results 0 o (ap (λ (ps : List Operation). slice_get ps 0) is)))

  no_equation : data_.equations ≡ []
  no_equation = by data_.equations refl
    where
      by : (es : List Equation) → data_.equations ≡ es → es ≡ []
      by [] is = refl
      by (e ∷ es) is =
          let over = form.well_formed.equations e (0, ap (λ (fs : List Equation). slice_get fs 0) is) in
          absurd (no_sort over.sort (sort_within data_.signature e.left over.sort over.left_sort form.well_formed.signature))

  empty : IsFlattening [] (flattened_data_of nothing)
  empty = record {
    order = [];
    ordered = none_left [];
    all = [];
    presented = all_presented [];
    united = refl;
    answered = refl;
  }

  same_empty : AreDataSpelledAlike data_ (flattened_data_of nothing)
  same_empty = record {
    signatures = record {
      sorts = subst (λ (ss : List Sort). AreSortsSpelledAlike ss []) (sym none) tt;
      operations = subst (λ (os : List Operation). AreOperationsSpelledAlike os []) (sym no_operation) tt;
    };
    equations = subst (λ (es : List Equation). AreSameEquations es []) (sym no_equation) tt;
  }

  nobody_mentioned : MentionNothing []
  nobody_mentioned i = refl

  no_fault_of_names : (fault : MentionFault) → IsMentionFault [] fault → ⊥
  no_fault_of_names (double_type at name) fault = none-some fault.0 fault.1
  no_fault_of_names (unknown_type at name) fault = none-some fault.1.0 fault.1.1
  no_fault_of_names (type_cycle at name) fault = no_cycle [] nobody_mentioned at name fault

  no_type : AreTypesOf data_ []
  no_type = record {
    declared_once = refl;
    all_known = refl;
    acyclic = none_mentioned [] nobody_mentioned;
    there = (flattened_data_of nothing, empty, same_empty);
    only = λ other is.
        subst (λ (d : Data). AreDataSpelledAlike data_ d) ((flattening_is_decided []).one_data (flattened_data_of nothing) other empty is)
        same_empty;
    no_name_fault = no_fault_of_names;
    no_fault = λ fault is. (flattening_is_decided []).not_both (flattened_data_of nothing) fault empty is;
  }

-- ---- The law

by_sorts : (data_ : Data) (sorts : List Sort) (items : List WrittenItem) → AreDataOfText data_ → data_.signature.sorts ≡ sorts
    → AreItemsWritten data_ sorts items → StandApart (equations_of_items items) → AreTypesOf data_ (types_of items)
by_sorts data_ [] [] form is written apart = no_type data_ form is
by_sorts data_ [] (item ∷ items) form is written apart = absurd written
by_sorts data_ (s ∷ ss) [] form is written apart = absurd written
by_sorts data_ (s ∷ ss) (libraries place names ∷ items) form is written apart = absurd written
by_sorts data_ (s ∷ ss) (type_declared place name body ∷ item ∷ items) form is written apart = absurd written
by_sorts data_ (s ∷ ss) (type_declared place name body ∷ []) form is written apart =
    written_type data_ place name form body written.1
    (subst StandApart (append-nil (own_equations body)) apart)

pub flat_data_are_read_back : FlatDataAreReadBack
flat_data_are_read_back data_ items form written apart = by_sorts data_ data_.signature.sorts items form refl written apart
