-- The names of the data of types have the form of names where those of the types have.
use Rattle.std.proofs.Common.{◌≡◌, ℕ, zero, suc, Bool, true, false, not, if◌then◌else◌, List, [], ◌∷◌, ◌++◌, map, length, Option, None, Some, refl, ap, ◌∙◌, subst, eqb-true}
use Rattle.std.specs.Prelude.{fold, slice_get, IfSome}
use Rattle.std.specs.List.{list_any}
use Rattle.std.specs.Option.{option_to_list}
use Rattle.lotos_base.specs.Equation.{Data}
use Rattle.lotos_base.specs.Signature.{Signature, Sort, Operation, IsOperation, Form, prefix_form, infix_form}
use Rattle.lotos_base.specs.WrittenTerm.{PlacedName}
use Rattle.syntax_trees.specs.WrittenItem.{WrittenOperation, WrittenPair, WrittenPairs, WrittenSections, WrittenTypeBody, extends, renames, actualises}
use Rattle.sort_terms.specs.ReadingOutcome.{one_name}
use Rattle.type_definitions.specs.TypeFault.{fault_along}
use Rattle.type_definitions.specs.Presentation.{Presentation, nothing, is_same_sort, is_same_operation, with_new, is_marked_number}
use Rattle.type_definitions.specs.Images.{operation_image}
use Rattle.type_definitions.specs.Union.{Mentioned, joined_sort, coming_operations, joined_presentation, with_mentioned, union_of, union_fault}
use Rattle.type_definitions.specs.Declarations.{with_sort, with_operation, fits_form, operation_fault, with_formal_sorts, with_sorts, with_formal_operations, with_declarations, declaration_fault}
use Rattle.type_definitions.specs.DeclaredEquations.{EquationQuestion, GivesPresentation, sort_is_there, formal_is_read, own_is_read, GiveAll, none_asked, next_gives}
use Rattle.type_definitions.specs.Extension.{extended, IsExtension}
use Rattle.type_definitions.specs.Renaming.{pair_for, sort_under, operation_under, renamed_sort, renamed_operation, renamed_presentation}
use Rattle.type_definitions.specs.Actualisation.{Actualising, unmarked_from, is_formal, pair_unless, other_sort_image, other_operation_image, is_formal_sort, is_formal_operation, actualised_sort, other_sorts_of, other_operations_of, actualisation}
use Rattle.type_definitions.specs.ActualisationFaults.{actualising_of}
use Rattle.type_definitions.specs.DeclaredTypes.{DeclaredType}
use Rattle.type_definitions.specs.Flattened.{presentation_named, mention_of, mentions_with, IsPresentation, declared_with, ArePresented, all_presented, next_presented, without_formals, types_at, IsFlattening}
use Rattle.type_definitions.proofs.FaultLemmas.{none_first, not_past}
use Rattle.behaviour_semantics.specs.WellFormed.{Every}
use Rattle.behaviour_semantics.proofs.ListLemmas.{Every-append}
use Rattle.behaviour_semantics.proofs.InstanceLemmas.{every_at}
use Rattle.session_laws.specs.TextNames.{IsWordSpelling, IsOperationSpelling, HasTextNames}
use Rattle.session_laws.proofs.WrittenNames.{IsWord, IsOperatorDeclared, GivesWord, GivesOperator, ArePairsSpelled, AreSectionsSpelled, IsBodySpelled}
use Rattle.session_laws.proofs.GatheredNames.{IsTypeSpelled}

-- ---- What is said of a signature

abbrev IsSortSpelled : Sort → Type 0
IsSortSpelled sort = IsWordSpelling sort.name

-- an operation between its arguments has two
record IsOperationSpelled (operation : Operation) : Type 0 where
  pub name : IsOperationSpelling operation.name
  pub two : operation.form ≡ infix_form → length operation.arguments ≡ 2

record IsSignatureSpelled (signature : Signature) : Type 0 where
  pub sorts : Every IsSortSpelled signature.sorts
  pub operations : Every IsOperationSpelled signature.operations

abbrev IsPresentationSpelled : Presentation → Type 0
IsPresentationSpelled p = IsSignatureSpelled p.signature

abbrev IsMentionSpelled : Mentioned → Type 0
IsMentionSpelled m = IsPresentationSpelled m.presentation

nothing_spelled : IsPresentationSpelled nothing
nothing_spelled = record { sorts = tt; operations = tt }

-- ---- Unions

pub new_every : {A : Type 0} (P : A → Type 0) (same : A → A → Bool) (kept others : List A) → Every P kept → Every P others
    → Every P (with_new same kept others)
new_every P same kept [] first second = first
new_every {A} P same kept (x ∷ others) first second =
    new_every P same (if list_any (same x) kept then kept else kept ++ x ∷ []) others (by (list_any (same x) kept)) second.1
  where
    by : (found : Bool) → Every P (if found then kept else kept ++ x ∷ [])
    by true = first
    by false = Every-append P kept (x ∷ []) first (second.0, tt)

pub mapped_every : {A B : Type 0} (P : A → Type 0) (Q : B → Type 0) (f : A → B) → ((x : A) → P x → Q (f x)) → (xs : List A) → Every P xs
    → Every Q (map f xs)
mapped_every P Q f so [] all = tt
mapped_every P Q f so (x ∷ xs) all = (so x all.0, mapped_every P Q f so xs all.1)

mapped_long : (f : ℕ → ℕ) (xs : List ℕ) → length (map f xs) ≡ length xs
mapped_long f [] = refl
mapped_long f (x ∷ xs) = ap suc (mapped_long f xs)

image_spelled : (f : ℕ → ℕ) (operation : Operation) → IsOperationSpelled operation → IsOperationSpelled (operation_image f operation)
image_spelled f operation is = record { name = is.name; two = λ form. mapped_long f operation.arguments ∙ is.two form }

joined_spelled : (p q : Presentation) → IsPresentationSpelled p → IsPresentationSpelled q → IsPresentationSpelled (joined_presentation p q)
joined_spelled p q is also = record {
  sorts = new_every IsSortSpelled is_same_sort p.signature.sorts q.signature.sorts is.sorts also.sorts;
  operations =
      new_every IsOperationSpelled is_same_operation p.signature.operations (coming_operations p q) is.operations
      (mapped_every IsOperationSpelled IsOperationSpelled (operation_image (joined_sort p q)) (image_spelled (joined_sort p q))
      q.signature.operations also.operations);
}

fold_spelled : (p : Presentation) (mentioned : List Mentioned) → IsPresentationSpelled p → Every IsMentionSpelled mentioned
    → IsPresentationSpelled (fold with_mentioned p mentioned)
fold_spelled p [] is all = is
fold_spelled p (m ∷ mentioned) is all =
    fold_spelled (with_mentioned p m) mentioned (joined_spelled p m.presentation is all.0) all.1

union_spelled : (mentioned : List Mentioned) → Every IsMentionSpelled mentioned → IsPresentationSpelled (union_of mentioned)
union_spelled mentioned all = fold_spelled nothing mentioned nothing_spelled all

-- ---- Declarations

sorts_spelled : (origin : List ℕ) (formal : Bool) (p : Presentation) (names : List PlacedName) → IsPresentationSpelled p
    → Every IsWord names → IsPresentationSpelled (fold (with_sort origin formal) p names)
sorts_spelled origin formal p [] is all = is
sorts_spelled origin formal p (name ∷ names) is all =
    sorts_spelled origin formal (with_sort origin formal p name) names (record {
      sorts = Every-append IsSortSpelled p.signature.sorts _ is.sorts (all.0, tt);
      operations = is.operations;
    }) all.1

fits : (form : Form) (count : ℕ) → fits_form form count ≡ true → form ≡ infix_form → count ≡ 2
fits prefix_form count is same = absurd (cc same)
fits infix_form count is same = eqb-true count 2 is

fits_so : (test : Bool) → not test ≡ false → test ≡ true
fits_so true is = refl
fits_so false is = absurd (cc is)

operation_spelled : (origin : List ℕ) (formal : Bool) (p : Presentation) (declared : WrittenOperation) → IsPresentationSpelled p
    → IsOperatorDeclared declared → operation_fault origin formal p declared ≡ None
    → IsPresentationSpelled (with_operation origin formal p declared)
operation_spelled origin formal p declared is named none =
    let form : fits_form declared.form (length declared.arguments) ≡ true =
    fits_so (fits_form declared.form (length declared.arguments))
    (not_past (not (fits_form declared.form (length declared.arguments))) _ (none_first _ _ none).0) in
    record {
      sorts = is.sorts;
      operations = Every-append IsOperationSpelled p.signature.operations _ is.operations (
        record {
          name = named;
          two = λ between. lengths _ declared.arguments ∙ fits declared.form (length declared.arguments) form between;
        },
        tt,
      );
    }
  where
    lengths : (f : PlacedName → ℕ) (names : List PlacedName) → length (map f names) ≡ length names
    lengths f [] = refl
    lengths f (name ∷ names) = ap suc (lengths f names)

operations_spelled : (origin : List ℕ) (formal : Bool) (p : Presentation) (given : List WrittenOperation) → IsPresentationSpelled p
    → Every IsOperatorDeclared given → fault_along (operation_fault origin formal) (with_operation origin formal) p given ≡ None
    → IsPresentationSpelled (fold (with_operation origin formal) p given)
operations_spelled origin formal p [] is all none = is
operations_spelled origin formal p (one ∷ given) is all none =
    let parts = none_first (operation_fault origin formal p one)
    (fault_along (operation_fault origin formal) (with_operation origin formal) (with_operation origin formal p one) given) none in
    operations_spelled origin formal (with_operation origin formal p one) given (operation_spelled origin formal p one is all.0 parts.0)
    all.1 parts.1

declared_spelled : (origin : List ℕ) (p : Presentation) (sections : WrittenSections) → IsPresentationSpelled p
    → AreSectionsSpelled sections → declaration_fault origin p sections ≡ None → IsPresentationSpelled (with_declarations origin p sections)
declared_spelled origin p sections is all none =
    let behind_formal_sorts = (none_first _ _ none).1 in
    let behind_sorts = (none_first _ _ behind_formal_sorts).1 in
    let operations = none_first _ _ behind_sorts in
    let formal_sorts = sorts_spelled origin true p sections.formal_sorts is all.formal_sorts in
    let sorts = sorts_spelled origin false (with_formal_sorts origin p sections) sections.sorts formal_sorts all.sorts in
    let formal_operations = operations_spelled origin true (with_sorts origin p sections) sections.formal_operations sorts
    all.formal_operations operations.0 in
    operations_spelled origin false (with_formal_operations origin p sections) sections.operations formal_operations all.operations
    operations.1

given_spelled : (p r : Presentation) (asked : List EquationQuestion) → GiveAll p asked r → IsPresentationSpelled p
    → IsPresentationSpelled r
given_spelled p _ _ (none_asked _) is = is
given_spelled p r _ (next_gives _ q _ a asked gives more) is = given_spelled q r asked more (step q a gives)
  where
    step : (q : Presentation) (a : EquationQuestion) → GivesPresentation p a q → IsPresentationSpelled q
    step _ _ (sort_is_there place name there) = is
    step _ _ (formal_is_read asked left right one other premisses) = is
    step _ _ (own_is_read asked left right none one other small) = is

extension_spelled : (imports : List Mentioned) (name : List ℕ) (sections : WrittenSections) (p : Presentation)
    → Every IsMentionSpelled imports → AreSectionsSpelled sections → IsExtension imports name sections p → IsPresentationSpelled p
extension_spelled imports name sections p mentioned all is =
    let parts = none_first (union_fault imports) (declaration_fault name (union_of imports) sections) is.0 in
    given_spelled (extended imports name sections) p _ is.1
    (declared_spelled name (union_of imports) sections (union_spelled imports mentioned) all parts.1)

-- ---- Renamings

pair_given : (P : WrittenPair → Type 0) (pairs : List WrittenPair) (name : List ℕ) → Every P pairs → IfSome (pair_for pairs name) P
pair_given P [] name all = tt
pair_given P (pair ∷ pairs) name all = by (one_name pair.replaced.name name) (pair_given P pairs name all.1)
  where
    by : (same : Bool) → IfSome (pair_for pairs name) P → IfSome (if same then Some pair else pair_for pairs name) P
    by true more = all.0
    by false more = more

sort_under_spelled : (type_name : List ℕ) (found : Option WrittenPair) (sort : Sort) → IfSome found GivesWord → IsSortSpelled sort
    → IsSortSpelled (sort_under type_name found sort)
sort_under_spelled type_name None sort pair is = is
sort_under_spelled type_name (Some it) sort pair is = pair

operation_under_spelled : (type_name : List ℕ) (found : Option WrittenPair) (operation : Operation) → IfSome found GivesOperator
    → IsOperationSpelled operation → IsOperationSpelled (operation_under type_name found operation)
operation_under_spelled type_name None operation pair is = is
operation_under_spelled type_name (Some it) operation pair is = record { name = pair; two = is.two }

renamed_spelled : (base : Presentation) (name : List ℕ) (pairs : WrittenPairs) → IsPresentationSpelled base → ArePairsSpelled pairs
    → IsPresentationSpelled (renamed_presentation base name pairs)
renamed_spelled base name pairs is all = record {
  sorts = mapped_every IsSortSpelled IsSortSpelled (renamed_sort name pairs)
      (λ sort spelled. sort_under_spelled name (pair_for pairs.sort_pairs sort.name) sort
      (pair_given GivesWord pairs.sort_pairs sort.name all.sort_pairs) spelled) base.signature.sorts is.sorts;
  operations = mapped_every IsOperationSpelled IsOperationSpelled (renamed_operation name pairs)
      (λ operation spelled. operation_under_spelled name (pair_for pairs.operation_pairs operation.name) operation
      (pair_given GivesOperator pairs.operation_pairs operation.name all.operation_pairs) spelled) base.signature.operations
      is.operations;
}

-- ---- Actualisations

unmarked_every : {A : Type 0} (P : A → Type 0) (marks : List ℕ) (number : ℕ) (xs : List A) → Every P xs
    → Every P (unmarked_from marks number xs)
unmarked_every P marks number [] all = tt
unmarked_every P marks number (x ∷ xs) all = by (is_marked_number marks number) (unmarked_every P marks (suc number) xs all.1)
  where
    by : (marked : Bool) → Every P (unmarked_from marks (suc number) xs)
        → Every P (if marked then unmarked_from marks (suc number) xs else x ∷ unmarked_from marks (suc number) xs)
    by true more = more
    by false more = (all.0, more)

unless_given : (P : WrittenPair → Type 0) (test : Bool) (found : Option WrittenPair) → IfSome found P → IfSome (pair_unless test found) P
unless_given P true found is = tt
unless_given P false found is = is

actualised_spelled : (a : Actualising) → IsPresentationSpelled a.base.presentation → IsPresentationSpelled a.actual
    → ArePairsSpelled a.pairs → IsPresentationSpelled (actualisation a)
actualised_spelled a base actual all = record {
  sorts =
      new_every IsSortSpelled is_same_sort a.actual.signature.sorts _ actual.sorts
      (mapped_every IsSortSpelled IsSortSpelled (other_sort_image a)
      (λ sort spelled. sort_under_spelled a.type_name
      (pair_unless (is_formal_sort a.base.presentation sort.name) (pair_for a.pairs.sort_pairs sort.name)) sort
      (unless_given GivesWord (is_formal_sort a.base.presentation sort.name) (pair_for a.pairs.sort_pairs sort.name)
      (pair_given GivesWord a.pairs.sort_pairs sort.name all.sort_pairs)) spelled)
      (other_sorts_of a.base.presentation)
      (unmarked_every IsSortSpelled a.base.presentation.formal_sorts 0 a.base.presentation.signature.sorts base.sorts));
  operations =
      new_every IsOperationSpelled is_same_operation a.actual.signature.operations _ actual.operations
      (mapped_every IsOperationSpelled IsOperationSpelled (other_operation_image a)
      (λ operation spelled. operation_under_spelled a.type_name
      (pair_unless (is_formal_operation a.base.presentation operation.name) (pair_for a.pairs.operation_pairs operation.name))
      (operation_image (actualised_sort a) operation)
      (unless_given GivesOperator (is_formal_operation a.base.presentation operation.name)
      (pair_for a.pairs.operation_pairs operation.name)
      (pair_given GivesOperator a.pairs.operation_pairs operation.name all.operation_pairs))
      (image_spelled (actualised_sort a) operation spelled))
      (other_operations_of a.base.presentation)
      (unmarked_every IsOperationSpelled a.base.presentation.formal_operations 0 a.base.presentation.signature.operations
      base.operations));
}

-- ---- Types

named_spelled : (done : List Mentioned) (name : List ℕ) → Every IsMentionSpelled done → IsPresentationSpelled (presentation_named done name)
named_spelled [] name all = nothing_spelled
named_spelled (t ∷ ts) name all = by (one_name t.at.name name) (named_spelled ts name all.1)
  where
    by : (same : Bool) → IsPresentationSpelled (presentation_named ts name)
        → IsPresentationSpelled (if same then t.presentation else presentation_named ts name)
    by true more = all.0
    by false more = more

mentions_spelled : (done : List Mentioned) (names : List PlacedName) → Every IsMentionSpelled done
    → Every IsMentionSpelled (mentions_with done names)
mentions_spelled done [] all = tt
mentions_spelled done (name ∷ names) all = (named_spelled done name.name all, mentions_spelled done names all)

presented_spelled : (done : List Mentioned) (name : List ℕ) (body : WrittenTypeBody) (p : Presentation) → Every IsMentionSpelled done
    → IsBodySpelled body → IsPresentation done name body p → IsPresentationSpelled p
presented_spelled done name (extends imports sections) p all spelled is =
    extension_spelled (mentions_with done imports) name sections p (mentions_spelled done imports all) spelled is
presented_spelled done name (renames base pairs) p all spelled is =
    subst IsPresentationSpelled is.1
    (renamed_spelled (presentation_named done base.name) name pairs (named_spelled done base.name all) spelled)
presented_spelled done name (actualises base actuals pairs) p all spelled is =
    subst IsPresentationSpelled is.1
    (actualised_spelled (actualising_of (mention_of done base) (mentions_with done actuals) name pairs)
    (named_spelled done base.name all) (union_spelled (mentions_with done actuals) (mentions_spelled done actuals all)) spelled)

all_presented_spelled : (done : List Mentioned) (types : List DeclaredType) (all : List Mentioned) → ArePresented done types all
    → Every IsMentionSpelled done → Every IsTypeSpelled types → Every IsMentionSpelled all
all_presented_spelled done _ _ (all_presented _) mentioned spelled = mentioned
all_presented_spelled done _ _ (next_presented _ all t ts p is more) mentioned spelled =
    all_presented_spelled (done ++ declared_with t p ∷ []) ts all more
    (Every-append IsMentionSpelled done (declared_with t p ∷ []) mentioned
    (presented_spelled done t.name t.body p mentioned spelled.0 is, tt)) spelled.1

-- ---- Data

found_every : {A : Type 0} (P : A → Type 0) (xs : List A) (k : ℕ) → Every P xs → Every P (option_to_list (slice_get xs k))
found_every P [] k all = tt
found_every P (x ∷ xs) zero all = (all.0, tt)
found_every P (x ∷ xs) (suc k) all = found_every P xs k all.1

pub ordered_every : (P : DeclaredType → Type 0) (types : List DeclaredType) (order : List ℕ) → Every P types
    → Every P (types_at types order)
ordered_every P types [] all = tt
ordered_every P types (number ∷ order) all =
    Every-append P (option_to_list (slice_get types number)) (types_at types order) (found_every P types number all)
    (ordered_every P types order all)

informal_every : (all : List Mentioned) → Every IsMentionSpelled all → Every IsMentionSpelled (without_formals all)
informal_every [] spelled = tt
informal_every (t ∷ ts) spelled = by (is_formal t.presentation) (informal_every ts spelled.1)
  where
    by : (formal : Bool) → Every IsMentionSpelled (without_formals ts)
        → Every IsMentionSpelled (if formal then without_formals ts else t ∷ without_formals ts)
    by true more = more
    by false more = (spelled.0, more)

pub data_spelled : (types : List DeclaredType) (data_ : Data) → Every IsTypeSpelled types → IsFlattening types data_
    → HasTextNames data_.signature
data_spelled types data_ spelled is =
    subst (λ (it : Data). HasTextNames it.signature) is.answered (record {
      operations = λ f o found. (there f o found).name;
      sorts = λ n s found. every_at IsSortSpelled (union_of (without_formals is.all)).signature.sorts n s whole.sorts found;
      infix_operations =
          λ f o found form. (there f o found).two form;
    })
  where
    whole : IsPresentationSpelled (union_of (without_formals is.all))
    whole =
        union_spelled (without_formals is.all)
        (informal_every is.all
        (all_presented_spelled [] (types_at types is.order) is.all is.presented tt (ordered_every IsTypeSpelled types is.order spelled)))

    there : (f : ℕ) (o : Operation) → IsOperation (union_of (without_formals is.all)).signature f o → IsOperationSpelled o
    there f o found =
        every_at IsOperationSpelled (union_of (without_formals is.all)).signature.operations f o whole.operations found
