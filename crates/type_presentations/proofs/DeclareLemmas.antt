-- What declarations come to, once their parts were looked at.
use Rattle.std.proofs.Common.{◌≡◌, ℕ, ◌<◌, ◌^◌, Bool, true, false, List, [], ◌∷◌, ◌++◌, map, length, take, drop, get_or, ◌+◌, refl, ap, sym, ◌∙◌, arith}
use Rattle.std.specs.Prelude.{Option, Some, None, not, nat_lt, fold, if◌then◌else◌}
use Rattle.std.specs.List.{list_any}
use Rattle.std.proofs.lemmas.Bool.{lt-ltb, ltb-true, and_from}
use Rattle.std.proofs.lemmas.List.{map-append, length-map, take-append-drop}
use Rattle.std.proofs.lemmas.Option.{same_Some}
use Rattle.lotos_base.proofs.Numbers.{below_limit}
use Rattle.lotos_base.specs.WrittenTerm.{PlacedName}
use Rattle.lotos_base.specs.WrittenView.{placed_name_of}
use Rattle.lotos_base.specs.declared.places.Place.{Place as CodePlace}
use Rattle.lotos_base.specs.declared.names.Name.{Name}
use Rattle.syntax_trees.specs.TreeViews.{placed_names_of}
use Rattle.lotos_base.specs.Signature.{Sort, Operation, Form, IsWellFormedSignature}
use Rattle.lotos_base.specs.Equation.{Place}
use Rattle.syntax_trees.specs.WrittenItem.{WrittenOperation}
use Rattle.sort_terms.specs.ReadingOutcome.{one_name, is_sort_name}
use Rattle.sort_terms.specs.WellFormedTest.{has_known_sorts, all_below}
use Rattle.type_presentations.specs.PositionOfName.{position_of_name}
use Rattle.type_presentations.specs.Growth.{with_one_sort, with_one_operation, with_sort_mark, with_operation_mark}
use Rattle.type_definitions.specs.TypeFault.{TypeFault, unknown_sort, no_reading, double_sort, double_operation, too_large, first_fault, fault_along}
use Rattle.type_definitions.specs.Presentation.{Presentation, first_position, has_sort_clash, has_operation_clash, is_too_large, presentation_limit}
use Rattle.type_definitions.specs.Union.{presentation_fault}
use Rattle.type_definitions.specs.Declarations.{sort_numbered, with_sort, sort_fault, with_operation, operation_fault, fits_form, unknown_sort_among}
use Rattle.type_presentations.proofs.GrowthLemmas.{sorts_differ, operations_differ}
use Rattle.type_presentations.proofs.SizeLemmas.{within_limits}
use Rattle.type_definitions.proofs.WalkLemmas.{next_of, so_far}
use Rattle.type_definitions.specs.FaultView.{IsFaultFound}
use Rattle.type_definitions.specs.declared.type_faults.TypeFault.{TypeFault as CodeFault}
use Rattle.type_definitions.proofs.WithNewLemmas.{position_within}
use Rattle.type_presentations.specs.DeclarationMade.{IsFaultOfSorts, IsFaultOfOperations}
use Rattle.type_presentations.specs.DeclaredOperation.{declared_operation, sort_names}

-- ---- What is wrong with a presentation.

pub sorts_first : (place : Place) (name : List ℕ) (p : Presentation) → has_sort_clash p ≡ true
    → presentation_fault place name p ≡ Some (double_sort place name)
sorts_first place name p sorts = rw sorts refl

pub operations_next : (place : Place) (name : List ℕ) (p : Presentation) → has_sort_clash p ≡ false → has_operation_clash p ≡ true
    → presentation_fault place name p ≡ Some (double_operation place name)
operations_next place name p sorts operations = rw (sorts, operations) refl

pub size_last : (place : Place) (name : List ℕ) (p : Presentation) → has_sort_clash p ≡ false → has_operation_clash p ≡ false
    → is_too_large p ≡ true → presentation_fault place name p ≡ Some (too_large place name)
size_last place name p sorts operations size = rw (sorts, operations, size) refl

pub nothing_wrong : (place : Place) (name : List ℕ) (p : Presentation) → has_sort_clash p ≡ false → has_operation_clash p ≡ false
    → is_too_large p ≡ false → presentation_fault place name p ≡ None
nothing_wrong place name p sorts operations size = rw (sorts, operations, size) refl

-- ---- Sorts.

abbrev sort_with : List ℕ → List ℕ → Sort
sort_with name origin = record { name = name; origin = origin }

pub sort_fault_is : (origin : List ℕ) (is_formal : Bool) (p : Presentation) (declared : PlacedName) (name : List ℕ) (from : List ℕ)
    → name ≡ declared.name → from ≡ origin
    → presentation_fault declared.place declared.name (with_one_sort p (sort_with name from)) ≡ sort_fault origin is_formal p declared
sort_fault_is origin is_formal p declared name from named of =
    ap (λ (n : List ℕ). presentation_fault declared.place declared.name (with_one_sort p (sort_with n from))) named
    ∙ ap (λ (o : List ℕ). presentation_fault declared.place declared.name (with_one_sort p (sort_with declared.name o))) of

pub with_sort_is : (origin : List ℕ) (is_formal : Bool) (p : Presentation) (declared : PlacedName) (name : List ℕ) (from : List ℕ)
    (number : ℕ)
    → name ≡ declared.name → from ≡ origin → number ≡ length p.signature.sorts
    → with_sort_mark (with_one_sort p (sort_with name from)) is_formal number ≡ with_sort origin is_formal p declared
with_sort_is origin is_formal p declared name from number named of counted =
    ap (λ (n : List ℕ). with_sort_mark (with_one_sort p (sort_with n from)) is_formal number) named
    ∙ ap (λ (o : List ℕ). with_sort_mark (with_one_sort p (sort_with declared.name o)) is_formal number) of
    ∙ ap (λ (n : ℕ). with_sort_mark (with_one_sort p (sort_with declared.name origin)) is_formal n) counted

pub no_operation_clash : (p : Presentation) (sort : Sort) → IsWellFormedSignature p.signature
    → has_operation_clash (with_one_sort p sort) ≡ false
no_operation_clash p sort fine = ap not (operations_differ p.signature fine)

pub no_sort_clash : (p : Presentation) (operation : Operation) → IsWellFormedSignature p.signature
    → has_sort_clash (with_one_operation p operation) ≡ false
no_sort_clash p operation fine = ap not (sorts_differ p.signature fine)

-- ---- Sorts by name.

pub unknown_append : (p : Presentation) (xs ys : List PlacedName)
    → unknown_sort_among p (xs ++ ys) ≡ first_fault (unknown_sort_among p xs) (unknown_sort_among p ys)
unknown_append p [] ys = refl
unknown_append p (x ∷ xs) ys = go (is_sort_name p.signature x.name) (unknown_append p xs ys)
  where
    go : (b : Bool) → unknown_sort_among p (xs ++ ys) ≡ first_fault (unknown_sort_among p xs) (unknown_sort_among p ys)
        → first_fault (if not b then Some (unknown_sort x.place (Some x.name)) else None) (unknown_sort_among p (xs ++ ys))
        ≡ first_fault (first_fault (if not b then Some (unknown_sort x.place (Some x.name)) else None) (unknown_sort_among p xs))
        (unknown_sort_among p ys)
    go true rest = rest
    go false rest = refl

pub sort_is_known : (p : Presentation) (x : PlacedName) → is_sort_name p.signature x.name ≡ true → unknown_sort_among p (x ∷ []) ≡ None
sort_is_known p x there = rw there refl

pub sort_is_unknown : (p : Presentation) (x : PlacedName) → is_sort_name p.signature x.name ≡ false
    → unknown_sort_among p (x ∷ []) ≡ Some (unknown_sort x.place (Some x.name))
sort_is_unknown p x none = rw none refl

-- names one list behind the other
pub unknown_before : (p : Presentation) (xs ys : List PlacedName) (fault : TypeFault) → unknown_sort_among p xs ≡ Some fault
    → unknown_sort_among p (xs ++ ys) ≡ Some fault
unknown_before p xs ys fault found =
    unknown_append p xs ys ∙ ap (λ (o : Option TypeFault). first_fault o (unknown_sort_among p ys)) found

pub unknown_after : (p : Presentation) (xs ys : List PlacedName) (fault : TypeFault) → unknown_sort_among p xs ≡ None
    → unknown_sort_among p ys ≡ Some fault → unknown_sort_among p (xs ++ ys) ≡ Some fault
unknown_after p xs ys fault known found =
    unknown_append p xs ys ∙ ap (λ (o : Option TypeFault). first_fault o (unknown_sort_among p ys)) known ∙ found

pub known_both : (p : Presentation) (xs ys : List PlacedName) → unknown_sort_among p xs ≡ None → unknown_sort_among p ys ≡ None
    → unknown_sort_among p (xs ++ ys) ≡ None
known_both p xs ys one other =
    unknown_append p xs ys ∙ ap (λ (o : Option TypeFault). first_fault o (unknown_sort_among p ys)) one ∙ other

first_alone : (p : Presentation) (x : PlacedName) (xs : List PlacedName) (fault : TypeFault)
    → unknown_sort_among p (x ∷ []) ≡ Some fault → unknown_sort_among p (x ∷ xs) ≡ Some fault
first_alone p x xs fault alone = go (is_sort_name p.signature x.name) refl
  where
    go : (b : Bool) → is_sort_name p.signature x.name ≡ b
        → first_fault (if not b then Some (unknown_sort x.place (Some x.name)) else None) (unknown_sort_among p xs) ≡ Some fault
    go true is = let e : None ≡ Some fault = rw is at alone in cc
    go false is = rw is at alone

-- the first unknown name of a list, all before which are known
pub unknown_here : {A : Type 0} (p : Presentation) (f : A → PlacedName) (xs : List A) (i : ℕ) (x : A) (fault : TypeFault) → i < length xs
    → x ≡ get_or xs i x → unknown_sort_among p (map f (take i xs)) ≡ None → unknown_sort_among p (f x ∷ []) ≡ Some fault
    → unknown_sort_among p (map f xs) ≡ Some fault
unknown_here {A = A} p f xs i x fault within is before here =
    ap (λ (ys : List A). unknown_sort_among p (map f ys)) (sym (take-append-drop i xs))
    ∙ ap (λ (ds : List PlacedName). unknown_sort_among p ds) (map-append f (take i xs) (drop i xs))
    ∙ unknown_append p (map f (take i xs)) (map f (drop i xs))
    ∙ ap (λ (o : Option TypeFault). first_fault o (unknown_sort_among p (map f (drop i xs)))) before
    ∙ ap (λ (ds : List PlacedName). unknown_sort_among p ds) (next_of f xs i x within is)
    ∙ first_alone p (f x) (map f (drop (i + 1) xs)) fault here

-- one more name is known
pub known_more : {A : Type 0} (p : Presentation) (f : A → PlacedName) (xs : List A) (i : ℕ) (x : A) → i < length xs → x ≡ get_or xs i x
    → unknown_sort_among p (map f (take i xs)) ≡ None → unknown_sort_among p (f x ∷ []) ≡ None
    → unknown_sort_among p (map f (take (i + 1) xs)) ≡ None
known_more p f xs i x within is before here =
    ap (λ (ds : List PlacedName). unknown_sort_among p ds) (so_far f xs i x within is)
    ∙ unknown_append p (map f (take i xs)) (f x ∷ [])
    ∙ ap (λ (o : Option TypeFault). first_fault o (unknown_sort_among p (f x ∷ []))) before ∙ here

pub numbers_more : {A : Type 0} (p : Presentation) (f : A → PlacedName) (xs : List A) (i : ℕ) (x : A) (numbers more : List ℕ) (number : ℕ)
    → i < length xs → x ≡ get_or xs i x → numbers ≡ map (λ (s : PlacedName). sort_numbered p s.name) (map f (take i xs))
    → number ≡ sort_numbered p (f x).name → more ≡ numbers ++ number ∷ []
    → more ≡ map (λ (s : PlacedName). sort_numbered p s.name) (map f (take (i + 1) xs))
numbers_more p f xs i x numbers more number within is before here grown =
    let of : PlacedName → ℕ = λ s. sort_numbered p s.name in
    grown ∙ ap (λ (ns : List ℕ). ns ++ number ∷ []) before ∙ ap (λ (n : ℕ). map of (map f (take i xs)) ++ n ∷ []) here
    ∙ sym (map-append of (map f (take i xs)) (f x ∷ [])) ∙ ap (λ (ds : List PlacedName). map of ds) (sym (so_far f xs i x within is))

-- ---- Operations.

-- the test of the code, whose arguments are not viewed
pub fits_as_written : (form : Form) (arguments : List (CodePlace × Name)) (fitting b : Bool)
    → fitting ≡ fits_form form (length arguments) → fitting ≡ b → fits_form form (length (placed_names_of arguments)) ≡ b
fits_as_written form arguments fitting b is told =
    ap (λ (n : ℕ). fits_form form n) (length-map arguments placed_name_of) ∙ sym is ∙ told

pub misfit : (origin : List ℕ) (is_formal : Bool) (p : Presentation) (declared : WrittenOperation)
    → fits_form declared.form (length declared.arguments) ≡ false
    → operation_fault origin is_formal p declared ≡ Some (no_reading declared.place)
misfit origin is_formal p declared fits = rw fits refl

pub sort_missing : (origin : List ℕ) (is_formal : Bool) (p : Presentation) (declared : WrittenOperation) (fault : TypeFault)
    → fits_form declared.form (length declared.arguments) ≡ true
    → unknown_sort_among p (declared.arguments ++ declared.result ∷ []) ≡ Some fault
    → operation_fault origin is_formal p declared ≡ Some fault
sort_missing origin is_formal p declared fault fits missing = rw (fits, missing) refl

pub operation_fault_is : (origin : List ℕ) (is_formal : Bool) (p : Presentation) (declared : WrittenOperation) (made : Operation)
    → fits_form declared.form (length declared.arguments) ≡ true
    → unknown_sort_among p (declared.arguments ++ declared.result ∷ []) ≡ None → made ≡ declared_operation origin p declared
    → presentation_fault declared.place declared.name (with_one_operation p made) ≡ operation_fault origin is_formal p declared
operation_fault_is origin is_formal p declared made fits known is =
    ap (λ (o : Operation). presentation_fault declared.place declared.name (with_one_operation p o)) is ∙ behind
  where
    behind : presentation_fault declared.place declared.name (with_one_operation p (declared_operation origin p declared))
        ≡ operation_fault origin is_formal p declared
    behind = rw (fits, known) refl

pub with_operation_is : (origin : List ℕ) (is_formal : Bool) (p : Presentation) (declared : WrittenOperation) (made : Operation)
    (number : ℕ)
    → made ≡ declared_operation origin p declared → number ≡ length p.signature.operations
    → with_operation_mark (with_one_operation p made) is_formal number ≡ with_operation origin is_formal p declared
with_operation_is origin is_formal p declared made number is counted =
    ap (λ (o : Operation). with_operation_mark (with_one_operation p o) is_formal number) is
    ∙ ap (λ (n : ℕ). with_operation_mark (with_one_operation p (declared_operation origin p declared)) is_formal n) counted

abbrev an_operation : Form → List ℕ → List ℕ → ℕ → List ℕ → Operation
an_operation form name arguments result origin =
    record { name = name; form = form; arguments = arguments; result = result; origin = origin }

pub operation_made : (form : Form) (name name' arguments arguments' : List ℕ) (result result' : ℕ) (origin origin' : List ℕ)
    → name ≡ name' → arguments ≡ arguments' → result ≡ result' → origin ≡ origin'
    → an_operation form name arguments result origin ≡ an_operation form name' arguments' result' origin'
operation_made form name name' arguments arguments' result result' origin origin' e f g h =
    ap (λ (n : List ℕ). an_operation form n arguments result origin) e
    ∙ ap (λ (ns : List ℕ). an_operation form name' ns result origin) f
    ∙ ap (λ (n : ℕ). an_operation form name' arguments' n origin) g
    ∙ ap (λ (n : List ℕ). an_operation form name' arguments' result' n) h

known_parts : (b : Bool) (fault : TypeFault) (rest : Option TypeFault) → first_fault (if not b then Some fault else None) rest ≡ None
    → (b ≡ true) × (rest ≡ None)
known_parts true fault rest e = (refl, e)
known_parts false fault rest e = absurd (some_none e)
  where
    some_none : Some fault ≡ None → ⊥
    some_none e = cc

numbers_below : (p : Presentation) (xs : List PlacedName) → unknown_sort_among p xs ≡ None
    → all_below (length p.signature.sorts) (map (λ (s : PlacedName). sort_numbered p s.name) xs) ≡ true
numbers_below p [] known = refl
numbers_below p (x ∷ xs) known =
    let parts = known_parts (is_sort_name p.signature x.name) (unknown_sort x.place (Some x.name)) (unknown_sort_among p xs) known in
    and_from (nat_lt (sort_numbered p x.name) (length p.signature.sorts))
    (all_below (length p.signature.sorts) (map (λ (s : PlacedName). sort_numbered p s.name) xs))
    (lt-ltb (sort_numbered p x.name) (length p.signature.sorts)
    (position_within (λ (s : Sort). one_name s.name x.name) p.signature.sorts parts.0))
    (numbers_below p xs parts.1)

pub sorts_are_known : (origin : List ℕ) (p : Presentation) (declared : WrittenOperation) (made : Operation)
    → unknown_sort_among p (declared.arguments ++ declared.result ∷ []) ≡ None → made ≡ declared_operation origin p declared
    → has_known_sorts (length p.signature.sorts) made ≡ true
sorts_are_known origin p declared made known is =
    ap (λ (o : Operation). has_known_sorts (length p.signature.sorts) o) is
    ∙ (let parts = apart (unknown_sort_among p declared.arguments) (unknown_sort_among p (declared.result ∷ []))
    (sym (unknown_append p declared.arguments (declared.result ∷ [])) ∙ known) in
    let result = known_parts (is_sort_name p.signature declared.result.name)
    (unknown_sort declared.result.place (Some declared.result.name)) None parts.1 in
    and_from (nat_lt (sort_numbered p declared.result.name) (length p.signature.sorts))
    (all_below (length p.signature.sorts) (map (λ (s : PlacedName). sort_numbered p s.name) declared.arguments))
    (lt-ltb (sort_numbered p declared.result.name) (length p.signature.sorts)
    (position_within (λ (s : Sort). one_name s.name declared.result.name) p.signature.sorts result.0))
    (numbers_below p declared.arguments parts.0))
  where
    apart : (a b : Option TypeFault) → first_fault a b ≡ None → (a ≡ None) × (b ≡ None)
    apart None b e = (refl, e)
    apart (Some f) b e = absurd (let h : Some f ≡ None = e in cc)

pub few_names : (p : Presentation) → is_too_large p ≡ false → length (map (λ (s : Sort). s.name) p.signature.sorts) < 2 ^ 32
few_names p within =
    below_limit (length (map (λ (s : Sort). s.name) p.signature.sorts)) (length p.signature.sorts) presentation_limit (2 ^ 32)
    (length-map p.signature.sorts (λ (s : Sort). s.name)) (within_limits p within).sorts (ltb-true presentation_limit (2 ^ 32) refl)

-- the number of a name is one of 32 bits
pub number_within : (names : List (List ℕ)) (name : List ℕ) (n top : ℕ) (found : Option ℕ) → found ≡ Some n
    → found ≡ position_of_name names name → length names < top → n < top
number_within names name n top found some is few = go (list_any (λ (m : List ℕ). one_name m name) names) refl
  where
    go : (b : Bool) → list_any (λ (m : List ℕ). one_name m name) names ≡ b → n < top
    go true any =
        let at : Some n ≡ Some (first_position (λ (m : List ℕ). one_name m name) names) =
        sym some ∙ is
        ∙ ap (λ (b : Bool). if b then Some (first_position (λ (m : List ℕ). one_name m name) names) else None) any in
        let same : n ≡ first_position (λ (m : List ℕ). one_name m name) names = same_Some _ _ at in
        let within : first_position (λ (m : List ℕ). one_name m name) names < length names =
        position_within (λ (m : List ℕ). one_name m name) names any in
        omega (arith, same, within, few)
    go false any =
        let none : Some n ≡ None =
        sym some ∙ is
        ∙ ap (λ (b : Bool). if b then Some (first_position (λ (m : List ℕ). one_name m name) names) else None) any in cc

-- ---- One part after the other.

pub later_fails : (a rest : Option TypeFault) (fault : TypeFault) → a ≡ None → rest ≡ Some fault → first_fault a rest ≡ Some fault
later_fails a rest fault one found = ap (λ (o : Option TypeFault). first_fault o rest) one ∙ found

pub none_fails : (a rest : Option TypeFault) → a ≡ None → rest ≡ None → first_fault a rest ≡ None
none_fails a rest one other = ap (λ (o : Option TypeFault). first_fault o rest) one ∙ other

pub ops_keep_sorts : (origin : List ℕ) (is_formal : Bool) (p : Presentation) (ds : List WrittenOperation)
    → sort_names (fold (with_operation origin is_formal) p ds) ≡ sort_names p
ops_keep_sorts origin is_formal p [] = refl
ops_keep_sorts origin is_formal p (d ∷ ds) = ops_keep_sorts origin is_formal (with_operation origin is_formal p d) ds

-- ---- The first fault of a list.

pub sorts_fault : (type_name : List ℕ) (is_formal : Bool) (before : Presentation) (declared : List PlacedName) (fault : CodeFault)
    → IsFaultFound (fault_along (sort_fault type_name is_formal) (with_sort type_name is_formal) before declared) fault
    → IsFaultOfSorts type_name is_formal before declared fault
sorts_fault type_name is_formal before declared fault h = record { found = h }

pub operations_fault : (type_name : List ℕ) (is_formal : Bool) (before : Presentation) (declared : List WrittenOperation)
    (fault : CodeFault)
    → IsFaultFound (fault_along (operation_fault type_name is_formal) (with_operation type_name is_formal) before declared) fault
    → IsFaultOfOperations type_name is_formal before declared fault
operations_fault type_name is_formal before declared fault h = record { found = h }
