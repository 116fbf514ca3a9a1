-- What the parts of a union say of the whole.
use Rattle.std.proofs.Common.{◌≡◌, ℕ, ◌+◌, ◌^◌, ◌≤◌, Bool, true, false, List, map, refl, ap, ◌∙◌, arith}
use Rattle.std.proofs.Math.Path.{fun_ext}
use Rattle.std.specs.Prelude.{Option, Some, None, ◌&&◌, not, nat_eq}
use Rattle.lotos_base.specs.Equation.{Equation}
use Rattle.lotos_base.specs.Signature.{Sort, Operation}
use Rattle.sort_terms.specs.WellFormedTest.{all_differ, are_one_sort, are_one_operation}
use Rattle.type_definitions.specs.Images.{operation_image, equation_image}
use Rattle.type_definitions.specs.ProfiledImage.{number_in}
use Rattle.type_definitions.specs.TypeFault.{TypeFault, double_sort, double_operation, too_large, fault_if, first_fault}
use Rattle.type_definitions.specs.Presentation.{Presentation, presentation_limit, has_sort_clash, has_operation_clash, is_too_large, with_new, is_same_operation, is_same_equation}
use Rattle.type_definitions.specs.Union.{Mentioned, with_mentioned, mention_fault, joined_sort, joined_operation, joined_operations, joined_equations}
use Rattle.type_presentations.proofs.UnionData.{AreMapsOfUnion}

-- ---- Faults.

-- what was without a clash has one exactly where something that came clashes
told : (before after clash : Bool) → after ≡ (not clash && before) → before ≡ true → not after ≡ clash
told before after true e h = ap not e
told before after false e h = ap not (e ∙ h)

pub sort_clash_told : (p : Presentation) (before clash : Bool) → all_differ are_one_sort p.signature.sorts ≡ (not clash && before)
    → before ≡ true → has_sort_clash p ≡ clash
sort_clash_told p before clash e h = told before (all_differ are_one_sort p.signature.sorts) clash e h

pub operation_clash_told : (p : Presentation) (before clash : Bool)
    → all_differ are_one_operation p.signature.operations ≡ (not clash && before) → before ≡ true → has_operation_clash p ≡ clash
operation_clash_told p before clash e h = told before (all_differ are_one_operation p.signature.operations) clash e h

first_of : (a : Bool) (x : TypeFault) (later : Option TypeFault) → a ≡ true → first_fault (fault_if a x) later ≡ Some x
first_of true x later h = refl
first_of false x later h = cc

behind : (a : Bool) (x : TypeFault) (later found : Option TypeFault) → a ≡ false → later ≡ found
    → first_fault (fault_if a x) later ≡ found
behind true x later found h is = cc
behind false x later found h is = is

last_of : (a : Bool) (x : TypeFault) → a ≡ true → fault_if a x ≡ Some x
last_of true x h = refl
last_of false x h = cc

none_of : (a : Bool) (x : TypeFault) → a ≡ false → fault_if a x ≡ None
none_of true x h = cc
none_of false x h = refl

-- the size, and the operations with the size
abbrev size_of : Presentation → Mentioned → Option TypeFault
size_of p m = fault_if (is_too_large (with_mentioned p m)) (too_large m.at.place m.at.name)

abbrev operations_then : Presentation → Mentioned → Option TypeFault
operations_then p m =
    first_fault (fault_if (has_operation_clash (with_mentioned p m)) (double_operation m.at.place m.at.name)) (size_of p m)

pub sorts_first : (p : Presentation) (m : Mentioned) → has_sort_clash (with_mentioned p m) ≡ true
    → mention_fault p m ≡ Some (double_sort m.at.place m.at.name)
sorts_first p m sorts =
    first_of (has_sort_clash (with_mentioned p m)) (double_sort m.at.place m.at.name) (operations_then p m) sorts

pub operations_next : (p : Presentation) (m : Mentioned) → has_sort_clash (with_mentioned p m) ≡ false
    → has_operation_clash (with_mentioned p m) ≡ true → mention_fault p m ≡ Some (double_operation m.at.place m.at.name)
operations_next p m sorts operations =
    behind (has_sort_clash (with_mentioned p m)) (double_sort m.at.place m.at.name) (operations_then p m)
    (Some (double_operation m.at.place m.at.name)) sorts
    (first_of (has_operation_clash (with_mentioned p m)) (double_operation m.at.place m.at.name) (size_of p m) operations)

pub size_last : (p : Presentation) (m : Mentioned) → has_sort_clash (with_mentioned p m) ≡ false
    → has_operation_clash (with_mentioned p m) ≡ false → is_too_large (with_mentioned p m) ≡ true
    → mention_fault p m ≡ Some (too_large m.at.place m.at.name)
size_last p m sorts operations size =
    behind (has_sort_clash (with_mentioned p m)) (double_sort m.at.place m.at.name) (operations_then p m)
    (Some (too_large m.at.place m.at.name)) sorts
    (behind (has_operation_clash (with_mentioned p m)) (double_operation m.at.place m.at.name) (size_of p m)
    (Some (too_large m.at.place m.at.name)) operations
    (last_of (is_too_large (with_mentioned p m)) (too_large m.at.place m.at.name) size))

pub no_fault : (p : Presentation) (m : Mentioned) → has_sort_clash (with_mentioned p m) ≡ false
    → has_operation_clash (with_mentioned p m) ≡ false → is_too_large (with_mentioned p m) ≡ false → mention_fault p m ≡ None
no_fault p m sorts operations size =
    behind (has_sort_clash (with_mentioned p m)) (double_sort m.at.place m.at.name) (operations_then p m) None sorts
    (behind (has_operation_clash (with_mentioned p m)) (double_operation m.at.place m.at.name) (size_of p m) None operations
    (none_of (is_too_large (with_mentioned p m)) (too_large m.at.place m.at.name) size))

-- ---- Numbers.

pub few_together : (limit n m : ℕ) → limit ≡ presentation_limit → n ≤ limit → m ≤ limit → n + m ≤ 2 ^ 32
few_together limit n m is one other = omega (arith, is, one, other)

-- ---- Parts.

pub operations_joined : (p q : Presentation) (sorts : List ℕ) (new : List Operation)
    → ((n : ℕ) → number_in sorts n ≡ joined_sort p q n)
    → new ≡ with_new is_same_operation p.signature.operations (map (operation_image (number_in sorts)) q.signature.operations)
    → new ≡ joined_operations p q
operations_joined p q sorts new same is =
    let one : number_in sorts ≡ joined_sort p q = fun_ext same in
    is
    ∙ ap (λ (h : ℕ → ℕ). with_new is_same_operation p.signature.operations (map (operation_image h) q.signature.operations)) one

pub equations_joined : (p q : Presentation) (sorts operations : List ℕ) (profiles : List Operation) (new : List Equation)
    → AreMapsOfUnion p q sorts operations profiles
    → new ≡ with_new is_same_equation p.equations (map (equation_image (number_in sorts) (number_in operations)) q.equations)
    → new ≡ joined_equations p q
equations_joined p q sorts operations profiles new maps is =
    let one : number_in sorts ≡ joined_sort p q = fun_ext maps.sorts_are in
    let other : number_in operations ≡ joined_operation p q = fun_ext maps.operations_are in
    is
    ∙ ap (λ (h : ℕ → ℕ). with_new is_same_equation p.equations (map (equation_image h (number_in operations)) q.equations)) one
    ∙ ap (λ (h : ℕ → ℕ). with_new is_same_equation p.equations (map (equation_image (joined_sort p q) h) q.equations)) other

pub marks_joined : (f : ℕ → ℕ) (numbers old coming new : List ℕ) → ((n : ℕ) → number_in numbers n ≡ f n)
    → new ≡ with_new nat_eq old (map (number_in numbers) coming) → new ≡ with_new nat_eq old (map f coming)
marks_joined f numbers old coming new same is =
    let one : number_in numbers ≡ f = fun_ext same in is ∙ ap (λ (h : ℕ → ℕ). with_new nat_eq old (map h coming)) one

-- ---- The whole.

pub record AreParts (r s : Presentation) : Type 0 where
  pub sorts : r.signature.sorts ≡ s.signature.sorts
  pub operations : r.signature.operations ≡ s.signature.operations
  pub equations : r.equations ≡ s.equations
  pub formal_sorts : r.formal_sorts ≡ s.formal_sorts
  pub formal_operations : r.formal_operations ≡ s.formal_operations

abbrev put : List Sort → List Operation → List Equation → List ℕ → List ℕ → Presentation
put sorts operations equations formal_sorts formal_operations = record {
  signature = record { sorts = sorts; operations = operations };
  equations = equations;
  formal_sorts = formal_sorts;
  formal_operations = formal_operations;
}

pub of_parts : (r s : Presentation) → AreParts r s → r ≡ s
of_parts r s parts =
    ap (λ (xs : List Sort). put xs r.signature.operations r.equations r.formal_sorts r.formal_operations) parts.sorts
    ∙ ap (λ (xs : List Operation). put s.signature.sorts xs r.equations r.formal_sorts r.formal_operations) parts.operations
    ∙ ap (λ (xs : List Equation). put s.signature.sorts s.signature.operations xs r.formal_sorts r.formal_operations) parts.equations
    ∙ ap (λ (xs : List ℕ). put s.signature.sorts s.signature.operations s.equations xs r.formal_operations) parts.formal_sorts
    ∙ ap (λ (xs : List ℕ). put s.signature.sorts s.signature.operations s.equations s.formal_sorts xs) parts.formal_operations
