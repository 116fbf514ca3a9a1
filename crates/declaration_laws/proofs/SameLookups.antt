-- Signatures whose sorts and operations agree one by one: what is looked up in them by names is the same.
use Rattle.std.proofs.Common.{◌≡◌, ℕ, suc, ◌+◌, List, [], ◌∷◌, ◌++◌, length, map, Option, None, Some, Bool, ◌&&◌, ◌||◌, refl, ap, sym, ◌∙◌}
use Rattle.std.specs.Prelude.{codes, nat_eq, if◌then◌else◌}
use Rattle.std.specs.List.{list_any}
use Rattle.std.specs.Str.{bytes_eq}
use Rattle.lotos_base.specs.Equation.{Place, Variable}
use Rattle.lotos_base.specs.Names.{folded}
use Rattle.lotos_base.specs.Signature.{Signature, Sort, Operation, Form, prefix_form}
use Rattle.lotos_base.specs.Twins.{form_eq}
use Rattle.lotos_base.specs.WrittenTerm.{PlacedName}
use Rattle.syntax_trees.specs.WrittenVariable.{WrittenVariable}
use Rattle.syntax_trees.specs.WrittenDefinition.{WrittenHeading, WrittenInner, WrittenInners, inner_item, process, no_inner, inner_then}
use Rattle.sort_terms.specs.ReadingOutcome.{is_operation_name, is_sort_name, one_name}
use Rattle.certificate_theory.specs.SameData.{AreSameSorts, AreSameOperations}
use Rattle.certificate_theory.proofs.SameSignatures.{AgreeSignatures}
use Rattle.scope_parts.specs.Numbering.{Numbers, process_count}
use Rattle.scope_parts.specs.Resolution.{Resolution, resolved, faulty, and_then, put_in_front, beside}
use Rattle.scope_parts.specs.Scope.{Callable, first_double}
use Rattle.scope_parts.specs.Sorts.{Truth, sort_from, sort_named, found_sort, sort_at, sorts_at, functionality_at, variable_at, sorted_variables, placed_variables, variables_at, sorts_if, is_true, true_from, true_of, truth_in}
use Rattle.scope_parts.specs.Definitions.{Heading, formal_gates, heading_at, callable_of, callables}

-- ---- Names.

any_operation : (operations others : List Operation) → AreSameOperations operations others → (name : List ℕ) (form : Form)
    → list_any (λ (o : Operation). one_name o.name name && form_eq o.form form) operations
    ≡ list_any (λ (o : Operation). one_name o.name name && form_eq o.form form) others
any_operation [] [] same name form = refl
any_operation (o ∷ operations) (p ∷ others) same name form =
    let named : folded o.name ≡ folded p.name = same.0.name in
    let formed : o.form ≡ p.form = same.0.form in
    let rest :
    list_any (λ (o : Operation). one_name o.name name && form_eq o.form form) operations
    ≡ list_any (λ (o : Operation). one_name o.name name && form_eq o.form form) others =
    any_operation operations others same.1 name form
    in
    (λ i. (bytes_eq (named i) (folded name) && form_eq (formed i) form) || rest i)
any_operation [] (p ∷ others) same name form = absurd same
any_operation (o ∷ operations) [] same name form = absurd same

any_sort : (sorts others : List Sort) → AreSameSorts sorts others → (name : List ℕ)
    → list_any (λ (s : Sort). one_name s.name name) sorts ≡ list_any (λ (s : Sort). one_name s.name name) others
any_sort [] [] same name = refl
any_sort (s ∷ sorts) (r ∷ others) same name =
    let named : folded s.name ≡ folded r.name = same.0 in
    let rest : list_any (λ (s : Sort). one_name s.name name) sorts ≡ list_any (λ (s : Sort). one_name s.name name) others =
    any_sort sorts others same.1 name
    in
    (λ i. bytes_eq (named i) (folded name) || rest i)
any_sort [] (r ∷ others) same name = absurd same
any_sort (s ∷ sorts) [] same name = absurd same

sort_found : (first : ℕ) (sorts others : List Sort) → AreSameSorts sorts others → (name : List ℕ)
    → sort_from first sorts name ≡ sort_from first others name
sort_found first [] [] same name = refl
sort_found first (s ∷ sorts) (r ∷ others) same name =
    let named : folded s.name ≡ folded r.name = same.0 in
    let rest : sort_from (suc first) sorts name ≡ sort_from (suc first) others name =
    sort_found (suc first) sorts others same.1 name
    in
    (λ i. if bytes_eq (named i) (folded name) then Some first else rest i)
sort_found first [] (r ∷ others) same name = absurd same
sort_found first (s ∷ sorts) [] same name = absurd same

true_found : (sort first : ℕ) (operations others : List Operation) → AreSameOperations operations others
    → true_from sort first operations ≡ true_from sort first others
true_found sort first [] [] same = refl
true_found sort first (o ∷ operations) (p ∷ others) same =
    let named : folded o.name ≡ folded p.name = same.0.name in
    let formed : o.form ≡ p.form = same.0.form in
    let asked : o.arguments ≡ p.arguments = same.0.arguments in
    let made : o.result ≡ p.result = same.0.result in
    let rest : true_from sort (suc first) operations ≡ true_from sort (suc first) others =
    true_found sort (suc first) operations others same.1
    in
    (λ i. if (bytes_eq (named i) (folded (codes "true")) && form_eq (formed i) prefix_form)
    && (nat_eq (length (asked i)) 0 && nat_eq (made i) sort)
    then Some (record { sort = sort; constant = first }) else rest i)
true_found sort first [] (p ∷ others) same = absurd same
true_found sort first (o ∷ operations) [] same = absurd same

-- ---- What is looked up.

module _ (signature other : Signature) (same : AgreeSignatures signature other) where
  pub is_operation_same : (name : List ℕ) (form : Form) → is_operation_name signature name form ≡ is_operation_name other name form
  is_operation_same name form = any_operation signature.operations other.operations same.operations name form

  pub is_sort_same : (name : List ℕ) → is_sort_name signature name ≡ is_sort_name other name
  is_sort_same name = any_sort signature.sorts other.sorts same.sorts name

  pub sort_named_same : (name : List ℕ) → sort_named signature name ≡ sort_named other name
  sort_named_same name = sort_found 0 signature.sorts other.sorts same.sorts name

  pub sort_at_same : (place : Place) (name : List ℕ) → sort_at signature place name ≡ sort_at other place name
  sort_at_same place name = ap (found_sort place name) (sort_named_same name)

  sorts_at_same : (sorts : List PlacedName) → sorts_at signature sorts ≡ sorts_at other sorts
  sorts_at_same [] = refl
  sorts_at_same (sort ∷ sorts) =
      let first : sort_at signature sort.place sort.name ≡ sort_at other sort.place sort.name = sort_at_same sort.place sort.name in
      let rest : sorts_at signature sorts ≡ sorts_at other sorts = sorts_at_same sorts in
      (λ i. and_then (first i) (λ number. put_in_front number (rest i)))

  functionality_same : (sorts : Option (List PlacedName)) → functionality_at signature sorts ≡ functionality_at other sorts
  functionality_same None = refl
  functionality_same (Some sorts) =
      let found : sorts_at signature sorts ≡ sorts_at other sorts = sorts_at_same sorts in
      (λ i. and_then (found i) (λ numbers. resolved (Some numbers)))

  pub variable_same : (number : ℕ) (x : WrittenVariable) → variable_at signature number x ≡ variable_at other number x
  variable_same number x =
      let found : sort_at signature x.sort_place x.sort ≡ sort_at other x.sort_place x.sort = sort_at_same x.sort_place x.sort in
      (λ i. and_then (found i) (λ sort. resolved (record { name = x.name; number = number; sort = sort })))

  sorted_same : (next : ℕ) (xs : List WrittenVariable) → sorted_variables signature next xs ≡ sorted_variables other next xs
  sorted_same next [] = refl
  sorted_same next (x ∷ xs) =
      let first : variable_at signature next x ≡ variable_at other next x = variable_same next x in
      let rest : sorted_variables signature (suc next) xs ≡ sorted_variables other (suc next) xs = sorted_same (suc next) xs in
      (λ i. and_then (first i) (λ y. put_in_front y (rest i)))

  pub variables_same : (next : ℕ) (xs : List WrittenVariable) → variables_at signature next xs ≡ variables_at other next xs
  variables_same next xs = ap (beside (first_double (placed_variables xs))) (sorted_same next xs)

  sorts_if_same : (xs : List WrittenVariable) → sorts_if signature xs ≡ sorts_if other xs
  sorts_if_same [] = refl
  sorts_if_same (x ∷ xs) =
      let first : sort_named signature x.sort ≡ sort_named other x.sort = sort_named_same x.sort in
      let rest : sorts_if signature xs ≡ sorts_if other xs = sorts_if_same xs in
      (λ i. first i ∷ rest i)

  true_of_same : (sort : Option ℕ) → true_of signature sort ≡ true_of other sort
  true_of_same None = refl
  true_of_same (Some sort) = true_found sort 0 signature.operations other.operations same.operations

  pub truth_same : truth_in signature ≡ truth_in other
  truth_same = ap (true_of signature) (sort_named_same (codes "Bool")) ∙ true_of_same (sort_named other (codes "Bool"))

  pub heading_same : (numbers : Numbers) (heading : WrittenHeading) → heading_at signature numbers heading ≡ heading_at other numbers heading
  heading_same numbers heading =
      let parts : variables_at signature numbers.variable heading.parameters ≡ variables_at other numbers.variable heading.parameters =
      variables_same numbers.variable heading.parameters
      in
      let ends : functionality_at signature heading.functionality ≡ functionality_at other heading.functionality =
      functionality_same heading.functionality
      in
      (λ i. and_then (formal_gates numbers.gate heading.gates)
      (λ gates. and_then (parts i)
      (λ parameters. and_then (ends i)
      (λ exit. resolved (record { gates = gates; parameters = parameters; exit = exit })))))

  pub callables_same : (next : ℕ) (inners : WrittenInners) → callables signature next inners ≡ callables other next inners
  callables_same next no_inner = refl
  callables_same next (inner_then (inner_item item) others) = callables_same next others
  callables_same next (inner_then (process heading body inner) others) =
      let sorts : sorts_if signature heading.parameters ≡ sorts_if other heading.parameters = sorts_if_same heading.parameters in
      let rest :
      callables signature (next + process_count (process heading body inner)) others
      ≡ callables other (next + process_count (process heading body inner)) others =
      callables_same (next + process_count (process heading body inner)) others
      in
      (λ i. record { name = heading.name; number = next; gates = length heading.gates; sorts = sorts i } ∷ rest i)
