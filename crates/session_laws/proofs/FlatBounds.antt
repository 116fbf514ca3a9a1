-- A flat text is as long as the lists that it writes: so where it is no longer than texts may be, these lists are not.
use Rattle.std.proofs.Common.{◌≡◌, ℕ, zero, suc, ◌+◌, ◌*◌, ◌^◌, ◌<◌, ◌≤◌, List, [], ◌∷◌, ◌++◌, map, length, refl, ap, sym, ◌∙◌, subst, arith, length-append, codes, ltb-true}
use Rattle.std.specs.Prelude.{Some, slice_get}
use Rattle.std.specs.List.{concat}
use Rattle.std.proofs.Math.Nat.{lt_of_le_of_lt}
use Rattle.std.proofs.lemmas.Nat.{mul-le}
use Rattle.std.proofs.lemmas.Option.{none-some, same_Some}
use Rattle.lotos_base.specs.Equation.{Variable, Equation, Data, IsEquation, IsWellFormedData}
use Rattle.lotos_base.specs.Limits.{text_limit}
use Rattle.lotos_base.specs.Signature.{Signature, Sort, Operation}
use Rattle.lotos_base.specs.Sorting.{head_sort_of}
use Rattle.behaviour_semantics.specs.Behaviour.{Process, Specification}
use Rattle.session_laws.specs.DataLaws.{HasFewVariables}
use Rattle.flat_text.specs.DataText.{line, sorts_lines, operation_line, operations_lines, equations_lines, equation_line, for_all, sorted_variable, sort_if_any, data_lines, data_text}
use Rattle.flat_text.specs.GivenNames.{given_names}
use Rattle.flat_text.specs.EquationNames.{free_names, equation_names, operation_names, variables_under_names, renamed_variables}
use Rattle.flat_text.specs.FreeNames.{least_free}
use Rattle.flat_text.specs.FlatText.{heading, process_lines, processes_lines, where_lines, flat_naming, flat_text}
use Rattle.printed_texts.specs.BehaviourText.{Naming, process_names, behaviour_text}
use Rattle.printed_texts.specs.Brackets.{commas, after_commas}
use Rattle.printed_texts.specs.TermText.{term_text}
use Rattle.session_laws.proofs.Given.{sort_within}
use Rattle.flat_text.proofs.GivenApart.{each_given}

-- ---- Lists

long_left : (n : ℕ) (xs ys : List ℕ) → n ≤ length xs → n ≤ length (xs ++ ys)
long_left n xs ys h = let all : length (xs ++ ys) ≡ length xs + length ys = length-append xs ys in omega (arith, all, h)

long_right : (n : ℕ) (xs ys : List ℕ) → n ≤ length ys → n ≤ length (xs ++ ys)
long_right n xs ys h = let all : length (xs ++ ys) ≡ length xs + length ys = length-append xs ys in omega (arith, all, h)

one_more : (n : ℕ) (xs ys : List ℕ) → 1 ≤ length xs → n ≤ length ys → suc n ≤ length (xs ++ ys)
one_more n xs ys some h =
    let all : length (xs ++ ys) ≡ length xs + length ys = length-append xs ys in omega (arith, all, some, h)

mapped_long : {A B : Type 0} (f : A → B) (xs : List A) → length (map f xs) ≡ length xs
mapped_long f [] = refl
mapped_long f (x ∷ xs) = ap suc (mapped_long f xs)

line_some : (text : List ℕ) → 1 ≤ length (line text)
line_some text = long_right 1 text (codes "\n") (let one : length (codes "\n") ≡ 1 = refl in omega (arith, one))

after_long : (texts : List (List ℕ)) → length texts ≤ length (after_commas texts)
after_long [] = omega arith
after_long (text ∷ texts) =
    one_more (length texts) (codes ", ") (text ++ after_commas texts)
    (let two : length (codes ", ") ≡ 2 = refl in omega (arith, two))
    (long_right (length texts) text (after_commas texts) (after_long texts))

-- ---- Equations

free_long : (taken : List (List ℕ)) (count number : ℕ) → length (free_names taken count number) ≡ count
free_long taken zero number = refl
free_long taken (suc count) number = ap suc (free_long taken count (suc (least_free taken (codes "v") number)))

named_long : (names : List (List ℕ)) (xs : List Variable) → length names ≡ length xs → length (variables_under_names names xs) ≡ length xs
named_long [] [] same = refl
named_long [] (x ∷ xs) same = absurd (omega (arith, same))
named_long (name ∷ names) [] same = absurd (omega (arith, same))
named_long (name ∷ names) (x ∷ xs) same = ap suc (named_long names xs (omega (arith, same)))

renamed_long : (signature : Signature) (e : Equation) → length (renamed_variables signature e) ≡ length e.variables
renamed_long signature e =
    named_long (equation_names signature (length e.variables)) e.variables
    (free_long (operation_names signature) (length e.variables) 1)

for_all_long : (signature : Signature) (xs : List Variable) → length xs ≤ length (for_all signature xs)
for_all_long signature [] = omega arith
for_all_long signature (x ∷ xs) =
    let texts : List (List ℕ) = map (sorted_variable signature) xs in
    let many : length xs ≤ length (after_commas texts) =
    subst (λ (n : ℕ). n ≤ length (after_commas texts)) (mapped_long (sorted_variable signature) xs) (after_long texts) in
    one_more (length xs) (codes "forall ") (commas (map (sorted_variable signature) (x ∷ xs)) ++ codes " ")
    (let seven : length (codes "forall ") ≡ 7 = refl in omega (arith, seven))
    (long_left (length xs) (commas (map (sorted_variable signature) (x ∷ xs))) (codes " ")
    (long_right (length xs) (sorted_variable signature x) (after_commas texts) many))

equation_long : (signature : Signature) (e : Equation) → length e.variables ≤ length (equation_line signature e)
equation_long signature e =
    let xs : List Variable = renamed_variables signature e in
    let n : ℕ = length e.variables in
    let sort : List ℕ = sort_if_any signature (head_sort_of signature e.left) in
    let head : List ℕ = codes "ofsort " ++ sort ++ codes " " in
    let declared : List ℕ = head ++ for_all signature xs in
    let left : List ℕ = declared ++ term_text signature xs e.left in
    let right : List ℕ = left ++ codes " = " ++ term_text signature xs e.right in
    let here : n ≤ length (for_all signature xs) =
    subst (λ (m : ℕ). m ≤ length (for_all signature xs)) (renamed_long signature e) (for_all_long signature xs) in
    long_left n (right ++ codes ";") (codes "\n")
    (long_left n right (codes ";")
    (long_left n (left ++ codes " = ") (term_text signature xs e.right)
    (long_left n left (codes " = ")
    (long_left n declared (term_text signature xs e.left) (long_right n head (for_all signature xs) here)))))

lines_long : (signature : Signature) (es : List Equation) (i : ℕ) (e : Equation) → slice_get es i ≡ Some e
    → length e.variables ≤ length (concat (map (equation_line signature) es))
lines_long signature [] i e at = absurd (none-some e at)
lines_long signature (d ∷ es) zero e at =
    long_left (length e.variables) (equation_line signature d) (concat (map (equation_line signature) es))
    (subst (λ (f : Equation). length e.variables ≤ length (equation_line signature f)) (sym (same_Some d e at))
    (equation_long signature e))
lines_long signature (d ∷ es) (suc i) e at =
    long_right (length e.variables) (equation_line signature d) (concat (map (equation_line signature) es))
    (lines_long signature es i e at)

equations_long : (signature : Signature) (es : List Equation) (i : ℕ) (e : Equation) → slice_get es i ≡ Some e
    → length e.variables ≤ length (equations_lines signature es)
equations_long signature [] i e at = absurd (none-some e at)
equations_long signature (d ∷ es) i e at =
    long_right (length e.variables) (line (codes "eqns")) (concat (map (equation_line signature) (d ∷ es)))
    (lines_long signature (d ∷ es) i e at)

-- an equation has sides of a sort, so that there is a sort
some_sort : (data_ : Data) → IsWellFormedData data_ → (sorts : List Sort) → data_.signature.sorts ≡ sorts → (e : Equation)
    → IsEquation data_ e → length e.variables ≤ length (data_lines data_ sorts)
some_sort data_ well [] none e member =
    let over = well.equations e member in
    let within : over.sort < length data_.signature.sorts =
    sort_within data_.signature e.left over.sort over.left_sort well.signature in
    let many : length data_.signature.sorts ≡ 0 = ap (λ (ss : List Sort). length ss) none in
    absurd (omega (arith, within, many))
some_sort data_ well (s ∷ ss) is e member =
    let n : ℕ = length e.variables in
    let signature : Signature = data_.signature in
    let sorts : List ℕ = line (codes "type Data is") ++ sorts_lines (s ∷ ss) in
    let operations : List ℕ = sorts ++ operations_lines signature signature.operations in
    let equations : List ℕ = equations_lines signature data_.equations in
    long_left n (operations ++ equations) (line (codes "endtype"))
    (long_right n operations equations (equations_long signature data_.equations member.0 e member.1))

-- ---- Operations

operation_lines_long : (signature : Signature) (os : List Operation)
    → length os ≤ length (concat (map (operation_line signature) os))
operation_lines_long signature [] = omega arith
operation_lines_long signature (o ∷ os) =
    one_more (length os) (operation_line signature o) (concat (map (operation_line signature) os)) (line_some _)
    (operation_lines_long signature os)

operations_long : (signature : Signature) (os : List Operation) → length os ≤ length (operations_lines signature os)
operations_long signature [] = omega arith
operations_long signature (o ∷ os) =
    long_right (length (o ∷ os)) (line (codes "opns")) (concat (map (operation_line signature) (o ∷ os)))
    (operation_lines_long signature (o ∷ os))

-- an operation has a result, so that there is a sort
operations_within : (data_ : Data) → IsWellFormedData data_ → (sorts : List Sort) → data_.signature.sorts ≡ sorts
    → length data_.signature.operations ≤ length (data_lines data_ sorts)
operations_within data_ well [] none = by data_.signature.operations refl
  where
    by : (os : List Operation) → data_.signature.operations ≡ os → length os ≤ 0
    by [] is = omega arith
    by (o ∷ os) is =
        let within : o.result < length data_.signature.sorts =
        well.signature.results 0 o (ap (λ (ps : List Operation). slice_get ps 0) is) in
        let many : length data_.signature.sorts ≡ 0 = ap (λ (ss : List Sort). length ss) none in
        absurd (omega (arith, within, many))
operations_within data_ well (s ∷ ss) is =
    let signature : Signature = data_.signature in
    let n : ℕ = length signature.operations in
    let sorts : List ℕ = line (codes "type Data is") ++ sorts_lines (s ∷ ss) in
    let operations : List ℕ = operations_lines signature signature.operations in
    let equations : List ℕ = equations_lines signature data_.equations in
    long_left n (sorts ++ operations ++ equations) (line (codes "endtype"))
    (long_left n (sorts ++ operations) equations
    (long_right n sorts operations (operations_long signature signature.operations)))

-- ---- Processes

module _ (naming : Naming) where
  process_some : (name : List ℕ) (p : Process) → 1 ≤ length (process_lines naming name p)
  process_some name p =
      let text : List ℕ = codes "process " ++ name ++ heading naming p.gates p.parameters p.exit ++ codes " := "
      ++ behaviour_text naming p.parameters p.body in
      long_left 1 (line text) (line (codes "endproc")) (line_some text)

  processes_long : (names : List (List ℕ)) (ps : List Process) → length names ≡ length ps
      → length ps ≤ length (processes_lines naming names ps)
  processes_long [] [] same = omega arith
  processes_long [] (p ∷ ps) same = absurd (omega (arith, same))
  processes_long (name ∷ names) [] same = omega arith
  processes_long (name ∷ names) (p ∷ ps) same =
      one_more (length ps) (process_lines naming name p) (processes_lines naming names ps) (process_some name p)
      (processes_long names ps (omega (arith, same)))

  where_long : (names : List (List ℕ)) (ps : List Process) → length names ≡ length ps → length ps ≤ length (where_lines naming names ps)
  where_long names [] same = omega arith
  where_long names (p ∷ ps) same =
      long_right (length (p ∷ ps)) (line (codes "where")) (processes_lines naming names (p ∷ ps)) (processes_long names (p ∷ ps) same)

-- ---- The text

module _ (data_ : Data) (spec : Specification) where
  abbrev names : List (List ℕ)
  names = given_names (process_names spec)

  abbrev naming : Naming
  naming = flat_naming data_.signature spec (given_names (process_names spec))

  -- the lines before those of the data, before those of the processes, and all but the last one
  abbrev heading_line : List ℕ
  heading_line =
      line (codes "specification " ++ spec.name
      ++ heading (flat_naming data_.signature spec (given_names (process_names spec))) spec.gates spec.parameters spec.exit)

  abbrev body_line : List ℕ
  body_line =
      line (codes "behaviour "
      ++ behaviour_text (flat_naming data_.signature spec (given_names (process_names spec))) spec.parameters spec.body)

  abbrev processes : List ℕ
  processes =
      where_lines (flat_naming data_.signature spec (given_names (process_names spec))) (given_names (process_names spec)) spec.processes

  data_within : length (data_text data_) ≤ length (flat_text data_ spec)
  data_within =
      let n : ℕ = length (data_text data_) in
      let before : List ℕ = heading_line ++ data_text data_ in
      long_left n (before ++ body_line ++ processes) (line (codes "endspec"))
      (long_left n (before ++ body_line) processes
      (long_left n before body_line (long_right n heading_line (data_text data_) (omega arith))))

  processes_within : length spec.processes ≤ length (flat_text data_ spec)
  processes_within =
      let n : ℕ = length spec.processes in
      let same : length names ≡ n =
      each_given [] (process_names spec) (process_names spec) ∙ mapped_long (λ (p : Process). p.name) spec.processes in
      let before : List ℕ = heading_line ++ data_text data_ ++ body_line in
      long_left n (before ++ processes) (line (codes "endspec"))
      (long_right n before processes (where_long naming names spec.processes same))

  -- so there are few processes, and few variables in each equation
  pub few_processes : length (flat_text data_ spec) ≤ text_limit
      → 3 + (length (process_names spec) + length (process_names spec)) < 2 ^ 64
  few_processes within =
      let count : length (process_names spec) ≡ length spec.processes = mapped_long (λ (p : Process). p.name) spec.processes in
      let most = processes_within in
      let limit : text_limit ≡ 1048576 = refl in
      lt_of_le_of_lt {m = 3 + (1048576 + 1048576)} (omega (arith, count, most, within, limit))
      (ltb-true (3 + (1048576 + 1048576)) (2 ^ 64) refl)

  pub few_variables : IsWellFormedData data_ → length (flat_text data_ spec) ≤ text_limit → HasFewVariables data_
  few_variables well within e member =
      let here : length e.variables ≤ length (data_text data_) = some_sort data_ well data_.signature.sorts refl e member in
      let inside = data_within in
      let limit : text_limit ≡ 1048576 = refl in
      let few : length e.variables ≤ 1048576 = omega (arith, here, inside, within, limit) in
      let there : length data_.signature.operations ≤ length (data_text data_) =
      operations_within data_ well data_.signature.sorts refl in
      let small : suc (length data_.signature.operations) ≤ 1048577 = omega (arith, there, inside, within, limit) in
      let product = mul-le (length e.variables) (suc (length data_.signature.operations)) 1048576 1048577 few small in
      lt_of_le_of_lt {m = 1 + 1048576 * 1048577} (omega (arith, product)) (ltb-true (1 + 1048576 * 1048577) (2 ^ 64) refl)
