-- The first unknown name, part by part.
use Rattle.std.proofs.Common.{◌≡◌, ℕ, suc, ◌+◌, ◌-◌, ◌<◌, ◌≤◌, Bool, true, false, ◌&&◌, List, [], ◌∷◌, ◌++◌, inl, inr, map, take, drop, length, get_or, refl, ap, sym, ◌∙◌, subst, arith}
use Rattle.std.specs.Prelude.{Option, Some, None, slice_get}
use Rattle.std.specs.List.{list_any}
use Rattle.std.proofs.Math.Seq.{drop-cons, take-length}
use Rattle.std.proofs.lemmas.Bool.{and_parts, or_left, or_right, false_from_ne_true, and_from}
use Rattle.std.proofs.lemmas.Map.Keys.{any_passes_from_place}
use Rattle.lotos_base.proofs.Truth.{same_truth, second_alone}
use Rattle.lotos_base.proofs.Tests.{list_any-at}
use Rattle.lotos_base.proofs.Bytes.{same_bytes, bytes_same}
use Rattle.lotos_base.proofs.Members.{from_map, at_map}
use Rattle.lotos_base.specs.Name.{spelling}
use Rattle.lotos_base.specs.WrittenLaws.{head_of}
use Rattle.lotos_base.specs.WrittenTerm.{written_terms}
use Rattle.lotos_base.specs.WrittenView.{form_of, placed_name_of, text_place_of, written_term_of, written_terms_of}
use Rattle.lotos_base.specs.declared.places.Place.{Place}
use Rattle.lotos_base.specs.declared.names.Name.{Name}
use Rattle.lotos_base.specs.declared.written_terms.Form.TheVariants.{Prefix}
use Rattle.lotos_base.specs.declared.written_terms.Written.{Written, out-Written}
use Rattle.lotos_base.specs.Names.{folded}
use Rattle.lotos_base.specs.Signature.{Signature, Sort, Operation, Form, prefix_form, infix_form}
use Rattle.lotos_base.specs.Equation.{Variable}
use Rattle.lotos_base.specs.Term.{node, no_terms}
use Rattle.lotos_base.specs.Twins.{form_eq}
use Rattle.sort_terms.specs.Positions.{positions_of}
use Rattle.sort_terms.specs.Reading.{IsLastNamed, NoneNamed, IsSortNamed}
use Rattle.sort_terms.proofs.AskedLemmas.{IsSortFound}
use Rattle.sort_terms.specs.ReadingOutcome.{ReadingRefusal, unknown_name, unknown_sort, is_known, is_sort_name, refusals_together, in_text_order, unknown_in, unknown_in_each, unknown_at, unknown_sorts, one_name, is_operation_name, is_variable_name}
use Rattle.sort_terms.specs.RefusalView.{IsFirstRefusal}
use Rattle.sort_terms.specs.Searching.{between, early_count, form_is, any_of_form}
use Rattle.sort_terms.specs.declared.sort_faults.SortFault.{SortFault}
use Rattle.sort_terms.specs.declared.sort_faults.SortFault.TheVariants.{UnknownName, UnknownSort}
use Rattle.sort_terms.proofs.CountedLemmas.{written_opened}
use Rattle.sort_terms.proofs.MeaningLemmas.{HeadIn}
use Rattle.sort_terms.proofs.PositionMembers.{position_is, position_there}

pub first_here : (xs ys : List ReadingRefusal) (fault : SortFault) → IsFirstRefusal xs (Some fault) → IsFirstRefusal (xs ++ ys) (Some fault)
first_here xs ys fault first = (first.0, first.1 ++ ys, first.2, ap (λ (zs : List ReadingRefusal). zs ++ ys) first.3)

pub first_later : (xs ys : List ReadingRefusal) (o : Option SortFault) → xs ≡ [] → IsFirstRefusal ys o → IsFirstRefusal (xs ++ ys) o
first_later xs ys o none first = subst (λ (zs : List ReadingRefusal). IsFirstRefusal (zs ++ ys) o) (sym none) first

-- ---- Stretches

pub between_cons : {A : Type 0} (from to : ℕ) (xs : List A) (d : A) → from < to → to ≤ length xs
    → between from to xs ≡ get_or xs from d ∷ between (from + 1) to xs
between_cons from to xs d before within =
    let one_more : to - from ≡ suc (to - suc from) = omega arith in
    let next : suc from ≡ from + 1 = omega arith in
    let inside : from < length xs = omega arith in
    ap (λ (n : ℕ). take n (drop from xs)) one_more ∙ ap (take (suc (to - suc from))) (drop-cons xs from d inside)
    ∙ ap (λ (n : ℕ). get_or xs from d ∷ between n to xs) next

-- the member at the place has the first unknown name
pub found_among : {A : Type 0} (f : A → List ReadingRefusal) (from i to : ℕ) (xs : List A) (x : A) (fault : SortFault) → i < to
    → to ≤ length xs
    → x ≡ get_or xs i x → refusals_together (map f (between from to xs)) ≡ refusals_together (map f (between i to xs))
    → IsFirstRefusal (f x) (Some fault)
    → IsFirstRefusal (refusals_together (map f (between from to xs))) (Some fault)
found_among f from i to xs x fault before within is so_far first =
    let here : between i to xs ≡ x ∷ between (i + 1) to xs =
    between_cons i to xs x before within ∙ ap (λ y. y ∷ between (i + 1) to xs) (sym is) in
    subst (λ (rs : List ReadingRefusal). IsFirstRefusal rs (Some fault)) (sym (so_far ∙ ap (λ ys. refusals_together (map f ys)) here))
    (first_here (f x) (refusals_together (map f (between (i + 1) to xs))) fault first)

-- the member at the place has no unknown name
pub none_among : {A : Type 0} (f : A → List ReadingRefusal) (from i to : ℕ) (xs : List A) (x : A) → i < to → to ≤ length xs
    → x ≡ get_or xs i x → refusals_together (map f (between from to xs)) ≡ refusals_together (map f (between i to xs)) → f x ≡ []
    → refusals_together (map f (between from to xs)) ≡ refusals_together (map f (between (i + 1) to xs))
none_among f from i to xs x before within is so_far none =
    let here : between i to xs ≡ x ∷ between (i + 1) to xs =
    between_cons i to xs x before within ∙ ap (λ y. y ∷ between (i + 1) to xs) (sym is) in
    so_far ∙ ap (λ ys. refusals_together (map f ys)) here
    ∙ ap (λ (rs : List ReadingRefusal). rs ++ refusals_together (map f (between (i + 1) to xs))) none

-- ---- A node

whole : {A : Type 0} (xs : List A) → between 0 (length xs) xs ≡ xs
whole xs =
    let all : length xs - 0 ≡ length xs = omega arith in
    ap (λ (n : ℕ). take n xs) all ∙ take-length xs

pub ordered : {A : Type 0} (f : A → List ReadingRefusal) (form : Form) (here : List ReadingRefusal) (xs : List A)
    → in_text_order form here (map f xs)
    ≡ refusals_together (map f (between 0 (early_count form (length xs)) xs)) ++ here ++ refusals_together
    (map f (between (early_count form (length xs)) (length xs) xs))
ordered f prefix_form here xs = ap (λ ys. [] ++ here ++ refusals_together (map f ys)) (sym (whole xs))
ordered f infix_form here [] = refl
ordered f infix_form here (x ∷ xs) =
    let rest : suc (length xs) - 1 ≡ length xs = omega arith in
    ap (λ ys. (f x ++ []) ++ here ++ refusals_together (map f ys)) (sym (ap (λ (n : ℕ). take n xs) rest ∙ take-length xs))

each_unknown : (signature : Signature) (scope : List Variable) (ws : List Written)
    → unknown_in_each signature scope (written_terms (written_terms_of ws)) ≡ map (λ w. unknown_in signature scope (written_term_of w)) ws
each_unknown signature scope [] = refl
each_unknown signature scope (w ∷ ws) =
    ap (λ (rest : List (List ReadingRefusal)). unknown_in signature scope (written_term_of w) ∷ rest) (each_unknown signature scope ws)

-- the names of the code's term, in text order
pub unknown_parts : (signature : Signature) (scope : List Variable) (w : Written)
    → unknown_in signature scope (written_term_of w)
    ≡ (refusals_together (map (λ v. unknown_in signature scope (written_term_of v))
    (between 0 (early_count (head_of w).form (length (out-Written w).args.items)) (out-Written w).args.items))
    ++ unknown_at signature scope (head_of w)
    ++ refusals_together (map (λ v. unknown_in signature scope (written_term_of v))
    (between (early_count (head_of w).form (length (out-Written w).args.items)) (length (out-Written w).args.items)
    (out-Written w).args.items)))
    ++ unknown_sorts signature (head_of w).sorts
unknown_parts signature scope w =
    ap (unknown_in signature scope) (written_opened w)
    ∙ ap (λ (lists : List (List ReadingRefusal)). in_text_order (head_of w).form
    (unknown_at signature scope (head_of w)) lists ++ unknown_sorts signature (head_of w).sorts)
    (each_unknown signature scope (out-Written w).args.items)
    ∙ ap (λ (rs : List ReadingRefusal). rs ++ unknown_sorts signature (head_of w).sorts)
    (ordered (λ v. unknown_in signature scope (written_term_of v)) (head_of w).form (unknown_at signature scope (head_of w))
    (out-Written w).args.items)

-- ---- Whether a name is known

pub variable_known : (scope : List Variable) (name : List ℕ) (v : Variable) → IsLastNamed scope name v → is_variable_name scope name ≡ true
variable_known scope name v last =
    any_passes_from_place (λ (w : Variable). one_name w.name name) scope last.position v last.found
    (bytes_same (folded v.name) (folded name) last.named)

pub variable_unknown : (scope : List Variable) (name : List ℕ) → NoneNamed scope name → is_variable_name scope name ≡ false
variable_unknown scope name none = false_from_ne_true (is_variable_name scope name) (λ h.
    let member = list_any-at (λ (w : Variable). one_name w.name name) scope h in
    none member.0 member.1 member.2 (same_bytes (folded member.1.name) (folded name) member.3))

any_headed : (test : ℕ → Bool) (numbers : List ℕ) (f : ℕ) → HeadIn numbers (node f no_terms) → test f ≡ true → list_any test numbers ≡ true
any_headed test [] f h passes = absurd h
any_headed test (g ∷ gs) f (inl same) passes =
    let numbers : f ≡ g = cc in
    or_left (test g) (list_any test gs) (ap test (sym numbers) ∙ passes)
any_headed test (g ∷ gs) f (inr h) passes = or_right (test g) (list_any test gs) (any_headed test gs f h passes)

-- an operation of the name and form is one of those under the name that has the form
pub operation_known : (signature : Signature) (name : List ℕ) (form : Form)
    → any_of_form signature form (positions_of (folded name) (map (λ (o : Operation). o.name) signature.operations))
    ≡ is_operation_name signature name form
operation_known signature name form = same_truth _ _ out back
  where
    out : any_of_form signature form (positions_of (folded name) (map (λ (o : Operation). o.name) signature.operations)) ≡ true
        → is_operation_name signature name form ≡ true
    out h =
        let one = list_any-at (λ number. form_is form (slice_get signature.operations number)) _ h in
        let at = position_is 0 (folded name) (map (λ (o : Operation). o.name) signature.operations) one.0 one.1 one.2 in
        let member = from_map (λ (o : Operation). o.name) signature.operations at.0 at.1 at.3 in
        let here : one.1 ≡ at.0 = at.2 ∙ omega arith in
        let there : slice_get signature.operations one.1 ≡ Some member.0 = ap (slice_get signature.operations) here ∙ member.1 in
        any_passes_from_place (λ (o : Operation). one_name o.name name && form_eq o.form form) signature.operations at.0 member.0 member.1
        (and_from _ _ (bytes_same (folded member.0.name) (folded name) (ap folded member.2 ∙ sym at.4))
        (sym (ap (form_is form) there) ∙ one.3))

    back : is_operation_name signature name form ≡ true
        → any_of_form signature form (positions_of (folded name) (map (λ (o : Operation). o.name) signature.operations)) ≡ true
    back h =
        let member = list_any-at (λ (o : Operation). one_name o.name name && form_eq o.form form) signature.operations h in
        let parts = and_parts (one_name member.1.name name) (form_eq member.1.form form) member.3 in
        any_headed (λ number. form_is form (slice_get signature.operations number)) _ member.0
        (position_there 0 (folded name) (map (λ (o : Operation). o.name) signature.operations) member.0 member.0 member.1.name
        (node member.0 no_terms)
        (omega arith) (at_map (λ (o : Operation). o.name) signature.operations member.0 member.1 member.2)
        (sym (same_bytes (folded member.1.name) (folded name) parts.0)) refl)
        (ap (form_is form) member.2 ∙ parts.1)

-- the operation at the place has the form
pub form_found : (signature : Signature) (form : Form) (numbers : List ℕ) (i : ℕ) → i < length numbers
    → form_is form (slice_get signature.operations (get_or numbers i 0)) ≡ true
    → any_of_form signature form numbers ≡ any_of_form signature form (drop i numbers) → any_of_form signature form numbers ≡ true
form_found signature form numbers i within is so_far =
    so_far ∙ ap (any_of_form signature form) (drop-cons numbers i 0 within)
    ∙ or_left (form_is form (slice_get signature.operations (get_or numbers i 0))) (any_of_form signature form (drop (suc i) numbers)) is

and_right : (x y : Bool) → x ≡ true → y ≡ false → (x && y) ≡ false
and_right x y h k = rw h k

-- a bare or applied name that is a variable's, and one that is not
pub variable_is_known : (signature : Signature) (scope : List Variable) (w : Written) (v : Variable) → (out-Written w).form ≡ Prefix
    → IsLastNamed scope (head_of w).name v → true ≡ is_known signature scope (head_of w)
variable_is_known signature scope w v prefixed last =
    sym (or_left (form_eq (head_of w).form prefix_form && is_variable_name scope (head_of w).name)
    (is_operation_name signature (head_of w).name (head_of w).form)
    (and_from (form_eq (head_of w).form prefix_form) (is_variable_name scope (head_of w).name)
    (ap (λ f. form_eq (form_of f) prefix_form) prefixed) (variable_known scope (head_of w).name v last)))

pub operation_is_known : (signature : Signature) (scope : List Variable) (w : Written) (known : Bool) → (out-Written w).form ≡ Prefix
    → NoneNamed scope (head_of w).name → known ≡ is_operation_name signature (head_of w).name prefix_form
    → known ≡ is_known signature scope (head_of w)
operation_is_known signature scope w known prefixed none is =
    is ∙ ap (λ f. is_operation_name signature (head_of w).name (form_of f)) (sym prefixed)
    ∙ sym (second_alone (form_eq (head_of w).form prefix_form && is_variable_name scope (head_of w).name)
    (is_operation_name signature (head_of w).name (head_of w).form)
    (and_right (form_eq (head_of w).form prefix_form) (is_variable_name scope (head_of w).name)
    (ap (λ f. form_eq (form_of f) prefix_form) prefixed) (variable_unknown scope (head_of w).name none)))

-- ---- Sorts behind `of`

sort_name_known : (signature : Signature) (name : List ℕ) (n : ℕ) → IsSortNamed signature n name → is_sort_name signature name ≡ true
sort_name_known signature name n named =
    any_passes_from_place (λ (s : Sort). one_name s.name name) signature.sorts n named.0 named.1
    (bytes_same (folded named.0.name) (folded name) named.2)

pub sort_name_unknown : (signature : Signature) (name : List ℕ) → ((s : ℕ) → ¬ IsSortNamed signature s name) → is_sort_name signature name
    ≡ false
sort_name_unknown signature name none = false_from_ne_true (is_sort_name signature name) (λ h.
    let member = list_any-at (λ (s : Sort). one_name s.name name) signature.sorts h in
    none member.0 (member.1, member.2, same_bytes (folded member.1.name) (folded name) member.3))

abbrev pub Asks : Type 0
Asks = List (Place × Name)

dropped_sorts : (signature : Signature) (items : Asks) (i : ℕ) (x : Place × Name) → i < length items → x ≡ get_or items i x
    → unknown_sorts signature (map placed_name_of (drop i items))
    ≡ unknown_sorts signature (placed_name_of x ∷ map placed_name_of (drop (suc i) items))
dropped_sorts signature items i x within is =
    ap (λ (xs : Asks). unknown_sorts signature (map placed_name_of xs))
    (drop-cons items i x within ∙ ap (λ (y : Place × Name). y ∷ drop (suc i) items) (sym is))

-- an `of` that names a sort
pub sort_passed : (signature : Signature) (items : Asks) (i : ℕ) (x : Place × Name) (found : Option ℕ) (n : ℕ) (whole : List ReadingRefusal)
    → i < length items → x ≡ get_or items i x → found ≡ Some n → IsSortFound signature (spelling x.1) found
    → whole ≡ unknown_sorts signature (map placed_name_of (drop i items))
    → whole ≡ unknown_sorts signature (map placed_name_of (drop (i + 1) items))
sort_passed signature items i x found n whole within is there named so_far =
    let next : suc i ≡ i + 1 = omega arith in
    let known : is_sort_name signature (spelling x.1) ≡ true =
    sort_name_known signature (spelling x.1) n (subst (λ (o : Option ℕ). IsSortFound signature (spelling x.1) o) there named).0 in
    so_far ∙ dropped_sorts signature items i x within is ∙ rw known refl
    ∙ ap (λ (j : ℕ). unknown_sorts signature (map placed_name_of (drop j items))) next

-- an `of` that names none
pub sort_missed : (signature : Signature) (items : Asks) (i : ℕ) (x : Place × Name) (found : Option ℕ) (whole : List ReadingRefusal)
    → i < length items → x ≡ get_or items i x → found ≡ None → IsSortFound signature (spelling x.1) found
    → whole ≡ unknown_sorts signature (map placed_name_of (drop i items)) → IsFirstRefusal whole (Some (UnknownSort x.0))
sort_missed signature items i x found whole within is none named so_far =
    let unknown : is_sort_name signature (spelling x.1) ≡ false =
    sort_name_unknown signature (spelling x.1) (subst (λ (o : Option ℕ). IsSortFound signature (spelling x.1) o) none named) in (
      unknown_sort (text_place_of x.0),
      unknown_sorts signature (map placed_name_of (drop (suc i) items)),
      refl,
      so_far ∙ dropped_sorts signature items i x within is ∙ rw unknown refl,
    )

-- ---- The whole term

-- the unknown names of a stretch of arguments
abbrev pub UnknownBetween : Signature → List Variable → Written → ℕ → ℕ → List ReadingRefusal
UnknownBetween signature scope w from to =
    refusals_together (map (λ v. unknown_in signature scope (written_term_of v)) (between from to (out-Written w).args.items))

parts : (signature : Signature) (scope : List Variable) (w : Written) (early many : ℕ) → many ≡ length (out-Written w).args.items
    → early ≡ early_count (head_of w).form many
    → unknown_in signature scope (written_term_of w)
    ≡ (UnknownBetween signature scope w 0 early ++ unknown_at signature scope (head_of w) ++ UnknownBetween signature scope w early many)
    ++ unknown_sorts signature (head_of w).sorts
parts signature scope w early many counted is =
    let at : early_count (head_of w).form (length (out-Written w).args.items) ≡ early =
    ap (early_count (head_of w).form) (sym counted) ∙ sym is in
    unknown_parts signature scope w
    ∙ ap (λ (n : ℕ). (UnknownBetween signature scope w 0 n ++ unknown_at signature scope (head_of w)
    ++ UnknownBetween signature scope w n (length (out-Written w).args.items)) ++ unknown_sorts signature (head_of w).sorts) at
    ∙ ap (λ (n : ℕ). (UnknownBetween signature scope w 0 early ++ unknown_at signature scope (head_of w)
    ++ UnknownBetween signature scope w early n) ++ unknown_sorts signature (head_of w).sorts) (sym counted)

pub before_first : (signature : Signature) (scope : List Variable) (w : Written) (early many : ℕ) (fault : SortFault)
    → many ≡ length (out-Written w).args.items → early ≡ early_count (head_of w).form many
    → IsFirstRefusal (UnknownBetween signature scope w 0 early) (Some fault)
    → IsFirstRefusal (unknown_in signature scope (written_term_of w)) (Some fault)
before_first signature scope w early many fault counted is first =
    subst (λ (rs : List ReadingRefusal). IsFirstRefusal rs (Some fault)) (sym (parts signature scope w early many counted is))
    (first_here _ (unknown_sorts signature (head_of w).sorts) fault
    (first_here _ (UnknownBetween signature scope w early many) fault
    (first_here (UnknownBetween signature scope w 0 early) (unknown_at signature scope (head_of w)) fault first)))

pub name_first : (signature : Signature) (scope : List Variable) (w : Written) (early many : ℕ)
    → many ≡ length (out-Written w).args.items → early ≡ early_count (head_of w).form many
    → UnknownBetween signature scope w 0 early ≡ [] → is_known signature scope (head_of w) ≡ false
    → IsFirstRefusal (unknown_in signature scope (written_term_of w)) (Some (UnknownName (out-Written w).place))
name_first signature scope w early many counted is none unknown =
    subst (λ (rs : List ReadingRefusal). IsFirstRefusal rs (Some (UnknownName (out-Written w).place)))
    (sym (parts signature scope w early many counted is))
    (first_here _ (unknown_sorts signature (head_of w).sorts) (UnknownName (out-Written w).place)
    (first_here _ (UnknownBetween signature scope w early many) (UnknownName (out-Written w).place)
    (first_later (UnknownBetween signature scope w 0 early) (unknown_at signature scope (head_of w))
    (Some (UnknownName (out-Written w).place)) none
    (unknown_name (text_place_of (out-Written w).place), [], refl, rw unknown refl))))

known_here : (signature : Signature) (scope : List Variable) (w : Written) (early : ℕ) → UnknownBetween signature scope w 0 early ≡ []
    → is_known signature scope (head_of w) ≡ true
    → UnknownBetween signature scope w 0 early ++ unknown_at signature scope (head_of w) ≡ []
known_here signature scope w early none known =
    ap (λ (rs : List ReadingRefusal). rs ++ unknown_at signature scope (head_of w)) none ∙ rw known refl

pub behind_first : (signature : Signature) (scope : List Variable) (w : Written) (early many : ℕ) (fault : SortFault)
    → many ≡ length (out-Written w).args.items → early ≡ early_count (head_of w).form many
    → UnknownBetween signature scope w 0 early ≡ [] → is_known signature scope (head_of w) ≡ true
    → IsFirstRefusal (UnknownBetween signature scope w early many) (Some fault)
    → IsFirstRefusal (unknown_in signature scope (written_term_of w)) (Some fault)
behind_first signature scope w early many fault counted is none known first =
    subst (λ (rs : List ReadingRefusal). IsFirstRefusal rs (Some fault)) (sym (parts signature scope w early many counted is))
    (first_here _ (unknown_sorts signature (head_of w).sorts) fault
    (first_later _ (UnknownBetween signature scope w early many) (Some fault) (known_here signature scope w early none known) first))

pub sorts_first : (signature : Signature) (scope : List Variable) (w : Written) (early many : ℕ) (found : Option SortFault)
    → many ≡ length (out-Written w).args.items → early ≡ early_count (head_of w).form many
    → UnknownBetween signature scope w 0 early ≡ [] → is_known signature scope (head_of w) ≡ true
    → UnknownBetween signature scope w early many ≡ [] → IsFirstRefusal (unknown_sorts signature (head_of w).sorts) found
    → IsFirstRefusal (unknown_in signature scope (written_term_of w)) found
sorts_first signature scope w early many found counted is none known nothing first =
    subst (λ (rs : List ReadingRefusal). IsFirstRefusal rs found) (sym (parts signature scope w early many counted is))
    (first_later _ (unknown_sorts signature (head_of w).sorts) found
    (ap (λ (rs : List ReadingRefusal). rs ++ UnknownBetween signature scope w early many) (known_here signature scope w early none known)
    ∙ nothing) first)

-- a stretch that was found to have none, or some
pub found_some : (refusals : List ReadingRefusal) (o : Option SortFault) (fault : SortFault) → o ≡ Some fault → IsFirstRefusal refusals o
    → IsFirstRefusal refusals (Some fault)
found_some refusals o fault is first = subst (λ (x : Option SortFault). IsFirstRefusal refusals x) is first

pub found_none : (refusals : List ReadingRefusal) (o : Option SortFault) → o ≡ None → IsFirstRefusal refusals o → refusals ≡ []
found_none refusals o is first = subst (λ (x : Option SortFault). IsFirstRefusal refusals x) is first
