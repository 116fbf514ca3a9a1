-- A table of variables once one was added, looked up, or some were taken off.
use Rattle.std.proofs.Common.{◌≡◌, ℕ, zero, suc, ◌+◌, ◌-◌, ◌<◌, ◌≤◌, Bool, true, false, List, [], ◌∷◌, ◌++◌, map, length, take, drop, get_or, refl, ap, sym, ◌∙◌, subst, arith}
use Rattle.std.specs.Prelude.{Option, None, Some, slice_get, reverse, if◌then◌else◌, Result, Ok, Err, OnOk}
use Rattle.std.specs.Option.{option_or}
use Rattle.std.specs.Str.{bytes_eq}
use Rattle.std.proofs.Math.Seq.{drop-append_seam, drop-cons}
use Rattle.std.proofs.Math.ListN.{drop_of_length-le}
use Rattle.std.proofs.lemmas.List.{reverse-append, map-append, take-append-drop, length-drop, length-reverse}
use Rattle.lotos_base.proofs.Bytes.{bytes_turned}
use Rattle.lotos_base.proofs.Members.{from_map}
use Rattle.lotos_base.specs.Name.{spelling}
use Rattle.lotos_base.specs.WrittenTerm.{written_terms}
use Rattle.lotos_base.specs.WrittenView.{written_term_of, written_terms_of}
use Rattle.lotos_base.specs.declared.written_terms.Written.{Written, out-Written}
use Rattle.lotos_base.specs.Names.{folded}
use Rattle.lotos_base.specs.Equation.{Variable}
use Rattle.sort_terms.specs.EquationView.{variable_of}
use Rattle.sort_terms.specs.ReadingOutcome.{one_name}
use Rattle.sort_terms.specs.declared.equations.Variable as code
use Rattle.sort_terms.proofs.CountedLemmas.{written_opened}
use Rattle.scope_parts.specs.Scope.{Binding, bind, bound_to}
use Rattle.scope_parts.specs.Seen.{visible_named, found_list, seen_in, seen_in_each, positioned, positions_in}

positioned_append : (first : ℕ) (xs ys : List Variable)
    → positioned first (xs ++ ys) ≡ positioned first xs ++ positioned (first + length xs) ys
positioned_append first [] ys = let none : first ≡ first + 0 = omega arith in ap (λ (n : ℕ). positioned n ys) none
positioned_append first (x ∷ xs) ys =
    let next : suc first + length xs ≡ first + suc (length xs) = omega arith in
    ap (λ (bs : List Binding). record { key = folded x.name; number = first } ∷ bs)
    (positioned_append (suc first) xs ys ∙ ap (λ (n : ℕ). positioned (suc first) xs ++ positioned n ys) next)

length_positioned : (first : ℕ) (xs : List Variable) → length (positioned first xs) ≡ length xs
length_positioned first [] = refl
length_positioned first (x ∷ xs) = ap suc (length_positioned (suc first) xs)

positions_append : (xs ys : List Variable) → positions_in (xs ++ ys) ≡ reverse (positioned (length xs) ys) ++ positions_in xs
positions_append xs ys =
    let none : 0 + length xs ≡ length xs = omega arith in
    ap reverse (positioned_append 0 xs ys ∙ ap (λ (n : ℕ). positioned 0 xs ++ positioned n ys) none)
    ∙ reverse-append (positioned 0 xs) (positioned (length xs) ys)

pub length_positions : (xs : List Variable) → length (positions_in xs) ≡ length xs
length_positions xs = length-reverse (positioned 0 xs) ∙ length_positioned 0 xs

-- one variable more
pub positions_pushed : (before after : List code.Variable) (v : code.Variable) (table larger : List Binding) (size : ℕ)
    → after ≡ before ++ v ∷ [] → table ≡ positions_in (map variable_of before) → size ≡ length before
    → larger ≡ bind (spelling v.name) size table
    → larger ≡ positions_in (map variable_of after)
positions_pushed before after v table larger size are here many is =
    let counted : size ≡ length (map variable_of before) = many ∙ sym (length_mapped before) in
    is ∙ ap (λ (n : ℕ). bind (spelling v.name) n table) counted
    ∙ ap (bind (spelling v.name) (length (map variable_of before))) here
    ∙ sym (positions_append (map variable_of before) (variable_of v ∷ []))
    ∙ ap positions_in (sym (map-append variable_of before (v ∷ [])) ∙ ap (map variable_of) (sym are))
  where
    length_mapped : (xs : List code.Variable) → length (map variable_of xs) ≡ length xs
    length_mapped [] = refl
    length_mapped (x ∷ xs) = ap suc (length_mapped xs)

-- so many variables left
cut : (xs : List Variable) (size : ℕ) → size ≤ length xs
    → drop (length (positions_in xs) - size) (positions_in xs) ≡ positions_in (take size xs)
cut xs size within =
    let parts : take size xs ++ drop size xs ≡ xs = take-append-drop size xs in
    let whole : positions_in xs ≡ reverse (positioned (length (take size xs)) (drop size xs)) ++ positions_in (take size xs) =
    ap positions_in (sym parts) ∙ positions_append (take size xs) (drop size xs) in
    let many : length (reverse (positioned (length (take size xs)) (drop size xs))) ≡ length xs - size =
    length-reverse (positioned (length (take size xs)) (drop size xs)) ∙ length_positioned (length (take size xs)) (drop size xs)
    ∙ length-drop size xs in
    ap (λ (n : ℕ). drop (n - size) (positions_in xs)) (length_positions xs)
    ∙ ap (λ (n : ℕ). drop n (positions_in xs)) (sym many)
    ∙ ap (drop (length (reverse (positioned (length (take size xs)) (drop size xs))))) whole
    ∙ drop-append_seam (reverse (positioned (length (take size xs)) (drop size xs))) (positions_in (take size xs))

pub many_positions : (vs : List code.Variable) (table : List Binding) (size : ℕ) → table ≡ positions_in (map variable_of vs)
    → size ≤ length (map variable_of vs) → size ≤ length table
many_positions vs table size are within =
    let many : length table ≡ length (map variable_of vs) = ap length are ∙ length_positions (map variable_of vs) in
    omega (arith, many, within)

pub map_take : (size : ℕ) (xs : List code.Variable) → map variable_of (take size xs) ≡ take size (map variable_of xs)
map_take zero xs = refl
map_take (suc n) [] = refl
map_take (suc n) (x ∷ xs) = ap (λ (vs : List Variable). variable_of x ∷ vs) (map_take n xs)

pub positions_cut : (before after : List code.Variable) (table smaller : List Binding) (size : ℕ) → size ≤ length (map variable_of before)
    → after ≡ take size before → table ≡ positions_in (map variable_of before) → smaller ≡ drop (length table - size) table
    → smaller ≡ positions_in (map variable_of after)
positions_cut before after table smaller size within are here is =
    is ∙ ap (λ (bs : List Binding). drop (length bs - size) bs) here ∙ cut (map variable_of before) size within
    ∙ ap positions_in (sym (map_take size before) ∙ ap (map variable_of) (sym are))

-- ---- Looking a name up

bound_append : (xs ys : List Binding) (key : List ℕ) → bound_to (xs ++ ys) key ≡ option_or (bound_to xs key) (bound_to ys key)
bound_append [] ys key = refl
bound_append (x ∷ xs) ys key = go (bytes_eq key x.key) (bound_append xs ys key)
  where
    go : (b : Bool) → bound_to (xs ++ ys) key ≡ option_or (bound_to xs key) (bound_to ys key)
        → (if b then Some x.number else bound_to (xs ++ ys) key)
        ≡ option_or (if b then Some x.number else bound_to xs key) (bound_to ys key)
    go true rest = refl
    go false rest = rest

-- the number found, and the variable there, counted from a number on
abbrev pub Matches : ℕ → List Variable → Option ℕ → Option Variable → Type 0
Matches first vs None None = Unit {0}
Matches first vs None (Some v) = ⊥
Matches first vs (Some p) None = ⊥
Matches first vs (Some p) (Some v) = (i : ℕ) × (p ≡ first + i) × (slice_get vs i ≡ Some v)

abbrev entry : ℕ → Variable → Binding
entry number v = record { key = folded v.name; number = number }

found_at : (first : ℕ) (vs : List Variable) (name : List ℕ)
    → Matches first vs (bound_to (reverse (positioned first vs)) (folded name)) (visible_named vs name)
found_at first [] name = tt
found_at first (v ∷ vs) name =
    subst (λ (o : Option ℕ). Matches first (v ∷ vs) o (visible_named (v ∷ vs) name))
    (sym (ap (λ (bs : List Binding). bound_to bs (folded name)) (reverse-append (entry first v ∷ []) (positioned (suc first) vs))
    ∙ bound_append (reverse (positioned (suc first) vs)) (entry first v ∷ []) (folded name)
    ∙ ap (λ (b : Bool). option_or (bound_to (reverse (positioned (suc first) vs)) (folded name)) (if b then Some first else None))
    (bytes_turned (folded name) (folded v.name))))
    (go (bound_to (reverse (positioned (suc first) vs)) (folded name)) (visible_named vs name) (one_name v.name name)
    (found_at (suc first) vs name))
  where
    go : (o : Option ℕ) (later : Option Variable) (b : Bool) → Matches (suc first) vs o later
        → Matches first (v ∷ vs) (option_or o (if b then Some first else None)) (option_or later (if b then Some v else None))
    go None None true h = (0, omega arith, refl)
    go None None false h = tt
    go None (Some w) b h = absurd h
    go (Some p) None b h = absurd h
    go (Some p) (Some w) b h = let next : p ≡ first + suc h.0 = omega (arith, h.1) in (suc h.0, next, h.2)

-- the variable that stands at the position found
pub found_variable : (vs : List code.Variable) (table : List Binding) (name : List ℕ) (p : ℕ) → table ≡ positions_in (map variable_of vs)
    → bound_to table (folded name) ≡ Some p
    → (x : code.Variable) × (slice_get vs p ≡ Some x) × (visible_named (map variable_of vs) name ≡ Some (variable_of x))
found_variable vs table name p are found =
    go (visible_named (map variable_of vs) name) refl
    (subst (λ (o : Option ℕ). Matches 0 (map variable_of vs) o (visible_named (map variable_of vs) name))
    (ap (λ (bs : List Binding). bound_to bs (folded name)) (sym are) ∙ found) (found_at 0 (map variable_of vs) name))
  where
    go : (o : Option Variable) → visible_named (map variable_of vs) name ≡ o → Matches 0 (map variable_of vs) (Some p) o
        → (x : code.Variable) × (slice_get vs p ≡ Some x) × (visible_named (map variable_of vs) name ≡ Some (variable_of x))
    go None is h = absurd h
    go (Some v) is h =
        let same : h.0 ≡ p = omega (arith, h.1) in
        let at = from_map variable_of vs p v (ap (slice_get (map variable_of vs)) (sym same) ∙ h.2) in
        (at.0, at.1, is ∙ ap Some (sym at.2))

pub found_none : (vs : List code.Variable) (table : List Binding) (name : List ℕ) → table ≡ positions_in (map variable_of vs)
    → bound_to table (folded name) ≡ None → None ≡ visible_named (map variable_of vs) name
found_none vs table name are none =
    go (visible_named (map variable_of vs) name)
    (subst (λ (o : Option ℕ). Matches 0 (map variable_of vs) o (visible_named (map variable_of vs) name))
    (ap (λ (bs : List Binding). bound_to bs (folded name)) (sym are) ∙ none) (found_at 0 (map variable_of vs) name))
  where
    go : (o : Option Variable) → Matches 0 (map variable_of vs) None o → None ≡ o
    go None h = refl
    go (Some v) h = absurd h

-- ---- What a term sees

pub seen_opened : (vs : List Variable) (w : Written)
    → seen_in vs (written_term_of w)
    ≡ found_list (visible_named vs (spelling (out-Written w).name))
    ++ seen_in_each vs (written_terms (written_terms_of (out-Written w).args.items))
seen_opened vs w = ap (seen_in vs) (written_opened w)

abbrev Each : List Variable → List Written → List Variable
Each vs items = seen_in_each vs (written_terms (written_terms_of items))

assoc : (xs ys zs : List Variable) → (xs ++ ys) ++ zs ≡ xs ++ (ys ++ zs)
assoc [] ys zs = refl
assoc (x ∷ xs) ys zs = ap (λ (vs : List Variable). x ∷ vs) (assoc xs ys zs)

nothing_more : (xs : List Variable) → xs ++ [] ≡ xs
nothing_more [] = refl
nothing_more (x ∷ xs) = ap (λ (vs : List Variable). x ∷ vs) (nothing_more xs)

-- a name and the arguments are the whole term
pub seen_whole : (vs : List Variable) (w : Written) (old between new : List Variable)
    → between ≡ old ++ found_list (visible_named vs (spelling (out-Written w).name))
    → new ≡ between ++ Each vs (out-Written w).args.items → new ≡ old ++ seen_in vs (written_term_of w)
seen_whole vs w old between new first later =
    later ∙ ap (λ (xs : List Variable). xs ++ Each vs (out-Written w).args.items) first
    ∙ assoc old (found_list (visible_named vs (spelling (out-Written w).name))) (Each vs (out-Written w).args.items)
    ∙ ap (λ (xs : List Variable). old ++ xs) (sym (seen_opened vs w))

-- one term more
pub seen_next : (vs : List Variable) (items : List Written) (i : ℕ) (x : Written) (before after whole : List Variable) → i < length items
    → x ≡ get_or items i x → after ≡ before ++ seen_in vs (written_term_of x) → before ++ Each vs (drop i items) ≡ whole
    → after ++ Each vs (drop (i + 1) items) ≡ whole
seen_next vs items i x before after whole within is added so_far =
    let next : i + 1 ≡ suc i = omega arith in
    let here : drop i items ≡ x ∷ drop (suc i) items =
    drop-cons items i x within ∙ ap (λ (y : Written). y ∷ drop (suc i) items) (sym is) in
    ap (λ (j : ℕ). after ++ Each vs (drop j items)) next
    ∙ ap (λ (xs : List Variable). xs ++ Each vs (drop (suc i) items)) added
    ∙ assoc before (seen_in vs (written_term_of x)) (Each vs (drop (suc i) items))
    ∙ ap (λ (ws : List Written). before ++ Each vs ws) (sym here) ∙ so_far

-- no term is left
pub seen_done : (vs : List Variable) (items : List Written) (i : ℕ) (scope whole : List Variable) → length items ≤ i
    → scope ++ Each vs (drop i items) ≡ whole → scope ≡ whole
seen_done vs items i scope whole past so_far =
    sym (nothing_more scope) ∙ ap (λ (ws : List Written). scope ++ Each vs ws) (sym (drop_of_length-le items past)) ∙ so_far

pub if_promised : {T E P Q : Type 0} (r : Result T E) → (P → Q) → OnOk r P → OnOk r Q
if_promised (Ok x) h promise = h promise
if_promised (Err e) h promise = tt
