-- A table of processes once one was added, looked up, or some were taken off.
use Rattle.std.proofs.Common.{◌≡◌, ℕ, zero, suc, ◌-◌, ◌≤◌, Bool, true, false, List, [], ◌∷◌, ◌++◌, map, length, take, drop, refl, ap, sym, ◌∙◌, subst, arith}
use Rattle.std.specs.Prelude.{Option, None, Some, slice_get, reverse, if◌then◌else◌}
use Rattle.std.specs.Str.{bytes_eq}
use Rattle.std.proofs.Math.Seq.{drop-append_seam}
use Rattle.std.proofs.lemmas.List.{reverse-append, map-append, take-append-drop, length-drop, length-map, length-reverse, reverse-reverse}
use Rattle.lotos_base.proofs.Members.{at_front, at_end, from_map}
use Rattle.lotos_base.specs.Name.{spelling}
use Rattle.lotos_base.specs.Names.{folded}
use Rattle.scope_parts.specs.Scope.{Binding, Callable, bind, bound_to, callable_named}
use Rattle.scope_parts.specs.CallablesView.{callable_in, callables_of, process_positions}
use Rattle.scope_parts.specs.declared.callable.Callable as code

length_positions : (ps : List Callable) → length (process_positions ps) ≡ length ps
length_positions [] = refl
length_positions (p ∷ ps) = ap suc (length_positions ps)

drop_positions : (k : ℕ) (ps : List Callable) → process_positions (drop k ps) ≡ drop k (process_positions ps)
drop_positions zero ps = refl
drop_positions (suc k) [] = refl
drop_positions (suc k) (p ∷ ps) = drop_positions k ps

length_callables : (entries : List code.Callable) → length (callables_of entries) ≡ length entries
length_callables entries = length-reverse (map callable_in entries) ∙ length-map entries callable_in

-- one process more
pub callables_pushed : (before after : List code.Callable) (p : code.Callable) → after ≡ before ++ p ∷ []
    → callables_of after ≡ callable_in p ∷ callables_of before
callables_pushed before after p are =
    ap callables_of are ∙ ap reverse (map-append callable_in before (p ∷ [])) ∙ reverse-append (map callable_in before) (callable_in p ∷ [])

pub positions_pushed : (before after : List code.Callable) (p : code.Callable) (table larger : List Binding) (size : ℕ)
    → after ≡ before ++ p ∷ [] → table ≡ process_positions (callables_of before) → size ≡ length before
    → larger ≡ bind (spelling p.name) size table → larger ≡ process_positions (callables_of after)
positions_pushed before after p table larger size are here many is =
    is ∙ ap (λ (n : ℕ). bind (spelling p.name) n table) (many ∙ sym (length_callables before))
    ∙ ap (bind (spelling p.name) (length (callables_of before))) here
    ∙ ap process_positions (sym (callables_pushed before after p are))

-- so many processes left
pub callables_cut : (before after : List code.Callable) (size : ℕ) → size ≤ length (callables_of before) → after ≡ take size before
    → callables_of after ≡ drop (length (callables_of before) - size) (callables_of before)
callables_cut before after size within are =
    let parts : take size before ++ drop size before ≡ before = take-append-drop size before in
    let whole : callables_of before ≡ callables_of (drop size before) ++ callables_of (take size before) =
    ap callables_of (sym parts) ∙ ap reverse (map-append callable_in (take size before) (drop size before))
    ∙ reverse-append (map callable_in (take size before)) (map callable_in (drop size before)) in
    let many : length (callables_of before) - size ≡ length (callables_of (drop size before)) =
    ap (λ (n : ℕ). n - size) (length_callables before) ∙ sym (length_callables (drop size before) ∙ length-drop size before) in
    ap callables_of are
    ∙ sym (ap (λ (n : ℕ). drop n (callables_of before)) many ∙ ap (drop (length (callables_of (drop size before)))) whole
    ∙ drop-append_seam (callables_of (drop size before)) (callables_of (take size before)))

pub many_positions : (entries : List code.Callable) (table : List Binding) (size : ℕ) → table ≡ process_positions (callables_of entries)
    → size ≤ length (callables_of entries) → size ≤ length table
many_positions entries table size are within =
    let many : length table ≡ length (callables_of entries) = ap length are ∙ length_positions (callables_of entries) in
    omega (arith, many, within)

pub positions_cut : (before after : List code.Callable) (table smaller : List Binding) (size : ℕ) → size ≤ length (callables_of before)
    → after ≡ take size before → table ≡ process_positions (callables_of before) → smaller ≡ drop (length table - size) table
    → smaller ≡ process_positions (callables_of after)
positions_cut before after table smaller size within are here is =
    is ∙ ap (λ (bs : List Binding). drop (length bs - size) bs) here
    ∙ ap (λ (n : ℕ). drop (n - size) (process_positions (callables_of before))) (length_positions (callables_of before))
    ∙ sym (drop_positions (length (callables_of before) - size) (callables_of before))
    ∙ ap process_positions (sym (callables_cut before after size within are))

-- ---- Looking a name up

-- the process at the position found is the one of the name
abbrev pub Found : List Callable → List ℕ → Option ℕ → Type 0
Found ps name None = None ≡ callable_named ps name
Found ps name (Some p) = (q : Callable) × (slice_get (reverse ps) p ≡ Some q) × (Some q ≡ callable_named ps name)

found_at : (ps : List Callable) (name : List ℕ) → Found ps name (bound_to (process_positions ps) (folded name))
found_at [] name = refl
found_at (p ∷ ps) name = go (found_at ps name) (bytes_eq (folded name) (folded p.name)) refl
  where
    turned : reverse (p ∷ ps) ≡ reverse ps ++ p ∷ []
    turned = reverse-append (p ∷ []) ps

    named : (b : Bool) → bytes_eq (folded name) (folded p.name) ≡ b
        → callable_named (p ∷ ps) name ≡ (if b then Some p else callable_named ps name)
    named b is = ap (λ (t : Bool). if t then Some p else callable_named ps name) is

    later : (o : Option ℕ) → callable_named (p ∷ ps) name ≡ callable_named ps name → Found ps name o → Found (p ∷ ps) name o
    later None same h = h ∙ sym same
    later (Some i) same h =
        (h.0, ap (λ (qs : List Callable). slice_get qs i) turned ∙ at_front (reverse ps) (p ∷ []) i h.0 h.1, h.2 ∙ sym same)

    go : Found ps name (bound_to (process_positions ps) (folded name)) → (b : Bool) → bytes_eq (folded name) (folded p.name) ≡ b
        → Found (p ∷ ps) name (if b then Some (length ps) else bound_to (process_positions ps) (folded name))
    go rest true is = (
      p,
      ap (λ (qs : List Callable). slice_get qs (length ps)) turned
          ∙ ap (slice_get (reverse ps ++ p ∷ [])) (sym (length-reverse ps)) ∙ at_end (reverse ps) p [],
      sym (named true is),
    )
    go rest false is = later (bound_to (process_positions ps) (folded name)) (named false is) rest

-- the entry that stands at the position found
pub found_callable : (entries : List code.Callable) (table : List Binding) (name : List ℕ) (p : ℕ)
    → table ≡ process_positions (callables_of entries) → bound_to table (folded name) ≡ Some p
    → (e : code.Callable) × (slice_get entries p ≡ Some e) × (callable_named (callables_of entries) name ≡ Some (callable_in e))
found_callable entries table name p are found =
    let h : Found (callables_of entries) name (Some p) =
    subst (Found (callables_of entries) name) (ap (λ (bs : List Binding). bound_to bs (folded name)) (sym are) ∙ found)
    (found_at (callables_of entries) name) in
    let at =
    from_map callable_in entries p h.0
    (ap (λ (qs : List Callable). slice_get qs p) (sym (reverse-reverse (map callable_in entries))) ∙ h.1) in
    (at.0, at.1, sym h.2 ∙ ap Some (sym at.2))

pub found_no_callable : (entries : List code.Callable) (table : List Binding) (name : List ℕ)
    → table ≡ process_positions (callables_of entries) → bound_to table (folded name) ≡ None
    → None ≡ callable_named (callables_of entries) name
found_no_callable entries table name are none =
    subst (Found (callables_of entries) name) (ap (λ (bs : List Binding). bound_to bs (folded name)) (sym are) ∙ none)
    (found_at (callables_of entries) name)
