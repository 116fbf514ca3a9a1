-- A table of bindings once a binding was added or taken off.
use Rattle.std.proofs.Common.{◌≡◌, ℕ, zero, suc, ◌+◌, ◌-◌, ◌<◌, ◌≤◌, length, drop, arith, Bool, true, false, List, [], ◌∷◌, ◌++◌, refl, ap, sym, ◌∙◌}
use Rattle.std.specs.Prelude.{Option, None, Some, Vec, map, reverse, if◌then◌else◌, Result, Ok, Err, OnOk, OnErr}
use Rattle.std.specs.declared.alloc.Global.{Global}
use Rattle.std.specs.Map.{KeepsOthers, IsKeyTest, AreApart}
use Rattle.std.specs.Str.{bytes_eq}
use Rattle.std.proofs.lemmas.List.{reverse-append, map-append, length-drop}
use Rattle.std.proofs.lemmas.Option.{none-some}
use Rattle.lotos_base.proofs.Bytes.{same_bytes, bytes_same, bytes_differ, differing_bytes}
use Rattle.lotos_base.proofs.Pieces.{same_heads, same_tails}
use Rattle.scope_parts.specs.Scope.{Binding, bound_to}
use Rattle.scope_parts.specs.Bindings.{bound_as, bindings_of, hidden_by, hidden_in, kept_under}
use Rattle.scope_parts.specs.declared.bound.Bound.{Bound}

abbrev pub Entries : Type 0
Entries = List (Vec ℕ Global × ℕ)

-- the test for a name, and other names keep what they have
abbrev pub is_key : List ℕ → Vec ℕ Global → Bool
is_key key = λ known. bytes_eq key known.items

abbrev pub KeepsOtherKeys : List ℕ → Entries → Entries → Type 0
KeepsOtherKeys key old new = KeepsOthers (λ (a b : Vec ℕ Global). bytes_eq a.items b.items) (is_key key) old new

-- what stands under a name once one name was given something or nothing
pub put_under : (old new : Entries) (here key : List ℕ) (w : Option ℕ) → kept_under new here ≡ w → KeepsOtherKeys here old new
    → kept_under new key ≡ (if bytes_eq key here then w else kept_under old key)
unfolding KeepsOthers
put_under old new here key w found keeps = go (bytes_eq key here) refl
  where
    go : (b : Bool) → bytes_eq key here ≡ b → kept_under new key ≡ (if b then w else kept_under old key)
    go true same = ap (kept_under new) (same_bytes key here same) ∙ found
    go false differ =
        let apart : ¬ (key ≡ here) = differing_bytes key here differ in
        let test : IsKeyTest (λ (a b : Vec ℕ Global). bytes_eq a.items b.items) (is_key key) =
        λ x y passes. ap (λ (k : List ℕ). bytes_eq k y.items) (same_bytes key x.items passes) in
        let others : AreApart (is_key here) (is_key key) =
        λ k passes. bytes_differ key k.items (λ same. apart (same ∙ sym (same_bytes here k.items passes))) in
        keeps (is_key key) test others

-- the bindings with one more entry
pub bindings_pushed : (entries : List Bound) (last : Bound) → bindings_of (entries ++ last ∷ []) ≡ bound_as last ∷ bindings_of entries
bindings_pushed entries last =
    ap reverse (map-append bound_as entries (last ∷ [])) ∙ reverse-append (map bound_as entries) (bound_as last ∷ [])

hidden_pushed : (entries : List Bound) (last : Bound) → hidden_in (entries ++ last ∷ []) ≡ last.hidden ∷ hidden_in entries
hidden_pushed entries last =
    ap reverse (map-append (λ (e : Bound). e.hidden) entries (last ∷ []))
    ∙ reverse-append (map (λ (e : Bound). e.hidden) entries) (last.hidden ∷ [])

-- a table with one binding more is indexed, and knows what the binding hides
pub indexed_pushed : (old new : Entries) (entries after : List Bound) (last : Bound) (here : List ℕ) → here ≡ last.key.items
    → after ≡ entries ++ last ∷ [] → kept_under new here ≡ Some last.number → KeepsOtherKeys here old new
    → ((k : List ℕ) → kept_under old k ≡ bound_to (bindings_of entries) k) → (key : List ℕ)
    → kept_under new key ≡ bound_to (bindings_of after) key
indexed_pushed old new entries after last here same are found keeps indexed key =
    put_under old new here key (Some last.number) found keeps
    ∙ ap (λ (k : List ℕ). if bytes_eq key k then Some last.number else kept_under old key) same
    ∙ ap (λ (o : Option ℕ). if bytes_eq key last.key.items then Some last.number else o) (indexed key)
    ∙ ap (λ (bs : List Binding). bound_to bs key) (sym (bindings_pushed entries last))
    ∙ ap (λ (es : List Bound). bound_to (bindings_of es) key) (sym are)

pub hiding_pushed : (entries after : List Bound) (last : Bound) → after ≡ entries ++ last ∷ []
    → last.hidden ≡ bound_to (bindings_of entries) last.key.items → hidden_in entries ≡ hidden_by (bindings_of entries)
    → hidden_in after ≡ hidden_by (bindings_of after)
hiding_pushed entries after last are here others =
    ap hidden_in are ∙ hidden_pushed entries last
    ∙ ap (λ (o : Option ℕ). o ∷ hidden_in entries) here
    ∙ ap (λ (os : List (Option ℕ)). bound_to (bindings_of entries) last.key.items ∷ os) others
    ∙ ap hidden_by (sym (bindings_pushed entries last))
    ∙ ap (λ (es : List Bound). hidden_by (bindings_of es)) (sym are)

hides : (before entries : List Bound) (last : Bound) → before ≡ entries ++ last ∷ [] → hidden_in before ≡ hidden_by (bindings_of before)
    → last.hidden ∷ hidden_in entries ≡ bound_to (bindings_of entries) last.key.items ∷ hidden_by (bindings_of entries)
hides before entries last are hiding =
    sym (hidden_pushed entries last) ∙ ap hidden_in (sym are) ∙ hiding ∙ ap (λ (es : List Bound). hidden_by (bindings_of es)) are
    ∙ ap hidden_by (bindings_pushed entries last)

drop_twice : (k : ℕ) (xs : List Binding) → drop 1 (drop k xs) ≡ drop (k + 1) xs
drop_twice zero xs = refl
drop_twice (suc k) [] = let more : suc k + 1 ≡ suc (k + 1) = omega arith in ap (λ (n : ℕ). drop n []) (sym more)
drop_twice (suc k) (x ∷ xs) =
    let more : suc k + 1 ≡ suc (k + 1) = omega arith in drop_twice k xs ∙ ap (λ (n : ℕ). drop n (x ∷ xs)) (sym more)

-- a table with the last binding taken off knows what the others hide, and is indexed
pub hiding_popped : (before entries : List Bound) (last : Bound) → before ≡ entries ++ last ∷ []
    → hidden_in before ≡ hidden_by (bindings_of before) → hidden_in entries ≡ hidden_by (bindings_of entries)
hiding_popped before entries last are hiding = same_tails _ _ _ _ (hides before entries last are hiding)

pub indexed_popped : (old new : Entries) (before entries : List Bound) (last : Bound) (here : List ℕ) → here ≡ last.key.items
    → before ≡ entries ++ last ∷ []
    → kept_under new here ≡ last.hidden → KeepsOtherKeys here old new
    → ((k : List ℕ) → kept_under old k ≡ bound_to (bindings_of before) k) → hidden_in before ≡ hidden_by (bindings_of before)
    → (key : List ℕ) → kept_under new key ≡ bound_to (bindings_of entries) key
indexed_popped old new before entries last here same are found keeps indexed hiding key =
    put_under old new here key last.hidden found keeps
    ∙ ap (λ (k : List ℕ). if bytes_eq key k then last.hidden else kept_under old key) same
    ∙ go (bytes_eq key last.key.items) refl
  where
    go : (b : Bool) → bytes_eq key last.key.items ≡ b
        → (if b then last.hidden else kept_under old key) ≡ bound_to (bindings_of entries) key
    go true at =
        same_heads _ _ _ _ (hides before entries last are hiding)
        ∙ ap (bound_to (bindings_of entries)) (sym (same_bytes key last.key.items at))
    go false at =
        indexed key ∙ ap (λ (es : List Bound). bound_to (bindings_of es) key) are
        ∙ ap (λ (bs : List Binding). bound_to bs key) (bindings_pushed entries last)
        ∙ rw at refl

-- the name of the last binding stands in the table
pub last_is_there : (old : Entries) (before entries : List Bound) (last : Bound) → before ≡ entries ++ last ∷ []
    → ((k : List ℕ) → kept_under old k ≡ bound_to (bindings_of before) k) → kept_under old last.key.items ≡ None → ⊥
last_is_there old before entries last are indexed none =
    none-some last.number (sym none ∙ indexed last.key.items
    ∙ ap (λ (es : List Bound). bound_to (bindings_of es) last.key.items) are
    ∙ ap (λ (bs : List Binding). bound_to bs last.key.items) (bindings_pushed entries last)
    ∙ rw (bytes_same last.key.items last.key.items refl) refl)

-- where an error cannot be, what is promised otherwise holds
pub surely : {T E X Y : Type 0} (r : Result T E) → OnErr r X → ¬ X → OnOk r Y → Y
surely (Ok v) error never ok = ok
surely (Err e) error never ok = absurd (never error)

-- one more taken off
pub cut_more : (whole now new : List Binding) → now ≡ drop (length whole - length now) whole → length now ≤ length whole
    → 0 < length now → new ≡ drop 1 now → (length new + 1 ≡ length now) × (new ≡ drop (length whole - length new) whole)
cut_more whole now new so_far within some is =
    let shorter : length new ≡ length now - 1 = ap length is ∙ length-drop 1 now in
    let counted : length new + 1 ≡ length now = omega (arith, shorter, some) in
    let next : (length whole - length now) + 1 ≡ length whole - length new = omega (arith, counted, within) in
    (counted, is ∙ ap (drop 1) so_far ∙ drop_twice (length whole - length now) whole ∙ ap (λ (n : ℕ). drop n whole) next)

pub cut_none : (whole : List Binding) → whole ≡ drop (length whole - length whole) whole
cut_none whole = let none : 0 ≡ length whole - length whole = omega arith in ap (λ (n : ℕ). drop n whole) none
