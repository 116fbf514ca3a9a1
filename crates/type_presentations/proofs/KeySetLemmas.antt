-- Keys in a set that keeps their order.
use Rattle.std.proofs.Common.{◌≡◌, ℕ, suc, Bool, true, false, List, [], ◌∷◌, ◌++◌, map, Vec, refl, ap, sym, ◌∙◌, not}
use Rattle.std.specs.Prelude.{◌||◌, if◌then◌else◌}
use Rattle.std.specs.declared.alloc.Global.{Global}
use Rattle.std.specs.List.{list_any, position_or_len}
use Rattle.std.specs.Str.{bytes_eq}
use Rattle.std.proofs.lemmas.List.{map-append}
use Rattle.type_definitions.specs.Presentation.{with_new, first_position}
use Rattle.type_presentations.proofs.KeptLemmas.{first_is_position, first_of_added}
use Rattle.lotos_base.proofs.Bytes.{bytes_same}

-- the items of each key
abbrev pub items_of : List (Vec ℕ Global) → List (List ℕ)
items_of keys = map (λ key. key.items) keys

-- whether a key has these items
abbrev pub has_items : List ℕ → Vec ℕ Global → Bool
has_items items key = bytes_eq items key.items

pub any_items : (keys : List (Vec ℕ Global)) (items : List ℕ)
    → list_any (has_items items) keys ≡ list_any (bytes_eq items) (items_of keys)
any_items [] items = refl
any_items (key ∷ keys) items = ap (λ (b : Bool). bytes_eq items key.items || b) (any_items keys items)

pub inserted : (keys new : List (Vec ℕ Global)) (key : Vec ℕ Global)
    → new ≡ (if list_any (has_items key.items) keys then keys else keys ++ key ∷ [])
    → items_of new ≡ with_new bytes_eq (items_of keys) (key.items ∷ [])
inserted keys new key is =
    ap items_of is ∙ go (list_any (has_items key.items) keys)
    ∙ ap (λ (b : Bool). if b then items_of keys else items_of keys ++ key.items ∷ []) (any_items keys key.items)
  where
    go : (b : Bool) → items_of (if b then keys else keys ++ key ∷ []) ≡ (if b then items_of keys else items_of keys ++ key.items ∷ [])
    go true = refl
    go false = map-append (λ (it : Vec ℕ Global). it.items) keys (key ∷ [])

pub first_items : (keys : List (Vec ℕ Global)) (items : List ℕ)
    → first_position (has_items items) keys ≡ first_position (bytes_eq items) (items_of keys)
first_items [] items = refl
first_items (key ∷ keys) items =
    ap (λ (n : ℕ). if bytes_eq items key.items then 0 else suc n) (first_items keys items)

pub numbered : (keys new : List (Vec ℕ Global)) (key : Vec ℕ Global) (number : ℕ)
    → new ≡ (if list_any (has_items key.items) keys then keys else keys ++ key ∷ [])
    → number ≡ position_or_len (has_items key.items) keys
    → number ≡ first_position (bytes_eq key.items) (items_of new)
numbered keys new key number is at =
    at ∙ sym (first_is_position (has_items key.items) keys) ∙ first_items keys key.items
    ∙ sym (first_of_added bytes_eq (items_of keys) key.items (bytes_same key.items key.items refl))
    ∙ ap (λ (ys : List (List ℕ)). first_position (bytes_eq key.items) ys) (sym (inserted keys new key is))
