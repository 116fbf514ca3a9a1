-- The types of a name: where the first one stands, and what a second one is.
use Rattle.std.proofs.Common.{◌≡◌, ℕ, zero, suc, ◌+◌, ◌<◌, Bool, true, false, List, [], ◌∷◌, ◌++◌, length, get_or, map, take, drop, refl, ap, sym, ◌∙◌, subst, arith}
use Rattle.std.specs.Prelude.{Option, Some, None, MatchOption, slice_get, if◌then◌else◌}
use Rattle.std.specs.Str.{bytes_eq}
use Rattle.std.proofs.lemmas.List.{take_more, drop_more, map_more}
use Rattle.lotos_base.specs.Name.{spelling}
use Rattle.lotos_base.specs.WrittenView.{text_place_of}
use Rattle.lotos_base.specs.Names.{folded}
use Rattle.sort_terms.specs.Positions.{positions_from, positions_of}
use Rattle.type_definitions.specs.DeclaredTypes.{DeclaredType, is_type_name, type_number}
use Rattle.type_definitions.specs.MentionFaults.{second_declaration, AreDeclaredOnce}
use Rattle.type_definitions.specs.NameFaultView.{IsDouble, IsNameTaken}
use Rattle.type_definitions.specs.TypeNamesView.{IsNumberOf}
use Rattle.type_definitions.specs.TypeView.{declared_type_of, declared_types_of, type_spellings}
use Rattle.type_definitions.specs.declared.name_faults.TypeNameFault.{TypeNameFault}
use Rattle.type_definitions.specs.declared.name_faults.TypeNameFault.TheVariants.{DoubleType, UnknownType, TypeCycle, NoMemory}
use Rattle.type_definitions.specs.declared.type_texts.TypeText.{TypeText}

-- ---- The first type of a name.

-- no type has the name, or this is the number of the first one
abbrev pub Found : Bool → ℕ → Option ℕ → Type 0
Found is number None = is ≡ false
Found is number (Some p) = (is ≡ true) × (p ≡ number)

found_first : (first : ℕ) (name : List ℕ) (types : List TypeText)
    → Found (is_type_name (declared_types_of types) name) (first + type_number (declared_types_of types) name)
    (slice_get (positions_from first (folded name) (type_spellings types)) 0)
found_first first name [] = refl
found_first first name (t ∷ ts) = go (bytes_eq (folded name) (folded (spelling t.name.now))) refl (found_first (suc first) name ts)
  where
    go : (b : Bool) → bytes_eq (folded name) (folded (spelling t.name.now)) ≡ b
        → Found (is_type_name (declared_types_of ts) name) (suc first + type_number (declared_types_of ts) name)
        (slice_get (positions_from (suc first) (folded name) (type_spellings ts)) 0)
        → Found (is_type_name (declared_types_of (t ∷ ts)) name) (first + type_number (declared_types_of (t ∷ ts)) name)
        (slice_get (positions_from first (folded name) (type_spellings (t ∷ ts))) 0)
    go true is rest = let at : first ≡ first + 0 = omega arith in rw is (refl, at)
    go false is rest =
        let further : suc first + type_number (declared_types_of ts) name ≡ first + suc (type_number (declared_types_of ts) name) =
        omega arith in
        rw is
        (subst
        (λ (n : ℕ). Found (is_type_name (declared_types_of ts) name) n
        (slice_get (positions_from (suc first) (folded name) (type_spellings ts)) 0))
        further rest)

pub number_within : (name : List ℕ) (types : List DeclaredType) → is_type_name types name ≡ true
    → type_number types name < length types
number_within name [] h = let e : false ≡ true = h in cc
number_within name (t ∷ ts) h = go (bytes_eq (folded name) (folded t.name)) refl (number_within name ts)
  where
    go : (b : Bool) → bytes_eq (folded name) (folded t.name) ≡ b
        → (is_type_name ts name ≡ true → type_number ts name < length ts) → type_number (t ∷ ts) name < length (t ∷ ts)
    go true is rest = let first : 0 < suc (length ts) = omega arith in rw is first
    go false is rest =
        let later : type_number ts name < length ts = rest (rw is at h) in
        let one_more : suc (type_number ts name) < suc (length ts) = omega arith in
        rw is one_more

pub found_of : (name : List ℕ) (types : List TypeText) (o : Option ℕ)
    → o ≡ slice_get (positions_of (folded name) (type_spellings types)) 0
    → Found (is_type_name (declared_types_of types) name) (type_number (declared_types_of types) name) o
found_of name types o is =
    let from_nothing : 0 + type_number (declared_types_of types) name ≡ type_number (declared_types_of types) name = omega arith in
    subst (λ (x : Option ℕ). Found (is_type_name (declared_types_of types) name) (type_number (declared_types_of types) name) x) (sym is)
    (subst
    (λ (n : ℕ). Found (is_type_name (declared_types_of types) name) n
    (slice_get (positions_of (folded name) (type_spellings types)) 0))
    from_nothing (found_first 0 name types))

pub number_is : (name : List ℕ) (types : List TypeText) (o : Option ℕ)
    → o ≡ slice_get (positions_of (folded name) (type_spellings types)) 0
    → MatchOption o (is_type_name (declared_types_of types) name ≡ false) (λ n. IsNumberOf (declared_types_of types) name n)
number_is name types o is = go o (found_of name types o is)
  where
    go : (x : Option ℕ)
        → Found (is_type_name (declared_types_of types) name) (type_number (declared_types_of types) name) x
        → MatchOption x (is_type_name (declared_types_of types) name ≡ false) (λ n. IsNumberOf (declared_types_of types) name n)
    go None h = h
    go (Some p) h =
        (h.0, sym h.1, subst (λ (n : ℕ). n < length (declared_types_of types)) (sym h.1) (number_within name (declared_types_of types) h.0))

pub no_name : (name : List ℕ) (types : List TypeText) → slice_get (positions_of (folded name) (type_spellings types)) 0 ≡ None
    → is_type_name (declared_types_of types) name ≡ false
no_name name types none = found_of name types None (sym none)

-- ---- A second type of a name.

-- the types from this one on, behind those before it
second_step : (types : List TypeText) (n : ℕ) (d : TypeText) → n < length types
    → second_declaration (declared_types_of (take n types)) (declared_types_of (drop n types))
    ≡ second_declaration (declared_types_of (take n types)) (declared_type_of (get_or types n d) ∷ declared_types_of (drop (n + 1) types))
second_step types n d within =
    ap (λ (ts : List TypeText). second_declaration (declared_types_of (take n types)) (declared_types_of ts)) (drop_more types n d within)

pub first_of_name : (types : List TypeText) (n : ℕ) (d : TypeText) → n < length types
    → is_type_name (declared_types_of (take n types)) (spelling (get_or types n d).name.now) ≡ false
    → second_declaration (declared_types_of (take n types)) (declared_types_of (drop n types))
    ≡ second_declaration (declared_types_of (take (n + 1) types)) (declared_types_of (drop (n + 1) types))
first_of_name types n d within new =
    second_step types n d within
    ∙ (let step : second_declaration (declared_types_of (take n types))
    (declared_type_of (get_or types n d) ∷ declared_types_of (drop (n + 1) types))
    ≡ second_declaration (declared_types_of (take n types) ++ declared_type_of (get_or types n d) ∷ [])
    (declared_types_of (drop (n + 1) types)) = rw new refl in
    step)
    ∙ ap (λ (ts : List DeclaredType). second_declaration ts (declared_types_of (drop (n + 1) types)))
    (sym (map_more declared_type_of types n d within))

pub second_of_name : (types : List TypeText) (n : ℕ) (t : TypeText) (o : Option ℕ) (fault : TypeNameFault) → n < length types
    → t ≡ get_or types n t → o ≡ slice_get (positions_of (folded (spelling t.name.now)) (type_spellings (take n types))) 0
    → second_declaration (declared_types_of (take n types)) (declared_types_of (drop n types))
    ≡ second_declaration [] (declared_types_of types)
    → IsNameTaken t o fault → IsDouble (second_declaration [] (declared_types_of types)) fault
second_of_name types n t o (UnknownType place name) within is at so_far taken = absurd taken
second_of_name types n t o (TypeCycle place name) within is at so_far taken = absurd taken
second_of_name types n t o NoMemory within is at so_far taken = tt
second_of_name types n t o (DoubleType place name) within is at so_far taken = (declared_type_of t, sym so_far ∙ found, taken.1, taken.2)
  where
    there : (x : Option ℕ) → ¬ (x ≡ None)
        → Found (is_type_name (declared_types_of (take n types)) (spelling t.name.now))
        (type_number (declared_types_of (take n types)) (spelling t.name.now)) x
        → is_type_name (declared_types_of (take n types)) (spelling t.name.now) ≡ true
    there None some h = absurd (some refl)
    there (Some p) some h = h.0

    known : is_type_name (declared_types_of (take n types)) (spelling t.name.now) ≡ true
    known = there o taken.0 (found_of (spelling t.name.now) (take n types) o at)

    step : second_declaration (declared_types_of (take n types)) (declared_type_of t ∷ declared_types_of (drop (n + 1) types))
        ≡ Some (declared_type_of t)
    step = rw known refl

    found : second_declaration (declared_types_of (take n types)) (declared_types_of (drop n types)) ≡ Some (declared_type_of t)
    found =
        second_step types n t within
        ∙ ap (λ (u : TypeText). second_declaration (declared_types_of (take n types))
        (declared_type_of u ∷ declared_types_of (drop (n + 1) types))) (sym is)
        ∙ step
