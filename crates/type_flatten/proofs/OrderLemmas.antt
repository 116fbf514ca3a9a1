-- The types of the numbers of an order, one after another.
use Rattle.std.proofs.Common.{◌≡◌, ℕ, ◌+◌, ◌<◌, List, [], ◌∷◌, ◌++◌, length, drop, get_or, append_assoc, ap, sym, ◌∙◌}
use Rattle.std.specs.Prelude.{Option, None, Some, slice_get}
use Rattle.std.specs.Option.{option_map, option_to_list}
use Rattle.std.proofs.lemmas.List.{append-nil, map-append}
use Rattle.std.proofs.lemmas.Option.{slice_get-map}
use Rattle.type_definitions.specs.DeclaredTypes.{DeclaredType}
use Rattle.type_definitions.specs.TypeView.{declared_type_of, declared_types_of}
use Rattle.type_definitions.specs.declared.type_texts.TypeText.{TypeText}
use Rattle.type_definitions.specs.Flattened.{types_at}
use Rattle.type_presentations.proofs.MarkLemmas.{number_next}

at_one : (types : List TypeText) (n : ℕ) (o : Option TypeText) → slice_get types n ≡ o
    → types_at (declared_types_of types) (n ∷ []) ≡ option_to_list (option_map declared_type_of o)
at_one types n o is =
    append-nil (option_to_list (slice_get (declared_types_of types) n))
    ∙ ap (λ (x : Option DeclaredType). option_to_list x)
    (slice_get-map declared_type_of types n ∙ ap (λ (x : Option TypeText). option_map declared_type_of x) is)

pub type_taken : (types : List TypeText) (n : ℕ) (t : TypeText) → slice_get types n ≡ Some t
    → types_at (declared_types_of types) (n ∷ []) ≡ declared_type_of t ∷ []
type_taken types n t is = at_one types n (Some t) is

pub no_type : (types : List TypeText) (n : ℕ) → slice_get types n ≡ None → types_at (declared_types_of types) (n ∷ []) ≡ []
no_type types n is = at_one types n None is

pub type_added : (types : List TypeText) (n : ℕ) (t : TypeText) (old new : List TypeText) → slice_get types n ≡ Some t
    → new ≡ old ++ t ∷ []
    → declared_types_of new ≡ declared_types_of old ++ types_at (declared_types_of types) (n ∷ [])
type_added types n t old new found pushed =
    ap (λ (ts : List TypeText). declared_types_of ts) pushed ∙ map-append declared_type_of old (t ∷ [])
    ∙ ap (λ (ts : List DeclaredType). declared_types_of old ++ ts) (sym (type_taken types n t found))

pub nothing_added : (types : List TypeText) (n : ℕ) (old : List TypeText) → slice_get types n ≡ None
    → declared_types_of old ≡ declared_types_of old ++ types_at (declared_types_of types) (n ∷ [])
nothing_added types n old none =
    sym (append-nil (declared_types_of old))
    ∙ ap (λ (ts : List DeclaredType). declared_types_of old ++ ts) (sym (no_type types n none))

one_and_rest : (types : List DeclaredType) (n : ℕ) (ns : List ℕ) → types_at types (n ∷ ns) ≡ types_at types (n ∷ []) ++ types_at types ns
one_and_rest types n ns =
    sym (ap (λ (xs : List DeclaredType). xs ++ types_at types ns) (append-nil (option_to_list (slice_get types n))))

pub next_in_order : (types texts new whole : List DeclaredType) (order : List ℕ) (i : ℕ) → i < length order
    → new ≡ texts ++ types_at types (get_or order i 0 ∷ []) → texts ++ types_at types (drop i order) ≡ whole
    → new ++ types_at types (drop (i + 1) order) ≡ whole
next_in_order types texts new whole order i within grown so_far =
    let n : ℕ = get_or order i 0 in
    let rest : List ℕ = drop (i + 1) order in
    ap (λ (xs : List DeclaredType). xs ++ types_at types rest) grown
    ∙ append_assoc texts (types_at types (n ∷ [])) (types_at types rest)
    ∙ ap (λ (xs : List DeclaredType). texts ++ xs) (sym (one_and_rest types n rest))
    ∙ ap (λ (ns : List ℕ). texts ++ types_at types ns) (sym (number_next order i within)) ∙ so_far
