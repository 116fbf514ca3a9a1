-- An environment built pair by pair.
use Rattle.std.proofs.Common.{◌≡◌, ◌<◌, ◌+◌, ℕ, suc, List, [], ◌∷◌, ◌++◌, map, drop, reverse, length, get_or, refl, ap, sym, ◌∙◌, add-one, arith, ◌↔◌, IsSome, Option, Some, None, option_to_list}
use Rattle.std.specs.Prelude.{zip}
use Rattle.std.proofs.Math.Seq.{drop-cons}
use Rattle.std.proofs.lemmas.List.{append_assoc, append-nil, reverse-append}
use Rattle.sort_terms.specs.declared.equations.Variable.{Variable}
use Rattle.sort_terms.specs.declared.sorted.Sorted.{Sorted}
use Rattle.behaviour_tree.specs.StateView.{number_of, pairs_with}

-- The pairs that the variables from a position on have with values, the last of which comes first.
abbrev pub pairs_from : List Variable → ℕ → List Sorted → List (ℕ × Sorted)
pairs_from variables i rest = zip (map number_of (drop i variables)) (reverse rest)

-- One more pair.
pub one_more_pair : (variables : List Variable) (i : ℕ) (x : Variable) (made : List (ℕ × Sorted)) (rest : List Sorted) (v : Sorted)
    → i < length variables → x ≡ get_or variables i x
    → made ++ (x.number, v) ∷ [] ++ pairs_from variables (suc i) rest ≡ made ++ pairs_from variables i (rest ++ v ∷ [])
one_more_pair variables i x made rest v within is =
    append_assoc made ((x.number, v) ∷ []) (pairs_from variables (suc i) rest)
    ∙ ap (λ (pairs : List (ℕ × Sorted)). made ++ pairs) (sym same)
  where
    here : drop i variables ≡ x ∷ drop (suc i) variables
    here = drop-cons variables i x within ∙ ap (λ (y : Variable). y ∷ drop (suc i) variables) (sym is)

    same : pairs_from variables i (rest ++ v ∷ []) ≡ (x.number, v) ∷ pairs_from variables (suc i) rest
    same =
        ap (λ (xs : List Variable). zip (map number_of xs) (reverse (rest ++ v ∷ []))) here
        ∙ ap (λ (values : List Sorted). zip (map number_of (x ∷ drop (suc i) variables)) values) (reverse-append rest (v ∷ []))

-- No values, no pairs.
zip_nothing : (numbers : List ℕ) (none : List Sorted) → none ≡ [] → zip numbers none ≡ []
zip_nothing [] none e = refl
zip_nothing (n ∷ numbers) none e = ap (λ (values : List Sorted). zip (n ∷ numbers) values) e

pub no_more_pairs : (variables : List Variable) (i j : ℕ) (rest : List Sorted) → rest ≡ []
    → pairs_from variables i rest ≡ pairs_from variables j rest
no_more_pairs variables i j rest e =
    zip_nothing (map number_of (drop i variables)) (reverse rest) (ap reverse e)
    ∙ sym (zip_nothing (map number_of (drop j variables)) (reverse rest) (ap reverse e))

-- What is popped from a list is none where it is empty.
none_popped : (popped : Option Sorted) (n : ℕ) (rest : List Sorted) → (IsSome popped ↔ (0 < n)) → n ≡ length rest → popped ≡ None
    → rest ≡ []
none_popped popped n [] some long none = refl
none_popped popped n (v ∷ rest) some long none =
    let there : IsSome popped = some.1 (omega arith) in absurd (cc (there, none))

-- One turn of the loop.
turn : (variables : List Variable) (i : ℕ) (x : Variable) (made : List (ℕ × Sorted)) (old left : List Sorted) (popped : Option Sorted)
    → i < length variables → x ≡ get_or variables i x → old ≡ left ++ option_to_list popped → (popped ≡ None → old ≡ [])
    → made ++ pairs_with x.number popped ++ pairs_from variables (suc i) left ≡ made ++ pairs_from variables i old
turn variables i x made old left None within is split empty =
    ap (λ (pairs : List (ℕ × Sorted)). pairs ++ pairs_from variables (suc i) left) (append-nil made)
    ∙ ap (λ (pairs : List (ℕ × Sorted)). made ++ pairs)
    (ap (λ (values : List Sorted). pairs_from variables (suc i) values) (sym (append-nil left) ∙ sym split)
    ∙ no_more_pairs variables (suc i) i old (empty refl))
turn variables i x made old left (Some v) within is split empty =
    one_more_pair variables i x made left v within is
    ∙ ap (λ (values : List Sorted). made ++ pairs_from variables i values) (sym split)

pub one_turn : (variables : List Variable) (i : ℕ) (x : Variable) (made more : List (ℕ × Sorted)) (old left : List Sorted) (n : ℕ)
    (popped : Option Sorted) (whole : List (ℕ × Sorted)) → i < length variables → x ≡ get_or variables i x
    → old ≡ left ++ option_to_list popped → (IsSome popped ↔ (0 < n)) → n ≡ length old → more ≡ made ++ pairs_with x.number popped
    → made ++ pairs_from variables i old ≡ whole → more ++ pairs_from variables (i + 1) left ≡ whole
one_turn variables i x made more old left n popped whole within is split some long added before =
    ap (λ (j : ℕ). more ++ pairs_from variables j left) (add-one i)
    ∙ ap (λ (pairs : List (ℕ × Sorted)). pairs ++ pairs_from variables (suc i) left) added
    ∙ turn variables i x made old left popped within is split (none_popped popped n old some long)
    ∙ before
