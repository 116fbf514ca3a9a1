-- The places of a term: their paths are those of its operations, and each has the operation that stands there.
use Rattle.std.proofs.Common.{◌≡◌, ◌+◌, ℕ, zero, suc, List, [], ◌∷◌, ◌++◌, map, refl, ap, sym, ◌∙◌, inl, inr, arith, append-nil, append_assoc}
use Rattle.std.specs.Prelude.{◌⊎◌, Some}
use Rattle.std.specs.Option.{option_and_then}
use Rattle.std.proofs.lemmas.List.{map-append}
use Rattle.std.proofs.lemmas.Option.{same_Some}
use Rattle.lotos_base.specs.Term.{Term, variable, node, Terms, no_terms, term_then}
use Rattle.lotos_base.specs.Path.{argument_at, subterm}
use Rattle.rewriting_theory.specs.Places.{node_paths, argument_paths}
use Rattle.rewriting_theory.proofs.PlaceListLemmas.{IsIn, in_either}
use Rattle.term_store.specs.HandedOn.{first_head}
use Rattle.critical_pairs.specs.NodePlaces.{PlaceOfNode, node_places, argument_places, IsHeadAt}

-- the paths of the places
abbrev pub path_of : PlaceOfNode → List ℕ
path_of place = place.path

map_twice : {A B C : Type 0} (f : A → B) (g : B → C) (xs : List A) → map g (map f xs) ≡ map (λ x. g (f x)) xs
map_twice f g [] = refl
map_twice f g (x ∷ xs) = ap (λ ys. g (f x) ∷ ys) (map_twice f g xs)

map_same : {A : Type 0} (xs : List A) → map (λ (x : A). x) xs ≡ xs
map_same [] = refl
map_same (x ∷ xs) = ap (λ ys. x ∷ ys) (map_same xs)

mutual
  paths_below : (before : List ℕ) (t : Term) → map path_of (node_places before t) ≡ map (λ (path : List ℕ). before ++ path) (node_paths t)
  paths_below before (variable n s) = refl
  paths_below before (node f ts) = λ i. sym (append-nil before) i ∷ paths_among before zero ts i

  paths_among : (before : List ℕ) (k : ℕ) (ts : Terms)
      → map path_of (argument_places before k ts) ≡ map (λ (path : List ℕ). before ++ path) (argument_paths k ts)
  paths_among before k no_terms = refl
  paths_among before k (term_then t ts) =
      map-append path_of (node_places (before ++ k ∷ []) t) (argument_places before (suc k) ts)
      ∙ (λ i. paths_below (before ++ k ∷ []) t i ++ paths_among before (suc k) ts i)
      ∙ (λ i. map (λ (path : List ℕ). append_assoc before (k ∷ []) path i) (node_paths t)
      ++ map (λ (path : List ℕ). before ++ path) (argument_paths (suc k) ts))
      ∙ ap (λ (ps : List (List ℕ)). ps ++ map (λ (path : List ℕ). before ++ path) (argument_paths (suc k) ts))
      (sym (map_twice (λ (path : List ℕ). k ∷ path) (λ (path : List ℕ). before ++ path) (node_paths t)))
      ∙ sym (map-append (λ (path : List ℕ). before ++ path) (map (λ (path : List ℕ). k ∷ path) (node_paths t)) (argument_paths (suc k) ts))

-- the paths of the places of a term are those of its operations
pub place_paths : (t : Term) → map path_of (node_places [] t) ≡ node_paths t
place_paths t = paths_below [] t ∙ map_same (node_paths t)

-- ---- The operation of a place

-- the place leads, from the path on, to an operation that has its number
record IsHeadBelow (before : List ℕ) (t : Term) (place : PlaceOfNode) : Type 0 where
  rest : List ℕ
  is_path : place.path ≡ before ++ rest
  is_head : (f : ℕ) (ts : Terms) → subterm rest t ≡ Some (node f ts) → (f ≡ place.head) × (first_head ts ≡ place.first)

record IsHeadAmong (before : List ℕ) (k : ℕ) (ts : Terms) (place : PlaceOfNode) : Type 0 where
  position : ℕ
  rest : List ℕ
  is_path : place.path ≡ before ++ (k + position) ∷ rest
  is_head : (f : ℕ) (us : Terms) → option_and_then (λ t. subterm rest t) (argument_at position ts) ≡ Some (node f us)
      → (f ≡ place.head) × (first_head us ≡ place.first)

node_head : (f g : ℕ) (ts us : Terms) → Some (node f ts) ≡ Some (node g us) → (g ≡ f) × (us ≡ ts)
node_head f g ts us e = let same : node f ts ≡ node g us = same_Some (node f ts) (node g us) e in (cc, cc)

mutual
  heads_below : (before : List ℕ) (t : Term) (place : PlaceOfNode) → IsIn place (node_places before t) → IsHeadBelow before t place
  heads_below before (variable n s) place is = absurd is
  heads_below before (node f ts) place (inl same) = record {
    rest = [];
    is_path = ap path_of (sym same) ∙ sym (append-nil before);
    is_head = λ g us e.
        let one = node_head f g ts us e in
        (one.0 ∙ ap (λ (p : PlaceOfNode). p.head) same, ap first_head one.1 ∙ ap (λ (p : PlaceOfNode). p.first) same);
  }
  heads_below before (node f ts) place (inr at) =
      let among = heads_among before zero ts place at in
      record {
        rest = among.position ∷ among.rest;
        is_path = among.is_path ∙ ap (λ (k : ℕ). before ++ (k ∷ among.rest)) (omega arith);
        is_head = among.is_head;
      }

  heads_among : (before : List ℕ) (k : ℕ) (ts : Terms) (place : PlaceOfNode) → IsIn place (argument_places before k ts)
      → IsHeadAmong before k ts place
  heads_among before k no_terms place is = absurd is
  heads_among before k (term_then t ts) place is =
      either (in_either place (node_places (before ++ k ∷ []) t) (argument_places before (suc k) ts) is)
      (λ at. heads_below (before ++ k ∷ []) t place at) (λ at. heads_among before (suc k) ts place at)
    where
      either : IsIn place (node_places (before ++ k ∷ []) t) ⊎ IsIn place (argument_places before (suc k) ts)
          → (IsIn place (node_places (before ++ k ∷ []) t) → IsHeadBelow (before ++ k ∷ []) t place)
          → (IsIn place (argument_places before (suc k) ts) → IsHeadAmong before (suc k) ts place)
          → IsHeadAmong before k (term_then t ts) place
      either (inl at) below among =
          let here = below at in
          record {
            position = 0;
            rest = here.rest;
            is_path = here.is_path ∙ append_assoc before (k ∷ []) here.rest
                ∙ ap (λ (j : ℕ). before ++ (j ∷ here.rest)) (omega arith);
            is_head = here.is_head;
          }
      either (inr at) below among =
          let later = among at in
          record {
            position = suc later.position;
            rest = later.rest;
            is_path = later.is_path ∙ ap (λ (j : ℕ). before ++ (j ∷ later.rest)) (omega arith);
            is_head = later.is_head;
          }

pub place_heads : (t : Term) (place : PlaceOfNode) → IsIn place (node_places [] t) → IsHeadAt t place
place_heads t place is =
    let below = heads_below [] t place is in
    λ f ts e. below.is_head f ts (ap (λ (path : List ℕ). subterm path t) (sym below.is_path) ∙ e)
