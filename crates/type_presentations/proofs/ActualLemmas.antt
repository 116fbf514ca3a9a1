-- The pairs with which a pair may not share its new name.
use Rattle.std.proofs.Common.{◌≡◌, ℕ, ◌+◌, Bool, true, false, List, [], ◌∷◌, ◌++◌, map, length, refl, ap, sym, ◌∙◌, subst}
use Rattle.std.specs.Prelude.{◌&&◌, if◌then◌else◌}
use Rattle.std.proofs.lemmas.List.{map-append, append-nil, length_push}
use Rattle.syntax_trees.specs.WrittenItem.{WrittenPair}
use Rattle.type_presentations.specs.NamesView.{HasNames}
use Rattle.type_presentations.specs.declared.names.NamePositions.{NamePositions}
use Rattle.type_definitions.specs.Presentation.{Presentation}
use Rattle.type_definitions.specs.Actualisation.{is_formal_sort}
use Rattle.type_definitions.specs.ActualisationFaults.{unshared, actual_pairs_fault}
use Rattle.type_definitions.specs.Renaming.{sort_pair_fault}
use Rattle.type_definitions.proofs.WalkLemmas.{AreOneByOne}
use Rattle.type_presentations.specs.PairNames.{new_names}
use Rattle.type_presentations.specs.FormalNames.{other_pairs}

-- the others, where the pair is for a formal sort
pub unshared_of_formal : (base : Presentation) (earlier : List WrittenPair) (pair : WrittenPair)
    → is_formal_sort base pair.replaced.name ≡ true → other_pairs base earlier ≡ unshared base earlier pair
unshared_of_formal base [] pair formal = refl
unshared_of_formal base (e ∷ es) pair formal = go (is_formal_sort base e.replaced.name) (unshared_of_formal base es pair formal)
  where
    go : (b : Bool) → other_pairs base es ≡ unshared base es pair
        → (if b then other_pairs base es else e ∷ other_pairs base es)
        ≡ (if b && is_formal_sort base pair.replaced.name then unshared base es pair else e ∷ unshared base es pair)
    go true rest = rw formal rest
    go false rest = ap (λ (ps : List WrittenPair). e ∷ ps) rest

-- all, where it is not
pub unshared_of_other : (base : Presentation) (earlier : List WrittenPair) (pair : WrittenPair)
    → is_formal_sort base pair.replaced.name ≡ false → earlier ≡ unshared base earlier pair
unshared_of_other base [] pair other = refl
unshared_of_other base (e ∷ es) pair other = go (is_formal_sort base e.replaced.name) (unshared_of_other base es pair other)
  where
    go : (b : Bool) → es ≡ unshared base es pair
        → e ∷ es ≡ (if b && is_formal_sort base pair.replaced.name then unshared base es pair else e ∷ unshared base es pair)
    go true rest = rw other (ap (λ (ps : List WrittenPair). e ∷ ps) rest)
    go false rest = ap (λ (ps : List WrittenPair). e ∷ ps) rest

-- one more pair
pub others_append : (base : Presentation) (earlier later : List WrittenPair)
    → other_pairs base (earlier ++ later) ≡ other_pairs base earlier ++ other_pairs base later
others_append base [] later = refl
others_append base (e ∷ es) later = go (is_formal_sort base e.replaced.name) (others_append base es later)
  where
    go : (b : Bool) → other_pairs base (es ++ later) ≡ other_pairs base es ++ other_pairs base later
        → (if b then other_pairs base (es ++ later) else e ∷ other_pairs base (es ++ later))
        ≡ (if b then other_pairs base es else e ∷ other_pairs base es) ++ other_pairs base later
    go true rest = rest
    go false rest = ap (λ (ps : List WrittenPair). e ∷ ps) rest

pub formal_adds_none : (base : Presentation) (earlier : List WrittenPair) (pair : WrittenPair)
    → is_formal_sort base pair.replaced.name ≡ true → other_pairs base (earlier ++ pair ∷ []) ≡ other_pairs base earlier
formal_adds_none base earlier pair formal =
    others_append base earlier (pair ∷ [])
    ∙ ap (λ (b : Bool). other_pairs base earlier ++ (if b then [] else pair ∷ [])) formal ∙ append-nil (other_pairs base earlier)

pub other_adds_itself : (base : Presentation) (earlier : List WrittenPair) (pair : WrittenPair)
    → is_formal_sort base pair.replaced.name ≡ false
    → other_pairs base (earlier ++ pair ∷ []) ≡ other_pairs base earlier ++ pair ∷ []
other_adds_itself base earlier pair other =
    others_append base earlier (pair ∷ [])
    ∙ ap (λ (b : Bool). other_pairs base earlier ++ (if b then [] else pair ∷ [])) other

pub pairs_one_by_one : (base : Presentation)
    → AreOneByOne
    (λ (earlier : List WrittenPair) (pair : WrittenPair). sort_pair_fault base.signature earlier (unshared base earlier pair) pair)
    (λ (earlier pairs : List WrittenPair). actual_pairs_fault base earlier pairs)
pairs_one_by_one base = ((λ earlier. refl), (λ earlier x xs. refl))

-- ---- Names that are kept.

-- one more name
pub more_names : (positions : NamePositions) (f : WrittenPair → List ℕ) (earlier : List WrittenPair) (pair : WrittenPair)
    → HasNames positions (map f earlier ++ f pair ∷ []) → HasNames positions (map f (earlier ++ pair ∷ []))
more_names positions f earlier pair has =
    subst (λ (ns : List (List ℕ)). HasNames positions ns) (sym (map-append f earlier (pair ∷ []))) has

-- the same others
pub same_others : (positions : NamePositions) (base : Presentation) (earlier : List WrittenPair) (pair : WrittenPair)
    → is_formal_sort base pair.replaced.name ≡ true → HasNames positions (new_names (other_pairs base earlier))
    → HasNames positions (new_names (other_pairs base (earlier ++ pair ∷ [])))
same_others positions base earlier pair formal has =
    subst (λ (ps : List WrittenPair). HasNames positions (new_names ps)) (sym (formal_adds_none base earlier pair formal)) has

pub one_more_other : (positions : NamePositions) (base : Presentation) (earlier : List WrittenPair) (pair : WrittenPair)
    → is_formal_sort base pair.replaced.name ≡ false
    → HasNames positions (new_names (other_pairs base earlier) ++ pair.given ∷ [])
    → HasNames positions (new_names (other_pairs base (earlier ++ pair ∷ [])))
one_more_other positions base earlier pair other has =
    subst (λ (ps : List WrittenPair). HasNames positions (new_names ps)) (sym (other_adds_itself base earlier pair other))
    (more_names positions (λ (p : WrittenPair). p.given) (other_pairs base earlier) pair has)

pub as_many_others : (base : Presentation) (earlier : List WrittenPair) (pair : WrittenPair) (count : ℕ)
    → is_formal_sort base pair.replaced.name ≡ true → length (new_names (other_pairs base earlier)) ≡ count
    → length (new_names (other_pairs base (earlier ++ pair ∷ []))) ≡ count
as_many_others base earlier pair count formal many =
    ap (λ (ps : List WrittenPair). length (new_names ps)) (formal_adds_none base earlier pair formal) ∙ many

pub more_others : (base : Presentation) (earlier : List WrittenPair) (pair : WrittenPair) (count more : ℕ)
    → is_formal_sort base pair.replaced.name ≡ false → length (new_names (other_pairs base earlier)) ≡ count → more ≡ count + 1
    → length (new_names (other_pairs base (earlier ++ pair ∷ []))) ≡ more
more_others base earlier pair count more other many is =
    ap (λ (ps : List WrittenPair). length (new_names ps)) (other_adds_itself base earlier pair other)
    ∙ ap (λ (ns : List (List ℕ)). length ns) (map-append (λ (p : WrittenPair). p.given) (other_pairs base earlier) (pair ∷ []))
    ∙ length_push (new_names (other_pairs base earlier)) pair.given ∙ ap (λ (n : ℕ). n + 1) many ∙ sym is
