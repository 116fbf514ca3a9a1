-- One declaration counted, as the code does it.
use Rattle.std.proofs.Common.{◌≡◌, ◌<◌, ℕ, suc, List, [], ◌∷◌, ◌++◌, length, refl, ap, sym, ◌∙◌, subst, arith}
use Rattle.std.specs.Prelude.{Option, None, reverse}
use Rattle.std.proofs.lemmas.List.{map-append, append-nil}
use Rattle.syntax_trees.specs.TreeViews.{inner_list_of, inner_of}
use Rattle.syntax_trees.specs.WrittenDefinition.{WrittenInner, inners_of}
use Rattle.syntax_trees.specs.declared.definitions.InnerText.{InnerText}
use Rattle.static_scope.specs.Sizes.{Uncounted, counted_out, with_own_open, sizes_of_all, steps_left}
use Rattle.static_scope.specs.SizesView.{written_inners}
use Rattle.static_scope.proofs.SizeLemmas.{last_opened, fewer_steps}

list_end : (list rest : List InnerText) (last : InnerText) → list ≡ rest ++ last ∷ []
    → inner_list_of list ≡ inner_list_of rest ++ inner_of last ∷ []
list_end list rest last are = ap inner_list_of are ∙ map-append inner_of rest (last ∷ [])

pub last_counted : (list rest : List InnerText) (last : InnerText) (behind : Option ℕ) (others opened : List Uncounted) (sizes : List ℕ)
    (many : ℕ) → list ≡ rest ++ last ∷ [] → many ≡ length sizes
    → opened ≡ with_own_open (inner_of last) many (record { inners = written_inners rest; behind = behind } ∷ others)
    → counted_out opened sizes ≡ counted_out (record { inners = written_inners list; behind = behind } ∷ others) sizes
last_counted list rest last behind others opened sizes many are counted is =
    ap (λ (us : List Uncounted). counted_out us sizes) is
    ∙ ap
    (λ (n : ℕ). counted_out (with_own_open (inner_of last) n (record { inners = written_inners rest; behind = behind } ∷ others)) sizes)
    counted
    ∙ last_opened (inner_of last) (inner_list_of rest) behind others sizes
    ∙ ap (λ (xs : List WrittenInner). counted_out (record { inners = inners_of xs; behind = behind } ∷ others) sizes)
    (sym (list_end list rest last are))

pub fewer_left : (list rest : List InnerText) (last : InnerText) (behind : Option ℕ) (others opened : List Uncounted) (many : ℕ)
    → list ≡ rest ++ last ∷ []
    → opened ≡ with_own_open (inner_of last) many (record { inners = written_inners rest; behind = behind } ∷ others)
    → steps_left opened < steps_left (record { inners = written_inners list; behind = behind } ∷ others)
fewer_left list rest last behind others opened many are is =
    subst (λ (us : List Uncounted). steps_left us < steps_left (record { inners = written_inners list; behind = behind } ∷ others)) (sym is)
    (subst
    (λ (xs : List WrittenInner).
    steps_left (with_own_open (inner_of last) many (record { inners = written_inners rest; behind = behind } ∷ others))
    < steps_left (record { inners = inners_of xs; behind = behind } ∷ others))
    (sym (list_end list rest last are)) (fewer_steps (inner_of last) (inner_list_of rest) behind others many))

-- a list that is at its end
pub none_left : (list : List InnerText) → length list ≡ 0 → list ≡ []
none_left [] none = refl
none_left (x ∷ xs) none = absurd (omega_no (length xs) none)
  where
    omega_no : (n : ℕ) → suc n ≡ 0 → ⊥
    omega_no n is = omega (arith, is)

-- nothing is counted yet
pub counting_starts : (inner : List InnerText) (waiting : List Uncounted) (made : List ℕ)
    → waiting ≡ record { inners = written_inners inner; behind = None } ∷ [] → made ≡ []
    → counted_out waiting (reverse made) ≡ sizes_of_all (written_inners inner)
counting_starts inner waiting made are none =
    ap (λ (us : List Uncounted). counted_out us (reverse made)) are
    ∙ ap (λ (ns : List ℕ). counted_out (record { inners = written_inners inner; behind = None } ∷ []) (reverse ns)) none
    ∙ append-nil (sizes_of_all (written_inners inner))
