-- Terms that are rebuilt one after another.
use Rattle.std.proofs.Common.{Bor, Global, arith, refl, ap, sym, ◌∙◌, ◌≡◌, ◌<◌, ℕ, suc, ◌+◌, ltb, ltb-true, List, [], ◌∷◌, ◌++◌, length, map, get_or, take, drop, append-nil, subst}
use Rattle.std.specs.Prelude.{IfSome, Option, Some, is_some}
use Rattle.std.specs.declared.rc.Rc.{Rc}
use Rattle.std.proofs.Math.Seq.{drop-append_seam, take-append_seam, take-length}
use Rattle.std.proofs.lemmas.List.{take_more}
use Rattle.sort_terms.specs.Operations.{operation_of}
use Rattle.sort_terms.specs.ProfiledTerm.{ProfiledTerm, profiled_node, profiled_term_then}
use Rattle.sort_terms.specs.TermSize.{size_of, sizes_of}
use Rattle.sort_terms.specs.TermView.{profiled_of, profiled_terms}
use Rattle.sort_terms.specs.declared.operations.Op.{Op}
use Rattle.sort_terms.specs.declared.terms.Term.{Term}
use Rattle.sort_terms.proofs.SizeLemmas.{sizes_popped}
use Rattle.term_match.specs.ProfiledInstance.{ProfiledSubstitution, profiled_instance, profiled_instances}
use Rattle.event_offers.specs.Rebuilt.{rebuilt_by, turns, turns_of, with_rebuilt}
use Rattle.event_offers.specs.declared.rebuilding.Rebuilding.{Rebuilding}

-- ---- Lists of what is to be done.

rebuilt_append : (values : ProfiledSubstitution) (left more : List Rebuilding) (made : List ProfiledTerm)
    → rebuilt_by values (left ++ more) made ≡ rebuilt_by values left (rebuilt_by values more made)
rebuilt_append values [] more made = refl
rebuilt_append values (first ∷ left) more made = ap (with_rebuilt values first) (rebuilt_append values left more made)

pub rebuilt_next : (values : ProfiledSubstitution) (all left : List Rebuilding) (next : Rebuilding) (made : List ProfiledTerm)
    → all ≡ left ++ next ∷ [] → rebuilt_by values all made ≡ rebuilt_by values left (with_rebuilt values next made)
rebuilt_next values all left next made is =
    ap (λ list. rebuilt_by values list made) is ∙ rebuilt_append values left (next ∷ []) made

pub rebuilt_done : (values : ProfiledSubstitution) (left : List Rebuilding) (made : List ProfiledTerm) → length left ≡ 0
    → made ≡ rebuilt_by values left made
rebuilt_done values [] made none = refl
rebuilt_done values (next ∷ left) made none = absurd (omega (arith, none))

turns_append : (left more : List Rebuilding) → turns_of (left ++ more) ≡ turns_of left + turns_of more
turns_append [] more = omega arith
turns_append (first ∷ left) more = let e = turns_append left more in omega arith

pub turns_next : (all left : List Rebuilding) (next : Rebuilding) → all ≡ left ++ next ∷ []
    → turns_of all ≡ turns next + turns_of left
turns_next all left next is = let e = ap turns_of is ∙ turns_append left (next ∷ []) in omega arith

-- ---- An operation.

instances_terms : (values : ProfiledSubstitution) (ts : List ProfiledTerm)
    → profiled_instances values (profiled_terms ts) ≡ profiled_terms (map (profiled_instance values) ts)
instances_terms values [] = refl
instances_terms values (t ∷ ts) = ap (λ us. profiled_term_then (profiled_instance values t) us) (instances_terms values ts)

as_many : (values : ProfiledSubstitution) (ts : List Term)
    → length (map (profiled_instance values) (map profiled_of ts)) ≡ length ts
as_many values [] = refl
as_many values (t ∷ ts) = ap (λ n. suc n) (as_many values ts)

-- its arguments and then itself
pub head_rebuilt : (values : ProfiledSubstitution) (op count : ℕ) (profile : Rc Op Global) (ts : List Term)
    (made : List ProfiledTerm) → count ≡ length ts
    → profiled_node op (operation_of profile.value)
    (profiled_terms (take count (map (profiled_instance values) (map profiled_of ts) ++ made)))
    ∷ drop count (map (profiled_instance values) (map profiled_of ts) ++ made)
    ≡ profiled_instance values (profiled_node op (operation_of profile.value) (profiled_terms (map profiled_of ts))) ∷ made
head_rebuilt values op count profile ts made many =
    let xs : List ProfiledTerm = map (profiled_instance values) (map profiled_of ts) in
    let e : count ≡ length xs = many ∙ sym (as_many values ts) in
    ap (λ n. profiled_node op (operation_of profile.value) (profiled_terms (take n (xs ++ made))) ∷ drop n (xs ++ made)) e
    ∙ ap (λ us. profiled_node op (operation_of profile.value) (profiled_terms us) ∷ drop (length xs) (xs ++ made))
    (take-append_seam xs made)
    ∙ ap (λ us. profiled_node op (operation_of profile.value) (profiled_terms xs) ∷ us) (drop-append_seam xs made)
    ∙ ap (λ us. profiled_node op (operation_of profile.value) us ∷ made) (sym (instances_terms values (map profiled_of ts)))

-- as it stands at the beginning, with all its arguments still to be rebuilt
pub head_begun : (values : ProfiledSubstitution) (op count : ℕ) (profile : Rc Op Global) (ts : List Term)
    (made : List ProfiledTerm) → count ≡ length ts
    → profiled_node op (operation_of profile.value)
    (profiled_terms (take count (map (profiled_instance values) (map profiled_of (take count ts)) ++ made)))
    ∷ drop count (map (profiled_instance values) (map profiled_of (take count ts)) ++ made)
    ≡ profiled_instance values (profiled_node op (operation_of profile.value) (profiled_terms (map profiled_of ts))) ∷ made
head_begun values op count profile ts made many =
    ap (λ us. profiled_node op (operation_of profile.value)
    (profiled_terms (take count (map (profiled_instance values) (map profiled_of us) ++ made)))
    ∷ drop count (map (profiled_instance values) (map profiled_of us) ++ made)) (all_first ts count many)
    ∙ head_rebuilt values op count profile ts made many
  where
    all_first : (us : List Term) (n : ℕ) → n ≡ length us → take n us ≡ us
    all_first us n is = ap (λ k. take k us) is ∙ take-length us

-- ---- The first terms of a list.

-- what a list has at a position
pub at_position : (ts : List Term) (i : ℕ) (found : Option (Bor Term)) (t : Bor Term) → found ≡ Some t
    → is_some found ≡ ltb i (length ts) → IfSome found (λ x. x.now ≡ get_or ts i x.now)
    → (i < length ts) × (t.now ≡ get_or ts i t.now)
at_position ts i found t is within value = (
  ltb-true i (length ts) (sym within ∙ ap is_some is),
  subst (λ (o : Option (Bor Term)). IfSome o (λ x. x.now ≡ get_or ts i x.now)) is value,
)

one_more : (ts : List Term) (count before : ℕ) (t : Term) → count ≡ before + 1 → before < length ts → t ≡ get_or ts before t
    → take count ts ≡ take before ts ++ t ∷ []
one_more ts count before t is within at =
    ap (λ n. take n ts) is ∙ take_more ts before t within ∙ ap (λ u. take before ts ++ u ∷ []) (sym at)

pub first_last : (values : ProfiledSubstitution) (ts : List Term) (count before : ℕ) (t : Term) (made : List ProfiledTerm)
    → count ≡ before + 1 → before < length ts → t ≡ get_or ts before t
    → map (profiled_instance values) (map profiled_of (take before ts)) ++ profiled_instance values (profiled_of t) ∷ made
    ≡ map (profiled_instance values) (map profiled_of (take count ts)) ++ made
first_last values ts count before t made is within at =
    moved (take before ts)
    ∙ ap (λ us. map (profiled_instance values) (map profiled_of us) ++ made) (sym (one_more ts count before t is within at))
  where
    moved : (us : List Term)
        → map (profiled_instance values) (map profiled_of us) ++ profiled_instance values (profiled_of t) ∷ made
        ≡ map (profiled_instance values) (map profiled_of (us ++ t ∷ [])) ++ made
    moved [] = refl
    moved (u ∷ us) = ap (λ rest. profiled_instance values (profiled_of u) ∷ rest) (moved us)

pub sizes_last : (ts : List Term) (count before : ℕ) (t : Term) → count ≡ before + 1 → before < length ts
    → t ≡ get_or ts before t → sizes_of (take count ts) ≡ sizes_of (take before ts) + size_of t
sizes_last ts count before t is within at =
    sizes_popped (take count ts) (take before ts) t (one_more ts count before t is within at)

-- all of them
pub sizes_all : (ts : List Term) (count : ℕ) → count ≡ length ts → sizes_of (take count ts) ≡ sizes_of ts
sizes_all ts count is = ap (λ n. sizes_of (take n ts)) is ∙ ap sizes_of (take-length ts)

pub nothing_first : (values : ProfiledSubstitution) (ts : List Term) (count : ℕ) (made : List ProfiledTerm) → count ≡ 0
    → made ≡ map (profiled_instance values) (map profiled_of (take count ts)) ++ made
nothing_first values ts count made none =
    ap (λ n. map (profiled_instance values) (map profiled_of (take n ts)) ++ made) (sym none)

pub all_begun : (values : ProfiledSubstitution) (ts : List Term) (count : ℕ) → count ≡ length ts
    → map (profiled_instance values) (map profiled_of (take count ts)) ++ []
    ≡ map (profiled_instance values) (map profiled_of ts)
all_begun values ts count is =
    append-nil (map (profiled_instance values) (map profiled_of (take count ts)))
    ∙ ap (λ us. map (profiled_instance values) (map profiled_of us)) (ap (λ n. take n ts) is ∙ take-length ts)

-- those that are taken in the end
pub all_taken : (values : ProfiledSubstitution) (ts us : List Term) (rest : List ProfiledTerm)
    → map profiled_of us ++ rest ≡ map (profiled_instance values) (map profiled_of ts) → length us ≡ length ts
    → profiled_terms (map profiled_of us) ≡ profiled_instances values (profiled_terms (map profiled_of ts))
all_taken values ts us rest is many =
    let xs : List ProfiledTerm = map (profiled_instance values) (map profiled_of ts) in
    let e : length (map profiled_of us) ≡ length xs = plain us ∙ many ∙ sym (as_many values ts) in
    ap profiled_terms (sym (take-append_seam (map profiled_of us) rest) ∙ ap (take (length (map profiled_of us))) is
    ∙ ap (λ n. take n xs) e ∙ take-length xs)
    ∙ sym (instances_terms values (map profiled_of ts))
  where
    plain : (vs : List Term) → length (map profiled_of vs) ≡ length vs
    plain [] = refl
    plain (v ∷ vs) = ap (λ n. suc n) (plain vs)
