-- A term that is on its way to its number, one thing after another.
use Rattle.std.proofs.Common.{Bor, Vec, Global, zero, arith, refl, ap, sym, ◌∙◌, ◌≡◌, ◌<◌, ◌+◌, ltb, ltb-true, subst, ℕ, suc, List, [], ◌∷◌, ◌++◌, length, map, get_or, take, drop, reverse, append_assoc}
use Rattle.std.specs.Prelude.{IfSome, Option, Some, is_some}
use Rattle.std.specs.declared.rc.Rc.{Rc}
use Rattle.std.proofs.Math.Seq.{drop-append_seam, take-append_seam, take-length}
use Rattle.std.proofs.lemmas.List.{drop-map, reverse-append, take-map, take_more}
use Rattle.lotos_base.specs.Signature.{Signature, IsOperation}
use Rattle.sort_terms.specs.Operations.{operation_of}
use Rattle.sort_terms.specs.ProfiledTerm.{ProfiledTerm, profiled_node, profiled_term_then, IsOf, AreOf}
use Rattle.sort_terms.specs.TermSize.{size_of, sizes_of}
use Rattle.sort_terms.specs.TermView.{all_profiled, profiled_of, profiled_terms}
use Rattle.sort_terms.specs.declared.operations.Op.{Op}
use Rattle.sort_terms.specs.declared.terms.Term.{Term}
use Rattle.sort_terms.proofs.SizeLemmas.{sizes_popped}
use Rattle.term_store.specs.Cells.{numbered_operation_key, members, key_terms, AreBelow, HasOneMore, KeyStandsAt, HaveTermsOf, Grows}
use Rattle.term_store.specs.Numbered.{term_at, TakesIn, IsNumberOfTerm}
use Rattle.term_store.specs.OnTheWay.{with_numbered, numbered_by, IsLeftOf, AreLeftOf, halfway_of, IsOnItsWay, numbering_turns, numbering_turns_of}
use Rattle.term_store.specs.declared.numbering.Numbering.{Numbering}
use Rattle.term_store.specs.declared.numbering.Numbering.TheVariants.{First, Head}
use Rattle.term_store.proofs.CellLemmas.{grown_stays, grows_on, grows_not}
use Rattle.term_store.proofs.GrowthLemmas.{operation_there, grows_one, terms_more, number_term}
use Rattle.term_store.proofs.NumberingLemmas.{below_grown, members_of}

-- ---- Lists of what is to be done

numbered_append : (left more : List Numbering) (made : List ProfiledTerm)
    → numbered_by (left ++ more) made ≡ numbered_by left (numbered_by more made)
numbered_append [] more made = refl
numbered_append (first ∷ left) more made = ap (with_numbered first) (numbered_append left more made)

turns_append : (left more : List Numbering) → numbering_turns_of (left ++ more) ≡ numbering_turns_of left + numbering_turns_of more
turns_append [] more = omega arith
turns_append (first ∷ left) more = let e = turns_append left more in omega arith

pub turns_next : (all left : List Numbering) (next : Numbering) → all ≡ left ++ next ∷ []
    → numbering_turns_of all ≡ numbering_turns next + numbering_turns_of left
turns_next all left next is = let e = ap numbering_turns_of is ∙ turns_append left (next ∷ []) in omega arith

pub left_parted : (signature : Signature) (left : List Numbering) (next : Numbering) → AreLeftOf signature (left ++ next ∷ [])
    → AreLeftOf signature left × IsLeftOf signature next
left_parted signature [] next all = (tt, all.0)
left_parted signature (first ∷ left) next all =
    let rest = left_parted signature left next all.1 in
    ((all.0, rest.0), rest.1)

pub left_joined : (signature : Signature) (left : List Numbering) (next : Numbering) → AreLeftOf signature left
    → IsLeftOf signature next → AreLeftOf signature (left ++ next ∷ [])
left_joined signature [] next all one = (one, tt)
left_joined signature (first ∷ left) next all one = (all.0, left_joined signature left next all.1 one)

-- ---- Numbers that were got

below_last : (bound n : ℕ) (made : List ℕ) → AreBelow bound (reverse made) → n < bound → AreBelow bound (reverse (made ++ n ∷ []))
below_last bound n made all one = subst (AreBelow bound) (sym (reverse-append made (n ∷ []))) (one, all)

terms_stay : (signature : Signature) (before after : List (List ℕ)) (ns : List ℕ) → Grows before after → AreBelow (length before) ns
    → map (term_at signature after) ns ≡ map (term_at signature before) ns
terms_stay signature before after [] grows below = refl
terms_stay signature before after (n ∷ ns) grows below =
    let here = grown_stays signature before after n grows below.0 in
    let there = terms_stay signature before after ns grows below.1 in
    λ i. here i ∷ there i

-- ---- One number more

pub way_pushed : (t : ProfiledTerm) (before now after : List (List ℕ)) (left : List Numbering) (u : ProfiledTerm) (made more : List ℕ)
    (number : ℕ) → IsOnItsWay t before (u ∷ []) (halfway_of now left made) → TakesIn u now after → IsNumberOfTerm u now after number
    → more ≡ made ++ number ∷ [] → IsOnItsWay t before [] (halfway_of after left more)
way_pushed t before now after left u made more number way takes is pushed =
    subst (λ ns. IsOnItsWay t before [] (halfway_of after left ns)) (sym pushed) (record {
      grows = grows_on before now after way.grows takes.grows;
      below = below_last (length after) number made (below_grown now after (reverse made) takes.grows way.below) is.within;
      sound = λ signature of have.
          let old = way.sound signature of have in
          let terms = takes.have signature old.next_of.0 old.terms in
          record {
            terms = terms;
            left_of = old.left_of;
            next_of = tt;
            comes = ap (numbered_by left)
                (ap (map (term_at signature after)) (reverse-append made (number ∷ []))
                ∙ ap (λ (v : ProfiledTerm). v ∷ map (term_at signature after) (reverse made)) (is.term signature old.next_of.0 old.terms)
                ∙ ap (λ (us : List ProfiledTerm). u ∷ us) (terms_stay signature now after (reverse made) takes.grows way.below))
                ∙ old.comes;
          };
    })

pub way_taken : (t : ProfiledTerm) (before now after : List (List ℕ)) (left : List Numbering) (u : ProfiledTerm) (made : List ℕ)
    → IsOnItsWay t before (u ∷ []) (halfway_of now left made) → TakesIn u now after → TakesIn t before after
way_taken t before now after left u made way takes = record {
  grows = grows_on before now after way.grows takes.grows;
  have = λ signature of have.
      let old = way.sound signature of have in takes.have signature old.next_of.0 old.terms;
}

-- ---- The first terms of a list

-- what a list has at a position
pub at_position : (ts : List Term) (i : ℕ) (found : Option (Bor Term)) (t : Bor Term) → found ≡ Some t
    → is_some found ≡ ltb i (length ts) → IfSome found (λ x. x.now ≡ get_or ts i x.now)
    → (i < length ts) × (t.now ≡ get_or ts i t.now)
at_position ts i found t is within value = (
  ltb-true i (length ts) (sym within ∙ ap is_some is),
  subst (λ (o : Option (Bor Term)). IfSome o (λ x. x.now ≡ get_or ts i x.now)) is value,
)

one_more : (ts : List Term) (count before : ℕ) (t : Term) → count ≡ before + 1 → before < length ts → t ≡ get_or ts before t
    → take count ts ≡ take before ts ++ t ∷ []
one_more ts count before t is within at =
    ap (λ n. take n ts) is ∙ take_more ts before t within ∙ ap (λ u. take before ts ++ u ∷ []) (sym at)

pub sizes_last : (ts : List Term) (count before : ℕ) (t : Term) → count ≡ before + 1 → before < length ts
    → t ≡ get_or ts before t → sizes_of (take count ts) ≡ sizes_of (take before ts) + size_of t
sizes_last ts count before t is within at =
    sizes_popped (take count ts) (take before ts) t (one_more ts count before t is within at)

pub sizes_all : (ts : List Term) (count : ℕ) → count ≡ length ts → sizes_of (take count ts) ≡ sizes_of ts
sizes_all ts count is = ap (λ n. sizes_of (take n ts)) is ∙ ap sizes_of (take-length ts)

of_last : (signature : Signature) (ts : List Term) (t : Term) → AreOf signature (all_profiled (ts ++ t ∷ []))
    → AreOf signature (all_profiled ts) × IsOf signature (profiled_of t)
of_last signature [] t all = (tt, all.0)
of_last signature (u ∷ ts) t all =
    let rest = of_last signature ts t all.1 in
    ((all.0, rest.0), rest.1)

moved : (ts : List Term) (t : Term) (rest : List ProfiledTerm)
    → map profiled_of ts ++ profiled_of t ∷ rest ≡ map profiled_of (ts ++ t ∷ []) ++ rest
moved [] t rest = refl
moved (u ∷ ts) t rest = ap (λ us. profiled_of u ∷ us) (moved ts t rest)

-- the last of them is next
pub way_first : (t : ProfiledTerm) (before now : List (List ℕ)) (left more : List Numbering) (made : List ℕ)
    (terms : Bor (Vec Term Global)) (count fewer : ℕ) (x : Term) → count ≡ fewer + 1 → fewer < length terms.now.items
    → x ≡ get_or terms.now.items fewer x → more ≡ left ++ First terms fewer ∷ []
    → IsOnItsWay t before (map profiled_of (take count terms.now.items)) (halfway_of now left made)
    → IsOnItsWay t before (profiled_of x ∷ []) (halfway_of now more made)
way_first t before now left more made terms count fewer x is within at pushed way =
    subst (λ list. IsOnItsWay t before (profiled_of x ∷ []) (halfway_of now list made)) (sym pushed) (record {
      grows = way.grows;
      below = way.below;
      sound = λ signature of have.
          let old = way.sound signature of have in
          let parts = of_last signature (take fewer terms.now.items) x
          (subst (λ (ts : List Term). AreOf signature (all_profiled ts))
          (one_more terms.now.items count fewer x is within at) old.next_of) in
          record {
            terms = old.terms;
            left_of = left_joined signature left (First terms fewer) old.left_of parts.0;
            next_of = (parts.1, tt);
            comes = numbered_append left (First terms fewer ∷ []) (profiled_of x ∷ map (term_at signature now) (reverse made))
                ∙ ap (numbered_by left) (moved (take fewer terms.now.items) x (map (term_at signature now) (reverse made))
                ∙ ap (λ (ts : List Term). map profiled_of ts ++ map (term_at signature now) (reverse made))
                (sym (one_more terms.now.items count fewer x is within at)))
                ∙ old.comes;
          };
    })

-- they come next
pub way_list : (t : ProfiledTerm) (before now : List (List ℕ)) (left : List Numbering) (made : List ℕ)
    (terms : Bor (Vec Term Global)) (count : ℕ) → IsOnItsWay t before [] (halfway_of now (left ++ First terms count ∷ []) made)
    → IsOnItsWay t before (map profiled_of (take count terms.now.items)) (halfway_of now left made)
way_list t before now left made terms count way = record {
  grows = way.grows;
  below = way.below;
  sound = λ signature of have.
      let old = way.sound signature of have in
      let parts = left_parted signature left (First terms count) old.left_of in
      record {
        terms = old.terms;
        left_of = parts.0;
        next_of = parts.1;
        comes = sym (numbered_append left (First terms count ∷ []) (map (term_at signature now) (reverse made))) ∙ old.comes;
      };
}

-- ---- An operation

-- its arguments and then itself
pub way_node : (t : ProfiledTerm) (before now : List (List ℕ)) (left more most : List Numbering) (made : List ℕ) (u : ProfiledTerm)
    (op count : ℕ) (profile : Bor (Rc Op Global)) (terms : Bor (Vec Term Global))
    → u ≡ profiled_node op (operation_of profile.now.value) (all_profiled terms.now.items) → count ≡ length terms.now.items
    → more ≡ left ++ Head op profile count ∷ [] → most ≡ more ++ First terms count ∷ []
    → IsOnItsWay t before (u ∷ []) (halfway_of now left made) → IsOnItsWay t before [] (halfway_of now most made)
way_node t before now left more most made u op count profile terms is many first second way =
    subst (λ list. IsOnItsWay t before [] (halfway_of now list made))
    (sym (second ∙ ap (λ list. list ++ First terms count ∷ []) first)) (record {
      grows = way.grows;
      below = way.below;
      sound = λ signature of have.
          let old = way.sound signature of have in
          let node = subst (IsOf signature) is old.next_of.0 in
          let rest : List ProfiledTerm = map (term_at signature now) (reverse made) in
          record {
            terms = old.terms;
            left_of = left_joined signature (left ++ Head op profile count ∷ []) (First terms count)
                (left_joined signature left (Head op profile count) old.left_of node.0)
                (subst (λ (ts : List Term). AreOf signature (all_profiled ts)) (sym whole) node.1);
            next_of = tt;
            comes = numbered_append (left ++ Head op profile count ∷ []) (First terms count ∷ []) rest
                ∙ numbered_append left (Head op profile count ∷ []) (map profiled_of (take count terms.now.items) ++ rest)
                ∙ ap (numbered_by left) (headed rest ∙ ap (λ (v : ProfiledTerm). v ∷ rest) (sym is))
                ∙ old.comes;
          };
    })
  where
    whole : take count terms.now.items ≡ terms.now.items
    whole = ap (λ k. take k terms.now.items) many ∙ take-length terms.now.items

    as_many : (ts : List Term) → length (map profiled_of ts) ≡ length ts
    as_many [] = refl
    as_many (v ∷ ts) = ap (λ n. suc n) (as_many ts)

    headed : (rest : List ProfiledTerm)
        → profiled_node op (operation_of profile.now.value)
        (profiled_terms (take count (map profiled_of (take count terms.now.items) ++ rest)))
        ∷ drop count (map profiled_of (take count terms.now.items) ++ rest)
        ≡ profiled_node op (operation_of profile.now.value) (all_profiled terms.now.items) ∷ rest
    headed rest =
        let xs : List ProfiledTerm = map profiled_of terms.now.items in
        let e : count ≡ length xs = many ∙ sym (as_many terms.now.items) in
        ap (λ (ts : List Term). profiled_node op (operation_of profile.now.value) (profiled_terms (take count (map profiled_of ts ++ rest)))
        ∷ drop count (map profiled_of ts ++ rest)) whole
        ∙ ap (λ n. profiled_node op (operation_of profile.now.value) (profiled_terms (take n (xs ++ rest))) ∷ drop n (xs ++ rest)) e
        ∙ ap (λ us. profiled_node op (operation_of profile.now.value) (profiled_terms us) ∷ drop (length xs) (xs ++ rest))
        (take-append_seam xs rest)
        ∙ ap (λ us. profiled_node op (operation_of profile.now.value) (profiled_terms xs) ∷ us) (drop-append_seam xs rest)

-- ---- The number of an operation

below_first : (bound count : ℕ) (ns : List ℕ) → AreBelow bound ns → AreBelow bound (take count ns)
below_first bound zero ns all = tt
below_first bound (suc count) [] all = tt
below_first bound (suc count) (n ∷ ns) all = (all.0, below_first bound count ns all.1)

below_rest : (bound count : ℕ) (ns : List ℕ) → AreBelow bound ns → AreBelow bound (drop count ns)
below_rest bound zero ns all = all
below_rest bound (suc count) [] all = tt
below_rest bound (suc count) (n ∷ ns) all = below_rest bound count ns all.1

members_are : (signature : Signature) (keys : List (List ℕ)) (ns : List ℕ)
    → members (key_terms signature keys) ns ≡ profiled_terms (map (term_at signature keys) ns)
members_are signature keys [] = refl
members_are signature keys (n ∷ ns) = ap (λ us. profiled_term_then (term_at signature keys n) us) (members_are signature keys ns)

-- the keys after have the terms
headed_have : (t : ProfiledTerm) (before now after : List (List ℕ)) (left : List Numbering) (made : List ℕ) (op count : ℕ)
    (profile : Bor (Rc Op Global)) → IsOnItsWay t before [] (halfway_of now (left ++ Head op profile count ∷ []) made)
    → HasOneMore now (numbered_operation_key op (take count (reverse made))) after → (signature : Signature) → IsOf signature t
    → HaveTermsOf signature before → HaveTermsOf signature after
headed_have t before now after left made op count profile way more signature of have =
    let old = way.sound signature of have in
    let parts = left_parted signature left (Head op profile count) old.left_of in
    let head = operation_there signature op (operation_of profile.now.value) parts.1 in
    let within = below_first (length now) count (reverse made) way.below in
    terms_more signature now (numbered_operation_key op (take count (reverse made))) after more (refl, within)
    (subst (λ o. IsOperation signature op o) (sym head) parts.1, members_of signature now (take count (reverse made)) old.terms within)
    old.terms

pub head_taken : (t : ProfiledTerm) (before now after : List (List ℕ)) (left : List Numbering) (made : List ℕ) (op count : ℕ)
    (profile : Bor (Rc Op Global)) → IsOnItsWay t before [] (halfway_of now (left ++ Head op profile count ∷ []) made)
    → HasOneMore now (numbered_operation_key op (take count (reverse made))) after → TakesIn t before after
head_taken t before now after left made op count profile way more = record {
  grows = grows_on before now after way.grows (grows_one now (numbered_operation_key op (take count (reverse made))) after more);
  have = headed_have t before now after left made op count profile way more;
}

pub way_head : (t : ProfiledTerm) (before now after : List (List ℕ)) (left : List Numbering) (made rest all : List ℕ) (op count number : ℕ)
    (profile : Bor (Rc Op Global)) → IsOnItsWay t before [] (halfway_of now (left ++ Head op profile count ∷ []) made)
    → HasOneMore now (numbered_operation_key op (take count (reverse made))) after
    → KeyStandsAt after (numbered_operation_key op (take count (reverse made))) number → reverse rest ≡ drop count (reverse made)
    → all ≡ rest ++ number ∷ [] → IsOnItsWay t before [] (halfway_of after left all)
way_head t before now after left made rest all op count number profile way more stands behind pushed =
    subst (λ ns. IsOnItsWay t before [] (halfway_of after left ns)) (sym pushed) (record {
      grows = grows_on before now after way.grows grown;
      below = below_last (length after) number rest (subst (AreBelow (length after)) (sym behind)
          (below_rest (length after) count (reverse made) (below_grown now after (reverse made) grown way.below))) stands.within;
      sound = λ signature of have.
          let old = way.sound signature of have in
          let parts = left_parted signature left (Head op profile count) old.left_of in
          let head = operation_there signature op (operation_of profile.now.value) parts.1 in
          let within = below_first (length now) count (reverse made) way.below in
          let terms = headed_have t before now after left made op count profile way more signature of have in
          record {
            terms = terms;
            left_of = parts.0;
            next_of = tt;
            comes = ap (numbered_by left)
                (ap (map (term_at signature after)) (reverse-append rest (number ∷ []))
                ∙ ap (λ (v : ProfiledTerm). v ∷ map (term_at signature after) (reverse rest))
                (number_term signature now key after number grown (refl, within) terms.cells stands.within stands.is
                ∙ ap (λ o. profiled_node op o (members (key_terms signature now) (take count (reverse made)))) head
                ∙ ap (profiled_node op (operation_of profile.now.value)) (members_are signature now (take count (reverse made))
                ∙ ap profiled_terms (sym (take-map (term_at signature now) count (reverse made)))))
                ∙ ap (λ (us : List ProfiledTerm). profiled_node op (operation_of profile.now.value)
                (profiled_terms (take count (map (term_at signature now) (reverse made)))) ∷ us)
                (ap (map (term_at signature after)) behind
                ∙ sym (drop-map (term_at signature after) count (reverse made))
                ∙ ap (drop count) (terms_stay signature now after (reverse made) grown way.below)))
                ∙ sym (numbered_append left (Head op profile count ∷ []) (map (term_at signature now) (reverse made)))
                ∙ old.comes;
          };
    })
  where
    key : List ℕ
    key = numbered_operation_key op (take count (reverse made))

    grown : Grows now after
    grown = grows_one now key after more

-- ---- The beginning and the end

pub way_begun : (t : ProfiledTerm) (keys : List (List ℕ)) → IsOnItsWay t keys (t ∷ []) (halfway_of keys [] [])
way_begun t keys = record {
  grows = grows_not keys;
  below = tt;
  sound = λ signature of have. record { terms = have; left_of = tt; next_of = (of, tt); comes = refl };
}

pub way_begun_with : (t : ProfiledTerm) (keys : List (List ℕ)) (left : List Numbering) (made : List ℕ) → left ≡ [] → made ≡ []
    → IsOnItsWay t keys (t ∷ []) (halfway_of keys left made)
way_begun_with t keys left made none nothing =
    subst (λ list. IsOnItsWay t keys (t ∷ []) (halfway_of keys list made)) (sym none)
    (subst (λ ns. IsOnItsWay t keys (t ∷ []) (halfway_of keys [] ns)) (sym nothing) (way_begun t keys))

-- ---- Numbers that are taken off

pub taken_more : (xs popped : List ℕ) (n i : ℕ) (key more : List ℕ) (whole : List ℕ) → xs ≡ popped ++ n ∷ []
    → reverse xs ≡ drop i (reverse whole) → more ≡ key ++ n ∷ [] → (start : List ℕ) → key ≡ start ++ take i (reverse whole)
    → (more ≡ start ++ take (i + 1) (reverse whole)) × (reverse popped ≡ drop (i + 1) (reverse whole))
taken_more xs popped n i key more whole is left pushed start so_far =
    let next : drop i (reverse whole) ≡ n ∷ reverse popped = sym left ∙ ap reverse is ∙ reverse-append popped (n ∷ []) in
    let one : i + 1 ≡ suc i = omega arith in (
      pushed ∙ ap (λ ks. ks ++ n ∷ []) so_far ∙ append_assoc start (take i (reverse whole)) (n ∷ [])
          ∙ ap (λ ks. start ++ ks) (sym (ap (λ k. take k (reverse whole)) one ∙ taken i (reverse whole) next)),
      sym (ap (λ k. drop k (reverse whole)) one ∙ dropped i (reverse whole) next),
    )
  where
    taken : (k : ℕ) (ys : List ℕ) → drop k ys ≡ n ∷ reverse popped → take (suc k) ys ≡ take k ys ++ n ∷ []
    taken zero [] e = cc
    taken zero (y ∷ ys) e = cc
    taken (suc k) [] e = cc
    taken (suc k) (y ∷ ys) e = ap (λ rest. y ∷ rest) (taken k ys e)

    dropped : (k : ℕ) (ys : List ℕ) → drop k ys ≡ n ∷ reverse popped → drop (suc k) ys ≡ reverse popped
    dropped zero [] e = cc
    dropped zero (y ∷ ys) e = cc
    dropped (suc k) [] e = cc
    dropped (suc k) (y ∷ ys) e = dropped k ys e
