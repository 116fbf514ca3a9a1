-- One key more.
use Rattle.std.proofs.Common.{arith, refl, ap, sym, ◌∙◌, ◌≡◌, ◌<◌, ◌⊎◌, inl, inr, subst, ℕ, zero, suc, List, [], ◌∷◌, ◌++◌, length, get_or, append-nil}
use Rattle.std.specs.Prelude.{Some, slice_get}
use Rattle.std.proofs.lemmas.List.{length-append, get_or_append_left}
use Rattle.std.proofs.lemmas.Option.{same_Some}
use Rattle.std.proofs.Math.Seq.{get_or-append_seam}
use Rattle.lotos_base.specs.Signature.{Signature, Operation, IsOperation}
use Rattle.sort_terms.specs.ProfiledTerm.{ProfiledTerm, IsOf}
use Rattle.term_store.specs.Cells.{no_such_term, operation_at, key_term, key_terms, IsCell, AreCells, IsOnceEach, HasOneMore, HaveTermsOf, Grows}
use Rattle.term_store.proofs.CellLemmas.{with_last, with_length, cells_last, cell_stays, first_term_of_key, grown_stays, grown_keys}

pub get_or_of : {A : Type 0} (xs : List A) (n : ℕ) (x d : A) → slice_get xs n ≡ Some x → get_or xs n d ≡ x
get_or_of [] n x d is = cc
get_or_of (y ∷ xs) zero x d is = same_Some y x is
get_or_of (y ∷ xs) (suc n) x d is = get_or_of xs n x d is

pub operation_there : (signature : Signature) (f : ℕ) (operation : Operation) → IsOperation signature f operation
    → operation_at signature f ≡ operation
operation_there signature f operation is = get_or_of signature.operations f operation _ is

below_or_last : (n m : ℕ) → n < suc m → (n < m) ⊎ (n ≡ m)
below_or_last n m below = grind (arith, below)

once_last : (keys : List (List ℕ)) (key : List ℕ) → IsOnceEach keys → ((n : ℕ) → n < length keys → ¬ (get_or keys n [] ≡ key))
    → IsOnceEach (keys ++ key ∷ [])
once_last keys key once absent i j inside other same =
    let many = length-append keys (key ∷ []) in
    go (below_or_last i (length keys) (omega (arith, inside, many))) (below_or_last j (length keys) (omega (arith, other, many)))
  where
    here : (n : ℕ) → n < length keys → get_or (keys ++ key ∷ []) n [] ≡ get_or keys n []
    here n below = get_or_append_left keys (key ∷ []) [] n below

    last : (n : ℕ) → n ≡ length keys → get_or (keys ++ key ∷ []) n [] ≡ key
    last n is = ap (λ (k : ℕ). get_or (keys ++ key ∷ []) k []) is ∙ get_or-append_seam keys key [] []

    go : (i < length keys) ⊎ (i ≡ length keys) → (j < length keys) ⊎ (j ≡ length keys) → i ≡ j
    go (inl low) (inl under) = once i j low under (sym (here i low) ∙ same ∙ here j under)
    go (inl low) (inr end) = absurd (absent i low (sym (here i low) ∙ same ∙ last j end))
    go (inr end) (inl under) = absurd (absent j under (sym (here j under) ∙ sym same ∙ last i end))
    go (inr end) (inr ends) = end ∙ sym ends

pub grows_one : (before : List (List ℕ)) (key : List ℕ) (after : List (List ℕ)) → HasOneMore before key after → Grows before after
grows_one before key after (inl same) = ([], same ∙ sym (append-nil before))
grows_one before key after (inr more) = (key ∷ [], more.0)

pub terms_more : (signature : Signature) (before : List (List ℕ)) (key : List ℕ) (after : List (List ℕ)) → HasOneMore before key after
    → IsCell (length before) key → IsOf signature (key_term signature (key_terms signature before) key)
    → HaveTermsOf signature before → HaveTermsOf signature after
terms_more signature before key after (inl same) cell of have = subst (λ (keys : List (List ℕ)). HaveTermsOf signature keys) (sym same) have
terms_more signature before key after (inr more) cell of have =
    subst (λ (keys : List (List ℕ)). HaveTermsOf signature keys) (sym more.0) (record {
      cells = cells_last 0 before key have.cells (subst (λ (k : ℕ). IsCell k key) (omega arith) cell);
      once = once_last before key have.once more.1;
      of = λ n inside. go n (below_or_last n (length before) (let many = length-append before (key ∷ []) in omega (arith, inside, many)));
    })
  where
    terms : List ProfiledTerm
    terms = key_terms signature before

    go : (n : ℕ) → (n < length before) ⊎ (n ≡ length before)
        → IsOf signature (get_or (key_terms signature (before ++ key ∷ [])) n no_such_term)
    go n (inl low) =
        subst (λ (t : ProfiledTerm). IsOf signature t) (sym (grown_stays signature before (before ++ key ∷ []) n (key ∷ [], refl) low))
        (have.of n low)
    go n (inr end) =
        let many : length terms ≡ length before = (let all = with_length signature [] before in omega (arith, all)) in
        let place : get_or (key_terms signature (before ++ key ∷ [])) n no_such_term ≡ key_term signature terms key =
        ap (λ (ts : List ProfiledTerm). get_or ts n no_such_term) (with_last signature [] before key)
        ∙ ap (λ (k : ℕ). get_or (terms ++ key_term signature terms key ∷ []) k no_such_term) (end ∙ sym many)
        ∙ get_or-append_seam terms (key_term signature terms key) [] no_such_term in
        subst (λ (t : ProfiledTerm). IsOf signature t) (sym place) of

-- the term of the key that stands at a number
pub number_term : (signature : Signature) (before : List (List ℕ)) (key : List ℕ) (after : List (List ℕ)) (n : ℕ) → Grows before after
    → IsCell (length before) key → AreCells 0 after → n < length after → get_or after n [] ≡ key
    → get_or (key_terms signature after) n no_such_term ≡ key_term signature (key_terms signature before) key
number_term signature before key after n grows cell cells inside is =
    let many : length before ≡ length (key_terms signature before) = (let all = with_length signature [] before in omega (arith, all)) in
    first_term_of_key signature after n cells inside ∙ ap (λ (k : List ℕ). key_term signature (key_terms signature after) k) is
    ∙ ap (λ (keys : List (List ℕ)). key_term signature (key_terms signature keys) key) grows.1
    ∙ ap (λ (ts : List ProfiledTerm). key_term signature ts key) (grown_keys signature [] before grows.0)
    ∙ cell_stays signature (key_terms signature before) grows.0 key (subst (λ (k : ℕ). IsCell k key) many cell)
