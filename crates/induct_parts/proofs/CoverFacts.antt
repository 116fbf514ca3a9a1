-- What the tests of covers mean.
use Rattle.std.proofs.Common.{◌≡◌, ◌<◌, ◌≤◌, ℕ, zero, suc, ◌+◌, List, [], ◌∷◌, true, false, nat_eq, length, map, take, take_all, get_or, refl, ap, sym, ◌∙◌, subst, inl, inr, arith}
use Rattle.std.proofs.lemmas.List.{length-map, take_more}
use Rattle.std.specs.Prelude.{◌⊎◌, ◌↔◌, Some, slice_get, IsTrue}
use Rattle.std.proofs.lemmas.Bool.Decides.{Decides-eqb}
use Rattle.std.proofs.lemmas.Option.{same_Some, slice_get_within, slice_get-get_or}
use Rattle.lotos_base.specs.Signature.{Operation}
use Rattle.lotos_base.specs.Substitution.{is_listed}
use Rattle.path_order.proofs.ItemLemmas.{operation_at}
use Rattle.sort_terms.specs.Operations.{operation_of}
use Rattle.sort_terms.specs.SignatureView.{signature_of}
use Rattle.sort_terms.specs.declared.operations.Op.{Op}
use Rattle.sort_terms.specs.declared.signatures.Signature.{Signature}
use Rattle.certificate_theory.specs.Covers.{IsListedIn, HasResult}
use Rattle.certificate_theory.proofs.Each.{from_join}
use Rattle.certificate_theory.proofs.TestedCertificates.{AllOnce, among_member, member_among}

-- ---- an answer and what it says

pub says_no : {P : Type 0} → ¬ P → IsTrue false ↔ P
says_no never = ((λ e. absurd (cc e)), (λ h. absurd (never h)))

pub says_yes : {P : Type 0} → P → IsTrue true ↔ P
says_yes h = ((λ e. h), (λ k. refl))

-- ---- operations with a result

pub result_some : (signature : Signature) (ops : List Op) (f sort : ℕ) (op : Op) → ops ≡ signature.ops.items → f < length ops
    → op ≡ get_or ops f op → IsTrue (nat_eq op.result sort) ↔ HasResult (signature_of signature) sort f
result_some signature ops f sort op e within is =
    let at = operation_at signature ops f op e (subst (λ (xs : List Op). f < length xs) e within) is in (
      (λ same. (operation_of op, at, (Decides-eqb op.result sort).0 same)),
      (λ h. (Decides-eqb op.result sort).1
          (subst (λ (o : Operation). o.result ≡ sort) (same_Some h.0 (operation_of op) (sym h.1 ∙ at)) h.2)),
    )

pub result_none : (signature : Signature) (ops : List Op) (f sort : ℕ) → ops ≡ signature.ops.items → length ops ≤ f
    → ¬ HasResult (signature_of signature) sort f
result_none signature ops f sort e past h =
    let within : f < length (map operation_of signature.ops.items) = slice_get_within (signature_of signature).operations f h.0 h.1 in
    let same : length (map operation_of signature.ops.items) ≡ length ops =
    length-map signature.ops.items operation_of ∙ ap length (sym e) in
    omega (arith, within, same, past)

-- ---- what holds of each member up to an index

pub members_more : (P : ℕ → Type 0) (xs : List ℕ) (n : ℕ) → n < length xs → P (get_or xs n 0)
    → ((i f : ℕ) → i < n → slice_get xs i ≡ Some f → P f) → (i f : ℕ) → i < n + 1 → slice_get xs i ≡ Some f → P f
members_more P xs n within one so_far i f less at = go (least i n less)
  where
    least : (i n : ℕ) → i < n + 1 → (i < n) ⊎ (i ≡ n)
    least zero zero less = inr refl
    least zero (suc n) less = inl (omega arith)
    least (suc i) zero less = absurd (omega (arith, less))
    least (suc i) (suc n) less = next (least i n (omega (arith, less)))
      where
        next : (i < n) ⊎ (i ≡ n) → (suc i < suc n) ⊎ (suc i ≡ suc n)
        next (inl h) = inl (omega (arith, h))
        next (inr h) = inr (omega (arith, h))

    go : (i < n) ⊎ (i ≡ n) → P f
    go (inl below) = so_far i f below at
    go (inr same) =
        subst P (same_Some (get_or xs n 0) f
        (sym (slice_get-get_or xs n 0 within) ∙ (ap (slice_get xs) (sym same) ∙ at))) one

pub members_all : (P : ℕ → Type 0) (xs : List ℕ) (n : ℕ) → length xs ≤ n
    → ((i f : ℕ) → i < n → slice_get xs i ≡ Some f → P f) → (i f : ℕ) → slice_get xs i ≡ Some f → P f
members_all P xs n past so_far i f at =
    let within = slice_get_within xs i f at in so_far i f (omega (arith, within, past)) at

pub member_fails : (P : ℕ → Type 0) (xs : List ℕ) (n : ℕ) → n < length xs → ¬ P (get_or xs n 0)
    → ¬ ((i f : ℕ) → slice_get xs i ≡ Some f → P f)
member_fails P xs n within never all = never (all n (get_or xs n 0) (slice_get-get_or xs n 0 within))

-- ---- different numbers

at_take : (xs : List ℕ) (n i m : ℕ) → slice_get (take n xs) i ≡ Some m → (slice_get xs i ≡ Some m) × (i < n)
at_take [] zero i m at = absurd (cc at)
at_take [] (suc n) i m at = absurd (cc at)
at_take (x ∷ xs) zero i m at = absurd (cc at)
at_take (x ∷ xs) (suc n) zero m at = (at, omega arith)
at_take (x ∷ xs) (suc n) (suc i) m at =
    let rest = at_take xs n i m at in
    let less = rest.1 in
    (rest.0, omega (arith, less))

pub not_once : (xs : List ℕ) (n : ℕ) → n < length xs → is_listed (take n xs) (get_or xs n 0) ≡ true → ¬ AllOnce xs
not_once xs n within listed once =
    let found = among_member (take n xs) (get_or xs n 0) listed in
    let there = at_take xs n found.0 (get_or xs n 0) found.1 in
    let same : found.0 ≡ n = once found.0 n (get_or xs n 0) there.0 (slice_get-get_or xs n 0 within) in
    let less = there.1 in
    omega (arith, same, less)

pub once_more : (xs : List ℕ) (n : ℕ) → n < length xs → is_listed (take n xs) (get_or xs n 0) ≡ false → AllOnce (take n xs)
    → AllOnce (take (n + 1) xs)
once_more xs n within none once i j f at there = go (part i at) (part j there)
  where
    last : ℕ
    last = get_or xs n 0

    split : (k : ℕ) → (slice_get (take n xs) k ≡ Some f)
        ⊎ ((m : ℕ) × (k ≡ length (take n xs) + m) × (slice_get (last ∷ []) m ≡ Some f))
        → (slice_get (take n xs) k ≡ Some f) ⊎ ((k ≡ length (take n xs)) × (last ≡ f))
    split k (inl front) = inl front
    split k (inr (zero, e, back)) = inr (omega (arith, e), same_Some last f back)
    split k (inr (suc m, e, back)) = absurd (cc back)

    part : (k : ℕ) → slice_get (take (n + 1) xs) k ≡ Some f
        → (slice_get (take n xs) k ≡ Some f) ⊎ ((k ≡ length (take n xs)) × (last ≡ f))
    part k found =
        split k (from_join (take n xs) (last ∷ []) k f
        (subst (λ (ys : List ℕ). slice_get ys k ≡ Some f) (take_more xs n 0 within) found))

    beyond : (k : ℕ) → slice_get (take n xs) k ≡ Some f → last ≡ f → ⊥
    beyond k front same =
        let listed : is_listed (take n xs) last ≡ true = subst (IsListedIn (take n xs)) (sym same) (member_among (take n xs) k f front) in
        let clash : true ≡ false = sym listed ∙ none in
        cc clash

    go : (slice_get (take n xs) i ≡ Some f) ⊎ ((i ≡ length (take n xs)) × (last ≡ f))
        → (slice_get (take n xs) j ≡ Some f) ⊎ ((j ≡ length (take n xs)) × (last ≡ f)) → i ≡ j
    go (inl front) (inl other) = once i j f front other
    go (inl front) (inr (e, same)) = absurd (beyond i front same)
    go (inr (e, same)) (inl other) = absurd (beyond j other same)
    go (inr (e, same)) (inr (d, also)) = e ∙ sym d

pub once_all : (xs : List ℕ) (n : ℕ) → length xs ≤ n → AllOnce (take n xs) → AllOnce xs
once_all xs n past once = subst AllOnce (take_all n xs past) once
