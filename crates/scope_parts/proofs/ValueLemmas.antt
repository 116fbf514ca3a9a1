-- The actual values of a call, one by one.
use Rattle.std.proofs.Common.{◌≡◌, ℕ, zero, suc, ◌+◌, ◌<◌, ◌≤◌, List, [], ◌∷◌, ◌++◌, drop, get_or, length, refl, ap, sym, ◌∙◌, subst, arith, inl}
use Rattle.std.specs.Prelude.{Option, None, Some}
use Rattle.std.proofs.Math.ListN.{drop_of_length-le}
use Rattle.lotos_base.proofs.Pieces.{next_member}
use Rattle.lotos_base.specs.WrittenView.{written_term_of, written_terms_of}
use Rattle.lotos_base.specs.declared.written_terms.Written.{Written}
use Rattle.lotos_base.specs.Signature.{Signature}
use Rattle.lotos_base.specs.Term.{Term}
use Rattle.lotos_base.specs.Equation.{Variable}
use Rattle.scope_parts.specs.Resolution.{Resolution, resolved, faulty, put_in_front}
use Rattle.scope_parts.specs.FaultView.{FaultIs}
use Rattle.scope_parts.specs.Terms.{TermIs, ValuesAre}
use Rattle.scope_parts.specs.declared.scope_faults.ScopeFault.{ScopeFault}
use Rattle.scope_parts.proofs.AnswerLemmas.{prefixed, prefixed_one, prefixed_all, then_front, means_map}

split_at : {A : Type 0} (xs : List A) (i : ℕ) → i < length xs → (x : A) × (drop i xs ≡ x ∷ drop (i + 1) xs)
split_at [] i within = absurd (let no : ⊥ = omega (arith, within) in no)
split_at (x ∷ xs) zero within = (x, refl)
split_at (x ∷ xs) (suc i) within =
    let rest = split_at xs i (omega (arith, within)) in
    let more : suc (i + 1) ≡ suc i + 1 = omega arith in
    (rest.0, rest.1 ∙ ap (λ (n : ℕ). rest.0 ∷ drop n (x ∷ xs)) more)

-- what the values that are left come to makes what all come to
abbrev pub ValuesLead : Signature → List Variable → List (Option ℕ) → List Written → ℕ → List Term → Type 0
ValuesLead signature scope sorts texts i made =
    (o : Resolution (List Term)) → ValuesAre signature scope (drop i sorts) (written_terms_of (drop i texts)) o
    → ValuesAre signature scope sorts (written_terms_of texts) (prefixed made o)

-- a value whose sort is not there is left out
pub value_skipped : (signature : Signature) (scope : List Variable) (sorts : List (Option ℕ)) (texts : List Written) (i : ℕ)
    (sort : Option ℕ)
    (made : List Term) → i < length sorts → sort ≡ get_or sorts i sort → length texts ≡ length sorts → sort ≡ None
    → ValuesLead signature scope sorts texts i made → ValuesLead signature scope sorts texts (i + 1) made
value_skipped signature scope sorts texts i sort made within is counted none leads o later =
    let here : drop i sorts ≡ None ∷ drop (i + 1) sorts =
    next_member sorts i sort within is ∙ ap (λ (s : Option ℕ). s ∷ drop (i + 1) sorts) none in
    let there = split_at texts i (omega (arith, within, counted)) in
    leads o
    (subst (λ (ss : List (Option ℕ)). ValuesAre signature scope ss (written_terms_of (drop i texts)) o) (sym here)
    (subst (λ (ts : List Written). ValuesAre signature scope (None ∷ drop (i + 1) sorts) (written_terms_of ts) o) (sym there.1) later))

-- one value more
pub value_added : (signature : Signature) (scope : List Variable) (sorts : List (Option ℕ)) (texts : List Written) (i : ℕ) (sort : Option ℕ)
    (s : ℕ) (text : Written) (made after : List Term) (t : Term) → i < length sorts → sort ≡ get_or sorts i sort
    → length texts ≡ length sorts → sort ≡ Some s → text ≡ get_or texts i text
    → ValuesLead signature scope sorts texts i made → TermIs signature scope (written_term_of text) (Some s) (resolved t)
    → after ≡ made ++ t ∷ [] → ValuesLead signature scope sorts texts (i + 1) after
value_added signature scope sorts texts i sort s text made after t within is counted some stands leads first are o later =
    let here : drop i sorts ≡ Some s ∷ drop (i + 1) sorts =
    next_member sorts i sort within is ∙ ap (λ (x : Option ℕ). x ∷ drop (i + 1) sorts) some in
    let there : drop i texts ≡ text ∷ drop (i + 1) texts = next_member texts i text (omega (arith, within, counted)) stands in
    subst (λ (ts : List Term). ValuesAre signature scope sorts (written_terms_of texts) (prefixed ts o)) (sym are)
    (subst (ValuesAre signature scope sorts (written_terms_of texts)) (prefixed_one made t o)
    (leads (put_in_front t o)
    (subst (λ (ss : List (Option ℕ)). ValuesAre signature scope ss (written_terms_of (drop i texts)) (put_in_front t o)) (sym here)
    (subst
    (λ (ts : List Written). ValuesAre signature scope (Some s ∷ drop (i + 1) sorts) (written_terms_of ts) (put_in_front t o))
    (sym there)
    (then_front (TermIs signature scope (written_term_of text) (Some s)) (λ x. x)
    (ValuesAre signature scope (drop (i + 1) sorts) (written_terms_of (drop (i + 1) texts))) t o first later)))))

-- a fault in the next value
pub value_faulty : (signature : Signature) (scope : List Variable) (sorts : List (Option ℕ)) (texts : List Written) (i : ℕ)
    (sort : Option ℕ)
    (s : ℕ) (text : Written) (made : List Term) (fault : ScopeFault) → i < length sorts → sort ≡ get_or sorts i sort
    → length texts ≡ length sorts → sort ≡ Some s → text ≡ get_or texts i text
    → ValuesLead signature scope sorts texts i made → FaultIs fault (λ f. TermIs signature scope (written_term_of text) (Some s) (faulty f))
    → FaultIs fault (λ f. ValuesAre signature scope sorts (written_terms_of texts) (faulty f))
value_faulty signature scope sorts texts i sort s text made fault within is counted some stands leads =
    let here : drop i sorts ≡ Some s ∷ drop (i + 1) sorts =
    next_member sorts i sort within is ∙ ap (λ (x : Option ℕ). x ∷ drop (i + 1) sorts) some in
    let there : drop i texts ≡ text ∷ drop (i + 1) texts = next_member texts i text (omega (arith, within, counted)) stands in
    means_map fault (λ f. TermIs signature scope (written_term_of text) (Some s) (faulty f))
    (λ f. ValuesAre signature scope sorts (written_terms_of texts) (faulty f))
    (λ f first. leads (faulty f)
    (subst (λ (ss : List (Option ℕ)). ValuesAre signature scope ss (written_terms_of (drop i texts)) (faulty f)) (sym here)
    (subst (λ (ts : List Written). ValuesAre signature scope (Some s ∷ drop (i + 1) sorts) (written_terms_of ts) (faulty f))
    (sym there) (inl first))))

-- no value is left
pub values_end : (signature : Signature) (scope : List Variable) (sorts : List (Option ℕ)) (texts : List Written) (i : ℕ) (made : List Term)
    → length sorts ≤ i → ValuesLead signature scope sorts texts i made
    → ValuesAre signature scope sorts (written_terms_of texts) (resolved made)
values_end signature scope sorts texts i made past leads =
    subst (ValuesAre signature scope sorts (written_terms_of texts)) (prefixed_all made)
    (leads (resolved [])
    (subst (λ (ss : List (Option ℕ)). ValuesAre signature scope ss (written_terms_of (drop i texts)) (resolved []))
    (sym (drop_of_length-le sorts past)) refl))
