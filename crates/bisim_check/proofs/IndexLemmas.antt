-- Numbers of pairs in buckets.
use Rattle.std.proofs.Common.{◌≡◌, ◌<◌, ◌+◌, ◌%◌, ◌⊎◌, inl, inr, ℕ, List, [], ◌∷◌, ◌++◌, Bool, true, false, nat_eq, if◌then◌else◌, length, Some, slice_get, refl, ap, sym, ◌∙◌, subst, arith}
use Rattle.std.proofs.Math.Nat.{eq-or-lt_of_le}
use Rattle.std.proofs.lemmas.Bool.Decides.{nat_tests}
use Rattle.std.proofs.lemmas.Nat.{mod_below}
use Rattle.std.specs.Prelude.{Result, Ok, Err, OnOk}
use Rattle.lotos_base.proofs.Members.{at_front}
use Rattle.behaviour_semantics.proofs.OptionLemmas.{some_value}
use Rattle.behaviour_semantics.specs.Behaviour.{Behaviour}
use Rattle.behaviour_tree.specs.StateView.{stands_for, state_of}
use Rattle.behaviour_tree.specs.declared.states.Node.{Node}
use Rattle.behaviour_tree.specs.declared.states.State.{State}
use Rattle.behaviour_tree.specs.Digests.{digest}
use Rattle.behaviour_tree.specs.Mixing.{mixed}
use Rattle.certificate_theory.specs.Certificate.{ListedPair, AreListed}
use Rattle.path_order.specs.HeadIndexView.{numbers_at}
use Rattle.path_order.specs.declared.head_index.HeadIndex.{HeadIndex}
use Rattle.bisim_check.specs.PairIndex.{bucket_of, AddsNumber, IsFiled, PairStandsAt, IsPairIndex}
use Rattle.bisim_check.proofs.AnswerLemmas.{place_within}

last_there : (xs : List ℕ) (n : ℕ) → slice_get (xs ++ (n ∷ [])) (length xs) ≡ Some n
last_there [] n = refl
last_there (x ∷ xs) n = last_there xs n

same_number : (n : ℕ) → nat_eq n n ≡ true
same_number n = grind (arith, nat_tests)

-- a number that is added is there, and those that were there stay
just_filed : (xs : List ℕ) (n : ℕ) (b : Bool) → b ≡ true → IsFiled n (xs ++ (if b then n ∷ [] else []))
just_filed xs n true e = record { position = length xs; there = last_there xs n }
just_filed xs n false e = absurd (cc e)

pub index_more : (pairs : List ListedPair) (number : ℕ) (pair : ListedPair) (before after : HeadIndex)
    → slice_get pairs number ≡ Some pair → AddsNumber pair number before after
    → ((k : ℕ) (other : ListedPair) → k < number → slice_get pairs k ≡ Some other
    → IsFiled k (numbers_at before (bucket_of other.left other.right)))
    → (k : ℕ) (other : ListedPair) → k < number + 1 → slice_get pairs k ≡ Some other
    → IsFiled k (numbers_at after (bucket_of other.left other.right))
index_more pairs number pair before after there adds earlier k other below at =
    by (eq-or-lt_of_le {n = k} {m = number} (omega (arith, below)))
  where
    key : ℕ
    key = bucket_of other.left other.right

    more : List ℕ
    more = if nat_eq (bucket_of pair.left pair.right) key then number ∷ [] else []

    by : (k ≡ number) ⊎ (k < number) → IsFiled k (numbers_at after key)
    by (inl same) =
        let one : pair ≡ other = some_value (sym there ∙ (ap (slice_get pairs) (sym same) ∙ at)) in
        let keys : nat_eq (bucket_of pair.left pair.right) key ≡ true =
        ap (λ (it : ListedPair). nat_eq (bucket_of it.left it.right) key) one ∙ same_number key in
        subst (λ (n : ℕ). IsFiled n (numbers_at after key)) (sym same)
        (subst (IsFiled number) (sym (adds key)) (just_filed (numbers_at before key) number
        (nat_eq (bucket_of pair.left pair.right) key) keys))
    by (inr less) =
        let h : IsFiled k (numbers_at before key) = earlier k other less at in
        subst (IsFiled k) (sym (adds key))
        (record { position = h.position; there = at_front (numbers_at before key) more h.position k h.there })

-- listed states are those of a pair in their bucket
pub found_filed : (pairs : List ListedPair) (index : HeadIndex) (b c : Behaviour) → IsPairIndex pairs index → (h : AreListed pairs b c)
    → IsFiled h.place (numbers_at index (bucket_of b c))
found_filed pairs index b c filed h =
    subst (λ (it : Behaviour). IsFiled h.place (numbers_at index (bucket_of b it))) h.right
    (subst (λ (it : Behaviour). IsFiled h.place (numbers_at index (bucket_of it h.pair.right))) h.left
    (filed h.place h.pair h.there))

pub none_filed : (pairs : List ListedPair) (index : HeadIndex) (b c : Behaviour) (numbers : List ℕ)
    → numbers ≡ numbers_at index (bucket_of b c) → IsPairIndex pairs index
    → ((k n : ℕ) → k < length numbers → slice_get numbers k ≡ Some n → PairStandsAt pairs b c n → ⊥) → AreListed pairs b c → ⊥
none_filed pairs index b c numbers is filed none h =
    let there : IsFiled h.place numbers = subst (IsFiled h.place) (sym is) (found_filed pairs index b c filed h) in
    none there.position h.place (place_within numbers there.position h.place there.there) there.there
    (record { pair = h.pair; there = h.there; left = h.left; right = h.right })

-- the bucket that is made of the digests of two states
pub bucket_told : (m d e : ℕ) (one other : Node) (left right : State) → one ≡ left.node → other ≡ right.node
    → d ≡ digest (stands_for one) → e ≡ digest (stands_for other) → m ≡ mixed d e
    → m % 65536 ≡ bucket_of (state_of left) (state_of right)
bucket_told m d e one other left right p q here there made =
    let first : d ≡ digest (state_of left) = here ∙ ap (λ (n : Node). digest (stands_for n)) p in
    let second : e ≡ digest (state_of right) = there ∙ ap (λ (n : Node). digest (stands_for n)) q in
    let both : m ≡ mixed (digest (state_of left)) (digest (state_of right)) = made ∙ (λ i. mixed (first i) (second i)) in
    ap (λ (n : ℕ). n % 65536) both

-- the bucket of two states is one of the index
pub within_room : (r n : ℕ) (b c : Behaviour) → r ≡ bucket_of b c → n ≡ 65536 → r < n
within_room r n b c is room = omega (arith, is, room, mod_below (mixed (digest b) (digest c)) 65536 (omega arith))

-- a number that is added under the bucket of a pair
pub adds_told : {T E : Type 0} (r : Result T E) (pair : ListedPair) (number key : ℕ) (before after : HeadIndex)
    → key ≡ bucket_of pair.left pair.right
    → OnOk r ((f : ℕ) → numbers_at after f ≡ numbers_at before f ++ (if nat_eq key f then number ∷ [] else []))
    → OnOk r (AddsNumber pair number before after)
adds_told (Ok x) pair number key before after is h = λ f.
    h f ∙ ap (λ (k : ℕ). numbers_at before f ++ (if nat_eq k f then number ∷ [] else [])) is
adds_told (Err e) pair number key before after is h = tt
