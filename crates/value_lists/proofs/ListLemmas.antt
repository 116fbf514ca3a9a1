-- Lists in order are one where they list the same terms, and have each once.
use Rattle.std.proofs.Common.{◌≡◌, ℕ, zero, suc, ◌<◌, ◌≤◌, List, [], ◌∷◌, length, get_or, refl, ap, sym, ◌∙◌, subst, inl, inr, arith}
use Rattle.std.specs.Prelude.{◌⊎◌, Some, slice_get}
use Rattle.std.proofs.lemmas.Option.{same_Some, slice_get_within}
use Rattle.lotos_base.specs.Signature.{Signature}
use Rattle.lotos_base.specs.Term.{Term}
use Rattle.lotos_base.proofs.Numbers.{compared}
use Rattle.value_lists.specs.TermOrder.{ComesBefore}
use Rattle.value_lists.specs.Tuples.{HasEachOnce}
use Rattle.value_lists.specs.ValueList.{ListsInOrder, IsWholeList, HasMoreValues, HasUpToValues}
use Rattle.value_lists.proofs.OrderLemmas.{not_before_itself, before_then}
use Rattle.value_lists.proofs.RisingLists.{one_list, pairs_rise, among_contains, contains_among}

pub listed_once : {Wanted : Term → Type 0} {terms others : List Term} → ListsInOrder Wanted terms → ListsInOrder Wanted others
    → terms ≡ others
listed_once {terms = terms} {others = others} one other =
    one_list ComesBefore not_before_itself before_then terms others
    (pairs_rise ComesBefore terms one.rising) (pairs_rise ComesBefore others other.rising)
    (λ t h. contains_among others t ((other.exactly t).1 ((one.exactly t).0 (among_contains terms t h))))
    (λ t h. contains_among terms t ((one.exactly t).1 ((other.exactly t).0 (among_contains others t h))))

pub not_more_and_few : (signature : Signature) (Irreducible : Term → Type 0) (limit number : ℕ)
    → HasMoreValues signature Irreducible limit number → HasUpToValues signature Irreducible limit number → ⊥
not_more_and_few signature Irreducible limit number more few =
    let same : length more.0 ≡ length few.0 = ap length (listed_once more.1 few.1) in
    let large = more.2 in
    let small = few.2 in
    omega (arith, same, large, small)

read_some : (xs : List Term) (i : ℕ) (t d : Term) → slice_get xs i ≡ Some t → get_or xs i d ≡ t
read_some [] i t d is = absurd (cc is)
read_some (x ∷ xs) zero t d is = same_Some x t is
read_some (x ∷ xs) (suc i) t d is = read_some xs i t d is

-- a term at two places would come before itself
twice : {Wanted : Term → Type 0} {terms : List Term} → ListsInOrder Wanted terms → (i j : ℕ) (t : Term) → i < j
    → slice_get terms i ≡ Some t → slice_get terms j ≡ Some t → ⊥
twice {terms = terms} lists i j t before first second =
    not_before_itself t
    (subst (λ (u : Term). ComesBefore u t) (read_some terms i t t first)
    (subst (λ (u : Term). ComesBefore (get_or terms i t) u) (read_some terms j t t second)
    (lists.rising i j t before (slice_get_within terms j t second))))

pub has_each_once : {Wanted : Term → Type 0} {terms : List Term} → ListsInOrder Wanted terms → HasEachOnce terms
has_each_once {Wanted = Wanted} {terms = terms} lists = λ i j t first second. go i j t first second (compared i j)
  where
    go : (i j : ℕ) (t : Term) → slice_get terms i ≡ Some t → slice_get terms j ≡ Some t → (i < j) ⊎ ((i ≡ j) ⊎ (j < i)) → i ≡ j
    go i j t first second (inl less) = absurd (twice lists i j t less first second)
    go i j t first second (inr (inl same)) = same
    go i j t first second (inr (inr more)) = absurd (twice lists j i t more second first)
