-- The processes of a `where` as their callers see them, one declaration after another.
use Rattle.std.proofs.Common.{◌≡◌, ℕ, ◌+◌, List, ◌++◌, length, refl, ap, sym, ◌∙◌, subst, arith}
use Rattle.std.specs.Prelude.{Option}
use Rattle.std.proofs.lemmas.List.{append_assoc}
use Rattle.lotos_base.specs.Signature.{Signature}
use Rattle.syntax_trees.specs.WrittenDefinition.{WrittenHeading, WrittenInner, WrittenInners, inner_item, process, inner_then}
use Rattle.scope_parts.specs.Scope.{Callable}
use Rattle.scope_parts.specs.Numbering.{process_count}
use Rattle.scope_parts.specs.Sorts.{sorts_if}
use Rattle.scope_parts.specs.Definitions.{callable_of, callables}
use Rattle.static_scope.specs.OwnCallables.{own_callable}
use Rattle.static_scope.specs.Sizes.{BeginsAt, definition_sizes, sizes_of_all}
use Rattle.static_scope.proofs.SizeLemmas.{sized_one, begins_behind, begins_front}

own_first : (signature : Signature) (n : ℕ) (x : WrittenInner) (others : WrittenInners)
    → callables signature n (inner_then x others) ≡ own_callable signature n x ++ callables signature (n + process_count x) others
own_first signature n (inner_item item) others =
    let same : n ≡ n + 0 = omega arith in
    ap (λ (k : ℕ). callables signature k others) same
own_first signature n (process heading body inner) others = refl

-- one declaration more
pub own_next : (signature : Signature) (n m : ℕ) (x : WrittenInner) (others : WrittenInners) (made after whole : List Callable)
    → made ++ callables signature n (inner_then x others) ≡ whole → after ≡ made ++ own_callable signature n x → m ≡ n + process_count x
    → after ++ callables signature m others ≡ whole
own_next signature n m x others made after whole so_far are next =
    ap (λ (cs : List Callable). cs ++ callables signature m others) are
    ∙ ap (λ (k : ℕ). (made ++ own_callable signature n x) ++ callables signature k others) next
    ∙ append_assoc made (own_callable signature n x) (callables signature (n + process_count x) others)
    ∙ ap (λ (cs : List Callable). made ++ cs) (sym (own_first signature n x others)) ∙ so_far

pub sizes_next : (n m : ℕ) (x : WrittenInner) (others : WrittenInners) (sizes : List ℕ) → m ≡ n + process_count x
    → BeginsAt (sizes_of_all (inner_then x others)) n sizes → BeginsAt (sizes_of_all others) m sizes
sizes_next n m x others sizes next begins =
    let behind = begins_behind (definition_sizes x) (sizes_of_all others) n sizes begins in
    let here : m ≡ n + length (definition_sizes x) = next ∙ ap (λ (k : ℕ). n + k) (sym (sized_one x)) in
    subst (λ (k : ℕ). BeginsAt (sizes_of_all others) k sizes) (sym here) behind

pub sizes_first : (n : ℕ) (x : WrittenInner) (others : WrittenInners) (sizes : List ℕ)
    → BeginsAt (sizes_of_all (inner_then x others)) n sizes → BeginsAt (definition_sizes x) n sizes
sizes_first n x others sizes = begins_front (definition_sizes x) (sizes_of_all others) n sizes

pub callable_same : (signature : Signature) (n : ℕ) (heading : WrittenHeading) (name : List ℕ) (number gates : ℕ) (sorts : List (Option ℕ))
    → name ≡ heading.name → number ≡ n → gates ≡ length heading.gates → sorts ≡ sorts_if signature heading.parameters
    → record { name = name; number = number; gates = gates; sorts = sorts } ≡ callable_of signature n heading
callable_same signature n heading name number gates sorts called counted many are =
    ap (λ (x : List ℕ). record { name = x; number = number; gates = gates; sorts = sorts }) called
    ∙ ap (λ (x : ℕ). record { name = heading.name; number = x; gates = gates; sorts = sorts }) counted
    ∙ ap (λ (x : ℕ). record { name = heading.name; number = n; gates = x; sorts = sorts }) many
    ∙ ap (λ (x : List (Option ℕ)). record { name = heading.name; number = n; gates = length heading.gates; sorts = x }) are
