-- How many variables and operations lists of terms have.
use Rattle.std.proofs.Common.{Global, Bool, true, nat_eq, ◌≡◌, ℕ, zero, suc, ◌+◌, ◌*◌, ◌<◌, ◌≤◌, List, [], ◌∷◌, ◌++◌, length, get_or, slice_set, refl, ap, sym, ◌∙◌, arith}
use Rattle.std.specs.declared.rc.Rc.{Rc}
use Rattle.sort_terms.specs.ProfiledTerm.{ProfiledTerms, profiled_term_then, ProfiledTerm, profiled_variable, profiled_node}
use Rattle.sort_terms.specs.TermView.{profiled_of, all_profiled}
use Rattle.sort_terms.specs.TermSize.{profiled_size, profiled_sizes, size_of, sizes_of}
use Rattle.sort_terms.specs.declared.operations.Op.{Op}
use Rattle.sort_terms.specs.declared.terms.Term.{Term}
use Rattle.sort_terms.specs.declared.terms.Term.TheVariants.{Node, Var, the_data}
use Rattle.sort_terms.specs.declared.terms.Arguments.TheDeep.{deep-Term, size-Term}
use denote.Param.Weighed.{most, w_this}
use Rattle.sort_terms.proofs.BuiltLists.{profiled_Node}

sizes_append : (ts : List Term) (last : Term) → sizes_of (ts ++ last ∷ []) ≡ sizes_of ts + size_of last
sizes_append [] last = omega arith
sizes_append (t ∷ ts) last = let e = sizes_append ts last in omega arith

-- a list whose last member is taken
pub sizes_popped : (ts popped : List Term) (last : Term) → ts ≡ popped ++ last ∷ [] → sizes_of ts ≡ sizes_of popped + size_of last
sizes_popped ts popped last is = ap sizes_of is ∙ sizes_append popped last

-- an operation on arguments
pub size_node : (t : Term) (op : ℕ) (profile : Rc Op Global) (arguments : ProfiledTerms) → t ≡ Node op profile arguments
    → size_of t ≡ 1 + profiled_sizes arguments
size_node t op profile arguments is =
    let one : suc (profiled_sizes arguments) ≡ 1 + profiled_sizes arguments = omega arith in
    ap size_of is ∙ ap profiled_size (profiled_Node op profile arguments) ∙ one

-- a first argument that is exchanged for an operation on other terms
pub sizes_exchanged : (ts : List Term) (op : ℕ) (profile : Rc Op Global) (others : ProfiledTerms) (next now other : Term)
    → ¬ (0 ≡ length ts) → next ≡ now → now ≡ get_or ts 0 now → other ≡ Node op profile others
    → (size_of next < 1 + sizes_of ts) × (size_of next + sizes_of (slice_set ts 0 other) ≡ 1 + sizes_of ts + profiled_sizes others)
sizes_exchanged [] op profile others next now other some same first is = absurd (some refl)
sizes_exchanged (t ∷ ts) op profile others next now other some same first is =
    let taken : size_of next ≡ size_of t = ap size_of (same ∙ first) in
    let whole : size_of other ≡ 1 + profiled_sizes others = size_node other op profile others is in
    (omega arith, omega arith)

-- whether a list has members, by its length
pub no_members : {X : Type 0} (xs : List X) (number : ℕ) (result : Bool) → number ≡ length xs → result ≡ nat_eq number 0 → result ≡ true
    → xs ≡ []
no_members [] number result n r e = refl
no_members (x ∷ xs) number result n r e =
    let computed : nat_eq (length (x ∷ xs)) 0 ≡ true = ap (λ k. nat_eq k 0) (sym n) ∙ sym r ∙ e in grind arith

-- two lists that stand for the same arguments
pub as_many : (xs ys : List Term) → all_profiled xs ≡ all_profiled ys → length xs ≡ length ys
as_many [] [] same = refl
as_many [] (y ∷ ys) same = cc
as_many (x ∷ xs) [] same = cc
as_many (x ∷ xs) (y ∷ ys) same = ap (λ (n : ℕ). suc n) (as_many xs ys (tail_same same))
  where
    tail_same : profiled_term_then (profiled_of x) (all_profiled xs) ≡ profiled_term_then (profiled_of y) (all_profiled ys)
        → all_profiled xs ≡ all_profiled ys
    tail_same same = cc

-- a term with these arguments, and a term of a list
pub size_above : (t : Term) (op : ℕ) (profile : Rc Op Global) (arguments : ProfiledTerms) (items : List Term)
    → t ≡ Node op profile arguments → all_profiled items ≡ arguments → size_of t ≡ 1 + sizes_of items
size_above t op profile arguments items is same = size_node t op profile arguments is ∙ ap (λ ts. 1 + profiled_sizes ts) (sym same)

pub size_within : (ts : List Term) (i : ℕ) (t : Term) → i < length ts → t ≡ get_or ts i t → size_of t ≤ sizes_of ts
size_within [] i t within is = omega (arith, within)
size_within (u ∷ ts) zero t within is = let e = ap size_of is in omega (arith, e)
size_within (u ∷ ts) (suc i) t within is = let e = size_within ts i t (omega (arith, within)) is in omega (arith, e)

-- what is let go is no deeper than it is large, as the compiler measures what is dropped
one_below : (t : Term) → deep-Term t ≤ size_of t
one_below (Var n s) = omega arith
one_below (Node f profile arguments) = omega arith

weighed : (t : Term) → (w_this).weight the_data size-Term t ≡ 2 * deep-Term t + 1
weighed t = refl

pub dropped_below : (ts : List Term) → most ((w_this).weight the_data size-Term) ts ≤ 2 * sizes_of ts + 1
dropped_below [] = omega arith
dropped_below (t ∷ ts) = omega (arith, dropped_below ts, weighed t, one_below t)

-- a term has a variable or an operation
pub some_profiled_size : (t : ProfiledTerm) → 0 < profiled_size t
some_profiled_size (profiled_variable n s) = omega arith
some_profiled_size (profiled_node f o ts) = omega arith

pub size_some : (t : Term) → 0 < size_of t
size_some t = some_profiled_size (profiled_of t)
