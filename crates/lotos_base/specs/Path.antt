-- Paths in terms. A path lists argument positions, counted from 0, from the root down (Baader and Nipkow, 3.1).
use Rattle.std.specs.Prelude.{◌≡◌, ◌≢◌, ◌⊎◌, ℕ, zero, suc, List, [], ◌∷◌, Option, None, Some}
use Rattle.std.specs.Option.{option_map, option_and_then}
use Rattle.lotos_base.specs.Term.{Term, variable, node, Terms, no_terms, term_then}

-- The argument at a position, if there is one.
abbrev pub argument_at : ℕ → Terms → Option Term
argument_at k no_terms = None
argument_at zero (term_then t ts) = Some t
argument_at (suc k) (term_then t ts) = argument_at k ts

-- The arguments with the one at a position replaced; where there is none, the arguments as they are.
abbrev pub with_argument : ℕ → Term → Terms → Terms
with_argument k part no_terms = no_terms
with_argument zero part (term_then t ts) = term_then part ts
with_argument (suc k) part (term_then t ts) = term_then t (with_argument k part ts)

-- The subterm that a path names, if the path leads to one.
abbrev pub subterm : List ℕ → Term → Option Term
subterm [] t = Some t
subterm (k ∷ path) (variable n s) = None
subterm (k ∷ path) (node f ts) = option_and_then (λ t. subterm path t) (argument_at k ts)

-- The term with a part put at a path and all else left, if the path leads to a subterm.
abbrev pub put_at : List ℕ → Term → Term → Option Term
put_at [] part t = Some part
put_at (k ∷ path) part (variable n s) = None
put_at (k ∷ path) part (node f ts) =
    option_map (λ t. node f (with_argument k t ts)) (option_and_then (λ t. put_at path part t) (argument_at k ts))

-- Two paths are parallel: they part at some argument, so neither leads below the other.
abbrev pub AreParallel : List ℕ → List ℕ → Type 0
AreParallel [] q = ⊥
AreParallel (j ∷ p) [] = ⊥
AreParallel (j ∷ p) (k ∷ q) = (j ≢ k) ⊎ ((j ≡ k) × AreParallel p q)
