-- Digests of terms whose last arguments are gone through by a loop.
use Rattle.std.proofs.Common.{Global, ◌≡◌, ◌<◌, ◌+◌, ℕ, List, length, get_or, take, ap, sym, ◌∙◌, arith, refl}
use Rattle.std.proofs.lemmas.List.{take_all}
use Rattle.std.specs.declared.rc.Rc.{Rc}
use Rattle.lotos_base.specs.Term.{Term as PlainTerm, Terms, no_terms, term_then}
use Rattle.lotos_base.proofs.Pieces.{take_member}
use Rattle.behaviour_tree.specs.Mixing.{mixed}
use Rattle.behaviour_tree.specs.TermDigests.{arguments_digest, digest_behind}
use Rattle.sort_terms.proofs.TermListLemmas.{terms_of-append, with_last}
use Rattle.sort_terms.specs.ProfiledTerm.{ProfiledTerms, all_bare}
use Rattle.sort_terms.specs.TermView.{all_profiled, term_of, bare_terms_of}
use Rattle.sort_terms.specs.declared.operations.Op.{Op}
use Rattle.sort_terms.specs.declared.terms.Term.{Term}
use Rattle.sort_terms.specs.declared.terms.Term.TheVariants.{Node}

last_argument : (before : ℕ) (ts : Terms) (t : PlainTerm)
    → arguments_digest before (with_last ts t) ≡ digest_behind (arguments_digest before ts) t
last_argument before no_terms t = refl
last_argument before (term_then u us) t = last_argument (digest_behind before u) us t

-- one argument more
pub one_more : (before : ℕ) (xs : List Term) (i : ℕ) (x : Term) → i < length xs → x ≡ get_or xs i x
    → arguments_digest before (bare_terms_of (take (i + 1) xs))
    ≡ digest_behind (arguments_digest before (bare_terms_of (take i xs))) (term_of x)
one_more before xs i x within is =
    ap (λ ys. arguments_digest before (bare_terms_of ys)) (take_member xs i x within is)
    ∙ ap (arguments_digest before) (terms_of-append (take i xs) x) ∙ last_argument before (bare_terms_of (take i xs)) (term_of x)

-- an operation, by its arguments
operation : (before op : ℕ) (t : Term) (profile : Rc Op Global) (arguments : ProfiledTerms) (items : List Term)
    → t ≡ Node op profile arguments → all_profiled items ≡ arguments
    → arguments_digest (mixed before op) (bare_terms_of items) ≡ digest_behind before (term_of t)
operation before op t profile arguments items is same =
    ap (λ ts. arguments_digest (mixed before op) (all_bare ts)) same ∙ ap (λ u. digest_behind before (term_of u)) (sym is)

-- an operation, by its last argument
pub by_last : (before op : ℕ) (t : Term) (profile : Rc Op Global) (arguments : ProfiledTerms) (items : List Term) (last : ℕ) (x : Term)
    → t ≡ Node op profile arguments → all_profiled items ≡ arguments → last + 1 ≡ length items → x ≡ get_or items last x
    → digest_behind (arguments_digest (mixed before op) (bare_terms_of (take last items))) (term_of x) ≡ digest_behind before (term_of t)
by_last before op t profile arguments items last x is same whole at =
    sym (one_more (mixed before op) items last x (omega (arith, whole)) at)
    ∙ ap (λ ys. arguments_digest (mixed before op) (bare_terms_of ys)) (take_all (last + 1) items (omega (arith, whole)))
    ∙ operation before op t profile arguments items is same
