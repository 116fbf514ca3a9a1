-- Terms that are copied one after another.
use Rattle.std.proofs.Common.{Global, refl, ap, sym, ◌∙◌, ◌≡◌, ℕ, suc, List, [], ◌∷◌, ◌++◌, length, map, take, drop}
use Rattle.std.specs.declared.rc.Rc.{Rc}
use Rattle.std.proofs.Math.Seq.{take-append_seam}
use Rattle.sort_terms.specs.MadeTerms.{before, made_of}
use Rattle.sort_terms.specs.Operations.{operation_of}
use Rattle.sort_terms.specs.ProfiledTerm.{ProfiledTerm, profiled_node}
use Rattle.sort_terms.specs.TermView.{profiled_of, profiled_terms}
use Rattle.sort_terms.specs.declared.operations.Op.{Op}
use Rattle.sort_terms.specs.declared.terms.Term.{Term}

-- ---- Terms made last come first.

before_last : (ts : List Term) (t : Term) (others : List ProfiledTerm) → before (ts ++ t ∷ []) others ≡ profiled_of t ∷ before ts others
before_last [] t others = refl
before_last (first ∷ ts) t others = before_last ts t (profiled_of first ∷ others)

pub made_more : (more ts : List Term) (t : Term) → more ≡ ts ++ t ∷ [] → made_of more ≡ profiled_of t ∷ made_of ts
made_more more ts t is = ap made_of is ∙ before_last ts t []

-- so many of them, and one more
pub taken_more : (old now next : List Term) (taken more : List Term) (t : Term)
    → made_of old ≡ map profiled_of taken ++ made_of now → now ≡ next ++ t ∷ [] → more ≡ taken ++ t ∷ []
    → made_of old ≡ map profiled_of more ++ made_of next
taken_more old now next taken more t was is grown =
    was ∙ ap (λ ts. map profiled_of taken ++ ts) (made_more now next t is) ∙ moved taken
    ∙ ap (λ ts. map profiled_of ts ++ made_of next) (sym grown)
  where
    moved : (ts : List Term) → map profiled_of ts ++ profiled_of t ∷ made_of next ≡ map profiled_of (ts ++ t ∷ []) ++ made_of next
    moved [] = refl
    moved (first ∷ ts) = ap (λ rest. profiled_of first ∷ rest) (moved ts)

-- ---- An operation.

behind : {X : Type 0} (xs rest : List X) → drop (length xs) (xs ++ rest) ≡ rest
behind [] rest = refl
behind (x ∷ xs) rest = behind xs rest

as_many : (ts : List Term) → length (map profiled_of ts) ≡ length ts
as_many [] = refl
as_many (t ∷ ts) = ap (λ n. suc n) (as_many ts)

-- its arguments and then itself
pub head_copied : (op count : ℕ) (profile : Rc Op Global) (ts : List Term) (made : List ProfiledTerm) → count ≡ length ts
    → profiled_node op (operation_of profile.value) (profiled_terms (take count (map profiled_of ts ++ made)))
    ∷ drop count (map profiled_of ts ++ made)
    ≡ profiled_node op (operation_of profile.value) (profiled_terms (map profiled_of ts)) ∷ made
head_copied op count profile ts made many =
    let e : count ≡ length (map profiled_of ts) = many ∙ sym (as_many ts) in
    ap (λ n. profiled_node op (operation_of profile.value) (profiled_terms (take n (map profiled_of ts ++ made)))
    ∷ drop n (map profiled_of ts ++ made)) e
    ∙ ap (λ us. profiled_node op (operation_of profile.value) (profiled_terms us)
    ∷ drop (length (map profiled_of ts)) (map profiled_of ts ++ made)) (take-append_seam (map profiled_of ts) made)
    ∙ ap (λ us. profiled_node op (operation_of profile.value) (profiled_terms (map profiled_of ts)) ∷ us) (behind (map profiled_of ts) made)
