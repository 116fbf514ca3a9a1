-- Where each list has each term once, the order of tuples is strict.
use Rattle.std.proofs.Common.{◌≡◌, ℕ, ◌<◌, List, [], ◌∷◌, sym, ◌∙◌, subst, inl, inr, arith}
use Rattle.lotos_base.specs.Term.{Term}
use Rattle.value_lists.specs.Tuples.{TermStandsBefore, TupleBefore, HasEachOnce, AllHaveEachOnce}

pub not_before_itself : (choices : List (List Term)) (ts : List Term) → AllHaveEachOnce choices → TupleBefore choices ts ts → ⊥
not_before_itself [] ts once h = h
not_before_itself (choice ∷ choices) [] once h = h
not_before_itself (choice ∷ choices) (t ∷ ts) once (inl (i, j, before, first, second)) =
    let same : i ≡ j = once.0 i j t first second in omega (arith, before, same)
not_before_itself (choice ∷ choices) (t ∷ ts) once (inr (same, h)) = not_before_itself choices ts once.1 h

stands_then : (choice : List Term) (t u v : Term) → HasEachOnce choice → TermStandsBefore choice t u → TermStandsBefore choice u v
    → TermStandsBefore choice t v
stands_then choice t u v once (i, j, before, first, second) (k, l, after, third, fourth) =
    let same : j ≡ k = once j k u second third in (i, l, omega (arith, before, after, same), first, fourth)

pub before_then : (choices : List (List Term)) (ts us vs : List Term) → AllHaveEachOnce choices → TupleBefore choices ts us
    → TupleBefore choices us vs → TupleBefore choices ts vs
before_then [] ts us vs once h k = h
before_then (choice ∷ choices) [] us vs once h k = h
before_then (choice ∷ choices) (t ∷ ts) [] vs once h k = absurd h
before_then (choice ∷ choices) (t ∷ ts) (u ∷ us) [] once h k = absurd k
before_then (choice ∷ choices) (t ∷ ts) (u ∷ us) (v ∷ vs) once (inl one) (inl other) = inl (stands_then choice t u v once.0 one other)
before_then (choice ∷ choices) (t ∷ ts) (u ∷ us) (v ∷ vs) once (inl one) (inr (same, k)) =
    inl (subst (λ (w : Term). TermStandsBefore choice t w) same one)
before_then (choice ∷ choices) (t ∷ ts) (u ∷ us) (v ∷ vs) once (inr (same, h)) (inl other) =
    inl (subst (λ (w : Term). TermStandsBefore choice w v) (sym same) other)
before_then (choice ∷ choices) (t ∷ ts) (u ∷ us) (v ∷ vs) once (inr (same, h)) (inr (next, k)) =
    inr (same ∙ next, before_then choices ts us vs once.1 h k)
