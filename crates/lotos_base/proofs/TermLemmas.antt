-- Terms and argument lists: round trips, tests, and that identity of terms is a proposition.
use Rattle.std.proofs.Common.{◌≡◌, ℕ, zero, suc, List, [], ◌∷◌, refl, ap}
use Rattle.std.specs.Prelude.{slice_get}
use Rattle.lotos_base.specs.Term.{Term, Terms, no_terms, term_then, argument_list_of, list_of}
use Rattle.lotos_base.specs.Path.{argument_at}

pub list_of-terms_of : (ts : List Term) → list_of (argument_list_of ts) ≡ ts
list_of-terms_of [] = refl
list_of-terms_of (t ∷ ts) = ap (λ us. t ∷ us) (list_of-terms_of ts)

pub terms_of-list_of : (ts : Terms) → argument_list_of (list_of ts) ≡ ts
terms_of-list_of no_terms = refl
terms_of-list_of (term_then t ts) = ap (λ us. term_then t us) (terms_of-list_of ts)

-- an argument by its position is the member of the list at that position
pub argument_at-list_of : (k : ℕ) (ts : Terms) → argument_at k ts ≡ slice_get (list_of ts) k
argument_at-list_of k no_terms = refl
argument_at-list_of zero (term_then t ts) = refl
argument_at-list_of (suc k) (term_then t ts) = argument_at-list_of k ts
