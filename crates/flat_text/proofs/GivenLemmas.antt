-- Names that are given one after another.
use Rattle.std.proofs.Common.{◌≡◌, ◌≤◌, ℕ, List, [], ◌∷◌, ◌++◌, None, Some, refl, ap, sym, ◌∙◌, subst, append_assoc}
use Rattle.std.proofs.lemmas.Option.{none-some}
use Rattle.lotos_base.specs.Names.{folded}
use Rattle.scope_parts.specs.Scope.{Binding, bound_to}
use Rattle.scope_parts.specs.BindingsView.{bindings_in}
use Rattle.flat_text.specs.GivenNames.{given_name, given_behind, given_names}
use Rattle.flat_text.specs.GivingView.{HaveGiven, HasGiven}
use Rattle.flat_text.specs.WritingView.{HasTheseNames}
use Rattle.flat_text.specs.declared.given_names.Giving.{Giving}
use Rattle.flat_text.proofs.TableLemmas.{no_names}

-- the names that were made, and those for the names that are left, are those for all
pub record AreGiven (giving : Giving) (made left all : List (List ℕ)) : Type 0 where
  earlier : List (List ℕ)
  taken : List (List ℕ)
  has : HasGiven giving earlier taken
  whole : made ++ given_behind earlier taken left ≡ given_names all

pub none_given : (known used : List Binding) (all : List (List ℕ)) → known ≡ [] → HasTheseNames used all → HaveGiven known used [] all
none_given [] used all e has = record {
  earlier_names = no_names;
  taken_names = has;
  low = λ name number found. absurd (none-some number found);
  tried = λ name number k found here there. absurd (none-some number found);
}
none_given (b ∷ known) used all e has = absurd (cc e)

pub given_first : (giving : Giving) (all : List (List ℕ)) → HasGiven giving [] all → AreGiven giving [] all all
given_first giving all has = record { earlier = []; taken = all; has = has; whole = refl }

-- the same, where the tables and the name are known by equations
pub have_same : (known next used more : List Binding) (earlier taken : List (List ℕ)) (given name : List ℕ)
    → next ≡ known → more ≡ used → given ≡ name
    → HaveGiven known used earlier (name ∷ taken) → HaveGiven next more earlier (given ∷ taken)
have_same known next used more earlier taken given name p q r has =
    subst (λ (k : List Binding). HaveGiven k more earlier (given ∷ taken)) (sym p)
    (subst (λ (u : List Binding). HaveGiven known u earlier (given ∷ taken)) (sym q)
    (subst (λ (g : List ℕ). HaveGiven known used earlier (g ∷ taken)) (sym r) has))

-- one more name is given
pub given_more : (giving next : Giving) (made left all : List (List ℕ)) (name given : List ℕ)
    → AreGiven giving made (name ∷ left) all
    → ((earlier taken : List (List ℕ)) → HasGiven giving earlier taken
    → (given ≡ given_name earlier taken name) × HasGiven next (name ∷ earlier) (given ∷ taken))
    → AreGiven next (made ++ given ∷ []) left all
given_more giving next made left all name given so_far step =
    let here : (given ≡ given_name so_far.earlier so_far.taken name) × HasGiven next (name ∷ so_far.earlier) (given ∷ so_far.taken) =
    step so_far.earlier so_far.taken so_far.has in
    record {
      earlier = name ∷ so_far.earlier;
      taken = given ∷ so_far.taken;
      has = here.1;
      whole =
          append_assoc made (given ∷ []) (given_behind (name ∷ so_far.earlier) (given ∷ so_far.taken) left)
          ∙ ap (λ (g : List ℕ). made ++ g ∷ given_behind (name ∷ so_far.earlier) (g ∷ so_far.taken) left) here.0
          ∙ so_far.whole;
    }

-- all names are given
pub given_all : (giving : Giving) (made left all : List (List ℕ)) → AreGiven giving made left all → left ≡ [] → made ≡ given_names all
given_all giving made [] all given e = sym (nothing_behind made) ∙ given.whole
  where
    nothing_behind : (xs : List (List ℕ)) → xs ++ [] ≡ xs
    nothing_behind [] = refl
    nothing_behind (x ∷ xs) = ap (λ (ys : List (List ℕ)). x ∷ ys) (nothing_behind xs)
given_all giving made (name ∷ left) all given e = absurd (cc e)
