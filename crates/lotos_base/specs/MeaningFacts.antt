-- Where a reading of terms in numbers meets the equations of the data, having the same meaning is a congruence.
use Rattle.std.specs.Prelude.{◌≡◌, ℕ, zero, suc, List, [], ◌∷◌, Option, None, Some}
use Rattle.std.specs.Option.{option_map, option_and_then}
use Rattle.std.proofs.Common.{refl, sym, ◌∙◌, ap}
use Rattle.std.proofs.lemmas.Option.{same_Some, none-some}
use Rattle.lotos_base.specs.Term.{Term, variable, node, Terms, no_terms, term_then}
use Rattle.lotos_base.specs.Path.{argument_at, with_argument, put_at}
use Rattle.lotos_base.specs.Equation.{Data}
use Rattle.lotos_base.specs.EqualityLaws.{IsCongruence}
use Rattle.lotos_base.specs.Meaning.{interpretation, meanings, MeetsEquations}

-- arguments that mean the same, put at one position
meanings-with_argument : (operate : ℕ → List ℕ → ℕ) (k : ℕ) (t u : Term) (ts : Terms)
    → interpretation operate t ≡ interpretation operate u
    → meanings operate (with_argument k t ts) ≡ meanings operate (with_argument k u ts)
meanings-with_argument operate k t u no_terms e = refl
meanings-with_argument operate zero t u (term_then v ts) e = ap (λ (m : ℕ). m ∷ meanings operate ts) e
meanings-with_argument operate (suc k) t u (term_then v ts) e =
    ap (λ ms. interpretation operate v ∷ ms) (meanings-with_argument operate k t u ts e)

-- the number that the whole means with the part put at the path, if the path leads to a subterm
abbrev meaning_with : (ℕ → List ℕ → ℕ) → List ℕ → Term → Term → Option ℕ
meaning_with operate path part whole = option_map (interpretation operate) (put_at path part whole)

-- the number that an operation means with the argument at the position, if there is one, put among the others
abbrev meaning_under : (ℕ → List ℕ → ℕ) → ℕ → ℕ → Terms → Option Term → Option ℕ
meaning_under operate k f ts o = option_map (interpretation operate) (option_map (λ t. node f (with_argument k t ts)) o)

meaning_under_same : (operate : ℕ → List ℕ → ℕ) (k f : ℕ) (ts : Terms) (o p : Option Term)
    → option_map (interpretation operate) o ≡ option_map (interpretation operate) p
    → meaning_under operate k f ts o ≡ meaning_under operate k f ts p
meaning_under_same operate k f ts None None e = refl
meaning_under_same operate k f ts None (Some u) e = absurd (none-some _ e)
meaning_under_same operate k f ts (Some t) None e = absurd (none-some _ (sym e))
meaning_under_same operate k f ts (Some t) (Some u) e =
    ap (λ ms. Some (operate f ms)) (meanings-with_argument operate k t u ts (same_Some _ _ e))

-- parts that mean the same, put at one path, give wholes that mean the same
meaning_with_same : (operate : ℕ → List ℕ → ℕ) (path : List ℕ) (t u whole : Term)
    → interpretation operate t ≡ interpretation operate u → meaning_with operate path t whole ≡ meaning_with operate path u whole
meaning_with_same operate [] t u whole e = ap (λ (m : ℕ). Some m) e
meaning_with_same operate (k ∷ path) t u (variable n s) e = refl
meaning_with_same operate (k ∷ path) t u (node f ts) e =
    go (argument_at k ts) (λ a. meaning_with_same operate path t u a e)
  where
    go : (o : Option Term) → ((a : Term) → meaning_with operate path t a ≡ meaning_with operate path u a)
        → meaning_under operate k f ts (option_and_then (λ a. put_at path t a) o)
        ≡ meaning_under operate k f ts (option_and_then (λ a. put_at path u a) o)
    go None below = refl
    go (Some a) below = meaning_under_same operate k f ts (put_at path t a) (put_at path u a) (below a)

-- having the same meaning is a congruence where the reading meets the equations
pub meaning_is_congruence : (data_ : Data) (operate : ℕ → List ℕ → ℕ) → MeetsEquations data_ operate
    → IsCongruence data_ (λ t. Unit {0}) (λ t u. interpretation operate t ≡ interpretation operate u)
meaning_is_congruence data_ operate meets = record {
  closed = λ t u h l. tt;
  reflexive = λ t h. refl;
  symmetric = λ t u h k e. sym e;
  transitive = λ t u v h k g e d. e ∙ d;
  inside = λ path t u whole before after h k e g d.
      same_Some _ _
      (sym (ap (λ o. option_map (interpretation operate) o) g)
      ∙ meaning_with_same operate path t u whole e
      ∙ ap (λ o. option_map (interpretation operate) o) d);
  equations = meets;
}
