-- Canons decide equality and pass through instances. Without equations equality is identity, and identity is a canon.
use Rattle.std.proofs.Common.{◌≡◌, ℕ, List, [], refl, ap, sym, ◌∙◌, subst}
use Rattle.std.specs.Prelude.{Some, slice_get}
use Rattle.std.proofs.lemmas.Option.{none-some}
use Rattle.lotos_base.specs.Signature.{Signature}
use Rattle.lotos_base.specs.Term.{Term, variable}
use Rattle.lotos_base.specs.Sorting.{HasSort, IsTermOf, IsGround, IsGroundOf}
use Rattle.lotos_base.specs.Substitution.{Substitution, substituted, renaming, KeepsSorts, IsGrounding}
use Rattle.lotos_base.specs.Equation.{Equation, Data}
use Rattle.lotos_base.specs.Equality.{Link, Equal, same_term, link_then}
use Rattle.lotos_base.specs.Canon.{KeepsApart, IsCanon}
use Rattle.lotos_base.specs.CanonLaws.{HaveSameEquality}
use Rattle.lotos_base.proofs.SubstitutionLemmas.{substituted_variables, ground_no_variable, no_variable_ground, ground_instance}
use Rattle.lotos_base.proofs.EqualityLemmas.{equal_then, equal_back, equal_same}

pub no_link : (data_ : Data) (t u : Term) → data_.equations ≡ [] → Link data_ t u → ⊥
no_link data_ t u none l =
    none-some l.equation (subst (λ (equations : List Equation). slice_get equations l.is_equation.0 ≡ Some l.equation) none l.is_equation.1)

pub equal_identical : {data_ : Data} {t u : Term} → data_.equations ≡ [] → Equal data_ t u → t ≡ u
equal_identical none (same_term t) = refl
equal_identical none (link_then {t = t} {u = u} l chain) = absurd (no_link _ t u none l)

pub identity_canon : (data_ : Data) → data_.equations ≡ [] → IsCanon data_ (λ t. t)
identity_canon data_ none = record {
  sorts = λ t s h. h;
  instances = λ t values h g. same_term (substituted values t);
  decides = λ t u s g h e. equal_identical none e;
  settled = λ t h. refl;
  occurring = λ t n s h o. o;
  variables = λ n s. refl;
  substitutes = λ t values h k. refl;
  renames = λ t number h k. refl;
}

-- no variable is put for in a ground term
pub grounding_of_ground : (signature : Signature) (t : Term) (values : Substitution) → IsGround t
    → IsGrounding signature t values
grounding_of_ground signature t values h = λ n s o. absurd (ground_no_variable t h n s o)

pub canon_ground : (data_ : Data) (canon : Term → Term) (t : Term) (s : ℕ) → IsCanon data_ canon
    → IsGroundOf data_.signature s t → IsGroundOf data_.signature s (canon t)
canon_ground data_ canon t s c h = record {
  ground = no_variable_ground (canon t) (λ n r o. ground_no_variable t h.ground n r (c.occurring t n r (s, h.sorted) o));
  sorted = c.sorts t s h.sorted;
}

pub canon_equal : (data_ : Data) (canon : Term → Term) (t : Term) (s : ℕ) → IsCanon data_ canon
    → IsGroundOf data_.signature s t → Equal data_ (canon t) t
canon_equal data_ canon t s c h =
    let instance = c.instances t variable (s, h.sorted) (grounding_of_ground data_.signature t variable h.ground) in
    subst (λ (u : Term). Equal data_ (canon t) u) (substituted_variables t)
    (subst (λ (u : Term). Equal data_ u (substituted variable t)) (substituted_variables (canon t)) instance)

-- identical canons mean equal terms
pub canon_tells : (data_ : Data) (canon : Term → Term) (t u : Term) (s : ℕ) → IsCanon data_ canon
    → IsGroundOf data_.signature s t → IsGroundOf data_.signature s u → canon t ≡ canon u → Equal data_ t u
canon_tells data_ canon t u s c h k e =
    equal_then (equal_back (canon_equal data_ canon t s c h))
    (equal_then (equal_same data_ (canon t) (canon u) e) (canon_equal data_ canon u s c k))

-- a term may be put into its canon before terms are put for its variables
pub canon_through : (data_ : Data) (canon : Term → Term) (t : Term) (values : Substitution)
    → IsCanon data_ canon → IsTermOf data_.signature t → KeepsSorts data_.signature t values
    → canon (substituted values (canon t)) ≡ canon (substituted values t)
canon_through data_ canon t values c h k =
    c.substitutes (canon t) values (h.0, c.sorts t h.0 h.1) (λ n s o. k n s (c.occurring t n s h o))
    ∙ ap (λ (u : Term). canon (substituted (λ n s. canon (values n s)) u)) (c.settled t h)
    ∙ sym (c.substitutes t values h k)

-- a renamed canon is a canon
pub canon_renamed : (data_ : Data) (canon : Term → Term) (t : Term) (number : ℕ → ℕ → ℕ) → IsCanon data_ canon
    → IsTermOf data_.signature t → KeepsApart number t → canon t ≡ t
    → canon (substituted (renaming number) t) ≡ substituted (renaming number) t
canon_renamed data_ canon t number c h k e = c.renames t number h k ∙ ap (substituted (renaming number)) e

-- a canon of data is one of other data with that signature and that equality
pub canon_of_other : (data_ other : Data) (canon : Term → Term) → data_.signature ≡ other.signature
    → HaveSameEquality data_ other → IsCanon data_ canon → IsCanon other canon
canon_of_other data_ other canon same equal c = record {
  sorts = λ t s h. subst (λ (g : Signature). HasSort g (canon t) s) same (c.sorts t s (sorted t s h));
  instances = λ t values h g.
      let grounds = grounding t values g in
      let sort = sorted t h.0 h.1 in
      (equal (substituted values (canon t)) (substituted values t) h.0
      (ground_instance data_.signature values (canon t) h.0 (c.sorts t h.0 sort) (λ n s o. grounds n s (c.occurring t n s (h.0, sort) o)))
      (ground_instance data_.signature values t h.0 sort grounds)).0
      (c.instances t values (h.0, sort) grounds);
  decides = λ t u s h k e. c.decides t u s (ground t s h) (ground u s k) ((equal t u s (ground t s h) (ground u s k)).1 e);
  settled = λ t h. c.settled t (h.0, sorted t h.0 h.1);
  occurring = λ t n s h o. c.occurring t n s (h.0, sorted t h.0 h.1) o;
  variables = c.variables;
  substitutes = λ t values h k. c.substitutes t values (h.0, sorted t h.0 h.1) (λ n s o. sorted (values n s) s (k n s o));
  renames = λ t number h k. c.renames t number (h.0, sorted t h.0 h.1) k;
}
  where
    sorted : (t : Term) (s : ℕ) → HasSort other.signature t s → HasSort data_.signature t s
    sorted t s h = subst (λ (g : Signature). HasSort g t s) (sym same) h

    ground : (t : Term) (s : ℕ) → IsGroundOf other.signature s t → IsGroundOf data_.signature s t
    ground t s h = subst (λ (g : Signature). IsGroundOf g s t) (sym same) h

    grounding : (t : Term) (values : Substitution) → IsGrounding other.signature t values → IsGrounding data_.signature t values
    grounding t values g = λ n s o. ground (values n s) s (g n s o)
