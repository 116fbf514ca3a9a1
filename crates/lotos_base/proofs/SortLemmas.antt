-- Links and chains keep terms ground and of their sort.
use Rattle.std.proofs.Common.{◌≡◌, ℕ, zero, suc, List, [], ◌∷◌, ap, sym, ◌∙◌, subst, inl, inr}
use Rattle.std.specs.Prelude.{Some, slice_get}
use Rattle.std.proofs.lemmas.Option.{same_Some}
use Rattle.lotos_base.specs.Signature.{Signature, Operation}
use Rattle.lotos_base.specs.Term.{Term, variable, node, Terms, no_terms, term_then}
use Rattle.lotos_base.specs.Sorting.{HasSort, HaveSorts, head_sort_of, IsGround, AreGround}
use Rattle.lotos_base.specs.Path.{argument_at, with_argument, subterm, put_at}
use Rattle.lotos_base.specs.Substitution.{Substitution, substituted}
use Rattle.lotos_base.specs.Equation.{Variable, Equation, Data, IsEquation, IsDeclared, OccursIn, HasOneSort, HasSortedSides, HasOneSortPerNumber, AreSortedData, IsEquationOver, IsWellFormedData, IsGroundInstance}
use Rattle.lotos_base.specs.Equality.{Direction, forward, backward, old_side, new_side, Link, Equal, same_term, link_then}
use Rattle.lotos_base.proofs.PathLemmas.{subterm_below, put_below}
use Rattle.lotos_base.proofs.SubstitutionLemmas.{substituted_sort, instance_ground}

-- ground arguments
argument_ground : (k : ℕ) (ts : Terms) (a : Term) → AreGround ts → argument_at k ts ≡ Some a → IsGround a
argument_ground k no_terms a h e = cc
argument_ground zero (term_then t ts) a h e = subst IsGround (same_Some t a e) h.0
argument_ground (suc k) (term_then t ts) a h e = argument_ground k ts a h.1 e

with_argument_ground : (k : ℕ) (ts : Terms) (b : Term) → AreGround ts → IsGround b → AreGround (with_argument k b ts)
with_argument_ground k no_terms b h g = h
with_argument_ground zero (term_then t ts) b h g = (g, h.1)
with_argument_ground (suc k) (term_then t ts) b h g = (h.0, with_argument_ground k ts b h.1 g)

-- the subterms of a ground term are ground
pub subterm_ground : (path : List ℕ) (t part : Term) → IsGround t → subterm path t ≡ Some part → IsGround part
subterm_ground [] t part h e = subst IsGround (same_Some t part e) h
subterm_ground (k ∷ path) (variable n s) part h e = absurd h
subterm_ground (k ∷ path) (node f ts) part h e =
    let below = subterm_below k path f ts part e in
    subterm_ground path below.argument part (argument_ground k ts below.argument h below.found) below.inside

-- a ground term with a ground part put in is ground
pub put_at_ground : (path : List ℕ) (part t whole : Term) → IsGround t → IsGround part
    → put_at path part t ≡ Some whole → IsGround whole
put_at_ground [] part t whole h g e = subst IsGround (same_Some part whole e) g
put_at_ground (k ∷ path) part (variable n s) whole h g e = absurd h
put_at_ground (k ∷ path) part (node f ts) whole h g e =
    let below = put_below k path f part ts whole e in
    subst IsGround below.is_whole
    (with_argument_ground k ts below.after h
    (put_at_ground path part below.argument below.after (argument_ground k ts below.argument h below.found) g below.inside))

-- what a link puts in is ground
pub new_side_ground : (signature : Signature) (equation : Equation) (values : Substitution) (direction : Direction)
    → IsGroundInstance signature equation values → IsGround (substituted values (new_side direction equation))
new_side_ground signature equation values forward h = instance_ground values equation.right (λ n s o. (h.right n s o).ground)
new_side_ground signature equation values backward h = instance_ground values equation.left (λ n s o. (h.left n s o).ground)

pub link_ground : (data_ : Data) (t u : Term) → Link data_ t u → IsGround t → IsGround u
link_ground data_ t u l h =
    put_at_ground l.path (substituted l.values (new_side l.direction l.equation)) t u h
    (new_side_ground data_.signature l.equation l.values l.direction l.is_instance) l.new

pub equal_ground : {data_ : Data} {t u : Term} → Equal data_ t u → IsGround t → IsGround u
equal_ground (same_term t) h = h
equal_ground (link_then {t = t} {u = u} l chain) h = equal_ground chain (link_ground _ t u l h)

-- a term has one sort
pub one_sort : (signature : Signature) (t : Term) (r s : ℕ) → HasSort signature t r → HasSort signature t s → r ≡ s
one_sort signature (variable n q) r s h k = sym h.0 ∙ k.0
one_sort signature (node f ts) r s h k =
    sym h.2 ∙ ap (λ (o : Operation). o.result) (same_Some h.0 k.0 (sym h.1 ∙ k.1)) ∙ k.2

-- it is the one that its head gives it
pub sort_of_sorted : (signature : Signature) (t : Term) (s : ℕ) → HasSort signature t s → head_sort_of signature t ≡ Some s
sort_of_sorted signature (variable n q) s h = ap (λ (r : ℕ). Some r) h.0
sort_of_sorted signature (node f ts) s h = rw (h.1) (ap (λ (r : ℕ). Some r) h.2)

-- An argument of sorted terms has a sort, and a term of that sort can stand in its place.
record SortedArgument (signature : Signature) (k : ℕ) (ts : Terms) (a : Term) (sorts : List ℕ) : Type 0 where
  sort : ℕ
  sorted : HasSort signature a sort
  others : (b : Term) → HasSort signature b sort → HaveSorts signature (with_argument k b ts) sorts

argument_sort : (signature : Signature) (k : ℕ) (ts : Terms) (a : Term) (sorts : List ℕ)
    → HaveSorts signature ts sorts → argument_at k ts ≡ Some a → SortedArgument signature k ts a sorts
argument_sort signature k no_terms a sorts h e = cc
argument_sort signature zero (term_then t ts) a [] h e = absurd h
argument_sort signature zero (term_then t ts) a (s ∷ ss) h e =
    record { sort = s; sorted = subst (λ (u : Term). HasSort signature u s) (same_Some t a e) h.0; others = λ b g. (g, h.1) }
argument_sort signature (suc k) (term_then t ts) a [] h e = absurd h
argument_sort signature (suc k) (term_then t ts) a (s ∷ ss) h e =
    let deeper = argument_sort signature k ts a ss h.1 e in
    record { sort = deeper.sort; sorted = deeper.sorted; others = λ b g. (h.0, deeper.others b g) }

-- A subterm of a sorted term has a sort, and with a term of that sort in its place the whole keeps its sort.
pub record SortedPart (signature : Signature) (path : List ℕ) (t part : Term) (s : ℕ) : Type 0 where
  pub sort : ℕ
  pub sorted : HasSort signature part sort
  pub others : (other whole : Term) → HasSort signature other sort → put_at path other t ≡ Some whole
      → HasSort signature whole s

pub subterm_sort : (signature : Signature) (path : List ℕ) (t part : Term) (s : ℕ) → HasSort signature t s
    → subterm path t ≡ Some part → SortedPart signature path t part s
subterm_sort signature [] t part s h e =
    record {
      sort = s;
      sorted = subst (λ (u : Term). HasSort signature u s) (same_Some t part e) h;
      others = λ other whole g w. subst (λ (u : Term). HasSort signature u s) (same_Some other whole w) g;
    }
subterm_sort signature (k ∷ path) (variable n q) part s h e = cc
subterm_sort signature (k ∷ path) (node f ts) part s h e =
    let below = subterm_below k path f ts part e in
    let argument = argument_sort signature k ts below.argument h.0.arguments h.3 below.found in
    let deeper = subterm_sort signature path below.argument part argument.sort argument.sorted below.inside in
    record {
      sort = deeper.sort;
      sorted = deeper.sorted;
      others = λ other whole g w.
          let put = put_below k path f other ts whole w in
          let same : put.argument ≡ below.argument = same_Some _ _ (sym put.found ∙ below.found) in
          let inside : put_at path other below.argument ≡ Some put.after =
          subst (λ (u : Term). put_at path other u ≡ Some put.after) same put.inside in
          subst (λ (u : Term). HasSort signature u s) put.is_whole
          (h.0, h.1, h.2, argument.others put.after (deeper.others other put.after g inside));
    }

-- in well-formed data the two sides of each equation have one sort
pub well_formed_sides : (data_ : Data) → IsWellFormedData data_ → HasSortedSides data_
well_formed_sides data_ fine equation is = let over = fine.equations equation is in record
    { sort = over.sort; left = over.left_sort; right = over.right_sort }

-- and a variable number has one sort in an equation, since it is declared once
pub well_formed_sorted : (data_ : Data) → IsWellFormedData data_ → AreSortedData data_
well_formed_sorted data_ fine = record { sides = well_formed_sides data_ fine; numbers = numbers }
  where
    declared : (equation : Equation) → IsEquationOver data_.signature equation → (n s : ℕ) → OccursIn equation n s → IsDeclared equation n s
    declared equation over n s (inl o) = over.left_declared n s o
    declared equation over n s (inr o) = over.right_declared n s o

    numbers : (equation : Equation) → IsEquation data_ equation → HasOneSortPerNumber equation
    numbers equation is n r s o p =
        let over = fine.equations equation is in
        let one = declared equation over n r o in
        let other = declared equation over n s p in
        let same : one.0 ≡ other.0 = over.numbers one.0 other.0 one.1 other.1 one.2 other.2 (one.3 ∙ sym other.3) in
        let v : one.1 ≡ other.1 = same_Some one.1 other.1 (sym one.2 ∙ (ap (λ i. slice_get equation.variables i) same ∙ other.2)) in
        sym one.4 ∙ (ap (λ (v : Variable). v.sort) v ∙ other.4)

-- both sides of a ground instance have the equation's sort
pub side_sorts : (signature : Signature) (equation : Equation) (values : Substitution) (direction : Direction)
    (one : HasOneSort signature equation)
    → IsGroundInstance signature equation values
    → HasSort signature (substituted values (old_side direction equation)) one.sort
    × HasSort signature (substituted values (new_side direction equation)) one.sort
side_sorts signature equation values forward one h = (
  substituted_sort signature values equation.left one.sort one.left (λ n s o. (h.left n s o).sorted),
  substituted_sort signature values equation.right one.sort one.right (λ n s o. (h.right n s o).sorted),
)
side_sorts signature equation values backward one h = (
  substituted_sort signature values equation.right one.sort one.right (λ n s o. (h.right n s o).sorted),
  substituted_sort signature values equation.left one.sort one.left (λ n s o. (h.left n s o).sorted),
)

pub link_sort : (data_ : Data) (t u : Term) (s : ℕ) → HasSortedSides data_ → Link data_ t u
    → HasSort data_.signature t s → HasSort data_.signature u s
link_sort data_ t u s sorted l h =
    let one = sorted l.equation l.is_equation in
    let sides = side_sorts data_.signature l.equation l.values l.direction one l.is_instance in
    let part = subterm_sort data_.signature l.path t (substituted l.values (old_side l.direction l.equation)) s h l.old in
    let same : one.sort ≡ part.sort = one_sort data_.signature (substituted l.values (old_side l.direction l.equation)) one.sort part.sort
    sides.0 part.sorted in
    part.others (substituted l.values (new_side l.direction l.equation)) u
    (subst (λ (r : ℕ). HasSort data_.signature (substituted l.values (new_side l.direction l.equation)) r) same sides.1) l.new

pub equal_sort : {data_ : Data} {t u : Term} (s : ℕ) → HasSortedSides data_ → Equal data_ t u
    → HasSort data_.signature t s → HasSort data_.signature u s
equal_sort s sorted (same_term t) h = h
equal_sort s sorted (link_then {t = t} {u = u} l chain) h = equal_sort s sorted chain (link_sort _ t u s sorted l h)
