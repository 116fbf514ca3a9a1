-- Uses are sound: a case holds where the case with the goal that a use makes does.
use Rattle.std.proofs.Common.{◌≡◌, ℕ, zero, suc, List, [], ◌∷◌, refl, ap, sym, subst, inl, inr}
use Rattle.std.specs.Prelude.{◌⊎◌, Some}
use Rattle.std.proofs.lemmas.Option.{same_Some}
use Rattle.lotos_base.specs.Signature.{Signature}
use Rattle.lotos_base.specs.Term.{Term, variable, node, Terms, no_terms, term_then}
use Rattle.lotos_base.specs.Sorting.{HasSort, IsGroundOf, Occurs, OccursAmong}
use Rattle.lotos_base.specs.Path.{with_argument, argument_at, put_at}
use Rattle.lotos_base.specs.Substitution.{Substitution, substituted, followed_by, KeepsSorts, IsGrounding}
use Rattle.lotos_base.specs.Equality.{Direction, forward, backward, Equal}
use Rattle.lotos_base.proofs.PathLemmas.{put_below, put_at-subterm}
use Rattle.lotos_base.proofs.SubstitutionLemmas.{substituted_twice, substituted_sort, substituted_occurs, occurs_substituted, ground_instance, put_at-substituted}
use Rattle.lotos_base.proofs.EqualityLemmas.{equal_then, equal_back, equal_same, equal_inside}
use Rattle.lotos_base.proofs.SortLemmas.{one_sort, subterm_sort}
use Rattle.lotos_base.proofs.Each.{Each, each_member}
use Rattle.rewriting_theory.proofs.OverlapLemmas.{subterm_occurs}
use Rattle.certificate_theory.specs.InductionCertificate.{Statement, Side, left_side, right_side, Source, by_lemma, by_hypothesis, Use}
use Rattle.certificate_theory.specs.Splits.{Theory, Case, Proving, IsInScope, in_both, with_goal}
use Rattle.certificate_theory.specs.Uses.{taken_side, placed_side, side_at, with_side, IsOfSource, StandsForItself, IsUsed}
use Rattle.certificate_theory.specs.Certified.{IsFit}
use Rattle.certificate_theory.specs.Requirements.{HoldsByInduction, OccursInSide}
use Rattle.certificate_theory.proofs.Each.{each_more}
use Rattle.certificate_theory.proofs.ArgumentLemmas.{argument_occurs}
use Rattle.certificate_theory.proofs.CaseLemmas.{IsFineHypothesis, IsFineCase}
use Rattle.certificate_theory.proofs.HoldLemmas.{GroundsScope, HoldsAt, HypothesisHolds, IsSoundCase, from_canon}

-- ---- sides

pub by_taken : (P : Term → Type 0) (direction : Direction) (statement : Statement) → P statement.left → P statement.right
    → P (taken_side direction statement)
by_taken P forward statement left right = left
by_taken P backward statement left right = right

pub by_placed : (P : Term → Type 0) (direction : Direction) (statement : Statement) → P statement.left → P statement.right
    → P (placed_side direction statement)
by_placed P forward statement left right = right
by_placed P backward statement left right = left

from_sides : (P : Term → Type 0) (direction : Direction) (statement : Statement) → P (taken_side direction statement)
    → P (placed_side direction statement) → P statement.left × P statement.right
from_sides P forward statement taken placed = (taken, placed)
from_sides P backward statement taken placed = (placed, taken)

pub by_side : (P : Term → Type 0) (side : Side) (statement : Statement) → P statement.left → P statement.right → P (side_at side statement)
by_side P left_side statement left right = left
by_side P right_side statement left right = right

pub placed_occurs : (direction : Direction) (statement : Statement) (n s : ℕ) → Occurs n s (placed_side direction statement)
    → OccursInSide statement n s
placed_occurs forward statement n s o = inr o
placed_occurs backward statement n s o = inl o

pub side_occurs : (side : Side) (statement : Statement) (n s : ℕ) → Occurs n s (side_at side statement) → OccursInSide statement n s
side_occurs left_side statement n s o = inl o
side_occurs right_side statement n s o = inr o

-- ---- variables of a replacement

with_argument_occurs : (k : ℕ) (b : Term) (ts : Terms) (n s : ℕ) → OccursAmong n s (with_argument k b ts)
    → Occurs n s b ⊎ OccursAmong n s ts
with_argument_occurs k b no_terms n s o = absurd o
with_argument_occurs zero b (term_then t ts) n s (inl o) = inl o
with_argument_occurs zero b (term_then t ts) n s (inr o) = inr (inr o)
with_argument_occurs (suc k) b (term_then t ts) n s (inl o) = inr (inl o)
with_argument_occurs (suc k) b (term_then t ts) n s (inr o) = go (with_argument_occurs k b ts n s o)
  where
    go : Occurs n s b ⊎ OccursAmong n s ts → Occurs n s b ⊎ (Occurs n s t ⊎ OccursAmong n s ts)
    go (inl inside) = inl inside
    go (inr among) = inr (inr among)

put_at_occurs : (path : List ℕ) (part t whole : Term) (n s : ℕ) → put_at path part t ≡ Some whole → Occurs n s whole
    → Occurs n s part ⊎ Occurs n s t
put_at_occurs [] part t whole n s e o = inl (subst (Occurs n s) (sym (same_Some part whole e)) o)
put_at_occurs (k ∷ path) part (variable m r) whole n s e o = absurd (cc e)
put_at_occurs (k ∷ path) part (node f ts) whole n s e o =
    let below = put_below k path f part ts whole e in
    go below.argument below.after below.found
    (λ inside. put_at_occurs path part below.argument below.after n s below.inside inside)
    (with_argument_occurs k below.after ts n s (subst (Occurs n s) (sym below.is_whole) o))
  where
    inner : (argument : Term) → argument_at k ts ≡ Some argument → Occurs n s part ⊎ Occurs n s argument
        → Occurs n s part ⊎ OccursAmong n s ts
    inner argument found (inl inside) = inl inside
    inner argument found (inr inside) = inr (argument_occurs k ts argument n s found inside)

    go : (argument after : Term) → argument_at k ts ≡ Some argument
        → (Occurs n s after → Occurs n s part ⊎ Occurs n s argument) → Occurs n s after ⊎ OccursAmong n s ts
        → Occurs n s part ⊎ OccursAmong n s ts
    go argument after found deeper (inl inside) = inner argument found (deeper inside)
    go argument after found deeper (inr among) = inr among

-- ---- what is used

-- A lemma that is sorted and holds.
pub record IsEarlier (theory : Theory) (statement : Statement) : Type 0 where
  pub sort : ℕ
  pub left : HasSort theory.data_.signature statement.left sort
  pub right : HasSort theory.data_.signature statement.right sort
  pub holds : HoldsByInduction theory.data_ statement

-- A statement whose sides have one sort.
pub record IsSortedStatement (signature : Signature) (statement : Statement) : Type 0 where
  pub sort : ℕ
  pub left : HasSort signature statement.left sort
  pub right : HasSort signature statement.right sort

-- What a use needs of a lemma or a hypothesis: it is sorted, and its fixed variables are in scope.
pub record IsStatedSource (theory : Theory) (proving : Proving) (point : Case) (source : Source) (statement : Statement) : Type 0 where
  pub sort : ℕ
  pub left : HasSort theory.data_.signature statement.left sort
  pub right : HasSort theory.data_.signature statement.right sort
  pub scoped : (n s : ℕ) → StandsForItself proving source n → OccursInSide statement n s → IsInScope point n s

-- And it holds where these have equal values.
record IsUsable (theory : Theory) (proving : Proving) (point : Case) (source : Source) (statement : Statement) : Type 0 where
  stated : IsStatedSource theory proving point source statement
  holds : (values others : Substitution) → Each (HypothesisHolds theory proving.free values) point.hypotheses
      → IsGrounding theory.data_.signature statement.left others → IsGrounding theory.data_.signature statement.right others
      → ((n s : ℕ) → StandsForItself proving source n → OccursInSide statement n s → Equal theory.data_ (others n s) (values n s))
      → HoldsAt theory others statement

pub stated_source : (theory : Theory) (proving : Proving) (point : Case) (source : Source) (statement : Statement)
    → Each (IsSortedStatement theory.data_.signature) proving.earlier → IsFineCase theory.data_.signature proving.free point
    → IsOfSource proving point source statement → IsStatedSource theory proving point source statement
stated_source theory proving point (by_lemma k) statement earlier fine at =
    let lemma = each_member (IsSortedStatement theory.data_.signature) proving.earlier k statement earlier at in
    record { sort = lemma.sort; left = lemma.left; right = lemma.right; scoped = λ n s stands o. absurd stands }
stated_source theory proving point (by_hypothesis k) statement earlier fine at =
    let h = each_member (IsFineHypothesis theory.data_.signature proving.free point.sorts point.gone) point.hypotheses k statement
    fine.hypotheses at in
    record {
      sort = h.sort;
      left = h.left;
      right = h.right;
      scoped = λ n s stands o. ((h.listed n s o).0, (h.listed n s o).1 stands);
    }

usable : (theory : Theory) (proving : Proving) (point : Case) (source : Source) (statement : Statement)
    → Each (IsEarlier theory) proving.earlier → IsFineCase theory.data_.signature proving.free point
    → IsOfSource proving point source statement → IsUsable theory proving point source statement
usable theory proving point source statement earlier fine at = record {
  stated = stated_source theory proving point source statement
      (each_more (IsEarlier theory) (IsSortedStatement theory.data_.signature) proving.earlier
      (λ one is. record { sort = is.sort; left = is.left; right = is.right }) earlier)
      fine at;
  holds = holds source at;
}
  where
    holds : (source : Source) → IsOfSource proving point source statement
        → (values others : Substitution) → Each (HypothesisHolds theory proving.free values) point.hypotheses
        → IsGrounding theory.data_.signature statement.left others → IsGrounding theory.data_.signature statement.right others
        → ((n s : ℕ) → StandsForItself proving source n → OccursInSide statement n s → Equal theory.data_ (others n s) (values n s))
        → HoldsAt theory others statement
    holds (by_lemma k) at values others hypotheses left right fixed =
        (each_member (IsEarlier theory) proving.earlier k statement earlier at).holds others left right
    holds (by_hypothesis k) at values others hypotheses left right fixed =
        each_member (HypothesisHolds theory proving.free values) point.hypotheses k statement hypotheses at others left right fixed

-- ---- the goal that a use makes

-- A statement whose sides have one sort and are in scope.
record IsFineGoal (signature : Signature) (point : Case) (goal : Statement) : Type 0 where
  sort : ℕ
  left : HasSort signature goal.left sort
  right : HasSort signature goal.right sort
  scoped : (n s : ℕ) → OccursInSide goal n s → IsInScope point n s

fine_with_goal : (theory : Theory) (free : ℕ) (point : Case) (goal : Statement) → IsFit theory
    → IsFineCase theory.data_.signature free point → IsFineGoal theory.data_.signature point goal
    → IsFineCase theory.data_.signature free (with_goal theory point goal)
fine_with_goal theory free point goal fit fine is = record {
  sort = is.sort;
  left = fit.canon.sorts goal.left is.sort is.left;
  right = fit.canon.sorts goal.right is.sort is.right;
  scoped = scoped;
  hypotheses = fine.hypotheses;
  gone_below = fine.gone_below;
  known = fine.known;
  free_within = fine.free_within;
}
  where
    scoped : (n s : ℕ) → OccursInSide (in_both theory.canon goal) n s → IsInScope point n s
    scoped n s (inl o) = is.scoped n s (inl (fit.canon.occurring goal.left n s (is.sort, is.left) o))
    scoped n s (inr o) = is.scoped n s (inr (fit.canon.occurring goal.right n s (is.sort, is.right) o))

module _ {theory : Theory} {proving : Proving} {point : Case} {use_ : Use} {result : Statement} where
  -- what is put in is sorted
  placed_keeps : (used : IsUsed theory proving point use_ result) → IsFineCase theory.data_.signature proving.free point
      → IsStatedSource theory proving point use_.source used.statement
      → KeepsSorts theory.data_.signature (placed_side use_.direction used.statement) used.values
  placed_keeps used fine usable_ n s o = go (used.closed n s o)
    where
      go : StandsForItself proving use_.source n ⊎ Occurs n s (taken_side use_.direction used.statement)
          → HasSort theory.data_.signature (used.values n s) s
      go (inl stands) =
          subst (λ (t : Term). HasSort theory.data_.signature t s) (sym (used.fixed n s stands))
          (refl, fine.known n s (usable_.scoped n s stands (placed_occurs use_.direction used.statement n s o)).0)
      go (inr there) = used.sorted n s there

  -- a variable of the part that is taken away is one of the goal, so it is in scope
  taken_scoped : (used : IsUsed theory proving point use_ result) → IsFineCase theory.data_.signature proving.free point
      → (n s : ℕ) → Occurs n s (substituted used.values (taken_side use_.direction used.statement)) → IsInScope point n s
  taken_scoped used fine n s o =
      fine.scoped n s (side_occurs use_.side point.goal n s
      (subterm_occurs use_.path (side_at use_.side point.goal) (substituted used.values (taken_side use_.direction used.statement))
      n s used.old o))

  -- and so is one of what is put there
  placed_scoped : (used : IsUsed theory proving point use_ result) → IsFineCase theory.data_.signature proving.free point
      → IsStatedSource theory proving point use_.source used.statement
      → (n s : ℕ) → Occurs n s (substituted used.values (placed_side use_.direction used.statement)) → IsInScope point n s
  placed_scoped used fine usable_ n s o =
      let from = substituted_occurs n s used.values (placed_side use_.direction used.statement) o in
      go from.number from.sort from.occurs from.inside (used.closed from.number from.sort from.occurs)
    where
      go : (m r : ℕ) → Occurs m r (placed_side use_.direction used.statement) → Occurs n s (used.values m r)
          → StandsForItself proving use_.source m ⊎ Occurs m r (taken_side use_.direction used.statement) → IsInScope point n s
      go m r occurs inside (inl stands) =
          let same = subst (Occurs n s) (used.fixed m r stands) inside in
          let scope = usable_.scoped m r stands (placed_occurs use_.direction used.statement m r occurs) in
          subst (λ (k : ℕ). IsInScope point k s) same.0 (subst (λ (q : ℕ). IsInScope point m q) same.1 scope)
      go m r occurs inside (inr there) =
          taken_scoped used fine n s
          (occurs_substituted n s m r used.values (taken_side use_.direction used.statement) there inside)

  after_sort : (used : IsUsed theory proving point use_ result) → (fine : IsFineCase theory.data_.signature proving.free point)
      → IsStatedSource theory proving point use_.source used.statement → HasSort theory.data_.signature used.after fine.sort
  after_sort used fine usable_ =
      let taken = taken_side use_.direction used.statement in
      let placed = placed_side use_.direction used.statement in
      let part = subterm_sort theory.data_.signature use_.path (side_at use_.side point.goal)
      (substituted used.values (taken_side use_.direction used.statement)) fine.sort
      (by_side (λ t. HasSort theory.data_.signature t fine.sort) use_.side point.goal fine.left fine.right) used.old in
      let sorted = substituted_sort theory.data_.signature used.values (taken_side use_.direction used.statement) usable_.sort
      (by_taken (λ t. HasSort theory.data_.signature t usable_.sort) use_.direction used.statement usable_.left usable_.right)
      used.sorted in
      let same = one_sort theory.data_.signature (substituted used.values (taken_side use_.direction used.statement)) usable_.sort
      part.sort sorted part.sorted in
      part.others (substituted used.values (placed_side use_.direction used.statement)) used.after
      (subst (λ (q : ℕ). HasSort theory.data_.signature (substituted used.values (placed_side use_.direction used.statement)) q) same
      (substituted_sort theory.data_.signature used.values (placed_side use_.direction used.statement) usable_.sort
      (by_placed (λ t. HasSort theory.data_.signature t usable_.sort) use_.direction used.statement usable_.left usable_.right)
      (placed_keeps used fine usable_)))
      used.new

  after_scoped : (used : IsUsed theory proving point use_ result) → IsFineCase theory.data_.signature proving.free point
      → IsStatedSource theory proving point use_.source used.statement → (n s : ℕ) → Occurs n s used.after → IsInScope point n s
  after_scoped used fine usable_ n s o =
      go (put_at_occurs use_.path (substituted used.values (placed_side use_.direction used.statement)) (side_at use_.side point.goal)
      used.after n s used.new o)
    where
      go : Occurs n s (substituted used.values (placed_side use_.direction used.statement)) ⊎ Occurs n s (side_at use_.side point.goal)
          → IsInScope point n s
      go (inl inside) = placed_scoped used fine usable_ n s inside
      go (inr there) = fine.scoped n s (side_occurs use_.side point.goal n s there)

  -- the instances of both sides are equal at values of the variables in scope
  used_equal : (used : IsUsed theory proving point use_ result) → IsFineCase theory.data_.signature proving.free point
      → IsUsable theory proving point use_.source used.statement → (values : Substitution)
      → GroundsScope theory.data_.signature point values → Each (HypothesisHolds theory proving.free values) point.hypotheses
      → Equal theory.data_ (substituted values (side_at use_.side point.goal)) (substituted values used.after)
  used_equal used fine usable_ values grounds hypotheses =
      equal_inside use_.path (substituted values (side_at use_.side point.goal)) (substituted values (side_at use_.side point.goal))
      (substituted values used.after)
      instances_equal
      (put_at-substituted use_.path values (substituted used.values (taken_side use_.direction used.statement))
      (side_at use_.side point.goal) (side_at use_.side point.goal)
      (put_at-subterm use_.path (substituted used.values (taken_side use_.direction used.statement)) (side_at use_.side point.goal)
      used.old))
      (put_at-substituted use_.path values (substituted used.values (placed_side use_.direction used.statement))
      (side_at use_.side point.goal) used.after used.new)
    where
      others : Substitution
      others = followed_by used.values values

      taken_ground : IsGrounding theory.data_.signature (taken_side use_.direction used.statement) others
      taken_ground n s o =
          ground_instance theory.data_.signature values (used.values n s) s (used.sorted n s o)
          (λ m r inside. grounds m r (taken_scoped used fine m r
          (occurs_substituted m r n s used.values (taken_side use_.direction used.statement) o inside)))

      placed_at : (n s : ℕ) → Occurs n s (placed_side use_.direction used.statement)
          → StandsForItself proving use_.source n ⊎ Occurs n s (taken_side use_.direction used.statement)
          → IsGroundOf theory.data_.signature s (others n s)
      placed_at n s o (inl stands) =
          subst (λ (t : Term). IsGroundOf theory.data_.signature s (substituted values t)) (sym (used.fixed n s stands))
          (grounds n s (usable_.stated.scoped n s stands (placed_occurs use_.direction used.statement n s o)))
      placed_at n s o (inr there) = taken_ground n s there

      placed_ground : IsGrounding theory.data_.signature (placed_side use_.direction used.statement) others
      placed_ground n s o = placed_at n s o (used.closed n s o)

      holds : HoldsAt theory others used.statement
      holds =
          let both_ground = from_sides (λ t. IsGrounding theory.data_.signature t others) use_.direction used.statement taken_ground
          placed_ground in
          usable_.holds values others hypotheses both_ground.0 both_ground.1
          (λ n s stands o. equal_same theory.data_ (others n s) (values n s) (ap (substituted values) (used.fixed n s stands)))

      turned : (direction : Direction)
          → Equal theory.data_ (substituted others (taken_side direction used.statement))
          (substituted others (placed_side direction used.statement))
      turned forward = holds
      turned backward = equal_back holds

      instances_equal : Equal theory.data_ (substituted values (substituted used.values (taken_side use_.direction used.statement)))
          (substituted values (substituted used.values (placed_side use_.direction used.statement)))
      instances_equal =
          equal_then
          (equal_same theory.data_ (substituted values (substituted used.values (taken_side use_.direction used.statement)))
          (substituted others (taken_side use_.direction used.statement))
          (substituted_twice used.values values (taken_side use_.direction used.statement)))
          (equal_then (turned use_.direction)
          (equal_same theory.data_ (substituted others (placed_side use_.direction used.statement))
          (substituted values (substituted used.values (placed_side use_.direction used.statement)))
          (sym (substituted_twice used.values values (placed_side use_.direction used.statement)))))

-- ---- with the new side in its place

replaced_goal : (signature : Signature) (free : ℕ) (point : Case) (side : Side) (after : Term)
    → (fine : IsFineCase signature free point) → HasSort signature after fine.sort
    → ((n s : ℕ) → Occurs n s after → IsInScope point n s) → IsFineGoal signature point (with_side side after point.goal)
replaced_goal signature free point left_side after fine sorted scoped =
    record { sort = fine.sort; left = sorted; right = fine.right; scoped = go }
  where
    go : (n s : ℕ) → OccursInSide (with_side left_side after point.goal) n s → IsInScope point n s
    go n s (inl o) = scoped n s o
    go n s (inr o) = fine.scoped n s (inr o)
replaced_goal signature free point right_side after fine sorted scoped =
    record { sort = fine.sort; left = fine.left; right = sorted; scoped = go }
  where
    go : (n s : ℕ) → OccursInSide (with_side right_side after point.goal) n s → IsInScope point n s
    go n s (inl o) = fine.scoped n s (inl o)
    go n s (inr o) = scoped n s o

replaced_holds : (theory : Theory) (values : Substitution) (side : Side) (goal : Statement) (after : Term)
    → Equal theory.data_ (substituted values (side_at side goal)) (substituted values after)
    → HoldsAt theory values (with_side side after goal) → HoldsAt theory values goal
replaced_holds theory values left_side goal after equal holds = equal_then equal holds
replaced_holds theory values right_side goal after equal holds = equal_then holds (equal_back equal)

pub use_sound : (theory : Theory) (proving : Proving) (point : Case) (use_ : Use) (result : Statement) → IsFit theory
    → Each (IsEarlier theory) proving.earlier → IsUsed theory proving point use_ result
    → IsSoundCase theory proving.free (with_goal theory point result) → IsSoundCase theory proving.free point
use_sound theory proving point use_ result fit earlier used sound fine values grounds hypotheses =
    replaced_holds theory values use_.side point.goal used.after (used_equal used fine is_usable values grounds hypotheses)
    (subst (HoldsAt theory values) used.is_result
    (from_canon theory values result goal.sort fit goal.left goal.right
    (λ n s o. grounds n s (goal.scoped n s (inl o))) (λ n s o. grounds n s (goal.scoped n s (inr o)))
    (sound (fine_with_goal theory proving.free point result fit fine goal) values grounds hypotheses)))
  where
    is_usable : IsUsable theory proving point use_.source used.statement
    is_usable = usable theory proving point use_.source used.statement earlier fine used.is_there

    goal : IsFineGoal theory.data_.signature point result
    goal =
        subst (IsFineGoal theory.data_.signature point) (sym used.is_result)
        (replaced_goal theory.data_.signature proving.free point use_.side used.after fine (after_sort used fine is_usable.stated)
        (after_scoped used fine is_usable.stated))

-- a use of what is sorted leaves a fine case
pub used_fine : (theory : Theory) (proving : Proving) (point : Case) (use_ : Use) (result : Statement) → IsFit theory
    → Each (IsSortedStatement theory.data_.signature) proving.earlier → IsUsed theory proving point use_ result
    → IsFineCase theory.data_.signature proving.free point
    → IsFineCase theory.data_.signature proving.free (with_goal theory point result)
used_fine theory proving point use_ result fit earlier used fine = fine_with_goal theory proving.free point result fit fine goal
  where
    stated : IsStatedSource theory proving point use_.source used.statement
    stated = stated_source theory proving point use_.source used.statement earlier fine used.is_there

    goal : IsFineGoal theory.data_.signature point result
    goal =
        subst (IsFineGoal theory.data_.signature point) (sym used.is_result)
        (replaced_goal theory.data_.signature proving.free point use_.side used.after fine (after_sort used fine stated)
        (after_scoped used fine stated))
