-- Derivations of one shape with equal leaves: what the one gives, in one form of values, the other gives too, in another.
use Rattle.std.proofs.Common.{◌≡◌, ◌≤◌, ℕ, suc, List, [], ◌∷◌, Some, refl, sym, ◌∙◌, subst, arith}
use Rattle.lotos_base.specs.Signature.{Signature}
use Rattle.lotos_base.specs.Term.{Term}
use Rattle.lotos_base.specs.Sorting.{IsGroundOf}
use Rattle.lotos_base.specs.Equation.{Data}
use Rattle.lotos_base.specs.Equality.{Equal}
use Rattle.lotos_base.specs.Substitution.{Substitution}
use Rattle.lotos_base.proofs.SubstitutionLemmas.{substituted_variables, substituted_ground, ground_no_variable}
use Rattle.lotos_base.proofs.EqualityLemmas.{equal_then, equal_same}
use Rattle.behaviour_semantics.specs.Behaviour.{Behaviour, Process, Specification}
use Rattle.behaviour_semantics.specs.Label.{Label}
use Rattle.behaviour_semantics.specs.Rule.{AreValues}
use Rattle.behaviour_semantics.specs.Shape.{Shape, Derivation}
use Rattle.behaviour_semantics.specs.Move.{Move, move_of}
use Rattle.behaviour_semantics.specs.Derives.{GivesMove, leaves_in}
use Rattle.behaviour_semantics.specs.Draft.{above, above_processes, first_apart}
use Rattle.behaviour_semantics.specs.Menu.{EqualTerms, EqualLabels}
use Rattle.behaviour_semantics.specs.WellFormed.{AreOver}
use Rattle.behaviour_semantics.specs.EqualLeavesLaws.{EqualDerivations, LikeMove}
use Rattle.lotos_base.proofs.SortLemmas.{sort_of_sorted}
use Rattle.behaviour_semantics.proofs.OptionLemmas.{some_value}
use Rattle.behaviour_semantics.proofs.RelatedTerms.{Side, with_leaves, Related, RelatedTerms, none_related, one_related, IsRepresenting}
use Rattle.behaviour_semantics.proofs.RelatedBehaviours.{Beside}
use Rattle.behaviour_semantics.proofs.SameBehaviours.{low_nothing, same_beside, turned_beside}
use Rattle.behaviour_semantics.proofs.RelatedMoves.{RelatedLeaves, RelatedLabels, both_inner_events, both_gate_events, both_exit_events, Answer, setting_of, follows}
use Rattle.behaviour_semantics.proofs.InstanceLemmas.{plain, plain_grounded, bodies_of, asked_over, closed_equal, turned_labels}
use Rattle.behaviour_semantics.proofs.AlikeLemmas.{alike_behaviours}
use Rattle.behaviour_semantics.proofs.FollowingMoves.{hold_plain}

module _ (data_ : Data) (base : ℕ) where
  -- Equal ground values are related.
  values_related : (x y : Side) (s : ℕ) (v w : Term) → IsGroundOf data_.signature s v → IsGroundOf data_.signature s w → Equal data_ v w
      → Related data_ base x y [] s v w
  values_related x y s v w g h e = record {
    left_sorted = g.sorted;
    right_sorted = h.sorted;
    left_free = λ n r o. absurd (ground_no_variable v g.ground n r o);
    right_free = λ n r o. absurd (ground_no_variable w h.ground n r o);
    equal = λ left right others grounds.
        equal_then (equal_same data_ _ _ (substituted_ground (with_leaves base x others) v g.ground))
        (equal_then e (equal_same data_ _ _ (sym (substituted_ground (with_leaves base y others) w h.ground))));
  }

  module _ (processes : List Process) where
    -- The leaves of two lists, from any number on.
    shifted_leaves : (represent other : Term → Term) (first second more others : Substitution) (next : ℕ) (sorts : List ℕ)
        → ((k s : ℕ) → first (suc k) s ≡ more k s) → ((k s : ℕ) → second (suc k) s ≡ others k s)
        → RelatedLeaves data_ base processes (plain represent more) (plain other others) next sorts
        → RelatedLeaves data_ base processes (plain represent first) (plain other second) (suc next) sorts
    shifted_leaves represent other first second more others next [] e f h = tt
    shifted_leaves represent other first second more others next (s ∷ sorts) e f h =
        (one, shifted_leaves represent other first second more others (suc next) sorts e f h.1)
      where
        one : Related data_ base (plain represent first) (plain other second) [] s (first (suc next) s) (second (suc next) s)
        one =
            let r : Related data_ base (plain represent more) (plain other others) [] s (first (suc next) s) (second (suc next) s) =
            subst (λ (t : Term). Related data_ base (plain represent more) (plain other others) [] s t (second (suc next) s))
            (sym (e next s))
            (subst (λ (u : Term). Related data_ base (plain represent more) (plain other others) [] s (more next s) u)
            (sym (f next s)) h.0) in
            record {
              left_sorted = r.left_sorted;
              right_sorted = r.right_sorted;
              left_free = r.left_free;
              right_free = r.right_free;
              equal = r.equal;
            }

    pub leaves_related : (represent other : Term → Term) (sorts : List ℕ) (vs ws : List Term) → AreValues data_.signature sorts vs
        → AreValues data_.signature sorts ws → EqualTerms data_ vs ws
        → RelatedLeaves data_ base processes (plain represent (leaves_in vs)) (plain other (leaves_in ws)) 0 sorts
    leaves_related represent other [] [] [] g h e = tt
    leaves_related represent other (s ∷ sorts) (v ∷ vs) (w ∷ ws) g h e = (
      values_related (plain represent (leaves_in (v ∷ vs))) (plain other (leaves_in (w ∷ ws))) s v w g.0 h.0 e.0,
      shifted_leaves represent other (leaves_in (v ∷ vs)) (leaves_in (w ∷ ws)) (leaves_in vs) (leaves_in ws) 0 sorts (λ k s'. refl)
          (λ k s'. refl) (leaves_related represent other sorts vs ws g.1 h.1 e.1),
    )
    leaves_related represent other [] (v ∷ vs) ws g h e = absurd g
    leaves_related represent other [] [] (w ∷ ws) g h e = absurd h
    leaves_related represent other (s ∷ sorts) [] ws g h e = absurd g
    leaves_related represent other (s ∷ sorts) (v ∷ vs) [] g h e = absurd h

    module _ (represent other : Term → Term) (leaves more : Substitution) where
      equal_values : {sorts : List ℕ} {ts us : List Term} → RelatedTerms data_ base (plain represent leaves)
          (plain other more) [] sorts ts us → EqualTerms data_ ts us
      equal_values none_related = tt
      equal_values (one_related {s = s} {t = t} {u = u} r rest) = (
        subst (λ (v : Term). Equal data_ v u) (substituted_variables t)
            (closed_equal data_ base other more (plain represent leaves) (plain_grounded data_ represent leaves) s t u r),
        equal_values rest,
      )

      pub equal_labels : {label another : Label} → RelatedLabels data_ base processes (plain represent leaves)
          (plain other more) label another → EqualLabels data_ label another
      equal_labels both_inner_events = tt
      equal_labels (both_gate_events sorts r) = (refl, equal_values r)
      equal_labels (both_exit_events sorts r) = equal_values r

-- Values that have two lists of sorts have one list.
pub one_list : (signature : Signature) (sorts others : List ℕ) (vs : List Term) → AreValues signature sorts vs
    → AreValues signature others vs → sorts ≡ others
one_list signature [] [] vs g h = refl
one_list signature (s ∷ sorts) (r ∷ others) (v ∷ vs) g h =
    let head : s ≡ r = some_value (sym (sort_of_sorted signature v s g.0.sorted) ∙ sort_of_sorted signature v r h.0.sorted) in
    let tail : sorts ≡ others = one_list signature sorts others vs g.1 h.1 in
    cc (head, tail)
one_list signature [] (r ∷ others) [] g h = absurd h
one_list signature [] (r ∷ others) (v ∷ vs) g h = absurd g
one_list signature (s ∷ sorts) [] [] g h = absurd g
one_list signature (s ∷ sorts) [] (v ∷ vs) g h = absurd h
one_list signature (s ∷ sorts) (r ∷ others) [] g h = absurd g

pub like_move : (data_ : Data) (canon represent other : Term → Term) (specification : Specification) (b : Behaviour)
    → AreOver data_ canon specification b → IsRepresenting data_ represent → IsRepresenting data_ other
    → (d e : Derivation) (label : Label) (target : Behaviour) → EqualDerivations data_ d e
    → GivesMove data_ represent specification.processes b d label target → LikeMove data_ other specification.processes b e label target
like_move data_ canon represent other specification b over f g d e label target same moves =
    let base : ℕ = first_apart specification.processes b in
    let le_processes : above_processes specification.processes ≤ base = omega arith in
    let le_b : above b ≤ base = omega arith in
    let x : Side = plain represent (leaves_in d.leaves) in
    let y : Side = plain other (leaves_in e.leaves) in
    let m : Move = record { label = label; target = target; asked = moves.asked; sorts = moves.sorts } in
    let values : AreValues data_.signature moves.sorts e.leaves = subst (λ (sorts : List ℕ). AreValues data_.signature sorts e.leaves)
    (one_list data_.signature same.sorts moves.sorts d.leaves same.first moves.leaves) same.second in
    let beside : Beside data_ base specification.processes x y [] b b =
    same_beside data_ base x y _ specification.processes [] b (low_nothing data_ base) le_b over.closed in
    let answer : Answer data_ base specification.processes x y (move_of
    (setting_of data_ base specification.processes y) y.leaves d.shape 0 b) m =
    follows data_ base specification.processes x y f g (bodies_of data_ base x y specification over.well_formed le_processes) d.shape 0
    b b beside m moves.move
    (leaves_related data_ base specification.processes represent other moves.sorts d.leaves e.leaves moves.leaves values same.equal) in
    record {
      label_given = answer.0.label;
      target_given = answer.0.target;
      gives = record {
        asked = answer.0.asked;
        sorts = answer.0.sorts;
        move = subst (λ (s : Shape). move_of (setting_of data_ base specification.processes y) y.leaves s 0 b ≡ Some answer.0)
            same.shape answer.1;
        leaves = subst (λ ss. AreValues data_.signature ss e.leaves) answer.2.sorts values;
        holds = asked_over data_ base other (leaves_in e.leaves) x (plain_grounded data_ represent (leaves_in d.leaves)) answer.2.asked
            (hold_plain data_ moves.asked moves.holds);
      };
      labels = equal_labels data_ base specification.processes other represent (leaves_in e.leaves) (leaves_in d.leaves)
          (turned_labels data_ base answer.2.label);
      targets = alike_behaviours data_ base other represent (leaves_in e.leaves) (leaves_in d.leaves)
          (turned_beside data_ base answer.2.target);
    }
