-- The rules on drafts, case by case.
use Rattle.std.proofs.Common.{◌≡◌, ◌++◌, ℕ, suc, ◌+◌, List, [], ◌∷◌, map, filter_map, length, Option, None, Some, option_map, Bool, true, false, if◌then◌else◌, refl, ap, sym, ◌∙◌, arith}
use Rattle.std.specs.List.{cons_option}
use Rattle.lotos_base.specs.Signature.{Signature}
use Rattle.lotos_base.specs.Term.{Term, variable}
use Rattle.lotos_base.specs.Equation.{Variable}
use Rattle.lotos_base.specs.Substitution.{Substitution}
use Rattle.behaviour_semantics.specs.Behaviour.{Behaviour, parallel, Test, SynchronisationSet, Relabelling, sorts_of}
use Rattle.behaviour_semantics.specs.Label.{Label, inner_event, gate_event, exit_event}
use Rattle.behaviour_semantics.specs.Replacement.{with_values, binding_of}
use Rattle.behaviour_semantics.specs.Rule.{moves_alone, move_together, have_sorts, label_values, pairwise, is_exit}
use Rattle.behaviour_semantics.specs.Shape.{Shape, guarded, both_sides, hidden, enabled, passed, with_value}
use Rattle.behaviour_semantics.specs.Move.{Move, taken, asking, alone, together, hiding, passing, enabling, disabling, relabelling, after_leaf}
use Rattle.behaviour_semantics.specs.Draft.{Draft, leaves_from}
use Rattle.behaviour_semantics.specs.Join.{both_drafts}
use Rattle.behaviour_semantics.specs.Listing.{ShapedMove, below, below_enable}
use Rattle.draft_parts.specs.DraftRules.{open_draft, draft_within, guarded_draft, alone_draft, together_draft, hidden_draft, enable_by, enable_draft, valued_draft, relabelled_draft}
use Rattle.draft_parts.specs.DraftRuleLaws.{RulesMakeTheDrafts}

-- a rule that gives each move one
each_kept : (before after : ShapedMove → Draft) (variant : Shape → Shape) (f : Move → Move) (g : Draft → Draft)
    → ((x : ShapedMove) → after (record { shape = variant x.shape; move = f x.move }) ≡ g (before x))
    → (moves : List ShapedMove) → map after (filter_map (below variant (λ (m : Move). Some (f m))) moves) ≡ map g (map before moves)
each_kept before after variant f g h [] = refl
each_kept before after variant f g h (x ∷ moves) =
    let rest : map after (filter_map (below variant (λ (m : Move). Some (f m))) moves) ≡ map g (map before moves) =
    each_kept before after variant f g h moves in
    λ i. h x i ∷ rest i

-- a rule that gives some moves one
some_kept : (before after : ShapedMove → Draft) (rule : ShapedMove → Option ShapedMove) (g : Draft → Option Draft)
    → ((x : ShapedMove) → option_map after (rule x) ≡ g (before x))
    → (moves : List ShapedMove) → map after (filter_map rule moves) ≡ filter_map g (map before moves)
some_kept before after rule g h [] = refl
some_kept before after rule g h (x ∷ moves) = by (rule x) (g (before x)) (h x) (some_kept before after rule g h moves)
  where
    by : (o : Option ShapedMove) (p : Option Draft) → option_map after o ≡ p
        → map after (filter_map rule moves) ≡ filter_map g (map before moves)
        → map after (cons_option o (filter_map rule moves)) ≡ cons_option p (filter_map g (map before moves))
    by None None e rest = rest
    by None (Some d) e rest = absurd (cc e)
    by (Some y) None e rest = absurd (cc e)
    by (Some y) (Some d) e rest = let same : after y ≡ d = cc in λ i. same i ∷ rest i

taken-append : (leaves : Substitution) (next : ℕ) (ss rs : List ℕ)
    → taken leaves next (ss ++ rs) ≡ taken leaves next ss ++ taken leaves (next + length ss) rs
taken-append leaves next [] rs = ap (λ (n : ℕ). taken leaves n rs) (let e : next ≡ next + 0 = omega arith in e)
taken-append leaves next (s ∷ ss) rs =
    ap (λ (ts : List Term). leaves next s ∷ ts)
    (taken-append leaves (suc next) ss rs
    ∙ ap (λ (n : ℕ). taken leaves (suc next) ss ++ taken leaves n rs)
    (let e : suc next + length ss ≡ next + suc (length ss) = omega arith in e))

sides_at : (base next : ℕ) (meet : SynchronisationSet) (variant : Shape → Shape) (beside : Behaviour → Behaviour) (x : ShapedMove)
    → option_map (open_draft base next) (below variant (alone meet beside) x) ≡ alone_draft meet variant (open_draft base next x)
sides_at base next meet variant beside x = by (moves_alone meet x.move.label)
  where
    by : (b : Bool)
        → option_map (open_draft base next) (option_map (λ (m : Move). record { shape = variant x.shape; move = m })
        (if b then Some (record x.move { target = beside x.move.target }) else None))
        ≡ (if b then Some (draft_within variant (open_draft base next x)) else None)
    by true = refl
    by false = refl

both_at : (base next : ℕ) (signature : Signature) (meet : SynchronisationSet) (x y : ShapedMove)
    → option_map (open_draft base next) (below (both_sides x.shape) (together signature meet x.move) y)
    ≡ together_draft signature meet (open_draft base next x) (open_draft base (next + length x.move.sorts) y)
both_at base next signature meet x y = by (move_together signature meet x.move.label y.move.label)
  where
    by : (b : Bool)
        → option_map (open_draft base next) (option_map (λ (m : Move). record { shape = both_sides x.shape y.shape; move = m })
        (if b then Some (record {
          label = x.move.label;
          target = parallel meet x.move.target y.move.target;
          asked = x.move.asked ++ y.move.asked ++ pairwise (label_values x.move.label) (label_values y.move.label);
          sorts = x.move.sorts ++ y.move.sorts;
        }) else None))
        ≡ (if b then Some (both_drafts (open_draft base next x) (open_draft base (next + length x.move.sorts) y)) else None)
    by true = ap (λ (ts : List Term). Some (record (both_drafts (open_draft base next x) (open_draft base (next + length x.move.sorts) y))
        { leaves = ts }))
        (taken-append (leaves_from base) next x.move.sorts y.move.sorts)
    by false = refl

enable_at : (base next : ℕ) (signature : Signature) (variables : List Variable) (c : Behaviour) (x : ShapedMove)
    → option_map (open_draft base next) (below_enable signature variables c x) ≡ enable_draft signature (sorts_of variables) (open_draft
    base next x)
enable_at base next signature variables c x = at x.move.label
  where
    ends : (values : List Term) (b : Bool)
        → option_map (open_draft base next) (option_map (λ (m : Move). record { shape = enabled x.shape; move = m })
        (if b then Some (record x.move { label = inner_event; target = with_values (binding_of variables values) c }) else None))
        ≡ (if b then Some (record (open_draft base next x) { shape = enabled x.shape; label = inner_event }) else None)
    ends values true = refl
    ends values false = refl

    at : (label : Label)
        → option_map (open_draft base next) (below_enable signature variables c (record {
          shape = x.shape;
          move = record x.move {
            label =
                label;
          };
        }))
        ≡ enable_draft signature (sorts_of variables) (open_draft base next (record {
          shape = x.shape;
          move = record x.move {
            label =
                label;
          };
        }))
    at inner_event = refl
    at (gate_event g values) = refl
    at (exit_event values) = ends values (have_sorts signature values (sorts_of variables))

pub rules_make : RulesMakeTheDrafts
rules_make = record {
  kept = λ base next variant moves. each_kept (open_draft base next) (open_draft base next) variant (λ m. m) (draft_within variant) (λ x.
      refl)
      moves;
  disabled = λ base next variant c moves. each_kept (open_draft base next) (open_draft base next) variant (disabling c) (draft_within
      variant)
      (λ x. refl) moves;
  guards = λ base next test moves. each_kept (open_draft base next) (open_draft base next) guarded (asking test) (guarded_draft test)
      (λ x. refl) moves;
  sides = λ base next meet variant beside moves. some_kept (open_draft base next) (open_draft base next) (below variant (alone meet beside))
      (alone_draft meet variant) (sides_at base next meet variant beside) moves;
  both = λ base next signature meet x moves. some_kept (open_draft base (next + length x.move.sorts)) (open_draft base next)
      (below (both_sides x.shape) (together signature meet x.move)) (together_draft signature meet (open_draft base next x))
      (both_at base next signature meet x) moves;
  hides = λ base next gates moves. each_kept (open_draft base next) (open_draft base next) hidden (hiding gates) (hidden_draft gates)
      (λ x. refl) moves;
  enables = λ base next signature variables c moves. some_kept (open_draft base next) (open_draft base next) (below_enable signature
      variables c)
      (enable_draft signature (sorts_of variables)) (enable_at base next signature variables c) moves;
  values = λ base next sort moves. each_kept (open_draft base (suc next)) (open_draft base next) with_value (after_leaf sort)
      (valued_draft (variable (base + next) sort)) (λ x. refl) moves;
  relabels = λ base next variant pairs moves. each_kept (open_draft base next) (open_draft base next) variant (relabelling pairs)
      (relabelled_draft variant pairs) (λ x. refl) moves;
}
