use Rattle.std.proofs.Common.{◌≡◌, ◌∙◌, ◌+◌, List, Option, refl, ap, sym, subst, arith, rules}
use Rattle.std.specs.Borrow.{Bor}
use Rattle.std.specs.Prelude.{IfSome}
use Rattle.std.specs.declared.alloc.Global.{Global}
use Rattle.std.specs.declared.rc.Rc.{Rc}
use Rattle.std.proofs.lemmas.Result.{IfOk-weaker}
use Rattle.lotos_base.specs.Equation.{Data}
use Rattle.lotos_base.specs.Term.{Term}
use Rattle.behaviour_semantics.specs.Behaviour.{Behaviour, no_gates}
use Rattle.behaviour_semantics.specs.Solving.{Entry}
use Rattle.behaviour_semantics.specs.WellFormed.{Every}
use Rattle.behaviour_tree.specs.BehaviourView.{meet_of}
use Rattle.behaviour_tree.specs.StateView.{stands_for}
use Rattle.behaviour_tree.specs.declared.states.Node.{Node}
use Rattle.shared_entries.proofs.HandedOn.{held_before, holds_after}
use Rattle.shared_entries.specs.Items.{IsItemOver}
use Rattle.shared_entries.specs.Joined.{AreBeside}
use Rattle.step_taker.specs.Taken.{ground_of}
use Rattle.step_taker.specs.Walked.{IsPassableNode}
use Rattle.menu_parts.specs.Forms.{IsLawfulGround, IsForm, IsMadeBeside, IsMadeOf, IsMadeOfEither}
use Rattle.menu_parts.specs.KeptMenus.{AreKeptBelow, IsKept, IsKeptFor, IsMaking, IsSpreadFor}
use Rattle.menu_parts.specs.Spread.{IsOpened, by_way, listed_for, of_left, of_right}
use Rattle.menu_parts.specs.declared.forms.Form.{Form}
use Rattle.menu_parts.specs.declared.kept.Kept.{Kept}
use Rattle.menu_parts.specs.declared.kept.Spread.{Spread}
use Rattle.menu_parts.specs.declared.opening.Opened.{Opened}
use Rattle.menu_parts.specs.declared.rooms.Room.{Room}
use Rattle.menu_parts.proofs.KeptLemmas.{beside_exact, beside_made, either_exact, either_made, either_terms, given_over, kept_again, kept_as, one_kept, rule_exact, rule_made, two_kept}
use Rattle.menu_parts.proofs.SpreadKept.{kept_as_for, opened_at}
use Rattle.menu_parts.proofs.making.+bringing.Goals as goal

-- ---- What is kept is used again, or renewed.
pub brought-returns-then-is_for-clause-kept : goal.brought-returns-then-is_for-clause-kept
brought-returns-then-is_for-clause-kept g t c =
    IfOk-weaker c.owner.result _ _ (λ made e. kept_again (ground_of (g.D.Deciding.known_data c.args.decider.now)
    (g.D.Deciding.canon c.args.decider.now) c.args.making.now.spec.now) c.args.node.now.value
    c.in-Some.earlier.now.value made.value e
    (subst (λ (o : Option (Bor (Rc Kept Global))). IfSome o
    (λ (k : Bor (Rc Kept Global)). IsKept (ground_of (g.D.Deciding.known_data c.args.decider.now)
    (g.D.Deciding.canon c.args.decider.now) c.args.making.now.spec.now) k.now.value)) c.in-Some.is
    (c.compared.ensures (ground_of (g.D.Deciding.known_data c.args.decider.now) (g.D.Deciding.canon c.args.decider.now)
    c.args.making.now.spec.now) c.requires.kept))
    (ap (λ (k : Kept). stands_for (listed_for k).node.value) (sym c.deref.ensures) ∙ c.if-is_for.ensures.0 refl
    ∙ ap stands_for c.deref-in-Some.ensures)) c.owner.ensures

pub brought-renewed-requires : goal.brought-renewed-requires
brought-renewed-requires g t c κs within = (
  omega (arith, c.decreases),
  (search rules, (c.requires.base, (c.requires.node, c.requires.kept))),
)

pub renewed-whole-requires-clause-node : goal.renewed-whole-requires-clause-node
renewed-whole-requires-clause-node g t c = c.in_ok-closed.ensures.passable
    (ground_of (g.D.Deciding.known_data c.args.decider.now) (g.D.Deciding.canon c.args.decider.now) c.args.making.now.spec.now)
    c.requires.node

pub renewed-returns-in-None-clause-kept : goal.renewed-returns-in-None-clause-kept
renewed-returns-in-None-clause-kept g t c =
    IfOk-weaker c.whole.result _ _ (λ made e. kept_as (ground_of (g.D.Deciding.known_data c.args.decider.now)
    (g.D.Deciding.canon c.args.decider.now) c.args.making.now.spec.now) c.in_ok-closed.closed.value c.args.node.now.value made.value
    c.in_ok-closed.ensures.same e) c.whole.ensures.kept

pub renewed-made_anew-requires : goal.renewed-made_anew-requires
renewed-made_anew-requires g t c κs within =
    let room : c.args.room.levels ≡ c.in-Some.below.levels + 1 =
    subst (λ (o : Option Room). IfSome o (λ (below : Room). c.args.room.levels ≡ below.levels + 1)) c.in-Some.is c.below_menu.ensures.levels in (
      omega (arith, room, c.decreases),
      (
        search rules,
        (
          c.requires.base,
          (
            c.in_ok-closed.ensures.passable (ground_of (g.D.Deciding.known_data c.args.decider.now) (g.D.Deciding.canon c.args.decider.now)
                c.args.making.now.spec.now) c.requires.node,
            c.going_on.ensures (ground_of (g.D.Deciding.known_data c.args.decider.now) (g.D.Deciding.canon c.args.decider.now)
                c.args.making.now.spec.now) c.requires.kept,
          ),
        ),
      ),
    )

pub renewed-returns-clause-kept : goal.renewed-returns-clause-kept
renewed-returns-clause-kept g t c =
    IfOk-weaker c.made_anew.result _ _ (λ made e. kept_as
    (ground_of (g.D.Deciding.known_data c.args.decider.now) (g.D.Deciding.canon c.args.decider.now)
    c.args.making.now.spec.now) c.in_ok-closed.closed.value c.args.node.now.value made.value
    c.in_ok-closed.ensures.same e) c.made_anew.ensures.kept

pub made_anew-of_spread-requires : goal.made_anew-of_spread-requires
made_anew-of_spread-requires g t c κs within = (
  omega (arith, c.decreases),
  (search rules, (c.requires.base, (c.requires.node, c.requires.kept))),
)

pub made_anew-formed-requires : goal.made_anew-formed-requires
made_anew-formed-requires g t c κs within = (
  omega (arith, c.decreases),
  (search rules, (c.requires.base, (c.requires.node, c.requires.kept))),
)

-- ---- By the form of the node.
pub formed-node_form-requires-clause-base : goal.formed-node_form-requires-clause-base
formed-node_form-requires-clause-base g t c = c.requires.base.base

pub formed-node_form-requires-clause-node : goal.formed-node_form-requires-clause-node
formed-node_form-requires-clause-node g t c =
    subst (λ (n : Node). IsPassableNode (ground_of (g.D.Deciding.known_data c.args.decider.now) (g.D.Deciding.canon c.args.decider.now)
    c.args.making.now.spec.now) n) (sym c.deref.ensures) c.requires.node

pub formed-whole-requires-clause-base : goal.formed-whole-requires-clause-base
formed-whole-requires-clause-base g t c =
    holds_after (λ (d : Data) (f : Term → Term). IsMaking d f c.args.making.now)
    c.node_form.ensures.same_known c.requires.base

pub formed-whole-requires-clause-node : goal.formed-whole-requires-clause-node
formed-whole-requires-clause-node g t c =
    holds_after (λ (d : Data) (f : Term → Term). IsPassableNode (ground_of d f c.args.making.now.spec.now) c.args.node.now.value)
    c.node_form.ensures.same_known c.requires.node

pub formed-returns-in-Whole-clause-kept : goal.formed-returns-in-Whole-clause-kept
formed-returns-in-Whole-clause-kept g t c =
    IfOk-weaker c.whole.result _ _ (λ made e.
    held_before (λ (d : Data) (f : Term → Term). IsKeptFor (ground_of d f c.args.making.now.spec.now) c.args.node.now.value made.value)
    c.node_form.ensures.same_known e) c.whole.ensures.kept

pub formed-one-requires : goal.formed-one-requires
formed-one-requires g t c κs within =
    let parts = (subst (λ (form : Form). IsForm (ground_of (g.D.Deciding.known_data c.args.decider.now)
    (g.D.Deciding.canon c.args.decider.now) c.args.making.now.spec.now) (stands_for c.args.node.now.value) form) c.in-One.is
    (subst (λ (n : Node). IsForm (ground_of (g.D.Deciding.known_data c.args.decider.now)
    (g.D.Deciding.canon c.args.decider.now) c.args.making.now.spec.now) (stands_for n) c.in_ok-form.form) c.deref.ensures
    c.in_ok-form.ensures.form)) in (
      omega (arith, c.decreases),
      (
        search rules,
        (
          (holds_after (λ (d : Data) (f : Term → Term). IsMaking d f c.args.making.now)
              c.node_form.ensures.same_known c.requires.base),
          (
            holds_after (λ (d : Data) (f : Term → Term). IsPassableNode (ground_of d f c.args.making.now.spec.now) c.in-One.part.value)
                c.node_form.ensures.same_known parts.0,
            (
              holds_after (λ (d : Data) (f : Term → Term). IsMadeOf (ground_of d f c.args.making.now.spec.now) c.in-One.rule
                  (stands_for c.in-One.part.value) (stands_for c.args.node.now.value)) c.node_form.ensures.same_known parts.1,
              (holds_after (λ (d : Data) (f : Term → Term). IfSome c.args.kept
                  (λ (k : Bor (Rc Kept Global)). IsKept (ground_of d f c.args.making.now.spec.now) k.now.value))
                  c.node_form.ensures.same_known c.requires.kept),
            ),
          ),
        ),
      ),
    )

pub formed-returns-in-One-clause-kept : goal.formed-returns-in-One-clause-kept
formed-returns-in-One-clause-kept g t c =
    IfOk-weaker c.one.result _ _ (λ made e.
    held_before (λ (d : Data) (f : Term → Term). IsKeptFor (ground_of d f c.args.making.now.spec.now) c.args.node.now.value made.value)
    c.node_form.ensures.same_known e) c.one.ensures.kept

pub formed-of_either-requires : goal.formed-of_either-requires
formed-of_either-requires g t c κs within =
    let parts = (subst (λ (form : Form). IsForm (ground_of (g.D.Deciding.known_data c.args.decider.now)
    (g.D.Deciding.canon c.args.decider.now) c.args.making.now.spec.now) (stands_for c.args.node.now.value) form) c.in-Either.is
    (subst (λ (n : Node). IsForm (ground_of (g.D.Deciding.known_data c.args.decider.now)
    (g.D.Deciding.canon c.args.decider.now) c.args.making.now.spec.now) (stands_for n) c.in_ok-form.form) c.deref.ensures
    c.in_ok-form.ensures.form)) in (
      omega (arith, c.decreases),
      (
        search rules,
        (
          (holds_after (λ (d : Data) (f : Term → Term). IsMaking d f c.args.making.now)
              c.node_form.ensures.same_known c.requires.base),
          (
            holds_after (λ (d : Data) (f : Term → Term). IsPassableNode (ground_of d f c.args.making.now.spec.now) c.in-Either.left.value)
                c.node_form.ensures.same_known parts.0,
            (
              holds_after (λ (d : Data) (f : Term → Term). IsPassableNode (ground_of d f c.args.making.now.spec.now)
                  c.in-Either.right.value) c.node_form.ensures.same_known parts.1,
              (
                holds_after (λ (d : Data) (f : Term → Term). IsMadeOfEither (ground_of d f c.args.making.now.spec.now)
                    (stands_for c.in-Either.left.value) (stands_for c.in-Either.right.value) (stands_for c.args.node.now.value))
                    c.node_form.ensures.same_known parts.2,
                (holds_after (λ (d : Data) (f : Term → Term). IfSome c.args.kept
                    (λ (k : Bor (Rc Kept Global)). IsKept (ground_of d f c.args.making.now.spec.now) k.now.value))
                    c.node_form.ensures.same_known c.requires.kept),
              ),
            ),
          ),
        ),
      ),
    )

pub formed-returns-in-Either-clause-kept : goal.formed-returns-in-Either-clause-kept
formed-returns-in-Either-clause-kept g t c =
    IfOk-weaker c.of_either.result _ _ (λ made e.
    held_before (λ (d : Data) (f : Term → Term). IsKeptFor (ground_of d f c.args.making.now.spec.now) c.args.node.now.value made.value)
    c.node_form.ensures.same_known e) c.of_either.ensures.kept

pub formed-of_parallel-requires : goal.formed-of_parallel-requires
formed-of_parallel-requires g t c κs within =
    let parts = (subst (λ (form : Form). IsForm (ground_of (g.D.Deciding.known_data c.args.decider.now)
    (g.D.Deciding.canon c.args.decider.now) c.args.making.now.spec.now) (stands_for c.args.node.now.value) form) c.in-Beside.is
    (subst (λ (n : Node). IsForm (ground_of (g.D.Deciding.known_data c.args.decider.now)
    (g.D.Deciding.canon c.args.decider.now) c.args.making.now.spec.now) (stands_for n) c.in_ok-form.form) c.deref.ensures
    c.in_ok-form.ensures.form)) in (
      omega (arith, c.decreases),
      (
        search rules,
        (
          (holds_after (λ (d : Data) (f : Term → Term). IsMaking d f c.args.making.now)
              c.node_form.ensures.same_known c.requires.base),
          (
            holds_after (λ (d : Data) (f : Term → Term). IsPassableNode (ground_of d f c.args.making.now.spec.now) c.in-Beside.left.value)
                c.node_form.ensures.same_known parts.0,
            (
              holds_after (λ (d : Data) (f : Term → Term). IsPassableNode (ground_of d f c.args.making.now.spec.now)
                  c.in-Beside.right.value) c.node_form.ensures.same_known parts.1,
              (
                holds_after (λ (d : Data) (f : Term → Term). IsMadeBeside (ground_of d f c.args.making.now.spec.now)
                    (meet_of c.in-Beside.meet.now) (stands_for c.in-Beside.left.value) (stands_for c.in-Beside.right.value)
                    (stands_for c.args.node.now.value)) c.node_form.ensures.same_known parts.2,
                (holds_after (λ (d : Data) (f : Term → Term). IfSome c.args.kept
                    (λ (k : Bor (Rc Kept Global)). IsKept (ground_of d f c.args.making.now.spec.now) k.now.value))
                    c.node_form.ensures.same_known c.requires.kept),
              ),
            ),
          ),
        ),
      ),
    )

pub formed-returns-in-Beside-clause-kept : goal.formed-returns-in-Beside-clause-kept
formed-returns-in-Beside-clause-kept g t c =
    IfOk-weaker c.of_parallel.result _ _ (λ made e.
    held_before (λ (d : Data) (f : Term → Term). IsKeptFor (ground_of d f c.args.making.now.spec.now) c.args.node.now.value made.value)
    c.node_form.ensures.same_known e) c.of_parallel.ensures.kept

-- ---- One part.
pub one-brought-requires : goal.one-brought-requires
one-brought-requires g t c κs within = (
  omega (arith, c.decreases),
  (
    search rules,
    (
      c.requires.base,
      (
        c.requires.part,
        c.first_of.ensures
            (ground_of (g.D.Deciding.known_data c.args.decider.now) (g.D.Deciding.canon c.args.decider.now) c.args.making.now.spec.now)
            c.requires.kept,
      ),
    ),
  ),
)

pub one-returns-clause-kept : goal.one-returns-clause-kept
one-returns-clause-kept g t c =
    let basis = ground_of (g.D.Deciding.known_data c.args.decider.now) (g.D.Deciding.canon c.args.decider.now)
    c.args.making.now.spec.now in
    let made_of = rule_made basis c.args.rule.now c.args.part.now.value c.in_ok-below.below.value c.items-given.result.now
    c.in_ok-items.items.items (c.items-given.ensures ∙ ap (λ (k : Kept). (listed_for k).items) c.deref.ensures) c.in_ok-below.ensures.kept
    c.in_ok-items.ensures in
    IfOk-weaker c.shared.result _ _ (λ made e.
    one_kept basis c.args.node.now.value _ c.in_ok-node.ensures
    (rule_exact basis c.args.rule.now c.args.part.now.value (stands_for c.args.node.now.value) c.in_ok-below.below.value
    c.in_ok-items.items.items c.requires.form c.in_ok-below.ensures.kept made_of) made_of.terms _ made.value e c.in_ok-below.ensures.kept.0)
    c.shared.ensures

-- ---- Both sides.
pub both-brought-requires : goal.both-brought-requires
both-brought-requires g t c κs within = (
  omega (arith, c.decreases),
  (
    search rules,
    (
      c.requires.base,
      (
        c.requires.left,
        c.first_of.ensures
            (ground_of (g.D.Deciding.known_data c.args.decider.now) (g.D.Deciding.canon c.args.decider.now) c.args.making.now.spec.now)
            c.requires.kept,
      ),
    ),
  ),
)

pub both-brought-requires-2 : goal.both-brought-requires-2
both-brought-requires-2 g t c κs within = (
  omega (arith, c.decreases),
  (
    search rules,
    (
      holds_after (λ (d : Data) (f : Term → Term). IsMaking d f c.args.making.now)
          c.brought.ensures.same_known c.requires.base,
      (
        holds_after (λ (d : Data) (f : Term → Term). IsPassableNode (ground_of d f c.args.making.now.spec.now) c.args.right.now.value)
            c.brought.ensures.same_known
            c.requires.right,
        holds_after (λ (d : Data) (f : Term → Term). IfSome c.second_of.result
            (λ (k : Bor (Rc Kept Global)). IsKept (ground_of d f c.args.making.now.spec.now) k.now.value))
            c.brought.ensures.same_known (c.second_of.ensures
            (ground_of (g.D.Deciding.known_data c.args.decider.now) (g.D.Deciding.canon c.args.decider.now) c.args.making.now.spec.now)
            c.requires.kept),
      ),
    ),
  ),
)

pub both-returns-clause-right : goal.both-returns-clause-right
both-returns-clause-right g t c =
    held_before (λ (d : Data) (f : Term → Term). IsKeptFor (ground_of d f c.args.making.now.spec.now) c.args.right.now.value
    c.in_ok-second.second.value)
    c.brought.ensures.same_known c.in_ok-second.ensures.kept

-- ---- What is made of both sides.
pub of_either-both-requires : goal.of_either-both-requires
of_either-both-requires g t c κs within = (
  omega (arith, c.decreases),
  (search rules, (c.requires.base, (c.requires.left, (c.requires.right, c.requires.kept)))),
)

pub of_either-returns-clause-kept : goal.of_either-returns-clause-kept
of_either-returns-clause-kept g t c =
    let basis = ground_of (g.D.Deciding.known_data c.args.decider.now) (g.D.Deciding.canon c.args.decider.now)
    c.args.making.now.spec.now in
    let first = c.in_ok-sides.sides.0.value in
    let second = c.in_ok-sides.sides.1.value in
    let lefts = c.items-lefts.ensures ∙ ap (λ (k : Kept). (listed_for k).items) c.deref.ensures in
    let rights = c.items-rights.ensures ∙ ap (λ (k : Kept). (listed_for k).items) c.deref-2.ensures in
    IfOk-weaker c.shared.result _ _ (λ made e.
    two_kept basis c.args.node.now.value _ c.in_ok-node.ensures
    (either_exact basis c.args.left.now.value c.args.right.now.value (stands_for c.args.node.now.value) first second
    c.in_ok-items.items.items c.requires.form c.in_ok-sides.ensures.left c.in_ok-sides.ensures.right
    (either_made basis c.args.left.now.value c.args.right.now.value first second c.items-lefts.result.now c.items-rights.result.now
    c.in_ok-items.items.items lefts rights c.in_ok-sides.ensures.left c.in_ok-sides.ensures.right c.in_ok-items.ensures.same))
    (either_terms basis c.args.left.now.value c.args.right.now.value first second c.items-lefts.result.now c.items-rights.result.now
    c.in_ok-items.items.items lefts rights c.in_ok-sides.ensures.left c.in_ok-sides.ensures.right c.in_ok-items.ensures.terms)
    _ _ made.value e c.in_ok-sides.ensures.left.0 c.in_ok-sides.ensures.right.0) c.shared.ensures

pub of_parallel-both-requires : goal.of_parallel-both-requires
of_parallel-both-requires g t c κs within = (
  omega (arith, c.decreases),
  (search rules, (c.requires.base, (c.requires.left, (c.requires.right, c.requires.kept)))),
)

pub of_parallel-beside-requires-clause-lefts : goal.of_parallel-beside-requires-clause-lefts
of_parallel-beside-requires-clause-lefts g t c =
    holds_after (λ (d : Data) (f : Term → Term). Every (IsItemOver d.signature) c.items-lefts.result.now.items)
    c.both.ensures.same_known
    (given_over (ground_of (g.D.Deciding.known_data c.args.decider.now) (g.D.Deciding.canon c.args.decider.now) c.args.making.now.spec.now)
    c.requires.base.base c.args.left.now.value
    c.in_ok-sides.sides.0.value c.items-lefts.result.now
    (c.items-lefts.ensures ∙ ap (λ (k : Kept). (listed_for k).items) c.deref.ensures) c.requires.left c.in_ok-sides.ensures.left)

pub of_parallel-beside-requires-clause-rights : goal.of_parallel-beside-requires-clause-rights
of_parallel-beside-requires-clause-rights g t c =
    holds_after (λ (d : Data) (f : Term → Term). Every (IsItemOver d.signature) c.items-rights.result.now.items)
    c.both.ensures.same_known
    (given_over (ground_of (g.D.Deciding.known_data c.args.decider.now) (g.D.Deciding.canon c.args.decider.now) c.args.making.now.spec.now)
    c.requires.base.base c.args.right.now.value
    c.in_ok-sides.sides.1.value c.items-rights.result.now
    (c.items-rights.ensures ∙ ap (λ (k : Kept). (listed_for k).items) c.deref-2.ensures) c.requires.right c.in_ok-sides.ensures.right)

pub of_parallel-returns-clause-kept : goal.of_parallel-returns-clause-kept
of_parallel-returns-clause-kept g t c =
    let basis = ground_of (g.D.Deciding.known_data c.args.decider.now) (g.D.Deciding.canon c.args.decider.now)
    c.args.making.now.spec.now in
    let first = c.in_ok-sides.sides.0.value in
    let second = c.in_ok-sides.sides.1.value in
    let lefts = c.items-lefts.ensures ∙ ap (λ (k : Kept). (listed_for k).items) c.deref.ensures in
    let rights = c.items-rights.ensures ∙ ap (λ (k : Kept). (listed_for k).items) c.deref-2.ensures in
    let made_of = beside_made basis c.args.left.now.value c.args.right.now.value first second c.items-lefts.result.now
    c.items-rights.result.now c.in_ok-items.items.items lefts rights c.in_ok-sides.ensures.left c.in_ok-sides.ensures.right
    (meet_of c.args.meet.now)
    (held_before (λ (d : Data) (f : Term → Term). AreBeside d f (meet_of c.args.meet.now) c.items-lefts.result.now.items
    c.items-rights.result.now.items c.in_ok-items.items.items) c.both.ensures.same_known c.in_ok-items.ensures.beside) in
    IfOk-weaker c.shared.result _ _ (λ made e.
    two_kept basis c.args.node.now.value _ c.in_ok-node.ensures
    (beside_exact basis (meet_of c.args.meet.now) c.args.left.now.value c.args.right.now.value (stands_for c.args.node.now.value) first
    second c.in_ok-items.items.items c.requires.form c.in_ok-sides.ensures.left c.in_ok-sides.ensures.right made_of) made_of.terms
    _ _ made.value e c.in_ok-sides.ensures.left.0 c.in_ok-sides.ensures.right.0) c.shared.ensures

-- ---- Parts side by side.
pub of_spread-spread_at-requires : goal.of_spread-spread_at-requires
of_spread-spread_at-requires g t c κs within =
    let earlier = c.spread_of.ensures (ground_of (g.D.Deciding.known_data c.args.decider.now) (g.D.Deciding.canon c.args.decider.now)
    c.args.making.now.spec.now) c.requires.kept in (
      omega (arith, c.decreases),
      (search rules, (c.requires.base, (c.requires.node, earlier))),
    )

pub of_spread-returns-clause-kept : goal.of_spread-returns-clause-kept
of_spread-returns-clause-kept g t c =
    IfOk-weaker c.beside_kept.result _ _ (λ made e. e
    (ground_of (g.D.Deciding.known_data c.args.decider.now) (g.D.Deciding.canon c.args.decider.now)
    c.args.making.now.spec.now) c.in_ok-spread.ensures.spread) c.beside_kept.ensures

pub spread_at-returns-in-Some-clause-spread : goal.spread_at-returns-in-Some-clause-spread
spread_at-returns-in-Some-clause-spread g t c =
    let basis = ground_of (g.D.Deciding.known_data c.args.decider.now) (g.D.Deciding.canon c.args.decider.now) c.args.making.now.spec.now in
    let way = by_way c.args.way.now in
    IfOk-weaker c.owner.result _ _ (λ made e.
    subst (λ (s : Spread). IsSpreadFor basis way (stands_for c.args.node.now.value) s) (sym e)
    (subst (λ (n : Node). IsSpreadFor basis way (stands_for n) c.in-Some.same.now.value) c.deref.ensures
    (subst (λ (o : Option (Bor (Rc Spread Global))). IfSome o
    (λ (s : Bor (Rc Spread Global)). IsSpreadFor basis way (stands_for c.deref.result.now) s.now.value)) c.in-Some.is
    (c.same_side.ensures basis way c.requires.earlier)))) c.owner.ensures

pub spread_at-spread_below-requires : goal.spread_at-spread_below-requires
spread_at-spread_below-requires g t c κs within =
    let room : c.args.room.levels ≡ c.in-Some-below_level.below.levels + 1 =
    subst (λ (o : Option Room). IfSome o (λ (below : Room). c.args.room.levels ≡ below.levels + 1))
    c.in-Some-below_level.is c.below_level.ensures.levels in (
      omega (arith, room, c.decreases),
      (search rules, (c.requires.base, (c.requires.node, c.requires.earlier))),
    )

pub spread_at-one_side-requires : goal.spread_at-one_side-requires
spread_at-one_side-requires g t c κs within =
    let kept = c.side_of.ensures (ground_of (g.D.Deciding.known_data c.args.decider.now) (g.D.Deciding.canon c.args.decider.now)
    c.args.making.now.spec.now) (by_way c.args.way.now) c.requires.earlier in (
      omega (arith, c.decreases),
      (search rules, (c.requires.base, (c.requires.node, kept))),
    )

pub one_side-brought-requires : goal.one_side-brought-requires
one_side-brought-requires g t c κs within = (
  omega (arith, c.decreases),
  (search rules, (c.requires.base, (c.requires.node, c.requires.kept))),
)

pub one_side-returns-clause-spread : goal.one_side-returns-clause-spread
one_side-returns-clause-spread g t c =
    let basis = ground_of (g.D.Deciding.known_data c.args.decider.now) (g.D.Deciding.canon c.args.decider.now) c.args.making.now.spec.now in
    IfOk-weaker c.side_made.result _ _ (λ made e. e basis (stands_for c.args.node.now.value)
    (kept_as_for basis c.args.node.now.value c.in_ok-made.made.value c.in_ok-made.ensures.kept)) c.side_made.ensures

pub spread_below-one_side-requires : goal.spread_below-one_side-requires
spread_below-one_side-requires g t c κs within =
    let closed = c.in_ok-closed.ensures.passable
    (ground_of (g.D.Deciding.known_data c.args.decider.now) (g.D.Deciding.canon c.args.decider.now) c.args.making.now.spec.now)
    c.requires.node in (
      omega (arith, c.decreases),
      (search rules, (c.requires.base, (closed, tt))),
    )

pub spread_below-returns-in-Alone-clause-spread : goal.spread_below-returns-in-Alone-clause-spread
spread_below-returns-in-Alone-clause-spread g t c =
    IfOk-weaker c.one_side.result _ _ (λ made e.
    subst (λ (b : Behaviour). IsSpreadFor (ground_of (g.D.Deciding.known_data c.args.decider.now) (g.D.Deciding.canon c.args.decider.now)
    c.args.making.now.spec.now) (by_way c.args.way.now) b made.value) c.in_ok-closed.ensures.same e) c.one_side.ensures.spread

pub spread_below-under-requires : goal.spread_below-under-requires
spread_below-under-requires g t c κs within =
    let basis = ground_of (g.D.Deciding.known_data c.args.decider.now) (g.D.Deciding.canon c.args.decider.now) c.args.making.now.spec.now in
    let closed = c.in_ok-closed.ensures.passable basis c.requires.node in
    let parts = subst (λ (form : Opened). IsOpened basis (stands_for c.in_ok-closed.closed.value) form) c.in-Relabelled.is
    (opened_at basis c.in_ok-closed.closed.value c.deref.result.now c.in_ok-form.form c.deref.ensures c.requires.base.base closed
    c.in_ok-form.ensures) in (
      omega (arith, c.decreases),
      (search rules, (c.requires.base, (parts.0, (parts.1, c.requires.earlier)))),
    )

pub spread_below-returns-in-Relabelled-clause-spread : goal.spread_below-returns-in-Relabelled-clause-spread
spread_below-returns-in-Relabelled-clause-spread g t c =
    IfOk-weaker c.under.result _ _ (λ made e.
    subst (λ (b : Behaviour). IsSpreadFor (ground_of (g.D.Deciding.known_data c.args.decider.now) (g.D.Deciding.canon c.args.decider.now)
    c.args.making.now.spec.now) (by_way c.args.way.now) b made.value) c.in_ok-closed.ensures.same e) c.under.ensures.spread

pub spread_below-side_by_side-requires : goal.spread_below-side_by_side-requires
spread_below-side_by_side-requires g t c κs within =
    let basis = ground_of (g.D.Deciding.known_data c.args.decider.now) (g.D.Deciding.canon c.args.decider.now) c.args.making.now.spec.now in
    let closed = c.in_ok-closed.ensures.passable basis c.requires.node in
    let parts = subst (λ (form : Opened). IsOpened basis (stands_for c.in_ok-closed.closed.value) form) c.in-Beside.is
    (opened_at basis c.in_ok-closed.closed.value c.deref.result.now c.in_ok-form.form c.deref.ensures c.requires.base.base closed
    c.in_ok-form.ensures) in (
      omega (arith, c.decreases),
      (search rules, (c.requires.base, (parts.0, (parts.1, (parts.2, c.requires.earlier))))),
    )

pub spread_below-returns-clause-spread : goal.spread_below-returns-clause-spread
spread_below-returns-clause-spread g t c =
    IfOk-weaker c.side_by_side.result _ _ (λ made e.
    subst (λ (b : Behaviour). IsSpreadFor (ground_of (g.D.Deciding.known_data c.args.decider.now) (g.D.Deciding.canon c.args.decider.now)
    c.args.making.now.spec.now) (by_way c.args.way.now) b made.value) c.in_ok-closed.ensures.same e)
    c.side_by_side.ensures.spread

pub under-spread_at-requires : goal.under-spread_at-requires
under-spread_at-requires g t c κs within =
    let earlier = c.under_of.ensures (ground_of (g.D.Deciding.known_data c.args.decider.now) (g.D.Deciding.canon c.args.decider.now)
    c.args.making.now.spec.now) (by_way c.args.way.now) c.requires.earlier in (
      omega (arith, c.decreases),
      (search rules, (c.requires.base, (c.requires.part, earlier))),
    )

pub under-returns-clause-spread : goal.under-returns-clause-spread
under-returns-clause-spread g t c =
    IfOk-weaker c.under_made.result _ _ (λ made e. e
    (ground_of (g.D.Deciding.known_data c.args.decider.now) (g.D.Deciding.canon c.args.decider.now)
    c.args.making.now.spec.now) (stands_for c.args.part.now.value) c.requires.form
    c.in_ok-inner.ensures.spread) c.under_made.ensures

-- ---- A left and a right side.
pub both_spreads-spread_at-requires : goal.both_spreads-spread_at-requires
both_spreads-spread_at-requires g t c κs within =
    let earlier = c.left_of.ensures (ground_of (g.D.Deciding.known_data c.args.decider.now) (g.D.Deciding.canon c.args.decider.now)
    c.args.making.now.spec.now) (by_way c.args.way.now) c.requires.earlier in (
      omega (arith, c.decreases),
      (search rules, (c.requires.base, (c.requires.left, earlier))),
    )

pub both_spreads-spread_at-requires-2 : goal.both_spreads-spread_at-requires-2
both_spreads-spread_at-requires-2 g t c κs within = (
  omega (arith, c.decreases),
  (
    search rules,
    (
      holds_after (λ (d : Data) (f : Term → Term). IsMaking d f c.args.making.now)
          c.spread_at.ensures.same_known c.requires.base,
      (
        holds_after (λ (d : Data) (f : Term → Term). IsPassableNode (ground_of d f c.args.making.now.spec.now) c.args.right.now.value)
            c.spread_at.ensures.same_known c.requires.right,
        holds_after (λ (d : Data) (f : Term → Term). IfSome c.right_of.result
            (λ (s : Bor (Rc Spread Global)). AreKeptBelow (ground_of d f c.args.making.now.spec.now)
            (λ (entries : List Entry). by_way c.args.way.now (of_right entries)) s.now.value))
            c.spread_at.ensures.same_known
            (c.right_of.ensures (ground_of (g.D.Deciding.known_data c.args.decider.now) (g.D.Deciding.canon c.args.decider.now)
            c.args.making.now.spec.now) (by_way c.args.way.now) c.requires.earlier),
      ),
    ),
  ),
)

pub both_spreads-returns-clause-right : goal.both_spreads-returns-clause-right
both_spreads-returns-clause-right g t c =
    held_before (λ (d : Data) (f : Term → Term). IsSpreadFor (ground_of d f c.args.making.now.spec.now)
    (λ (entries : List Entry). by_way c.args.way.now (of_right entries)) (stands_for c.args.right.now.value) c.in_ok-second.second.value)
    c.spread_at.ensures.same_known c.in_ok-second.ensures.spread

pub side_by_side-both_spreads-requires : goal.side_by_side-both_spreads-requires
side_by_side-both_spreads-requires g t c κs within = (
  omega (arith, c.decreases),
  (search rules, (c.requires.base, (c.requires.left, (c.requires.right, c.requires.earlier)))),
)

pub side_by_side-both_made-requires-clause-base : goal.side_by_side-both_made-requires-clause-base
side_by_side-both_made-requires-clause-base g t c =
    holds_after (λ (d : Data) (f : Term → Term). IsLawfulGround (ground_of d f c.args.making.now.spec.now))
    c.both_spreads.ensures.same_known
    c.requires.base.base

pub side_by_side-both_made-requires-clause-left : goal.side_by_side-both_made-requires-clause-left
side_by_side-both_made-requires-clause-left g t c =
    holds_after (λ (d : Data) (f : Term → Term). IsPassableNode (ground_of d f c.args.making.now.spec.now) c.args.left.now.value)
    c.both_spreads.ensures.same_known c.requires.left

pub side_by_side-both_made-requires-clause-right : goal.side_by_side-both_made-requires-clause-right
side_by_side-both_made-requires-clause-right g t c =
    holds_after (λ (d : Data) (f : Term → Term). IsPassableNode (ground_of d f c.args.making.now.spec.now) c.args.right.now.value)
    c.both_spreads.ensures.same_known c.requires.right

pub side_by_side-both_made-requires-clause-form : goal.side_by_side-both_made-requires-clause-form
side_by_side-both_made-requires-clause-form g t c =
    holds_after (λ (d : Data) (f : Term → Term). IsMadeBeside (ground_of d f c.args.making.now.spec.now) no_gates
    (stands_for c.args.left.now.value) (stands_for c.args.right.now.value) (stands_for c.args.node.now.value))
    c.both_spreads.ensures.same_known c.requires.form

pub side_by_side-both_made-requires-clause-first : goal.side_by_side-both_made-requires-clause-first
side_by_side-both_made-requires-clause-first g t c =
    holds_after (λ (d : Data) (f : Term → Term). IsSpreadFor (ground_of d f c.args.making.now.spec.now)
    (λ (entries : List Entry). by_way c.args.way.now (of_left entries)) (stands_for c.args.left.now.value) c.in_ok-sides.sides.0.value)
    c.both_spreads.ensures.same_known c.in_ok-sides.ensures.left

pub side_by_side-both_made-requires-clause-second : goal.side_by_side-both_made-requires-clause-second
side_by_side-both_made-requires-clause-second g t c =
    holds_after (λ (d : Data) (f : Term → Term). IsSpreadFor (ground_of d f c.args.making.now.spec.now)
    (λ (entries : List Entry). by_way c.args.way.now (of_right entries)) (stands_for c.args.right.now.value) c.in_ok-sides.sides.1.value)
    c.both_spreads.ensures.same_known c.in_ok-sides.ensures.right

pub side_by_side-returns-clause-spread : goal.side_by_side-returns-clause-spread
side_by_side-returns-clause-spread g t c =
    IfOk-weaker c.both_made.result _ _ (λ made e.
    held_before (λ (d : Data) (f : Term → Term). IsSpreadFor (ground_of d f c.args.making.now.spec.now) (by_way c.args.way.now)
    (stands_for c.args.node.now.value) made.value) c.both_spreads.ensures.same_known e) c.both_made.ensures.made
