use Rattle.std.proofs.Common.{sym, subst}
use Rattle.behaviour_tree.specs.MoveView.{shape_of}
use Rattle.behaviour_tree.specs.Over.{AreTermsOf}
use Rattle.draft_parts.specs.HandedOn.{AreConditionsOf, Lowered}
use Rattle.draft_parts.proofs.HandedOn.{renamed_terms_of, renamed_pairs_of}
use Rattle.menu_builder.proofs.menus.lowered.Goals as goal

pub returns : goal.returns
returns c = record {
  same = λ i. record {
    shape = shape_of c.args.draft.shape;
    label = c.in_ok-label.ensures.same i;
    leaves = c.in_ok-leaves.ensures.same i;
    conditions = c.in_ok-conditions.ensures.same i;
  };
  over = λ signature h. record {
    values = subst (AreTermsOf signature) (sym c.in_ok-label.ensures.profiles)
        (renamed_terms_of signature (Lowered c.args.base) _ h.values);
    leaves = subst (AreTermsOf signature) (sym c.in_ok-leaves.ensures.profiles)
        (renamed_terms_of signature (Lowered c.args.base) _ h.leaves);
    conditions = subst (AreConditionsOf signature) (sym c.in_ok-conditions.ensures.profiles)
        (renamed_pairs_of signature (Lowered c.args.base) _ h.conditions);
  };
}
