use Rattle.std.proofs.Common.{◌≡◌, ap, sym, ◌∙◌, subst, refl}
use Rattle.std.specs.Prelude.{◌↔◌}
use Rattle.sort_terms.specs.ProfiledTerm.{ProfiledTerm, IsOf, bare}
use Rattle.sort_terms.specs.SortedView.{term_in}
use Rattle.path_order.specs.RulesView.{signature_in}
use Rattle.path_order.proofs.RulesLemmas.{rules_have_forms}
use Rattle.term_store.specs.Kept.{chosen_form}
use Rattle.term_store.proofs.CanonicalLemmas.{canonical_grows, numbers_decide}
use Rattle.critical_pairs.specs.PairView.{critical_pair_of}
use Rattle.critical_pairs.proofs.JoiningLemmas.{agreeing_alone}
use Rattle.critical_pairs.proofs.joining.unjoined_at.Goals as goal
use Rattle.critical_pairs.proofs.joining.unjoined_at.Goals.{In_ok-other}

-- the numbers are one exactly where the chosen forms are
decided : (c : In_ok-other) → (c.in_ok-one.one ≡ c.in_ok-other.other)
    ↔ (chosen_form c.args.rules.now (term_in c.args.pair.now.left) ≡ chosen_form c.args.rules.now (term_in c.args.pair.now.right))
decided c =
    numbers_decide c.args.rules.now c.number-2.new.self.forms (term_in c.args.pair.now.left) (term_in c.args.pair.now.right)
    c.in_ok-one.one c.in_ok-other.other c.number-2.ensures.finder.sound
    (canonical_grows c.args.rules.now c.number.new.self.forms c.number-2.new.self.forms (term_in c.args.pair.now.left) c.in_ok-one.one
    c.number-2.ensures.stay c.in_ok-one.ensures.number)
    c.in_ok-other.ensures.number

pub number-requires-clause-term : goal.number-requires-clause-term
number-requires-clause-term c = c.requires.over.left

pub number-requires-2-clause-term : goal.number-requires-2-clause-term
number-requires-2-clause-term c = c.requires.over.right

pub returns-then-is_one-clause-none : goal.returns-then-is_one-clause-none
returns-then-is_one-clause-none c =
    agreeing_alone c.args.rules.now (critical_pair_of c.args.pair.now) (chosen_form c.args.rules.now (term_in c.args.pair.now.left))
    (chosen_form c.args.rules.now (term_in c.args.pair.now.right)) (rules_have_forms c.args.rules.now (term_in c.args.pair.now.left)).1
    (rules_have_forms c.args.rules.now (term_in c.args.pair.now.right)).1
    ((decided (goal.at.returns-then-is_one-clause-none c).In_ok-other).0 (c.is_one.ensures.0 c.if-is_one.true))

pub form-requires-clause-number : goal.form-requires-clause-number
form-requires-clause-number c =
    canonical_grows c.args.rules.now c.number.new.self.forms c.number-2.new.self.forms (term_in c.args.pair.now.left) c.in_ok-one.one
    c.number-2.ensures.stay c.in_ok-one.ensures.number

pub form-requires-clause-term : goal.form-requires-clause-term
form-requires-clause-term c = c.requires.over.left

pub form-requires-2-clause-term : goal.form-requires-2-clause-term
form-requires-2-clause-term c = c.requires.over.right

pub returns-clause-some : goal.returns-clause-some
returns-clause-some c = record {
  first_is = refl;
  second_is = refl;
  peak_is = ap bare c.in_ok-peak.ensures;
  unjoined = record {
    is_left = c.in_ok-left.ensures.chosen;
    is_right = c.in_ok-right.ensures.chosen;
    differ = λ same.
        let one = c.is_one.ensures.1 ((decided (goal.at.returns-clause-some c).In_ok-other).1
        (sym c.in_ok-left.ensures.form ∙ same ∙ c.in_ok-right.ensures.form)) in
        cc (one, c.if-is_one.false);
  };
}

pub returns-clause-over : goal.returns-clause-over
returns-clause-over c = record {
  peak = subst (λ (w : ProfiledTerm). IsOf (signature_in c.args.rules.now) w) (sym c.in_ok-peak.ensures) c.requires.over.peak;
  left = c.in_ok-left.ensures.is_of;
  right = c.in_ok-right.ensures.is_of;
}
