use Rattle.std.proofs.Common.{◌≡◌, ◌++◌, ℕ, ◌∷◌, List, map, sym, subst}
use Rattle.lotos_base.specs.Equation.{Data}
use Rattle.lotos_base.specs.Term.{Term}
use Rattle.sort_terms.specs.ProfiledTerm.{IsOf}
use Rattle.sort_terms.specs.SortedView.{term_in}
use Rattle.sort_terms.specs.declared.equations.Variable.{Variable}
use Rattle.sort_terms.specs.declared.sorted.Sorted.{Sorted}
use Rattle.behaviour_tree.specs.BehaviourTerms.{let_profile}
use Rattle.behaviour_tree.specs.Over.{AreTermsOf}
use Rattle.behaviour_tree.specs.StateView.{environment_of, pair_profile}
use Rattle.draft_parts.proofs.HandedOn.{keeps_both}
use Rattle.step_parts.proofs.OfferLemmas.{let_paired, numbered_turn, term_turn}
use Rattle.step_parts.proofs.offers.let_values.Goals as goal

pub push_value-requires : goal.push_value-requires
push_value-requires g c =
    subst (λ (d : Data). IsOf d.signature (let_profile c.binding-item.result)) (sym c.loop-binding.invariant.same_known.same_data)
    (term_turn c.deref-binding-items.result.now c.loop-binding.binding-index c.binding-item.result c.loop-binding-test.true
    c.binding-item.is let_profile (g.D.Deciding.known_data c.args.data.now).signature c.loop-binding.invariant.left).0

pub loop-binding-preserved : goal.loop-binding-preserved
loop-binding-preserved g c = record {
  same = numbered_turn c.deref-binding-items.result.now c.loop-binding.binding-index c.binding-item.result c.loop-binding-test.true
      c.binding-item.is (λ (_ : ℕ) (xs : List (Variable × Sorted)). let_paired (g.D.Deciding.canon c.args.data.now) xs) 0 0
      (environment_of c.loop-binding.pairs.items) (environment_of c.push_value.new.pairs.items) _
      (λ rest. subst (λ (canon : Term → Term). environment_of c.push_value.new.pairs.items
      ++ let_paired (g.D.Deciding.canon c.args.data.now) rest
      ≡ environment_of c.loop-binding.pairs.items
      ++ ((c.binding-item.result.0.number, canon (term_in c.binding-item.result.1)) ∷ let_paired (g.D.Deciding.canon c.args.data.now)
      rest))
      c.loop-binding.invariant.same_known.same_canon
      (c.in_ok-push_value.ensures.same (let_paired (g.D.Deciding.canon c.args.data.now) rest))) c.loop-binding.invariant.same;
  over = subst (λ (d : Data). AreTermsOf d.signature (map pair_profile c.loop-binding.pairs.items)
      → AreTermsOf d.signature (map pair_profile c.push_value.new.pairs.items)) c.loop-binding.invariant.same_known.same_data
      c.in_ok-push_value.ensures.over c.loop-binding.invariant.over;
  left = (term_turn c.deref-binding-items.result.now c.loop-binding.binding-index c.binding-item.result c.loop-binding-test.true
      c.binding-item.is let_profile (g.D.Deciding.known_data c.args.data.now).signature c.loop-binding.invariant.left).1;
  same_known = keeps_both c.loop-binding.invariant.same_known c.push_value.ensures.same_known;
}
