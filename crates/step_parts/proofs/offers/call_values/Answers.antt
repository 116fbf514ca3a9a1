use Rattle.std.proofs.Common.{◌≡◌, ◌++◌, ◌∷◌, ℕ, List, drop, map, ap, sym, ◌∙◌, subst, arith}
use Rattle.std.proofs.lemmas.List.{append-nil, drop_all}
use Rattle.lotos_base.specs.Equation.{Data}
use Rattle.lotos_base.specs.Term.{Term}
use Rattle.sort_terms.specs.ProfiledTerm.{IsOf}
use Rattle.sort_terms.specs.SortedView.{profiled_in, term_in}
use Rattle.behaviour_tree.specs.Over.{AreTermsOf}
use Rattle.behaviour_tree.specs.StateView.{environment_of, pair_profile}
use Rattle.draft_parts.proofs.HandedOn.{keeps_both}
use Rattle.step_parts.proofs.OfferLemmas.{call_paired, called_turn, nothing_called, term_turn}
use Rattle.step_parts.proofs.offers.call_values.Goals as goal

pub push_value-requires : goal.push_value-requires
push_value-requires g c =
    subst (λ (d : Data). IsOf d.signature (profiled_in c.index-in-loop-i.result.now)) (sym c.loop-i.invariant.same_known.same_data)
    (term_turn c.args.values.now.items c.loop-i.i c.index-in-loop-i.result.now (omega (
      arith,
      c.loop-i-test.true,
      c.len-i-end.ensures,
      c.args.values.now.ok.0,
    )) c.index-in-loop-i.ensures profiled_in (g.D.Deciding.known_data c.args.data.now).signature
    c.loop-i.invariant.left).0

pub loop-i-preserved : goal.loop-i-preserved
loop-i-preserved g c = record {
  same = called_turn (g.D.Deciding.canon c.args.data.now) c.args.parameters.now.items c.args.values.now.items c.loop-i.i
      c.index.result.now c.index-in-loop-i.result.now
      (omega (arith, c.if-i-len.false, c.len-in-loop-i.ensures, c.args.parameters.now.ok.0)) c.index.ensures
      (omega (arith, c.loop-i-test.true, c.len-i-end.ensures, c.args.values.now.ok.0)) c.index-in-loop-i.ensures
      (environment_of c.loop-i.pairs.items) (environment_of c.push_value.new.pairs.items) _
      (λ rest. subst (λ (canon : Term → Term). environment_of c.push_value.new.pairs.items ++ rest
      ≡ environment_of c.loop-i.pairs.items
      ++ ((c.index.result.now.number, canon (term_in c.index-in-loop-i.result.now)) ∷ rest)) c.loop-i.invariant.same_known.same_canon
      (c.in_ok-push_value.ensures.same rest)) c.loop-i.invariant.same;
  over = subst (λ (d : Data). AreTermsOf d.signature (map pair_profile c.loop-i.pairs.items)
      → AreTermsOf d.signature (map pair_profile c.push_value.new.pairs.items)) c.loop-i.invariant.same_known.same_data
      c.in_ok-push_value.ensures.over c.loop-i.invariant.over;
  left = (term_turn c.args.values.now.items c.loop-i.i c.index-in-loop-i.result.now (omega (
    arith,
    c.loop-i-test.true,
    c.len-i-end.ensures,
    c.args.values.now.ok.0,
  )) c.index-in-loop-i.ensures profiled_in (g.D.Deciding.known_data c.args.data.now).signature
      c.loop-i.invariant.left).1;
  same_known = keeps_both c.loop-i.invariant.same_known c.push_value.ensures.same_known;
}

pub returns-clause-same : goal.returns-clause-same
returns-clause-same g c =
    sym (append-nil (environment_of c.loop-i.pairs.items))
    ∙ (ap (λ (xs : List (ℕ × Term)). environment_of c.loop-i.pairs.items ++ xs)
    (sym (ap (call_paired (g.D.Deciding.canon c.args.data.now) (drop c.loop-i.i c.args.parameters.now.items))
    (drop_all c.loop-i.i c.args.values.now.items (omega (arith, c.loop-i-test.false, c.len-i-end.ensures, c.args.values.now.ok.0)))
    ∙ nothing_called (g.D.Deciding.canon c.args.data.now) (drop c.loop-i.i c.args.parameters.now.items)))
    ∙ c.loop-i.invariant.same)
