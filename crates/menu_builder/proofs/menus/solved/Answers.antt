use Rattle.std.proofs.Common.{List, sym, subst, vec_len, option_map}
use Rattle.std.specs.Prelude.{IfSome}
use Rattle.lotos_base.specs.Equation.{Data}
use Rattle.lotos_base.specs.Term.{Term}
use Rattle.behaviour_semantics.specs.Solving.{SolvesTo}
use Rattle.draft_parts.specs.HandedOn.{plain_draft, plain_entry, IsDraftOver, IsEntryOver, Entry}
use Rattle.draft_parts.proofs.ListLemmas.{empty_rest}
use Rattle.draft_parts.proofs.HandedOn.{keeps_both, keeps_itself}
use Rattle.menu_builder.proofs.SolvedLemmas.{AreHalfSolved, begun, taken_terms, taken_order, more_solved, all_solved, ready_draft}
use Rattle.menu_builder.proofs.menus.solved.Goals as goal

pub loop-draft-init : goal.loop-draft-init
loop-draft-init g c = record {
  half = subst (λ (es : List Entry). AreHalfSolved (g.D.Deciding.known_data c.args.decider.now).signature
      (g.D.Deciding.canon c.args.decider.now) c.args.base c.args.drafts.items c.reverse.new.self.items es)
      (sym c.in_ok-entries.ensures.items)
      (begun (g.D.Deciding.known_data c.args.decider.now).signature (g.D.Deciding.canon c.args.decider.now) c.args.base
      c.args.drafts.items _ c.reverse.ensures.items c.requires.terms c.requires.order);
  same_known = keeps_itself;
}

pub solve-requires : goal.solve-requires
solve-requires g c =
    let signature = (g.D.Deciding.known_data c.args.decider.now).signature in
    let canon = g.D.Deciding.canon c.args.decider.now in
    subst (λ (d : Data). IsDraftOver d.signature c.in_ok-lowered.field-0) (sym c.loop-draft.invariant.same_known.same_data)
    (ready_draft signature c.args.base c.in-Some.draft c.in_ok-lowered.field-0 c.in_ok-lowered.ensures.same
    (taken_order signature canon c.args.base c.args.drafts.items c.loop-draft.rest.items c.pop.new.self.items c.in-Some.draft
    c.loop-draft.entries.items c.in-Some.ensures.items c.loop-draft.invariant.half)
    (c.in_ok-lowered.ensures.over signature
    (taken_terms signature canon c.args.base c.args.drafts.items c.loop-draft.rest.items c.pop.new.self.items c.in-Some.draft
    c.loop-draft.entries.items c.in-Some.ensures.items c.loop-draft.invariant.half)))

pub loop-draft-preserved : goal.loop-draft-preserved
loop-draft-preserved g c =
    let signature = (g.D.Deciding.known_data c.args.decider.now).signature in
    let canon = g.D.Deciding.canon c.args.decider.now in
    record {
      half = more_solved signature canon c.args.base c.args.drafts.items c.loop-draft.rest.items c.pop.new.self.items c.in-Some.draft
          c.loop-draft.entries.items c.push_solved.new.entries.items c.in_ok-entry.entry (plain_draft c.in_ok-lowered.field-0)
          c.in-Some.ensures.items c.in_ok-push_solved.ensures c.in_ok-lowered.ensures.same
          (subst (λ (k : Term → Term). SolvesTo k (plain_draft c.in_ok-lowered.field-0) (option_map plain_entry c.in_ok-entry.entry))
          c.loop-draft.invariant.same_known.same_canon c.in_ok-entry.ensures.solved)
          (subst (λ (d : Data). IfSome c.in_ok-entry.entry (λ (entry : Entry). IsEntryOver d.signature entry))
          c.loop-draft.invariant.same_known.same_data c.in_ok-entry.ensures.over)
          c.loop-draft.invariant.half;
      same_known = keeps_both c.loop-draft.invariant.same_known c.solve.ensures.same_known;
    }

pub returns-clause-solved : goal.returns-clause-solved
returns-clause-solved g c =
    all_solved (g.D.Deciding.known_data c.args.decider.now).signature (g.D.Deciding.canon c.args.decider.now) c.args.base
    c.args.drafts.items c.loop-draft.rest.items c.loop-draft.entries.items
    (empty_rest c.pop.result c.loop-draft.rest.items (vec_len c.loop-draft.rest) c.pop.ensures.variant c.loop-draft.rest.ok.0
    c.in_default.not-Some) c.loop-draft.invariant.half
