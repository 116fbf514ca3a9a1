use Rattle.std.proofs.Common.{ap, ◌∙◌, arith}
use Rattle.std.proofs.lemmas.List.{map_push}
use Rattle.sort_terms.specs.TermView.{profiled_of}
use Rattle.value_lists.specs.TrialView.{profiled_value, values_in}
use Rattle.value_lists.proofs.CodeLemmas.{applied_same, keep_not, keep_one, keep_full}
use Rattle.value_lists.proofs.trials.Trial.keep.Goals as goal

pub returns-then-not-kept-clause-found : goal.returns-then-not-kept-clause-found
returns-then-not-kept-clause-found c =
    keep_not c.args.self.now c.args.chosen.now.items c.args.left (values_in c.args.found.now.items) (profiled_of c.in_ok-term.term)
    c.in_ok-kept.kept (omega (arith, c.if-left-ne0.false))
    (c.in_ok-term.ensures ∙ applied_same c.args.self.now c.in_ok-copies.field-0.items c.args.chosen.now.items c.in_ok-copies.ensures)
    c.in_ok-kept.ensures c.if-not-kept.true

pub returns-then-len-self-clause-fault : goal.returns-then-len-self-clause-fault
returns-then-len-self-clause-fault c =
    keep_full c.args.self.now c.args.chosen.now.items c.args.left c.args.found.now.items (profiled_of c.in_ok-term.term)
    c.in_ok-kept.kept c.args.self.now.room (omega (arith, c.if-left-ne0.false))
    (c.in_ok-term.ensures ∙ applied_same c.args.self.now c.in_ok-copies.field-0.items c.args.chosen.now.items c.in_ok-copies.ensures)
    c.in_ok-kept.ensures
    c.if-not-kept.false
    (omega (arith, c.if-len-self.true, c.len.ensures, c.args.found.now.ok.0))

pub returns-clause-found : goal.returns-clause-found
returns-clause-found c =
    ap values_in c.in_ok-push.ensures.items
    ∙ map_push profiled_value c.args.found.now.items _
    ∙ keep_one c.args.self.now c.args.chosen.now.items c.args.left (values_in c.args.found.now.items) (profiled_of c.in_ok-term.term)
    c.in_ok-kept.kept (omega (arith, c.if-left-ne0.false))
    (c.in_ok-term.ensures ∙ applied_same c.args.self.now c.in_ok-copies.field-0.items c.args.chosen.now.items c.in_ok-copies.ensures)
    c.in_ok-kept.ensures c.if-not-kept.false
