use Rattle.std.proofs.Common.{◌+◌, ◌*◌, drop}
use Rattle.std.specs.Vec.Iter.{into_iter_items}
use Rattle.sort_terms.specs.Operations.{operation_of}
use Rattle.sort_terms.specs.TermView.{profiled_of}
use Rattle.term_rewriter.specs.Begun.{IsBegunOf, form_size, left_to_do}
use Rattle.term_rewriter.proofs.FormLemmas.{AreFormsSoFar}
use Rattle.term_rewriter.proofs.forms.+form.Given as goal

-- the sizes of the derivations of the chosen forms
abbrev pub decreases-form : goal.decreases-form
decreases-form l = 2 * form_size l.rules.now (profiled_of l.instance) + 1

abbrev pub decreases-begun : goal.decreases-begun
decreases-begun l = 2 * form_size l.rules.now (profiled_of l.instance)

abbrev pub decreases-after : goal.decreases-after
decreases-after l = 2 * form_size l.rules.now (profiled_of l.whole)

abbrev pub invariant-begun-loop-argument : goal.invariant-begun-loop-argument
invariant-begun-loop-argument l =
    AreFormsSoFar l.rules (profiled_of l.fn.instance) l.op (operation_of l.profile.value) (drop l.argument-index l.argument-items)
    (into_iter_items l.rest) l.forms.items

abbrev pub invariant-form-loop-begun : goal.invariant-form-loop-begun
invariant-form-loop-begun l =
    IsBegunOf l.rules (profiled_of l.fn.instance) (form_size l.rules (profiled_of l.fn.instance) + 1) l.begun

abbrev pub decreases-form-loop-begun : goal.decreases-form-loop-begun
decreases-form-loop-begun l = left_to_do l.rules l.begun
