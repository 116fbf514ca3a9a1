use Rattle.std.proofs.Common.{◌≡◌, ◌++◌, drop}
use Rattle.behaviour_tree.specs.DefinitionView.{specification_of}
use Rattle.sort_terms.specs.SignatureView.{signature_of}
use Rattle.session_histories.specs.TraceText.{stated_steps}
use Rattle.session_log.specs.CourseView.{pasts_of, situation_of}
use Rattle.session_log.specs.Courses.{written_trace}
use Rattle.session_log.proofs.traces.trace_within.Given as goal

-- the lines so far are written
abbrev pub invariant-loop-index : goal.invariant-loop-index
invariant-loop-index l =
    l.text.items ++ stated_steps (signature_of l.signature) (specification_of l.spec) (situation_of l.course.state l.course.menu)
    (pasts_of (drop l.index l.course.history.items))
    ≡ written_trace l.signature l.spec l.course
