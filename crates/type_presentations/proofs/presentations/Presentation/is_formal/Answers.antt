use Rattle.sort_terms.specs.Operations.{sort_of, operation_of}
use Rattle.type_presentations.specs.MarksView.{marks_in}
use Rattle.type_presentations.proofs.MarkedLemmas.{marked_by, either_first, either_second}
use Rattle.type_presentations.proofs.presentations.Presentation.is_formal.Goals as goal

pub returns-then-has_marked : goal.returns-then-has_marked
returns-then-has_marked c =
    either_first _ _ c.has_marked.result
    (marked_by sort_of (marks_in c.args.self.now.formal_sorts) c.sorts.result.now _ c.has_marked.result c.sorts.ensures
    c.has_marked.ensures)
    c.if-has_marked.true

pub returns-else-has_marked : goal.returns-else-has_marked
returns-else-has_marked c =
    either_second _ _ c.has_marked.result c.has_marked-else-has_marked.result
    (marked_by sort_of (marks_in c.args.self.now.formal_sorts) c.sorts.result.now _ c.has_marked.result c.sorts.ensures
    c.has_marked.ensures)
    c.if-has_marked.false
    (marked_by (λ op. operation_of op.value) (marks_in c.args.self.now.formal_ops) c.ops.result.now _ c.has_marked-else-has_marked.result
    c.ops.ensures c.has_marked-else-has_marked.ensures)
