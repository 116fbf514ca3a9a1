use Rattle.std.proofs.Common.{◌∙◌, sym, ap, map}
use Rattle.lotos_base.specs.Name.{spelling}
use Rattle.lotos_grammar.specs.Gathering.{is_read}
use Rattle.lotos_grammar.proofs.NameLemmas.{read_here, read_later, none_left}
use Rattle.lotos_grammar.proofs.gathered.Gathered.has.Goals as goal

pub returns-then-same : goal.returns-then-same
returns-then-same c =
    sym (read_here c.deref-library-items.result.now c.loop-library.library-index c.args.name.now c.library-item.result c.same.result
    c.loop-library-test.true c.library-item.is c.same.ensures c.if-same.true)
    ∙ c.loop-library.invariant ∙ ap (λ xs. is_read (map spelling xs) (spelling c.args.name.now)) c.deref-library-items.ensures.value

pub loop-library-preserved : goal.loop-library-preserved
loop-library-preserved c =
    read_later c.deref-library-items.result.now c.loop-library.library-index c.args.name.now c.library-item.result c.same.result
    c.loop-library-test.true c.library-item.is c.same.ensures c.if-same.false
    ∙ c.loop-library.invariant

pub returns : goal.returns
returns c =
    sym (none_left c.deref-library-items.result.now c.loop-library.library-index c.args.name.now c.loop-library-test.false)
    ∙ c.loop-library.invariant ∙ ap (λ xs. is_read (map spelling xs) (spelling c.args.name.now)) c.deref-library-items.ensures.value
