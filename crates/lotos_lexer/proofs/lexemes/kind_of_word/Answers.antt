use Rattle.std.proofs.Common.{[], sym, refl, ◌∙◌}
use Rattle.lotos_lexer.specs.declared.spellings.Spelling.{Spelling}
use Rattle.lotos_lexer.proofs.Tables.{word_kind_in-other, word_kind_in-here}
use Rattle.lotos_lexer.proofs.lexemes.kind_of_word.Goals as goal

-- what an index past the end reads
abbrev no_row : Spelling
no_row = record { text = record { ref_ptr = (0, 0); now = [] }; kind = 0 }

pub returns-then-eq_ignore_ascii_case : goal.returns-then-eq_ignore_ascii_case
returns-then-eq_ignore_ascii_case c =
    sym (c.loop-row.invariant ∙ word_kind_in-here c.args.table.now c.loop-row.row-index no_row c.args.spelled.now c.loop-row-test.true
    (c.if-eq_ignore_ascii_case.ensures.test.0 refl))

pub loop-row-preserved : goal.loop-row-preserved
loop-row-preserved c =
    c.loop-row.invariant
    ∙ word_kind_in-other c.args.table.now c.loop-row.row-index no_row c.args.spelled.now c.loop-row-test.true
    (λ same. cc (c.if-eq_ignore_ascii_case.ensures.test.1 same))
