use Rattle.std.proofs.Common.{arith}
use Rattle.refusal_lines.proofs.WordLemmas.{short_word, next_read, next_misread, words_whole, err_out}
use Rattle.refusal_lines.proofs.start_words.word_terms.Goals as goal

pub add_word-requires : goal.add_word-requires
add_word-requires c =
    short_word c.args.words.now c.loop-index.index c.index-words-index.result c.as_str.result.now c.requires (omega arith)
    c.index-words-index.is c.as_str.ensures.value

pub loop-index-preserved : goal.loop-index-preserved
loop-index-preserved c =
    next_read c.args.words.now c.loop-index.index c.index-words-index.result c.as_str.result.now _ _ (omega arith)
    c.index-words-index.is c.as_str.ensures.value c.loop-index.invariant c.in_ok-add_word.ensures

pub returns-in_err-add_word : goal.returns-in_err-add_word
returns-in_err-add_word c =
    err_out c.from_residual.result c.in_err-add_word.field-0.0 _ _ c.from_residual.ensures.1
    (next_misread c.args.words.now c.loop-index.index c.index-words-index.result c.as_str.result.now _ c.in_err-add_word.field-0.0
    (omega arith) c.index-words-index.is c.as_str.ensures.value c.loop-index.invariant c.in_err-add_word.ensures)

pub returns : goal.returns
returns c = words_whole c.args.words.now c.loop-index.index _ (omega arith) c.loop-index.invariant
