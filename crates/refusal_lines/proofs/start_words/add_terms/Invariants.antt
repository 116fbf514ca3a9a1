use Rattle.std.proofs.Common.{◌≡◌, ◌++◌, map, length}
use Rattle.std.specs.Vec.Iter.{into_iter_items, into_iter_len}
use Rattle.lotos_base.specs.WrittenView.{written_term_of}
use Rattle.refusal_lines.specs.StartValues.{of_word}
use Rattle.refusal_lines.specs.StartView.{word_term_of}
use Rattle.refusal_lines.proofs.start_words.add_terms.Given as goal

-- with those that are left it is all of them
abbrev pub invariant-loop-term : goal.invariant-loop-term
invariant-loop-term l =
    (map word_term_of l.terms.items ++ map (of_word l.fn.number) (map written_term_of (into_iter_items l.term-iterator))
    ≡ map word_term_of l.fn.terms.items
    ++ map (of_word l.fn.number) (map written_term_of (into_iter_items l.initial.term-iterator)))
    × (into_iter_len l.term-iterator ≡ length (into_iter_items l.term-iterator))
