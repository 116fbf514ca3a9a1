use Rattle.std.proofs.Common.{◌≡◌, ◌+◌, ℕ, take, drop, ◌∷◌, ap, sym, ◌∙◌, drop-drop}
use Rattle.session_histories.specs.TraceLine.{lines_of}
use Rattle.session_log.specs.Lines.{line_length}
use Rattle.session_log.proofs.LineLemmas.{first_cut, whole_rest}
use Rattle.session_log.proofs.lines.first_line.Goals as goal

pub returns-clause-line : goal.returns-clause-line
returns-clause-line c = λ some.
    let text = c.args.text.now in
    let length_ = c.bytes_before_feed-length.result in
    let counted : line_length text ≡ length_ = sym c.bytes_before_feed-length.ensures.counted in
    let behind : drop (line_length text + 1) text ≡ c.without_first.result.now =
    ap (λ (n : ℕ). drop (n + 1) text) counted ∙ (sym (drop-drop 1 length_ text)
    ∙ (sym (ap (drop 1) (whole_rest length_ text)) ∙ sym c.without_first.ensures)) in
    first_cut text some ∙ (λ i. take (counted i) text ∷ lines_of (behind i))
