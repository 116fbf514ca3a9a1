use Rattle.std.proofs.Common.{◌≡◌, ℕ, List, take, drop, ap, ap₂, sym, ◌∙◌}
use Rattle.std.specs.Char.{is_ascii_digit}
use Rattle.std.specs.List.{list_all}
use Rattle.session_histories.specs.TraceLine as plain
use Rattle.session_histories.specs.TraceLine.{first_digits, behind_digits}
use Rattle.session_histories.proofs.TraceLemmas.{all_are_digits}
use Rattle.session_log.proofs.LineLemmas.{digits_taken, digits_dropped, whole_rest}
use Rattle.session_log.proofs.lines.with_number.Goals as goal

pub with_digits-requires : goal.with_digits-requires
with_digits-requires c =
    ap (λ (n : ℕ). list_all is_ascii_digit (take n c.args.before.now)) c.leading_digits-count.ensures.counted
    ∙ (ap (list_all is_ascii_digit) (sym (digits_taken c.args.before.now)) ∙ all_are_digits c.args.before.now)

pub returns-clause-says : goal.returns-clause-says
returns-clause-says c =
    let before = c.args.before.now in
    let count = c.leading_digits-count.result in
    let first : take count before ≡ first_digits before =
    ap (λ (n : ℕ). take n before) c.leading_digits-count.ensures.counted ∙ sym (digits_taken before) in
    let behind : drop count before ≡ behind_digits before =
    ap (λ (n : ℕ). drop n before) c.leading_digits-count.ensures.counted ∙ sym (digits_dropped before) in
    c.with_digits.ensures.says
    ∙ ap₂ (λ (it rest : List ℕ). plain.step_with_number it rest c.args.label.now) first (whole_rest count before ∙ behind)
