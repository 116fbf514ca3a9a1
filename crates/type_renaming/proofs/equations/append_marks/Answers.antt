use Rattle.std.proofs.Common.{◌≡◌, ℕ, List, ◌++◌, ◌∷◌, [], get_or, take, length, ap, sym, ◌∙◌, append_assoc, arith}
use Rattle.std.proofs.lemmas.List.{append-nil, take_more}
use Rattle.lotos_base.proofs.Pieces.{take_whole}
use Rattle.type_presentations.specs.MarksView.{marks_in}
use Rattle.type_renaming.proofs.equations.append_marks.Goals as goal

pub loop-number-init : goal.loop-number-init
loop-number-init c = (c.requires.known, sym (append-nil (marks_in c.args.marks.now)))

pub loop-number-preserved : goal.loop-number-preserved
loop-number-preserved c =
    let i = c.loop-number.number-index in
    let number : ℕ = get_or c.args.numbers.now i 0 in (
      c.in_ok-append.ensures.known,
      c.in_ok-append.ensures.marks ∙ ap (λ (ms : List ℕ). ms ++ number ∷ []) c.loop-number.invariant.1
          ∙ append_assoc (marks_in c.args.marks.now) (take i c.args.numbers.now) (number ∷ [])
          ∙ ap (λ (ns : List ℕ). marks_in c.args.marks.now ++ ns) (sym (take_more c.args.numbers.now i 0 c.loop-number-test.true)),
    )

pub returns-clause-marks : goal.returns-clause-marks
returns-clause-marks c =
    let all : c.loop-number.number-index ≡ length c.args.numbers.now = omega arith in
    c.loop-number.invariant.1
    ∙ ap (λ (ns : List ℕ). marks_in c.args.marks.now ++ ns) (take_whole c.args.numbers.now c.loop-number.number-index all)
