use Rattle.std.proofs.Common.{◌≡◌, ◌∷◌, [], ◌+◌, ℕ, List, map, drop, ap, ◌∙◌, sym, refl}
use Rattle.std.specs.Prelude.{nat_eq}
use Rattle.std.proofs.lemmas.List.{drop_all}
use Rattle.type_definitions.specs.Presentation.{with_new}
use Rattle.type_definitions.specs.ProfiledImage.{number_in}
use Rattle.type_presentations.specs.MarksView.{marks_in}
use Rattle.type_presentations.proofs.MarkLemmas.{number_next}
use Rattle.type_presentations.proofs.marks.Marks.join.Goals as goal

pub loop-number-init : goal.loop-number-init
loop-number-init c = (c.requires.known, refl)

pub loop-number-preserved : goal.loop-number-preserved
loop-number-preserved c = (
  c.in_ok-add.ensures.known,
  ap (λ (ms : List ℕ). with_new nat_eq ms (map (number_in c.args.numbers.now)
      (drop (c.loop-number.number-index + 1) c.as_slice-number-items.result.now)))
      (c.in_ok-add.ensures.marks
      ∙ ap (λ (n : ℕ). with_new nat_eq (marks_in c.loop-number.self) (n ∷ [])) c.number_at.ensures)
      ∙ ap (λ (ns : List ℕ). with_new nat_eq (marks_in c.loop-number.self) (map (number_in c.args.numbers.now) ns))
      (sym (number_next c.as_slice-number-items.result.now c.loop-number.number-index c.loop-number-test.true))
      ∙ c.loop-number.invariant.1,
)

pub returns-clause-marks : goal.returns-clause-marks
returns-clause-marks c =
    ap (λ (ns : List ℕ). with_new nat_eq (marks_in c.loop-number.self) (map (number_in c.args.numbers.now) ns))
    (sym (drop_all c.loop-number.number-index c.as_slice-number-items.result.now c.loop-number-test.false))
    ∙ c.loop-number.invariant.1
    ∙ ap (λ (ns : List ℕ). with_new nat_eq (marks_in c.args.self.now) (map (number_in c.args.numbers.now) ns))
    c.as_slice-number-items.ensures.value
