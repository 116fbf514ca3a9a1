use Rattle.std.proofs.Common.{ap}
use Rattle.lotos_base.specs.WrittenView.{text_place_of}
use Rattle.sort_terms.specs.EquationView.{equation_of}
use Rattle.type_presentations.specs.PresentationView.{presentation_of}
use Rattle.type_equations.proofs.SectionLemmas.{made_over, grown_with_sides}
use Rattle.type_equations.proofs.section_sides.add_sides.Goals as goal

pub grow_by_equation-requires-clause-over : goal.grow_by_equation-requires-clause-over
grow_by_equation-requires-clause-over c =
    let asked = c.requires.read.0 in
    made_over (presentation_of c.args.presentation.now) asked c.args.scope.now (text_place_of c.args.place) c.args.left.now c.args.right.now
    (equation_of c.in_ok-made.made) c.requires.read.1 c.requires.read.2
    c.in_ok-made.ensures.made

pub grow_by_equation-requires-clause-left : goal.grow_by_equation-requires-clause-left
grow_by_equation-requires-clause-left c =
    c.in_ok-made.ensures.left (presentation_of c.args.presentation.now).signature c.requires.read.2.left_of

pub grow_by_equation-requires-clause-right : goal.grow_by_equation-requires-clause-right
grow_by_equation-requires-clause-right c =
    c.in_ok-made.ensures.right (presentation_of c.args.presentation.now).signature c.requires.read.2.right_of

pub returns-clause-grown : goal.returns-clause-grown
returns-clause-grown c = λ asked is at.
    grown_with_sides (presentation_of c.args.presentation.now) (presentation_of c.grow_by_equation.new.presentation) asked c.args.scope.now
    (text_place_of c.args.place) c.args.left.now c.args.right.now (equation_of c.in_ok-made.made) is at
    c.in_ok-made.ensures.made c.in_ok-grow_by_equation.ensures.grown

pub returns-clause-same : goal.returns-clause-same
returns-clause-same c = ap (λ p. p.signature) c.in_ok-grow_by_equation.ensures.grown
