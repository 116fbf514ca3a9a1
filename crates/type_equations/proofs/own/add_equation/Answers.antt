use Rattle.std.proofs.Common.{sym, ◌∙◌}
use Rattle.std.proofs.lemmas.Result.{err_from_is_err_and}
use Rattle.lotos_base.specs.Name.{spelling}
use Rattle.lotos_base.specs.WrittenView.{text_place_of}
use Rattle.sort_terms.specs.SortedView.{term_in}
use Rattle.type_definitions.proofs.HoldsLemmas.{holds_weaker}
use Rattle.type_definitions.specs.DeclaredEquations.{own_side}
use Rattle.type_presentations.specs.PresentationView.{presentation_of}
use Rattle.type_equations.proofs.SectionLemmas.{premised_here, no_arrow, own_given, own_too_many, place_is}
use Rattle.type_equations.proofs.own.add_equation.Goals as goal

pub returns-in-Some-clause-given : goal.returns-in-Some-clause-given
returns-in-Some-clause-given c = λ asked scope is.
    premised_here (presentation_of c.args.presentation.now) (spelling c.args.type_name.now) asked c.args.equation.now c.in-Some.arrow is
    c.in-Some.is

pub returns-in_err-left-clause-given : goal.returns-in_err-left-clause-given
returns-in_err-left-clause-given c =
    let e = err_from_is_err_and c.from_residual.result c.from_residual.ensures.1 in
    rw (e.1, e.2) (λ asked scope is.
    holds_weaker _ _ c.in_err-left.field-0.0 (λ f found. own_side asked f (no_arrow asked c.args.equation.now is c.in_default.is) found)
    (c.in_err-left.ensures (presentation_of c.args.presentation.now) asked c.requires.same scope is))

pub add_sides-requires-clause-read : goal.add_sides-requires-clause-read
add_sides-requires-clause-read c =
    let asked = c.requires.scoped.0 in
    let sides =
    c.in_ok-left.ensures (presentation_of c.args.presentation.now) asked c.requires.same c.requires.scoped.1 c.requires.scoped.2 in (
      asked,
      c.requires.scoped.1,
      record { left_is = sides.0; right_is = sides.1; left_of = sides.2; right_of = sides.3 },
    )

pub returns-then-is_too_large-clause-given : goal.returns-then-is_too_large-clause-given
returns-then-is_too_large-clause-given c = λ asked scope is.
    let sides = c.in_ok-left.ensures (presentation_of c.args.presentation.now) asked c.requires.same scope is in
    own_too_many (presentation_of c.args.presentation.now) (presentation_of c.add_sides.new.presentation) (spelling c.args.type_name.now)
    asked (term_in c.in_ok-left.left) (term_in c.in_ok-left.right) (text_place_of c.args.equation.now.place) (spelling c.in_ok-copy.field-0)
    (no_arrow asked c.args.equation.now is c.in_default.is) sides.0 sides.1
    (c.in_ok-add_sides.ensures.grown asked scope (place_is asked c.args.equation.now is))
    (sym c.is_too_large-is_too_large.ensures ∙ c.if-is_too_large.true) (place_is asked c.args.equation.now is) c.in_ok-copy.ensures

pub returns-clause-given : goal.returns-clause-given
returns-clause-given c = λ asked scope is.
    let sides = c.in_ok-left.ensures (presentation_of c.args.presentation.now) asked c.requires.same scope is in
    own_given (presentation_of c.args.presentation.now) (presentation_of c.add_sides.new.presentation) asked (term_in c.in_ok-left.left)
    (term_in c.in_ok-left.right) (no_arrow asked c.args.equation.now is c.in_default.is) sides.0 sides.1
    (c.in_ok-add_sides.ensures.grown asked scope (place_is asked c.args.equation.now is))
    (sym c.is_too_large-is_too_large.ensures ∙ c.if-is_too_large.false)

pub returns-clause-within : goal.returns-clause-within
returns-clause-within c = sym c.is_too_large-is_too_large.ensures ∙ c.if-is_too_large.false

pub read_sides-requires : goal.read_sides-requires
read_sides-requires c =
    (presentation_of c.args.presentation.now, c.requires.scoped.0, c.requires.same, c.requires.scoped.1)

pub add_sides-requires-clause-sound : goal.add_sides-requires-clause-sound
add_sides-requires-clause-sound c = c.requires.sound

pub returns-clause-sound : goal.returns-clause-sound
returns-clause-sound c = c.in_ok-add_sides.ensures.sound
