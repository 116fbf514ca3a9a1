use Rattle.std.proofs.Common.{◌∙◌, List, ap, refl, sym}
use Rattle.lotos_base.specs.Equation.{Place, Variable}
use Rattle.lotos_base.specs.WrittenView.{text_place_of}
use Rattle.sort_terms.specs.EquationView.{equation_of as equation_made}
use Rattle.sort_terms.specs.ReaderView.{signature_read}
use Rattle.sort_terms.specs.SortedView.{term_in}
use Rattle.type_definitions.specs.DeclaredEquations.{AskedEquation, equation_of_sides, scope_of}
use Rattle.type_equations.proofs.SectionLemmas.{made_over, place_is}
use Rattle.type_actualisation.specs.FormalLists.{over_signature}
use Rattle.type_actualisation.proofs.FormalListLemmas.{one_more_formal}
use Rattle.type_actualisation.proofs.OwnLemmas.{plain_kept, premised_left_out, premisses_are}
use Rattle.type_actualisation.proofs.own_formals.keep_equation.Goals as goal

pub returns-then-premised-clause-kept : goal.returns-then-premised-clause-kept
returns-then-premised-clause-kept c = λ (asked : AskedEquation) scope is.
    premised_left_out (over_signature (signature_read c.args.reader.now)) asked c.args.list.now
    (premisses_are asked c.args.equation.now _ is c.is_premised-premised.ensures ∙ c.if-premised.true)

pub read_sides-requires : goal.read_sides-requires
read_sides-requires c =
    (over_signature (signature_read c.args.reader.now), c.requires.scoped.0, refl, c.requires.scoped.1)

pub append-requires : goal.append-requires
append-requires c = record { keyed = c.requires.over.keyed }

pub returns-clause-kept : goal.returns-clause-kept
returns-clause-kept c = λ (asked : AskedEquation) scope is.
    let p = over_signature (signature_read c.args.reader.now) in
    let sides = c.in_ok-left.ensures p asked refl scope is in
    let left = term_in c.in_ok-left.left in
    let right = term_in c.in_ok-left.right in
    let place = text_place_of c.args.equation.now.place in
    plain_kept p asked left right (equation_made c.in_ok-made.made) c.args.list.now c.append.new.self
    (premisses_are asked c.args.equation.now _ is c.is_premised-premised.ensures ∙ c.if-premised.false)
    sides.0 sides.1
    (c.in_ok-made.ensures.made ∙ ap (λ (vs : List Variable). equation_of_sides place vs left right) scope.variables_are
    ∙ ap (λ (at : Place). equation_of_sides at (scope_of p asked) left right) (sym (place_is asked c.args.equation.now is)))
    c.in_ok-append.ensures.equations

pub returns-clause-over : goal.returns-clause-over
returns-clause-over c =
    let signature = signature_read c.args.reader.now in
    let p = over_signature signature in
    let asked = c.requires.scoped.0 in
    let scope = c.requires.scoped.1 in
    let is = c.requires.scoped.2 in
    let sides = c.in_ok-left.ensures p asked refl scope is in
    one_more_formal signature c.args.list.now c.append.new.self c.in_ok-made.made c.requires.over c.in_ok-append.ensures.keyed
    c.in_ok-append.ensures.equations
    (made_over p asked c.args.scope.now (text_place_of c.args.equation.now.place) c.in_ok-left.left c.in_ok-left.right
    (equation_made c.in_ok-made.made) scope
    (record { left_is = sides.0; right_is = sides.1; left_of = sides.2; right_of = sides.3 }) c.in_ok-made.ensures.made)
    (c.in_ok-made.ensures.left signature sides.2, c.in_ok-made.ensures.right signature sides.3)
    c.in_ok-append.ensures.sides
