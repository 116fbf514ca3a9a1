use Rattle.std.proofs.Common.{◌≡◌, ◌<◌, ◌≤◌, List, length, ap, sym, ◌∙◌, subst, ltb-true, ltb-false}
use Rattle.std.specs.Prelude.{Some, slice_get}
use Rattle.std.proofs.lemmas.Option.{slice_get-get_or, slice_get_past}
use Rattle.type_presentations.specs.PresentationView.{presentation_of}
use Rattle.type_presentations.specs.declared.presented.PresentedType.{PresentedType}
use Rattle.type_presentations.proofs.PresentedLemmas.{at_no_number}
use Rattle.type_presentations.proofs.presented.PresentedTypes.at.Goals as goal

pub returns-in-Some-clause-sound : goal.returns-in-Some-clause-sound
returns-in-Some-clause-sound c =
    let within : c.args.number < length c.deref.result.now = ltb-true _ _ (sym c.in-Some.ensures.lookup.0) in
    let found : slice_get c.deref.result.now c.args.number ≡ Some c.in-Some.presented.now =
    slice_get-get_or c.deref.result.now c.args.number c.in-Some.presented.now within
    ∙ ap (λ (t : PresentedType). Some t) (sym c.in-Some.ensures.lookup.1) in
    c.requires.each c.args.number c.in-Some.presented.now
    (subst (λ (ts : List PresentedType). slice_get ts c.args.number ≡ Some c.in-Some.presented.now) c.deref.ensures.value found)

pub returns-in-None-clause-presentation : goal.returns-in-None-clause-presentation
returns-in-None-clause-presentation c =
    let past : length c.deref.result.now ≤ c.args.number = ltb-false _ _ (sym c.in-None.ensures.lookup.0) in
    at_no_number c.args.self.now.types.items c.args.number (presentation_of c.args.self.now.nothing)
    (slice_get_past c.args.self.now.types.items c.args.number
    (subst (λ (ts : List PresentedType). length ts ≤ c.args.number) c.deref.ensures.value past))
    c.requires.nothing_there
