use Rattle.std.proofs.Common.{List, ap, sym, ◌∙◌}
use Rattle.type_definitions.specs.Actualisation.{is_formal}
use Rattle.type_definitions.specs.FormalEquations.{FlattenedType}
use Rattle.type_definitions.specs.Union.{Mentioned}
use Rattle.type_presentations.specs.PresentationView.{presentation_of}
use Rattle.type_actualisation.specs.FormalTypesView.{required_union}
use Rattle.type_flatten.proofs.AllFormalLemmas.{formal_skipped, informal_added}
use Rattle.type_flatten.proofs.requiring.require_next.Goals as goal

pub returns-then-is_formal : goal.returns-then-is_formal
returns-then-is_formal c = λ (all : List FlattenedType) (t : FlattenedType) are presented mentioned required is.
    formal_skipped all t c.args.required.now
    (ap (λ (m : Mentioned). is_formal m.presentation) mentioned ∙ sym c.is_formal-is_formal.ensures ∙ c.if-is_formal.true) is

pub required_of_type-requires : goal.required_of_type-requires
required_of_type-requires c = (c.requires.types.0, c.requires.types.1)

pub require-requires : goal.require-requires
require-requires c =
    let all = c.requires.types.0 in
    let p = presentation_of c.args.presentation.now in
    let has =
    c.in_ok-list.ensures all p c.requires.types.1 c.requires.types.2 (sym c.is_formal-is_formal.ensures ∙ c.if-is_formal.false) in
    record {
      sound = c.requires.sound;
      coming = has.1;
      union = (required_union all, c.requires.types.3);
    }

pub returns : goal.returns
returns c = λ (all : List FlattenedType) (t : FlattenedType) are presented mentioned required is.
    let p = presentation_of c.args.presentation.now in
    let informal = sym c.is_formal-is_formal.ensures ∙ c.if-is_formal.false in
    let has = c.in_ok-list.ensures all p are presented informal in
    informal_added all t c.require.new.self (ap (λ (m : Mentioned). is_formal m.presentation) mentioned ∙ informal)
    (c.in_ok-require.ensures (required_union all) t is (ap (λ (m : Mentioned). m.presentation) mentioned) (required ∙ sym has.0))
