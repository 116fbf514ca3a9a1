use Rattle.std.proofs.Common.{◌≡◌, ◌∙◌, sym, refl, length}
use Rattle.std.proofs.lemmas.List.{length-map}
use Rattle.type_definitions.specs.Union.{Mentioned}
use Rattle.type_presentations.specs.PresentedView.{presented_of, presented_in}
use Rattle.type_presentations.proofs.PresentedLemmas.{with_one_more, mapped_and_last, names_of}
use Rattle.type_presentations.proofs.presented.PresentedTypes.add.Goals as goal

pub returns-clause-sound : goal.returns-clause-sound
returns-clause-sound c =
    let as_many : length (names_of (presented_in c.args.self.now)) ≡ length c.args.self.now.types.items =
    length-map (presented_in c.args.self.now) (λ (t : Mentioned). t.at.name) ∙ length-map c.args.self.now.types.items presented_of in
    with_one_more c.args.self.now _ _ c.in_ok-push.ensures.items
    (c.in_ok-add.ensures (names_of (presented_in c.args.self.now)) c.requires.sound.names
    (as_many ∙ sym c.args.self.now.types.ok.0 ∙ sym c.len-count.ensures))
    refl c.requires.sound c.requires.presentation

pub returns-clause-presented : goal.returns-clause-presented
returns-clause-presented c = mapped_and_last presented_of c.args.self.now.types.items c.push.new.self.items _ _ c.in_ok-push.ensures.items
    refl
