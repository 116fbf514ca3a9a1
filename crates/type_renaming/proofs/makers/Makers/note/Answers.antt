use Rattle.std.proofs.Common.{◌<◌, ◌≤◌, length, ap, ◌∙◌, arith}
use Rattle.std.specs.Prelude.{Option}
use Rattle.lotos_base.specs.Equation.{Place}
use Rattle.type_renaming.specs.MakersView.{place_seen}
use Rattle.type_renaming.specs.Noting.{two_makers}
use Rattle.type_renaming.proofs.NotingLemmas.{noted_there, maker_there, noted_new, new_is_alone}
use Rattle.type_renaming.proofs.makers.Makers.note.Goals as goal

pub returns-clause-makers : goal.returns-clause-makers
returns-clause-makers c =
    let past : length c.args.self.now.places.items ≤ c.args.number =
    omega (arith, c.len.ensures, c.args.self.now.places.ok.0, c.if-number-len.false) in
    noted_new place_seen c.args.self.now.places.items c.push.new.self.items c.args.number c.args.maker past c.requires
    c.in_ok-push.ensures.items

pub returns-clause-two : goal.returns-clause-two
returns-clause-two c =
    let past : length c.args.self.now.places.items ≤ c.args.number =
    omega (arith, c.len.ensures, c.args.self.now.places.ok.0, c.if-number-len.false) in
    new_is_alone place_seen c.args.self.now.places.items c.args.number (place_seen c.args.maker) past

pub returns-then-number-len-clause-makers : goal.returns-then-number-len-clause-makers
returns-then-number-len-clause-makers c =
    let within : c.args.number < length c.args.self.now.places.items =
    omega (arith, c.len.ensures, c.args.self.now.places.ok.0, c.if-number-len.true) in
    noted_there place_seen c.args.self.now.places.items c.args.number c.index-before.result.now c.args.maker c.first_of.result within
    c.index-before.ensures c.first_of.ensures

pub returns-then-number-len-clause-two : goal.returns-then-number-len-clause-two
returns-then-number-len-clause-two c =
    let within : c.args.number < length c.args.self.now.places.items =
    omega (arith, c.len.ensures, c.args.self.now.places.ok.0, c.if-number-len.true) in
    c.are_two-two.ensures
    ∙ ap (λ (p : Option Place). two_makers (place_seen c.args.maker) p)
    (maker_there place_seen c.args.self.now.places.items c.args.number c.index-before.result.now within c.index-before.ensures)
