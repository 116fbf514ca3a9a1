use Rattle.std.proofs.Common.{ap, sym, ◌∙◌}
use Rattle.std.specs.List.{list_any}
use Rattle.std.specs.Prelude.{Bool}
use Rattle.std.proofs.lemmas.Result.{IfOk-weaker}
use Rattle.lotos_base.specs.Name.{spelling}
use Rattle.sort_terms.specs.ReadingOutcome.{one_name}
use Rattle.type_definitions.specs.Actualisation.{pair_unless}
use Rattle.type_definitions.specs.Presentation.{first_position}
use Rattle.type_definitions.specs.Renaming.{pair_for}
use Rattle.type_presentations.specs.PairIndexView.{pairs_in}
use Rattle.type_renaming.proofs.SettlingLemmas.{is_there, not_there}
use Rattle.type_renaming.proofs.source.Source.renamer.Goals as goal

pub returns-in-Some : goal.returns-in-Some
returns-in-Some c = λ names has.
    let name = spelling c.args.name.now in
    sym (ap (λ (b : Bool). pair_unless b (pair_for (pairs_in c.args.self.now.pairs.now) name))
    (is_there (list_any (λ n. one_name n name) names) (first_position (λ n. one_name n name) names) c.in-Some.field-0
    (sym c.in-Some.is ∙ c.in_ok-formal.ensures names has)))

pub returns-in-None : goal.returns-in-None
returns-in-None c =
    let name = spelling c.args.name.now in
    IfOk-weaker c.pair_for.result _ _
    (λ found is. λ names has.
    is
    ∙ sym (ap (λ (b : Bool). pair_unless b (pair_for (pairs_in c.args.self.now.pairs.now) name))
    (not_there (list_any (λ n. one_name n name) names) (first_position (λ n. one_name n name) names)
    (sym c.in-None.is ∙ c.in_ok-formal.ensures names has))))
    c.pair_for.ensures
