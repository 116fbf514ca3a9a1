use Rattle.std.proofs.Common.{◌≡◌, ◌∙◌, ℕ, List, ap}
use Rattle.std.proofs.lemmas.Result.{IfOk-weaker}
use Rattle.type_definitions.specs.Flattened.{types_at}
use Rattle.type_definitions.specs.TypeNamesView.{types_in}
use Rattle.type_definitions.specs.TypeView.{declared_types_of}
use Rattle.type_definitions.specs.declared.type_texts.TypeText.{TypeText}
use Rattle.type_flatten.proofs.AllFormalLemmas.{required_of_types}
use Rattle.type_flatten.proofs.requiring.requirements_in_order.Goals as goal

pub returns : goal.returns
returns c =
    let types = types_in c.args.order.now.names in
    let order = c.args.order.now.order.items in
    let texts = declared_types_of c.as_slice-listed.result.now in
    let these : texts ≡ types_at types order =
    ap (λ (ts : List TypeText). declared_types_of ts) c.as_slice-listed.ensures.value ∙ c.in_ok-texts.ensures
    ∙ ap (λ (ns : List ℕ). types_at types ns) c.as_slice-numbers.ensures.value in
    IfOk-weaker c.requirements_of_texts.result _ _
    (λ equations h. required_of_types types texts order equations.items c.requires these h) c.requirements_of_texts.ensures
