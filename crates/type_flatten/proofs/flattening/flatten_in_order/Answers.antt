use Rattle.std.proofs.Common.{◌≡◌, ◌∙◌, ℕ, List, ap}
use Rattle.std.proofs.lemmas.Result.{MatchResult-weaker, err_from_is_err_and}
use Rattle.type_definitions.specs.Flattened.{types_at}
use Rattle.type_definitions.specs.DeclaredTypes.{DeclaredType}
use Rattle.type_definitions.specs.TypeNamesView.{types_in}
use Rattle.type_definitions.specs.TypeView.{declared_types_of}
use Rattle.type_definitions.specs.declared.type_texts.TypeText.{TypeText}
use Rattle.type_flatten.proofs.AllTypesLemmas.{nothing_refused, refused_in_order, flat_in_order}
use Rattle.type_flatten.proofs.flattening.flatten_in_order.Goals as goal

-- the texts are those of the numbers
are_texts : (types : List DeclaredType) (listed texts : List TypeText) (numbers order : List ℕ) → listed ≡ texts
    → declared_types_of texts ≡ types_at types numbers → numbers ≡ order → declared_types_of listed ≡ types_at types order
are_texts types listed texts numbers order same are these =
    ap (λ (ts : List TypeText). declared_types_of ts) same ∙ are ∙ ap (λ (ns : List ℕ). types_at types ns) these

pub returns-in_err-texts : goal.returns-in_err-texts
returns-in_err-texts c =
    let p = err_from_is_err_and c.from_residual.result c.from_residual.ensures.1 in
    rw (p.1, p.2) (nothing_refused (types_in c.args.order.now.names))

pub returns : goal.returns
returns c =
    let types = types_in c.args.order.now.names in
    let order = c.args.order.now.order.items in
    let texts = declared_types_of c.as_slice-listed.result.now in
    let these : texts ≡ types_at types order =
    are_texts types c.as_slice-listed.result.now c.in_ok-texts.texts.items c.as_slice-numbers.result.now order
    c.as_slice-listed.ensures.value c.in_ok-texts.ensures c.as_slice-numbers.ensures.value in
    MatchResult-weaker c.data_of_types.result c.data_of_types.ensures
    (λ flat data_. flat_in_order types texts order flat c.requires these data_)
    (λ fault refused. refused_in_order types texts order fault c.requires these refused)
