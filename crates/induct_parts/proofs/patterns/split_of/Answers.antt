use Rattle.std.proofs.Common.{ap, sym, ◌∙◌, refl}
use Rattle.std.specs.Option.{option_map}
use Rattle.induct_parts.proofs.patterns.split_of.Goals as goal

pub parts-requires-clause-results : goal.parts-requires-clause-results
parts-requires-clause-results c = λ f among.
    c.requires.covers c.args.sort f c.in-Some.operations.now
    (sym c.cover_of.ensures ∙ ap (option_map (λ operations. operations.now)) c.in-Some.is) among

pub returns-in_default-clause-wrong : goal.returns-in_default-clause-wrong
returns-in_default-clause-wrong c =
    (sym c.cover_of.ensures ∙ ap (option_map (λ operations. operations.now)) c.in_default.is, refl)

pub returns-clause-made : goal.returns-clause-made
returns-clause-made c = (
  c.in-Some.operations.now,
  sym c.cover_of.ensures ∙ ap (option_map (λ operations. operations.now)) c.in-Some.is,
  c.in_ok-left.ensures.made,
)
