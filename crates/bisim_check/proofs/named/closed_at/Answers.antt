use Rattle.std.proofs.Common.{refl, sym, ◌∙◌, subst, arith}
use Rattle.std.proofs.lemmas.Bool.Decides.{nat_tests}
use Rattle.std.proofs.lemmas.List.{nil_from_length}
use Rattle.std.proofs.lemmas.Option.{none-some}
use Rattle.behaviour_semantics.proofs.OptionLemmas.{some_value}
use Rattle.bisim_check.specs.Readings.{IsClosedOne}
use Rattle.bisim_check.proofs.SurveyLemmas.{some_member}
use Rattle.bisim_check.proofs.named.closed_at.Goals as goal

pub returns-in-None : goal.returns-in-None
returns-in-None c = λ entry there. absurd (none-some entry (c.in-None.ensures ∙ there))

pub returns-then-not-is_empty : goal.returns-then-not-is_empty
returns-then-not-is_empty c =
    let entry = c.in-Some.entry.now in
    record {
      is = refl;
      position = c.args.position;
      entry = entry;
      there = sym c.in-Some.ensures;
      is_open = some_member entry.vars.items
          (λ none. grind (arith, nat_tests, entry.vars.ok.0, c.is_empty.ensures, c.if-not-is_empty.true));
    }

pub returns-else-not-is_empty : goal.returns-else-not-is_empty
returns-else-not-is_empty c = λ entry there.
    let own = c.in-Some.entry.now in
    subst IsClosedOne (some_value (c.in-Some.ensures ∙ there))
    (nil_from_length own.vars.items (grind (arith, nat_tests, own.vars.ok.0, c.is_empty.ensures, c.if-not-is_empty.false)))
