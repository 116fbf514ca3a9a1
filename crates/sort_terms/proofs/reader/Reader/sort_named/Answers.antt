use Rattle.std.proofs.Common.{rules, ◌<◌, ◌^◌, sym, ap, ◌∙◌, arith}
use Rattle.std.specs.Prelude.{Some, None}
use Rattle.lotos_base.proofs.Members.{from_map, at_map}
use Rattle.lotos_base.specs.Name.{spelling}
use Rattle.lotos_base.specs.Names.{folded}
use Rattle.lotos_base.specs.Signature.{Sort as PlainSort}
use Rattle.sort_terms.specs.Operations.{sort_of}
use Rattle.sort_terms.specs.declared.operations.Sort.{Sort}
use Rattle.sort_terms.proofs.PositionLemmas.{last_at_place}
use Rattle.sort_terms.proofs.ScopeLemmas.{last_member, no_member}
use Rattle.sort_terms.proofs.reader.Reader.sort_named.Goals as goal

pub returns-in_default : goal.returns-in_default
returns-in_default c = λ s named.
    let member = from_map sort_of c.args.self.now.signature.now.sorts.items s named.0 named.1 in
    no_member (λ (x : Sort). spelling x.name) c.args.self.now.signature.now.sorts.items _
    (last_at_place _ _ c.in_ok-numbers.numbers.now None (c.in_ok-numbers.ensures
    ∙ c.args.self.now.sorts_indexed _) c.in_default.ensures.value)
    s member.0 member.1 (sym (ap (λ (x : PlainSort). folded x.name) member.2 ∙ named.2))

pub overflow_cast-number : goal.overflow_cast-number
overflow_cast-number c =
    let last = last_member (λ (x : Sort). spelling x.name) c.args.self.now.signature.now.sorts.items _ c.in-Some.last.now
    (last_at_place _ _ c.in_ok-numbers.numbers.now (Some c.in-Some.last.now)
    (c.in_ok-numbers.ensures ∙ c.args.self.now.sorts_indexed _) c.in-Some.ensures.value) in
    let few = c.args.self.now.signature.now.few_sorts in
    let small : c.in-Some.last.now < 2 ^ 32 = omega (arith, last.3, few) in
    search rules

pub returns : goal.returns
returns c =
    let last = last_member (λ (x : Sort). spelling x.name) c.args.self.now.signature.now.sorts.items _ c.in-Some.last.now
    (last_at_place _ _ c.in_ok-numbers.numbers.now (Some c.in-Some.last.now)
    (c.in_ok-numbers.ensures ∙ c.args.self.now.sorts_indexed _) c.in-Some.ensures.value) in
    let here = at_map sort_of c.args.self.now.signature.now.sorts.items c.in-Some.last.now last.0 last.1 in (
      (sort_of last.0, here, sym last.2),
      (λ s named. c.args.self.now.signature.now.well_formed.sort_names s c.in-Some.last.now named.0 (sort_of last.0) named.1 here
          (named.2 ∙ last.2)),
    )
