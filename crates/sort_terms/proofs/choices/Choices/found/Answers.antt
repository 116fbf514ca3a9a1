use Rattle.std.proofs.Common.{◌<◌, inr, length, arith}
use Rattle.sort_terms.proofs.ChoiceLemmas.{two_entries, one_entry}
use Rattle.sort_terms.proofs.choices.Choices.found.Goals as goal

pub returns-then-len-gt1 : goal.returns-then-len-gt1
returns-then-len-gt1 c =
    let many = c.if-len-gt1.true in
    let as_many = c.len.ensures.len in
    inr (two_entries c.args.self.now.by_sort.entries (omega (arith, many, as_many)) c.len.ensures.ordered)

pub returns : goal.returns
returns c = (
  (c.in-Some.choice.now, c.in-Some.ensures.value, c.if-choice.false),
  one_entry c.args.self.now.by_sort.entries c.in-Some.sort.now c.in-Some.choice.now few c.in-Some.ensures.first,
)
  where
    few : 1 < length c.args.self.now.by_sort.entries → ⊥
    few many =
        let not_many = c.if-len-gt1.false in
        let as_many = c.len.ensures.len in
        omega (arith, many, not_many, as_many)
