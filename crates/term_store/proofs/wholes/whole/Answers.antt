use Rattle.std.proofs.Common.{◌∙◌, ap, subst, ℕ, List}
use Rattle.std.proofs.lemmas.Result.{IfOk-weaker}
use Rattle.term_store.specs.Cells.{HasOneMore, KeyStandsAt, numbered_operation_key}
use Rattle.term_store.specs.SharedView.{keys_in}
use Rattle.term_store.proofs.WholeLemmas.{whole_of_variable, whole_of_operation}
use Rattle.term_store.proofs.wholes.whole.Goals as goal

pub returns-in-None-clause-stands : goal.returns-in-None-clause-stands
returns-in-None-clause-stands c = record {
  within = c.requires;
  is = whole_of_variable c.args.forms.now.kept.items (keys_in c.args.forms.now.shared) c.args.number
      c.head_of_whole.new.numbers.items c.in_ok-head_of_whole.field-0 c.in-None.is c.in_ok-head_of_whole.ensures;
}

pub returns-in-Some-clause-more : goal.returns-in-Some-clause-more
returns-in-Some-clause-more c =
    let keys = keys_in c.args.forms.now.shared in
    let key = ap (λ (ns : List ℕ). numbered_operation_key c.in-Some.op ns) c.as_slice.ensures.value
    ∙ whole_of_operation c.args.forms.now.kept.items keys c.args.number c.head_of_whole.new.numbers.items c.in-Some.op
    c.in_ok-head_of_whole.field-0 c.in-Some.is c.in_ok-head_of_whole.ensures in
    subst (λ (k : List ℕ). HasOneMore keys k (keys_in c.number_on.new.self)) key c.number_on.ensures.more

pub returns-in-Some-clause-stands : goal.returns-in-Some-clause-stands
returns-in-Some-clause-stands c =
    let keys = keys_in c.args.forms.now.shared in
    let key = ap (λ (ns : List ℕ). numbered_operation_key c.in-Some.op ns) c.as_slice.ensures.value
    ∙ whole_of_operation c.args.forms.now.kept.items keys c.args.number c.head_of_whole.new.numbers.items c.in-Some.op
    c.in_ok-head_of_whole.field-0 c.in-Some.is c.in_ok-head_of_whole.ensures in
    IfOk-weaker c.number_on.result _ _ (λ n is. subst (λ (k : List ℕ). KeyStandsAt (keys_in c.number_on.new.self) k n) key is)
    c.number_on.ensures.stands
