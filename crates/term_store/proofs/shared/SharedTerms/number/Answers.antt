use Rattle.std.proofs.Common.{◌<◌, sym, subst, ℕ}
use Rattle.std.proofs.lemmas.List.{length-map}
use Rattle.term_store.specs.KeyView.{words_of}
use Rattle.term_store.proofs.KeyLemmas.{one_more, stored_key}
use Rattle.term_store.proofs.shared.SharedTerms.number.Goals as goal

pub returns-then-number-clause-more : goal.returns-then-number-clause-more
returns-then-number-clause-more c =
    one_more c.args.self.now.keys.keys c.insert_full.new.self.keys c.args.key c.in_ok-number.ensures.keys

pub returns-clause-more : goal.returns-clause-more
returns-clause-more c = one_more c.args.self.now.keys.keys c.insert_full.new.self.keys c.args.key c.in_ok-number.ensures.keys

pub returns-clause-stands : goal.returns-clause-stands
returns-clause-stands c = record {
  within = subst (λ (many : ℕ). c.in_ok-number.number < many) (sym (length-map c.insert_full.new.self.keys words_of))
      c.in_ok-number.ensures.within;
  is = stored_key c.insert_full.new.self.keys c.args.key c.in_ok-number.number c.in_ok-number.ensures.stored;
}
