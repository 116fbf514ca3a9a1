use Rattle.std.proofs.Common.{◌≡◌, ◌<◌, [], Bool, length, get_or, ap, sym, ◌∙◌, arith}
use Rattle.std.specs.Prelude.{Some, None}
use Rattle.std.proofs.lemmas.Option.{slice_get-get_or, slice_get_within}
use Rattle.lotos_base.proofs.Members.{numbers_more, read_at}
use Rattle.sort_terms.specs.SortedView.{profiled_in}
use Rattle.sort_terms.specs.TermView.{profiled_of}
use Rattle.term_store.specs.FirstRule.{MatchesNot}
use Rattle.term_store.specs.NumberSearch.{found_if, number_searched}
use Rattle.term_store.specs.SharedView.{keys_in}
use Rattle.term_store.proofs.FirstRuleLemmas.{rule_not, rule_found}
use Rattle.term_store.proofs.first_rule.first_among.Goals as goal

pub rule_at-requires : goal.rule_at-requires
rule_at-requires c =
    let candidates = c.args.candidates.now in
    let within : c.loop-candidate.candidate-index < length c.args.candidates.now = omega arith in
    c.requires.numbers c.loop-candidate.candidate-index (get_or candidates c.loop-candidate.candidate-index 0)
    (slice_get-get_or candidates c.loop-candidate.candidate-index 0 within)

pub returns-then-branch : goal.returns-then-branch
returns-then-branch c =
    let candidates = c.args.candidates.now in
    let within : c.loop-candidate.candidate-index < length c.args.candidates.now = omega arith in
    let found : Some c.search.new.found.items
    ≡ number_searched (keys_in c.args.shared.now) (profiled_in c.rule_at.result.now.left) c.args.number [] =
    ap (λ (fits : Bool). found_if fits c.search.new.found.items) (sym c.if-branch.true)
    ∙ c.in_ok-search.ensures
    ∙ (λ i. number_searched (keys_in c.args.shared.now) (profiled_of (c.term-left.ensures i)) c.args.number (c.clear.ensures.items i)) in
    rule_found c.args.rules.now (keys_in c.args.shared.now) c.args.number candidates c.loop-candidate.candidate-index
    (get_or candidates c.loop-candidate.candidate-index 0) c.rule_at.result.now c.search.new.found.items c.requires.have
    c.requires.within c.loop-candidate.invariant (slice_get-get_or candidates c.loop-candidate.candidate-index 0 within)
    c.rule_at.ensures found

pub loop-candidate-preserved : goal.loop-candidate-preserved
loop-candidate-preserved c = λ k m before at.
    let candidates = c.args.candidates.now in
    let within : c.loop-candidate.candidate-index < length c.args.candidates.now = omega arith in
    let x = get_or candidates c.loop-candidate.candidate-index 0 in
    let none : None ≡ number_searched (keys_in c.args.shared.now) (profiled_in c.rule_at.result.now.left) c.args.number [] =
    ap (λ (fits : Bool). found_if fits c.search.new.found.items) (sym c.if-branch.false)
    ∙ c.in_ok-search.ensures
    ∙ (λ i. number_searched (keys_in c.args.shared.now) (profiled_of (c.term-left.ensures i)) c.args.number (c.clear.ensures.items i)) in
    numbers_more (MatchesNot c.args.rules.now (keys_in c.args.shared.now) c.args.number) candidates c.loop-candidate.candidate-index x
    (read_at candidates c.loop-candidate.candidate-index within) c.loop-candidate.invariant
    (rule_not c.args.rules.now (keys_in c.args.shared.now) c.args.number x c.rule_at.result.now c.requires.have c.requires.within
    c.rule_at.ensures none) k m before at

pub returns : goal.returns
returns c = λ i m at.
    let within = slice_get_within c.args.candidates.now i m at in
    c.loop-candidate.invariant i m (omega (arith, within, c.loop-candidate-test.false)) at
