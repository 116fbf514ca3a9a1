use Rattle.std.proofs.Common.{◌≡◌, ◌<◌, ℕ, [], Bor, Vec, Global, length, get_or, ap, sym, ◌∙◌, arith}
use Rattle.std.specs.Prelude.{Option, Some, None}
use Rattle.std.specs.Option.{option_map}
use Rattle.std.proofs.lemmas.Option.{slice_get-get_or}
use Rattle.lotos_base.proofs.Members.{numbers_more, read_at}
use Rattle.sort_terms.specs.SortedView.{profiled_in}
use Rattle.sort_terms.specs.ProfiledTerm.{all_bare}
use Rattle.sort_terms.specs.TermView.{profiled_of, term_of}
use Rattle.sort_terms.specs.declared.terms.Term.{Term}
use Rattle.term_match.specs.FoundView.{found_pairs}
use Rattle.term_match.specs.Search.{searched}
use Rattle.path_order.proofs.CodeLemmas.{term_of-Var, term_of-Node}
use Rattle.term_rewriter.proofs.FirstLemmas.{DoesNotMatch, none_matches_variable, candidate_within, tried_none, none_matches, is_first}
use Rattle.term_rewriter.proofs.first_match.first_match.Goals as goal

pub returns-in_default : goal.returns-in_default
returns-in_default c =
    none_matches_variable c.args.rules.now (profiled_of c.args.term.now) c.in_default.field-0 c.in_default.field-1
    (ap term_of c.in_default.is ∙ term_of-Var c.in_default.field-0 c.in_default.field-1)

pub rule_at-requires : goal.rule_at-requires
rule_at-requires c =
    let candidates = c.headed-candidates.result.now in
    let within : c.loop-number.number-index < length c.headed-candidates.result.now = omega arith in
    candidate_within c.args.rules.now c.in-Node.op candidates c.loop-number.number-index
    (get_or candidates c.loop-number.number-index 0) c.headed-candidates.ensures
    (slice_get-get_or candidates c.loop-number.number-index 0 within)

pub returns-in-Some : goal.returns-in-Some
returns-in-Some c =
    let candidates = c.headed-candidates.result.now in
    let within : c.loop-number.number-index < length c.headed-candidates.result.now = omega arith in
    let found : searched (profiled_in c.rule_at.result.now.left) (profiled_of c.args.term.now) [] ≡ Some
    (found_pairs c.in-Some.field-0.items) =
    sym (ap (λ (o : Option (Vec (ℕ × Bor Term) Global)). option_map (λ (pairs : Vec (ℕ × Bor Term) Global). found_pairs pairs.items) o)
    (sym c.in-Some.is)
    ∙ c.in_ok-search.ensures
    ∙ (λ i. searched (profiled_of (c.term-left.ensures i)) (profiled_of c.args.term.now) (found_pairs (c.new.ensures.items i)))) in
    record {
      pairs = found_pairs c.in-Some.field-0.items;
      is_first = is_first c.args.rules.now c.in-Node.op (all_bare c.in-Node.arguments) (profiled_of c.args.term.now) candidates
          c.loop-number.number-index (get_or candidates c.loop-number.number-index 0) c.rule_at.result.now
          (found_pairs c.in-Some.field-0.items)
          (ap term_of c.in-Node.is ∙ term_of-Node c.in-Node.op c.in-Node.profile c.in-Node.arguments) c.headed-candidates.ensures
          c.loop-number.invariant (slice_get-get_or candidates c.loop-number.number-index 0 within) c.rule_at.ensures found;
    }

pub loop-number-preserved : goal.loop-number-preserved
loop-number-preserved c = λ k m before at.
    let candidates = c.headed-candidates.result.now in
    let within : c.loop-number.number-index < length c.headed-candidates.result.now = omega arith in
    let x = get_or candidates c.loop-number.number-index 0 in
    let none : searched (profiled_in c.rule_at.result.now.left) (profiled_of c.args.term.now) [] ≡ None =
    sym (ap (λ (o : Option (Vec (ℕ × Bor Term) Global)). option_map (λ (pairs : Vec (ℕ × Bor Term) Global). found_pairs pairs.items) o)
    (sym c.in_default-2.is)
    ∙ c.in_ok-search.ensures
    ∙ (λ i. searched (profiled_of (c.term-left.ensures i)) (profiled_of c.args.term.now) (found_pairs (c.new.ensures.items i)))) in
    numbers_more (DoesNotMatch c.args.rules.now (profiled_of c.args.term.now)) candidates c.loop-number.number-index x
    (read_at candidates c.loop-number.number-index within) c.loop-number.invariant
    (tried_none c.args.rules.now (profiled_of c.args.term.now) x c.rule_at.result.now c.rule_at.ensures none) k m before at

pub returns : goal.returns
returns c =
    let all : length c.headed-candidates.result.now ≡ c.loop-number.number-index = omega arith in
    none_matches c.args.rules.now c.in-Node.op (all_bare c.in-Node.arguments) (profiled_of c.args.term.now)
    c.headed-candidates.result.now c.loop-number.number-index
    (ap term_of c.in-Node.is ∙ term_of-Node c.in-Node.op c.in-Node.profile c.in-Node.arguments) c.headed-candidates.ensures
    c.loop-number.invariant all
