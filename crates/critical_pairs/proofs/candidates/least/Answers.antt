use Rattle.std.proofs.Common.{◌≡◌, rules, of_calls, Bor, true, false, sym, ◌∙◌, ap}
use Rattle.std.specs.List.Sorted.{IsPartitionPoint}
use Rattle.std.specs.Option.{option_map}
use Rattle.std.specs.Prelude.{ℕ, Option, nat_lt}
use Rattle.std.proofs.lemmas.Fn.{always_returns_same}
use Rattle.critical_pairs.proofs.CandidateLemmas.{lesser_at, least_answer, parted}
use Rattle.critical_pairs.proofs.candidates.least.Goals as goal

pub returns-in-None : goal.returns-in-None
returns-in-None c =
    let point : IsPartitionPoint (λ (n : ℕ). nat_lt n c.args.from ≡ true) (λ (n : ℕ). nat_lt n c.args.from ≡ false) c.args.numbers.now
    c.partition_point-position.result =
    c.partition_point-position.ensures.partitioned (λ n. nat_lt n c.args.from)
    (always_returns_same _ _ _ (λ a r f k. search (rules, of_calls)))
    (parted c.args.numbers.now c.args.from c.requires) in
    ap (λ (r : Option (Bor ℕ)). lesser_at c.args.known (option_map (λ (x : Bor ℕ). x.now) r)) (sym c.in-None.is)
    ∙ least_answer c.args.from c.args.known c.args.numbers.now c.partition_point-position.result c.get.result c.requires point
    c.get.ensures.lookup.0 c.get.ensures.lookup.1

pub returns-in-Some : goal.returns-in-Some
returns-in-Some c =
    let point : IsPartitionPoint (λ (n : ℕ). nat_lt n c.args.from ≡ true) (λ (n : ℕ). nat_lt n c.args.from ≡ false) c.args.numbers.now
    c.partition_point-position.result =
    c.partition_point-position.ensures.partitioned (λ n. nat_lt n c.args.from)
    (always_returns_same _ _ _ (λ a r f k. search (rules, of_calls)))
    (parted c.args.numbers.now c.args.from c.requires) in
    c.lesser.ensures
    ∙ ap (λ (r : Option (Bor ℕ)). lesser_at c.args.known (option_map (λ (x : Bor ℕ). x.now) r)) (sym c.in-Some.is)
    ∙ least_answer c.args.from c.args.known c.args.numbers.now c.partition_point-position.result c.get.result c.requires point
    c.get.ensures.lookup.0 c.get.ensures.lookup.1
