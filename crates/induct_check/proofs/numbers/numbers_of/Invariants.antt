use Rattle.std.proofs.Common.{◌≡◌, drop, map}
use Rattle.induct_check.specs.CertificateLines.{numbers_of_words}
use Rattle.induct_check.proofs.NumberLemmas.{behind_numbers}
use Rattle.induct_check.proofs.numbers.numbers_of.Given as goal

abbrev pub invariant-loop-word : goal.invariant-loop-word
invariant-loop-word l =
    numbers_of_words (map (λ w. w.now) l.words)
    ≡ behind_numbers l.path.items (numbers_of_words (map (λ w. w.now) (drop l.word-index l.words)))
