use Rattle.std.proofs.Common.{◌≡◌, drop, ◌+◌, ◌*◌}
use Rattle.sort_terms.specs.TermView.{term_of, bare_terms_of}
use Rattle.certificate_theory.proofs.CertificateTests.{each_variable_among}
use Rattle.induct_parts.specs.CertificateView.{use_source_of}
use Rattle.induct_parts.specs.SettingView.{proving_in}
use Rattle.induct_parts.specs.UseView.{closes}
use Rattle.sort_terms.specs.TermSize.{size_of, sizes_of}
use Rattle.induct_parts.proofs.uses.+closed.Given as goal

abbrev pub decreases-is_closed : goal.decreases-is_closed
decreases-is_closed l = 2 * size_of l.term.now

abbrev pub decreases-are_closed : goal.decreases-are_closed
decreases-are_closed l = 2 * sizes_of l.terms.now.items + 1

abbrev pub invariant-are_closed-loop-term : goal.invariant-are_closed-loop-term
invariant-are_closed-loop-term l =
    each_variable_among (closes (proving_in l.proving) (use_source_of l.source) (term_of l.taken)) (bare_terms_of l.terms.items)
    ≡ each_variable_among (closes (proving_in l.proving) (use_source_of l.source) (term_of l.taken))
    (bare_terms_of (drop l.term-index l.term-items))
