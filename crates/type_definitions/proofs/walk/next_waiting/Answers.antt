use Rattle.std.proofs.Common.{◌≡◌, ◌<◌, ◌≤◌, ℕ, true, false, get_or, inl, inr, sym, subst, ◌∙◌, arith}
use Rattle.std.proofs.lemmas.Bool.{cases_lt}
use Rattle.type_definitions.specs.ProgressTests.{is_done}
use Rattle.type_definitions.specs.Walking.{progress_at}
use Rattle.type_definitions.specs.declared.walk.Progress.TheVariants.{Done}
use Rattle.type_definitions.proofs.MentionWalkLemmas.{done_is, not_done}
use Rattle.type_definitions.proofs.walk.next_waiting.Goals as goal

pub bounds-progress-number : goal.bounds-progress-number
bounds-progress-number c = c.requires c.loop-position.position c.loop-position-test.true

pub returns-then-not-done : goal.returns-then-not-done
returns-then-not-done c =
    let e : false ≡ is_done (progress_at c.args.progress.now (get_or c.args.mentioned.now c.loop-position.position 0)) = cc in record {
      not_before = c.loop-position.auto.position;
      within = c.loop-position-test.true;
      waits = not_done (progress_at c.args.progress.now (get_or c.args.mentioned.now c.loop-position.position 0)) e;
      passed = c.loop-position.invariant;
    }

pub loop-position-preserved : goal.loop-position-preserved
loop-position-preserved c = λ k from below.
    let e : true ≡ is_done (progress_at c.args.progress.now (get_or c.args.mentioned.now c.loop-position.position 0)) = cc in
    elim (cases_lt k c.loop-position.position) [
      | inl before ↦ c.loop-position.invariant k from before
      | inr as_far ↦
          let same : c.loop-position.position ≡ k = omega arith in
          subst (λ (i : ℕ). progress_at c.args.progress.now (get_or c.args.mentioned.now i 0) ≡ Done) same
          (done_is (progress_at c.args.progress.now (get_or c.args.mentioned.now c.loop-position.position 0)) e)
    ]
