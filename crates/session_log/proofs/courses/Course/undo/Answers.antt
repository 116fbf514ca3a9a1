use Rattle.std.proofs.Common.{refl, sym, ◌∙◌}
use Rattle.session_log.proofs.CourseLemmas.{dropped_last, kept_undone, nothing_undone, kept_nothing}
use Rattle.session_log.proofs.courses.Course.undo.Goals as goal

pub returns-in-None-clause-undone : goal.returns-in-None-clause-undone
returns-in-None-clause-undone c =
    nothing_undone c.args.self.now _ (sym c.args.self.now.history.ok.0 ∙ c.in-None.ensures.cases.0) c.in-None.ensures.items

pub returns-in-None-clause-kept_after : goal.returns-in-None-clause-kept_after
returns-in-None-clause-kept_after c =
    λ data_ canon spec kept. kept_nothing data_ canon spec c.args.self.now _ c.in-None.ensures.items refl refl kept

pub returns-in-Some-clause-undone : goal.returns-in-Some-clause-undone
returns-in-Some-clause-undone c = dropped_last c.args.self.now c.in-Some.past _ c.in-Some.ensures.items

pub returns-in-Some-clause-kept_after : goal.returns-in-Some-clause-kept_after
returns-in-Some-clause-kept_after c =
    λ data_ canon spec kept. kept_undone data_ canon spec c.args.self.now _ c.in-Some.past c.in-Some.ensures.items refl refl kept
