use Rattle.session_log.proofs.CourseLemmas.{begun}
use Rattle.session_log.proofs.EntryLemmas.{menu_kept}
use Rattle.menu_builder.specs.HandedOn.{menu_entries}
use Rattle.session_log.proofs.courses.Course.open.Goals as goal

pub returns-clause-kept_after : goal.returns-clause-kept_after
returns-clause-kept_after g c =
    begun (g.D.Deciding.known_data c.args.data.now) (g.D.Deciding.canon c.args.data.now) c.args.spec.now _ c.requires.kept
    (menu_kept _ (menu_entries c.in_ok-menu.menu) c.in_ok-menu.ensures.over) c.in_ok-menu.ensures.exact c.new.ensures.items
