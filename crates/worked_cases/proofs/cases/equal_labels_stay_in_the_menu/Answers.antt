use Rattle.worked_cases.proofs.MenuCaseLemmas.{are_over, exact_three, with_second, not_by_first}
use Rattle.worked_cases.proofs.cases.equal_labels_stay_in_the_menu.Goals as goal

pub returns : goal.returns
returns c = record { over = are_over; exact = exact_three; with_d = with_second; not_by_the_first = not_by_first }
