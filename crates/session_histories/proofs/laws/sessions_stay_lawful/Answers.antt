use Rattle.std.proofs.Common.{refl}
use Rattle.session_histories.proofs.ProgressLemmas.{stepped_lawful, undone_lawful, undone_back, undone_once, undone_shorter}
use Rattle.session_histories.proofs.laws.sessions_stay_lawful.Goals as goal

pub returns : goal.returns
returns c = record {
  at_start = λ basis first menu. record { start = menu; steps = refl };
  stepped = stepped_lawful;
  undone = undone_lawful;
  back = undone_back;
  once = undone_once;
  shorter = undone_shorter;
}
