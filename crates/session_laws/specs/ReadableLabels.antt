-- What a session shows as labels is read back from what is printed.
use Rattle.std.specs.Prelude.{List}
use Rattle.session_laws.specs.MenuReadings.{MenuIsReadBack}
use Rattle.lotos_top.specs.HandedOn.{Beginning, Standing, IsReached, Asked, Acceptance, IsAccepted, goes_on, GotFile}
use Rattle.lotos_top.specs.Opening.{SessionBegins}

-- it is so in every state that a session of an accepted specification reaches
abbrev pub SessionsShowReadableLabels : Type 0
SessionsShowReadableLabels = (asked : Asked) (files : List GotFile) (acceptance : Acceptance) (begun : Beginning) (standing : Standing)
    → IsAccepted asked files (goes_on acceptance)
    → SessionBegins acceptance begun
    → IsReached begun standing
    → MenuIsReadBack acceptance.data_ acceptance.spec standing.progress.situation.state standing.progress.situation.menu
