-- What was accepted has one session to begin: one order of rules with their normal forms, one state and one menu.
use Rattle.std.specs.Prelude.{◌≡◌, List}
use Rattle.lotos_top.specs.HandedOn.{Beginning, Asked, Acceptance, IsAccepted, goes_on, GotFile}
use Rattle.lotos_top.specs.Opening.{SessionBegins}

abbrev pub SessionsBeginOnce : Type 0
SessionsBeginOnce = (asked : Asked) (files : List GotFile) (acceptance : Acceptance) (one other : Beginning)
    → IsAccepted asked files (goes_on acceptance)
    → SessionBegins acceptance one
    → SessionBegins acceptance other
    → one ≡ other
