-- What is said of an option, said in other words.
use Rattle.std.proofs.Common.{◌≡◌, List, Option, None, Some}
use Rattle.std.specs.Prelude.{MatchOption, Result, Ok, Err, OnOk, IfOk}
use Rattle.std.proofs.Common.{sym, subst}
use Rattle.induct_check.specs.CertificateReading.{OpenPart, LineTask, line_task_of}
use Rattle.induct_check.specs.CertificateLines.{LineForm}
use Rattle.induct_parts.specs.CertificateView.{covers_in}
use Rattle.induct_parts.specs.declared.certificates.Cover.{Cover}
use Rattle.induct_check.specs.PieceView.{IsUnderstood}
use Rattle.induct_check.specs.declared.pieces.LineOutcome.{LineOutcome}
use Rattle.lotos_base.specs.Signature.{Signature}

pub match_more : {T : Type 0} (P R : Type 0) (Q S : T → Type 0) (o : Option T) → (P → R) → ((x : T) → Q x → S x) → MatchOption o P Q
    → MatchOption o R S
match_more P R Q S None none some h = none h
match_more P R Q S (Some x) none some h = some x h

pub on_ok_more : {E : Type 0} (P Q : Type 0) (r : Result (Unit {0}) E) → (P → Q) → OnOk r P → OnOk r Q
on_ok_more P Q (Ok x) more h = more h
on_ok_more P Q (Err e) more h = tt

-- what becomes of a line, by another name of what it asks for
pub moved : {E : Type 0} (signature : Signature) (task other : LineTask) (r q : Result LineOutcome E) → task ≡ other → q ≡ r
    → IfOk r (IsUnderstood signature task) → IfOk q (IsUnderstood signature other)
moved {E = E} signature task other r q same is h =
    subst (λ (x : Result LineOutcome E). IfOk x (IsUnderstood signature other)) (sym is)
    (subst (λ (t : LineTask). IfOk r (IsUnderstood signature t)) same h)

-- what becomes of a line, over the covers that were read
pub over_covers : (signature : Signature) (xs ys : List Cover) (part : OpenPart) (form : LineForm) (o q : LineOutcome) → xs ≡ ys → o ≡ q
    → IsUnderstood signature (line_task_of signature (covers_in xs) part form) o
    → IsUnderstood signature (line_task_of signature (covers_in ys) part form) q
over_covers signature xs ys part form o q same is h =
    subst (λ (x : LineOutcome). IsUnderstood signature (line_task_of signature (covers_in ys) part form) x) is
    (subst (λ (cs : List Cover). IsUnderstood signature (line_task_of signature (covers_in cs) part form) o) same h)
