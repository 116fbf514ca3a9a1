-- What is known of twins stays so when it grows.
use Rattle.std.proofs.Common.{◌≡◌, ℕ, Bool, true, false, refl, ap, sym, ◌∙◌, nat_eq}
use Rattle.std.specs.Prelude.{Option, None, Some, if◌then◌else◌, slice_get}
use Rattle.std.proofs.lemmas.Option.{same_Some}
use Rattle.std.proofs.lemmas.Bool.{eqb-true}
use Rattle.lotos_base.specs.Signature.{Operation, Signature}
use Rattle.lotos_base.specs.Twins.{has_twin}
use Rattle.printed_texts.specs.KnownTwins.{AreKnownOf}

-- nothing is known
pub none_known : (s : Signature) (known : ℕ → Option Bool) → ((n : ℕ) → known n ≡ None) → AreKnownOf s known
none_known s known none = λ n o b at is. let e : None ≡ Some b = sym (none n) ∙ is in cc

-- one operation more
pub one_known : (s : Signature) (before after : ℕ → Option Bool) (number : ℕ) (operation : Operation) (found : Bool) → AreKnownOf s before
    → Some operation ≡ slice_get s.operations number → found ≡ has_twin s operation
    → ((n : ℕ) → after n ≡ (if nat_eq n number then Some found else before n)) → AreKnownOf s after
one_known s before after number operation found known at so grown = λ n o b there is.
    go n o b (nat_eq n number) refl there (sym (grown n) ∙ is)
  where
    go : (n : ℕ) (o : Operation) (b : Bool) (test : Bool) → nat_eq n number ≡ test → Some o ≡ slice_get s.operations n
        → (if test then Some found else before n) ≡ Some b → b ≡ has_twin s o
    go n o b true here there is =
        let same : n ≡ number = eqb-true n number here in
        let one : Some operation ≡ Some o = at ∙ ap (slice_get s.operations) (sym same) ∙ sym there in
        sym (same_Some found b is) ∙ so ∙ ap (has_twin s) (same_Some operation o one)
    go n o b false here there is = known n o b there is
