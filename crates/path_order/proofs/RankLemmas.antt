-- Ranks of operations, of which some are listed.
use Rattle.std.proofs.Common.{◌≡◌, ℕ, ◌-◌, ◌<◌, ◌≤◌, List, length, map, refl, ap, sym, ◌∙◌, subst, inl, inr, arith, Bool, true, false}
use Rattle.std.specs.Prelude.{Some, slice_get, slice_index, ◌↔◌}
use Rattle.std.proofs.lemmas.List.{length-map}
use Rattle.std.proofs.lemmas.Option.{slice_get_within}
use Rattle.path_order.specs.Contains.{contains, IsOnce}
use Rattle.lotos_base.specs.WrittenView.{listed_operation_of}
use Rattle.lotos_base.specs.declared.written_terms.OrderItem.{OrderItem}
use Rattle.sort_terms.specs.Operations.{operation_of}
use Rattle.sort_terms.specs.SignatureView.{signature_of}
use Rattle.sort_terms.specs.declared.operations.Op.{Op}
use Rattle.sort_terms.specs.declared.signatures.Signature.{Signature as CodeSignature}
use Rattle.path_order.specs.Listing.{AreListedByItems, IsFineItem, IsNumberIn, IsAbove, AreRanksBy}
use Rattle.path_order.proofs.Numbers.{contains_in, not_contains}

-- The first so many of the listed operations have their ranks, all others their numbers.
pub record AreRanked (listing ranks : List ℕ) (i : ℕ) : Type 0 where
  pub listed : (k f : ℕ) → k < i → slice_get listing k ≡ Some f → slice_index ranks f ≡ 4294967295 - k
  pub others : (f : ℕ) → f < length ranks → ((k : ℕ) → k < i → slice_get listing k ≡ Some f → ⊥) → slice_index ranks f ≡ f

-- ---- ranks tell the order

pub ranks_tell : (listing ranks : List ℕ) (count f g : ℕ) → count < 2147483648 → length listing < 2147483648
    → ((k h : ℕ) → slice_get listing k ≡ Some h → slice_index ranks h ≡ 4294967295 - k)
    → ((h : ℕ) → h < count → ¬ IsNumberIn listing h → slice_index ranks h ≡ h) → f < count → g < count
    → IsOnce listing → (slice_index ranks g < slice_index ranks f) ↔ IsAbove listing f g
ranks_tell listing ranks count f g few short listed others in_f in_g once =
    (forth (contains f listing) refl (contains g listing) refl, back)
  where
    forth : (b : Bool) → contains f listing ≡ b → (d : Bool) → contains g listing ≡ d
        → slice_index ranks g < slice_index ranks f → IsAbove listing f g
    forth true e true h less =
        let one = contains_in f listing e in
        let two = contains_in g listing h in
        let a = listed one.0 f one.1 in
        let b = listed two.0 g two.1 in
        let i = slice_get_within listing one.0 f one.1 in
        let j = slice_get_within listing two.0 g two.1 in
        inl (record {
          first = one.0;
          second = two.0;
          is_first = one.1;
          is_second = two.1;
          before = omega (arith, less, a, b, i, j, short);
        })
    forth true e false h less = inr (inl (contains_in f listing e, not_contains g listing h))
    forth false e true h less =
        let two = contains_in g listing h in
        let a = others f in_f (not_contains f listing e) in
        let b = listed two.0 g two.1 in
        let j = slice_get_within listing two.0 g two.1 in
        absurd (omega (arith, less, a, b, j, short, few, in_f))
    forth false e false h less =
        let a = others f in_f (not_contains f listing e) in
        let b = others g in_g (not_contains g listing h) in
        inr (inr (not_contains f listing e, not_contains g listing h, omega (arith, less, a, b)))

    back : IsAbove listing f g → slice_index ranks g < slice_index ranks f
    back (inl stands) =
        let a = listed stands.first f stands.is_first in
        let b = listed stands.second g stands.is_second in
        let j = slice_get_within listing stands.second g stands.is_second in
        let before = stands.before in omega (arith, a, b, j, before, short)
    back (inr (inl (there, none))) =
        let a = listed there.0 f there.1 in
        let b = others g in_g none in
        let i = slice_get_within listing there.0 f there.1 in omega (arith, a, b, i, short, few, in_g)
    back (inr (inr (none_f, none_g, later))) =
        let a = others f in_f none_f in
        let b = others g in_g none_g in omega (arith, a, b, later)

-- the ranks that the code makes
pub ranks_by : (signature : CodeSignature) (order : List OrderItem) (ops : List Op) (listing measured given ranks : List ℕ)
    → ops ≡ signature.ops.items → measured ≡ listing → given ≡ listing → length ops ≤ 2147483647 → length measured ≤ 2147483647
    → IsOnce listing
    → AreListedByItems (signature_of signature) (map listed_operation_of order) listing
    → ((k : ℕ) → IsFineItem (signature_of signature) (map listed_operation_of order) k)
    → ((j f : ℕ) → slice_get given j ≡ Some f → slice_index ranks f ≡ 4294967295 - j)
    → ((f : ℕ) → f < length ops → ¬ IsNumberIn given f → slice_index ranks f ≡ f)
    → AreRanksBy (signature_of signature) (map listed_operation_of order) ranks
ranks_by signature order ops listing measured given ranks ops_are measured_is given_is few short once in_order fine listed others = record {
  listing = listing;
  listed = in_order;
  fine = fine;
  above = λ f g in_f in_g.
      ranks_tell listing ranks (length ops) f g (omega (arith, few)) (omega (arith, short, lengths)) listed_in others_in
      (omega (arith, in_f, long)) (omega (arith, in_g, long)) once;
}
  where
    long : length (signature_of signature).operations ≡ length ops
    long = length-map signature.ops.items operation_of ∙ ap (λ (xs : List Op). length xs) (sym ops_are)

    lengths : length measured ≡ length listing
    lengths = ap (λ (xs : List ℕ). length xs) measured_is

    listed_in : (k h : ℕ) → slice_get listing k ≡ Some h → slice_index ranks h ≡ 4294967295 - k
    listed_in k h at = listed k h (ap (λ (xs : List ℕ). slice_get xs k) given_is ∙ at)

    others_in : (h : ℕ) → h < length ops → ¬ IsNumberIn listing h → slice_index ranks h ≡ h
    others_in h within none = others h within (subst (λ (xs : List ℕ). ¬ IsNumberIn xs h) (sym given_is) none)
