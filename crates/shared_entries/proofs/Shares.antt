-- Shares of a menu: the entries whose shapes have a property. Shares in order make up the menu.
use Rattle.std.proofs.Common.{◌≡◌, ◌⊎◌, inl, inr, List, [], ◌++◌, Some, sym, subst}
use Rattle.lotos_base.specs.Term.{Term}
use Rattle.lotos_base.specs.Equation.{Data}
use Rattle.behaviour_semantics.specs.Behaviour.{Behaviour, Specification}
use Rattle.behaviour_semantics.specs.Shape.{Shape, Before}
use Rattle.behaviour_semantics.specs.Draft.{Draft, draft_of}
use Rattle.behaviour_semantics.specs.Solving.{Entry}
use Rattle.behaviour_semantics.specs.Menu.{Exact}
use Rattle.behaviour_semantics.specs.Listing.{IsAmong}
use Rattle.behaviour_semantics.specs.WellFormed.{AreOver}
use Rattle.behaviour_semantics.proofs.ListLemmas.{IsAmong-left, IsAmong-right, IsAmong-filter_map}
use Rattle.behaviour_semantics.proofs.OptionLemmas.{tested}
use Rattle.shared_entries.specs.PartRule.{PartRule, changed, by_rule, all_by_rule}
use Rattle.shared_entries.proofs.RisingLists.{RisingBy, entry_shape, rising_append, rising_filter_map, CameFrom, from_filter_map, from_append}
use Rattle.shared_entries.proofs.SolvedMenus.{IsSolvedForm, form_shape, IsMenu, exact_of}
use Rattle.shared_entries.proofs.RuleMenus.{ComesBy, Carries}

-- The shape has this variant.
abbrev pub IsBelow : (Shape → Shape) → Shape → Type 0
IsBelow variant s = (t : Shape) × (s ≡ variant t)

module _ (data_ : Data) (canon : Term → Term) (specification : Specification) where
  -- The entries with such a shape.
  pub record IsShare (whole : Behaviour) (P : Shape → Type 0) (entries : List Entry) : Type 0 where
    pub rising : RisingBy entry_shape entries
    pub sound : (e : Entry) → IsAmong e entries → P e.shape × IsSolvedForm data_ canon specification whole e.shape e
    pub complete : (s : Shape) (e : Entry) → P s → IsSolvedForm data_ canon specification whole s e → IsAmong e entries

  pub no_share : (whole : Behaviour) (P : Shape → Type 0)
      → ((s : Shape) (e : Entry) → P s → IsSolvedForm data_ canon specification whole s e → ⊥) → IsShare whole P []
  no_share whole P never = record { rising = tt; sound = λ e a. absurd a; complete = λ s e p f. never s e p f }

  -- What a rule makes of the menu of the part.
  pub rule_share : (rule : PartRule) (whole part : Behaviour) → Carries data_ canon specification rule whole part
      → (entries : List Entry) → IsMenu data_ canon specification part entries
      → IsShare whole (IsBelow rule.variant) (all_by_rule rule entries)
  rule_share rule whole part carries entries menu = record {
    rising = rising_filter_map (by_rule rule) entry_shape entry_shape
        (λ x x' y y' e e' before.
        subst (λ (z : Entry). Before z.shape y'.shape) (tested (rule.applies x.label) (changed rule x) e).1
        (subst (λ (z : Entry). Before (rule.variant x.shape) z.shape) (tested (rule.applies x'.label) (changed rule x') e').1
        (carries.keeps x.shape x'.shape before)))
        entries menu.rising;
    sound = λ e a.
        let from : CameFrom (by_rule rule) entries e = from_filter_map (by_rule rule) entries e a in
        let form : IsSolvedForm data_ canon specification whole (rule.variant from.origin.shape) e =
        carries.forward from.origin.shape from.origin e (menu.sound from.origin from.listed) from.gives in
        let shape : e.shape ≡ rule.variant from.origin.shape =
        form_shape data_ canon specification whole (rule.variant from.origin.shape) e form in (
          (from.origin.shape, shape),
          subst (λ (s : Shape). IsSolvedForm data_ canon specification whole s e) (sym shape) form,
        );
    complete = λ s e below f.
        let from : ComesBy data_ canon specification rule part below.0 e =
        carries.back below.0 e (subst (λ (t : Shape). IsSolvedForm data_ canon specification whole t e) below.1 f) in
        IsAmong-filter_map (by_rule rule) from.entry e entries from.gives (menu.complete below.0 from.entry from.form);
  }

  -- Two shares, one behind the other.
  pub both_shares : (whole : Behaviour) (P Q : Shape → Type 0) (first second : List Entry)
      → IsShare whole P first → IsShare whole Q second → ((s t : Shape) → P s → Q t → Before s t)
      → IsShare whole (λ s. P s ⊎ Q s) (first ++ second)
  both_shares whole P Q first second one two before = record {
    rising = rising_append entry_shape first second one.rising two.rising
        (λ x y a b. before x.shape y.shape (one.sound x a).0 (two.sound y b).0);
    sound = λ e a. by e (from_append e first second a);
    complete = λ s e p f. back s e f p;
  }
    where
      by : (e : Entry) → IsAmong e first ⊎ IsAmong e second
          → (P e.shape ⊎ Q e.shape) × IsSolvedForm data_ canon specification whole e.shape e
      by e (inl a) = let f = one.sound e a in (inl f.0, f.1)
      by e (inr a) = let f = two.sound e a in (inr f.0, f.1)

      back : (s : Shape) (e : Entry) → IsSolvedForm data_ canon specification whole s e → P s ⊎ Q s → IsAmong e (first ++ second)
      back s e f (inl p) = IsAmong-left e first second (one.complete s e p f)
      back s e f (inr q) = IsAmong-right e first second (two.complete s e q f)

  -- A share of all shapes that fit is the menu.
  pub whole_share : (whole : Behaviour) (P : Shape → Type 0) (entries : List Entry) → AreOver data_ canon specification whole
      → IsShare whole P entries
      → ((s : Shape) (draft : Draft) → draft_of data_ canon specification.processes s whole ≡ Some draft → P s)
      → Exact data_ canon specification.processes whole entries
  whole_share whole P entries over share fits =
      exact_of data_ canon specification whole entries over (record {
        rising = share.rising;
        sound = λ e a. (share.sound e a).1;
        complete = λ s e f. share.complete s e (fits s f.draft f.drafted) f;
      })

  -- A share by another property that says the same.
  pub other_property : (whole : Behaviour) (P Q : Shape → Type 0) (entries : List Entry)
      → ((s : Shape) → P s → Q s) → ((s : Shape) → Q s → P s)
      → IsShare whole P entries → IsShare whole Q entries
  other_property whole P Q entries there back share = record {
    rising = share.rising;
    sound = λ e a. let f = share.sound e a in (there e.shape f.0, f.1);
    complete = λ s e q f. share.complete s e (back s q) f;
  }
