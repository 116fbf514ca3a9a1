-- Whether a rule applies hangs on the kind of a label alone, the label that it gives does not hang on terms, and its variant
-- keeps the order of shapes.
use Rattle.std.proofs.Common.{◌≡◌, ℕ, List, [], ◌∷◌, map, Bool, true, false, not, ◌&&◌, if◌then◌else◌, Some, refl, ap}
use Rattle.lotos_base.specs.Signature.{Signature}
use Rattle.lotos_base.specs.Term.{Term}
use Rattle.lotos_base.specs.Substitution.{is_listed}
use Rattle.behaviour_semantics.specs.Behaviour.{SynchronisationSet, Relabelling}
use Rattle.behaviour_semantics.specs.Label.{Label, inner_event, gate_event, exit_event, label_under}
use Rattle.behaviour_semantics.specs.Rule.{synchronises, moves_alone, is_same_known_sort, have_sorts, hidden_label, is_exit}
use Rattle.behaviour_semantics.specs.Shape.{Shape, Before, in_hidden, in_enabled, in_passed}
use Rattle.behaviour_semantics.specs.Solving.{label_in}
use Rattle.behaviour_semantics.specs.Join.{meets_with}
use Rattle.behaviour_semantics.specs.Fault.{ends_with}
use Rattle.shared_entries.specs.PartRule.{PartRule, passing_on, alone_rule, under_rule, hide_rule, enabled_rule, passed_rule}
use Rattle.shared_entries.proofs.LabelKinds.{SameSorts, SameKind}

pub record IsFair (signature : Signature) (rule : PartRule) : Type 0 where
  pub natural : (f : Term → Term) (label : Label) → rule.label (label_in f label) ≡ label_in f (rule.label label)
  pub by_kind : (a b : Label) → SameKind signature a b → rule.applies a ≡ rule.applies b
  pub keeps : (s t : Shape) → Before s t → Before (rule.variant s) (rule.variant t)

module _ (signature : Signature) where
  -- Each test of a label that a rule makes is one of its kind.
  pub same_alone : (meet : SynchronisationSet) (a b : Label) → SameKind signature a b → moves_alone meet a ≡ moves_alone meet b
  same_alone meet inner_event inner_event h = refl
  same_alone meet (gate_event g ts) (gate_event g' us) h = ap (λ (k : ℕ). not (synchronises meet k)) h.0
  same_alone meet (exit_event ts) (exit_event us) h = refl
  same_alone meet inner_event (gate_event g us) h = absurd h
  same_alone meet inner_event (exit_event us) h = absurd h
  same_alone meet (gate_event g ts) inner_event h = absurd h
  same_alone meet (gate_event g ts) (exit_event us) h = absurd h
  same_alone meet (exit_event ts) inner_event h = absurd h
  same_alone meet (exit_event ts) (gate_event g us) h = absurd h

  pub same_meets : (meet : SynchronisationSet) (a b : Label) → SameKind signature a b → meets_with meet a ≡ meets_with meet b
  same_meets meet inner_event inner_event h = refl
  same_meets meet (gate_event g ts) (gate_event g' us) h = ap (λ (k : ℕ). synchronises meet k) h.0
  same_meets meet (exit_event ts) (exit_event us) h = refl
  same_meets meet inner_event (gate_event g us) h = absurd h
  same_meets meet inner_event (exit_event us) h = absurd h
  same_meets meet (gate_event g ts) inner_event h = absurd h
  same_meets meet (gate_event g ts) (exit_event us) h = absurd h
  same_meets meet (exit_event ts) inner_event h = absurd h
  same_meets meet (exit_event ts) (gate_event g us) h = absurd h

  pub same_exit : (a b : Label) → SameKind signature a b → is_exit a ≡ is_exit b
  same_exit inner_event inner_event h = refl
  same_exit (gate_event g ts) (gate_event g' us) h = refl
  same_exit (exit_event ts) (exit_event us) h = refl
  same_exit inner_event (gate_event g us) h = absurd h
  same_exit inner_event (exit_event us) h = absurd h
  same_exit (gate_event g ts) inner_event h = absurd h
  same_exit (gate_event g ts) (exit_event us) h = absurd h
  same_exit (exit_event ts) inner_event h = absurd h
  same_exit (exit_event ts) (gate_event g us) h = absurd h

  same_have : (ts us : List Term) (sorts : List ℕ) → SameSorts signature ts us
      → have_sorts signature ts sorts ≡ have_sorts signature us sorts
  same_have [] [] [] h = refl
  same_have [] [] (s ∷ sorts) h = refl
  same_have (t ∷ ts) (u ∷ us) [] h = refl
  same_have (t ∷ ts) (u ∷ us) (s ∷ sorts) h = λ i. is_same_known_sort (h.0 i) (Some s) && same_have ts us sorts h.1 i
  same_have [] (u ∷ us) sorts h = absurd h
  same_have (t ∷ ts) [] sorts h = absurd h

  same_ending : (sorts : List ℕ) (a b : Label) → SameKind signature a b → ends_with signature sorts a ≡ ends_with signature sorts b
  same_ending sorts inner_event inner_event h = refl
  same_ending sorts (gate_event g ts) (gate_event g' us) h = refl
  same_ending sorts (exit_event ts) (exit_event us) h = same_have ts us sorts h
  same_ending sorts inner_event (gate_event g us) h = absurd h
  same_ending sorts inner_event (exit_event us) h = absurd h
  same_ending sorts (gate_event g ts) inner_event h = absurd h
  same_ending sorts (gate_event g ts) (exit_event us) h = absurd h
  same_ending sorts (exit_event ts) inner_event h = absurd h
  same_ending sorts (exit_event ts) (gate_event g us) h = absurd h

  -- The rules are fair.
  pub passing_on_fair : (variant : Shape → Shape) → ((s t : Shape) → Before s t → Before (variant s) (variant t))
      → IsFair signature (passing_on variant)
  passing_on_fair variant keeps = record { natural = λ f label. refl; by_kind = λ a b h. refl; keeps = keeps }

  pub alone_fair : (meet : SynchronisationSet) (variant : Shape → Shape) → ((s t : Shape) → Before s t → Before (variant s) (variant t))
      → IsFair signature (alone_rule meet variant)
  alone_fair meet variant keeps = record { natural = λ f label. refl; by_kind = same_alone meet; keeps = keeps }

  natural_under : (pairs : Relabelling) (f : Term → Term) (label : Label)
      → label_under pairs (label_in f label) ≡ label_in f (label_under pairs label)
  natural_under pairs f inner_event = refl
  natural_under pairs f (gate_event g ts) = refl
  natural_under pairs f (exit_event ts) = refl

  pub under_fair : (variant : Shape → Shape) (pairs : Relabelling) → ((s t : Shape) → Before s t → Before (variant s) (variant t))
      → IsFair signature (under_rule variant pairs)
  under_fair variant pairs keeps = record { natural = natural_under pairs; by_kind = λ a b h. refl; keeps = keeps }

  natural_if : (test : Bool) (g : ℕ) (f : Term → Term) (ts : List Term)
      → (if test then inner_event else gate_event g (map f ts)) ≡ label_in f (if test then inner_event else gate_event g ts)
  natural_if true g f ts = refl
  natural_if false g f ts = refl

  natural_hidden : (gates : List ℕ) (f : Term → Term) (label : Label)
      → hidden_label gates (label_in f label) ≡ label_in f (hidden_label gates label)
  natural_hidden gates f inner_event = refl
  natural_hidden gates f (gate_event g ts) = natural_if (is_listed gates g) g f ts
  natural_hidden gates f (exit_event ts) = refl

  pub hide_fair : (gates : List ℕ) → IsFair signature (hide_rule gates)
  hide_fair gates = record { natural = natural_hidden gates; by_kind = λ a b h. refl; keeps = λ s t before. in_hidden before }

  pub enabled_fair : (sorts : List ℕ) → IsFair signature (enabled_rule signature sorts)
  enabled_fair sorts = record { natural = λ f label. refl; by_kind = same_ending sorts; keeps = λ s t before. in_enabled before }

  pub passed_fair : IsFair signature passed_rule
  passed_fair = record {
    natural = λ f label. refl;
    by_kind = λ a b h. ap not (same_exit a b h);
    keeps = λ s t before. in_passed before;
  }
