-- What shows what a certificate comes to: menus, steps and matches that compute.
use Rattle.std.proofs.Common.{◌≡◌, ℕ, List, [], slice_get, Some, refl}
use Rattle.behaviour_semantics.specs.Behaviour.{Behaviour, Specification}
use Rattle.behaviour_semantics.specs.Label.{Label}
use Rattle.behaviour_semantics.specs.Shape.{Shape}
use Rattle.behaviour_semantics.specs.Move.{Setting, move_of}
use Rattle.behaviour_semantics.specs.Derives.{leaves_in}
use Rattle.behaviour_semantics.specs.Solving.{Entry}
use Rattle.behaviour_semantics.specs.Menu.{Exact}
use Rattle.behaviour_semantics.specs.TransitionLaws.{MovesAreDetermined}
use Rattle.behaviour_semantics.specs.WellFormed.{Every}
use Rattle.behaviour_semantics.proofs.InstanceLemmas.{every_at}
use Rattle.certificate_theory.specs.Agreement.{AgreeingLabels}
use Rattle.certificate_theory.specs.Certificate.{Comparison, ListedPair, AreListed, compared_side_of}
use Rattle.certificate_theory.specs.NamedStates.{EntryLeads, NamesState, HasClosedMenu, IsClosedEntry, numbered_entry}
use Rattle.certificate_theory.specs.MatchedPairs.{IsMatched, AreMatched, AllPairsAreMatched, PairIsMatched}
use Rattle.certificate_theory.proofs.ClosedEntries.{leads_once}
use Rattle.worked_cases.specs.BehaviourSamples.{sample_signature, sample_data, sample_canon}
use Rattle.worked_cases.specs.Showing.{entry, move}

-- An entry without leaves, variables and conditions.
abbrev pub plain_entry : Shape → Label → Entry
plain_entry shape label = entry shape label [] [] []

module _ (specification : Specification) where
  abbrev canonical_setting : Setting
  canonical_setting =
      record { signature = sample_signature; represent = sample_canon; processes = specification.processes }

  abbrev pub ExactMenu : Behaviour → List Entry → Type 0
  ExactMenu b menu = Exact sample_data sample_canon specification.processes b menu

  -- A step is shown by its move.
  pub leads : (shape : Shape) (label : Label) (b target : Behaviour)
      → move_of canonical_setting (leaves_in []) shape 0 b ≡ move label target [] []
      → EntryLeads (compared_side_of sample_data sample_canon specification) b (plain_entry shape label) target
  leads shape label b target moves =
      record { label = label; keeps = record { asked = []; sorts = []; move = moves; leaves = tt; holds = tt } }

  -- A state is named by its place, a menu, a place there and a step.
  pub names : (states : List Behaviour) (from number : ℕ) (b : Behaviour) (menu : List Entry) (shape : Shape) (label : Label)
      (target : Behaviour) → ExactMenu b menu → slice_get states from ≡ Some b
      → numbered_entry menu number ≡ Some (plain_entry shape label)
      → move_of canonical_setting (leaves_in []) shape 0 b ≡ move label target [] []
      → NamesState (compared_side_of sample_data sample_canon specification) states from number target
  names states from number b menu shape label target exact named there moves = record {
    state = b;
    named = named;
    menu = menu;
    exact = exact;
    entry = plain_entry shape label;
    there = there;
    closed = refl;
    leads = leads shape label b target moves;
  }

  -- A menu is closed where each of its entries is.
  pub closed_menu : (b : Behaviour) (menu : List Entry) → ExactMenu b menu → Every IsClosedEntry menu
      → HasClosedMenu (compared_side_of sample_data sample_canon specification) b
  closed_menu b menu exact each =
      record { menu = menu; exact = exact; closed = λ e there. every_at IsClosedEntry menu there.0 e each there.1 }

module _ (one other : Specification) (Listed : Behaviour → Behaviour → Type 0) (b c : Behaviour) where
  abbrev pub Match : List Entry → Entry → Type 0
  Match menu e =
      IsMatched (compared_side_of sample_data sample_canon one) (compared_side_of sample_data sample_canon other) Listed b c menu e

  -- A match is shown by the place of the answer, two steps, and by what is listed.
  pub matches : (menu : List Entry) (place : ℕ) (shape answer : Shape) (label reply : Label) (target reached : Behaviour)
      → slice_get menu place ≡ Some (plain_entry answer reply) → AgreeingLabels sample_data one other label reply
      → move_of (canonical_setting one) (leaves_in []) shape 0 b ≡ move label target [] []
      → move_of (canonical_setting other) (leaves_in []) answer 0 c ≡ move reply reached [] []
      → Listed target reached → Match menu (plain_entry shape label)
  matches menu place shape answer label reply target reached there agree moves answers listed = record {
    answer = plain_entry answer reply;
    there = (place, there);
    agree = agree;
    target = target;
    leads = leads one shape label b target moves;
    other_target = reached;
    answer_leads = leads other answer reply c reached answers;
    listed = listed;
  }

  pub all_match : (menu more : List Entry) → ExactMenu one b menu → ExactMenu other c more → Every (Match more) menu
      → AreMatched (compared_side_of sample_data sample_canon one) (compared_side_of sample_data sample_canon other) Listed b c
  all_match menu more exact exact' each = record {
    menu = menu;
    exact = exact;
    other_menu = more;
    other_exact = exact';
    matched = λ e there. every_at (Match more) menu there.0 e each there.1;
  }

  -- No entry of the menu is a match, entry by entry.
  pub no_match : (menu : List Entry) (e : Entry)
      → Every (λ (answer : Entry). (m : Match menu e) → m.answer ≡ answer → ⊥) menu → Match menu e → ⊥
  no_match menu e none m =
      every_at (λ (answer : Entry). (n : Match menu e) → n.answer ≡ answer → ⊥) menu m.there.0 m.answer none m.there.1 m refl

-- Each pair is matched, pair by pair.
pub all_pairs : (c : Comparison) (pairs : List ListedPair) → Every (PairIsMatched c pairs) pairs → AllPairsAreMatched c pairs
all_pairs c pairs each place pair there = every_at (PairIsMatched c pairs) pairs place pair each there

-- A pair is listed at its place.
pub listed_at : (pairs : List ListedPair) (place : ℕ) (pair : ListedPair) → slice_get pairs place ≡ Some pair
    → AreListed pairs pair.left pair.right
listed_at pairs place pair there = record { place = place; pair = pair; there = there; left = refl; right = refl }

-- Two behaviours that no pair lists, pair by pair.
pub not_listed : (pairs : List ListedPair) (b c : Behaviour)
    → Every (λ (p : ListedPair). p.left ≡ b → p.right ≡ c → ⊥) pairs → AreListed pairs b c → ⊥
not_listed pairs b c none listed =
    every_at (λ (p : ListedPair). p.left ≡ b → p.right ≡ c → ⊥) pairs listed.place listed.pair none listed.there listed.left listed.right

-- Where an entry leads it leads by this move.
pub leads_to : MovesAreDetermined → (specification : Specification) (b : Behaviour) (shape : Shape) (label : Label)
    (target other : Behaviour) → move_of (canonical_setting specification) (leaves_in []) shape 0 b ≡ move label target [] []
    → EntryLeads (compared_side_of sample_data sample_canon specification) b (plain_entry shape label) other → other ≡ target
leads_to determined specification b shape label target other moves led =
    leads_once determined sample_data sample_canon specification b (plain_entry shape label) other target led
    (leads specification shape label b target moves)
