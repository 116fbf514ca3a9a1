-- What a rule makes of the drafts of moves are the drafts of what it makes of the moves.
use Rattle.std.proofs.Common.{◌≡◌, suc, ◌+◌, List, [], ◌∷◌, map, filter_map, Option, None, Some, option_map, refl, ap, sym, ◌∙◌}
use Rattle.lotos_base.specs.Term.{variable}
use Rattle.behaviour_semantics.specs.Behaviour.{sorts_of}
use Rattle.behaviour_semantics.specs.Draft.{Draft}
use Rattle.behaviour_semantics.specs.Shape.{guarded, hidden, with_value}
use Rattle.behaviour_semantics.specs.Move.{Move, asking, alone, hiding, disabling, relabelling, after_leaf}
use Rattle.behaviour_semantics.specs.Listing.{ShapedMove, below, below_enable}
use Rattle.behaviour_semantics.proofs.OptionLemmas.{some_value}
use Rattle.draft_parts.specs.DraftRules.{open_draft, draft_within, guarded_draft, alone_draft, hidden_draft, enable_draft, valued_draft, relabelled_draft}
use Rattle.draft_parts.proofs.DraftRuleLemmas.{rules_make}
use Rattle.draft_parts.specs.ListLaws.{RuleListsAreTheDrafts}

kept_all : (f : Draft → Draft) (ds : List Draft) → filter_map (λ (d : Draft). Some (f d)) ds ≡ map f ds
kept_all f [] = refl
kept_all f (d ∷ ds) = ap (λ (rest : List Draft). f d ∷ rest) (kept_all f ds)

-- a rule that gives some moves one
some_rule : (before after : ShapedMove → Draft) (step : ShapedMove → Option ShapedMove) (rule : Draft → Option Draft)
    → ((moves : List ShapedMove) → map after (filter_map step moves) ≡ filter_map rule (map before moves))
    → (listed : Option (List ShapedMove)) (drafts : List Draft)
    → ((moves : List ShapedMove) → listed ≡ Some moves → drafts ≡ map before moves)
    → (moves : List ShapedMove) → option_map (filter_map step) listed ≡ Some moves → filter_map rule drafts ≡ map after moves
some_rule before after step rule h None drafts k moves e = absurd (cc e)
some_rule before after step rule h (Some parts) drafts k moves e =
    ap (λ (ds : List Draft). filter_map rule ds) (k parts refl)
    ∙ (sym (h parts) ∙ ap (λ (xs : List ShapedMove). map after xs) (some_value e))

-- a rule that gives each move one
each_rule : (before after : ShapedMove → Draft) (step : ShapedMove → Option ShapedMove) (f : Draft → Draft)
    → ((moves : List ShapedMove) → map after (filter_map step moves) ≡ map f (map before moves))
    → (listed : Option (List ShapedMove)) (drafts : List Draft)
    → ((moves : List ShapedMove) → listed ≡ Some moves → drafts ≡ map before moves)
    → (moves : List ShapedMove) → option_map (filter_map step) listed ≡ Some moves
    → filter_map (λ (d : Draft). Some (f d)) drafts ≡ map after moves
each_rule before after step f h =
    some_rule before after step (λ (d : Draft). Some (f d)) (λ moves. h moves ∙ sym (kept_all f (map before moves)))

pub rule_lists : RuleListsAreTheDrafts
rule_lists = record {
  kept = λ base next variant. each_rule (open_draft base next) (open_draft base next) (below variant (λ (m : Move). Some m))
      (draft_within variant) (rules_make.kept base next variant);
  disabled = λ base next variant c. each_rule (open_draft base next) (open_draft base next)
      (below variant (λ (m : Move). Some (disabling c m))) (draft_within variant) (rules_make.disabled base next variant c);
  guards = λ base next test. each_rule (open_draft base next) (open_draft base next)
      (below guarded (λ (m : Move). Some (asking test m))) (guarded_draft test) (rules_make.guards base next test);
  sides = λ base next meet variant beside. some_rule (open_draft base next) (open_draft base next)
      (below variant (alone meet beside)) (alone_draft meet variant) (rules_make.sides base next meet variant beside);
  hides = λ base next gates. each_rule (open_draft base next) (open_draft base next)
      (below hidden (λ (m : Move). Some (hiding gates m))) (hidden_draft gates) (rules_make.hides base next gates);
  enables = λ base next signature variables c. some_rule (open_draft base next) (open_draft base next)
      (below_enable signature variables c) (enable_draft signature (sorts_of variables))
      (rules_make.enables base next signature variables c);
  values = λ base next sort. each_rule (open_draft base (suc next)) (open_draft base next)
      (below with_value (λ (m : Move). Some (after_leaf sort m))) (valued_draft (variable (base + next) sort))
      (rules_make.values base next sort);
  relabels = λ base next variant pairs. each_rule (open_draft base next) (open_draft base next)
      (below variant (λ (m : Move). Some (relabelling pairs m))) (relabelled_draft variant pairs)
      (rules_make.relabels base next variant pairs);
}
