-- A derivation with the depths of its nodes and its tree is a reading, or a fault.
use Rattle.std.proofs.Common.{◌≡◌, ◌∙◌, ℕ, ◌≤◌, List, Some, None, map, length, ap, sym}
use Rattle.std.specs.Prelude.{◌↔◌, Option, option_map}
use Rattle.lotos_base.specs.declared.places.Place.{Place}
use Rattle.lotos_base.specs.WrittenView.{text_place_of}
use Rattle.text_depth.specs.HandedOn.tokens as lexed
use Rattle.text_depth.specs.HandedOn.{kind_of, ReadFault, TooLong, BadByte, OpenComment, Syntax, TooDeep, NoMemory, node_limit, IsRead}
use Rattle.text_depth.specs.HandedOn.{IsFault, IsFaultWithin, Token, tokens_of, ContextFree, IsSentence, IsLeftmostDerivation}
use Rattle.syntax_trees.specs.Depth.{TreeNode, first_deeper}

module _ {A : Type 0} (one : List Token → A → Type 0) (nodes : A → List TreeNode) (number : ℕ) (text : List ℕ) where
  -- no node is too deep
  pub is_read : (tokens : List Token) (tree : A) (deep : Option Place) → tokens_of number text ≡ lexed.Tokens tokens → one tokens tree →
      option_map text_place_of deep ≡ first_deeper node_limit (nodes tree) → deep ≡ None → IsRead one nodes number text tree
  is_read tokens tree deep cut is depth none = record {
    tokens = tokens;
    cut_into = cut;
    sentence = is;
    shallow = sym depth ∙ ap (option_map text_place_of) none;
  }

  -- the first node that is too deep
  pub too_deep : (g : ContextFree) (tokens : List Token) (rows : List ℕ) (deep : Option Place) (place : Place) →
      (IsSentence g (map kind_of tokens) ↔ ((found : A) × one tokens found)) → tokens_of number text ≡ lexed.Tokens tokens →
      IsLeftmostDerivation g rows (map kind_of tokens) →
      ((tree : A) → one tokens tree → option_map text_place_of deep ≡ first_deeper node_limit (nodes tree)) → deep ≡ Some place →
      IsFault one nodes number text (TooDeep place)
  too_deep g tokens rows deep place has cut derivation depth is =
      let found = has.0 (derivation.0, derivation.1, derivation.2) in
      (tokens, found.0, cut, found.1, sym (depth found.0 found.1) ∙ ap (option_map text_place_of) is)

  -- a fault of a text that is within the limit
  pub within : (limit : ℕ) (fault : ReadFault) → length text ≤ limit → IsFault one nodes number text fault →
      IsFaultWithin limit one nodes number text fault
  within limit TooLong short is = absurd is
  within limit (BadByte place) short is = (short, is)
  within limit (OpenComment place) short is = (short, is)
  within limit (Syntax place) short is = (short, is)
  within limit (TooDeep place) short is = (short, is)
  within limit NoMemory short is = tt
