-- Derivation trees beside one another, and apart again.
use Rattle.std.proofs.Common.{◌≡◌, List, [], ◌∷◌, ◌++◌, refl, ap, sym, ◌∙◌, append_assoc}
use Rattle.ll_engine.specs.declared.symbol.Symbol.{Symbol}
use Rattle.ll_engine.specs.declared.symbol.Symbol.TheVariants.{Token, Part}
use Rattle.ll_engine.specs.Derivation.{Production, Forest, empty, leaf, node, DerivesSymbols, leaves, leftmost}

-- the trees of both, from left to right
abbrev pub beside : Forest → Forest → Forest
beside empty g = g
beside (leaf t rest) g = leaf t (beside rest g)
beside (node r below rest) g = node r below (beside rest g)

pub leaves-beside : (f g : Forest) → leaves (beside f g) ≡ leaves f ++ leaves g
leaves-beside empty g = refl
leaves-beside (leaf t rest) g = ap (λ xs. t ∷ xs) (leaves-beside rest g)
leaves-beside (node r below rest) g =
    ap (λ xs. leaves below ++ xs) (leaves-beside rest g) ∙ sym (append_assoc (leaves below) (leaves rest) (leaves g))

pub leftmost-beside : (f g : Forest) → leftmost (beside f g) ≡ leftmost f ++ leftmost g
leftmost-beside empty g = refl
leftmost-beside (leaf t rest) g = leftmost-beside rest g
leftmost-beside (node r below rest) g =
    ap (λ xs. r ∷ (leftmost below ++ xs)) (leftmost-beside rest g)
    ∙ ap (λ xs. r ∷ xs) (sym (append_assoc (leftmost below) (leftmost rest) (leftmost g)))

pub Derives-beside : (rows : List Production) (f g : Forest) (a b : List Symbol) → DerivesSymbols rows f a → DerivesSymbols rows g b
    → DerivesSymbols rows (beside f g) (a ++ b)
Derives-beside rows empty g [] b df dg = dg
Derives-beside rows empty g (x ∷ a) b df dg = absurd df
Derives-beside rows (leaf t rest) g [] b df dg = absurd df
Derives-beside rows (leaf t rest) g (Token u ∷ a) b df dg = (df.0, Derives-beside rows rest g a b df.1 dg)
Derives-beside rows (leaf t rest) g (Part p ∷ a) b df dg = absurd df
Derives-beside rows (node r below rest) g [] b df dg = absurd df
Derives-beside rows (node r below rest) g (Token u ∷ a) b df dg = absurd df
Derives-beside rows (node r below rest) g (Part p ∷ a) b df dg =
    (df.0, df.1, df.2, df.3, Derives-beside rows rest g a b df.4 dg)

-- the trees of a list's front and those of the rest of it
pub record Splits (rows : List Production) (f : Forest) (a b : List Symbol) : Type 0 where
  pub left : Forest
  pub right : Forest
  pub left_derives : DerivesSymbols rows left a
  pub right_derives : DerivesSymbols rows right b
  pub both : f ≡ beside left right

pub Splits-from_append : (rows : List Production) (f : Forest) (a b : List Symbol) → DerivesSymbols rows f (a ++ b) → Splits rows f a b
Splits-from_append rows f [] b d = record { left = empty; right = f; left_derives = tt; right_derives = d; both = refl }
Splits-from_append rows empty (x ∷ a) b d = absurd d
Splits-from_append rows (leaf t rest) (Token u ∷ a) b d =
    let s = Splits-from_append rows rest a b d.1 in
    record {
      left = leaf t s.left;
      right = s.right;
      left_derives = (d.0, s.left_derives);
      right_derives = s.right_derives;
      both = ap (leaf t) s.both;
    }
Splits-from_append rows (leaf t rest) (Part p ∷ a) b d = absurd d
Splits-from_append rows (node r below rest) (Token u ∷ a) b d = absurd d
Splits-from_append rows (node r below rest) (Part p ∷ a) b d =
    let s = Splits-from_append rows rest a b d.4 in
    record {
      left = node r below s.left;
      right = s.right;
      left_derives = (d.0, d.1, d.2, d.3, s.left_derives);
      right_derives = s.right_derives;
      both = ap (node r below) s.both;
    }

pub leaves-Splits : {rows : List Production} {f : Forest} {a b : List Symbol} (s : Splits rows f a b)
    → leaves f ≡ leaves s.left ++ leaves s.right
leaves-Splits s = ap leaves s.both ∙ leaves-beside s.left s.right
