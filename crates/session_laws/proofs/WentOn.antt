-- Where parts one after another went on, each did.
use Rattle.std.proofs.Common.{◌≡◌, inl, inr, List, [], ◌∷◌, ◌++◌, refl, sym, append-nil}
use Rattle.lotos_top.specs.HandedOn.{Files, AreGotFrom, GotFile, Comes, goes_on, Part, Then}

-- what the first part found, and what the second one made of it
pub record WentOn {E A B : Type 0} (First : Part E A) (next : A → Part E B) (files : List GotFile) (b : B) : Type 0 where
  pub found : A
  pub got : List GotFile
  pub later : List GotFile
  pub first : First got (goes_on found)
  pub second : next found later (goes_on b)
  pub cut : files ≡ got ++ later

pub went_on : {E A B : Type 0} (First : Part E A) (next : A → Part E B) (files : List GotFile) (b : B)
    → Then First next files (goes_on b) → WentOn First next files b
went_on First next files b (inl is) = absurd is
went_on First next files b (inr is) =
    record { found = is.0; got = is.1; later = is.2; first = is.3; second = is.4; cut = is.5 }

-- one and then the other
pub goes_then : {E A B : Type 0} (First : Part E A) (next : A → Part E B) (a : A) (got later : List GotFile) (comes : Comes E B)
    → First got (goes_on a) → next a later comes → Then First next (got ++ later) comes
goes_then First next a got later comes first second = inr (a, got, later, first, second, refl)

-- the second one gets nothing
pub goes_then_nothing : {E A B : Type 0} (First : Part E A) (next : A → Part E B) (a : A) (got : List GotFile) (comes : Comes E B)
    → First got (goes_on a) → next a [] comes → Then First next got comes
goes_then_nothing First next a got comes first second = inr (a, got, [], first, second, sym (append-nil got))

-- ---- Files

pub together : (got : Files) (files later : List GotFile) → AreGotFrom got files → AreGotFrom got later → AreGotFrom got (files ++ later)
together got [] later first second = second
together got (file ∷ files) later first second = (first.0, together got files later first.1 second)
