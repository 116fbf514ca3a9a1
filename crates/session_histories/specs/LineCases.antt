-- Worked cases: which lines have the form of a step, and what they say.
use Rattle.std.specs.Prelude.{◌≡◌, ℕ, List, [], ◌∷◌, codes, None, Some}
use Rattle.session_histories.specs.TraceLine.{step_line, lines_of}

abbrev pub Says : List ℕ → ℕ → List ℕ → List ℕ → Type 0
Says line number terms label = step_line line ≡ Some (record { number = number; terms = terms; label = label })

abbrev pub HasNoForm : List ℕ → Type 0
HasNoForm line = step_line line ≡ None

-- A text is cut at its line feeds. A last line may lack its own, and an empty line is a line.
pub record TextsAreCut : Type 0 where
  pub nothing : lines_of [] ≡ []
  pub one : lines_of (codes "a b\n") ≡ codes "a b" ∷ []
  pub without_line_feed : lines_of (codes "a\nb") ≡ codes "a" ∷ codes "b" ∷ []
  pub empty_line : lines_of (codes "a\n\n") ≡ codes "a" ∷ [] ∷ []
  pub carriage_return : lines_of (codes "a\r\n") ≡ codes "a\r" ∷ []

-- Lines that have the form of a step. Blanks round the terms are blanks of the terms; the first arrow ends the values, and all
-- behind it is the label.
pub record LinesSay : Type 0 where
  pub value : Says (codes "1 0 => g !0") 1 (codes "0") (codes "g !0")
  pub values : Says (codes "12 Succ(0), true => exit(0, true)") 12 (codes "Succ(0), true") (codes "exit(0, true)")
  pub no_values : Says (codes "2 => i") 2 [] (codes "i")
  pub empty_values : Says (codes "2  => i") 2 [] (codes "i")
  pub blank_values : Says (codes "1  0  => g !0") 1 (codes " 0 ") (codes "g !0")
  pub nought : Says (codes "0 => i") 0 [] (codes "i")
  pub ten_digits : Says (codes "9999999999 => i") 9999999999 [] (codes "i")
  pub empty_label : Says (codes "1 0 => ") 1 (codes "0") []
  pub blank_in_label : Says (codes "1 0 => g !0 ") 1 (codes "0") (codes "g !0 ")
  pub arrow_in_label : Says (codes "1 0 => g !0 => h") 1 (codes "0") (codes "g !0 => h")
  pub arrow_in_comment : Says (codes "1 0(* => *) => g !0") 1 (codes "0(*") (codes "*) => g !0")

-- Lines that have not.
pub record LinesHaveNoForm : Type 0 where
  pub empty : HasNoForm []
  pub heading : HasNoForm (codes "lotos-trace 1")
  pub no_number : HasNoForm (codes " => i")
  pub no_arrow : HasNoForm (codes "1 0 -> g !0")
  pub tight_arrow : HasNoForm (codes "1 0=> g !0")
  pub cut_arrow : HasNoForm (codes "1 0 =>")
  pub leading_zero : HasNoForm (codes "01 0 => g !0")
  pub two_zeros : HasNoForm (codes "00 => i")
  pub eleven_digits : HasNoForm (codes "10000000000 => i")
  pub sign : HasNoForm (codes "+1 => i")
  pub blank_before : HasNoForm (codes " 1 => i")
  pub tab_behind : HasNoForm (codes "1\t0 => g !0")
  pub carriage_return : HasNoForm (codes "1 0 => g !0\r")
