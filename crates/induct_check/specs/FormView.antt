-- What forms of lines of the code stand for.
use Rattle.std.specs.Prelude.{◌+◌, ◌<◌, ◌^◌, MatchOption, length}
use Rattle.std.specs.Option.{option_map}
use Rattle.induct_parts.specs.CertificateView.{use_of}
use Rattle.induct_check.specs.CertificateLines as plain
use Rattle.induct_check.specs.declared.forms.Form.{Form}
use Rattle.induct_check.specs.declared.forms.Form.TheVariants.{Cover, Tree, Split, Lemma, Left, Right, Use, Leaf, Same, Nothing}

abbrev pub form_in : Form → plain.LineForm
form_in (Cover sort items) = plain.cover_form sort.now items.now
form_in (Tree item) = plain.tree_form item.now
form_in (Split word) = plain.split_form word.now
form_in (Lemma variables) = plain.lemma_form (option_map (λ text. text.now) variables)
form_in (Left term) = plain.left_form term.now
form_in (Right term) = plain.right_form term.now
form_in (Use use_) = plain.use_form (use_of use_)
form_in Leaf = plain.leaf_form
form_in Same = plain.same_form
form_in Nothing = plain.no_form

-- The texts in the form that are read as variables or terms are short.
abbrev pub IsShort : plain.LineForm → Type 0
IsShort (plain.cover_form sort items) = Unit {0}
IsShort (plain.tree_form item) = Unit {0}
IsShort (plain.split_form word) = Unit {0}
IsShort (plain.lemma_form variables) = MatchOption variables (Unit {0}) (λ text. length text + 1 < 2 ^ 32)
IsShort (plain.left_form term) = length term + 1 < 2 ^ 32
IsShort (plain.right_form term) = length term + 1 < 2 ^ 32
IsShort (plain.use_form use_) = Unit {0}
IsShort plain.leaf_form = Unit {0}
IsShort plain.same_form = Unit {0}
IsShort plain.no_form = Unit {0}
