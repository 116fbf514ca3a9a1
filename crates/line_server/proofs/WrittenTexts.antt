-- Texts that are written one behind another.
use Rattle.std.proofs.Common.{◌≡◌, ℕ, List, [], ◌++◌, Option, Some, None, take, sym, ap, ◌∙◌, append_assoc}
use Rattle.std.proofs.lemmas.List.{append-nil}
use Rattle.line_server.specs.Writing.{WritesAll, WritesBeginning, WritesUpTo}

pub writes_then : (before between after : Option (List ℕ)) (text more : List ℕ) → WritesAll before between text
    → WritesAll between after more
    → WritesAll before after (text ++ more)
writes_then None between after text more one two = tt
writes_then (Some written) between after text more one two =
    let now : after ≡ Some (written ++ text ++ more) = rw one at two in
    now ∙ ap (λ (it : List ℕ). Some it) (append_assoc written text more)

pub writes_none : (before after : Option (List ℕ)) → after ≡ before → WritesAll before after []
writes_none None after same = tt
writes_none (Some written) after same = same ∙ ap (λ (it : List ℕ). Some it) (sym (append-nil written))

-- up to a byte of a text behind other texts
pub up_to_then : (before between after : Option (List ℕ)) (text more last : List ℕ) → WritesAll before between text
    → WritesUpTo between after more last → WritesUpTo before after (text ++ more) last
up_to_then None between after text more last one two = (two.0, two.1, tt)
up_to_then (Some written) between after text more last one two =
    let now : after ≡ Some (written ++ text ++ (more ++ take two.0 last)) = rw one at two.2 in (
      two.0,
      two.1,
      now ∙ ap (λ (it : List ℕ). Some it)
          (append_assoc written text (more ++ take two.0 last)
          ∙ ap (λ (it : List ℕ). written ++ it) (sym (append_assoc text more (take two.0 last)))),
    )

-- the beginning of a text, behind a text that is written whole
pub begins_behind : (before between after : Option (List ℕ)) (text last : List ℕ) → WritesAll before between text
    → WritesBeginning between after last → WritesUpTo before after text last
begins_behind None between after text last one two = (two.0, two.1, tt)
begins_behind (Some written) between after text last one two =
    let now : after ≡ Some (written ++ text ++ take two.0 last) = rw one at two.2 in
    (two.0, two.1, now ∙ ap (λ (it : List ℕ). Some it) (append_assoc written text (take two.0 last)))

-- and behind none
pub begins_alone : (before after : Option (List ℕ)) (last : List ℕ) → WritesBeginning before after last → WritesUpTo before after [] last
begins_alone before after last it = it
