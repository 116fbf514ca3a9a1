-- Texts that are written in pieces, line by line.
use Rattle.std.proofs.Common.{◌≡◌, ℕ, ◌+◌, ◌<◌, List, [], ◌∷◌, ◌++◌, map, codes, Vec, Global, drop, get_or, length, refl, ap, sym, ◌∙◌, append_assoc}
use Rattle.lotos_base.proofs.Pieces.{next_member, two_pieces, three_pieces}
use Rattle.behaviour_tree.specs.BehaviourView.{terms_of}
use Rattle.session_histories.specs.HandedOn.{written_value}
use Rattle.session_histories.specs.TraceText.{ended}
use Rattle.sort_terms.specs.SignatureView.{signature_of}
use Rattle.sort_terms.specs.declared.signatures.Signature.{Signature}
use Rattle.sort_terms.specs.declared.sorted.Sorted.{Sorted}
use Rattle.value_lists.specs.ListText.{value_lines}

pub four_pieces : (start one two three end a b c d : List ℕ) → one ≡ start ++ a → two ≡ one ++ b → three ≡ two ++ c → end ≡ three ++ d
    → end ≡ start ++ ((a ++ b ++ c) ++ d)
four_pieces start one two three end a b c d p q r s =
    two_pieces start three end (a ++ b ++ c) d (three_pieces start one two three a b c p q r) s

pub five_pieces : (start one two three four end a b c d e : List ℕ) → one ≡ start ++ a → two ≡ one ++ b → three ≡ two ++ c
    → four ≡ three ++ d → end ≡ four ++ e → end ≡ start ++ (((a ++ b ++ c) ++ d) ++ e)
five_pieces start one two three four end a b c d e p q r s t =
    two_pieces start four end ((a ++ b ++ c) ++ d) e (four_pieces start one two three four a b c d p q r s) t

-- one value more is written
pub one_value_more : (signature : Signature) (values : List Sorted) (index : ℕ) (value : Sorted) (was now start : List ℕ)
    → index < length values → value ≡ get_or values index value
    → was ++ value_lines (signature_of signature) (terms_of (drop index values)) ≡ start
    → now ≡ was ++ ended (written_value signature value)
    → now ++ value_lines (signature_of signature) (terms_of (drop (index + 1) values)) ≡ start
one_value_more signature values index value was now start below is before written =
    ap (λ (it : List ℕ). it ++ value_lines (signature_of signature) (terms_of (drop (index + 1) values))) written
    ∙ (append_assoc was (ended (written_value signature value)) _
    ∙ (ap (λ (it : List Sorted). was ++ value_lines (signature_of signature) (terms_of it))
    (sym (next_member values index value below is)) ∙ before))

abbrev Tuples : Type 0
Tuples = List (Vec Sorted Global)
