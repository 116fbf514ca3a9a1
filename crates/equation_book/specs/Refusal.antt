-- What a refusal of data says of them.
use Rattle.std.specs.Prelude.{List}
use Rattle.lotos_base.specs.Equation.{Data}
use Rattle.lotos_base.specs.Signature.{Signature}
use Rattle.rewriting_theory.specs.Rewriting.{AreConfluent}
use Rattle.rewriting_theory.specs.Precedence.{Precedence}
use Rattle.rewriting_theory.specs.Orientation.{NumberedRule, rules_of, IsOrientation, IsFirstUnorientable}
use Rattle.sort_terms.specs.SortedView.{term_in}
use Rattle.lotos_base.specs.WrittenTerm.{ListedOperation}
use Rattle.path_order.specs.OrderFaultView.{IsOrderFault}
use Rattle.path_order.specs.declared.order_fault.OrderFault.{OrderFault}
use Rattle.path_order.specs.declared.order_fault.OrderFault.TheVariants.{UnknownOperation as OrderUnknown, TwiceListed as OrderTwice, BadStatus as OrderStatus, NoMemory as OrderNoMemory}
use Rattle.path_order.specs.OrderedBy.{IsPrecedenceBy}
use Rattle.path_order.specs.declared.orient_fault.OrientFault.{OrientFault}
use Rattle.path_order.specs.declared.orient_fault.OrientFault.TheVariants.{Unorientable as OrientUnorientable, NoMemory as OrientNoMemory}
use Rattle.critical_pairs.specs.Joining.{AreUnjoinedBy, IsPairFaultOver}
use Rattle.critical_pairs.specs.declared.pair_fault.PairFault.{PairFault}
use Rattle.critical_pairs.specs.declared.pair_fault.PairFault.TheVariants.{Unjoined as PairUnjoined, NoMemory as PairNoMemory}
use Rattle.equation_book.specs.declared.book_fault.BookFault.{BookFault}
use Rattle.equation_book.specs.declared.book_fault.BookFault.TheVariants.{UnknownOperation, TwiceListed, BadStatus, Unorientable, Unjoined, NoMemory}

-- the fault of a book for a fault of an order
abbrev pub book_fault_of_order : OrderFault → BookFault
book_fault_of_order (OrderUnknown place name) = UnknownOperation place name
book_fault_of_order (OrderTwice place name) = TwiceListed place name
book_fault_of_order (OrderStatus place name) = BadStatus place name
book_fault_of_order OrderNoMemory = NoMemory

-- the fault of a book for a fault of orientation
abbrev pub book_fault_of_orientation : OrientFault → BookFault
book_fault_of_orientation (OrientUnorientable equation) = Unorientable equation
book_fault_of_orientation OrientNoMemory = NoMemory

-- the fault of a book for a fault of a critical pair
abbrev pub book_fault_of_pair : PairFault → BookFault
book_fault_of_pair (PairUnjoined first second peak left right) = Unjoined first second peak left right
book_fault_of_pair PairNoMemory = NoMemory

-- What a fault after the precedence is made says of the data: the first equation that cannot be oriented; or, where all
-- are, the first critical pair that is unjoined. Want of memory says nothing.
abbrev pub SaysOfData : Precedence → Data → BookFault → Type 0
SaysOfData precedence data_ (UnknownOperation place name) = ⊥
SaysOfData precedence data_ (TwiceListed place name) = ⊥
SaysOfData precedence data_ (BadStatus place name) = ⊥
SaysOfData precedence data_ (Unorientable equation) = IsFirstUnorientable precedence data_.equations equation
SaysOfData precedence data_ (Unjoined first second peak left right) =
    (rules : List NumberedRule) × IsOrientation precedence data_ rules
    × AreUnjoinedBy data_.signature rules first second (term_in peak) (term_in left) (term_in right)
SaysOfData precedence data_ NoMemory = Unit {0}

-- The data give rules by the precedence, and these are confluent.
abbrev pub AreJoinedBy : Precedence → Data → List NumberedRule → Type 0
AreJoinedBy precedence data_ rules = IsOrientation precedence data_ rules × AreConfluent (rules_of rules)

-- What the refusal of a book says of the items of the order and of the data: the first item with something wrong; or,
-- where nothing is wrong with an item, what it says of the data by the precedence that the items give.
abbrev pub IsBookFault : List ListedOperation → Data → BookFault → Type 0
IsBookFault items data_ (UnknownOperation place name) = IsOrderFault data_.signature items (OrderUnknown place name)
IsBookFault items data_ (TwiceListed place name) = IsOrderFault data_.signature items (OrderTwice place name)
IsBookFault items data_ (BadStatus place name) = IsOrderFault data_.signature items (OrderStatus place name)
IsBookFault items data_ (Unorientable equation) =
    (precedence : Precedence) × IsPrecedenceBy data_.signature items precedence × SaysOfData precedence data_ (Unorientable equation)
IsBookFault items data_ (Unjoined first second peak left right) =
    (precedence : Precedence) × IsPrecedenceBy data_.signature items precedence
    × SaysOfData precedence data_ (Unjoined first second peak left right)
IsBookFault items data_ NoMemory = Unit {0}

-- The peak and the two forms of a refusal are terms of the signature, with its profiles.
abbrev pub IsBookFaultOver : Signature → BookFault → Type 0
IsBookFaultOver signature (UnknownOperation place name) = Unit {0}
IsBookFaultOver signature (TwiceListed place name) = Unit {0}
IsBookFaultOver signature (BadStatus place name) = Unit {0}
IsBookFaultOver signature (Unorientable equation) = Unit {0}
IsBookFaultOver signature (Unjoined first second peak left right) = IsPairFaultOver signature (PairUnjoined first second peak left right)
IsBookFaultOver signature NoMemory = Unit {0}

-- What an opened book says of them: nothing is wrong with an item, the precedence is that of the items, and the data give
-- these rules by it, which are confluent.
pub record IsOpenedBy (items : List ListedOperation) (data_ : Data) (precedence : Precedence) (rules : List NumberedRule) : Type 0 where
  pub ordered : IsPrecedenceBy data_.signature items precedence
  pub joined : AreJoinedBy precedence data_ rules
