-- The tokens with a fixed spelling.
use Rattle.std.specs.Prelude.{ℕ, List, [], ◌∷◌, codes, map}
use Rattle.lotos_lexer.specs.declared.spellings.Spelling as declared
use Rattle.lotos_lexer.specs.declared.kinds.TheConstants.{ACCEPT, ACTUALIZEDBY, ANY, BEHAVIOR, BEHAVIOUR, CHOICE, ENDLIB, ENDPROC, ENDSPEC, ENDTYPE, EQNS, EXIT, FOR, FORALL, FORMALEQNS, FORMALOPNS, FORMALSORTS, HIDE, I, IN, IS, LET, LIBRARY, NOEXIT, OF, OFSORT, OPNNAMES, OPNS, PAR, PROCESS, RENAMEDBY, SORTNAMES, SORTS, SPECIFICATION, STOP, TYPE, USING, WHERE, INTERLEAVING, FULL_SYNCHRONISATION, GATES_OPEN, CHOICE_SIGN, DISABLING, DEFINITION, EQUALS, IMPLIES, ARROW, ENABLING, LEFT_PARENTHESIS, RIGHT_PARENTHESIS, LEFT_BRACKET, RIGHT_BRACKET, COMMA, SEMICOLON, COLON, EXCLAMATION, QUESTION, UNDERSCORE}

-- a fixed spelling and the kind of token that it is
abbrev pub Spelling : Type 0
Spelling = List ℕ × ℕ

-- the rows of a table in the code
abbrev pub rows_of : List declared.Spelling → List Spelling
rows_of table = map (λ row. (row.text.now, row.kind)) table

-- the reserved words, in lower case
abbrev pub reserved_words : List Spelling
reserved_words =
    (codes "accept", ACCEPT) ∷
    (codes "actualizedby", ACTUALIZEDBY) ∷
    (codes "any", ANY) ∷
    (codes "behavior", BEHAVIOR) ∷
    (codes "behaviour", BEHAVIOUR) ∷
    (codes "choice", CHOICE) ∷
    (codes "endlib", ENDLIB) ∷
    (codes "endproc", ENDPROC) ∷
    (codes "endspec", ENDSPEC) ∷
    (codes "endtype", ENDTYPE) ∷
    (codes "eqns", EQNS) ∷
    (codes "exit", EXIT) ∷
    (codes "for", FOR) ∷
    (codes "forall", FORALL) ∷
    (codes "formaleqns", FORMALEQNS) ∷
    (codes "formalopns", FORMALOPNS) ∷
    (codes "formalsorts", FORMALSORTS) ∷
    (codes "hide", HIDE) ∷
    (codes "i", I) ∷
    (codes "in", IN) ∷
    (codes "is", IS) ∷
    (codes "let", LET) ∷
    (codes "library", LIBRARY) ∷
    (codes "noexit", NOEXIT) ∷
    (codes "of", OF) ∷
    (codes "ofsort", OFSORT) ∷
    (codes "opnnames", OPNNAMES) ∷
    (codes "opns", OPNS) ∷
    (codes "par", PAR) ∷
    (codes "process", PROCESS) ∷
    (codes "renamedby", RENAMEDBY) ∷
    (codes "sortnames", SORTNAMES) ∷
    (codes "sorts", SORTS) ∷
    (codes "specification", SPECIFICATION) ∷
    (codes "stop", STOP) ∷
    (codes "type", TYPE) ∷
    (codes "using", USING) ∷
    (codes "where", WHERE) ∷
    []

-- the signs of several bytes, a longer one before each that it begins with
abbrev pub operators : List Spelling
operators =
    (codes "|||", INTERLEAVING) ∷
    (codes "||", FULL_SYNCHRONISATION) ∷
    (codes "|[", GATES_OPEN) ∷
    (codes "[]", CHOICE_SIGN) ∷
    (codes "[>", DISABLING) ∷
    (codes ":=", DEFINITION) ∷
    []

-- the runs of signs that are reserved
abbrev pub reserved_runs : List Spelling
reserved_runs =
    (codes "=", EQUALS) ∷
    (codes "=>", IMPLIES) ∷
    (codes "->", ARROW) ∷
    (codes ">>", ENABLING) ∷
    []

-- the signs of one byte
abbrev pub single_signs : List Spelling
single_signs =
    (codes "(", LEFT_PARENTHESIS) ∷
    (codes ")", RIGHT_PARENTHESIS) ∷
    (codes "[", LEFT_BRACKET) ∷
    (codes "]", RIGHT_BRACKET) ∷
    (codes ",", COMMA) ∷
    (codes ";", SEMICOLON) ∷
    (codes ":", COLON) ∷
    (codes "!", EXCLAMATION) ∷
    (codes "?", QUESTION) ∷
    (codes "_", UNDERSCORE) ∷
    []
