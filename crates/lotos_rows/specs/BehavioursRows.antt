-- The rows of behaviours.
use Rattle.std.specs.Prelude.{List, [], ◌∷◌}
use Rattle.ll_engine.specs.declared.symbol.Symbol.TheVariants.{Token, Part}
use Rattle.lotos_lexer.specs.declared.kinds.TheConstants as kind
use Rattle.lotos_rows.specs.declared.behaviours.TheConstants as behaviours
use Rattle.lotos_rows.specs.declared.equations.TheConstants as equations
use Rattle.lotos_rows.specs.declared.names.TheConstants as names
use Rattle.lotos_rows.specs.declared.terms.TheConstants as terms
use Rattle.lotos_rows.specs.declared.behaviours.BehavioursRow.TheVariants as row
use Rattle.lotos_rows.specs.declared.row_names.RowName.TheVariants.{Behaviours}
use Rattle.lotos_rows.specs.Row.{GrammarRow, row_of}

abbrev pub behaviours_rows : List GrammarRow
behaviours_rows =
    row_of (Behaviours row.Hide) behaviours.BEHAVIOUR (Token kind.HIDE ∷ Part names.NAMES ∷ Token kind.IN ∷ Part behaviours.BEHAVIOUR ∷ [])
    ∷
    row_of (Behaviours row.Let) behaviours.BEHAVIOUR (Token kind.LET ∷ Part behaviours.LET_LIST ∷ Token kind.IN ∷ Part behaviours.BEHAVIOUR
    ∷ []) ∷
    row_of (Behaviours row.Choice) behaviours.BEHAVIOUR (Token kind.CHOICE ∷ Part names.NAMES ∷ Part behaviours.AFTER_CHOICE ∷ []) ∷
    row_of (Behaviours row.Par) behaviours.BEHAVIOUR (Token kind.PAR ∷ Part behaviours.GATE_CHOICES ∷ Part behaviours.PARALLEL
    ∷ Part behaviours.BEHAVIOUR ∷ []) ∷
    row_of (Behaviours row.Internal) behaviours.BEHAVIOUR (Token kind.I ∷ Token kind.SEMICOLON ∷ Part behaviours.BEHAVIOUR ∷ []) ∷
    row_of (Behaviours row.Guarded) behaviours.BEHAVIOUR (Token kind.LEFT_BRACKET ∷ Part equations.PREMISS ∷ Token kind.RIGHT_BRACKET
    ∷ Token kind.ARROW ∷ Part behaviours.BEHAVIOUR ∷ []) ∷
    row_of (Behaviours row.NameFirst) behaviours.BEHAVIOUR (Part names.NAME ∷ Part behaviours.AFTER_NAME ∷ []) ∷
    row_of (Behaviours row.Stop) behaviours.BEHAVIOUR (Token kind.STOP ∷ Part behaviours.BEHAVIOUR_TAIL ∷ []) ∷
    row_of (Behaviours row.Exit) behaviours.BEHAVIOUR (Token kind.EXIT ∷ Part behaviours.EXIT_VALUES ∷ Part behaviours.BEHAVIOUR_TAIL ∷ [])
    ∷
    row_of (Behaviours row.BracketedBehaviour) behaviours.BEHAVIOUR
    (Token kind.LEFT_PARENTHESIS ∷ Part behaviours.BEHAVIOUR ∷ Token kind.RIGHT_PARENTHESIS ∷ Part behaviours.BEHAVIOUR_TAIL ∷ []) ∷
    row_of (Behaviours row.NoBehaviourTail) behaviours.BEHAVIOUR_TAIL [] ∷
    row_of (Behaviours row.BehaviourTail) behaviours.BEHAVIOUR_TAIL (Part behaviours.SIGN ∷ Part behaviours.BEHAVIOUR ∷ []) ∷
    row_of (Behaviours row.ActionWithoutOffers) behaviours.AFTER_NAME (Token kind.SEMICOLON ∷ Part behaviours.BEHAVIOUR ∷ []) ∷
    row_of (Behaviours row.ActionWithOffers) behaviours.AFTER_NAME (Part behaviours.OFFER ∷ Part behaviours.AFTER_OFFER ∷ []) ∷
    row_of (Behaviours row.Call) behaviours.AFTER_NAME (Part names.OPTIONAL_GATES ∷ Part terms.ARGUMENTS ∷ Part behaviours.BEHAVIOUR_TAIL
    ∷ []) ∷
    row_of (Behaviours row.Give) behaviours.OFFER (Token kind.EXCLAMATION ∷ Part terms.TERM ∷ []) ∷
    row_of (Behaviours row.Ask) behaviours.OFFER (Token kind.QUESTION ∷ Part names.NAMES ∷ Token kind.COLON ∷ Part names.NAME ∷ []) ∷
    row_of (Behaviours row.OneMoreOffer) behaviours.AFTER_OFFER (Part behaviours.OFFER ∷ Part behaviours.AFTER_OFFER ∷ []) ∷
    row_of (Behaviours row.SelectionAfterOffers) behaviours.AFTER_OFFER
    (Token kind.LEFT_BRACKET ∷ Part equations.PREMISS ∷ Token kind.RIGHT_BRACKET ∷ Token kind.SEMICOLON ∷ Part behaviours.BEHAVIOUR
    ∷ []) ∷
    row_of (Behaviours row.PrefixAfterOffers) behaviours.AFTER_OFFER (Token kind.SEMICOLON ∷ Part behaviours.BEHAVIOUR ∷ []) ∷
    row_of (Behaviours row.NoExitValues) behaviours.EXIT_VALUES [] ∷
    row_of (Behaviours row.ExitValues) behaviours.EXIT_VALUES
    (Token kind.LEFT_PARENTHESIS ∷ Part behaviours.EXIT_LIST ∷ Token kind.RIGHT_PARENTHESIS ∷ []) ∷
    row_of (Behaviours row.AnyExitValue) behaviours.EXIT_LIST (Token kind.ANY ∷ Part names.NAME ∷ Part behaviours.MORE_EXIT_VALUES ∷ []) ∷
    row_of (Behaviours row.GivenExitValue) behaviours.EXIT_LIST (Part terms.TERM ∷ Part behaviours.MORE_EXIT_VALUES ∷ []) ∷
    row_of (Behaviours row.NoMoreExitValues) behaviours.MORE_EXIT_VALUES [] ∷
    row_of (Behaviours row.MoreExitValues) behaviours.MORE_EXIT_VALUES (Token kind.COMMA ∷ Part behaviours.EXIT_LIST ∷ []) ∷
    row_of (Behaviours row.LetList) behaviours.LET_LIST (Part names.NAME ∷ Token kind.COLON ∷ Part names.NAME ∷ Token kind.EQUALS
    ∷ Part terms.TERM ∷ Part behaviours.MORE_LETS ∷ []) ∷
    row_of (Behaviours row.NoMoreLets) behaviours.MORE_LETS [] ∷
    row_of (Behaviours row.MoreLets) behaviours.MORE_LETS (Token kind.COMMA ∷ Part behaviours.LET_LIST ∷ []) ∷
    row_of (Behaviours row.ChoiceOfValues) behaviours.AFTER_CHOICE
    (Token kind.COLON ∷ Part names.NAME ∷ Part names.MORE_VARIABLES ∷ Part behaviours.CHOSEN ∷ []) ∷
    row_of (Behaviours row.ChoiceOfGates) behaviours.AFTER_CHOICE
    (Token kind.IN ∷ Part names.GATES ∷ Part behaviours.MORE_GATE_CHOICES ∷ Part behaviours.CHOSEN ∷ []) ∷
    row_of (Behaviours row.Chosen) behaviours.CHOSEN (Token kind.CHOICE_SIGN ∷ Part behaviours.BEHAVIOUR ∷ []) ∷
    row_of (Behaviours row.GateChoices) behaviours.GATE_CHOICES
    (Part names.NAMES ∷ Token kind.IN ∷ Part names.GATES ∷ Part behaviours.MORE_GATE_CHOICES ∷ []) ∷
    row_of (Behaviours row.NoMoreGateChoices) behaviours.MORE_GATE_CHOICES [] ∷
    row_of (Behaviours row.MoreGateChoices) behaviours.MORE_GATE_CHOICES (Token kind.COMMA ∷ Part behaviours.GATE_CHOICES ∷ []) ∷
    row_of (Behaviours row.ChoiceSign) behaviours.SIGN (Token kind.CHOICE_SIGN ∷ []) ∷
    row_of (Behaviours row.ParallelSign) behaviours.SIGN (Part behaviours.PARALLEL ∷ []) ∷
    row_of (Behaviours row.DisablingSign) behaviours.SIGN (Token kind.DISABLING ∷ []) ∷
    row_of (Behaviours row.EnablingSign) behaviours.SIGN (Token kind.ENABLING ∷ Part behaviours.ACCEPT ∷ []) ∷
    row_of (Behaviours row.Interleaving) behaviours.PARALLEL (Token kind.INTERLEAVING ∷ []) ∷
    row_of (Behaviours row.FullSynchronisation) behaviours.PARALLEL (Token kind.FULL_SYNCHRONISATION ∷ []) ∷
    row_of (Behaviours row.GateSynchronisation) behaviours.PARALLEL
    (Token kind.GATES_OPEN ∷ Part names.OPTIONAL_NAMES ∷ Token kind.GATES_CLOSE ∷ []) ∷
    row_of (Behaviours row.NoAccept) behaviours.ACCEPT [] ∷
    row_of (Behaviours row.Accept) behaviours.ACCEPT (Token kind.ACCEPT ∷ Part names.VARIABLES ∷ Token kind.IN ∷ []) ∷
    []
