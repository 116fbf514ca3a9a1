-- The requests and numbers that those of the code stand for.
use Rattle.line_server.specs.Request as plain
use Rattle.line_server.specs.declared.requests.Request.{Request}
use Rattle.line_server.specs.declared.requests.Request.TheVariants.{Skip, Menu, Behaviour, Trace, Undo, Quit, Unknown, Step, Save, Replay, Normal, Equal, Values, Instances}

-- a request
abbrev pub wants : Request → plain.Request
wants Skip = plain.skip
wants Menu = plain.show_menu
wants Behaviour = plain.show_behaviour
wants Trace = plain.show_trace
wants Undo = plain.undo
wants Quit = plain.leave
wants Unknown = plain.no_request
wants (Step number terms) = plain.take_step number terms.now
wants (Save name) = plain.save name.now
wants (Replay name) = plain.replay name.now
wants (Normal terms) = plain.show_normal terms.now
wants (Equal terms) = plain.compare terms.now
wants (Values name size) = plain.list_values name.now size
wants (Instances number size) = plain.list_instances number size
