use Rattle.std.proofs.Common.{◌≡◌, Bool, None, ap, sym, ◌∙◌}
use Rattle.std.specs.Prelude.{IfOk, Result, Ok, Err}
use Rattle.soy_base.specs.declared.fault.Span.{Span}
use Rattle.soy_base.specs.declared.memory.OutOfMemory.{OutOfMemory}
use Rattle.soy_lexer.specs.declared.token.Token.{Token}
use Rattle.soy_parser.specs.CommandTerminals.{command_terminal_of}
use Rattle.soy_parser.specs.FileSteps.{attribute_step, attributes_step, ended_command}
use Rattle.soy_parser.specs.Heads.{attribute_name, form_at}
use Rattle.soy_parser.specs.Reached.{reached}
use Rattle.soy_parser.specs.declared.attributes.Attributes.{Attributes}
use Rattle.soy_parser.specs.declared.block.CommandState.{CommandState}
use Rattle.soy_parser.specs.declared.command.CommandForm.{CommandForm}
use Rattle.soy_parser.specs.declared.head.Head.{Head}
use Rattle.soy_parser.specs.declared.head.Head.TheVariants as head
use Rattle.soy_parser.specs.declared.spot.FileState.{FileState}
use Rattle.soy_parser.proofs.attribute_spots.attributes_go_on.Goals as goal

-- a command that has no attributes ends
whole_ended : (s : CommandState) (from : Span) (h : Head) (a : Attributes) (form : CommandForm) (t : Token)
    (to : FileState) (r : Result Bool OutOfMemory) → h ≡ head.Whole form
    → attribute_name (command_terminal_of t) ≡ None
    → IfOk r (λ on. reached on to ≡ ended_command s from (form_at (head.Whole form) a (command_terminal_of t)) t)
    → IfOk r (λ on. reached on to ≡ attributes_step s from h a t)
whole_ended s from h a form t to (Ok on) whole none e =
    e ∙ (ap (λ g. ended_command s from (form_at g a (command_terminal_of t)) t) (sym whole)
    ∙ ap (λ n. attribute_step s from h a n t) (sym none))
whole_ended s from h a form t to (Err out) whole none e = tt

pub returns-in-Whole : goal.returns-in-Whole
returns-in-Whole c =
    whole_ended c.args.file.now.commands c.args.from c.args.head c.args.attributes c.in-Whole.form c.args.token.now
    c.whole_ends.new.file c.whole_ends.result (sym c.taken.ensures ∙ c.in-Whole.is)
    (ap attribute_name (sym c.of.ensures) ∙ (sym c.of-2.ensures ∙ c.in-None.is)) (c.whole_ends.ensures c.args.attributes)
