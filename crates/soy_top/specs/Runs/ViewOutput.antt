-- What is to be written, as the definitions see it.
--
-- Example: a page is seen as the bytes of the pieces that its program gives, with the line of the call where they stop.
use Rattle.std.specs.Prelude.{◌≡◌, ℕ, List, []}
use Rattle.std.specs.String.{string_bytes}
use Rattle.render_core.specs.Pulls.{stops_at}
use Rattle.soy_front.specs.ViewSources.{view_contents}
use Rattle.soy_pieces.specs.Outcome.{Outcome, RunEnd, StopsAt, WholeRun, end_of_outcome}
use Rattle.soy_top.specs.declared.output.Output.{Output}
use Rattle.soy_top.specs.declared.output.Output.TheVariants as variant
use Rattle.soy_top.specs.declared.output.End.{End}
use Rattle.soy_top.specs.declared.output.End.TheVariants as end
use Rattle.soy_top.specs.declared.page.DeepCall.{DeepCall}
use Rattle.soy_top.specs.declared.page.Page.{Page}
use Rattle.soy_top.specs.Answer.{call_fault, run_text}
use Rattle.soy_top.specs.Line.{ended}
use Rattle.soy_top.specs.Numbered.{numbered_line}
use Rattle.soy_top.specs.Runs.Output as output
use Rattle.soy_top.specs.Scripts.ViewPlay.{view_play}
use Rattle.soy_top.specs.Words.{Word, command_words}
use Rattle.soy_tree.specs.ViewValues.{view_value}
use Rattle.template_ir.specs.Run.{run}
use Rattle.template_ir.specs.ViewOps.{view_program}

-- what the program of a page gives
abbrev pub page_run : Page → Outcome
page_run page = run (view_program page.program) page.template (view_value page.input)

-- how a page ends by the end of a run
abbrev pub view_end : List Word → List (List ℕ) → RunEnd → output.End
view_end names files WholeRun = output.Whole
view_end names files (StopsAt site) = output.AtCall (numbered_line names files (call_fault site))

-- a page with its end
abbrev pub view_page : Page → output.Output
view_page page = record {
  text = run_text (page_run page);
  end = view_end (command_words page.names.now) (view_contents page.sources.now) (end_of_outcome (page_run page));
}

-- nothing, up to a call
abbrev pub view_call : DeepCall → output.Output
view_call deep = record {
  text = [];
  end = view_end (command_words deep.names.now) (view_contents deep.sources.now) (stops_at deep.call);
}

abbrev pub view_output : Output → output.Output
view_output (variant.Text text) = record { text = string_bytes text; end = output.Whole }
view_output (variant.Page page) = view_page page
view_output (variant.Play play) = view_play play
view_output (variant.AtCall deep) = view_call deep

-- this is how the output ends
abbrev pub IsEnd : output.End → End → Type 0
IsEnd output.Whole end.Whole = Unit {0}
IsEnd output.Whole (end.AtCall text) = ⊥
IsEnd (output.AtCall line) end.Whole = ⊥
IsEnd (output.AtCall line) (end.AtCall text) = string_bytes text ≡ ended line
