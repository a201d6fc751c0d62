-- The tokenizer of a page as a machine: the tables of html_state.
--
-- Example: its step from data with `<` is the row of a tag's begin.
use Rattle.html_state.specs.declared.row.State.{State}
use Rattle.html_state.specs.contracts.row.StatePartialEq.TheImpl as state_eq
use Rattle.html_state.specs.AfterValue.{after_value}
use Rattle.html_state.specs.MayEnd.{may_end}
use Rattle.html_state.specs.Next.{next, text_end}
use Rattle.html_state.specs.Start.{start}
use Rattle.html_state.specs.StatePlacing.{placing}
use Rattle.soy_meaning.specs.Walks.Machine.{Machine}

abbrev pub page_machine : Machine State
page_machine = record {
  same = (state_eq.ghosts).eq;
  step = next;
  text_end = text_end;
  placing = placing;
  value = after_value;
  start = start;
  may_end = may_end;
}
