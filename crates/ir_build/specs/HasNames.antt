-- That the placeholders and the selectors that the ops of a translation go by are those of the message.
use Rattle.std.specs.Prelude.{◌≡◌, map}
use Rattle.soy_tree.specs.ViewNodes.{view_message}
use Rattle.msg_extract.specs.PlaceholderNodes.{placeholders_of}
use Rattle.msg_extract.specs.SelectorRows.{selectors_of, view_selector}
use Rattle.msg_extract.specs.Views.ViewPlaceholders.{view_placeholder}
use Rattle.ir_build.specs.declared.source.Source.{Source}

pub record HasNames (s : Source) : Type 0 where
  pub named : map view_placeholder s.placeholders.now ≡ placeholders_of (view_message s.message.now)
  pub selected : map view_selector s.selectors.now ≡ selectors_of (view_message s.message.now)
