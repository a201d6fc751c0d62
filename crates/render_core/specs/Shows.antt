-- How something that was found is printed: a value by its text and its class, or a block.
use Rattle.std.specs.Prelude.{◌≡◌, ℕ, ◌+◌, ◌≤◌, List, Result, Ok, Err, encode_utf8_all, pos}
use Rattle.std.specs.Str.{chars}
use Rattle.soy_base.specs.declared.memory.OutOfMemory.{OutOfMemory}
use Rattle.soy_base.specs.declared.place.ValueClass.{ValueClass}
use Rattle.soy_rules.specs.Val.{Binding, BlockOf, Known, value_text}
use Rattle.soy_expr.specs.Evaluates.{IsWithin}
use Rattle.soy_tree.specs.Values.{Value}
use Rattle.soy_pieces.specs.Giving.{BoundBlock, value_class}
use Rattle.template_ir.specs.declared.program.ProgramParts.{ProgramParts}
use Rattle.render_core.specs.Rest.{string_text}
use Rattle.render_core.specs.Variables.{Cell, kept_means, path_value}
use Rattle.render_core.specs.declared.frame.Ahead.{Ahead}
use Rattle.render_core.specs.declared.held.Kept.{Kept}
use Rattle.render_core.specs.declared.showing.Print.{Print}
use Rattle.render_core.specs.declared.showing.Print.TheVariants as print
use Rattle.render_core.specs.declared.showing.Shown.{Shown}
use Rattle.render_core.specs.declared.showing.Shown.TheVariants as shown

-- the text and the class of a value
abbrev pub ShowsValue : Value → List ℕ → ValueClass → Type 0
ShowsValue v text class = (text ≡ value_text v) × (class ≡ value_class v)

-- the text of a printed value
abbrev pub print_text : List Cell → Print → List ℕ
print_text cells (print.Made text) = text
print_text cells (print.Part path text) = string_text (path_value cells path)

-- a string that is at hand is the one that its path names
abbrev pub IsAtHand : List Cell → Print → Type 0
IsAtHand cells (print.Made text) = Unit {0}
IsAtHand cells (print.Part path text) =
    (chars text.now ≡ string_text (path_value cells path))
    × (text.now ≡ encode_utf8_all (string_text (path_value cells path)))

abbrev pub IsShownAtHand : List Cell → Shown → Type 0
IsShownAtHand cells (shown.Value text class) = IsAtHand cells text
IsShownAtHand cells (shown.Block kept) = Unit {0}

abbrev pub Shows : ProgramParts → List Cell → ℕ → Binding BoundBlock → Shown → Type 0
Shows p cells n (Known v) (shown.Value text class) = ShowsValue v (print_text cells text) class
Shows p cells n (BlockOf block) (shown.Block kept) = (kept_means p cells kept ≡ block) × (kept.env ≤ n)
Shows p cells n _ _ = ⊥

-- how a value of this cost is printed
abbrev pub Prints : ProgramParts → List Cell → ℕ → Binding BoundBlock → ℕ → ℕ → ℕ → Result Shown OutOfMemory → Type 0
Prints p cells n b spent before after (Ok s) = Shows p cells n b s × (after ≡ before + spent)
Prints p cells n b spent before after (Err e) = IsWithin spent before after

-- the frame of a block that is printed over so many variables
abbrev pub kept_child : Kept → ℕ → Ahead
kept_child kept n = record {
  at = kept.block.first;
  end = kept.block.end;
  env = kept.env;
  left = kept.left;
  number = pos 0;
  mark = n;
}
