-- The states of a style outside comments, strings and escapes, and not directly after a value.
--
-- Example: after `a /` the state is Slash, and a comment or a string may begin there.
use Rattle.std.specs.Prelude.{⊤}
use Rattle.script_state.specs.declared.css_state.CssState.{CssState}
use Rattle.script_state.specs.declared.css_state.CssState.TheVariants.{Code, Ready, Slash}

abbrev pub IsStyleCode : CssState → Type 0
IsStyleCode Code = ⊤
IsStyleCode Ready = ⊤
IsStyleCode Slash = ⊤
IsStyleCode _ = ⊥
