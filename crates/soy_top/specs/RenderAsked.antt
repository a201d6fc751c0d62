-- The words ask for a render.
-- Example: `render t.m d.json - t.soy` does.
use Rattle.std.specs.Prelude.{Option, None, Some}
use Rattle.soy_top.specs.Asked.{Asked, Render, Check, Extract, Gen, Play, Preview, Format}

abbrev pub IsRender : Asked → Type 0
IsRender (Render template json_name bundle names) = Unit {0}
IsRender (Check bundle names) = ⊥
IsRender (Extract names) = ⊥
IsRender (Gen number) = ⊥
IsRender (Play script first second names) = ⊥
IsRender (Preview template json_name bundle names) = ⊥
IsRender (Format name) = ⊥

abbrev pub AsksRender : Option Asked → Type 0
AsksRender None = ⊥
AsksRender (Some asked) = IsRender asked
