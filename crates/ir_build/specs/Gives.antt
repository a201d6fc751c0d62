-- What a param of a call adds to what is handed: its name, and a value or a block of its own.
use Rattle.std.specs.Prelude.{◌≡◌, ℕ, List, [], ◌∷◌, ◌++◌}
use Rattle.soy_base.specs.declared.fault.Span.{Span}
use Rattle.soy_tree.specs.Nodes.{Given}
use Rattle.soy_tree.specs.Types.{Name}
use Rattle.template_ir.specs.Compiles.{StandsHanded}
use Rattle.template_ir.specs.HoleCounts.{given_holes}
use Rattle.template_ir.specs.Ops.{Handed, HandedBy, Op}
use Rattle.ir_build.specs.Laid.{Lays, Made}
use Rattle.ir_build.specs.Rows.{handed_as}
use Rattle.ir_build.specs.ViewScene.{context_of, translation_in}
use Rattle.ir_build.specs.declared.scene.Scene.{Scene}

abbrev pub given_stands : Scene → Given → HandedBy → ℕ → List Op → ℕ → Type 0
given_stands s given by hole all before = StandsHanded (context_of s all) given by hole before

pub record Gives (s : Scene) (argument : Name × Given × Span) (old new : Made) (handed_before handed_after : List
    Handed) : Type 0 where
  pub by : HandedBy
  pub adds : handed_after ≡ handed_before ++ (handed_as argument.0 by ∷ [])
  pub lays : Lays (given_stands s argument.1 by) (given_holes (translation_in s) argument.1) old new
