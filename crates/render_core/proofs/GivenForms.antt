-- The form of a value that is given, at a point that is made of a machine.
use Rattle.std.proofs.Common.{◌≡◌, ℕ, List, ap, ◌∙◌, subst}
use Rattle.std.specs.Prelude.{encode_utf8_all}
use Rattle.soy_base.specs.declared.place.Place.{Place}
use Rattle.soy_base.specs.declared.place.ValueClass.{ValueClass}
use Rattle.soy_tree.specs.ViewValues.{view_value}
use Rattle.soy_tree.specs.declared.value.Value as code
use Rattle.template_ir.specs.declared.program.ProgramParts.{ProgramParts}
use Rattle.render_core.specs.Forms.{form_at}
use Rattle.render_core.specs.Shows.{print_text}
use Rattle.render_core.specs.Seen.{cells_seen, input_seen, program_seen}
use Rattle.render_core.specs.Stepping.{Given, Output}
use Rattle.render_core.specs.Variables.{Cell, cells_of}
use Rattle.render_core.specs.declared.held.Bound.{Bound}
use Rattle.render_core.specs.declared.parts.Point.{Point}
use Rattle.render_core.specs.declared.showing.Print.{Print}
use Rattle.render_core.proofs.Sights.{same_cells}

abbrev form_of : ProgramParts → code.Value → List Bound → Place → Print → ValueClass → List ℕ
form_of p v bound at text class = form_at at class (print_text (cells_of p (view_value v) bound) text) p.dir

abbrev GivesOf : ProgramParts → code.Value → List Bound → Place → Print → ValueClass → Output → ℕ → Type 0
GivesOf p v bound at text class out n =
    Given p (view_value v) bound (encode_utf8_all (form_of p v bound at text class)) out n

pub given_at : (point : Point) (p : ProgramParts) (v : code.Value) (bound : List Bound) → point.scene.program.now ≡ p
    → point.scene.input.now ≡ v → point.bound.now ≡ bound → (at : Place) (text : Print) (class : ValueClass)
    (out : Output) (n : ℕ)
    → Given (program_seen point) (input_seen point) point.bound.now
    (encode_utf8_all (form_at at class (print_text (cells_seen point) text) (program_seen point).dir)) out n
    → Given p (view_value v) bound
    (encode_utf8_all (form_at at class (print_text (cells_of p (view_value v) bound) text) p.dir)) out n
given_at point p v bound program input bounds at text class out n h =
    subst (λ (q : ProgramParts). GivesOf q v bound at text class out n) program
    (subst (λ (w : code.Value). GivesOf (program_seen point) w bound at text class out n) input
    (subst (λ (bs : List Bound). GivesOf (program_seen point) point.scene.input.now bs at text class out n) bounds h))

pub form_same : (point : Point) (p : ProgramParts) (v : code.Value) (bound : List Bound) → point.scene.program.now ≡ p
    → point.scene.input.now ≡ v → point.bound.now ≡ bound → (at : Place) (text : Print) (class : ValueClass)
    → form_at at class (print_text (cells_seen point) text) (program_seen point).dir
    ≡ form_at at class (print_text (cells_of p (view_value v) bound) text) p.dir
form_same point p v bound program input bounds at text class =
    ap (λ (cells : List Cell). form_at at class (print_text cells text) (program_seen point).dir)
    (same_cells point p v bound program input bounds)
    ∙ ap (λ (q : ProgramParts). form_at at class (print_text (cells_of p (view_value v) bound) text) q.dir) program
