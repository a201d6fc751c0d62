-- What is seen at a point that is made of a machine.
use Rattle.std.proofs.Common.{◌≡◌, ℕ, Bool, List, Result, length, ap, sym, ◌∙◌, subst}
use Rattle.soy_base.specs.declared.memory.OutOfMemory.{OutOfMemory}
use Rattle.soy_rules.specs.Cost.{cost}
use Rattle.soy_tree.specs.Expressions.{Expr}
use Rattle.soy_rules.specs.Val.{val}
use Rattle.soy_expr.specs.Evaluates.{IsWithin}
use Rattle.soy_pieces.specs.Giving.{RunEnv}
use Rattle.soy_tree.specs.ViewValues.{view_value}
use Rattle.soy_tree.specs.declared.value.Value as code
use Rattle.template_ir.specs.declared.program.ProgramParts.{ProgramParts}
use Rattle.render_core.specs.Finds.{Finds, HasItem, found_means}
use Rattle.render_core.specs.Seen.{cells_seen, env_seen, program_seen}
use Rattle.render_core.specs.Shows.{IsAtHand, IsShownAtHand, Prints}
use Rattle.render_core.specs.Variables.{Cell, cell_at, cells_of, env_at}
use Rattle.render_core.specs.declared.held.Bound.{Bound}
use Rattle.render_core.specs.declared.parts.Point.{Point}
use Rattle.render_core.specs.declared.showing.Print.{Print}
use Rattle.render_core.specs.declared.showing.Shown.{Shown}
use Rattle.render_core.specs.declared.valuing.Found.{Found}

pub same_cells : (point : Point) (p : ProgramParts) (v : code.Value) (bound : List Bound) → point.scene.program.now ≡ p
    → point.scene.input.now ≡ v → point.bound.now ≡ bound → cells_seen point ≡ cells_of p (view_value v) bound
same_cells point p v bound program input bounds =
    ap (λ (q : ProgramParts). cells_of q (view_value point.scene.input.now) point.bound.now) program
    ∙ (ap (λ (w : code.Value). cells_of p (view_value w) point.bound.now) input
    ∙ ap (λ (bs : List Bound). cells_of p (view_value v) bs) bounds)

pub same_env : (point : Point) (p : ProgramParts) (v : code.Value) (bound : List Bound) (n : ℕ)
    → point.scene.program.now ≡ p → point.scene.input.now ≡ v → point.bound.now ≡ bound → point.env ≡ n
    → env_seen point ≡ env_at (cells_of p (view_value v) bound) n
same_env point p v bound n program input bounds env =
    ap (λ k. env_at (cells_seen point) k) env
    ∙ ap (λ cells. env_at cells n) (same_cells point p v bound program input bounds)

pub hand_at : (point : Point) (p : ProgramParts) (v : code.Value) (bound : List Bound) → point.scene.program.now ≡ p
    → point.scene.input.now ≡ v → point.bound.now ≡ bound → (s : Shown) → IsShownAtHand (cells_seen point) s
    → IsShownAtHand (cells_of p (view_value v) bound) s
hand_at point p v bound program input bounds s h =
    subst (λ (cells : List Cell). IsShownAtHand cells s) (same_cells point p v bound program input bounds) h

-- back to the point
pub hand_seen : (point : Point) (p : ProgramParts) (v : code.Value) (bound : List Bound) → point.scene.program.now ≡ p
    → point.scene.input.now ≡ v → point.bound.now ≡ bound → (text : Print)
    → IsAtHand (cells_of p (view_value v) bound) text → IsAtHand (cells_seen point) text
hand_seen point p v bound program input bounds text h =
    subst (λ (cells : List Cell). IsAtHand cells text) (sym (same_cells point p v bound program input bounds)) h

pub found_at : (point : Point) (p : ProgramParts) (v : code.Value) (bound : List Bound) → point.scene.program.now ≡ p
    → point.scene.input.now ≡ v → point.bound.now ≡ bound → (f : Found)
    → found_means (program_seen point) (cells_seen point) f ≡ found_means p (cells_of p (view_value v) bound) f
found_at point p v bound program input bounds f =
    ap (λ (cells : List Cell). found_means (program_seen point) cells f)
    (same_cells point p v bound program input bounds)
    ∙ ap (λ (q : ProgramParts). found_means q (cells_of p (view_value v) bound) f) program

pub finds_at : (point : Point) (p : ProgramParts) (v : code.Value) (bound : List Bound) (n : ℕ)
    → point.scene.program.now ≡ p → point.scene.input.now ≡ v → point.bound.now ≡ bound → point.env ≡ n
    → (e : Expr) (before after : ℕ) (r : Result Found OutOfMemory)
    → Finds (program_seen point) (cells_seen point) (length point.bound.now) (val e (env_seen point))
    (cost e (env_seen point)) before after r
    → Finds p (cells_of p (view_value v) bound) (length bound) (val e (env_at (cells_of p (view_value v) bound) n))
    (cost e (env_at (cells_of p (view_value v) bound) n)) before after r
finds_at point p v bound n program input bounds env e before after r h =
    let cells : List Cell = cells_of p (view_value v) bound in
    subst (λ (q : ProgramParts). Finds q cells (length bound) (val e (env_at cells n)) (cost e (env_at cells n)) before
    after r) program
    (subst (λ (cs : List Cell). Finds (program_seen point) cs (length bound) (val e (env_at cells n))
    (cost e (env_at cells n)) before after r) (same_cells point p v bound program input bounds)
    (subst (λ (bs : List Bound). Finds (program_seen point) (cells_seen point) (length bs) (val e (env_at cells n))
    (cost e (env_at cells n)) before after r) bounds
    (subst (λ (around : RunEnv). Finds (program_seen point) (cells_seen point) (length point.bound.now) (val e around)
    (cost e around) before after r) (same_env point p v bound n program input bounds env) h)))

pub finds_err : (point : Point) (p : ProgramParts) (v : code.Value) (bound : List Bound) (n : ℕ)
    → point.scene.program.now ≡ p → point.scene.input.now ≡ v → point.bound.now ≡ bound → point.env ≡ n
    → (e : Expr) (before after : ℕ) → IsWithin (cost e (env_seen point)) before after
    → IsWithin (cost e (env_at (cells_of p (view_value v) bound) n)) before after
finds_err point p v bound n program input bounds env e before after h =
    subst (λ (around : RunEnv). IsWithin (cost e around) before after)
    (same_env point p v bound n program input bounds env) h

pub prints_at : (point : Point) (p : ProgramParts) (v : code.Value) (bound : List Bound) (n : ℕ)
    → point.scene.program.now ≡ p → point.scene.input.now ≡ v → point.bound.now ≡ bound → point.env ≡ n
    → (e : Expr) (before after : ℕ) (r : Result Shown OutOfMemory)
    → Prints (program_seen point) (cells_seen point) (length point.bound.now) (val e (env_seen point))
    (cost e (env_seen point)) before after r
    → Prints p (cells_of p (view_value v) bound) (length bound) (val e (env_at (cells_of p (view_value v) bound) n))
    (cost e (env_at (cells_of p (view_value v) bound) n)) before after r
prints_at point p v bound n program input bounds env e before after r h =
    let cells : List Cell = cells_of p (view_value v) bound in
    subst (λ (q : ProgramParts). Prints q cells (length bound) (val e (env_at cells n)) (cost e (env_at cells n)) before
    after r) program
    (subst (λ (cs : List Cell). Prints (program_seen point) cs (length bound) (val e (env_at cells n))
    (cost e (env_at cells n)) before after r) (same_cells point p v bound program input bounds)
    (subst (λ (bs : List Bound). Prints (program_seen point) (cells_seen point) (length bs) (val e (env_at cells n))
    (cost e (env_at cells n)) before after r) bounds
    (subst (λ (around : RunEnv). Prints (program_seen point) (cells_seen point) (length point.bound.now) (val e around)
    (cost e around) before after r) (same_env point p v bound n program input bounds env) h)))

pub items_at : (point : Point) (p : ProgramParts) (v : code.Value) (bound : List Bound) → point.scene.program.now ≡ p
    → point.scene.input.now ≡ v → point.bound.now ≡ bound → (list number : ℕ) (has : Bool)
    → HasItem number (cell_at (cells_seen point) list).part has
    → HasItem number (cell_at (cells_of p (view_value v) bound) list).part has
items_at point p v bound program input bounds list number has h =
    subst (λ (cells : List Cell). HasItem number (cell_at cells list).part has)
    (same_cells point p v bound program input bounds) h
