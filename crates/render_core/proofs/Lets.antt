-- What lets mean.
use Rattle.std.proofs.Common.{◌≡◌, ℕ, pos, List, ◌∷◌, Option, Some, refl, sym, ap, ◌∙◌}
use Rattle.std.specs.List.{slice_get}
use Rattle.soy_base.specs.declared.kind.Kind.{Kind}
use Rattle.soy_base.specs.declared.kind.Kind.TheVariants as kind
use Rattle.soy_rules.specs.Cost.{cost}
use Rattle.soy_tree.specs.Types.{Name}
use Rattle.soy_rules.specs.Val.{Binding, BlockOf, val}
use Rattle.soy_tree.specs.Values as values
use Rattle.soy_tree.specs.ViewExpressions.{view_expr}
use Rattle.soy_tree.specs.declared.expr.Expr as code_expr
use Rattle.soy_pieces.specs.Meaning.{bound_as}
use Rattle.soy_pieces.specs.Giving.{BoundBlock, RunEnv}
use Rattle.soy_pieces.specs.Outcome.{Outcome, RunEnds, WholeRun, spent_first}
use Rattle.template_ir.specs.Run.{block_gives, bound_gives, one_step}
use Rattle.template_ir.specs.declared.op.Block.{Block}
use Rattle.template_ir.specs.declared.op.Op.{Op}
use Rattle.template_ir.specs.declared.op.Op.TheVariants as op
use Rattle.template_ir.specs.declared.program.ProgramParts.{ProgramParts}
use Rattle.render_core.specs.Finds.{found_means, held_of}
use Rattle.render_core.specs.Frames.{means_before}
use Rattle.render_core.specs.Stepping.{IsBlockKind, kept_of}
use Rattle.render_core.specs.Variables.{Cell, env_at, held_means, kept_means, name_or_none, name_there, of_op, op_name}
use Rattle.render_core.specs.declared.frame.Ahead.{Ahead}
use Rattle.render_core.specs.declared.held.Held.{Held}
use Rattle.render_core.specs.declared.held.Held.TheVariants as held
use Rattle.render_core.specs.declared.held.Kept.{Kept}
use Rattle.render_core.specs.declared.held.Naming.TheVariants as naming
use Rattle.render_core.specs.declared.held.Path.TheVariants as path
use Rattle.render_core.specs.declared.valuing.Found.{Found}
use Rattle.render_core.specs.declared.valuing.Found.TheVariants as found
use Rattle.render_core.proofs.Ops.{block_within, op_there}

-- what is found stands for the same once it is bound
pub held_found : (p : ProgramParts) (input : values.Value) (cells : List Cell) (f : Found)
    → held_means p input cells (held_of f) ≡ found_means p cells f
held_found p input cells (found.Made made) = refl
held_found p input cells (found.Part (path.Whole of)) = refl
held_found p input cells (found.Part (path.Child of number)) = refl
held_found p input cells (found.Part (path.Deep of steps)) = refl
held_found p input cells (found.Block kept) = refl

pub named_by : (p : ProgramParts) (at : ℕ) (o : Op) (name : Name) → slice_get p.ops at ≡ Some o → op_name o ≡ Some name
    → name ≡ name_or_none (name_there p (naming.Op at))
named_by p at o name is names =
    sym (ap (λ (x : Option Op). name_or_none (of_op op_name x)) is ∙ ap name_or_none names)

pub means_let : (p : ProgramParts) (cells : List Cell) (f : Ahead) (name : Name) (e : code_expr.Expr) (env : RunEnv)
    (x : Found) (to : Held) (input : values.Value) → slice_get p.ops f.at ≡ Some (op.Let name e)
    → found_means p cells x ≡ val (view_expr e) env → to ≡ held_of x
    → op_there p f.left f.at (op.Let name e) f.number env
    ≡ (
      RunEnds (one_step (cost (view_expr e) env)) WholeRun,
      (name_or_none (name_there p (naming.Op f.at)), held_means p input cells to) ∷ env,
    )
means_let p cells f name e env x to input is means held =
    let c : ℕ = cost (view_expr e) env in
    let n : Name = name_or_none (name_there p (naming.Op f.at)) in
    ap (λ (m : Name). (RunEnds (one_step c) WholeRun, (m, val (view_expr e) env) ∷ env))
    (named_by p f.at (op.Let name e) name is refl)
    ∙ ap (λ (b : Binding BoundBlock). (RunEnds (one_step c) WholeRun, (n, b) ∷ env))
    (sym means ∙ (sym (held_found p input cells x) ∙ ap (held_means p input cells) (sym held)))

pub bound_kind : (k : Kind) (o : Outcome) → IsBlockKind k → bound_as k o ≡ BlockOf (record { kind = k; outcome = o })
bound_kind kind.Html o h = refl
bound_kind kind.Attributes o h = refl
bound_kind kind.Text o h = absurd h

bound_none : (k : Kind) (o : Outcome) → IsBlockKind k
    → spent_first (one_step 0) (bound_gives k o) ≡ RunEnds (one_step 0) WholeRun
bound_none kind.Html o h = refl
bound_none kind.Attributes o h = refl
bound_none kind.Text o h = absurd h

-- a block that an op names, as it is kept
pub kept_outcome : (p : ProgramParts) (cells : List Cell) (f : Ahead) (k : Kind) (b : Block)
    → kept_means p cells (kept_of f k b)
    ≡ record { kind = k; outcome = block_gives (means_before p f.left f.at) b (pos 0) (env_at cells f.env) }
kept_outcome p cells f k b =
    ap (λ (o : Outcome). record { kind = k; outcome = o })
    (sym (block_within p f.left f.at b (pos 0) (env_at cells f.env)))

pub means_block : (p : ProgramParts) (cells : List Cell) (f : Ahead) (name : Name) (k : Kind) (b : Block) (kept : Kept)
    (input : values.Value) → slice_get p.ops f.at ≡ Some (op.LetBlock name k b) → IsBlockKind k
    → kept ≡ kept_of f k b
    → op_there p f.left f.at (op.LetBlock name k b) f.number (env_at cells f.env)
    ≡ (
      RunEnds (one_step 0) WholeRun,
      (name_or_none (name_there p (naming.Op f.at)), held_means p input cells (held.Block kept)) ∷ env_at cells f.env,
    )
means_block p cells f name k b kept input is kinds keeps =
    let env : RunEnv = env_at cells f.env in
    let o : Outcome = block_gives (means_before p f.left f.at) b (pos 0) env in
    let n : Name = name_or_none (name_there p (naming.Op f.at)) in
    let whole : Outcome = RunEnds (one_step 0) WholeRun in
    ap (λ (x : Outcome). (x, (name, bound_as k o) ∷ env)) (bound_none k o kinds)
    ∙ (ap (λ (m : Name). (whole, (m, bound_as k o) ∷ env)) (named_by p f.at (op.LetBlock name k b) name is refl)
    ∙ (ap (λ (y : Binding BoundBlock). (whole, (n, y) ∷ env)) (bound_kind k o kinds)
    ∙ ap (λ (y : BoundBlock). (whole, (n, BlockOf y) ∷ env))
    (sym (kept_outcome p cells f k b) ∙ ap (kept_means p cells) (sym keeps))))
