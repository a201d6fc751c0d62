-- What a param of a call hands over.
use Rattle.std.proofs.Common.{◌≡◌, List, [], ◌∷◌, ◌++◌, refl, sym, ap, subst, ◌∙◌}
use Rattle.soy_base.specs.declared.fault.Span.{Span}
use Rattle.soy_base.specs.declared.kind.Kind.{Kind}
use Rattle.soy_tree.specs.declared.expr.Expr as code_expr
use Rattle.soy_tree.specs.declared.node.Argument as code_argument
use Rattle.soy_tree.specs.declared.node.Given.TheVariants as given
use Rattle.soy_tree.specs.declared.node.Node as code
use Rattle.soy_tree.specs.Nodes.{Block, Given, Node, Plain}
use Rattle.soy_tree.specs.Types.{Name}
use Rattle.soy_tree.specs.ViewExpressions.{view_expr}
use Rattle.soy_tree.specs.ViewNodes.{view_argument, view_given, view_nodes}
use Rattle.template_ir.specs.HoleCounts.{node_holes, nodes_holes}
use Rattle.template_ir.specs.Ops.{Handed, HandedBlock, HandedValue, Op}
use Rattle.ir_build.specs.Claims.{block_stands, node_stands, nodes_stand}
use Rattle.ir_build.specs.Gives.{Gives, given_stands}
use Rattle.ir_build.specs.Laid.{Made, Pushes, laid_block, with_ops}
use Rattle.ir_build.specs.Rows.{handed_as}
use Rattle.ir_build.specs.ViewScene.{translation_in}
use Rattle.ir_build.specs.declared.scene.Scene.{Scene}
use Rattle.ir_build.proofs.FormViews.{view_Block, view_Plain}
use Rattle.ir_build.proofs.Laying.{lays_as, lays_none, pushes_block}
use Rattle.ir_build.proofs.Views.{view_argument_is}

module _ (s : Scene) where
  pub gives_plain : (a : code_argument.Argument) (e : code_expr.Expr) (m : Made) (done done_after : List Handed)
      → a.given ≡ given.Plain e → done_after ≡ done ++ (handed_as a.name (HandedValue (view_expr e)) ∷ [])
      → Gives s (view_argument a) m m done done_after
  gives_plain a e m done done_after is adds =
      subst (λ (v : Name × Given × Span). Gives s v m m done done_after)
      (sym (view_argument_is a ∙ ap (λ (g : Given). (a.name, g, a.span)) (ap view_given is ∙ view_Plain e)))
      (record {
        by = HandedValue (view_expr e);
        adds = adds;
        lays = lays_none (given_stands s (Plain (view_expr e)) (HandedValue (view_expr e))) m (λ all before. refl);
      })

  pub gives_block : (x : code_argument.Argument) (kind : Kind) (body items : List code.Node) (a b d : Made)
      (none inner : List Op) (done done_after : List Handed) → x.given ≡ given.Block kind body → items ≡ body
      → none ≡ []
      → Pushes (nodes_stand s (view_nodes items)) (nodes_holes (translation_in s) (view_nodes items)) a b none inner
      → d ≡ with_ops b inner → done_after ≡ done ++ (handed_as x.name (HandedBlock kind (laid_block b inner)) ∷ [])
      → Gives s (view_argument x) a d done done_after
  gives_block x kind body items a b d none inner done done_after is it nil p made adds =
      subst (λ (v : Name × Given × Span). Gives s v a d done done_after)
      (sym (view_argument_is x ∙ ap (λ (g : Given). (x.name, g, x.span)) (ap view_given is ∙ view_Block kind body)))
      (record {
        by = HandedBlock kind (laid_block b inner);
        adds = adds;
        lays = lays_as (block_stands (nodes_stand s (view_nodes body)) (laid_block b inner))
            (given_stands s (Block kind (view_nodes body)) (HandedBlock kind (laid_block b inner)))
            (nodes_holes (translation_in s) (view_nodes body)) (nodes_holes (translation_in s) (view_nodes body)) a d
            refl (λ hole all before y. (refl, y.0, y.1)) (pushes_block (nodes_stand s (view_nodes body))
            (nodes_holes (translation_in s) (view_nodes body)) a b d none
            inner nil
            (subst (λ (ns : List code.Node). Pushes (nodes_stand s (view_nodes ns)) (nodes_holes (translation_in s)
            (view_nodes ns)) a b none inner) it p) made);
      })

  -- a node by what it is seen as
  pub node_as : (n : Node) (seen : Node) (a b : Made) (own own_after : List Op) → n ≡ seen
      → Pushes (node_stands s seen) (node_holes (translation_in s) seen) a b own own_after
      → Pushes (node_stands s n) (node_holes (translation_in s) n) a b own own_after
  node_as n seen a b own own_after e p =
      subst (λ (x : Node). Pushes (node_stands s x) (node_holes (translation_in s) x) a b own own_after) (sym e) p
