-- The ops of a node of the code, by its form.
use Rattle.std.proofs.Common.{◌≡◌, ℕ, Bool, false, List, [], ◌∷◌, ◌++◌, Option, Some, None, length}
use Rattle.std.proofs.Common.{refl, sym, ap, subst, ◌∙◌}
use Rattle.soy_base.specs.declared.kind.Kind.{Kind}
use Rattle.soy_base.specs.declared.place.Place.{Place}
use Rattle.soy_pieces.specs.Pieces.{chosen_text}
use Rattle.soy_tree.specs.declared.expr.Expr as code_expr
use Rattle.soy_tree.specs.declared.node.Argument as code_argument
use Rattle.soy_tree.specs.declared.node.Arm as code_arm
use Rattle.soy_tree.specs.declared.node.Case as code_case
use Rattle.soy_tree.specs.declared.node.Form.TheVariants as form
use Rattle.soy_tree.specs.declared.node.Message as code_message
use Rattle.soy_tree.specs.declared.node.MessageBody as code_body
use Rattle.soy_tree.specs.declared.node.MessageBody.TheVariants as message_body
use Rattle.soy_tree.specs.declared.node.Node as code
use Rattle.soy_tree.specs.declared.node.PluralCase as code_plural_case
use Rattle.soy_tree.specs.declared.node.SelectCase as code_select_case
use Rattle.soy_tree.specs.Nodes.{MessageBody, fallback, no_fallback}
use Rattle.soy_tree.specs.ViewExpressions.{view_expr}
use Rattle.soy_tree.specs.ViewNodes.{view_arguments, view_arms, view_body, view_cases, view_message, view_node}
use Rattle.soy_tree.specs.ViewNodes.{view_nodes, view_plural_cases, view_select_cases}
use Rattle.msg_extract.proofs.ViewBodies.{view_message_is}
use Rattle.template_ir.specs.Compiles.{other_arm, other_word}
use Rattle.template_ir.specs.HoleCounts.{argument_holes, arm_holes, body_holes, case_holes, node_holes, nodes_holes}
use Rattle.template_ir.specs.HoleCounts.{plural_holes, select_holes}
use Rattle.template_ir.specs.Ops.{Branch, Choice, ForOp, Handed, IfOp, LetBlockOp, LetOp, Op, PluralOp, PrintOp}
use Rattle.template_ir.specs.Ops.{SelectOp, SwitchOp}
use Rattle.template_ir.specs.StandFor.{place_of}
use Rattle.template_ir.specs.declared.op.ExactBlock.{ExactBlock}
use Rattle.template_ir.specs.declared.op.WordBlock.{WordBlock}
use Rattle.template_ir.specs.ViewOps.{view_ops}
use Rattle.ir_build.specs.Chooses.{Chooses}
use Rattle.ir_build.specs.Claims.{arms_stand, body_stands, cases_stand, given_stand, node_stands, nodes_stand}
use Rattle.ir_build.specs.Claims.{plural_cases_stand, select_cases_stand}
use Rattle.ir_build.specs.Laid.{Lays, Made, Pushes, cut_output, laid_block, view_output, with_hole, with_ops}
use Rattle.ir_build.specs.TextOps.{text_ops}
use Rattle.ir_build.specs.ViewScene.{call_op, translation_in}
use Rattle.ir_build.specs.declared.output.Output.{Output}
use Rattle.ir_build.specs.declared.scene.Scene.{Scene}
use Rattle.ir_build.proofs.Choosing.{cut_is, message_pushed}
use Rattle.ir_build.proofs.CommandOps.{call_pushed, for_pushed, if_else_pushed, if_pushed, let_block_pushed, let_pushed}
use Rattle.ir_build.proofs.CommandOps.{plural_pushed, print_node_pushed, select_pushed, switch_default_pushed}
use Rattle.ir_build.proofs.CommandOps.{switch_pushed, text_node_pushed}
use Rattle.ir_build.proofs.FormViews.{is_call, is_for, is_if, is_if_else, is_let, is_let_block, is_message}
use Rattle.ir_build.proofs.FormViews.{is_message_fallback, is_print, is_switch, is_switch_default, is_text, view_Parts}
use Rattle.ir_build.proofs.FormViews.{view_Plural, view_Select}
use Rattle.ir_build.proofs.GivenOps.{node_as}

module _ (s : Scene) where
  abbrev pub NodesPushed : List code.Node → Made → Made → List Op → List Op → Type 0
  NodesPushed ns a b own own_after =
      Pushes (nodes_stand s (view_nodes ns)) (nodes_holes (translation_in s) (view_nodes ns)) a b own own_after

  abbrev pub BodyPushed : code_body.MessageBody → Made → Made → List Op → List Op → Type 0
  BodyPushed body a b own own_after =
      Pushes (body_stands s (view_body body)) (body_holes (translation_in s) (view_body body)) a b own own_after

  abbrev pub ArmsLaid : List code_arm.Arm → List Branch → Made → Made → Type 0
  ArmsLaid arms branches a b =
      Lays (arms_stand s (view_arms arms) branches) (arm_holes (translation_in s) (view_arms arms)) a b

  abbrev pub CasesLaid : List code_case.Case → List Choice → Made → Made → Type 0
  CasesLaid cases choices a b =
      Lays (cases_stand s (view_cases cases) choices) (case_holes (translation_in s) (view_cases cases)) a b

  module _ (n : code.Node) where
    abbrev pub NodePushed : Made → Made → List Op → List Op → Type 0
    NodePushed a b own own_after =
        Pushes (node_stands s (view_node n)) (node_holes (translation_in s) (view_node n)) a b own own_after

    pub at_text : (t : List ℕ) (m : Made) (own own_after : List Op) → n.form ≡ form.Text t
        → own_after ≡ own ++ text_ops t → NodePushed m m own own_after
    at_text t m own own_after is e =
        node_as s (view_node n) _ m m own own_after (is_text n t is) (text_node_pushed s t n.span m own own_after e)

    pub at_print : (x : code_expr.Expr) (phname : Option (List ℕ)) (a b : Made) (own own_after : List Op)
        → n.form ≡ form.Print x phname
        → own_after ≡ own ++ (PrintOp (view_expr x) (place_of s.places.now a.holes) ∷ []) → b ≡ with_hole a
        → NodePushed a b own own_after
    at_print x phname a b own own_after is e made =
        node_as s (view_node n) _ a b own own_after (is_print n x phname is)
        (print_node_pushed s (view_expr x) phname n.span a b own own_after made e)

    pub at_if : (arms items : List code_arm.Arm) (o : Option (List code.Node)) (branches : List Branch) (a b : Made)
        (own own_after : List Op) → n.form ≡ form.If arms o → o ≡ None → items ≡ arms → ArmsLaid items branches a b
        → own_after ≡ own ++ (IfOp branches None ∷ []) → NodePushed a b own own_after
    at_if arms items o branches a b own own_after is none it l e =
        node_as s (view_node n) _ a b own own_after (is_if n arms (is ∙ ap (λ x. form.If arms x) none))
        (if_pushed s (view_arms arms) n.span branches a b own own_after
        (subst (λ (x : List code_arm.Arm). ArmsLaid x branches a b) it l) e)

    pub at_if_else : (arms items : List code_arm.Arm) (o : Option (List code.Node)) (body nodes : List code.Node)
        (branches : List Branch) (a b d f : Made) (none inner own own_after : List Op) → n.form ≡ form.If arms o
        → o ≡ Some body → items ≡ arms → nodes ≡ body → none ≡ [] → ArmsLaid items branches a b
        → NodesPushed nodes b d none inner → own_after ≡ own ++ (IfOp branches (Some (laid_block d inner)) ∷ [])
        → f ≡ with_ops d inner → NodePushed a f own own_after
    at_if_else arms items o body nodes branches a b d f none inner own own_after is there it body_is nil l p e made =
        node_as s (view_node n) _ a f own own_after (is_if_else n arms body (is ∙ ap (λ x. form.If arms x) there))
        (if_else_pushed s (view_arms arms) (view_nodes body) n.span branches a b d f none inner own own_after
        (subst (λ (x : List code_arm.Arm). ArmsLaid x branches a b) it l) nil
        (subst (λ (x : List code.Node). NodesPushed x b d none inner) body_is p) made e)

    pub at_switch : (x : code_expr.Expr) (cases items : List code_case.Case) (o : Option (List code.Node))
        (choices : List Choice) (a b : Made) (own own_after : List Op) → n.form ≡ form.Switch x cases o → o ≡ None
        → items ≡ cases → CasesLaid items choices a b → own_after ≡ own ++ (SwitchOp (view_expr x) choices None ∷ [])
        → NodePushed a b own own_after
    at_switch x cases items o choices a b own own_after is none it l e =
        node_as s (view_node n) _ a b own own_after (is_switch n x cases (is ∙ ap (λ y. form.Switch x cases y) none))
        (switch_pushed s (view_expr x) (view_cases cases) n.span choices a b own own_after
        (subst (λ (y : List code_case.Case). CasesLaid y choices a b) it l) e)

    pub at_switch_default : (x : code_expr.Expr) (cases items : List code_case.Case) (o : Option (List code.Node))
        (body nodes : List code.Node) (choices : List Choice) (a b d f : Made) (none inner own own_after : List Op)
        → n.form ≡ form.Switch x cases o → o ≡ Some body → items ≡ cases → nodes ≡ body → none ≡ []
        → CasesLaid items choices a b → NodesPushed nodes b d none inner
        → own_after ≡ own ++ (SwitchOp (view_expr x) choices (Some (laid_block d inner)) ∷ []) → f ≡ with_ops d inner
        → NodePushed a f own own_after
    at_switch_default x cases items o body nodes choices a b d f none inner own own_after is there it body_is nil l p e
        made =
        node_as s (view_node n) _ a f own own_after
        (is_switch_default n x cases body (is ∙ ap (λ y. form.Switch x cases y) there))
        (switch_default_pushed s (view_expr x) (view_cases cases) (view_nodes body) n.span choices a b d f none inner
        own own_after (subst (λ (y : List code_case.Case). CasesLaid y choices a b) it l) nil
        (subst (λ (y : List code.Node). NodesPushed y b d none inner) body_is p) made e)

    pub at_for : (x : List ℕ) (index : Option (List ℕ)) (list : code_expr.Expr) (body nodes : List code.Node)
        (a b d : Made) (none inner own own_after : List Op) → n.form ≡ form.For x index list body → nodes ≡ body
        → none ≡ [] → NodesPushed nodes a b none inner
        → own_after ≡ own ++ (ForOp x index (view_expr list) (laid_block b inner) ∷ []) → d ≡ with_ops b inner
        → NodePushed a d own own_after
    at_for x index list body nodes a b d none inner own own_after is body_is nil p e made =
        node_as s (view_node n) _ a d own own_after (is_for n x index list body is)
        (for_pushed s x index (view_expr list) (view_nodes body) n.span a b d none inner own own_after nil
        (subst (λ (y : List code.Node). NodesPushed y a b none inner) body_is p) made e)

    pub at_let : (x : List ℕ) (e : code_expr.Expr) (m : Made) (own own_after : List Op) → n.form ≡ form.Let x e
        → own_after ≡ own ++ (LetOp x (view_expr e) ∷ []) → NodePushed m m own own_after
    at_let x e m own own_after is own_is =
        node_as s (view_node n) _ m m own own_after (is_let n x e is)
        (let_pushed s x (view_expr e) n.span m own own_after own_is)

    pub at_let_block : (x : List ℕ) (kind : Kind) (body nodes : List code.Node) (a b d : Made)
        (none inner own own_after : List Op) → n.form ≡ form.LetBlock x kind body → nodes ≡ body → none ≡ []
        → NodesPushed nodes a b none inner → own_after ≡ own ++ (LetBlockOp x kind (laid_block b inner) ∷ [])
        → d ≡ with_ops b inner → NodePushed a d own own_after
    at_let_block x kind body nodes a b d none inner own own_after is body_is nil p e made =
        node_as s (view_node n) _ a d own own_after (is_let_block n x kind body is)
        (let_block_pushed s x kind (view_nodes body) n.span a b d none inner own own_after nil
        (subst (λ (y : List code.Node). NodesPushed y a b none inner) body_is p) made e)

    pub at_call : (name : List ℕ) (all_on : Bool) (given items params : List code_argument.Argument)
        (handed : List Handed) (point : Place) (a b d : Made) (own own_after : List Op)
        → n.form ≡ form.Call name all_on given → items ≡ given → params ≡ given → b ≡ with_hole a
        → point ≡ place_of s.places.now a.holes
        → Lays (given_stand s (view_arguments items) handed) (argument_holes (translation_in s) (view_arguments items))
        b d
        → own_after ≡ own ++ (call_op s name all_on (view_arguments params) handed point n.span ∷ [])
        → NodePushed a d own own_after
    at_call name all_on given items params handed point a b d own own_after is it params_are made point_is l e =
        node_as s (view_node n) _ a d own own_after (is_call n name all_on given is)
        (call_pushed s name all_on (view_arguments given) n.span handed point a b d own own_after made point_is
        (subst (λ (x : List code_argument.Argument). Lays (given_stand s (view_arguments x) handed)
        (argument_holes (translation_in s) (view_arguments x)) b d) it l)
        (e ∙ ap (λ (x : List code_argument.Argument). own ++ (call_op s name all_on (view_arguments x) handed point
        n.span ∷ [])) params_are))

    pub at_message : (m : code_message.Message) (o : Option code_message.Message) (a b : Output) (d : Made)
        (length_before : ℕ) (none source own own_after : List Op) → n.form ≡ form.Message m o → o ≡ None
        → length_before ≡ length (view_ops a.ops.items) → none ≡ []
        → BodyPushed m.body (view_output a) (view_output b) none source
        → Chooses (translation_in s) s.places.now (chosen_text (translation_in s) (view_message m) no_fallback)
        (view_message m) no_fallback (view_output b) (cut_output length_before b) d source own own_after
        → NodePushed (view_output a) d own own_after
    at_message m o a b d length_before none source own own_after is none_there long nil p q =
        node_as s (view_node n) _ (view_output a) d own own_after
        (is_message n m (is ∙ ap (λ x. form.Message m x) none_there))
        (message_pushed s (view_body m.body) (view_message m) (view_output a) (view_output b) (cut_output length_before
        b) d none source own own_after no_fallback m.desc m.meaning m.span n.span (view_message_is m) nil p
        (cut_is a.ops.items b.ops.items p.inner length_before p.ops long) refl q)

    pub at_message_fallback : (m other : code_message.Message) (o : Option code_message.Message) (a b : Output)
        (d : Made) (length_before : ℕ) (none source own own_after : List Op) → n.form ≡ form.Message m o
        → o ≡ Some other
        → length_before ≡ length (view_ops a.ops.items) → none ≡ []
        → BodyPushed m.body (view_output a) (view_output b) none source
        → Chooses (translation_in s) s.places.now
        (chosen_text (translation_in s) (view_message m) (fallback (view_message other))) (view_message m)
        (fallback (view_message other)) (view_output b) (cut_output length_before b) d source own own_after
        → NodePushed (view_output a) d own own_after
    at_message_fallback m other o a b d length_before none source own own_after is there long nil p q =
        node_as s (view_node n) _ (view_output a) d own own_after
        (is_message_fallback n m other (is ∙ ap (λ x. form.Message m x) there))
        (message_pushed s (view_body m.body) (view_message m) (view_output a) (view_output b) (cut_output length_before
        b) d none source own own_after (fallback (view_message other)) m.desc m.meaning m.span n.span
        (view_message_is m) nil p (cut_is a.ops.items b.ops.items p.inner length_before p.ops long) refl q)

  -- ---- the contents of messages

  body_as : (x : code_body.MessageBody) (seen : MessageBody) (a b : Made) (own own_after : List Op) → view_body x ≡ seen
      → Pushes (body_stands s seen) (body_holes (translation_in s) seen) a b own own_after → BodyPushed x a b own
      own_after
  body_as x seen a b own own_after e p =
      subst (λ (y : MessageBody). Pushes (body_stands s y) (body_holes (translation_in s) y) a b own own_after) (sym e)
      p

  pub at_parts : (x : code_body.MessageBody) (ns items : List code.Node) (a b : Made) (own own_after : List Op)
      → x ≡ message_body.Parts ns → items ≡ ns → NodesPushed items a b own own_after → BodyPushed x a b own own_after
  at_parts x ns items a b own own_after is it p =
      body_as x _ a b own own_after (ap view_body is ∙ view_Parts ns)
      (subst (λ (y : List code.Node). NodesPushed y a b own own_after) it p)

  pub at_plural : (x other got : code_body.MessageBody) (e : code_expr.Expr) (offset : ℕ)
      (cases items : List code_plural_case.PluralCase) (exact : List ExactBlock) (a b d f : Made)
      (none inner own own_after : List Op) → x ≡ message_body.Plural e offset cases other → items ≡ cases → got ≡ other
      → none ≡ []
      → Lays (plural_cases_stand s (view_plural_cases items) exact)
      (plural_holes (translation_in s) (view_plural_cases items)) a b
      → BodyPushed got b d none inner
      → own_after ≡ own ++ (PluralOp (view_expr e) offset false exact (other_arm (laid_block d inner) ∷ []) ∷ [])
      → f ≡ with_ops d inner → BodyPushed x a f own own_after
  at_plural x other got e offset cases items exact a b d f none inner own own_after is it got_is nil l p own_is made =
      body_as x _ a f own own_after (ap view_body is ∙ view_Plural e offset cases other)
      (plural_pushed s (view_expr e) offset (view_plural_cases cases) (view_body other) exact a b d f none inner own
      own_after
      (subst (λ (y : List code_plural_case.PluralCase). Lays (plural_cases_stand s (view_plural_cases y) exact)
      (plural_holes (translation_in s) (view_plural_cases y)) a b) it l) nil
      (subst (λ (y : code_body.MessageBody). BodyPushed y b d none inner) got_is p) made own_is)

  pub at_select : (x other got : code_body.MessageBody) (e : code_expr.Expr)
      (cases items : List code_select_case.SelectCase) (words : List WordBlock) (a b d f : Made)
      (none inner own own_after : List Op) → x ≡ message_body.Select e cases other → items ≡ cases → got ≡ other
      → none ≡ []
      → Lays (select_cases_stand s (view_select_cases items) words)
      (select_holes (translation_in s) (view_select_cases items)) a b
      → BodyPushed got b d none inner
      → own_after ≡ own ++ (SelectOp (view_expr e) (words ++ (other_word (laid_block d inner) ∷ [])) ∷ [])
      → f ≡ with_ops d inner → BodyPushed x a f own own_after
  at_select x other got e cases items words a b d f none inner own own_after is it got_is nil l p own_is made =
      body_as x _ a f own own_after (ap view_body is ∙ view_Select e cases other)
      (select_pushed s (view_expr e) (view_select_cases cases) (view_body other) words a b d f none inner own own_after
      (subst (λ (y : List code_select_case.SelectCase). Lays (select_cases_stand s (view_select_cases y) words)
      (select_holes (translation_in s) (view_select_cases y)) a b) it l) nil
      (subst (λ (y : code_body.MessageBody). BodyPushed y b d none inner) got_is p) made own_is)
