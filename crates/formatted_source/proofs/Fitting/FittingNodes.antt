-- The tree of a text fits the limit on depth as it is written: its commands do.
use Rattle.std.proofs.Common.{ℕ, ◌+◌, List, [], ◌∷◌, ◌++◌, map, None, refl, sym, ap, subst}
use Rattle.soy_base.specs.declared.fault.Span.{Span}
use Rattle.soy_lexer.specs.declared.token.Token.{Token}
use Rattle.soy_tree.specs.ViewNodes.{view_node, view_nodes, view_arms, view_cases}
use Rattle.soy_tree.specs.ViewNodes.{view_arguments}
use Rattle.soy_tree.specs.ViewNodes.{arms_of}
use Rattle.soy_tree.specs.ViewTrees.{view_params, view_template, view_tree}
use Rattle.soy_tree.specs.ViewTypes.{view_type}
use Rattle.soy_tree.specs.Trees as trees
use Rattle.soy_tree.specs.declared.node.Argument.{Argument}
use Rattle.soy_tree.specs.declared.node.Arm.{Arm}
use Rattle.soy_tree.specs.declared.node.Case.{Case}
use Rattle.soy_tree.specs.declared.node.Given.TheVariants as given
use Rattle.soy_tree.specs.declared.node.Node.{Node}
use Rattle.soy_tree.specs.declared.tree.Param.{Param}
use Rattle.soy_tree.specs.declared.tree.Template.{Template}
use Rattle.soy_tree.specs.declared.tree.Tree.{Tree}
use Rattle.expr_parser.specs.Operands.{joined}
use Rattle.soy_parser.specs.declared.command.Command.{Command}
use Rattle.soy_parser.specs.declared.command.CommandForm.TheVariants as says
use Rattle.soy_parser.specs.declared.command.Middle.TheVariants as middle
use Rattle.soy_parser.specs.declared.command.Opening.TheVariants as opening
use Rattle.soy_parser.specs.declared.command.Single.TheVariants as single
use Rattle.soy_parser.specs.Depth.{inside_blocks}
use Rattle.soy_parser.specs.Nodes.{arm_of, whole_message}
use Rattle.soy_parser.specs.Nodes.{up_to}
use Rattle.soy_parser.specs.ParsesFile.{IsFile}
use Rattle.soy_parser.specs.SpellsTree.{SpellsNodes, SpellsBody, SpellsNode}
use Rattle.soy_parser.specs.SpellsTree.{SpellsArms, SpellsCases, SpellsArguments, SpellsTemplates, SpellsTree}
use Rattle.soy_parser.specs.SpellsTree.{SpellsParams, as_param, template_of}
use Rattle.soy_parser.proofs.NodeViews.{view_print}
use Rattle.soy_parser.proofs.ViewForms.{view-If, view-IfElse, view-Switch, view-SwitchDefault, view-For, view-Let}
use Rattle.soy_parser.proofs.ViewForms.{view-LetBlock, view-Call, view-Message, view-MessageFallback, view-arm}
use Rattle.soy_parser.proofs.ViewForms.{view-Plain, view-Block}
use Rattle.formatted_source.proofs.Commands.CommandLevels.{arguments_even, arms_even, body_even, cases_even}
use Rattle.formatted_source.proofs.Commands.CommandLevels.{message_even, nodes_even, params_even}
use Rattle.formatted_source.proofs.Commands.CommandLevels.{templates_even}
use Rattle.formatted_source.proofs.Commands.CommandLevels.{white_even}
use Rattle.formatted_source.proofs.Fitting.FittingCommands.{AllFit, commands_fit}
use Rattle.formatted_source.proofs.Fitting.FittingTrees.{ArgumentsFit, CasesFit, FirstFits}
use Rattle.formatted_source.proofs.Fitting.FittingTrees.{GivenFits}
use Rattle.formatted_source.proofs.Fitting.FittingTrees.{NodeFits, NodesFit}
use Rattle.formatted_source.proofs.Fitting.FittingTypes.{TypeFits}
use Rattle.formatted_source.proofs.Fitting.FittingParts.{ArmsAre, Fit, arguments_append, arms_append, cases_append}
use Rattle.formatted_source.proofs.Fitting.FittingParts.{fit_deeper}
use Rattle.formatted_source.proofs.Fitting.FittingParts.{fit_left, fit_right, fits_as, inside_none, last_level}
use Rattle.formatted_source.proofs.Fitting.FittingParts.{level_is}
use Rattle.formatted_source.proofs.Fitting.FittingParts.{nodes_more}
use Rattle.formatted_source.proofs.Fitting.FittingParts.{text_level, whole_fits, with_text}

mutual
  nodes_fit : (b : ℕ) (cs : List Command) (ls : List ℕ) (ns : List Node) → Fit b cs ls → SpellsNodes cs ls ns
      → NodesFit b (view_nodes ns)
  nodes_fit b _ _ _ f SpellsNodes.no_node_ = tt
  nodes_fit b _ _ _ f (SpellsNodes.node_ cs ds ls ms ns n s o) =
      let even = body_even cs ls ns s in
      nodes_more b ns n (body_fits b cs ls ns (fit_left b cs ds ls ms even f) s)
      (node_fits b ds ms n (fit_right b cs ds ls ms even f) o)

  body_fits : (b : ℕ) (cs : List Command) (ls : List ℕ) (ns : List Node) → Fit b cs ls → SpellsBody cs ls ns
      → NodesFit b (view_nodes ns)
  body_fits b _ _ _ f (SpellsBody.plain_ cs ls ns s) = nodes_fit b cs ls ns f s
  body_fits b _ _ _ f (SpellsBody.text_ cs ds ls ms ns text span s t) =
      let even = nodes_even cs ls ns s in
      with_text b ns text span (nodes_fit b cs ls ns (fit_left b cs ds ls ms even f) s)
      (text_level b ds ms text span (fit_right b cs ds ls ms even f) t)

  node_fits : (b : ℕ) (cs : List Command) (ls : List ℕ) (n : Node) → Fit b cs ls → SpellsNode cs ls n
      → NodeFits b (view_node n)
  node_fits b _ _ _ f (SpellsNode.print_ c e h) =
      subst (λ x. NodeFits b x) (sym (view_print e None c.span)) (fits_as b c (says.Single (single.Print e)) h f.0)
  node_fits b _ _ _ f (SpellsNode.let_ c name e h) =
      subst (λ x. NodeFits b x) (sym (view-Let name e c.span)) (fits_as b c (says.Single (single.Let name e)) h f.0)
  node_fits b _ _ _ f (SpellsNode.call_alone_ c name all h) =
      subst (λ x. NodeFits b x) (sym (view-Call name all [] c.span)) (level_is b c.form f.0, tt)
  node_fits b _ _ _ f (SpellsNode.if_ z cs ls arms start s h) =
      let even = arms_even cs ls arms start s in
      let a = arms_fit b cs ls arms start (fit_left b cs (z ∷ []) ls (1 ∷ []) even f) s in
      let i = fit_right b cs (z ∷ []) ls (1 ∷ []) even f in
      subst (λ x. NodeFits b x) (sym (view-If arms (joined start z.span)))
      (i.0.level, subst (λ l. FirstFits b (view_arms l)) (sym a.are) a.fit, tt)
  node_fits b _ _ _ f (SpellsNode.if_else_ d z cs bs ls ks arms body start s e r h) =
      let even = arms_even cs ls arms start s in
      let a = arms_fit b cs ls arms start
      (fit_left b cs (d ∷ (bs ++ (z ∷ []))) ls (inside_blocks 1 (0 ∷ (ks ++ (0 ∷ [])))) even f) s in
      let i = fit_deeper b (d ∷ (bs ++ (z ∷ []))) (0 ∷ (ks ++ (0 ∷ [])))
      (fit_right b cs (d ∷ (bs ++ (z ∷ []))) ls (inside_blocks 1 (0 ∷ (ks ++ (0 ∷ [])))) even f) in
      subst (λ x. NodeFits b x) (sym (view-IfElse arms body (joined start z.span))) (
        level_is (b + 1) d.form i.0,
        subst (λ l. FirstFits b (view_arms l)) (sym a.are) a.fit,
        body_fits (b + 1) bs ks body (fit_left (b + 1) bs (z ∷ []) ks (0 ∷ []) (body_even bs ks body r) i.1) r,
      )
  node_fits b _ _ _ f (SpellsNode.switch_ c z ds cs ms ls e cases a w s h) =
      let i = fit_right (b + 1) ds (cs ++ (z ∷ [])) ms (ls ++ (0 ∷ [])) (white_even ds ms w)
      (fit_deeper b (ds ++ (cs ++ (z ∷ []))) (ms ++ (ls ++ (0 ∷ []))) f.1) in
      let even = cases_even cs ls cases s in
      subst (λ x. NodeFits b x) (sym (view-Switch e cases (joined c.span z.span))) (
        last_level (b + 1) cs ls z even i,
        fits_as b c (says.Opens (opening.Switch e)) a f.0,
        cases_fit (b + 1) cs ls cases (fit_left (b + 1) cs (z ∷ []) ls (0 ∷ []) even i) s,
        tt,
      )
  node_fits b _ _ _ f (SpellsNode.switch_default_ c d z ds cs bs ms ls ks e cases body a w s g r h) =
      let i = fit_right (b + 1) ds (cs ++ (d ∷ (bs ++ (z ∷ [])))) ms (ls ++ (0 ∷ (ks ++ (0 ∷ [])))) (white_even ds ms w)
      (fit_deeper b (ds ++ (cs ++ (d ∷ (bs ++ (z ∷ []))))) (ms ++ (ls ++ (0 ∷ (ks ++ (0 ∷ []))))) f.1) in
      let even = cases_even cs ls cases s in
      let j = fit_right (b + 1) cs (d ∷ (bs ++ (z ∷ []))) ls (0 ∷ (ks ++ (0 ∷ []))) even i in
      subst (λ x. NodeFits b x) (sym (view-SwitchDefault e cases body (joined c.span z.span))) (
        level_is (b + 1) d.form j.0,
        fits_as b c (says.Opens (opening.Switch e)) a f.0,
        cases_fit (b + 1) cs ls cases
            (fit_left (b + 1) cs (d ∷ (bs ++ (z ∷ []))) ls (0 ∷ (ks ++ (0 ∷ []))) even i) s,
        body_fits (b + 1) bs ks body (fit_left (b + 1) bs (z ∷ []) ks (0 ∷ []) (body_even bs ks body r) j.1) r,
      )
  node_fits b _ _ _ f (SpellsNode.for_ c z bs ks name index e body a r h) =
      let i = fit_deeper b (bs ++ (z ∷ [])) (ks ++ (0 ∷ [])) f.1 in
      let even = body_even bs ks body r in
      subst (λ x. NodeFits b x) (sym (view-For name index e body (joined c.span z.span))) (
        last_level (b + 1) bs ks z even i,
        fits_as b c (says.Opens (opening.For name index e)) a f.0,
        body_fits (b + 1) bs ks body (fit_left (b + 1) bs (z ∷ []) ks (0 ∷ []) even i) r,
      )
  node_fits b _ _ _ f (SpellsNode.let_block_ c z bs ks name kind body a r h) =
      let i = fit_deeper b (bs ++ (z ∷ [])) (ks ++ (0 ∷ [])) f.1 in
      let even = body_even bs ks body r in
      subst (λ x. NodeFits b x) (sym (view-LetBlock name kind body (up_to c.span z.span))) (
        last_level (b + 1) bs ks z even i,
        body_fits (b + 1) bs ks body (fit_left (b + 1) bs (z ∷ []) ks (0 ∷ []) even i) r,
      )
  node_fits b _ _ _ f (SpellsNode.call_ c z cs ls name all arguments a s h) =
      let i = fit_deeper b (cs ++ (z ∷ [])) (ls ++ (0 ∷ [])) f.1 in
      let even = arguments_even cs ls arguments s in
      subst (λ x. NodeFits b x) (sym (view-Call name all arguments (joined c.span z.span))) (
        level_is b c.form f.0,
        arguments_fit (b + 1) cs ls arguments (fit_left (b + 1) cs (z ∷ []) ls (0 ∷ []) even i) s,
      )
  node_fits b _ _ _ f (SpellsNode.message_ c z bs ks desc meaning body a r h) =
      let i = fit_deeper b (bs ++ (z ∷ [])) (ks ++ (0 ∷ [])) f.1 in
      let even = message_even bs ks body r in
      subst (λ x. NodeFits b x) (sym (view-Message (whole_message desc meaning body c.span) (joined c.span z.span))) (
        last_level (b + 1) bs ks z even i,
        whole_fits (b + 1) bs ks desc meaning body c.span (fit_left (b + 1) bs (z ∷ []) ks (0 ∷ []) even i) r,
        tt,
      )
  node_fits b _ _ _ f
      (SpellsNode.message_fallback_ c d z bs es ks js desc meaning older older_meaning body other a r e s h) =
      let i = fit_deeper b (bs ++ (d ∷ (es ++ (z ∷ [])))) (ks ++ (0 ∷ (js ++ (0 ∷ [])))) f.1 in
      let even = message_even bs ks body r in
      let j = fit_right (b + 1) bs (d ∷ (es ++ (z ∷ []))) ks (0 ∷ (js ++ (0 ∷ []))) even i in
      subst (λ x. NodeFits b x) (sym (view-MessageFallback (whole_message desc meaning body c.span)
      (whole_message older older_meaning other d.span) (joined c.span z.span))) (
        level_is (b + 1) d.form j.0,
        whole_fits (b + 1) bs ks desc meaning body c.span
            (fit_left (b + 1) bs (d ∷ (es ++ (z ∷ []))) ks (0 ∷ (js ++ (0 ∷ []))) even i) r,
        whole_fits (b + 1) es js older older_meaning other d.span
            (fit_left (b + 1) es (z ∷ []) js (0 ∷ []) (message_even es js other s) j.1) s,
      )

  arms_fit : (b : ℕ) (cs : List Command) (ls : List ℕ) (arms : List Arm) (start : Span) → Fit b cs ls
      → SpellsArms cs ls arms start → ArmsAre b arms
  arms_fit b _ _ _ _ f (SpellsArms.first_arm_ c bs ks e body h r) = record {
    first = arm_of e body;
    more = [];
    are = refl;
    fit = subst (λ a. FirstFits b (arms_of (a ∷ []))) (sym (view-arm e body)) (
      fits_as b c (says.Opens (opening.If e)) h f.0,
      body_fits (b + 1) bs ks body (fit_deeper b bs ks f.1) r,
      tt,
    );
  }
  arms_fit b _ _ _ _ f (SpellsArms.next_arm_ cs bs ls ks arms start d e body s h r) =
      let even = arms_even cs ls arms start s in
      let a = arms_fit b cs ls arms start (fit_left b cs (d ∷ bs) ls (inside_blocks 1 (0 ∷ ks)) even f) s in
      let i = fit_deeper b (d ∷ bs) (0 ∷ ks) (fit_right b cs (d ∷ bs) ls (inside_blocks 1 (0 ∷ ks)) even f) in
      record {
        first = a.first;
        more = a.more ++ (arm_of e body ∷ []);
        are = ap (λ l. l ++ (arm_of e body ∷ [])) a.are;
        fit = (
          a.fit.0,
          a.fit.1,
          arms_append (b + 1) a.more e body a.fit.2 (fits_as (b + 1) d (says.GoesOn (middle.ElseIf e)) h i.0)
              (body_fits (b + 1) bs ks body i.1 r),
        );
      }

  cases_fit : (b : ℕ) (cs : List Command) (ls : List ℕ) (cases : List Case) → Fit b cs ls → SpellsCases cs ls cases
      → CasesFit b (view_cases cases)
  cases_fit b _ _ _ f SpellsCases.no_case_ = tt
  cases_fit b _ _ _ f (SpellsCases.case_ cs bs ls ks cases c values body s h r) =
      let even = cases_even cs ls cases s in
      let i = fit_right b cs (c ∷ bs) ls (0 ∷ ks) even f in
      cases_append b cases values body (cases_fit b cs ls cases (fit_left b cs (c ∷ bs) ls (0 ∷ ks) even f) s)
      (fits_as b c (says.GoesOn (middle.Case values)) h i.0) (body_fits b bs ks body i.1 r)

  arguments_fit : (b : ℕ) (cs : List Command) (ls : List ℕ) (arguments : List Argument) → Fit b cs ls
      → SpellsArguments cs ls arguments → ArgumentsFit b (view_arguments arguments)
  arguments_fit b _ _ _ f SpellsArguments.no_argument_ = tt
  arguments_fit b _ _ _ f (SpellsArguments.white_ cs ls arguments c text s h w) =
      arguments_fit b cs ls arguments (fit_left b cs (c ∷ []) ls (0 ∷ []) (arguments_even cs ls arguments s) f) s
  arguments_fit b _ _ _ f (SpellsArguments.param_ cs ls arguments c name e s h) =
      let even = arguments_even cs ls arguments s in
      let i = fit_right b cs (c ∷ []) ls (0 ∷ []) even f in
      arguments_append b arguments name (given.Plain e) c.span
      (arguments_fit b cs ls arguments (fit_left b cs (c ∷ []) ls (0 ∷ []) even f) s) (level_is b c.form i.0)
      (subst (λ x. GivenFits b x) (sym (view-Plain e)) (fits_as b c (says.Single (single.Param name e)) h i.0))
  arguments_fit b _ _ _ f (SpellsArguments.param_block_ cs bs ls ks arguments c z name kind body s h r e) =
      let even = arguments_even cs ls arguments s in
      let i = fit_right b cs (c ∷ (bs ++ (z ∷ []))) ls (0 ∷ inside_blocks 1 (ks ++ (0 ∷ []))) even f in
      let j = fit_deeper b (bs ++ (z ∷ [])) (ks ++ (0 ∷ [])) i.1 in
      let own = body_even bs ks body r in
      arguments_append b arguments name (given.Block kind body) (up_to c.span z.span)
      (arguments_fit b cs ls arguments
      (fit_left b cs (c ∷ (bs ++ (z ∷ []))) ls (0 ∷ inside_blocks 1 (ks ++ (0 ∷ []))) even f) s)
      (level_is b c.form i.0)
      (subst (λ x. GivenFits b x) (sym (view-Block kind body)) (
        last_level (b + 1) bs ks z own j,
        body_fits (b + 1) bs ks body (fit_left (b + 1) bs (z ∷ []) ks (0 ∷ []) own j) r,
      ))

-- files

abbrev pub ParamsFit : ℕ → List trees.Param → Type 0
ParamsFit blocks [] = Unit {0}
ParamsFit blocks (p ∷ ps) = TypeFits blocks p.of × ParamsFit blocks ps

params_append : (b : ℕ) (ps : List Param) (p : Param) → ParamsFit b (view_params ps) → TypeFits b (view_type p.of)
    → ParamsFit b (view_params (ps ++ (p ∷ [])))
params_append b [] p h k = (k, tt)
params_append b (q ∷ ps) p h k = (h.0, params_append b ps p h.1 k)

params_fit : (b : ℕ) (cs : List Command) (ls : List ℕ) (params : List Param) → Fit b cs ls
    → SpellsParams cs ls params → ParamsFit b (view_params params)
params_fit b _ _ _ f SpellsParams.none_ = tt
params_fit b _ _ _ f (SpellsParams.param_ cs ls params c name required of s h) =
    let even = params_even cs ls params s in
    params_append b params (as_param name of required c.span)
    (params_fit b cs ls params (fit_left b cs (c ∷ []) ls (0 ∷ []) even f) s)
    (fits_as b c (says.TemplateParam name required of) h (fit_right b cs (c ∷ []) ls (0 ∷ []) even f).0)

-- the params and the body of each template stand inside of one block
abbrev pub TemplateFits : trees.Template → Type 0
TemplateFits t = ParamsFit 1 t.params × NodesFit 1 t.body

abbrev pub TemplatesFit : List trees.Template → Type 0
TemplatesFit [] = Unit {0}
TemplatesFit (t ∷ ts) = TemplateFits t × TemplatesFit ts

templates_append : (ts : List Template) (t : Template) → TemplatesFit (map view_template ts)
    → TemplateFits (view_template t) → TemplatesFit (map view_template (ts ++ (t ∷ [])))
templates_append [] t h k = (k, tt)
templates_append (u ∷ ts) t h k = (h.0, templates_append ts t h.1 k)

templates_fit : (cs : List Command) (ls : List ℕ) (templates : List Template) → Fit 0 cs ls
    → SpellsTemplates cs ls templates → TemplatesFit (map view_template templates)
templates_fit _ _ _ f SpellsTemplates.none_ = tt
templates_fit _ _ _ f (SpellsTemplates.white_ cs ls templates c text s h w) =
    templates_fit cs ls templates (fit_left 0 cs (c ∷ []) ls (0 ∷ []) (templates_even cs ls templates s) f) s
templates_fit _ _ _ f (SpellsTemplates.template_ cs ps bs ls ms ks templates c z h params body s a p r e) =
    let even = templates_even cs ls templates s in
    let i = fit_right 0 cs (c ∷ (ps ++ (bs ++ (z ∷ [])))) ls (0 ∷ inside_blocks 1 (ms ++ (ks ++ (0 ∷ [])))) even f in
    let j = fit_deeper 0 (ps ++ (bs ++ (z ∷ []))) (ms ++ (ks ++ (0 ∷ []))) i.1 in
    let own = params_even ps ms params p in
    let k = fit_right 1 ps (bs ++ (z ∷ [])) ms (ks ++ (0 ∷ [])) own j in
    templates_append templates (template_of h params body (up_to c.span z.span))
    (templates_fit cs ls templates
    (fit_left 0 cs (c ∷ (ps ++ (bs ++ (z ∷ [])))) ls (0 ∷ inside_blocks 1 (ms ++ (ks ++ (0 ∷ [])))) even f) s) (
      params_fit 1 ps ms params (fit_left 1 ps (bs ++ (z ∷ [])) ms (ks ++ (0 ∷ [])) own j) p,
      body_fits 1 bs ks body (fit_left 1 bs (z ∷ []) ks (0 ∷ []) (body_even bs ks body r) k) r,
    )

tree_fits : (cs : List Command) (ls : List ℕ) (t : Tree) → Fit 0 cs ls → SpellsTree cs ls t
    → TemplatesFit (view_tree t).templates
tree_fits _ _ _ f (SpellsTree.tree_ ds cs ms ls c name templates w h s) =
    templates_fit cs ls templates (fit_right 0 ds (c ∷ cs) ms (0 ∷ ls) (white_even ds ms w) f).1 s

-- **The tree of a text fits the limit on depth as it is written.**
pub tree_fit : (tokens : List Token) (t : Tree) → IsFile tokens t → TemplatesFit (view_tree t).templates
tree_fit tokens t i =
    tree_fits i.spells.commands i.spells.levels t
    (subst (λ l. AllFit i.spells.commands l) (sym (inside_none i.spells.levels))
    (commands_fit tokens [] i.depths i.words i.spells.commands i.spells.levels i.within i.known i.spells.spell))
    i.spells.are
