-- Templates, as they are written, are read as templates that are alike.
use Rattle.std.proofs.Common.{◌≡◌, ℕ, ◌≤◌, ◌&&◌, Bool, true, false, List, [], ◌∷◌, ◌++◌, map, refl, sym, ap, ◌∙◌}
use Rattle.std.proofs.Common.{arith}
use Rattle.std.specs.Prelude.{codes}
use Rattle.std.specs.List.{list_all}
use Rattle.soy_base.specs.Names.{is_name}
use Rattle.soy_lexer.specs.declared.token.TokenKind.TheVariants as kind
use Rattle.soy_tree.specs.Formed.{are_formed_nodes, is_formed_param, is_formed_template}
use Rattle.soy_tree.specs.Nodes.{Nodes}
use Rattle.soy_tree.specs.Trees as trees
use Rattle.soy_tree.specs.Types.{SoyType}
use Rattle.soy_tree.specs.ViewNodes.{view_nodes}
use Rattle.soy_tree.specs.ViewTrees.{view_params, view_template}
use Rattle.soy_tree.specs.declared.node.Node as code
use Rattle.soy_tree.specs.declared.soy_type.SoyType as code_type
use Rattle.soy_tree.specs.declared.tree.Param.{Param}
use Rattle.soy_tree.specs.declared.tree.Template.{Template}
use Rattle.soy_parser.specs.declared.command.Command.{Command}
use Rattle.soy_parser.specs.declared.command.CommandForm.TheVariants as says
use Rattle.soy_parser.specs.declared.command.Opening.TheVariants as opening
use Rattle.soy_parser.specs.declared.command.TemplateOpening.{TemplateOpening}
use Rattle.soy_parser.specs.declared.terminal.BlockName.TheVariants as block
use Rattle.soy_parser.specs.Depth.{inside_blocks}
use Rattle.soy_parser.specs.Nodes.{up_to}
use Rattle.soy_parser.specs.SpellsTree.{SpellsBody, SpellsParams, SpellsTemplates, as_param, template_of}
use Rattle.soy_format.specs.WithoutSpans.{no_span, nodes_without_spans, param_without_spans, template_without_spans}
use Rattle.formatted_source.specs.CommandPieces.{braced}
use Rattle.formatted_source.specs.NodePieces.{nodes_pieces}
use Rattle.formatted_source.specs.SourcedTrees.{are_sourced_nodes}
use Rattle.formatted_source.specs.TreeLexemes.{line_lexemes, opening_lexemes, param_lexemes, params_lexemes}
use Rattle.formatted_source.specs.TreeLexemes.{required_lexemes, template_close_lexemes, template_lexemes}
use Rattle.formatted_source.specs.TreeLexemes.{templates_lexemes}
use Rattle.formatted_source.proofs.Commands.BareCommands.{bare_command, template_closes}
use Rattle.formatted_source.proofs.BodiesSpelled.{line_spelled}
use Rattle.formatted_source.proofs.Commands.CommandRows.{Rows, gathered}
use Rattle.formatted_source.proofs.Fitting.FittingNodes.{ParamsFit, TemplateFits, TemplatesFit}
use Rattle.formatted_source.proofs.Written.Names.{both}
use Rattle.formatted_source.proofs.NodeAlike.{BodyIs}
use Rattle.formatted_source.proofs.Speaking.{Ended, Speaks, Within, command_then, deeper, no_part, then_command}
use Rattle.formatted_source.proofs.Speaking.{two_parts}
use Rattle.formatted_source.proofs.Commands.TemplateCommands.{template_command, template_opens, template_param_command}

-- params

data OneParam : List Command → List ℕ → Param → Type 0 where
  param_ : (c : Command) (name : List ℕ) (required : Bool) (of : code_type.SoyType)
      → c.form ≡ says.TemplateParam name required of
      → OneParam (c ∷ []) (0 ∷ []) (as_param name of required c.span)

record ParamsAre (ps : List trees.Param) (cs : List Command) (ks : List ℕ) : Type 0 where
  pub own : List Param
  pub rows : Rows Param OneParam cs ks own
  pub alike : map param_without_spans (view_params own) ≡ map param_without_spans ps

one_param : (cs ds : List Command) (ks ns : List ℕ) (done : List Param) (p : Param) → SpellsParams cs ks done
    → OneParam ds ns p → SpellsParams (cs ++ ds) (ks ++ ns) (done ++ (p ∷ []))
one_param cs _ ks _ done _ s (OneParam.param_ c name required of h) =
    SpellsParams.param_ cs ks done c name required of s h

params_gathered : (cs : List Command) (ks : List ℕ) (own : List Param) → Rows Param OneParam cs ks own
    → SpellsParams cs ks own
params_gathered cs ks own rows =
    gathered Param OneParam SpellsParams one_param [] cs [] ks [] own SpellsParams.none_ rows

params_speak : (b : ℕ) (ps : List trees.Param) → b ≤ 64 → ParamsFit b ps → Speaks b (params_lexemes ps) (ParamsAre ps)
params_speak b [] le fits = no_part b (ParamsAre []) (record { own = []; rows = Rows.no_row_; alike = refl })
params_speak b (p ∷ ps) le fits =
    let t = fits.0 in
    command_then b (param_lexemes p) (params_lexemes ps) (λ f. f ≡ says.TemplateParam p.name p.required t.operand.of)
    (ParamsAre ps) (ParamsAre (p ∷ ps))
    (λ ts same. template_param_command b ts t.tokens t.depths t.words t.operand p.name p.required le t.spells t.names
    t.within (same ∙ ap (λ l. braced ((kind.Symbol, codes "@") ∷ ((kind.Word, codes "param")
    ∷ (required_lexemes p.required ++ ((kind.Word, p.name) ∷ ((kind.Symbol, codes ":") ∷ l)))))) (sym t.are)))
    (params_speak b ps le fits.1)
    (λ c ds ns h r. record {
      own = as_param p.name t.operand.of p.required c.span ∷ r.own;
      rows = Rows.row_ (c ∷ []) ds (0 ∷ []) ns (as_param p.name t.operand.of p.required c.span) r.own
          (OneParam.param_ c p.name p.required t.operand.of h) r.rows;
      alike = ap (λ (o : SoyType). record { name = p.name; of = o; required = p.required; span = no_span }
          ∷ map param_without_spans (view_params r.own)) t.is ∙ ap (λ l. param_without_spans p ∷ l) r.alike;
    })

-- templates

pub data OneTemplate : List Command → List ℕ → Template → Type 0 where
  template_ : (c z : Command) (ps bs : List Command) (ms ks : List ℕ) (h : TemplateOpening) (params : List Param)
      (body : List code.Node) → c.form ≡ says.Opens (opening.Template h) → SpellsParams ps ms params
      → SpellsBody bs ks body → z.form ≡ says.Closes block.Template
      → OneTemplate (c ∷ (ps ++ (bs ++ (z ∷ [])))) (0 ∷ inside_blocks 1 (ms ++ (ks ++ (0 ∷ []))))
      (template_of h params body (up_to c.span z.span))

one_template : (cs ds : List Command) (ks ns : List ℕ) (done : List Template) (t : Template)
    → SpellsTemplates cs ks done → OneTemplate ds ns t → SpellsTemplates (cs ++ ds) (ks ++ ns) (done ++ (t ∷ []))
one_template cs _ ls _ done _ s (OneTemplate.template_ c z ps bs ms ks h params body a p b e) =
    SpellsTemplates.template_ cs ps bs ls ms ks done c z h params body s a p b e

record TemplateIs (t : trees.Template) (cs : List Command) (ks : List ℕ) : Type 0 where
  pub own : Template
  pub spells : OneTemplate cs ks own
  pub alike : template_without_spans (view_template own) ≡ template_without_spans t

-- what stands in a template, with its end
abbrev EndedBody : trees.Template → List Command → List ℕ → Type 0
EndedBody t = Ended (BodyIs t.body) (λ f. f ≡ says.Closes block.Template)

data Inner (t : trees.Template) : List Command → List ℕ → Type 0 where
  inner_ : (ps bs : List Command) (z : Command) (ms ks : List ℕ) → ParamsAre t.params ps ms → BodyIs t.body bs ks
      → z.form ≡ says.Closes block.Template → Inner t (ps ++ (bs ++ (z ∷ []))) (ms ++ (ks ++ (0 ∷ [])))

inner : (t : trees.Template) (ps ds : List Command) (ms ns : List ℕ) → ParamsAre t.params ps ms → EndedBody t ds ns
    → Inner t (ps ++ ds) (ms ++ ns)
inner t ps _ ms _ p (Ended.ended_ bs z ks b h) = Inner.inner_ ps bs z ms ks p b h

whole : (t : trees.Template) (c : Command) (ds : List Command) (ns : List ℕ)
    → c.form ≡ template_opens t.name t.kind t.private → Within (Inner t) ds ns → TemplateIs t (c ∷ ds) (0 ∷ ns)
whole t c _ _ a (Within.within_ _ _ (Inner.inner_ ps bs z ms ks p b e)) = record {
  own = template_of (record { name = t.name; kind = t.kind; private = t.private }) p.own b.own (up_to c.span z.span);
  spells = OneTemplate.template_ c z ps bs ms ks (record { name = t.name; kind = t.kind; private = t.private }) p.own
      b.own a (params_gathered ps ms p.own p.rows) b.spells e;
  alike = ap (λ (l : List trees.Param). record {
    name = t.name;
    kind = t.kind;
    private = t.private;
    params = l;
    body = nodes_without_spans (view_nodes b.own);
    span = no_span;
  }) p.alike
      ∙ ap (λ (l : Nodes). record {
        name = t.name;
        kind = t.kind;
        private = t.private;
        params = map param_without_spans t.params;
        body = l;
        span = no_span;
      }) b.alike;
}

template_speaks : (t : trees.Template) → are_formed_nodes t.body ≡ true
    → are_sourced_nodes false t.body ≡ true → TemplateFits t → Speaks 0 (template_lexemes t) (TemplateIs t)
template_speaks t formed sourced fits =
    command_then 0 (opening_lexemes t)
    (params_lexemes t.params ++ (line_lexemes (nodes_pieces t.body) ++ template_close_lexemes))
    (λ f. f ≡ template_opens t.name t.kind t.private) (Within (Inner t)) (TemplateIs t)
    (λ ts same. template_command 0 ts t.name t.kind t.private (omega arith) same)
    (deeper 0 (params_lexemes t.params ++ (line_lexemes (nodes_pieces t.body) ++ template_close_lexemes)) (Inner t)
    (Within (Inner t))
    (two_parts 1 (params_lexemes t.params) (line_lexemes (nodes_pieces t.body) ++ template_close_lexemes)
    (ParamsAre t.params) (EndedBody t) (Inner t) (params_speak 1 t.params (omega arith) fits.0)
    (then_command 1 (line_lexemes (nodes_pieces t.body)) template_close_lexemes (BodyIs t.body)
    (λ f. f ≡ says.Closes block.Template) (EndedBody t) (line_spelled 1 t.body formed sourced fits.1 (omega arith))
    (λ ts same. bare_command 1 ts (kind.BeginClose, codes "template") (says.Closes block.Template) (omega arith)
    template_closes same)
    (λ bs z ks b h. Ended.ended_ bs z ks b h))
    (λ ps ds ms ns p e. inner t ps ds ms ns p e))
    (λ cs ks i. Within.within_ cs ks i))
    (λ c ds ns h w. whole t c ds ns h w)

pub record TemplatesAre (ts : List trees.Template) (cs : List Command) (ks : List ℕ) : Type 0 where
  pub own : List Template
  pub rows : Rows Template OneTemplate cs ks own
  pub alike : map template_without_spans (map view_template own) ≡ map template_without_spans ts

-- as the grammar has them
pub templates_gathered : (cs : List Command) (ks : List ℕ) (own : List Template) → Rows Template OneTemplate cs ks own
    → SpellsTemplates cs ks own
templates_gathered cs ks own rows =
    gathered Template OneTemplate SpellsTemplates one_template [] cs [] ks [] own SpellsTemplates.none_ rows

-- **Templates, as they are written.**
pub templates_speak : (ts : List trees.Template) → list_all is_formed_template ts ≡ true
    → list_all (λ (t : trees.Template). are_sourced_nodes false t.body) ts ≡ true → TemplatesFit ts
    → Speaks 0 (templates_lexemes ts) (TemplatesAre ts)
templates_speak [] formed sourced fits =
    no_part 0 (TemplatesAre []) (record { own = []; rows = Rows.no_row_; alike = refl })
templates_speak (t ∷ ts) formed sourced fits =
    let f = both (is_formed_template t) (list_all is_formed_template ts) formed in
    let body = both (is_name t.name && list_all is_formed_param t.params) (are_formed_nodes t.body) f.0 in
    let s = both (are_sourced_nodes false t.body)
    (list_all (λ (t : trees.Template). are_sourced_nodes false t.body) ts) sourced in
    two_parts 0 (template_lexemes t) (templates_lexemes ts) (TemplateIs t) (TemplatesAre ts) (TemplatesAre (t ∷ ts))
    (template_speaks t body.1 s.0 fits.0) (templates_speak ts f.1 s.1 fits.1)
    (λ cs ds ks ns p q. record {
      own = p.own ∷ q.own;
      rows = Rows.row_ cs ds ks ns p.own q.own p.spells q.rows;
      alike = ap (λ x. x ∷ map template_without_spans (map view_template q.own)) p.alike
          ∙ ap (λ l. template_without_spans t ∷ l) q.alike;
    })
