-- What a call with params says, as it is written, by what the bodies of its params say.
use Rattle.std.proofs.Common.{◌≡◌, ℕ, ◌+◌, ◌≤◌, Bool, true, List, [], ◌∷◌, ◌++◌, refl, ap, ◌∙◌, arith}
use Rattle.std.specs.Prelude.{codes}
use Rattle.soy_base.specs.declared.fault.Span.{Span}
use Rattle.soy_base.specs.declared.kind.Kind.{Kind}
use Rattle.soy_lexer.specs.declared.token.TokenKind.TheVariants as kind
use Rattle.soy_tree.specs.Expressions.{Expr}
use Rattle.soy_tree.specs.Formed.{is_formed_expr}
use Rattle.soy_tree.specs.Nodes.{Nodes, Arguments, Call, Given, Plain, Block, no_argument, argument}
use Rattle.soy_tree.specs.Types.{Name}
use Rattle.soy_tree.specs.ViewNodes.{view_arguments, view_given}
use Rattle.soy_tree.specs.declared.expr.Expr as code_expr
use Rattle.soy_tree.specs.declared.node.Argument.{Argument}
use Rattle.soy_tree.specs.declared.node.Form.TheVariants as form
use Rattle.soy_tree.specs.declared.node.Given as code_given
use Rattle.soy_tree.specs.declared.node.Given.TheVariants as given
use Rattle.soy_tree.specs.declared.node.Node as code
use Rattle.expr_parser.specs.Operands.{joined}
use Rattle.soy_parser.specs.declared.command.Command.{Command}
use Rattle.soy_parser.specs.declared.command.CommandForm.TheVariants as says
use Rattle.soy_parser.specs.declared.command.Opening.TheVariants as opening
use Rattle.soy_parser.specs.declared.command.Single.TheVariants as single
use Rattle.soy_parser.specs.declared.terminal.BlockName.TheVariants as block_name
use Rattle.soy_parser.specs.Depth.{inside_blocks}
use Rattle.soy_parser.specs.Nodes.{argument_of, node_of, up_to}
use Rattle.soy_parser.specs.SpellsTree.{SpellsArguments, SpellsBody, SpellsNode}
use Rattle.soy_parser.proofs.ViewForms.{view-Block, view-Call, view-Plain, view-argument}
use Rattle.soy_format.specs.WithoutSpans.{arguments_without_spans, given_without_spans, no_span}
use Rattle.soy_format.specs.WithoutSpans.{node_without_spans}
use Rattle.formatted_source.specs.NodePieces.{argument_pieces, arguments_pieces, node_pieces, nodes_pieces}
use Rattle.formatted_source.proofs.Commands.AttributeCommands.{param_block_command}
use Rattle.formatted_source.proofs.Commands.BareCommands.{call_closes, param_closes}
use Rattle.formatted_source.proofs.Commands.CommandRows.{Rows, gathered}
use Rattle.formatted_source.proofs.EdgedNodes.{Opened}
use Rattle.formatted_source.proofs.Commands.ExprCommands.{SaysExpr}
use Rattle.formatted_source.proofs.LineLexemes.{MayOpen, before_open, opened_on}
use Rattle.formatted_source.proofs.Commands.NameCommands.{call_opens}
use Rattle.formatted_source.proofs.NodeAlike.{BodyIs, NodeIs}
use Rattle.formatted_source.proofs.NodeLexemes.{all_lexemes}
use Rattle.formatted_source.proofs.PieceParts.{bare, piece_block, piece_command}
use Rattle.formatted_source.proofs.Speaking.{Speaks, no_part, same_part, two_parts}
use Rattle.formatted_source.proofs.Commands.ValueCommands.{param_command}
use Rattle.formatted_source.proofs.Fitting.WrittenHeight.{expr_height}

-- a param
pub data OneArgument : List Command → List ℕ → Argument → Type 0 where
  plain_ : (c : Command) (name : Name) (e : code_expr.Expr) → c.form ≡ says.Single (single.Param name e)
      → OneArgument (c ∷ []) (0 ∷ []) (argument_of name (given.Plain e) c.span)
  block_ : (c z : Command) (cs : List Command) (ks : List ℕ) (name : Name) (k : Kind) (body : List code.Node)
      → c.form ≡ says.Opens (opening.Param name k) → SpellsBody cs ks body → z.form ≡ says.Closes block_name.Param
      → OneArgument (c ∷ (cs ++ (z ∷ []))) (0 ∷ inside_blocks 1 (ks ++ (0 ∷ [])))
      (argument_of name (given.Block k body) (up_to c.span z.span))

pub record ArgumentIs (name : Name) (g : Given) (cs : List Command) (ks : List ℕ) : Type 0 where
  pub own : code_given.Given
  pub span : Span
  pub spells : OneArgument cs ks (argument_of name own span)
  pub alike : given_without_spans (view_given own) ≡ given_without_spans g

pub record ArgumentsAre (arguments : Arguments) (cs : List Command) (ks : List ℕ) : Type 0 where
  pub own : List Argument
  pub rows : Rows Argument OneArgument cs ks own
  pub alike : arguments_without_spans (view_arguments own) ≡ arguments_without_spans arguments

pub param_speaks : (b : ℕ) (name : Name) (e : Expr) → is_formed_expr e ≡ true → b + expr_height e ≤ 64
    → Speaks b (all_lexemes [] (argument_pieces name (Plain e))) (ArgumentIs name (Plain e))
param_speaks b name e f fits =
    piece_command b [] _ (SaysExpr (λ x. says.Single (single.Param name x)) e) (ArgumentIs name (Plain e))
    (λ ts same. param_command b ts name e (omega (arith, fits)) f fits same)
    (λ c s. record {
      own = given.Plain s.expr;
      span = c.span;
      spells = OneArgument.plain_ c name s.expr s.is;
      alike = ap given_without_spans (view-Plain s.expr) ∙ ap Plain s.alike;
    })

pub param_block_speaks : (b : ℕ) (name : Name) (k : Kind) (body : Nodes) → b + 1 ≤ 64
    → Speaks (b + 1) (all_lexemes [] (nodes_pieces body)) (BodyIs body)
    → Speaks b (all_lexemes [] (argument_pieces name (Block k body))) (ArgumentIs name (Block k body))
param_block_speaks b name k body le inner =
    piece_block b [] _ (nodes_pieces body) (codes "{/param}") _ (λ f. f ≡ says.Opens (opening.Param name k)) (BodyIs body)
    (λ g. g ≡ says.Closes block_name.Param) (ArgumentIs name (Block k body))
    (λ ts same. param_block_command b ts name k (omega (arith, le)) same) inner
    (bare (b + 1) (kind.BeginClose, codes "param") (says.Closes block_name.Param) le param_closes)
    (λ c z cs ks s p g. record {
      own = given.Block k p.own;
      span = up_to c.span z.span;
      spells = OneArgument.block_ c z cs ks name k p.own s p.spells g;
      alike = ap given_without_spans (view-Block k p.own) ∙ ap (λ l. Block k l) p.alike;
    })

-- params in a row

argument_open : (name : Name) (g : Given) → Opened (argument_pieces name g)
argument_open name (Plain e) = Opened.opened_ _ _ _
argument_open name (Block k body) = Opened.opened_ _ _ _

arguments_open : (arguments : Arguments) → MayOpen (arguments_pieces arguments)
arguments_open no_argument = MayOpen.empty_
arguments_open (argument name g span rest) =
    MayOpen.open_ _ (opened_on (argument_pieces name g) (arguments_pieces rest) (argument_open name g))

same_argument : (name : Name) (own : code_given.Given) (at : Span) (g : Given) (span : Span) (more : List Argument)
    (rest : Arguments) → given_without_spans (view_given own) ≡ given_without_spans g
    → arguments_without_spans (view_arguments more) ≡ arguments_without_spans rest
    → arguments_without_spans (view_arguments (argument_of name own at ∷ more))
    ≡ arguments_without_spans (argument name g span rest)
same_argument name own at g span more rest e f =
    ap (λ (p : Name × Given × Span). argument p.0 (given_without_spans p.1) no_span
    (arguments_without_spans (view_arguments more))) (view-argument name own at)
    ∙ over (given_without_spans (view_given own)) (given_without_spans g)
    (arguments_without_spans (view_arguments more)) (arguments_without_spans rest) e f
  where
    over : (p q : Given) (r s : Arguments) → p ≡ q → r ≡ s → argument name p no_span r ≡ argument name q no_span s
    over p q r s e f = cc (e, f)

pub no_arguments_speak : (b : ℕ) → Speaks b (all_lexemes [] (arguments_pieces no_argument)) (ArgumentsAre no_argument)
no_arguments_speak b = no_part b (ArgumentsAre no_argument) (record { own = []; rows = Rows.no_row_; alike = refl })

pub arguments_speak : (b : ℕ) (name : Name) (g : Given) (span : Span) (rest : Arguments)
    → Speaks b (all_lexemes [] (argument_pieces name g)) (ArgumentIs name g)
    → Speaks b (all_lexemes [] (arguments_pieces rest)) (ArgumentsAre rest)
    → Speaks b (all_lexemes [] (arguments_pieces (argument name g span rest)))
    (ArgumentsAre (argument name g span rest))
arguments_speak b name g span rest one more =
    same_part b (all_lexemes [] (argument_pieces name g) ++ all_lexemes [] (arguments_pieces rest))
    (all_lexemes [] (arguments_pieces (argument name g span rest))) (ArgumentsAre (argument name g span rest))
    (before_open [] (argument_pieces name g) (arguments_pieces rest) (arguments_open rest))
    (two_parts b (all_lexemes [] (argument_pieces name g)) (all_lexemes [] (arguments_pieces rest)) (ArgumentIs name g)
    (ArgumentsAre rest) (ArgumentsAre (argument name g span rest)) one more
    (λ cs ds ks ns p r. record {
      own = argument_of name p.own p.span ∷ r.own;
      rows = Rows.row_ cs ds ks ns (argument_of name p.own p.span) r.own p.spells r.rows;
      alike = same_argument name p.own p.span g span r.own rest p.alike r.alike;
    }))

one_more : (cs ds : List Command) (ks ns : List ℕ) (done : List Argument) (a : Argument)
    → SpellsArguments cs ks done → OneArgument ds ns a → SpellsArguments (cs ++ ds) (ks ++ ns) (done ++ (a ∷ []))
one_more cs _ ks _ done _ s (OneArgument.plain_ c name e h) = SpellsArguments.param_ cs ks done c name e s h
one_more cs _ ks _ done _ s (OneArgument.block_ c z ds ns name k body h r e) =
    SpellsArguments.param_block_ cs ds ks ns done c z name k body s h r e

spells_arguments : (cs : List Command) (ks : List ℕ) (own : List Argument) → Rows Argument OneArgument cs ks own
    → SpellsArguments cs ks own
spells_arguments cs ks own rows =
    gathered Argument OneArgument (λ cs ks done. SpellsArguments cs ks done) one_more [] cs [] ks [] own
    SpellsArguments.no_argument_ rows

-- **A call with params, by what their bodies say.**
pub call_speaks : (b : ℕ) (name : Name) (all : Bool) (first : Name) (g : Given) (at : Span) (rest : Arguments)
    (span : Span) → b + 1 ≤ 64
    → Speaks (b + 1) (all_lexemes [] (arguments_pieces (argument first g at rest)))
    (ArgumentsAre (argument first g at rest))
    → Speaks b (all_lexemes [] (node_pieces (Call name all (argument first g at rest) span)))
    (NodeIs (Call name all (argument first g at rest) span))
call_speaks b name all first g at rest span le inner =
    piece_block b [] _ (arguments_pieces (argument first g at rest)) (codes "{/call}") _
    (λ f. f ≡ says.Opens (opening.Call name all)) (ArgumentsAre (argument first g at rest))
    (λ f. f ≡ says.Closes block_name.Call) (NodeIs (Call name all (argument first g at rest) span))
    (λ ts same. call_opens b ts name all (omega (arith, le)) same) inner
    (bare (b + 1) (kind.BeginClose, codes "call") (says.Closes block_name.Call) le call_closes)
    (λ c z cs ks s p h. record {
      own = node_of (form.Call name all p.own) (joined c.span z.span);
      spells = SpellsNode.call_ c z cs ks name all p.own s (spells_arguments cs ks p.own p.rows) h;
      alike = ap node_without_spans (view-Call name all p.own (joined c.span z.span))
          ∙ ap (λ l. Call name all l no_span) p.alike;
    })
