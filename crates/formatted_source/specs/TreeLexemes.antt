-- The lexemes of a tree as it is written in canonical source.
-- Example: those of the file of a template `m` with the body `a` are those of `{namespace t}` and `{template m}`, the
-- text `a`, and those of `{/template}`.
use Rattle.std.specs.Prelude.{Bool, if◌then◌else◌, List, [], ◌∷◌, ◌++◌, codes}
use Rattle.soy_base.specs.declared.kind.Kind.{Kind}
use Rattle.soy_base.specs.declared.kind.Kind.TheVariants as block_kind
use Rattle.soy_lexer.specs.declared.token.TokenKind.TheVariants as kind
use Rattle.soy_tree.specs.Trees.{Param, Template, Tree}
use Rattle.formatted_source.specs.CommandPieces.{attribute_lexemes, begin_lexeme, braced, dotted_lexemes, end_lexeme}
use Rattle.formatted_source.specs.CommandPieces.{kind_lexemes}
use Rattle.formatted_source.specs.EdgedPieces.{edged_pieces}
use Rattle.formatted_source.specs.Lexemes.{Lexeme}
use Rattle.formatted_source.specs.NodePieces.{nodes_pieces}
use Rattle.formatted_source.specs.Pieces.{Piece, closed_lexemes, open_line, text_lexemes}
use Rattle.formatted_source.specs.TypeLexemes.{type_lexemes}

-- those of the line of a body
abbrev pub line_lexemes : List Piece → List Lexeme
line_lexemes ps = closed_lexemes [] (edged_pieces ps) ++ text_lexemes (open_line [] (edged_pieces ps))

abbrev pub template_kind_lexemes : Kind → List Lexeme
template_kind_lexemes block_kind.Html = []
template_kind_lexemes k = kind_lexemes k

abbrev pub visibility_lexemes : Bool → List Lexeme
visibility_lexemes private = if private then attribute_lexemes (codes "visibility") (codes "private") else []

abbrev pub required_lexemes : Bool → List Lexeme
required_lexemes required = if required then [] else (kind.Symbol, codes "?") ∷ []

abbrev pub param_lexemes : Param → List Lexeme
param_lexemes p =
    braced ((kind.Symbol, codes "@") ∷ ((kind.Word, codes "param") ∷ (required_lexemes p.required
    ++ ((kind.Word, p.name) ∷ ((kind.Symbol, codes ":") ∷ type_lexemes p.of)))))

abbrev pub params_lexemes : List Param → List Lexeme
params_lexemes [] = []
params_lexemes (p ∷ ps) = param_lexemes p ++ params_lexemes ps

abbrev pub opening_lexemes : Template → List Lexeme
opening_lexemes t =
    braced ((kind.Word, codes "template") ∷ ((kind.Word, t.name) ∷ (template_kind_lexemes t.kind
    ++ visibility_lexemes t.private)))

abbrev pub template_close_lexemes : List Lexeme
template_close_lexemes = begin_lexeme ∷ ((kind.BeginClose, codes "template") ∷ (end_lexeme ∷ []))

abbrev pub template_lexemes : Template → List Lexeme
template_lexemes t =
    opening_lexemes t ++ (params_lexemes t.params ++ (line_lexemes (nodes_pieces t.body) ++ template_close_lexemes))

abbrev pub templates_lexemes : List Template → List Lexeme
templates_lexemes [] = []
templates_lexemes (t ∷ ts) = template_lexemes t ++ templates_lexemes ts

abbrev pub namespace_lexemes : Tree → List Lexeme
namespace_lexemes t = braced ((kind.Word, codes "namespace") ∷ dotted_lexemes t.namespace)

abbrev pub tree_lexemes : Tree → List Lexeme
tree_lexemes t = namespace_lexemes t ++ templates_lexemes t.templates
