-- A message as texts and uses of names, in the order of its canonical text.
-- Example: `a{$b}` is the texts `a` and `{`, a use of the name of `$b`, and the text `}`.
use Rattle.std.specs.Prelude.{ℕ, Bool, true, false, List, [], ◌∷◌, ◌++◌, Option, Some, None, codes}
use Rattle.std.specs.Fmt.{signed_decimal}
use Rattle.soy_tree.specs.Types.{Name}
use Rattle.soy_tree.specs.Expressions.{Expr}
use Rattle.soy_tree.specs.Nodes.{MessageBody, PluralCases, SelectCases, Parts, Plural, Select, no_plural_case}
use Rattle.soy_tree.specs.Nodes.{plural_case, no_select_case, select_case}
use Rattle.soy_tree.specs.MessageText.{Cut, TextCut, PrintCut, TagCut, cuts_of, message_items}
use Rattle.soy_rules.specs.BaseNames.{base_of_expr, base_of_print, base_of_tag}
use Rattle.soy_rules.specs.Placeholders.{Use, AsPlaceholder, AsPlural, AsSelect, ExprContent, TagContent, name_of}
use Rattle.msg_extract.specs.Canonical.CanonicalText.{text_of_items, written_offset, written_text}

pub data Piece : Type 0 where
  TextPiece : List ℕ → Piece
  UsePiece : Use → Piece

-- a placeholder in braces
abbrev pub placeholder_pieces : Use → List Piece
placeholder_pieces u = TextPiece (codes "{") ∷ (UsePiece u ∷ (TextPiece (codes "}") ∷ []))

abbrev pub one_cut_pieces : Bool → Cut → List Piece
one_cut_pieces in_plural (TextCut items) = TextPiece (written_text in_plural (text_of_items items)) ∷ []
one_cut_pieces in_plural (PrintCut e phname span) =
    placeholder_pieces (record {
      base = base_of_print e phname;
      content = ExprContent e;
      role = AsPlaceholder (PrintCut e phname span);
    })
one_cut_pieces in_plural (TagCut tag) =
    placeholder_pieces (record { base = base_of_tag tag; content = TagContent tag; role = AsPlaceholder (TagCut tag) })

abbrev pub cut_pieces : Bool → List Cut → List Piece
cut_pieces in_plural [] = []
cut_pieces in_plural (cut ∷ cuts) = one_cut_pieces in_plural cut ++ cut_pieces in_plural cuts

abbrev pub found_pieces : Bool → Option (List Cut) → List Piece
found_pieces in_plural None = []
found_pieces in_plural (Some cuts) = cut_pieces in_plural cuts

-- a `{`, and the name of a selector
abbrev pub selector_pieces : Use → List Piece
selector_pieces u = TextPiece (codes "{") ∷ (UsePiece u ∷ [])

abbrev mutual
  pub body_pieces : Bool → MessageBody → List Piece
  body_pieces in_plural (Parts ns) = found_pieces in_plural (cuts_of (message_items ns))
  body_pieces in_plural (Plural e offset cases other) =
      selector_pieces (record { base = base_of_expr e; content = ExprContent e; role = AsPlural e })
      ++ (TextPiece (codes ", plural, " ++ written_offset offset) ∷ (plural_case_pieces cases
      ++ (TextPiece (codes "other {") ∷ (body_pieces true other ++ (TextPiece (codes "}}") ∷ [])))))
  body_pieces in_plural (Select e cases other) =
      selector_pieces (record { base = base_of_expr e; content = ExprContent e; role = AsSelect e })
      ++ (TextPiece (codes ", select, ") ∷ (select_case_pieces cases
      ++ (TextPiece (codes "other {") ∷ (body_pieces false other ++ (TextPiece (codes "}}") ∷ [])))))

  pub plural_case_pieces : PluralCases → List Piece
  plural_case_pieces no_plural_case = []
  plural_case_pieces (plural_case n body cases) =
      TextPiece (codes "=" ++ (signed_decimal n ++ codes " {"))
      ∷ (body_pieces true body ++ (TextPiece (codes "} ") ∷ plural_case_pieces cases))

  pub select_case_pieces : SelectCases → List Piece
  select_case_pieces no_select_case = []
  select_case_pieces (select_case word body cases) =
      TextPiece (word ++ codes " {")
      ∷ (body_pieces false body ++ (TextPiece (codes "} ") ∷ select_case_pieces cases))

-- the uses of names among pieces
abbrev pub uses_in : List Piece → List Use
uses_in [] = []
uses_in (TextPiece text ∷ pieces) = uses_in pieces
uses_in (UsePiece u ∷ pieces) = u ∷ uses_in pieces

-- the text that pieces make, where these are all uses of names
abbrev pub pieces_text : List Use → List Piece → List ℕ
pieces_text uses [] = []
pieces_text uses (TextPiece text ∷ pieces) = text ++ pieces_text uses pieces
pieces_text uses (UsePiece u ∷ pieces) = name_of uses u.base u.content ++ pieces_text uses pieces
