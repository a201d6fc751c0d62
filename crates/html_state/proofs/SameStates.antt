-- States that `==` holds for are equal, field by field.
use Rattle.std.proofs.Common.{◌≡◌, ◌&&◌, ℕ, Bool, true, false, eqb, List, [], ◌∷◌, refl, ap, ◌∙◌}
use Rattle.std.proofs.lemmas.Bool.{and_parts, eqb-true}
use Rattle.std.specs.Cmp.Lexicographic.{pointwise}
use Rattle.std.specs.Prelude.{nat_eq}
use Rattle.script_state.specs.declared.css_state.CssState.{CssState}
use Rattle.script_state.specs.declared.css_state.CssState.TheVariants as css_state
use Rattle.script_state.specs.contracts.css_state.CssStatePartialEq.TheImpl as css_state_eq
use Rattle.script_state.specs.declared.js_state.JsState.{JsState}
use Rattle.script_state.specs.declared.js_state.JsState.TheVariants as js_state
use Rattle.script_state.specs.contracts.js_state.JsStatePartialEq.TheImpl as js_state_eq
use Rattle.html_state.specs.declared.row.TagKind.{TagKind}
use Rattle.html_state.specs.declared.row.TagKind.TheVariants as tag_kind
use Rattle.html_state.specs.contracts.row.TagKindPartialEq.TheImpl as tag_kind_eq
use Rattle.html_state.specs.declared.row.Quote.{Quote}
use Rattle.html_state.specs.declared.row.Quote.TheVariants as quote
use Rattle.html_state.specs.contracts.row.QuotePartialEq.TheImpl as quote_eq
use Rattle.html_state.specs.declared.row.UriName.{UriName}
use Rattle.html_state.specs.declared.row.UriName.TheVariants as uri_name
use Rattle.html_state.specs.contracts.row.UriNamePartialEq.TheImpl as uri_name_eq
use Rattle.html_state.specs.declared.row.Attribute.{Attribute}
use Rattle.html_state.specs.declared.row.Attribute.TheVariants as attribute
use Rattle.html_state.specs.contracts.row.AttributePartialEq.TheImpl as attribute_eq
use Rattle.html_state.specs.declared.row.UriPart.{UriPart}
use Rattle.html_state.specs.declared.row.UriPart.TheVariants as uri_part
use Rattle.html_state.specs.contracts.row.UriPartPartialEq.TheImpl as uri_part_eq
use Rattle.html_state.specs.declared.row.AttributeValue.{AttributeValue}
use Rattle.html_state.specs.declared.row.AttributeValue.TheVariants as attribute_value
use Rattle.html_state.specs.contracts.row.AttributeValuePartialEq.TheImpl as attribute_value_eq
use Rattle.html_state.specs.declared.row.Element.{Element}
use Rattle.html_state.specs.declared.row.Element.TheVariants as element
use Rattle.html_state.specs.contracts.row.ElementPartialEq.TheImpl as element_eq
use Rattle.html_state.specs.declared.row.Begun.{Begun}
use Rattle.html_state.specs.declared.row.Begun.TheVariants as begun
use Rattle.html_state.specs.contracts.row.BegunPartialEq.TheImpl as begun_eq
use Rattle.html_state.specs.declared.row.Tag.{Tag}
use Rattle.html_state.specs.declared.row.Tag.TheVariants as tag
use Rattle.html_state.specs.contracts.row.TagPartialEq.TheImpl as tag_eq
use Rattle.html_state.specs.declared.row.TagRow.{TagRow}
use Rattle.html_state.specs.declared.row.TagRow.TheVariants as tag_row
use Rattle.html_state.specs.contracts.row.TagRowPartialEq.TheImpl as tag_row_eq
use Rattle.html_state.specs.declared.row.DeclarationRow.{DeclarationRow}
use Rattle.html_state.specs.declared.row.DeclarationRow.TheVariants as declaration_row
use Rattle.html_state.specs.contracts.row.DeclarationRowPartialEq.TheImpl as declaration_row_eq
use Rattle.html_state.specs.declared.row.HtmlRow.{HtmlRow}
use Rattle.html_state.specs.declared.row.HtmlRow.TheVariants as html_row
use Rattle.html_state.specs.contracts.row.HtmlRowPartialEq.TheImpl as html_row_eq
use Rattle.html_state.specs.declared.row.Reference.{Reference}
use Rattle.html_state.specs.declared.row.Reference.TheVariants as reference
use Rattle.html_state.specs.contracts.row.ReferencePartialEq.TheImpl as reference_eq
use Rattle.html_state.specs.declared.row.State.{State}
use Rattle.html_state.specs.contracts.row.StatePartialEq.TheImpl as state_eq

never : false ≡ true → ⊥
never is = cc

same_list : (one other : List ℕ) → pointwise nat_eq one other ≡ true → one ≡ other
same_list [] [] is = refl
same_list [] (d ∷ ds) is = cc
same_list (c ∷ cs) [] is = cc
same_list (c ∷ cs) (d ∷ ds) is =
    let parts = and_parts (eqb c d) (pointwise nat_eq cs ds) is in
    let first : c ≡ d = eqb-true c d parts.0 in
    let rest : cs ≡ ds = same_list cs ds parts.1 in cc

same_css_state : (one other : CssState) → (css_state_eq.ghosts).eq one other ≡ true → one ≡ other
same_css_state css_state.Code css_state.Code is = refl
same_css_state css_state.Code _ is = absurd (never is)
same_css_state css_state.Ready css_state.Ready is = refl
same_css_state css_state.Ready _ is = absurd (never is)
same_css_state css_state.Slash css_state.Slash is = refl
same_css_state css_state.Slash _ is = absurd (never is)
same_css_state css_state.Comment css_state.Comment is = refl
same_css_state css_state.Comment _ is = absurd (never is)
same_css_state css_state.CommentStar css_state.CommentStar is = refl
same_css_state css_state.CommentStar _ is = absurd (never is)
same_css_state css_state.CodeEscape css_state.CodeEscape is = refl
same_css_state css_state.CodeEscape _ is = absurd (never is)
same_css_state css_state.Single css_state.Single is = refl
same_css_state css_state.Single _ is = absurd (never is)
same_css_state css_state.Double css_state.Double is = refl
same_css_state css_state.Double _ is = absurd (never is)
same_css_state css_state.SingleEscape css_state.SingleEscape is = refl
same_css_state css_state.SingleEscape _ is = absurd (never is)
same_css_state css_state.DoubleEscape css_state.DoubleEscape is = refl
same_css_state css_state.DoubleEscape _ is = absurd (never is)
same_css_state css_state.AfterValue css_state.AfterValue is = refl
same_css_state css_state.AfterValue _ is = absurd (never is)

same_js_state : (one other : JsState) → (js_state_eq.ghosts).eq one other ≡ true → one ≡ other
same_js_state js_state.Code js_state.Code is = refl
same_js_state js_state.Code _ is = absurd (never is)
same_js_state js_state.Slash js_state.Slash is = refl
same_js_state js_state.Slash _ is = absurd (never is)
same_js_state js_state.Line js_state.Line is = refl
same_js_state js_state.Line _ is = absurd (never is)
same_js_state js_state.Block js_state.Block is = refl
same_js_state js_state.Block _ is = absurd (never is)
same_js_state js_state.BlockStar js_state.BlockStar is = refl
same_js_state js_state.BlockStar _ is = absurd (never is)
same_js_state js_state.Single js_state.Single is = refl
same_js_state js_state.Single _ is = absurd (never is)
same_js_state js_state.Double js_state.Double is = refl
same_js_state js_state.Double _ is = absurd (never is)
same_js_state js_state.SingleEscape js_state.SingleEscape is = refl
same_js_state js_state.SingleEscape _ is = absurd (never is)
same_js_state js_state.DoubleEscape js_state.DoubleEscape is = refl
same_js_state js_state.DoubleEscape _ is = absurd (never is)

same_tag_kind : (one other : TagKind) → (tag_kind_eq.ghosts).eq one other ≡ true → one ≡ other
same_tag_kind tag_kind.Start tag_kind.Start is = refl
same_tag_kind tag_kind.Start _ is = absurd (never is)
same_tag_kind tag_kind.End tag_kind.End is = refl
same_tag_kind tag_kind.End _ is = absurd (never is)

same_quote : (one other : Quote) → (quote_eq.ghosts).eq one other ≡ true → one ≡ other
same_quote quote.Single quote.Single is = refl
same_quote quote.Single _ is = absurd (never is)
same_quote quote.Double quote.Double is = refl
same_quote quote.Double _ is = absurd (never is)

same_uri_name : (one other : UriName) → (uri_name_eq.ghosts).eq one other ≡ true → one ≡ other
same_uri_name uri_name.Src uri_name.Src is = refl
same_uri_name uri_name.Src _ is = absurd (never is)
same_uri_name uri_name.Data uri_name.Data is = refl
same_uri_name uri_name.Data _ is = absurd (never is)
same_uri_name uri_name.Href uri_name.Href is = refl
same_uri_name uri_name.Href _ is = absurd (never is)
same_uri_name uri_name.Other uri_name.Other is = refl
same_uri_name uri_name.Other _ is = absurd (never is)

same_attribute : (one other : Attribute) → (attribute_eq.ghosts).eq one other ≡ true → one ≡ other
same_attribute (attribute.Uri a0) (attribute.Uri b0) is = ap attribute.Uri (same_uri_name a0 b0 is)
same_attribute (attribute.Uri _) _ is = absurd (never is)
same_attribute attribute.Event attribute.Event is = refl
same_attribute attribute.Event _ is = absurd (never is)
same_attribute attribute.NoPrint attribute.NoPrint is = refl
same_attribute attribute.NoPrint _ is = absurd (never is)
same_attribute attribute.Style attribute.Style is = refl
same_attribute attribute.Style _ is = absurd (never is)
same_attribute attribute.Plain attribute.Plain is = refl
same_attribute attribute.Plain _ is = absurd (never is)

same_uri_part : (one other : UriPart) → (uri_part_eq.ghosts).eq one other ≡ true → one ≡ other
same_uri_part uri_part.Start uri_part.Start is = refl
same_uri_part uri_part.Start _ is = absurd (never is)
same_uri_part (uri_part.Scheme a0) (uri_part.Scheme b0) is = ap uri_part.Scheme (same_list a0 b0 is)
same_uri_part (uri_part.Scheme _) _ is = absurd (never is)
same_uri_part uri_part.NoScheme uri_part.NoScheme is = refl
same_uri_part uri_part.NoScheme _ is = absurd (never is)
same_uri_part uri_part.AfterStart uri_part.AfterStart is = refl
same_uri_part uri_part.AfterStart _ is = absurd (never is)
same_uri_part uri_part.Path uri_part.Path is = refl
same_uri_part uri_part.Path _ is = absurd (never is)
same_uri_part uri_part.Query uri_part.Query is = refl
same_uri_part uri_part.Query _ is = absurd (never is)
same_uri_part uri_part.Fragment uri_part.Fragment is = refl
same_uri_part uri_part.Fragment _ is = absurd (never is)
same_uri_part uri_part.BadScheme uri_part.BadScheme is = refl
same_uri_part uri_part.BadScheme _ is = absurd (never is)

same_attribute_value : (one other : AttributeValue) → (attribute_value_eq.ghosts).eq one other ≡ true → one ≡ other
same_attribute_value (attribute_value.Uri a0 a1) (attribute_value.Uri b0 b1) is =
    let parts = and_parts _ _ is in
    let e0 : a0 ≡ b0 = same_uri_name a0 b0 parts.0 in
    let e1 : a1 ≡ b1 = same_uri_part a1 b1 parts.1 in
    cc
same_attribute_value (attribute_value.Uri _ _) _ is = absurd (never is)
same_attribute_value attribute_value.Event attribute_value.Event is = refl
same_attribute_value attribute_value.Event _ is = absurd (never is)
same_attribute_value attribute_value.NoPrint attribute_value.NoPrint is = refl
same_attribute_value attribute_value.NoPrint _ is = absurd (never is)
same_attribute_value (attribute_value.Style a0) (attribute_value.Style b0) is =
    ap attribute_value.Style (same_css_state a0 b0 is)
same_attribute_value (attribute_value.Style _) _ is = absurd (never is)
same_attribute_value attribute_value.Plain attribute_value.Plain is = refl
same_attribute_value attribute_value.Plain _ is = absurd (never is)

same_element : (one other : Element) → (element_eq.ghosts).eq one other ≡ true → one ≡ other
same_element element.Title element.Title is = refl
same_element element.Title _ is = absurd (never is)
same_element element.Textarea element.Textarea is = refl
same_element element.Textarea _ is = absurd (never is)
same_element (element.Style a0) (element.Style b0) is = ap element.Style (same_css_state a0 b0 is)
same_element (element.Style _) _ is = absurd (never is)
same_element element.Xmp element.Xmp is = refl
same_element element.Xmp _ is = absurd (never is)
same_element element.Iframe element.Iframe is = refl
same_element element.Iframe _ is = absurd (never is)
same_element element.Noembed element.Noembed is = refl
same_element element.Noembed _ is = absurd (never is)
same_element element.Noframes element.Noframes is = refl
same_element element.Noframes _ is = absurd (never is)
same_element element.Noscript element.Noscript is = refl
same_element element.Noscript _ is = absurd (never is)
same_element (element.Script a0) (element.Script b0) is = ap element.Script (same_js_state a0 b0 is)
same_element (element.Script _) _ is = absurd (never is)

same_begun : (one other : Begun) → (begun_eq.ghosts).eq one other ≡ true → one ≡ other
same_begun (begun.EndTag a0) (begun.EndTag b0) is = ap begun.EndTag (eqb-true a0 b0 is)
same_begun (begun.EndTag _) _ is = absurd (never is)
same_begun begun.Bang begun.Bang is = refl
same_begun begun.Bang _ is = absurd (never is)
same_begun begun.BangDash begun.BangDash is = refl
same_begun begun.BangDash _ is = absurd (never is)

same_tag : (one other : Tag) → (tag_eq.ghosts).eq one other ≡ true → one ≡ other
same_tag (tag.Named a0 a1) (tag.Named b0 b1) is =
    let parts = and_parts _ _ is in
    let e0 : a0 ≡ b0 = same_tag_kind a0 b0 parts.0 in
    let e1 : a1 ≡ b1 = same_list a1 b1 parts.1 in
    cc
same_tag (tag.Named _ _) _ is = absurd (never is)
same_tag tag.Block tag.Block is = refl
same_tag tag.Block _ is = absurd (never is)

same_tag_row : (one other : TagRow) → (tag_row_eq.ghosts).eq one other ≡ true → one ≡ other
same_tag_row tag_row.BeforeName tag_row.BeforeName is = refl
same_tag_row tag_row.BeforeName _ is = absurd (never is)
same_tag_row tag_row.AfterPrinted tag_row.AfterPrinted is = refl
same_tag_row tag_row.AfterPrinted _ is = absurd (never is)
same_tag_row (tag_row.AttributeName a0) (tag_row.AttributeName b0) is = ap tag_row.AttributeName (same_list a0 b0 is)
same_tag_row (tag_row.AttributeName _) _ is = absurd (never is)
same_tag_row (tag_row.BeforeValue a0) (tag_row.BeforeValue b0) is = ap tag_row.BeforeValue (same_attribute a0 b0 is)
same_tag_row (tag_row.BeforeValue _) _ is = absurd (never is)
same_tag_row (tag_row.Quoted a0 a1) (tag_row.Quoted b0 b1) is =
    let parts = and_parts _ _ is in
    let e0 : a0 ≡ b0 = same_quote a0 b0 parts.0 in
    let e1 : a1 ≡ b1 = same_attribute_value a1 b1 parts.1 in
    cc
same_tag_row (tag_row.Quoted _ _) _ is = absurd (never is)
same_tag_row (tag_row.Unquoted a0) (tag_row.Unquoted b0) is = ap tag_row.Unquoted (same_attribute_value a0 b0 is)
same_tag_row (tag_row.Unquoted _) _ is = absurd (never is)
same_tag_row tag_row.AfterQuoted tag_row.AfterQuoted is = refl
same_tag_row tag_row.AfterQuoted _ is = absurd (never is)
same_tag_row tag_row.SelfClosing tag_row.SelfClosing is = refl
same_tag_row tag_row.SelfClosing _ is = absurd (never is)

same_declaration_row : (one other : DeclarationRow) → (declaration_row_eq.ghosts).eq one other ≡ true → one ≡ other
same_declaration_row declaration_row.BogusComment declaration_row.BogusComment is = refl
same_declaration_row declaration_row.BogusComment _ is = absurd (never is)
same_declaration_row declaration_row.Doctype declaration_row.Doctype is = refl
same_declaration_row declaration_row.Doctype _ is = absurd (never is)
same_declaration_row declaration_row.CommentStart declaration_row.CommentStart is = refl
same_declaration_row declaration_row.CommentStart _ is = absurd (never is)
same_declaration_row declaration_row.StartDash declaration_row.StartDash is = refl
same_declaration_row declaration_row.StartDash _ is = absurd (never is)
same_declaration_row declaration_row.Comment declaration_row.Comment is = refl
same_declaration_row declaration_row.Comment _ is = absurd (never is)
same_declaration_row declaration_row.EndDash declaration_row.EndDash is = refl
same_declaration_row declaration_row.EndDash _ is = absurd (never is)
same_declaration_row declaration_row.CommentEnd declaration_row.CommentEnd is = refl
same_declaration_row declaration_row.CommentEnd _ is = absurd (never is)
same_declaration_row declaration_row.EndBang declaration_row.EndBang is = refl
same_declaration_row declaration_row.EndBang _ is = absurd (never is)

same_html_row : (one other : HtmlRow) → (html_row_eq.ghosts).eq one other ≡ true → one ≡ other
same_html_row html_row.Data html_row.Data is = refl
same_html_row html_row.Data _ is = absurd (never is)
same_html_row html_row.TagOpen html_row.TagOpen is = refl
same_html_row html_row.TagOpen _ is = absurd (never is)
same_html_row html_row.EndTagOpen html_row.EndTagOpen is = refl
same_html_row html_row.EndTagOpen _ is = absurd (never is)
same_html_row (html_row.TagName a0 a1) (html_row.TagName b0 b1) is =
    let parts = and_parts _ _ is in
    let e0 : a0 ≡ b0 = same_tag_kind a0 b0 parts.0 in
    let e1 : a1 ≡ b1 = same_list a1 b1 parts.1 in
    cc
same_html_row (html_row.TagName _ _) _ is = absurd (never is)
same_html_row (html_row.InTag a0 a1) (html_row.InTag b0 b1) is =
    let parts = and_parts _ _ is in
    let e0 : a0 ≡ b0 = same_tag a0 b0 parts.0 in
    let e1 : a1 ≡ b1 = same_tag_row a1 b1 parts.1 in
    cc
same_html_row (html_row.InTag _ _) _ is = absurd (never is)
same_html_row (html_row.MarkupDeclaration a0) (html_row.MarkupDeclaration b0) is =
    ap html_row.MarkupDeclaration (same_list a0 b0 is)
same_html_row (html_row.MarkupDeclaration _) _ is = absurd (never is)
same_html_row (html_row.InDeclaration a0) (html_row.InDeclaration b0) is =
    ap html_row.InDeclaration (same_declaration_row a0 b0 is)
same_html_row (html_row.InDeclaration _) _ is = absurd (never is)
same_html_row (html_row.Within a0) (html_row.Within b0) is = ap html_row.Within (same_element a0 b0 is)
same_html_row (html_row.Within _) _ is = absurd (never is)
same_html_row (html_row.BegunEndTag a0 a1) (html_row.BegunEndTag b0 b1) is =
    let parts = and_parts _ _ is in
    let e0 : a0 ≡ b0 = same_element a0 b0 parts.0 in
    let e1 : a1 ≡ b1 = same_begun a1 b1 parts.1 in
    cc
same_html_row (html_row.BegunEndTag _ _) _ is = absurd (never is)
same_html_row html_row.Outside html_row.Outside is = refl
same_html_row html_row.Outside _ is = absurd (never is)
same_html_row html_row.Plain html_row.Plain is = refl
same_html_row html_row.Plain _ is = absurd (never is)

same_reference : (one other : Reference) → (reference_eq.ghosts).eq one other ≡ true → one ≡ other
same_reference reference.Decided reference.Decided is = refl
same_reference reference.Decided _ is = absurd (never is)
same_reference (reference.Begun a0) (reference.Begun b0) is = ap reference.Begun (same_list a0 b0 is)
same_reference (reference.Begun _) _ is = absurd (never is)
same_reference reference.NoName reference.NoName is = refl
same_reference reference.NoName _ is = absurd (never is)

pub same_state : (one other : State) → (state_eq.ghosts).eq one other ≡ true → one ≡ other
same_state one other is =
    let parts = and_parts _ _ is in
    let row : one.row ≡ other.row = same_html_row one.row other.row parts.0 in
    let reference : one.reference ≡ other.reference = same_reference one.reference other.reference parts.1 in
    λ i. record { row = row i; reference = reference i }
