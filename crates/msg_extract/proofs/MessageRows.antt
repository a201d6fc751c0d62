-- What is listed of a message, by its pieces.
use Rattle.std.proofs.Common.{◌≡◌, ℕ, false, List, [], refl, ap, ◌∙◌}
use Rattle.soy_base.specs.declared.fault.Span.{Span}
use Rattle.soy_tree.specs.Types.{Name}
use Rattle.soy_tree.specs.Nodes.{MessageBody, message}
use Rattle.soy_rules.specs.Placeholders.{body_uses}
use Rattle.msg_extract.specs.Canonical.CanonicalText.{canonical_text}
use Rattle.msg_extract.specs.Catalogue.{listed, role_names}
use Rattle.msg_extract.specs.MessageId.{id_of_text}
use Rattle.msg_extract.specs.Canonical.Pieces.{Piece, body_pieces, pieces_text, uses_in}
use Rattle.msg_extract.specs.PlaceholderNodes.{rows_after}
use Rattle.msg_extract.specs.declared.role_names.NameKind.{NameKind}
use Rattle.msg_extract.specs.declared.role_names.NameKind.TheVariants as kind
use Rattle.msg_extract.proofs.Texts.PieceLists.{body_pieces_uses, pieces_canonical}

-- the placeholders of pieces that are a message's
pub placeholders_rows : (body : MessageBody) (ps : List Piece) → ps ≡ body_pieces false body
    → rows_after (uses_in ps) [] (uses_in ps) ≡ rows_after (body_uses body) [] (body_uses body)
placeholders_rows body ps e = ap (λ us. rows_after us [] us) (ap uses_in e ∙ body_pieces_uses false body)

-- the text of pieces that are a message's
pub text_is : (body : MessageBody) (ps : List Piece) → ps ≡ body_pieces false body
    → pieces_text (uses_in ps) ps ≡ canonical_text body
text_is body ps e = ap (λ qs. pieces_text (uses_in qs) qs) e ∙ pieces_canonical body

names_are : (of : NameKind) (body : MessageBody) (ps : List Piece) → ps ≡ body_pieces false body
    → role_names of (uses_in ps) ≡ role_names of (body_uses body)
names_are of body ps e = ap (role_names of) (ap uses_in e ∙ body_pieces_uses false body)

-- a row of the catalogue, made of what its calls give
pub row_is : (desc meaning : List ℕ) (body : MessageBody) (span : Span) (ps : List Piece)
    (id text copied meant : List ℕ) (placeholders plurals selects : List Name) → ps ≡ body_pieces false body
    → text ≡ pieces_text (uses_in ps) ps
    → id ≡ id_of_text meaning text → copied ≡ desc → meant ≡ meaning
    → placeholders ≡ role_names kind.Placeholder (uses_in ps) → plurals ≡ role_names kind.Plural (uses_in ps)
    → selects ≡ role_names kind.Select (uses_in ps)
    → record {
      id = id;
      desc = copied;
      meaning = meant;
      text = text;
      placeholders = placeholders;
      plurals = plurals;
      selects = selects;
    } ≡ listed (message desc meaning body span)
row_is desc meaning body span ps id text copied meant placeholders plurals selects e t i d m p l s =
    rw (
      i,
      t,
      d,
      m,
      p,
      l,
      s,
      text_is body ps e,
      names_are kind.Placeholder body ps e,
      names_are kind.Plural body ps e,
      names_are kind.Select body ps e,
    ) refl
