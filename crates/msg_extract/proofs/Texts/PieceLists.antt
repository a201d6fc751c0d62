-- The pieces of a message make its canonical text, and their uses are those of the message.
use Rattle.std.proofs.Common.{◌≡◌, ℕ, Bool, true, false, List, [], ◌∷◌, ◌++◌, Option, Some, None, refl, sym, ap, ◌∙◌}
use Rattle.std.specs.Prelude.{codes}
use Rattle.std.specs.Fmt.{signed_decimal}
use Rattle.std.proofs.lemmas.List as lists
use Rattle.soy_tree.specs.Nodes.{MessageBody, PluralCases, SelectCases, Parts, Plural, Select, no_plural_case}
use Rattle.soy_tree.specs.Nodes.{plural_case, no_select_case, select_case}
use Rattle.soy_tree.specs.MessageText.{MessageItem, Cut, TextCut, PrintCut, TagCut, cuts_of, message_items}
use Rattle.soy_base.specs.declared.fault.Span.{Span}
use Rattle.soy_tree.specs.Types.{Name}
use Rattle.soy_tree.specs.Expressions.{Expr}
use Rattle.soy_rules.specs.BaseNames.{base_of_expr, base_of_print, base_of_tag}
use Rattle.soy_rules.specs.Placeholders.{Use, AsPlaceholder, AsPlural, AsSelect, ExprContent, TagContent, body_uses}
use Rattle.soy_rules.specs.Placeholders.{cut_uses, found_uses, name_of, plural_uses}
use Rattle.soy_rules.specs.Placeholders.{select_uses}
use Rattle.msg_extract.specs.Canonical.CanonicalText.{canonical_text, written_body, written_case, written_cuts}
use Rattle.msg_extract.specs.Canonical.CanonicalText.{written_found}
use Rattle.msg_extract.specs.Canonical.CanonicalText.{text_of_items, written_name, written_offset, written_plural_cases}
use Rattle.msg_extract.specs.Canonical.CanonicalText.{written_select_cases, written_text}
use Rattle.msg_extract.specs.Canonical.Pieces.{Piece, TextPiece, UsePiece, body_pieces, cut_pieces, found_pieces}
use Rattle.msg_extract.specs.Canonical.Pieces.{pieces_text}
use Rattle.msg_extract.specs.Canonical.Pieces.{plural_case_pieces, select_case_pieces, uses_in}
use Rattle.msg_extract.specs.Canonical.TextOfPiece.{piece_text}

pub append_assoc : {A : Type 0} (xs ys zs : List A) → (xs ++ ys) ++ zs ≡ xs ++ (ys ++ zs)
append_assoc xs ys zs = lists.append_assoc xs ys zs

-- what a plural or select adds, one after another
pub six_added : {A : Type 0} (old as_ : List A) (b : A) (cs : List A) (d : A) (es : List A) (f : A)
    → (((((old ++ as_) ++ (b ∷ [])) ++ cs) ++ (d ∷ [])) ++ es) ++ (f ∷ [])
    ≡ old ++ (as_ ++ (b ∷ (cs ++ (d ∷ (es ++ (f ∷ []))))))
six_added old as_ b cs d es f =
    append_assoc ((((old ++ as_) ++ (b ∷ [])) ++ cs) ++ (d ∷ [])) es (f ∷ [])
    ∙ (append_assoc (((old ++ as_) ++ (b ∷ [])) ++ cs) (d ∷ []) (es ++ (f ∷ []))
    ∙ (append_assoc ((old ++ as_) ++ (b ∷ [])) cs (d ∷ (es ++ (f ∷ [])))
    ∙ (append_assoc (old ++ as_) (b ∷ []) (cs ++ (d ∷ (es ++ (f ∷ []))))
    ∙ append_assoc old as_ (b ∷ (cs ++ (d ∷ (es ++ (f ∷ []))))))))

pub uses_join : (ps qs : List Piece) → uses_in (ps ++ qs) ≡ uses_in ps ++ uses_in qs
uses_join [] qs = refl
uses_join (TextPiece text ∷ ps) qs = uses_join ps qs
uses_join (UsePiece u ∷ ps) qs = ap (λ us. u ∷ us) (uses_join ps qs)

text_join : (uses : List Use) (ps qs : List Piece)
    → pieces_text uses (ps ++ qs) ≡ pieces_text uses ps ++ pieces_text uses qs
text_join uses [] qs = refl
text_join uses (TextPiece text ∷ ps) qs =
    ap (λ t. text ++ t) (text_join uses ps qs)
    ∙ sym (append_assoc text (pieces_text uses ps) (pieces_text uses qs))
text_join uses (UsePiece u ∷ ps) qs =
    ap (λ t. name_of uses u.base u.content ++ t) (text_join uses ps qs)
    ∙ sym (append_assoc (name_of uses u.base u.content) (pieces_text uses ps) (pieces_text uses qs))

-- uses

abbrev print_use : Expr → Option Name → Span → Use
print_use e phname span =
    record { base = base_of_print e phname; content = ExprContent e; role = AsPlaceholder (PrintCut e phname span) }

abbrev tag_use : List MessageItem → Use
tag_use tag = record { base = base_of_tag tag; content = TagContent tag; role = AsPlaceholder (TagCut tag) }

abbrev plural_use : Expr → Use
plural_use e = record { base = base_of_expr e; content = ExprContent e; role = AsPlural e }

abbrev select_use : Expr → Use
select_use e = record { base = base_of_expr e; content = ExprContent e; role = AsSelect e }

cut_pieces_uses : (flag : Bool) (cuts : List Cut) → uses_in (cut_pieces flag cuts) ≡ cut_uses cuts
cut_pieces_uses flag [] = refl
cut_pieces_uses flag (TextCut text ∷ cuts) = cut_pieces_uses flag cuts
cut_pieces_uses flag (PrintCut e phname span ∷ cuts) =
    ap (λ us. print_use e phname span ∷ us) (cut_pieces_uses flag cuts)
cut_pieces_uses flag (TagCut tag ∷ cuts) = ap (λ us. tag_use tag ∷ us) (cut_pieces_uses flag cuts)

found_pieces_uses : (flag : Bool) (found : Option (List Cut)) → uses_in (found_pieces flag found) ≡ found_uses found
found_pieces_uses flag None = refl
found_pieces_uses flag (Some cuts) = cut_pieces_uses flag cuts

-- behind pieces that end in text
then_text : (ps : List Piece) (text : List ℕ) (qs : List Piece)
    → uses_in (ps ++ (TextPiece text ∷ qs)) ≡ uses_in ps ++ uses_in qs
then_text ps text qs = uses_join ps (TextPiece text ∷ qs)

mutual
  pub body_pieces_uses : (flag : Bool) (body : MessageBody) → uses_in (body_pieces flag body) ≡ body_uses body
  body_pieces_uses flag (Parts ns) = found_pieces_uses flag (cuts_of (message_items ns))
  body_pieces_uses flag (Plural e offset cases other) =
      ap (λ us. plural_use e ∷ us) (then_text (plural_case_pieces cases) (codes "other {") (body_pieces true other ++
      (TextPiece (codes "}}") ∷ []))
      ∙ (ap (λ us. us ++ uses_in (body_pieces true other ++ (TextPiece (codes "}}") ∷ []))) (plural_pieces_uses cases)
      ∙ ap (λ us. plural_uses cases ++ us) (then_text (body_pieces true other) (codes "}}") []
      ∙ (lists.append-nil (uses_in (body_pieces true other)) ∙ body_pieces_uses true other))))
  body_pieces_uses flag (Select e cases other) =
      ap (λ us. select_use e ∷ us) (then_text (select_case_pieces cases) (codes "other {") (body_pieces false other ++
      (TextPiece (codes "}}") ∷ []))
      ∙ (ap (λ us. us ++ uses_in (body_pieces false other ++ (TextPiece (codes "}}") ∷ []))) (select_pieces_uses cases)
      ∙ ap (λ us. select_uses cases ++ us) (then_text (body_pieces false other) (codes "}}") []
      ∙ (lists.append-nil (uses_in (body_pieces false other)) ∙ body_pieces_uses false other))))

  plural_pieces_uses : (cases : PluralCases) → uses_in (plural_case_pieces cases) ≡ plural_uses cases
  plural_pieces_uses no_plural_case = refl
  plural_pieces_uses (plural_case n body cases) =
      then_text (body_pieces true body) (codes "} ") (plural_case_pieces cases)
      ∙ (ap (λ us. us ++ uses_in (plural_case_pieces cases)) (body_pieces_uses true body)
      ∙ ap (λ us. body_uses body ++ us) (plural_pieces_uses cases))

  select_pieces_uses : (cases : SelectCases) → uses_in (select_case_pieces cases) ≡ select_uses cases
  select_pieces_uses no_select_case = refl
  select_pieces_uses (select_case word body cases) =
      then_text (body_pieces false body) (codes "} ") (select_case_pieces cases)
      ∙ (ap (λ us. us ++ uses_in (select_case_pieces cases)) (body_pieces_uses false body)
      ∙ ap (λ us. body_uses body ++ us) (select_pieces_uses cases))

-- text

in_braces : (name more written : List ℕ) → more ≡ written
    → codes "{" ++ (name ++ (codes "}" ++ more)) ≡ written_name name ++ written
in_braces name more written h =
    ap (λ t. codes "{" ++ (name ++ (codes "}" ++ t))) h
    ∙ ap (λ t. codes "{" ++ t) (sym (append_assoc name (codes "}") written))

module _ (uses : List Use) where
  cut_pieces_text : (flag : Bool) (cuts : List Cut) → pieces_text uses (cut_pieces flag cuts)
      ≡ written_cuts uses flag cuts
  cut_pieces_text flag [] = refl
  cut_pieces_text flag (TextCut text ∷ cuts) =
      ap (λ t. written_text flag (text_of_items text) ++ t) (cut_pieces_text flag cuts)
  cut_pieces_text flag (PrintCut e phname span ∷ cuts) =
      in_braces (name_of uses (base_of_print e phname) (ExprContent e)) (pieces_text uses (cut_pieces flag cuts))
      (written_cuts uses flag cuts) (cut_pieces_text flag cuts)
  cut_pieces_text flag (TagCut tag ∷ cuts) =
      in_braces (name_of uses (base_of_tag tag) (TagContent tag)) (pieces_text uses (cut_pieces flag cuts))
      (written_cuts uses flag cuts) (cut_pieces_text flag cuts)

  found_pieces_text : (flag : Bool) (found : Option (List Cut)) → pieces_text uses (found_pieces flag found)
      ≡ written_found uses flag found
  found_pieces_text flag None = refl
  found_pieces_text flag (Some cuts) = cut_pieces_text flag cuts

  abbrev ends_text : List Piece → List ℕ → List ℕ
  ends_text ps text = pieces_text uses (ps ++ (TextPiece text ∷ []))

  at_end : (ps : List Piece) (text written : List ℕ) → pieces_text uses ps ≡ written
      → ends_text ps text ≡ written ++ text
  at_end ps text written h =
      text_join uses ps (TextPiece text ∷ [])
      ∙ (ap (λ t. t ++ (text ++ [])) h ∙ ap (λ t. written ++ t) (lists.append-nil text))

  default_text : (ps : List Piece) (written : List ℕ) → pieces_text uses ps ≡ written
      → pieces_text uses (TextPiece (codes "other {") ∷ (ps ++ (TextPiece (codes "}}") ∷ [])))
      ≡ written_case (codes "other") written ++ codes "}"
  default_text ps written h =
      ap (λ t. codes "other {" ++ t) (at_end ps (codes "}}") written h
      ∙ sym (append_assoc written (codes "}") (codes "}")))

  behind : (ps qs : List Piece) (text : List ℕ) → pieces_text uses ps ≡ text
      → pieces_text uses (ps ++ qs) ≡ text ++ pieces_text uses qs
  behind ps qs text h = text_join uses ps qs ∙ ap (λ t. t ++ pieces_text uses qs) h

  case_text : (key : List ℕ) (ps : List Piece) (written : List ℕ) (qs : List Piece) (more : List ℕ)
      → pieces_text uses ps ≡ written → pieces_text uses qs ≡ more
      → pieces_text uses (TextPiece (key ++ codes " {") ∷ (ps ++ (TextPiece (codes "} ") ∷ qs)))
      ≡ written_case key written ++ (codes " " ++ more)
  case_text key ps written qs more h k =
      ap (λ t. (key ++ codes " {") ++ t) (behind ps (TextPiece (codes "} ") ∷ qs) written h
      ∙ ap (λ t. written ++ (codes "} " ++ t)) k)
      ∙ (append_assoc key (codes " {") (written ++ (codes "} " ++ more))
      ∙ (ap (λ t. key ++ (codes " {" ++ t)) (sym (append_assoc written (codes "}") (codes " " ++ more)))
      ∙ sym (append_assoc key (codes " {" ++ (written ++ codes "}")) (codes " " ++ more))))

  mutual
    pub body_pieces_text : (flag : Bool) (body : MessageBody) → pieces_text uses (body_pieces flag body)
        ≡ written_body uses flag body
    body_pieces_text flag (Parts ns) = found_pieces_text flag (cuts_of (message_items ns))
    body_pieces_text flag (Plural e offset cases other) =
        ap (λ t. codes "{" ++ (name_of uses (base_of_expr e) (ExprContent e) ++ t))
        (append_assoc (codes ", plural, ") (written_offset offset) (pieces_text uses (plural_case_pieces cases ++
        (TextPiece (codes "other {") ∷ (body_pieces true other ++ (TextPiece (codes "}}") ∷ [])))))
        ∙ ap (λ t. codes ", plural, " ++ (written_offset offset ++ t))
        (behind (plural_case_pieces cases) (TextPiece (codes "other {") ∷ (body_pieces true other ++
        (TextPiece (codes "}}") ∷ []))) (written_plural_cases uses cases) (plural_pieces_text cases)
        ∙ ap (λ t. written_plural_cases uses cases ++ t)
        (default_text (body_pieces true other) (written_body uses true other) (body_pieces_text true other))))
    body_pieces_text flag (Select e cases other) =
        ap (λ t. codes "{" ++ (name_of uses (base_of_expr e) (ExprContent e) ++ (codes ", select, " ++ t)))
        (behind (select_case_pieces cases) (TextPiece (codes "other {") ∷ (body_pieces false other ++
        (TextPiece (codes "}}") ∷ []))) (written_select_cases uses cases) (select_pieces_text cases)
        ∙ ap (λ t. written_select_cases uses cases ++ t)
        (default_text (body_pieces false other) (written_body uses false other) (body_pieces_text false other)))

    plural_pieces_text : (cases : PluralCases) → pieces_text uses (plural_case_pieces cases)
        ≡ written_plural_cases uses cases
    plural_pieces_text no_plural_case = refl
    plural_pieces_text (plural_case n body cases) =
        case_text (codes "=" ++ signed_decimal n) (body_pieces true body) (written_body uses true body)
        (plural_case_pieces cases) (written_plural_cases uses cases) (body_pieces_text true body)
        (plural_pieces_text cases)

    select_pieces_text : (cases : SelectCases) → pieces_text uses (select_case_pieces cases)
        ≡ written_select_cases uses cases
    select_pieces_text no_select_case = refl
    select_pieces_text (select_case word body cases) =
        case_text word (body_pieces false body) (written_body uses false body)
        (select_case_pieces cases) (written_select_cases uses cases) (body_pieces_text false body)
        (select_pieces_text cases)

-- the text that a message's pieces make
pub pieces_canonical : (body : MessageBody)
    → pieces_text (uses_in (body_pieces false body)) (body_pieces false body) ≡ canonical_text body
pieces_canonical body =
    ap (λ us. pieces_text us (body_pieces false body)) (body_pieces_uses false body)
    ∙ body_pieces_text (body_uses body) false body

pub text_step : (uses : List Use) (p : Piece) (ps : List Piece)
    → pieces_text uses (p ∷ ps) ≡ piece_text uses p ++ pieces_text uses ps
text_step uses (TextPiece text) ps = refl
text_step uses (UsePiece u) ps = refl
