-- The tokens of two pages that differ in their values are the same but for what the values hold.
use Rattle.std.proofs.Common.{◌≡◌, ℕ, suc, true, false, inl, inr, List, [], ◌∷◌, ◌++◌, map, refl, sym, ap, subst, ◌∙◌}
use Rattle.std.proofs.Common.{Option, Some, None, Ok, Err, append_assoc, codes, le_refl, arith}
use Rattle.std.proofs.lemmas.Bool.{cases_Bool, both_ways}
use Rattle.std.specs.Str.{bytes_eq}
use Rattle.soy_base.specs.declared.code.Code.TheVariants as code
use Rattle.bidi_text.specs.Clean.{cleaned_text}
use Rattle.bidi_text.specs.Estimate.{estimated_direction}
use Rattle.bidi_text.specs.Wrap.{wrapped_text}
use Rattle.html_state.specs.AfterPieces.{after_piece}
use Rattle.soy_base.specs.Piece.{Piece, Static, Value}
use Rattle.html_state.specs.AfterValue.{after_value, row_after_value}
use Rattle.script_state.specs.CssAfterValue.{css_after_value}
use Rattle.html_state.specs.declared.row.Element.TheVariants as element
use Rattle.html_state.specs.Leads.{marked}
use Rattle.html_state.specs.Next.{at_row, is_decided, pending, text_end}
use Rattle.html_state.specs.Texts.{and_then}
use Rattle.html_state.specs.declared.row.AttributeValue.{AttributeValue}
use Rattle.html_state.specs.declared.row.Element.{Element}
use Rattle.html_state.specs.declared.row.HtmlRow.{HtmlRow}
use Rattle.html_state.specs.declared.row.HtmlRow.TheVariants as row
use Rattle.html_state.specs.declared.row.Quote.{Quote}
use Rattle.html_state.specs.declared.row.Reference.{Reference}
use Rattle.html_state.specs.declared.row.Reference.TheVariants as reference
use Rattle.html_state.specs.declared.row.State.{State}
use Rattle.html_state.specs.declared.row.Tag.TheVariants as tag
use Rattle.html_state.specs.declared.row.TagKind.{TagKind}
use Rattle.html_state.specs.declared.row.TagRow.TheVariants as tag_row
use Rattle.bidi_order.specs.DecodedReferences.{pending_text}
use Rattle.bidi_order.specs.MarkupTokens.{MarkupToken, PageReading, labelled_characters, read_all, tokens_from}
use Rattle.stable_bidi.proofs.KnownPage.{Good, Known, reading, tag_of}
use Rattle.stable_bidi.specs.PagesAlike.{IsValueAt, IsWrapped, PagesAlike}
use Rattle.stable_bidi.specs.TokenParts.{AreFine, AreNumbered, TokenPart, one_tokens, other_tokens, span_tokens}
use Rattle.stable_bidi.specs.TokenParts.{unescaped}
use Rattle.stable_bidi.specs.TokenParts.TokenPart.{SharedToken, ValueSpans}
use Rattle.stable_bidi.proofs.CleanedInLine.{cleaned-in_line}
use Rattle.stable_bidi.proofs.ReadSpans.{reads_wrapped}
use Rattle.stable_bidi.proofs.RowReads.{AreStaticTokens}
use Rattle.stable_bidi.proofs.TextReads.{text_read}
use Rattle.stable_bidi.proofs.TextReads.TextRead.{Stops, Goes}
use Rattle.stable_bidi.proofs.ValueReads.{QuotedRead, WithinRead, quoted_reads, within_reads}

-- two lists of tokens are one list of parts
pub record TokensAlike (n : ℕ) (one other : List MarkupToken) : Type 0 where
  pub parts : List TokenPart
  pub one_are : one ≡ one_tokens parts
  pub other_are : other ≡ other_tokens parts
  pub fine : AreFine parts
  pub numbered : AreNumbered n parts

-- static tokens before other parts
abbrev shared_parts : List MarkupToken → List TokenPart → List TokenPart
shared_parts tokens parts = map SharedToken tokens ++ parts

-- their tokens on the one page
parts-one : (tokens : List MarkupToken) (parts : List TokenPart)
    → tokens ++ one_tokens parts ≡ one_tokens (shared_parts tokens parts)
parts-one [] parts = refl
parts-one (t ∷ tokens) parts = ap (λ l. t ∷ l) (parts-one tokens parts)

-- and on the other
parts-other : (tokens : List MarkupToken) (parts : List TokenPart)
    → tokens ++ other_tokens parts ≡ other_tokens (shared_parts tokens parts)
parts-other [] parts = refl
parts-other (t ∷ tokens) parts = ap (λ l. t ∷ l) (parts-other tokens parts)

-- they are fine
parts-fine : (tokens : List MarkupToken) (parts : List TokenPart) → AreStaticTokens tokens → AreFine parts
    → AreFine (shared_parts tokens parts)
parts-fine [] parts are fine = fine
parts-fine (t ∷ tokens) parts are fine = (are.0, parts-fine tokens parts are.1 fine)

-- and have no numbers
parts-numbered : (n : ℕ) (tokens : List MarkupToken) (parts : List TokenPart) → AreNumbered n parts
    → AreNumbered n (shared_parts tokens parts)
parts-numbered n [] parts are = are
parts-numbered n (t ∷ tokens) parts are = parts-numbered n tokens parts are

-- numbers from one on are numbers from the one before it on
numbered_lower : (n : ℕ) (parts : List TokenPart) → AreNumbered (suc n) parts → AreNumbered n parts
numbered_lower n [] are = tt
numbered_lower n (SharedToken t ∷ parts) are = numbered_lower n parts are
numbered_lower n (ValueSpans k d e v w ∷ parts) are = (omega (arith, are.0), are.1)

-- a value that gives no token has its number too
lower : (n : ℕ) (one other : List MarkupToken) → TokensAlike (suc n) one other → TokensAlike n one other
lower n one other more = record {
  parts = more.parts;
  one_are = more.one_are;
  other_are = more.other_are;
  fine = more.fine;
  numbered = numbered_lower n more.parts more.numbered;
}

-- static tokens before tokens that are alike
behind_static : (n : ℕ) (tokens one other : List MarkupToken) → AreStaticTokens tokens → TokensAlike n one other
    → TokensAlike n (tokens ++ one) (tokens ++ other)
behind_static n tokens one other are more = record {
  parts = shared_parts tokens more.parts;
  one_are = ap (λ l. tokens ++ l) more.one_are ∙ parts-one tokens more.parts;
  other_are = ap (λ l. tokens ++ l) more.other_are ∙ parts-other tokens more.parts;
  fine = parts-fine tokens more.parts are more.fine;
  numbered = parts-numbered n tokens more.parts more.numbered;
}

-- no tokens
no_tokens : (n : ℕ) → TokensAlike n [] []
no_tokens n = record { parts = []; one_are = refl; other_are = refl; fine = tt; numbered = tt }

-- ---- a static text

-- what comes behind a static text
abbrev pub BehindText : ℕ → List Piece → List MarkupToken × Option PageReading → List MarkupToken
BehindText n l read = read.0 ++ elim read.1 [
  | None ↦ []
  | Some now ↦ elim (text_end now.state) [ Ok state ↦ tokens_from n now l | Err code ↦ [] ]
]

-- a static text before pieces that are alike
static_alike : (n : ℕ) (s : State) (k : Known) (x y text : List ℕ) (l m : List Piece) → Good s k x y
    → ((u : State) (now : Known) (x' y' : List ℕ) → Good u now x' y' → is_decided u.reference ≡ true
    → after_piece s (Static text) ≡ Ok u → TokensAlike n (tokens_from n (reading u now x') l)
    (tokens_from n (reading u now y') m))
    → TokensAlike n (BehindText n l (read_all None (reading s k x) text))
    (BehindText n m (read_all None (reading s k y) text))
static_alike n s k x y text l m good more =
    elim (text_read text s k x y good) [
      | Stops tokens are one other ↦
          rw (one, other) (behind_static n tokens [] [] are (no_tokens n))
      | Goes tokens are u now x' y' one other fine after ↦
          rw (one, other) (elim (cases_Bool (is_decided u.reference)) [
            | inl decided ↦
                let ends : text_end u ≡ Ok u = rw decided refl in
                let piece : after_piece s (Static text) ≡ Ok u = ap (and_then text_end) after ∙ ends in
                rw ends (behind_static n tokens (tokens_from n (reading u now x') l)
                (tokens_from n (reading u now y') m) are (more u now x' y' fine decided piece))
            | inr undecided ↦
                let ends : text_end u ≡ Err code.Ampersand = rw undecided refl in
                rw ends (behind_static n tokens [] [] are (no_tokens n))
          ])
    ]

-- ---- a value

-- what comes behind a value
abbrev pub BehindValue : ℕ → State → List Piece → List MarkupToken × Option PageReading → List MarkupToken
BehindValue n s l read = read.0 ++ elim read.1 [
  | None ↦ []
  | Some now ↦ labelled_characters (Some n) (pending_text now.reference)
      ++ tokens_from (suc n) (record now { state = marked s now.state; reference = None }) l
]

-- what is known behind a value in data
abbrev pub behind_span : ℕ → Known
behind_span n = record { name = []; attribute = []; dir = None; reference = None; opening = Some n }

-- a value in data gives its span's tokens
pub span_behind : (n : ℕ) (k : Known) (x : List ℕ) (l : List Piece) (out : List ℕ) (w : IsWrapped out)
    → k.reference ≡ None
    → BehindValue n (at_row row.Data) l (read_all (Some n) (reading (at_row row.Data) k x) out)
    ≡ span_tokens n (estimated_direction w.text w.context) (map unescaped (cleaned_text w.text))
    (tokens_from (suc n) (reading (at_row row.Data) (behind_span n) []) l)
span_behind n k x l out w none =
    ap (λ (o : List ℕ). BehindValue n (at_row row.Data) l (read_all (Some n) (reading (at_row row.Data) k x) o)) w.is
    ∙ ap (λ (p : Option (List ℕ)). BehindValue n (at_row row.Data) l (read_all (Some n)
    (record { state = at_row row.Data; tag = tag_of k x; reference = p; opening = k.opening })
    (wrapped_text w.text w.context))) none
    ∙ ap (BehindValue n (at_row row.Data) l) (reads_wrapped n (tag_of k x) k.opening w.text w.context)
    ∙ ap (λ t. Rattle.bidi_order.specs.MarkupTokens.MarkupToken.StartTag (codes "span")
    (Some (Rattle.bidi_text.specs.Wrap.direction_word (estimated_direction w.text w.context))) (Some n) ∷ t)
    (append_assoc (labelled_characters (Some n) (map unescaped (cleaned_text w.text)))
    (Rattle.bidi_order.specs.MarkupTokens.MarkupToken.EndTag (codes "span") ∷ [])
    (tokens_from (suc n) (reading (at_row row.Data) (behind_span n) []) l))

-- what two pages know behind a value in text
span_alike : (n : ℕ) (out other : List ℕ) (l m : List Piece) (k : Known) (x y : List ℕ) → IsWrapped out
    → IsWrapped other → k.reference ≡ None
    → TokensAlike (suc n) (tokens_from (suc n) (reading (at_row row.Data) (behind_span n) []) l)
    (tokens_from (suc n) (reading (at_row row.Data) (behind_span n) []) m)
    → TokensAlike n (BehindValue n (at_row row.Data) l (read_all (Some n) (reading (at_row row.Data) k x) out))
    (BehindValue n (at_row row.Data) m (read_all (Some n) (reading (at_row row.Data) k y) other))
span_alike n out other l m k x y w v none more = record {
  parts = ValueSpans n (estimated_direction w.text w.context) (estimated_direction v.text v.context)
      (map unescaped (cleaned_text w.text)) (map unescaped (cleaned_text v.text)) ∷ more.parts;
  one_are = span_behind n k x l out w none
      ∙ ap (span_tokens n (estimated_direction w.text w.context) (map unescaped (cleaned_text w.text))) more.one_are;
  other_are = span_behind n k y m other v none
      ∙ ap (span_tokens n (estimated_direction v.text v.context) (map unescaped (cleaned_text v.text))) more.other_are;
  fine = (cleaned-in_line w.text, cleaned-in_line v.text, more.fine);
  numbered = (le_refl n, more.numbered);
}

-- a value that gives no token
quiet_behind : (n : ℕ) (s now : State) (k : Known) (x : List ℕ) (l : List Piece) (out : List ℕ) (x' : List ℕ)
    → read_all (Some n) (reading s k x) out ≡ ([], Some (reading now k x')) → k.reference ≡ None
    → marked s now ≡ after_value s
    → BehindValue n s l (read_all (Some n) (reading s k x) out) ≡ tokens_from (suc n) (reading (after_value s) k x') l
quiet_behind n s now k x l out x' reads none leads =
    ap (BehindValue n s l) reads
    ∙ ap (λ (p : Option (List ℕ)). labelled_characters (Some n) (pending_text p)
    ++ tokens_from (suc n)
    (record { state = marked s now; tag = tag_of k x'; reference = None; opening = k.opening }) l) none
    ∙ ap (λ (p : Option (List ℕ)). tokens_from (suc n)
    (record { state = marked s now; tag = tag_of k x'; reference = p; opening = k.opening }) l) (sym none)
    ∙ ap (λ (u : State). tokens_from (suc n) (reading u k x') l) leads

-- a value in quotes
quoted_alike : (n : ℕ) (how : TagKind) (name : List ℕ) (q : Quote) (v : AttributeValue) (r : Reference) (k : Known)
    (x y out other : List ℕ) (l m : List Piece)
    → let s : State = pending (row.InTag (tag.Named how name) (tag_row.Quoted q v)) r in
    Good s k x y → IsValueAt s out → IsValueAt s other
    → ((x' y' : List ℕ) → Good (after_value s) k x' y'
    → TokensAlike (suc n) (tokens_from (suc n) (reading (after_value s) k x') l)
    (tokens_from (suc n) (reading (after_value s) k y') m))
    → TokensAlike n (BehindValue n s l (read_all (Some n) (reading s k x) out))
    (BehindValue n s m (read_all (Some n) (reading s k y) other))
quoted_alike n how name q v r k x y out other l m good is also more =
    let s : State = pending (row.InTag (tag.Named how name) (tag_row.Quoted q v)) r in
    let one : QuotedRead n how name q r v k x out is.1.0 = quoted_reads n how name q r k out v x is.1.0 is.0.0 is.1.1 in
    let two : QuotedRead n how name q r v k y other also.1.0 =
    quoted_reads n how name q r k other v y also.1.0 also.0.0 also.1.1 in
    let apart : bytes_eq k.attribute (codes "dir") ≡ false = good.at.1 is.0.1 in
    let fine : Good (after_value s) k one.x_after two.x_after = record {
      at = (inr apart, λ printed. apart);
      opened = good.opened;
      pending = good.pending;
      decided = good.decided;
    } in
    rw (
      quiet_behind n s is.1.0 k x l out one.x_after one.reads good.pending is.1.2,
      quiet_behind n s also.1.0 k y m other two.x_after two.reads good.pending also.1.2,
    )
    (lower n _ _ (more one.x_after two.x_after fine))

-- a value in an element
within_after : (e : Element) → (f : Element) × (row_after_value (row.Within e) ≡ row.Within f)
within_after (element.Style state) = (element.Style (css_after_value state), refl)
within_after other = (other, refl)

-- so the two pages go on alike
within_row : (n : ℕ) (e : Element) (r : Reference) (k : Known) (x y out other : List ℕ) (l m : List Piece)
    → let s : State = pending (row.Within e) r in
    Good s k x y → is_decided r ≡ true → IsValueAt s out → IsValueAt s other
    → (Good (after_value s) k x y → TokensAlike (suc n) (tokens_from (suc n) (reading (after_value s) k x) l)
    (tokens_from (suc n) (reading (after_value s) k y) m))
    → TokensAlike n (BehindValue n s l (read_all (Some n) (reading s k x) out))
    (BehindValue n s m (read_all (Some n) (reading s k y) other))
within_row n e r k x y out other l m good decided is also more =
    let s : State = pending (row.Within e) r in
    let one : WithinRead n r e k x out is.1.0 = within_reads n r k x out e is.1.0 is.0 is.1.1 in
    let two : WithinRead n r e k y other also.1.0 = within_reads n r k y other e also.1.0 also.0 also.1.1 in
    let after = within_after e in
    let there : Good (pending (row.Within after.0) r) k x y =
    record { at = tt; opened = good.opened; pending = good.pending; decided = inl decided } in
    let fine : Good (after_value s) k x y =
    subst (λ (now : HtmlRow). Good (pending now r) k x y) (sym after.1) there in
    rw (
      quiet_behind n s is.1.0 k x l out x one.reads good.pending is.1.2,
      quiet_behind n s also.1.0 k y m other y two.reads good.pending also.1.2,
    )
    (lower n _ _ (more fine))

-- any value
abbrev Behind : ℕ → State → List Piece → List Piece → Type 0
Behind n s l m = (k : Known) (x y : List ℕ) → Good (after_value s) k x y
    → TokensAlike (suc n) (tokens_from (suc n) (reading (after_value s) k x) l)
    (tokens_from (suc n) (reading (after_value s) k y) m)

-- a value at any row
value_alike : (n : ℕ) (now : HtmlRow) (r : Reference) (k : Known) (x y out other : List ℕ) (l m : List Piece)
    → Good (pending now r) k x y → is_decided r ≡ true → IsValueAt (pending now r) out → IsValueAt (pending now r) other
    → Behind n (pending now r) l m
    → TokensAlike n (BehindValue n (pending now r) l (read_all (Some n) (reading (pending now r) k x) out))
    (BehindValue n (pending now r) m (read_all (Some n) (reading (pending now r) k y) other))
value_alike n row.Data reference.Decided k x y out other l m good decided is also more =
    span_alike n out other l m k x y is.0 also.0 good.pending
    (more (behind_span n) [] [] (record { at = tt; opened = tt; pending = refl; decided = inl refl }))
value_alike n row.Data (reference.Begun p) k x y out other l m good decided is also more =
    absurd (both_ways false refl decided)
value_alike n row.Data reference.NoName k x y out other l m good decided is also more =
    absurd (both_ways false refl decided)
value_alike n (row.InTag (tag.Named how name) (tag_row.Quoted q v)) r k x y out other l m good decided is also more =
    quoted_alike n how name q v r k x y out other l m good is also (λ x' y' fine. more k x' y' fine)
value_alike n (row.InTag tag.Block inner) r k x y out other l m good decided is also more = absurd good.at
value_alike n (row.Within e) r k x y out other l m good decided is also more =
    within_row n e r k x y out other l m good decided is also (more k x y)
value_alike n (row.InTag (tag.Named how name) tag_row.BeforeName) r k x y out other l m good decided is also more =
    absurd is.0
value_alike n (row.InTag (tag.Named how name) tag_row.AfterPrinted) r k x y out other l m good decided is also more =
    absurd is.0
value_alike n (row.InTag (tag.Named how name) (tag_row.AttributeName a)) r k x y out other l m good decided is also
    more = absurd is.0
value_alike n (row.InTag (tag.Named how name) (tag_row.BeforeValue a)) r k x y out other l m good decided is also more =
    absurd is.0
value_alike n (row.InTag (tag.Named how name) (tag_row.Unquoted v)) r k x y out other l m good decided is also more =
    absurd is.0
value_alike n (row.InTag (tag.Named how name) tag_row.AfterQuoted) r k x y out other l m good decided is also more =
    absurd is.0
value_alike n (row.InTag (tag.Named how name) tag_row.SelfClosing) r k x y out other l m good decided is also more =
    absurd is.0
value_alike n row.TagOpen r k x y out other l m good decided is also more = absurd is.0
value_alike n row.EndTagOpen r k x y out other l m good decided is also more = absurd is.0
value_alike n (row.TagName how name) r k x y out other l m good decided is also more = absurd is.0
value_alike n (row.MarkupDeclaration p) r k x y out other l m good decided is also more = absurd is.0
value_alike n (row.InDeclaration d) r k x y out other l m good decided is also more = absurd is.0
value_alike n (row.BegunEndTag e b) r k x y out other l m good decided is also more = absurd is.0
value_alike n row.Outside r k x y out other l m good decided is also more = absurd is.0
value_alike n row.Plain r k x y out other l m good decided is also more = absurd good.at

-- ---- all pieces

-- two pages from a state on
pub pages_tokens : (n : ℕ) (s : State) (k : Known) (x y : List ℕ) (l m : List Piece) → Good s k x y
    → is_decided s.reference ≡ true → PagesAlike s l m
    → TokensAlike n (tokens_from n (reading s k x) l) (tokens_from n (reading s k y) m)
pages_tokens n s k x y [] [] good decided alike = no_tokens n
pages_tokens n s k x y (Static text ∷ l) (Static other ∷ m) good decided alike =
    subst (λ (t : List ℕ). TokensAlike n (BehindText n l (read_all None (reading s k x) text))
    (BehindText n m (read_all None (reading s k y) t))) alike.0
    (static_alike n s k x y text l m good (λ u now x' y' fine decides piece.
    pages_tokens n u now x' y' l m fine decides (alike.1 u piece)))
pages_tokens n s k x y (Value out ∷ l) (Value other ∷ m) good decided alike =
    value_alike n s.row s.reference k x y out other l m good decided alike.0 alike.1
    (λ k' x' y' fine. pages_tokens (suc n) (after_value s) k' x' y' l m fine decided alike.2)
pages_tokens n s k x y [] (p ∷ m) good decided never = absurd never
pages_tokens n s k x y (Static text ∷ l) [] good decided never = absurd never
pages_tokens n s k x y (Value out ∷ l) [] good decided never = absurd never
pages_tokens n s k x y (Static text ∷ l) (Value other ∷ m) good decided never = absurd never
pages_tokens n s k x y (Value out ∷ l) (Static other ∷ m) good decided never = absurd never
