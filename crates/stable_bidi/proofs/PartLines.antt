-- The lines of two pages whose tokens are the same but for what values hold.
use Rattle.std.proofs.Common.{◌≡◌, ℕ, Bool, true, false, List, [], ◌∷◌, ◌++◌, map, refl, sym, ap, subst, ◌∙◌, codes}
use Rattle.std.proofs.Common.{Option, Some, None, if◌then◌else◌, append_assoc, ◌≤◌, suc, arith}
use Rattle.std.specs.List.{flat_map}
use Rattle.std.specs.Str.{bytes_eq}
use Rattle.soy_base.specs.declared.direction.Dir.{Dir}
use Rattle.soy_base.specs.declared.direction.Dir.TheVariants.{Ltr, Rtl}
use Rattle.bidi_class.specs.Class.{bidi_class}
use Rattle.bidi_text.specs.Clean.{cleaned_text}
use Rattle.bidi_text.specs.Estimate.{is_right_to_left}
use Rattle.bidi_text.specs.Wrap.{direction_word}
use Rattle.soy_base.specs.Among.{is_among}
use Rattle.bidi_order.specs.Elements.{DirAttribute, InnerElement, OpenElement, content_right_to_left, counts}
use Rattle.bidi_order.specs.Elements.{dir_attribute, element_direction, elements_closed, elements_left, has_override}
use Rattle.bidi_order.specs.Elements.{inner_element, is_inline, is_void, left_open, opened_element}
use Rattle.bidi_order.specs.Elements.DirAttribute.{IsLtr, IsRtl, IsAuto}
use Rattle.bidi_order.specs.Lines.{RestOfLines, base_level, before_rest, element_end, element_start, ends_line}
use Rattle.bidi_order.specs.Lines.{line_start, lines_from, lines_of_tokens, next_line, past_tag, text_character}
use Rattle.bidi_order.specs.MarkupTokens.{MarkupToken, labelled_characters}
use Rattle.bidi_order.specs.MarkupTokens.MarkupToken.{Character, StartTag, EndTag}
use Rattle.bidi_order.specs.TwoLines.{Both, HoldsCleaned, one_labelled, other_labelled}
use Rattle.bidi_order.specs.TwoLines.Both.{Values}
use Rattle.bidi_order.specs.WithinLimit.{LabelledCharacter, is_value_initiator, value_character, value_characters}
use Rattle.stable_bidi.specs.BothLines.{BothLine, BothNumbered, HoldCleaned, LinesAlike, LinesNumbered, one_of}
use Rattle.stable_bidi.specs.BothLines.{other_of}
use Rattle.stable_bidi.specs.TokenParts.{AreFine, AreNumbered, TokenPart, in_line, one_tokens, other_tokens}
use Rattle.stable_bidi.specs.TokenParts.{span_tokens}
use Rattle.stable_bidi.specs.WorkedPages.{span_initiator}
use Rattle.stable_bidi.specs.TokenParts.TokenPart.{SharedToken, ValueSpans}
use Rattle.stable_bidi.proofs.StaticCharacters.{AreLeft, AreStatic, AreStaticElements, shared, shared-held}
use Rattle.stable_bidi.proofs.StaticCharacters.{numbered-lower, shared-ascends, shared-one, shared-other}
use Rattle.stable_bidi.proofs.StaticCharacters.{static_closed, static_element_start, static_ends, static_left}
use Rattle.stable_bidi.proofs.StaticCharacters.{static_line_start}

-- ---- a direction that goes by the content goes by shared tokens alone

-- the characters of a value don't count
content_skips : (outer : List (List ℕ)) (inner : List InnerElement) (k : ℕ) (text : List ℕ)
    (rest : List MarkupToken) → content_right_to_left outer inner (labelled_characters (Some k) text ++ rest)
    ≡ content_right_to_left outer inner rest
content_skips outer inner k [] rest = refl
content_skips outer inner k (c ∷ text) rest = content_skips outer inner k text rest

-- nor does its span
pub content_span : (outer : List (List ℕ)) (inner : List InnerElement) (k : ℕ) (d : Dir) (text : List ℕ)
    (rest : List MarkupToken) → content_right_to_left outer inner (span_tokens k d text rest)
    ≡ content_right_to_left outer inner rest
content_span outer inner k d text rest =
    content_skips outer (inner_element (codes "span") (Some (direction_word d)) ∷ inner) k text
    (EndTag (codes "span") ∷ rest)

-- so both pages give a content one direction
content_alike : (outer : List (List ℕ)) (inner : List InnerElement) (parts : List TokenPart)
    → content_right_to_left outer inner (one_tokens parts) ≡ content_right_to_left outer inner (other_tokens parts)
content_alike outer inner [] = refl
content_alike outer inner (SharedToken (Character c label) ∷ parts) =
    ap (λ (x : Bool). if counts inner c label then is_right_to_left (bidi_class c) else x)
    (content_alike outer inner parts)
content_alike outer inner (SharedToken (StartTag name dir label) ∷ parts) =
    content_alike outer (if is_void name then inner else inner_element name dir ∷ inner) parts
content_alike outer inner (SharedToken (EndTag name) ∷ parts) =
    elim (left_open (λ (e : InnerElement). e.name) name inner) as (λ o.
    elim o [
      | Some left ↦ content_right_to_left outer left (one_tokens parts)
      | None ↦ if is_among outer name then false else content_right_to_left outer inner (one_tokens parts)
    ] ≡ elim o [
      | Some left ↦ content_right_to_left outer left (other_tokens parts)
      | None ↦ if is_among outer name then false else content_right_to_left outer inner (other_tokens parts)
    ]) [
      | Some left ↦ content_alike outer left parts
      | None ↦ ap (λ (x : Bool). if is_among outer name then false else x) (content_alike outer inner parts)
    ]
content_alike outer inner (ValueSpans k d e v w ∷ parts) =
    content_span outer inner k d v (one_tokens parts) ∙ content_alike outer inner parts
    ∙ sym (content_span outer inner k e w (other_tokens parts))

-- an element one direction
direction_alike : (outer : List (List ℕ)) (name : List ℕ) (dir : Option DirAttribute) (parts : List TokenPart)
    → element_direction outer name dir (one_tokens parts) ≡ element_direction outer name dir (other_tokens parts)
direction_alike outer name (Some IsLtr) parts = refl
direction_alike outer name (Some IsRtl) parts = refl
direction_alike outer name (Some IsAuto) parts = ap Some (content_alike (name ∷ outer) [] parts)
direction_alike outer name None parts =
    ap (λ (x : Bool). if bytes_eq name (codes "bdi") then Some x else None) (content_alike (name ∷ outer) [] parts)

-- and a start tag one element
opened_alike : (open_ones : List OpenElement) (name : List ℕ) (dir : Option (List ℕ)) (label : Option ℕ)
    (parts : List TokenPart) → opened_element open_ones name dir label (one_tokens parts)
    ≡ opened_element open_ones name dir label (other_tokens parts)
opened_alike open_ones name dir label parts =
    ap (λ (x : Option Bool). record {
      name = name;
      direction = x;
      overrides = has_override name (dir_attribute dir);
      label = label;
    })
    (direction_alike (map (λ (e : OpenElement). e.name) open_ones) name (dir_attribute dir) parts)

-- ---- rests of lines

-- the rest of a line of two pages, with values from a number on, and the lines after it, as one list
pub record RestsAlike (n : ℕ) (one other : RestOfLines) : Type 0 where
  pub parts : List Both
  pub lines : List BothLine
  pub one_are : one ≡ (one_labelled parts, map one_of lines)
  pub other_are : other ≡ (other_labelled parts, map other_of lines)
  pub held : HoldsCleaned parts
  pub ascends : BothNumbered n parts
  pub cleaned : HoldCleaned lines
  pub numbered : LinesNumbered lines

-- static characters before the rest of a line
before_alike : (n : ℕ) (ms : List LabelledCharacter) (a b : RestOfLines) → AreStatic ms → RestsAlike n a b
    → RestsAlike n (before_rest ms a) (before_rest ms b)
before_alike n ms a b are more = record {
  parts = shared ms ++ more.parts;
  lines = more.lines;
  one_are = ap (before_rest ms) more.one_are
      ∙ ap (λ (l : List LabelledCharacter). (l, map one_of more.lines)) (shared-one ms more.parts are);
  other_are = ap (before_rest ms) more.other_are
      ∙ ap (λ (l : List LabelledCharacter). (l, map other_of more.lines)) (shared-other ms more.parts are);
  held = shared-held ms more.parts more.held;
  ascends = shared-ascends n ms more.parts more.ascends;
  cleaned = more.cleaned;
  numbered = more.numbered;
}

-- the end of a line, and the next one
next_alike : (n context : ℕ) (open_ones : List OpenElement) (a b : RestOfLines) → AreStaticElements open_ones
    → RestsAlike n a b → RestsAlike n (next_line context open_ones a) (next_line context open_ones b)
next_alike n context open_ones a b are more =
    let begun : AreStatic (line_start open_ones) = static_line_start open_ones are in
    record {
      parts = [];
      lines = record { base = base_level context open_ones; parts = shared (line_start open_ones) ++ more.parts }
          ∷ more.lines;
      one_are = ap (next_line context open_ones) more.one_are
          ∙ ap (λ (l : List LabelledCharacter). (
            [],
            record { base = base_level context open_ones; characters = l }
                ∷ map one_of more.lines,
          )) (shared-one (line_start open_ones) more.parts begun);
      other_are = ap (next_line context open_ones) more.other_are
          ∙ ap (λ (l : List LabelledCharacter). (
            [],
            record { base = base_level context open_ones; characters = l }
                ∷ map other_of more.lines,
          )) (shared-other (line_start open_ones) more.parts begun);
      held = tt;
      ascends = tt;
      cleaned = (shared-held (line_start open_ones) more.parts more.held, more.cleaned);
      numbered = (
        numbered-lower 0 n (shared (line_start open_ones) ++ more.parts) (omega arith)
            (shared-ascends n (line_start open_ones) more.parts more.ascends),
        more.numbered,
      );
    }

-- a choice that both pages make
alike_if : (n : ℕ) (b : Bool) (one two other both : RestOfLines) → RestsAlike n one other → RestsAlike n two both
    → RestsAlike n (if b then one else two) (if b then other else both)
alike_if n true one two other both first second = first
alike_if n false one two other both first second = second

-- past a tag, which may end the line
past_alike : (n context : ℕ) (name : List ℕ) (open_ones : List OpenElement) (a b : RestOfLines)
    → AreStaticElements open_ones → RestsAlike n a b
    → RestsAlike n (past_tag context name open_ones a) (past_tag context name open_ones b)
past_alike n context name open_ones a b are more =
    alike_if n (is_inline name) a (next_line context open_ones a) b (next_line context open_ones b) more
    (next_alike n context open_ones a b are more)

-- ---- a start tag

-- what a start tag of this element gives before the rest
abbrev started : ℕ → List OpenElement → List ℕ → List MarkupToken → OpenElement → RestOfLines
started context open_ones name rest e =
    let now = if is_void name then open_ones else e ∷ open_ones in
    before_rest (if is_void name then [] else element_start e) (past_tag context name now (lines_from context now rest))

-- the elements that are open behind a static start tag are static
static_now : (b : Bool) (e : OpenElement) (open_ones : List OpenElement) → e.label ≡ None
    → AreStaticElements open_ones → AreStaticElements (if b then open_ones else e ∷ open_ones)
static_now true e open_ones none are = are
static_now false e open_ones none are = (none, are)

-- what stands for it is static
start_static : (b : Bool) (e : OpenElement) → e.label ≡ None → AreStatic (if b then [] else element_start e)
start_static true e none = tt
start_static false e none = static_element_start e none

-- ---- an end tag

-- what an end tag gives, which closes elements or none
abbrev Ended : (n context : ℕ) (name : List ℕ) (open_ones : List OpenElement) (one other : List MarkupToken)
    (o : Option (List OpenElement)) → Type 0
Ended n context name open_ones one other o = RestsAlike n (elim o [
  | None ↦ past_tag context name open_ones (lines_from context open_ones one)
  | Some left ↦ before_rest (flat_map element_end (elements_closed name open_ones))
      (past_tag context name left (lines_from context left one))
]) (elim o [
  | None ↦ past_tag context name open_ones (lines_from context open_ones other)
  | Some left ↦ before_rest (flat_map element_end (elements_closed name open_ones))
      (past_tag context name left (lines_from context left other))
])

-- an end tag
ended : (n context : ℕ) (name : List ℕ) (open_ones : List OpenElement) (one other : List MarkupToken)
    → AreStaticElements open_ones
    → ((left : List OpenElement) → AreStaticElements left → RestsAlike n (lines_from context left one)
    (lines_from context left other))
    → (o : Option (List OpenElement)) → AreLeft o → Ended n context name open_ones one other o
ended n context name open_ones one other are more None left_are =
    past_alike n context name open_ones (lines_from context open_ones one) (lines_from context open_ones other) are
    (more open_ones are)
ended n context name open_ones one other are more (Some left) left_are =
    before_alike n (flat_map element_end (elements_closed name open_ones))
    (past_tag context name left (lines_from context left one))
    (past_tag context name left (lines_from context left other))
    (static_ends (elements_closed name open_ones) (static_closed name open_ones are))
    (past_alike n context name left (lines_from context left one) (lines_from context left other) left_are
    (more left left_are))

-- ---- a value

-- a span begins with LRI or RLI
pub span_initiates : (d : Dir) → is_value_initiator (span_initiator d) ≡ true
span_initiates Ltr = refl
span_initiates Rtl = refl

-- the characters of a value in a line
characters_lines : (context : ℕ) (open_ones : List OpenElement) (k : ℕ) (text : List ℕ) (rest : List MarkupToken)
    → lines_from context open_ones (labelled_characters (Some k) text ++ rest)
    ≡ before_rest (map (value_character k) (in_line text)) (lines_from context open_ones rest)
characters_lines context open_ones k [] rest = refl
characters_lines context open_ones k (c ∷ text) rest =
    ap (before_rest (text_character c (Some k) ∷ [])) (characters_lines context open_ones k text rest)

-- what stands before the rest of a line, in three parts
three_parts : (m : LabelledCharacter) (ms : List LabelledCharacter) (n : LabelledCharacter) (r : RestOfLines)
    → before_rest (m ∷ []) (before_rest ms (before_rest (n ∷ []) r)) ≡ before_rest (m ∷ (ms ++ n ∷ [])) r
three_parts m ms n r = ap (λ (l : List LabelledCharacter). (m ∷ l, r.1)) (sym (append_assoc ms (n ∷ []) r.0))

-- the element of a value's span
abbrev span_element : ℕ → Bool → OpenElement
span_element k right_to_left =
    record { name = codes "span"; direction = Some right_to_left; overrides = false; label = Some k }

-- a value's span in a line
pub span_lines : (context : ℕ) (open_ones : List OpenElement) (k : ℕ) (d : Dir) (text : List ℕ)
    (rest : List MarkupToken) → lines_from context open_ones (span_tokens k d text rest)
    ≡ before_rest (value_characters k (span_initiator d) (in_line text)) (lines_from context open_ones rest)
span_lines context open_ones k Ltr text rest =
    ap (before_rest (element_start (span_element k false)))
    (characters_lines context (span_element k false ∷ open_ones) k text (EndTag (codes "span") ∷ rest))
    ∙ three_parts _ (map (value_character k) (in_line text)) (value_character k 0x2069)
    (lines_from context open_ones rest)
span_lines context open_ones k Rtl text rest =
    ap (before_rest (element_start (span_element k true)))
    (characters_lines context (span_element k true ∷ open_ones) k text (EndTag (codes "span") ∷ rest))
    ∙ three_parts _ (map (value_character k) (in_line text)) (value_character k 0x2069)
    (lines_from context open_ones rest)

-- a value in both pages before rests that are alike
value_alike : (n k : ℕ) (d e : Dir) (v w : List ℕ) (a b : RestOfLines) → cleaned_text (in_line v) ≡ in_line v
    → cleaned_text (in_line w) ≡ in_line w → n ≤ k → RestsAlike (suc k) a b
    → RestsAlike n (before_rest (value_characters k (span_initiator d) (in_line v)) a)
    (before_rest (value_characters k (span_initiator e) (in_line w)) b)
value_alike n k d e v w a b clean also low more = record {
  parts = Values k (span_initiator d) (span_initiator e) (in_line v) (in_line w) ∷ more.parts;
  lines = more.lines;
  one_are = ap (before_rest (value_characters k (span_initiator d) (in_line v))) more.one_are;
  other_are = ap (before_rest (value_characters k (span_initiator e) (in_line w))) more.other_are;
  held = ((span_initiates d, span_initiates e, clean, also), more.held);
  ascends = (low, more.ascends);
  cleaned = more.cleaned;
  numbered = more.numbered;
}

-- ---- all parts

-- a static character stands in its line as one
static_text : (c : ℕ) (label : Option ℕ) → label ≡ None → AreStatic (text_character c label ∷ [])
static_text c label none = (ap (text_character c) none, tt)

-- from any open elements of static text on
pub parts_rests : (n context : ℕ) (open_ones : List OpenElement) (parts : List TokenPart) → AreFine parts
    → AreNumbered n parts → AreStaticElements open_ones
    → RestsAlike n (lines_from context open_ones (one_tokens parts)) (lines_from context open_ones (other_tokens parts))
parts_rests n context open_ones [] fine numbers are = record {
  parts = [];
  lines = [];
  one_are = refl;
  other_are = refl;
  held = tt;
  ascends = tt;
  cleaned = tt;
  numbered = tt;
}
parts_rests n context open_ones (SharedToken (Character c label) ∷ parts) fine numbers are =
    let one = lines_from context open_ones (one_tokens parts) in
    let other = lines_from context open_ones (other_tokens parts) in
    let more : RestsAlike n one other = parts_rests n context open_ones parts fine.1 numbers are in
    alike_if n (ends_line c label) (next_line context open_ones one) (before_rest (text_character c label ∷ []) one)
    (next_line context open_ones other) (before_rest (text_character c label ∷ []) other)
    (next_alike n context open_ones one other are more)
    (before_alike n (text_character c label ∷ []) one other (static_text c label fine.0) more)
parts_rests n context open_ones (SharedToken (StartTag name dir label) ∷ parts) fine numbers are =
    let e = opened_element open_ones name dir label (one_tokens parts) in
    let now : List OpenElement = if is_void name then open_ones else e ∷ open_ones in
    let now_are : AreStaticElements now = static_now (is_void name) e open_ones fine.0 are in
    subst (λ (x : OpenElement). RestsAlike n (started context open_ones name (one_tokens parts) e)
    (started context open_ones name (other_tokens parts) x)) (opened_alike open_ones name dir label parts)
    (before_alike n (if is_void name then [] else element_start e)
    (past_tag context name now (lines_from context now (one_tokens parts)))
    (past_tag context name now (lines_from context now (other_tokens parts)))
    (start_static (is_void name) e fine.0)
    (past_alike n context name now (lines_from context now (one_tokens parts))
    (lines_from context now (other_tokens parts)) now_are (parts_rests n context now parts fine.1 numbers now_are)))
parts_rests n context open_ones (SharedToken (EndTag name) ∷ parts) fine numbers are =
    ended n context name open_ones (one_tokens parts) (other_tokens parts) are
    (λ left left_are. parts_rests n context left parts fine.1 numbers left_are) (elements_left name open_ones)
    (static_left name open_ones are)
parts_rests n context open_ones (ValueSpans k d e v w ∷ parts) fine numbers are =
    let one = lines_from context open_ones (one_tokens parts) in
    let other = lines_from context open_ones (other_tokens parts) in
    subst (λ (r : RestOfLines). RestsAlike n r (lines_from context open_ones (span_tokens k e w (other_tokens parts))))
    (sym (span_lines context open_ones k d v (one_tokens parts)))
    (subst (λ (r : RestOfLines). RestsAlike n (before_rest (value_characters k (span_initiator d) (in_line v)) one) r)
    (sym (span_lines context open_ones k e w (other_tokens parts)))
    (value_alike n k d e v w one other fine.0 fine.1 numbers.0
    (parts_rests (suc k) context open_ones parts fine.2 numbers.1 are)))

-- the lines of tokens
pub parts_lines : (context : ℕ) (parts : List TokenPart) → AreFine parts → AreNumbered 0 parts
    → LinesAlike (lines_of_tokens context (one_tokens parts)) (lines_of_tokens context (other_tokens parts))
parts_lines context parts fine numbers =
    let rest : RestsAlike 0 (lines_from context [] (one_tokens parts)) (lines_from context [] (other_tokens parts)) =
    parts_rests 0 context [] parts fine numbers tt in
    record {
      lines = record { base = context; parts = rest.parts } ∷ rest.lines;
      one_are = ap (λ (r : RestOfLines). record { base = context; characters = r.0 } ∷ r.1) rest.one_are;
      other_are = ap (λ (r : RestOfLines). record { base = context; characters = r.0 } ∷ r.1) rest.other_are;
      cleaned = (rest.held, rest.cleaned);
      numbered = (rest.ascends, rest.numbered);
    }
