-- One more token of a page: the texts that it comes to have stay the same.
use Rattle.std.proofs.Common.{◌≡◌, ℕ, Bool, true, false, if◌then◌else◌, List, [], ◌∷◌, ◌++◌}
use Rattle.std.proofs.Common.{map, drop, refl, sym, ap, subst, ◌∙◌, append_assoc, Option}
use Rattle.std.proofs.Common.{Some, None}
use Rattle.std.specs.Prelude.{codes, filter, slice_index_or, MatchOption}
use Rattle.std.specs.Str.{bytes_eq}
use Rattle.std.specs.List.{flat_map}
use Rattle.std.proofs.lemmas.List.{append-nil}
use Rattle.bidi_order.specs.Elements.{DirAttribute, OpenElement, content_right_to_left, dir_attribute}
use Rattle.bidi_order.specs.Elements.{element_direction}
use Rattle.bidi_order.specs.Elements.{elements_closed, elements_left, has_override, is_inline, is_void}
use Rattle.bidi_order.specs.Elements.{left_open, opened_element}
use Rattle.bidi_order.specs.Elements.DirAttribute.{IsLtr, IsRtl, IsAuto}
use Rattle.bidi_order.specs.Lines.{RestOfLines, base_level, before_rest, element_end, element_start, ends_line}
use Rattle.bidi_order.specs.Lines.{line_start, lines_from, next_line, past_tag, text_character}
use Rattle.bidi_order.specs.MarkupTokens.{MarkupToken}
use Rattle.bidi_order.specs.MarkupTokens.MarkupToken.{Character, StartTag, EndTag}
use Rattle.bidi_order.specs.WithinLimit.{LabelledCharacter, line_characters}
use Rattle.bidi_preview.specs.AutoDirections.{auto_directions, goes_by_content}
use Rattle.bidi_preview.specs.OpenedSteps.{Closes}
use Rattle.bidi_preview.specs.PageSteps.{AreKnown, EndsLine, EndsUnless, GoOn, GoesPast, PageSoFar, left_directions}
use Rattle.bidi_preview.specs.PageSteps.{known_element, names_of, page_opened, page_texts, shown_of}
use Rattle.bidi_preview.specs.PageSteps.{taken_direction, with_rest}
use Rattle.bidi_preview.specs.Seen.{is_shown, shown_line, shown_text}

pub line-append : (xs ys : List LabelledCharacter)
    → line_characters (xs ++ ys) ≡ line_characters xs ++ line_characters ys
line-append [] ys = refl
line-append (x ∷ xs) ys = ap (λ (l : List ℕ). x.character ∷ l) (line-append xs ys)

-- characters at the end of the line that has begun
pub characters_added : (p : PageSoFar) (cs : List LabelledCharacter) (now : List ℕ) (rest : RestOfLines)
    → now ≡ p.characters ++ line_characters cs
    → with_rest p (before_rest cs rest) ≡ with_rest (record p { characters = now }) rest
characters_added p cs now rest is =
    let added : p.characters ++ line_characters (cs ++ rest.0) ≡ now ++ line_characters rest.0 =
    ap (λ l. p.characters ++ l) (line-append cs rest.0)
    ∙ sym (append_assoc p.characters (line_characters cs) (line_characters rest.0))
    ∙ ap (λ l. l ++ line_characters rest.0) (sym is) in
    ap (λ l. p.texts ++ filter is_shown (shown_text p.base l ∷ map shown_line rest.1)) added

shown-first : (text : List ℕ) (texts : List (List ℕ))
    → filter is_shown (text ∷ texts) ≡ shown_of text ++ filter is_shown texts
shown-first text texts = go (is_shown text)
  where
    go : (b : Bool) → (if b then text ∷ filter is_shown texts else filter is_shown texts)
        ≡ (if b then text ∷ [] else []) ++ filter is_shown texts
    go true = refl
    go false = refl

-- the line ends, and one begins inside the open elements
pub line_ended : (context : ℕ) (p : PageSoFar) (base : ℕ) (characters : List ℕ) (texts : List (List ℕ))
    (rest : RestOfLines) → texts ≡ p.texts ++ shown_of (shown_text p.base p.characters)
    → base ≡ base_level context p.opened → characters ≡ line_characters (line_start p.opened)
    → with_rest p (next_line context p.opened rest)
    ≡ with_rest (record p { base = base; characters = characters; texts = texts }) rest
line_ended context p base characters texts rest ended based begun =
    let begins : shown_line (record { base = base_level context p.opened; characters = line_start p.opened ++ rest.0 })
    ≡ shown_text base (characters ++ line_characters rest.0) =
    ap (shown_text (base_level context p.opened)) (line-append (line_start p.opened) rest.0)
    ∙ ap (λ l. shown_text (base_level context p.opened) (l ++ line_characters rest.0)) (sym begun)
    ∙ ap (λ b. shown_text b (characters ++ line_characters rest.0)) (sym based) in
    ap (λ l. p.texts ++ filter is_shown (shown_text p.base l
    ∷ (shown_line (record { base = base_level context p.opened; characters = line_start p.opened ++ rest.0 })
    ∷ map shown_line rest.1))) (append-nil p.characters)
    ∙ ap (λ t. p.texts ++ filter is_shown (shown_text p.base p.characters ∷ (t ∷ map shown_line rest.1))) begins
    ∙ ap (λ l. p.texts ++ l) (shown-first (shown_text p.base p.characters)
    (shown_text base (characters ++ line_characters rest.0) ∷ map shown_line rest.1))
    ∙ sym (append_assoc p.texts (shown_of (shown_text p.base p.characters))
    (filter is_shown (shown_text base (characters ++ line_characters rest.0) ∷ map shown_line rest.1)))
    ∙ ap (λ l. l ++ filter is_shown (shown_text base (characters ++ line_characters rest.0) ∷ map shown_line rest.1))
    (sym ended)

-- the last line ends
pub page_ended : (p : PageSoFar) → with_rest p ([], []) ≡ p.texts ++ shown_of (shown_text p.base p.characters)
page_ended p =
    ap (λ l. p.texts ++ filter is_shown (shown_text p.base l ∷ [])) (append-nil p.characters)
    ∙ ap (λ l. p.texts ++ l) (shown-first (shown_text p.base p.characters) []
    ∙ append-nil (shown_of (shown_text p.base p.characters)))

-- ---- a character

pub character_stays : (context : ℕ) (p : PageSoFar) (c : ℕ) (now : List ℕ) → ends_line c None ≡ false
    → now ≡ p.characters ++ line_characters (text_character c None ∷ [])
    → GoOn context p (Character c None ∷ []) (record p { characters = now })
character_stays context p c now stays is rest known = (
  ap (λ b. with_rest p (if b then next_line context p.opened (lines_from context p.opened rest)
      else before_rest (text_character c None ∷ []) (lines_from context p.opened rest))) stays
      ∙ characters_added p (text_character c None ∷ []) now (lines_from context p.opened rest) is,
  known,
)

pub character_ends : (context : ℕ) (p after : PageSoFar) (c : ℕ) → ends_line c None ≡ true
    → EndsLine context p after → GoOn context p (Character c None ∷ []) after
character_ends context p after c ends line rest known = (
  ap (λ b. with_rest p (if b then next_line context p.opened (lines_from context p.opened rest)
      else before_rest (text_character c None ∷ []) (lines_from context p.opened rest))) ends
      ∙ line.2 (lines_from context p.opened rest)
      ∙ ap (λ o. with_rest after (lines_from context o rest)) (sym line.0),
  line.1 ∙ known ∙ ap (λ o. auto_directions (names_of o) rest) (sym line.0),
)

-- ---- a start tag

pub start_void : (context : ℕ) (p : PageSoFar) (name : List ℕ) (value : Option (List ℕ)) → is_void name ≡ true
    → GoesPast context p (StartTag name value None) name p
start_void context p name value void rest known = (
  ap (λ b. with_rest p (before_rest
      (if b then [] else element_start (opened_element p.opened name value None rest))
      (past_tag context name (if b then p.opened else opened_element p.opened name value None rest ∷ p.opened)
      (lines_from context (if b then p.opened else opened_element p.opened name value None rest ∷ p.opened) rest))))
      void,
  known ∙ ap (λ b. (if b then [] else (if goes_by_content name (dir_attribute value)
      then content_right_to_left (name ∷ names_of p.opened) [] rest ∷ [] else []))
      ++ auto_directions (if b then names_of p.opened else name ∷ names_of p.opened) rest) void,
)

element-known : (name : List ℕ) (d : Option DirAttribute) (names : List (List ℕ)) (rest : List MarkupToken)
    (directions later : List Bool)
    → directions ≡ (if goes_by_content name d then content_right_to_left (name ∷ names) [] rest ∷ [] else []) ++ later
    → (taken_direction name d directions ≡ element_direction names name d rest)
    × (left_directions name d directions ≡ later)
element-known name (Some IsLtr) names rest directions later known = (refl, known)
element-known name (Some IsRtl) names rest directions later known = (refl, known)
element-known name (Some IsAuto) names rest directions later known =
    (ap (λ (l : List Bool). Some (slice_index_or l 0 false)) known, ap (drop 1) known)
element-known name None names rest directions later known = go (bytes_eq name (codes "bdi")) known
  where
    go : (b : Bool)
        → directions ≡ (if b then content_right_to_left (name ∷ names) [] rest ∷ [] else []) ++ later
        → ((if b then Some (slice_index_or directions 0 false) else None)
        ≡ (if b then Some (content_right_to_left (name ∷ names) [] rest) else None))
        × ((if b then drop 1 directions else directions) ≡ later)
    go true known = (ap (λ (l : List Bool). Some (slice_index_or l 0 false)) known, ap (drop 1) known)
    go false known = (refl, known)

abbrev directed : List ℕ → Option DirAttribute → Option Bool → OpenElement
directed name d direction =
    record { name = name; direction = direction; overrides = has_override name d; label = None }

pub start_opens : (context : ℕ) (p : PageSoFar) (name : List ℕ) (value : Option (List ℕ))
    → is_void name ≡ false
    → GoesPast context p (StartTag name value None) name (page_opened name (dir_attribute value) p)
start_opens context p name value content rest known =
    let d : Option DirAttribute = dir_attribute value in
    let e : OpenElement = known_element name d p.directions in
    let there : p.directions ≡ (if goes_by_content name d
    then content_right_to_left (name ∷ names_of p.opened) [] rest ∷ [] else [])
    ++ auto_directions (name ∷ names_of p.opened) rest =
    known ∙ ap (λ b. (if b then [] else (if goes_by_content name d
    then content_right_to_left (name ∷ names_of p.opened) [] rest ∷ [] else []))
    ++ auto_directions (if b then names_of p.opened else name ∷ names_of p.opened) rest) content in
    let both : (taken_direction name d p.directions ≡ element_direction (names_of p.opened) name d rest)
    × (left_directions name d p.directions ≡ auto_directions (name ∷ names_of p.opened) rest) =
    element-known name d (names_of p.opened) rest p.directions (auto_directions (name ∷ names_of p.opened) rest)
    there in
    let same : opened_element p.opened name value None rest ≡ e =
    ap (λ (o : Option Bool). directed name d o) (sym both.0) in (
      ap (λ b. with_rest p (before_rest
          (if b then [] else element_start (opened_element p.opened name value None rest))
          (past_tag context name (if b then p.opened else opened_element p.opened name value None rest ∷ p.opened)
          (lines_from context (if b then p.opened else opened_element p.opened name value None rest ∷ p.opened) rest))))
          content
          ∙ ap (λ (x : OpenElement). with_rest p (before_rest (element_start x)
          (past_tag context name (x ∷ p.opened) (lines_from context (x ∷ p.opened) rest)))) same
          ∙ characters_added p (element_start e) (p.characters ++ line_characters (element_start e))
          (past_tag context name (e ∷ p.opened) (lines_from context (e ∷ p.opened) rest)) refl,
      both.1,
    )

-- ---- an end tag

abbrev Alike : Option (List OpenElement) → Option (List (List ℕ)) → Type 0
Alike None None = Unit {0}
Alike None (Some ns) = ⊥
Alike (Some es) None = ⊥
Alike (Some es) (Some ns) = names_of es ≡ ns

left-alike : (name : List ℕ) (es : List OpenElement)
    → Alike (elements_left name es) (left_open (λ (n : List ℕ). n) name (names_of es))
left-alike name [] = tt
left-alike name (e ∷ es) = go (bytes_eq e.name name) (left-alike name es)
  where
    go : (b : Bool) → Alike (elements_left name es) (left_open (λ (n : List ℕ). n) name (names_of es))
        → Alike (if b then Some es else elements_left name es)
        (if b then Some (names_of es) else left_open (λ (n : List ℕ). n) name (names_of es))
    go true later = refl
    go false later = later

names-left : (es : List OpenElement) (o : Option (List OpenElement)) (q : Option (List (List ℕ))) → Alike o q
    → elim q [ None ↦ names_of es | Some left ↦ left ] ≡ names_of (elim o [ None ↦ es | Some left ↦ left ])
names-left es None None alike = refl
names-left es None (Some ns) alike = absurd alike
names-left es (Some ls) None alike = absurd alike
names-left es (Some ls) (Some ns) alike = sym alike

known-left : (p : PageSoFar) (name : List ℕ) (rest : List MarkupToken) → AreKnown p (EndTag name ∷ rest)
    → p.directions ≡ auto_directions (names_of (elim (elements_left name p.opened) [
      | None ↦ p.opened
      | Some left ↦ left
    ])) rest
known-left p name rest known = known
    ∙ ap (λ ns. auto_directions ns rest) (names-left p.opened (elements_left name p.opened)
    (left_open (λ (n : List ℕ). n) name (names_of p.opened)) (left-alike name p.opened))

pub end_none : (context : ℕ) (p : PageSoFar) (name : List ℕ) → elements_left name p.opened ≡ None
    → GoesPast context p (EndTag name) name p
end_none context p name none rest known = (
  ap (λ (o : Option (List OpenElement)). with_rest p (elim o [
    | None ↦ past_tag context name p.opened (lines_from context p.opened rest)
    | Some left ↦ before_rest (flat_map element_end (elements_closed name p.opened))
        (past_tag context name left (lines_from context left rest))
  ])) none,
  known-left p name rest known
      ∙ ap (λ (o : Option (List OpenElement)). auto_directions (names_of (elim o [
        | None ↦ p.opened
        | Some left ↦ left
      ])) rest) none,
)

pub end_closes : (context : ℕ) (p : PageSoFar) (name : List ℕ) (left : List OpenElement) (now : List ℕ)
    → elements_left name p.opened ≡ Some left
    → now ≡ p.characters ++ line_characters (flat_map element_end (elements_closed name p.opened))
    → GoesPast context p (EndTag name) name (record p { opened = left; characters = now })
end_closes context p name left now some is rest known = (
  ap (λ (o : Option (List OpenElement)). with_rest p (elim o [
    | None ↦ past_tag context name p.opened (lines_from context p.opened rest)
    | Some left ↦ before_rest (flat_map element_end (elements_closed name p.opened))
        (past_tag context name left (lines_from context left rest))
  ])) some
      ∙ characters_added p (flat_map element_end (elements_closed name p.opened)) now
      (past_tag context name left (lines_from context left rest)) is,
  known-left p name rest known
      ∙ ap (λ (o : Option (List OpenElement)). auto_directions (names_of (elim o [
        | None ↦ p.opened
        | Some left ↦ left
      ])) rest) some,
)

-- an end tag, by the elements that are left and the line
pub closes_past : (context : ℕ) (p : PageSoFar) (name : List ℕ) (before after : List OpenElement) (now : List ℕ)
    → before ≡ p.opened → Closes name before after p.characters now
    → GoesPast context p (EndTag name) name (record p { opened = after; characters = now })
closes_past context p name before after now all closes = go (elements_left name p.opened) refl
    (subst (λ (es : List OpenElement). Closes name es after p.characters now) all closes)
  where
    go : (o : Option (List OpenElement)) → elements_left name p.opened ≡ o
        → MatchOption o ((after ≡ p.opened) × (now ≡ p.characters))
        (λ left. (after ≡ left)
        × (now ≡ p.characters ++ line_characters (flat_map element_end (elements_closed name p.opened))))
        → GoesPast context p (EndTag name) name (record p { opened = after; characters = now })
    go None none same =
        subst (λ (es : List OpenElement). GoesPast context p (EndTag name) name
        (record p { opened = es; characters = now })) (sym same.0)
        (subst (λ (cs : List ℕ). GoesPast context p (EndTag name) name (record p { characters = cs })) (sym same.1)
        (end_none context p name none))
    go (Some left) some same =
        subst (λ (es : List OpenElement). GoesPast context p (EndTag name) name
        (record p { opened = es; characters = now })) (sym same.0)
        (end_closes context p name left now some same.1)

-- what follows a tag
pub tag_goes_on : (context : ℕ) (p now after : PageSoFar) (token : MarkupToken) (name : List ℕ)
    → GoesPast context p token name now → EndsUnless (is_inline name) context now after
    → GoOn context p (token ∷ []) after
tag_goes_on context p now after token name past ends rest known =
    let steps : (page_texts context p (token ∷ rest)
    ≡ with_rest now (past_tag context name now.opened (lines_from context now.opened rest)))
    × AreKnown now rest = past rest known in
    go (is_inline name) ends steps
  where
    go : (inline : Bool) → EndsUnless inline context now after
        → (page_texts context p (token ∷ rest)
        ≡ with_rest now (if inline then lines_from context now.opened rest
        else next_line context now.opened (lines_from context now.opened rest)))
        × AreKnown now rest
        → (page_texts context p (token ∷ rest) ≡ page_texts context after rest) × AreKnown after rest
    go true same steps =
        subst (λ q. (page_texts context p (token ∷ rest) ≡ page_texts context q rest) × AreKnown q rest) same steps
    go false line steps = (
      steps.0 ∙ line.2 (lines_from context now.opened rest)
          ∙ ap (λ o. with_rest after (lines_from context o rest)) (sym line.0),
      line.1 ∙ steps.1 ∙ ap (λ o. auto_directions (names_of o) rest) (sym line.0),
    )

-- one token after others
pub go_on_more : (context : ℕ) (p now after : PageSoFar) (token : MarkupToken) (tokens : List MarkupToken)
    → GoOn context p (token ∷ []) now → GoOn context now tokens after → GoOn context p (token ∷ tokens) after
go_on_more context p now after token tokens first later rest known =
    let one : (page_texts context p (token ∷ (tokens ++ rest)) ≡ page_texts context now (tokens ++ rest))
    × AreKnown now (tokens ++ rest) = first (tokens ++ rest) known in
    let all : (page_texts context now (tokens ++ rest) ≡ page_texts context after rest) × AreKnown after rest =
    later rest one.1 in
    (one.0 ∙ all.0, all.1)

-- ---- a whole page

-- what is known after some tokens, where the page gives these texts
abbrev pub ReadSoFar : ℕ → List (List ℕ) → PageSoFar → List MarkupToken → Type 0
ReadSoFar context texts p rest = (page_texts context p rest ≡ texts) × AreKnown p rest

pub lines_more : (context : ℕ) (texts : List (List ℕ)) (before after : PageSoFar) (tokens rest all : List MarkupToken)
    → all ≡ tokens ++ rest → GoOn context before tokens after → ReadSoFar context texts before all
    → ReadSoFar context texts after rest
lines_more context texts before after tokens rest all is goes so_far =
    let there : ReadSoFar context texts before (tokens ++ rest) = subst (ReadSoFar context texts before) is so_far in
    let steps : (page_texts context before (tokens ++ rest) ≡ page_texts context after rest) × AreKnown after rest =
    goes rest there.1 in
    (sym steps.0 ∙ there.0, steps.1)
