-- What is known of the open elements where one is opened or closed, and what an end tag closes.
use Rattle.std.proofs.Common.{◌≡◌, ℕ, ◌-◌, Bool, true, false, if◌then◌else◌, List, [], ◌∷◌, ◌++◌, length}
use Rattle.std.proofs.Common.{refl, sym, ap, subst, ◌∙◌, reverse, take, append_assoc, arith, Option, Some, None}
use Rattle.std.proofs.Common.{Global, Vec}
use Rattle.std.specs.Prelude.{MatchOption}
use Rattle.std.specs.Str.{bytes_eq}
use Rattle.std.specs.List.{flat_map}
use Rattle.std.proofs.lemmas.List.{append-nil, length-append, reverse-append}
use Rattle.soy_base.specs.Stacks.{top_of}
use Rattle.bidi_order.specs.Elements.{OpenElement, elements_closed, elements_left}
use Rattle.bidi_order.specs.Lines.{base_level, block_direction, element_end, element_start, line_start, side_level}
use Rattle.bidi_order.specs.WithinLimit.{LabelledCharacter, line_characters}
use Rattle.bidi_preview.specs.NameCounts.{HasCounts, count_in}
use Rattle.bidi_preview.specs.OpenedSteps.{Closes, StandsAround, block_sides, side_before, sides_after}
use Rattle.bidi_preview.specs.PageSteps.{names_of}
use Rattle.bidi_preview.specs.declared.opened.Around.{Around}
use Rattle.bidi_preview.proofs.CountedNames.{not_found, uncounted}
use Rattle.bidi_preview.proofs.PageLines.{line-append}

front-taken : (xs ys : List ℕ) → take (length xs) (xs ++ ys) ≡ xs
front-taken [] ys = refl
front-taken (x ∷ xs) ys = ap (λ l. x ∷ l) (front-taken xs ys)

-- a line without its last characters
pub start_taken : (line before end now same : List ℕ) (all more count : ℕ) → same ≡ line → all ≡ length same
    → more ≡ length end → count ≡ all - more → now ≡ take count line → line ≡ before ++ end → now ≡ before
start_taken line before end now same all more count whole all_is more_is count_is taken is =
    let long : count ≡ length before =
    omega (arith, ap length whole, all_is, more_is, count_is, ap length is, length-append before end) in
    taken ∙ ap (λ n. take n line) long ∙ ap (take (length before)) is ∙ front-taken before end

-- the base by the directions of the blocks
base_by_sides : (context : ℕ) (es : List OpenElement)
    → base_level context es ≡ elim (top_of (block_sides es)) [ None ↦ context | Some side ↦ side_level side ]
base_by_sides context [] = refl
base_by_sides context (e ∷ es) = go (block_direction e) (base_by_sides context es)
  where
    go : (o : Option Bool)
        → base_level context es ≡ elim (top_of (block_sides es)) [ None ↦ context | Some side ↦ side_level side ]
        → ◌≡◌ {A = ℕ} (elim o [ None ↦ base_level context es | Some side ↦ side_level side ])
        (elim (top_of (side_before o (block_sides es))) [ None ↦ context | Some side ↦ side_level side ])
    go None later = later
    go (Some side) later = refl

pub base_outside : (context : ℕ) (es : List OpenElement) (around : Around) → StandsAround es around
    → None ≡ top_of around.sides → context ≡ base_level context es
base_outside context es around stands none = sym (base_by_sides context es
    ∙ ap (λ (o : Option Bool). elim o [ None ↦ context | Some side ↦ side_level side ])
    (ap top_of (sym stands.sides) ∙ sym none))

base_inside : (context : ℕ) (es : List OpenElement) (around : Around) (side : Bool) → StandsAround es around
    → Some side ≡ top_of around.sides → side_level side ≡ base_level context es
base_inside context es around side stands some = sym (base_by_sides context es
    ∙ ap (λ (o : Option Bool). elim o [ None ↦ context | Some s ↦ side_level s ])
    (ap top_of (sym stands.sides) ∙ sym some))

pub base_right : (context : ℕ) (es : List OpenElement) (around : Around) → StandsAround es around
    → Some true ≡ top_of around.sides → 1 ≡ base_level context es
base_right context es around stands some = base_inside context es around true stands some

pub base_left : (context : ℕ) (es : List OpenElement) (around : Around) → StandsAround es around
    → Some false ≡ top_of around.sides → 0 ≡ base_level context es
base_left context es around stands some = base_inside context es around false stands some

starts-append : (xs ys : List OpenElement)
    → flat_map element_start (xs ++ ys) ≡ flat_map element_start xs ++ flat_map element_start ys
starts-append [] ys = refl
starts-append (x ∷ xs) ys = ap (λ l. element_start x ++ l) (starts-append xs ys)
    ∙ sym (append_assoc (element_start x) (flat_map element_start xs) (flat_map element_start ys))

-- what a line begins with, inside one more element
pub start_more : (e : OpenElement) (es : List OpenElement)
    → line_characters (line_start (e ∷ es)) ≡ line_characters (line_start es) ++ line_characters (element_start e)
start_more e es = ap (λ l. line_characters (flat_map element_start l)) (reverse-append (e ∷ []) es)
    ∙ ap line_characters (starts-append (reverse es) (e ∷ []))
    ∙ ap (λ l. line_characters (line_start es ++ l)) (append-nil (element_start e))
    ∙ line-append (line_start es) (element_start e)

pub around_opened : (es : List OpenElement) (e : OpenElement) (name : List ℕ) (old new : Around) → name ≡ e.name
    → new.start.items ≡ old.start.items ++ line_characters (element_start e)
    → new.sides ≡ side_before (block_direction e) old.sides
    → ((names : List (List ℕ)) → HasCounts old.names.counts names → HasCounts new.names.counts (name ∷ names))
    → StandsAround es old → StandsAround (e ∷ es) new
around_opened es e name old new named starts sides counts around = record {
  start = starts ∙ ap (λ l. l ++ line_characters (element_start e)) around.start ∙ sym (start_more e es);
  sides = sides ∙ ap (side_before (block_direction e)) around.sides;
  names =
      subst (λ n. HasCounts new.names.counts (n ∷ names_of es)) named (counts (names_of es) around.names);
}

side_taken : (o : Option Bool) (sides : List Bool) → sides_after o (side_before o sides) ≡ sides
side_taken None sides = refl
side_taken (Some side) sides = refl

pub around_closed : (es : List OpenElement) (e : OpenElement) (name : List ℕ) (old new : Around) → name ≡ e.name
    → ((before : List ℕ) → old.start.items ≡ before ++ line_characters (element_start e) → new.start.items ≡ before)
    → new.sides ≡ sides_after (block_direction e) old.sides
    → ((names : List (List ℕ)) → HasCounts old.names.counts (name ∷ names) → HasCounts new.names.counts names)
    → StandsAround (e ∷ es) old → StandsAround es new
around_closed es e name old new named starts sides counts around = record {
  start = starts (line_characters (line_start es)) (around.start ∙ start_more e es);
  sides = sides ∙ ap (sides_after (block_direction e)) around.sides ∙ side_taken (block_direction e) (block_sides es);
  names =
      counts (names_of es)
      (subst (λ n. HasCounts old.names.counts (n ∷ names_of es)) (sym named) around.names);
}

pub stands_none : (es : List OpenElement) (around : Around) → es ≡ [] → StandsAround [] around → StandsAround es around
stands_none es around none stands = subst (λ os. StandsAround os around) (sym none) stands

pub stands_more : (es now : List OpenElement) (e : OpenElement) (old new : Around) → now ≡ e ∷ es
    → ((os : List OpenElement) → StandsAround os old → StandsAround (e ∷ os) new) → StandsAround es old
    → StandsAround now new
stands_more es now e old new more opens stands = subst (λ os. StandsAround os new) (sym more) (opens es stands)

pub stands_less : (all es : List OpenElement) (e : OpenElement) (old new : Around) → all ≡ e ∷ es
    → ((os : List OpenElement) → StandsAround (e ∷ os) old → StandsAround os new) → StandsAround all old
    → StandsAround es new
stands_less all es e old new more closes stands = closes es (subst (λ os. StandsAround os old) more stands)

-- ---- what an end tag closes

abbrev pub ends_of : List ℕ → List OpenElement → List ℕ
ends_of name es = line_characters (flat_map element_end (elements_closed name es))

-- an end tag goes on past an innermost element of another name
pub left_goes_on : (name : List ℕ) (first all es : List OpenElement) (e : OpenElement) (same : Bool) → all ≡ e ∷ es
    → same ≡ bytes_eq e.name name → same ≡ false → elements_left name all ≡ elements_left name first
    → elements_left name es ≡ elements_left name first
left_goes_on name first all es e same more is other left =
    sym (ap (elements_left name) more ∙ ap (λ b. if b then Some es else elements_left name es) (sym is ∙ other)) ∙ left

pub line_goes_on : (name : List ℕ) (all es : List OpenElement) (e : OpenElement) (same : Bool)
    (line now whole : List ℕ) → all ≡ e ∷ es → same ≡ bytes_eq e.name name → same ≡ false
    → now ≡ line ++ line_characters (element_end e) → line ++ ends_of name all ≡ whole
    → now ++ ends_of name es ≡ whole
line_goes_on name all es e same line now whole more is other added so_far =
    ap (λ l. l ++ ends_of name es) added
    ∙ append_assoc line (line_characters (element_end e)) (ends_of name es)
    ∙ ap (λ l. line ++ l) (sym (line-append (element_end e) (flat_map element_end (elements_closed name es))))
    ∙ ap (λ b. line ++ line_characters (flat_map element_end (if b then e ∷ [] else e ∷ elements_closed name es)))
    (sym (sym is ∙ other))
    ∙ ap (λ os. line ++ ends_of name os) (sym more) ∙ so_far

closes_some : (name : List ℕ) (before after : List OpenElement) (line now : List ℕ)
    → elements_left name before ≡ Some after → now ≡ line ++ ends_of name before
    → Closes name before after line now
closes_some name before after line now some is = go (elements_left name before) some
  where
    go : (o : Option (List OpenElement)) → o ≡ Some after → MatchOption o
        ((after ≡ before) × (now ≡ line)) (λ left. (after ≡ left) × (now ≡ line ++ ends_of name before))
    go None some = absurd (cc)
    go (Some left) some = (cc, is)

-- and closes it where it has the name
pub closes_last : (name : List ℕ) (first all es : List OpenElement) (e : OpenElement) (same : Bool)
    (begun line now : List ℕ) → all ≡ e ∷ es → same ≡ bytes_eq e.name name → same ≡ true
    → elements_left name all ≡ elements_left name first → now ≡ line ++ line_characters (element_end e)
    → line ++ ends_of name all ≡ begun ++ ends_of name first → Closes name first es begun now
closes_last name first all es e same begun line now more is last left added so_far =
    closes_some name first es begun now
    (sym left ∙ ap (elements_left name) more
    ∙ ap (λ b. if b then Some es else elements_left name es) (sym is ∙ last))
    (added ∙ ap (λ l. line ++ line_characters l) (sym (append-nil (element_end e)))
    ∙ ap (λ b. line ++ line_characters (flat_map element_end (if b then e ∷ [] else e ∷ elements_closed name es)))
    (sym (sym is ∙ last))
    ∙ ap (λ os. line ++ ends_of name os) (sym more) ∙ so_far)

closes_none : (name : List ℕ) (es : List OpenElement) (line : List ℕ) → elements_left name es ≡ None
    → Closes name es es line line
closes_none name es line none = go (elements_left name es) none
  where
    go : (o : Option (List OpenElement)) → o ≡ None → MatchOption o
        ((es ≡ es) × (line ≡ line)) (λ left. (es ≡ left) × (line ≡ line ++ ends_of name es))
    go None none = (refl, refl)
    go (Some left) none = absurd (cc)

-- a name that is open nowhere closes nothing
pub closes_nothing : (name : Vec ℕ Global) (es : List OpenElement) (around : Around) (count : ℕ) (line : List ℕ)
    → StandsAround es around → count ≡ count_in around.names.counts name → count ≡ 0
    → Closes name.items es es line line
closes_nothing name es around count line stands is none = closes_none name.items es line
    (uncounted (λ (e : OpenElement). e.name) name.items es (sym (stands.names name) ∙ sym is ∙ none))

-- and any other is found before no element is left
pub closes_one : (name : Vec ℕ Global) (first all after : List OpenElement) (around : Around) (count : ℕ)
    (line now : List ℕ) → StandsAround first around → count ≡ count_in around.names.counts name → (count ≡ 0 → ⊥)
    → all ≡ [] → elements_left name.items all ≡ elements_left name.items first
    → Closes name.items first after line now
closes_one name first all after around count line now stands is some none left =
    absurd (some (is ∙ stands.names name ∙ not_found (λ (e : OpenElement). e.name) name.items first
    (sym left ∙ ap (elements_left name.items) none)))
