-- Two characters of two lines that are the same, as bidi_order compares them: with what stands before, between and
-- after them in both lines.
use Rattle.std.proofs.Common.{◌≡◌, ◌⊎◌, ℕ, ◌+◌, ◌<◌, Bool, true, not, inl, inr, List, [], ◌∷◌, ◌++◌, map, length}
use Rattle.std.proofs.Common.{length-append, refl, sym, ap, subst, ◌∙◌, Option, Some, None, arith}
use Rattle.std.proofs.lemmas.Bool.{and_from}
use Rattle.bidi_class.specs.Class.{bidi_class}
use Rattle.bidi_order.specs.Levels.{line_levels}
use Rattle.bidi_order.specs.TwoLines.{Both, Chosen, ComparedLines, HoldsCleaned, are_surrounding, chosen_part}
use Rattle.bidi_order.specs.TwoLines.{is_surrounding, one_after, one_before, one_character, one_first, one_labelled}
use Rattle.bidi_order.specs.TwoLines.{one_line, one_second, other_after, other_before, other_character, other_first}
use Rattle.bidi_order.specs.TwoLines.{other_labelled, other_line, other_second, whole_line}
use Rattle.bidi_order.specs.TwoLines.Both.{Shared, Values}
use Rattle.bidi_order.specs.TwoLines.Chosen.{Outside, Inside}
use Rattle.bidi_order.specs.VisualOrder.{is_left_of}
use Rattle.bidi_order.specs.WithinLimit.{LabelledCharacter, is_within_limit, line_characters, value_character}
use Rattle.bidi_order.proofs.SameLine.{compared_order, compared_order_back, other-contrary}
use Rattle.stable_bidi.specs.BothLines.{BothLine, BothNumbered, one_of, other_of}
use Rattle.stable_bidi.specs.SameVisualOrder.{AreCompared, stands_left, static_text}
use Rattle.stable_bidi.proofs.ChosenCharacters.{ChosenAt, choice, chosen_label}
use Rattle.stable_bidi.proofs.SameCharacters.{same_head, same_tail}

-- ---- the characters of a line

-- the characters of a content and its PDI
content_characters : (k : ℕ) (v : List ℕ) (rest : List LabelledCharacter)
    → line_characters ((map (value_character k) v ++ value_character k 0x2069 ∷ []) ++ rest)
    ≡ v ++ 0x2069 ∷ line_characters rest
content_characters k [] rest = refl
content_characters k (c ∷ v) rest = ap (λ l. c ∷ l) (content_characters k v rest)

-- of the one line
one_characters : (line : List Both) → line_characters (one_labelled line) ≡ one_line line
one_characters [] = refl
one_characters (Shared c ∷ line) = ap (λ l. c ∷ l) (one_characters line)
one_characters (Values k i j v w ∷ line) =
    ap (λ l. i ∷ l) (content_characters k v (one_labelled line) ∙ ap (λ l. v ++ 0x2069 ∷ l) (one_characters line))

-- of the other
pub other_characters : (line : List Both) → line_characters (other_labelled line) ≡ other_line line
other_characters [] = refl
other_characters (Shared c ∷ line) = ap (λ l. c ∷ l) (other_characters line)
other_characters (Values k i j v w ∷ line) =
    ap (λ l. j ∷ l) (content_characters k w (other_labelled line) ∙ ap (λ l. w ++ 0x2069 ∷ l) (other_characters line))

-- the static ones
content_text : (k : ℕ) (v : List ℕ) (rest : List LabelledCharacter)
    → static_text ((map (value_character k) v ++ value_character k 0x2069 ∷ []) ++ rest) ≡ static_text rest
content_text k [] rest = refl
content_text k (c ∷ v) rest = content_text k v rest

-- they are the same in both lines
pub same_static_text : (line : List Both) → static_text (one_labelled line) ≡ static_text (other_labelled line)
same_static_text [] = refl
same_static_text (Shared c ∷ line) = ap (λ l. c ∷ l) (same_static_text line)
same_static_text (Values k i j v w ∷ line) =
    content_text k v (one_labelled line) ∙ same_static_text line ∙ sym (content_text k w (other_labelled line))

-- ---- two cuts of a line

-- the first cut comes before the second, is the second, or comes after it
data Cuts (p q : List Both) (x y : Both) (s t : List Both) : Type 0 where
  First : (mid : List Both) → q ≡ p ++ x ∷ mid → s ≡ mid ++ y ∷ t → Cuts p q x y s t
  Equal : p ≡ q → x ≡ y → Cuts p q x y s t
  Second : (mid : List Both) → p ≡ q ++ y ∷ mid → Cuts p q x y s t

-- any two cuts
cuts : (p q : List Both) (x y : Both) (s t : List Both) → p ++ x ∷ s ≡ q ++ y ∷ t → Cuts p q x y s t
cuts [] [] x y s t e = Equal refl (same_head x y s t e)
cuts [] (z ∷ q) x y s t e =
    First q (ap (λ w. w ∷ q) (sym (same_head x z s (q ++ y ∷ t) e))) (same_tail x z s (q ++ y ∷ t) e)
cuts (z ∷ p) [] x y s t e = Second p (ap (λ w. w ∷ p) (same_head z y (p ++ x ∷ s) t e))
cuts (z ∷ p) (z' ∷ q) x y s t e =
    let first : z ≡ z' = same_head z z' (p ++ x ∷ s) (q ++ y ∷ t) e in
    elim (cuts p q x y s t (same_tail z z' (p ++ x ∷ s) (q ++ y ∷ t) e)) [
      | First mid q_is s_is ↦ First mid (ap (λ w. w ∷ q) (sym first) ∙ ap (λ l. z ∷ l) q_is) s_is
      | Equal p_is part_is ↦ Equal (ap (λ l. z ∷ l) p_is ∙ ap (λ w. w ∷ q) first) part_is
      | Second mid p_is ↦ Second mid (ap (λ l. z ∷ l) p_is ∙ ap (λ w. w ∷ (q ++ y ∷ mid)) first)
    ]

-- ---- lengths

-- of the one line of two lists
one_more : (p q : List Both) → length (one_line (p ++ q)) ≡ length (one_line p) + length (one_line q)
one_more [] q = omega arith
one_more (Shared c ∷ p) q = omega (arith, one_more p q)
one_more (Values k i j v w ∷ p) q =
    omega (
      arith,
      one_more p q,
      length-append v (0x2069 ∷ one_line (p ++ q)),
      length-append v (0x2069 ∷ one_line p),
    )

-- of the other
other_more : (p q : List Both) → length (other_line (p ++ q)) ≡ length (other_line p) + length (other_line q)
other_more [] q = omega arith
other_more (Shared c ∷ p) q = omega (arith, other_more p q)
other_more (Values k i j v w ∷ p) q =
    omega (
      arith,
      other_more p q,
      length-append w (0x2069 ∷ other_line (p ++ q)),
      length-append w (0x2069 ∷ other_line p),
    )

-- of the one line of a choice and more
one_chosen : (e : Chosen) (rest : List Both) → length (one_line (chosen_part e ∷ rest))
    ≡ length (one_before e) + 1 + length (one_after e) + length (one_line rest)
one_chosen (Outside c) rest = omega arith
one_chosen (Inside k i j begin y end also_begin z also_end) rest =
    omega (
      arith,
      length-append (begin ++ y ∷ end) (0x2069 ∷ one_line rest),
      length-append begin (y ∷ end),
      length-append end (0x2069 ∷ []),
    )

-- of the other
other_chosen : (e : Chosen) (rest : List Both) → length (other_line (chosen_part e ∷ rest))
    ≡ length (other_before e) + 1 + length (other_after e) + length (other_line rest)
other_chosen (Outside c) rest = omega arith
other_chosen (Inside k i j begin y end also_begin z also_end) rest =
    omega (
      arith,
      length-append (also_begin ++ z ∷ also_end) (0x2069 ∷ other_line rest),
      length-append also_begin (z ∷ also_end),
      length-append also_end (0x2069 ∷ []),
    )

-- ---- two choices

-- the number of a part, if it is a value
part_label : Both → Option ℕ
part_label (Shared c) = None
part_label (Values k i j v w) = Some k

-- a choice has the number of its part
label_of_part : (e : Chosen) → chosen_label e ≡ part_label (chosen_part e)
unfolding part_label
label_of_part (Outside c) = refl
label_of_part (Inside k i j begin y end also_begin z also_end) = refl

-- what comes before a static character is nothing of its part
outside_before : (e : Chosen) → chosen_label e ≡ None → one_before e ≡ []
outside_before (Outside c) none = refl
outside_before (Inside k i j begin y end also_begin z also_end) none = let never : ⊥ = cc in absurd never

-- the two as one comparison
record BothChosen (line : List Both) (i j i' j' m n m' n' : ℕ) : Type 0 where
  compared : ComparedLines
  whole : whole_line compared ≡ line
  first_at : one_first compared ≡ i
  second_at : one_second compared ≡ j
  other_first_at : other_first compared ≡ i'
  other_second_at : other_second compared ≡ j'
  first_is : one_character compared.first ≡ m
  second_is : one_character compared.second ≡ n
  other_first_is : other_character compared.first ≡ m'
  other_second_is : other_character compared.second ≡ n'

-- a label is none or a number
labelled_case : (o : Option ℕ) → (o ≡ None) ⊎ ((k : ℕ) × (o ≡ Some k))
labelled_case None = inl refl
labelled_case (Some k) = inr (k, refl)

-- two choices, the first before the second and not of one value, are two characters that are compared
both_chosen : (line : List Both) (b : List LabelledCharacter) (m : LabelledCharacter) (b' : List LabelledCharacter)
    (m' : LabelledCharacter) (d : List LabelledCharacter) (n : LabelledCharacter) (d' : List LabelledCharacter)
    (n' : LabelledCharacter) → ChosenAt line b m b' m' → ChosenAt line d n d' n' → length b < length d
    → ((k : ℕ) → m.label ≡ Some k → n.label ≡ Some k → ⊥)
    → BothChosen line (length b) (length d) (length b') (length d') m.character n.character m'.character n'.character
both_chosen line b m b' m' d n d' n' one two earlier apart =
    elim (cuts one.prefix two.prefix (chosen_part one.chosen) (chosen_part two.chosen) one.suffix two.suffix
    (sym one.is ∙ two.is)) [
      | First mid prefix_is suffix_is ↦ record {
        compared = record {
          prefix = one.prefix;
          first = one.chosen;
          mid = mid;
          second = two.chosen;
          suffix = two.suffix;
        };
        whole = ap (λ l. one.prefix ++ chosen_part one.chosen ∷ l) (sym suffix_is) ∙ sym one.is;
        first_at = sym one.one_at;
        second_at = omega (
          arith,
          one.one_at,
          two.one_at,
          ap (λ l. length (one_line l ++ one_before two.chosen)) prefix_is,
          length-append (one_line (one.prefix ++ chosen_part one.chosen ∷ mid)) (one_before two.chosen),
          one_more one.prefix (chosen_part one.chosen ∷ mid),
          one_chosen one.chosen mid,
          length-append (one_line one.prefix) (one_before one.chosen),
          length-append (one_after one.chosen) (one_line mid ++ one_before two.chosen),
          length-append (one_line mid) (one_before two.chosen),
        );
        other_first_at = sym one.other_at;
        other_second_at = omega (
          arith,
          one.other_at,
          two.other_at,
          ap (λ l. length (other_line l ++ other_before two.chosen)) prefix_is,
          length-append (other_line (one.prefix ++ chosen_part one.chosen ∷ mid)) (other_before two.chosen),
          other_more one.prefix (chosen_part one.chosen ∷ mid),
          other_chosen one.chosen mid,
          length-append (other_line one.prefix) (other_before one.chosen),
          length-append (other_after one.chosen) (other_line mid ++ other_before two.chosen),
          length-append (other_line mid) (other_before two.chosen),
        );
        first_is = sym one.one_is;
        second_is = sym two.one_is;
        other_first_is = sym one.other_is;
        other_second_is = sym two.other_is;
      }
      | Equal prefix_is part_is ↦
          let labels : chosen_label one.chosen ≡ chosen_label two.chosen =
          label_of_part one.chosen ∙ ap part_label part_is ∙ sym (label_of_part two.chosen) in
          elim (labelled_case (chosen_label one.chosen)) [
            | inl none ↦
                let same : length b ≡ length d =
                one.one_at
                ∙ ap (λ l. length (one_line one.prefix ++ l)) (outside_before one.chosen none
                ∙ sym (outside_before two.chosen (sym labels ∙ none)))
                ∙ ap (λ l. length (one_line l ++ one_before two.chosen)) prefix_is ∙ sym two.one_at in
                absurd (omega (arith, same, earlier))
            | inr some ↦ absurd (apart some.0 (one.label_is ∙ some.1) (two.label_is ∙ sym labels ∙ some.1))
          ]
      | Second mid prefix_is ↦
          absurd (omega (
            arith,
            earlier,
            one.one_at,
            two.one_at,
            ap (λ l. length (one_line l ++ one_before one.chosen)) prefix_is,
            length-append (one_line (two.prefix ++ chosen_part two.chosen ∷ mid)) (one_before one.chosen),
            one_more two.prefix (chosen_part two.chosen ∷ mid),
            one_chosen two.chosen mid,
            length-append (one_line two.prefix) (one_before two.chosen),
          ))
    ]

-- ---- two lines

-- an equal character is seen too
surrounding_as : (c d : ℕ) → c ≡ d → is_surrounding (bidi_class d) ≡ true → is_surrounding (bidi_class c) ≡ true
surrounding_as c d is seen = ap (λ x. is_surrounding (bidi_class x)) is ∙ seen

-- order in a line of a base
abbrev left_in : ℕ → List ℕ → ℕ → ℕ → Bool
left_in base line i j = is_left_of (line_levels base line) i j

-- order in equal lines, at equal indexes
left_at : (base : ℕ) (line other : List ℕ) (i j i' j' : ℕ) → line ≡ other → i ≡ i' → j ≡ j'
    → left_in base line i j ≡ left_in base other i' j'
left_at base line other i j i' j' line_is i_is j_is =
    ap (λ l. left_in base l i j) line_is ∙ ap (λ x. left_in base other x j) i_is ∙ ap (left_in base other i') j_is

module _ (l : BothLine) (held : HoldsCleaned l.parts) (numbered : BothNumbered 0 l.parts) where
  -- two characters that are compared, in the parts of the two lines
  comparison : (c : AreCompared (one_of l) (other_of l))
      → BothChosen l.parts (length c.first.before) (length c.second.before) (length c.also_first.before)
      (length c.also_second.before) c.first.character.character c.second.character.character
      c.also_first.character.character c.also_second.character.character
  comparison c =
      both_chosen l.parts c.first.before c.first.character c.also_first.before c.also_first.character c.second.before
      c.second.character c.also_second.before c.also_second.character
      (choice l.parts c.first.before c.first.character c.first.after c.also_first.before c.also_first.character
      c.also_first.after held numbered c.first.is c.also_first.is c.seen.0 c.seen.2 c.same_first)
      (choice l.parts c.second.before c.second.character c.second.after c.also_second.before c.also_second.character
      c.also_second.after held numbered c.second.is c.also_second.is c.seen.1 c.seen.3 c.same_second)
      c.apart.0 (λ k one two. c.apart.1 (k, one, two))

  -- they are seen
  surrounding : (c : AreCompared (one_of l) (other_of l)) → are_surrounding (comparison c).compared ≡ true
  surrounding c =
      let b = comparison c in
      and_from _ _
      (and_from _ _ (surrounding_as (one_character b.compared.first) c.first.character.character b.first_is c.seen.0)
      (surrounding_as (other_character b.compared.first) c.also_first.character.character b.other_first_is c.seen.2))
      (and_from _ _ (surrounding_as (one_character b.compared.second) c.second.character.character b.second_is c.seen.1)
      (surrounding_as (other_character b.compared.second) c.also_second.character.character b.other_second_is c.seen.3))

  -- the one line is that of the comparison
  one_is : (whole : List Both) → whole ≡ l.parts → line_characters (one_labelled l.parts) ≡ one_line whole
  one_is whole is = one_characters l.parts ∙ ap one_line (sym is)

  -- so is the other
  other_is : (whole : List Both) → whole ≡ l.parts → other_line whole ≡ line_characters (other_labelled l.parts)
  other_is whole is = ap other_line is ∙ sym (other_characters l.parts)

  -- where the two lines are within the limit, the two stand in one order
  pub order_alike : is_within_limit l.base (one_labelled l.parts) ≡ true → (c : AreCompared (one_of l) (other_of l))
      → stands_left (one_of l) (length c.first.before) (length c.second.before)
      ≡ stands_left (other_of l) (length c.also_first.before) (length c.also_second.before)
  order_alike within c =
      let b = comparison c in
      let whole = whole_line b.compared in
      left_at l.base (line_characters (one_labelled l.parts)) (one_line whole) (length c.first.before)
      (length c.second.before) (one_first b.compared) (one_second b.compared) (one_is whole b.whole) (sym b.first_at)
      (sym b.second_at)
      ∙ compared_order l.base b.compared (subst HoldsCleaned (sym b.whole) held) (surrounding c)
      (subst (λ (p : List Both). is_within_limit l.base (one_labelled p) ≡ true) (sym b.whole) within)
      ∙ left_at l.base (other_line whole) (line_characters (other_labelled l.parts)) (other_first b.compared)
      (other_second b.compared) (length c.also_first.before) (length c.also_second.before) (other_is whole b.whole)
      b.other_first_at b.other_second_at

  -- and the second and the first do
  pub order_back_alike : is_within_limit l.base (one_labelled l.parts) ≡ true
      → (c : AreCompared (one_of l) (other_of l))
      → stands_left (one_of l) (length c.second.before) (length c.first.before)
      ≡ stands_left (other_of l) (length c.also_second.before) (length c.also_first.before)
  order_back_alike within c =
      let b = comparison c in
      let whole = whole_line b.compared in
      left_at l.base (line_characters (one_labelled l.parts)) (one_line whole) (length c.second.before)
      (length c.first.before) (one_second b.compared) (one_first b.compared) (one_is whole b.whole) (sym b.second_at)
      (sym b.first_at)
      ∙ compared_order_back l.base b.compared (subst HoldsCleaned (sym b.whole) held) (surrounding c)
      (subst (λ (p : List Both). is_within_limit l.base (one_labelled p) ≡ true) (sym b.whole) within)
      ∙ left_at l.base (other_line whole) (line_characters (other_labelled l.parts)) (other_second b.compared)
      (other_first b.compared) (length c.also_second.before) (length c.also_first.before) (other_is whole b.whole)
      b.other_second_at b.other_first_at

  -- one of the two stands left of the other
  pub one_left : (c : AreCompared (one_of l) (other_of l))
      → stands_left (other_of l) (length c.also_second.before) (length c.also_first.before)
      ≡ not (stands_left (other_of l) (length c.also_first.before) (length c.also_second.before))
  one_left c =
      let b = comparison c in
      let whole = whole_line b.compared in
      left_at l.base (line_characters (other_labelled l.parts)) (other_line whole) (length c.also_second.before)
      (length c.also_first.before) (other_second b.compared) (other_first b.compared) (sym (other_is whole b.whole))
      (sym b.other_second_at) (sym b.other_first_at)
      ∙ other-contrary l.base b.compared (surrounding c)
      ∙ ap not (left_at l.base (other_line whole) (line_characters (other_labelled l.parts)) (other_first b.compared)
      (other_second b.compared) (length c.also_first.before) (length c.also_second.before) (other_is whole b.whole)
      b.other_first_at b.other_second_at)
