-- The levels around a value of a line within the limit.
use Rattle.std.proofs.Common.{◌≡◌, ℕ, ◌+◌, true, ◌==◌, ◌||◌, not, List, [], ◌∷◌, ◌++◌, map, take, drop, length, refl}
use Rattle.std.proofs.Common.{sym, ap, subst, ◌∙◌, inl, inr, append_assoc, arith}
use Rattle.std.proofs.lemmas.Bool.{and_parts, or_cases, eqb-true}
use Rattle.std.proofs.lemmas.List.{map-append, take-append-drop, length-map}
use Rattle.bidi_class.specs.Class.{bidi_class}
use Rattle.bidi_class.specs.Pairs.{is_initiator, is_closing}
use Rattle.bidi_text.specs.Clean.{cleaned_text}
use Rattle.bidi_order.specs.DirectionalStatus.{DirectionalStatus, initial_status, status_after, is_within_depth}
use Rattle.bidi_order.specs.Explicit.{act_of_character, status_before}
use Rattle.bidi_order.specs.Sequences.{levels_before_reset}
use Rattle.bidi_order.specs.WithinLimit.{LabelledCharacter, line_characters, value_character, value_characters}
use Rattle.bidi_order.specs.WithinLimit.{value_initiator, is_value_initiator, is_within_from, is_within_limit, without}
use Rattle.bidi_order.proofs.CleanedMatched.{Matched-cleaned}
use Rattle.bidi_order.proofs.RestoredStatus.{Matched}
use Rattle.bidi_order.proofs.RestoredStatus.Matched.{matched_end}
use Rattle.bidi_order.proofs.DeletedContent.{around_values}

-- the limit at a value's initiator
pub within_from-at : (s : DirectionalStatus) (prefix : List LabelledCharacter) (m : LabelledCharacter)
    (rest : List LabelledCharacter) → m.begins_value ≡ true → is_within_from s (prefix ++ m ∷ rest) ≡ true
    → is_within_depth (status_before s (line_characters prefix) (line_characters (m ∷ rest))) ≡ true
within_from-at s [] m rest b h =
    let now = and_parts (not m.begins_value || is_within_depth s)
    (is_within_from (status_after (act_of_character m.character (line_characters rest)) s) rest) h in
    sym (ap (λ b. not b || is_within_depth s) b) ∙ now.0
within_from-at s (n ∷ prefix) m rest b h =
    let split : line_characters (prefix ++ m ∷ rest) ≡ line_characters prefix ++ line_characters (m ∷ rest) =
    map-append (λ (m : LabelledCharacter). m.character) prefix (m ∷ rest) in
    let now = and_parts (not n.begins_value || is_within_depth s)
    (is_within_from (status_after (act_of_character n.character (line_characters (prefix ++ m ∷ rest))) s)
    (prefix ++ m ∷ rest)) h in
    subst (λ cs. is_within_depth (status_before (status_after (act_of_character n.character cs) s)
    (line_characters prefix) (line_characters (m ∷ rest))) ≡ true) split
    (within_from-at (status_after (act_of_character n.character (line_characters (prefix ++ m ∷ rest))) s) prefix m
    rest b now.1)

-- the characters of a line around a value
pub line_characters-value : (k i : ℕ) (v : List ℕ) (prefix back : List LabelledCharacter)
    → line_characters (prefix ++ (value_characters k i v ++ back)) ≡ line_characters prefix ++ i
    ∷ (v ++ 0x2069 ∷ line_characters back)
line_characters-value k i v prefix back =
    map-append (λ (m : LabelledCharacter). m.character) prefix (value_characters k i v ++ back)
    ∙ ap (λ l. line_characters prefix ++ i ∷ l)
    (ap (map (λ (m : LabelledCharacter). m.character))
    (append_assoc (map (value_character k) v) (value_character k 0x2069 ∷ []) back)
    ∙ inside v)
  where
    inside : (v : List ℕ) → line_characters (map (value_character k) v ++ value_character k 0x2069 ∷ back)
        ≡ v ++ 0x2069 ∷ line_characters back
    inside [] = refl
    inside (c ∷ v) = ap (λ l. c ∷ l) (inside v)

-- the controls that stand for a value's tags
pub initiator-starts : (i : ℕ) → is_value_initiator i ≡ true → is_initiator i ≡ true
unfolding bidi_class
initiator-starts i h =
    elim (or_cases (i == 0x2066) (i == 0x2067) h) [
      | inl lri ↦ let e : 0x2066 ≡ i = sym (eqb-true i 0x2066 lri) in subst (λ i. is_initiator i ≡ true) e refl
      | inr rli ↦ let e : 0x2067 ≡ i = sym (eqb-true i 0x2067 rli) in subst (λ i. is_initiator i ≡ true) e refl
    ]

pub closing-pdi : is_closing 0x2069 ≡ true
unfolding bidi_class
closing-pdi = refl

-- what a value holds, and which way it runs, changes no level around it
pub around_cleaned : (base k i j : ℕ) (v w : List ℕ) (prefix back : List LabelledCharacter)
    → is_value_initiator i ≡ true → is_value_initiator j ≡ true → Matched 0 v → Matched 0 w
    → is_within_limit base (prefix ++ (value_characters k i v ++ back)) ≡ true
    → without (length prefix + 1) (length v)
    (levels_before_reset base (line_characters (prefix ++ (value_characters k i v ++ back))))
    ≡ without (length prefix + 1) (length w)
    (levels_before_reset base (line_characters (prefix ++ (value_characters k j w ++ back))))
unfolding is_within_limit
around_cleaned base k i j v w prefix back si sj mv mw limit =
    let at_i : line_characters (prefix ++ (value_characters k i v ++ back)) ≡ line_characters prefix ++ i
    ∷ (v ++ 0x2069 ∷ line_characters back) = line_characters-value k i v prefix back in
    let at_j : line_characters (prefix ++ (value_characters k j w ++ back)) ≡ line_characters prefix ++ j
    ∷ (w ++ 0x2069 ∷ line_characters back) = line_characters-value k j w prefix back in
    let room : is_within_depth
    (status_before (initial_status base) (line_characters prefix) (i ∷ (v ++ 0x2069 ∷ line_characters back)))
    ≡ true =
    subst (λ l. is_within_depth (status_before (initial_status base) (line_characters prefix) l) ≡ true)
    (line_characters-value k i v [] back)
    (within_from-at (initial_status base) prefix (value_initiator k i)
    (map (value_character k) v ++ value_character k 0x2069 ∷ [] ++ back) refl limit) in
    let n : length prefix ≡ length (line_characters prefix) =
    sym (length-map prefix (λ (m : LabelledCharacter). m.character)) in
    let same : without (length (line_characters prefix) + 1) (length v)
    (levels_before_reset base (line_characters prefix ++ i ∷ (v ++ 0x2069 ∷ line_characters back)))
    ≡ without (length (line_characters prefix) + 1) (length w)
    (levels_before_reset base (line_characters prefix ++ j ∷ (w ++ 0x2069 ∷ line_characters back))) =
    around_values base (line_characters prefix) i j 0x2069 v w (line_characters back) (initiator-starts i si)
    (initiator-starts j sj) closing-pdi mv mw room in
    ap (λ cs. without (length prefix + 1) (length v) (levels_before_reset base cs)) at_i
    ∙ ap (λ f. without (f + 1) (length v)
    (levels_before_reset base (line_characters prefix ++ i ∷ (v ++ 0x2069 ∷ line_characters back)))) n
    ∙ same
    ∙ ap (λ f. without (f + 1) (length w)
    (levels_before_reset base (line_characters prefix ++ j ∷ (w ++ 0x2069 ∷ line_characters back)))) (sym n)
    ∙ ap (λ cs. without (length prefix + 1) (length w) (levels_before_reset base cs)) (sym at_j)

-- nothing is left out
without-none : {X : Type 0} (n : ℕ) (xs : List X) → without n 0 xs ≡ xs
without-none n xs = let same : n + 0 ≡ n = omega arith in ap (λ m. take n xs ++ drop m xs) same ∙ take-append-drop n xs

pub deleted : (base k i : ℕ) (text : List ℕ) (prefix back : List LabelledCharacter) → is_value_initiator i ≡ true
    → is_within_limit base (prefix ++ (value_characters k i (cleaned_text text) ++ back)) ≡ true
    → without (length prefix + 1) (length (cleaned_text text))
    (levels_before_reset base (line_characters (prefix ++ (value_characters k i (cleaned_text text) ++ back))))
    ≡ levels_before_reset base (line_characters (prefix ++ (value_characters k i [] ++ back)))
deleted base k i text prefix back si limit =
    around_cleaned base k i i (cleaned_text text) [] prefix back si si (Matched-cleaned text) matched_end limit
    ∙ without-none (length prefix + 1) _

pub turned : (base k i j : ℕ) (prefix back : List LabelledCharacter) → is_value_initiator i ≡ true
    → is_value_initiator j ≡ true → is_within_limit base (prefix ++ (value_characters k i [] ++ back)) ≡ true
    → levels_before_reset base (line_characters (prefix ++ (value_characters k i [] ++ back))) ≡ levels_before_reset
    base (line_characters (prefix ++ (value_characters k j [] ++ back)))
turned base k i j prefix back si sj limit =
    sym (without-none (length prefix + 1) _) ∙ around_cleaned base k i j [] [] prefix back si sj matched_end
    matched_end limit ∙ without-none (length prefix + 1) _
