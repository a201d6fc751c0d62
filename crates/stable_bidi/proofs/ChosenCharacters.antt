-- Characters that are the same in two lines, as a choice of a character in both.
use Rattle.std.proofs.Common.{◌≡◌, ◌⊎◌, ℕ, suc, ◌+◌, ◌≤◌, true, inl, inr, List, [], ◌∷◌, ◌++◌, map, length}
use Rattle.std.proofs.Common.{length-append, refl, sym, ap, subst, ◌∙◌, Option, Some, None, arith}
use Rattle.std.proofs.lemmas.List.{map-append}
use Rattle.bidi_class.specs.Class.{bidi_class}
use Rattle.bidi_order.specs.TwoLines.{Both, Chosen, HoldsCleaned, chosen_part, is_surrounding, one_before}
use Rattle.bidi_order.specs.TwoLines.{one_character, one_labelled, one_line, other_before, other_character}
use Rattle.bidi_order.specs.TwoLines.{other_labelled, other_line}
use Rattle.bidi_order.specs.TwoLines.Both.{Shared, Values}
use Rattle.bidi_order.specs.TwoLines.Chosen.{Outside, Inside}
use Rattle.bidi_order.specs.WithinLimit.{LabelledCharacter, static_character, value_character, value_characters}
use Rattle.bidi_order.specs.WithinLimit.{value_initiator}
use Rattle.stable_bidi.specs.BothLines.{BothNumbered}
use Rattle.stable_bidi.specs.SameVisualOrder.{static_count}
use Rattle.stable_bidi.proofs.SameCharacters.{Located, locate, same_head, same_tail}
use Rattle.stable_bidi.proofs.SameCharacters.Located.{InShared, InValue}

-- ---- the two lines turned round

-- a part with its contents and initiators the other way round
abbrev pub swapped_part : Both → Both
swapped_part (Shared c) = Shared c
swapped_part (Values k i j v w) = Values k j i w v

-- so for all parts
abbrev pub swapped : List Both → List Both
swapped line = map swapped_part line

-- twice is once back
swapped_back : (line : List Both) → swapped (swapped line) ≡ line
swapped_back [] = refl
swapped_back (Shared c ∷ line) = ap (λ l. Shared c ∷ l) (swapped_back line)
swapped_back (Values k i j v w ∷ line) = ap (λ l. Values k i j v w ∷ l) (swapped_back line)

-- its one line is the other line
pub swapped_labelled : (line : List Both) → one_labelled (swapped line) ≡ other_labelled line
swapped_labelled [] = refl
swapped_labelled (Shared c ∷ line) = ap (λ l. static_character c ∷ l) (swapped_labelled line)
swapped_labelled (Values k i j v w ∷ line) = ap (λ l. value_characters k j w ++ l) (swapped_labelled line)

-- it holds cleaned texts too
pub swapped_held : (line : List Both) → HoldsCleaned line → HoldsCleaned (swapped line)
swapped_held [] held = tt
swapped_held (Shared c ∷ line) held = swapped_held line held
swapped_held (Values k i j v w ∷ line) held = ((held.0.1, held.0.0, held.0.3, held.0.2), swapped_held line held.1)

-- where a character of the other line stands in the parts
data OtherLocated (line : List Both) (before : List LabelledCharacter) (m : LabelledCharacter) : Type 0 where
  OtherShared : (prefix : List Both) (c : ℕ) (suffix : List Both) → line ≡ prefix ++ Shared c ∷ suffix
      → before ≡ other_labelled prefix → m ≡ static_character c → OtherLocated line before m
  OtherValue : (prefix : List Both) (k i j : ℕ) (v begin : List ℕ) (z : ℕ) (end : List ℕ) (suffix : List Both)
      → line ≡ prefix ++ Values k i j v (begin ++ z ∷ end) ∷ suffix
      → before ≡ other_labelled prefix ++ value_initiator k j ∷ map (value_character k) begin
      → m ≡ value_character k z → OtherLocated line before m

-- where a part of the line turned round stands in the line
unswapped : (line prefix suffix : List Both) (part : Both) → swapped line ≡ prefix ++ part ∷ suffix
    → line ≡ swapped prefix ++ swapped_part part ∷ swapped suffix
unswapped line prefix suffix part e =
    sym (swapped_back line) ∙ ap swapped e ∙ map-append swapped_part prefix (part ∷ suffix)

-- what comes before it in the line turned round is what comes before it in the other line
unswapped_before : (prefix : List Both) → one_labelled prefix ≡ other_labelled (swapped prefix)
unswapped_before prefix = ap one_labelled (sym (swapped_back prefix)) ∙ swapped_labelled (swapped prefix)

-- a character of the other line that is seen is static, or in the content of a value
other_locate : (line : List Both) (before : List LabelledCharacter) (m : LabelledCharacter)
    (after : List LabelledCharacter) → other_labelled line ≡ before ++ m ∷ after → HoldsCleaned line
    → is_surrounding (bidi_class m.character) ≡ true → OtherLocated line before m
other_locate line before m after e held seen =
    elim (locate (swapped line) before m after (swapped_labelled line ∙ e) (swapped_held line held) seen) [
      | InShared prefix c suffix line_is before_is m_is ↦
          OtherShared (swapped prefix) c (swapped suffix) (unswapped line prefix suffix (Shared c) line_is)
          (before_is ∙ unswapped_before prefix) m_is
      | InValue prefix k i j begin y end w suffix line_is before_is m_is ↦
          OtherValue (swapped prefix) k j i w begin y end (swapped suffix)
          (unswapped line prefix suffix (Values k i j (begin ++ y ∷ end) w) line_is)
          (before_is ∙ ap (λ l. l ++ value_initiator k i ∷ map (value_character k) begin) (unswapped_before prefix))
          m_is
    ]

-- ---- one part of a line in two ways

-- how many parts are static characters
abbrev shared_count : List Both → ℕ
shared_count [] = 0
shared_count (Shared c ∷ line) = suc (shared_count line)
shared_count (Values k i j v w ∷ line) = shared_count line

-- the content of a value has no static character
static_content : (k : ℕ) (v : List ℕ) (rest : List LabelledCharacter)
    → static_count ((map (value_character k) v ++ value_character k 0x2069 ∷ []) ++ rest) ≡ static_count rest
static_content k [] rest = refl
static_content k (c ∷ v) rest = static_content k v rest

-- the one line has as many static characters as there are shared parts
one_count : (line : List Both) → static_count (one_labelled line) ≡ shared_count line
one_count [] = refl
one_count (Shared c ∷ line) = ap suc (one_count line)
one_count (Values k i j v w ∷ line) = static_content k v (one_labelled line) ∙ one_count line

-- so has the other line
other_count : (line : List Both) → static_count (other_labelled line) ≡ shared_count line
other_count [] = refl
other_count (Shared c ∷ line) = ap suc (other_count line)
other_count (Values k i j v w ∷ line) = static_content k w (other_labelled line) ∙ other_count line

-- two cuts of one list are one cut
record SameSplit (p q : List Both) (x y : Both) (s t : List Both) : Type 0 where
  prefix_is : p ≡ q
  part_is : x ≡ y
  suffix_is : s ≡ t

-- behind one more part
split_behind : (z z' : Both) (p q : List Both) (x y : Both) (s t : List Both) → z ≡ z' → SameSplit p q x y s t
    → SameSplit (z ∷ p) (z' ∷ q) x y s t
split_behind z z' p q x y s t first same = record {
  prefix_is = ap (λ l. z ∷ l) same.prefix_is ∙ ap (λ w. w ∷ q) first;
  part_is = same.part_is;
  suffix_is = same.suffix_is;
}

-- before a shared part, and at the list's beginning, stand different numbers of shared parts
none_more : (part : Both) (c : ℕ) (line : List Both) → part ≡ Shared c → 0 ≡ shared_count (part ∷ line) → ⊥
none_more part c line is none =
    let counted : 0 ≡ suc (shared_count line) = subst (λ p. 0 ≡ shared_count (p ∷ line)) is none in
    absurd (omega (arith, counted))

-- behind equal parts the counts of the rests are equal
counts_rest : (z z' : Both) (p q : List Both) → z ≡ z' → shared_count (z ∷ p) ≡ shared_count (z' ∷ q)
    → shared_count p ≡ shared_count q
counts_rest (Shared c) z' p q same counts =
    let counted : suc (shared_count p) ≡ suc (shared_count q) =
    counts ∙ ap (λ w. shared_count (w ∷ q)) (sym same) in
    omega (arith, counted)
counts_rest (Values k i j v w) z' p q same counts = counts ∙ ap (λ u. shared_count (u ∷ q)) (sym same)

-- two cuts at shared parts with as many shared parts before them are one cut
same_shared : (p q : List Both) (c d : ℕ) (s t : List Both) → p ++ Shared c ∷ s ≡ q ++ Shared d ∷ t
    → shared_count p ≡ shared_count q → SameSplit p q (Shared c) (Shared d) s t
same_shared [] [] c d s t e counts = record {
  prefix_is = refl;
  part_is = same_head (Shared c) (Shared d) s t e;
  suffix_is = same_tail (Shared c) (Shared d) s t e;
}
same_shared [] (z ∷ q) c d s t e counts =
    absurd (none_more z c q (sym (same_head (Shared c) z s (q ++ Shared d ∷ t) e)) counts)
same_shared (z ∷ p) [] c d s t e counts =
    absurd (none_more z d p (same_head z (Shared d) (p ++ Shared c ∷ s) t e) (sym counts))
same_shared (z ∷ p) (z' ∷ q) c d s t e counts =
    let first : z ≡ z' = same_head z z' (p ++ Shared c ∷ s) (q ++ Shared d ∷ t) e in
    split_behind z z' p q (Shared c) (Shared d) s t first
    (same_shared p q c d s t (same_tail z z' (p ++ Shared c ∷ s) (q ++ Shared d ∷ t) e)
    (counts_rest z z' p q first counts))

-- the numbers of a line ascend, so a number stands once
low_number : (n : ℕ) (p : List Both) (k i j : ℕ) (v w : List ℕ) (s : List Both)
    → BothNumbered n (p ++ Values k i j v w ∷ s) → n ≤ k
low_number n [] k i j v w s are = are.0
low_number n (Shared c ∷ p) k i j v w s are = low_number n p k i j v w s are
low_number n (Values l a b x y ∷ p) k i j v w s are =
    omega (arith, are.0, low_number (suc l) p k i j v w s are.1)

-- behind a part the numbers ascend from some number on
rest_numbered : (n : ℕ) (z : Both) (line : List Both) → BothNumbered n (z ∷ line) → (m : ℕ) × BothNumbered m line
rest_numbered n (Shared c) line are = (n, are)
rest_numbered n (Values k i j v w) line are = (suc k, are.1)

-- two cuts at the value of one number are one cut
same_value : (n : ℕ) (p q : List Both) (k i j : ℕ) (v w : List ℕ) (i' j' : ℕ) (v' w' : List ℕ) (s t : List Both)
    → p ++ Values k i j v w ∷ s ≡ q ++ Values k i' j' v' w' ∷ t → BothNumbered n (p ++ Values k i j v w ∷ s)
    → SameSplit p q (Values k i j v w) (Values k i' j' v' w') s t
same_value n [] [] k i j v w i' j' v' w' s t e are = record {
  prefix_is = refl;
  part_is = same_head (Values k i j v w) (Values k i' j' v' w') s t e;
  suffix_is = same_tail (Values k i j v w) (Values k i' j' v' w') s t e;
}
same_value n [] (z ∷ q) k i j v w i' j' v' w' s t e are =
    let rest : s ≡ q ++ Values k i' j' v' w' ∷ t = same_tail (Values k i j v w) z s (q ++ Values k i' j' v' w' ∷ t) e in
    let low : suc k ≤ k = low_number (suc k) q k i' j' v' w' t (subst (BothNumbered (suc k)) rest are.1) in
    absurd (omega (arith, low))
same_value n (z ∷ p) [] k i j v w i' j' v' w' s t e are =
    let first : z ≡ Values k i' j' v' w' = same_head z (Values k i' j' v' w') (p ++ Values k i j v w ∷ s) t e in
    let numbered : BothNumbered n (Values k i' j' v' w' ∷ (p ++ Values k i j v w ∷ s)) =
    subst (λ u. BothNumbered n (u ∷ (p ++ Values k i j v w ∷ s))) first are in
    let low : suc k ≤ k = low_number (suc k) p k i j v w s numbered.1 in
    absurd (omega (arith, low))
same_value n (z ∷ p) (z' ∷ q) k i j v w i' j' v' w' s t e are =
    let rest = rest_numbered n z (p ++ Values k i j v w ∷ s) are in
    split_behind z z' p q (Values k i j v w) (Values k i' j' v' w') s t
    (same_head z z' (p ++ Values k i j v w ∷ s) (q ++ Values k i' j' v' w' ∷ t) e)
    (same_value rest.0 p q k i j v w i' j' v' w' s t
    (same_tail z z' (p ++ Values k i j v w ∷ s) (q ++ Values k i' j' v' w' ∷ t) e) rest.1)

-- ---- lengths

-- a content with labels is as long as the content
mapped_length : (k : ℕ) (v : List ℕ) → length (map (value_character k) v) ≡ length v
mapped_length k [] = refl
mapped_length k (c ∷ v) = ap suc (mapped_length k v)

-- the content and the PDI of a value, before other characters
content_length : (k : ℕ) (v : List ℕ) (rest : List LabelledCharacter)
    → length ((map (value_character k) v ++ value_character k 0x2069 ∷ []) ++ rest) ≡ length v + 1 + length rest
content_length k [] rest = omega arith
content_length k (c ∷ v) rest = omega (arith, content_length k v rest)

-- the one line with labels is as long as the line
pub one_length : (line : List Both) → length (one_labelled line) ≡ length (one_line line)
one_length [] = refl
one_length (Shared c ∷ line) = ap suc (one_length line)
one_length (Values k i j v w ∷ line) =
    omega (arith, content_length k v (one_labelled line), one_length line, length-append v (0x2069 ∷ one_line line))

-- so is the other line
pub other_length : (line : List Both) → length (other_labelled line) ≡ length (other_line line)
other_length [] = refl
other_length (Shared c ∷ line) = ap suc (other_length line)
other_length (Values k i j v w ∷ line) =
    omega (
      arith,
      content_length k w (other_labelled line),
      other_length line,
      length-append w (0x2069 ∷ other_line line),
    )

-- ---- a choice

-- the number of the value that it stands in
abbrev pub chosen_label : Chosen → Option ℕ
chosen_label (Outside c) = None
chosen_label (Inside k i j one_begin y one_end other_begin z other_end) = Some k

-- a character of the one line and one of the other, as a choice in the parts
pub record ChosenAt (line : List Both) (before : List LabelledCharacter) (m : LabelledCharacter)
    (also_before : List LabelledCharacter) (also : LabelledCharacter) : Type 0 where
  pub chosen : Chosen
  pub prefix : List Both
  pub suffix : List Both
  pub is : line ≡ prefix ++ chosen_part chosen ∷ suffix
  pub one_at : length before ≡ length (one_line prefix ++ one_before chosen)
  pub other_at : length also_before ≡ length (other_line prefix ++ other_before chosen)
  pub one_is : m.character ≡ one_character chosen
  pub other_is : also.character ≡ other_character chosen
  pub label_is : m.label ≡ chosen_label chosen

-- the same static character, or characters of one value
abbrev AreSameAt : List LabelledCharacter → LabelledCharacter → List LabelledCharacter → LabelledCharacter → Type 0
AreSameAt before m also_before also =
    ((m.label ≡ None) × (also.label ≡ None) × (static_count before ≡ static_count also_before))
    ⊎ ((k : ℕ) × (m.label ≡ Some k) × (also.label ≡ Some k))

-- what is static has no number
pub never_labelled : (k : ℕ) → ◌≡◌ {A = Option ℕ} None (Some k) → ⊥
never_labelled k e = cc

-- one label is one number
same_number : (k l : ℕ) → ◌≡◌ {A = Option ℕ} (Some k) (Some l) → k ≡ l
same_number k l e = cc

-- the label of a character
abbrev label_of : LabelledCharacter → Option ℕ
label_of m = m.label

-- the parts of a value that stands in one line in two ways
abbrev one_content : Both → List ℕ
one_content (Shared c) = []
one_content (Values k i j v w) = v

-- the content of a part in the other line
abbrev other_content : Both → List ℕ
other_content (Shared c) = []
other_content (Values k i j v w) = w

-- a value in two ways, with the one content of the one and the other content of the other
value_again : (k i j : ℕ) (v w : List ℕ) (i' j' : ℕ) (v' w' : List ℕ)
    → Values k i j v w ≡ Values k i' j' v' w' → Values k i j v w ≡ Values k i j v w'
value_again k i j v w i' j' v' w' e = ap (λ u. Values k i j v u) (ap other_content e)

-- two characters that are the same are a choice: by where each stands
choose : (n : ℕ) (line : List Both) (before : List LabelledCharacter) (m : LabelledCharacter)
    (also_before : List LabelledCharacter) (also : LabelledCharacter) → BothNumbered n line
    → Located line before m → OtherLocated line also_before also → AreSameAt before m also_before also
    → ChosenAt line before m also_before also
choose n line before m also_before also numbered (InShared p c s line_is before_is m_is)
    (OtherShared q d t also_line_is also_before_is also_is) (inl same) =
    let counts : shared_count p ≡ shared_count q =
    sym (one_count p) ∙ ap static_count (sym before_is) ∙ same.2 ∙ ap static_count also_before_is ∙ other_count q in
    let split : SameSplit p q (Shared c) (Shared d) s t = same_shared p q c d s t (sym line_is ∙ also_line_is) counts in
    let letter : c ≡ d = ap (λ (l : List Both). first_letter l) (ap (λ x. x ∷ []) split.part_is) in
    record {
      chosen = Outside c;
      prefix = p;
      suffix = s;
      is = line_is;
      one_at = ap length before_is ∙ omega (arith, one_length p, length-append (one_line p) []);
      other_at = ap length also_before_is
          ∙ ap (λ l. length (other_labelled l)) (sym split.prefix_is)
          ∙ omega (arith, other_length p, length-append (other_line p) []);
      one_is = ap (λ (z : LabelledCharacter). z.character) m_is;
      other_is = ap (λ (z : LabelledCharacter). z.character) also_is ∙ sym letter;
      label_is = ap label_of m_is;
    }
  where
    first_letter : List Both → ℕ
    first_letter [] = 0
    first_letter (Shared c ∷ l) = c
    first_letter (Values k i j v w ∷ l) = 0
choose n line before m also_before also numbered (InShared p c s line_is before_is m_is)
    (OtherShared q d t also_line_is also_before_is also_is) (inr same) =
    absurd (never_labelled same.0 (sym (ap label_of m_is) ∙ same.1))
choose n line before m also_before also numbered (InShared p c s line_is before_is m_is)
    (OtherValue q l i j v begin z end t also_line_is also_before_is also_is) (inl same) =
    absurd (never_labelled l (sym same.1 ∙ ap label_of also_is))
choose n line before m also_before also numbered (InShared p c s line_is before_is m_is)
    (OtherValue q l i j v begin z end t also_line_is also_before_is also_is) (inr same) =
    absurd (never_labelled same.0 (sym (ap label_of m_is) ∙ same.1))
choose n line before m also_before also numbered (InValue p k i j begin y end w s line_is before_is m_is)
    (OtherShared q d t also_line_is also_before_is also_is) (inl same) =
    absurd (never_labelled k (sym same.0 ∙ ap label_of m_is))
choose n line before m also_before also numbered (InValue p k i j begin y end w s line_is before_is m_is)
    (OtherShared q d t also_line_is also_before_is also_is) (inr same) =
    absurd (never_labelled same.0 (sym (ap label_of also_is) ∙ same.2))
choose n line before m also_before also numbered (InValue p k i j begin y end w s line_is before_is m_is)
    (OtherValue q l i' j' v also_begin z also_end t also_line_is also_before_is also_is) (inl same) =
    absurd (never_labelled k (sym same.0 ∙ ap label_of m_is))
choose n line before m also_before also numbered (InValue p k i j begin y end w s line_is before_is m_is)
    (OtherValue q l i' j' v also_begin z also_end t also_line_is also_before_is also_is) (inr same) =
    let number : l ≡ k = same_number l k (sym (ap label_of also_is) ∙ same.2 ∙ sym same.1 ∙ ap label_of m_is) in
    let also_line : line ≡ q ++ Values k i' j' v (also_begin ++ z ∷ also_end) ∷ t =
    also_line_is ∙ ap (λ x. q ++ Values x i' j' v (also_begin ++ z ∷ also_end) ∷ t) number in
    let split : SameSplit p q (Values k i j (begin ++ y ∷ end) w) (Values k i' j' v (also_begin ++ z ∷ also_end)) s t =
    same_value n p q k i j (begin ++ y ∷ end) w i' j' v (also_begin ++ z ∷ also_end) s t (sym line_is ∙ also_line)
    (subst (BothNumbered n) line_is numbered) in
    record {
      chosen = Inside k i j begin y end also_begin z also_end;
      prefix = p;
      suffix = s;
      is = line_is ∙ ap (λ x. p ++ x ∷ s)
          (value_again k i j (begin ++ y ∷ end) w i' j' v (also_begin ++ z ∷ also_end) split.part_is);
      one_at = ap length before_is
          ∙ omega (
            arith,
            length-append (one_labelled p) (value_initiator k i ∷ map (value_character k) begin),
            one_length p,
            mapped_length k begin,
            length-append (one_line p) (i ∷ begin),
          );
      other_at = ap length also_before_is
          ∙ ap (λ x. length (other_labelled x ++ value_initiator l j' ∷ map (value_character l) also_begin))
          (sym split.prefix_is)
          ∙ omega (
            arith,
            length-append (other_labelled p) (value_initiator l j' ∷ map (value_character l) also_begin),
            other_length p,
            mapped_length l also_begin,
            length-append (other_line p) (j ∷ also_begin),
          );
      one_is = ap (λ (x : LabelledCharacter). x.character) m_is;
      other_is = ap (λ (x : LabelledCharacter). x.character) also_is;
      label_is = ap label_of m_is;
    }

-- the choice of a character of both lines
pub choice : (line : List Both) (before : List LabelledCharacter) (m : LabelledCharacter)
    (after also_before : List LabelledCharacter) (also : LabelledCharacter) (also_after : List LabelledCharacter)
    → HoldsCleaned line → BothNumbered 0 line → one_labelled line ≡ before ++ m ∷ after
    → other_labelled line ≡ also_before ++ also ∷ also_after → is_surrounding (bidi_class m.character) ≡ true
    → is_surrounding (bidi_class also.character) ≡ true → AreSameAt before m also_before also
    → ChosenAt line before m also_before also
choice line before m after also_before also also_after held numbered is also_is seen also_seen same =
    choose 0 line before m also_before also numbered (locate line before m after is held seen)
    (other_locate line also_before also also_after also_is held also_seen) same
