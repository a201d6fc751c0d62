-- Where the isolate controls of a text begin that match nothing in it.
use Rattle.std.proofs.Common.{◌≡◌, ℕ, ◌+◌, ◌-◌, ◌<◌, Bool, true, false, ◌==◌, ◌&&◌, not, nat_lt, inl, inr, zero, suc}
use Rattle.std.proofs.Common.{List, [], ◌∷◌, ◌++◌, length, take, drop, slice_index, refl, sym, ap, subst, ◌∙◌}
use Rattle.std.proofs.Common.{if◌then◌else◌, cond, append-nil, append_assoc, length-append, encode_utf8}
use Rattle.std.proofs.Common.{encode_utf8_all, arith}
use Rattle.std.specs.List.{flat_map, enumerate_from}
use Rattle.std.proofs.lemmas.Bool.{cond-true, cond-false, cases_lt, ne_eqb, eq-eqb, both_ways, lt-ltb, le-ltb, or_left}
use Rattle.std.proofs.lemmas.Bool.{or_right, or_from}
use Rattle.std.proofs.lemmas.List.{drop-drop, length-drop, nil_from_length}
use Rattle.std.proofs.lemmas.Str.{encodes-append}
use Rattle.std.proofs.lemmas.List.Sums.{sum_by-append}
use Rattle.std.proofs.Math.Seq.{take-append_seam}
use Rattle.bidi_class.specs.Pairs.{is_initiator, is_closing, initiators, closings, is_in_pair}
use Rattle.bidi_text.specs.Clean.{is_dropped, dropped_byte, dropped_bytes}
use Rattle.bidi_text.proofs.Isolates.{role, first, lone_closings, lone_initiators, initiators-closings}
use Rattle.bidi_text.proofs.Isolates.Role.{Begins, Ends, Stays}
use Rattle.bidi_text.proofs.Isolates.First.{BeginsLone, BeginsMatched, EndsOne, StaysOut}
use Rattle.bidi_text.proofs.Matched.{is_in_pair-initiator, is_in_pair-closing}

-- the bytes at which the PDIs begin that match nothing in a text that begins at a byte
abbrev pub lone_closing_bytes : ℕ → List ℕ → List ℕ
lone_closing_bytes at [] = []
lone_closing_bytes at (c ∷ cs) =
    if is_initiator c then drop 1 (lone_closing_bytes (at + length (encode_utf8 c)) cs)
    else if is_closing c then at ∷ lone_closing_bytes (at + length (encode_utf8 c)) cs
    else lone_closing_bytes (at + length (encode_utf8 c)) cs

-- the same of the initiators
abbrev pub lone_initiator_bytes : ℕ → List ℕ → List ℕ
lone_initiator_bytes at [] = []
lone_initiator_bytes at (c ∷ cs) =
    if is_initiator c then (if lone_closings cs == 0 then at ∷ lone_initiator_bytes (at + length (encode_utf8 c)) cs
    else lone_initiator_bytes (at + length (encode_utf8 c)) cs)
    else lone_initiator_bytes (at + length (encode_utf8 c)) cs

-- the counts of a text by its first character's role
pub lone_closings-begins : (c : ℕ) (cs : List ℕ) → is_initiator c ≡ true → lone_closings (c ∷ cs) ≡ lone_closings cs - 1
lone_closings-begins c cs b = cond-true _ _ _ b

pub lone_closings-ends : (c : ℕ) (cs : List ℕ) → is_initiator c ≡ false → is_closing c ≡ true
    → lone_closings (c ∷ cs) ≡ lone_closings cs + 1
lone_closings-ends c cs b e = cond-false _ _ _ b ∙ cond-true _ _ _ e

pub lone_closings-stays : (c : ℕ) (cs : List ℕ) → is_initiator c ≡ false → is_closing c ≡ false
    → lone_closings (c ∷ cs) ≡ lone_closings cs
lone_closings-stays c cs b e = cond-false _ _ _ b ∙ cond-false _ _ _ e

-- there are as many such bytes as lone PDIs
pub length-lone_closing_bytes : (at : ℕ) (cs : List ℕ) → length (lone_closing_bytes at cs) ≡ lone_closings cs
length-lone_closing_bytes at [] = refl
length-lone_closing_bytes at (c ∷ cs) =
    let next : ℕ = at + length (encode_utf8 c) in
    let rest = length-lone_closing_bytes next cs in
    elim (role c) [
      | Begins b e ↦ ap length (cond-true _ _ _ b) ∙ length-drop 1 (lone_closing_bytes next cs) ∙ ap (λ n. n - 1) rest
          ∙ sym (lone_closings-begins c cs b)
      | Ends b e ↦ ap length (cond-false _ _ _ b ∙ cond-true _ _ _ e) ∙ omega arith ∙ sym (lone_closings-ends c cs b e)
      | Stays b e ↦ ap length (cond-false _ _ _ b ∙ cond-false _ _ _ e) ∙ rest ∙ sym (lone_closings-stays c cs b e)
    ]

-- and as many bytes of initiators as lone initiators
pub length-lone_initiator_bytes : (at : ℕ) (cs : List ℕ) → length (lone_initiator_bytes at cs) ≡ lone_initiators cs
length-lone_initiator_bytes at [] = refl
length-lone_initiator_bytes at (c ∷ cs) =
    let next : ℕ = at + length (encode_utf8 c) in
    let rest = length-lone_initiator_bytes next cs in
    elim (first c cs) [
      | BeginsLone b e none counts ↦
          ap length (cond-true _ _ _ b ∙ cond-true _ _ _ (eq-eqb (lone_closings cs) 0 none)) ∙ omega arith
          ∙ sym counts.lone_initiators_are
      | BeginsMatched b e some counts ↦
          ap length (cond-true _ _ _ b
          ∙ cond-false _ _ _ (ne_eqb (lone_closings cs) 0 (λ none. absurd (omega arith)))) ∙ rest
          ∙ sym counts.lone_initiators_are
      | EndsOne b e counts ↦ ap length (cond-false _ _ _ b) ∙ rest ∙ sym counts.lone_initiators_are
      | StaysOut b e counts ↦ ap length (cond-false _ _ _ b) ∙ rest ∙ sym counts.lone_initiators_are
    ]

-- a character at the end that closes nothing leaves the lone PDIs as they are
lone_closings-snoc : (prefix : List ℕ) (c : ℕ) → is_closing c ≡ false
    → lone_closings (prefix ++ c ∷ []) ≡ lone_closings prefix
lone_closings-snoc [] c e = elim (role c) [
  | Begins b h ↦ lone_closings-begins c [] b
  | Ends b h ↦
      absurd (both_ways _ e h)
  | Stays b h ↦ lone_closings-stays c [] b h
]
lone_closings-snoc (f ∷ prefix) c e =
    let rest = lone_closings-snoc prefix c e in
    elim (role f) [
      | Begins b h ↦ lone_closings-begins f (prefix ++ c ∷ []) b ∙ ap (λ n. n - 1) rest
          ∙ sym (lone_closings-begins f prefix b)
      | Ends b h ↦ lone_closings-ends f (prefix ++ c ∷ []) b h ∙ ap (λ n. n + 1) rest
          ∙ sym (lone_closings-ends f prefix b h)
      | Stays b h ↦ lone_closings-stays f (prefix ++ c ∷ []) b h ∙ rest ∙ sym (lone_closings-stays f prefix b h)
    ]

-- a PDI at the end is lone where no initiator is
lone_closings-snoc_ends : (prefix : List ℕ) (c : ℕ) → is_initiator c ≡ false → is_closing c ≡ true
    → lone_closings (prefix ++ c ∷ []) ≡ lone_closings prefix + (1 - lone_initiators prefix)
lone_closings-snoc_ends [] c b e = lone_closings-ends c [] b e
lone_closings-snoc_ends (f ∷ prefix) c b e =
    let rest = lone_closings-snoc_ends prefix c b e in
    elim (first f prefix) [
      | BeginsLone fb fe none counts ↦ omega (arith, lone_closings-begins f (prefix ++ c ∷ []) fb)
      | BeginsMatched fb fe some counts ↦ omega (arith, lone_closings-begins f (prefix ++ c ∷ []) fb)
      | EndsOne fb fe counts ↦ omega (arith, lone_closings-ends f (prefix ++ c ∷ []) fb fe)
      | StaysOut fb fe counts ↦ omega (arith, lone_closings-stays f (prefix ++ c ∷ []) fb fe)
    ]

-- how a character at the end changes the number of lone initiators
initiators-snoc : (prefix : List ℕ) (c : ℕ) → initiators (prefix ++ c ∷ []) ≡ initiators prefix + initiators (c ∷ [])
initiators-snoc prefix c = sum_by-append (λ (x : ℕ). cond (is_initiator x) 1 0) prefix (c ∷ [])

closings-snoc : (prefix : List ℕ) (c : ℕ) → closings (prefix ++ c ∷ []) ≡ closings prefix + closings (c ∷ [])
closings-snoc prefix c = sum_by-append (λ (x : ℕ). cond (is_closing x) 1 0) prefix (c ∷ [])

pub lone_initiators-begins : (prefix : List ℕ) (c : ℕ) → is_initiator c ≡ true → is_closing c ≡ false
    → lone_initiators (prefix ++ c ∷ []) ≡ lone_initiators prefix + 1
lone_initiators-begins prefix c b e =
    let one : initiators (c ∷ []) ≡ 1 = ap (λ t. 0 + cond t 1 0) b in
    let none : closings (c ∷ []) ≡ 0 = ap (λ t. 0 + cond t 1 0) e in
    omega (
      arith,
      initiators-closings (prefix ++ c ∷ []),
      initiators-closings prefix,
      initiators-snoc prefix c,
      closings-snoc prefix c,
      lone_closings-snoc prefix c e,
    )

pub lone_initiators-ends : (prefix : List ℕ) (c : ℕ) → is_initiator c ≡ false → is_closing c ≡ true
    → lone_initiators (prefix ++ c ∷ []) ≡ lone_initiators prefix - 1
lone_initiators-ends prefix c b e =
    let none : initiators (c ∷ []) ≡ 0 = ap (λ t. 0 + cond t 1 0) b in
    let one : closings (c ∷ []) ≡ 1 = ap (λ t. 0 + cond t 1 0) e in
    omega (
      arith,
      initiators-closings (prefix ++ c ∷ []),
      initiators-closings prefix,
      initiators-snoc prefix c,
      closings-snoc prefix c,
      lone_closings-snoc_ends prefix c b e,
    )

pub lone_initiators-stays : (prefix : List ℕ) (c : ℕ) → is_initiator c ≡ false → is_closing c ≡ false
    → lone_initiators (prefix ++ c ∷ []) ≡ lone_initiators prefix
lone_initiators-stays prefix c b e =
    let none : initiators (c ∷ []) ≡ 0 = ap (λ t. 0 + cond t 1 0) b in
    let no_end : closings (c ∷ []) ≡ 0 = ap (λ t. 0 + cond t 1 0) e in
    omega (
      arith,
      initiators-closings (prefix ++ c ∷ []),
      initiators-closings prefix,
      initiators-snoc prefix c,
      closings-snoc prefix c,
      lone_closings-snoc prefix c e,
    )

-- what is left out of a text from a character on: the PDIs that are lone and find no initiator open before, and the
-- lone initiators
abbrev pub lone_bytes : ℕ → ℕ → List ℕ → List ℕ
lone_bytes begun at cs = drop begun (lone_closing_bytes at cs) ++ lone_initiator_bytes at cs

-- the character after the prefix of a text, and the text after it
at_seam : (prefix : List ℕ) (c : ℕ) (cs : List ℕ) → slice_index (prefix ++ (c ∷ cs)) (length prefix) ≡ c
at_seam [] c cs = refl
at_seam (f ∷ prefix) c cs = at_seam prefix c cs

after_seam : (prefix : List ℕ) (c : ℕ) (cs : List ℕ) → drop (suc (length prefix)) (prefix ++ (c ∷ cs)) ≡ cs
after_seam [] c cs = refl
after_seam (f ∷ prefix) c cs = after_seam prefix c cs

-- whether the character after a prefix is left out
pub dropped_begins : (prefix : List ℕ) (c : ℕ) (cs : List ℕ) → is_initiator c ≡ true
    → is_dropped (prefix ++ (c ∷ cs)) (length prefix, c) ≡ not (nat_lt 0 (lone_closings cs))
dropped_begins prefix c cs b =
    let text : List ℕ = prefix ++ (c ∷ cs) in
    let opening : is_initiator (slice_index text (length prefix)) ≡ true =
    subst (λ x. is_initiator x ≡ true) (sym (at_seam prefix c cs)) b in
    ap (λ t. t && not (is_in_pair text (length prefix))) (or_left (is_initiator c) (is_closing c) b)
    ∙ ap not (is_in_pair-initiator text (length prefix) opening) ∙ ap (λ rest. not (nat_lt 0 (lone_closings rest)))
    (after_seam prefix c cs)

pub dropped_ends : (prefix : List ℕ) (c : ℕ) (cs : List ℕ) → is_initiator c ≡ false → is_closing c ≡ true
    → is_dropped (prefix ++ (c ∷ cs)) (length prefix, c) ≡ not (nat_lt 0 (lone_initiators prefix))
dropped_ends prefix c cs b e =
    let text : List ℕ = prefix ++ (c ∷ cs) in
    let closing : is_closing (slice_index text (length prefix)) ≡ true =
    subst (λ x. is_closing x ≡ true) (sym (at_seam prefix c cs)) e in
    let within : length prefix < length text = omega (arith, length-append prefix (c ∷ cs)) in
    ap (λ t. t && not (is_in_pair text (length prefix))) (or_right (is_initiator c) (is_closing c) e)
    ∙ ap not (is_in_pair-closing text (length prefix) within closing)
    ∙ ap (λ before. not (nat_lt 0 (lone_initiators before))) (take-append_seam prefix (c ∷ cs))

pub dropped_stays : (prefix : List ℕ) (c : ℕ) (cs : List ℕ) → is_initiator c ≡ false → is_closing c ≡ false
    → is_dropped (prefix ++ (c ∷ cs)) (length prefix, c) ≡ false
dropped_stays prefix c cs b e = ap (λ t. t && not (is_in_pair (prefix ++ (c ∷ cs)) (length prefix)))
    (or_from (is_initiator c) (is_closing c) b e)

-- no list is left of none
pub drop-nil : (n : ℕ) → drop {A = ℕ} n [] ≡ []
drop-nil zero = refl
drop-nil (suc n) = refl

-- one more initiator before what is left out
pub lone_bytes-begins : (begun at c : ℕ) (cs : List ℕ) → is_initiator c ≡ true
    → (if not (nat_lt 0 (lone_closings cs)) then at ∷ [] else []) ++ lone_bytes (begun + 1)
    (at + length (encode_utf8 c)) cs ≡ lone_bytes begun at (c ∷ cs)
lone_bytes-begins begun at c cs b =
    let next : ℕ = at + length (encode_utf8 c) in
    let ends : List ℕ = lone_closing_bytes next cs in
    let begins : List ℕ = lone_initiator_bytes next cs in
    let first_ends : lone_closing_bytes at (c ∷ cs) ≡ drop 1 ends = cond-true _ _ _ b in
    let first_begins : lone_initiator_bytes at (c ∷ cs) ≡ (if lone_closings cs == 0 then at ∷ begins else begins) =
    cond-true _ _ _ b in
    elim (cases_lt 0 (lone_closings cs)) [
      | inl some ↦
          let dropped : not (nat_lt 0 (lone_closings cs)) ≡ false = ap not (lt-ltb 0 (lone_closings cs) some) in
          let kept : lone_initiator_bytes at (c ∷ cs) ≡ begins = first_begins
          ∙ cond-false _ _ _ (ne_eqb (lone_closings cs) 0 (λ none. absurd (omega arith))) in
          let count : begun + 1 ≡ 1 + begun = omega arith in
          ap (λ t. (if t then at ∷ [] else []) ++ (drop (begun + 1) ends ++ begins)) dropped
          ∙ ap (λ n. drop n ends ++ begins) count ∙ ap (λ l. l ++ begins) (sym (drop-drop begun 1 ends))
          ∙ ap (λ l. drop begun l ++ begins) (sym first_ends)
          ∙ ap (λ l. drop begun (lone_closing_bytes at (c ∷ cs)) ++ l) (sym kept)
      | inr none ↦
          let zero_left : lone_closings cs ≡ 0 = omega arith in
          let dropped : not (nat_lt 0 (lone_closings cs)) ≡ true = ap not (le-ltb 0 (lone_closings cs) none) in
          let kept : lone_initiator_bytes at (c ∷ cs) ≡ at ∷ begins = first_begins
          ∙ cond-true _ _ _ (eq-eqb (lone_closings cs) 0 zero_left) in
          let empty : ends ≡ [] = nil_from_length ends (length-lone_closing_bytes next cs ∙ zero_left) in
          ap (λ t. (if t then at ∷ [] else []) ++ (drop (begun + 1) ends ++ begins)) dropped
          ∙ ap (λ l. at ∷ (drop (begun + 1) l ++ begins)) empty ∙ ap (λ l. at ∷ (l ++ begins)) (drop-nil (begun + 1))
          ∙ ap (λ l. l ++ (at ∷ begins)) (sym (drop-nil begun)) ∙ ap (λ l. drop begun (drop 1 l) ++ (at ∷ begins))
          (sym empty)
          ∙ ap (λ l. drop begun l ++ (at ∷ begins)) (sym first_ends)
          ∙ ap (λ l. drop begun (lone_closing_bytes at (c ∷ cs)) ++ l) (sym kept)
    ]

-- one more PDI before what is left out
pub lone_bytes-ends : (begun at c : ℕ) (cs : List ℕ) → is_initiator c ≡ false → is_closing c ≡ true
    → (if not (nat_lt 0 begun) then at ∷ [] else []) ++ lone_bytes (begun - 1) (at + length (encode_utf8 c)) cs
    ≡ lone_bytes begun at (c ∷ cs)
lone_bytes-ends begun at c cs b e =
    let next : ℕ = at + length (encode_utf8 c) in
    let first_ends : lone_closing_bytes at (c ∷ cs) ≡ at ∷ lone_closing_bytes next cs = cond-false _ _ _ b
    ∙ cond-true _ _ _ e in
    let first_begins : lone_initiator_bytes at (c ∷ cs) ≡ lone_initiator_bytes next cs = cond-false _ _ _ b in
    at_end begun at (lone_closing_bytes next cs) (lone_initiator_bytes next cs)
    ∙ ap (λ l. drop begun l ++ lone_initiator_bytes next cs) (sym first_ends)
    ∙ ap (λ l. drop begun (lone_closing_bytes at (c ∷ cs)) ++ l) (sym first_begins)
  where
    at_end : (begun at : ℕ) (ends begins : List ℕ) → (if not (nat_lt 0 begun) then at ∷ [] else [])
        ++ (drop (begun - 1) ends ++ begins) ≡ drop begun (at ∷ ends) ++ begins
    at_end zero at ends begins = refl
    at_end (suc begun) at ends begins =
        let some : not (nat_lt 0 (suc begun)) ≡ false = ap not (lt-ltb 0 (suc begun) (omega arith)) in
        let fewer : suc begun - 1 ≡ begun = omega arith in
        ap (λ t. (if t then at ∷ [] else []) ++ (drop (suc begun - 1) ends ++ begins)) some
        ∙ ap (λ n. drop n ends ++ begins) fewer

-- another character before what is left out
pub lone_bytes-stays : (begun at c : ℕ) (cs : List ℕ) → is_initiator c ≡ false → is_closing c ≡ false
    → lone_bytes begun (at + length (encode_utf8 c)) cs ≡ lone_bytes begun at (c ∷ cs)
lone_bytes-stays begun at c cs b e =
    let next : ℕ = at + length (encode_utf8 c) in
    let first_ends : lone_closing_bytes at (c ∷ cs) ≡ lone_closing_bytes next cs = cond-false _ _ _ b
    ∙ cond-false _ _ _ e in
    let first_begins : lone_initiator_bytes at (c ∷ cs) ≡ lone_initiator_bytes next cs = cond-false _ _ _ b in
    ap (λ l. drop begun l ++ lone_initiator_bytes next cs) (sym first_ends)
    ∙ ap (λ l. drop begun (lone_closing_bytes at (c ∷ cs)) ++ l) (sym first_begins)

-- the byte of a character after a prefix, if it is left out
pub dropped_byte_is : (prefix : List ℕ) (c : ℕ) (cs : List ℕ) (flag : Bool)
    → is_dropped (prefix ++ (c ∷ cs)) (length prefix, c) ≡ flag
    → dropped_byte (prefix ++ (c ∷ cs)) (length prefix, c) ≡ (if flag then length (encode_utf8_all prefix) ∷ [] else [])
dropped_byte_is prefix c cs flag is =
    ap (λ t. if t then length (encode_utf8_all (take (length prefix) (prefix ++ (c ∷ cs)))) ∷ [] else []) is
    ∙ ap (λ before. if flag then length (encode_utf8_all before) ∷ [] else []) (take-append_seam prefix (c ∷ cs))

-- the byte after one more character
pub prefix_byte-snoc : (prefix : List ℕ) (c : ℕ)
    → length (encode_utf8_all (prefix ++ c ∷ [])) ≡ length (encode_utf8_all prefix) + length (encode_utf8 c)
prefix_byte-snoc prefix c =
    ap length (encodes-append prefix (c ∷ [])) ∙ length-append (encode_utf8_all prefix) (encode_utf8_all (c ∷ []))
    ∙ ap (λ l. length (encode_utf8_all prefix) + length l) (append-nil (encode_utf8 c))

-- what is left out from the character after a prefix on
pub dropped-lone_bytes : (prefix cs : List ℕ)
    → flat_map (dropped_byte (prefix ++ cs)) (enumerate_from (length prefix) cs) ≡ lone_bytes (lone_initiators prefix)
    (length (encode_utf8_all prefix)) cs
dropped-lone_bytes prefix [] = sym (append-nil (drop (lone_initiators prefix) []) ∙ drop-nil (lone_initiators prefix))
dropped-lone_bytes prefix (c ∷ cs) =
    let text : List ℕ = prefix ++ (c ∷ cs) in
    let at : ℕ = length (encode_utf8_all prefix) in
    let next : ℕ = at + length (encode_utf8 c) in
    let later : List ℕ = flat_map (dropped_byte text) (enumerate_from (length prefix + 1) cs) in
    let rest : later ≡ lone_bytes (lone_initiators (prefix ++ c ∷ [])) next cs =
    ap (λ n. flat_map (dropped_byte text) (enumerate_from n cs)) (sym (length-append prefix (c ∷ [])))
    ∙ ap (λ t. flat_map (dropped_byte t) (enumerate_from (length (prefix ++ c ∷ [])) cs))
    (sym (append_assoc prefix (c ∷ []) cs))
    ∙ dropped-lone_bytes (prefix ++ c ∷ []) cs
    ∙ ap (λ n. lone_bytes (lone_initiators (prefix ++ c ∷ [])) n cs) (prefix_byte-snoc prefix c) in
    elim (role c) [
      | Begins b e ↦
          ap (λ l. l ++ later) (dropped_byte_is prefix c cs _ (dropped_begins prefix c cs b))
          ∙ ap (λ l. (if not (nat_lt 0 (lone_closings cs)) then at ∷ [] else []) ++ l)
          (rest ∙ ap (λ n. lone_bytes n next cs) (lone_initiators-begins prefix c b e))
          ∙ lone_bytes-begins (lone_initiators prefix) at c cs b
      | Ends b e ↦
          ap (λ l. l ++ later) (dropped_byte_is prefix c cs _ (dropped_ends prefix c cs b e))
          ∙ ap (λ l. (if not (nat_lt 0 (lone_initiators prefix)) then at ∷ [] else []) ++ l)
          (rest ∙ ap (λ n. lone_bytes n next cs) (lone_initiators-ends prefix c b e))
          ∙ lone_bytes-ends (lone_initiators prefix) at c cs b e
      | Stays b e ↦
          ap (λ l. l ++ later) (dropped_byte_is prefix c cs _ (dropped_stays prefix c cs b e))
          ∙ rest ∙ ap (λ n. lone_bytes n next cs) (lone_initiators-stays prefix c b e)
          ∙ lone_bytes-stays (lone_initiators prefix) at c cs b e
    ]

-- what is left out of a text
pub dropped_bytes-lone_bytes : (text : List ℕ) → dropped_bytes text ≡ lone_bytes 0 0 text
dropped_bytes-lone_bytes text = dropped-lone_bytes [] text
