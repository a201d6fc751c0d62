-- The parts of the text of a fault, where the text is put together of them.
use Rattle.std.proofs.Common.{◌≡◌, ℕ, ◌+◌, ◌-◌, List, [], ◌∷◌, ◌++◌, length, refl, sym, ap, ◌∙◌, arith, take, drop}
use Rattle.std.proofs.Common.{◌*◌, ◌/◌, ◌%◌, ◌^◌, ◌<◌, ◌≤◌, Some, length-append, lt-ltb, rules}
use Rattle.std.proofs.lemmas.Fmt.{decimal_digit, decimal_step}
use Rattle.std.proofs.lemmas.List.{drop_at, take_at}
use Rattle.std.specs.Prelude.{codes, if◌then◌else◌, nat_lt, slice_range}
use Rattle.std.specs.Fmt.{decimal}
use mathlib.Core.List.{append_assoc}
use Rattle.soy_base.specs.Code.{code_number, code_word}
use Rattle.soy_base.specs.declared.code.Code.{Code}
use Rattle.soy_base.specs.declared.code.Code.TheVariants.{NotUtf8, TooLarge, Lex, Syntax, Nesting, Twice, Unknown}
use Rattle.soy_base.specs.declared.code.Code.TheVariants.{Mistyped, Argument, Place, Mixed, EndState, InName, States}
use Rattle.soy_base.specs.declared.code.Code.TheVariants.{Ampersand, Reference, Script, UriStart, Kind, Bundle, Icu}
use Rattle.soy_base.specs.declared.code.Code.TheVariants.{Rule, Placeholder, Selector, IdClash, NotJson, DataType}
use Rattle.soy_base.specs.declared.code.Code.TheVariants.{Entry, TooDeep, Step, TooLong}
use Rattle.soy_base.specs.declared.path.PathStep.{PathStep}
use Rattle.soy_top.specs.Line.{refusal_line}
use Rattle.soy_top.specs.Pointer.{pointer, pointer_line}
use Rattle.soyc_c.specs.FaultParts.{Absent, FaultParts, Has, NotWithin, PartContent, line_parts, part_content}
use Rattle.soyc_c.specs.FaultParts.{part_in, parts_in}
use Rattle.soyc_c.specs.NumberLength.{number_length}
use Rattle.soyc_c.specs.Parts.{part_bytes}
use Rattle.soyc_c.specs.declared.parts.Part.{Part}
use Rattle.soyc_c.specs.declared.text_parts.TextParts.{TextParts}
use Rattle.soyc_c.proofs.PartBytes.{part-within}

-- ---- a part of a text

middle : (before part after : List ℕ)
    → slice_range (before ++ (part ++ after)) (length before) (length before + length part) ≡ part
middle before part after =
    let n : ℕ = length before in
    let m : ℕ = length part in
    let same : n + m - n ≡ m = omega arith in
    ap (λ k. take k (drop n (before ++ (part ++ after)))) same
    ∙ (ap (take m) (drop_at before (part ++ after) n refl) ∙ take_at part after m refl)

-- from one offset to another of a text in three
part_is : (text before part after : List ℕ) (begin end : ℕ) → text ≡ before ++ (part ++ after)
    → begin ≡ length before → end ≡ length before + length part → slice_range text begin end ≡ part
part_is text before part after begin end split begins ends =
    ap (λ t. slice_range t begin end) split
    ∙ (ap (λ n. slice_range (before ++ (part ++ after)) n end) begins
    ∙ (ap (λ n. slice_range (before ++ (part ++ after)) (length before) n) ends ∙ middle before part after))

length_three : (a w e : List ℕ) → length (a ++ (w ++ e)) ≡ length a + (length w + length e)
length_three a w e = length-append a (w ++ e) ∙ ap (λ n. length a + n) (length-append w e)

-- one that doesn't end at 0 has these bytes
part_has : (text before part after : List ℕ) (begin end : ℕ) → text ≡ before ++ (part ++ after)
    → begin ≡ length before → end ≡ length before + length part → 0 < end
    → part_in text (record { begin = begin; end = end }) ≡ Has part
part_has text before part after begin end split begins ends some =
    let it : Part = record { begin = begin; end = end } in
    ap (λ b. if b then part_content (part_bytes text it) else if nat_lt 0 begin then NotWithin else Absent)
    (lt-ltb 0 end some)
    ∙ ap part_content
    (part-within text it (omega (arith, begins, ends))
    (omega (arith, ends, ap length split, length_three before part after))
    ∙ ap Some (part_is text before part after begin end split begins ends))

abbrev parts_of : PartContent → PartContent → PartContent → PartContent → FaultParts
parts_of message word pointer detail =
    record { message = message; word = word; pointer = pointer; detail = detail }

same_parts : (m n w v p q d e : PartContent) → m ≡ n → w ≡ v → p ≡ q → d ≡ e → parts_of m w p d ≡ parts_of n v q e
same_parts m n w v p q d e messages words pointers details =
    ap (λ x. parts_of x w p d) messages
    ∙ (ap (λ x. parts_of n x p d) words ∙ (ap (λ x. parts_of n v x d) pointers ∙ ap (parts_of n v q) details))

-- ---- how long the number of a code is, with what stands around it

one_digit : (n : ℕ) → n < 10 → 4 ≡ 3 + length (decimal n)
one_digit n small = omega (arith, ap length (decimal_digit n small))

two_digits : (n : ℕ) → 10 ≤ n → n < 2 ^ 64 → n / 10 < 10 → 5 ≡ 3 + length (decimal n)
two_digits n low high small =
    omega (
      arith,
      ap length (decimal_step n low high),
      length-append (decimal (n / 10)) ((48 + n % 10) ∷ []),
      ap length (decimal_digit (n / 10) small),
    )

digits : (code : Code) → number_length code ≡ 3 + length (decimal (code_number code))
digits NotUtf8 = one_digit 1 (omega arith)
digits TooLarge = one_digit 2 (omega arith)
digits Lex = one_digit 3 (omega arith)
digits Syntax = one_digit 4 (omega arith)
digits Nesting = one_digit 5 (omega arith)
digits Twice = one_digit 6 (omega arith)
digits Unknown = one_digit 7 (omega arith)
digits Mistyped = one_digit 8 (omega arith)
digits Argument = one_digit 9 (omega arith)
digits Place = two_digits 11 (omega arith) (omega arith) (omega arith)
digits Mixed = two_digits 12 (omega arith) (omega arith) (omega arith)
digits EndState = two_digits 13 (omega arith) (omega arith) (omega arith)
digits InName = two_digits 14 (omega arith) (omega arith) (omega arith)
digits States = two_digits 15 (omega arith) (omega arith) (omega arith)
digits Ampersand = two_digits 16 (omega arith) (omega arith) (omega arith)
digits Reference = two_digits 17 (omega arith) (omega arith) (omega arith)
digits Script = two_digits 18 (omega arith) (omega arith) (omega arith)
digits UriStart = two_digits 19 (omega arith) (omega arith) (omega arith)
digits Kind = two_digits 20 (omega arith) (omega arith) (omega arith)
digits Bundle = two_digits 21 (omega arith) (omega arith) (omega arith)
digits Icu = two_digits 22 (omega arith) (omega arith) (omega arith)
digits Rule = two_digits 23 (omega arith) (omega arith) (omega arith)
digits Placeholder = two_digits 24 (omega arith) (omega arith) (omega arith)
digits Selector = two_digits 25 (omega arith) (omega arith) (omega arith)
digits IdClash = two_digits 26 (omega arith) (omega arith) (omega arith)
digits NotJson = two_digits 27 (omega arith) (omega arith) (omega arith)
digits DataType = two_digits 28 (omega arith) (omega arith) (omega arith)
digits Entry = two_digits 29 (omega arith) (omega arith) (omega arith)
digits TooDeep = two_digits 31 (omega arith) (omega arith) (omega arith)
digits Step = two_digits 32 (omega arith) (omega arith) (omega arith)
digits TooLong = two_digits 33 (omega arith) (omega arith) (omega arith)

-- ---- lists

regrouped : (a b c d w e : List ℕ) → (a ++ (b ++ (c ++ (d ++ w)))) ++ e ≡ (a ++ (b ++ (c ++ d))) ++ (w ++ e)
regrouped a b c d w e = search (rules, append_assoc)

with_rest : (a e d : List ℕ) → a ++ (e ++ d) ≡ (a ++ e) ++ (d ++ [])
with_rest a e d = search (rules, append_assoc)

regrouped_path : (n c p s d t w e : List ℕ)
    → ((n ++ (c ++ p)) ++ (s ++ (d ++ (t ++ w)))) ++ e ≡ (n ++ c) ++ (p ++ (s ++ (d ++ (t ++ (w ++ e)))))
regrouped_path n c p s d t w e = search (rules, append_assoc)

length_path : (n c p s d t : List ℕ)
    → length ((n ++ (c ++ p)) ++ (s ++ (d ++ t)))
    ≡ length n + (length c + (length p + (length s + (length d + length t))))
length_path n c p s d t =
    omega (arith, length-append (n ++ (c ++ p)) (s ++ (d ++ t)), length_three n c p, length_three s d t)

length_last : (a d : List ℕ) → length (a ++ (10 ∷ d)) ≡ length a + 1 + length d
length_last a d = omega (arith, length-append a (10 ∷ d))

-- ---- a line

module _ (about : List ℕ) (code : Code) (detail : List ℕ) where
  abbrev line : List ℕ
  line = refusal_line about code

  abbrev text : List ℕ
  text = line ++ (10 ∷ detail)

  abbrev number : List ℕ
  number = decimal (code_number code)

  abbrev word : List ℕ
  word = code_word code

  -- what stands before the word
  abbrev before_word : List ℕ
  before_word = about ++ (codes ": " ++ (number ++ codes " "))

  at_word : text ≡ before_word ++ (word ++ (10 ∷ detail))
  at_word = regrouped about (codes ": ") number (codes " ") word (10 ∷ detail)

  at_detail : text ≡ (line ++ (10 ∷ [])) ++ (detail ++ [])
  at_detail = with_rest line (10 ∷ []) detail

  line_length : length text ≡ length line + 1 + length detail
  line_length = length_last line detail

  some_before : 0 < length before_word
  some_before =
      let colon : length {A = ℕ} (codes ": ") ≡ 2 = refl in
      omega (arith, colon, length_three about (codes ": ") (number ++ codes " "))

  word_length : length text ≡ length before_word + (length word + length {A = ℕ} (10 ∷ detail))
  word_length = ap length at_word ∙ length_three before_word word (10 ∷ detail)

  module _ (text_len detail_len feed end begin : ℕ) (details : detail_len ≡ length detail)
      (texts : text_len ≡ length text) (feeds : feed ≡ text_len - detail_len) (ends : end ≡ feed - 1)
      (begins : begin ≡ end - length word) where
    begin_is : begin ≡ length before_word
    begin_is = omega (arith, details, texts, feeds, ends, begins, word_length)

    end_is : end ≡ length {A = ℕ} [] + length line
    end_is = omega (arith, details, texts, feeds, ends, line_length)

    word_end : end ≡ length before_word + length word
    word_end = omega (arith, details, texts, feeds, ends, word_length)

    feed_is : feed ≡ length (line ++ (10 ∷ []))
    feed_is = omega (arith, details, texts, feeds, line_length, length_last line [])

    text_end : text_len ≡ length (line ++ (10 ∷ [])) + length detail
    text_end = omega (arith, details, texts, line_length, length_last line [])

    some_end : 0 < end
    some_end = omega (arith, word_end, some_before)

    some_text : 0 < text_len
    some_text = omega (arith, texts, line_length)

    -- **the parts of a line and what stands after it**
    pub line_parts_are : parts_in text (record {
      message = record { begin = 0; end = end };
      word = record { begin = begin; end = end };
      pointer = record { begin = 0; end = 0 };
      detail = record { begin = feed; end = text_len };
    }) ≡ line_parts line code Absent detail
    line_parts_are =
        same_parts _ _ _ _ _ _ _ _ (part_has text [] line (10 ∷ detail) 0 end refl refl end_is some_end)
        (part_has text before_word word (10 ∷ detail) begin end at_word begin_is word_end some_end) refl
        (part_has text (line ++ (10 ∷ [])) detail [] feed text_len at_detail feed_is text_end some_text)

-- ---- a JSON pointer

module _ (name : List ℕ) (path : List PathStep) (code : Code) where
  abbrev pub about_path : List ℕ
  about_path = name ++ (codes ":" ++ pointer path)

  -- what stands after the pointer
  abbrev after_path : List ℕ
  after_path = codes ": " ++ (number about_path code [] ++ (codes " " ++ (word about_path code [] ++ (10 ∷ []))))

  at_path : text about_path code [] ≡ (name ++ codes ":") ++ (pointer path ++ after_path)
  at_path =
      regrouped_path name (codes ":") (pointer path) (codes ": ") (number about_path code []) (codes " ")
      (word about_path code []) (10 ∷ [])

  path_length : length (before_word about_path code [])
      ≡ length name + (1 + (length (pointer path) + (2 + (length (number about_path code []) + 1))))
  path_length =
      length_path name (codes ":") (pointer path) (codes ": ") (number about_path code []) (codes " ")

  name_length : length (name ++ codes ":") ≡ length name + 1
  name_length = length-append name (codes ":")

  module _ (text_len begin end word_begin : ℕ) (texts : text_len ≡ length (text about_path code []))
      (begins : begin ≡ length name + 1) (word_begins : word_begin ≡ text_len - 0 - 1 - length (code_word code))
      (ends : end ≡ word_begin - number_length code) where
    word_begin_is : word_begin ≡ length (before_word about_path code [])
    word_begin_is =
        begin_is about_path code [] text_len 0 (text_len - 0) (text_len - 0 - 1) word_begin refl texts refl refl
        word_begins

    path_begin : begin ≡ length (name ++ codes ":")
    path_begin = begins ∙ sym name_length

    path_end : end ≡ length (name ++ codes ":") + length (pointer path)
    path_end = omega (arith, ends, word_begin_is, path_length, digits code, name_length)

    pointer_is : part_in (text about_path code []) (record { begin = begin; end = end }) ≡ Has (pointer path)
    pointer_is =
        part_has (text about_path code []) (name ++ codes ":") (pointer path) after_path begin end at_path path_begin
        path_end (omega (arith, path_end, name_length))

    -- **the parts of a line with a JSON pointer**, by those of the line
    pub pointer_parts_are : (parts : TextParts)
        → parts_in (pointer_line name path code ++ (10 ∷ [])) parts
        ≡ line_parts (pointer_line name path code) code Absent []
        → parts_in (pointer_line name path code ++ (10 ∷ [])) (record {
          message = parts.message;
          word = parts.word;
          pointer = record { begin = begin; end = end };
          detail = parts.detail;
        }) ≡ line_parts (pointer_line name path code) code (Has (pointer path)) []
    pointer_parts_are parts are =
        same_parts _ _ _ _ _ _ _ _ (ap (λ p. p.message) are) (ap (λ p. p.word) are) pointer_is
        (ap (λ p. p.detail) are)
