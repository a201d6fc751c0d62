-- What `marks` has found so far, and what it will find.
use Rattle.std.proofs.Common.{◌≡◌, ℕ, ◌+◌, ◌-◌, ◌<◌, ◌≤◌, zero, suc, List, [], ◌∷◌, ◌++◌, length, take, drop, refl, sym}
use Rattle.std.proofs.Common.{ap, ◌∙◌, append-nil, append_assoc, length-append, encode_utf8, true, false, not, nat_lt}
use Rattle.std.proofs.Common.{if◌then◌else◌, inl, inr, arith}
use Rattle.std.proofs.lemmas.Bool.{cond-true, cond-false, cases_lt, lt-ltb, le-ltb}
use Rattle.std.proofs.lemmas.List.{take-append-le, nil_from_length}
use Rattle.std.proofs.lemmas.Str.{IsUtf8-past_char, chars_past_char, chars-nil}
use Rattle.std.proofs.Math.Seq.{take-length, take-append_seam}
use Rattle.std.specs.Str.{IsUtf8, chars}
use Rattle.bidi_class.specs.Pairs.{is_initiator, is_closing}
use Rattle.bidi_text.specs.Clean.{dropped_bytes}
use Rattle.bidi_text.proofs.Isolates.{lone_closings}
use Rattle.bidi_text.proofs.LoneBytes.{drop-nil, lone_bytes, lone_bytes-begins, lone_bytes-ends, lone_bytes-stays}
use Rattle.bidi_text.proofs.LoneBytes.{dropped_bytes-lone_bytes}

-- the lone PDIs found, the open initiators that the rest closes none of, and what the rest leaves out
abbrev pub settled : List ℕ → List ℕ → ℕ → List ℕ → List ℕ
settled lone begun at cs = lone ++ (take (length begun - lone_closings cs) begun ++ lone_bytes (length begun) at cs)

-- nothing is taken of none
take-nil : (n : ℕ) → take {A = ℕ} n [] ≡ []
take-nil zero = refl
take-nil (suc n) = refl

-- which of the open initiators stay open, with one more that stays open where the rest closes none
kept_with_one : (begun : List ℕ) (at closed : ℕ)
    → take ((length begun + 1) - closed) (begun ++ at ∷ []) ≡ take (length begun - (closed - 1)) begun ++
    (if not (nat_lt 0 closed) then at ∷ [] else [])
kept_with_one begun at closed =
    elim (cases_lt 0 closed) [
      | inl some ↦
          let shown : not (nat_lt 0 closed) ≡ false = ap not (lt-ltb 0 closed some) in
          let count : (length begun + 1) - closed ≡ length begun - (closed - 1) = omega arith in
          ap (λ n. take n (begun ++ at ∷ [])) count ∙ take-append-le (length begun - (closed - 1)) begun (at ∷ [])
          (omega arith)
          ∙ sym (append-nil (take (length begun - (closed - 1)) begun))
          ∙ ap (λ t. take (length begun - (closed - 1)) begun ++ (if t then at ∷ [] else [])) (sym shown)
      | inr none ↦
          let shown : not (nat_lt 0 closed) ≡ true = ap not (le-ltb 0 closed none) in
          let all : (length begun + 1) - closed ≡ length (begun ++ at ∷ []) =
          omega (arith, length-append begun (at ∷ [])) in
          let rest : length begun - (closed - 1) ≡ length begun = omega arith in
          ap (λ n. take n (begun ++ at ∷ [])) all ∙ take-length (begun ++ at ∷ [])
          ∙ ap (λ l. l ++ at ∷ []) (sym (take-length begun)) ∙ ap (λ n. take n begun ++ at ∷ []) (sym rest)
          ∙ ap (λ t. take (length begun - (closed - 1)) begun ++ (if t then at ∷ [] else [])) (sym shown)
    ]

-- one more initiator
settled-begins : (lone begun : List ℕ) (at c : ℕ) (cs : List ℕ) → is_initiator c ≡ true
    → settled lone (begun ++ at ∷ []) (at + length (encode_utf8 c)) cs ≡ settled lone begun at (c ∷ cs)
settled-begins lone begun at c cs b =
    let next : ℕ = at + length (encode_utf8 c) in
    let more : length (begun ++ at ∷ []) ≡ length begun + 1 = length-append begun (at ∷ []) in
    let fewer : lone_closings (c ∷ cs) ≡ lone_closings cs - 1 = cond-true _ _ _ b in
    let shown : List ℕ = if not (nat_lt 0 (lone_closings cs)) then at ∷ [] else [] in
    ap (λ n. lone ++ (take (n - lone_closings cs) (begun ++ at ∷ []) ++ lone_bytes n next cs)) more
    ∙ ap (λ l. lone ++ (l ++ lone_bytes (length begun + 1) next cs)) (kept_with_one begun at (lone_closings cs))
    ∙ ap (λ l. lone ++ l) (append_assoc (take (length begun - (lone_closings cs - 1)) begun) shown
    (lone_bytes (length begun + 1) next cs))
    ∙ ap (λ l. lone ++ (take (length begun - (lone_closings cs - 1)) begun ++ l))
    (lone_bytes-begins (length begun) at c cs b)
    ∙ ap (λ n. lone ++ (take (length begun - n) begun ++ lone_bytes (length begun) at (c ∷ cs))) (sym fewer)

-- a PDI that closes the last open initiator
settled-closes : (lone begun : List ℕ) (last at c : ℕ) (cs : List ℕ) → is_initiator c ≡ false → is_closing c ≡ true
    → settled lone begun (at + length (encode_utf8 c)) cs ≡ settled lone (begun ++ last ∷ []) at (c ∷ cs)
settled-closes lone begun last at c cs b e =
    let next : ℕ = at + length (encode_utf8 c) in
    let more : length (begun ++ last ∷ []) ≡ length begun + 1 = length-append begun (last ∷ []) in
    let one_more : lone_closings (c ∷ cs) ≡ lone_closings cs + 1 = cond-false _ _ _ b ∙ cond-true _ _ _ e in
    let count : length begun - lone_closings cs ≡ (length begun + 1) - (lone_closings cs + 1) = omega arith in
    let hidden : not (nat_lt 0 (length begun + 1)) ≡ false = ap not (lt-ltb 0 (length begun + 1) (omega arith)) in
    let same : length begun ≡ (length begun + 1) - 1 = omega arith in
    ap (λ l. lone ++ (l ++ lone_bytes (length begun) next cs))
    (sym (take-append-le (length begun - lone_closings cs) begun (last ∷ []) (omega arith)))
    ∙ ap (λ n. lone ++ (take n (begun ++ last ∷ []) ++ lone_bytes (length begun) next cs)) count
    ∙ ap (λ n. lone ++ (take ((length begun + 1) - (lone_closings cs + 1)) (begun ++ last ∷ []) ++ lone_bytes n next
    cs)) same
    ∙ ap (λ t. lone ++ (take ((length begun + 1) - (lone_closings cs + 1)) (begun ++ last ∷ [])
    ++ ((if t then at ∷ [] else []) ++ lone_bytes ((length begun + 1) - 1) next cs))) (sym hidden)
    ∙ ap (λ l. lone ++ (take ((length begun + 1) - (lone_closings cs + 1)) (begun ++ last ∷ []) ++ l))
    (lone_bytes-ends (length begun + 1) at c cs b e)
    ∙ ap (λ n. lone ++ (take ((length begun + 1) - n) (begun ++ last ∷ []) ++ lone_bytes (length begun + 1) at
    (c ∷ cs))) (sym one_more)
    ∙ ap (λ n. lone ++ (take (n - lone_closings (c ∷ cs)) (begun ++ last ∷ []) ++ lone_bytes n at (c ∷ cs))) (sym more)

-- a PDI where none is open
settled-lone : (lone : List ℕ) (at c : ℕ) (cs : List ℕ) → is_initiator c ≡ false → is_closing c ≡ true
    → settled (lone ++ at ∷ []) [] (at + length (encode_utf8 c)) cs ≡ settled lone [] at (c ∷ cs)
settled-lone lone at c cs b e =
    let next : ℕ = at + length (encode_utf8 c) in
    ap (λ l. (lone ++ at ∷ []) ++ (l ++ lone_bytes 0 next cs)) (take-nil (0 - lone_closings cs))
    ∙ append_assoc lone (at ∷ []) (lone_bytes 0 next cs)
    ∙ ap (λ l. lone ++ l) (lone_bytes-ends 0 at c cs b e)
    ∙ ap (λ l. lone ++ (l ++ lone_bytes 0 at (c ∷ cs))) (sym (take-nil (0 - lone_closings (c ∷ cs))))

-- another character
settled-stays : (lone begun : List ℕ) (at c : ℕ) (cs : List ℕ) → is_initiator c ≡ false → is_closing c ≡ false
    → settled lone begun (at + length (encode_utf8 c)) cs ≡ settled lone begun at (c ∷ cs)
settled-stays lone begun at c cs b e =
    let next : ℕ = at + length (encode_utf8 c) in
    let same : lone_closings (c ∷ cs) ≡ lone_closings cs = cond-false _ _ _ b ∙ cond-false _ _ _ e in
    ap (λ l. lone ++ (take (length begun - lone_closings cs) begun ++ l)) (lone_bytes-stays (length begun) at c cs b e)
    ∙ ap (λ n. lone ++ (take (length begun - n) begun ++ lone_bytes (length begun) at (c ∷ cs))) (sym same)

-- a list that is not empty has a last element
last_split : (xs : List ℕ) → 0 < length xs → (prefix : List ℕ) × (last : ℕ) × (xs ≡ prefix ++ last ∷ [])
last_split [] some = absurd (omega arith)
last_split (x ∷ []) some = ([], x, refl)
last_split (x ∷ y ∷ xs) some = let rest = last_split (y ∷ xs) (omega arith) in
    (x ∷ rest.0, rest.1, ap (λ l. x ∷ l) rest.2)

-- the loop's invariant: the offsets found are lone PDIs, so many, and then open initiators
pub record Marking (offsets : List ℕ) (closings at : ℕ) (rest text : List ℕ) : Type 0 where
  pub lone : List ℕ
  pub begun : List ℕ
  pub parts : offsets ≡ lone ++ begun
  pub count : length lone ≡ closings
  pub finds : settled lone begun at (chars rest) ≡ dropped_bytes (chars text)
  pub utf8 : IsUtf8 rest
  pub bounded : at + length rest ≡ length text

-- a character was read from the prefix of the bytes
pub record ReadsOne (c at next : ℕ) (bytes rest : List ℕ) : Type 0 where
  pub split : bytes ≡ encode_utf8 c ++ rest
  pub past : next ≡ at + length (encode_utf8 c)

-- what that says of the rest and of the characters
reads_utf8 : {c at next : ℕ} {bytes rest : List ℕ} → IsUtf8 bytes → ReadsOne c at next bytes rest → IsUtf8 rest
reads_utf8 {c} {at} {next} {bytes} {rest} utf8 reads = IsUtf8-past_char bytes rest c utf8 reads.split

reads_bounded : {c at next : ℕ} {bytes rest : List ℕ} (size : ℕ) → ReadsOne c at next bytes rest
    → at + length bytes ≡ size → next + length rest ≡ size
reads_bounded {c} {at} {next} {bytes} {rest} size reads bounded =
    omega (arith, reads.past, ap length reads.split, length-append (encode_utf8 c) rest)

-- an invariant of what is settled goes on
settled_next : (lone begun lone' begun' : List ℕ) (c at next : ℕ) (bytes rest text : List ℕ) → IsUtf8 bytes
    → ReadsOne c at next bytes rest
    → settled lone' begun' (at + length (encode_utf8 c)) (chars rest) ≡ settled lone begun at (c ∷ chars rest)
    → settled lone begun at (chars bytes) ≡ dropped_bytes (chars text) → settled lone' begun' next (chars rest)
    ≡ dropped_bytes (chars text)
settled_next lone begun lone' begun' c at next bytes rest text utf8 reads step finds =
    ap (λ n. settled lone' begun' n (chars rest)) reads.past ∙ step
    ∙ ap (λ cs. settled lone begun at cs) (sym (chars_past_char bytes rest c utf8 reads.split)) ∙ finds

-- nothing is found before the text
pub marking_start : (text : List ℕ) → IsUtf8 text → Marking [] 0 0 text text
marking_start text utf8 = record {
  lone = [];
  begun = [];
  parts = refl;
  count = refl;
  finds = ap (λ l. l ++ lone_bytes 0 0 (chars text)) (take-nil (0 - lone_closings (chars text)))
      ∙ sym (dropped_bytes-lone_bytes (chars text));
  utf8 = utf8;
  bounded = omega arith;
}

module _ {offsets : List ℕ} {closings at next c : ℕ} {bytes rest text : List ℕ}
    (marking : Marking offsets closings at bytes text) (reads : ReadsOne c at next bytes rest) where
  -- an initiator was added
  pub marking_begins : (offsets' : List ℕ) → is_initiator c ≡ true → offsets' ≡ offsets ++ at ∷ []
      → Marking offsets' closings next rest text
  marking_begins offsets' b added = record {
    lone = marking.lone;
    begun = marking.begun ++ at ∷ [];
    parts = added ∙ ap (λ l. l ++ at ∷ []) marking.parts ∙ append_assoc marking.lone marking.begun (at ∷ []);
    count = marking.count;
    finds = settled_next marking.lone marking.begun marking.lone (marking.begun ++ at ∷ []) c at next bytes rest text
        marking.utf8 reads
        (settled-begins marking.lone marking.begun at c (chars rest) b) marking.finds;
    utf8 = reads_utf8 marking.utf8 reads;
    bounded = reads_bounded (length text) reads marking.bounded;
  }

  -- the last open initiator was taken
  pub marking_closes : (offsets' : List ℕ) → is_initiator c ≡ false → is_closing c ≡ true → closings < length offsets
      → offsets' ≡ take (length offsets - 1) offsets → Marking offsets' closings next rest text
  marking_closes offsets' b e some taken =
      let split = last_split marking.begun
      (omega (arith, marking.count, ap length marking.parts, length-append marking.lone marking.begun)) in
      let prefix : List ℕ = split.0 in
      let last : ℕ = split.1 in
      let whole : offsets ≡ (marking.lone ++ prefix) ++ last ∷ [] =
      marking.parts ∙ ap (λ l. marking.lone ++ l) split.2 ∙ sym (append_assoc marking.lone prefix (last ∷ [])) in
      let shorter : length offsets - 1 ≡ length (marking.lone ++ prefix) =
      omega (arith, ap length whole, length-append (marking.lone ++ prefix) (last ∷ [])) in
      record {
        lone = marking.lone;
        begun = prefix;
        parts = taken ∙ ap (λ n. take n offsets) shorter ∙ ap (λ l. take (length (marking.lone ++ prefix)) l) whole
            ∙ take-append_seam (marking.lone ++ prefix) (last ∷ []);
        count = marking.count;
        finds = settled_next marking.lone (prefix ++ last ∷ []) marking.lone prefix c at next bytes rest text
            marking.utf8 reads
            (settled-closes marking.lone prefix last at c (chars rest) b e)
            (ap (λ l. settled marking.lone l at (chars bytes)) (sym split.2) ∙ marking.finds);
        utf8 = reads_utf8 marking.utf8 reads;
        bounded = reads_bounded (length text) reads marking.bounded;
      }

  -- a lone PDI was added
  pub marking_lone : (offsets' : List ℕ) → is_initiator c ≡ false → is_closing c ≡ true → length offsets ≤ closings
      → offsets' ≡ offsets ++ at ∷ [] → Marking offsets' (closings + 1) next rest text
  marking_lone offsets' b e none added =
      let empty : marking.begun ≡ [] =
      nil_from_length marking.begun
      (omega (arith, marking.count, ap length marking.parts, length-append marking.lone marking.begun)) in
      let whole : offsets ≡ marking.lone = marking.parts ∙ ap (λ l. marking.lone ++ l) empty
      ∙ append-nil marking.lone in
      record {
        lone = marking.lone ++ at ∷ [];
        begun = [];
        parts = added ∙ ap (λ l. l ++ at ∷ []) whole ∙ sym (append-nil (marking.lone ++ at ∷ []));
        count = length-append marking.lone (at ∷ []) ∙ ap (λ n. n + 1) marking.count;
        finds = settled_next marking.lone [] (marking.lone ++ at ∷ []) [] c at next bytes rest text marking.utf8 reads
            (settled-lone marking.lone at c (chars rest) b e)
            (ap (λ l. settled marking.lone l at (chars bytes)) (sym empty) ∙ marking.finds);
        utf8 = reads_utf8 marking.utf8 reads;
        bounded = reads_bounded (length text) reads marking.bounded;
      }

  -- nothing was done
  pub marking_stays : is_initiator c ≡ false → is_closing c ≡ false → Marking offsets closings next rest text
  marking_stays b e = record {
    lone = marking.lone;
    begun = marking.begun;
    parts = marking.parts;
    count = marking.count;
    finds = settled_next marking.lone marking.begun marking.lone marking.begun c at next bytes rest text marking.utf8
        reads
        (settled-stays marking.lone marking.begun at c (chars rest) b e) marking.finds;
    utf8 = reads_utf8 marking.utf8 reads;
    bounded = reads_bounded (length text) reads marking.bounded;
  }

-- all is found where nothing is left
pub marking_end : {offsets : List ℕ} {closings at : ℕ} {rest text : List ℕ} → Marking offsets closings at rest text
    → length rest ≡ 0 → offsets ≡ dropped_bytes (chars text)
marking_end {offsets} {closings} {at} {rest} {text} marking none =
    let no_chars : chars rest ≡ [] = ap chars (nil_from_length rest none) ∙ chars-nil in
    let n : ℕ = length marking.begun in
    let all : n ≡ n - 0 = omega arith in
    marking.parts ∙ ap (λ l. marking.lone ++ l)
    (sym (take-length marking.begun) ∙ ap (λ k. take k marking.begun) all
    ∙ sym (append-nil (take (n - 0) marking.begun)) ∙ ap (λ l. take (n - 0) marking.begun ++ l)
    (sym (append-nil (drop n []) ∙ drop-nil n)))
    ∙ ap (λ cs. settled marking.lone marking.begun at cs) (sym no_chars) ∙ marking.finds
