-- Texts as bytes and as characters: where a text is cut, its characters are, and how many bytes they take.
use Rattle.std.proofs.Common.{◌≡◌, ◌≢◌, ℕ, ◌+◌, ◌-◌, ◌<◌, ◌≤◌, Bool, true, false, not, List, [], ◌∷◌, ◌++◌, Option}
use Rattle.std.proofs.Common.{Some, None, ◌==◌, option_map, MatchOption, IfSome, length, take, drop, Bor, refl, sym, ap}
use Rattle.std.proofs.Common.{subst, ◌∙◌, arith, encode_utf8, encode_utf8_all, length-append}
use Rattle.std.specs.Option.{option_or}
use Rattle.std.specs.Str.{bytes_eq, chars, IsUtf8, IsCharBoundary, NoCharPasses, NonePass}
use Rattle.std.specs.Str.Pattern.{FindsTextPrefix, StripsPrefix, FindsText, SplitsAroundMatch, HasPassingCharAt}
use Rattle.std.proofs.lemmas.Bool.Decides.{nat_tests, same_from_decides}
use Rattle.std.proofs.lemmas.Slice.Eq.{bytes_eq-Decides}
use Rattle.std.proofs.lemmas.Str.{chars-append, chars-nil, encodes-chars, encodes-append, chars_past_char}
use Rattle.std.proofs.lemmas.Str.{chars_from_encodes, length-encode, len_utf8_bounds, chars-IsAscii, IsUtf8-append}
use Rattle.std.proofs.lemmas.Str.{IsUtf8-take, IsUtf8-drop, IsCharBoundary-at_seam}
use Rattle.std.proofs.lemmas.Str.Ascii.{IsAscii-cons, IsAscii-nil}
use Rattle.std.proofs.lemmas.Str.Pattern.{split_text_parts}
use Rattle.std.proofs.lemmas.List.{take-append-drop}
use Rattle.std.proofs.Math.Seq.{drop-append_seam, take-append_seam}
use Rattle.soy_base.specs.ByteLength.{byte_len}
use Rattle.soy_base.specs.Cuts.{after_prefix, cut, is_nil, prefix_while, after_while}

-- a text takes as many bytes as its characters
byte_len-encodes : (cs : List ℕ) → byte_len cs ≡ length (encode_utf8_all cs)
byte_len-encodes [] = refl
byte_len-encodes (c ∷ cs) =
    omega (arith, byte_len-encodes cs, length-encode c, length-append (encode_utf8 c) (encode_utf8_all cs))

pub byte_len-chars : (text : List ℕ) → IsUtf8 text → byte_len (chars text) ≡ length text
byte_len-chars text utf8 = byte_len-encodes (chars text) ∙ ap length (encodes-chars text utf8)

pub byte_len-append : (prefix back : List ℕ) → byte_len (prefix ++ back) ≡ byte_len prefix + byte_len back
byte_len-append [] back = omega arith
byte_len-append (c ∷ cs) back = omega (arith, byte_len-append cs back)

-- a text with bytes has characters
some_encoded : (cs text : List ℕ) → encode_utf8_all cs ≡ text → 0 < length text → 0 < length cs
some_encoded [] text e some = omega (arith, ap length e, some)
some_encoded (c ∷ cs) text e some = omega arith

pub some_characters : (text : List ℕ) → IsUtf8 text → 0 < length text → 0 < length (chars text)
some_characters text utf8 some = some_encoded (chars text) text (encodes-chars text utf8) some

-- the first character that `next` of `chars` gives
pub next-first : (text before rest after : List ℕ) (c : ℕ) → IsUtf8 text → before ≡ text
    → before ≡ encode_utf8 c ++ rest → after ≡ rest → chars text ≡ c ∷ chars after
next-first text before rest after c utf8 same split left =
    chars_past_char text rest c utf8 (sym same ∙ split) ∙ ap (λ l. c ∷ chars l) (sym left)

-- an ASCII byte is its character
pub chars-byte : (b : ℕ) → b < 128 → chars (b ∷ []) ≡ b ∷ []
chars-byte b low = chars-IsAscii (b ∷ []) (IsAscii-cons b [] low IsAscii-nil)

-- an option that can't be Some
none_of : {A : Type 0} (r : Option A) → ((x : A) → r ≢ Some x) → r ≡ None
none_of None h = refl
none_of (Some x) h = absurd (h x refl)

-- what follows a prefix is found
pub after_prefix-append : (prefix rest : List ℕ) → after_prefix prefix (prefix ++ rest) ≡ Some rest
after_prefix-append [] rest = refl
after_prefix-append (f ∷ fs) rest = grind (arith, nat_tests, after_prefix-append fs rest)

-- and where it is found, the text is the prefix and that
pub after_prefix-whole : (prefix text rest : List ℕ) → after_prefix prefix text ≡ Some rest → text ≡ prefix ++ rest
after_prefix-whole [] text rest h = cc
after_prefix-whole (f ∷ fs) [] rest h = cc
after_prefix-whole (f ∷ fs) (c ∷ cs) rest h = grind (arith, nat_tests, after_prefix-whole fs cs rest)

pub after_prefix-none : (prefix text : List ℕ) → ((rest : List ℕ) → text ≢ prefix ++ rest)
    → after_prefix prefix text ≡ None
after_prefix-none prefix text h =
    none_of (after_prefix prefix text) (λ rest e. h rest (after_prefix-whole prefix text rest e))

-- a text without the delimiter isn't cut
pub cut-none : (delimiter text : List ℕ) → ((prefix back : List ℕ) → text ≢ prefix ++ (delimiter ++ back))
    → cut delimiter text ≡ None
cut-none delimiter [] h = refl
cut-none delimiter (c ∷ cs) h =
    let here : after_prefix delimiter (c ∷ cs) ≡ None = after_prefix-none delimiter (c ∷ cs) (h []) in
    let later : cut delimiter cs ≡ None =
    cut-none delimiter cs (λ prefix back e. h (c ∷ prefix) back (ap (λ l. c ∷ l) e)) in
    rw (here, later) refl

-- a text is cut at the first delimiter in it
pub cut-first : (delimiter prefix back : List ℕ) → 0 < length delimiter
    → ((a rest : List ℕ) → length a < length prefix → prefix ++ (delimiter ++ back) ≢ a ++ (delimiter ++ rest))
    → cut delimiter (prefix ++ (delimiter ++ back)) ≡ Some (prefix, back)
cut-first [] [] back some h = absurd (omega (arith, some))
cut-first (m ∷ ms) [] back some h = rw (after_prefix-append (m ∷ ms) back) refl
cut-first delimiter (c ∷ cs) back some h =
    let here : after_prefix delimiter (c ∷ (cs ++ (delimiter ++ back))) ≡ None =
    after_prefix-none delimiter (c ∷ (cs ++ (delimiter ++ back))) (λ rest. h [] rest (omega arith)) in
    let later : cut delimiter (cs ++ (delimiter ++ back)) ≡ Some (cs, back) =
    cut-first delimiter cs back some (λ a rest l e. h (c ∷ a) rest (omega (arith, l)) (ap (λ l. c ∷ l) e)) in
    rw (here, later) refl

-- the parts of a cut with the delimiter between them are the text
pub cut-whole : (delimiter text : List ℕ)
    → IfSome (cut delimiter text) (λ parts. text ≡ parts.0 ++ (delimiter ++ parts.1))
cut-whole delimiter [] = tt
cut-whole delimiter (c ∷ cs) = whole_by (after_prefix delimiter (c ∷ cs)) (cut delimiter cs)
    (λ rest e. after_prefix-whole delimiter (c ∷ cs) rest e) (cut-whole delimiter cs)
  where
    whole_by : (here : Option (List ℕ)) (later : Option (List ℕ × List ℕ))
        → ((rest : List ℕ) → here ≡ Some rest → c ∷ cs ≡ delimiter ++ rest)
        → IfSome later (λ parts. cs ≡ parts.0 ++ (delimiter ++ parts.1)) →
        IfSome {T = List ℕ × List ℕ}
        (option_or (option_map (λ rest. ([], rest)) here) (option_map (λ parts. (c ∷ parts.0, parts.1)) later))
        (λ parts. c ∷ cs ≡ parts.0 ++ (delimiter ++ parts.1))
    whole_by (Some rest) later h k = h rest refl
    whole_by None None h k = tt
    whole_by None (Some parts) h k = ap (λ l. c ∷ l) k

-- of two prefixes of one text the shorter one takes fewer bytes
shorter_prefix : (a b x y : List ℕ) → a ++ x ≡ b ++ y → length a < length b
    → length (encode_utf8_all a) < length (encode_utf8_all b)
shorter_prefix a [] x y e l = absurd (omega (arith, l))
shorter_prefix [] (d ∷ ds) x y e l =
    omega (arith, length-append (encode_utf8 d) (encode_utf8_all ds), length-encode d, len_utf8_bounds d)
shorter_prefix (c ∷ cs) (d ∷ ds) x y e l =
    let same : c ≡ d = cc in
    let fewer : length (encode_utf8_all cs) < length (encode_utf8_all ds) =
    shorter_prefix cs ds x y (cc) (omega (arith, l)) in
    omega (
      arith,
      fewer,
      ap (λ c. length (encode_utf8 c)) same,
      length-append (encode_utf8 c) (encode_utf8_all cs),
      length-append (encode_utf8 d) (encode_utf8_all ds),
    )

-- the bytes of a prefix, a delimiter and a back
spelled_cut : (text delimiter prefix back : List ℕ) → IsUtf8 text → IsUtf8 delimiter
    → chars text ≡ prefix ++ (chars delimiter ++ back)
    → text ≡ encode_utf8_all prefix ++ (delimiter ++ encode_utf8_all back)
spelled_cut text delimiter prefix back utf8 utf8_delimiter e =
    sym (encodes-chars text utf8) ∙ ap encode_utf8_all e ∙ encodes-append prefix (chars delimiter ++ back)
    ∙ ap (λ l. encode_utf8_all prefix ++ l) (encodes-append (chars delimiter) back
    ∙ ap (λ l. l ++ encode_utf8_all back) (encodes-chars delimiter utf8_delimiter))

-- what `split_once` gives is the cut
abbrev view_parts : Option (Bor (List ℕ) × Bor (List ℕ)) → Option (List ℕ × List ℕ)
view_parts o = option_map (λ parts. (chars parts.0.now, chars parts.1.now)) o

module _ (delimiter text : List ℕ) (utf8_delimiter : IsUtf8 delimiter) (utf8 : IsUtf8 text) where
  split_none : ((xs ys : List ℕ) → text ≢ xs ++ (delimiter ++ ys)) → cut (chars delimiter) (chars text) ≡ None
  split_none h = cut-none (chars delimiter) (chars text)
      (λ prefix back e. h (encode_utf8_all prefix) (encode_utf8_all back)
      (spelled_cut text delimiter prefix back utf8 utf8_delimiter e))

  split_some : (x : Bor (List ℕ) × Bor (List ℕ)) → 0 < length delimiter → SplitsAroundMatch (FindsText delimiter) text
      x.0.now x.1.now → cut (chars delimiter) (chars text) ≡ Some (chars x.0.now, chars x.1.now)
  split_some x some h =
      let whole : text ≡ x.0.now ++ (delimiter ++ x.1.now) = split_text_parts delimiter text (Some x) h in
      let after : IsCharBoundary text h.1 = let P : ℕ → Type 0 = IsCharBoundary text in
      subst P (sym h.2.1.ends) h.2.1.after in
      let utf8_rest : IsUtf8 x.1.now = subst IsUtf8 (sym h.4) (IsUtf8-drop text h.1 utf8 after) in
      let before : IsCharBoundary text (length x.0.now) = IsCharBoundary-at_seam text x.0.now (delimiter ++ x.1.now)
      whole (IsUtf8-append delimiter x.1.now utf8_delimiter utf8_rest) in
      let utf8_prefix : IsUtf8 x.0.now = subst IsUtf8 (ap (λ n. take n text) h.6 ∙ sym h.3)
      (IsUtf8-take text (length x.0.now) utf8 before) in
      let characters : chars text ≡ chars x.0.now ++ (chars delimiter ++ chars x.1.now) =
      ap chars whole ∙ chars-append x.0.now (delimiter ++ x.1.now) utf8_prefix
      ∙ ap (λ l. chars x.0.now ++ l) (chars-append delimiter x.1.now utf8_delimiter) in
      let lacks : (a rest : List ℕ) → length a < length (chars x.0.now)
      → chars x.0.now ++ (chars delimiter ++ chars x.1.now) ≢ a ++ (chars delimiter ++ rest) =
      λ a rest l e.
      let spelled : text ≡ encode_utf8_all a ++ (delimiter ++ encode_utf8_all rest) =
      spelled_cut text delimiter a rest utf8 utf8_delimiter (characters ∙ e) in
      let fewer = shorter_prefix a (chars x.0.now) (chars delimiter ++ rest) (chars delimiter ++ chars x.1.now)
      (sym e) l in
      h.2.0 (length (encode_utf8_all a)) (omega (arith, fewer, ap length (encodes-chars x.0.now utf8_prefix), h.6))
      (encode_utf8_all rest)
      (ap (drop (length (encode_utf8_all a))) spelled ∙ drop-append_seam (encode_utf8_all a)
      (delimiter ++ encode_utf8_all rest)) in
      ap (cut (chars delimiter)) characters ∙ cut-first (chars delimiter) (chars x.0.now) (chars x.1.now)
      (some_characters delimiter utf8_delimiter some) lacks

  pub split_once-cut : (r : Option (Bor (List ℕ) × Bor (List ℕ))) → 0 < length delimiter
      → MatchOption r (FindsText delimiter text None)
      (λ x. SplitsAroundMatch (FindsText delimiter) text x.0.now x.1.now)
      → view_parts r ≡ cut (chars delimiter) (chars text)
  split_once-cut None some h = sym (split_none (split_text_parts delimiter text None h))
  split_once-cut (Some x) some h = sym (split_some x some h)

-- what `find` gives where characters stop passing a test
module _ (passes : ℕ → Bool) where
  prefix_while-all : (cs : List ℕ) → NonePass (λ c. not (passes c)) cs → (prefix_while passes cs ≡ cs)
      × (after_while passes cs ≡ [])
  prefix_while-all [] h = (refl, refl)
  prefix_while-all (c ∷ cs) h =
      let later = prefix_while-all cs h.1 in
      (grind (arith, nat_tests, h.0, later.0), grind (arith, nat_tests, h.0, later.1))

  prefix_while-stops : (cs : List ℕ) (d : ℕ) (ds : List ℕ) → NonePass (λ c. not (passes c)) cs → not (passes d) ≡ true
      → (prefix_while passes (cs ++ (d ∷ ds)) ≡ cs) × (after_while passes (cs ++ (d ∷ ds)) ≡ d ∷ ds)
  prefix_while-stops [] d ds h stops = (grind (arith, nat_tests, stops), grind (arith, nat_tests, stops))
  prefix_while-stops (c ∷ cs) d ds h stops =
      let later = prefix_while-stops cs d ds h.1 stops in
      (grind (arith, nat_tests, h.0, later.0), grind (arith, nat_tests, h.0, later.1))

-- what `strip_prefix` gives is what follows the prefix
pub strip_prefix-after_prefix : (prefix text : List ℕ) (r : Option (Bor (List ℕ))) → IsUtf8 prefix → IsUtf8 text
    → MatchOption r (FindsTextPrefix prefix text None) (λ x. StripsPrefix (FindsTextPrefix prefix) text x.now)
    → option_map (λ x. chars x.now) r ≡ after_prefix (chars prefix) (chars text)
strip_prefix-after_prefix prefix text None utf8_prefix utf8 h =
    sym (after_prefix-none (chars prefix) (chars text)
    (λ rest e. h (encode_utf8_all rest) (spelled_cut text prefix [] rest utf8 utf8_prefix e)))
strip_prefix-after_prefix prefix text (Some x) utf8_prefix utf8 h =
    let whole : text ≡ prefix ++ x.now = h.1.1 ∙ ap (λ l. prefix ++ l) (sym h.2) in
    let characters : chars text ≡ chars prefix ++ chars x.now = ap chars whole ∙ chars-append prefix x.now utf8_prefix
    in
    sym (ap (after_prefix (chars prefix)) characters ∙ after_prefix-append (chars prefix) (chars x.now))

-- what `find` gives by the place where characters stop passing a test
module _ (passes : ℕ → Bool) (text : List ℕ) (utf8 : IsUtf8 text) where
  pub all_pass : NoCharPasses (λ c. not (passes c)) text → (chars text ≡ prefix_while passes (chars text))
      × (chars [] ≡ after_while passes (chars text))
  all_pass h =
      let same : h.0 ≡ chars text = chars_from_encodes h.0 text utf8 h.1 in
      let all = subst (NonePass (λ c. not (passes c))) same h.2 in
      let parts = prefix_while-all passes (chars text) all in
      (sym parts.0, chars-nil ∙ sym parts.1)

  pub stops_at : (end after : ℕ) (prefix back : List ℕ) → NoCharPasses (λ c. not (passes c)) (take end text)
      → HasPassingCharAt (λ c. not (passes c)) text end after → IsCharBoundary text end
      → prefix ≡ take end text → back ≡ drop end text → (chars prefix ≡ prefix_while passes (chars text))
      × (chars back ≡ after_while passes (chars text))
  stops_at end after prefix back passed stop boundary is_prefix is_back =
      let utf8_prefix : IsUtf8 (take end text) = IsUtf8-take text end utf8 boundary in
      let same : passed.0 ≡ chars (take end text) = chars_from_encodes passed.0 (take end text) utf8_prefix passed.1 in
      let passing = subst (NonePass (λ c. not (passes c))) same passed.2 in
      let rest : chars (drop end text) ≡ stop.0 ∷ chars (drop after text) =
      chars_past_char (drop end text) (drop after text) stop.0 (IsUtf8-drop text end utf8 boundary) stop.2.split in
      let whole : chars text ≡ chars (take end text) ++ (stop.0 ∷ chars (drop after text)) =
      ap chars (sym (take-append-drop end text)) ∙ chars-append (take end text) (drop end text) utf8_prefix
      ∙ ap (λ l. chars (take end text) ++ l) rest in
      let parts = prefix_while-stops passes (chars (take end text)) stop.0 (chars (drop after text)) passing stop.1 in (
        ap chars is_prefix ∙ sym (ap (prefix_while passes) whole ∙ parts.0),
        ap chars is_back ∙ rest
            ∙ sym (ap (after_while passes) whole ∙ parts.1),
      )

-- what stands in a text before its rest
module _ (text rest prefix : List ℕ) (utf8 : IsUtf8 text) (utf8_rest : IsUtf8 rest)
    (whole : chars text ≡ prefix ++ chars rest) where
  abbrev end : ℕ
  end = length text - length rest

  spelled_prefix : text ≡ encode_utf8_all prefix ++ rest
  spelled_prefix =
      sym (encodes-chars text utf8) ∙ ap encode_utf8_all whole ∙ encodes-append prefix (chars rest)
      ∙ ap (λ l. encode_utf8_all prefix ++ l) (encodes-chars rest utf8_rest)

  both : length text ≡ length (encode_utf8_all prefix) + length rest
  both = ap length spelled_prefix ∙ length-append (encode_utf8_all prefix) rest

  pub rest_within : length rest ≤ length text
  rest_within = omega (arith, both)

  prefix_end : length (encode_utf8_all prefix) ≡ end
  prefix_end = omega (arith, both)

  pub prefix_boundary : IsCharBoundary text end
  prefix_boundary = let P : ℕ → Type 0 = IsCharBoundary text in
      subst P prefix_end (IsCharBoundary-at_seam text (encode_utf8_all prefix) rest spelled_prefix utf8_rest)

  prefix_bytes : take end text ≡ encode_utf8_all prefix
  prefix_bytes = ap (take end) spelled_prefix ∙ ap (λ n. take n (encode_utf8_all prefix ++ rest)) (sym prefix_end)
      ∙ take-append_seam (encode_utf8_all prefix) rest

  pub prefix_characters : (part : List ℕ) → IsUtf8 part → part ≡ take end text → chars text ≡ chars part ++ chars rest
  prefix_characters part utf8_part is =
      whole ∙ ap (λ l. l ++ chars rest) (chars_from_encodes prefix part utf8_part (sym (is ∙ prefix_bytes)))

-- a list with characters is not empty
some_not_nil : (cs : List ℕ) → 0 < length cs → false ≡ is_nil cs
some_not_nil [] some = absurd (omega (arith, some))
some_not_nil (c ∷ cs) some = refl

-- a text has bytes exactly where it has characters
empty_nil : (bytes : List ℕ) → IsUtf8 bytes → (length bytes == 0) ≡ is_nil (chars bytes)
empty_nil [] utf8 = rw chars-nil refl
empty_nil (b ∷ bs) utf8 =
    let no : (length (b ∷ bs) == 0) ≡ false = grind (arith, nat_tests) in
    no ∙ some_not_nil (chars (b ∷ bs)) (some_characters (b ∷ bs) utf8 (omega arith))

-- so a test of its bytes is one of its characters
pub no_bytes : (bytes seen : List ℕ) (result : Bool) → IsUtf8 bytes → seen ≡ bytes → result ≡ (length seen == 0)
    → result ≡ is_nil (chars bytes)
no_bytes bytes seen result utf8 e r = r ∙ (ap (λ l. length l == 0) e ∙ empty_nil bytes utf8)

-- texts of the same characters are the same
pub chars-injective : (a b : List ℕ) → IsUtf8 a → IsUtf8 b → chars a ≡ chars b → a ≡ b
chars-injective a b utf8_a utf8_b same =
    sym (encodes-chars a utf8_a) ∙ ap encode_utf8_all same ∙ encodes-chars b utf8_b

-- so a comparison of bytes is one of characters
pub bytes_eq-chars : (a b : List ℕ) → IsUtf8 a → IsUtf8 b → bytes_eq a b ≡ bytes_eq (chars a) (chars b)
bytes_eq-chars a b utf8_a utf8_b =
    same_from_decides (bytes_eq a b) (bytes_eq (chars a) (chars b)) (bytes_eq-Decides a b) (
      (λ e. chars-injective a b utf8_a utf8_b ((bytes_eq-Decides (chars a) (chars b)).0 e)),
      (λ e. (bytes_eq-Decides (chars a) (chars b)).1 (ap chars e)),
    )
