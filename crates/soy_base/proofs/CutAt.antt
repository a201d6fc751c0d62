-- Texts cut at one character, and split at each.
use Rattle.std.proofs.Common.{◌≡◌, ℕ, ◌<◌, Some, None, true, false, not, cond, eqb, ◌==◌, ◌||◌, ◌&&◌, Bool, List, []}
use Rattle.std.proofs.Common.{◌∷◌, ◌++◌, Option, option_map, MatchOption, Bor, length, take, drop, refl, sym, ap, ◌∙◌}
use Rattle.std.proofs.Common.{arith, length-drop, length-append, take-append-drop}
use Rattle.std.specs.List.{slice_split, onto_first}
use Rattle.std.specs.Option.{option_or}
use Rattle.std.specs.Str.{chars, IsUtf8, NoCharPasses, NonePass}
use Rattle.std.specs.Str.Pattern.{FindsChar}
use Rattle.std.proofs.lemmas.Bool.Decides.{nat_tests, same_from_decides, Decides-eqb}
use Rattle.std.proofs.lemmas.Str.{chars-append, chars_past_char, chars_from_encodes, IsCharBoundary-before_ascii}
use Rattle.std.proofs.lemmas.Str.{IsUtf8-take, IsUtf8-drop, IsUtf8-past_char}
use Rattle.std.proofs.lemmas.Str.Pattern.{IsSplitOnceResult, drop_at_char}
use Rattle.soy_base.specs.Among.{lacks}
use Rattle.soy_base.specs.Cuts.{cut}

both_hold : (a b : Bool) → (a && b) ≡ true → (a ≡ true) × (b ≡ true)
both_hold true b h = (refl, h)
both_hold false b h = let e : false ≡ true = h in cc

other_than : (d c : ℕ) → not ((c == d) || false) ≡ true → (d == c) ≡ false
other_than d c h = grind (arith, nat_tests)

same_as : (d : ℕ) → (d == d) ≡ true
same_as d = grind (arith, nat_tests)

-- a text that lacks the character isn't cut there
pub cut-lacks : (d : ℕ) (text : List ℕ) → lacks (d ∷ []) text ≡ true → cut (d ∷ []) text ≡ None
cut-lacks d [] h = refl
cut-lacks d (c ∷ cs) h =
    let parts = both_hold (not ((c == d) || false)) (lacks (d ∷ []) cs) h in
    rw (other_than d c parts.0, cut-lacks d cs parts.1) refl

-- a text is cut at the first such character
pub cut-at : (d : ℕ) (text rest : List ℕ) → lacks (d ∷ []) text ≡ true
    → cut (d ∷ []) (text ++ (d ∷ rest)) ≡ Some (text, rest)
cut-at d [] rest h = rw (same_as d) refl
cut-at d (c ∷ cs) rest h =
    let parts = both_hold (not ((c == d) || false)) (lacks (d ∷ []) cs) h in
    rw (other_than d c parts.0, cut-at d cs rest parts.1) refl

-- the parts of a text by where it is cut first
abbrev pub parts_of_cut : ℕ → List ℕ → Option (List ℕ × List ℕ) → List (List ℕ)
parts_of_cut d text None = text ∷ []
parts_of_cut d text (Some halves) = halves.0 ∷ slice_split (λ c. c == d) halves.1

onto_first-parts : (d c : ℕ) (cs : List ℕ) (r : Option (List ℕ × List ℕ))
    → onto_first c (parts_of_cut d cs r) ≡ parts_of_cut d (c ∷ cs) (option_map (λ halves. (c ∷ halves.0, halves.1)) r)
onto_first-parts d c cs None = refl
onto_first-parts d c cs (Some halves) = refl

abbrev cut_by : ℕ → List ℕ → Bool → Option (List ℕ × List ℕ) → Option (List ℕ × List ℕ)
cut_by c cs here later =
    option_or (option_map (λ rest. ([], rest)) (cond here (Some cs) None))
    (option_map (λ parts. (c ∷ parts.0, parts.1)) later)

parts_cons : (d c : ℕ) (cs : List ℕ) (t : Bool) → slice_split (λ c. c == d) cs ≡ parts_of_cut d cs (cut (d ∷ []) cs)
    → cond t ([] ∷ slice_split (λ c. c == d) cs) (onto_first c (slice_split (λ c. c == d) cs)) ≡ parts_of_cut d
    (c ∷ cs) (cut_by c cs t (cut (d ∷ []) cs))
parts_cons d c cs true h = refl
parts_cons d c cs false h = ap (onto_first c) h ∙ onto_first-parts d c cs (cut (d ∷ []) cs)

swap_eqb : (c d : ℕ) → (c == d) ≡ (d == c)
swap_eqb c d = same_from_decides (c == d) (d == c) (Decides-eqb c d)
    ((λ e. sym ((Decides-eqb d c).0 e)), (λ e. (Decides-eqb d c).1 (sym e)))

-- the parts of a text around each such character begin where it is cut first
pub slice_split-cut : (d : ℕ) (text : List ℕ) → slice_split (λ c. c == d) text ≡ parts_of_cut d text (cut (d ∷ []) text)
slice_split-cut d [] = refl
slice_split-cut d (c ∷ cs) =
    ap (λ t. cond t ([] ∷ slice_split (λ c. c == d) cs) (onto_first c (slice_split (λ c. c == d) cs))) (swap_eqb c d)
    ∙ parts_cons d c cs (d == c) (slice_split-cut d cs)

-- characters that fail the search's test lack the character
lacks_none : (d : ℕ) (cs : List ℕ) → NonePass (λ c. eqb c d) cs → lacks (d ∷ []) cs ≡ true
lacks_none d [] none = refl
lacks_none d (c ∷ cs) none = rw (none.0) (lacks_none d cs none.1)

-- and so does the text of such characters
pub lacks_text : (d : ℕ) (bs : List ℕ) → IsUtf8 bs → NoCharPasses (λ c. eqb c d) bs → lacks (d ∷ []) (chars bs) ≡ true
lacks_text d bs utf8 none = rw (← chars_from_encodes none.0 bs utf8 none.1) (lacks_none d none.0 none.2)

module _ (d : ℕ) (ascii : d < 128) (bs prefix back : List ℕ) (i j : ℕ) (utf8 : IsUtf8 bs)
    (found : FindsChar d bs (Some (i, j))) (is_prefix : prefix ≡ take i bs) (is_back : back ≡ drop j bs) where
  -- the rest begins with the character
  begins : drop i bs ≡ d ∷ drop j bs
  begins = drop_at_char d bs i j found.1 ascii

  inside : i < length bs
  inside = omega (arith, length-drop i bs, ap length begins)

  -- each part is a text
  utf8_prefix : IsUtf8 (take i bs)
  utf8_prefix =
      IsUtf8-take bs i utf8 (IsCharBoundary-before_ascii bs i inside (omega (arith, found.1.byte ascii)))

  utf8_rest : IsUtf8 (drop i bs)
  utf8_rest =
      IsUtf8-drop bs i utf8 (IsCharBoundary-before_ascii bs i inside (omega (arith, found.1.byte ascii)))

  -- the prefix lacks the character
  pub prefix_lacks : lacks (d ∷ []) (chars prefix) ≡ true
  prefix_lacks = rw is_prefix (lacks_text d (take i bs) utf8_prefix found.0)

  -- and the characters are cut there too
  pub characters_cut : chars bs ≡ chars prefix ++ d ∷ chars back
  characters_cut =
      rw (is_prefix, is_back)
      (ap chars (sym (take-append-drop i bs)) ∙ chars-append (take i bs) (drop i bs) utf8_prefix
      ∙ ap (λ l. chars (take i bs) ++ l) (chars_past_char (drop i bs) (drop j bs) d utf8_rest found.1.split))

  pub utf8_back : IsUtf8 back
  utf8_back =
      rw is_back (IsUtf8-past_char (drop i bs) (drop j bs) d utf8_rest found.1.split)

-- what a cut around a character says of the text
abbrev pub Around : ℕ → List ℕ → Option (Bor (List ℕ) × Bor (List ℕ)) → Type 0
Around d text r =
    MatchOption r (lacks (d ∷ []) (chars text) ≡ true)
    (λ parts. (lacks (d ∷ []) (chars parts.0.now) ≡ true) × (chars text ≡ chars parts.0.now ++ d ∷ chars parts.1.now)
    × IsUtf8 parts.1.now)

-- what `split_once` gives is such a cut
pub split_once-around : (d : ℕ) (text : List ℕ) (r : Option (Bor (List ℕ) × Bor (List ℕ))) → d < 128 → IsUtf8 text
    → IsSplitOnceResult d text r → Around d text r
split_once-around d text None ascii utf8 none = lacks_text d text utf8 none
split_once-around d text (Some parts) ascii utf8 (i, j, found, is_prefix, is_back, _, _, _) = (
  prefix_lacks d ascii text parts.0.now parts.1.now i j utf8 found is_prefix is_back,
  characters_cut d ascii text parts.0.now parts.1.now i j utf8 found is_prefix is_back,
  utf8_back d ascii text parts.0.now parts.1.now i j utf8 found is_prefix is_back,
)

-- it is the cut of the characters
pub around-cut : (d : ℕ) (text : List ℕ) (r : Option (Bor (List ℕ) × Bor (List ℕ))) → Around d text r
    → option_map (λ parts. (chars parts.0.now, chars parts.1.now)) r ≡ cut (d ∷ []) (chars text)
around-cut d text None h = sym (cut-lacks d (chars text) h)
around-cut d text (Some parts) h =
    sym (ap (cut (d ∷ [])) h.1 ∙ cut-at d (chars parts.0.now) (chars parts.1.now) h.0)

-- what follows the character is shorter than the text
pub around-shorter : (text prefix back : List ℕ) (d : ℕ) → text ≡ prefix ++ d ∷ back → length back < length text
around-shorter text prefix back d whole = omega (arith, ap length whole, length-append prefix (d ∷ back))
