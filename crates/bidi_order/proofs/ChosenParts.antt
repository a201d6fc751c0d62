-- Two characters, each surrounding or of a value's block, stand in the same order on both lines.
use Rattle.std.proofs.Common.{◌≡◌, ℕ, suc, ◌+◌, ◌<◌, min, Bool, true, false, not, List, [], ◌∷◌, ◌++◌, drop, length}
use Rattle.std.proofs.Common.{refl, sym, ap, subst, ◌∙◌, append_assoc, append-nil, length-append, arith, Option, Some}
use Rattle.std.proofs.Common.{None, if◌then◌else◌}
use Rattle.std.proofs.lemmas.Bool.{both_ways}
use Rattle.std.proofs.lemmas.List.{map-append}
use Rattle.bidi_class.specs.Class.{bidi_class}
use Rattle.bidi_class.specs.Pairs.{is_initiator}
use Rattle.bidi_order.specs.DirectionalStatus.{DirectionalStatus, initial_status, status_after, is_odd}
use Rattle.bidi_order.specs.Explicit.{KeptCharacter, act_of_character, explicit_from, explicit_characters}
use Rattle.bidi_order.specs.Explicit.{status_before}
use Rattle.bidi_order.specs.Sequences.{resolved_level}
use Rattle.bidi_order.specs.Sequences.Scan.{Forward, Backward}
use Rattle.bidi_order.specs.Reset.{ResetKind, reset_kind}
use Rattle.bidi_order.specs.Reset.ResetKind.{Separator, Whitespace, Removed, Text}
use Rattle.bidi_order.specs.Levels.{line_levels}
use Rattle.bidi_order.specs.VisualOrder.{is_left_of, least_level}
use Rattle.bidi_order.specs.TwoLines.{Both, one_line, other_line, is_surrounding, Chosen, chosen_part, one_before}
use Rattle.bidi_order.specs.TwoLines.{one_character, one_after, other_before, other_character, other_after}
use Rattle.bidi_order.specs.TwoLines.Chosen.{Outside, Inside}
use Rattle.bidi_order.proofs.RestoredStatus.{Value, value, opening, closing, explicit_in, explicit_from-prefix}
use Rattle.bidi_order.proofs.RestoredStatus.{length-explicit_in}
use Rattle.bidi_order.proofs.AroundValues.{closing-pdi}
use Rattle.bidi_order.proofs.DeletedContent.{Same, levels_in, past}
use Rattle.bidi_order.proofs.SimilarLevels.{IsValue, Similar, Same-Similar, Same-past, least-Similar}
use Rattle.bidi_order.proofs.SimilarLevels.{least_level-append, levels_in-append, past-append}
use Rattle.bidi_order.proofs.ResetOrder.{has_separator}
use Rattle.bidi_order.proofs.SameOrder.{kinds, Held, Limited, Pieces, pieces, is_value, surrounding-text}
use Rattle.bidi_order.proofs.SameOrder.{one_line-append, other_line-append, plain, surrounding-explicit}
use Rattle.bidi_order.proofs.SameOrder.{limited-rest, order_in_line, same_separators, Held-left}
use Rattle.bidi_order.proofs.SameOrder.{has_separator-append, initiator-apart}
use Rattle.bidi_order.proofs.SameOrder.Held.{held_shared, held_value}
use Rattle.bidi_order.proofs.SameOrder.Limited.{limited_value}
use Rattle.bidi_order.proofs.Blocks.{Spot, shared-Spot, value-Spot}

-- a list that begins as another
pub record Cut (U prefix : List (Option KeptCharacter)) (s : Option KeptCharacter) : Type 0 where
  rest : List (Option KeptCharacter)
  is : U ≡ prefix ++ s ∷ rest

head-of : Option KeptCharacter → List (Option KeptCharacter) → Option KeptCharacter
head-of d [] = d
head-of d (x ∷ xs) = x

cut : (U W prefix : List (Option KeptCharacter)) (s : Option KeptCharacter) (R : List (Option KeptCharacter))
    → U ++ W ≡ prefix ++ s ∷ R → length prefix < length U → Cut U prefix s
unfolding head-of
cut [] W prefix s R e l = absurd (omega arith)
cut (u ∷ U) W [] s R e l = record { rest = U; is = ap (λ h. h ∷ U) (ap (head-of None) e) }
cut (u ∷ U) W (x ∷ prefix) s R e l =
    let more : Cut U prefix s = cut U W prefix s R (ap (drop 1) e) (omega arith) in
    record { rest = more.rest; is = ap (λ h. h ∷ U) (ap (head-of None) e) ∙ ap (λ t. x ∷ t) more.is }

-- a surrounding character of what a value holds
record Inner (V : List (Option KeptCharacter)) (one_begin one_end : List ℕ) : Type 0 where
  before : List (Option KeptCharacter)
  here : KeptCharacter
  after : List (Option KeptCharacter)
  is : V ≡ before ++ Some here ∷ after
  long_before : length before ≡ length one_begin
  long_after : length after ≡ length one_end

inner : (s : DirectionalStatus) (i p y : ℕ) (one_begin one_end back : List ℕ) → is_surrounding (bidi_class y) ≡ true
    → (u : Value s i p (one_begin ++ y ∷ one_end) back) → Inner u.slots one_begin one_end
inner s i p y one_begin one_end back sy u =
    let inside : DirectionalStatus = status_after (act_of_character i ((one_begin ++ y ∷ one_end) ++ p ∷ back)) s in
    let tail : List ℕ = one_end ++ p ∷ back in
    let here_before : DirectionalStatus = status_before inside one_begin (y ∷ tail) in
    let prefix : List (Option KeptCharacter) = explicit_in inside one_begin (y ∷ tail) in
    let e : u.slots ++ Some (closing s) ∷ explicit_from s back ≡ prefix ++ Some (plain here_before y) ∷ explicit_from
    here_before tail =
    sym (ap (drop 1) u.is) ∙ ap (explicit_from inside) (append_assoc one_begin (y ∷ one_end) (p ∷ back))
    ∙ explicit_from-prefix inside one_begin (y ∷ tail)
    ∙ ap (λ l. prefix ++ l) (surrounding-explicit here_before y tail sy) in
    let short : length prefix < length u.slots =
    omega (arith, length-explicit_in inside one_begin (y ∷ tail), u.long, length-append one_begin (y ∷ one_end)) in
    let c : Cut u.slots prefix (Some (plain here_before y)) = cut u.slots (Some (closing s) ∷ explicit_from s back)
    prefix
    (Some (plain here_before y)) (explicit_from here_before tail) e short in
    record {
      before = prefix;
      here = plain here_before y;
      after = c.rest;
      is = c.is;
      long_before = length-explicit_in inside one_begin (y ∷ tail);
      long_after = omega (
        arith,
        ap length c.is,
        length-append prefix (Some (plain here_before y) ∷ c.rest),
        length-explicit_in inside
            one_begin (y ∷ tail),
        u.long,
        length-append one_begin (y ∷ one_end),
      );
    }

-- the explicit characters of a chosen character's part of both lines
record ChosenCharacters (base : ℕ) (s : DirectionalStatus) (E : Chosen) (Z : List Both) : Type 0 where
  one_prefix : List (Option KeptCharacter)
  k : KeptCharacter
  one_suffix : List (Option KeptCharacter)
  other_prefix : List (Option KeptCharacter)
  l : KeptCharacter
  other_suffix : List (Option KeptCharacter)
  spot : Spot base one_prefix k one_suffix other_prefix l other_suffix
  left_is : explicit_from s (one_line (chosen_part E ∷ Z)) ≡ one_prefix ++ Some k
      ∷ (one_suffix ++ explicit_from s (one_line Z))
  right_is : explicit_from s (other_line (chosen_part E ∷ Z)) ≡ other_prefix ++ Some l
      ∷ (other_suffix ++ explicit_from s (other_line Z))
  long_one_prefix : length one_prefix ≡ length (one_before E)
  long_one_suffix : length one_suffix ≡ length (one_after E)
  long_other_prefix : length other_prefix ≡ length (other_before E)
  long_other_suffix : length other_suffix ≡ length (other_after E)
  held : Held Z
  limited : Limited s Z

around_cut : (prefix suffix R : List (Option KeptCharacter)) (k p : KeptCharacter)
    → (prefix ++ Some k ∷ suffix) ++ Some p ∷ R
    ≡ prefix ++ Some k ∷ ((suffix ++ Some p ∷ []) ++ R)
around_cut prefix suffix R k p = append_assoc prefix (Some k ∷ suffix) (Some p ∷ R)
    ∙ ap (λ l. prefix ++ Some k ∷ l) (sym (append_assoc suffix (Some p ∷ []) R))

chosen : (base : ℕ) (s : DirectionalStatus) (E : Chosen) (Z : List Both)
    → is_surrounding (bidi_class (one_character E)) ≡ true → is_surrounding (bidi_class (other_character E)) ≡ true
    → Held (chosen_part E ∷ Z) → Limited s (chosen_part E ∷ Z) → ChosenCharacters base s E Z
chosen base s (Outside c) Z sl sr (held_shared h) l = record {
  one_prefix = [];
  k = plain s c;
  one_suffix = [];
  other_prefix = [];
  l = plain s c;
  other_suffix = [];
  spot = shared-Spot base (plain s c);
  left_is = surrounding-explicit s c (one_line Z) sl;
  right_is = surrounding-explicit s c (other_line Z) sr;
  long_one_prefix = refl;
  long_one_suffix = refl;
  long_other_prefix = refl;
  long_other_suffix = refl;
  held = h;
  limited = limited-rest s c Z sl l;
}
chosen base s (Inside k i j one_begin y one_end other_begin z other_end) Z sl sr (held_value bi bj mv mw sv sw h)
    (limited_value room l) =
    let one : Value s i 0x2069 (one_begin ++ y ∷ one_end) (one_line Z) = value s i 0x2069 (one_begin ++ y ∷ one_end)
    (one_line Z) bi
    closing-pdi mv room in
    let two : Value s j 0x2069 (other_begin ++ z ∷ other_end) (other_line Z) =
    value s j 0x2069 (other_begin ++ z ∷ other_end) (other_line Z) bj
    closing-pdi mw room in
    let a : Inner one.slots one_begin one_end = inner s i 0x2069 y one_begin one_end (one_line Z) sl one in
    let b : Inner two.slots other_begin other_end = inner s j 0x2069 z other_begin other_end (other_line Z) sr two in
    record {
      one_prefix = Some (opening s) ∷ a.before;
      k = a.here;
      one_suffix = a.after ++ Some (closing s) ∷ [];
      other_prefix = Some (opening s) ∷ b.before;
      l = b.here;
      other_suffix = b.after ++ Some (closing s) ∷ [];
      spot = value-Spot base (opening s) (closing s) a.here b.here a.before a.after b.before b.after
          (subst (IsValue (opening s) (closing s)) a.is (is_value s one.slots one.within))
          (subst (IsValue (opening s) (closing s)) b.is (is_value s two.slots two.within));
      left_is = one.is ∙ ap (λ U. Some (opening s) ∷ (U ++ Some (closing s) ∷ explicit_from s (one_line Z))) a.is
          ∙ ap (λ r. Some (opening s) ∷ r) (around_cut a.before a.after (explicit_from s (one_line Z)) a.here
          (closing s));
      right_is = two.is ∙ ap (λ U. Some (opening s) ∷ (U ++ Some (closing s) ∷ explicit_from s (other_line Z))) b.is
          ∙ ap (λ r. Some (opening s) ∷ r) (around_cut b.before b.after (explicit_from s (other_line Z)) b.here
          (closing s));
      long_one_prefix = ap suc a.long_before;
      long_other_prefix = ap suc b.long_before;
      long_one_suffix = omega (
        arith,
        length-append a.after (Some (closing s) ∷ []),
        length-append one_end (0x2069 ∷ []),
        a.long_after,
      );
      long_other_suffix = omega (
        arith,
        length-append b.after (Some (closing s) ∷ []),
        length-append other_end (0x2069 ∷ []),
        b.long_after,
      );
      held = h;
      limited = l;
    }

-- the chosen character's part of a line
one_line-chosen : (E : Chosen) (Z : List Both) → one_line (chosen_part E ∷ Z) ≡ one_before E ++ one_character E
    ∷ (one_after E ++ one_line Z)
one_line-chosen (Outside c) Z = refl
one_line-chosen (Inside k i j one_begin y one_end other_begin z other_end) Z =
    ap (λ l. i ∷ l) (append_assoc one_begin (y ∷ one_end) (0x2069 ∷ one_line Z)
    ∙ ap (λ l. one_begin ++ y ∷ l) (sym (append_assoc one_end (0x2069 ∷ []) (one_line Z))))

other_line-chosen : (E : Chosen) (Z : List Both) → other_line (chosen_part E ∷ Z) ≡ other_before E ++ other_character
    E ∷ (other_after E ++ other_line Z)
other_line-chosen (Outside c) Z = refl
other_line-chosen (Inside k i j one_begin y one_end other_begin z other_end) Z =
    ap (λ l. j ∷ l) (append_assoc other_begin (z ∷ other_end) (0x2069 ∷ other_line Z)
    ∙ ap (λ l. other_begin ++ z ∷ l) (sym (append_assoc other_end (0x2069 ∷ []) (other_line Z))))

-- no separator stands in a part of a list without one
no_separator-parts : (a b : List ResetKind) → has_separator (a ++ b) ≡ false → (has_separator a ≡ false)
    × (has_separator b ≡ false)
no_separator-parts [] b h = (refl, h)
no_separator-parts (Separator ∷ a) b h = absurd (both_ways _ h refl)
no_separator-parts (Whitespace ∷ a) b h = no_separator-parts a b h
no_separator-parts (Removed ∷ a) b h = no_separator-parts a b h
no_separator-parts (Text ∷ a) b h = no_separator-parts a b h

has_separator-end : (a b : List ResetKind) → has_separator b ≡ false → has_separator (a ++ b) ≡ has_separator a
has_separator-end [] b h = h
has_separator-end (Separator ∷ a) b h = refl
has_separator-end (Whitespace ∷ a) b h = has_separator-end a b h
has_separator-end (Removed ∷ a) b h = has_separator-end a b h
has_separator-end (Text ∷ a) b h = has_separator-end a b h

kinds-append : (a b : List ℕ) → kinds (a ++ b) ≡ kinds a ++ kinds b
kinds-append a b = map-append (λ (c : ℕ). reset_kind (bidi_class c)) a b

no_separator-last : (c : ℕ) (cs : List ℕ) → has_separator (kinds (c ∷ cs)) ≡ false → has_separator (kinds cs) ≡ false
no_separator-last c cs h = go (reset_kind (bidi_class c)) (kinds cs) h
  where
    go : (kind : ResetKind) (ss : List ResetKind) → has_separator (kind ∷ ss) ≡ false → has_separator ss ≡ false
    go Separator ss h = absurd (both_ways _ h refl)
    go Whitespace ss h = h
    go Removed ss h = h
    go Text ss h = h

pdi-apart : has_separator (kinds (0x2069 ∷ [])) ≡ false
unfolding bidi_class
pdi-apart = refl

-- nothing of a value is a separator
inside-apart : (i y : ℕ) (one_begin one_end : List ℕ) → is_initiator i ≡ true
    → has_separator (kinds (one_begin ++ y ∷ one_end)) ≡ false
    → (has_separator (kinds (i ∷ one_begin)) ≡ false) × (has_separator (kinds (one_end ++ 0x2069 ∷ [])) ≡ false)
inside-apart i y one_begin one_end bi sv =
    let parts = no_separator-parts (kinds one_begin) (kinds (y ∷ one_end))
    (sym (ap has_separator (kinds-append one_begin (y ∷ one_end)))
    ∙ sv) in (
      initiator-apart (bidi_class i) (kinds one_begin) bi ∙ parts.0,
      ap has_separator (kinds-append one_end (0x2069 ∷ [])) ∙ has_separator-end (kinds one_end) (kinds (0x2069 ∷ []))
          pdi-apart
          ∙ no_separator-last y one_end parts.1,
    )

record Apart (E : Chosen) : Type 0 where
  lb : has_separator (kinds (one_before E)) ≡ false
  la : has_separator (kinds (one_after E)) ≡ false
  rb : has_separator (kinds (other_before E)) ≡ false
  ra : has_separator (kinds (other_after E)) ≡ false

apart : (E : Chosen) (Z : List Both) → Held (chosen_part E ∷ Z) → Apart E
apart (Outside c) Z h = record { lb = refl; la = refl; rb = refl; ra = refl }
apart (Inside k i j one_begin y one_end other_begin z other_end) Z (held_value bi bj mv mw sv sw h) =
    let l = inside-apart i y one_begin one_end bi sv in
    let r = inside-apart j z other_begin other_end bj sw in
    record { lb = l.0; la = l.1; rb = r.0; ra = r.1 }

between_apart : (a m b : List ℕ) → has_separator (kinds a) ≡ false → has_separator (kinds b) ≡ false
    → has_separator (kinds (a ++ (m ++ b))) ≡ has_separator (kinds m)
between_apart a m b ha hb =
    ap has_separator (kinds-append a (m ++ b)) ∙ has_separator-append (kinds a) (kinds (m ++ b)) ha
    ∙ ap has_separator (kinds-append m b) ∙ has_separator-end (kinds m) (kinds b) hb

-- the least level between two chosen characters, by the parts of the line
module _ (base : ℕ) (suffix M next_prefix : List (Option KeptCharacter)) (k h : KeptCharacter)
    (R : List (Option KeptCharacter))
  where
    abbrev between_from : List (Option KeptCharacter) → ℕ
    between_from q = min (least_level (resolved_level base q k ((suffix ++ (M ++ next_prefix)) ++ Some h ∷ R))
        (levels_in base (Some k ∷ q) (suffix ++ (M ++ next_prefix)) (Some h ∷ R)))
        (resolved_level base (past (Some k ∷ q) (suffix ++ (M ++ next_prefix))) h R)

    abbrev rest_of : List (Option KeptCharacter)
    rest_of = M ++ (next_prefix ++ Some h ∷ R)

    abbrev first_of : List (Option KeptCharacter) → ℕ
    first_of q = least_level (resolved_level base q k (suffix ++ rest_of)) (levels_in base (Some k ∷ q) suffix rest_of)

    abbrev back_of : List (Option KeptCharacter) → List (Option KeptCharacter)
    back_of q = past (past (Some k ∷ q) suffix) M

    normal : (q : List (Option KeptCharacter)) → between_from q
        ≡ min (least_level (least_level (first_of q)
        (levels_in base (past (Some k ∷ q) suffix) M (next_prefix ++ Some h ∷ R)))
        (levels_in base (back_of q) next_prefix (Some h ∷ R))) (resolved_level base (past (back_of q) next_prefix) h R)
    normal q =
        let regrouped : (suffix ++ (M ++ next_prefix)) ++ Some h ∷ R ≡ suffix ++ rest_of =
        append_assoc suffix (M ++ next_prefix) (Some h ∷ R)
        ∙ ap (λ l. suffix ++ l) (append_assoc M next_prefix (Some h ∷ R)) in
        let n : ℕ = resolved_level base q k (suffix ++ rest_of) in
        let first_levels : List (Option ℕ) = levels_in base (Some k ∷ q) suffix rest_of in
        let middle_levels : List (Option ℕ) = levels_in base (past (Some k ∷ q) suffix) M (next_prefix ++ Some h ∷ R) in
        let last_levels : List (Option ℕ) = levels_in base (back_of q) next_prefix (Some h ∷ R) in
        let list : levels_in base (Some k ∷ q) (suffix ++ (M ++ next_prefix)) (Some h ∷ R) ≡ first_levels
        ++ (middle_levels ++ last_levels) =
        levels_in-append base (Some k ∷ q) suffix (M ++ next_prefix) (Some h ∷ R)
        ∙ ap (λ r. levels_in base (Some k ∷ q) suffix r ++ levels_in base (past (Some k ∷ q) suffix)
        (M ++ next_prefix) (Some h ∷ R))
        (append_assoc M next_prefix (Some h ∷ R))
        ∙ ap (λ l. first_levels ++ l) (levels_in-append base (past (Some k ∷ q) suffix) M next_prefix (Some h ∷ R)) in
        let least : least_level n (first_levels ++ (middle_levels ++ last_levels))
        ≡ least_level (least_level (least_level n first_levels) middle_levels) last_levels =
        least_level-append n first_levels (middle_levels ++ last_levels)
        ∙ least_level-append (least_level n first_levels) middle_levels last_levels in
        let back : past (Some k ∷ q) (suffix ++ (M ++ next_prefix)) ≡ past (back_of q) next_prefix =
        past-append (Some k ∷ q) suffix (M ++ next_prefix)
        ∙ past-append (past (Some k ∷ q) suffix) M next_prefix in
        ap (λ r. min (least_level (resolved_level base q k r)
        (levels_in base (Some k ∷ q) (suffix ++ (M ++ next_prefix)) (Some h ∷ R)))
        (resolved_level base (past (Some k ∷ q) (suffix ++ (M ++ next_prefix))) h R)) regrouped
        ∙ ap (λ l. min (least_level n l) (resolved_level base (past (Some k ∷ q) (suffix ++ (M ++ next_prefix))) h R))
        list
        ∙ ap (λ m. min m (resolved_level base (past (Some k ∷ q) (suffix ++ (M ++ next_prefix))) h R)) least
        ∙ ap (λ b. min (least_level (least_level (least_level n first_levels) middle_levels) last_levels)
        (resolved_level base b h R)) back

past-chosen : (q B A : List (Option KeptCharacter)) (k : KeptCharacter)
    → past q (B ++ Some k ∷ A) ≡ past (Some k ∷ past q B) A
unfolding past
past-chosen q B A k = past-append q B (Some k ∷ A)

-- the same on both lines
same_between : (base : ℕ) (one_prefix one_suffix other_prefix other_suffix M N one_next_prefix one_next_suffix
    other_next_prefix other_next_suffix : List (Option KeptCharacter)) (k l h g : KeptCharacter)
    (q q' T T' : List (Option KeptCharacter))
    → Spot base one_prefix k one_suffix other_prefix l other_suffix → Similar M N
    → Spot base one_next_prefix h one_next_suffix other_next_prefix g other_next_suffix → Same Backward base q q'
    → Same Forward base T T'
    → between_from base one_suffix M one_next_prefix k h (one_next_suffix ++ T) (past q one_prefix)
    ≡ between_from base other_suffix N other_next_prefix l g (other_next_suffix ++ T') (past q' other_prefix)
same_between base one_prefix one_suffix other_prefix other_suffix M N one_next_prefix one_next_suffix
    other_next_prefix other_next_suffix k l h g q q' T T' e m f behind ahead =
    let end_first : (X : List (Option KeptCharacter)) → (one_next_prefix ++ Some h ∷ one_next_suffix) ++ X
    ≡ one_next_prefix ++ Some h ∷ (one_next_suffix ++ X) =
    λ X. append_assoc one_next_prefix (Some h ∷ one_next_suffix) X in
    let same_end : Same Forward base (one_next_prefix ++ Some h ∷ (one_next_suffix ++ T))
    (other_next_prefix ++ Some g ∷ (other_next_suffix ++ T')) =
    subst (λ a. Same Forward base a (other_next_prefix ++ Some g ∷ (other_next_suffix ++ T')))
    (append_assoc one_next_prefix (Some h ∷ one_next_suffix) T)
    (subst (λ b. Same Forward base ((one_next_prefix ++ Some h ∷ one_next_suffix) ++ T) b)
    (append_assoc other_next_prefix (Some g ∷ other_next_suffix) T')
    (Same-Similar base (one_next_prefix ++ Some h ∷ one_next_suffix) (other_next_prefix ++ Some g ∷ other_next_suffix)
    T T' f.similar ahead)) in
    let same_rest : Same Forward base (M ++ (one_next_prefix ++ Some h ∷ (one_next_suffix ++ T)))
    (N ++ (other_next_prefix ++ Some g ∷ (other_next_suffix ++ T'))) =
    Same-Similar base M N (one_next_prefix ++ Some h ∷ (one_next_suffix ++ T))
    (other_next_prefix ++ Some g ∷ (other_next_suffix ++ T')) m same_end in
    let first_same : first_of base one_suffix M one_next_prefix k h (one_next_suffix ++ T) (past q one_prefix)
    ≡ first_of base other_suffix N other_next_prefix l g (other_next_suffix ++ T')
    (past q' other_prefix) =
    e.starts q q' (M ++ (one_next_prefix ++ Some h ∷ (one_next_suffix ++ T)))
    (N ++ (other_next_prefix ++ Some g ∷ (other_next_suffix ++ T'))) behind same_rest in
    let back_e : Same Backward base (past (Some k ∷ past q one_prefix) one_suffix)
    (past (Some l ∷ past q' other_prefix) other_suffix) =
    subst (λ a. Same Backward base a (past (Some l ∷ past q' other_prefix) other_suffix))
    (past-chosen q one_prefix one_suffix k)
    (subst (λ b. Same Backward base (past q (one_prefix ++ Some k ∷ one_suffix)) b)
    (past-chosen q' other_prefix other_suffix l)
    (Same-past base (one_prefix ++ Some k ∷ one_suffix) (other_prefix ++ Some l ∷ other_suffix) q q' e.similar
    behind)) in
    let back_m : Same Backward base (past (past (Some k ∷ past q one_prefix) one_suffix) M)
    (past (past (Some l ∷ past q' other_prefix) other_suffix) N) =
    Same-past base M N (past (Some k ∷ past q one_prefix) one_suffix)
    (past (Some l ∷ past q' other_prefix) other_suffix) m back_e in
    let one_least : ℕ = least_level (first_of base one_suffix M one_next_prefix k h (one_next_suffix ++ T)
    (past q one_prefix))
    (levels_in base (past (Some k ∷ past q one_prefix) one_suffix) M
    (one_next_prefix ++ Some h ∷ (one_next_suffix ++ T))) in
    let other_least : ℕ =
    least_level (first_of base other_suffix N other_next_prefix l g (other_next_suffix ++ T')
    (past q' other_prefix))
    (levels_in base (past (Some l ∷ past q' other_prefix) other_suffix) N
    (other_next_prefix ++ Some g ∷ (other_next_suffix ++ T'))) in
    let n : one_least ≡ other_least =
    ap (λ s. least_level s (levels_in base (past (Some k ∷ past q one_prefix) one_suffix) M
    (one_next_prefix ++ Some h ∷ (one_next_suffix ++ T)))) first_same
    ∙ least-Similar base (first_of base other_suffix N other_next_prefix l g (other_next_suffix ++ T')
    (past q' other_prefix)) M N (past (Some k ∷ past q one_prefix) one_suffix)
    (past (Some l ∷ past q' other_prefix) other_suffix) (one_next_prefix ++ Some h ∷ (one_next_suffix ++ T))
    (other_next_prefix ++ Some g ∷ (other_next_suffix ++ T')) m back_e same_end in
    normal base one_suffix M one_next_prefix k h (one_next_suffix ++ T) (past q one_prefix)
    ∙ ap (λ n. min (least_level n (levels_in base (past (past (Some k ∷ past q one_prefix) one_suffix) M)
    one_next_prefix (Some h ∷ (one_next_suffix ++ T))))
    (resolved_level base (past (past (past (Some k ∷ past q one_prefix) one_suffix) M) one_next_prefix) h
    (one_next_suffix ++ T))) n
    ∙ f.finishes other_least (past (past (Some k ∷ past q one_prefix) one_suffix) M)
    (past (past (Some l ∷ past q' other_prefix) other_suffix) N) T T' back_m ahead
    ∙ sym (normal base other_suffix N other_next_prefix l g (other_next_suffix ++ T') (past q' other_prefix))

-- one side of a line around two chosen characters, in parts
parted : (suffix M next_prefix next_suffix T : List (Option KeptCharacter)) (SA prefix : List (Option KeptCharacter))
    (k h : KeptCharacter)
    → SA ++ (prefix ++ Some k ∷ (suffix ++ (M ++ (next_prefix ++ Some h ∷ (next_suffix ++ T))))) ≡ (SA ++ prefix)
    ++ Some k
    ∷ ((suffix ++ (M ++ next_prefix)) ++ Some h ∷ (next_suffix ++ T))
parted suffix M next_prefix next_suffix T SA prefix k h =
    sym (append_assoc SA prefix (Some k ∷ (suffix ++ (M ++ (next_prefix ++ Some h ∷ (next_suffix ++ T))))))
    ∙ ap (λ l. (SA ++ prefix) ++ Some k ∷ l)
    (ap (λ l. suffix ++ l) (sym (append_assoc M next_prefix (Some h ∷ (next_suffix ++ T))))
    ∙ sym (append_assoc suffix (M ++ next_prefix) (Some h ∷ (next_suffix ++ T))))

parted_line : (a b : List ℕ) (x : ℕ) (c m d : List ℕ) (y : ℕ) (e z : List ℕ)
    → a ++ (b ++ x ∷ (c ++ (m ++ (d ++ y ∷ (e ++ z))))) ≡ (a ++ b) ++ x ∷ ((c ++ (m ++ d)) ++ y ∷ (e ++ z))
parted_line a b x c m d y e z =
    sym (append_assoc a b (x ∷ (c ++ (m ++ (d ++ y ∷ (e ++ z))))))
    ∙ ap (λ l. (a ++ b) ++ x ∷ l) (ap (λ l. c ++ l) (sym (append_assoc m d (y ∷ (e ++ z))))
    ∙ sym (append_assoc c (m ++ d) (y ∷ (e ++ z))))

-- where the two chosen characters stand
abbrev pub one_index : List Both → Chosen → ℕ
one_index A E = length (one_line A ++ one_before E)

abbrev pub one_apart : Chosen → List Both → Chosen → ℕ
one_apart E M F = length (one_after E ++ (one_line M ++ one_before F))

abbrev pub other_index : List Both → Chosen → ℕ
other_index A E = length (other_line A ++ other_before E)

abbrev pub other_apart : Chosen → List Both → Chosen → ℕ
other_apart E M F = length (other_after E ++ (other_line M ++ other_before F))

line_of : List Both → Chosen → List Both → Chosen → List Both → List Both
line_of A E M F Z = A ++ chosen_part E ∷ (M ++ chosen_part F ∷ Z)

pub one_line-line : (A : List Both) (E : Chosen) (M : List Both) (F : Chosen) (Z : List Both)
    → one_line (A ++ chosen_part E ∷ (M ++ chosen_part F ∷ Z)) ≡ (one_line A ++ one_before E) ++ one_character E
    ∷ ((one_after E ++ (one_line M ++ one_before F)) ++ one_character F ∷ (one_after F ++ one_line Z))
one_line-line A E M F Z =
    one_line-append A (chosen_part E ∷ (M ++ chosen_part F ∷ Z))
    ∙ ap (λ l. one_line A ++ l) (one_line-chosen E (M ++ chosen_part F ∷ Z))
    ∙ ap (λ l. one_line A ++ (one_before E ++ one_character E ∷ (one_after E ++ l)))
    (one_line-append M (chosen_part F ∷ Z) ∙ ap (λ l. one_line M ++ l) (one_line-chosen F Z))
    ∙ parted_line (one_line A) (one_before E) (one_character E) (one_after E) (one_line M) (one_before F)
    (one_character F) (one_after F) (one_line Z)

pub other_line-line : (A : List Both) (E : Chosen) (M : List Both) (F : Chosen) (Z : List Both)
    → other_line (A ++ chosen_part E ∷ (M ++ chosen_part F ∷ Z)) ≡ (other_line A ++ other_before E) ++ other_character
    E ∷ ((other_after E ++ (other_line M ++ other_before F)) ++ other_character F ∷ (other_after F ++ other_line Z))
other_line-line A E M F Z =
    other_line-append A (chosen_part E ∷ (M ++ chosen_part F ∷ Z))
    ∙ ap (λ l. other_line A ++ l) (other_line-chosen E (M ++ chosen_part F ∷ Z))
    ∙ ap (λ l. other_line A ++ (other_before E ++ other_character E ∷ (other_after E ++ l)))
    (other_line-append M (chosen_part F ∷ Z) ∙ ap (λ l. other_line M ++ l) (other_line-chosen F Z))
    ∙ parted_line (other_line A) (other_before E) (other_character E) (other_after E) (other_line M) (other_before F)
    (other_character F) (other_after F) (other_line Z)

pub chosen_order : (base : ℕ) (A : List Both) (E : Chosen) (M : List Both) (F : Chosen) (Z : List Both)
    → is_surrounding (bidi_class (one_character E)) ≡ true → is_surrounding (bidi_class (other_character E)) ≡ true
    → is_surrounding (bidi_class (one_character F)) ≡ true → is_surrounding (bidi_class (other_character F)) ≡ true
    → Held (A ++ chosen_part E ∷ (M ++ chosen_part F ∷ Z))
    → Limited (initial_status base) (A ++ chosen_part E ∷ (M ++ chosen_part F ∷ Z))
    → is_left_of (line_levels base (one_line (A ++ chosen_part E ∷ (M ++ chosen_part F ∷ Z)))) (one_index A E)
    (one_index A E + 1 + one_apart E M F)
    ≡ is_left_of (line_levels base (other_line (A ++ chosen_part E ∷ (M ++ chosen_part F ∷ Z)))) (other_index A E)
    (other_index A E + 1 + other_apart E M F)
chosen_order base A E M F Z sle sre slf srf held limited =
    let pa : Pieces (initial_status base) A (chosen_part E ∷ (M ++ chosen_part F ∷ Z)) =
    pieces (initial_status base) A (chosen_part E ∷ (M ++ chosen_part F ∷ Z)) held limited in
    let t : DirectionalStatus = pa.after in
    let ce : ChosenCharacters base t E (M ++ chosen_part F ∷ Z) = chosen base t E (M ++ chosen_part F ∷ Z) sle sre
    pa.held pa.limited in
    let pm : Pieces t M (chosen_part F ∷ Z) = pieces t M (chosen_part F ∷ Z) ce.held ce.limited in
    let u : DirectionalStatus = pm.after in
    let cf : ChosenCharacters base u F Z = chosen base u F Z slf srf pm.held pm.limited in
    let pz : Pieces u Z [] = pieces u Z [] (subst Held (sym (append-nil Z)) cf.held)
    (subst (Limited u) (sym (append-nil Z)) cf.limited) in
    let T : List (Option KeptCharacter) = explicit_from u (one_line Z) in
    let T' : List (Option KeptCharacter) = explicit_from u (other_line Z) in
    let t_is : T ≡ pz.first ++ [] = ap (λ l. explicit_from u (one_line l)) (sym (append-nil Z)) ∙ pz.first_is in
    let t'_is : T' ≡ pz.second ++ [] = ap (λ l. explicit_from u (other_line l)) (sym (append-nil Z)) ∙ pz.second_is in
    let same_t : Same Forward base T T' = subst (λ a. Same Forward base a T') (sym t_is)
    (subst (λ b. Same Forward base (pz.first ++ []) b) (sym t'_is)
    (Same-Similar base pz.first pz.second [] [] pz.similar (λ level w. refl))) in
    let back_a : Same Backward base (past [] pa.first) (past [] pa.second) =
    Same-past base pa.first pa.second [] [] pa.similar (λ level w. refl) in
    let left_is : explicit_characters base (one_line (A ++ chosen_part E ∷ (M ++ chosen_part F ∷ Z)))
    ≡ (pa.first ++ ce.one_prefix) ++ Some ce.k ∷ ((ce.one_suffix ++ (pm.first ++ cf.one_prefix)) ++ Some cf.k
    ∷ (cf.one_suffix ++ T)) =
    pa.first_is ∙ ap (λ l. pa.first ++ l)
    (ce.left_is ∙ ap (λ l. ce.one_prefix ++ Some ce.k ∷ (ce.one_suffix ++ l))
    (pm.first_is ∙ ap (λ l. pm.first ++ l) cf.left_is))
    ∙ parted ce.one_suffix pm.first cf.one_prefix cf.one_suffix T pa.first ce.one_prefix ce.k cf.k in
    let right_is : explicit_characters base (other_line (A ++ chosen_part E ∷ (M ++ chosen_part F ∷ Z)))
    ≡ (pa.second ++ ce.other_prefix) ++ Some ce.l ∷ ((ce.other_suffix ++ (pm.second ++ cf.other_prefix)) ++ Some cf.l
    ∷ (cf.other_suffix ++ T')) =
    pa.second_is ∙ ap (λ l. pa.second ++ l)
    (ce.right_is ∙ ap (λ l. ce.other_prefix ++ Some ce.l ∷ (ce.other_suffix ++ l))
    (pm.second_is ∙ ap (λ l. pm.second ++ l) cf.right_is))
    ∙ parted ce.other_suffix pm.second cf.other_prefix cf.other_suffix T' pa.second ce.other_prefix ce.l cf.l in
    let between : between_from base ce.one_suffix pm.first cf.one_prefix ce.k cf.k (cf.one_suffix ++ T)
    (past [] (pa.first ++ ce.one_prefix))
    ≡ between_from base ce.other_suffix pm.second cf.other_prefix ce.l cf.l (cf.other_suffix ++ T')
    (past [] (pa.second ++ ce.other_prefix)) =
    ap (between_from base ce.one_suffix pm.first cf.one_prefix ce.k cf.k (cf.one_suffix ++ T))
    (past-append [] pa.first ce.one_prefix)
    ∙ same_between base ce.one_prefix ce.one_suffix ce.other_prefix ce.other_suffix pm.first pm.second cf.one_prefix
    cf.one_suffix cf.other_prefix cf.other_suffix ce.k ce.l cf.k cf.l
    (past [] pa.first) (past [] pa.second) T T' ce.spot pm.similar cf.spot back_a same_t
    ∙ sym (ap (between_from base ce.other_suffix pm.second cf.other_prefix ce.l cf.l (cf.other_suffix ++ T'))
    (past-append [] pa.second ce.other_prefix)) in
    let ae : Apart E = apart E (M ++ chosen_part F ∷ Z) pa.held in
    let af : Apart F = apart F Z pm.held in
    let separated : has_separator (kinds (one_after E ++ (one_line M ++ one_before F)))
    ≡ has_separator (kinds (other_after E ++ (other_line M ++ other_before F))) =
    between_apart (one_after E) (one_line M) (one_before F) ae.la af.lb
    ∙ same_separators M (Held-left M (chosen_part F ∷ Z) ce.held)
    ∙ sym (between_apart (other_after E) (other_line M) (other_before F) ae.ra af.rb) in
    let one_long : length (pa.first ++ ce.one_prefix) ≡ length (one_line A ++ one_before E) =
    omega (
      arith,
      length-append pa.first ce.one_prefix,
      length-append (one_line A) (one_before E),
      pa.long_first,
      ce.long_one_prefix,
    ) in
    let other_long : length (pa.second ++ ce.other_prefix) ≡ length (other_line A ++ other_before E) =
    omega (
      arith,
      length-append pa.second ce.other_prefix,
      length-append (other_line A) (other_before E),
      pa.long_second,
      ce.long_other_prefix,
    ) in
    let one_middle : length (ce.one_suffix ++ (pm.first ++ cf.one_prefix))
    ≡ length (one_after E ++ (one_line M ++ one_before F)) =
    omega (
      arith,
      length-append ce.one_suffix (pm.first ++ cf.one_prefix),
      length-append pm.first cf.one_prefix,
      length-append (one_after E)
          (one_line M ++ one_before F),
      length-append (one_line M) (one_before F),
      ce.long_one_suffix,
      pm.long_first,
      cf.long_one_prefix,
    ) in
    let other_middle : length (ce.other_suffix ++ (pm.second ++ cf.other_prefix))
    ≡ length (other_after E ++ (other_line M ++ other_before F)) =
    omega (
      arith,
      length-append ce.other_suffix (pm.second ++ cf.other_prefix),
      length-append pm.second cf.other_prefix,
      length-append
          (other_after E) (other_line M ++ other_before F),
      length-append (other_line M) (other_before F),
      ce.long_other_suffix,
      pm.long_second,
      cf.long_other_prefix,
    ) in
    same_parity (has_separator (kinds (one_after E ++ (one_line M ++ one_before F))))
    (has_separator (kinds (other_after E ++ (other_line M ++ other_before F)))) separated
    (between_from base ce.one_suffix pm.first cf.one_prefix ce.k cf.k (cf.one_suffix ++ T)
    (past [] (pa.first ++ ce.one_prefix)))
    (between_from base ce.other_suffix pm.second cf.other_prefix ce.l cf.l (cf.other_suffix ++ T')
    (past [] (pa.second ++ ce.other_prefix))) between
    (is_left_of (line_levels base (one_line (A ++ chosen_part E ∷ (M ++ chosen_part F ∷ Z)))) (one_index A E)
    (one_index A E + 1 + one_apart E M F))
    (is_left_of (line_levels base (other_line (A ++ chosen_part E ∷ (M ++ chosen_part F ∷ Z)))) (other_index A E)
    (other_index A E + 1 + other_apart E M F))
    (ap (λ l. is_left_of (line_levels base l) (one_index A E) (one_index A E + 1 + one_apart E M F))
    (one_line-line A E M F Z)
    ∙ order_in_line base (one_line A ++ one_before E) (one_after E ++ (one_line M ++ one_before F))
    (one_after F ++ one_line Z) (one_character E) (one_character F) (pa.first ++ ce.one_prefix)
    (ce.one_suffix ++ (pm.first ++ cf.one_prefix)) (cf.one_suffix ++ T) ce.k cf.k
    (ap (explicit_characters base) (sym (one_line-line A E M F Z)) ∙ left_is) one_long one_middle
    (surrounding-text (bidi_class (one_character E)) sle) (surrounding-text (bidi_class (one_character F)) slf))
    (ap (λ l. is_left_of (line_levels base l) (other_index A E) (other_index A E + 1 + other_apart E M F))
    (other_line-line A E M F Z)
    ∙ order_in_line base (other_line A ++ other_before E) (other_after E ++ (other_line M ++ other_before F))
    (other_after F ++ other_line Z) (other_character E) (other_character F) (pa.second ++ ce.other_prefix)
    (ce.other_suffix ++ (pm.second ++ cf.other_prefix)) (cf.other_suffix ++ T') ce.l cf.l
    (ap (explicit_characters base) (sym (other_line-line A E M F Z)) ∙ right_is) other_long other_middle
    (surrounding-text (bidi_class (other_character E)) sre) (surrounding-text (bidi_class (other_character F)) srf))
  where
    same_parity : (e f : Bool) → e ≡ f → (m n : ℕ) → m ≡ n → (x y : Bool)
        → x ≡ not (is_odd (if e then base else m)) → y ≡ not (is_odd (if f then base else n)) → x ≡ y
    same_parity e f ef m n mn x y p q = p ∙ ap (λ e. not (is_odd (if e then base else m))) ef
        ∙ ap (λ m. not (is_odd (if f then base else m))) mn ∙ sym q
