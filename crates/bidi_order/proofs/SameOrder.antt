-- On two lines that differ in what their values hold, two surrounding characters stand in the same order.
use Rattle.std.proofs.Common.{◌≡◌, ℕ, suc, ◌+◌, ◌≤◌, Bool, true, false, not, List, [], ◌∷◌, ◌++◌, map, length, refl}
use Rattle.std.proofs.Common.{sym, ap, subst, ◌∙◌, append_assoc, length-append, arith, Option, Some, None}
use Rattle.std.proofs.lemmas.Bool.{both_ways}
use Rattle.std.proofs.lemmas.List.{map-append, length-map}
use Rattle.std.specs.Option.{option_map_or}
use Rattle.bidi_class.specs.declared.class.Class.{Class}
use Rattle.bidi_class.specs.declared.class.Class.TheVariants.{S, WS, BN, LRE, LRO, RLE, RLO, PDF, LRI, RLI, FSI, PDI}
use Rattle.bidi_class.specs.Class.{bidi_class, begins_isolate}
use Rattle.bidi_class.specs.Brackets.{bracket}
use Rattle.bidi_class.specs.Pairs.{is_initiator}
use Rattle.bidi_order.specs.DirectionalStatus.{DirectionalStatus, initial_status, top_entry, status_after, act_of_class}
use Rattle.bidi_order.specs.DirectionalStatus.{ExplicitAct, is_within_depth, is_odd, strong_class}
use Rattle.bidi_order.specs.DirectionalStatus.ExplicitAct.{Embeds, Isolates, EndsIsolate, EndsEmbedding, IsRemoved}
use Rattle.bidi_order.specs.DirectionalStatus.ExplicitAct.{Stays}
use Rattle.bidi_order.specs.Explicit.{KeptCharacter, explicit_character, act_of_character, explicit_from}
use Rattle.bidi_order.specs.Explicit.{explicit_characters}
use Rattle.bidi_order.specs.Explicit.IsolateRole.{Neither}
use Rattle.bidi_order.specs.Sequences.{resolved_level, resolved_levels_from}
use Rattle.bidi_order.specs.Reset.{ResetKind, reset_kind, reset_levels}
use Rattle.bidi_order.specs.Reset.ResetKind.{Separator, Whitespace, Removed, Text}
use Rattle.bidi_order.specs.Levels.{line_levels}
use Rattle.bidi_order.specs.VisualOrder.{is_left_of}
use Rattle.bidi_order.specs.TwoLines.{Both, one_line, other_line, is_surrounding}
use Rattle.bidi_order.specs.TwoLines.Both.{Shared, Values}
use Rattle.bidi_order.proofs.FollowedSequences.{Within}
use Rattle.bidi_order.proofs.RestoredStatus.{Matched, Alike, Value, value, opening, closing, fsi-begins, fsi-more}
use Rattle.bidi_order.proofs.RestoredStatus.{fsi-matched, act_of_class-same}
use Rattle.bidi_order.proofs.AroundValues.{closing-pdi}
use Rattle.bidi_order.proofs.DeletedContent.{levels_in, past, resolved_levels_from-prefix, length-levels_in}
use Rattle.bidi_order.proofs.LevelBounds.{is_steady, steady-strong}
use Rattle.bidi_order.proofs.SimilarLevels.{IsValue, Similar}
use Rattle.bidi_order.proofs.SimilarLevels.Similar.{similar_end, similar_shared, similar_value}
use Rattle.bidi_order.proofs.LeastLevel.{Every}
use Rattle.bidi_order.proofs.LeastLevel.Every.{every_end, every_none, every_some}
use Rattle.bidi_order.proofs.LevelsAboveBase.{levels-base}
use Rattle.bidi_order.proofs.ResetOrder.{Fits, has_separator, least_between, order-reset_levels}
use Rattle.bidi_order.proofs.ResetOrder.Fits.{fits_end, fits_some, fits_none}

abbrev pub kinds : List ℕ → List ResetKind
kinds line = map (λ (c : ℕ). reset_kind (bidi_class c)) line

-- what values hold matches and has no separator
pub data Held : List Both → Type 0 where
  held_end : Held []
  held_shared : {c : ℕ} {line : List Both} → Held line → Held (Shared c ∷ line)
  held_value : {k i j : ℕ} {v w : List ℕ} {line : List Both} → is_initiator i ≡ true → is_initiator j ≡ true
      → Matched 0 v → Matched 0 w
      → has_separator (kinds v) ≡ false → has_separator (kinds w) ≡ false → Held line → Held (Values k i j v w ∷ line)

-- the limit at each value of the one line
pub data Limited : DirectionalStatus → List Both → Type 0 where
  limited_end : {s : DirectionalStatus} → Limited s []
  limited_shared : {s : DirectionalStatus} {c : ℕ} {line : List Both}
      → Limited (status_after (act_of_character c (one_line line)) s) line → Limited s (Shared c ∷ line)
  limited_value : {s : DirectionalStatus} {k i j : ℕ} {v w : List ℕ} {line : List Both} → is_within_depth s ≡ true
      → Limited s line → Limited s (Values k i j v w ∷ line)

pub Alike-both : (line : List Both) → Held line → Alike (one_line line) (other_line line)
Alike-both line held_end n = refl
Alike-both line (held_shared {c = c} {line = rest} h) n = fsi-more (bidi_class c) (map bidi_class (one_line rest))
    (map bidi_class (other_line rest)) (Alike-both rest h) n
Alike-both line (held_value {i = i} {j = j} {v = v} {w = w} {line = rest} bi bj mv mw sv sw h) n =
    fsi-begins n (bidi_class i) (map bidi_class (v ++ 0x2069 ∷ one_line rest)) bi
    ∙ fsi-matched 0 v mv n (suc n) (0x2069 ∷ one_line rest) (omega arith)
    ∙ fsi-more (bidi_class 0x2069) (map bidi_class (one_line rest)) (map bidi_class (other_line rest))
    (Alike-both rest h) (suc n)
    ∙ sym (fsi-begins n (bidi_class j) (map bidi_class (w ++ 0x2069 ∷ other_line rest)) bj
    ∙ fsi-matched 0 w mw n (suc n) (0x2069 ∷ other_line rest) (omega arith))

-- the explicit characters of the first part of two lines
pub record Pieces (s : DirectionalStatus) (A Z : List Both) : Type 0 where
  pub first : List (Option KeptCharacter)
  pub second : List (Option KeptCharacter)
  pub after : DirectionalStatus
  pub first_is : explicit_from s (one_line (A ++ Z)) ≡ first ++ explicit_from after (one_line Z)
  pub second_is : explicit_from s (other_line (A ++ Z)) ≡ second ++ explicit_from after (other_line Z)
  pub similar : Similar first second
  pub long_first : length first ≡ length (one_line A)
  pub long_second : length second ≡ length (other_line A)
  pub limited : Limited after Z
  pub held : Held Z

opening-steady : (s : DirectionalStatus) → is_steady (opening s).resolved.class ≡ true
unfolding opening
opening-steady s = go (top_entry s).override
  where
    go : (o : Option Bool) → is_steady (option_map_or strong_class o LRI) ≡ true
    go None = refl
    go (Some d) = steady-strong d

closing-steady : (s : DirectionalStatus) → is_steady (closing s).resolved.class ≡ true
unfolding closing
closing-steady s = go (top_entry s).override
  where
    go : (o : Option Bool) → is_steady (option_map_or strong_class o PDI) ≡ true
    go None = refl
    go (Some d) = steady-strong d

pub is_value : (s : DirectionalStatus) (V : List (Option KeptCharacter)) → Within (top_entry s).level 0 V
    → IsValue (opening s) (closing s) V
unfolding opening closing
is_value s V w = record {
  opens = refl;
  ends = refl;
  same = refl;
  within = w;
  steady = opening-steady s;
  steady_end = closing-steady s;
}

pub pieces : (s : DirectionalStatus) (A Z : List Both) → Held (A ++ Z) → Limited s (A ++ Z) → Pieces s A Z
pieces s [] Z h l = record {
  first = [];
  second = [];
  after = s;
  first_is = refl;
  second_is = refl;
  similar = similar_end;
  long_first = refl;
  long_second = refl;
  limited = l;
  held = h;
}
pieces s (Shared c ∷ A) Z (held_shared h) (limited_shared l) =
    let does : ExplicitAct = act_of_character c (one_line (A ++ Z)) in
    let rest : Pieces (status_after does s) A Z = pieces (status_after does s) A Z h l in
    let same : act_of_character c (other_line (A ++ Z)) ≡ does =
    sym (act_of_class-same (bidi_class c) (map bidi_class (one_line (A ++ Z)))
    (map bidi_class (other_line (A ++ Z))) (Alike-both (A ++ Z) h 0)) in
    record {
      first = explicit_character c does s ∷ rest.first;
      second = explicit_character c does s ∷ rest.second;
      after = rest.after;
      first_is = ap (λ r. explicit_character c does s ∷ r) rest.first_is;
      second_is = ap (λ a. explicit_character c a s ∷ explicit_from (status_after a s) (other_line (A ++ Z))) same
          ∙ ap (λ r. explicit_character c does s ∷ r) rest.second_is;
      similar = similar_shared rest.similar;
      long_first = ap suc rest.long_first;
      long_second = ap suc rest.long_second;
      limited = rest.limited;
      held = rest.held;
    }
pieces s (Values k i j v w ∷ A) Z (held_value bi bj mv mw sv sw h) (limited_value room l) =
    let rest : Pieces s A Z = pieces s A Z h l in
    let one : Value s i 0x2069 v (one_line (A ++ Z)) = value s i 0x2069 v (one_line (A ++ Z)) bi closing-pdi mv room in
    let two : Value s j 0x2069 w (other_line (A ++ Z)) = value s j 0x2069 w (other_line (A ++ Z)) bj closing-pdi mw
    room in
    record {
      first = Some (opening s) ∷ (one.slots ++ Some (closing s) ∷ rest.first);
      second = Some (opening s) ∷ (two.slots ++ Some (closing s) ∷ rest.second);
      after = rest.after;
      first_is = one.is ∙ ap (λ r. Some (opening s) ∷ (one.slots ++ Some (closing s) ∷ r)) rest.first_is
          ∙ ap (λ r. Some (opening s) ∷ r)
          (sym (append_assoc one.slots (Some (closing s) ∷ rest.first) (explicit_from rest.after (one_line Z))));
      second_is = two.is ∙ ap (λ r. Some (opening s) ∷ (two.slots ++ Some (closing s) ∷ r)) rest.second_is
          ∙ ap (λ r. Some (opening s) ∷ r)
          (sym (append_assoc two.slots (Some (closing s) ∷ rest.second) (explicit_from rest.after (other_line Z))));
      similar = similar_value (is_value s one.slots one.within) (is_value s two.slots two.within) rest.similar;
      long_first = omega (
        arith,
        length-append one.slots (Some (closing s) ∷ rest.first),
        length-append v
            (0x2069 ∷ one_line A),
        one.long,
        rest.long_first,
      );
      long_second = omega (
        arith,
        length-append two.slots (Some (closing s) ∷ rest.second),
        length-append w
            (0x2069 ∷ other_line A),
        two.long,
        rest.long_second,
      );
      limited = rest.limited;
      held = rest.held;
    }

-- a surrounding character is kept, and L1 leaves it
pub surrounding-stands : (k : Class) (ks : List Class) → is_surrounding k ≡ true → act_of_class k ks ≡ Stays
surrounding-stands BN ks h = absurd (both_ways _ refl h)
surrounding-stands LRE ks h = absurd (both_ways _ refl h)
surrounding-stands LRO ks h = absurd (both_ways _ refl h)
surrounding-stands RLE ks h = absurd (both_ways _ refl h)
surrounding-stands RLO ks h = absurd (both_ways _ refl h)
surrounding-stands PDF ks h = absurd (both_ways _ refl h)
surrounding-stands LRI ks h = absurd (both_ways _ refl h)
surrounding-stands RLI ks h = absurd (both_ways _ refl h)
surrounding-stands FSI ks h = absurd (both_ways _ refl h)
surrounding-stands PDI ks h = absurd (both_ways _ refl h)
surrounding-stands _ ks h = refl

pub surrounding-text : (k : Class) → is_surrounding k ≡ true → reset_kind k ≡ Text
surrounding-text S h = absurd (both_ways _ refl h)
surrounding-text WS h = absurd (both_ways _ refl h)
surrounding-text BN h = absurd (both_ways _ refl h)
surrounding-text LRE h = absurd (both_ways _ refl h)
surrounding-text LRO h = absurd (both_ways _ refl h)
surrounding-text RLE h = absurd (both_ways _ refl h)
surrounding-text RLO h = absurd (both_ways _ refl h)
surrounding-text PDF h = absurd (both_ways _ refl h)
surrounding-text LRI h = absurd (both_ways _ refl h)
surrounding-text RLI h = absurd (both_ways _ refl h)
surrounding-text FSI h = absurd (both_ways _ refl h)
surrounding-text PDI h = absurd (both_ways _ refl h)
surrounding-text _ h = refl

-- a separator is kept
separator-stands : (k : Class) (ks : List Class) → reset_kind k ≡ Separator → act_of_class k ks ≡ Stays
separator-stands S ks h = refl
separator-stands _ ks h = cc

fits-explicit_character : (base c : ℕ) (kind : ResetKind) (a : ExplicitAct) (s : DirectionalStatus)
    (back K : List (Option KeptCharacter)) (ss : List ResetKind) → (kind ≡ Separator → a ≡ Stays)
    → ((back : List (Option KeptCharacter)) → Fits ss (resolved_levels_from base back K))
    → Fits (kind ∷ ss) (resolved_levels_from base back (explicit_character c a s ∷ K))
fits-explicit_character base c kind (Embeds b o) s back K ss stands rest =
    fits_none (λ e. let h : Embeds b o ≡ Stays = stands e in cc) (rest (None ∷ back))
fits-explicit_character base c kind (Isolates b) s back K ss stands rest =
    fits_some (rest (explicit_character c (Isolates b) s ∷ back))
fits-explicit_character base c kind EndsIsolate s back K ss stands rest =
    fits_some (rest (explicit_character c EndsIsolate s ∷ back))
fits-explicit_character base c kind EndsEmbedding s back K ss stands rest =
    fits_none (λ e. let h : EndsEmbedding ≡ Stays = stands e in cc) (rest (None ∷ back))
fits-explicit_character base c kind IsRemoved s back K ss stands rest =
    fits_none (λ e. let h : IsRemoved ≡ Stays = stands e in cc) (rest (None ∷ back))
fits-explicit_character base c kind Stays s back K ss stands rest =
    fits_some (rest (explicit_character c Stays s ∷ back))

pub fits-line : (base : ℕ) (s : DirectionalStatus) (back : List (Option KeptCharacter)) (line : List ℕ)
    → Fits (kinds line) (resolved_levels_from base back (explicit_from s line))
fits-line base s back [] = fits_end
fits-line base s back (c ∷ cs) =
    fits-explicit_character base c (reset_kind (bidi_class c)) (act_of_character c cs) s back
    (explicit_from (status_after (act_of_character c cs) s) cs) (kinds cs)
    (separator-stands (bidi_class c) (map bidi_class cs))
    (λ back. fits-line base (status_after (act_of_character c cs) s) back cs)

pub Fits-tail : {kind : ResetKind} {ss : List ResetKind} {l : Option ℕ} {ls : List (Option ℕ)}
    → Fits (kind ∷ ss) (l ∷ ls) → Fits ss ls
Fits-tail (fits_some f) = f
Fits-tail (fits_none n f) = f

pub Fits-left : (a b : List ResetKind) (A T : List (Option ℕ)) → length a ≡ length A → Fits (a ++ b) (A ++ T) → Fits a A
Fits-left [] b [] T e f = fits_end
Fits-left [] b (l ∷ A) T e f = absurd (omega arith)
Fits-left (kind ∷ a) b [] T e f = absurd (omega arith)
Fits-left (kind ∷ a) b (Some l ∷ A) T e (fits_some f) = fits_some (Fits-left a b A T (omega arith) f)
Fits-left (kind ∷ a) b (None ∷ A) T e (fits_none n f) = fits_none n (Fits-left a b A T (omega arith) f)

pub Fits-right : (a b : List ResetKind) (A T : List (Option ℕ)) → length a ≡ length A → Fits (a ++ b) (A ++ T)
    → Fits b T
Fits-right [] b [] T e f = f
Fits-right [] b (l ∷ A) T e f = absurd (omega arith)
Fits-right (kind ∷ a) b [] T e f = absurd (omega arith)
Fits-right (kind ∷ a) b (l ∷ A) T e f = Fits-right a b A T (omega arith) (Fits-tail f)

pub Every-right : (P : ℕ → Type 0) (A T : List (Option ℕ)) → Every P (A ++ T) → Every P T
Every-right P [] T h = h
Every-right P (None ∷ A) T (every_none h) = Every-right P A T h
Every-right P (Some l ∷ A) T (every_some p h) = Every-right P A T h

pub Every-left : (P : ℕ → Type 0) (A T : List (Option ℕ)) → Every P (A ++ T) → Every P A
Every-left P [] T h = every_end
Every-left P (None ∷ A) T (every_none h) = every_none (Every-left P A T h)
Every-left P (Some l ∷ A) T (every_some p h) = every_some p (Every-left P A T h)

pub Every-first : (P : ℕ → Type 0) (l : ℕ) (T : List (Option ℕ)) → Every P (Some l ∷ T) → P l
Every-first P l T (every_some p h) = p

-- the order of two surrounding characters of one line
module _ (base : ℕ) (a m b : List ℕ) (x y : ℕ) (SA SM TB : List (Option KeptCharacter)) (kx ky : KeptCharacter)
    (is : explicit_characters base (a ++ x ∷ (m ++ y ∷ b)) ≡ SA ++ Some kx ∷ (SM ++ Some ky ∷ TB))
    (long_a : length SA ≡ length a) (long_m : length SM ≡ length m)
    (tx : reset_kind (bidi_class x) ≡ Text) (ty : reset_kind (bidi_class y) ≡ Text) where
  abbrev at_x : ℕ
  at_x = resolved_level base (past [] SA) kx (SM ++ Some ky ∷ TB)

  abbrev at_y : ℕ
  at_y = resolved_level base (past (Some kx ∷ past [] SA) SM) ky TB

  abbrev in_m : List (Option ℕ)
  in_m = levels_in base (Some kx ∷ past [] SA) SM (Some ky ∷ TB)

  pub order_in_line : is_left_of (line_levels base (a ++ x ∷ (m ++ y ∷ b))) (length a) (length a + 1 + length m)
      ≡ not (is_odd (least_between base (has_separator (kinds m)) at_x in_m at_y))
  unfolding line_levels
  order_in_line =
      let line : List ℕ = a ++ x ∷ (m ++ y ∷ b) in
      let LA : List (Option ℕ) = levels_in base [] SA (Some kx ∷ (SM ++ Some ky ∷ TB)) in
      let LB : List (Option ℕ) = resolved_levels_from base (Some ky ∷ past (Some kx ∷ past [] SA) SM) TB in
      let L : List (Option ℕ) = LA ++ Some at_x ∷ (in_m ++ Some at_y ∷ LB) in
      let levels : resolved_levels_from base [] (explicit_characters base line) ≡ L =
      ap (resolved_levels_from base []) is ∙ resolved_levels_from-prefix base [] SA (Some kx ∷ (SM ++ Some ky ∷ TB))
      ∙ ap (λ r. LA ++ Some at_x ∷ r) (resolved_levels_from-prefix base (Some kx ∷ past [] SA) SM (Some ky ∷ TB)) in
      let split : kinds line ≡ kinds a ++ Text ∷ (kinds m ++ Text ∷ kinds b) =
      map-append (λ (c : ℕ). reset_kind (bidi_class c)) a (x ∷ (m ++ y ∷ b))
      ∙ ap (λ t. kinds a ++ t ∷ kinds (m ++ y ∷ b)) tx
      ∙ ap (λ r. kinds a ++ Text ∷ r) (map-append (λ (c : ℕ). reset_kind (bidi_class c)) m (y ∷ b)
      ∙ ap (λ t. kinds m ++ t ∷ kinds b) ty) in
      let fits : Fits (kinds a ++ Text ∷ (kinds m ++ Text ∷ kinds b)) L =
      subst (λ s. Fits s L) split
      (subst (Fits (kinds line)) levels (fits-line base (initial_status base) [] line)) in
      let every : Every (λ l. base ≤ l) L = subst (Every (λ l. base ≤ l)) levels (levels-base base line) in
      let n : length (kinds a) ≡ length LA = length-map a (λ (c : ℕ). reset_kind (bidi_class c)) ∙ sym long_a
      ∙ sym (length-levels_in base [] SA (Some kx ∷ (SM ++ Some ky ∷ TB))) in
      let k : length (kinds m) ≡ length in_m = length-map m (λ (c : ℕ). reset_kind (bidi_class c)) ∙ sym long_m
      ∙ sym (length-levels_in base (Some kx ∷ past [] SA) SM (Some ky ∷ TB)) in
      let fits_a : Fits (kinds a) LA = Fits-left (kinds a) (Text ∷ (kinds m ++ Text ∷ kinds b)) LA
      (Some at_x ∷ (in_m ++ Some at_y ∷ LB)) n fits in
      let fits_m : Fits (kinds m) in_m = Fits-left (kinds m) (Text ∷ kinds b) in_m (Some at_y ∷ LB) k
      (Fits-tail (Fits-right (kinds a) (Text ∷ (kinds m ++ Text ∷ kinds b)) LA
      (Some at_x ∷ (in_m ++ Some at_y ∷ LB)) n fits)) in
      let every_x : Every (λ l. base ≤ l) (Some at_x ∷ (in_m ++ Some at_y ∷ LB)) =
      Every-right (λ l. base ≤ l) LA (Some at_x ∷ (in_m ++ Some at_y ∷ LB)) every in
      let every_m : Every (λ l. base ≤ l) (in_m ++ Some at_y ∷ LB) = Every-right (λ l. base ≤ l) (Some at_x ∷ [])
      (in_m ++ Some at_y ∷ LB) every_x in
      ap (λ i. is_left_of (line_levels base line) i (i + 1 + length m))
      (sym (length-map a (λ (c : ℕ). reset_kind (bidi_class c))))
      ∙ ap (λ i. is_left_of (line_levels base line) (length (kinds a)) (length (kinds a) + 1 + i))
      (sym (length-map m (λ (c : ℕ). reset_kind (bidi_class c))))
      ∙ ap (λ l. is_left_of (reset_levels base (kinds line) l) (length (kinds a))
      (length (kinds a) + 1 + length (kinds m))) levels
      ∙ ap (λ s. is_left_of (reset_levels base s L) (length (kinds a)) (length (kinds a) + 1 + length (kinds m))) split
      ∙ order-reset_levels base (kinds a) (kinds m) (kinds b) LA in_m LB at_x at_y fits_a fits_m
      (Every-left (λ l. base ≤ l) in_m (Some at_y ∷ LB) every_m)
      (Every-first (λ l. base ≤ l) at_x (in_m ++ Some at_y ∷ LB) every_x)
      (Every-first (λ l. base ≤ l) at_y LB (Every-right (λ l. base ≤ l) in_m (Some at_y ∷ LB) every_m))

-- the two sides of a line
pub one_line-append : (A Z : List Both) → one_line (A ++ Z) ≡ one_line A ++ one_line Z
one_line-append [] Z = refl
one_line-append (Shared c ∷ A) Z = ap (λ l. c ∷ l) (one_line-append A Z)
one_line-append (Values k i j v w ∷ A) Z = ap (λ l. i ∷ (v ++ 0x2069 ∷ l)) (one_line-append A Z)
    ∙ ap (λ l. i ∷ l) (sym (append_assoc v (0x2069 ∷ one_line A) (one_line Z)))

pub other_line-append : (A Z : List Both) → other_line (A ++ Z) ≡ other_line A ++ other_line Z
other_line-append [] Z = refl
other_line-append (Shared c ∷ A) Z = ap (λ l. c ∷ l) (other_line-append A Z)
other_line-append (Values k i j v w ∷ A) Z = ap (λ l. j ∷ (w ++ 0x2069 ∷ l)) (other_line-append A Z)
    ∙ ap (λ l. j ∷ l) (sym (append_assoc w (0x2069 ∷ other_line A) (other_line Z)))

-- the same separators stand in both
pub has_separator-append : (a b : List ResetKind) → has_separator a ≡ false → has_separator (a ++ b) ≡ has_separator b
has_separator-append [] b h = refl
has_separator-append (Separator ∷ a) b h = absurd (both_ways _ h refl)
has_separator-append (Whitespace ∷ a) b h = has_separator-append a b h
has_separator-append (Removed ∷ a) b h = has_separator-append a b h
has_separator-append (Text ∷ a) b h = has_separator-append a b h

pub has_separator-more : (kind : ResetKind) (a b : List ResetKind) → has_separator a ≡ has_separator b
    → has_separator (kind ∷ a) ≡ has_separator (kind ∷ b)
has_separator-more Separator a b h = refl
has_separator-more Whitespace a b h = h
has_separator-more Removed a b h = h
has_separator-more Text a b h = h

pub initiator-apart : (k : Class) (a : List ResetKind) → begins_isolate k ≡ true → has_separator (reset_kind k ∷ a)
    ≡ has_separator a
initiator-apart LRI a h = refl
initiator-apart RLI a h = refl
initiator-apart FSI a h = refl
initiator-apart _ a h = absurd (both_ways _ refl h)

pub of_value : (i : ℕ) (v rest : List ℕ) → is_initiator i ≡ true → has_separator (kinds v) ≡ false
    → has_separator (kinds (i ∷ (v ++ 0x2069 ∷ rest))) ≡ has_separator (reset_kind (bidi_class 0x2069) ∷ kinds rest)
of_value i v rest bi sv =
    initiator-apart (bidi_class i) (kinds (v ++ 0x2069 ∷ rest)) bi
    ∙ ap has_separator (map-append (λ (c : ℕ). reset_kind (bidi_class c)) v (0x2069 ∷ rest))
    ∙ has_separator-append (kinds v) (kinds (0x2069 ∷ rest)) sv

pub same_separators : (line : List Both) → Held line → has_separator (kinds (one_line line))
    ≡ has_separator (kinds (other_line line))
same_separators line held_end = refl
same_separators line (held_shared {c = c} {line = rest} h) = has_separator-more (reset_kind (bidi_class c))
    (kinds (one_line rest)) (kinds (other_line rest)) (same_separators rest h)
same_separators line (held_value {i = i} {j = j} {v = v} {w = w} {line = rest} bi bj mv mw sv sw h) =
    of_value i v (one_line rest) bi sv ∙ has_separator-more (reset_kind (bidi_class 0x2069)) (kinds (one_line rest))
    (kinds (other_line rest)) (same_separators rest h) ∙ sym (of_value j w (other_line rest) bj sw)

pub Held-left : (A Z : List Both) → Held (A ++ Z) → Held A
Held-left [] Z h = held_end
Held-left (Shared c ∷ A) Z (held_shared h) = held_shared (Held-left A Z h)
Held-left (Values k i j v w ∷ A) Z (held_value bi bj mv mw sv sw h) =
    held_value bi bj mv mw sv sw (Held-left A Z h)

-- a surrounding character that comes next
pub held-rest : {c : ℕ} {line : List Both} → Held (Shared c ∷ line) → Held line
held-rest (held_shared h) = h

pub limited-rest : (s : DirectionalStatus) (c : ℕ) (line : List Both) → is_surrounding (bidi_class c) ≡ true
    → Limited s (Shared c ∷ line) → Limited s line
limited-rest s c line sc (limited_shared l) = subst (λ a. Limited (status_after a s) line)
    (surrounding-stands (bidi_class c) (map bidi_class (one_line line)) sc) l

unfoldable pub plain : DirectionalStatus → ℕ → KeptCharacter
plain s c = record {
  level = (top_entry s).level;
  role = Neither;
  resolved = record {
    class = option_map_or strong_class (top_entry s).override (bidi_class c);
    bracket = bracket c;
  };
}

pub surrounding-explicit : (s : DirectionalStatus) (c : ℕ) (rest : List ℕ) → is_surrounding (bidi_class c)
    ≡ true → explicit_from s (c ∷ rest) ≡ Some (plain s c) ∷ explicit_from s rest
unfolding plain
surrounding-explicit s c rest sc = ap (λ a. explicit_character c a s ∷ explicit_from (status_after a s) rest)
    (surrounding-stands (bidi_class c) (map bidi_class rest) sc)
