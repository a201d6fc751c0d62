-- The levels around a value are the same whatever it holds.
use Rattle.std.proofs.Common.{◌≡◌, ℕ, suc, ◌+◌, max, true, List, [], ◌∷◌, ◌++◌, reverse, drop, length, get_or, refl}
use Rattle.std.proofs.Common.{sym, ap, subst, ◌∙◌, append_assoc, length-append, arith, Option, Some, None}
use Rattle.std.proofs.lemmas.List.{reverse-append, take_at, drop_at, drop-drop}
use Rattle.bidi_class.specs.Pairs.{is_initiator, is_closing}
use Rattle.bidi_order.specs.DirectionalStatus.{DirectionalStatus, initial_status, is_within_depth}
use Rattle.bidi_order.specs.Explicit.{SequenceCharacter, KeptCharacter, explicit_from, explicit_characters}
use Rattle.bidi_order.specs.Explicit.{status_before}
use Rattle.bidi_order.specs.Explicit.IsolateRole.{Initiates, Terminates}
use Rattle.bidi_order.specs.Sequences.{Scan, scanned_role, enters_isolate, Following, sequence_along, side_class}
use Rattle.bidi_order.specs.Sequences.{resolved_level, resolved_levels_from, levels_before_reset}
use Rattle.bidi_order.specs.Sequences.Scan.{Forward, Backward}
use Rattle.bidi_order.specs.Sequences.Following.{Taking}
use Rattle.bidi_order.specs.Resolve.{resolve}
use Rattle.bidi_order.specs.WithinLimit.{without}
use Rattle.bidi_order.proofs.FollowedSequences.{Within, Above, Above-Within, Above-reverse, sequence_along-more}
use Rattle.bidi_order.proofs.FollowedSequences.{entered, isolate_passed, passing_ahead, passing_behind}
use Rattle.bidi_order.proofs.RestoredStatus.{Matched, Alike, Alike-isolates, Value, value, opening, closing}
use Rattle.bidi_order.proofs.RestoredStatus.{explicit_in, explicit_from-prefix, explicit_in-same, status_before-same}
use Rattle.bidi_order.proofs.RestoredStatus.{length-explicit_in}

-- two lists that are followed alike
abbrev pub Same : Scan → ℕ → List (Option KeptCharacter) → List (Option KeptCharacter) → Type 0
Same scan base X Y = (level : ℕ) (w : Following) → sequence_along scan base level w X ≡ sequence_along scan base level
    w Y

pub Same-more : (scan : Scan) (base : ℕ) (s : Option KeptCharacter) (X Y : List (Option KeptCharacter))
    → Same scan base X Y → Same scan base (s ∷ X) (s ∷ Y)
Same-more scan base s X Y same level w = sequence_along-more scan base level s X Y (same level) w

pub Same-prefix : (scan : Scan) (base : ℕ) (A X Y : List (Option KeptCharacter)) → Same scan base X Y
    → Same scan base (A ++ X) (A ++ Y)
Same-prefix scan base [] X Y same = same
Same-prefix scan base (s ∷ A) X Y same = Same-more scan base s (A ++ X) (A ++ Y) (Same-prefix scan base A X Y same)

-- what `resolved_level` makes of what stands on both sides
level_by : KeptCharacter → List SequenceCharacter × ℕ → List SequenceCharacter × ℕ → ℕ
level_by k before after =
    get_or (resolve k.level (side_class (max k.level before.1)) (side_class (max k.level after.1))
    (reverse before.0 ++ k.resolved ∷ after.0)) (length before.0) 0

resolved_level-by : (base : ℕ) (back : List (Option KeptCharacter)) (k : KeptCharacter)
    (rest : List (Option KeptCharacter))
    → resolved_level base back k rest
    ≡ level_by k (sequence_along Backward base k.level (Taking (enters_isolate (scanned_role Backward k.role)))
    back) (sequence_along Forward base k.level (Taking (enters_isolate (scanned_role Forward k.role))) rest)
unfolding level_by
resolved_level-by base back k rest = refl

pub resolved_level-same : (base : ℕ) (back back' : List (Option KeptCharacter)) (k : KeptCharacter)
    (rest rest' : List (Option KeptCharacter))
    → sequence_along Backward base k.level (Taking (enters_isolate (scanned_role Backward k.role))) back
    ≡ sequence_along Backward base k.level (Taking (enters_isolate (scanned_role Backward k.role))) back'
    → sequence_along Forward base k.level (Taking (enters_isolate (scanned_role Forward k.role))) rest
    ≡ sequence_along Forward base k.level (Taking (enters_isolate (scanned_role Forward k.role))) rest'
    → resolved_level base back k rest ≡ resolved_level base back' k rest'
resolved_level-same base back back' k rest rest' p q =
    resolved_level-by base back k rest
    ∙ ap (λ b. level_by k b
    (sequence_along Forward base k.level (Taking (enters_isolate (scanned_role Forward k.role))) rest)) p
    ∙ ap (λ a. level_by k
    (sequence_along Backward base k.level (Taking (enters_isolate (scanned_role Backward k.role))) back') a) q
    ∙ sym (resolved_level-by base back' k rest')

-- the levels of some characters, in their line
unfoldable pub levels_in : ℕ → List (Option KeptCharacter) → List (Option KeptCharacter) → List (Option KeptCharacter)
    → List (Option ℕ)
levels_in base back [] rest = []
levels_in base back (None ∷ A) rest = None ∷ levels_in base (None ∷ back) A rest
levels_in base back (Some k ∷ A) rest = Some (resolved_level base back k (A ++ rest)) ∷ levels_in base (Some k ∷ back)
    A rest

pub length-levels_in : (base : ℕ) (back A rest : List (Option KeptCharacter)) → length (levels_in base back A rest)
    ≡ length A
unfolding levels_in
length-levels_in base back [] rest = refl
length-levels_in base back (None ∷ A) rest = ap suc (length-levels_in base (None ∷ back) A rest)
length-levels_in base back (Some k ∷ A) rest = ap suc (length-levels_in base (Some k ∷ back) A rest)

-- what stands behind after some characters
unfoldable pub past : List (Option KeptCharacter) → List (Option KeptCharacter) → List (Option KeptCharacter)
past back [] = back
past back (s ∷ A) = past (s ∷ back) A

pub past-reverse : (back A : List (Option KeptCharacter)) → past back A ≡ reverse A ++ back
unfolding past
past-reverse back [] = refl
past-reverse back (s ∷ A) = past-reverse (s ∷ back) A ∙ sym (append_assoc (reverse A) (s ∷ []) back)
    ∙ ap (λ l. l ++ back) (sym (reverse-append (s ∷ []) A))

pub resolved_levels_from-prefix : (base : ℕ) (back A rest : List (Option KeptCharacter))
    → resolved_levels_from base back (A ++ rest) ≡ levels_in base back A rest ++ resolved_levels_from base
    (past back A) rest
unfolding levels_in past
resolved_levels_from-prefix base back [] rest = refl
resolved_levels_from-prefix base back (None ∷ A) rest =
    ap (λ l. None ∷ l) (resolved_levels_from-prefix base (None ∷ back) A rest)
resolved_levels_from-prefix base back (Some k ∷ A) rest = ap (λ l. Some (resolved_level base back k (A ++ rest)) ∷ l)
    (resolved_levels_from-prefix base (Some k ∷ back) A rest)

pub levels_in-same : (base : ℕ) (back A X Y : List (Option KeptCharacter)) → Same Forward base X Y
    → levels_in base back A X ≡ levels_in base back A Y
unfolding levels_in
levels_in-same base back [] X Y same = refl
levels_in-same base back (None ∷ A) X Y same = ap (λ l. None ∷ l) (levels_in-same base (None ∷ back) A X Y same)
levels_in-same base back (Some k ∷ A) X Y same =
    ap (λ n. Some n ∷ levels_in base (Some k ∷ back) A X)
    (resolved_level-same base back back k (A ++ X) (A ++ Y) refl
    (Same-prefix Forward base A X Y same k.level (Taking (enters_isolate (scanned_role Forward k.role)))))
    ∙ ap (λ l. Some (resolved_level base back k (A ++ Y)) ∷ l) (levels_in-same base (Some k ∷ back) A X Y same)

pub resolved_levels_from-same : (base : ℕ) (X Y rest : List (Option KeptCharacter)) → Same Backward base X Y
    → resolved_levels_from base X rest ≡ resolved_levels_from base Y rest
resolved_levels_from-same base X Y [] same = refl
resolved_levels_from-same base X Y (None ∷ rest) same =
    ap (λ l. None ∷ l) (resolved_levels_from-same base (None ∷ X) (None ∷ Y) rest
    (Same-more Backward base None X Y same))
resolved_levels_from-same base X Y (Some k ∷ rest) same =
    ap (λ n. Some n ∷ resolved_levels_from base (Some k ∷ X) rest)
    (resolved_level-same base X Y k rest rest
    (same k.level (Taking (enters_isolate (scanned_role Backward k.role)))) refl)
    ∙ ap (λ l. Some (resolved_level base Y k rest) ∷ l) (resolved_levels_from-same base (Some k ∷ X) (Some k ∷ Y) rest
    (Same-more Backward base (Some k) X Y same))

without_mid : {X : Type 0} (P M Q : List X) (n m : ℕ) → length P ≡ n → length M ≡ m → without n m (P ++ (M ++ Q))
    ≡ P ++ Q
without_mid P M Q n m e f =
    ap (λ l. l ++ drop (n + m) (P ++ (M ++ Q))) (take_at P (M ++ Q) n e)
    ∙ ap (λ l. P ++ l) (sym (drop-drop m n (P ++ (M ++ Q))) ∙ ap (drop m) (drop_at P (M ++ Q) n e) ∙ drop_at M Q m f)

-- a line around an isolate, with what stands inside and without
module _ (base : ℕ) (A : List (Option KeptCharacter)) (i p : KeptCharacter) (V B : List (Option KeptCharacter))
    (opens : i.role ≡ Initiates) (ends : p.role ≡ Terminates) (same : i.level ≡ p.level) (within : Within i.level 0 V)
  where
    full : List (Option KeptCharacter)
    full = Some i ∷ (V ++ Some p ∷ B)

    bare : List (Option KeptCharacter)
    bare = Some i ∷ Some p ∷ B

    pub ahead : Same Forward base (Some i ∷ (V ++ Some p ∷ B)) (Some i ∷ Some p ∷ B)
    ahead level w = isolate_passed Forward base level i p V opens ends same
        (λ n o T. passing_ahead base level within n n o T (omega arith)) B (Above-Within within) w

    pub ahead_inside : sequence_along Forward base i.level (Taking (enters_isolate (scanned_role Forward i.role)))
        (V ++ Some p ∷ B) ≡ sequence_along Forward base i.level (Taking (enters_isolate (scanned_role Forward i.role)))
        (Some p ∷ B)
    ahead_inside = subst (λ r. sequence_along Forward base i.level (Taking (enters_isolate (scanned_role Forward r)))
        (V ++ Some p ∷ B) ≡ sequence_along Forward base i.level (Taking (enters_isolate (scanned_role Forward r)))
        (Some p ∷ B)) (sym opens)
        (entered Forward base i.level i p V opens ends same
        (λ n o T. passing_ahead base i.level within n n o T (omega arith)) B refl (Above-Within within))

    behind_opens : scanned_role Backward p.role ≡ Initiates
    behind_opens = ap (scanned_role Backward) ends

    behind_ends : scanned_role Backward i.role ≡ Terminates
    behind_ends = ap (scanned_role Backward) opens

    above : Above p.level (reverse V)
    above = Above-reverse V (subst (λ l. Above l V) same (Above-Within within))

    pub behind : (back : List (Option KeptCharacter)) → Same Backward base (Some p ∷ (reverse V ++ Some i ∷ back))
        (Some p ∷ Some i ∷ back)
    behind back level w =
        isolate_passed Backward base level p i (reverse V) behind_opens behind_ends (sym same)
        (λ n o T. passing_behind base level within n n o T (omega arith)) back above w

    pub behind_inside : (back : List (Option KeptCharacter))
        → sequence_along Backward base p.level (Taking (enters_isolate (scanned_role Backward p.role)))
        (reverse V ++ Some i ∷ back) ≡ sequence_along Backward base p.level
        (Taking (enters_isolate (scanned_role Backward p.role))) (Some i ∷ back)
    behind_inside back =
        subst (λ r. sequence_along Backward base p.level (Taking (enters_isolate r)) (reverse V ++ Some i ∷ back)
        ≡ sequence_along Backward base p.level (Taking (enters_isolate r)) (Some i ∷ back)) (sym behind_opens)
        (entered Backward base p.level p i (reverse V) behind_opens behind_ends (sym same)
        (λ n o T. passing_behind base p.level within n n o T (omega arith)) back refl above)

    -- the levels of what isn't inside
    outside_levels : without (length A + 1) (length V) (resolved_levels_from base [] (A ++ Some i ∷ (V ++ Some p ∷ B)))
        ≡ resolved_levels_from base [] (A ++ Some i ∷ Some p ∷ B)
    outside_levels =
        let back : List (Option KeptCharacter) = past [] A in
        let P : List (Option ℕ) = levels_in base [] A (Some i ∷ Some p ∷ B) in
        let at_i : Option ℕ = Some (resolved_level base back i (Some p ∷ B)) in
        let M : List (Option ℕ) = levels_in base (Some i ∷ back) V (Some p ∷ B) in
        let Q : List (Option ℕ) = resolved_levels_from base (Some i ∷ back) (Some p ∷ B) in
        let long : resolved_levels_from base [] (A ++ Some i ∷ (V ++ Some p ∷ B)) ≡ (P ++ at_i ∷ []) ++ (M ++ Q) =
        resolved_levels_from-prefix base [] A (Some i ∷ (V ++ Some p ∷ B))
        ∙ ap (λ l. l ++ resolved_levels_from base back (Some i ∷ (V ++ Some p ∷ B)))
        (levels_in-same base [] A (Some i ∷ (V ++ Some p ∷ B)) (Some i ∷ Some p ∷ B) ahead)
        ∙ ap (λ n. P ++ Some n ∷ resolved_levels_from base (Some i ∷ back) (V ++ Some p ∷ B))
        (resolved_level-same base back back i (V ++ Some p ∷ B) (Some p ∷ B) refl ahead_inside)
        ∙ ap (λ l. P ++ at_i ∷ l) (resolved_levels_from-prefix base (Some i ∷ back) V (Some p ∷ B)
        ∙ ap (λ l. M ++ l) after)
        ∙ sym (append_assoc P (at_i ∷ []) (M ++ Q)) in
        let short : (P ++ at_i ∷ []) ++ Q ≡ resolved_levels_from base [] (A ++ Some i ∷ Some p ∷ B) =
        append_assoc P (at_i ∷ []) Q ∙ sym (resolved_levels_from-prefix base [] A (Some i ∷ Some p ∷ B)) in
        ap (without (length A + 1) (length V)) long
        ∙ without_mid (P ++ at_i ∷ []) M Q (length A + 1) (length V) (length-append P (at_i ∷ [])
        ∙ ap (λ n. n + 1) (length-levels_in base [] A (Some i ∷ Some p ∷ B)))
        (length-levels_in base (Some i ∷ back) V (Some p ∷ B))
        ∙ short
      where
        after : resolved_levels_from base (past (Some i ∷ past [] A) V) (Some p ∷ B) ≡ resolved_levels_from base
            (Some i ∷ past [] A) (Some p ∷ B)
        after =
            ap (λ b. resolved_levels_from base b (Some p ∷ B)) (past-reverse (Some i ∷ past [] A) V)
            ∙ ap (λ n. Some n ∷ resolved_levels_from base (Some p ∷ (reverse V ++ Some i ∷ past [] A)) B)
            (resolved_level-same base (reverse V ++ Some i ∷ past [] A) (Some i ∷ past [] A) p B B
            (behind_inside (past [] A)) refl)
            ∙ ap (λ l. Some (resolved_level base (Some i ∷ past [] A) p B) ∷ l)
            (resolved_levels_from-same base (Some p ∷ (reverse V ++ Some i ∷ past [] A))
            (Some p ∷ Some i ∷ past [] A) B (behind (past [] A)))

-- the explicit characters of a line around a value: those of its prefix and suffix don't know what the value holds
module _ (base : ℕ) (prefix : List ℕ) (i j p : ℕ) (v w back : List ℕ) (bi : is_initiator i ≡ true)
    (bj : is_initiator j ≡ true) (ep : is_closing p ≡ true) (mv : Matched 0 v) (mw : Matched 0 w)
    (room : is_within_depth (status_before (initial_status base) prefix (i ∷ (v ++ p ∷ back))) ≡ true) where
  abbrev there : DirectionalStatus
  there = status_before (initial_status base) prefix (i ∷ (v ++ p ∷ back))

  abbrev explicit_prefix : List (Option KeptCharacter)
  explicit_prefix = explicit_in (initial_status base) prefix (i ∷ (v ++ p ∷ back))

  alike : Alike (j ∷ (w ++ p ∷ back)) (i ∷ (v ++ p ∷ back))
  alike = Alike-isolates j i p w v back bj bi mw mv

  of_first : Value there i p v back
  of_first = value there i p v back bi ep mv room

  of_second : Value there j p w back
  of_second = value there j p w back bj ep mw room

  explicit_first : explicit_characters base (prefix ++ i ∷ (v ++ p ∷ back)) ≡ explicit_prefix ++ Some (opening there)
      ∷ (of_first.slots ++ Some (closing there) ∷ explicit_from there back)
  explicit_first = explicit_from-prefix (initial_status base) prefix (i ∷ (v ++ p ∷ back))
      ∙ ap (λ l. explicit_prefix ++ l) of_first.is

  explicit_second : explicit_characters base (prefix ++ j ∷ (w ++ p ∷ back)) ≡ explicit_prefix ++ Some (opening there)
      ∷ (of_second.slots ++ Some (closing there) ∷ explicit_from there back)
  explicit_second =
      explicit_from-prefix (initial_status base) prefix (j ∷ (w ++ p ∷ back))
      ∙ ap (λ l. l ++ explicit_from (status_before (initial_status base) prefix (j ∷ (w ++ p ∷ back)))
      (j ∷ (w ++ p ∷ back))) (explicit_in-same (initial_status base) prefix (j ∷ (w ++ p ∷ back))
      (i ∷ (v ++ p ∷ back)) alike)
      ∙ ap (λ s. explicit_prefix ++ explicit_from s (j ∷ (w ++ p ∷ back)))
      (status_before-same (initial_status base) prefix (j ∷ (w ++ p ∷ back)) (i ∷ (v ++ p ∷ back)) alike)
      ∙ ap (λ l. explicit_prefix ++ l) of_second.is

  -- the levels of the rest of the line, with the first value and with the second
  pub around_values : without (length prefix + 1) (length v)
      (levels_before_reset base (prefix ++ i ∷ (v ++ p ∷ back))) ≡ without (length prefix + 1) (length w)
      (levels_before_reset base (prefix ++ j ∷ (w ++ p ∷ back)))
  unfolding opening closing
  around_values =
      let n : length explicit_prefix ≡ length prefix = length-explicit_in (initial_status base) prefix
      (i ∷ (v ++ p ∷ back)) in
      let bare : List (Option ℕ) =
      resolved_levels_from base [] (explicit_prefix ++ Some (opening there) ∷ Some (closing there) ∷ explicit_from
      there back) in
      let one : without (length prefix + 1) (length v) (levels_before_reset base (prefix ++ i ∷ (v ++ p ∷ back)))
      ≡ bare =
      ap (λ s. without (length prefix + 1) (length v) (resolved_levels_from base [] s)) explicit_first
      ∙ ap (λ k. without (k + 1) (length v)
      (resolved_levels_from base []
      (explicit_prefix ++ Some (opening there)
      ∷ (of_first.slots ++ Some (closing there) ∷ explicit_from there back)))) (sym n)
      ∙ ap (λ k. without (length explicit_prefix + 1) k
      (resolved_levels_from base []
      (explicit_prefix ++ Some (opening there)
      ∷ (of_first.slots ++ Some (closing there) ∷ explicit_from there back)))) (sym of_first.long)
      ∙ outside_levels base explicit_prefix (opening there) (closing there) of_first.slots (explicit_from there back)
      refl refl refl of_first.within in
      let two : without (length prefix + 1) (length w) (levels_before_reset base (prefix ++ j ∷ (w ++ p ∷ back)))
      ≡ bare =
      ap (λ s. without (length prefix + 1) (length w) (resolved_levels_from base [] s)) explicit_second
      ∙ ap (λ k. without (k + 1) (length w)
      (resolved_levels_from base []
      (explicit_prefix ++ Some (opening there)
      ∷ (of_second.slots ++ Some (closing there) ∷ explicit_from there back)))) (sym n)
      ∙ ap (λ k. without (length explicit_prefix + 1) k
      (resolved_levels_from base []
      (explicit_prefix ++ Some (opening there)
      ∷ (of_second.slots ++ Some (closing there) ∷ explicit_from there back)))) (sym of_second.long)
      ∙ outside_levels base explicit_prefix (opening there) (closing there) of_second.slots (explicit_from there back)
      refl refl refl of_second.within in
      one ∙ sym two
