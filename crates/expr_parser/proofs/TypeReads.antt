-- What is read of tokens is the longest prefix with which some type begins.
use Rattle.std.proofs.Common.{◌≡◌, ℕ, ◌+◌, ◌≤◌, Bool, true, false, not, ◌&&◌, length, List, [], ◌∷◌, ◌++◌}
use Rattle.std.proofs.Common.{Option}
use Rattle.std.proofs.Common.{Some, None, refl, sym, ◌∙◌, ap, subst, arith, append_assoc, length-append}
use Rattle.std.specs.Prelude.{if◌then◌else◌}
use Rattle.soy_base.specs.declared.code.Code.TheVariants as code
use Rattle.soy_lexer.specs.declared.token.Token.{Token}
use Rattle.expr_parser.specs.declared.parse.TypeOutcome.{TypeOutcome}
use Rattle.expr_parser.specs.declared.parse.TypeOutcome.TheVariants.{Done, Refused}
use Rattle.expr_parser.specs.declared.type_frame.TypeFrame.{TypeFrame}
use Rattle.expr_parser.specs.declared.type_frame.TypeOperand.{TypeOperand}
use Rattle.expr_parser.specs.declared.type_state.ExpectedInType.{ExpectedInType}
use Rattle.expr_parser.specs.declared.type_state.ExpectedInType.TheVariants as expected
use Rattle.expr_parser.specs.declared.type_state.TypeState.{TypeState}
use Rattle.expr_parser.specs.declared.type_terminal.TypeTerminal.TheVariants as terminal
use Rattle.expr_parser.specs.BeginsType.{BeginsType}
use Rattle.expr_parser.specs.Depths.{depth_limit, is_within, AreWithin}
use Rattle.expr_parser.specs.Offsets.{end_after, offset_after}
use Rattle.expr_parser.specs.ParsesType.{NoTypeGoesOn, NamesTypeIf, NameTypes, IsType, BeginsFault}
use Rattle.expr_parser.specs.ParsesType.{IsUnknownType, RefusesType}
use Rattle.expr_parser.specs.TypeReading.{type_answer, unless_unknown, read_type_on, reading_type}
use Rattle.expr_parser.specs.TypeRuns.{type_run, type_run_from, type_depths, type_depths_from, type_words}
use Rattle.expr_parser.specs.TypeRuns.{type_words_from, is_after_name, type_start}
use Rattle.expr_parser.specs.TypeSteps.{type_next, type_step_of, whole_type, type_depth, unknown_at}
use Rattle.expr_parser.specs.TypeSteps.{unknown_type}
use Rattle.expr_parser.specs.TypeTerminals.{type_terminal_of, begins_with_less, names_type, word_names_type}
use Rattle.expr_parser.specs.TypeTerminals.{is_type_name}
use Rattle.expr_parser.proofs.Levels.{within-true, within-false}
use Rattle.expr_parser.proofs.Prefixes.{within_append, end_last, same_last}
use Rattle.expr_parser.proofs.TypeExact.{SpellsType-whole_type}
use Rattle.expr_parser.proofs.TypeMachine.{BeginsType-run, run-BeginsType, same_state, whole-spelled, words_length}
use Rattle.expr_parser.proofs.TypeRunning.{run_append, depths_append, words_append}
use Rattle.expr_parser.proofs.TypeSound.{Holds_at, Opened, run_holds}

-- what an outcome says of the tokens
abbrev pub Answers : ℕ → List Token → TypeOutcome → Type 0
Answers blocks tokens (Done x count) = IsType blocks tokens x.of count
Answers blocks tokens (Refused why offset) = RefusesType blocks tokens why offset

-- words that name types, and one more token after them
names_append : (us : List Token) (ws : List Bool) (t : Token) (w : Bool) (ts : List Token) → length ws ≡ length us →
    NameTypes us ws (t ∷ ts) →
    NamesTypeIf w t ts → NameTypes (us ++ t ∷ []) (ws ++ w ∷ []) ts
names_append [] [] t w ts long known one = (one, tt)
names_append [] (v ∷ ws) t w ts long known one = absurd (cc long)
names_append (u ∷ us) [] t w ts long known one = absurd (cc long)
names_append (u ∷ us) (v ∷ ws) t w ts long known one =
    (rw (append_assoc us (t ∷ []) ts) known.0, names_append us ws t w ts (omega (arith, long)) known.1 one)

-- the token read last, where it is a word that stands as a type
abbrev IfNamed : ExpectedInType → Token → Type 0
IfNamed (expected.AfterName n offset) t = (type_terminal_of t ≡ terminal.Word n) × (t.span.start ≡ offset)
IfNamed _ t = Unit {0}

named_last : (p : ExpectedInType) (fs : List TypeFrame) (us : List Token) (t : Token) → Holds_at p fs (us ++ t ∷ []) →
    IfNamed p t
named_last expected.Type fs us t h = tt
named_last (expected.AfterName n offset) fs us t h = let e = same_last us h.prefix t h.token h.whole in rw e
    (h.is_name, h.offset_is)
named_last (expected.Delimiter x) fs us t h = tt
named_last expected.Key fs us t h = tt
named_last expected.KeyComma fs us t h = tt
named_last (expected.FieldName fields n) fs us t h = tt
named_last (expected.FieldColon fields n name) fs us t h = tt

-- whether it names a type
named_known : (p : ExpectedInType) (t : Token) (ts : List Token) → IfNamed p t → unknown_at p
    (begins_with_less ts) ≡ None →
    NamesTypeIf (is_after_name p) t ts
named_known (expected.AfterName n offset) t ts i e =
    ap (λ m. word_names_type m (begins_with_less ts)) i.0 ∙ over (names_type n (begins_with_less ts)) e
  where
    over : (b : Bool) → (if b then None else Some offset) ≡ None → b ≡ true
    over true e = refl
    over false e = absurd (cc e)
named_known expected.Type t ts i e = tt
named_known (expected.Delimiter x) t ts i e = tt
named_known expected.Key t ts i e = tt
named_known expected.KeyComma t ts i e = tt
named_known (expected.FieldName fields n) t ts i e = tt
named_known (expected.FieldColon fields n name) t ts i e = tt

-- what is unknown
record IsUnknown (p : ExpectedInType) (t : Token) (ts : List Token) (offset : ℕ) : Type 0 where
  pub stands : is_after_name p ≡ true
  pub unknown : is_type_name t ts ≡ false
  pub at : t.span.start ≡ offset

named_unknown : (p : ExpectedInType) (t : Token) (ts : List Token) (offset : ℕ) → IfNamed p t → unknown_at p
    (begins_with_less ts) ≡ Some offset →
    IsUnknown p t ts offset
named_unknown (expected.AfterName n at) t ts offset i e = record {
  stands = refl;
  unknown = ap (λ m. word_names_type m (begins_with_less ts)) i.0 ∙ false_if (names_type n (begins_with_less ts)) e;
  at = i.1 ∙ same (names_type n (begins_with_less ts)) e;
}
  where
    false_if : (b : Bool) → (if b then None else Some at) ≡ Some offset → b ≡ false
    false_if true e = absurd (cc e)
    false_if false e = refl

    same : (b : Bool) → (if b then None else Some at) ≡ Some offset → at ≡ offset
    same true e = absurd (cc e)
    same false e = ap unwrap e
      where
        unwrap : Option ℕ → ℕ
        unwrap None = at
        unwrap (Some n) = n
named_unknown expected.Type t ts offset i e = absurd (cc e)
named_unknown (expected.Delimiter x) t ts offset i e = absurd (cc e)
named_unknown expected.Key t ts offset i e = absurd (cc e)
named_unknown expected.KeyComma t ts offset i e = absurd (cc e)
named_unknown (expected.FieldName fields n) t ts offset i e = absurd (cc e)
named_unknown (expected.FieldColon fields n name) t ts offset i e = absurd (cc e)

-- the tokens that were read, and one more
one_more : (us : List Token) (t : Token) (s : TypeState) → type_run us type_start ≡ Some s →
    type_run (us ++ t ∷ []) type_start ≡ type_run_from (type_run []) (type_next s t)
one_more us t s r = run_append us (t ∷ []) type_start ∙ ap (type_run_from (type_run (t ∷ []))) r

-- no type goes on where there is no step
none_goes_on : (us : List Token) (t : Token) (s : TypeState) → type_run us type_start ≡ Some s → type_next s t ≡ None →
    (ds : List ℕ) (ws : List Bool) → BeginsType (us ++ t ∷ []) ds ws → ⊥
none_goes_on us t s r e ds ws b =
    let i = BeginsType-run (us ++ t ∷ []) ds ws b in
    clash (sym i.is ∙ (one_more us t s r ∙ ap (type_run_from (type_run [])) e))
  where
    clash : {m : TypeState} → Some m ≡ None → ⊥
    clash h = cc

-- where reading stops
stopped : (blocks offset : ℕ) (us rest : List Token) (s : TypeState) (o : Option TypeOperand) →
    type_run us type_start ≡ Some s →
    whole_type s ≡ o → NoTypeGoesOn us rest → AreWithin blocks (type_depths us type_start) → NameTypes us
    (type_words us type_start) rest →
    offset_after us rest ≡ offset → Answers blocks (us ++ rest) (type_answer (length us) offset o)
stopped blocks offset us rest s (Some x) r f ends within known at = record {
  prefix = us;
  rest = rest;
  depths = type_depths us type_start;
  words = type_words us type_start;
  operand = x;
  whole = refl;
  spells = whole-spelled us s x r f;
  type_is = refl;
  count_is = refl;
  longest = ends;
  within = within;
  known = known;
}
stopped blocks offset us rest s None r f ends within known at = record {
  prefix = us;
  rest = rest;
  depths = type_depths us type_start;
  words = type_words us type_start;
  whole = refl;
  begins = run-BeginsType us s r;
  longest = ends;
  incomplete = λ ds ws x p. let i = SpellsType-whole_type us ds ws x p in
      clash (sym f ∙ (ap whole_type (same_state us s i.state r i.goes.runs) ∙ i.finishes));
  within = within;
  known = known;
  offset_is = at;
}
  where
    clash : {x : TypeOperand} → None ≡ Some x → ⊥
    clash h = cc

-- what is known of the tokens that were read, before it is asked whether the last of them names a type
record Known (blocks : ℕ) (us ts : List Token) (s : TypeState) : Type 0 where
  pub known : unknown_type s (begins_with_less ts) ≡ None → NameTypes us (type_words us type_start) ts
  pub unknown : (offset : ℕ) → unknown_type s (begins_with_less ts) ≡ Some offset → IsUnknownType blocks
      (us ++ ts) offset

-- one token, and then the rest

moved : (blocks : ℕ) (ts xs ys : List Token) (n k e f : ℕ) (m : TypeState) → xs ≡ ys → n ≡ k → e ≡ f →
    Answers blocks xs (reading_type blocks n e ts m) → Answers blocks ys (reading_type blocks k f ts m)
moved blocks ts xs ys n k e f m p q r a = rw (← p, ← q, ← r) a

module _ (blocks : ℕ) (ts us : List Token) (s : TypeState) (t : Token) (r : type_run us type_start ≡ Some s)
    (within : AreWithin blocks (type_depths us type_start)) (names : NameTypes us (type_words us type_start)
    (t ∷ ts)) where
  read_to : (m : TypeState) → type_next s t ≡ Some m → type_run (us ++ t ∷ []) type_start ≡ Some m
  read_to m e = one_more us t s r ∙ ap (type_run_from (type_run [])) e

  depths_to : (m : TypeState) → type_next s t ≡ Some m →
      type_depths (us ++ t ∷ []) type_start ≡ type_depths us type_start ++ type_depth m ∷ []
  depths_to m e = depths_append us (t ∷ []) type_start s r
      ∙ ap (λ l. type_depths us type_start ++ l) (ap (type_depths_from (type_depths [])) e)

  words_to : (m : TypeState) → type_next s t ≡ Some m →
      type_words (us ++ t ∷ []) type_start ≡ type_words us type_start ++ is_after_name m.expected ∷ []
  words_to m e = words_append us (t ∷ []) type_start s r
      ∙ ap (λ l. type_words us type_start ++ l) (ap (type_words_from (type_words [])) e)

  within_to : (m : TypeState) → type_next s t ≡ Some m → blocks + type_depth m ≤ depth_limit →
      AreWithin blocks (type_depths (us ++ t ∷ []) type_start)
  within_to m e small =
      subst (AreWithin blocks) (sym (depths_to m e)) (within_append blocks (type_depths us type_start)
      (type_depth m ∷ []) within (small, tt))

  -- the tokens up to this one, as a fault at it has them
  fault_at : (offset : ℕ) (m : TypeState) → type_next s t ≡ Some m → t.span.start ≡ offset → BeginsFault blocks
      (us ++ t ∷ ts) offset
  fault_at offset m e at = record {
    prefix = us;
    token = t;
    rest = ts;
    depths = type_depths us type_start;
    depth = type_depth m;
    words = type_words us type_start;
    word = is_after_name m.expected;
    whole = refl;
    begins = subst (λ ws. BeginsType (us ++ t ∷ []) (type_depths us type_start ++ type_depth m ∷ []) ws) (words_to m e)
        (subst (λ ds. BeginsType (us ++ t ∷ []) ds (type_words (us ++ t ∷ []) type_start)) (depths_to m e)
        (run-BeginsType (us ++ t ∷ []) m (read_to m e)));
    within = within;
    known = names;
    offset_is = at;
  }

  -- the word that stands last as a type
  last_word : (m : TypeState) → type_next s t ≡ Some m → IfNamed m.expected t
  last_word m e = named_last m.expected m.frames us t (run_holds (us ++ t ∷ []) [] type_start m Opened.none
      (read_to m e))

  known_to : (m : TypeState) → type_next s t ≡ Some m → blocks + type_depth m ≤ depth_limit → Known blocks
      (us ++ t ∷ []) ts m
  unfolding fault_at
  known_to m e small = record {
    known = λ none. subst (λ ws. NameTypes (us ++ t ∷ []) ws ts) (sym (words_to m e))
        (names_append us (type_words us type_start) t (is_after_name m.expected) ts
        (words_length us type_start s r) names
        (named_known m.expected t ts (last_word m e) none));
    unknown = λ offset some.
        let u = named_unknown m.expected t ts offset (last_word m e) some in
        rw (append_assoc us (t ∷ []) ts) (record {
          fault = fault_at offset m e u.at;
          shallow =
              (small, tt);
          stands = u.stands;
          unknown = u.unknown;
        });
  }

  on : (m : TypeState) → type_next s t ≡ Some m → (b : Bool) → is_within blocks (type_depth m) ≡ b →
      (AreWithin blocks (type_depths (us ++ t ∷ []) type_start) → Known blocks (us ++ t ∷ []) ts m →
      Answers blocks ((us ++ t ∷ []) ++ ts) (reading_type blocks (length (us ++ t ∷ []))
      (end_after 0 (us ++ t ∷ [])) ts m)) →
      Answers blocks (us ++ t ∷ ts)
      (if b then reading_type blocks (length us + 1) t.span.end ts m else Refused code.Nesting t.span.start)
  unfolding fault_at
  on m e true within_limit inside =
      let small = within-true (blocks + type_depth m) depth_limit within_limit in
      moved blocks ts ((us ++ t ∷ []) ++ ts) (us ++ t ∷ ts) (length (us ++ t ∷ [])) (length us + 1)
      (end_after 0 (us ++ t ∷ [])) t.span.end m
      (append_assoc us (t ∷ []) ts) (length-append us (t ∷ [])) (end_last 0 us t)
      (inside (within_to m e small) (known_to m e small))
  on m e false large inside = record {
    fault = fault_at t.span.start m e refl;
    deep = within-false
        (blocks + type_depth m) depth_limit large;
  }

  over : (to : Option TypeState) → type_next s t ≡ to →
      ((m : TypeState) → type_run (us ++ t ∷ []) type_start ≡ Some m → AreWithin blocks
      (type_depths (us ++ t ∷ []) type_start) →
      Known blocks (us ++ t ∷ []) ts m →
      Answers blocks ((us ++ t ∷ []) ++ ts) (reading_type blocks (length (us ++ t ∷ []))
      (end_after 0 (us ++ t ∷ [])) ts m)) →
      Answers blocks (us ++ t ∷ ts)
      (read_type_on blocks (length us) t (reading_type blocks (length us + 1) t.span.end ts)
      (type_step_of to (whole_type s)))
  over None e inside = stopped blocks t.span.start us (t ∷ ts) s (whole_type s) r refl
      (none_goes_on us t s r e) within names refl
  over (Some m) e inside = on m e (is_within blocks (type_depth m)) refl (inside m (read_to m e))

-- where the word that was read last names no type, and where it does
asked : (blocks : ℕ) (ts us : List Token) (s : TypeState) → Known blocks us ts s → (out : TypeOutcome) →
    (NameTypes us (type_words us type_start) ts → Answers blocks (us ++ ts) out) →
    Answers blocks (us ++ ts) (unless_unknown (unknown_type s (begins_with_less ts)) out)
asked blocks ts us s k out inside = over (unknown_type s (begins_with_less ts)) refl
  where
    over : (o : Option ℕ) → unknown_type s (begins_with_less ts) ≡ o → Answers blocks (us ++ ts) (unless_unknown o out)
    over (Some offset) e = k.unknown offset e
    over None e = inside (k.known e)

means : (blocks : ℕ) (ts us : List Token) (s : TypeState) → type_run us type_start ≡ Some s →
    AreWithin blocks (type_depths us type_start) → Known blocks us ts s → Answers blocks (us ++ ts)
    (reading_type blocks (length us) (end_after 0 us) ts s)
means blocks [] us s r within k =
    asked blocks [] us s k (type_answer (length us) (end_after 0 us) (whole_type s))
    (λ names. stopped blocks (end_after 0 us) us [] s (whole_type s) r refl tt within names refl)
means blocks (t ∷ ts) us s r within k =
    asked blocks (t ∷ ts) us s k (read_type_on blocks (length us) t
    (reading_type blocks (length us + 1) t.span.end ts) (type_step_of (type_next s t) (whole_type s)))
    (λ names. over blocks ts us s t r within names (type_next s t) refl (means blocks ts (us ++ t ∷ [])))

start_known : (blocks : ℕ) (ts : List Token) → Known blocks [] ts type_start
start_known blocks ts = record { known = λ e. tt; unknown = λ offset e. absurd (cc e) }

-- **What is read from the first token on is right.**
pub reading_type-Answers : (blocks : ℕ) (ts : List Token) → Answers blocks ts (reading_type blocks 0 0 ts type_start)
reading_type-Answers blocks ts = means blocks ts [] type_start refl tt (start_known blocks ts)

-- the same of an outcome that is known to be what is read
pub read_type-Answers : (blocks : ℕ) (ts : List Token) (o : TypeOutcome) → o ≡ reading_type blocks 0 0 ts type_start →
    Answers blocks ts o
read_type-Answers blocks ts o e = rw e (reading_type-Answers blocks ts)

-- whether the token read last is a word that stands as a type and names none
unknown_at-is : (p : ExpectedInType) (t : Token) (ts : List Token) → IfNamed p t →
    unknown_at p (begins_with_less ts)
    ≡ (if is_after_name p && not (is_type_name t ts) then Some t.span.start else None)
unknown_at-is (expected.AfterName n at) t ts i =
    over (names_type n (begins_with_less ts))
    ∙ (ap (λ k. if not (names_type n (begins_with_less ts)) then Some k else None) (sym i.1)
    ∙ ap (λ m. if not (word_names_type m (begins_with_less ts)) then Some t.span.start else None) (sym i.0))
  where
    over : (b : Bool) → (if b then None else Some at) ≡ (if not b then Some at else None)
    over true = refl
    over false = refl
unknown_at-is expected.Type t ts i = refl
unknown_at-is (expected.Delimiter x) t ts i = refl
unknown_at-is expected.Key t ts i = refl
unknown_at-is expected.KeyComma t ts i = refl
unknown_at-is (expected.FieldName fields n) t ts i = refl
unknown_at-is (expected.FieldColon fields n name) t ts i = refl

ran_one : (o : Option TypeState) (m : TypeState) → type_run_from (type_run []) o ≡ Some m → o ≡ Some m
ran_one None m e = absurd (cc e)
ran_one (Some s) m e = e

-- **A state answers of the token read last whether it stands as a type and names none.**
pub unknown-is : (us ts : List Token) (t : Token) (ws : List Bool) (w : Bool) (m : TypeState) →
    type_run (us ++ t ∷ []) type_start ≡ Some m → type_words (us ++ t ∷ []) type_start ≡ ws ++ w ∷ [] →
    unknown_type m (begins_with_less ts) ≡ (if w && not (is_type_name t ts) then Some t.span.start else None)
unknown-is us ts t ws w m r words = over (type_run us type_start) refl
  where
    last : IfNamed m.expected t
    last = named_last m.expected m.frames us t (run_holds (us ++ t ∷ []) [] type_start m Opened.none r)

    over : (o : Option TypeState) → type_run us type_start ≡ o →
        unknown_type m (begins_with_less ts) ≡ (if w && not (is_type_name t ts) then Some t.span.start else None)
    over None e = absurd (cc (sym r ∙ (run_append us (t ∷ []) type_start ∙ ap (type_run_from (type_run (t ∷ []))) e)))
    over (Some s) e =
        let next : type_next s t ≡ Some m = ran_one (type_next s t) m (sym (one_more us t s e) ∙ r) in
        let word : is_after_name m.expected ≡ w =
        same_last (type_words us type_start) ws (is_after_name m.expected) w
        (sym (words_append us (t ∷ []) type_start s e
        ∙ ap (λ l. type_words us type_start ++ l) (ap (type_words_from (type_words [])) next)) ∙ words) in
        unknown_at-is m.expected t ts last
        ∙ ap (λ b. if b && not (is_type_name t ts) then Some t.span.start else None) word
