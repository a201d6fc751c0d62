-- Tokens have one answer as a type.
use Rattle.std.proofs.Common.{◌≡◌, ℕ, ◌+◌, ◌<◌, Bool, true, false, List, [], ◌∷◌, ◌++◌, length, Option, Some}
use Rattle.std.proofs.Common.{None, Result, Ok, Err, refl, sym, ◌∙◌, ap, subst, arith, append_assoc, length-append}
use Rattle.soy_base.specs.declared.code.Code.{Code}
use Rattle.soy_base.specs.declared.code.Code.TheVariants as code
use Rattle.soy_base.specs.declared.fault.Fault.{Fault}
use Rattle.soy_base.specs.declared.memory.Refusal.{Refusal}
use Rattle.soy_base.specs.declared.memory.Refusal.TheVariants as refusal
use Rattle.soy_lexer.specs.declared.token.Token.{Token}
use Rattle.soy_tree.specs.declared.soy_type.SoyType.{SoyType}
use Rattle.expr_parser.specs.declared.type_frame.TypeOperand.{TypeOperand}
use Rattle.expr_parser.specs.declared.type_state.TypeState.{TypeState}
use Rattle.expr_parser.specs.BeginsType.{BeginsType}
use Rattle.expr_parser.specs.Depths.{depth_limit, AreWithin}
use Rattle.expr_parser.specs.Offsets.{offset_after}
use Rattle.expr_parser.specs.ParsesType.{NoTypeGoesOn, NamesTypeIf, NameTypes, IsType, IsNoType, BeginsFault}
use Rattle.expr_parser.specs.ParsesType.{IsTooDeepType, IsUnknownType, RefusesType, ParsesType}
use Rattle.expr_parser.specs.SpellsType.{SpellsType}
use Rattle.expr_parser.specs.TypeRuns.{type_run, type_run_from, type_depths, type_words, type_start}
use Rattle.expr_parser.specs.TypeTerminals.{is_type_name}
use Rattle.expr_parser.proofs.ExprAnswers.{ok_same, fault_same}
use Rattle.expr_parser.proofs.Longest.{Ends, same_longest, same_bad, longest_good}
use Rattle.expr_parser.proofs.Prefixes.{same_prefix, same_last, within_prefix, within_last}
use Rattle.expr_parser.proofs.TypeExact.{SpellsType-whole_type}
use Rattle.expr_parser.proofs.TypeMachine.{BeginsType-run, run-BeginsType, depths_length, words_length}
use Rattle.expr_parser.proofs.TypeMachine.{spelled_depths, spelled_words, spelled_same, begun_depths, begun_words}
use Rattle.expr_parser.proofs.TypeRunning.{run_append, depths_append, words_append}

-- some type begins with the tokens
record Begun (ts : List Token) : Type 0 where
  pub depths : List ℕ
  pub words : List Bool
  pub begins : BeginsType ts depths words

-- none of them lies too deep, and with this rest each word of them that stands as a type names one
record Good (blocks : ℕ) (ts rest : List Token) : Type 0 where
  pub depths : List ℕ
  pub words : List Bool
  pub begins : BeginsType ts depths words
  pub within : AreWithin blocks depths
  pub known : NameTypes ts words rest

-- the first words and the last
names_prefix : (us more : List Token) (ws vs : List Bool) (rest : List Token) → length ws ≡ length us →
    NameTypes (us ++ more) (ws ++ vs) rest → NameTypes us ws (more ++ rest)
names_prefix [] more ws vs rest long h = tt
names_prefix (u ∷ us) more [] vs rest long h = absurd (cc long)
names_prefix (u ∷ us) more (w ∷ ws) vs rest long h =
    (subst (NamesTypeIf w u) (append_assoc us more rest) h.0, names_prefix us more ws vs rest (omega (arith, long)) h.1)

names_last : (us : List Token) (t : Token) (ws : List Bool) (w : Bool) (rest : List Token) → length ws ≡ length us →
    NameTypes (us ++ (t ∷ [])) (ws ++ (w ∷ [])) rest → NamesTypeIf w t rest
names_last [] t [] w rest long h = h.0
names_last [] t (v ∷ ws) w rest long h = absurd (cc long)
names_last (u ∷ us) t [] w rest long h = absurd (cc long)
names_last (u ∷ us) t (v ∷ ws) w rest long h = names_last us t ws w rest (omega (arith, long)) h.1

-- the state after the first of the tokens
record IsBefore (ts us : List Token) : Type 0 where
  pub state : TypeState
  pub is : type_run ts type_start ≡ Some state

before : (ts us : List Token) (s : TypeState) → type_run (ts ++ us) type_start ≡ Some s → IsBefore ts us
before ts us s e = over (type_run ts type_start) refl (sym (run_append ts us type_start) ∙ e)
  where
    over : (to : Option TypeState) → type_run ts type_start ≡ to → type_run_from (type_run us) to ≡ Some s →
        IsBefore ts us
    over None r h = absurd (cc h)
    over (Some m) r h = record { state = m; is = r }

begun_shorter : (ts us : List Token) → Begun (ts ++ us) → Begun ts
begun_shorter ts us b =
    let i = BeginsType-run (ts ++ us) b.depths b.words b.begins in
    let m = before ts us i.state i.is in
    record {
      depths = type_depths ts type_start;
      words = type_words ts type_start;
      begins = run-BeginsType ts m.state m.is;
    }

good_shorter : (blocks : ℕ) (ts us rest : List Token) → Good blocks (ts ++ us) rest → Good blocks ts (us ++ rest)
good_shorter blocks ts us rest g =
    let i = BeginsType-run (ts ++ us) g.depths g.words g.begins in
    let m = before ts us i.state i.is in
    record {
      depths = type_depths ts type_start;
      words = type_words ts type_start;
      begins = run-BeginsType ts m.state m.is;
      within = within_prefix blocks (type_depths ts type_start) (type_depths us m.state)
          (subst (AreWithin blocks) (i.depths_are ∙ depths_append ts us type_start m.state m.is) g.within);
      known = names_prefix ts us (type_words ts type_start) (type_words us m.state) rest
          (words_length ts type_start m.state m.is)
          (subst (λ ws. NameTypes (ts ++ us) ws rest) (i.words_are
          ∙ words_append ts us type_start m.state m.is) g.known);
    }

-- what is spelled begins
spelled_begins : (ts : List Token) (ds : List ℕ) (ws : List Bool) (x : TypeOperand) → SpellsType ts ds ws x →
    BeginsType ts ds ws
spelled_begins ts ds ws x s =
    let i = SpellsType-whole_type ts ds ws x s in
    subst (λ l. BeginsType ts ds l) (sym (spelled_words ts ds ws x s))
    (subst (λ l. BeginsType ts l (type_words ts type_start)) (sym (spelled_depths ts ds ws x s))
    (run-BeginsType ts i.state i.goes.runs))

ends : (ps rs : List Token) → NoTypeGoesOn ps rs → Ends Begun ps rs
ends ps [] h = tt
ends ps (r ∷ rs) h = λ b. h b.depths b.words b.begins

-- the longest prefix with which some type begins, and what is known of it
record IsLongest (blocks : ℕ) (tokens prefix rest : List Token) : Type 0 where
  pub whole : tokens ≡ prefix ++ rest
  pub good : Good blocks prefix rest
  pub stops : Ends Begun prefix rest

-- the first token that lies too deep, or names no type
record IsFirstBad (blocks : ℕ) (tokens prefix : List Token) (token : Token) (rest : List Token) : Type 0 where
  pub whole : tokens ≡ prefix ++ (token ∷ rest)
  pub good : Good blocks prefix (token ∷ rest)
  pub begun : Begun (prefix ++ (token ∷ []))
  pub bad : Good blocks (prefix ++ (token ∷ [])) rest → ⊥

module _ (blocks : ℕ) (tokens : List Token) where
  longest_type : {of : SoyType} {n : ℕ} (i : IsType blocks tokens of n) → IsLongest blocks tokens i.prefix i.rest
  longest_type i = record {
    whole = i.whole;
    good = record {
      depths = i.depths;
      words = i.words;
      begins = spelled_begins i.prefix i.depths i.words i.operand i.spells;
      within = i.within;
      known = i.known;
    };
    stops = ends i.prefix i.rest i.longest;
  }

  longest_none : {offset : ℕ} (i : IsNoType blocks tokens offset) → IsLongest blocks tokens i.prefix i.rest
  longest_none i = record {
    whole = i.whole;
    good = record { depths = i.depths; words = i.words; begins = i.begins; within = i.within; known = i.known };
    stops = ends i.prefix i.rest i.longest;
  }

  -- the tokens before the fault are good
  before_fault : {offset : ℕ} (i : BeginsFault blocks tokens offset) → Good blocks i.prefix (i.token ∷ i.rest)
  before_fault i =
      let r = BeginsType-run (i.prefix ++ (i.token ∷ [])) (i.depths ++ (i.depth ∷ []))
      (i.words ++ (i.word ∷ [])) i.begins in
      let m = before i.prefix (i.token ∷ []) r.state r.is in
      let long = i.begins.one_depth_each in
      let short = i.begins.one_word_each in
      let more = depths_length i.prefix type_start m.state m.is in
      let others = words_length i.prefix type_start m.state m.is in
      let even : length i.depths ≡ length (type_depths i.prefix type_start) =
      omega (arith, more, simp length-append at long) in
      let level : length i.words ≡ length (type_words i.prefix type_start) =
      omega (arith, others, simp length-append at short) in
      record {
        depths = type_depths i.prefix type_start;
        words = type_words i.prefix type_start;
        begins = run-BeginsType i.prefix m.state m.is;
        within = subst (AreWithin blocks)
            (same_prefix i.depths (type_depths i.prefix type_start) (i.depth ∷ [])
            (type_depths (i.token ∷ []) m.state) even
            (r.depths_are ∙ depths_append i.prefix (i.token ∷ []) type_start m.state m.is)) i.within;
        known = subst (λ ws. NameTypes i.prefix ws (i.token ∷ i.rest))
            (same_prefix i.words (type_words i.prefix type_start) (i.word ∷ [])
            (type_words (i.token ∷ []) m.state) level
            (r.words_are ∙ words_append i.prefix (i.token ∷ []) type_start m.state m.is)) i.known;
      }

  bad_deep : {offset : ℕ} (i : BeginsFault blocks tokens offset) → depth_limit < blocks + i.depth →
      Good blocks (i.prefix ++ (i.token ∷ [])) i.rest → ⊥
  bad_deep i deep g =
      let e = begun_depths (i.prefix ++ (i.token ∷ [])) g.depths (i.depths ++ (i.depth ∷ [])) g.words
      (i.words ++ (i.word ∷ []))
      g.begins i.begins in
      let w = within_last blocks i.depths i.depth (subst (AreWithin blocks) e g.within) in
      omega (arith, w, deep)

  bad_name : {offset : ℕ} (i : BeginsFault blocks tokens offset) → i.word ≡ true → is_type_name i.token i.rest ≡ false →
      Good blocks (i.prefix ++ (i.token ∷ [])) i.rest → ⊥
  bad_name i stands unknown g =
      let e = begun_words (i.prefix ++ (i.token ∷ [])) g.depths (i.depths ++ (i.depth ∷ [])) g.words
      (i.words ++ (i.word ∷ []))
      g.begins i.begins in
      let short = i.begins.one_word_each in
      let level : length i.words ≡ length i.prefix = omega (arith, simp length-append at short) in
      let n = names_last i.prefix i.token i.words i.word i.rest level
      (subst (λ ws. NameTypes (i.prefix ++ (i.token ∷ [])) ws i.rest) e g.known) in
      clash (subst (λ w. NamesTypeIf w i.token i.rest) stands n) unknown
    where
      clash : {b : Bool} → b ≡ true → b ≡ false → ⊥
      clash h k = cc

  first_deep : {offset : ℕ} (i : IsTooDeepType blocks tokens offset) →
      IsFirstBad blocks tokens i.fault.prefix i.fault.token i.fault.rest
  first_deep i = record {
    whole = i.fault.whole;
    good = before_fault i.fault;
    begun = record {
      depths = i.fault.depths ++ (i.fault.depth ∷ []);
      words = i.fault.words ++ (i.fault.word ∷ []);
      begins = i.fault.begins;
    };
    bad = bad_deep i.fault i.deep;
  }

  first_unknown : {offset : ℕ} (i : IsUnknownType blocks tokens offset) →
      IsFirstBad blocks tokens i.fault.prefix i.fault.token i.fault.rest
  first_unknown i = record {
    whole = i.fault.whole;
    good = before_fault i.fault;
    begun = record {
      depths = i.fault.depths ++ (i.fault.depth ∷ []);
      words = i.fault.words ++ (i.fault.word ∷ []);
      begins = i.fault.begins;
    };
    bad = bad_name i.fault i.stands i.unknown;
  }

  one_longest : {ps rs qs ss : List Token} → IsLongest blocks tokens ps rs → IsLongest blocks tokens qs ss →
      (ps ≡ qs) × (rs ≡ ss)
  one_longest {ps} {rs} {qs} {ss} a b =
      same_longest Begun begun_shorter ps rs qs ss (sym a.whole ∙ b.whole)
      (record { depths = a.good.depths; words = a.good.words; begins = a.good.begins }) a.stops
      (record { depths = b.good.depths; words = b.good.words; begins = b.good.begins }) b.stops

  never_both : {ps rs qs ss : List Token} {t : Token} → IsLongest blocks tokens ps rs →
      IsFirstBad blocks tokens qs t ss → ⊥
  never_both {ps} {rs} {qs} {ss} {t} a b =
      longest_good Begun begun_shorter (Good blocks) (good_shorter blocks) ps rs qs ss t
      (sym a.whole ∙ b.whole) a.good a.stops
      b.begun b.bad

  one_bad : {ps rs qs ss : List Token} {t u : Token} → IsFirstBad blocks tokens ps t rs →
      IsFirstBad blocks tokens qs u ss →
      (ps ≡ qs) × (t ≡ u)
  one_bad {ps} {rs} {qs} {ss} {t} {u} a b =
      same_bad (Good blocks) (good_shorter blocks) ps qs rs ss t u (sym a.whole ∙ b.whole) a.good a.bad b.good b.bad

  -- a token doesn't lie too deep where it is refused as an unknown name
  deep_unknown : {m n : ℕ} → IsTooDeepType blocks tokens m → IsUnknownType blocks tokens n → ⊥
  deep_unknown p q =
      let e = one_bad (first_deep p) (first_unknown q) in
      let f = p.fault in
      let g = q.fault in
      let same = begun_depths (g.prefix ++ (g.token ∷ [])) (f.depths ++ (f.depth ∷ [])) (g.depths ++ (g.depth ∷ []))
      (f.words ++ (f.word ∷ [])) (g.words ++ (g.word ∷ []))
      (subst (λ l. BeginsType l (f.depths ++ (f.depth ∷ [])) (f.words ++ (f.word ∷ [])))
      (ap (λ l. l ++ (f.token ∷ [])) e.0 ∙ ap (λ t. g.prefix ++ (t ∷ [])) e.1) f.begins) g.begins in
      let depth = same_last f.depths g.depths f.depth g.depth same in
      let deep = p.deep in
      let shallow = q.shallow.0 in
      omega (arith, depth, deep, shallow)

  start_same : {ps qs rs ss : List Token} {t u : Token} {m n : ℕ} → IsFirstBad blocks tokens ps t rs →
      IsFirstBad blocks tokens qs u ss → t.span.start ≡ m → u.span.start ≡ n → m ≡ n
  start_same a b p q = sym p ∙ (ap (λ t. t.span.start) (one_bad a b).1 ∙ q)

  -- two faults are the same
  refused_same : (c d : Code) (m n : ℕ) → RefusesType blocks tokens c m → RefusesType blocks tokens d n → (c ≡ d) ×
      (m ≡ n)
  refused_same code.Syntax code.Syntax m n p q =
      let e = one_longest (longest_none p) (longest_none q) in
      (refl, sym p.offset_is ∙ (ap (λ l. offset_after l p.rest) e.0 ∙ (ap (offset_after q.prefix) e.1 ∙ q.offset_is)))
  refused_same code.Nesting code.Nesting m n p q =
      (refl, start_same (first_deep p) (first_deep q) p.fault.offset_is q.fault.offset_is)
  refused_same code.Mistyped code.Mistyped m n p q =
      (refl, start_same (first_unknown p) (first_unknown q) p.fault.offset_is q.fault.offset_is)
  refused_same code.Syntax code.Nesting m n p q = absurd (never_both (longest_none p) (first_deep q))
  refused_same code.Nesting code.Syntax m n p q = absurd (never_both (longest_none q) (first_deep p))
  refused_same code.Syntax code.Mistyped m n p q = absurd (never_both (longest_none p) (first_unknown q))
  refused_same code.Mistyped code.Syntax m n p q = absurd (never_both (longest_none q) (first_unknown p))
  refused_same code.Nesting code.Mistyped m n p q = absurd (deep_unknown p q)
  refused_same code.Mistyped code.Nesting m n p q = absurd (deep_unknown q p)
  refused_same code.Syntax _ m n p q = absurd q
  refused_same code.Nesting _ m n p q = absurd q
  refused_same code.Mistyped _ m n p q = absurd q
  refused_same _ d m n p q = absurd p

  -- no fault beside a type
  never_refused : (d : Code) (n : ℕ) {of : SoyType} {count : ℕ} → IsType blocks tokens of count →
      RefusesType blocks tokens d n → ⊥
  never_refused code.Syntax n p q =
      let e = one_longest (longest_type p) (longest_none q) in
      q.incomplete p.depths p.words p.operand (subst (λ l. SpellsType l p.depths p.words p.operand) e.0 p.spells)
  never_refused code.Nesting n p q = never_both (longest_type p) (first_deep q)
  never_refused code.Mistyped n p q = never_both (longest_type p) (first_unknown q)
  never_refused _ n p q = q

  -- two types are the same, and of as many tokens
  type_same : {x y : SoyType} {m n : ℕ} → IsType blocks tokens x m → IsType blocks tokens y n → (x ≡ y) × (m ≡ n)
  type_same p q =
      let e = one_longest (longest_type p) (longest_type q) in
      let o = spelled_same q.prefix p.depths q.depths p.words q.words p.operand q.operand
      (subst (λ l. SpellsType l p.depths p.words p.operand) e.0 p.spells) q.spells in
      (sym p.type_is ∙ (ap (λ x. x.of) o ∙ q.type_is), sym p.count_is ∙ (ap length e.0 ∙ q.count_is))

-- **Two answers for the same tokens are the same, but where memory ran out.**
pub one_type_answer : (file blocks : ℕ) (tokens : List Token) (a b : Result (SoyType × ℕ) (Refusal Fault)) →
    ParsesType file blocks tokens a → ParsesType file blocks tokens b →
    (a ≡ Err refusal.OutOfMemory → ⊥) → (b ≡ Err refusal.OutOfMemory → ⊥) → a ≡ b
one_type_answer file blocks tokens (Ok x) (Ok y) p q m n = ok_same x.0 y.0 x.1 y.1 (type_same blocks tokens p q)
one_type_answer file blocks tokens (Ok x) (Err (refusal.Because g)) p q m n =
    absurd (never_refused blocks tokens g.code g.at p q.1)
one_type_answer file blocks tokens (Err (refusal.Because f)) (Ok y) p q m n =
    absurd (never_refused blocks tokens f.code f.at q p.1)
one_type_answer file blocks tokens (Err (refusal.Because f)) (Err (refusal.Because g)) p q m n =
    fault_same f g (refused_same blocks tokens f.code g.code f.at g.at p.1 q.1) (p.0 ∙ sym q.0)
one_type_answer file blocks tokens (Err refusal.OutOfMemory) b p q m n = absurd (m refl)
one_type_answer file blocks tokens a (Err refusal.OutOfMemory) p q m n = absurd (n refl)
