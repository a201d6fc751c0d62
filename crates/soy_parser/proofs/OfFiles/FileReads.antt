-- What is read of tokens is what `parse` is to answer.
use Rattle.std.proofs.Common.{◌≡◌, ℕ, ◌+◌, ◌≤◌, ◌<◌, Bool, true, false, length, List, [], ◌∷◌, ◌++◌, Option, Some, None}
use Rattle.std.proofs.Common.{refl, sym, ◌∙◌, ap, subst, arith, append_assoc, append-nil}
use Rattle.std.specs.Prelude.{if◌then◌else◌, Result, Ok, Err}
use Rattle.soy_base.specs.declared.code.Code.TheVariants as code
use Rattle.soy_base.specs.declared.fault.Fault.{Fault}
use Rattle.soy_base.specs.declared.fault.Span.{Span}
use Rattle.soy_base.specs.declared.memory.Refusal.{Refusal}
use Rattle.soy_base.specs.declared.memory.Refusal.TheVariants as refusal
use Rattle.soy_lexer.specs.declared.token.Token.{Token}
use Rattle.soy_tree.specs.declared.tree.Tree.{Tree}
use Rattle.expr_parser.specs.declared.type_frame.TypeFrame.{TypeFrame}
use Rattle.expr_parser.specs.declared.type_state.ExpectedInType.{ExpectedInType}
use Rattle.expr_parser.specs.declared.type_state.ExpectedInType.TheVariants as expected
use Rattle.expr_parser.specs.declared.type_terminal.TypeTerminal.TheVariants as type_terminal_
use Rattle.expr_parser.specs.Depths.{depth_limit, is_within, AreWithin}
use Rattle.expr_parser.specs.Offsets.{end_after, offset_after}
use Rattle.expr_parser.specs.ParsesType.{NamesTypeIf, NameTypes}
use Rattle.expr_parser.specs.TypeRuns.{is_after_name, type_start}
use Rattle.expr_parser.specs.TypeSteps.{unknown_at}
use Rattle.expr_parser.specs.TypeTerminals.{type_terminal_of, begins_with_less, names_type, word_names_type}
use Rattle.expr_parser.specs.TypeTerminals.{is_type_name}
use Rattle.expr_parser.proofs.Levels.{within-true, within-false}
use Rattle.expr_parser.proofs.Prefixes.{within_append, end_last, same_last}
use Rattle.expr_parser.proofs.TypeSound.{Holds_at}
use Rattle.expr_parser.proofs.TypeSound as type_sound
use Rattle.soy_parser.specs.declared.block.CommandState.{CommandState}
use Rattle.soy_parser.specs.declared.head.HeadKind.{HeadKind}
use Rattle.soy_parser.specs.declared.spot.CommandSpot.{CommandSpot}
use Rattle.soy_parser.specs.declared.spot.CommandSpot.TheVariants as where_
use Rattle.soy_parser.specs.declared.spot.FileState.{FileState}
use Rattle.soy_parser.specs.declared.spot.Spot.{Spot}
use Rattle.soy_parser.specs.declared.spot.Spot.TheVariants as spot
use Rattle.soy_parser.specs.FileReading.{fault_at, file_answer, unless_unknown_type, read_file_on, reading_file}
use Rattle.soy_parser.specs.FileRuns.{file_run, file_run_from, file_depths, file_depths_from, file_words}
use Rattle.soy_parser.specs.FileRuns.{file_words_from}
use Rattle.soy_parser.specs.FileSteps.{file_step, file_start, token_depth, word_in, unknown_in}
use Rattle.soy_parser.specs.FileSteps.{whole_file}
use Rattle.soy_parser.proofs.OfFiles.ReadsFile.{ReadsFile}
use Rattle.soy_parser.specs.ParsesFile.{IsFile, NoFileGoesOn, BeginsFileFault, IsUnknown, RefusesTokens}
use Rattle.soy_parser.specs.ParsesFile.{ParsesFile}
use Rattle.soy_parser.specs.SpellsFile.{SpellsFile, BeginsFile}
use Rattle.soy_parser.proofs.OfFiles.FileMachine.{BeginsFile-run, run-BeginsFile, same_state, whole-spelled, words_length}
use Rattle.soy_parser.proofs.OfFiles.FileRunning.{run_append, depths_append, words_append}
use Rattle.soy_parser.proofs.OfFiles.FilesComplete.{file_leads}
use Rattle.soy_parser.proofs.OfFiles.FilesSound.{start_run_held}
use Rattle.soy_parser.proofs.OfFiles.FilesSound as files
use Rattle.soy_parser.proofs.OfHeads.HeadsBegun.{Begun}

-- what is read, of the tokens
abbrev pub Answers : ℕ → List Token → Result Tree Fault → Type 0
Answers file tokens (Ok tree) = IsFile tokens tree
Answers file tokens (Err fault) = (fault.file ≡ file) × RefusesTokens tokens fault.code fault.at

-- words that name types, and one more token after them
names_append : (us : List Token) (ws : List Bool) (t : Token) (w : Bool) (ts : List Token) → length ws ≡ length us →
    NameTypes us ws (t ∷ ts) → NamesTypeIf w t ts → NameTypes (us ++ t ∷ []) (ws ++ w ∷ []) ts
names_append [] [] t w ts long known one = (one, tt)
names_append [] (v ∷ ws) t w ts long known one = absurd (cc long)
names_append (u ∷ us) [] t w ts long known one = absurd (cc long)
names_append (u ∷ us) (v ∷ ws) t w ts long known one =
    (rw (append_assoc us (t ∷ []) ts) known.0, names_append us ws t w ts (omega (arith, long)) known.1 one)

-- the token read last, where it is a word that stands as a type

record LastIs (n_is : Token → Type 0) (own : List Token) : Type 0 where
  pub prefix : List Token
  pub token : Token
  pub whole : own ≡ prefix ++ (token ∷ [])
  pub is : n_is token

abbrev IfNamed : ExpectedInType → Token → Type 0
IfNamed (expected.AfterName n offset) t = (type_terminal_of t ≡ type_terminal_.Word n) × (t.span.start ≡ offset)
IfNamed _ t = Unit {0}

abbrev IfLast : ExpectedInType → List Token → Type 0
IfLast (expected.AfterName n offset) own = LastIs (IfNamed (expected.AfterName n offset)) own
IfLast _ own = Unit {0}

type_last : (p : ExpectedInType) (fs : List TypeFrame) (us earlier : List Token) → Holds_at p fs us
    → IfLast p (earlier ++ us)
type_last (expected.AfterName n offset) fs us earlier h = record {
  prefix = earlier ++ h.prefix;
  token = h.token;
  whole = ap (λ l. earlier ++ l) h.whole ∙ sym (append_assoc earlier h.prefix (h.token ∷ []));
  is = (h.is_name, h.offset_is);
}
type_last expected.Type fs us earlier h = tt
type_last (expected.Delimiter x) fs us earlier h = tt
type_last expected.Key fs us earlier h = tt
type_last expected.KeyComma fs us earlier h = tt
type_last (expected.FieldName fields n) fs us earlier h = tt
type_last (expected.FieldColon fields n name) fs us earlier h = tt

moved_last : (p : ExpectedInType) (us vs : List Token) → us ≡ vs → IfLast p us → IfLast p vs
moved_last p us vs e h = subst (IfLast p) e h

abbrev IfSpot : Spot → List Token → Type 0
IfSpot (spot.Type n required r) own = IfLast r.expected own
IfSpot _ own = Unit {0}

spot_last : (at : Spot) (own : List Token) (k : HeadKind) → Begun at own k → IfSpot at own
spot_last _ _ _ (Begun.type_ sign t n colon w ts us required r hs ht hq hn hc q) =
    moved_last r.expected ((sign ∷ (t ∷ (ts ++ (n ∷ (colon ∷ []))))) ++ us) (sign ∷ (t ∷ (ts ++ (n ∷ (colon ∷ us)))))
    (ap (λ l. sign ∷ (t ∷ l)) (append_assoc ts (n ∷ (colon ∷ [])) us))
    (type_last r.expected r.frames us (sign ∷ (t ∷ (ts ++ (n ∷ (colon ∷ [])))))
    (type_sound.run_holds us [] type_start r type_sound.Opened.none q))
spot_last _ _ _ _ = tt

-- it is the last of all tokens
named_last : (p : ExpectedInType) (earlier own us : List Token) (t : Token) → us ++ (t ∷ []) ≡ earlier ++ own
    → IfLast p own →
    IfNamed p t
named_last (expected.AfterName n offset) earlier own us t e h =
    let whole = e ∙ (ap (λ l. earlier ++ l) h.whole ∙ sym (append_assoc earlier h.prefix (h.token ∷ []))) in
    subst (IfNamed (expected.AfterName n offset)) (sym (same_last us (earlier ++ h.prefix) t h.token whole)) h.is
named_last expected.Type earlier own us t e h = tt
named_last (expected.Delimiter x) earlier own us t e h = tt
named_last expected.Key earlier own us t e h = tt
named_last expected.KeyComma earlier own us t e h = tt
named_last (expected.FieldName fields n) earlier own us t e h = tt
named_last (expected.FieldColon fields n name) earlier own us t e h = tt

-- whether it names a type
named_known : (p : ExpectedInType) (t : Token) (ts : List Token) → IfNamed p t → unknown_at p (begins_with_less ts)
    ≡ None →
    NamesTypeIf (is_after_name p) t ts
named_known (expected.AfterName n offset) t ts i e =
    ap (λ m. word_names_type m (begins_with_less ts)) i.0 ∙ over (names_type n (begins_with_less ts)) e
  where
    over : (b : Bool) → (if b then None else Some offset) ≡ None → b ≡ true
    over true e = refl
    over false e = absurd (cc e)
named_known expected.Type t ts i e = tt
named_known (expected.Delimiter x) t ts i e = tt
named_known expected.Key t ts i e = tt
named_known expected.KeyComma t ts i e = tt
named_known (expected.FieldName fields n) t ts i e = tt
named_known (expected.FieldColon fields n name) t ts i e = tt

-- what is unknown
record IsUnknownWord (word : Bool) (t : Token) (ts : List Token) (offset : ℕ) : Type 0 where
  pub stands : word ≡ true
  pub unknown : is_type_name t ts ≡ false
  pub at : t.span.start ≡ offset

named_unknown : (p : ExpectedInType) (t : Token) (ts : List Token) (offset : ℕ) → IfNamed p t →
    unknown_at p (begins_with_less ts) ≡ Some offset → IsUnknownWord (is_after_name p) t ts offset
named_unknown (expected.AfterName n at) t ts offset i e = record {
  stands = refl;
  unknown = ap (λ m. word_names_type m (begins_with_less ts)) i.0 ∙ false_if (names_type n (begins_with_less ts)) e;
  at = i.1 ∙ same (names_type n (begins_with_less ts)) e;
}
  where
    false_if : (b : Bool) → (if b then None else Some at) ≡ Some offset → b ≡ false
    false_if true e = absurd (cc e)
    false_if false e = refl

    unwrap : Option ℕ → ℕ
    unwrap None = at
    unwrap (Some n) = n

    same : (b : Bool) → (if b then None else Some at) ≡ Some offset → at ≡ offset
    same true e = absurd (cc e)
    same false e = ap unwrap e
named_unknown expected.Type t ts offset i e = absurd (cc e)
named_unknown (expected.Delimiter x) t ts offset i e = absurd (cc e)
named_unknown expected.Key t ts offset i e = absurd (cc e)
named_unknown expected.KeyComma t ts offset i e = absurd (cc e)
named_unknown (expected.FieldName fields n) t ts offset i e = absurd (cc e)
named_unknown (expected.FieldColon fields n name) t ts offset i e = absurd (cc e)

-- the same of a file

record WordIs (p : CommandSpot) (t : Token) (ts : List Token) : Type 0 where
  pub known : unknown_in p (begins_with_less ts) ≡ None → NamesTypeIf (word_in p) t ts
  pub unknown : (offset : ℕ) → unknown_in p (begins_with_less ts) ≡ Some offset → IsUnknownWord (word_in p) t ts offset

no_word : (p : CommandSpot) (t : Token) (ts : List Token) → word_in p ≡ false →
    unknown_in p (begins_with_less ts) ≡ None → WordIs p t ts
no_word p t ts w u = record {
  known = λ e. subst (λ b. NamesTypeIf b t ts) (sym w) tt;
  unknown = λ offset e. absurd (clash (sym u ∙ e));
}
  where
    clash : {n : ℕ} → None ≡ Some n → ⊥
    clash e = cc e

inside_word : (from : Span) (at : Spot) (earlier own us : List Token) (t : Token) (ts : List Token) →
    us ++ (t ∷ []) ≡ earlier ++ own → IfSpot at own → WordIs (where_.Inside from at) t ts
inside_word from (spot.Type n required r) earlier own us t ts e h =
    let i = named_last r.expected earlier own us t e h in
    record {
      known = λ q. named_known r.expected t ts i q;
      unknown = λ offset q. named_unknown r.expected t ts offset i q;
    }
inside_word from _ earlier own us t ts e h = no_word _ t ts refl refl

held_word : (p : CommandSpot) (s : CommandState) (us : List Token) (t : Token) (ts : List Token) →
    files.Held_at p s (us ++ (t ∷ [])) → WordIs p t ts
held_word where_.Between s us t ts h = no_word _ t ts refl refl
held_word (where_.Opened from) s us t ts h = no_word _ t ts refl refl
held_word (where_.Inside from at) s us t ts h =
    inside_word from at (h.prefix ++ (h.begin ∷ [])) h.own us t ts
    (h.whole ∙ sym (append_assoc h.prefix (h.begin ∷ []) h.own)) (spot_last at h.own h.kind_ h.begun)

-- the tokens that were read, and one more
one_more : (us : List Token) (t : Token) (s : FileState) → file_run us file_start ≡ Some s →
    file_run (us ++ t ∷ []) file_start ≡ file_run_from (file_run []) (file_step s t)
one_more us t s r = run_append us (t ∷ []) file_start ∙ ap (file_run_from (file_run (t ∷ []))) r

-- no file goes on where there is no step
none_goes_on : (us : List Token) (t : Token) (s : FileState) → file_run us file_start ≡ Some s → file_step s t ≡ None →
    (ds : List ℕ) (ws : List Bool) → BeginsFile (us ++ t ∷ []) ds ws → ⊥
none_goes_on us t s r e ds ws b =
    let i = BeginsFile-run (us ++ t ∷ []) ds ws b in
    clash (sym i.is ∙ (one_more us t s r ∙ ap (file_run_from (file_run [])) e))
  where
    clash : {m : FileState} → Some m ≡ None → ⊥
    clash h = cc h

-- and none is whole where none was read
none_whole : (us : List Token) (s : FileState) → file_run us file_start ≡ Some s → whole_file s ≡ None →
    (ds : List ℕ) (ws : List Bool) (tree : Tree) → SpellsFile us ds ws tree → ⊥
none_whole us s r f ds ws tree p =
    let i = file_leads us ds ws tree p in
    clash (sym f ∙ (ap whole_file (same_state us s i.state r i.runs) ∙ i.finishes))
  where
    clash : {x : Tree} → None ≡ Some x → ⊥
    clash h = cc h

-- what is known of the tokens that were read, before it is asked whether the last of them names a type
record Known (us ts : List Token) (s : FileState) : Type 0 where
  pub known : unknown_in s.spot (begins_with_less ts) ≡ None → NameTypes us (file_words us file_start) ts
  pub unknown : (offset : ℕ) → unknown_in s.spot (begins_with_less ts) ≡ Some offset → IsUnknown (us ++ ts) offset

module _ (file : ℕ) where
  -- where no file goes on
  refused : (us rest : List Token) (s : FileState) (offset : ℕ) → file_run us file_start ≡ Some s
      → NoFileGoesOn us rest →
      AreWithin 0 (file_depths us file_start) → NameTypes us (file_words us file_start) rest →
      offset_after us rest ≡ offset → Answers file (us ++ rest) (Err (fault_at file code.Syntax offset))
  refused us rest s offset r ends within known at = (
    refl,
    record {
      prefix = us;
      rest = rest;
      depths = file_depths us file_start;
      words = file_words us file_start;
      whole = refl;
      begins = run-BeginsFile us s r;
      longest = ends;
      within = within;
      known = known;
      offset_is = at;
    },
  )

  -- where the tokens run out
  run_out : (us : List Token) (s : FileState) (o : Option Tree) → file_run us file_start ≡ Some s → whole_file s ≡ o →
      AreWithin 0 (file_depths us file_start) → NameTypes us (file_words us file_start) [] →
      Answers file us (file_answer file (end_after 0 us) o)
  run_out us s (Some tree) r f within known = record {
    depths = file_depths us file_start;
    words = file_words us file_start;
    spells = whole-spelled us s tree r f;
    within = within;
    known = known;
  }
  run_out us s None r f within known =
      subst (λ l. Answers file l (Err (fault_at file code.Syntax (end_after 0 us)))) (append-nil us)
      (refused us [] s (end_after 0 us) r (none_whole us s r f) within known refl)

  -- one token, and then the rest

  moved : (ts xs ys : List Token) (e f : ℕ) (m : FileState) → xs ≡ ys → e ≡ f →
      Answers file xs (reading_file file e ts m) → Answers file ys (reading_file file f ts m)
  moved ts xs ys e f m p q a =
      subst (λ l. Answers file l (reading_file file f ts m)) p
      (subst (λ n. Answers file xs (reading_file file n ts m)) q a)

  module _ (ts us : List Token) (s : FileState) (t : Token) (r : file_run us file_start ≡ Some s)
      (within : AreWithin 0 (file_depths us file_start)) (names : NameTypes us (file_words us file_start) (t ∷ ts))
    where
      read_to : (m : FileState) → file_step s t ≡ Some m → file_run (us ++ t ∷ []) file_start ≡ Some m
      read_to m e = one_more us t s r ∙ ap (file_run_from (file_run [])) e

      depths_to : (m : FileState) → file_step s t ≡ Some m →
          file_depths (us ++ t ∷ []) file_start ≡ file_depths us file_start ++ token_depth s m ∷ []
      depths_to m e = depths_append us (t ∷ []) file_start s r
          ∙ ap (λ l. file_depths us file_start ++ l) (ap (file_depths_from s (file_depths [])) e)

      words_to : (m : FileState) → file_step s t ≡ Some m →
          file_words (us ++ t ∷ []) file_start ≡ file_words us file_start ++ word_in m.spot ∷ []
      words_to m e = words_append us (t ∷ []) file_start s r
          ∙ ap (λ l. file_words us file_start ++ l) (ap (file_words_from (file_words [])) e)

      within_to : (m : FileState) → file_step s t ≡ Some m → 0 + token_depth s m ≤ depth_limit →
          AreWithin 0 (file_depths (us ++ t ∷ []) file_start)
      within_to m e small =
          subst (AreWithin 0) (sym (depths_to m e))
          (within_append 0 (file_depths us file_start) (token_depth s m ∷ []) within (small, tt))

      -- the tokens up to this one, as a fault at it has them
      fault_to : (offset : ℕ) (m : FileState) → file_step s t ≡ Some m → t.span.start ≡ offset →
          BeginsFileFault (us ++ t ∷ ts) offset
      fault_to offset m e at = record {
        prefix = us;
        token = t;
        rest = ts;
        depths = file_depths us file_start;
        depth = token_depth s m;
        words = file_words us file_start;
        word = word_in m.spot;
        whole = refl;
        begins = subst (λ ws. BeginsFile (us ++ t ∷ []) (file_depths us file_start ++ token_depth s m ∷ []) ws)
            (words_to m e)
            (subst (λ ds. BeginsFile (us ++ t ∷ []) ds (file_words (us ++ t ∷ []) file_start)) (depths_to m e)
            (run-BeginsFile (us ++ t ∷ []) m (read_to m e)));
        within = within;
        known = names;
        offset_is = at;
      }

      -- the word that stands last as a type
      last_word : (m : FileState) → file_step s t ≡ Some m → WordIs m.spot t ts
      last_word m e = held_word m.spot m.commands us t ts (start_run_held (us ++ t ∷ []) m (read_to m e))

      known_to : (m : FileState) → file_step s t ≡ Some m → 0 + token_depth s m ≤ depth_limit
          → Known (us ++ t ∷ []) ts m
      unfolding fault_to
      known_to m e small = let w = last_word m e in record {
        known = λ none. subst (λ ws. NameTypes (us ++ t ∷ []) ws ts) (sym (words_to m e))
            (names_append us (file_words us file_start) t (word_in m.spot) ts (words_length us file_start s r) names
            (w.known none));
        unknown = λ offset some.
            let u = w.unknown offset some in
            rw (append_assoc us (t ∷ []) ts) (record {
              fault = fault_to offset m e u.at;
              shallow = (small, tt);
              stands = u.stands;
              unknown = u.unknown;
            });
      }

      on : (m : FileState) → file_step s t ≡ Some m → (b : Bool) → is_within 0 (token_depth s m) ≡ b →
          (AreWithin 0 (file_depths (us ++ t ∷ []) file_start) → Known (us ++ t ∷ []) ts m →
          Answers file ((us ++ t ∷ []) ++ ts) (reading_file file (end_after 0 (us ++ t ∷ [])) ts m)) →
          Answers file (us ++ t ∷ ts)
          (if b then reading_file file t.span.end ts m else Err (fault_at file code.Nesting t.span.start))
      unfolding fault_to
      on m e true within_limit inside =
          let small = within-true (0 + token_depth s m) depth_limit within_limit in
          moved ts ((us ++ t ∷ []) ++ ts) (us ++ t ∷ ts) (end_after 0 (us ++ t ∷ [])) t.span.end m
          (append_assoc us (t ∷ []) ts) (end_last 0 us t) (inside (within_to m e small) (known_to m e small))
      on m e false large inside =
          let large = within-false (0 + token_depth s m) depth_limit large in
          let deep : depth_limit < token_depth s m = omega (arith, large) in
          (refl, record { fault = fault_to t.span.start m e refl; deep = deep })

      over : (to : Option FileState) → file_step s t ≡ to →
          ((m : FileState) → file_run (us ++ t ∷ []) file_start ≡ Some m →
          AreWithin 0 (file_depths (us ++ t ∷ []) file_start) → Known (us ++ t ∷ []) ts m →
          Answers file ((us ++ t ∷ []) ++ ts) (reading_file file (end_after 0 (us ++ t ∷ [])) ts m)) →
          Answers file (us ++ t ∷ ts) (read_file_on file s t (reading_file file t.span.end ts) to)
      over None e inside = refused us (t ∷ ts) s t.span.start r (none_goes_on us t s r e) within names refl
      over (Some m) e inside = on m e (is_within 0 (token_depth s m)) refl (inside m (read_to m e))

  -- where the word that was read last names no type, and where it does
  asked : (ts us : List Token) (s : FileState) → Known us ts s → (out : Result Tree Fault) →
      (NameTypes us (file_words us file_start) ts → Answers file (us ++ ts) out) →
      Answers file (us ++ ts) (unless_unknown_type file (unknown_in s.spot (begins_with_less ts)) out)
  asked ts us s k out inside = over_word (unknown_in s.spot (begins_with_less ts)) refl
    where
      over_word : (o : Option ℕ) → unknown_in s.spot (begins_with_less ts) ≡ o →
          Answers file (us ++ ts) (unless_unknown_type file o out)
      over_word (Some offset) e = (refl, k.unknown offset e)
      over_word None e = inside (k.known e)

  means : (ts us : List Token) (s : FileState) → file_run us file_start ≡ Some s →
      AreWithin 0 (file_depths us file_start) → Known us ts s →
      Answers file (us ++ ts) (reading_file file (end_after 0 us) ts s)
  means [] us s r within k =
      asked [] us s k (file_answer file (end_after 0 us) (whole_file s))
      (λ names. subst (λ l. Answers file l (file_answer file (end_after 0 us) (whole_file s))) (sym (append-nil us))
      (run_out us s (whole_file s) r refl within names))
  means (t ∷ ts) us s r within k =
      asked (t ∷ ts) us s k (read_file_on file s t (reading_file file t.span.end ts) (file_step s t))
      (λ names. over ts us s t r within names (file_step s t) refl (means ts (us ++ t ∷ [])))

  start_known : (ts : List Token) → Known [] ts file_start
  start_known ts = record { known = λ e. tt; unknown = λ offset e. absurd (cc e) }

  -- **What is read from the first token on is right.**
  pub reading_file-Answers : (ts : List Token) → Answers file ts (reading_file file 0 ts file_start)
  reading_file-Answers ts = means ts [] file_start refl tt (start_known ts)

-- **What `parse` is to answer, of what is read.**
pub read-ParsesFile : (file : ℕ) (ts : List Token) (tree : Tree) → reading_file file 0 ts file_start ≡ Ok tree →
    ParsesFile file ts (Ok tree)
read-ParsesFile file ts tree e = subst (Answers file ts) e (reading_file-Answers file ts)

pub refused-ParsesFile : (file : ℕ) (ts : List Token) (fault : Fault) → reading_file file 0 ts file_start ≡ Err fault →
    ParsesFile file ts (Err (refusal.Because fault))
refused-ParsesFile file ts fault e = subst (Answers file ts) e (reading_file-Answers file ts)

pub ReadsFile-ParsesFile : (file : ℕ) (ts : List Token) (r : Result Tree (Refusal Fault)) → ReadsFile file ts r →
    ParsesFile file ts r
ReadsFile-ParsesFile file ts (Ok tree) e = read-ParsesFile file ts tree e
ReadsFile-ParsesFile file ts (Err (refusal.Because fault)) e = refused-ParsesFile file ts fault e
ReadsFile-ParsesFile file ts (Err refusal.OutOfMemory) e = tt
