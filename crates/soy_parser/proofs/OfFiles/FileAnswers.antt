-- Tokens have one answer as a file, but where memory runs out.
use Rattle.std.proofs.Common.{◌≡◌, ℕ, ◌<◌, Bool, true, false, length, List, [], ◌∷◌, ◌++◌, refl, sym, ◌∙◌, ap}
use Rattle.std.proofs.Common.{subst, arith, append_assoc, append-nil, length-append}
use Rattle.std.specs.Prelude.{Result, Ok, Err}
use Rattle.soy_base.specs.declared.code.Code.{Code}
use Rattle.soy_base.specs.declared.code.Code.TheVariants as code
use Rattle.soy_base.specs.declared.fault.Fault.{Fault}
use Rattle.soy_base.specs.declared.memory.Refusal.{Refusal}
use Rattle.soy_base.specs.declared.memory.Refusal.TheVariants as refusal
use Rattle.soy_lexer.specs.declared.token.Token.{Token}
use Rattle.soy_tree.specs.declared.tree.Tree.{Tree}
use Rattle.expr_parser.specs.Depths.{depth_limit, AreWithin}
use Rattle.expr_parser.specs.Offsets.{offset_after}
use Rattle.expr_parser.specs.ParsesType.{NamesTypeIf, NameTypes}
use Rattle.expr_parser.specs.TypeTerminals.{is_type_name}
use Rattle.expr_parser.proofs.Longest.{Ends, same_longest, same_bad, longest_good}
use Rattle.expr_parser.proofs.Prefixes.{same_prefix, same_last, within_prefix, within_last}
use Rattle.soy_parser.specs.FileRuns.{file_depths, file_words}
use Rattle.soy_parser.specs.FileSteps.{file_start}
use Rattle.soy_parser.specs.ParsesFile.{IsFile, NoFileGoesOn, IsNoFile, BeginsFileFault, IsTooDeep, IsUnknown}
use Rattle.soy_parser.specs.ParsesFile.{RefusesTokens}
use Rattle.soy_parser.specs.ParsesFile.{ParsesFile}
use Rattle.soy_parser.specs.SpellsFile.{SpellsFile, BeginsFile}
use Rattle.soy_parser.proofs.OfFiles.FileMachine.{BeginsFile-run, run-BeginsFile, before, depths_length, words_length}
use Rattle.soy_parser.proofs.OfFiles.FileMachine.{spelled_same}
use Rattle.soy_parser.proofs.OfFiles.FileMachine.{begun_depths, begun_words}
use Rattle.soy_parser.proofs.OfFiles.FileRunning.{depths_append, words_append}
use Rattle.soy_parser.proofs.OfFiles.FilesComplete.{file_leads}

-- some file begins with the tokens
record Begun (ts : List Token) : Type 0 where
  pub depths : List ℕ
  pub words : List Bool
  pub begins : BeginsFile ts depths words

-- none of them lies too deep, and with this rest each word of them that stands as a type names one
record Good (ts rest : List Token) : Type 0 where
  pub depths : List ℕ
  pub words : List Bool
  pub begins : BeginsFile ts depths words
  pub within : AreWithin 0 depths
  pub known : NameTypes ts words rest

-- the first words and the last
names_prefix : (us more : List Token) (ws vs : List Bool) (rest : List Token) → length ws ≡ length us →
    NameTypes (us ++ more) (ws ++ vs) rest → NameTypes us ws (more ++ rest)
names_prefix [] more ws vs rest long h = tt
names_prefix (u ∷ us) more [] vs rest long h = absurd (cc long)
names_prefix (u ∷ us) more (w ∷ ws) vs rest long h =
    (subst (NamesTypeIf w u) (append_assoc us more rest) h.0, names_prefix us more ws vs rest (omega (arith, long)) h.1)

names_last : (us : List Token) (t : Token) (ws : List Bool) (w : Bool) (rest : List Token) → length ws ≡ length us →
    NameTypes (us ++ (t ∷ [])) (ws ++ (w ∷ [])) rest → NamesTypeIf w t rest
names_last [] t [] w rest long h = h.0
names_last [] t (v ∷ ws) w rest long h = absurd (cc long)
names_last (u ∷ us) t [] w rest long h = absurd (cc long)
names_last (u ∷ us) t (v ∷ ws) w rest long h = names_last us t ws w rest (omega (arith, long)) h.1

begun_shorter : (ts us : List Token) → Begun (ts ++ us) → Begun ts
begun_shorter ts us b =
    let i = BeginsFile-run (ts ++ us) b.depths b.words b.begins in
    let m = before ts us i.state i.is in
    record {
      depths = file_depths ts file_start;
      words = file_words ts file_start;
      begins = run-BeginsFile ts m.state m.is;
    }

good_shorter : (ts us rest : List Token) → Good (ts ++ us) rest → Good ts (us ++ rest)
good_shorter ts us rest g =
    let i = BeginsFile-run (ts ++ us) g.depths g.words g.begins in
    let m = before ts us i.state i.is in
    record {
      depths = file_depths ts file_start;
      words = file_words ts file_start;
      begins = run-BeginsFile ts m.state m.is;
      within = within_prefix 0 (file_depths ts file_start) (file_depths us m.state)
          (subst (AreWithin 0) (i.depths_are ∙ depths_append ts us file_start m.state m.is) g.within);
      known = names_prefix ts us (file_words ts file_start) (file_words us m.state) rest
          (words_length ts file_start m.state m.is)
          (subst (λ ws. NameTypes (ts ++ us) ws rest) (i.words_are ∙ words_append ts us file_start m.state m.is)
          g.known);
    }

-- what is spelled begins
spelled_begins : (ts : List Token) (ds : List ℕ) (ws : List Bool) (x : Tree) → SpellsFile ts ds ws x
    → BeginsFile ts ds ws
spelled_begins ts ds ws x s =
    let i = file_leads ts ds ws x s in
    subst (λ l. BeginsFile ts ds l) (sym i.words_are)
    (subst (λ l. BeginsFile ts l (file_words ts file_start)) (sym i.depths_are) (run-BeginsFile ts i.state i.runs))

ends : (ps rs : List Token) → NoFileGoesOn ps rs → Ends Begun ps rs
ends ps [] h = tt
ends ps (r ∷ rs) h = λ b. h b.depths b.words b.begins

-- the longest prefix with which some file begins, and what is known of it
record IsLongest (tokens prefix rest : List Token) : Type 0 where
  pub whole : tokens ≡ prefix ++ rest
  pub good : Good prefix rest
  pub stops : Ends Begun prefix rest

-- the first token that lies too deep, or names no type
record IsFirstBad (tokens prefix : List Token) (token : Token) (rest : List Token) : Type 0 where
  pub whole : tokens ≡ prefix ++ (token ∷ rest)
  pub good : Good prefix (token ∷ rest)
  pub begun : Begun (prefix ++ (token ∷ []))
  pub bad : Good (prefix ++ (token ∷ [])) rest → ⊥

module _ (tokens : List Token) where
  longest_file : {tree : Tree} (i : IsFile tokens tree) → IsLongest tokens tokens []
  longest_file {tree} i = record {
    whole = sym (append-nil tokens);
    good = record {
      depths = i.depths;
      words = i.words;
      begins = spelled_begins tokens i.depths i.words tree i.spells;
      within = i.within;
      known = i.known;
    };
    stops = tt;
  }

  longest_none : {offset : ℕ} (i : IsNoFile tokens offset) → IsLongest tokens i.prefix i.rest
  longest_none i = record {
    whole = i.whole;
    good = record { depths = i.depths; words = i.words; begins = i.begins; within = i.within; known = i.known };
    stops = ends i.prefix i.rest i.longest;
  }

  -- the tokens before the fault are good
  before_fault : {offset : ℕ} (i : BeginsFileFault tokens offset) → Good i.prefix (i.token ∷ i.rest)
  before_fault i =
      let r = BeginsFile-run (i.prefix ++ (i.token ∷ [])) (i.depths ++ (i.depth ∷ [])) (i.words ++ (i.word ∷ []))
      i.begins in
      let m = before i.prefix (i.token ∷ []) r.state r.is in
      let long = i.begins.one_depth_each in
      let short = i.begins.one_word_each in
      let more = depths_length i.prefix file_start m.state m.is in
      let others = words_length i.prefix file_start m.state m.is in
      let even : length i.depths ≡ length (file_depths i.prefix file_start) =
      omega (arith, more, simp length-append at long) in
      let level : length i.words ≡ length (file_words i.prefix file_start) =
      omega (arith, others, simp length-append at short) in
      record {
        depths = file_depths i.prefix file_start;
        words = file_words i.prefix file_start;
        begins = run-BeginsFile i.prefix m.state m.is;
        within = subst (AreWithin 0)
            (same_prefix i.depths (file_depths i.prefix file_start) (i.depth ∷ [])
            (file_depths (i.token ∷ []) m.state) even
            (r.depths_are ∙ depths_append i.prefix (i.token ∷ []) file_start m.state m.is)) i.within;
        known = subst (λ ws. NameTypes i.prefix ws (i.token ∷ i.rest))
            (same_prefix i.words (file_words i.prefix file_start) (i.word ∷ []) (file_words (i.token ∷ []) m.state)
            level
            (r.words_are ∙ words_append i.prefix (i.token ∷ []) file_start m.state m.is)) i.known;
      }

  bad_deep : {offset : ℕ} (i : BeginsFileFault tokens offset) → depth_limit < i.depth →
      Good (i.prefix ++ (i.token ∷ [])) i.rest → ⊥
  bad_deep i deep g =
      let e = begun_depths (i.prefix ++ (i.token ∷ [])) g.depths (i.depths ++ (i.depth ∷ [])) g.words
      (i.words ++ (i.word ∷ [])) g.begins i.begins in
      let w = within_last 0 i.depths i.depth (subst (AreWithin 0) e g.within) in
      omega (arith, w, deep)

  bad_name : {offset : ℕ} (i : BeginsFileFault tokens offset) → i.word ≡ true → is_type_name i.token i.rest ≡ false →
      Good (i.prefix ++ (i.token ∷ [])) i.rest → ⊥
  bad_name i stands unknown g =
      let e = begun_words (i.prefix ++ (i.token ∷ [])) g.depths (i.depths ++ (i.depth ∷ [])) g.words
      (i.words ++ (i.word ∷ [])) g.begins i.begins in
      let short = i.begins.one_word_each in
      let level : length i.words ≡ length i.prefix = omega (arith, simp length-append at short) in
      let n = names_last i.prefix i.token i.words i.word i.rest level
      (subst (λ ws. NameTypes (i.prefix ++ (i.token ∷ [])) ws i.rest) e g.known) in
      clash (subst (λ w. NamesTypeIf w i.token i.rest) stands n) unknown
    where
      clash : {b : Bool} → b ≡ true → b ≡ false → ⊥
      clash h k = cc (h, k)

  first_deep : {offset : ℕ} (i : IsTooDeep tokens offset) → IsFirstBad tokens i.fault.prefix i.fault.token i.fault.rest
  first_deep i = record {
    whole = i.fault.whole;
    good = before_fault i.fault;
    begun = record {
      depths = i.fault.depths ++ (i.fault.depth ∷ []);
      words = i.fault.words ++ (i.fault.word ∷ []);
      begins = i.fault.begins;
    };
    bad = bad_deep i.fault i.deep;
  }

  first_unknown : {offset : ℕ} (i : IsUnknown tokens offset) → IsFirstBad tokens i.fault.prefix i.fault.token
      i.fault.rest
  first_unknown i = record {
    whole = i.fault.whole;
    good = before_fault i.fault;
    begun = record {
      depths = i.fault.depths ++ (i.fault.depth ∷ []);
      words = i.fault.words ++ (i.fault.word ∷ []);
      begins = i.fault.begins;
    };
    bad = bad_name i.fault i.stands i.unknown;
  }

  one_longest : {ps rs qs ss : List Token} → IsLongest tokens ps rs → IsLongest tokens qs ss → (ps ≡ qs) × (rs ≡ ss)
  one_longest {ps} {rs} {qs} {ss} a b =
      same_longest Begun begun_shorter ps rs qs ss (sym a.whole ∙ b.whole)
      (record { depths = a.good.depths; words = a.good.words; begins = a.good.begins }) a.stops
      (record { depths = b.good.depths; words = b.good.words; begins = b.good.begins }) b.stops

  never_both : {ps rs qs ss : List Token} {t : Token} → IsLongest tokens ps rs → IsFirstBad tokens qs t ss → ⊥
  never_both {ps} {rs} {qs} {ss} {t} a b =
      longest_good Begun begun_shorter Good good_shorter ps rs qs ss t (sym a.whole ∙ b.whole) a.good a.stops b.begun
      b.bad

  one_bad : {ps rs qs ss : List Token} {t u : Token} → IsFirstBad tokens ps t rs → IsFirstBad tokens qs u ss →
      (ps ≡ qs) × (t ≡ u)
  one_bad {ps} {rs} {qs} {ss} {t} {u} a b =
      same_bad Good good_shorter ps qs rs ss t u (sym a.whole ∙ b.whole) a.good a.bad b.good b.bad

  -- a token doesn't lie too deep where it is refused as an unknown name
  deep_unknown : {m n : ℕ} → IsTooDeep tokens m → IsUnknown tokens n → ⊥
  deep_unknown p q =
      let e = one_bad (first_deep p) (first_unknown q) in
      let f = p.fault in
      let g = q.fault in
      let same = begun_depths (g.prefix ++ (g.token ∷ [])) (f.depths ++ (f.depth ∷ [])) (g.depths ++ (g.depth ∷ []))
      (f.words ++ (f.word ∷ [])) (g.words ++ (g.word ∷ []))
      (subst (λ l. BeginsFile l (f.depths ++ (f.depth ∷ [])) (f.words ++ (f.word ∷ [])))
      (ap (λ l. l ++ (f.token ∷ [])) e.0 ∙ ap (λ t. g.prefix ++ (t ∷ [])) e.1) f.begins) g.begins in
      let depth = same_last f.depths g.depths f.depth g.depth same in
      let deep = p.deep in
      let shallow = q.shallow.0 in
      omega (arith, depth, deep, shallow)

  start_same : {ps qs rs ss : List Token} {t u : Token} {m n : ℕ} → IsFirstBad tokens ps t rs →
      IsFirstBad tokens qs u ss → t.span.start ≡ m → u.span.start ≡ n → m ≡ n
  start_same a b p q = sym p ∙ (ap (λ t. t.span.start) (one_bad a b).1 ∙ q)

  -- two faults are the same
  refused_same : (c d : Code) (m n : ℕ) → RefusesTokens tokens c m → RefusesTokens tokens d n → (c ≡ d) × (m ≡ n)
  refused_same code.Syntax code.Syntax m n p q =
      let e = one_longest (longest_none p) (longest_none q) in
      (refl, sym p.offset_is ∙ (ap (λ l. offset_after l p.rest) e.0 ∙ (ap (offset_after q.prefix) e.1 ∙ q.offset_is)))
  refused_same code.Nesting code.Nesting m n p q =
      (refl, start_same (first_deep p) (first_deep q) p.fault.offset_is q.fault.offset_is)
  refused_same code.Mistyped code.Mistyped m n p q =
      (refl, start_same (first_unknown p) (first_unknown q) p.fault.offset_is q.fault.offset_is)
  refused_same code.Syntax code.Nesting m n p q = absurd (never_both (longest_none p) (first_deep q))
  refused_same code.Nesting code.Syntax m n p q = absurd (never_both (longest_none q) (first_deep p))
  refused_same code.Syntax code.Mistyped m n p q = absurd (never_both (longest_none p) (first_unknown q))
  refused_same code.Mistyped code.Syntax m n p q = absurd (never_both (longest_none q) (first_unknown p))
  refused_same code.Nesting code.Mistyped m n p q = absurd (deep_unknown p q)
  refused_same code.Mistyped code.Nesting m n p q = absurd (deep_unknown q p)
  refused_same code.Syntax _ m n p q = absurd q
  refused_same code.Nesting _ m n p q = absurd q
  refused_same code.Mistyped _ m n p q = absurd q
  refused_same _ d m n p q = absurd p

  -- what doesn't go on is no file
  not_whole : (prefix rest : List Token) → NoFileGoesOn prefix rest → rest ≡ [] → (ds : List ℕ) (ws : List Bool)
      (tree : Tree) → SpellsFile prefix ds ws tree → ⊥
  not_whole prefix [] h e ds ws tree p = h ds ws tree p
  not_whole prefix (t ∷ rest) h e ds ws tree p = absurd (cc e)

  -- no fault beside a file
  never_refused : (d : Code) (n : ℕ) {tree : Tree} → IsFile tokens tree → RefusesTokens tokens d n → ⊥
  never_refused code.Syntax n {tree} p q =
      let e = one_longest (longest_file p) (longest_none q) in
      not_whole q.prefix q.rest q.longest (sym e.1) p.depths p.words tree
      (subst (λ l. SpellsFile l p.depths p.words tree) e.0 p.spells)
  never_refused code.Nesting n p q = never_both (longest_file p) (first_deep q)
  never_refused code.Mistyped n p q = never_both (longest_file p) (first_unknown q)
  never_refused _ n p q = q

fault_same : (f g : Fault) → (f.code ≡ g.code) × (f.at ≡ g.at) → f.file ≡ g.file → f ≡ g
fault_same f g e file = parts f.code g.code f.file g.file f.at g.at e.0 file e.1
  where
    parts : (c d : Code) (i j m n : ℕ) → c ≡ d → i ≡ j → m ≡ n →
        ◌≡◌ {A = Fault} (record { code = c; file = i; at = m }) (record { code = d; file = j; at = n })
    parts c d i j m n p q r = rw (p, q, r) refl

-- **Two answers for the same tokens are the same, but where memory ran out.**
pub one_file_answer : (file : ℕ) (tokens : List Token) (a b : Result Tree (Refusal Fault)) →
    ParsesFile file tokens a → ParsesFile file tokens b →
    (a ≡ Err refusal.OutOfMemory → ⊥) → (b ≡ Err refusal.OutOfMemory → ⊥) → a ≡ b
one_file_answer file tokens (Ok x) (Ok y) p q m n =
    ap Ok (spelled_same tokens p.depths q.depths p.words q.words x y p.spells q.spells)
one_file_answer file tokens (Ok x) (Err (refusal.Because g)) p q m n = absurd (never_refused tokens g.code g.at p q.1)
one_file_answer file tokens (Err (refusal.Because f)) (Ok y) p q m n = absurd (never_refused tokens f.code f.at q p.1)
one_file_answer file tokens (Err (refusal.Because f)) (Err (refusal.Because g)) p q m n =
    ap (λ h. Err (refusal.Because h)) (fault_same f g (refused_same tokens f.code g.code f.at g.at p.1 q.1)
    (p.0 ∙ sym q.0))
one_file_answer file tokens (Err refusal.OutOfMemory) b p q m n = absurd (m refl)
one_file_answer file tokens a (Err refusal.OutOfMemory) p q m n = absurd (n refl)
