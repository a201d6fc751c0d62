-- Text that is written as in a canonical text is read as that text.
use Rattle.std.proofs.Common.{◌≡◌, ◌≢◌, ℕ, ◌==◌, ◌||◌, Bool, true, false, List, [], ◌∷◌, ◌++◌, refl, sym, ◌∙◌, ap}
use Rattle.std.proofs.Common.{subst, append_assoc, append-nil, arith}
use Rattle.std.proofs.lemmas.Bool.{eqb-true}
use Rattle.std.proofs.lemmas.Bool.Decides.{nat_tests}
use Rattle.soy_base.specs.Characters.{single_quote, left_brace, right_brace, number_sign}
use Rattle.soy_tree.specs.MessageParts.{MsgParts, TextPart, Placeholder, NumberPart, PluralPart, SelectPart, no_part}
use Rattle.soy_tree.specs.MessageParts.{part}
use Rattle.soy_rules.specs.IcuText as icu
use Rattle.soy_rules.specs.IcuText.{PatternMode, AtTop, InPlural, InSelect, is_quotable, begins_with_quote, is_plain}
use Rattle.soy_rules.specs.IcuText.{Quoted, Reads, with_text}
use Rattle.msg_extract.proofs.JoinedTests.{holds_or}
use Rattle.msg_extract.specs.Canonical.CanonicalText.{is_in_plural, is_special, written_text, written_run}

or_false : (a : Bool) → (a || false) ≡ a
or_false true = refl
or_false false = refl

special_is : (mode : PatternMode) (c : ℕ) → is_special (is_in_plural mode) c ≡ is_quotable mode c
special_is AtTop c = or_false (c == left_brace || c == right_brace)
special_is InPlural c = refl
special_is InSelect c = or_false (c == left_brace || c == right_brace)

or_parts : (a b : Bool) → (a || b) ≡ false → (a ≡ false) × (b ≡ false)
or_parts true b e = absurd (cc e)
or_parts false b e = (refl, e)

plain_is : (mode : PatternMode) (c : ℕ) → is_quotable mode c ≡ false → (c == single_quote) ≡ false
    → is_plain mode c ≡ true
plain_is AtTop c h q = let b = or_parts (c == left_brace) (c == right_brace) h in rw (q, b.0) refl
plain_is InPlural c h q =
    let b = or_parts (c == left_brace || c == right_brace) (c == number_sign) h in
    let d = or_parts (c == left_brace) (c == right_brace) b.0 in rw (q, d.0, d.1, b.1) refl
plain_is InSelect c h q = let b = or_parts (c == left_brace) (c == right_brace) h in rw (q, b.0, b.1) refl

same : (c : ℕ) → (c == c) ≡ true
same c = grind (arith, nat_tests)

other_than : (c k : ℕ) → (c == k) ≡ false → c ≢ k
other_than c k apart = λ e. absurd (cc (apart, subst (λ d. (c == d) ≡ true) e (same c)))

quotable_quote : (mode : PatternMode) → is_quotable mode 39 ≡ false
quotable_quote AtTop = refl
quotable_quote InPlural = refl
quotable_quote InSelect = refl

not_quote : (mode : PatternMode) (c : ℕ) → is_quotable mode c ≡ true → (c == single_quote) ≡ false
not_quote mode c h =
    holds_or _ (c == single_quote)
    (λ e. absurd (cc (subst (λ d. is_quotable mode d ≡ true) (eqb-true c 39 e) h, quotable_quote mode))) (λ e. e)

pub texts_join : (text more : List ℕ) (ps : MsgParts) → with_text (text ++ more) ps ≡ with_text text (with_text more ps)
texts_join [] more ps = refl
texts_join (c ∷ cs) [] ps = ap (λ t. with_text t ps) (append-nil (c ∷ cs))
texts_join (c ∷ cs) (d ∷ ds) no_part = refl
texts_join (c ∷ cs) (d ∷ ds) (part (TextPart text) ps) =
    ap (λ t. part (TextPart t) ps) (append_assoc (c ∷ cs) (d ∷ ds) text)
texts_join (c ∷ cs) (d ∷ ds) (part (Placeholder name) ps) = refl
texts_join (c ∷ cs) (d ∷ ds) (part NumberPart ps) = refl
texts_join (c ∷ cs) (d ∷ ds) (part (PluralPart ordinal name by exact named) ps) = refl
texts_join (c ∷ cs) (d ∷ ds) (part (SelectPart name arms) ps) = refl

-- a run, and what follows it
record Run (mode : PatternMode) (n : ℕ) (text : List ℕ) (parts : MsgParts) (end : List ℕ) : Type 0 where
  chars : List ℕ
  after : List ℕ
  left : MsgParts
  quoted : Quoted text chars after
  reads : Reads mode n after left end
  whole : with_text chars left ≡ parts

module _ (mode : PatternMode) (n : ℕ) (rest : List ℕ) (ps : MsgParts) (end : List ℕ)
    (no_quote : begins_with_quote rest ≡ false) (reads : Reads mode n rest ps end) where
  abbrev written : List ℕ → List ℕ
  written text = written_text (is_in_plural mode) text ++ rest

  abbrev run : List ℕ → List ℕ
  run text = written_run (is_in_plural mode) text ++ rest

  more : (c : ℕ) (cs : List ℕ) (text : List ℕ) → c ≢ single_quote → Run mode n text (with_text cs ps) end
      → Run mode n (c ∷ text) (with_text (c ∷ cs) ps) end
  more c cs text other r = record {
    chars = c ∷ r.chars;
    after = r.after;
    left = r.left;
    quoted = icu.character c text r.chars r.after other r.quoted;
    reads = r.reads;
    whole = texts_join (c ∷ []) r.chars r.left ∙ (ap (with_text (c ∷ [])) r.whole ∙ sym (texts_join (c ∷ []) cs ps));
  }

  twice : (cs : List ℕ) (text : List ℕ) → Run mode n text (with_text cs ps) end
      → Run mode n (single_quote ∷ (single_quote ∷ text)) (with_text (single_quote ∷ cs) ps) end
  twice cs text r = record {
    chars = single_quote ∷ r.chars;
    after = r.after;
    left = r.left;
    quoted = icu.doubled text r.chars r.after r.quoted;
    reads = r.reads;
    whole =
        texts_join (single_quote ∷ []) r.chars r.left
        ∙ (ap (with_text (single_quote ∷ [])) r.whole ∙ sym (texts_join (single_quote ∷ []) cs ps));
  }

  special_reads : (c : ℕ) (cs : List ℕ) → is_quotable mode c ≡ true → Run mode n (run cs) (with_text cs ps) end
      → Reads mode n (single_quote ∷ (c ∷ run cs)) (with_text (c ∷ cs) ps) end
  special_reads c cs h r =
      let all = more c cs (run cs) (other_than c 39 (not_quote mode c h)) r in
      icu.quoted (c ∷ run cs) all.chars all.after end all.left (with_text (c ∷ cs) ps) h all.quoted all.reads
      (sym all.whole)

  plain_reads : (c : ℕ) (cs : List ℕ) → is_quotable mode c ≡ false → (c == single_quote) ≡ false
      → Reads mode n (written cs) (with_text cs ps) end
      → Reads mode n (c ∷ written cs) (with_text (c ∷ cs) ps) end
  plain_reads c cs h q r = icu.plain c (written cs) end (with_text cs ps) (with_text (c ∷ cs) ps) (plain_is mode c h q)
      r (texts_join (c ∷ []) cs ps)

  mutual
    pub text_reads : (text : List ℕ) → Reads mode n (written text) (with_text text ps) end
    text_reads [] = reads
    text_reads (c ∷ cs) =
        holds_or _ (is_quotable mode c)
        (λ h. let s : is_special (is_in_plural mode) c ≡ true = special_is mode c ∙ h in rw s
        (special_reads c cs h (run_reads cs)))
        (λ h. let s : is_special (is_in_plural mode) c ≡ false = special_is mode c ∙ h in
        holds_or _ (c == single_quote)
        (λ q. rw (s, q) (subst (λ d. Reads mode n (single_quote ∷ (single_quote ∷ written cs)) (with_text (d ∷ cs) ps)
        end) (sym (eqb-true c 39 q))
        (icu.two (written cs) end (with_text cs ps) (with_text (single_quote ∷ cs) ps) (text_reads cs)
        (texts_join (single_quote ∷ []) cs ps))))
        (λ q. rw (s, q) (plain_reads c cs h q (text_reads cs))))

    run_reads : (text : List ℕ) → Run mode n (run text) (with_text text ps) end
    run_reads [] =
        record { chars = []; after = rest; left = ps; quoted = icu.closed rest no_quote; reads = reads; whole = refl }
    run_reads (c ∷ cs) =
        holds_or _ (is_quotable mode c)
        (λ h. let s : is_special (is_in_plural mode) c ≡ true = special_is mode c ∙ h in
        rw s (more c cs (run cs) (other_than c 39 (not_quote mode c h)) (run_reads cs)))
        (λ h. let s : is_special (is_in_plural mode) c ≡ false = special_is mode c ∙ h in
        holds_or _ (c == single_quote)
        (λ q. rw (s, q) (subst (λ d. Run mode n (single_quote ∷ (single_quote ∷ run cs)) (with_text (d ∷ cs) ps) end)
        (sym (eqb-true c 39 q)) (twice cs (run cs) (run_reads cs))))
        (λ q. rw (s, q) (record {
          chars = [];
          after = c ∷ written cs;
          left = with_text (c ∷ cs) ps;
          quoted = icu.closed (c ∷ written cs) q;
          reads = plain_reads c cs h q (text_reads cs);
          whole = refl;
        })))
