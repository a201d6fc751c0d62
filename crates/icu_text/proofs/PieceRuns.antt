-- The machine along a run of characters, white space and the letters of a word, as they are read at once.
use Rattle.std.proofs.Common.{◌≡◌, ℕ, zero, suc, ◌<◌, ◌≤◌, ◌==◌, Bool, true, false, List, [], ◌∷◌, ◌++◌, drop}
use Rattle.std.proofs.Common.{length, Some, None}
use Rattle.std.proofs.Common.{Result, Ok, Err, refl, sym, ◌∙◌, ap, subst, append_assoc, append-nil, arith}
use Rattle.std.proofs.Common.{if◌then◌else◌}
use Rattle.soy_base.specs.ByteLength.{byte_len}
use Rattle.soy_base.specs.Cuts.{after_while, prefix_while}
use Rattle.soy_base.specs.WhiteSpace.{is_template_space}
use Rattle.icu_text.specs.declared.parse.Outcome.{Outcome}
use Rattle.icu_text.specs.declared.parse.Outcome.TheVariants.{Refused}
use Rattle.icu_text.specs.PatternStates.{PatternState}
use Rattle.icu_text.specs.PatternSteps.{pattern_next, whole_pattern}
use Rattle.icu_text.specs.PatternReading.{answer, read_on, reading}
use Rattle.icu_text.specs.Heads.{letters_read}
use Rattle.icu_text.proofs.CharacterTests.{holds_or}

-- a character leads on, or none does
pub steps_on : (c : ℕ) (cs : List ℕ) (s to : PatternState) → pattern_next s c ≡ Some to
    → reading (c ∷ cs) s ≡ reading cs to
steps_on c cs s to e = ap (read_on (byte_len (c ∷ cs)) (reading cs)) e

pub stuck_at : (c : ℕ) (cs : List ℕ) (s : PatternState) → pattern_next s c ≡ None
    → reading (c ∷ cs) s ≡ Refused (byte_len (c ∷ cs))
stuck_at c cs s e = ap (read_on (byte_len (c ∷ cs)) (reading cs)) e

-- what follows a run
pub after_passed : (p : ℕ → Bool) (c : ℕ) (cs : List ℕ) → p c ≡ true → after_while p (c ∷ cs) ≡ after_while p cs
after_passed p c cs h = ap (λ t. if t then after_while p cs else c ∷ cs) h

pub after_failed : (p : ℕ → Bool) (c : ℕ) (cs : List ℕ) → p c ≡ false → after_while p (c ∷ cs) ≡ c ∷ cs
after_failed p c cs h = ap (λ t. if t then after_while p cs else c ∷ cs) h

pub prefix_passed : (p : ℕ → Bool) (c : ℕ) (cs : List ℕ) → p c ≡ true
    → prefix_while p (c ∷ cs) ≡ c ∷ prefix_while p cs
prefix_passed p c cs h = ap (λ t. if t then c ∷ prefix_while p cs else []) h

pub prefix_failed : (p : ℕ → Bool) (c : ℕ) (cs : List ℕ) → p c ≡ false → prefix_while p (c ∷ cs) ≡ []
prefix_failed p c cs h = ap (λ t. if t then c ∷ prefix_while p cs else []) h

-- the text doesn't begin with a character that passes a test
abbrev pub Stops : (ℕ → Bool) → List ℕ → Type 0
Stops p [] = Unit {0}
Stops p (c ∷ cs) = p c ≡ false

pub stops : (p : ℕ → Bool) (cs : List ℕ) → Stops p (after_while p cs)
stops p [] = tt
stops p (c ∷ cs) =
    holds_or (Stops p (after_while p (c ∷ cs))) (p c)
    (λ h. subst (Stops p) (sym (after_passed p c cs h)) (stops p cs))
    (λ h. subst (Stops p) (sym (after_failed p c cs h)) h)

pub after_within : (p : ℕ → Bool) (cs : List ℕ) → length (after_while p cs) ≤ length cs
after_within p [] = omega arith
after_within p (c ∷ cs) =
    let inside : length (after_while p cs) ≤ length cs = after_within p cs in
    holds_or (length (after_while p (c ∷ cs)) ≤ length (c ∷ cs)) (p c)
    (λ h. subst (λ l. length l ≤ length (c ∷ cs)) (sym (after_passed p c cs h)) (omega (arith, inside)))
    (λ h. subst (λ l. length l ≤ length (c ∷ cs)) (sym (after_failed p c cs h)) (omega arith))

-- white space that changes nothing
pub past_space : (s : PatternState) → ((c : ℕ) → is_template_space c ≡ true → pattern_next s c ≡ Some s)
    → (cs : List ℕ) → reading cs s ≡ reading (after_while is_template_space cs) s
past_space s next [] = refl
past_space s next (c ∷ cs) =
    holds_or (reading (c ∷ cs) s ≡ reading (after_while is_template_space (c ∷ cs)) s) (is_template_space c)
    (λ h. steps_on c cs s s (next c h) ∙ (past_space s next cs
    ∙ ap (λ l. reading l s) (sym (after_passed is_template_space c cs h))))
    (λ h. ap (λ l. reading l s) (sym (after_failed is_template_space c cs h)))

-- a run of characters that are added
pub past_run : (p : ℕ → Bool) (s : List ℕ → PatternState)
    → ((t : List ℕ) (c : ℕ) → p c ≡ true → pattern_next (s t) c ≡ Some (s (t ++ c ∷ [])))
    → (t cs : List ℕ) → reading cs (s t) ≡ reading (after_while p cs) (s (t ++ prefix_while p cs))
past_run p s next t [] = ap (λ l. reading [] (s l)) (sym (append-nil t))
past_run p s next t (c ∷ cs) =
    holds_or (reading (c ∷ cs) (s t) ≡ reading (after_while p (c ∷ cs)) (s (t ++ prefix_while p (c ∷ cs)))) (p c)
    (λ h. steps_on c cs (s t) (s (t ++ c ∷ [])) (next t c h) ∙ (past_run p s next (t ++ c ∷ []) cs
    ∙ both (sym (after_passed p c cs h))
    (append_assoc t (c ∷ []) (prefix_while p cs) ∙ ap (λ l. t ++ l) (sym (prefix_passed p c cs h)))))
    (λ h. both (sym (after_failed p c cs h)) (sym (append-nil t) ∙ ap (λ l. t ++ l) (sym (prefix_failed p c cs h))))
  where
    both : {a b u v : List ℕ} → a ≡ b → u ≡ v → reading a (s u) ≡ reading b (s v)
    both {b = b} {u = u} e f = ap (λ l. reading l (s u)) e ∙ ap (λ l. reading b (s l)) f

-- the letters of a word
abbrev pub past_letters : (List ℕ → PatternState) → Result (List ℕ) (List ℕ) → Outcome
past_letters s (Ok rest) = reading rest (s [])
past_letters s (Err rest) = Refused (byte_len rest)

pub letters_on : (s : List ℕ → PatternState)
    → ((l : ℕ) (ls : List ℕ) (c : ℕ) → pattern_next (s (l ∷ ls)) c ≡ (if c == l then Some (s ls) else None))
    → ((ls : List ℕ) → whole_pattern (s ls) ≡ None)
    → (ls cs : List ℕ) → reading cs (s ls) ≡ past_letters s (letters_read ls cs)
letters_on s next none [] cs = refl
letters_on s next none (l ∷ ls) [] = ap (answer 0) (none (l ∷ ls))
letters_on s next none (l ∷ ls) (c ∷ cs) =
    holds_or (reading (c ∷ cs) (s (l ∷ ls)) ≡ past_letters s (letters_read (l ∷ ls) (c ∷ cs))) (c == l)
    (λ h. steps_on c cs (s (l ∷ ls)) (s ls) (next l ls c ∙ ap (λ t. if t then Some (s ls) else None) h)
    ∙ (letters_on s next none ls cs
    ∙ ap (λ t. past_letters s (if t then letters_read ls cs else Err (c ∷ cs))) (sym h)))
    (λ h. stuck_at c cs (s (l ∷ ls)) (next l ls c ∙ ap (λ t. if t then Some (s ls) else None) h)
    ∙ ap (λ t. past_letters s (if t then letters_read ls cs else Err (c ∷ cs))) (sym h))

-- how long what follows is
abbrev pub Within : ℕ → Result (List ℕ) (List ℕ) → Type 0
Within n (Ok rest) = length rest ≤ n
Within n (Err rest) = Unit {0}

pub letters_within : (ls cs : List ℕ) → Within (length cs) (letters_read ls cs)
letters_within [] cs = omega arith
letters_within (l ∷ ls) [] = tt
letters_within (l ∷ ls) (c ∷ cs) =
    holds_or (Within (length (c ∷ cs)) (letters_read (l ∷ ls) (c ∷ cs))) (c == l)
    (λ h. subst (Within (length (c ∷ cs)))
    (ap (λ t. if t then letters_read ls cs else Err (c ∷ cs)) (sym h))
    (wider (letters_read ls cs) (letters_within ls cs)))
    (λ h. subst (Within (length (c ∷ cs))) (ap (λ t. if t then letters_read ls cs else Err (c ∷ cs)) (sym h)) tt)
  where
    wider : (r : Result (List ℕ) (List ℕ)) → Within (length cs) r → Within (length (c ∷ cs)) r
    wider (Ok rest) w = omega (arith, w)
    wider (Err rest) w = tt

pub letters_ended : (ls : List ℕ) (i : ℕ) → i < length ls → letters_read (drop i ls) [] ≡ Err []
letters_ended [] i h = absurd (omega (arith, h))
letters_ended (l ∷ ls) zero h = refl
letters_ended (l ∷ ls) (suc i) h = letters_ended ls i (omega (arith, h))
