-- What a template file deserves is its tree or its first fault by the rules, and nothing else.
use Rattle.std.proofs.Common.{◌≡◌, ℕ, zero, suc, ◌≤◌, ◌<◌, Bool, true, false, cond, List, length, take, refl, sym}
use Rattle.std.proofs.Common.{subst, ap, ◌∙◌, arith, nat_lt, inl, inr}
use Rattle.std.specs.Prelude.{Result, Ok, Err}
use Rattle.std.specs.Str.{chars, is_utf8, IsUtf8, IsValidUpTo}
use Rattle.std.specs.Str.Lossy.{utf8_valid_len, valid_len_up_to}
use Rattle.std.proofs.Math.Seq.{take-length}
use Rattle.std.proofs.lemmas.Bool.{ltb-true, ltb-false}
use Rattle.std.proofs.lemmas.List.{take_all}
use Rattle.std.proofs.lemmas.Str.{IsUtf8-from_is_utf8, is_utf8-from_IsUtf8, IsUtf8-nil}
use Rattle.std.proofs.lemmas.Str.{utf8_valid_len-IsValidUpTo}
use Rattle.soy_base.specs.declared.code.Code.TheVariants as code
use Rattle.soy_base.specs.declared.fault.Fault.{Fault}
use Rattle.soy_base.specs.declared.memory.Refusal.TheVariants.{Because}
use Rattle.soy_base.specs.Limits.{largest_file}
use Rattle.soy_lexer.specs.Tokens.{Tokens}
use Rattle.soy_lexer.specs.declared.token.Token.{Token}
use Rattle.soy_parser.specs.FileReading.{fault_at}
use Rattle.soy_tree.specs.declared.tree.Tree.{Tree}
use Rattle.soy_front.specs.Deserves.{IsSourceText, Deserves}
use Rattle.soy_front.specs.Deserves.Deserves.{NotUtf8, TooLarge, NoToken, NoFile, File}
use Rattle.soy_front.specs.FileOrFault.{FileOrFault, TokensOrFault, file_or_fault, tokens_or_fault}
use Rattle.soy_front.specs.Sources.{answer_by_file, answer_by_tokens, source_answer, text_answer}
use Rattle.soy_front.proofs.SourceAnswers.{file_same, text_over, text_answer-tokens, text_answer-fault}
use Rattle.soy_front.proofs.SourceAnswers.{source_answer-text, source_answer-bytes}

-- the longest prefix that is UTF-8, of those up to a length

record Longest (bytes : List ℕ) (most n : ℕ) : Type 0 where
  pub within : n ≤ most
  pub prefix : IsUtf8 (take n bytes)
  pub none : (k : ℕ) → n < k → k ≤ most → IsUtf8 (take k bytes) → ⊥

no_longer : (bytes : List ℕ) (most n k : ℕ) (b : Bool) → is_utf8 (take (suc most) bytes) ≡ false → Longest bytes most n
    → nat_lt most k ≡ b → n < k → k ≤ suc most → IsUtf8 (take k bytes) → ⊥
no_longer bytes most n k true e l past below above u =
    let more : most < k = ltb-true most k past in
    let same : k ≡ suc most = omega (arith, more, above) in
    cc (e, is_utf8-from_IsUtf8 (take (suc most) bytes) (subst (λ m. IsUtf8 (take m bytes)) same u))
no_longer bytes most n k false e l past below above u = l.none k below (ltb-false most k past) u

longest_by : (bytes : List ℕ) (most n : ℕ) (b : Bool) → is_utf8 (take (suc most) bytes) ≡ b → Longest bytes most n
    → Longest bytes (suc most) (cond b (suc most) n)
longest_by bytes most n true e l = record {
  within = omega arith;
  prefix = IsUtf8-from_is_utf8 (take (suc most) bytes) e;
  none = λ k below above u. absurd (omega (arith, below, above));
}
longest_by bytes most n false e l = record {
  within = omega (arith, l.within);
  prefix = l.prefix;
  none = λ k below above u. no_longer bytes most n k (nat_lt most k) e l refl below above u;
}

longest : (bytes : List ℕ) (most : ℕ) → Longest bytes most (valid_len_up_to bytes most)
longest bytes zero = record {
  within = omega arith;
  prefix = IsUtf8-nil;
  none = λ k below above u. absurd (omega (arith, below, above));
}
longest bytes (suc most) =
    longest_by bytes most (valid_len_up_to bytes most) (is_utf8 (take (suc most) bytes)) refl (longest bytes most)

valid_longest : (bytes : List ℕ) → Longest bytes (length bytes) (utf8_valid_len bytes)
unfolding utf8_valid_len
valid_longest bytes = longest bytes (length bytes)

module _ (bytes : List ℕ) where
  -- bytes that aren't UTF-8 are cut where their longest prefix ends
  not_whole : (n : ℕ) → is_utf8 bytes ≡ false → IsUtf8 (take n bytes) → n ≡ length bytes → ⊥
  not_whole n e u same =
      cc (e, is_utf8-from_IsUtf8 bytes (subst IsUtf8 (ap (λ m. take m bytes) same ∙ take-length bytes) u))

  no_prefix : (n m : ℕ) (b : Bool) → is_utf8 bytes ≡ false → Longest bytes (length bytes) n
      → nat_lt (length bytes) m ≡ b → n < m → IsUtf8 (take m bytes) → ⊥
  no_prefix n m true e l past below u =
      cc (
        e,
        is_utf8-from_IsUtf8 bytes (subst IsUtf8 (take_all m bytes
            (let more : length bytes < m = ltb-true (length bytes) m past in omega (arith, more))) u),
      )
  no_prefix n m false e l past below u = l.none m below (ltb-false (length bytes) m past) u

  valid_up_to : (n : ℕ) → is_utf8 bytes ≡ false → Longest bytes (length bytes) n → IsValidUpTo bytes n
  valid_up_to n e l = record {
    short = let never = not_whole n e l.prefix in omega (arith, l.within, never);
    front = l.prefix;
    longest = λ m below u. no_prefix n m (nat_lt (length bytes) m) e l refl below u;
  }

  -- the tree or the fault of its tokens is what it deserves
  file_deserved : (tokens : List Token) (o : FileOrFault tokens) → IsSourceText bytes → Tokens (chars bytes) tokens
      → Deserves bytes (answer_by_file o)
  file_deserved tokens (inl found) is are = File tokens found.0 is are found.1
  file_deserved tokens (inr refused) is are = NoFile tokens refused.0 is are (refused.1, refused.2)

  found_deserved : (o : TokensOrFault (chars bytes)) → IsSourceText bytes → Deserves bytes (answer_by_tokens o)
  found_deserved (inl found) is = file_deserved found.0 (file_or_fault found.0) is found.1
  found_deserved (inr stopped) is = NoToken stopped.0 is stopped.1

  sized : (over : Bool) → nat_lt largest_file (length bytes) ≡ over → IsUtf8 bytes
      → Deserves bytes
      (cond over (Err (fault_at 0 code.TooLarge 0)) (answer_by_tokens (tokens_or_fault (chars bytes))))
  sized true e utf8 = TooLarge utf8 (ltb-true largest_file (length bytes) e)
  sized false e utf8 =
      found_deserved (tokens_or_fault (chars bytes))
      (record { utf8 = utf8; within = ltb-false largest_file (length bytes) e })

  decided : (text : Bool) → is_utf8 bytes ≡ text
      → Deserves bytes (cond text (text_answer bytes) (Err (fault_at 0 code.NotUtf8 (utf8_valid_len bytes))))
  decided true e = sized (nat_lt largest_file (length bytes)) refl (IsUtf8-from_is_utf8 bytes e)
  decided false e = NotUtf8 (utf8_valid_len bytes) (valid_up_to (utf8_valid_len bytes) e (valid_longest bytes))

  pub deserved : Deserves bytes (source_answer bytes)
  deserved = decided (is_utf8 bytes) refl

  -- and nothing else is

  never_text : (n : ℕ) → IsValidUpTo bytes n → IsUtf8 bytes → ⊥
  never_text n v utf8 =
      v.longest (length bytes) v.short (subst IsUtf8 (sym (take-length bytes)) utf8)

  pub only : (answer : Result Tree Fault) → Deserves bytes answer → source_answer bytes ≡ answer
  only _ (NotUtf8 offset v) =
      source_answer-bytes bytes offset (never_text offset v) (sym (utf8_valid_len-IsValidUpTo bytes offset v))
  only _ (TooLarge utf8 over) = source_answer-text bytes bytes refl utf8 ∙ text_over bytes over
  only _ (NoToken offset is first) =
      source_answer-text bytes bytes refl is.utf8 ∙ text_answer-fault bytes offset is.within first
  only _ (NoFile tokens fault is are refused) =
      source_answer-text bytes bytes refl is.utf8
      ∙ (text_answer-tokens bytes tokens is.within are
      ∙ file_same tokens (file_or_fault tokens) (Err (Because fault)) refused)
  only _ (File tokens tree is are parsed) =
      source_answer-text bytes bytes refl is.utf8
      ∙ (text_answer-tokens bytes tokens is.within are
      ∙ file_same tokens (file_or_fault tokens) (Ok tree) parsed)
