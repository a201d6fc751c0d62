-- What is read of a template file is its tree or its first fault, which lies within it.
use Rattle.std.proofs.Common.{◌≡◌, ℕ, ◌≤◌, ◌<◌, Bool, true, false, cond, List, length}
use Rattle.std.proofs.Common.{refl, sym, subst, ap, ◌∙◌, arith, ◌⊎◌, inl, inr}
use Rattle.std.specs.Prelude.{Result, Ok, Err}
use Rattle.std.specs.Str.{chars, is_utf8, IsUtf8}
use Rattle.std.specs.Str.Lossy.{utf8_valid_len}
use Rattle.std.proofs.lemmas.Bool.{lt-ltb, le-ltb}
use Rattle.std.proofs.lemmas.Str.{IsUtf8-from_is_utf8, is_utf8-from_IsUtf8}
use Rattle.soy_base.proofs.Texts.{byte_len-chars}
use Rattle.soy_base.specs.declared.code.Code.{Code}
use Rattle.soy_base.specs.declared.code.Code.TheVariants as code
use Rattle.soy_base.specs.declared.fault.Fault.{Fault}
use Rattle.soy_base.specs.declared.memory.Refusal.{Refusal}
use Rattle.soy_base.specs.declared.memory.Refusal.TheVariants.{Because, OutOfMemory}
use Rattle.soy_lexer.specs.InOrder.{InOrder}
use Rattle.soy_lexer.specs.Lexes.{TooLarge, NoToken}
use Rattle.soy_base.specs.Limits.{largest_file}
use Rattle.soy_lexer.specs.Lexes as lexes
use Rattle.soy_lexer.specs.Tokens.{Tokens, FirstFault}
use Rattle.soy_lexer.specs.declared.token.Token.{Token}
use Rattle.soy_lexer.proofs.SomeSegments.{fault_within}
use Rattle.soy_parser.specs.FileReading.{fault_at}
use Rattle.soy_parser.specs.ParsesFile.{ParsesFile, RefusesTokens}
use Rattle.soy_parser.proofs.OfFiles.FileAnswers.{one_file_answer}
use Rattle.soy_tree.specs.declared.tree.Tree.{Tree}
use Rattle.soy_front.specs.ReadsSource.{ReadsSource, FaultWithin}
use Rattle.soy_front.specs.FileOrFault.{FileOrFault, TokensOrFault, file_or_fault, tokens_or_fault}
use Rattle.soy_front.specs.Sources.{answer_by_file, answer_by_tokens, source_answer, text_answer}
use Rattle.soy_front.proofs.SourceTokens.{one_list, one_fault, never_both, token_within, offset_within}

-- the tree or the fault of tokens is what `parse` answers
pub file_same : (tokens : List Token) (o : FileOrFault tokens) (r : Result Tree (Refusal Fault))
    → ParsesFile 0 tokens r → ReadsSource (answer_by_file o) r
file_same tokens (inl found) (Ok tree) p =
    cc (one_file_answer 0 tokens (Ok found.0) (Ok tree) found.1 p (λ h. cc h) (λ h. cc h))
file_same tokens (inr refused) (Ok tree) p =
    cc (one_file_answer 0 tokens (Err (Because refused.0)) (Ok tree) (refused.1, refused.2) p (λ h. cc h) (λ h. cc h))
file_same tokens (inl found) (Err (Because fault)) p =
    cc (one_file_answer 0 tokens (Ok found.0) (Err (Because fault)) found.1 p (λ h. cc h) (λ h. cc h))
file_same tokens (inr refused) (Err (Because fault)) p =
    cc (one_file_answer 0 tokens (Err (Because refused.0)) (Err (Because fault)) (refused.1, refused.2) p (λ h. cc h)
    (λ h. cc h))
file_same tokens o (Err OutOfMemory) p = tt

reads_as : (a b : Result Tree Fault) (r : Result Tree (Refusal Fault)) → a ≡ b → ReadsSource b r → ReadsSource a r
reads_as a b r e h = subst (λ x. ReadsSource x r) (sym e) h

-- what is said of texts up to the limit and over it

text_within : (text : List ℕ) → length text ≤ largest_file
    → text_answer text ≡ answer_by_tokens (tokens_or_fault (chars text))
text_within text h =
    ap (λ b. cond b (Err (fault_at 0 code.TooLarge 0)) (answer_by_tokens (tokens_or_fault (chars text))))
    (le-ltb largest_file (length text) h)

pub text_over : (text : List ℕ) → largest_file < length text → text_answer text ≡ Err (fault_at 0 code.TooLarge 0)
text_over text h =
    ap (λ b. cond b (Err (fault_at 0 code.TooLarge 0)) (answer_by_tokens (tokens_or_fault (chars text))))
    (lt-ltb largest_file (length text) h)

by_tokens : (text : List ℕ) (tokens : List Token) (o : TokensOrFault text) → Tokens text tokens
    → answer_by_tokens o ≡ answer_by_file (file_or_fault tokens)
by_tokens text tokens (inl found) are =
    ap (λ ts. answer_by_file {tokens = ts} (file_or_fault ts)) (one_list text found.0 tokens found.1 are)
by_tokens text tokens (inr stopped) are = absurd (never_both text tokens stopped.0 are stopped.1)

by_fault : (text : List ℕ) (offset : ℕ) (o : TokensOrFault text) → FirstFault text offset
    → answer_by_tokens o ≡ Err (fault_at 0 code.Lex offset)
by_fault text offset (inl found) first = absurd (never_both text found.0 offset found.1 first)
by_fault text offset (inr stopped) first =
    ap (λ n. Err (fault_at 0 code.Lex n)) (one_fault text stopped.0 offset stopped.1 first)

-- the answer to a text by its tokens
pub text_answer-tokens : (text : List ℕ) (tokens : List Token) → length text ≤ largest_file
    → Tokens (chars text) tokens → text_answer text ≡ answer_by_file (file_or_fault tokens)
text_answer-tokens text tokens within are =
    text_within text within ∙ by_tokens (chars text) tokens (tokens_or_fault (chars text)) are

-- and by its first offset where no token begins
pub text_answer-fault : (text : List ℕ) (offset : ℕ) → length text ≤ largest_file → FirstFault (chars text) offset
    → text_answer text ≡ Err (fault_at 0 code.Lex offset)
text_answer-fault text offset within first =
    text_within text within ∙ by_fault (chars text) offset (tokens_or_fault (chars text)) first

-- a text whose tokens are parsed is read
pub parsed-reads : (text : List ℕ) (tokens : List Token) (r : Result Tree (Refusal Fault))
    → (length text ≤ largest_file) × Tokens (chars text) tokens → ParsesFile 0 tokens r
    → ReadsSource (text_answer text) r
parsed-reads text tokens r lexed p =
    reads_as _ _ r (text_answer-tokens text tokens lexed.0 lexed.1)
    (file_same tokens (file_or_fault tokens) r p)

-- and one that is refused before is too
refused_by : (text : List ℕ) (fault : Fault) → TooLarge 0 text fault ⊎ NoToken 0 text fault
    → text_answer text ≡ Err fault
refused_by text fault (inl over) = text_over text over.over ∙ ap Err (sym over.fault_is)
refused_by text fault (inr none) =
    text_answer-fault text none.offset none.within none.first ∙ ap Err (sym none.fault_is)

pub unlexed-reads : (text : List ℕ) (refusal : Refusal Fault) → lexes.RefusesFile 0 text refusal
    → ReadsSource (text_answer text) (Err refusal)
unlexed-reads text (Because fault) h = refused_by text fault h
unlexed-reads text OutOfMemory h = tt

-- where the faults lie

code_within : (to : ℕ) (tokens : List Token) (c : Code) (offset : ℕ) → InOrder 0 to tokens
    → RefusesTokens tokens c offset → offset ≤ to
code_within to tokens code.Syntax offset o p =
    let h = offset_within to p.prefix p.rest (subst (InOrder 0 to) p.whole o) in
    omega (arith, h, p.offset_is)
code_within to tokens code.Nesting offset o p =
    let f = p.fault in
    let h = token_within 0 to f.prefix f.token f.rest (subst (InOrder 0 to) f.whole o) in
    omega (arith, h, f.offset_is)
code_within to tokens code.Mistyped offset o p =
    let f = p.fault in
    let h = token_within 0 to f.prefix f.token f.rest (subst (InOrder 0 to) f.whole o) in
    omega (arith, h, f.offset_is)
code_within to tokens _ offset o p = absurd p

pub parsed-within : (to : ℕ) (tokens : List Token) (r : Result Tree (Refusal Fault)) → InOrder 0 to tokens
    → ParsesFile 0 tokens r → FaultWithin to r
parsed-within to tokens (Ok tree) o p = tt
parsed-within to tokens (Err (Because fault)) o p = code_within to tokens fault.code fault.at o p.1
parsed-within to tokens (Err OutOfMemory) o p = tt

lexed_within : (text : List ℕ) (fault : Fault) → IsUtf8 text → TooLarge 0 text fault ⊎ NoToken 0 text fault
    → fault.at ≤ length text
lexed_within text fault utf8 (inl over) =
    let at : fault.at ≡ 0 = ap (λ f. f.at) over.fault_is in omega (arith, at)
lexed_within text fault utf8 (inr none) =
    let at : fault.at ≡ none.offset = ap (λ f. f.at) none.fault_is in
    omega (arith, at, fault_within (chars text) none.offset none.first, byte_len-chars text utf8)

pub unlexed-within : (text : List ℕ) (refusal : Refusal Fault) → IsUtf8 text → lexes.RefusesFile 0 text refusal
    → FaultWithin (length text) (Err refusal)
unlexed-within text (Because fault) utf8 h = lexed_within text fault utf8 h
unlexed-within text OutOfMemory utf8 h = tt

-- bytes that are a text, and others

pub source_answer-text : (bytes text : List ℕ) → text ≡ bytes → IsUtf8 bytes → source_answer bytes ≡ text_answer text
source_answer-text bytes text same utf8 =
    ap (λ b. cond b (text_answer bytes) (Err (fault_at 0 code.NotUtf8 (utf8_valid_len bytes))))
    (is_utf8-from_IsUtf8 bytes utf8)
    ∙ ap text_answer (sym same)

pub text-reads : (bytes text : List ℕ) (r : Result Tree (Refusal Fault)) → text ≡ bytes → IsUtf8 bytes
    → ReadsSource (text_answer text) r → ReadsSource (source_answer bytes) r
text-reads bytes text r same utf8 h = reads_as _ _ r (source_answer-text bytes text same utf8) h

not_text : (bytes : List ℕ) (b : Bool) → is_utf8 bytes ≡ b → (IsUtf8 bytes → ⊥) → is_utf8 bytes ≡ false
not_text bytes true e never = absurd (never (IsUtf8-from_is_utf8 bytes e))
not_text bytes false e never = e

pub source_answer-bytes : (bytes : List ℕ) (valid : ℕ) → (IsUtf8 bytes → ⊥) → valid ≡ utf8_valid_len bytes
    → source_answer bytes ≡ Err (fault_at 0 code.NotUtf8 valid)
source_answer-bytes bytes valid never same =
    ap (λ b. cond b (text_answer bytes) (Err (fault_at 0 code.NotUtf8 (utf8_valid_len bytes))))
    (not_text bytes (is_utf8 bytes) refl never)
    ∙ ap (λ n. Err (fault_at 0 code.NotUtf8 n)) (sym same)
