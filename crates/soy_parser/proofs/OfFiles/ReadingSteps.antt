-- What reading the next token of a file does, by what the machine does with it.
use Rattle.std.proofs.Common.{◌≡◌, ℕ, ◌+◌, ◌<◌, ◌∙◌, Bool, true, false, List, ◌∷◌, length, drop, slice_index_or, ap}
use Rattle.std.proofs.Common.{sym}
use Rattle.std.specs.Prelude.{Some, None, Result, Ok, Err, if◌then◌else◌}
use Rattle.std.proofs.lemmas.List.{drop_more}
use Rattle.soy_base.specs.declared.code.Code.TheVariants as code
use Rattle.soy_base.specs.declared.fault.Fault.{Fault}
use Rattle.soy_lexer.specs.declared.token.Token.{Token}
use Rattle.soy_tree.specs.declared.tree.Tree.{Tree}
use Rattle.expr_parser.specs.Depths.{is_within}
use Rattle.expr_parser.specs.TypeTerminals.{type_terminal_of, is_less}
use Rattle.soy_parser.specs.declared.spot.FileState.{FileState}
use Rattle.soy_parser.specs.FileReading.{fault_at, unless_unknown_type, read_file_on, reading_file}
use Rattle.soy_parser.specs.FileSteps.{file_step, token_depth, unknown_in}

-- the next token comes first of those that are left
next_token : (tokens : List Token) (i : ℕ) (t : Token) → i < length tokens → slice_index_or tokens i t ≡ t
    → drop i tokens ≡ t ∷ drop (i + 1) tokens
next_token tokens i t within is = drop_more tokens i t within ∙ ap (λ x. x ∷ drop (i + 1) tokens) is

module _ (file end i : ℕ) (tokens : List Token) (t : Token) (s : FileState) (whole : Result Tree Fault)
    (within : i < length tokens) (is : slice_index_or tokens i t ≡ t)
    (same : reading_file file end (drop i tokens) s ≡ whole)
    (known : unknown_in s.spot (is_less (type_terminal_of t)) ≡ None) where
  -- what is read with the token
  with_token : read_file_on file s t (reading_file file t.span.end (drop (i + 1) tokens)) (file_step s t) ≡ whole
  with_token =
      sym (ap (λ u. unless_unknown_type file u
      (read_file_on file s t (reading_file file t.span.end (drop (i + 1) tokens)) (file_step s t))) known)
      ∙ ap (λ ts. reading_file file end ts s) (sym (next_token tokens i t within is)) ∙ same

  pub none_goes_on : file_step s t ≡ None → Err (fault_at file code.Syntax t.span.start) ≡ whole
  none_goes_on none =
      sym (ap (read_file_on file s t (reading_file file t.span.end (drop (i + 1) tokens))) none) ∙ with_token

  -- what is read where a file goes on with the token
  goes_on : (to : FileState) → file_step s t ≡ Some to → (b : Bool) → is_within 0 (token_depth s to) ≡ b
      → (if b then reading_file file t.span.end (drop (i + 1) tokens) to
      else Err (fault_at file code.Nesting t.span.start))
      ≡ whole
  goes_on to stepped b deep =
      sym (ap (λ b. if b then reading_file file t.span.end (drop (i + 1) tokens) to
      else Err (fault_at file code.Nesting t.span.start)) deep)
      ∙ sym (ap (read_file_on file s t (reading_file file t.span.end (drop (i + 1) tokens))) stepped) ∙ with_token

  pub goes_too_deep : (to : FileState) → file_step s t ≡ Some to → is_within 0 (token_depth s to) ≡ false
      → Err (fault_at file code.Nesting t.span.start) ≡ whole
  goes_too_deep to stepped deep = goes_on to stepped false deep

  pub reads_on : (to : FileState) → file_step s t ≡ Some to → is_within 0 (token_depth s to) ≡ true
      → reading_file file t.span.end (drop (i + 1) tokens) to ≡ whole
  reads_on to stepped shallow = goes_on to stepped true shallow
