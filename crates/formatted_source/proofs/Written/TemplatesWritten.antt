-- The commands of a file and of its templates, as they are written.
use Rattle.std.proofs.Common.{◌≡◌, ℕ, Bool, true, false, List, [], ◌∷◌, ◌++◌, refl}
use Rattle.std.specs.Prelude.{codes}
use Rattle.soy_base.specs.Names.{is_dotted_name, is_name}
use Rattle.soy_base.specs.declared.kind.Kind.{Kind}
use Rattle.soy_base.specs.declared.kind.Kind.TheVariants as block_kind
use Rattle.soy_lexer.specs.declared.token.TokenKind.TheVariants as kind
use Rattle.soy_tree.specs.Formed.{is_formed_type}
use Rattle.soy_tree.specs.Types.{Name, SoyType}
use Rattle.soy_rules.specs.TypeText.{type_text}
use Rattle.soy_format.specs.Formatted.{param_start, template_kind_text, visibility_text}
use Rattle.formatted_source.specs.CommandLexemes.{HasLexemes, before_any, ends_name, ends_type}
use Rattle.formatted_source.specs.CommandPieces.{braced, dotted_lexemes}
use Rattle.formatted_source.specs.TreeLexemes.{required_lexemes, template_kind_lexemes, visibility_lexemes}
use Rattle.formatted_source.specs.TypeLexemes.{type_lexemes}
use Rattle.formatted_source.proofs.Commands.CommandReads.{begins_both}
use Rattle.formatted_source.proofs.Written.CommandsWritten.{braced_before, namespace_word, template_word, word_command}
use Rattle.formatted_source.proofs.Written.ExprsWritten.{spaced_written, symbol_written}
use Rattle.formatted_source.proofs.Written.Names.{word_written}
use Rattle.formatted_source.proofs.Written.PartsWritten.{attribute_written, dotted_written, kind_written}
use Rattle.formatted_source.proofs.PieceReads.{IsCommand}
use Rattle.formatted_source.proofs.Written.Reading.{after, join, nothing, weaker}
use Rattle.formatted_source.proofs.Written.TypesWritten.{type_written}

pub namespace_written : (name : Name) → is_dotted_name name ≡ true
    → IsCommand (123 ∷ (codes "namespace" ++ (32 ∷ (name ++ (125 ∷ [])))))
    (braced ((kind.Word, codes "namespace") ∷ dotted_lexemes name))
namespace_written name is = word_command (codes "namespace") name (dotted_lexemes name) namespace_word
    (dotted_written name is)

-- the attributes of a template
visibility_ends : (private : Bool) (rest : List ℕ) → ends_name rest ≡ true
    → ends_name (visibility_text private ++ rest) ≡ true
visibility_ends true rest h = refl
visibility_ends false rest h = h

visibility_written : (private : Bool) → HasLexemes ends_name (visibility_text private) (visibility_lexemes private)
visibility_written true =
    weaker ends_name (visibility_text true) (visibility_lexemes true)
    (attribute_written (codes "visibility") (codes "private") refl refl refl)
visibility_written false = nothing ends_name

attributes_written : (k : Kind) (private : Bool)
    → HasLexemes ends_name (template_kind_text k ++ visibility_text private)
    (template_kind_lexemes k ++ visibility_lexemes private)
attributes_written block_kind.Html private = visibility_written private
attributes_written block_kind.Attributes private =
    after ends_name (template_kind_text block_kind.Attributes) (visibility_text private)
    (template_kind_lexemes block_kind.Attributes) (visibility_lexemes private) (kind_written block_kind.Attributes)
    (visibility_written private)
attributes_written block_kind.Text private =
    after ends_name (template_kind_text block_kind.Text) (visibility_text private)
    (template_kind_lexemes block_kind.Text) (visibility_lexemes private) (kind_written block_kind.Text)
    (visibility_written private)

attributes_end : (k : Kind) (private : Bool) (rest : List ℕ) → ends_name rest ≡ true
    → ends_name ((template_kind_text k ++ visibility_text private) ++ rest) ≡ true
attributes_end block_kind.Html private rest h = visibility_ends private rest h
attributes_end block_kind.Attributes private rest h = refl
attributes_end block_kind.Text private rest h = refl

pub template_written : (name : Name) (k : Kind) (private : Bool) → is_name name ≡ true
    → IsCommand (123 ∷ (codes "template" ++ (32 ∷ ((name ++ (template_kind_text k ++ visibility_text private)) ++
    (125 ∷ [])))))
    (braced ((kind.Word, codes "template") ∷ ((kind.Word, name) ∷ (template_kind_lexemes k ++ visibility_lexemes
    private))))
template_written name k private is =
    word_command (codes "template") (name ++ (template_kind_text k ++ visibility_text private))
    ((kind.Word, name) ∷ (template_kind_lexemes k ++ visibility_lexemes private)) template_word
    (join ends_name ends_name name (template_kind_text k ++ visibility_text private) ((kind.Word, name) ∷ [])
    (template_kind_lexemes k ++ visibility_lexemes private) (word_written name is) (attributes_written k private)
    (attributes_end k private))

-- a parameter's name and type
typed : (name : Name) (t : SoyType) → is_name name ≡ true → is_formed_type t ≡ true
    → HasLexemes ends_type (name ++ (codes ": " ++ type_text t))
    ((kind.Word, name) ∷ ((kind.Symbol, codes ":") ∷ type_lexemes t))
typed name t is f =
    join ends_name ends_type name (codes ": " ++ type_text t) ((kind.Word, name) ∷ [])
    ((kind.Symbol, codes ":") ∷ type_lexemes t) (word_written name is)
    (after ends_type (codes ": ") (type_text t) ((kind.Symbol, codes ":") ∷ []) (type_lexemes t)
    (λ rest h. spaced_written kind.Symbol (codes ":") refl (λ more. refl) rest) (type_written t f))
    (λ rest h. refl)

at_param : HasLexemes before_any (codes "@param ") ((kind.Symbol, codes "@") ∷ ((kind.Word, codes "param") ∷ []))
at_param =
    after before_any (codes "@") (codes "param ") ((kind.Symbol, codes "@") ∷ []) ((kind.Word, codes "param") ∷ [])
    (symbol_written (codes "@") (λ rest. refl)) (λ rest h. spaced_written kind.Word (codes "param") refl
    (λ more. refl) rest)

at_param_optional : HasLexemes before_any (codes "@param? ")
    ((kind.Symbol, codes "@") ∷ ((kind.Word, codes "param") ∷ ((kind.Symbol, codes "?") ∷ [])))
at_param_optional =
    after before_any (codes "@") (codes "param? ") ((kind.Symbol, codes "@") ∷ [])
    ((kind.Word, codes "param") ∷ ((kind.Symbol, codes "?") ∷ [])) (symbol_written (codes "@") (λ rest. refl))
    (join ends_name before_any (codes "param") (codes "? ") ((kind.Word, codes "param") ∷ [])
    ((kind.Symbol, codes "?") ∷ []) (word_written (codes "param") refl)
    (λ rest h. spaced_written kind.Symbol (codes "?") refl (λ more. refl) rest) (λ rest h. refl))

pub param_line_written : (required : Bool) (name : Name) (t : SoyType) → is_name name ≡ true → is_formed_type t ≡ true
    → IsCommand (param_start required ++ ((name ++ (codes ": " ++ type_text t)) ++ (125 ∷ [])))
    (braced ((kind.Symbol, codes "@") ∷ ((kind.Word, codes "param") ∷ (required_lexemes required
    ++ ((kind.Word, name) ∷ ((kind.Symbol, codes ":") ∷ type_lexemes t))))))
param_line_written true name t is f =
    braced_before ends_type (codes "{@param " ++ ((name ++ (codes ": " ++ type_text t)) ++ (125 ∷ [])))
    (codes "@param " ++ (name ++ (codes ": " ++ type_text t))) (kind.Symbol, codes "@")
    ((kind.Word, codes "param") ∷ ((kind.Word, name) ∷ ((kind.Symbol, codes ":") ∷ type_lexemes t))) refl
    (λ rest. (begins_both _ refl refl, refl))
    (after ends_type (codes "@param ") (name ++ (codes ": " ++ type_text t))
    ((kind.Symbol, codes "@") ∷ ((kind.Word, codes "param") ∷ []))
    ((kind.Word, name) ∷ ((kind.Symbol, codes ":") ∷ type_lexemes t)) at_param (typed name t is f))
    (λ rest. refl)
param_line_written false name t is f =
    braced_before ends_type (codes "{@param? " ++ ((name ++ (codes ": " ++ type_text t)) ++ (125 ∷ [])))
    (codes "@param? " ++ (name ++ (codes ": " ++ type_text t))) (kind.Symbol, codes "@")
    ((kind.Word, codes "param") ∷ ((kind.Symbol, codes "?") ∷ ((kind.Word, name) ∷
    ((kind.Symbol, codes ":") ∷ type_lexemes t))))
    refl (λ rest. (begins_both _ refl refl, refl))
    (after ends_type (codes "@param? ") (name ++ (codes ": " ++ type_text t))
    ((kind.Symbol, codes "@") ∷ ((kind.Word, codes "param") ∷ ((kind.Symbol, codes "?") ∷ [])))
    ((kind.Word, name) ∷ ((kind.Symbol, codes ":") ∷ type_lexemes t)) at_param_optional (typed name t is f))
    (λ rest. refl)
