-- Messages, as they are written, are read as messages that are alike.
use Rattle.std.proofs.Common.{◌≡◌, ℕ, ◌+◌, ◌≤◌, true, List, [], ◌∷◌, ◌++◌, Some, None, ap, ◌∙◌, arith}
use Rattle.std.specs.Prelude.{codes, nat_le}
use Rattle.soy_base.specs.declared.fault.Span.{Span}
use Rattle.soy_lexer.specs.declared.token.TokenKind.TheVariants as kind
use Rattle.soy_tree.specs.Formed.{is_formed_body, is_formed_fallback, is_formed_message, nesting}
use Rattle.soy_tree.specs.Nodes.{Fallback, Message, MessageNode, fallback, message, no_fallback}
use Rattle.soy_tree.specs.ViewNodes.{view_body, view_message}
use Rattle.soy_tree.specs.declared.node.Form.TheVariants as form
use Rattle.soy_parser.specs.declared.command.CommandForm.TheVariants as says
use Rattle.soy_parser.specs.declared.command.Middle.TheVariants as middle
use Rattle.soy_parser.specs.declared.command.Opening.TheVariants as opening
use Rattle.soy_parser.specs.declared.terminal.BlockName.TheVariants as block_name
use Rattle.expr_parser.specs.Operands.{joined}
use Rattle.soy_parser.specs.Nodes.{node_of, whole_message}
use Rattle.soy_parser.specs.SpellsTree.{SpellsNode}
use Rattle.soy_parser.proofs.ViewForms.{view-Message, view-MessageFallback, view-message}
use Rattle.soy_format.specs.FormattedBody.{message_text}
use Rattle.soy_format.specs.WithoutSpans.{body_without_spans, message_without_spans, no_span, node_without_spans}
use Rattle.formatted_source.specs.CommandPieces.{attribute_lexemes, braced, meaning_lexemes}
use Rattle.formatted_source.specs.Lexemes.{Lexeme}
use Rattle.formatted_source.specs.NodePieces.{body_pieces, node_pieces}
use Rattle.formatted_source.proofs.Commands.AttributeCommands.{fallback_command, message_command}
use Rattle.formatted_source.proofs.Commands.BareCommands.{bare_command, msg_closes}
use Rattle.formatted_source.proofs.Branching.{branch_pieces, branched}
use Rattle.formatted_source.proofs.Fitting.FittingTrees.{FallbackFits, MessageFits}
use Rattle.formatted_source.proofs.LineLexemes.{block_pieces}
use Rattle.formatted_source.proofs.MessageBodies.{MessageBodyIs, body_speaks}
use Rattle.formatted_source.proofs.Written.Names.{both}
use Rattle.formatted_source.proofs.NodeAlike.{NodeIs}
use Rattle.formatted_source.proofs.NodeLexemes.{all_lexemes}
use Rattle.formatted_source.proofs.Speaking.{Speaks, block, same_part}

-- a message's command, and that of a second one
abbrev described : List ℕ → List ℕ → List ℕ → List Lexeme
described word desc meaning =
    braced ((kind.Word, word) ∷ (attribute_lexemes (codes "desc") desc ++ meaning_lexemes meaning))

-- **A message's node.**
pub message_node_spelled : (b : ℕ) (m : Message) (other : Fallback) (span : Span) → is_formed_message m ≡ true
    → is_formed_fallback other ≡ true → b + 1 ≤ 64 → MessageFits (b + 1) m → FallbackFits (b + 1) other
    → Speaks b (all_lexemes [] (node_pieces (MessageNode m other span))) (NodeIs (MessageNode m other span))
message_node_spelled b (message desc meaning body at) no_fallback span f g le fits others =
    let fs = both (is_formed_body body) (nat_le (nesting body) 63) f in
    same_part b _ _ (NodeIs (MessageNode (message desc meaning body at) no_fallback span))
    (block_pieces (message_text (codes "{msg") desc meaning) (described (codes "msg") desc meaning) (body_pieces body) (codes "{/msg}")
    (braced ((kind.BeginClose, codes "msg") ∷ [])))
    (block b (described (codes "msg") desc meaning) (all_lexemes [] (body_pieces body))
    (braced ((kind.BeginClose, codes "msg") ∷ [])) (λ f. f ≡ says.Opens (opening.Message desc meaning))
    (MessageBodyIs body) (λ f. f ≡ says.Closes block_name.Msg)
    (NodeIs (MessageNode (message desc meaning body at) no_fallback span))
    (λ ts same. message_command b ts desc meaning (omega (arith, le)) same)
    (body_speaks (b + 1) body le fs.0 fits)
    (λ ts same. bare_command (b + 1) ts (kind.BeginClose, codes "msg") (says.Closes block_name.Msg) le msg_closes same)
    (λ c z cs ks h p k. record {
      own = node_of (form.Message (whole_message desc meaning p.own c.span) None) (joined c.span z.span);
      spells = SpellsNode.message_ c z cs ks desc meaning p.own h p.spells k;
      alike = ap node_without_spans (view-Message (whole_message desc meaning p.own c.span) (joined c.span z.span))
          ∙ (ap (λ x. MessageNode (message_without_spans x) no_fallback no_span)
          (view-message desc meaning p.own c.span)
          ∙ ap (λ x. MessageNode (message desc meaning x no_span) no_fallback no_span) p.alike);
    }))
message_node_spelled b (message desc meaning body at) (fallback (message older older_meaning last under)) span f g le
    fits others =
    let fs = both (is_formed_body body) (nat_le (nesting body) 63) f in
    let gs = both (is_formed_body last) (nat_le (nesting last) 63) g in
    same_part b _ _ (NodeIs (MessageNode (message desc meaning body at)
    (fallback (message older older_meaning last under)) span))
    (branch_pieces (message_text (codes "{msg") desc meaning) (described (codes "msg") desc meaning) (body_pieces body)
    (message_text (codes "{fallbackmsg") older older_meaning) (described (codes "fallbackmsg") older older_meaning) (body_pieces last)
    (codes "{/msg}")
    (braced ((kind.BeginClose, codes "msg") ∷ [])))
    (branched b (described (codes "msg") desc meaning) (all_lexemes [] (body_pieces body))
    (described (codes "fallbackmsg") older older_meaning) (all_lexemes [] (body_pieces last))
    (braced ((kind.BeginClose, codes "msg") ∷ [])) (λ f. f ≡ says.Opens (opening.Message desc meaning))
    (MessageBodyIs body) (λ f. f ≡ says.GoesOn (middle.Fallback older older_meaning)) (MessageBodyIs last)
    (λ f. f ≡ says.Closes block_name.Msg)
    (NodeIs (MessageNode (message desc meaning body at) (fallback (message older older_meaning last under)) span))
    (λ ts same. message_command b ts desc meaning (omega (arith, le)) same)
    (body_speaks (b + 1) body le fs.0 fits)
    (λ ts same. fallback_command (b + 1) ts older older_meaning le same)
    (body_speaks (b + 1) last le gs.0 others)
    (λ ts same. bare_command (b + 1) ts (kind.BeginClose, codes "msg") (says.Closes block_name.Msg) le msg_closes same)
    (λ c d z cs bs ks js h p i q k. record {
      own = node_of (form.Message (whole_message desc meaning p.own c.span)
          (Some (whole_message older older_meaning q.own d.span))) (joined c.span z.span);
      spells = SpellsNode.message_fallback_ c d z cs bs ks js desc meaning older older_meaning p.own q.own h p.spells i
          q.spells k;
      alike = ap node_without_spans (view-MessageFallback (whole_message desc meaning p.own c.span)
          (whole_message older older_meaning q.own d.span) (joined c.span z.span))
          ∙ (ap (λ x. MessageNode (message_without_spans x) (fallback (message_without_spans
          (view_message (whole_message older older_meaning q.own d.span)))) no_span)
          (view-message desc meaning p.own c.span)
          ∙ (ap (λ x. MessageNode (message desc meaning (body_without_spans (view_body p.own)) no_span)
          (fallback (message_without_spans x)) no_span) (view-message older older_meaning q.own d.span)
          ∙ (ap (λ x. MessageNode (message desc meaning x no_span)
          (fallback (message older older_meaning (body_without_spans (view_body q.own)) no_span)) no_span) p.alike
          ∙ ap (λ x. MessageNode (message desc meaning (body_without_spans body) no_span)
          (fallback (message older older_meaning x no_span)) no_span) q.alike)));
    }))
