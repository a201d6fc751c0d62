-- Tokens with the lexemes of a type's tokens spell the same type, at the same depths.
use Rattle.std.proofs.Common.{◌≡◌, ℕ, max, Bool, true, false, List, [], ◌∷◌, ◌++◌, sym, ap, subst, ◌∙◌}
use Rattle.std.specs.Prelude.{encode_utf8_all}
use Rattle.std.proofs.lemmas.List.{map-append}
use Rattle.soy_lexer.specs.declared.token.Token.{Token}
use Rattle.soy_tree.specs.declared.soy_type.Field.{Field}
use Rattle.soy_tree.specs.declared.soy_type.SoyType.{SoyType}
use Rattle.expr_parser.specs.declared.type_frame.TypeOperand.{TypeOperand}
use Rattle.expr_parser.specs.declared.type_terminal.TypeTerminal.{TypeTerminal}
use Rattle.expr_parser.specs.Depths.{beside}
use Rattle.expr_parser.specs.SpellsType.{SpellsMember, SpellsFields, SpellsMembers, SpellsType}
use Rattle.expr_parser.specs.TypeOperands.{named, listed, mapped, recorded, united, field}
use Rattle.expr_parser.specs.TypeTerminals.{type_terminal, type_terminal_of}
use Rattle.formatted_source.specs.Lexemes.{lexeme, lexemes}
use Rattle.formatted_source.proofs.LexemeLists.{alone, begun, split}

-- a token is to a type what its lexeme is
same_terminal : (u t : Token) (m : TypeTerminal) → u.kind ≡ t.kind → u.text ≡ t.text → type_terminal_of t ≡ m
    → type_terminal_of u ≡ m
same_terminal u t m k e is =
    ap (λ x. type_terminal x (encode_utf8_all u.text)) k ∙ (ap (λ x. type_terminal t.kind (encode_utf8_all x)) e ∙ is)

-- lexemes of two lists of tokens, and of those before a last one
parted : (us ts vs : List Token) → lexemes us ≡ lexemes (ts ++ vs) → lexemes us ≡ lexemes ts ++ lexemes vs
parted us ts vs e = e ∙ map-append lexeme ts vs

mutual
  member_again : (ts us : List Token) (ds : List ℕ) (ws : List Bool) (x : TypeOperand) → SpellsMember ts ds ws x
      → lexemes us ≡ lexemes ts → SpellsMember us ds ws x
  member_again _ us _ _ _ (SpellsMember.name_ t n e) same =
      let one = alone us (lexeme t) same in
      subst (λ l. SpellsMember l (beside 0 (0 ∷ [])) (true ∷ []) (named n)) (sym one.are)
      (SpellsMember.name_ one.token n (same_terminal one.token t _ one.kind_is one.text_is e))
  member_again _ us _ _ _ (SpellsMember.list_ t less greater ts ds ws x a b c d) same =
      let u = begun us (lexeme t) _ same in
      let v = begun u.rest (lexeme less) _ u.rests in
      let parts = split v.rest (lexemes ts) (lexeme greater ∷ []) (parted v.rest ts (greater ∷ []) v.rests) in
      let w = alone parts.second (lexeme greater) parts.seconds in
      let whole : us ≡ u.token ∷ (v.token ∷ (parts.first ++ (w.token ∷ []))) =
      u.are ∙ ap (λ l. u.token ∷ l) (v.are ∙ ap (λ l. v.token ∷ l) (parts.are ∙ ap (λ l. parts.first ++ l) w.are)) in
      subst (λ l. SpellsMember l (beside 0 (0 ∷ (0 ∷ (ds ++ (x.height ∷ []))))) (true ∷ (false ∷ (ws ++ (false ∷ []))))
      (listed x)) (sym whole)
      (SpellsMember.list_ u.token v.token w.token parts.first ds ws x
      (same_terminal u.token t _ u.kind_is u.text_is a) (same_terminal v.token less _ v.kind_is v.text_is b)
      (same_terminal w.token greater _ w.kind_is w.text_is c) (type_again ts parts.first ds ws x d parts.firsts))
  member_again _ us _ _ _ (SpellsMember.map_ t less key comma greater ts ds ws x a b k m c d) same =
      let u = begun us (lexeme t) _ same in
      let v = begun u.rest (lexeme less) _ u.rests in
      let y = begun v.rest (lexeme key) _ v.rests in
      let z = begun y.rest (lexeme comma) _ y.rests in
      let parts = split z.rest (lexemes ts) (lexeme greater ∷ []) (parted z.rest ts (greater ∷ []) z.rests) in
      let w = alone parts.second (lexeme greater) parts.seconds in
      let whole : us ≡ u.token ∷ (v.token ∷ (y.token ∷ (z.token ∷ (parts.first ++ (w.token ∷ []))))) =
      u.are ∙ ap (λ l. u.token ∷ l) (v.are ∙ ap (λ l. v.token ∷ l) (y.are ∙ ap (λ l. y.token ∷ l)
      (z.are ∙ ap (λ l. z.token ∷ l) (parts.are ∙ ap (λ l. parts.first ++ l) w.are)))) in
      subst (λ l. SpellsMember l (beside 0 (0 ∷ (0 ∷ (0 ∷ (0 ∷ (ds ++ (x.height ∷ [])))))))
      (true ∷ (false ∷ (false ∷ (false ∷ (ws ++ (false ∷ [])))))) (mapped x)) (sym whole)
      (SpellsMember.map_ u.token v.token y.token z.token w.token parts.first ds ws x
      (same_terminal u.token t _ u.kind_is u.text_is a) (same_terminal v.token less _ v.kind_is v.text_is b)
      (same_terminal y.token key _ y.kind_is y.text_is k) (same_terminal z.token comma _ z.kind_is z.text_is m)
      (same_terminal w.token greater _ w.kind_is w.text_is c) (type_again ts parts.first ds ws x d parts.firsts))
  member_again _ us _ _ _ (SpellsMember.record_ opening close ts ds ws fields h a b d) same =
      let u = begun us (lexeme opening) _ same in
      let parts = split u.rest (lexemes ts) (lexeme close ∷ []) (parted u.rest ts (close ∷ []) u.rests) in
      let w = alone parts.second (lexeme close) parts.seconds in
      let whole : us ≡ u.token ∷ (parts.first ++ (w.token ∷ [])) =
      u.are ∙ ap (λ l. u.token ∷ l) (parts.are ∙ ap (λ l. parts.first ++ l) w.are) in
      subst (λ l. SpellsMember l (beside 0 (0 ∷ []) ++ (ds ++ beside h (0 ∷ []))) (false ∷ (ws ++ (false ∷ [])))
      (recorded fields h)) (sym whole)
      (SpellsMember.record_ u.token w.token parts.first ds ws fields h
      (same_terminal u.token opening _ u.kind_is u.text_is a) (same_terminal w.token close _ w.kind_is w.text_is b)
      (fields_again ts parts.first ds ws fields h d parts.firsts))

  fields_again : (ts us : List Token) (ds : List ℕ) (ws : List Bool) (fields : List Field) (h : ℕ)
      → SpellsFields ts ds ws fields h → lexemes us ≡ lexemes ts → SpellsFields us ds ws fields h
  fields_again _ us _ _ _ _ (SpellsFields.one_ key colon n ts ds ws x a b d) same =
      let u = begun us (lexeme key) _ same in
      let v = begun u.rest (lexeme colon) _ u.rests in
      let whole : us ≡ u.token ∷ (v.token ∷ v.rest) = u.are ∙ ap (λ l. u.token ∷ l) v.are in
      subst (λ l. SpellsFields l (beside 0 (0 ∷ (0 ∷ ds))) (false ∷ (false ∷ ws)) (field key.text x.of ∷ []) x.height)
      (sym whole)
      (subst (λ l. SpellsFields (u.token ∷ (v.token ∷ v.rest)) (beside 0 (0 ∷ (0 ∷ ds))) (false ∷ (false ∷ ws))
      (field l x.of ∷ []) x.height) u.text_is
      (SpellsFields.one_ u.token v.token n v.rest ds ws x (same_terminal u.token key _ u.kind_is u.text_is a)
      (same_terminal v.token colon _ v.kind_is v.text_is b) (type_again ts v.rest ds ws x d v.rests)))
  fields_again _ us _ _ _ _ (SpellsFields.more_ comma key colon n ts vs ds es ws xs fields h x c a b d e) same =
      let parts = split us (lexemes ts) (lexemes (comma ∷ (key ∷ (colon ∷ vs))))
      (parted us ts (comma ∷ (key ∷ (colon ∷ vs))) same) in
      let y = begun parts.second (lexeme comma) _ parts.seconds in
      let u = begun y.rest (lexeme key) _ y.rests in
      let v = begun u.rest (lexeme colon) _ u.rests in
      let whole : us ≡ parts.first ++ (y.token ∷ (u.token ∷ (v.token ∷ v.rest))) =
      parts.are ∙ ap (λ l. parts.first ++ l) (y.are ∙ ap (λ l. y.token ∷ l) (u.are ∙ ap (λ l. u.token ∷ l) v.are)) in
      subst (λ l. SpellsFields l (ds ++ beside h (0 ∷ (0 ∷ (0 ∷ es)))) (ws ++ (false ∷ (false ∷ (false ∷ xs))))
      (fields ++ (field key.text x.of ∷ [])) (max h x.height)) (sym whole)
      (subst (λ l. SpellsFields (parts.first ++ (y.token ∷ (u.token ∷ (v.token ∷ v.rest))))
      (ds ++ beside h (0 ∷ (0 ∷ (0 ∷ es)))) (ws ++ (false ∷ (false ∷ (false ∷ xs))))
      (fields ++ (field l x.of ∷ [])) (max h x.height)) u.text_is
      (SpellsFields.more_ y.token u.token v.token n parts.first v.rest ds es ws xs fields h x
      (same_terminal y.token comma _ y.kind_is y.text_is c) (same_terminal u.token key _ u.kind_is u.text_is a)
      (same_terminal v.token colon _ v.kind_is v.text_is b) (fields_again ts parts.first ds ws fields h d parts.firsts)
      (type_again vs v.rest es xs x e v.rests)))

  members_again : (ts us : List Token) (ds : List ℕ) (ws : List Bool) (members : List SoyType) (h : ℕ)
      → SpellsMembers ts ds ws members h → lexemes us ≡ lexemes ts → SpellsMembers us ds ws members h
  members_again _ us _ _ _ _ (SpellsMembers.first_ ts ds ws x d) same =
      SpellsMembers.first_ us ds ws x (member_again ts us ds ws x d same)
  members_again _ us _ _ _ _ (SpellsMembers.next_ bar ts vs ds es ws xs members h x b d e) same =
      let parts = split us (lexemes ts) (lexemes (bar ∷ vs)) (parted us ts (bar ∷ vs) same) in
      let u = begun parts.second (lexeme bar) _ parts.seconds in
      let whole : us ≡ parts.first ++ (u.token ∷ u.rest) = parts.are ∙ ap (λ l. parts.first ++ l) u.are in
      subst (λ l. SpellsMembers l (ds ++ beside h (0 ∷ es)) (ws ++ (false ∷ xs)) (members ++ (x.of ∷ []))
      (max h x.height)) (sym whole)
      (SpellsMembers.next_ u.token parts.first u.rest ds es ws xs members h x
      (same_terminal u.token bar _ u.kind_is u.text_is b) (members_again ts parts.first ds ws members h d parts.firsts)
      (member_again vs u.rest es xs x e u.rests))

  -- **Tokens with the lexemes of a type's tokens spell that type.**
  pub type_again : (ts us : List Token) (ds : List ℕ) (ws : List Bool) (x : TypeOperand) → SpellsType ts ds ws x
      → lexemes us ≡ lexemes ts → SpellsType us ds ws x
  type_again _ us _ _ _ (SpellsType.alone_ ts ds ws x d) same =
      SpellsType.alone_ us ds ws x (member_again ts us ds ws x d same)
  type_again _ us _ _ _ (SpellsType.union_ bar ts vs ds es ws xs members h x b d e) same =
      let parts = split us (lexemes ts) (lexemes (bar ∷ vs)) (parted us ts (bar ∷ vs) same) in
      let u = begun parts.second (lexeme bar) _ parts.seconds in
      let whole : us ≡ parts.first ++ (u.token ∷ u.rest) = parts.are ∙ ap (λ l. parts.first ++ l) u.are in
      subst (λ l. SpellsType l (ds ++ beside h (0 ∷ es)) (ws ++ (false ∷ xs)) (united members h x)) (sym whole)
      (SpellsType.union_ u.token parts.first u.rest ds es ws xs members h x
      (same_terminal u.token bar _ u.kind_is u.text_is b) (members_again ts parts.first ds ws members h d parts.firsts)
      (member_again vs u.rest es xs x e u.rests))
