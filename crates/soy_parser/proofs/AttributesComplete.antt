-- The attributes of a command and its end are read.
use Rattle.std.proofs.Common.{◌≡◌, ◌+◌, Bool, true, false, List, [], ◌∷◌, ◌++◌, length, Option, Some, None}
use Rattle.std.proofs.Common.{refl, sym, ◌∙◌, ap, subst}
use Rattle.std.specs.Prelude.{if◌then◌else◌}
use Rattle.soy_base.specs.declared.fault.Span.{Span}
use Rattle.soy_lexer.specs.declared.token.Token.{Token}
use Rattle.expr_parser.specs.Operands.{joined}
use Rattle.soy_parser.specs.declared.attributes.AttributeName.{AttributeName}
use Rattle.soy_parser.specs.declared.attributes.Attributes.{Attributes}
use Rattle.soy_parser.specs.declared.block.CommandState.{CommandState}
use Rattle.soy_parser.specs.declared.command.CommandForm.{CommandForm}
use Rattle.soy_parser.specs.declared.head.Head.{Head}
use Rattle.soy_parser.specs.declared.spot.CommandSpot.TheVariants as where_
use Rattle.soy_parser.specs.declared.spot.FileState.{FileState}
use Rattle.soy_parser.specs.declared.spot.Spot.{Spot}
use Rattle.soy_parser.specs.declared.spot.Spot.TheVariants as spot
use Rattle.soy_parser.specs.declared.terminal.CommandTerminal.{CommandTerminal}
use Rattle.soy_parser.specs.declared.terminal.CommandTerminal.TheVariants as terminal
use Rattle.soy_parser.specs.CommandSteps.{command_step}
use Rattle.soy_parser.specs.CommandTerminals.{command_terminal_of}
use Rattle.soy_parser.specs.Depth.{none_deep}
use Rattle.soy_parser.specs.TypeWords.{no_words}
use Rattle.soy_parser.specs.FileSteps.{stands, attributes_step, attribute_step, ended_command, taken, if_equals}
use Rattle.soy_parser.specs.FileSteps.{value_step, with_value}
use Rattle.soy_parser.specs.FileSteps.{file_step, token_depth, word_in}
use Rattle.soy_parser.specs.Heads.{no_attributes, attribute_name, allows, SpellsAttributes, form_at}
use Rattle.soy_parser.proofs.OfCommands.CommandRunning.{map_append}
use Rattle.soy_parser.proofs.OfFiles.FileRunning.{Leads, none_leads, step_leads, then_leads}

abbrev pub in_at : CommandState → Span → Spot → FileState
in_at s from at = record { commands = s; spot = where_.Inside from at }

abbrev pub between : CommandState → FileState
between s = record { commands = s; spot = where_.Between }

-- a token that may follow a head: the name of an attribute, or the end of a command
pub data FollowsHead : CommandTerminal → Type 0 where
  attribute_ : (m : CommandTerminal) (n : AttributeName) → attribute_name m ≡ Some n → FollowsHead m
  end_ : FollowsHead terminal.End
  slash_end_ : FollowsHead terminal.SlashEnd

-- a head and attributes were read, and such a token does what it does after them
pub record HasHead (s : CommandState) (from : Span) (h : Head) (a : Attributes) (to : FileState) : Type 0 where
  pub commands_are : to.commands ≡ s
  pub takes : (t : Token) → FollowsHead (command_terminal_of t) → file_step to t ≡ attributes_step s from h a t

pub record AttributesLead (s : CommandState) (from : Span) (h : Head) (st : FileState) (us : List Token)
    (a : Attributes) : Type 0
  where
    pub to : FileState
    pub leads : Leads (length s.blocks) st us (none_deep us) (no_words us) to
    pub has : HasHead s from h a to

pub has_attributes : (s : CommandState) (from : Span) (h : Head) (a : Attributes)
    → HasHead s from h a (in_at s from (spot.Attributes h a))
has_attributes s from h a = record { commands_are = refl; takes = λ t f. refl }

pub if_then : (b : Bool) (to : Option FileState) → b ≡ true → (if b then to else None) ≡ to
if_then b to h = rw h refl

pub none_append : (ts us : List Token) → none_deep (ts ++ us) ≡ none_deep ts ++ none_deep us
none_append ts us = map_append (λ t. 0) ts us

pub plain_append : (ts us : List Token) → no_words (ts ++ us) ≡ no_words ts ++ no_words us
plain_append ts us = map_append (λ t. false) ts us

-- a token of a command that is no part of an expression or type
pub plain_step : (s : CommandState) (from : Span) (st : FileState) (at : Spot) (t : Token) → st.commands ≡ s →
    file_step st t ≡ Some (in_at s from at) → token_depth st (in_at s from at) ≡ length st.commands.blocks + 0 →
    word_in (where_.Inside from at) ≡ false → Leads (length s.blocks) st (t ∷ []) (0 ∷ []) (false ∷ [])
    (in_at s from at)
plain_step s from st at t same e deep word =
    step_leads (length s.blocks) 0 false st t (in_at s from at) e
    (deep ∙ ap (λ (k : CommandState). length k.blocks + 0) same) word

pub attributes_lead : (s : CommandState) (from : Span) (h : Head) (st : FileState) → HasHead s from h no_attributes st →
    (us : List Token) (a : Attributes) → SpellsAttributes h us a → AttributesLead s from h st us a
attributes_lead s from h st has _ _ (SpellsAttributes.none_ _) =
    record { to = st; leads = none_leads (length s.blocks) st; has = has }
attributes_lead s from h st has _ _ (SpellsAttributes.more_ _ ts a b name equals value n w hn al he hv hw) =
    let g = attributes_lead s from h st has ts a w in
    let third = name ∷ (equals ∷ (value ∷ [])) in
    let one = plain_step s from g.to (spot.Equals h a n) name g.has.commands_are
    (g.has.takes name (FollowsHead.attribute_ (command_terminal_of name) n hn)
    ∙ (ap (λ o. attribute_step s from h a o name) hn
    ∙ if_then (allows h a n) (stands s from (spot.Equals h a n)) al)) refl refl in
    let two = plain_step s from (in_at s from (spot.Equals h a n)) (spot.Value h a n) equals refl
    (ap (λ m. if_equals m (stands s from (spot.Value h a n))) he) refl refl in
    let three = plain_step s from (in_at s from (spot.Value h a n)) (spot.Attributes h b) value refl
    (ap (λ m. value_step s from h a n value m) hv ∙ ap (with_value s from h) hw) refl refl in
    record {
      to = in_at s from (spot.Attributes h b);
      leads = subst (λ l. Leads (length s.blocks) st (ts ++ third) l (no_words (ts ++ third))
          (in_at s from (spot.Attributes h b)))
          (sym (none_append ts third))
          (subst (λ l. Leads (length s.blocks) st (ts ++ third) (none_deep ts ++ none_deep third) l
          (in_at s from (spot.Attributes h b)))
          (sym (plain_append ts third))
          (then_leads g.leads (then_leads one (then_leads two three))));
      has = has_attributes s from h b;
    }

-- the end of a command
pub end_follows : (h : Head) (a : Attributes) (m : CommandTerminal) (of : CommandForm) → form_at h a m ≡ Some of →
    FollowsHead m × (attribute_name m ≡ None)
end_follows h a terminal.End of e = (FollowsHead.end_, refl)
end_follows h a terminal.SlashEnd of e = (FollowsHead.slash_end_, refl)
end_follows h a _ of e = absurd (cc e)

pub end_step : (s m : CommandState) (from : Span) (h : Head) (a : Attributes) (st : FileState) (z : Token)
    (of : CommandForm) →
    HasHead s from h a st → form_at h a (command_terminal_of z) ≡ Some of →
    command_step s (record { form = of; span = joined from z.span }) ≡ Some m → file_step st z ≡ Some (between m)
end_step s m from h a st z of has e step =
    let f = end_follows h a (command_terminal_of z) of e in
    has.takes z f.0
    ∙ (ap (λ o. attribute_step s from h a o z) f.1
    ∙ (ap (λ o. ended_command s from o z) e
    ∙ ap taken step))
