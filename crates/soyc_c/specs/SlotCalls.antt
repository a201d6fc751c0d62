-- What the calls that C makes with a slot do: the status, what the slot holds after it, the text in the room of
-- faults, and the fault.
--
-- A call whose slot isn't as it has to be changes no slot and no room. Otherwise it is answered by a reply, or memory
-- ran out; and only at the status 0 the slot holds something else than before.
-- Example: closing a page twice is answered by 0 and then by 8, and freeing it, as if it were templates, by 8.
use Rattle.std.specs.Prelude.{◌≡◌, ◌⊎◌, ℕ, List, length, Option, None, Some, IfSome, Result, Ok, Err}
use Rattle.soy_page.specs.PageState.{PageState}
use Rattle.soy_page.specs.WereCompiled.{WereCompiled}
use Rattle.soy_page.specs.declared.templates.Templates.{Templates}
use Rattle.soy_top.specs.Rendered.{Rendered}
use Rattle.soyc_c.specs.Compiling.{Compiles, compile_reply}
use Rattle.soyc_c.specs.FaultNumbers.{report_numbers}
use Rattle.soyc_c.specs.FaultParts.{report_parts}
use Rattle.soyc_c.specs.Giving.{PullsInto}
use Rattle.soyc_c.specs.OnAccepted.{OnAccepted}
use Rattle.soyc_c.specs.Opening.{IsOpened, asked_page, open_reply}
use Rattle.soyc_c.specs.SlotReply.{SlotReply, bare, memory_reply, unfilled_reply}
use Rattle.soyc_c.specs.Room.{filled}
use Rattle.soyc_c.specs.declared.held.Held.{Held}
use Rattle.soyc_c.specs.declared.held.Held.TheVariants as held
use Rattle.soyc_c.specs.declared.parts.FileParts.{FileParts}
use Rattle.soyc_c.specs.declared.report.Report.{Report}
use Rattle.soyc_c.specs.declared.unfilled.Unfilled.{Unfilled}
use Rattle.soyc_c.specs.declared.unfilled.Unfilled.TheVariants as unfilled

-- this reply is given: its status, its text in the room, as much of it as fits, and its fault, with the parts of the
-- whole text
pub record IsGiven (reply : SlotReply) (status : ℕ) (err err_after : List ℕ) (fault : Report) : Type 0 where
  pub status_is : status ≡ reply.status
  pub err_is : err_after ≡ filled err reply.err
  pub length_is : fault.err ≡ length reply.err
  pub fault_is : report_numbers fault ≡ reply.fault
  pub parts_are : report_parts reply.err fault ≡ reply.parts

-- the reply is given, or memory ran out
abbrev pub IsReplied : SlotReply → ℕ → List ℕ → List ℕ → Report → Type 0
IsReplied reply status err err_after fault =
    IsGiven reply status err err_after fault ⊎ IsGiven memory_reply status err err_after fault

-- a slot holds what it held, unless the status is 0
abbrev pub Holds : Option Held → ℕ → Option Held → Type 0
Holds old status new = (status ≡ 0 → ⊥) → new ≡ old

-- a status alone is answered, and the slot holds what it held
abbrev pub Declines : ℕ → Option Held → ℕ → Option Held → List ℕ → List ℕ → Report → Type 0
Declines number old status new err err_after fault = IsGiven (bare number) status err err_after fault × (new ≡ old)

-- an empty slot is filled with what is wanted, where the reply is that all is well; or the reply says why not
pub record FillsSlot (reply : SlotReply) (IsWanted : Held → Type 0) (status : ℕ) (new : Option Held)
    (err err_after : List ℕ) (fault : Report) : Type 0 where
  pub replied : IsReplied reply status err err_after fault
  pub kept : Holds None status new
  pub filled_with : status ≡ 0 → (made : Held) × (new ≡ Some made) × IsWanted made

-- ---- compiling

abbrev pub HoldsTemplates : List ℕ → List FileParts → List FileParts → Held → Type 0
HoldsTemplates bytes files bundles (held.Templates templates) = Compiles bytes files bundles templates
HoldsTemplates bytes files bundles (held.Page page) = ⊥

abbrev pub CompilesEmpty : List ℕ → List FileParts → List FileParts → ℕ → Option Held → List ℕ → List ℕ → Report
    → Type 0
CompilesEmpty bytes files bundles status new err err_after fault =
    FillsSlot (compile_reply bytes files bundles) (HoldsTemplates bytes files bundles) status new err err_after fault

abbrev pub CompilesSlot : Option Held → List ℕ → List FileParts → List FileParts → ℕ → Option Held → List ℕ → List ℕ
    → Report → Type 0
CompilesSlot None bytes files bundles status new err err_after fault =
    CompilesEmpty bytes files bundles status new err err_after fault
CompilesSlot (Some other) bytes files bundles status new err err_after fault =
    Declines 9 (Some other) status new err err_after fault

-- ---- opening

abbrev pub HoldsPage : Templates → Option Rendered → Held → Type 0
HoldsPage templates asked (held.Page page) = IsOpened templates asked page
HoldsPage templates asked (held.Templates others) = ⊥

-- an empty slot is filled with the page of these templates that is asked for
abbrev pub OpensEmpty : Templates → List ℕ → List ℕ → ℕ → Option Held → List ℕ → List ℕ → Report → Type 0
OpensEmpty templates name json status new err err_after fault =
    OnAccepted templates (λ of. FillsSlot (open_reply of name json)
    (HoldsPage templates (asked_page templates of name json)) status new err err_after fault)

-- with the templates in a slot that isn't empty
abbrev pub OpensWith : Held → List ℕ → List ℕ → Option Held → ℕ → Option Held → List ℕ → List ℕ → Report → Type 0
OpensWith (held.Templates templates) name json None status new err err_after fault =
    OpensEmpty templates name json status new err err_after fault
OpensWith (held.Templates templates) name json (Some other) status new err err_after fault =
    Declines 9 (Some other) status new err err_after fault
OpensWith (held.Page page) name json old status new err err_after fault = Declines 8 old status new err err_after fault

-- templates that a slot holds were compiled
abbrev pub AreKnown : Held → Type 0
AreKnown (held.Templates templates) = WereCompiled templates
AreKnown (held.Page page) = Unit {0}

-- a fact of the page that is asked for of the templates in a slot
abbrev pub OnPage : (Rendered → Type 0) → Option Held → List ℕ → List ℕ → Type 0
OnPage P (Some (held.Templates templates)) name json =
    OnAccepted templates (λ of. IfSome (asked_page templates of name json) P)
OnPage P (Some (held.Page page)) name json = Unit {0}
OnPage P None name json = Unit {0}

abbrev pub OpensSlot : Option Held → List ℕ → List ℕ → Option Held → ℕ → Option Held → List ℕ → List ℕ → Report
    → Type 0
OpensSlot None name json old status new err err_after fault = Declines 8 old status new err err_after fault
OpensSlot (Some templates) name json old status new err err_after fault =
    OpensWith templates name json old status new err err_after fault

-- ---- pulling

-- how many bytes are given, or the reply
abbrev pub SaysCount : Result ℕ Unfilled → ℕ → ℕ → List ℕ → List ℕ → Report → Type 0
SaysCount (Ok n) status given err err_after fault = (given ≡ n) × IsGiven (bare 0) status err err_after fault
SaysCount (Err answer) status given err err_after fault =
    (given ≡ 0) × IsGiven (unfilled_reply answer) status err err_after fault

-- a pull of what a slot holds: of a page, or of nothing
pub record PullsPageHeld (old : PageState) (room room_after : List ℕ) (answer : Result ℕ Unfilled) (new : Held)
    : Type 0 where
  pub page : PageState
  pub is_page : new ≡ held.Page page
  pub pulls : PullsInto old room room_after answer page

abbrev pub PullsHeld : Held → List ℕ → List ℕ → Result ℕ Unfilled → Held → Type 0
PullsHeld (held.Page page) room room_after answer new = PullsPageHeld page room room_after answer new
PullsHeld (held.Templates templates) room room_after answer new =
    (answer ≡ Err (unfilled.Status 8)) × (room_after ≡ room) × (new ≡ held.Templates templates)

pub record PullsSome (old : Held) (room room_after : List ℕ) (given status : ℕ) (new : Option Held)
    (err err_after : List ℕ) (fault : Report) : Type 0 where
  pub after : Held
  pub is_held : new ≡ Some after
  pub answer : Result ℕ Unfilled
  pub pulls : PullsHeld old room room_after answer after
  pub says : SaysCount answer status given err err_after fault

abbrev pub PullsSlot : Option Held → List ℕ → List ℕ → ℕ → ℕ → Option Held → List ℕ → List ℕ → Report → Type 0
PullsSlot None room room_after given status new err err_after fault =
    (room_after ≡ room) × (given ≡ 0) × Declines 8 None status new err err_after fault
PullsSlot (Some old) room room_after given status new err err_after fault =
    PullsSome old room room_after given status new err err_after fault

-- ---- closing and freeing

-- the slot is empty after it
abbrev pub Empties : ℕ → Option Held → Type 0
Empties status new = (status ≡ 0) × (new ≡ None)

-- the slot holds what it held
abbrev pub Keeps : Option Held → ℕ → Option Held → Type 0
Keeps old status new = (status ≡ 8) × (new ≡ old)

-- of a page, and of nothing else
abbrev pub ClosesSlot : Option Held → ℕ → Option Held → Type 0
ClosesSlot (Some (held.Page page)) status new = Empties status new
ClosesSlot (Some (held.Templates templates)) status new = Keeps (Some (held.Templates templates)) status new
ClosesSlot None status new = Keeps None status new

-- of templates, and of nothing else
abbrev pub FreesSlot : Option Held → ℕ → Option Held → Type 0
FreesSlot (Some (held.Templates templates)) status new = Empties status new
FreesSlot (Some (held.Page page)) status new = Keeps (Some (held.Page page)) status new
FreesSlot None status new = Keeps None status new
