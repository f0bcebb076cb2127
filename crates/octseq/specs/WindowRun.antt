-- The effect of commands on parsers of the same octets, seen as a list of windows.
use Rattle.std.specs.List.{AllByRecursion}
use Rattle.std.specs.Prelude.{◌≡◌, ◌≢◌, ℕ, Bool, true, List, [], ◌∷◌, ◌++◌, length, slice_get}
use Rattle.std.specs.Prelude.{slice_set, nat_le, ◌==◌, if◌then◌else◌, Option, Some, None, ◌⊎◌}
use Rattle.octseq.specs.Integer.{be, le, signed}
use Rattle.octseq.specs.WindowReply.{WindowReply}
use Rattle.octseq.specs.Window.{Window, left, rest, next, front, at, past, nested}
use Rattle.octseq.specs.declared.parse.commands.Kind.{Kind}
use Rattle.octseq.specs.declared.parse.commands.Kind.TheVariants.{I8, U8, I16Be, I16Le, U16Be, U16Le, U24Be, U24Le}
use Rattle.octseq.specs.declared.parse.commands.Kind.TheVariants.{I32Be, I32Le, U32Be, U32Le, U48Be, U48Le, I64Be}
use Rattle.octseq.specs.declared.parse.commands.Kind.TheVariants.{I64Le, U64Be, U64Le, I128Be, I128Le, U128Be, U128Le}
use Rattle.octseq.specs.declared.parse.commands.ParserCall.{ParserCall}
use Rattle.octseq.specs.declared.parse.commands.ParserCall.TheVariants.{Pos, Len, IsEmpty, Remaining, AsSlice}
use Rattle.octseq.specs.declared.parse.commands.ParserCall.TheVariants.{PeekAll, AdvanceToEnd, Duplicate, Peek, Seek}
use Rattle.octseq.specs.declared.parse.commands.ParserCall.TheVariants.{Advance, CheckLen, Octets, Buf, Nested, Int}
use Rattle.octseq.specs.declared.parse.commands.ParserCommand.{ParserCommand}

-- How an integer is read: the number of its octets, and the reply with their value.
pub record Reading : Type 0 where
  pub width : ℕ
  pub reply : List ℕ → WindowReply

-- an unsigned and a signed integer of k octets, in a byte order
abbrev pub unsigned_of : ℕ → (List ℕ → ℕ) → Reading
unsigned_of k order = record { width = k; reply = λ octets. WindowReply.unsigned (order octets) }

abbrev pub signed_of : ℕ → (List ℕ → ℕ) → Reading
signed_of k order = record { width = k; reply = λ octets. WindowReply.signed (signed k (order octets)) }

-- how an integer of a kind is read
abbrev pub reading : Kind → Reading
reading I8 = signed_of 1 be
reading U8 = unsigned_of 1 be
reading I16Be = signed_of 2 be
reading I16Le = signed_of 2 le
reading U16Be = unsigned_of 2 be
reading U16Le = unsigned_of 2 le
reading U24Be = unsigned_of 3 be
reading U24Le = unsigned_of 3 le
reading I32Be = signed_of 4 be
reading I32Le = signed_of 4 le
reading U32Be = unsigned_of 4 be
reading U32Le = unsigned_of 4 le
reading U48Be = unsigned_of 6 be
reading U48Le = unsigned_of 6 le
reading I64Be = signed_of 8 be
reading I64Le = signed_of 8 le
reading U64Be = unsigned_of 8 be
reading U64Le = unsigned_of 8 le
reading I128Be = signed_of 16 be
reading I128Le = signed_of 16 le
reading U128Be = unsigned_of 16 be
reading U128Le = unsigned_of 16 le

-- The effect of a call on a window: its reply, the window after it, and the windows that it adds.
pub record Outcome : Type 0 where
  pub reply : WindowReply
  pub window : Window
  pub added : List Window

-- a reply, and the window after it; no window is added
abbrev pub says : WindowReply → Window → Outcome
says reply w = record { reply = reply; window = w; added = [] }

-- the reply with the number of a window that is added after `count` others
abbrev pub adds : ℕ → Window → Window → Outcome
adds count new w = record { reply = WindowReply.parser count; window = w; added = new ∷ [] }

-- an outcome if n is at most the bound, otherwise a refusal, which leaves the window unchanged
abbrev pub where_within : ℕ → ℕ → Window → Outcome → Outcome
where_within bound n w outcome = if nat_le n bound then outcome else says WindowReply.short w

-- A call on one of `count` windows.
abbrev pub outcome : ℕ → Window → ParserCall → Outcome
outcome count w Pos = says (WindowReply.number w.position) w
outcome count w Len = says (WindowReply.number w.end) w
outcome count w IsEmpty = says (WindowReply.flag (w.end == 0)) w
outcome count w Remaining = says (WindowReply.number (left w)) w
outcome count w AsSlice = says (WindowReply.slice (front w)) w
outcome count w PeekAll = says (WindowReply.slice (rest w)) w
outcome count w AdvanceToEnd = says WindowReply.done (at w.end w)
outcome count w Duplicate = adds count w w
outcome count w (Peek n) = where_within (left w) n w (says (WindowReply.slice (next n w)) w)
outcome count w (Seek n) = where_within w.end n w (says WindowReply.done (at n w))
outcome count w (Advance n) = where_within (left w) n w (says WindowReply.done (past n w))
outcome count w (CheckLen n) = where_within (left w) n w (says WindowReply.done w)
outcome count w (Octets n) = where_within (left w) n w (says (WindowReply.range (next n w)) (past n w))
outcome count w (Buf n) = where_within (left w) n w (says (WindowReply.slice (next n w)) (past n w))
outcome count w (Nested n) = where_within (left w) n w (adds count (nested n w) (past n w))
outcome count w (Int kind) = let n = (reading kind).width in
    where_within (left w) n w (says ((reading kind).reply (next n w)) (past n w))

-- Instead of a slice, or a range whose type requests memory, a refusal of memory can be the reply.
abbrev pub MayLackMemory : Bool → WindowReply → Type 0
MayLackMemory asks (WindowReply.slice _) = Unit {0}
MayLackMemory asks (WindowReply.range _) = asks ≡ true
MayLackMemory asks _ = ⊥

-- A call has its outcome, or a request for memory was refused and nothing changed.
abbrev pub Does : Bool → Window → Outcome → Outcome → Type 0
Does asks before wanted done =
    (done ≡ wanted) ⊎ (MayLackMemory asks wanted.reply × (done ≡ says WindowReply.memory before))

-- A command on the window with its number, if there is one: the reply, and the windows after it.
abbrev pub StepOn : Option Window → Bool → List Window → ParserCommand → WindowReply → List Window → Type 0
StepOn None asks windows command reply after = (reply ≡ WindowReply.no_parser) × (after ≡ windows)
StepOn (Some w) asks windows command reply after = (done : Outcome)
    × Does asks w (outcome (length windows) w command.call) done
    × (reply ≡ done.reply)
    × (after ≡ slice_set windows command.parser done.window ++ done.added)

abbrev pub WindowStep : Bool → List Window → ParserCommand → WindowReply → List Window → Type 0
WindowStep asks windows command reply after = StepOn (slice_get windows command.parser) asks windows command reply after

-- A list of commands, with one reply each: every step starts from the windows that the step before left.
abbrev pub WindowRun : Bool → List Window → List ParserCommand → List WindowReply → Type 0
WindowRun asks windows [] [] = Unit {0}
WindowRun asks windows (command ∷ commands) (reply ∷ replies) =
    (after : List Window) × WindowStep asks windows command reply after × WindowRun asks after commands replies
WindowRun asks windows [] (reply ∷ replies) = ⊥
WindowRun asks windows (command ∷ commands) [] = ⊥

-- No reply says that a request for memory was refused.
abbrev pub IsWithoutMemory : List WindowReply → Type 0
IsWithoutMemory replies = AllByRecursion (λ reply. reply ≢ WindowReply.memory) replies
