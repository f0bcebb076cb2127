-- The effect of commands on a text, seen as a list of characters with a limit.
use Rattle.std.specs.Prelude.{◌≡◌, ◌≢◌, ℕ, ◌<◌, ◌≤◌, ◌↔◌, ◌⊎◌, Bool, true, List, [], ◌∷◌}
use Rattle.std.specs.Prelude.{◌++◌, length, Option, Some, None, Result, Ok, Err, IsTrue}
use Rattle.std.specs.List.{AllByRecursion}
use Rattle.octseq_core.specs.Limit.{IsWithin, ExceedsLimit}
use Rattle.octseq_core.specs.declared.builder.AppendError.{AppendError}
use Rattle.octseq_core.specs.declared.builder.AppendError.TheVariants as error
use Rattle.octseq_utf8.specs.Text.{chars, octets_of, IsFrontOf}
use Rattle.octseq_text.specs.declared.str.commands.Command.{Command}
use Rattle.octseq_text.specs.declared.str.commands.Command.TheVariants as command
use Rattle.octseq_text.specs.declared.str.commands.Reply.{Reply}
use Rattle.octseq_text.specs.declared.str.commands.Reply.TheVariants as reply

-- More characters at the end, if the octets of all stay within the limit. If the type requests memory, that may be
-- refused.
abbrev pub AppendsCharacters : Option ℕ → Bool → List ℕ → List ℕ → Reply → List ℕ → Type 0
AppendsCharacters limit asks before more reply.Done after = IsWithin limit (length (octets_of (before ++ more)))
    × (after ≡ before ++ more)
AppendsCharacters limit asks before more reply.Short after = ExceedsLimit limit (length (octets_of (before ++ more)))
    × (after ≡ before)
AppendsCharacters limit asks before more reply.Memory after = IsWithin limit (length (octets_of (before ++ more)))
    × (asks ≡ true) × (after ≡ before)
AppendsCharacters limit asks before more _ after = ⊥

-- The reply for the result of an append.
abbrev pub append_reply : Result (Unit {0}) AppendError → Reply
append_reply (Ok _) = reply.Done
append_reply (Err (error.Short _)) = reply.Short
append_reply (Err error.Memory) = reply.Memory

-- The front that is exactly n octets, or all characters if there are no more octets than n.
abbrev pub CutsTo : ℕ → List ℕ → List ℕ → Type 0
CutsTo n before after = (length (octets_of before) ≤ n → after ≡ before)
    × (n < length (octets_of before) → IsFrontOf before n after)

-- A cut, or its refusal if no front is exactly n octets.
abbrev pub Cuts : List ℕ → ℕ → Reply → List ℕ → Type 0
Cuts before n r after = ((r ≡ reply.Done) × CutsTo n before after)
    ⊎ ((r ≡ reply.NoBoundary) × (n < length (octets_of before)) × ((front : List ℕ) → ¬ IsFrontOf before n front)
    × (after ≡ before))

-- The last character is removed, if there is one.
abbrev pub Pops : List ℕ → Option ℕ → List ℕ → Type 0
Pops before (Some c) after = before ≡ after ++ c ∷ []
Pops before None after = (before ≡ []) × (after ≡ [])

-- One command: its reply, and the characters after it.
abbrev pub TextStep : Option ℕ → Bool → List ℕ → Command → Reply → List ℕ → Type 0
TextStep limit asks before (command.PushStr s) r after = AppendsCharacters limit asks before (chars s.now) r after
TextStep limit asks before (command.Push c) r after = AppendsCharacters limit asks before (c ∷ []) r after
TextStep limit asks before (command.Truncate n) r after = Cuts before n r after
TextStep limit asks before command.Clear r after = (r ≡ reply.Done) × (after ≡ [])
TextStep limit asks before command.Pop r after = (last : Option ℕ) × (r ≡ reply.Popped last) × Pops before last after
TextStep limit asks before command.Len r after = (r ≡ reply.Len (length (octets_of before))) × (after ≡ before)
TextStep limit asks before (command.Is s) r after =
    (same : Bool) × (r ≡ reply.Is same) × (IsTrue same ↔ (before ≡ chars s.now)) × (after ≡ before)

-- A list of commands, with one reply each: every step starts from the characters that the step before left.
abbrev pub TextRun : Option ℕ → Bool → List ℕ → List Command → List Reply → List ℕ → Type 0
TextRun limit asks before [] [] after = after ≡ before
TextRun limit asks before (c ∷ commands) (r ∷ replies) after =
    (middle : List ℕ) × TextStep limit asks before c r middle × TextRun limit asks middle commands replies after
TextRun limit asks before [] (r ∷ replies) after = ⊥
TextRun limit asks before (c ∷ commands) [] after = ⊥

-- No reply says that a request for memory was refused.
abbrev pub IsWithoutMemory : List Reply → Type 0
IsWithoutMemory replies = AllByRecursion (λ r. r ≢ reply.Memory) replies
