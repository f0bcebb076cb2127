-- Steps of parsers, seen as steps of their windows.
use Rattle.std.proofs.Common.{◌≡◌, ℕ, ◌<◌, Bool, Option, Some, List, [], ◌++◌}
use Rattle.std.proofs.Common.{length, get_or, map, refl, sym, ap, ◌∙◌, subst}
use Rattle.std.proofs.lemmas.List.{append-nil, map-append, map-set, length-map}
use Rattle.std.proofs.lemmas.Option.{slice_get-map, slice_get_read}
use Rattle.std.specs.Option.{option_map}
use Rattle.std.specs.Prelude.{slice_get, slice_set}
use Rattle.octseq.specs.WindowReply.{WindowReply}
use Rattle.octseq.specs.WindowRun.{Outcome, outcome, Does, StepOn, WindowStep}
use Rattle.octseq.specs.Window.{Window}
use Rattle.octseq.specs.declared.parse.commands.ParserCommand.{ParserCommand}

-- The parser with the command's number is replaced by the result of the call, and the parsers that the call made come
-- after the others.
pub step_of : {P : Type 0} (view : P → Window) (asks : Bool) (command : ParserCommand) (count : ℕ)
    (ps new made : List P) (before after : P) (reply : WindowReply)
    → count ≡ length ps → command.parser < count → before ≡ get_or ps command.parser before
    → Does asks (view before) (outcome count (view before) command.call) (record {
      reply = reply;
      window = view after;
      added = map view made;
    })
    → new ≡ slice_set ps command.parser after ++ made
    → WindowStep asks (map view ps) command reply (map view new)
step_of view asks command count ps new made before after reply counted within read does new_is =
    let done : Outcome = record { reply = reply; window = view after; added = map view made } in
    let found : slice_get (map view ps) command.parser ≡ Some (view before) =
    slice_get-map view ps command.parser
    ∙ ap (option_map view) (slice_get_read ps count command.parser before counted within read) in
    let all : count ≡ length (map view ps) = counted ∙ sym (length-map ps view) in
    let left : map view new ≡ slice_set (map view ps) command.parser (view after) ++ map view made =
    ap (map view) new_is ∙ map-append view _ _ ∙ ap (λ windows. windows ++ map view made)
    (map-set view ps command.parser after) in
    let D : ℕ → Type 0 = λ n. Does asks (view before) (outcome n (view before) command.call) done in
    let S : Option Window → Type 0 = λ w. StepOn w asks (map view ps) command reply (map view new) in
    subst S (sym found) (done, subst D all does, refl, left)

-- the same if no parser is made
pub step_alone : {P : Type 0} (view : P → Window) (asks : Bool) (command : ParserCommand) (count : ℕ) (ps : List P)
    (before after : P) (reply : WindowReply)
    → count ≡ length ps → command.parser < count → before ≡ get_or ps command.parser before
    → Does asks (view before) (outcome count (view before) command.call) (record {
      reply = reply;
      window = view after;
      added = [];
    })
    → WindowStep asks (map view ps) command reply (map view (slice_set ps command.parser after))
step_alone view asks command count ps before after reply counted within read does =
    step_of view asks command count ps _ [] before after reply counted within read does (sym (append-nil _))
