-- Runs that write a text of their own, whatever the input.
use Rattle.std.proofs.Common.{◌≡◌, ◌∙◌, ℕ, Bool, true, false, List, [], Option, Some, None, refl, sym, append-nil}
use Rattle.std.proofs.KnownBytes.{Consumes-nil}
use Rattle.std.specs.Io.KnownBytes.{Appends}
use Rattle.std.specs.Prelude.{IfSome, unwrap_or}
use Rattle.octseq_cli.proofs.Steps.{Makes, part_front}
use Rattle.octseq_cli.specs.Frames.{IsNoted}
use Rattle.octseq_cli.specs.Run.{Answers, BreaksOff}
use Rattle.octseq_cli.specs.declared.status.Status.{Status}

-- octets in place of others, if those are known
known : (given : Option (List ℕ)) → IfSome given (λ octets. unwrap_or given [] ≡ octets)
known (Some octets) = refl
known None = tt

module _ {out : Makes} {given before after noted line : Option (List ℕ)} (output errors : List ℕ) where
  -- it was written
  pub answered_always : {ends : Status} → ((input : List ℕ) → out input output errors ends)
      → Appends before after output → Appends noted line errors → Answers out given before after noted line ends
  answered_always is written reported = record {
    input = unwrap_or given [];
    whole = known given;
    output = output;
    errors = errors;
    answered = is (unwrap_or given []);
    written = written;
    noted = reported;
  }

  -- or a front of it
  pub broke_always : (b c : Bool)
      → ((input x e : List ℕ) (s : Status) → out input x e s → (x ≡ output) × (e ≡ errors))
      → IsNoted true b output before after → IsNoted true c errors noted line
      → BreaksOff out given given before after noted line
  broke_always b c only shown told = record {
    read = [];
    consumed = Consumes-nil given;
    is_end = false;
    ended = λ end. absurd (cc);
    output = shown.0;
    errors = told.0;
    written = shown.2;
    noted = told.2;
    fronts = λ more all notes status nothing is.
        let same = only more all notes status is in (
          part_front b shown.0 output [] all shown.1 (same.0 ∙ sym (append-nil output)),
          part_front c told.0 errors [] notes told.1 (same.1 ∙ sym (append-nil errors)),
        );
  }
