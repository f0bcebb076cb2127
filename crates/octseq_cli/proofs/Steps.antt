-- Runs that write what is due step by step.
use Rattle.std.proofs.Common.{◌≡◌, ◌++◌, ◌∙◌, ℕ, Bool, true, false, List, [], Option, Result, Err}
use Rattle.std.proofs.Common.{refl, sym, ap, subst, append_assoc, append-nil}
use Rattle.std.proofs.KnownBytes.{Appends-nil, Appends-trans, Consumes-all, Consumes-nil, Consumes-trans}
use Rattle.std.specs.Io.KnownBytes.{Appends, Consumes, IsAtEnd}
use Rattle.std.specs.Prelude.{IfOk, IsTrue, OnErr, OnOk}
use Rattle.octseq.specs.Parts.{StartsWith}
use Rattle.octseq_cli.specs.Frames.{IsNoted, ended_as, ends_as}
use Rattle.octseq_cli.specs.Run.{Answers, BreaksOff, IsPartWritten, Unnoted}
use Rattle.octseq_cli.specs.declared.status.ProgramFault.{ProgramFault}
use Rattle.octseq_cli.specs.declared.status.ProgramFault.TheVariants.{Note}
use Rattle.octseq_cli.specs.declared.status.Status.{Status}

-- what is made of an input: the output, the notes, and how the program ends
abbrev pub Makes : Type 1
Makes = List ℕ → List ℕ → List ℕ → Status → Type 0

-- Nothing is left to read or to write, and the program ends like this.
pub record Done (ends : Status) (input output errors : List ℕ) (status : Status) : Type 0 where
  pub all_read : input ≡ []
  pub all_written : output ≡ []
  pub all_noted : errors ≡ []
  pub status_is : status ≡ ends

-- Of an input that begins with what was read, this output and these notes are made first, and then what `next` makes of
-- the rest, or of nothing at the end.
pub record Follows (out next : Makes) (read output errors : List ℕ) (is_end : Bool) : Type 0 where
  pub due : (more all notes : List ℕ) (status : Status) → (IsTrue is_end → more ≡ [])
      → out (read ++ more) all notes status → (others : List ℕ) × (lines : List ℕ) × next more others lines status
      × (all ≡ output ++ others) × (notes ≡ errors ++ lines)
  pub made : (more others lines : List ℕ) (status : Status) → next more others lines status
      → out (read ++ more) (output ++ others) (errors ++ lines) status

module _ {a b c : Makes} {read output errors more others lines : List ℕ} {is_end : Bool} where
  -- one step after another
  pub both_steps : Follows a b read output errors false → Follows b c more others lines is_end
      → Follows a c (read ++ more) (output ++ others) (errors ++ lines) is_end
  both_steps first second = record {
    due = λ rest all notes status nothing is.
        let one = first.due (more ++ rest) all notes status (λ end. absurd (cc)) (rw append_assoc at is) in
        let two = second.due rest one.0 one.1 status nothing one.2 in (
          two.0,
          two.1,
          two.2,
          one.3 ∙ ap (λ l. output ++ l) two.3 ∙ sym (append_assoc output others two.0),
          one.4 ∙ ap (λ l. errors ++ l) two.4 ∙ sym (append_assoc errors lines two.1),
        );
    made = λ rest x e status is.
        simp append_assoc (first.made (more ++ rest) (others ++ x) (lines ++ e) status
        (second.made rest x e status is));
  }

-- octets are read for which nothing is due yet
pub read_on : (out : Makes) (read : List ℕ) → Follows out (λ more. out (read ++ more)) read [] [] false
read_on out read = record {
  due = λ more all notes status nothing is. (all, notes, is, refl, refl);
  made = λ more others lines status is. is;
}

-- an input of which exactly this is made is read to its end
pub last_step : {out : Makes} {input output errors : List ℕ} {ends : Status} → out input output errors ends
    → ((x e : List ℕ) (s : Status) → out input x e s → (x ≡ output) × (e ≡ errors) × (s ≡ ends))
    → Follows out (Done ends) input output errors true
last_step {input = input} {output = output} {errors = errors} is only = record {
  due = λ more all notes status nothing it.
      let none = nothing refl in
      let same = only all notes status (rw (none, append-nil) at it) in (
        [],
        [],
        record { all_read = none; all_written = refl; all_noted = refl; status_is = same.2 },
        same.0 ∙ sym (append-nil output),
        same.1 ∙ sym (append-nil errors),
      );
  made = λ more others lines status done.
      simp (done.all_read, done.all_written, done.all_noted, done.status_is, append-nil) is;
}

-- a part of what follows a part
noted_more : (b c : Bool) (all note : List ℕ) (before mid after : Option (List ℕ)) → IsNoted true b all before mid
    → IsNoted b c note mid after → IsNoted true c (all ++ note) before after
noted_more true true all note before mid after (part, is, wrote) (line, whole, more) =
    (part ++ line, cc, Appends-trans before mid after part line wrote more)
noted_more true false all note before mid after (part, is, wrote) (line, (rest, front), more) = (
  part ++ line,
  (rest, cc (append_assoc part line rest)),
  Appends-trans before mid after part line wrote more,
)
noted_more false true all note before mid after noted (e, more) = absurd (cc)
noted_more false false all note before mid after (part, (rest, front), wrote) (e, more) = (
  part ++ [],
  (rest ++ note, cc (append_assoc part rest note, append-nil part)),
  Appends-trans before mid after part [] wrote more,
)

-- a part of the first of two parts is a front of both
pub part_front : (b : Bool) (part first second all : List ℕ) → IsPartWritten b part first → all ≡ first ++ second
    → StartsWith part all
part_front true part first second all is e = (second, cc)
part_front false part first second all (rest, is) e = (rest ++ second, cc (append_assoc part rest second))

-- nothing was written of a note
pub not_noted : (b : Bool) (note : List ℕ) {before after : Option (List ℕ)} → after ≡ before
    → IsNoted b false note before after
not_noted true note {before} e =
    ([], (note, refl), subst (λ after. Appends before after []) (sym e) (Appends-nil before))
not_noted false note {before} e = (refl, subst (λ after. Appends before after []) (sym e) (Appends-nil before))

-- What was read and what is due for it were read and written, or only fronts of the output or the notes.
pub record IsTaken (out next : Makes) (given left before now noted reported : Option (List ℕ))
    (is_written is_noted is_end : Bool) : Type 0 where
  pub read : List ℕ
  pub output : List ℕ
  pub errors : List ℕ
  pub consumed : Consumes given left read
  pub follows : Follows out next read output errors is_end
  pub shown : IsNoted true is_written output before now
  pub told : IsNoted true is_noted errors noted reported

-- nothing was read
pub taken_none : {out next : Makes} {given before noted : Option (List ℕ)} → Follows out next [] [] [] false
    → IsTaken out next given given before before noted noted true true false
taken_none {given = given} {before = before} {noted = noted} follows = record {
  read = [];
  output = [];
  errors = [];
  consumed = Consumes-nil given;
  follows = follows;
  shown = ([], refl, Appends-nil before);
  told = ([], refl, Appends-nil noted);
}

module _ {out mid : Makes} {given left before now noted reported : Option (List ℕ)} {is_noted : Bool}
    (so_far : IsTaken out mid given left before now noted reported true is_noted false) where
  -- one more step
  pub taken_more : {next : Makes} {rest after line : Option (List ℕ)} {got written note : List ℕ} {is_end : Bool}
      (c d : Bool) → Consumes left rest got → Follows mid next got written note is_end
      → IsNoted true c written now after
      → IsNoted is_noted d note reported line → IsTaken out next given rest before after noted line c d is_end
  taken_more {rest = rest} {after = after} {line = line} {got = got} {written = written}
      {note = note} c d consumed follows shown told = record {
        read = so_far.read ++ got;
        output = so_far.output ++ written;
        errors = so_far.errors ++ note;
        consumed = Consumes-trans given left rest so_far.read got so_far.consumed consumed;
        follows = both_steps so_far.follows follows;
        shown = noted_more true c so_far.output written before now after so_far.shown shown;
        told = noted_more is_noted d so_far.errors note noted reported line so_far.told told;
      }

module _ {out next : Makes} {given left before now noted reported : Option (List ℕ)} {is_written is_noted is_end : Bool}
    (taken : IsTaken out next given left before now noted reported is_written is_noted is_end) where
  -- the run failed
  pub broken : (IsTrue is_end → IsAtEnd left) → BreaksOff out given left before now noted reported
  broken ended = record {
    read = taken.read;
    consumed = taken.consumed;
    is_end = is_end;
    ended = ended;
    output = taken.shown.0;
    errors = taken.told.0;
    written = taken.shown.2;
    noted = taken.told.2;
    fronts = λ more all notes status nothing is.
        let first = taken.follows.due more all notes status nothing is in (
          part_front is_written taken.shown.0 taken.output first.0 all taken.shown.1 first.3,
          part_front is_noted taken.told.0 taken.errors first.1 notes taken.told.1 first.4,
        );
  }

-- reading failed after what was taken
pub broke_reading : {out mid : Makes} {given left before now noted reported : Option (List ℕ)} {is_noted : Bool}
    → IsTaken out mid given left before now noted reported true is_noted false → (rest : Option (List ℕ))
    → ((read : List ℕ) × Consumes left rest read) → BreaksOff out given rest before now noted reported
broke_reading {mid = mid} {now = now} {is_noted = is_noted} so_far rest (read, consumed) =
    broken (taken_more so_far true false consumed (read_on mid read) ([], refl, Appends-nil now)
    (not_noted is_noted [] refl)) (λ end. absurd (cc))

-- what holds of a run, by its result
abbrev pub IsRun : Makes → Option (List ℕ) → Option (List ℕ) → Option (List ℕ) → Option (List ℕ) → Option (List ℕ)
    → Option (List ℕ) → Result Status ProgramFault → Type 0
IsRun out given left before now noted reported result =
    IfOk result (Answers out given before now noted reported) × OnOk result (IsAtEnd left)
    × OnErr result (BreaksOff out given left before now noted reported)
    × (result ≡ Err Note → Unnoted out given left before now noted reported)

module _ {out : Makes} {ends : Status} {given left before now noted reported : Option (List ℕ)} {is_noted : Bool}
    (taken : IsTaken out (Done ends) given left before now noted reported true is_noted true) where
  -- the output and the notes are those of what was read
  made_whole : out taken.read taken.output taken.errors ends
  made_whole =
      let done : Done ends [] [] [] ends =
      record { all_read = refl; all_written = refl; all_noted = refl; status_is = refl } in
      simp append-nil at (taken.follows.made [] [] [] ends done)

-- a run that wrote its whole output, by whether it wrote all notes
pub run_ended : {out : Makes} {given left before now noted reported : Option (List ℕ)}
    {result : Result Status ProgramFault}
    (all is_noted : Bool) → result ≡ ended_as all is_noted
    → IsTaken out (Done (ends_as all)) given left before now noted reported true is_noted true → IsAtEnd left
    → IsRun out given left before now noted reported result
run_ended {out} {given} {left} {before} {now} {noted} {reported} all true e taken end =
    subst (IsRun out given left before now noted reported) (sym e) (
      record {
        input = taken.read;
        whole = Consumes-all given left taken.read [] taken.read taken.consumed end refl;
        output = taken.output;
        errors = taken.errors;
        answered = made_whole taken;
        written = subst (Appends before now) taken.shown.1 taken.shown.2;
        noted = subst (Appends noted reported) taken.told.1 taken.told.2;
      },
      end,
      tt,
      λ f. absurd (cc),
    )
run_ended {out} {given} {left} {before} {now} {noted} {reported} all false e taken end =
    subst (IsRun out given left before now noted reported) (sym e) (
      tt,
      tt,
      broken taken (λ _. end),
      λ _. record {
        input = taken.read;
        whole = Consumes-all given left taken.read [] taken.read taken.consumed end refl;
        ended = end;
        output = taken.output;
        errors = taken.errors;
        status = ends_as all;
        answered = made_whole taken;
        written = subst (Appends before now) taken.shown.1 taken.shown.2;
        part = taken.told.0;
        is_front = taken.told.1;
        noted = taken.told.2;
      },
    )
