-- What is made of a stream, and of an input as one item, step by step.
use Rattle.std.proofs.Common.{◌≡◌, ◌+◌, ◌∷◌, ◌++◌, ◌∙◌, ℕ, Bool, true, false, List, [], length, Option}
use Rattle.std.proofs.Common.{refl, sym, ap, append_assoc, append-nil, arith}
use Rattle.std.proofs.Math.Bool.{and-true, and_assoc}
use Rattle.std.specs.List.{AllByRecursion, flat_map}
use Rattle.std.specs.Prelude.{◌&&◌}
use Rattle.octseq.specs.Code.{HasFront, IsCode}
use Rattle.octseq_cli.proofs.Steps.{Done, Follows, IsTaken, Makes, both_steps, last_step}
use Rattle.octseq_cli.specs.Frames.{HavePieces, IsStreamOut, IsWholeOut, ends_as}
use Rattle.octseq_cli.specs.declared.status.Status.{Status}

-- what is made of octets and their number: whether they are valid, the output, and the note
abbrev pub MakesPieces : Type 1
MakesPieces = ℕ → List ℕ → Bool → List ℕ → List ℕ → Type 0

-- octets make one piece
abbrev pub IsOne : MakesPieces → Type 0
IsOne Is = (number : ℕ) (octets x y e f : List ℕ) (a b : Bool) → Is number octets a x e → Is number octets b y f
    → (a ≡ b) × (x ≡ y) × (e ≡ f)

-- an input makes one output
pub one_whole : (Is : List ℕ → Bool → List ℕ → List ℕ → Type 0)
    → ((octets x y e f : List ℕ) (a b : Bool) → Is octets a x e → Is octets b y f → (a ≡ b) × (x ≡ y) × (e ≡ f))
    → (input x y e f : List ℕ) (s t : Status) → IsWholeOut Is input x e s → IsWholeOut Is input y f t
    → (x ≡ y) × (e ≡ f) × (s ≡ t)
one_whole Is one input x y e f s t p q =
    let same = one input x y e f p.is_fine q.is_fine p.piece q.piece in
    (same.1, same.2, p.status_is ∙ ap ends_as same.0 ∙ sym q.status_is)

-- an input as one item
pub whole_step : (IsPiece : MakesPieces) → IsOne IsPiece → {input output note : List ℕ} {is_fine : Bool}
    → IsPiece 1 input is_fine output note
    → Follows (IsWholeOut (IsPiece 1)) (Done (ends_as is_fine)) input output note true
whole_step IsPiece one {input} {output} {note} {is_fine} piece =
    let is : IsWholeOut (IsPiece 1) input output note (ends_as is_fine) =
    record { is_fine = is_fine; piece = piece; status_is = refl } in
    last_step is (λ x e s it. one_whole (IsPiece 1) (one 1) input x output e note s (ends_as is_fine) it is)

-- what is made of the end of a stream, after frames of which all are valid or not, and what was made of them
abbrev MakesEnd : MakesPieces → ℕ → List ℕ → Bool → List ℕ → List ℕ → List ℕ → List ℕ → Status → Type 0
MakesEnd IsEnd number rest before text notes output errors status = (is_fine : Bool) × (ending : List ℕ)
    × (note : List ℕ) × IsEnd number rest is_fine ending note × (output ≡ text ++ ending) × (errors ≡ notes ++ note)
    × (status ≡ ends_as (before && is_fine))

module _ (Fits : List ℕ → Type 0) (code : List ℕ → List ℕ) (IsPiece IsEnd : MakesPieces) where
  -- what is made of a stream from this number on, after frames of which all are valid or not
  pub IsRest : ℕ → Bool → Makes
  IsRest number before input output errors status = (frames : List (List ℕ)) × (rest : List ℕ)
      × AllByRecursion Fits frames × (input ≡ flat_map code frames ++ rest) × (all : Bool) × (text : List ℕ)
      × (notes : List ℕ) × HavePieces IsPiece number frames all text notes
      × MakesEnd IsEnd (number + length frames) rest (before && all) text notes output errors status

  is_rest : {input x e : List ℕ} {s : Status} → IsStreamOut Fits code IsPiece IsEnd input x e s
      → IsRest 1 true input x e s
  unfolding IsRest
  is_rest {x = x} {e = e} {s = s} p =
      let end : MakesEnd IsEnd (1 + length p.frames) p.rest p.all p.text p.notes x e s =
      (p.is_fine, p.ending, p.note, p.ends, p.written, p.noted, p.status_is) in
      (p.frames, p.rest, p.fit, p.whole, p.all, p.text, p.notes, p.pieces, end)

  -- a stream is a rest from its first frame on
  pub first_step : Follows (IsStreamOut Fits code IsPiece IsEnd) (IsRest 1 true) [] [] [] false
  unfolding IsRest
  first_step = record {
    due = λ more all notes status nothing is. (all, notes, is_rest is, refl, refl);
    made = λ more x e s (
      frames,
      rest,
      fit,
      whole,
      all,
      text,
      notes,
      pieces,
      (is_fine, ending, note, ends, written, noted, status_is),
    ). record {
      frames = frames;
      rest = rest;
      fit = fit;
      whole = whole;
      all = all;
      text = text;
      notes = notes;
      pieces = pieces;
      is_fine = is_fine;
      ending = ending;
      note = note;
      ends = ends;
      written = written;
      noted = noted;
      status_is = status_is;
    };
  }

  -- The laws of a command: a stream is frames in one way, no frame is at the front of a rest, and each makes one piece.
  pub record IsLawful : Type 0 where
    pub apart : IsCode Fits code
    pub none : (number : ℕ) (octets written note : List ℕ) (is_fine : Bool) → IsEnd number octets is_fine written note
        → ¬ HasFront Fits code octets
    pub one_piece : IsOne IsPiece
    pub one_end : IsOne IsEnd

module _ {Fits : List ℕ → Type 0} {code : List ℕ → List ℕ} {IsPiece IsEnd : MakesPieces}
    (laws : IsLawful Fits code IsPiece IsEnd) where
  module _ (number : ℕ) (before is_fine : Bool) (octets written note : List ℕ) where
    frame_due : Fits octets → IsPiece number octets is_fine written note → (more x e : List ℕ) (s : Status)
        → IsRest Fits code IsPiece IsEnd number before (code octets ++ more) x e s
        → (y : List ℕ) × (f : List ℕ) × IsRest Fits code IsPiece IsEnd (number + 1) (before && is_fine) more y f s
        × (x ≡ written ++ y) × (e ≡ note ++ f)
    unfolding IsRest
    frame_due fits piece more x e s ([], rest, fit, whole, all, text, notes, pieces, end) =
        absurd (laws.none _ rest end.1 end.2 end.0 end.3 (octets, more, fits, sym whole))
    frame_due fits piece more x e s (
      (m ∷ frames),
      rest,
      (suits, fit),
      whole,
      all,
      text,
      notes,
      (a, w, l, others, y, f, is, has, p, q, r),
      (fine, ending, line, ends, o, n, status_is),
    ) =
        let first = laws.apart octets m more (flat_map code frames ++ rest) fits suits
        (whole ∙ append_assoc (code m) (flat_map code frames) rest) in
        let same = laws.one_piece number octets written w note l is_fine a piece (rw (← first.0) at is) in
        let on : number + length (m ∷ frames) ≡ number + 1 + length frames = omega arith in
        let all_are = rw (p, ← same.0, ← and_assoc before is_fine others) at status_is in
        let end : MakesEnd IsEnd (number + 1 + length frames) rest ((before && is_fine) && others) y f (y ++ ending)
        (f ++ line) s = (fine, ending, line, rw on at ends, refl, refl, all_are) in (
          y ++ ending,
          f ++ line,
          (frames, rest, fit, first.1, others, y, f, has, end),
          cc (same.1, append_assoc w y ending),
          cc (same.2, append_assoc l f line),
        )

    -- one frame
    pub frame_step : Fits octets → IsPiece number octets is_fine written note
        → Follows (IsRest Fits code IsPiece IsEnd number before)
        (IsRest Fits code IsPiece IsEnd (number + 1) (before && is_fine)) (code octets) written note false
    unfolding IsRest
    frame_step fits piece = record {
      due = λ more x e s nothing. frame_due fits piece more x e s;
      made = λ more y f s (
        frames,
        rest,
        fit,
        whole,
        all,
        text,
        notes,
        pieces,
        (fine, ending, line, ends, o, n, status_is),
      ).
          let on : number + 1 + length frames ≡ number + length (octets ∷ frames) = omega arith in
          let all_are = rw (and_assoc before is_fine all) at status_is in (
            octets ∷ frames,
            rest,
            (fits, fit),
            ap (λ l. code octets ++ l) whole ∙ sym (append_assoc (code octets) (flat_map code frames) rest),
            is_fine && all,
            written ++ text,
            note ++ notes,
            (is_fine, written, note, all, text, notes, piece, pieces, refl, refl, refl),
            (
              fine,
              ending,
              line,
              rw on at ends,
              cc (append_assoc written text ending),
              cc (append_assoc note notes line),
              all_are,
            ),
          );
    }

    end_due : IsEnd number octets is_fine written note → (x e : List ℕ) (s : Status)
        → IsRest Fits code IsPiece IsEnd number before octets x e s
        → (x ≡ written) × (e ≡ note) × (s ≡ ends_as (before && is_fine))
    unfolding IsRest
    end_due is x e s ([], rest, fit, whole, all, text, notes, (a, t, m), (fine, ending, line, ends, o, n, status_is)) =
        let here : number + 0 ≡ number = omega arith in
        let same = laws.one_end number octets written ending note line is_fine fine is (rw (here, ← whole) at ends) in (
          o ∙ ap (λ l. l ++ ending) t ∙ sym same.1,
          n ∙ ap (λ l. l ++ line) m ∙ sym same.2,
          rw (a, and-true, ← same.0) at status_is,
        )
    end_due is x e s ((m ∷ frames), rest, (suits, fit), whole, others, text, notes, pieces, end) =
        let more = flat_map code frames ++ rest in
        absurd (laws.none number octets written note is_fine is
        (m, more, suits, whole ∙ append_assoc (code m) (flat_map code frames) rest))

    -- the rest after the last frame
    pub end_step : IsEnd number octets is_fine written note
        → Follows (IsRest Fits code IsPiece IsEnd number before)
        (Done (ends_as (before && is_fine))) octets written note
        true
    unfolding IsRest
    end_step is =
        let here : number ≡ number + 0 = omega arith in
        let end : MakesEnd IsEnd (number + 0) octets (before && true) [] [] written note (ends_as (before && is_fine)) =
        (is_fine, written, note, rw here at is, refl, refl, ap (λ b. ends_as (b && is_fine)) (sym (and-true before))) in
        last_step ([], octets, tt, refl, true, [], [], (refl, refl, refl), end) (end_due is)

  -- all frames and the rest
  stream_step : (frames : List (List ℕ)) (number : ℕ) (before all is_fine : Bool) (rest text notes ending note : List ℕ)
      → AllByRecursion Fits frames → HavePieces IsPiece number frames all text notes
      → IsEnd (number + length frames) rest is_fine ending note
      → Follows (IsRest Fits code IsPiece IsEnd number before) (Done (ends_as ((before && all) && is_fine)))
      (flat_map code frames ++ rest) (text ++ ending) (notes ++ note) true
  stream_step [] number before all is_fine rest text notes ending note fit (a, t, n) ends =
      let here : number + 0 ≡ number = omega arith in
      rw (a, and-true, t, n) (end_step number before is_fine rest ending note (rw here at ends))
  stream_step (m ∷ frames) number before all is_fine rest text notes ending note (fits, fit)
      (a, w, l, others, y, f, is, has, p, q, r) ends =
      let on : number + length (m ∷ frames) ≡ number + 1 + length frames = omega arith in
      let steps = both_steps (frame_step number before a m w l fits is)
      (stream_step frames (number + 1) (before && a) others is_fine rest y f ending note fit has (rw on at ends)) in
      rw (p, q, r, append_assoc, append_assoc w y ending, append_assoc l f note, ← and_assoc before a others) steps

-- a stream makes one output
pub one_stream : (Fits : List ℕ → Type 0) (code : List ℕ → List ℕ) (IsPiece IsEnd : MakesPieces) → IsCode Fits code
    → IsOne IsPiece → ((number : ℕ) (octets written note : List ℕ) (is_fine : Bool)
    → IsEnd number octets is_fine written note → ¬ HasFront Fits code octets) → IsOne IsEnd
    → (input x y e f : List ℕ) (s t : Status) → IsStreamOut Fits code IsPiece IsEnd input x e s
    → IsStreamOut Fits code IsPiece IsEnd input y f t → (x ≡ y) × (e ≡ f) × (s ≡ t)
one_stream Fits code IsPiece IsEnd apart one_piece none one_end input x y e f s t p q =
    let laws : IsLawful Fits code IsPiece IsEnd =
    record { apart = apart; none = none; one_piece = one_piece; one_end = one_end } in
    let steps = both_steps (first_step Fits code IsPiece IsEnd)
    (stream_step laws p.frames 1 true p.all p.is_fine p.rest p.text p.notes p.ending p.note p.fit p.pieces p.ends) in
    let same = steps.due [] y f t (λ _. refl) (rw append-nil (rw p.whole at q)) in
    let done = same.2 in (
      p.written ∙ sym (same.3 ∙ ap (λ l. (p.text ++ p.ending) ++ l) done.all_written ∙ append-nil _),
      p.noted ∙ sym (same.4 ∙ ap (λ l. (p.notes ++ p.note) ++ l) done.all_noted ∙ append-nil _),
      p.status_is ∙ sym done.status_is,
    )

-- Of what was read, this many frames were processed, of which all are valid or not.
pub record IsStreamed (Fits : List ℕ → Type 0) (code : List ℕ → List ℕ) (IsPiece IsEnd : MakesPieces)
    (given left before now noted reported : Option (List ℕ)) (count : ℕ) (all is_noted : Bool) : Type 0 where
  pub laws : IsLawful Fits code IsPiece IsEnd
  pub taken : IsTaken (IsStreamOut Fits code IsPiece IsEnd) (IsRest Fits code IsPiece IsEnd (count + 1) all) given left
      before now noted reported true is_noted false
