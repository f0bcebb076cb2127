-- A header was read, and the octets that follow it.
use Rattle.std.proofs.Common.{◌≡◌, ◌-◌, ◌<◌, ◌++◌, ◌∙◌, ℕ, Bool, List, [], length, Option, sym, ap, subst}
use Rattle.std.proofs.Common.{append_assoc, arith}
use Rattle.std.proofs.KnownBytes.{Consumes-trans}
use Rattle.std.proofs.lemmas.List.{append-nil, length-append, length-replicate}
use Rattle.std.specs.Io.KnownBytes.{Consumes, IsAtEnd}
use Rattle.std.specs.Prelude.{replicate}
use Rattle.octseq.specs.Code.{HasFront, IsCode}
use Rattle.octseq_stream.specs.Frames.{IsCut, IsFramingHeader, kept_of}

module _ (size : ℕ) (is_kept : Bool) (Fits : List ℕ → Type 0) (code : List ℕ → List ℕ) where
  -- octets after a header that are fewer than it says, filled up
  abbrev filled : (read : List ℕ) (more : ℕ) → List ℕ
  filled read more = read ++ replicate (more - length read) 0

  filled_long : (read : List ℕ) (more : ℕ) → length read < more → length (filled read more) ≡ more
  filled_long read more few =
      let both = length-append read (replicate (more - length read) 0) in
      let zeros = length-replicate {A = ℕ} (more - length read) 0 in
      omega (arith, few, both, zeros)

  -- a header and fewer octets than it says don't begin with a frame
  pub no_whole : IsCode Fits code → (header read : List ℕ) (more : ℕ)
      → IsFramingHeader size is_kept Fits code header more
      → length read < more → ¬ HasFront Fits code (header ++ read)
  no_whole apart header read more is few (a, rest, fits, e) =
      let zeros = replicate (more - length read) 0 in
      let body = filled read more in
      let long = filled_long read more few in
      let all = kept_of is_kept header ++ body in
      let same : code all ++ [] ≡ code a ++ (rest ++ zeros) =
      append-nil (code all) ∙ is.whole body long ∙ sym (append_assoc header read zeros)
      ∙ ap (λ front. front ++ zeros) e ∙ append_assoc (code a) rest zeros in
      let both = apart all a [] (rest ++ zeros) (is.fits body long) fits same in
      let none = ap length both.1 in
      let count = length-append rest zeros in
      let some = length-replicate {A = ℕ} (more - length read) 0 in
      omega (arith, few, none, count, some)

  -- nor are they misframed, if no frame begins with misframed octets
  pub not_misframed : (IsMisframed : List ℕ → Type 0)
      → ((octets more : List ℕ) → IsMisframed octets → ¬ HasFront Fits code (octets ++ more))
      → (header read : List ℕ) (more : ℕ) → IsFramingHeader size is_kept Fits code header more → length read < more
      → ¬ IsMisframed (header ++ read)
  not_misframed IsMisframed none header read more is few misframed =
      let zeros = replicate (more - length read) 0 in
      let body = filled read more in
      let long = filled_long read more few in
      let all = kept_of is_kept header ++ body in
      none (header ++ read) zeros misframed (
        all,
        [],
        is.fits body long,
        append_assoc header read zeros ∙ sym (is.whole body long) ∙ sym (append-nil (code all)),
      )

  -- reading stopped after a header
  pub after_header : IsCode Fits code → (given mid left : Option (List ℕ)) (header read : List ℕ) (more : ℕ)
      → IsFramingHeader size is_kept Fits code header more → Consumes given mid header → length read < more
      → Consumes mid left read → (octets : List ℕ) × ¬ HasFront Fits code octets × Consumes given left octets
  after_header apart given mid left header read more is first few second = (
    header ++ read,
    no_whole apart header read more is few,
    Consumes-trans given mid left header read first second,
  )

  -- the input ended after a header
  pub cut_after_header : IsCode Fits code → (IsMisframed : List ℕ → Type 0)
      → ((octets more : List ℕ) → IsMisframed octets → ¬ HasFront Fits code (octets ++ more))
      → (given mid left : Option (List ℕ)) (header read : List ℕ) (more : ℕ)
      → 0 < size → IsFramingHeader size is_kept Fits code header more → Consumes given mid header → length read < more
      → Consumes mid left read → IsAtEnd left
      → (octets : List ℕ) × IsCut Fits code IsMisframed octets × Consumes given left octets × IsAtEnd left
  cut_after_header apart IsMisframed none given mid left header read more some is first few second end =
      let all = length-append header read in
      let long = is.long in (
        header ++ read,
        (
          omega (arith, some, long, all),
          not_misframed IsMisframed none header read more is few,
          no_whole apart header read more is few,
        ),
        Consumes-trans given mid left header read first second,
        end,
      )

  -- a header and the octets after it were read
  pub whole_frame : (given mid left : Option (List ℕ)) (header read octets : List ℕ) (more : ℕ)
      → IsFramingHeader size is_kept Fits code header more → Consumes given mid header → length read ≡ more
      → octets ≡ kept_of is_kept header ++ read → Consumes mid left read
      → Fits octets × Consumes given left (code octets)
  whole_frame given mid left header read octets more is first all same second =
      let whole = is.whole read all in (
        subst Fits (sym same) (is.fits read all),
        subst (Consumes given left) (sym (ap code same ∙ whole))
            (Consumes-trans given mid left header read first second),
      )
