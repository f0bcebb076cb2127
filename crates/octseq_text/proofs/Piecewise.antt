-- A lossy reading in pieces: what is read from a piece, and what is held afterwards.
use Rattle.std.specs.Prelude.{is_some, IsTrue, ◌==◌}
use Rattle.std.proofs.Common.{Bool, true, false, ◌≡◌, ◌≢◌, ℕ, ◌+◌, ◌≤◌, List, [], ◌∷◌, ◌++◌}
use Rattle.std.proofs.Common.{map, length, get_or, refl, arith, ◌⊎◌, inl, inr, ⊎_elim, ap}
use Rattle.std.proofs.Common.{sym, ◌∙◌, subst, append_assoc, length-append, Option, Some, None}
use Rattle.std.proofs.lemmas.Bool.{eqb-true}
use Rattle.std.proofs.lemmas.List.{append-nil, nil_from_length}
use Rattle.octseq_core.specs.Limit.{IsWithin, ExceedsLimit}
use Rattle.octseq_core.specs.declared.builder.AppendError.{AppendError}
use Rattle.octseq_utf8.specs.Chunk.{Chunk, IsFirstChunk}
use Rattle.octseq_utf8.specs.Encoding.{encoding_of}
use Rattle.octseq_utf8.specs.Parts.{IsBeginning, IsBadPart, Part, Char, Bad, Splits, nothing, text}
use Rattle.octseq_text.specs.Pieces.{Settles, open_end, no_end, Held, HasRead, IsSound}
use Rattle.octseq_utf8.specs.Reading.{parts_of}
use Rattle.octseq_text.specs.Progress.{ReadsParts, HasReadParts, IsTextTooLong, IsOpenEnd}
use Rattle.octseq_utf8.specs.Text.{Spells, IsWellFormed}
use Rattle.octseq_utf8.proofs.Fits.{beginning_short}
use Rattle.octseq_utf8.proofs.LossyTexts.{replacement_is_character, text_well_formed}
use Rattle.octseq_core.proofs.Limits.{past_more}
use Rattle.octseq_utf8.proofs.Fits.{width_le}
use Rattle.octseq_text.proofs.Settling.{reads_none, reads_more, reads_then, reads_good, reads_bad, settles_reads}
use Rattle.octseq_text.proofs.Settling.{one_settling, reads_settles, text-append, text-chars, text_read, snoc_some}
use Rattle.octseq_utf8.proofs.Splitting.{splits, one_splitting}

-- the text grows

-- if no part is read, all octets are left, and the text is unchanged
pub read_none : (x a : List ℕ) → HasReadParts x x a a
read_none x a = record { parts = []; reads = reads_none x; grown = sym (append-nil a) }

-- a reading followed by a reading of the rest is one reading
pub read_then : {x y z a b c : List ℕ} → HasReadParts x y a b → HasReadParts y z b c → HasReadParts x z a c
read_then {x} {y} {z} {a} s t = record {
  parts = s.parts ++ t.parts;
  reads = reads_then x y z s.parts t.parts s.reads t.reads;
  grown = t.grown ∙ ap (λ u. u ++ text t.parts) s.grown ∙ append_assoc a (text s.parts) (text t.parts)
      ∙ ap (λ u. a ++ u) (sym (text-append s.parts t.parts));
}

-- what was appended is read
pub read_more : {x y z t : List ℕ} (a made seen more : List ℕ) → HasReadParts x y t a → made ≡ a ++ seen → seen ≡ more
    → HasReadParts y z a (a ++ more) → HasReadParts x z t made
read_more {x} {z = z} {t = t} a made seen more s m e r =
    subst (HasReadParts x z t) (sym (m ∙ ap (λ y. a ++ y) e)) (read_then s r)

-- what can't be appended is too long
pub too_long : (limit : Option ℕ) (more seen : List ℕ) {x y z a b : List ℕ} → seen ≡ more → HasReadParts x y a b
    → HasReadParts y z b (b ++ more) → ExceedsLimit limit (length b + length seen) → IsTextTooLong limit x a
too_long limit more seen {z = z} {b = b} e s t p = record {
  rest = z;
  new = b ++ more;
  read = read_then s t;
  past = subst (ExceedsLimit limit) (ap (λ y. length b + length y) e ∙ sym (length-append b more)) p;
}

-- octets of which some parts were read are too long if the rest is
pub too_long_then : {limit : Option ℕ} {x y a b : List ℕ} → HasReadParts x y a b → IsTextTooLong limit y b
    → IsTextTooLong limit x a
too_long_then s t = record { rest = t.rest; new = t.new; read = read_then s t.read; past = t.past }

-- a bad part is read as the replacement
pub read_bad : (p s a : List ℕ) → ReadsParts (p ++ s) s (Bad p ∷ [])
    → HasReadParts (p ++ s) s a (a ++ encoding_of 0xFFFD)
read_bad p s a r = record {
  parts = Bad p ∷ [];
  reads = r;
  grown = ap (λ u. a ++ u) (sym (append-nil (encoding_of 0xFFFD)));
}

-- well-formed octets are read as they are
pub read_good : {g cs : List ℕ} (z a : List ℕ) → Spells g cs → HasReadParts (g ++ z) z a (a ++ g)
read_good {g} {cs} z a s = record {
  parts = map Char cs;
  reads = reads_good z s;
  grown = ap (λ u. a ++ u) (sym (text-chars s));
}

-- at a chunk
module _ (x : List ℕ) (chunk : Chunk) (after : List ℕ) (c : IsFirstChunk x chunk after) where
  -- what is valid is read
  pub read_valid : (a : List ℕ) → HasReadParts x (chunk.invalid ++ after) a (a ++ chunk.valid)
  read_valid a = subst (λ y. HasReadParts y (chunk.invalid ++ after) a (a ++ chunk.valid)) (sym c.whole)
      (read_good (chunk.invalid ++ after) a c.good.1)

  -- which is all of the chunk if it has no bad part
  pub read_chunk : length chunk.invalid ≡ 0 → (a : List ℕ) → HasReadParts x after a (a ++ chunk.valid)
  read_chunk none a =
      subst (λ y. HasReadParts x y a (a ++ chunk.valid)) (ap (λ y. y ++ after) (nil_from_length chunk.invalid none))
      (read_valid a)

  by_cases : ¬ IsTrue chunk.incomplete → 1 ≤ length chunk.invalid
      → ((chunk.invalid ≡ []) × (after ≡ [])) ⊎ IsBadPart (chunk.invalid ++ after) chunk.invalid
      → ReadsParts (chunk.invalid ++ after) after (Bad chunk.invalid ∷ [])
  by_cases n some (inl none) = absurd (omega (arith, ap length none.0))
  by_cases n some (inr bad) = reads_bad chunk.invalid after bad (λ k. n (c.cut.1 k))

  -- and the bad part, unless it is an open end
  pub read_invalid : ¬ IsTrue chunk.incomplete → 1 ≤ length chunk.invalid → (a : List ℕ)
      → HasReadParts (chunk.invalid ++ after) after a (a ++ encoding_of 0xFFFD)
  read_invalid n some a = read_bad chunk.invalid after a (by_cases n some c.bad)

  -- an open end is left
  pub read_to_end : IsTrue chunk.incomplete → (a : List ℕ) → HasReadParts x chunk.invalid a (a ++ chunk.valid)
  read_to_end t a =
      subst (λ y. HasReadParts x y a (a ++ chunk.valid)) (ap (λ y. chunk.invalid ++ y) (c.cut.0 t).1
      ∙ append-nil chunk.invalid) (read_valid a)

-- what a test shows
pub not_so : (is reported : Bool) → reported ≡ is → reported ≡ false → ¬ IsTrue is
not_so is reported e f t = let no : true ≡ false = sym t ∙ sym e ∙ f in absurd (cc)

-- what a test for emptiness shows of the octets it tested
pub none_of : (x seen : List ℕ) (test : Bool) → seen ≡ x → test ≡ (length seen == 0) → test ≡ true → length x ≡ 0
none_of x seen test e f t = sym (ap length e) ∙ eqb-true (length seen) 0 (sym f ∙ t)

pub some_of : (x seen : List ℕ) (test : Bool) → seen ≡ x → test ≡ (length seen == 0) → test ≡ false → 1 ≤ length x
some_of x [] test e f t = let no : true ≡ false = sym f ∙ t in absurd (cc)
some_of x (o ∷ seen) test e f t = omega (arith, ap length e)

-- whether a fault has a size, by the test of a copy

-- a fault has no size if the test finds none in the copy
pub size_none : (size copy : Option ℕ) → copy ≡ size → is_some copy ≡ false → size ≡ None
size_none size None e h = sym e
size_none size (Some n) e h = absurd (cc)

-- and it has one if the test finds one in the copy
pub size_some : (size copy : Option ℕ) → copy ≡ size → is_some copy ≡ true → size ≢ None
size_some size None e h = absurd (cc)
size_some size (Some n) e h = λ none. cc

-- a beginning has at most three octets
pub beginning_few : (q : List ℕ) → IsBeginning q → length q ≤ 3
beginning_few q b = let short = beginning_short b in omega (arith, width_le (get_or q 0 0))

-- A piece after the octets that a reading stands for.
module _ (held : Held) (x piece z new : List ℕ) (s : HasRead held x)
    (r : HasReadParts (held.end ++ piece) z held.settled_text new) where
  all_read : ReadsParts (x ++ piece) z (s.settled ++ r.parts)
  all_read = reads_then (x ++ piece) (held.end ++ piece) z s.settled r.parts
      (reads_more x held.end piece s.settled (settles_reads s.settles)) r.reads

  all_text : new ≡ text (s.settled ++ r.parts)
  all_text = r.grown ∙ ap (λ y. y ++ text r.parts) s.same ∙ sym (text-append s.settled r.parts)

  pub feed_has_read : IsOpenEnd z → (refusal : Option AppendError) → refusal ≡ None
      → HasRead (record { settled_text = new; end = z; refusal = refusal }) (x ++ piece)
  feed_has_read e refusal n = record {
    settled = s.settled ++ r.parts;
    settles = reads_settles (x ++ piece) z (s.settled ++ r.parts) all_read e;
    same = all_text;
    fine = n;
  }

  -- the text is no longer than the text of what settles, and equals it if everything is read
  pub feed_short : (q : List ℕ) (settled : List Part) → Settles (x ++ piece) settled q
      → length new ≤ length (text settled)
  feed_short q settled t = let most = text_read (x ++ piece) z q (s.settled ++ r.parts) settled all_read t in
      omega (arith, ap length all_text)

  pub feed_text : IsOpenEnd z → (q : List ℕ) (settled : List Part) → Settles (x ++ piece) settled q → new ≡ text settled
  feed_text e q settled t =
      all_text ∙ ap text (one_settling (reads_settles (x ++ piece) z (s.settled ++ r.parts) all_read e) t).0

-- if the open end and a piece are too long to be read, the text of what settles with the piece exceeds the limit
pub feed_too_long : {limit : Option ℕ} (held : Held) (x piece : List ℕ) → HasRead held x
    → IsTextTooLong limit (held.end ++ piece) held.settled_text
    → (q : List ℕ) (settled : List Part) → Settles (x ++ piece) settled q → ExceedsLimit limit (length (text settled))
feed_too_long {limit} held x piece s t q settled u =
    past_more limit (length t.new) (length (text settled)) (feed_short held x piece t.rest t.new s t.read q settled u)
    t.past

-- What is held at the end.

settled_all : {x q : List ℕ} {settled parts : List Part} → Settles x settled q → Splits x parts
    → ((q ≡ []) × (text settled ≡ text parts)) ⊎ ((q ≢ []) × (text settled ++ encoding_of 0xFFFD ≡ text parts))
settled_all (open_end {end = q} {settled = settled} s b) t =
    inr (
      b.some,
      ap (λ y. text settled ++ y) (sym (append-nil (encoding_of 0xFFFD)))
          ∙ sym (text-append settled (Bad q ∷ [])) ∙ ap text (one_splitting s t),
    )
settled_all (no_end s n) t = inl (refl, ap text (one_splitting s t))

-- the held text followed by the text of the open end is the whole text
module _ (held : Held) (x made : List ℕ) (s : HasRead held x) (closed : held.end ≡ [] → made ≡ held.settled_text)
    (replaced : held.end ≢ [] → made ≡ held.settled_text ++ encoding_of 0xFFFD) where
  pub finish_text : (parts : List Part) → Splits x parts → made ≡ text parts
  finish_text parts t =
      ⊎_elim (λ h. closed h.0 ∙ s.same ∙ h.1) (λ h. replaced h.0 ∙ ap (λ y. y ++ encoding_of 0xFFFD) s.same ∙ h.1)
      (settled_all s.settles t)

  pub finish_well_formed : IsWellFormed made
  finish_well_formed =
      subst IsWellFormed (sym (finish_text (parts_of x) (splits x)))
      (text_well_formed 0xFFFD replacement_is_character (splits x))

-- if the held text has no room for the replacement of its open end, the text of all parts exceeds the limit
pub finish_too_long : (limit : Option ℕ) (held : Held) (x : List ℕ) (parts : List Part) → HasRead held x
    → Splits x parts
    → held.end ≢ [] → ExceedsLimit limit (length held.settled_text + length (encoding_of 0xFFFD))
    → ExceedsLimit limit (length (text parts))
finish_too_long limit held x parts s t n p =
    subst (λ y. ExceedsLimit limit (length y))
    (finish_text held x (held.settled_text ++ encoding_of 0xFFFD) s (λ e. absurd (n e)) (λ n. refl) parts t)
    (subst (ExceedsLimit limit) (sym (length-append held.settled_text (encoding_of 0xFFFD))) p)

-- A reading that met no refusal is sound, and so is one that met one.

-- a reading that stands for octets is sound, if its text is within the limit
pub sound_reading : (limit : Option ℕ) (asks : Bool) (held : Held) (x : List ℕ) → HasRead held x
    → IsWithin limit (length held.settled_text) → IsSound limit asks held
sound_reading limit asks held x s w = record {
  has_read = λ none. (x, s);
  within = λ none. w;
  memory = λ met. let none = s.fine in absurd (cc);
}

-- there is no refusal, and there is one: impossible
pub not_met : (met : Option AppendError) (refusal : AppendError) → met ≡ None → met ≡ Some refusal → ⊥
not_met met refusal none some = let no : None ≡ Some refusal = sym none ∙ some in absurd (cc)

-- only one refusal was met
pub same_refusal : (met : Option AppendError) (refusal other : AppendError) → met ≡ Some refusal → met ≡ Some other
    → refusal ≡ other
same_refusal met refusal other e f = let same : Some refusal ≡ Some other = sym e ∙ f in cc

within_none : (limit : Option ℕ) → IsWithin limit 0
within_none (Some n) = omega arith
within_none None = tt

-- a reading that holds nothing and met no refusal stands for an empty list of octets
pub has_read_nothing : (held : Held) → held.settled_text ≡ [] → held.end ≡ [] → held.refusal ≡ None → HasRead held []
has_read_nothing held t e n = record {
  settled = [];
  settles = subst (Settles [] []) (sym e) (no_end nothing (λ front q h b. snoc_some front (Bad q) (sym h)));
  same = t;
  fine = n;
}

-- and such a reading is sound
pub sound_nothing : (limit : Option ℕ) (asks : Bool) (held : Held) → held.settled_text ≡ [] → held.end ≡ []
    → held.refusal ≡ None → IsSound limit asks held
sound_nothing limit asks held t e n =
    sound_reading limit asks held [] (has_read_nothing held t e n)
    (subst (λ y. IsWithin limit (length y)) (sym t) (within_none limit))
