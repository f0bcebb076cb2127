-- Octets by their chunks: splittings, texts, turns.
use Rattle.std.proofs.Common.{Bool, true, false, ◌≡◌, ◌≢◌, ℕ, ◌-◌, ◌≤◌, ◌⊎◌, inl, inr, ⊎_elim, List, [], ◌∷◌, ◌++◌}
use Rattle.std.proofs.Common.{map, length, take, slice_range, refl, arith, ap, sym, ◌∙◌, subst, append_assoc}
use Rattle.std.specs.List.{flat_map}
use Rattle.std.specs.Prelude.{Option, ◌↔◌, IsTrue, is_some, not}
use Rattle.std.proofs.lemmas.List.{append-nil, take_at}
use Rattle.std.proofs.lemmas.Grind.{flat_map-append}
use Rattle.octseq_utf8.specs.Chunk.{Chunk, IsFirstChunk, AreChunks, no_chunk, first_chunk}
use Rattle.octseq_utf8.specs.Chunk.{bad_parts, chunk_parts, mark_of, chunk_text}
use Rattle.octseq_utf8.specs.Encoding.{encoding_of}
use Rattle.octseq_utf8.specs.Fault.{Fault, IsFault, IsFaultSize, fault_end}
use Rattle.octseq_utf8.specs.Parts.{IsBeginning, IsBadPart, Part, Char, Bad, Splits, octets_with, text_with}
use Rattle.octseq_utf8.specs.Reading.{parts_of}
use Rattle.octseq_utf8.specs.Text.{IsWellFormed, chars}
use Rattle.octseq_utf8.proofs.Faults.{end_is, end_bounds, onward_is, no_bad}
use Rattle.octseq_utf8.proofs.Joins.{text-chars, parts_spelled, parts_fault, text_spelled}
use Rattle.octseq_utf8.proofs.Spelling.{spells_nothing, chars_of}
use Rattle.octseq_utf8.proofs.Texts.{octets_of-chars}
use Rattle.octseq_utf8.proofs.Splitting.{bad_some, only_parts, splits, parts_nil}

-- the test of a fault's size says whether its bad part begins a character and reaches the end
pub cut_is : (bad after : List ℕ) (size : Option ℕ) (test : Bool) → IsFaultSize bad after size
    → is_some size ≡ not test → IsTrue test ↔ (IsBeginning bad × (after ≡ []))
cut_is bad after size true (inl h) e = (λ t. (h.1, h.2), λ k. refl)
cut_is bad after size true (inr h) e = let some = ap is_some h.0 in absurd (cc)
cut_is bad after size false (inl h) e = let none = ap is_some h.0 in absurd (cc)
cut_is bad after size false (inr h) e = (λ t. absurd (cc), λ k. absurd (h.1 k))

-- the chunk that ends with a fault
module _ (x : List ℕ) (fault : Fault) (f : IsFault x fault) where
  pub chunk_at_fault : (incomplete : Bool) → is_some fault.size ≡ not incomplete
      → IsFirstChunk x (record { valid = f.before; invalid = f.bad; incomplete = incomplete }) f.after
  chunk_at_fault incomplete test = record {
    whole = f.whole;
    some = λ nothing. omega (arith, ap length nothing, end_bounds x fault f);
    good = f.good;
    bad = inr f.first;
    cut = cut_is f.bad f.after fault.size incomplete f.size test;
  }

  -- the ill-formed part goes from the place of the fault to its end
  pub bad_is : slice_range x fault.place (fault_end x fault) ≡ f.bad
  bad_is = ap (take (fault_end x fault - fault.place)) (onward_is x fault f)
      ∙ take_at f.bad f.after _ (omega (arith, end_is x fault f))

-- the chunk of octets that are well-formed text
pub chunk_at_end : (x : List ℕ) → x ≢ [] → IsWellFormed x
    → IsFirstChunk x (record { valid = x; invalid = []; incomplete = false }) []
chunk_at_end x some good = record {
  whole = sym (append-nil x);
  some = some;
  good = good;
  bad = inl (refl, refl);
  cut = (λ t. absurd (cc), λ k. absurd (k.0.some refl));
}

-- what a chunk consists of

-- the mark is in place of a bad part that has an octet
pub mark_some : (mark bad : List ℕ) → 1 ≤ length bad → mark_of mark bad ≡ mark
mark_some mark [] h = absurd (omega arith)
mark_some mark (b ∷ bad) h = refl

parts_some : (bad : List ℕ) → 1 ≤ length bad → bad_parts bad ≡ Bad bad ∷ []
parts_some [] h = absurd (omega arith)
parts_some (b ∷ bad) h = refl

-- the text of a bad part, if there is one
text_bad : (w : ℕ) (bad : List ℕ) → text_with w (bad_parts bad) ≡ mark_of (encoding_of w) bad
text_bad w [] = refl
text_bad w (b ∷ bad) = append-nil (encoding_of w)

-- octets whose only chunk has no bad part are its text
all_valid : (x : List ℕ) (chunk : Chunk) (after : List ℕ) → IsFirstChunk x chunk after
    → (chunk.invalid ≡ []) × (after ≡ []) → x ≡ chunk.valid
all_valid x chunk after c none = c.whole ∙ rw (none.0, none.1) (append-nil chunk.valid)

-- the parts of octets are the parts of the first chunk followed by the parts of what is after it
pub parts_at_chunk : (x : List ℕ) (chunk : Chunk) (after : List ℕ) → IsFirstChunk x chunk after
    → parts_of x ≡ chunk_parts chunk ++ parts_of after
parts_at_chunk x chunk after c = go c.bad
  where
    front : map Char c.good.0 ≡ map Char (chars chunk.valid)
    front = ap (map Char) (sym (chars_of c.good.1))

    go : ((chunk.invalid ≡ []) × (after ≡ [])) ⊎ IsBadPart (chunk.invalid ++ after) chunk.invalid
        → parts_of x ≡ chunk_parts chunk ++ parts_of after
    go (inl none) =
        ap parts_of (all_valid x chunk after c none) ∙ parts_spelled c.good.1 ∙ front
        ∙ sym (simp (none.0, none.1, parts_nil, append-nil))
    go (inr bad) =
        ap parts_of c.whole ∙ parts_fault c.good.1 chunk.invalid after bad
        ∙ rw (front, parts_some chunk.invalid (bad_some bad).0)
        (sym (append_assoc (map Char (chars chunk.valid)) (Bad chunk.invalid ∷ []) (parts_of after)))

-- and their text is the text of the first chunk followed by the text of what is after it
pub text_at_chunk : (w : ℕ) (x : List ℕ) (chunk : Chunk) (after : List ℕ) → IsFirstChunk x chunk after
    → text_with w (parts_of x) ≡ chunk_text w chunk ++ text_with w (parts_of after)
text_at_chunk w x chunk after c =
    ap (text_with w) (parts_at_chunk x chunk after c)
    ∙ flat_map-append (octets_with w) (chunk_parts chunk) (parts_of after)
    ∙ ap (λ y. y ++ text_with w (parts_of after)) (text-chars w (chars chunk.valid) (bad_parts chunk.invalid)
    ∙ rw (octets_of-chars chunk.valid c.good, text_bad w chunk.invalid) refl)

-- octets whose first chunk has no bad part are well formed
pub whole_text : (x : List ℕ) (chunk : Chunk) (after : List ℕ) → IsFirstChunk x chunk after → length chunk.invalid ≡ 0
    → IsWellFormed x
whole_text x chunk after c none =
    ⊎_elim (λ end. subst IsWellFormed (sym (all_valid x chunk after c end)) c.good)
    (λ bad. absurd (omega (arith, bad_some bad))) c.bad

-- and octets whose first chunk has one aren't
pub no_whole_text : (x : List ℕ) (chunk : Chunk) (after : List ℕ) → IsFirstChunk x chunk after
    → 1 ≤ length chunk.invalid → ¬ IsWellFormed x
no_whole_text x chunk after c some good =
    ⊎_elim (λ end. absurd (omega (arith, ap length end.0)))
    (λ bad. no_bad c.good.0 good.0 chunk.invalid (parts_of after)
    (sym (ap parts_of c.whole ∙ parts_fault c.good.1 chunk.invalid after bad) ∙ parts_spelled good.1)) c.bad

-- the chunks of octets are their one splitting

-- octets split into the parts of their first chunk followed by a splitting of what is after it
pub splits_at_chunk : (x : List ℕ) (chunk : Chunk) (after : List ℕ) (parts : List Part) → IsFirstChunk x chunk after
    → Splits after parts → Splits x (chunk_parts chunk ++ parts)
splits_at_chunk x chunk after parts c s =
    subst (Splits x) (parts_at_chunk x chunk after c ∙ ap (λ ps. chunk_parts chunk ++ ps) (sym (only_parts s)))
    (splits x)

-- octets split into the parts of all their chunks, one chunk after another
pub chunks_split : {x : List ℕ} {chunks : List Chunk} → AreChunks x chunks → Splits x (flat_map chunk_parts chunks)
chunks_split no_chunk = subst (Splits []) parts_nil (splits [])
chunks_split (first_chunk {octets = x} {after} {chunk} {chunks} c s) =
    splits_at_chunk x chunk after (flat_map chunk_parts chunks) c (chunks_split s)

-- for any splittings, the parts of octets are the parts of the first chunk followed by the parts of what is after it
pub parts_by_chunk : (x after : List ℕ) (chunk : Chunk) (parts rest : List Part) → IsFirstChunk x chunk after
    → Splits x parts → Splits after rest → parts ≡ chunk_parts chunk ++ rest
parts_by_chunk x after chunk parts rest c s t =
    only_parts s ∙ parts_at_chunk x chunk after c ∙ ap (λ ps. chunk_parts chunk ++ ps) (sym (only_parts t))

-- and so is their text
pub text_by_chunk : (x after : List ℕ) (chunk : Chunk) (parts rest : List Part) (w : ℕ) → IsFirstChunk x chunk after
    → Splits x parts → Splits after rest → text_with w parts ≡ chunk_text w chunk ++ text_with w rest
text_by_chunk x after chunk parts rest w c s t =
    ap (text_with w) (only_parts s) ∙ text_at_chunk w x chunk after c ∙ ap (λ ps. chunk_text w chunk ++ text_with w ps)
    (sym (only_parts t))

-- a text that grows by chunks is, followed by the text of what is left, the whole text

-- after a chunk's text is added, what is made and the text of what is after the chunk are still the whole
pub grown : (w : ℕ) (x made made' all : List ℕ) (chunk : Chunk) (after : List ℕ)
    → made ++ text_with w (parts_of x) ≡ all → IsFirstChunk x chunk after
    → made' ≡ made ++ chunk_text w chunk → made' ++ text_with w (parts_of after) ≡ all
grown w x made made' all chunk after before c more =
    ap (λ y. y ++ text_with w (parts_of after)) more ∙ append_assoc made (chunk_text w chunk)
    (text_with w (parts_of after)) ∙ ap (λ y. made ++ y) (sym (text_at_chunk w x chunk after c)) ∙ before

-- if no octets are left, what is made is the whole text
pub all_made : (w : ℕ) (made all x : List ℕ) → made ++ text_with w (parts_of x) ≡ all → x ≡ [] → made ≡ all
all_made w made all x whole nothing =
    sym (append-nil made)
    ∙ ap (λ y. made ++ y) (sym (ap (λ y. text_with w (parts_of y)) nothing ∙ text_spelled w spells_nothing)) ∙ whole
