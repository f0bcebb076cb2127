-- The text of what is settled in octets, as it is measured and written, chunk by chunk.
use Rattle.std.proofs.Common.{Bool, false, ◌≡◌, ℕ, ◌+◌, ◌-◌, ◌<◌, ◌≤◌, ◌^◌, List, [], ◌∷◌, ◌++◌, length, take, drop}
use Rattle.std.proofs.Common.{refl, arith}
use Rattle.std.proofs.Common.{ap, sym, ◌∙◌, append_assoc, length-append, length-take}
use Rattle.std.proofs.lemmas.List.{append-nil, take-append-drop}
use Rattle.octseq_utf8.specs.Chunk.{Chunk, IsFirstChunk}
use Rattle.octseq_utf8.specs.Encoding.{encoding_of}
use Rattle.octseq_utf8.specs.Parts.{Part, text}
use Rattle.octseq_text.specs.Pieces.{Settles}
use Rattle.octseq_text.specs.Progress.{HasReadParts, IsOpenEnd, ReadsParts}
use Rattle.octseq_text.proofs.Piecewise.{not_so, read_invalid, read_none}
use Rattle.octseq_text.proofs.Settling.{one_settling, reads_none, reads_settles, reads_then, settling, text-append}
use Rattle.octseq_text.proofs.Settling.{text_read}
use Rattle.octseq_c.specs.LossyText.{end_text}
use Rattle.octseq_c.specs.Settled.{HasRoomForText, IsMeasured, IsPastSize}
use Rattle.octseq_c.proofs.Placed.{placed_more}

-- The text of the first octets, after other text, ends at this offset.
pub record ReadsTo (octets rest : List ℕ) (before offset : ℕ) : Type 0 where
  pub parts : List Part
  pub reads : ReadsParts octets rest parts
  pub len : offset ≡ before + length (text parts)

pub to_start : (x : List ℕ) (before : ℕ) → ReadsTo x x before before
to_start x before = record { parts = []; reads = reads_none x; len = omega arith }

text_more : {y z more : List ℕ} (parts : List Part) (r : HasReadParts y z [] more)
    → text (parts ++ r.parts) ≡ text parts
    ++ more
text_more parts r = text-append parts r.parts ∙ ap (λ y. text parts ++ y) (sym r.grown)

pub to_more : {x y z more : List ℕ} {before a b : ℕ} → ReadsTo x y before a → HasReadParts y z [] more
    → b ≡ a + length more
    → ReadsTo x z before b
to_more {x} {y} {z} {more} s r e = record {
  parts = s.parts ++ r.parts;
  reads = reads_then x y z s.parts r.parts s.reads r.reads;
  len = let len = s.len in omega (arith, ap length (text_more s.parts r), length-append (text s.parts) more);
}

marks : (bad after : List ℕ) → (1 ≤ length bad → HasReadParts (bad ++ after) after [] (encoding_of 0xFFFD))
    → HasReadParts (bad ++ after) after [] (end_text bad)
marks [] after r = read_none after []
marks (octet ∷ bad) after r = r (omega arith)

-- after a chunk that isn't incomplete, U+FFFD is read, or nothing if there is no bad part
pub read_mark : (x : List ℕ) (chunk : Chunk) (after : List ℕ) → IsFirstChunk x chunk after
    → (cut : Bool) → cut ≡ chunk.incomplete → cut ≡ false
    → HasReadParts (chunk.invalid ++ after) after [] (end_text chunk.invalid)
read_mark x chunk after c cut e uncut =
    marks chunk.invalid after (λ some. read_invalid x chunk after c (not_so chunk.incomplete cut e uncut) some [])

-- what was read is no longer than what is settled
to_within : {x y : List ℕ} {before a : ℕ} → ReadsTo x y before a → (settled : List Part) (end : List ℕ)
    → Settles x settled end → a ≤ before + length (text settled)
to_within {x} {y} s settled end t =
    let most = text_read x y end s.parts settled s.reads t in let len = s.len in omega arith

-- if it is too long, so is the text of what is settled
pub past_size : {x y : List ℕ} {before a : ℕ} → ReadsTo x y before a → 2 ^ 64 - 1 < a → IsPastSize x before
past_size {x} {before = before} {a} s h =
    let t = settling x in
    let within : a ≤ before + length (text t.0) = to_within s t.0 t.1 t.2 in
    record { settled = t.0; end = t.1; settles = t.2; past = omega arith }

-- and there is room for it, and for what is read next, if there is room for that
pub room_more : {x y z more : List ℕ} {before a room : ℕ} → HasRoomForText x before room → ReadsTo x y before a
    → HasReadParts y z [] more → a + length more ≤ room
room_more h s r =
    let most = to_within (to_more s r refl) h.settled h.end h.settles in let within = h.within in omega arith

-- if an open end is left, all that is settled was read
pub measured : {x end : List ℕ} {before a : ℕ} → ReadsTo x end before a → IsOpenEnd end → a < 2 ^ 64
    → IsMeasured x before a end
measured {x} {end} s o few = record {
  settled = s.parts;
  settles = reads_settles x end s.parts s.reads o;
  text_len = s.len;
  fits = few;
}

-- The text of the first octets was written to a buffer, after what was at its front.
pub record WritesTo (octets rest : List ℕ) (before : ℕ) (old new : List ℕ) (offset : ℕ) : Type 0 where
  pub to : ReadsTo octets rest before offset
  pub room : new ≡ (take before old ++ text to.parts) ++ drop offset old

pub writes_start : (x : List ℕ) (before : ℕ) (old : List ℕ) → WritesTo x x before old old before
unfolding to_start
writes_start x before old = record {
  to = to_start x before;
  room = sym (take-append-drop before old) ∙ ap (λ y. y ++ drop before old) (sym (append-nil (take before old)));
}

pub writes_more : {x y z more : List ℕ} {before a b : ℕ} {old mid new : List ℕ} (seen : List ℕ) → seen ≡ more
    → HasRoomForText x before (length old) → WritesTo x y before old mid a → HasReadParts y z [] more
    → b ≡ a + length seen
    → new ≡ (take a mid ++ seen) ++ drop (a + length seen) mid → WritesTo x z before old new b
unfolding to_more
writes_more {more = more} {before} {a} {b} {old} {mid} {new} seen same h s r e n =
    let len = s.to.len in
    let within = h.within in
    let made = text s.to.parts in
    let front = take before old ++ made in
    let long : length front ≡ a = omega (arith, length-append (take before old) made, length-take before old) in
    record {
      to = to_more s.to r (e ∙ ap (λ y. a + length y) same);
      room = placed_more old mid new front seen a long s.room n
          ∙ ap (λ y. (front ++ y) ++ drop (a + length seen) old) same
          ∙ ap (λ y. y ++ drop (a + length seen) old) (append_assoc (take before old) made more)
          ∙ ap (λ y. (take before old ++ y) ++ drop (a + length seen) old) (sym (text_more s.to.parts r))
          ∙ ap (λ k. (take before old ++ text (s.to.parts ++ r.parts)) ++ drop k old) (sym e);
    }

-- if an open end is left, the text of what is settled was written
pub written : {x end : List ℕ} {before a : ℕ} {old new : List ℕ} → WritesTo x end before old new a → IsOpenEnd end
    → (settled : List Part) (last : List ℕ) → Settles x settled last
    → (a ≡ before + length (text settled)) × (new ≡ (take before old ++ text settled) ++ drop a old)
written {x} {end} {before = before} {a} {old} w o settled last t =
    let same = ap text (one_settling (reads_settles x end w.to.parts w.to.reads o) t).0 in (
      w.to.len ∙ ap (λ y. before + length y) same,
      w.room ∙ ap (λ y. (take before old ++ y) ++ drop a old) same,
    )
