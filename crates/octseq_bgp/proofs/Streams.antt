-- Messages of a stream: octets that are framed or misframed.
use Rattle.std.proofs.Common.{◌≡◌, ◌<◌, ◌≤◌, ◌^◌, ◌++◌, ◌∙◌, ℕ, List, length, Bool, true, false, inl, inr, refl}
use Rattle.std.proofs.Common.{sym, ap, subst, arith}
use Rattle.std.proofs.lemmas.List.{length-append}
use Rattle.std.proofs.lemmas.List.Elements.{All-replicate}
use Rattle.std.specs.List.{All}
use Rattle.std.specs.Prelude.{IsTrue, if◌then◌else◌, replicate, ◌⊎◌}
use Rattle.octseq.proofs.WrittenBack.{AreOctets, small_be, as_be}
use Rattle.octseq.specs.Integer.{be, octets_be}
use Rattle.octseq.specs.Window.{left, next, past, whole}
use Rattle.octseq_format.specs.Canonical.{IsSoundWindow, each_next, many_next, sound_past}
use Rattle.octseq_bgp.specs.MessageType as message_type
use Rattle.octseq_bgp.specs.Message.{Message, IsMessage, IsShortEnough}
use Rattle.octseq_bgp.specs.OneFrame.{length_in_front, marked_front, marked_more}
use Rattle.octseq_bgp.specs.Stream.{IsFramed, IsFrameHeader, IsMisframed, longest_message, message_length}
use Rattle.octseq_bgp.specs.declared.session.SessionConfig.{SessionConfig}
use Rattle.octseq_stream.specs.Frames.{IsFramingHeader}

-- misframed octets stay misframed
pub misframed_more : (s : SessionConfig) (octets more : List ℕ) → IsMisframed s octets
    → IsMisframed s (octets ++ more)
misframed_more s octets more (inl other) = inl (λ marked. other (marked_front octets more marked))
misframed_more s octets more (inr (there, other)) =
    let both = length-append octets more in
    let says = sym (length_in_front octets more there) in
    inr (
      omega (arith, there, both),
      subst (λ n. (n < 19) ⊎ (longest_message s < n)) says other,
    )

-- ---- messages

at_least : (long : Bool) (size : ℕ) → size ≤ 4096 → size ≤ (if long then 65535 else 4096)
at_least true size few = omega (arith, few)
at_least false size few = few

all_of : (long : Bool) (size : ℕ) → size < 65536 → IsTrue long → size ≤ (if long then 65535 else 4096)
all_of true size small is = omega (arith, small)
all_of false size small is = absurd (cc)

-- a number of octets that a message may have, which two octets can say
within : (s : SessionConfig) (kind size : ℕ) → size < 65536 → IsShortEnough s kind size → size ≤ longest_message s
within s kind size small (inl few) = at_least s.extended_message size few
within s kind size small (inr may) = all_of s.extended_message size small may.0

-- 16 octets whose number is that of a marker
marker_octets : (xs : List ℕ) → length xs ≡ 16 → AreOctets xs → message_type.marker ≡ be xs
    → xs ≡ replicate 16 255
unfolding octets_be
marker_octets xs long each is = sym (as_be 16 xs long each) ∙ ap (octets_be 16) (sym is)

-- a message is framed
pub framed : (s : SessionConfig) (octets : List ℕ) (m : Message) → AreOctets octets → IsMessage s octets m
    → IsFramed s octets
framed s octets m each message =
    let w = whole octets in
    let sound : IsSoundWindow w = record { each = each; ordered = omega arith; within = omega arith } in
    let header = message.header.1 in
    let room = header.2.2.1.0 in
    let there = ap left (header.2.1.2 ∙ ap (past 2) header.1.2) in
    let least : 19 ≤ length octets = omega (arith, room, there) in
    let whole_is : length octets ≡ message_length octets = header.2.1.1 ∙ ap (λ u. be (next 2 u)) header.1.2 in
    let after = sound_past 16 w sound (omega (arith, least)) in
    let small = subst (λ n. message_length octets < 256 ^ n) (many_next 2 (past 16 w) after (omega (arith, least)))
    (small_be (next 2 (past 16 w)) (each_next 2 (past 16 w) after)) in
    let marker = marker_octets (next 16 w) (many_next 16 w sound (omega (arith, least))) (each_next 16 w sound)
    header.1.1 in
    record {
      marked = subst (All (λ octet. octet ≡ 255)) (sym marker)
          (All-replicate (λ octet. octet ≡ 255) 16 255 (refl {a = 255}));
      whole = whole_is;
      least = least;
      most = within s message.kind (length octets) (omega (arith, small, whole_is)) message.short;
    }

-- ---- what was read

-- a front and as many octets as it says are a framed message
pub front_header : (s : SessionConfig) (front : List ℕ) (more : ℕ) → IsFrameHeader s front more
    → IsFramingHeader 18 true (IsFramed s) (λ octets. octets) front more
front_header s front more is = record {
  long = is.long;
  fits = λ octets all.
      let both = length-append front octets in
      let kept = length_in_front front octets (omega (arith, is.long)) in
      record {
        marked = marked_more front octets (omega (arith, is.long)) is.marked;
        whole = omega (arith, is.long, is.says, all, both, kept);
        least = omega (arith, is.long, is.least, all, both);
        most = omega (arith, is.long, is.most, all, both);
      };
  whole = λ _ _. refl;
}
