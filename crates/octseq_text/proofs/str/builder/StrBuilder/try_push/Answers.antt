use Rattle.std.proofs.Common.{◌≡◌, [], ◌∷◌, ap, sym, ◌∙◌}
use Rattle.octseq_utf8.specs.Encoding.{encoding_of}
use Rattle.octseq_utf8.specs.Text.{chars}
use Rattle.octseq_utf8.proofs.Bridge.{encode-is, from_scalar, well_formed_from_utf8}
use Rattle.octseq_utf8.proofs.Numbers.{encoding_is_of, one_encoding}
use Rattle.octseq_utf8.proofs.Texts.{chars-encoding}
use Rattle.octseq_text.proofs.CharacterAppends.{appends, well_formed-appended}
use Rattle.octseq_text.proofs.str.builder.StrBuilder.try_push.Given as given
use Rattle.octseq_text.proofs.str.builder.StrBuilder.try_push.Goals as goal

-- the appended octets are the encoding of the character
encoded : (g : given.Over) (c : goal.After-octets-2-1 g) → c.as_bytes.result.now ≡ encoding_of c.args.ch
encoded g c = c.as_bytes.ensures.value ∙ c.encode_utf8-encoding.ensures.value ∙ encode-is c.args.ch

pub invariant_of-self : goal.invariant_of-self
invariant_of-self g c =
    let e = c.append_short.ensures.appended in
    well_formed-appended c.append_short.result _ _ _ e.ok e.err c.self.invariant
    (well_formed_from_utf8 _ c.as_bytes.ensures.utf8)

pub returns-clause-appended : goal.returns-clause-appended
returns-clause-appended g c = rw (← encoded g c, ← c.self.view_is) c.append_short.ensures.appended

pub returns-clause-encoding : goal.returns-clause-encoding
returns-clause-encoding g c = encoding_is_of c.args.ch (from_scalar c.args.ch c.ranges.ch.0)

pub returns-clause-only : goal.returns-clause-only
returns-clause-only g c = λ e p n.
    let q = encoding_is_of c.args.ch (from_scalar c.args.ch c.ranges.ch.0) in one_encoding p q.0 (n ∙ sym q.1)

pub returns-clause-step : goal.returns-clause-step
returns-clause-step g c =
    let e = c.append_short.ensures.appended in
    let one : chars c.as_bytes.result.now ≡ c.args.ch ∷ [] =
    ap chars (encoded g c) ∙ chars-encoding c.args.ch (from_scalar c.args.ch c.ranges.ch.0) in
    rw (← one, ← c.self.view_is)
    (appends g.Octets.AsOctets.limit g.Octets.AsOctets.asks c.append_short.result _ _ _ e.ok e.err e.short e.memory
    c.self.invariant (well_formed_from_utf8 _ c.as_bytes.ensures.utf8))
