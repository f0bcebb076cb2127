-- Messages that grow.
use Rattle.std.proofs.Common.{◌≡◌, ℕ, ◌+◌, ◌<◌, ◌≤◌, Bool, true, Option, List, ◌∷◌, ◌++◌, length, Result, Ok, Err}
use Rattle.std.proofs.Common.{refl, ap, sym, ◌∙◌, subst, arith}
use Rattle.std.proofs.Math.Nat.{lt_of_not-le}
use Rattle.std.specs.Prelude.{◌↔◌, OnOk, OnErr}
use Rattle.octseq.specs.Integer.{octets_be}
use Rattle.octseq.specs.Limit.{ExceedsLimit}
use Rattle.octseq.specs.Refusal.{IsMemory, IsShort, Refusal}
use Rattle.octseq.proofs.Written.{value_be}
use Rattle.octseq_bgp.specs.Composed.{Extends, header_octets, least, long_after, message_octets}
use Rattle.octseq_bgp.specs.WrittenMessage.{IsWrittenMessage, limit_of}
use Rattle.octseq_bgp.specs.WrittenNotification.{notification_octets, notification_in, notification_with_data}
use Rattle.octseq_bgp.specs.WrittenRouteRefresh.{FitsRouteRefresh, route_refresh_octets}
use Rattle.octseq_bgp.specs.WrittenRouteRefresh.{route_refresh_in, with_orf}
use Rattle.octseq_bgp.proofs.Composing.{least_most}

-- What is found in the octets of a message is that message, and more octets are more of its body.
pub record Grows {M : Type 0} (octets : M → List ℕ) (Fits : M → Type 0) (found : List ℕ → M)
    (more : M → List ℕ → M) : Type 0 where
  pub kind : ℕ
  pub body : M → List ℕ
  pub is : (m : M) → octets m ≡ message_octets kind (body m)
  pub back : (m : M) → Fits m → found (octets m) ≡ m
  pub grown : (m : M) (slice : List ℕ) → body m ++ slice ≡ body (more m slice)
  pub fits : (m : M) (slice : List ℕ) → Fits m → Fits (more m slice)

-- A push of a slice changed octets from those of a message to those of another.
pub record Pushed {M : Type 0} (octets : M → List ℕ) (Fits : M → Type 0) (found : List ℕ → M) (more : M → List ℕ → M)
    {E : Type 0} (says : E → Refusal) (most : ℕ) (limit : Option ℕ) (asks : Bool) (slice : List ℕ)
    (result : Result (Unit {0}) E) (old new : List ℕ) : Type 0 where
  pub now : IsWrittenMessage octets Fits found most new
  pub ok : OnOk result (found new ≡ more (found old) slice)
  pub err : OnErr result (found new ≡ found old)
  pub short : IsShort says result ↔ ExceedsLimit (limit_of most limit) (length (octets (more (found old) slice)))
  pub memory : IsMemory says result → asks ≡ true

module _ {M : Type 0} {octets : M → List ℕ} {Fits : M → Type 0} {found : List ℕ → M} {more : M → List ℕ → M}
    (grows : Grows octets Fits found more) where
  -- octets that are a message are written
  pub is_written : (m : M) (most : ℕ) (content : List ℕ) → Fits m → content ≡ octets m → length content ≤ most
      → most ≤ 65535 → IsWrittenMessage octets Fits found most content
  is_written m most content fits are within few =
      let same : found content ≡ m = ap found are ∙ grows.back m fits in
      record { are = are ∙ ap octets (sym same); fits = subst Fits (sym same) fits; within = within; few = few }

  pub some_old : {most : ℕ} {old : List ℕ} → IsWrittenMessage octets Fits found most old → 19 ≤ length old
  some_old {old = old} was =
      let body = grows.body (found old) in
      let long = ap length (was.are ∙ grows.is (found old)) ∙ long_after (19 + length body) grows.kind body in
      omega (arith, long)

  pub pushed : {E : Type 0} {says : E → Refusal} {most : ℕ} {limit : Option ℕ} {asks : Bool} {old new : List ℕ}
      {slice : List ℕ} {result : Result (Unit {0}) E} → IsWrittenMessage octets Fits found most old
      → ((kind : ℕ) (body : List ℕ) → old ≡ message_octets kind body
      → Extends says (least most limit) asks result (message_octets kind (body ++ slice)) old new)
      → Pushed octets Fits found more says most limit asks slice result old new
  pushed {most = most} {limit} {old = old} {new} {slice} {result = Ok done} was extends =
      let m = found old in
      let did = extends grows.kind (grows.body m) (was.are ∙ grows.is m) in
      let all = ap (message_octets grows.kind) (grows.grown m slice) ∙ sym (grows.is (more m slice)) in
      let fits = grows.fits m slice was.fits in
      let fewer = least_most most limit in
      let within = lt_of_not-le did.short.1 in
      record {
        now = is_written (more m slice) most new fits (did.ok ∙ all)
            (omega (arith, ap length did.ok, within, fewer)) was.few;
        ok = ap found (did.ok ∙ all) ∙ grows.back (more m slice) fits;
        err = tt;
        short = (λ none. absurd none, λ past. did.short.1 (subst (λ o. least most limit < length o) (sym all) past));
        memory = did.memory;
      }
  pushed {most = most} {limit} {old = old} {new} {slice} {result = Err e} was extends =
      let m = found old in
      let did = extends grows.kind (grows.body m) (was.are ∙ grows.is m) in
      let all = ap (message_octets grows.kind) (grows.grown m slice) ∙ sym (grows.is (more m slice)) in
      record {
        now = subst (IsWrittenMessage octets Fits found most) (sym did.err) was;
        ok = tt;
        err = ap found did.err;
        short = (
          λ short. subst (λ o. least most limit < length o) all (did.short.0 short),
          λ past. did.short.1 (subst (λ o. least most limit < length o) (sym all) past),
        );
        memory = did.memory;
      }

-- ---- NOTIFICATION

pub notification_grows : Grows notification_octets (λ _. Unit {0}) notification_in notification_with_data
unfolding header_octets octets_be
notification_grows = record {
  kind = 3;
  body = λ n. n.code ∷ n.subcode ∷ n.«data»;
  is = λ _. refl;
  back = λ _ _. refl;
  grown = λ _ _. refl;
  fits = λ _ _ _. tt;
}

-- ---- ROUTE-REFRESH

pub route_refresh_grows : Grows route_refresh_octets FitsRouteRefresh route_refresh_in with_orf
unfolding header_octets octets_be
route_refresh_grows = record {
  kind = 5;
  body = λ r. octets_be 2 r.afi ++ r.subtype ∷ r.safi ∷ r.orf;
  is = λ _. refl;
  back = λ r fits.
      ap (λ afi. record { afi = afi; subtype = r.subtype; safi = r.safi; orf = r.orf }) (value_be 2 r.afi fits);
  grown = λ _ _. refl;
  fits = λ _ _ fits. fits;
}
