-- An EDNS option says one thing, which its octets determine.
use Rattle.std.proofs.Common.{◌≡◌, ℕ, zero, suc, ◌+◌, ◌-◌, ◌*◌, ◌/◌, ◌%◌, ◌^◌, ◌<◌, inl, inr, List, [], ◌∷◌, ◌++◌}
use Rattle.std.proofs.Common.{length, sym, ap, ◌∙◌, subst, arith, length-append}
use Rattle.std.proofs.Math.Nat.{pow-suc, mul_assoc}
use Rattle.std.proofs.lemmas.List.{append_cancel_right}
use Rattle.octseq.specs.Integer.{be}
use Rattle.octseq.specs.Window.{Window, rest}
use Rattle.octseq.proofs.Written.{be_cons, be_nil}
use Rattle.octseq_dns_data.specs.Data.{HasOctetCount}
use Rattle.octseq_dns_data.specs.Format.{IsNumber, one_number}
use Rattle.octseq_dns_message.specs.Opt.{EdnsOption}
use Rattle.octseq_dns_message.specs.OptionData.{ClientSubnet, Cookie, ExtendedError, OptionData}
use Rattle.octseq_dns_message.specs.OptionData.{IsClientSubnet, IsCookie, IsWithoutZero, IsExtendedError}
use Rattle.octseq_dns_message.specs.OptionData.{IsTypedOption, IsOptionData}
use Rattle.octseq_format.specs.Fixed.{one_fixed}
use Rattle.octseq_format.specs.Pair.{◌then◌, ◌one_then◌}
use Rattle.octseq_format.specs.Rest.{IsRest, one_rest}

subnet_from : ℕ × (ℕ × (ℕ × Window)) → ClientSubnet
subnet_from parts = record {
  family = parts.0;
  source_prefix_len = parts.1.0;
  scope_prefix_len = parts.1.1.0;
  address = parts.1.1.1;
}

-- a client subnet has the parts that were found
pub subnet_is : (w v : Window) (a b : ClientSubnet)
    → (IsNumber 2 then IsNumber 1 then IsNumber 1 then IsRest) w
    (a.family, (a.source_prefix_len, (a.scope_prefix_len, a.address))) v
    → IsClientSubnet w b → b ≡ a
unfolding subnet_from
subnet_is w v a b is y =
    let one = one_number 2 one_then one_number 1 one_then one_number 1 one_then one_rest in
    ap subnet_from (one.same w (b.family, (b.source_prefix_len, (b.scope_prefix_len, b.address)))
    (a.family, (a.source_prefix_len, (a.scope_prefix_len, a.address))) y.end v y.parts is).0

-- so a window has at most one
one_subnet : (w : Window) (a b : ClientSubnet) → IsClientSubnet w a → IsClientSubnet w b → a ≡ b
one_subnet w a b x y = subnet_is w y.end b a y.parts x

cookie_from : List ℕ × Window → Cookie
cookie_from parts = record { client = parts.0; server = parts.1 }

-- a cookie has the parts that were found
pub cookie_is : (w v : Window) (a b : Cookie) → (HasOctetCount 8 then IsRest) w (a.client, a.server) v → IsCookie w b
    → b ≡ a
unfolding cookie_from
cookie_is w v a b is y =
    let one = one_fixed 8 (λ octets. octets) one_then one_rest in
    ap cookie_from (one.same w (b.client, b.server) (a.client, a.server) y.end v y.parts is).0

-- so a window has at most one cookie
one_cookie : (w : Window) (a b : Cookie) → IsCookie w a → IsCookie w b → a ≡ b
one_cookie w a b x y = cookie_is w y.end b a y.parts x

-- octets have one text without a 0 at its end
one_text : (octets a b : List ℕ) → IsWithoutZero octets a → IsWithoutZero octets b → a ≡ b
one_text octets a b (inl x) (inl y) = append_cancel_right a b (0 ∷ []) (sym x ∙ y)
one_text octets a b (inl x) (inr y) = absurd (y.1 a x)
one_text octets a b (inr x) (inl y) = absurd (x.1 b y)
one_text octets a b (inr x) (inr y) = sym x.0 ∙ y.0

error_from : ℕ → List ℕ → ExtendedError
error_from code text = record { code = code; text = text }

-- an extended error has the parts that were found
pub error_is : (w v extra : Window) (a b : ExtendedError) → (IsNumber 2 then IsRest) w (a.code, extra) v
    → IsWithoutZero (rest extra) a.text → IsExtendedError w b → b ≡ a
unfolding error_from
error_is w v extra a b is shown y =
    let one = one_number 2 one_then one_rest in
    let same = (one.same w (b.code, y.extra) (a.code, extra) y.end v y.parts is).0 in
    let text : IsWithoutZero (rest extra) b.text = subst (λ (e : Window). IsWithoutZero (rest e) b.text)
    (ap (λ (parts : ℕ × Window). parts.1) same) y.text in
    ap (λ code. error_from code b.text) (ap (λ (parts : ℕ × Window). parts.0) same)
    ∙ ap (error_from a.code) (one_text (rest extra) b.text a.text text shown)

-- so there is at most one
one_error : (w : Window) (a b : ExtendedError) → IsExtendedError w a → IsExtendedError w b → a ≡ b
one_error w a b x y = error_is w y.end y.extra b a y.parts y.text x

-- so an option has at most one form
pub one_typed : (option : EdnsOption) (a b : OptionData) → IsTypedOption option a → IsTypedOption option b → a ≡ b
one_typed option (OptionData.unknown code octets) b x y = absurd x
one_typed option a (OptionData.unknown code octets) x y = absurd y
one_typed option (OptionData.nsid a) (OptionData.nsid b) x y = ap OptionData.nsid (x.1 ∙ sym y.1)
one_typed option (OptionData.client_subnet a) (OptionData.client_subnet b) x y =
    ap OptionData.client_subnet (one_subnet option.octets a b x.1 y.1)
one_typed option (OptionData.cookie a) (OptionData.cookie b) x y =
    ap OptionData.cookie (one_cookie option.octets a b x.1 y.1)
one_typed option (OptionData.padding a) (OptionData.padding b) x y = ap OptionData.padding (x.1 ∙ sym y.1)
one_typed option (OptionData.extended_error a) (OptionData.extended_error b) x y =
    ap OptionData.extended_error (one_error option.octets a b x.1 y.1)
one_typed option a b x y = absurd (omega (arith, x.0, y.0))

-- and says one thing
pub one_said : (option : EdnsOption) (a b : OptionData) → IsOptionData option a → IsOptionData option b → a ≡ b
one_said option a b (inl x) (inl y) = one_typed option a b x y
one_said option a b (inl x) (inr y) = absurd (y.1 a x)
one_said option a b (inr x) (inl y) = absurd (x.1 b y)
one_said option a b (inr x) (inr y) = x.0 ∙ sym y.0

-- ---- the bits at the end of octets

-- the number of big-endian octets is a multiple of 256, and the last octet
pub be_last : (front : List ℕ) (last : ℕ) → (high : ℕ) × (be (front ++ last ∷ []) ≡ high * 256 + last)
be_last [] last = (0, be_cons last [] ∙ omega (arith, be_nil))
be_last (x ∷ front) last =
    let more = be_last front last in
    let long : length (front ++ last ∷ []) ≡ suc (length front) = length-append front (last ∷ []) ∙ omega arith in
    let power : 256 ^ suc (length front) ≡ 256 ^ length front * 256 = pow-suc 256 (length front) in
    let scaled : x * (256 ^ length front * 256) ≡ x * 256 ^ length front * 256 =
    sym (mul_assoc x (256 ^ length front) 256) in (
      x * 256 ^ length front + more.0,
      be_cons x (front ++ last ∷ []) ∙ ap (λ n. x * 256 ^ n + be (front ++ last ∷ [])) long
          ∙ ap (λ p. x * p + be (front ++ last ∷ [])) power
          ∙ omega (arith, scaled, more.1),
    )

-- fewer than eight of the lowest bits are those of the last octet
pub low_bits : (bits high last : ℕ) → bits < 8 → (high * 256 + last) % 2 ^ bits ≡ last % 2 ^ bits
low_bits zero high last small = omega arith
low_bits (suc zero) high last small = omega arith
low_bits (suc (suc zero)) high last small = omega arith
low_bits (suc (suc (suc zero))) high last small = omega arith
low_bits (suc (suc (suc (suc zero)))) high last small = omega arith
low_bits (suc (suc (suc (suc (suc zero))))) high last small = omega arith
low_bits (suc (suc (suc (suc (suc (suc zero)))))) high last small = omega arith
low_bits (suc (suc (suc (suc (suc (suc (suc zero))))))) high last small = omega arith
low_bits (suc (suc (suc (suc (suc (suc (suc (suc bits)))))))) high last small = absurd (omega (arith, small))

-- ---- the bits of an address

-- the bits after the first ones are in the last octet
pub low_end : (octets front : List ℕ) (last bits weight : ℕ) → octets ≡ front ++ last ∷ []
    → length octets ≡ (bits + 7) / 8 → weight ≡ 2 ^ (8 * length octets - bits)
    → be octets % 2 ^ (8 * length octets - bits) ≡ last % weight
low_end octets front last bits weight is room weighs =
    let high = be_last front last in
    let below = 8 * length octets - bits in
    let small : below < 8 = omega (arith, room) in
    ap (λ n. n % 2 ^ below) (ap be is ∙ high.1) ∙ low_bits below high.0 last small ∙ ap (λ w. last % w) (sym weighs)

-- ---- an option whose octets don't have the form of its code

pub no_subnet : (option : EdnsOption) → option.code ≡ 8 → ((it : ClientSubnet) → IsClientSubnet option.octets it → ⊥)
    → (found : OptionData) → IsTypedOption option found → ⊥
no_subnet option code none (OptionData.unknown other octets) is = is
no_subnet option code none (OptionData.client_subnet it) is = none it is.1
no_subnet option code none found is = omega (arith, code, is.0)

pub no_cookie : (option : EdnsOption) → option.code ≡ 10 → ((it : Cookie) → IsCookie option.octets it → ⊥)
    → (found : OptionData) → IsTypedOption option found → ⊥
no_cookie option code none (OptionData.unknown other octets) is = is
no_cookie option code none (OptionData.cookie it) is = none it is.1
no_cookie option code none found is = omega (arith, code, is.0)

pub no_error : (option : EdnsOption) → option.code ≡ 15 → ((it : ExtendedError) → IsExtendedError option.octets it → ⊥)
    → (found : OptionData) → IsTypedOption option found → ⊥
no_error option code none (OptionData.unknown other octets) is = is
no_error option code none (OptionData.extended_error it) is = none it is.1
no_error option code none found is = omega (arith, code, is.0)
