-- Octets up to the first zero.
use Rattle.std.specs.Prelude.{◌≡◌, ℕ, zero, suc, ◌+◌, ◌-◌, ◌<◌, List, [], ◌∷◌, ◌++◌, length, slice_index, refl}
use Rattle.std.proofs.Common.{sym, ap, ◌∙◌, arith, length-append, append_assoc}
use Rattle.std.proofs.Math.ListN.{get_or-append}
use Rattle.std.proofs.Math.Seq.{get_or-append_seam}
use Rattle.octseq.specs.Window.{Window, left, rest, nested, past}
use Rattle.octseq.proofs.WindowsAfter.{front_comes_next}
use Rattle.octseq.proofs.Codes.{length_rest}
use Rattle.octseq_format.specs.Laws.{Relation, IsOne, IsOnward, IsReadBack, IsDelimited, back_of}

-- none of the first n octets is zero
abbrev pub NoneIsZero : List ℕ → ℕ → Type 0
NoneIsZero octets n = (k : ℕ) → k < n → ¬ (slice_index octets k ≡ 0)

-- n octets, none of them zero, are followed by a zero
abbrev pub EndsAtZero : List ℕ → ℕ → Type 0
EndsAtZero octets n = (n < length octets) × (slice_index octets n ≡ 0) × NoneIsZero octets n

-- the window of the octets before the zero; what comes next is after the zero
abbrev pub IsEnded : Relation Window
IsEnded w inside v = (n : ℕ) × EndsAtZero (rest w) n × (inside ≡ nested n w) × (v ≡ past (n + 1) w)

-- octets, and a zero
abbrev pub ended_octets : List ℕ → List ℕ
ended_octets octets = octets ++ 0 ∷ []

-- no octet is zero
abbrev pub HasNoZero : List ℕ → Type 0
HasNoZero octets = NoneIsZero octets (length octets)

-- ---- lemmas: proved below this line, so what the words mean is read above it

same_end : (octets : List ℕ) (m n : ℕ) → EndsAtZero octets m → EndsAtZero octets n → m ≡ n
same_end octets m n a b = by_order (m - n) (n - m) refl refl where
  by_order : (x y : ℕ) → m - n ≡ x → n - m ≡ y → m ≡ n
  by_order zero zero p q = omega (arith, p, q)
  by_order (suc x) y p q = absurd (a.2 n (omega (arith, p)) b.1)
  by_order zero (suc y) p q = absurd (b.2 m (omega (arith, q)) a.1)

pub one_ended : IsOne IsEnded
one_ended = record {
  same = λ w a b u v is other.
      let same = same_end (rest w) is.0 other.0 is.1 other.1 in (
        is.2 ∙ ap (λ n. nested n w) same ∙ sym other.2,
        is.3 ∙ ap (λ n. past (n + 1) w) same ∙ sym other.3,
      );
}

pub onward_ended : IsOnward 1 IsEnded
onward_ended = record {
  on = λ w a v ordered is.
      let position = ap (λ (x : Window). x.position) is.3 in
      let end = ap (λ (x : Window). x.end) is.3 in
      let room = length_rest w in (
        ap (λ (x : Window). x.octets) is.3,
        end,
        omega (arith, position),
        omega (arith, position, end, is.1.0, room, ordered),
      );
  less = λ w a v is.
      let same = ap left is.3 in
      let room = length_rest w in
      omega (arith, same, room, is.1.0);
}

pub delimited_ended : IsDelimited IsEnded rest ended_octets HasNoZero
delimited_ended = record {
  next = λ w said more fits is.
      let n = length said in
      let apart : rest w ≡ said ++ 0 ∷ more = is ∙ append_assoc said (0 ∷ []) more in
      let come = front_comes_next w said (0 ∷ more) n apart refl in
      let many = ap length apart ∙ length-append said (0 ∷ more) in
      let long : length (ended_octets said) ≡ n + 1 = length-append said (0 ∷ []) in
      record {
        it = nested n w;
        tells = come.1;
        is = (
          n,
          (
            omega (arith, many),
            ap (λ octets. slice_index octets n) apart ∙ get_or-append_seam said 0 more 0,
            λ k before zero. fits k before
                (sym (ap (λ octets. slice_index octets k) apart ∙ get_or-append said (0 ∷ more) 0 k before) ∙ zero),
          ),
          refl,
          ap (λ m. past m w) long,
        );
      };
}

pub ended_read_back : IsReadBack IsEnded rest ended_octets HasNoZero
ended_read_back = back_of delimited_ended
