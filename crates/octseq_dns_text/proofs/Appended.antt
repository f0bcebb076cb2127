-- Octets that are appended to a content as far as they fit.
use Rattle.std.proofs.Common.{◌≡◌, ℕ, ◌+◌, ◌<◌, ◌↔◌, Bool, true, false, List, [], ◌++◌, length, refl, sym, ap, ◌∙◌}
use Rattle.std.proofs.Common.{subst}
use Rattle.std.proofs.Common.{append_assoc, length-append, Option, Some, None, arith}
use Rattle.std.proofs.lemmas.List.{append-nil}
use Rattle.octseq.specs.Limit.{ExceedsLimit}
use Rattle.octseq_dns_text.specs.Output.{HoldsOutput, Adds, Grows}

pub past_more : (limit : Option ℕ) (n m k : ℕ) → m ≡ n + k → ExceedsLimit limit n → ExceedsLimit limit m
past_more (Some most) n m k same past = omega arith
past_more None n m k same past = past

pub adds_none : (limit : Option ℕ) (full : Bool) (content : List ℕ) → Adds limit full content full content []
adds_none limit full content base made held = record {
  fits = λ not_full. held.fits not_full ∙ ap (λ more. base ++ more) (sym (append-nil made));
  past = λ is_full. past_more limit (length base + length made) _ 0 (omega (arith, length-append made []))
      (held.past is_full);
}

pub adds_more : (limit : Option ℕ) (a b c : Bool) (old middle new front rest : List ℕ) → Adds limit a old b middle front
    → Adds limit b middle c new rest → Adds limit a old c new (front ++ rest)
adds_more limit a b c old middle new front rest first then base made held =
    subst (λ all. HoldsOutput limit base all c new) (append_assoc made front rest)
    (then base (made ++ front) (first base made held))

-- they fit
pub adds_fit : (limit : Option ℕ) (full : Bool) (old new octets : List ℕ) → new ≡ old ++ octets
    → Adds limit full old full new octets
adds_fit limit full old new octets same base made held = record {
  fits = λ not_full. same ∙ ap (λ front. front ++ octets) (held.fits not_full) ∙ append_assoc base made octets;
  past = λ is_full. past_more limit (length base + length made) _ (length octets) (omega (
    arith,
    length-append made octets,
  ))
      (held.past is_full);
}

-- they don't
pub adds_past : (limit : Option ℕ) (full : Bool) (old octets : List ℕ) → ExceedsLimit limit (length old + length octets)
    → Adds limit full old true old octets
adds_past limit false old octets past base made held = record {
  fits = λ not_full. absurd (cc);
  past = λ is_full.
      let lengths = ap length (held.fits refl) in
      subst (ExceedsLimit limit) (omega (arith, lengths, length-append base made, length-append made octets)) past;
}
adds_past limit true old octets past base made held = record {
  fits = λ not_full. absurd (cc);
  past = λ is_full. past_more limit (length base + length made) _ (length octets) (omega (
    arith,
    length-append made octets,
  ))
      (held.past refl);
}

pub grows_none : (content : List ℕ) → Grows content content
grows_none content = ([], sym (append-nil content))

pub grows_more : (old middle new : List ℕ) → Grows old middle → Grows middle new → Grows old new
grows_more old middle new first then =
    (first.0 ++ then.0, then.1 ∙ ap (λ front. front ++ then.0) first.1 ∙ append_assoc old first.0 then.0)
