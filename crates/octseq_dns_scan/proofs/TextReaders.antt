-- Runs of text, read one after another.
use Rattle.std.proofs.Common.{◌≡◌, ℕ, ◌+◌, ◌<◌, Bool, true, List, [], ◌∷◌, ◌++◌, length, take, drop, get_or, refl, sym}
use Rattle.std.proofs.Common.{ap, ◌∙◌, subst, append_assoc, Option, Some, Result, Ok, Err, IsErr, IsErrAnd}
use Rattle.std.proofs.Common.{option_to_list, length-append, arith}
use Rattle.std.proofs.lemmas.List.{append-nil, take_more, drop_more, take-append-drop}
use Rattle.octseq.specs.Appends.{Appends}
use Rattle.octseq.specs.Composer.{refusal_of}
use Rattle.octseq.specs.Error.{write_error_of}
use Rattle.octseq.specs.Limit.{ExceedsLimit}
use Rattle.octseq.specs.Refusal.{Refusal, Is, write_error}
use Rattle.octseq.specs.declared.error.WriteError.{WriteError}
use Rattle.octseq.specs.declared.AppendError.{AppendError}
use Rattle.octseq_dns_scan.specs.TextReader.{NoText, ReadsSoFar, Feeds}

pub reads_none : {S : Type 0} (HasRead : S → List ℕ → List ℕ → Type 0) (reader : S)
    → ReadsSoFar HasRead reader reader [] []
reads_none HasRead reader text octets read =
    subst (λ t. HasRead reader t (octets ++ [])) (sym (append-nil text))
    (subst (λ o. HasRead reader text o) (sym (append-nil octets)) read)

pub reads_more : {S : Type 0} (HasRead : S → List ℕ → List ℕ → Type 0) (a b c : S) (front more run made : List ℕ)
    → ReadsSoFar HasRead a b front more → ReadsSoFar HasRead b c run made
    → ReadsSoFar HasRead a c (front ++ run) (more ++ made)
reads_more HasRead a b c front more run made first then text octets read =
    let both = then (text ++ front) (octets ++ more) (first text octets read) in
    subst (λ t. HasRead c t (octets ++ (more ++ made))) (append_assoc text front run)
    (subst (λ o. HasRead c ((text ++ front) ++ run) o) (append_assoc octets more made) both)

-- the next octet of a run is read after those before it
pub reads_next : {S : Type 0} (HasRead : S → List ℕ → List ℕ → Type 0) (a b c : S) (run : List ℕ) (i : ℕ)
    (more made : List ℕ) → i < length run → ReadsSoFar HasRead a b (take i run) more
    → ReadsSoFar HasRead b c (get_or run i 0 ∷ []) made → ReadsSoFar HasRead a c (take (i + 1) run) (more ++ made)
reads_next HasRead a b c run i more made ahead first then =
    subst (λ front. ReadsSoFar HasRead a c front (more ++ made)) (sym (take_more run i 0 ahead))
    (reads_more HasRead a b c (take i run) more (get_or run i 0 ∷ []) made first then)

split_at : (run : List ℕ) (i : ℕ) → i < length run → run ≡ take i run ++ (get_or run i 0 ∷ drop (i + 1) run)
split_at run i ahead = sym (ap (λ rest. take i run ++ rest) (sym (drop_more run i 0 ahead)) ∙ take-append-drop i run)

-- no text goes on with a run if none goes on with an octet of it
pub stuck : {S : Type 0} (Is : List ℕ → List ℕ → Type 0) (HasRead : S → List ℕ → List ℕ → Type 0) (a b : S)
    (run : List ℕ) (i : ℕ) (more : List ℕ) → i < length run → ReadsSoFar HasRead a b (take i run) more
    → ((text octets : List ℕ) → HasRead b text octets → NoText Is (text ++ get_or run i 0 ∷ []))
    → (text octets : List ℕ) → HasRead a text octets → NoText Is (text ++ run)
stuck Is HasRead a b run i more ahead reads refused text octets read all rest are is =
    let none = refused (text ++ take i run) (octets ++ more) (reads text octets read) in
    let x = get_or run i 0 in
    let later = drop (i + 1) run in
    let first : (text ++ run) ++ rest ≡ (text ++ (take i run ++ (x ∷ later))) ++ rest =
    ap (λ r. (text ++ r) ++ rest) (split_at run i ahead) in
    let second : (text ++ (take i run ++ (x ∷ later))) ++ rest ≡ ((text ++ take i run) ++ x ∷ []) ++ (later ++ rest) =
    simp append_assoc in
    none all (later ++ rest) are (subst (λ t. Is t all) (first ∙ second) is)

-- what an append that was refused leaves
pub record Spared (limit : Option ℕ) (asks : Bool) (e : WriteError) (octets old new : List ℕ) : Type 0 where
  pub short : Is Refusal.short (write_error e) → ExceedsLimit limit (length old + length octets)
  pub memory : Is Refusal.memory (write_error e) → asks ≡ true
  pub formed : ¬ (Is Refusal.malformed (write_error e))
  pub kept : new ≡ old

pub spared : (limit : Option ℕ) (asks : Bool) (e : AppendError) (octets old new : List ℕ)
    → Appends limit asks (Err e) octets old new → Spared limit asks (write_error_of (refusal_of e)) octets old new
spared limit asks (AppendError.Short e) octets old new a = record {
  short = a.short.0;
  memory = λ is. absurd is;
  formed = λ is. is;
  kept = a.err;
}
spared limit asks AppendError.Memory octets old new a = record {
  short = λ is. absurd is;
  memory = a.memory;
  formed = λ is. is;
  kept = a.err;
}

-- an octet that was made is past the limit
pub one_past : {S : Type 0} (HasRead : S → List ℕ → List ℕ → Type 0) (limit : Option ℕ) (reader next : S)
    (octet : ℕ) (made : Option ℕ) (value : ℕ) (old : List ℕ) → made ≡ Some value
    → ReadsSoFar HasRead reader next (octet ∷ []) (option_to_list made) → ExceedsLimit limit (length old + 1)
    → (front rest more : List ℕ) × (after : S) × (octet ∷ [] ≡ front ++ rest)
    × ReadsSoFar HasRead reader after front more
    × ExceedsLimit limit (length old + length more)
one_past HasRead limit reader next octet made value old is reads past = (
  octet ∷ [],
  [],
  option_to_list made,
  next,
  refl,
  reads,
  subst (λ o. ExceedsLimit limit (length old + length (option_to_list o))) (sym is) past,
)

-- an octet of a run is refused after those before it were read
pub refused_in : {S : Type 0} (Is : List ℕ → List ℕ → Type 0) (HasRead : S → List ℕ → List ℕ → Type 0)
    (limit : Option ℕ) (asks : Bool) (w : WriteError) (a b : S) (run : List ℕ) (i : ℕ) (more old middle new : List ℕ)
    → i < length run → middle ≡ old ++ more → ReadsSoFar HasRead a b (take i run) more
    → Feeds Is HasRead limit asks (Err w) b (get_or run i 0 ∷ []) middle new
    → Feeds Is HasRead limit asks (Err w) a run old new
refused_in Is HasRead limit asks w a b run i more old middle new ahead grown reads one = record {
  ok = tt;
  malformed = λ is. stuck Is HasRead a b run i more ahead reads (one.malformed is);
  short = λ is.
      let past = one.short is in
      let counted : length middle + length past.2 ≡ length old + length (more ++ past.2) =
      omega (arith, ap length grown, length-append old more, length-append more past.2) in (
        take i run ++ past.0,
        past.1 ++ drop (i + 1) run,
        more ++ past.2,
        past.3,
        split_at run i ahead ∙ ap (λ one. take i run ++ (one ++ drop (i + 1) run)) past.4 ∙ simp append_assoc,
        reads_more HasRead a b past.3 (take i run) more past.0 past.2 reads past.5,
        subst (ExceedsLimit limit) counted past.6,
      );
  memory = one.memory;
  kept = (more ++ one.kept.0, one.kept.1 ∙ ap (λ o. o ++ one.kept.0) grown ∙ append_assoc old more one.kept.0);
}

-- what `?` returns of a refused append
pub passed_on : {S : Type 0} (result : Result S WriteError) (e : AppendError)
    → IsErr result × IsErrAnd result (λ made. made ≡ write_error_of (refusal_of e))
    → result ≡ Err (write_error_of (refusal_of e))
passed_on (Ok s) e is = absurd is.1
passed_on (Err w) e is = ap Err is.1

pub passed_same : {S : Type 0} (result : Result S WriteError) (w : WriteError)
    → IsErr result × IsErrAnd result (λ made. made ≡ w) → result ≡ Err w
passed_same (Ok s) w is = absurd is.1
passed_same (Err e) w is = ap Err is.1
