-- What lossy readings ensure.
use Rattle.std.proofs.Common.{◌≡◌, ℕ, List, ◌++◌, length, Option, Result, IfOk, IsErr, ap, sym, ◌∙◌, subst}
use Rattle.std.proofs.lemmas.Result.{IfOk-weaker}
use Rattle.octseq_core.specs.Limit.{ExceedsLimit}
use Rattle.octseq_core.specs.Refusal.{Refusal, IsShort, IsMemory}
use Rattle.octseq_utf8.specs.Encoding.{IsCharacter}
use Rattle.octseq_utf8.specs.Parts.{Part, text_with}
use Rattle.octseq_utf8.specs.Reading.{parts_of}
use Rattle.octseq_utf8.specs.Text.{IsWellFormed}
use Rattle.octseq_utf8.proofs.LossyTexts.{text_well_formed, text_same, text_with_long}
use Rattle.octseq_utf8.proofs.Splitting.{splits, only_parts, one_splitting}
use Rattle.octseq_utf8.proofs.Texts.{well_formed-append}
use Rattle.octseq_text.specs.Lossy.{ReadsLossily}

-- a call that returns the text of the octets' parts, as the finder reads them, is a lossy reading
module _ {A E : Type 0} (tells : E → Refusal) (limit : Option ℕ) (requests : Type 0) (w : ℕ) (front octets : List ℕ)
    (content : A → List ℕ) (result : Result A E) where
  abbrev whole : List Part → List ℕ
  whole parts = front ++ text_with w parts

  all_good : IsCharacter w → IsWellFormed front → IfOk result (λ made. content made ≡ whole (parts_of octets))
      → IfOk result (λ made. IsWellFormed (content made))
  all_good h good text = IfOk-weaker result (λ made. content made ≡ whole (parts_of octets)) _
      (λ made e. subst IsWellFormed (sym e)
      (well_formed-append front (text_with w (parts_of octets)) good (text_well_formed w h (splits octets)))) text

  pub reads_lossily : IsCharacter w → IsWellFormed front
      → IfOk result (λ made. content made ≡ front ++ text_with w (parts_of octets))
      → (IsShort tells result → ExceedsLimit limit (length (front ++ text_with w (parts_of octets))))
      → (ExceedsLimit limit (length (front ++ text_with w (parts_of octets))) → IsErr result)
      → (IsMemory tells result → requests)
      → ReadsLossily tells limit requests w front octets content result
  reads_lossily h good text short past memory = record {
    one_splitting = λ parts others s t. one_splitting s t;
    splitting = (parts_of octets, splits octets);
    text = IfOk-weaker result (λ made. content made ≡ whole (parts_of octets)) _
        (λ made e parts s. e ∙ ap whole (sym (only_parts s))) text;
    well_formed = all_good h good text;
    short = λ refused parts s. subst (λ ps. ExceedsLimit limit (length (whole ps))) (sym (only_parts s))
        (short refused);
    past = λ parts s p. past (subst (λ ps. ExceedsLimit limit (length (whole ps))) (only_parts s) p);
    memory = memory;
    again = IfOk-weaker result (λ made. IsWellFormed (content made)) _
        (λ made made_good v parts s. text_same v (content made) parts made_good s) (all_good h good text);
    other = λ n. IfOk-weaker result (λ made. IsWellFormed (content made)) _
        (λ made made_good e. n (subst IsWellFormed e made_good)) (all_good h good text);
    no_shorter = λ three parts s. text_with_long w three s;
  }
