-- The texts of service parameters and of sets of types are tails.
use Rattle.std.proofs.Common.{ℕ, ◌<◌, List, [], ◌∷◌, map, sym, subst}
use Rattle.std.proofs.lemmas.List.Elements.{All-from_recursion, recursion_from_All}
use Rattle.std.specs.List.{AllByRecursion}
use Rattle.octseq.proofs.WrittenBack.{AreOctets}
use Rattle.octseq.specs.Window.{rest}
use Rattle.octseq_dns_data.specs.Mnemonic.{rtype_text}
use Rattle.octseq_dns_data.specs.RtypeBitmap.{types_of}
use Rattle.octseq_dns_data.specs.Typed.{bitmap, svc_params}
use Rattle.octseq_dns_data.specs.SvcParams.{params_of}
use Rattle.octseq_dns_data.specs.SvcParamsText.{param_text}
use Rattle.octseq_dns_scan.specs.Word.{IsWord}
use Rattle.octseq_format.specs.Rest.{canonical_rest}
use Rattle.octseq_dns_text.proofs.BitmapTypes.{bitmap_again, types_distinct, types_few}
use Rattle.octseq_dns_text.proofs.OrdinaryTexts.{rtype_first}
use Rattle.octseq_dns_text.proofs.Shown.{params_shown, shown_feedless, shown_words}
use Rattle.octseq_dns_text.proofs.ShownForms.{IsShownTail, each_rest}
use Rattle.octseq_dns_text.proofs.SpacedWords.{IsFeedless, IsLineWord, spaced_map}
use Rattle.octseq_dns_text.proofs.TypesShown.{types_shown}
use Rattle.octseq_dns_text.specs.TypesText.{IsTypesText}
use Rattle.octseq_dns_data.specs.declared.layout.Tail.TheVariants as tail

both_all : (P Q : List ℕ → Type 0) (xs : List (List ℕ)) → AllByRecursion P xs → AllByRecursion Q xs
    → AllByRecursion (λ x. P x × Q x) xs
both_all P Q [] one two = tt
both_all P Q (x ∷ xs) one two = ((one.0, two.0), both_all P Q xs one.1 two.1)

pub the_params : IsShownTail tail.Params svc_params
the_params = record {
  shown = λ w place v sound is.
      let octets = rest place in
      let each = subst (λ p. AreOctets (rest p)) (sym is.0.0) (each_rest w sound) in
      record {
        words = map param_text (params_of octets);
        spelled = spaced_map param_text (params_of octets);
        each = both_all IsWord IsFeedless (map param_text (params_of octets))
            (recursion_from_All IsWord _ (shown_words octets each is.1)) (shown_feedless octets each is.1);
        is = params_shown octets each is.1;
      };
  fits = λ w place v sound is. (tt, is.1);
  written = λ w place v sound is. (canonical_rest.written w place v sound is.0).1;
}

type_words : (rtypes : List ℕ) → AllByRecursion (λ rtype. rtype < 65536) rtypes
    → AllByRecursion IsLineWord (map rtype_text rtypes)
type_words [] few = tt
type_words (rtype ∷ rtypes) few =
    let first = rtype_first rtype few.0 in
    ((first.0, first.1), type_words rtypes few.1)

pub a_bitmap : IsShownTail tail.Types bitmap
a_bitmap = record {
  shown = λ w place v sound is.
      let octets = rest place in
      let each = subst (λ p. AreOctets (rest p)) (sym is.0.0) (each_rest w sound) in
      let rtypes = types_of octets in
      let few = types_few octets each is.1 in
      let all = All-from_recursion (λ rtype. rtype < 65536) rtypes few in
      record {
        words = map rtype_text rtypes;
        spelled = spaced_map rtype_text rtypes;
        each = type_words rtypes few;
        is = subst (IsTypesText (map rtype_text rtypes)) (bitmap_again octets each is.1)
            (types_shown rtypes all (types_distinct octets is.1));
      };
  fits = λ w place v sound is. (tt, is.1);
  written = λ w place v sound is. (canonical_rest.written w place v sound is.0).1;
}
