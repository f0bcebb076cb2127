use Rattle.std.proofs.Common.{◌≡◌, ℕ, ◌+◌, List, [], ◌∷◌, ◌++◌, length, refl, sym, ap, ◌∙◌, subst, append_assoc, arith}
use Rattle.std.proofs.Common.{option_map, rules}
use Rattle.std.proofs.lemmas.List.{append-nil, nil_from_length}
use Rattle.octseq_dns_data.specs.declared.layout.Field.{Field}
use Rattle.octseq_dns_data.specs.declared.layout.Tail.{Tail}
use Rattle.octseq_dns_name.specs.Read.{labels_of}
use Rattle.octseq_dns_scan.proofs.Taken.{word_once}
use Rattle.octseq_dns_scan.specs.Words.{ahead_of, offset_of}
use Rattle.octseq_dns_text.proofs.Appended.{grows_none, grows_more}
use Rattle.octseq_dns_text.proofs.LayoutTexts.{fields_word, fields_fault}
use Rattle.octseq_dns_text.proofs.ReadTexts.{reached_none, reached_word}
use Rattle.octseq_dns_text.specs.Fields.{IsFieldText}
use Rattle.octseq_dns_text.specs.Layouts.{IsLayoutText}
use Rattle.octseq_dns_text.specs.Reached.{Reached}
use Rattle.octseq_dns_text.specs.Scans.{IsWordFault}
use Rattle.octseq_dns_text.proofs.data.append_fields.Goals as goal

pub fields-init : goal.fields-init
fields-init g c =
    let origin = option_map (λ name. labels_of name.now) c.args.origin in record {
      done = [];
      parts = refl;
      reached = reached_none (IsLayoutText origin [] Tail.Nothing) (ahead_of c.args.words.now)
          (offset_of c.args.words.now) g.B.AsOctets.limit (g.B.AsOctets.content c.args.target.now) (refl, refl);
      grows = grows_none (g.B.AsOctets.content c.args.target.now);
      borrows = refl;
    }

pub fields-preserved : goal.fields-preserved
fields-preserved g c =
    let origin = option_map (λ name. labels_of name.now) c.args.origin in
    let so_far = c.fields.invariant in
    let field = c.in-Some.field.now in
    let more = c.in-Some.more.now in
    let here : c.fields.ahead.now ≡ field ∷ more = search rules in
    let word = c.in-Some-next_word.word.octets.now in
    let base = g.B.AsOctets.content c.args.target.now in
    let old = g.B.AsOctets.content c.fields.target in
    let new = g.B.AsOctets.content c.append_field.new.target in
    let (octets, is, adds) = c.in-Ok.ensures.ok in record {
      done = so_far.done ++ field ∷ [];
      parts = so_far.parts ∙ ap (λ rest. so_far.done ++ rest) here ∙ sym (append_assoc so_far.done (field ∷ []) more);
      reached = reached_word (IsLayoutText origin so_far.done Tail.Nothing)
          (IsLayoutText origin (so_far.done ++ field ∷ []) Tail.Nothing) (ahead_of c.args.words.now)
          (offset_of c.args.words.now) g.B.AsOctets.limit base (ahead_of c.fields.words)
          (ahead_of c.next_word.new.self) (offset_of c.fields.words) (offset_of c.next_word.new.self) c.fields.full
          c.in-Ok.past old new word octets so_far.reached c.in-Some-next_word.ensures.some
          c.in-Some-next_word.ensures.end (fields_word origin so_far.done field word octets is) adds;
      grows = grows_more base old new so_far.grows c.append_field.ensures.grows;
      borrows = c.append_field.ensures.borrows ∙ so_far.borrows;
    }

pub returns-in-Err-Malformed-clause-fault : goal.returns-in-Err-Malformed-clause-fault
returns-in-Err-Malformed-clause-fault g c = λ offset same it.
    let origin = option_map (λ name. labels_of name.now) c.args.origin in
    let so_far = c.fields.invariant in
    let field = c.in-Some.field.now in
    let more = c.in-Some.more.now in
    let here : c.fields.ahead.now ≡ field ∷ more = search rules in
    let word = c.in-Some-next_word.word.octets.now in
    let ahead = ahead_of c.args.words.now in
    let start = offset_of c.args.words.now in
    let rest = ahead_of c.fields.words in
    let offsets : c.in-Some-next_word.word.offset ≡ offset = cc in
    let parts : c.args.fields.now ≡ so_far.done ++ field ∷ more = so_far.parts ∙ ap (λ all. so_far.done ++ all) here in
    let none : (octets : List ℕ) → ¬ (IsFieldText origin field word octets) =
    c.in-Err-Malformed.ensures.malformed (cc) in
    let fault = fields_fault origin so_far.done field more it ahead start g.B.AsOctets.limit
    (g.B.AsOctets.content c.args.target.now) rest (offset_of c.fields.words) c.fields.full
    (g.B.AsOctets.content c.fields.target) so_far.reached
    (λ other left takes. subst (λ w. (octets : List ℕ) → ¬ (IsFieldText origin field w octets))
    (sym (word_once other word rest left (ahead_of c.next_word.new.self) takes c.in-Some-next_word.ensures.some).0)
    none) in
    subst (λ place. IsWordFault (IsLayoutText origin c.args.fields.now it) ahead start place)
    (sym c.in-Some-next_word.ensures.offset ∙ offsets)
    (subst (λ all. IsWordFault (IsLayoutText origin all it) ahead start (offset_of c.fields.words)) (sym parts) fault)

pub returns-in-None-clause-fault : goal.returns-in-None-clause-fault
returns-in-None-clause-fault g c = λ offset same it.
    let origin = option_map (λ name. labels_of name.now) c.args.origin in
    let so_far = c.fields.invariant in
    let field = c.in-Some.field.now in
    let more = c.in-Some.more.now in
    let here : c.fields.ahead.now ≡ field ∷ more = search rules in
    let ahead = ahead_of c.args.words.now in
    let start = offset_of c.args.words.now in
    let rest = ahead_of c.fields.words in
    let found : c.offset.result ≡ offset = cc in
    let lengths = ap length c.in-None.ensures.kept in
    let kept : offset_of c.next_word.new.self ≡ offset_of c.fields.words =
    omega (arith, lengths, c.in-None.ensures.end) in
    let parts : c.args.fields.now ≡ so_far.done ++ field ∷ more = so_far.parts ∙ ap (λ all. so_far.done ++ all) here in
    let fault = fields_fault origin so_far.done field more it ahead start g.B.AsOctets.limit
    (g.B.AsOctets.content c.args.target.now) rest (offset_of c.fields.words) c.fields.full
    (g.B.AsOctets.content c.fields.target) so_far.reached
    (λ other left takes. absurd (c.in-None.ensures.none refl other left takes)) in
    subst (λ place. IsWordFault (IsLayoutText origin c.args.fields.now it) ahead start place)
    (sym kept ∙ sym c.offset.ensures ∙ found)
    (subst (λ all. IsWordFault (IsLayoutText origin all it) ahead start (offset_of c.fields.words)) (sym parts) fault)

pub returns-clause-ok : goal.returns-clause-ok
returns-clause-ok g c =
    let origin = option_map (λ name. labels_of name.now) c.args.origin in
    let so_far = c.fields.invariant in
    let none : length c.fields.ahead.now ≡ 0 = search rules in
    let parts : so_far.done ≡ c.args.fields.now =
    sym (so_far.parts ∙ ap (λ rest. so_far.done ++ rest) (nil_from_length c.fields.ahead.now none)
    ∙ append-nil so_far.done) in
    subst (λ fields. Reached (IsLayoutText origin fields Tail.Nothing) (ahead_of c.args.words.now)
    (offset_of c.args.words.now) g.B.AsOctets.limit (g.B.AsOctets.content c.args.target.now)
    (ahead_of c.fields.words) (offset_of c.fields.words) c.fields.full (g.B.AsOctets.content c.fields.target))
    parts so_far.reached
