use Rattle.std.proofs.Common.{inl, inr, subst}
use Rattle.octseq.specs.Parser.{window}
use Rattle.octseq_dns_data.specs.declared.layout.Field.{Field}
use Rattle.octseq_c.specs.Fields.{IsField}
use Rattle.octseq_c.proofs.fields.take_field.Goals as goal

pub returns-in-U8-clause-malformed : goal.returns-in-U8-clause-malformed
returns-in-U8-clause-malformed g c = λ err row end is.
    let Is : Field → Type 0 = λ f. IsField f (window c.args.parser.now) row end in
    c.take_u8.ensures.malformed err row end (subst Is c.in-U8.is is)

pub returns-in-U16-clause-malformed : goal.returns-in-U16-clause-malformed
returns-in-U16-clause-malformed g c = λ err row end is.
    let Is : Field → Type 0 = λ f. IsField f (window c.args.parser.now) row end in
    let none = c.take_u16.ensures.malformed err row end in
    elim c.in-U16.is [
      | inl u16 ↦ none (subst Is u16 is)
      | inr rtype ↦ none (subst Is rtype is)
    ]

pub returns-in-U32-clause-malformed : goal.returns-in-U32-clause-malformed
returns-in-U32-clause-malformed g c = λ err row end is.
    let Is : Field → Type 0 = λ f. IsField f (window c.args.parser.now) row end in
    let none = c.take_u32.ensures.malformed err row end in
    elim c.in-U32.is [
      | inl u32 ↦ none (subst Is u32 is)
      | inr time ↦ none (subst Is time is)
    ]

pub returns-in-Name-clause-malformed : goal.returns-in-Name-clause-malformed
returns-in-Name-clause-malformed g c = λ err row end is.
    let Is : Field → Type 0 = λ f. IsField f (window c.args.parser.now) row end in
    c.take_name.ensures.malformed err row end (subst Is c.in-Name.is is)

pub returns-in-String-clause-malformed : goal.returns-in-String-clause-malformed
returns-in-String-clause-malformed g c = λ err row end is.
    let Is : Field → Type 0 = λ f. IsField f (window c.args.parser.now) row end in
    let none = c.take_string.ensures.malformed err row end in
    elim c.in-String.is [
      | inl string ↦ none (subst Is string is)
      | inr others ↦ elim others [
        | inl tag ↦ none (subst Is tag is)
        | inr more ↦ elim more [
          | inl salt ↦ none (subst Is salt is)
          | inr owner ↦ none (subst Is owner is)
        ]
      ]
    ]
