use Rattle.std.proofs.Common.{◌≡◌, ◌∙◌, ◌∷◌, ◌++◌, [], ℕ, List, Bool, true, false, Option, Result, Ok, Err, refl}
use Rattle.std.proofs.Common.{sym, ap}
use Rattle.std.proofs.Common.{append_assoc}
use Rattle.std.proofs.KnownBytes.{Consumes-trans}
use Rattle.std.specs.Io.KnownBytes.{Consumes, IsAtEnd}
use Rattle.std.specs.Prelude.{IfOk, OnErr, OnOk}
use Rattle.octseq_cli.specs.Texts.{AreFeeds, EndsWithLineFeed, IsNextText, IsLineText}
use Rattle.octseq_cli.proofs.texts.read_text.Goals as goal

-- the text that follows empty lines, of which the first octet was read
text_read : {E : Type 0} (given mid left : Option (List ℕ)) (feeds begun text : List ℕ) (octet : ℕ)
    (result : Result Bool E) → AreFeeds feeds → Consumes given mid (feeds ++ octet ∷ []) → begun ≡ octet ∷ []
    → OnOk result (IsLineText text)
    → (result ≡ Ok false → EndsWithLineFeed text × (more : List ℕ) × (text ≡ begun ++ more)
    × Consumes mid left (more ++ 10 ∷ []))
    → (result ≡ Ok true → IsAtEnd left × (more : List ℕ) × (text ≡ begun ++ more) × Consumes mid left more)
    → IfOk result (λ is_over. (read : List ℕ) × IsNextText is_over text read × Consumes given left read)
text_read given mid left feeds begun text octet (Ok false) are first begins is ended over =
    let (closed, more, whole, consumed) = ended refl in
    let same : (feeds ++ octet ∷ []) ++ (more ++ 10 ∷ []) ≡ feeds ++ (text ++ 10 ∷ []) =
    append_assoc feeds (octet ∷ []) (more ++ 10 ∷ [])
    ∙ ap (λ l. feeds ++ (l ++ 10 ∷ [])) (sym (whole ∙ ap (λ l. l ++ more) begins)) in (
      (feeds ++ octet ∷ []) ++ (more ++ 10 ∷ []),
      (feeds, are, is, closed, same),
      Consumes-trans given mid left (feeds ++ octet ∷ []) (more ++ 10 ∷ []) first consumed,
    )
text_read given mid left feeds begun text octet (Ok true) are first begins is ended over =
    let (end, more, whole, consumed) = over refl in
    let same : (feeds ++ octet ∷ []) ++ more ≡ feeds ++ text =
    append_assoc feeds (octet ∷ []) more
    ∙ ap (λ l. feeds ++ l) (sym (whole ∙ ap (λ l. l ++ more) begins)) in (
      (feeds ++ octet ∷ []) ++ more,
      (feeds, are, is.1, same),
      Consumes-trans given mid left (feeds ++ octet ∷ []) more first consumed,
    )
text_read given mid left feeds begun text octet (Err e) are first begins is ended over = tt

pub returns-clause-text : goal.returns-clause-text
returns-clause-text g c =
    let first = rw c.in-Some.is at c.in_ok-first.ensures.some in
    let begun = c.in_ok-append.ensures ∙ ap (λ l. l ++ c.in-Some.first ∷ []) c.clear.ensures.items in
    let said = c.append_lines.ensures in
    text_read (g.R.Read.remaining c.args.reader.now) (g.R.Read.remaining c.read_first.new.reader)
    (g.R.Read.remaining c.append_lines.new.reader) first.1 c.append.new.text.items c.append_lines.new.text.items
    c.in-Some.first c.append_lines.result first.2 first.3 begun said.text said.ended said.over

-- octets were read before a call failed
err_read : (given mid left : Option (List ℕ)) (first : List ℕ) → Consumes given mid first
    → ((read : List ℕ) × Consumes mid left read) → (read : List ℕ) × Consumes given left read
err_read given mid left first was (read, consumed) =
    (first ++ read, Consumes-trans given mid left first read was consumed)

on_err_more : {T E : Type 0} {P Q : Type 0} (result : Result T E) → (P → Q) → OnErr result P → OnErr result Q
on_err_more (Ok x) f p = p
on_err_more (Err e) f p = f p

pub returns-clause-err : goal.returns-clause-err
returns-clause-err g c =
    let first = rw c.in-Some.is at c.in_ok-first.ensures.some in
    on_err_more c.append_lines.result (err_read (g.R.Read.remaining c.args.reader.now)
    (g.R.Read.remaining c.read_first.new.reader) (g.R.Read.remaining c.append_lines.new.reader) _ first.3)
    c.append_lines.ensures.err
