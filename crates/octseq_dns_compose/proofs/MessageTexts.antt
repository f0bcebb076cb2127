-- What is read of a message's text, and written.
use Rattle.std.proofs.Common.{◌≡◌, ℕ, ◌+◌, None, List, [], ◌∷◌, ◌++◌, length, refl, sym, ◌∙◌, subst}
use Rattle.std.proofs.Common.{arith, Result, Ok, Err, OnOk, Option, Some, IfSome, IfNone}
use Rattle.std.proofs.lemmas.List.{length-append}
use Rattle.std.specs.List.{AllZip}
use Rattle.octseq.specs.Limit.{IsWithin}
use Rattle.octseq_dns.specs.Contents.{Message}
use Rattle.octseq_dns.specs.Rdata.{bare_rdata, rdata_fields, rtype_of}
use Rattle.octseq_dns.specs.Writes.{Building, ComposesMessage, all_more}
use Rattle.octseq_dns_data.specs.Data.{ParsedRdata}
use Rattle.octseq_dns_data.specs.Data as read
use Rattle.octseq_dns_compose.specs.Alone.{SaysAlone}
use Rattle.octseq_dns_compose.specs.MessageText.{IsRecordOfLine, RecordLine}
use Rattle.octseq_dns_compose.specs.Progress.{HasPushed}
use Rattle.octseq_dns_compose.specs.TextLines.{TakesLine}
use Rattle.octseq_dns_compose.proofs.LineFaults.{Line, lines_more}

-- ---- one record

bare_rtype : (p : ParsedRdata) → rtype_of (bare_rdata p) ≡ read.rtype_of p
bare_rtype (ParsedRdata.a octets) = refl
bare_rtype p = refl

pub record_said : (said : RecordLine) (labels : List (List ℕ)) (p : ParsedRdata) → labels ≡ said.head.labels
    → read.rtype_of p ≡ said.head.rtype
    → SaysAlone said.head.rtype said.head.class said.octets p
    → IsRecordOfLine said (record {
      labels = labels;
      rtype = rtype_of (bare_rdata p);
      class = said.head.class;
      ttl = said.head.ttl;
      fields = rdata_fields (bare_rdata p);
    })
record_said said labels p same kind says =
    let is = bare_rtype p ∙ kind in
    record {
      parsed = p;
      says = says;
      is = λ i. record {
        labels = same i;
        rtype = is i;
        class = said.head.class;
        ttl = said.head.ttl;
        fields = rdata_fields (bare_rdata p);
      };
    }

-- ---- one after another

pub zip_snoc : {A B : Type 0} (R : A → B → Type 0) (xs : List A) (ys : List B) (x : A) (y : B) → AllZip R xs ys → R x y
    → AllZip R (xs ++ x ∷ []) (ys ++ y ∷ [])
zip_snoc R [] [] x y all one = (one, tt)
zip_snoc R (a ∷ xs) (b ∷ ys) x y all one = (all.0, zip_snoc R xs ys x y all.1 one)
zip_snoc R xs ys x y all one = absurd all

more_snoc : {A : Type 0} (more : Message → A → Message) (m : Message) (xs : List A) (x : A)
    → all_more more m (xs ++ x ∷ []) ≡ more (all_more more m xs) x
more_snoc more m [] x = refl
more_snoc more m (a ∷ xs) x = more_snoc more (more m a) xs x

module _ {A R B T : Type 0} {IsText : A → Line → Type 0} {Is : A → R → Type 0} {most : ℕ} {limit : Option ℕ}
    {more : Message → R → Message} where
  pub pushed_none : {text : List ℕ} {first : ℕ} {before : Building B T}
      → HasPushed IsText Is most limit more text text first first before before
  pushed_none = record {
    values = [];
    read = record { lines = []; begins = refl; place = omega arith; are = tt };
    entries = [];
    are = tt;
    written = λ m writes. writes;
    within = λ within. within;
    push_limit = refl;
  }

  pub pushed_more : {text ahead next : List ℕ} {first now then : ℕ} {before mid after : Building B T} (value : A)
      (entry : R) (words : Line) (so_far : HasPushed IsText Is most limit more text ahead first now before mid)
      → TakesLine words ahead next → then ≡ now + 1 → IsText value words → Is value entry
      → ((m : Message) → ComposesMessage most m mid.state mid.header mid.counts
      → ComposesMessage most (more m entry) after.state after.header after.counts)
      → IsWithin limit (length after.state.octets) → after.push_limit ≡ mid.push_limit
      → HasPushed IsText Is most limit more text next first then before after
  pushed_more {text = text} {ahead = ahead} {next = next} {after = after} value entry words so_far taken number said is
      written within same =
      let read = so_far.read in
      record {
        values = so_far.values ++ value ∷ [];
        read = record {
          lines = read.lines ++ words ∷ [];
          begins = lines_more read.lines (words ∷ []) text ahead next read.begins (next, taken, refl);
          place =
              let size = length-append read.lines (words ∷ []) in
              let before = read.place in
              omega (arith, size, before, number);
          are = zip_snoc IsText so_far.values read.lines value words read.are said;
        };
        entries = so_far.entries ++ entry ∷ [];
        are = zip_snoc Is so_far.values so_far.entries value entry so_far.are is;
        written = λ m writes.
            subst (λ x. ComposesMessage most x after.state after.header after.counts)
            (sym (more_snoc more m so_far.entries entry))
            (written (all_more more m so_far.entries) (so_far.written m writes));
        within = λ _. within;
        push_limit = same ∙ so_far.push_limit;
      }

  pub pushed_same : {text ahead next : List ℕ} {first now then : ℕ} {before after : Building B T}
      → HasPushed IsText Is most limit more text ahead first now before after → next ≡ ahead → then ≡ now
      → HasPushed IsText Is most limit more text next first then before after
  pushed_same {text = text} {ahead = ahead} {first = first} {then = then} {before = before} {after = after} so_far same
      is =
      subst (λ t. HasPushed IsText Is most limit more text t first then before after) (sym same)
      (subst (λ n. HasPushed IsText Is most limit more text ahead first n before after) (sym is) so_far)

-- ---- results

pub on_ok : {V E : Type 0} (r : Result V E) (P Q : Type 0) → (P → Q) → OnOk r P → OnOk r Q
on_ok (Ok v) P Q maps is = maps is
on_ok (Err e) P Q maps is = tt

pub if_some : {A : Type 0} (o : Option A) (value : A) (P : A → Type 0) → o ≡ Some value → IfSome o P → P value
if_some o value P is holds = subst (λ x. IfSome x P) is holds

pub if_none : {A : Type 0} (o : Option A) (P : Type 0) → o ≡ None → IfNone o P → P
if_none o P is holds = subst (λ x. IfNone x P) is holds
