-- The text of a record, and where it is none.
use Rattle.std.proofs.Common.{◌≡◌, ◌⊎◌, ℕ, ◌+◌, Option, List, [], ◌∷◌, ◌++◌, length, codes}
use Rattle.std.proofs.Common.{Bool, true, false, ◌||◌, refl, ap, subst, inl, inr, arith}
use Rattle.octseq_dns_scan.specs.Word.{TakesWord, AreWords}
use Rattle.octseq_dns_text.proofs.TypesTexts.{type_once}
use Rattle.octseq_dns_text.specs.DataText.{IsDataText, ends_in_list}
use Rattle.octseq_dns_text.specs.Layouts.{layout_of}
use Rattle.octseq_dns_text.proofs.ReadTexts.{words_more}
use Rattle.octseq_dns_text.specs.Scans.{BeginsWithWords, Goes, IsWordFault}
use Rattle.octseq_dns_compose.specs.RecordText.{Head, IsOwnerWord, IsTtlWord, IsClassWord, IsRecordTypeWord}
use Rattle.octseq_dns_compose.specs.RecordText.{BeginsWithList, TtlAndClass, IsRecordText, IsAnyRecord}
use Rattle.octseq_dns_compose.specs.Take.{Then}
use Rattle.octseq_dns_compose.specs.TakeOrder.{NoneNext, IsNoOrder}
use Rattle.octseq_dns_compose.proofs.Faults.{Leads, Reached, at_front, first_fault, past_words}
use Rattle.octseq_dns_compose.proofs.Named.{no_number}
use Rattle.octseq_dns_compose.proofs.Samples.{class_sample, one_class, name_sample, rtype_sample, ttl_sample}
use Rattle.octseq_dns_compose.proofs.Samples.{data_sample}

-- ---- what follows each word

abbrev pub AfterClass : Option (List (List ℕ)) → ℕ → List (List ℕ) → List ℕ → Type 0
AfterClass origin class words octets =
    (rtype : ℕ) × Then (IsRecordTypeWord rtype) (λ more. IsDataText origin rtype class more octets) words

abbrev pub OfHead : Option (List (List ℕ)) → ℕ → ℕ → ℕ → List (List ℕ) → List ℕ → Type 0
OfHead origin ttl class rtype words octets =
    TtlAndClass ttl class (Then (IsRecordTypeWord rtype) (λ more. IsDataText origin rtype class more octets)) words

abbrev pub AfterOwner : Option (List (List ℕ)) → List (List ℕ) → List ℕ → Type 0
AfterOwner origin words octets = (ttl class rtype : ℕ) × OfHead origin ttl class rtype words octets

-- ---- samples

class_goes : (origin : Option (List (List ℕ))) (class : ℕ) → Goes (AfterClass origin class) []
class_goes origin class =
    let more = data_sample origin 1 class in
    (codes "A" ∷ more.0, more.1, (1, (rtype_sample, more.2)))

owner_goes : (origin : Option (List (List ℕ))) → Goes (AfterOwner origin) []
owner_goes origin =
    let more = class_goes origin 1 in
    (codes "0" ∷ codes "IN" ∷ more.0, more.1, (0, 1, more.2.0, inl (ttl_sample, (class_sample, more.2.1))))

pub record_goes : (origin : Option (List (List ℕ))) → Goes (IsAnyRecord origin) []
record_goes origin =
    let more = owner_goes origin in
    let is = more.2 in (
      codes "." ∷ more.0,
      more.1,
      (record { labels = []; ttl = is.0; class = is.1; rtype = is.2 }, (name_sample origin, is.3)),
    )

-- ---- from the whole to what follows

owner_leads : (origin : Option (List (List ℕ))) (labels : List (List ℕ)) (word : List ℕ)
    → IsOwnerWord origin labels word
    → Leads (IsAnyRecord origin) (AfterOwner origin) (word ∷ [])
owner_leads origin labels word is = record {
  into = λ words octets rest.
      (octets, (record { labels = labels; ttl = rest.0; class = rest.1; rtype = rest.2 }, (is, rest.3)));
  out = λ words octets all. (octets, (all.0.ttl, all.0.class, all.0.rtype, all.1.1));
}

-- what a TTL and a class are followed by
ttl_out : (origin : Option (List (List ℕ))) (n class : ℕ) (first second : List ℕ) → IsTtlWord n first
    → IsClassWord class second → (words : List (List ℕ)) (octets : List ℕ)
    → AfterOwner origin (first ∷ second ∷ words) octets → AfterClass origin class words octets
ttl_out origin n class first second is_ttl is_class words octets (ttl, other, rtype, inl (a, (b, rest))) =
    let same = one_class second other class b is_class in
    (rtype, subst (λ k. Then (IsRecordTypeWord rtype) (λ more. IsDataText origin rtype k more octets) words) same rest)
ttl_out origin n class first second is_ttl is_class words octets (ttl, other, rtype, inr (a, rest)) =
    absurd (no_number first other a is_ttl.0)

class_out : (origin : Option (List (List ℕ))) (n class : ℕ) (first second : List ℕ) → IsClassWord class first
    → IsTtlWord n second → (words : List (List ℕ)) (octets : List ℕ)
    → AfterOwner origin (first ∷ second ∷ words) octets → AfterClass origin class words octets
class_out origin n class first second is_class is_ttl words octets (ttl, other, rtype, inl (a, rest)) =
    absurd (no_number first class is_class a.0)
class_out origin n class first second is_class is_ttl words octets (ttl, other, rtype, inr (a, (b, rest))) =
    let same = one_class first other class a is_class in
    (rtype, subst (λ k. Then (IsRecordTypeWord rtype) (λ more. IsDataText origin rtype k more octets) words) same rest)

order_leads : (origin : Option (List (List ℕ))) (ttl class : ℕ) (first second : List ℕ)
    → (IsTtlWord ttl first × IsClassWord class second) ⊎ (IsClassWord class first × IsTtlWord ttl second)
    → Leads (AfterOwner origin) (AfterClass origin class) (first ∷ second ∷ [])
order_leads origin ttl class first second (inl is) = record {
  into = λ words octets rest. (octets, (ttl, class, rest.0, inl (is.0, (is.1, rest.1))));
  out = λ words octets all. (octets, ttl_out origin ttl class first second is.0 is.1 words octets all);
}
order_leads origin ttl class first second (inr is) = record {
  into = λ words octets rest. (octets, (ttl, class, rest.0, inr (is.0, (is.1, rest.1))));
  out = λ words octets all. (octets, class_out origin ttl class first second is.0 is.1 words octets all);
}

rtype_leads : (origin : Option (List (List ℕ))) (class rtype : ℕ) (word : List ℕ) → IsRecordTypeWord rtype word
    → Leads (AfterClass origin class) (IsDataText origin rtype class) (word ∷ [])
rtype_leads origin class rtype word is = record {
  into = λ words octets rest. (octets, (rtype, (is, rest)));
  out = λ words octets all.
      let same = type_once word all.0 rtype all.1.0 is in
      (octets, subst (λ k. IsDataText origin k class words octets) same all.1.1);
}

-- ---- faults

-- at the owner
pub fault_at_owner : (origin : Option (List (List ℕ))) (ahead : List ℕ) (start : ℕ)
    → ((word rest : List ℕ) (labels : List (List ℕ)) → TakesWord word ahead rest → ¬ IsOwnerWord origin labels word)
    → IsWordFault (IsAnyRecord origin) ahead start start
fault_at_owner origin ahead start none =
    first_fault (IsAnyRecord origin) ahead start (record_goes origin)
    (λ word left taken goes. none word left goes.2.0.labels taken goes.2.1.0) (λ over octets is. is.1)

pub past_owner : {text mid : List ℕ} {start next : ℕ} (origin : Option (List (List ℕ))) (labels : List (List ℕ))
    → ((word : List ℕ) × TakesWord word text mid × IsOwnerWord origin labels word)
    → next + length mid ≡ start + length text → Reached (IsAnyRecord origin) (AfterOwner origin) text start mid next
past_owner origin labels taken place =
    past_words (taken.0 ∷ []) at_front (owner_leads origin labels taken.0 taken.2) (_, taken.1, refl) place

-- at the TTL and the class
no_first_on : (origin : Option (List (List ℕ))) (ahead word left : List ℕ) → NoneNext IsTtlWord ahead
    → NoneNext IsClassWord ahead → TakesWord word ahead left → ¬ Goes (AfterOwner origin) (word ∷ [])
no_first_on origin ahead word left no_ttl no_class taken (more, octets, (ttl, class, rtype, inl is)) =
    no_ttl word left ttl taken is.0
no_first_on origin ahead word left no_ttl no_class taken (more, octets, (ttl, class, rtype, inr is)) =
    no_class word left class taken is.0

no_end : (origin : Option (List (List ℕ))) (octets : List ℕ) → ¬ AfterOwner origin [] octets
no_end origin octets (ttl, class, rtype, inl is) = is
no_end origin octets (ttl, class, rtype, inr is) = is

no_end_one : (origin : Option (List (List ℕ))) (word octets : List ℕ) → ¬ AfterOwner origin (word ∷ []) octets
no_end_one origin word octets (ttl, class, rtype, inl is) = is.1
no_end_one origin word octets (ttl, class, rtype, inr is) = is.1

no_class_on : (origin : Option (List (List ℕ))) (ttl : ℕ) (first after word left : List ℕ) → IsTtlWord ttl first
    → NoneNext IsClassWord after → TakesWord word after left → ¬ Goes (AfterOwner origin) (first ∷ word ∷ [])
no_class_on origin n first after word left is none taken (more, octets, (ttl, class, rtype, inl on)) =
    none word left class taken on.1.0
no_class_on origin n first after word left is none taken (more, octets, (ttl, class, rtype, inr on)) =
    absurd (no_number first class on.0 is.0)

no_ttl_on : (origin : Option (List (List ℕ))) (class : ℕ) (first after word left : List ℕ) → IsClassWord class first
    → NoneNext IsTtlWord after → TakesWord word after left → ¬ Goes (AfterOwner origin) (first ∷ word ∷ [])
no_ttl_on origin n first after word left is none taken (more, octets, (ttl, class, rtype, inl on)) =
    absurd (no_number first n is on.0.0)
no_ttl_on origin n first after word left is none taken (more, octets, (ttl, class, rtype, inr on)) =
    none word left ttl taken on.1.0

pub fault_at_order : (origin : Option (List (List ℕ))) (ahead after : List ℕ) (start next : ℕ)
    → next + length after ≡ start + length ahead → IsNoOrder ahead after
    → IsWordFault (AfterOwner origin) ahead start next
fault_at_order origin ahead after start next place (IsNoOrder.no_first same no_ttl no_class) =
    let size = ap length same in
    let at : start ≡ next = omega (arith, place, size) in
    subst (IsWordFault (AfterOwner origin) ahead start) at
    (first_fault (AfterOwner origin) ahead start (owner_goes origin)
    (λ word left taken. no_first_on origin ahead word left no_ttl no_class taken) (λ over octets. no_end origin octets))
fault_at_order origin ahead after start next place (IsNoOrder.no_class ttl word is taken none) =
    let more = class_goes origin 1 in
    record {
      front = word ∷ [];
      rest = after;
      begins = (after, taken, refl);
      place = place;
      goes = (codes "IN" ∷ more.0, more.1, (ttl, 1, more.2.0, inl (is, (class_sample, more.2.1))));
      stops = λ other left on. no_class_on origin ttl word after other left is none on;
      ends = λ over octets. no_end_one origin word octets;
    }
fault_at_order origin ahead after start next place (IsNoOrder.no_ttl class word is taken none) =
    let more = class_goes origin class in
    record {
      front = word ∷ [];
      rest = after;
      begins = (after, taken, refl);
      place = place;
      goes = (codes "0" ∷ more.0, more.1, (0, class, more.2.0, inr (is, (ttl_sample, more.2.1))));
      stops = λ other left on. no_ttl_on origin class word after other left is none on;
      ends = λ over octets. no_end_one origin word octets;
    }

pub past_order : {text ahead after : List ℕ} {start next then : ℕ} (origin : Option (List (List ℕ))) (ttl class : ℕ)
    → Reached (IsAnyRecord origin) (AfterOwner origin) text start ahead next
    → ((first second mid : List ℕ) × TakesWord first ahead mid × TakesWord second mid after
    × ((IsTtlWord ttl first × IsClassWord class second) ⊎ (IsClassWord class first × IsTtlWord ttl second)))
    → then + length after ≡ next + length ahead
    → Reached (IsAnyRecord origin) (AfterClass origin class) text start after then
past_order origin ttl class so_far taken place =
    past_words (taken.0 ∷ taken.1 ∷ []) so_far (order_leads origin ttl class taken.0 taken.1 taken.5)
    (_, taken.3, (_, taken.4, refl)) place

-- at the type
pub fault_at_rtype : (origin : Option (List (List ℕ))) (class : ℕ) (ahead : List ℕ) (start : ℕ)
    → NoneNext IsRecordTypeWord ahead → IsWordFault (AfterClass origin class) ahead start start
fault_at_rtype origin class ahead start none =
    first_fault (AfterClass origin class) ahead start (class_goes origin class)
    (λ word left taken goes. none word left goes.2.0 taken goes.2.1.0) (λ over octets is. is.1)

pub past_rtype : {text ahead mid : List ℕ} {start next then : ℕ} (origin : Option (List (List ℕ))) (class rtype : ℕ)
    → Reached (IsAnyRecord origin) (AfterClass origin class) text start ahead next
    → ((word : List ℕ) × TakesWord word ahead mid × IsRecordTypeWord rtype word)
    → then + length mid ≡ next + length ahead
    → Reached (IsAnyRecord origin) (IsDataText origin rtype class) text start mid then
past_rtype origin class rtype so_far taken place =
    past_words (taken.0 ∷ []) so_far (rtype_leads origin class rtype taken.0 taken.2) (_, taken.1, refl) place

-- ---- a record that is read

order_text : (ttl class : ℕ) (Rest : List (List ℕ) → Type 0) (first second : List ℕ) (words : List (List ℕ))
    → (IsTtlWord ttl first × IsClassWord class second) ⊎ (IsClassWord class first × IsTtlWord ttl second) → Rest words
    → TtlAndClass ttl class Rest (first ∷ second ∷ words)
order_text ttl class Rest first second words (inl is) rest = inl (is.0, (is.1, rest))
order_text ttl class Rest first second words (inr is) rest = inr (is.0, (is.1, rest))

-- The words before the data were read.
pub record HeadRead (origin : Option (List (List ℕ))) (ahead after : List ℕ) (head : Head) : Type 0 where
  pub owner : List ℕ
  pub first : List ℕ
  pub second : List ℕ
  pub kind : List ℕ
  pub begins : BeginsWithWords (owner ∷ first ∷ second ∷ kind ∷ []) ahead after
  pub is_name : IsOwnerWord origin head.labels owner
  pub is_order : (IsTtlWord head.ttl first × IsClassWord head.class second)
      ⊎ (IsClassWord head.class first × IsTtlWord head.ttl second)
  pub is_rtype : IsRecordTypeWord head.rtype kind

pub head_read : {ahead a b after : List ℕ} (origin : Option (List (List ℕ))) (labels : List (List ℕ))
    (ttl class rtype : ℕ) → ((word : List ℕ) × TakesWord word ahead a × IsOwnerWord origin labels word)
    → ((first second mid : List ℕ) × TakesWord first a mid × TakesWord second mid b
    × ((IsTtlWord ttl first × IsClassWord class second) ⊎ (IsClassWord class first × IsTtlWord ttl second)))
    → ((word : List ℕ) × TakesWord word b after × IsRecordTypeWord rtype word)
    → HeadRead origin ahead after (record { labels = labels; ttl = ttl; class = class; rtype = rtype })
head_read origin labels ttl class rtype owner order kind = record {
  owner = owner.0;
  first = order.0;
  second = order.1;
  kind = kind.0;
  begins = (_, owner.1, (_, order.3, (_, order.4, (_, kind.1, refl))));
  is_name = owner.2;
  is_order = order.5;
  is_rtype = kind.2;
}

pub record_words : {ahead after : List ℕ} (origin : Option (List (List ℕ))) (head : Head)
    → HeadRead origin ahead after head → (words : List (List ℕ)) (octets : List ℕ) → AreWords words after
    → IsDataText origin head.rtype head.class words octets
    → (all : List (List ℕ)) × AreWords all ahead × IsRecordText origin head all octets
record_words origin head read words octets are is = (
  (read.owner ∷ read.first ∷ read.second ∷ read.kind ∷ []) ++ words,
  words_more (read.owner ∷ read.first ∷ read.second ∷ read.kind ∷ []) words _ _ read.begins are,
  (
    read.is_name,
    order_text head.ttl head.class
        (Then (IsRecordTypeWord head.rtype) (λ more. IsDataText origin head.rtype head.class more octets)) read.first
        read.second (read.kind ∷ words) read.is_order (read.is_rtype, is),
  ),
)

-- ---- data that ends in a list

either_true : (a b : Bool) → a || b ≡ true → (a ≡ true) ⊎ (b ≡ true)
either_true true b is = inl refl
either_true false b is = inr is

pub head_asks : {ahead after : List ℕ} (origin : Option (List (List ℕ))) (head : Head) (asks : Bool)
    → HeadRead origin ahead after head → asks || ends_in_list (layout_of head.rtype head.class) ≡ true
    → (asks ≡ true) ⊎ BeginsWithList origin ahead
head_asks {ahead = ahead} {after = after} origin head asks read memory =
    by_cases (either_true asks (ends_in_list (layout_of head.rtype head.class)) memory)
  where
    by_cases : (asks ≡ true) ⊎ (ends_in_list (layout_of head.rtype head.class) ≡ true)
        → (asks ≡ true) ⊎ BeginsWithList origin ahead
    by_cases (inl is) = inl is
    by_cases (inr list) = inr (record {
      head = head;
      words = read.owner ∷ read.first ∷ read.second ∷ read.kind ∷ [];
      rest = after;
      begins = read.begins;
      is = (
        read.is_name,
        order_text head.ttl head.class (Then (IsRecordTypeWord head.rtype) (λ more. more ≡ [])) read.first read.second
            (read.kind ∷ []) read.is_order (read.is_rtype, refl),
      );
      list = list;
    })

-- the same text ahead
pub none_next : (Is : ℕ → List ℕ → Type 0) (a b : List ℕ) → b ≡ a → NoneNext Is a → NoneNext Is b
none_next Is a b same none word rest value taken =
    none word rest value (subst (λ t. TakesWord word t rest) same taken)
