-- Forms of data: parts, one after another. The last one may take all the octets that are left. What is written is read
-- back. Each part has its text, what its text is read as, and the least number of turns that reading it takes.
use Rattle.std.specs.Prelude.{ℕ, ◌<◌, ◌^◌, nat_eq, if◌then◌else◌, List, [], ◌∷◌, ◌++◌}
use Rattle.std.specs.Fmt.{decimal}
use Rattle.octseq.specs.Integer.{be, octets_be}
use Rattle.octseq.specs.Window.{Window, rest}
use Rattle.octseq_dns_data.specs.Formed.{IsFormed, FormedFits, one_formed, formed_read_back}
use Rattle.octseq_dns_data.specs.Layout.{TextLayout, layout_value}
use Rattle.octseq_dns_data.specs.UncompressedName.{HasUncompressedName, one_plain, delimited_plain}
use Rattle.octseq_dns_data.specs.declared.layout.Field.{Field}
use Rattle.octseq_dns_data.specs.declared.layout.Field.TheVariants as field
use Rattle.octseq_dns_data.specs.declared.layout.Tail.{Tail}
use Rattle.octseq_dns_data.specs.declared.layout.Tail.TheVariants as tail
use Rattle.octseq_dns_name.specs.Name.{Name, HasName}
use Rattle.octseq_dns_name.specs.NameFormat.{NameFits, least_turns, name_labels, one_named, delimited_name}
use Rattle.octseq_dns_name.specs.Text.{name_text}
use Rattle.octseq_dns_name.specs.Wire.{wire}
use Rattle.octseq_format.specs.Counted.{Counted, CountFits, counted_octets, one_counted, delimited_counted}
use Rattle.octseq_format.specs.Fixed.{IsFixed, one_fixed, delimited_fixed}
use Rattle.octseq_format.specs.Integers.{are_be}
use Rattle.octseq_format.specs.Laws.{Relation, IsOne, IsReadBack, IsDelimited, back_of}
use Rattle.octseq_format.specs.Pair.{◌then◌, ◌and◌, ◌before◌, ◌also◌, ◌plus◌, ◌one_then◌, ◌back_then◌, ◌delimited_then◌}
use Rattle.octseq_format.specs.Rest.{IsRest, one_rest, rest_read_back}

-- A part that shows its own end: what is found, what it says wherever it is, the octets that say it, which values have
-- octets, the least number of turns that reading it takes, its text, and the fields that its text is read as.
pub record FormPart : Type 1 where
  pub Found : Type 0
  pub Said : Type 0
  pub Is : Relation Found
  pub says : Found → Said
  pub octets : Said → List ℕ
  pub Fits : Said → Type 0
  pub one : IsOne Is
  pub next : IsDelimited Is says octets Fits
  pub turns : Found → ℕ
  pub text : Found → List ℕ
  pub fields : List Field

-- A form, which takes the whole window, with the layout that its text is read by.
pub record Form : Type 1 where
  pub Found : Type 0
  pub Said : Type 0
  pub Is : Relation Found
  pub says : Found → Said
  pub octets : Said → List ℕ
  pub Fits : Said → Type 0
  pub one : IsOne Is
  pub back : IsReadBack Is says octets Fits
  pub turns : Found → ℕ
  pub text : Found → List ℕ
  pub layout : TextLayout

abbrev pub ◌followed_by◌ : FormPart → Form → Form
first followed_by second = record {
  Found = first.Found × second.Found;
  Said = first.Said × second.Said;
  Is = first.Is then second.Is;
  says = first.says and second.says;
  octets = first.octets before second.octets;
  Fits = first.Fits also second.Fits;
  one = first.one one_then second.one;
  back = first.next back_then second.back;
  turns = first.turns plus second.turns;
  text = λ found. first.text found.0 ++ 32 ∷ second.text found.1;
  layout = layout_value (first.fields ++ second.layout.fields) second.layout.tail;
}

abbrev pub ◌then_each◌ : FormPart → Form → Form
first then_each second =
    record (first followed_by second) { text = λ found. first.text found.0 ++ second.text found.1 }

abbrev pub ◌and_then◌ : FormPart → FormPart → FormPart
first and_then second = record {
  Found = first.Found × second.Found;
  Said = first.Said × second.Said;
  Is = first.Is then second.Is;
  says = first.says and second.says;
  octets = first.octets before second.octets;
  Fits = first.Fits also second.Fits;
  one = first.one one_then second.one;
  next = first.next delimited_then second.next;
  turns = first.turns plus second.turns;
  text = λ found. first.text found.0 ++ 32 ∷ second.text found.1;
  fields = first.fields ++ second.fields;
}

-- a part alone
abbrev pub alone : FormPart → Form
alone part = record {
  Found = part.Found;
  Said = part.Said;
  Is = part.Is;
  says = part.says;
  octets = part.octets;
  Fits = part.Fits;
  one = part.one;
  back = back_of part.next;
  turns = part.turns;
  text = part.text;
  layout = layout_value part.fields tail.Nothing;
}

-- no form: nothing is of it
abbrev pub no_form : Form
no_form = record {
  Found = Unit {0};
  Said = Unit {0};
  Is = λ _ _ _. ⊥;
  says = λ a. a;
  octets = λ _. [];
  Fits = λ _. ⊥;
  one = record { same = λ w a b u v is other. absurd is };
  back = record { back = λ w said fits is last. absurd fits };
  turns = λ _. 0;
  text = λ _. [];
  layout = layout_value [] tail.Nothing;
}

-- what a number of 1, 2 or 4 octets is read as
abbrev pub number_field : ℕ → Field
number_field k = if nat_eq k 1 then field.U8 else if nat_eq k 2 then field.U16 else field.U32

-- a number of k octets, big-endian
abbrev pub number : ℕ → FormPart
number k = record {
  Found = ℕ;
  Said = ℕ;
  Is = IsFixed k be;
  says = λ n. n;
  octets = octets_be k;
  Fits = λ n. n < 256 ^ k;
  one = one_fixed k be;
  next = delimited_fixed (are_be k);
  turns = λ _. 0;
  text = decimal;
  fields = number_field k ∷ [];
}

-- a name, which may have pointers when it is read, and has none when it is written
abbrev pub domain_name : FormPart
domain_name = record {
  Found = Name;
  Said = List (List ℕ);
  Is = HasName;
  says = name_labels;
  octets = wire;
  Fits = NameFits;
  one = one_named;
  next = delimited_name;
  turns = least_turns;
  text = λ name. name_text name.labels;
  fields = field.Name ∷ [];
}

-- a name without pointers
abbrev pub plain_name : FormPart
plain_name = record {
  Found = Name;
  Said = List (List ℕ);
  Is = HasUncompressedName;
  says = name_labels;
  octets = wire;
  Fits = NameFits;
  one = one_plain;
  next = delimited_plain;
  turns = least_turns;
  text = λ name. name_text name.labels;
  fields = field.Name ∷ [];
}

-- octets of a form, after their length of one octet, with their text and what it is read as
abbrev pub string : (List ℕ → Type 0) → (List ℕ → List ℕ) → Field → FormPart
string HasForm text read_as = record {
  Found = Window;
  Said = List ℕ;
  Is = Counted 1 0 (IsFormed HasForm);
  says = rest;
  octets = counted_octets 1 0 (λ octets. octets);
  Fits = CountFits 1 0 (λ octets. octets) (FormedFits HasForm);
  one = one_counted (one_formed HasForm);
  next = delimited_counted (formed_read_back HasForm);
  turns = λ _. 0;
  text = λ place. text (rest place);
  fields = read_as ∷ [];
}

-- all octets up to the end, which have a form, with their text and what it is read as
abbrev pub formed_rest : (List ℕ → Type 0) → (List ℕ → List ℕ) → Tail → Form
formed_rest HasForm text read_as = record {
  Found = Window;
  Said = List ℕ;
  Is = IsFormed HasForm;
  says = rest;
  octets = λ octets. octets;
  Fits = FormedFits HasForm;
  one = one_formed HasForm;
  back = formed_read_back HasForm;
  turns = λ _. 0;
  text = λ place. text (rest place);
  layout = layout_value [] read_as;
}

-- all octets up to the end, whatever they are, with their text and what it is read as
abbrev pub rest_form : (List ℕ → List ℕ) → Tail → Form
rest_form text read_as = record {
  Found = Window;
  Said = List ℕ;
  Is = IsRest;
  says = rest;
  octets = λ octets. octets;
  Fits = λ _. Unit {0};
  one = one_rest;
  back = rest_read_back;
  turns = λ _. 0;
  text = λ place. text (rest place);
  layout = layout_value [] read_as;
}

-- ---- lemmas: proved below this line, so what the words mean is read above it

-- a part, followed by a form: their texts are separated by a space (32)
infixr 5 ◌followed_by◌
-- the same, if the text of the form has a space before each item
infixr 5 ◌then_each◌
-- a part, followed by another
infixr 5 ◌and_then◌
