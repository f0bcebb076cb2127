-- A domain name as a format: at most one is at a place, what is past it, and its octets. They are its plain wire form;
-- a name that is read may have pointers.
use Rattle.std.specs.Prelude.{◌≡◌, ℕ, ◌+◌, ◌≤◌, List, [], ◌∷◌, ◌++◌, length, refl}
use Rattle.std.proofs.Common.{sym, ap, ◌∙◌, subst, arith, length-append, append_assoc}
use Rattle.std.specs.Coded.{Coded, code_by, coded_list, coded×, coded_ℕ}
use Rattle.std.specs.List.{flat_map}
use Rattle.octseq.specs.Integer.{be}
use Rattle.octseq.specs.Window.{Window, left, next, rest, at, past}
use Rattle.octseq.proofs.WindowsAfter.{front_comes_next}
use Rattle.octseq_format.specs.Laws.{IsOne, IsOnward, IsReadBack, IsDelimited, back_of}
use Rattle.octseq_format.specs.Rest.{window_code}
use Rattle.octseq_dns_name.specs.Name.{Name, HasName, IsName, HasLabel, HasLabels, octet, wire_length}
use Rattle.octseq_dns_name.specs.OneName.{one_name}
use Rattle.octseq_dns_name.specs.Wire.{wire, AreLabels}
use Rattle.octseq.proofs.Written.{be_one}

-- the labels of a name
abbrev pub name_labels : Name → List (List ℕ)
name_labels name = name.labels

-- The labels of a name: 1 to 63 octets each, and at most 255 octets in wire form.
pub record NameFits (labels : List (List ℕ)) : Type 0 where
  pub each : AreLabels labels
  pub short : wire_length labels ≤ 255

-- a turn for the root, and one for each label; each pointer takes one more
abbrev pub least_turns : Name → ℕ
least_turns name = 1 + length name.labels

-- names are equal in at most one way
abbrev pub name_code : Coded Name
name_code = code_by (Window × List (List ℕ)) (coded× window_code (coded_list (coded_list coded_ℕ)))
    (λ n. (n.place, n.labels))
    (λ c. record { place = c.0; labels = c.1 }) (λ _. refl)

-- ---- what is past a name

-- a window is another one at some position
abbrev pub IsOf : Window → Window → Type 0
IsOf w v = (v.octets ≡ w.octets) × (v.end ≡ w.end)

-- ---- its octets

-- labels, each after its length
abbrev pub bodies : List (List ℕ) → List ℕ
bodies = flat_map (λ label. length label ∷ label)

-- ---- lemmas: proved below this line, so what the words mean is read above it

-- ---- one name

-- the name with a place and labels
name_from : Window → List (List ℕ) → Name
name_from place labels = record { place = place; labels = labels }

pub one_named : IsOne HasName
unfolding name_from
one_named = record {
  same = λ w a b u v is other.
      let labels = one_name w u v a.labels b.labels is.1 other.1 in
      (ap (λ place. name_from place a.labels) (is.0 ∙ sym other.0) ∙ ap (name_from b.place) labels.0, labels.1);
}

-- the window past labels is of the same octets, with the same end
has_labels_of : (start : ℕ) (w v : Window) (labels : List (List ℕ)) (pointers : ℕ) → HasLabels start w labels pointers v
    → IsOf w v
has_labels_of start w v labels pointers (HasLabels.root has) = (ap (λ v. v.octets) has.after, ap (λ v. v.end) has.after)
has_labels_of start w v labels pointers (HasLabels.label {u = u} {labels = more} has rest) =
    let on = has_labels_of start u v more pointers rest in
    (on.0 ∙ ap (λ v. v.octets) has.after, on.1 ∙ ap (λ v. v.end) has.after)
has_labels_of start w v labels pointers (HasLabels.pointer has rest) =
    (ap (λ v. v.octets) has.after, ap (λ v. v.end) has.after)

-- and within that end
has_labels_within : (start : ℕ) (w v : Window) (labels : List (List ℕ)) (pointers : ℕ)
    → HasLabels start w labels pointers v
    → v.position ≤ v.end
has_labels_within start w v labels pointers (HasLabels.root has) =
    let position = ap (λ v. v.position) has.after in
    let end = ap (λ v. v.end) has.after in
    let room = has.room in
    omega (arith, position, end, room)
has_labels_within start w v labels pointers (HasLabels.label {u = u} {labels = more} has rest) =
    has_labels_within start u v more pointers rest
has_labels_within start w v labels pointers (HasLabels.pointer has rest) =
    let position = ap (λ v. v.position) has.after in
    let end = ap (λ v. v.end) has.after in
    let room = has.room in
    omega (arith, position, end, room)

-- a name takes at least one octet
pub has_labels_takes : (start : ℕ) (w v : Window) (labels : List (List ℕ)) (pointers : ℕ)
    → HasLabels start w labels pointers v
    → left v + 1 ≤ left w
has_labels_takes start w v labels pointers (HasLabels.root has) = let room = has.room in let is = ap left has.after in
    omega (arith, room, is)
has_labels_takes start w v labels pointers (HasLabels.label {u = u} {labels = more} has rest) =
    let room = has.room in
    let is = ap left has.after in
    let less = has_labels_takes start u v more pointers rest in
    omega (arith, room, is, less)
has_labels_takes start w v labels pointers
    (HasLabels.pointer has rest) = let room = has.room in let is = ap left has.after in
    omega (arith, room, is)

-- the window past a name is of the same octets, with the same end
pub name_of_window : (w v : Window) (labels : List (List ℕ)) → IsName w labels v → IsOf w v
name_of_window w v labels name = has_labels_of w.position w v labels name.pointers name.has_labels

pub onward_name : IsOnward 1 HasName
onward_name = record {
  on = λ w name v ordered is.
      let of = name_of_window w v name.labels is.1 in
      let within = has_labels_within w.position w v name.labels is.1.pointers is.1.has_labels in
      let less = has_labels_takes w.position w v name.labels is.1.pointers is.1.has_labels in
      let end = of.1 in
      (of.0, of.1, omega (arith, ordered, within, less, end), within);
  less = λ w name v is. has_labels_takes w.position w v name.labels is.1.pointers is.1.has_labels;
}

-- a label's length and octets, followed by the wire form of others
pub wire_more : (label : List ℕ) (labels : List (List ℕ))
    → wire (label ∷ labels) ≡ length label ∷ (label ++ wire labels)
wire_more label labels = ap (λ l. length label ∷ l) (append_assoc label (bodies labels) (0 ∷ []))

-- if the wire form of labels comes next, they are there, and what follows them is past them
pub wire_has_labels : (start : ℕ) (w : Window) (labels : List (List ℕ)) (more : List ℕ) → AreLabels labels
    → rest w ≡ wire labels ++ more → HasLabels start w labels 0 (past (length (wire labels)) w)
wire_has_labels start w [] more are is =
    let root = front_comes_next w (0 ∷ []) more 1 is refl in
    HasLabels.root (record { room = root.0; zero = ap be root.1 ∙ be_one 0; after = refl })
wire_has_labels start w (label ∷ labels) more are is =
    let after = wire labels ++ more in
    let all : rest w ≡ length label ∷ (label ++ after) = is ∙ ap (λ octets. octets ++ more) (wire_more label labels)
    ∙ ap (λ octets. length label ∷ octets) (append_assoc label (wire labels) more) in
    let first = front_comes_next w (length label ∷ []) (label ++ after) 1 all refl in
    let said : octet w ≡ length label = ap be first.1 ∙ be_one (length label) in
    let second = front_comes_next (past 1 w) label after (length label) first.2 refl in
    let u = past (length label) (past 1 w) in
    let some = are.0 in
    let short = are.1 in
    let room = second.0 in
    let has : HasLabel w label u = record {
      room = first.0;
      some = omega (arith, said, some);
      short = omega (arith, said, short);
      whole = omega (arith, said, room);
      octets = sym (ap (λ n. next n (past 1 w)) said ∙ second.1);
      after = ap (λ n. past n (past 1 w)) (sym said);
    } in
    let more_long = ap length (wire_more label labels) in
    let both = length-append label (wire labels) in
    subst (HasLabels start w (label ∷ labels) 0) (ap (λ p. at p w) (omega (arith, more_long, both)))
    (HasLabels.label has (wire_has_labels start u labels more are.2 second.2))

pub delimited_name : IsDelimited HasName name_labels wire NameFits
delimited_name = record {
  next = λ w labels more fits is. record {
    it = record { place = w; labels = labels };
    tells = refl;
    is = (
      refl,
      record {
        pointers = 0;
        has_labels = wire_has_labels w.position w labels more fits.each is;
        short = fits.short;
        few = omega arith;
      },
    );
  };
}

pub name_read_back : IsReadBack HasName name_labels wire NameFits
name_read_back = back_of delimited_name
