-- How a name is passed by its octets.
use Rattle.std.proofs.Common.{◌≡◌, ℕ, ◌+◌, ◌-◌, ◌*◌, ◌<◌, ◌≤◌, List, ◌++◌, length, take, drop, get_or}
use Rattle.std.proofs.Common.{inl, inr, min, None, Option, Some, refl, sym, ap, ◌∙◌, subst, arith, length-append}
use Rattle.std.proofs.Common.{length-take}
use Rattle.std.proofs.Common.{length-drop}
use Rattle.std.proofs.lemmas.Bool.{cases_lt}
use Rattle.std.proofs.lemmas.List.{drop_more}
use Rattle.octseq.specs.Integer.{be}
use Rattle.octseq.specs.Window.{Window, left, next, at, past}
use Rattle.octseq_dns_name.specs.Name.{HasRoot, HasLabel, HasPointer, IsName, octet, wire_length}
use Rattle.octseq.proofs.Written.{be_one}
use Rattle.octseq_dns_name.specs.NameTurns.{name_turns}
use Rattle.octseq_dns_name.specs.OneName.{one_has_labels}
use Rattle.octseq_dns_name.specs.Pass.{
  window_at,
  place_in,
  NoName,
  NoRest,
  LeadsTo,
  NameReading,
  PassesLabels,
  Rests,
  NameEnds,
}
use Rattle.octseq_dns_name.specs.Piece.{Piece, HasPiece, end_of_name}
use Rattle.octseq_dns_name.proofs.Names.{begun, no_piece, leads_past_pointer, leads_to_root, with_label}
use Rattle.octseq_dns_name.proofs.Names.{with_pointer, wire_append, wire_some}

-- ---- what is at a place

-- the octet at a window's position is the one at that place
pub octet_at : (octets : List ℕ) (place end : ℕ) → place < length octets
    → octet (window_at octets place end) ≡ get_or octets place 0
octet_at octets place end within =
    let one : place + 1 - place ≡ 1 = omega arith in
    ap (λ n. be (take n (drop place octets))) one ∙ ap (λ ahead. be (take 1 ahead)) (drop_more octets place 0 within)
    ∙ be_one (get_or octets place 0)

-- n octets are next if n octets are there
pub next_long : (octets : List ℕ) (place end n : ℕ) → place + n ≤ length octets
    → length (next n (window_at octets place end)) ≡ n
next_long octets place end n within =
    let taken = length-take (place + n - place) (drop place octets) in
    omega (arith, within, taken, length-drop place octets)

module _ (octets : List ℕ) (place end size : ℕ) (within : end ≤ length octets) (room : place < end)
    (is : get_or octets place 0 ≡ size)
  where
    -- the octet
    pub size_at : octet (window_at octets place end) ≡ size
    size_at = octet_at octets place end (omega (arith, within, room)) ∙ is

    -- the root
    pub root_at : size ≡ 0 → HasRoot (window_at octets place end) (window_at octets (place + 1) end)
    root_at none = record { room = omega (arith, room); zero = size_at ∙ none; after = refl }

    -- a label, which is whole
    pub label_at : 1 ≤ size → size ≤ 63 → place + (1 + size) ≤ end → (l : List ℕ) × (length l ≡ size)
        × HasLabel (window_at octets place end) l (window_at octets (place + (1 + size)) end)
    label_at some short whole =
        let said = size_at in
        let after : place + 1 + size ≡ place + (1 + size) = omega arith in (
          next size (window_at octets (place + 1) end),
          next_long octets (place + 1) end size (omega (arith, whole, within)),
          record {
            room = omega (arith, room);
            some = omega (arith, said, some);
            short = omega (arith, said, short);
            whole = omega (arith, said, whole);
            octets = ap (λ n. next n (window_at octets (place + 1) end)) (sym said);
            after = ap (λ p. window_at octets p end) (sym after)
                ∙ ap (λ n. window_at octets (place + 1 + n) end) (sym said);
          },
        )

    -- no piece, if a label isn't whole
    pub none_whole : (start : ℕ) → 1 ≤ size → size ≤ 63 → end < place + (1 + size) → (p : Piece) (v : Window)
        → HasPiece start (window_at octets place end) p v → ⊥
    none_whole start some short cut Piece.root v has = let zero = has.zero in let said = size_at in
        omega (arith, zero, said, some)
    none_whole start some short cut (Piece.label l) v has = let whole = has.whole in let said = size_at in
        omega (arith, whole, said, cut, room)
    none_whole start some short cut (Piece.pointer to) v has = let mark = has.mark in let said = size_at in
        omega (arith, mark, said, short)

    -- and none, if there is no pointer
    pub none_pointed : (start : ℕ) → 63 < size
        → ((to : ℕ) (v : Window) → HasPointer start (window_at octets place end) to v → ⊥) → (p : Piece) (v : Window)
        → HasPiece start (window_at octets place end) p v → ⊥
    none_pointed start long none Piece.root v has = let zero = has.zero in let said = size_at in
        omega (arith, zero, said, long)
    none_pointed start long none (Piece.label l) v has = let short = has.short in let said = size_at in
        omega (arith, short, said, long)
    none_pointed start long none (Piece.pointer to) v has = none to v has

module _ (octets : List ℕ) (place end start : ℕ) (within : end ≤ length octets) (room : place < end)
  where
    first : octet (window_at octets place end) ≡ get_or octets place 0
    first = octet_at octets place end (omega (arith, within, room))

    -- a pointer
    pub pointer_there : (to : ℕ) → place + 2 ≤ end → 192 ≤ get_or octets place 0 → to ≡ place_in octets place
        → to < start → HasPointer start (window_at octets place end) to (window_at octets (place + 2) end)
    pointer_there to whole mark is before =
        let said = first in
        record {
          room = omega (arith, whole);
          mark = omega (arith, said, mark);
          place = is ∙ ap (λ n. (n - 192) * 256 + get_or octets (place + 1) 0) (sym said)
              ∙ ap (λ n. (octet (window_at octets place end) - 192) * 256 + n)
              (sym (octet_at octets (place + 1) end (omega (arith, whole, within))));
          before = before;
          after = refl;
        }

    -- and none: another octet is there
    pub none_marked : get_or octets place 0 < 192 → (to : ℕ) (v : Window)
        → HasPointer start (window_at octets place end) to v → ⊥
    none_marked other to v has = let mark = has.mark in let said = first in omega (arith, mark, said, other)

    -- no octet is after it
    pub none_paired : end - place < 2 → (to : ℕ) (v : Window) → HasPointer start (window_at octets place end) to v → ⊥
    none_paired cut to v has = let whole = has.room in omega (arith, whole, cut)

    -- or it leads elsewhere
    pub none_before : (other : ℕ) → 2 ≤ end - place → other ≡ place_in octets place → start ≤ other → (to : ℕ)
        (v : Window) → HasPointer start (window_at octets place end) to v → ⊥
    none_before other whole same late to v has =
        let said = ap (λ n. (n - 192) * 256) first in
        let second = octet_at octets (place + 1) end (omega (arith, whole, within)) in
        let is = has.place in
        let before = has.before in
        omega (arith, said, second, is, before, same, late)

-- nothing is at the end
pub none_at_end : (start : ℕ) (w : Window) → left w ≡ 0 → (p : Piece) (v : Window) → HasPiece start w p v → ⊥
none_at_end start w none Piece.root v has = let room = has.room in omega (arith, none, room)
none_at_end start w none (Piece.label l) v has = let room = has.room in omega (arith, none, room)
none_at_end start w none (Piece.pointer to) v has = let room = has.room in omega (arith, none, room)

-- ---- the labels

-- labels that are too long are not a name, whatever follows
too_long : (w : Window) (start : ℕ) (v : Window) (size pointers : ℕ) (after : Option Window) (old new : ℕ)
    → NameReading w start v size pointers after old new → 255 < size → NoName w
too_long w start v size pointers after old new so_far long labels end name =
    let on = so_far.read.backward labels name.pointers end name.has_labels in
    let both = wire_append so_far.labels on.more in
    let some = wire_some on.more in
    let all = ap wire_length on.labels_are in
    let is = so_far.size_is in
    let short = name.short in
    omega (arith, both, some, all, is, short, long)

-- nor is what has no next piece
no_next : (w : Window) (start : ℕ) (v : Window) (size pointers : ℕ) (after : Option Window) (old new : ℕ)
    → NameReading w start v size pointers after old new
    → ((p : Piece) (u : Window) → HasPiece start v p u → ⊥) → NoName w
no_next w start v size pointers after old new so_far none labels end name =
    let on = so_far.read.backward labels name.pointers end name.has_labels in
    no_piece start v on.u on.more on.fewer none on.has_labels

-- labels lead from a place to another
abbrev pub ReadsTo : List ℕ → ℕ → ℕ → ℕ → ℕ → ℕ → Type 0
ReadsTo octets place end to old new =
    NameReading (window_at octets place end) place (window_at octets to end) (to + 1 - place) 0 None old new

-- no label was read yet
pub reads_none : (octets : List ℕ) (place end old : ℕ) → ReadsTo octets place end place old old
reads_none octets place end old =
    let w = window_at octets place end in
    subst (λ size. NameReading w place w size 0 None old old) (omega arith) (begun w old)

module _ (octets : List ℕ) (place end to size old before new : ℕ) (within : end ≤ length octets) (ordered : place ≤ to)
    (room : to < end) (is : get_or octets to 0 ≡ size) (some : 1 ≤ size) (short : size ≤ 63)
    (so_far : ReadsTo octets place end to old before)
  where
    -- one more label, if it is whole
    pub reads_label : new ≡ before + 1 → to + (1 + size) ≤ end → ReadsTo octets place end (to + (1 + size)) old new
    reads_label tick whole =
        let has = label_at octets to end size within room is some short whole in
        let long = has.1 in
        with_label (window_at octets place end) place (window_at octets to end) (window_at octets (to + (1 + size)) end)
        (to + 1 - place) (to + (1 + size) + 1 - place) 0 None has.0 old before new so_far has.2
        (omega (arith, long, ordered)) tick

    -- and no name, if it isn't
    pub cuts_label : end < to + (1 + size) → NoName (window_at octets place end)
    cuts_label cut = no_next (window_at octets place end) place (window_at octets to end)
        (to + 1 - place) 0 None old before
        so_far
        (none_whole octets to end size within room is place some short cut)

-- labels that reach the end of the octets, or are too long, are not a name
pub no_more : (octets : List ℕ) (place end to old new : ℕ) → place ≤ to → place + min 255 (end - place) ≤ to
    → (to ≤ end → ReadsTo octets place end to old new) → (end < to → NoName (window_at octets place end))
    → NoName (window_at octets place end)
no_more octets place end to old new ordered over inside outside =
    let w = window_at octets place end in
    let v = window_at octets to end in
    elim (cases_lt end to) [
      | inl past ↦ outside past
      | inr within ↦ let so_far = inside within in elim (cases_lt to end) [
        | inl short ↦ too_long w place v (to + 1 - place) 0 None old new so_far (omega (arith, short, over, ordered))
        | inr all ↦ no_next w place v (to + 1 - place) 0 None old new so_far
            (none_at_end place v (omega (arith, all)))
      ]
    ]

-- ---- the rest of a name, from where its first pointer leads

-- labels and pointers lead from the place of the rest to another; what is before the rest is counted too
abbrev pub RestsTo : List ℕ → ℕ → ℕ → ℕ → ℕ → ℕ → ℕ → ℕ → ℕ → ℕ → Type 0
RestsTo octets on end start to before len pointers old new = (after : Option Window)
    × NameReading (window_at octets on end) start (window_at octets to end) (len + 1 - before)
    (pointers - 1) after old new

-- nothing was read yet
pub rests_none : (octets : List ℕ) (on end before old : ℕ) → RestsTo octets on end on on before before 1 old old
rests_none octets on end before old =
    let w = window_at octets on end in
    (None, subst (λ size. NameReading w on w size 0 None old old) (omega arith) (begun w old))

module _ (octets : List ℕ) (on end start to before len pointers old between : ℕ)
    (so_far : RestsTo octets on end start to before len pointers old between) (fewer : before ≤ len)
  where
    -- no rest, if no piece is next
    pub no_rest : ((p : Piece) (v : Window) → HasPiece start (window_at octets to end) p v → ⊥)
        → NoRest (window_at octets on end) before
    no_rest none labels count end has_labels short few =
        let after = so_far.1.read.backward labels count end has_labels in
        no_piece start (window_at octets to _) after.u after.more after.fewer none after.has_labels

    -- nor if it is too long
    pub long_rest : 255 < len → NoRest (window_at octets on end) before
    long_rest long labels count end has_labels short few =
        let after = so_far.1.read.backward labels count end has_labels in
        let both = wire_append so_far.1.labels after.more in
        let some = wire_some after.more in
        let all = ap wire_length after.labels_are in
        let is = so_far.1.size_is in
        omega (arith, both, some, all, is, short, long, fewer)

    -- or has too many pointers
    pub many_pointers : 127 < pointers → NoRest (window_at octets on end) before
    many_pointers many labels count end has_labels short few =
        let after = so_far.1.read.backward labels count end has_labels in
        let is = after.pointers_are in
        omega (arith, is, few, many)

    -- one more pointer
    pub rests_pointer : (next new : ℕ) → 1 ≤ pointers
        → HasPointer start (window_at octets to end) next (window_at octets (to + 2) end) → new ≡ between + 1
        → RestsTo octets on end next next before len (pointers + 1) old new
    rests_pointer next new some has tick =
        let u = window_at octets (to + 2) end in
        let same : pointers - 1 + 1 ≡ pointers + 1 - 1 = omega (arith, some) in (
          Some (end_of_name so_far.0 u),
          subst (λ n. NameReading (window_at octets on end) next (window_at octets next end)
              (len + 1 - before) n (Some (end_of_name so_far.0 u)) old new) same
              (with_pointer (window_at octets on end) start (window_at octets to end) u (len + 1 - before)
              (pointers - 1)
              so_far.0 next old between new so_far.1 has tick),
        )

    module _ (size : ℕ) (within : end ≤ length octets) (room : to < end) (is : get_or octets to 0 ≡ size) where
      -- one more label, if it is whole
      pub rests_label : (new : ℕ) → 1 ≤ size → size ≤ 63 → new ≡ between + 1 → to + (1 + size) ≤ end
          → RestsTo octets on end start (to + (1 + size)) before (len + (1 + size)) pointers old new
      rests_label new some short tick whole =
          let has = label_at octets to end size within room is some short whole in
          let long = has.1 in (
            so_far.0,
            with_label (window_at octets on end) start (window_at octets to end)
                (window_at octets (to + (1 + size)) end) (len + 1 - before) (len + (1 + size) + 1 - before)
                (pointers - 1)
                so_far.0 has.0 old between new so_far.1 has.2 (omega (arith, long, fewer)) tick,
          )

      -- and no rest, if it isn't, or if it is too long
      pub cuts_rest : 1 ≤ size → size ≤ 63 → end < to + (1 + size) → NoRest (window_at octets on end) before
      cuts_rest some short cut = no_rest (none_whole octets to end size within room is start some short cut)

      -- at the root it is whole
      pub rests_root : size ≡ 0 → len ≤ 255 → pointers ≤ 127 → Rests (window_at octets on end) before len old between
      rests_root none short few =
          let read = so_far.1 in
          let made = read.size_is in
          let u = window_at octets (to + 1) end in
          record {
            labels = read.labels;
            pointers = pointers - 1;
            end = end_of_name so_far.0 u;
            has_labels = leads_to_root on (window_at octets on end) start (window_at octets to end) u read.labels
                (pointers - 1) so_far.0 read.read (root_at octets to end size within room is none);
            size = omega (arith, made, fewer);
            short = short;
            few = omega (arith, few);
            counted = read.counted;
          }

-- ---- the whole name

module _ (octets : List ℕ) (place end to old before between : ℕ) (within : end ≤ length octets)
    (passes : PassesLabels (window_at octets place end) to before between) (tick : before ≡ old + 1)
  where
    -- the labels end with the root
    pub ends_plain : get_or octets to 0 ≡ 0
        → NameEnds (window_at octets place end) (to + 1) (to - place + 1) old between
    ends_plain zero =
        let so_far = passes.reading in
        let ordered = passes.ordered in
        let room = passes.room in
        let near = passes.near in
        let is = so_far.size_is in
        let counted = so_far.counted in
        record {
          labels = so_far.labels;
          name = record {
            pointers = 0;
            has_labels = leads_to_root place (window_at octets place end) place (window_at octets to end)
                (window_at octets (to + 1) end) so_far.labels 0 None so_far.read
                (root_at octets to end 0 within room zero refl);
            short = omega (arith, is, near, ordered);
            few = omega arith;
          };
          within = omega (arith, room);
          size = omega (arith, is, ordered);
          counted = omega (arith, counted, tick);
        }

    -- no pointer ends them
    pub no_pointer : ¬ (get_or octets to 0 ≡ 0)
        → ((on : ℕ) (v : Window) → HasPointer place (window_at octets to end) on v → ⊥)
        → NoName (window_at octets place end)
    no_pointer some none =
        let room = passes.room in
        let is = octet_at octets to end (omega (arith, within, room)) in
        let first : 1 ≤ octet (window_at octets to end) = omega (arith, is, some) in
        let other = passes.other first in
        no_next (window_at octets place end) place (window_at octets to end) (to + 1 - place) 0 None before between
        passes.reading
        (none_pointed octets to end (get_or octets to 0) within room refl place (omega (arith, is, other)) none)

    module _ (on later : ℕ) (tock : later ≡ between + 1)
        (has : HasPointer place (window_at octets to end) on (window_at octets (to + 2) end))
      where
        led : LeadsTo place (window_at octets place end) on (window_at octets on end) passes.reading.labels 1
            (Some (window_at octets (to + 2) end))
        led = leads_past_pointer place (window_at octets place end) place (window_at octets to end)
            (window_at octets (to + 2) end) passes.reading.labels 0 on None passes.reading.read has

        -- the rest is where the pointer leads
        pub ends_pointed : (len new : ℕ) → Rests (window_at octets on end) (to - place + 1) len later new
            → NameEnds (window_at octets place end) (to + 2) len old new
        ends_pointed len new rests =
            let so_far = passes.reading in
            let ordered = passes.ordered in
            let is = so_far.size_is in
            let counted = so_far.counted in
            let both = wire_append so_far.labels rests.labels in
            let size = rests.size in
            let short = rests.short in
            let few = rests.few in
            let more = rests.counted in
            let room = has.room in
            let sum : len ≡ wire_length (so_far.labels ++ rests.labels) = omega (arith, is, both, size, ordered) in
            record {
              labels = so_far.labels ++ rests.labels;
              name = record {
                pointers = 1 + rests.pointers;
                has_labels = led.forward rests.labels rests.pointers rests.end rests.has_labels;
                short = omega (arith, sum, short);
                few = omega (arith, few);
              };
              within = omega (arith, room);
              size = sum;
              counted = omega (arith, length-append so_far.labels rests.labels, counted, more, tick, tock);
            }

        -- or there is no name
        pub no_end : NoRest (window_at octets on end) (to - place + 1) → NoName (window_at octets place end)
        no_end none labels end name =
            let so_far = passes.reading in
            let ordered = passes.ordered in
            let after = led.backward labels name.pointers end name.has_labels in
            let both = wire_append so_far.labels after.more in
            let all = ap wire_length after.labels_are in
            let is = so_far.size_is in
            let short = name.short in
            let few = name.few in
            let count = after.pointers_are in
            none after.more after.fewer after.u after.has_labels (omega (arith, both, all, is, short, ordered))
            (omega (arith, few, count))

-- a label that makes the rest too long
pub long_label : (octets : List ℕ) (on end start to before len pointers old between size : ℕ)
    → RestsTo octets on end start to before len pointers old between → before ≤ len → end ≤ length octets → to < end
    → get_or octets to 0 ≡ size → 1 ≤ size → size ≤ 63 → 255 < len + (1 + size)
    → NoRest (window_at octets on end) before
long_label octets on end start to before len pointers old between size so_far fewer within room is some short long =
    elim (cases_lt end (to + (1 + size))) [
      | inl cut ↦ cuts_rest octets on end start to before len pointers old between so_far fewer size within room is some
          short cut
      | inr whole ↦ long_rest octets on end start (to + (1 + size)) before (len + (1 + size)) pointers old (between + 1)
          (rests_label octets on end start to before len pointers old between so_far fewer size within room is
          (between + 1) some short refl whole) (omega (arith, fewer)) long
    ]

-- nothing is past the end
pub ended_rest : (octets : List ℕ) (on end start to before len pointers old between : ℕ) → before ≤ len → end ≤ to
    → (to ≤ end → RestsTo octets on end start to before len pointers old between)
    → (end < to → NoRest (window_at octets on end) before) → NoRest (window_at octets on end) before
ended_rest octets on end start to before len pointers old between fewer over inside outside =
    elim (cases_lt end to) [
      | inl past ↦ outside past
      | inr within ↦ no_rest octets on end start to before len pointers old between (inside within) fewer
          (none_at_end start (window_at octets to end) (omega (arith, over)))
    ]

-- ---- what a parser reads

-- a window on its octets, from its position to its end, is that window
pub own_window : (w : Window) (octets : List ℕ) (place end : ℕ) → octets ≡ w.octets → place ≡ w.position → end ≡ w.end
    → window_at octets place end ≡ w
own_window w octets place end same begins ends i = record { octets = same i; position = begins i; end = ends i }

-- a name has the same turns however it is read
pub ends_counted : (w : Window) (place len old new : ℕ) → NameEnds w place len old new → (labels : List (List ℕ))
    (end : Window) (name : IsName w labels end) → new ≡ old + name_turns name
ends_counted w place len old new ends labels end name =
    let same = one_has_labels w.position w (at place w) end ends.labels labels ends.name.pointers name.pointers
    ends.name.has_labels name.has_labels in
    let counted = ends.counted in
    omega (arith, ap length same.0, same.1, counted)
