-- What is made of an input of texts, step by step.
use Rattle.std.proofs.Common.{◌≡◌, ◌∙◌, ◌+◌, ◌≤◌, ◌∷◌, ◌++◌, ℕ, Bool, true, false, List, [], length, Option}
use Rattle.std.proofs.Common.{refl, sym, ap, subst, append_assoc, append-nil, arith}
use Rattle.std.proofs.Math.Bool.{and-true, and_assoc}
use Rattle.std.specs.Prelude.{◌&&◌}
use Rattle.octseq_cli.proofs.Steps.{Done, Follows, IsTaken, Makes, last_step}
use Rattle.octseq_cli.proofs.Taken.{IsOne, MakesPieces}
use Rattle.octseq_cli.specs.Frames.{HavePieces, ends_as}
use Rattle.octseq_cli.specs.Texts.{AreFeeds, AreTexts, EndsText, EndsWithLineFeed, IsNextText, IsLineText, IsTextsOut}
use Rattle.octseq_cli.specs.Texts.{NoneDouble, last_of}
use Rattle.octseq_cli.specs.declared.status.Status.{Status}

-- ---- octets that are appended to a text

pub none_double_more : (before : ℕ) (text : List ℕ) (octet : ℕ) → NoneDouble before text
    → (last_of before text ≡ 10 → ¬ (octet ≡ 10)) → NoneDouble before (text ++ octet ∷ [])
none_double_more before [] octet none next = (next, tt)
none_double_more before (first ∷ text) octet none next = (none.0, none_double_more first text octet none.1 next)

pub last_more : (before : ℕ) (text : List ℕ) (octet : ℕ) → last_of before (text ++ octet ∷ []) ≡ octet
last_more before [] octet = refl
last_more before (first ∷ text) octet = last_more first text octet

-- a text goes on with an octet
pub text_more : (text : List ℕ) (octet : ℕ) → IsLineText text → (EndsWithLineFeed text → ¬ (octet ≡ 10))
    → IsLineText (text ++ octet ∷ [])
text_more [] octet is next = absurd (omega (arith, is.0))
text_more (first ∷ text) octet is next = (omega arith, none_double_more 10 (first ∷ text) octet is.1 next)

-- a text begins with an octet
pub text_of_one : (octet : ℕ) → ¬ (octet ≡ 10) → IsLineText (octet ∷ []) × ¬ EndsWithLineFeed (octet ∷ [])
text_of_one octet other = ((omega arith, (λ _. other, tt)), other)

-- ---- empty lines

pub feeds_more : (feeds : List ℕ) (octet : ℕ) → AreFeeds feeds → octet ≡ 10 → AreFeeds (feeds ++ octet ∷ [])
feeds_more [] octet are is = (is, tt)
feeds_more (first ∷ feeds) octet are is = (are.0, feeds_more feeds octet are.1 is)

-- line feeds have no text among them
no_text : (feeds text rest : List ℕ) → IsLineText text → ¬ AreFeeds (feeds ++ (text ++ rest))
no_text [] [] rest is are = omega (arith, is.0)
no_text [] (octet ∷ text) rest is are = is.1.0 refl are.0
no_text (first ∷ feeds) text rest is are = no_text feeds text rest is are.1

-- ---- an input has one text at its front

-- what follows octets is nothing, or a line feed after another one
abbrev Ends : ℕ → List ℕ → List ℕ → Type 0
Ends before text rest = (octet : ℕ) (more : List ℕ) → rest ≡ octet ∷ more
    → (last_of before text ≡ 10) × (octet ≡ 10)

ends_so : (text rest : List ℕ) → EndsText text rest → Ends 10 text rest
ends_so text [] ends octet more e = absurd (cc)
ends_so text (first ∷ rest) ends octet more e = let same : first ≡ octet = cc in (ends.0, sym same ∙ ends.1)

same_text : (before : ℕ) (x y p q : List ℕ) → NoneDouble before x → NoneDouble before y → Ends before x p
    → Ends before y q → x ++ p ≡ y ++ q → (x ≡ y) × (p ≡ q)
same_text before [] [] p q n m f g e = (refl, e)
same_text before [] (u ∷ y) p q n m f g e = let end = f u (y ++ q) e in absurd (m.0 end.0 end.1)
same_text before (o ∷ x) [] p q n m f g e = let end = g o (x ++ p) (sym e) in absurd (n.0 end.0 end.1)
same_text before (o ∷ x) (u ∷ y) p q n m f g e =
    let head : o ≡ u = cc in
    let tail : x ++ p ≡ y ++ q = cc in
    let same = same_text o x y p q n.1 (subst (λ b. NoneDouble b y) (sym head) m.1) f
    (subst (λ b. Ends b y q) (sym head) g) tail in
    (cc (head, same.0), same.1)

-- a text doesn't begin with a line feed
no_feed : (text rest more : List ℕ) (octet : ℕ) → IsLineText text → octet ≡ 10 → text ++ rest ≡ octet ∷ more → ⊥
no_feed [] rest more octet is feed e = omega (arith, is.0)
no_feed (first ∷ text) rest more octet is feed e = let head : first ≡ octet = cc in is.1.0 refl (head ∙ feed)

same_feeds : (f g x y p q : List ℕ) → AreFeeds f → AreFeeds g → IsLineText x → IsLineText y
    → f ++ (x ++ p) ≡ g ++ (y ++ q)
    → (f ≡ g) × (x ++ p ≡ y ++ q)
same_feeds [] [] x y p q a b n m e = (refl, e)
same_feeds [] (u ∷ g) x y p q a b n m e = absurd (no_feed x p (g ++ (y ++ q)) u n b.0 e)
same_feeds (o ∷ f) [] x y p q a b n m e = absurd (no_feed y q (f ++ (x ++ p)) o m a.0 (sym e))
same_feeds (o ∷ f) (u ∷ g) x y p q a b n m e =
    let head : o ≡ u = cc in
    let tail : f ++ (x ++ p) ≡ g ++ (y ++ q) = cc in
    let same = same_feeds f g x y p q a.1 b.1 n m tail in
    (cc (head, same.0), same.1)

one_front : (f g x y p q : List ℕ) → AreFeeds f → AreFeeds g → IsLineText x → IsLineText y → EndsText x p → EndsText y q
    → f ++ (x ++ p) ≡ g ++ (y ++ q) → (f ≡ g) × (x ≡ y) × (p ≡ q)
one_front f g x y p q a b n m ends also e =
    let same = same_feeds f g x y p q a b n m e in
    let text = same_text 10 x y p q n.1 m.1 (ends_so x p ends) (ends_so y q also) same.1 in
    (same.0, text.0, text.1)

-- texts after an empty line
less_feed : (texts : List (List ℕ)) (more : List ℕ) → AreTexts texts (10 ∷ more) → AreTexts texts more
less_feed [] more are = are.1
less_feed (text ∷ texts) more ([], rest, feeds_are, is, ends, whole, others) =
    absurd (no_feed text rest more 10 is refl (sym whole))
less_feed (text ∷ texts) more ((feed ∷ feeds), rest, feeds_are, is, ends, whole, others) =
    (feeds, rest, feeds_are.1, is, ends, cc, others)

more_feed : (texts : List (List ℕ)) (more : List ℕ) → AreTexts texts more → AreTexts texts (10 ∷ more)
more_feed [] more are = (refl, are)
more_feed (text ∷ texts) more (feeds, rest, feeds_are, is, ends, whole, others) =
    (10 ∷ feeds, rest, (refl, feeds_are), is, ends, ap (λ l. 10 ∷ l) whole, others)

-- nothing has no texts
none_in_nothing : (text : List ℕ) (texts : List (List ℕ)) → ¬ AreTexts (text ∷ texts) []
none_in_nothing text texts (feeds, rest, feeds_are, is, ends, whole, others) =
    no_text feeds text rest is (subst AreFeeds whole tt)

-- ---- what is made of texts

-- an input has one list of texts
same_texts : (texts others : List (List ℕ)) (input : List ℕ) → AreTexts texts input → AreTexts others input
    → texts ≡ others
same_texts [] [] input p q = refl
same_texts [] (other ∷ others) input p (feeds, rest, are, is, ends, whole, more) =
    absurd (no_text feeds other rest is (subst AreFeeds whole p))
same_texts (text ∷ texts) [] input (feeds, rest, are, is, ends, whole, more) q =
    absurd (no_text feeds text rest is (subst AreFeeds whole q))
same_texts (text ∷ texts) (other ∷ others) input (feeds, rest, are, is, ends, whole, more)
    (fs, left, fs_are, it, stops, same, less) =
    let front = one_front feeds fs text other rest left are fs_are is it ends stops (sym whole ∙ same) in
    let tail = same_texts texts others rest more (rw (← front.2) at less) in
    cc (front.1, tail)

-- texts make one list of pieces
same_pieces : (IsPiece : MakesPieces) → IsOne IsPiece → (number : ℕ) (texts : List (List ℕ)) (x y e f : List ℕ)
    (a b : Bool) → HavePieces IsPiece number texts a x e → HavePieces IsPiece number texts b y f
    → (a ≡ b) × (x ≡ y) × (e ≡ f)
same_pieces IsPiece one number [] x y e f a b (p, q, r) (s, t, u) = (p ∙ sym s, q ∙ sym t, r ∙ sym u)
same_pieces IsPiece one number (text ∷ texts) x y e f a b (fine, w, l, all, ws, ls, is, has, p, q, r)
    (also, v, k, others, vs, ks, it, have, s, t, u) =
    let first = one number text w v l k fine also is it in
    let rest = same_pieces IsPiece one (number + 1) texts ws vs ls ks all others has have in
    (cc (p, s, first.0, rest.0), cc (q, t, first.1, rest.1), cc (r, u, first.2, rest.2))

-- What is made of an input of texts from this number on, after texts of which all are valid or not.
pub record IsTextsRest (IsPiece : MakesPieces) (number : ℕ) (before : Bool) (input output errors : List ℕ)
    (status : Status) : Type 0 where
  pub texts : List (List ℕ)
  pub are : AreTexts texts input
  pub all : Bool
  pub pieces : HavePieces IsPiece number texts all output errors
  pub status_is : status ≡ ends_as (before && all)

-- an input is a rest from its first text on
pub first_text : (IsPiece : MakesPieces) → Follows (IsTextsOut IsPiece) (IsTextsRest IsPiece 1 true) [] [] [] false
first_text IsPiece = record {
  due = λ more x e s nothing is. (
    x,
    e,
    record { texts = is.texts; are = is.are; all = is.all; pieces = is.pieces; status_is = is.status_is },
    refl,
    refl,
  );
  made = λ more x e s is.
      record { texts = is.texts; are = is.are; all = is.all; pieces = is.pieces; status_is = is.status_is };
}

module _ {IsPiece : MakesPieces} (one : IsOne IsPiece) (number : ℕ) (before : Bool) where
  -- an input that is over, and has no text left
  pub none_due : (feeds : List ℕ) → AreFeeds feeds → (texts : List (List ℕ)) → AreTexts texts feeds → (all : Bool)
      (x e : List ℕ) (s : Status) → HavePieces IsPiece number texts all x e → s ≡ ends_as (before && all)
      → (x ≡ []) × (e ≡ []) × (s ≡ ends_as before)
  none_due feeds are [] in_it all x e s (a, t, n) status_is = (t, n, rw (a, and-true) at status_is)
  none_due feeds are (text ∷ texts) (fs, rest, fs_are, is, ends, whole, others) all x e s pieces status_is =
      absurd (no_text fs text rest is (subst AreFeeds whole are))

  pub none_step : (feeds : List ℕ) → AreFeeds feeds
      → Follows (IsTextsRest IsPiece number before) (Done (ends_as before)) feeds [] [] true
  none_step feeds are =
      let is : IsTextsRest IsPiece number before feeds [] [] (ends_as before) = record {
        texts = [];
        are = are;
        all = true;
        pieces = (refl, refl, refl);
        status_is = ap ends_as (sym (and-true before));
      } in
      last_step is (λ x e s it. none_due feeds are it.texts it.are it.all x e s it.pieces it.status_is)

  module _ (is_fine : Bool) (feeds text written note : List ℕ) (are : AreFeeds feeds) (is : IsLineText text)
      (piece : IsPiece number text is_fine written note) where
    text_due : EndsWithLineFeed text → (more : List ℕ) (texts : List (List ℕ))
        → AreTexts texts (feeds ++ (text ++ 10 ∷ more))
        → (all : Bool) (x e : List ℕ) (s : Status) → HavePieces IsPiece number texts all x e
        → s ≡ ends_as (before && all)
        → (y : List ℕ) × (f : List ℕ) × IsTextsRest IsPiece (number + 1) (before && is_fine) more y f s
        × (x ≡ written ++ y) × (e ≡ note ++ f)
    text_due ended more [] in_it all x e s pieces status_is = absurd (no_text feeds text (10 ∷ more) is in_it)
    text_due ended more (other ∷ texts) (fs, rest, fs_are, it, ends, whole, others) all x e s
        (a, w, l, fine, y, f, also, has, p, q, r) status_is =
        let front = one_front feeds fs text other (10 ∷ more) rest are fs_are is it (ended, refl) ends whole in
        let same = one number text written w note l is_fine a piece (rw (← front.1) at also) in
        let all_are = rw (p, ← same.0, ← and_assoc before is_fine fine) at status_is in
        let left = less_feed texts more (rw (← front.2) at others) in (
          y,
          f,
          record { texts = texts; are = left; all = fine; pieces = has; status_is = all_are },
          cc (q, same.1),
          cc (r, same.2),
        )

    -- a text that an empty line ends
    pub text_step : EndsWithLineFeed text → Follows (IsTextsRest IsPiece number before)
        (IsTextsRest IsPiece (number + 1) (before && is_fine)) (feeds ++ (text ++ 10 ∷ [])) written note false
    text_step ended =
        let read : (more : List ℕ) → (feeds ++ (text ++ 10 ∷ [])) ++ more ≡ feeds ++ (text ++ 10 ∷ more) =
        λ more. append_assoc feeds (text ++ 10 ∷ []) more ∙ ap (λ l. feeds ++ l) (append_assoc text (10 ∷ []) more) in
        record {
          due = λ more x e s nothing it.
              text_due ended more it.texts (rw (read more) at it.are) it.all x e s it.pieces it.status_is;
          made = λ more y f s it. record {
            texts = text ∷ it.texts;
            are = (feeds, 10 ∷ more, are, is, (ended, refl), read more, more_feed it.texts more it.are);
            all = is_fine && it.all;
            pieces = (is_fine, written, note, it.all, y, f, piece, it.pieces, refl, refl, refl);
            status_is = rw (and_assoc before is_fine it.all) at it.status_is;
          };
        }

    last_due : (texts : List (List ℕ)) → AreTexts texts (feeds ++ (text ++ [])) → (all : Bool) (x e : List ℕ)
        (s : Status) → HavePieces IsPiece number texts all x e → s ≡ ends_as (before && all)
        → (x ≡ written) × (e ≡ note) × (s ≡ ends_as (before && is_fine))
    last_due [] in_it all x e s pieces status_is = absurd (no_text feeds text [] is in_it)
    last_due (other ∷ []) (fs, rest, fs_are, it, ends, whole, others) all x e s
        (a, w, l, fine, y, f, also, (all_fine, nothing, no_notes), p, q, r) status_is =
        let front = one_front feeds fs text other [] rest are fs_are is it tt ends whole in
        let same = one number text written w note l is_fine a piece (rw (← front.1) at also) in (
          q ∙ ap (λ l. w ++ l) nothing ∙ append-nil w ∙ sym same.1,
          r ∙ ap (λ k. l ++ k) no_notes ∙ append-nil l ∙ sym same.2,
          rw (p, all_fine, and-true, ← same.0) at status_is,
        )
    last_due (other ∷ (more ∷ texts)) (fs, rest, fs_are, it, ends, whole, others) all x e s pieces status_is =
        let front = one_front feeds fs text other [] rest are fs_are is it tt ends whole in
        absurd (none_in_nothing more texts (rw (← front.2) at others))

    -- a text that the input ends with
    pub last_text : Follows (IsTextsRest IsPiece number before) (Done (ends_as (before && is_fine))) (feeds ++ text)
        written note true
    last_text =
        let over : feeds ++ (text ++ []) ≡ feeds ++ text = ap (λ l. feeds ++ l) (append-nil text) in
        let it : IsTextsRest IsPiece number before (feeds ++ text) written note (ends_as (before && is_fine)) = record {
          texts = text ∷ [];
          are = (feeds, [], are, is, tt, sym over, tt);
          all = is_fine;
          pieces = (
            is_fine,
            written,
            note,
            true,
            [],
            [],
            piece,
            (refl, refl, refl),
            sym (and-true is_fine),
            sym (append-nil written),
            sym (append-nil note),
          );
          status_is = refl;
        } in
        last_step it (λ x e s o. last_due o.texts (rw (← over) at o.are) o.all x e s o.pieces o.status_is)

-- what is made of the rest of an input after a text, by whether the input is over
abbrev pub AfterText : MakesPieces → Bool → ℕ → Bool → Makes
AfterText IsPiece true number all = Done (ends_as all)
AfterText IsPiece false number all = IsTextsRest IsPiece number all

-- the next text
pub next_step : {IsPiece : MakesPieces} → IsOne IsPiece → (number : ℕ) (before is_fine is_over : Bool)
    (text read written note : List ℕ) → IsNextText is_over text read → 1 ≤ length text
    → IsPiece number text is_fine written note
    → Follows (IsTextsRest IsPiece number before) (AfterText IsPiece is_over (number + 1) (before && is_fine)) read
    written note is_over
next_step one number before is_fine true text read written note (feeds, are, lines, e) some piece =
    rw e (last_text one number before is_fine feeds text written note are (some, lines) piece)
next_step one number before is_fine false text read written note (feeds, are, is, ended, e) some piece =
    rw e (text_step one number before is_fine feeds text written note are is piece ended)

-- there is no further text
pub no_next : {IsPiece : MakesPieces} → IsOne IsPiece → (number : ℕ) (before is_over : Bool) (text read : List ℕ)
    → text ≡ [] → IsNextText is_over text read → (is_over ≡ true)
    × Follows (IsTextsRest IsPiece number before) (Done (ends_as before)) read [] [] true
no_next one number before true text read none (feeds, are, lines, e) =
    (refl, rw (e, none, append-nil) (none_step one number before feeds are))
no_next one number before false text read none (feeds, are, is, ended, e) =
    let some = is.0 in let same = ap length none in absurd (omega (arith, some, same))

-- Of what was read, this many texts were processed, of which all are valid or not.
pub record IsTexted (IsPiece : MakesPieces) (given left before now noted reported : Option (List ℕ)) (count : ℕ)
    (all is_noted : Bool) : Type 0 where
  pub one : IsOne IsPiece
  pub taken : IsTaken (IsTextsOut IsPiece) (IsTextsRest IsPiece (count + 1) all) given left before now noted reported
      true is_noted false

-- an input of texts makes one output
pub one_texts : (IsPiece : MakesPieces) → IsOne IsPiece → (input x y e f : List ℕ) (s t : Status)
    → IsTextsOut IsPiece input x e s → IsTextsOut IsPiece input y f t → (x ≡ y) × (e ≡ f) × (s ≡ t)
one_texts IsPiece one input x y e f s t p q =
    let same = same_texts p.texts q.texts input p.are q.are in
    let made = same_pieces IsPiece one 1 p.texts x y e f p.all q.all p.pieces (rw (← same) at q.pieces) in
    (made.1, made.2, p.status_is ∙ ap ends_as made.0 ∙ sym q.status_is)
